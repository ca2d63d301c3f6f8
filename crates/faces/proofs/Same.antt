-- Faces with equal views give equal answers, and faces with equal views: each public function, from its contract.
-- Assumes nothing.
use mathlib.Core.Path.{◌≡◌, sym, ◌∙◌}
use contract.Lifetimes.{Lfts}
use denote.Triple.Clauses.{AtExit}
use borrow.Fn.Kinds.{Dens, ended_of, res_t}
use Rattle.faces.specs.Places.View.{view}
use Rattle.faces.proofs.Faces.is_open.Kinds as is-open-kinds
use Rattle.faces.proofs.Faces.is_open.Reads as is-open-reads
use Rattle.faces.proofs.Faces.is_local.Kinds as is-local-kinds
use Rattle.faces.proofs.Faces.is_local.Reads as is-local-reads
use Rattle.faces.proofs.Faces.is_peer.Kinds as is-peer-kinds
use Rattle.faces.proofs.Faces.is_peer.Reads as is-peer-reads
use Rattle.faces.proofs.Faces.is_ad_hoc.Kinds as is-ad-hoc-kinds
use Rattle.faces.proofs.Faces.is_ad_hoc.Reads as is-ad-hoc-reads
use Rattle.faces.proofs.Faces.all_open.Kinds as all-open-kinds
use Rattle.faces.proofs.Faces.all_open.Reads as all-open-reads
use Rattle.faces.proofs.Faces.all_local.Kinds as all-local-kinds
use Rattle.faces.proofs.Faces.all_local.Reads as all-local-reads
use Rattle.faces.proofs.Faces.all_peer.Kinds as all-peer-kinds
use Rattle.faces.proofs.Faces.all_peer.Reads as all-peer-reads
use Rattle.faces.proofs.Faces.all_ad_hoc.Kinds as all-ad-hoc-kinds
use Rattle.faces.proofs.Faces.all_ad_hoc.Reads as all-ad-hoc-reads
use Rattle.faces.proofs.Faces.with_open.Kinds as with-open-kinds
use Rattle.faces.proofs.Faces.with_open.Reads as with-open-reads
use Rattle.faces.proofs.Faces.with_closed.Kinds as with-closed-kinds
use Rattle.faces.proofs.Faces.with_closed.Reads as with-closed-reads

-- whether a face is open
pub is_open_same : (κs : Lfts 0) (a b : Dens κs is-open-kinds.ps) (x y : (res_t is-open-kinds.r κs).Denot)
    (s t : AtExit (ended_of 0 is-open-kinds.ps is-open-kinds.r) κs)
    → view a.0 ≡ view b.0 → a.1.0 ≡ b.1.0
    → is-open-reads.Post κs a x s → is-open-reads.Post κs b y t → x ≡ y
is_open_same κs a b x y s t v e p q = rw (v, e) at p ∙ sym q

-- whether a face is open and local
pub is_local_same : (κs : Lfts 0) (a b : Dens κs is-local-kinds.ps) (x y : (res_t is-local-kinds.r κs).Denot)
    (s t : AtExit (ended_of 0 is-local-kinds.ps is-local-kinds.r) κs)
    → view a.0 ≡ view b.0 → a.1.0 ≡ b.1.0
    → is-local-reads.Post κs a x s → is-local-reads.Post κs b y t → x ≡ y
is_local_same κs a b x y s t v e p q = rw (v, e) at p ∙ sym q

-- whether a face is open and point-to-point
pub is_peer_same : (κs : Lfts 0) (a b : Dens κs is-peer-kinds.ps) (x y : (res_t is-peer-kinds.r κs).Denot)
    (s t : AtExit (ended_of 0 is-peer-kinds.ps is-peer-kinds.r) κs)
    → view a.0 ≡ view b.0 → a.1.0 ≡ b.1.0
    → is-peer-reads.Post κs a x s → is-peer-reads.Post κs b y t → x ≡ y
is_peer_same κs a b x y s t v e p q = rw (v, e) at p ∙ sym q

-- whether a face is open and ad hoc
pub is_ad_hoc_same : (κs : Lfts 0) (a b : Dens κs is-ad-hoc-kinds.ps) (x y : (res_t is-ad-hoc-kinds.r κs).Denot)
    (s t : AtExit (ended_of 0 is-ad-hoc-kinds.ps is-ad-hoc-kinds.r) κs)
    → view a.0 ≡ view b.0 → a.1.0 ≡ b.1.0
    → is-ad-hoc-reads.Post κs a x s → is-ad-hoc-reads.Post κs b y t → x ≡ y
is_ad_hoc_same κs a b x y s t v e p q = rw (v, e) at p ∙ sym q

-- the set of the open faces
pub all_open_same : (κs : Lfts 0) (a b : Dens κs all-open-kinds.ps) (x y : (res_t all-open-kinds.r κs).Denot)
    (s t : AtExit (ended_of 0 all-open-kinds.ps all-open-kinds.r) κs)
    → view a.0 ≡ view b.0 → all-open-reads.Post κs a x s → all-open-reads.Post κs b y t → x ≡ y
all_open_same κs a b x y s t v p q = rw v at p ∙ sym q

-- the set of the local faces
pub all_local_same : (κs : Lfts 0) (a b : Dens κs all-local-kinds.ps) (x y : (res_t all-local-kinds.r κs).Denot)
    (s t : AtExit (ended_of 0 all-local-kinds.ps all-local-kinds.r) κs)
    → view a.0 ≡ view b.0 → all-local-reads.Post κs a x s → all-local-reads.Post κs b y t → x ≡ y
all_local_same κs a b x y s t v p q = rw v at p ∙ sym q

-- the set of the point-to-point faces
pub all_peer_same : (κs : Lfts 0) (a b : Dens κs all-peer-kinds.ps) (x y : (res_t all-peer-kinds.r κs).Denot)
    (s t : AtExit (ended_of 0 all-peer-kinds.ps all-peer-kinds.r) κs)
    → view a.0 ≡ view b.0 → all-peer-reads.Post κs a x s → all-peer-reads.Post κs b y t → x ≡ y
all_peer_same κs a b x y s t v p q = rw v at p ∙ sym q

-- the set of the ad hoc faces
pub all_ad_hoc_same : (κs : Lfts 0) (a b : Dens κs all-ad-hoc-kinds.ps) (x y : (res_t all-ad-hoc-kinds.r κs).Denot)
    (s t : AtExit (ended_of 0 all-ad-hoc-kinds.ps all-ad-hoc-kinds.r) κs)
    → view a.0 ≡ view b.0 → all-ad-hoc-reads.Post κs a x s → all-ad-hoc-reads.Post κs b y t → x ≡ y
all_ad_hoc_same κs a b x y s t v p q = rw v at p ∙ sym q

-- the faces with one opened
pub with_open_same : (κs : Lfts 0) (a b : Dens κs with-open-kinds.ps) (x y : (res_t with-open-kinds.r κs).Denot)
    (s t : AtExit (ended_of 0 with-open-kinds.ps with-open-kinds.r) κs)
    → view a.0 ≡ view b.0 → a.1.0 ≡ b.1.0 → a.1.1.0 ≡ b.1.1.0 → a.1.1.1.0 ≡ b.1.1.1.0
    → with-open-reads.Post κs a x s → with-open-reads.Post κs b y t → view x ≡ view y
with_open_same κs a b x y s t v e f g p q = rw (v, e, f, g) at p ∙ sym q

-- the faces with one closed
pub with_closed_same : (κs : Lfts 0) (a b : Dens κs with-closed-kinds.ps) (x y : (res_t with-closed-kinds.r κs).Denot)
    (s t : AtExit (ended_of 0 with-closed-kinds.ps with-closed-kinds.r) κs)
    → view a.0 ≡ view b.0 → a.1.0 ≡ b.1.0
    → with-closed-reads.Post κs a x s → with-closed-reads.Post κs b y t → view x ≡ view y
with_closed_same κs a b x y s t v e p q = rw (v, e) at p ∙ sym q
