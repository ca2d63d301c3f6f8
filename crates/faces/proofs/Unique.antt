-- One result for each input of each public function: any two that its contract admits are equal, and of faces have equal views. The scope
-- and link digits of a closed face, and digits past the last face, are not fixed.
-- Assumes nothing.
use mathlib.Core.Path.{◌≡◌, refl, sym, ◌∙◌, ap}
use contract.Lifetimes.{Lfts}
use denote.Triple.Clauses.{AtExit}
use borrow.Fn.Kinds.{Dens, ended_of, res_t}
use Rattle.sizes.specs.Sizes.{most_faces}
use Rattle.faces.specs.Laws.Gives.{gives_one}
use Rattle.faces.specs.Places.View.{view}
use Rattle.faces.proofs.has.Kinds as has-kinds
use Rattle.faces.proofs.has.Reads as has-reads
use Rattle.faces.proofs.add.Kinds as add-kinds
use Rattle.faces.proofs.add.Reads as add_reads
use Rattle.faces.proofs.remove.Kinds as remove-kinds
use Rattle.faces.proofs.remove.Reads as remove-reads
use Rattle.faces.proofs.size.Kinds as size-kinds
use Rattle.faces.proofs.size.Reads as size-reads
use Rattle.faces.proofs.lowest.Kinds as lowest-kinds
use Rattle.faces.proofs.lowest.Reads as lowest-reads
use Rattle.faces.proofs.members.Kinds as members-kinds
use Rattle.faces.proofs.members.Reads as members-reads
use Rattle.faces.proofs.common.Kinds as common-kinds
use Rattle.faces.proofs.common.Reads as common-reads
use Rattle.faces.proofs.less.Kinds as less-kinds
use Rattle.faces.proofs.less.Reads as less-reads
use Rattle.faces.proofs.Faces.is_open.Kinds as is-open-kinds
use Rattle.faces.proofs.Faces.is_open.Reads as is-open-reads
use Rattle.faces.proofs.Faces.is_local.Kinds as is-local-kinds
use Rattle.faces.proofs.Faces.is_local.Reads as is-local-reads
use Rattle.faces.proofs.Faces.is_peer.Kinds as is-peer-kinds
use Rattle.faces.proofs.Faces.is_peer.Reads as is-peer-reads
use Rattle.faces.proofs.Faces.is_ad_hoc.Kinds as is-ad-hoc-kinds
use Rattle.faces.proofs.Faces.is_ad_hoc.Reads as is-ad-hoc-reads
use Rattle.faces.proofs.Faces.all_open.Kinds as all-open-kinds
use Rattle.faces.proofs.Faces.all_open.Reads as all-open-reads
use Rattle.faces.proofs.Faces.all_local.Kinds as all-local-kinds
use Rattle.faces.proofs.Faces.all_local.Reads as all-local-reads
use Rattle.faces.proofs.Faces.all_peer.Kinds as all-peer-kinds
use Rattle.faces.proofs.Faces.all_peer.Reads as all-peer-reads
use Rattle.faces.proofs.Faces.all_ad_hoc.Kinds as all-ad-hoc-kinds
use Rattle.faces.proofs.Faces.all_ad_hoc.Reads as all-ad-hoc-reads
use Rattle.faces.proofs.Faces.none.Kinds as none-kinds
use Rattle.faces.proofs.Faces.none.Reads as none_reads
use Rattle.faces.proofs.Faces.with_open.Kinds as with-open-kinds
use Rattle.faces.proofs.Faces.with_open.Reads as with-open-reads
use Rattle.faces.proofs.Faces.with_closed.Kinds as with-closed-kinds
use Rattle.faces.proofs.Faces.with_closed.Reads as with-closed-reads
use Rattle.faces.proofs.Walk.of.Kinds as of-kinds
use Rattle.faces.proofs.Walk.of.Reads as of-reads
use Rattle.faces.proofs.WalkIterator.next.Kinds as next-kinds
use Rattle.faces.proofs.WalkIterator.next.Reads as next-reads
use Rattle.faces.proofs.Same as same

-- whether a set has a face
pub has_one : (κs : Lfts 0) (a : Dens κs has-kinds.ps) (x y : (res_t has-kinds.r κs).Denot)
    (s t : AtExit (ended_of 0 has-kinds.ps has-kinds.r) κs)
    → has-reads.Post κs a x s → has-reads.Post κs a y t → x ≡ y
has_one κs a x y s t p q = p ∙ sym q

-- the set with a face more
pub add_one : (κs : Lfts 0) (a : Dens κs add-kinds.ps) (x y : (res_t add-kinds.r κs).Denot)
    (s t : AtExit (ended_of 0 add-kinds.ps add-kinds.r) κs)
    → add_reads.Post κs a x s → add_reads.Post κs a y t → x ≡ y
add_one κs a x y s t p q = p ∙ sym q

-- the set without a face
pub remove_one : (κs : Lfts 0) (a : Dens κs remove-kinds.ps) (x y : (res_t remove-kinds.r κs).Denot)
    (s t : AtExit (ended_of 0 remove-kinds.ps remove-kinds.r) κs)
    → remove-reads.Post κs a x s → remove-reads.Post κs a y t → x ≡ y
remove_one κs a x y s t p q = p ∙ sym q

-- how many faces a set has
pub size_one : (κs : Lfts 0) (a : Dens κs size-kinds.ps) (x y : (res_t size-kinds.r κs).Denot)
    (s t : AtExit (ended_of 0 size-kinds.ps size-kinds.r) κs)
    → size-reads.Post κs a x s → size-reads.Post κs a y t → x ≡ y
size_one κs a x y s t p q = p ∙ sym q

-- the lowest face of a set
pub lowest_one : (κs : Lfts 0) (a : Dens κs lowest-kinds.ps) (x y : (res_t lowest-kinds.r κs).Denot)
    (s t : AtExit (ended_of 0 lowest-kinds.ps lowest-kinds.r) κs)
    → lowest-reads.Post κs a x s → lowest-reads.Post κs a y t → x ≡ y
lowest_one κs a x y s t p q = p ∙ sym q

-- the faces of a set
pub members_one : (κs : Lfts 0) (a : Dens κs members-kinds.ps) (x y : (res_t members-kinds.r κs).Denot)
    (s t : AtExit (ended_of 0 members-kinds.ps members-kinds.r) κs)
    → members-reads.Post κs a x s → members-reads.Post κs a y t → x ≡ y
members_one κs a x y s t p q = p ∙ sym q

-- the faces that are in both sets
pub common_one : (κs : Lfts 0) (a : Dens κs common-kinds.ps) (x y : (res_t common-kinds.r κs).Denot)
    (s t : AtExit (ended_of 0 common-kinds.ps common-kinds.r) κs)
    → common-reads.Post κs a x s → common-reads.Post κs a y t → x ≡ y
common_one κs a x y s t p q = p ∙ sym q

-- the faces of the first set that are not in the second
pub less_one : (κs : Lfts 0) (a : Dens κs less-kinds.ps) (x y : (res_t less-kinds.r κs).Denot)
    (s t : AtExit (ended_of 0 less-kinds.ps less-kinds.r) κs)
    → less-reads.Post κs a x s → less-reads.Post κs a y t → x ≡ y
less_one κs a x y s t p q = p ∙ sym q

-- whether a face is open
pub is_open_one : (κs : Lfts 0) (a : Dens κs is-open-kinds.ps) (x y : (res_t is-open-kinds.r κs).Denot)
    (s t : AtExit (ended_of 0 is-open-kinds.ps is-open-kinds.r) κs)
    → is-open-reads.Post κs a x s → is-open-reads.Post κs a y t → x ≡ y
is_open_one κs a x y s t p q = same.is_open_same κs a a x y s t refl refl p q

-- whether a face is open and local
pub is_local_one : (κs : Lfts 0) (a : Dens κs is-local-kinds.ps) (x y : (res_t is-local-kinds.r κs).Denot)
    (s t : AtExit (ended_of 0 is-local-kinds.ps is-local-kinds.r) κs)
    → is-local-reads.Post κs a x s → is-local-reads.Post κs a y t → x ≡ y
is_local_one κs a x y s t p q = same.is_local_same κs a a x y s t refl refl p q

-- whether a face is open and point-to-point
pub is_peer_one : (κs : Lfts 0) (a : Dens κs is-peer-kinds.ps) (x y : (res_t is-peer-kinds.r κs).Denot)
    (s t : AtExit (ended_of 0 is-peer-kinds.ps is-peer-kinds.r) κs)
    → is-peer-reads.Post κs a x s → is-peer-reads.Post κs a y t → x ≡ y
is_peer_one κs a x y s t p q = same.is_peer_same κs a a x y s t refl refl p q

-- whether a face is open and ad hoc
pub is_ad_hoc_one : (κs : Lfts 0) (a : Dens κs is-ad-hoc-kinds.ps) (x y : (res_t is-ad-hoc-kinds.r κs).Denot)
    (s t : AtExit (ended_of 0 is-ad-hoc-kinds.ps is-ad-hoc-kinds.r) κs)
    → is-ad-hoc-reads.Post κs a x s → is-ad-hoc-reads.Post κs a y t → x ≡ y
is_ad_hoc_one κs a x y s t p q = same.is_ad_hoc_same κs a a x y s t refl refl p q

-- the set of the open faces
pub all_open_one : (κs : Lfts 0) (a : Dens κs all-open-kinds.ps) (x y : (res_t all-open-kinds.r κs).Denot)
    (s t : AtExit (ended_of 0 all-open-kinds.ps all-open-kinds.r) κs)
    → all-open-reads.Post κs a x s → all-open-reads.Post κs a y t → x ≡ y
all_open_one κs a x y s t p q = same.all_open_same κs a a x y s t refl p q

-- the set of the local faces
pub all_local_one : (κs : Lfts 0) (a : Dens κs all-local-kinds.ps) (x y : (res_t all-local-kinds.r κs).Denot)
    (s t : AtExit (ended_of 0 all-local-kinds.ps all-local-kinds.r) κs)
    → all-local-reads.Post κs a x s → all-local-reads.Post κs a y t → x ≡ y
all_local_one κs a x y s t p q = same.all_local_same κs a a x y s t refl p q

-- the set of the point-to-point faces
pub all_peer_one : (κs : Lfts 0) (a : Dens κs all-peer-kinds.ps) (x y : (res_t all-peer-kinds.r κs).Denot)
    (s t : AtExit (ended_of 0 all-peer-kinds.ps all-peer-kinds.r) κs)
    → all-peer-reads.Post κs a x s → all-peer-reads.Post κs a y t → x ≡ y
all_peer_one κs a x y s t p q = same.all_peer_same κs a a x y s t refl p q

-- the set of the ad hoc faces
pub all_ad_hoc_one : (κs : Lfts 0) (a : Dens κs all-ad-hoc-kinds.ps) (x y : (res_t all-ad-hoc-kinds.r κs).Denot)
    (s t : AtExit (ended_of 0 all-ad-hoc-kinds.ps all-ad-hoc-kinds.r) κs)
    → all-ad-hoc-reads.Post κs a x s → all-ad-hoc-reads.Post κs a y t → x ≡ y
all_ad_hoc_one κs a x y s t p q = same.all_ad_hoc_same κs a a x y s t refl p q

-- no face open
pub none_one : (κs : Lfts 0) (a : Dens κs none-kinds.ps) (x y : (res_t none-kinds.r κs).Denot)
    (s t : AtExit (ended_of 0 none-kinds.ps none-kinds.r) κs)
    → none_reads.Post κs a x s → none_reads.Post κs a y t → view x ≡ view y
none_one κs a x y s t p q = p ∙ sym q

-- the faces with one opened
pub with_open_one : (κs : Lfts 0) (a : Dens κs with-open-kinds.ps) (x y : (res_t with-open-kinds.r κs).Denot)
    (s t : AtExit (ended_of 0 with-open-kinds.ps with-open-kinds.r) κs)
    → with-open-reads.Post κs a x s → with-open-reads.Post κs a y t → view x ≡ view y
with_open_one κs a x y s t p q = same.with_open_same κs a a x y s t refl refl refl refl p q

-- the faces with one closed
pub with_closed_one : (κs : Lfts 0) (a : Dens κs with-closed-kinds.ps) (x y : (res_t with-closed-kinds.r κs).Denot)
    (s t : AtExit (ended_of 0 with-closed-kinds.ps with-closed-kinds.r) κs)
    → with-closed-reads.Post κs a x s → with-closed-reads.Post κs a y t → view x ≡ view y
with_closed_one κs a x y s t p q = same.with_closed_same κs a a x y s t refl refl p q

-- a walk over the faces of a set
pub of_one : (κs : Lfts 0) (a : Dens κs of-kinds.ps) (x y : (res_t of-kinds.r κs).Denot)
    (s t : AtExit (ended_of 0 of-kinds.ps of-kinds.r) κs)
    → of-reads.Post κs a x s → of-reads.Post κs a y t → x ≡ y
of_one κs a x y s t p q = ap (λ l. record { left = l }) (p ∙ sym q)

-- the next face of a walk, and what is left of it
pub next_one : (κs : Lfts 1) (a : Dens κs next-kinds.ps) (x y : (res_t next-kinds.r κs).Denot)
    (s t : AtExit (ended_of 1 next-kinds.ps next-kinds.r) κs)
    → next-reads.Post κs a x s → next-reads.Post κs a y t → (x ≡ y) × (s.0.now.left ≡ t.0.now.left)
next_one κs a x y s t p q = gives_one most_faces a.0.now x y p.0 q.0
