-- Memories with equal Data give equal answers and equal Data: each public function, from its contract. Handles are alike where they
-- stand for equal places.
-- Assumes nothing.
use mathlib.Core.Path.{◌≡◌, sym, ap, ◌∙◌}
use lib.ListN.{length}
use contract.Lifetimes.{Lfts}
use denote.Triple.Clauses.{AtExit}
use borrow.Fn.Kinds.{Dens, ended_of, res_t}
use Rattle.std.specs.Option.{option_map}
use Rattle.store.specs.Places.Parts.{table}
use Rattle.store.specs.Places.View.{view, count_of, place}
use Rattle.store.specs.Laws.Hits.{looks_same}
use Rattle.store.proofs.Store.is_there.Kinds as is-there-kinds
use Rattle.store.proofs.Store.is_there.Reads as is-there-reads
use Rattle.store.proofs.bytes_of.Kinds as bytes-of-kinds
use Rattle.store.proofs.bytes_of.Reads as bytes-of-reads
use Rattle.store.proofs.Store.put.Kinds as put-kinds
use Rattle.store.proofs.Store.put.Reads as put_reads
use Rattle.store.proofs.Store.look.Kinds as look-kinds
use Rattle.store.proofs.Store.look.Reads as look-reads
use Rattle.store.proofs.Store.touch.Kinds as touch-kinds
use Rattle.store.proofs.Store.touch.Reads as Touch-reads

-- whether a handle stands for a Data
pub is_there_same : (κs : Lfts 1) (a b : Dens κs is-there-kinds.ps) (x y : (res_t is-there-kinds.r κs).Denot)
    (s t : AtExit (ended_of 1 is-there-kinds.ps is-there-kinds.r) κs)
    → view a.0.now ≡ view b.0.now → place a.0.now a.1.0 ≡ place b.0.now b.1.0
    → is-there-reads.Post κs a x s → is-there-reads.Post κs b y t → x ≡ y
is_there_same κs a b x y s t v h p q = rw (v, h) at p ∙ sym q

-- the bytes of a Data
pub bytes_of_same : (κs : Lfts 2) (a b : Dens κs bytes-of-kinds.ps) (x y : (res_t bytes-of-kinds.r κs).Denot)
    (s t : AtExit (ended_of 2 bytes-of-kinds.ps bytes-of-kinds.r) κs)
    → view (table a.0.now a.1.0.now a.1.1.0) ≡ view (table b.0.now b.1.0.now b.1.1.0)
    → place (table a.0.now a.1.0.now a.1.1.0) a.1.1.1.0 ≡ place (table b.0.now b.1.0.now b.1.1.0) b.1.1.1.0
    → bytes-of-reads.Post κs a x s → bytes-of-reads.Post κs b y t → x.now ≡ y.now
bytes_of_same κs a b x y s t v h p q = rw (v, h) at p.0 ∙ sym q.0

-- a Data that is stored
pub put_same : (κs : Lfts 2) (a b : Dens κs put-kinds.ps) (x y : (res_t put-kinds.r κs).Denot)
    (s t : AtExit (ended_of 2 put-kinds.ps put-kinds.r) κs)
    → view a.0.now ≡ view b.0.now → a.1.0.now ≡ b.1.0.now → a.1.1.0 ≡ b.1.1.0 → a.1.1.1.0 ≡ b.1.1.1.0
    → put_reads.Post κs a x s → put_reads.Post κs b y t
    → (x ≡ y) × (view s.0.now ≡ view t.0.now) × (count_of s.0.now ≡ count_of t.0.now)
put_same κs a b x y s t v e f g p q =
    let said = rw (e, f, g) at p.0.said ∙ sym q.0.said in
    let left = rw (v, e, f, g) at p.0.left ∙ sym q.0.left in
    (said, left, p.1 ∙ ap length left ∙ sym q.1)

-- the Data that a lookup takes: both take none, or the Data at one place
pub look_same : (κs : Lfts 2) (a b : Dens κs look-kinds.ps) (x y : (res_t look-kinds.r κs).Denot)
    (s t : AtExit (ended_of 2 look-kinds.ps look-kinds.r) κs)
    → view a.0.now ≡ view b.0.now → a.1.0.now ≡ b.1.0.now → a.1.1.0 ≡ b.1.1.0 → a.1.1.1.0 ≡ b.1.1.1.0 → a.1.1.1.1.0 ≡ b.1.1.1.1.0
    → look-reads.Post κs a x s → look-reads.Post κs b y t
    → option_map (place a.0.now) x ≡ option_map (place b.0.now) y
look_same κs a b x y s t v e f g h p q = looks_same _ _ (place a.0.now) (place b.0.now) x y (rw (v, e, f, g, h) at p) q

-- a hit that becomes the most recent
pub touch_same : (κs : Lfts 1) (a b : Dens κs touch-kinds.ps) (x y : (res_t touch-kinds.r κs).Denot)
    (s t : AtExit (ended_of 1 touch-kinds.ps touch-kinds.r) κs)
    → view a.0.now ≡ view b.0.now → place a.0.now a.1.0 ≡ place b.0.now b.1.0
    → Touch-reads.Post κs a x s → Touch-reads.Post κs b y t
    → (view s.0.now ≡ view t.0.now) × (count_of s.0.now ≡ count_of t.0.now)
touch_same κs a b x y s t v h p q =
    let left = rw (v, h) at p.0 ∙ sym q.0 in
    (left, p.1 ∙ ap length left ∙ sym q.1)
