-- One result for each input of the reader of an event, and of a kind: any two that its contract admits are equal.
-- Assumes nothing.
use Prim.Native.Nat.{ℕ}
use mathlib.Core.Path.{◌≡◌, sym, ap, ◌∙◌}
use mathlib.Core.List.{List}
use contract.Lifetimes.{Lfts}
use denote.Triple.Clauses.{AtExit}
use borrow.Fn.Kinds.{Dens, ended_of, res_t}
use Rattle.tapes.specs.Places.Event.{taken_at}
use Rattle.tapes.proofs.KindTryFromU64.try_from.Kinds as kind-kinds
use Rattle.tapes.proofs.KindTryFromU64.try_from.Reads as kind-reads
use Rattle.tapes.proofs.event_at.Kinds as kinds
use Rattle.tapes.proofs.event_at.Reads as reads

-- the event at the same place of tapes of the same bytes
pub event_at_same : (κs : Lfts 1) (a b : Dens κs kinds.ps) (x y : (res_t kinds.r κs).Denot) (s t : AtExit (ended_of 1 kinds.ps kinds.r) κs)
    → a.0.now ≡ b.0.now → a.1.0 ≡ b.1.0 → reads.Post κs a x s → reads.Post κs b y t → x ≡ y
event_at_same κs a b x y s t e f p q = p ∙ ap (λ (l : List ℕ). taken_at l a.1.0) e ∙ ap (taken_at b.0.now) f ∙ sym q

-- the event at a place of a tape
pub event_at_one : (κs : Lfts 1) (a : Dens κs kinds.ps) (x y : (res_t kinds.r κs).Denot) (s t : AtExit (ended_of 1 kinds.ps kinds.r) κs)
    → reads.Post κs a x s → reads.Post κs a y t → x ≡ y
event_at_one κs a x y s t p q = p ∙ sym q

-- the kind that has a number
pub try_from_one : (κs : Lfts 0) (a : Dens κs kind-kinds.ps) (x y : (res_t kind-kinds.r κs).Denot)
    (s t : AtExit (ended_of 0 kind-kinds.ps kind-kinds.r) κs)
    → kind-reads.Post κs a x s → kind-reads.Post κs a y t → x ≡ y
try_from_one κs a x y s t p q = p ∙ sym q
