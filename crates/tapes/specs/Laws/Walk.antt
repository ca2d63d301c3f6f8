-- A walk over a tape's events by their places: one law for a turn and for each way to end, and where an event lies.
-- Assumes nothing.
use Prim.Native.Nat.{ℕ, zero, suc, ◌-◌, ◌≤◌, ◌<◌}
use Rattle.std.specs.Prelude.{◌≡◌, refl, List, drop, None, Some}
use Rattle.std.proofs.Math.Path.{sym, ap}
use Rattle.std.proofs.Common.{◌∙◌}
use Rattle.std.proofs.Math.Bool.{false}
use Rattle.std.proofs.Math.ListN.{length, length-drop}
use Rattle.std.proofs.Math.Dec.{eqb}
use borrow.Author.Tests.{eq-eqb, ne_eqb}
use native.Mathlib.Omega.{arith}
use Rattle.laws.specs.Pick.{pick}
use Rattle.laws.specs.Laws.Pick.{pick_eq}
use Rattle.tapes.specs.declared.Taken.{Taken}
use Rattle.tapes.specs.Tape.{Reading, unreadable, event, event_at, Tape, ends, stops, more, next, at_most, tape_of}
use Rattle.tapes.specs.Seen.{seen}
use Rattle.tapes.specs.Places.Event.{taken_at}
use Rattle.tapes.specs.Places.Walk.{rest_at, given_of}
use Rattle.tapes.specs.Laws.Seen.{event_seen}
use Rattle.tapes.specs.Laws.Length.{event_long}

-- nothing is left
none_left : (k n : ℕ) (l : List ℕ) → length l ≡ 0 → at_most k n l ≡ ends
unfolding at_most pick
none_left zero n l h = refl
none_left (suc k) n l h = rw (eq-eqb (length l) 0 h)

-- a turn is the same if the turns after it are
turn_same : (k j n : ℕ) (l : List ℕ) → ((r : List ℕ) → length r ≤ k → length r ≤ j → at_most k n r ≡ at_most j n r)
    → length l ≤ suc k → length l ≤ suc j → at_most (suc k) n l ≡ at_most (suc j) n l
unfolding at_most next
turn_same k j n l ih h i = pick_eq (eqb (length l) 0) _ _ _ _ (λ _. refl) (λ _. at_front (event_at l) refl)
  where
    at_front : (x : Reading) → event_at l ≡ x → next (n - length l) x (λ r. at_most k n r) ≡ next (n - length l) x (λ r. at_most j n r)
    at_front unreadable q = refl
    at_front (event t w r) q =
        let m = event_long l r t w q in
        ap (λ (u : Tape). more (record { time = t; what = w }) u) (ih r (omega (arith, m)) (omega (arith, m)))

-- more turns than bytes make no difference
enough : (k j n : ℕ) (l : List ℕ) → length l ≤ k → length l ≤ j → at_most k n l ≡ at_most j n l
enough zero j n l h i = none_left zero n l (omega arith) ∙ sym (none_left j n l (omega arith))
enough (suc k) zero n l h i = none_left (suc k) n l (omega arith) ∙ sym (none_left zero n l (omega arith))
enough (suc k) (suc j) n l h i = turn_same k j n l (λ r a b. enough k j n r a b) h i

-- at the start it is the whole tape
pub rest_start : (s : List ℕ) → rest_at s 0 ≡ tape_of s
unfolding rest_at tape_of
rest_start s = let e : length s - 0 ≡ length s = omega arith in rw e

-- past the last byte nothing is left
pub rest_end : (s : List ℕ) (at : ℕ) → length s ≤ at → rest_at s at ≡ ends
unfolding rest_at
rest_end s at h = none_left _ _ _ (rw (length-drop at s) (omega arith))

module _ (s : List ℕ) (at : ℕ) (h : at < length s) where
  -- a turn, by what the reader finds
  turned : rest_at s at ≡ next at (seen s (taken_at s at)) (λ r. at_most (length s - suc at) (length s) r)
  unfolding rest_at at_most pick
  turned =
      let k : length s - at ≡ suc (length s - suc at) = omega arith in
      let d : length s - (length s - at) ≡ at = omega arith in
      let z : eqb (length s - at) 0 ≡ false = ne_eqb (length s - at) 0 (λ e. omega arith) in
      rw (event_seen s at, k, length-drop at s, z, d)

  -- an unreadable event
  pub rest_bad : taken_at s at ≡ None → rest_at s at ≡ stops at
  unfolding seen next
  rest_bad e = turned ∙ rw e

  -- an event, and the tape goes on past it
  pub rest_more : (e : Taken) → taken_at s at ≡ Some e → rest_at s at ≡ more (given_of s e) (rest_at s e.next)
  unfolding seen next rest_at
  rest_more e q =
      let b : event_at (drop at s) ≡ seen s (Some e) = sym (event_seen s at) ∙ ap (seen s) q in
      let m = event_long _ _ _ _ b in
      let x = length-drop at s in
      let y = length-drop e.next s in
      turned
      ∙ rw q
      (ap (λ (u : Tape). more (given_of s e) u) (enough _ _ (length s) (drop e.next s) (omega (arith, m, x, y)) (omega (arith, y))))
