-- What `map`, `each` and `only` make of two lists, one after the other, and how many elements `only` and the slots give.
-- Assumes nothing.
use Prim.Native.Nat.{ℕ, suc, ◌≤◌}
use Rattle.std.specs.Prelude.{◌≡◌, refl, Bool}
use mathlib.Core.List.{List, [], ◌∷◌, ◌++◌, map}
use Rattle.std.proofs.Math.Option.{Option, none, some}
use native.Mathlib.Omega.{arith}
use Rattle.std.proofs.Math.ListN.{length}
use Rattle.laws.specs.Laws.Pick.{pick_ind}
use Rattle.records.specs.Slots.{held_from, only}

module _ {A B : Type 0} where
  -- what f makes of two lists, one after the other
  pub map_append : (f : A → B) (l m : List A) → map f (l ++ m) ≡ map f l ++ map f m
  map_append f [] m = refl
  map_append f (a ∷ l) m = rw (map_append f l m)

module _ {A : Type 0} (p : A → Bool) where
  -- p holds of no more elements than there are
  pub only_length : (l : List A) → length (only p l) ≤ length l
  unfolding only
  only_length [] = omega arith
  only_length (a ∷ l) =
      pick_ind (λ (x : List A). length x ≤ suc (length l)) (p a) _ _ (λ _. omega (arith, only_length l)) (λ _. omega (arith, only_length l))

-- no more is held than there are slots
pub held_length : {A : Type 0} (f : ℕ) (l : List (Option A)) → length (held_from f l) ≤ length l
unfolding held_from
held_length f [] = omega arith
held_length f (none ∷ l) = omega (arith, held_length (suc f) l)
held_length f (some a ∷ l) = omega (arith, held_length (suc f) l)
