-- Where as many elements stay as there were, none leaves.
-- Assumes nothing.
use Rattle.std.specs.Prelude.{ℕ, ◌+◌, Bool}
use Rattle.std.proofs.Math.Path.{◌≡◌, refl}
use Rattle.std.proofs.Math.Bool.{true, false, not}
use mathlib.Core.List.{List, [], ◌∷◌}
use native.Mathlib.Omega.{arith}
use Rattle.std.proofs.Math.ListN.{length}
use Rattle.laws.specs.Pick.{pick}
use Rattle.records.specs.Slots.{only, is_empty}

-- a list without elements is empty
pub none_in : {A : Type 0} (l : List A) → length l ≡ 0 → l ≡ []
none_in [] e = refl
none_in (a ∷ l) e = absurd (omega arith)

-- a list with an element is not empty
pub some_in : {A : Type 0} (l : List A) → (length l ≡ 0 → ⊥) → is_empty l ≡ false
unfolding is_empty
some_in [] h = absurd (h refl)
some_in (a ∷ l) h = refl

module _ {A : Type 0} (p : A → Bool) where
  -- each element is one that p holds of, or one that it does not hold of
  pub only_both : (l : List A) → length (only p l) + length (only (λ a. not (p a)) l) ≡ length l
  unfolding only pick
  only_both [] = refl
  only_both (a ∷ l) = go (p a) (only_both l)
    where
      go : (b : Bool) → length (only p l) + length (only (λ x. not (p x)) l) ≡ length l
          → length (pick b (a ∷ only p l) (only p l)) + length (pick (not b) (a ∷ only (λ x. not (p x)) l) (only (λ x. not (p x)) l))
          ≡ length (a ∷ l)
      go true h = omega arith
      go false h = omega arith

  -- where p holds of none, those that it does not hold of are all
  pub only_all : (l : List A) → only p l ≡ [] → only (λ a. not (p a)) l ≡ l
  unfolding only pick
  only_all [] e = refl
  only_all (a ∷ l) e = go (p a) (only_all l) e
    where
      go : (b : Bool) → (only p l ≡ [] → only (λ x. not (p x)) l ≡ l) → pick b (a ∷ only p l) (only p l) ≡ []
          → pick (not b) (a ∷ only (λ x. not (p x)) l) (only (λ x. not (p x)) l) ≡ a ∷ l
      go true h e = let z : ◌≡◌ {A = ℕ} 0 1 = cc in absurd (omega arith)
      go false h e = rw (h e)
