-- Lists: whether something holds of some element, an element changed or taken out, the place of the first that a test holds of.
-- Assumes nothing.
use Rattle.std.specs.Prelude.{Bool, false, ◌||◌, List, [], ◌∷◌, ℕ, suc, zero}
use Rattle.laws.specs.Pick.{pick}

-- whether p holds of some element of a list
unfoldable pub any_of : {A : Type 0} → (A → Bool) → List A → Bool
any_of p [] = false
any_of p (a ∷ l) = p a || any_of p l

module _ {A : Type 0} where
  -- the list with element i changed by f, if it has one
  unfoldable pub on_at : ℕ → (A → A) → List A → List A
  on_at i f [] = []
  on_at zero f (a ∷ l) = f a ∷ l
  on_at (suc i) f (a ∷ l) = a ∷ on_at i f l

  -- the list without its element i, if it has one
  unfoldable pub without : ℕ → List A → List A
  without i [] = []
  without zero (a ∷ l) = l
  without (suc i) (a ∷ l) = a ∷ without i l

  -- the place of the first element that p holds of, else the length
  unfoldable pub index_of : (A → Bool) → List A → ℕ
  index_of p [] = 0
  index_of p (a ∷ l) = pick (p a) 0 (suc (index_of p l))
