-- What the number of a class says of it.
-- Assumes nothing.
use Rattle.std.specs.Prelude.{ℕ, ◌≡◌, refl}
use Rattle.std.proofs.Common.{sym, eqb-true}
use Rattle.laws.specs.Laws.Pick.{pick_ind}
use Rattle.records.specs.Class.{Class, class_of, class_number}

-- the class that a number gives has that number
pub class_number_lem : (n : ℕ) → class_number (class_of n) ≡ n
unfolding class_of class_number
class_number_lem n =
    pick_ind P _ _ _ (λ e. sym (eqb-true n 1 e))
    (λ _. pick_ind P _ _ _ (λ e. sym (eqb-true n 2 e))
    (λ _. pick_ind P _ _ _ (λ e. sym (eqb-true n 3 e)) (λ _. refl)))
  where
    P : Class → Type 0
    P c = class_number c ≡ n
