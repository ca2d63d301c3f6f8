-- The elements of a list where some are left out, one is taken out, or one is replaced.
-- Assumes nothing.
use Prim.Native.Nat.{ℕ, zero, suc}
use Rattle.std.specs.Prelude.{◌≡◌, Bool, true, ◌⊎◌}
use Rattle.std.proofs.Math.Path.{refl}
use Rattle.std.proofs.Common.{sym, ◌∙◌}
use mathlib.Core.List.{List, [], ◌∷◌}
use Rattle.std.proofs.Math.Logic.{inl, inr, ⊎_elim}
use Rattle.std.proofs.Math.Option.{some, some-injective}
use Rattle.laws.specs.Pick.{pick}
use Rattle.laws.specs.Laws.Pick.{pick_ind}
use Rattle.laws.specs.Lists.{on_at, without}
use Rattle.records.specs.Slots.{only, at_place}
use Rattle.history.specs.Lists.{All, nothing, both, Some, here, there, In}
use Rattle.history.specs.Laws.Every.{not_none, some_mono}

module _ {A : Type 0} where
  -- some element of those that a test holds of
  pub some_only : {P : A → Type 0} (p : A → Bool) {l : List A} → Some (λ a. P a × (p a ≡ true)) l → Some P (only p l)
  unfolding only pick
  some_only p (here k) = rw k.1 (here k.0)
  some_only {P} p (there {a} s) = let r = some_only p s in pick_ind (Some P) (p a) _ _ (λ _. there r) (λ _. r)

  -- an element that a test holds of is one of those
  pub in_only : (p : A → Bool) {a : A} {l : List A} → In a l → p a ≡ true → In a (only p l)
  in_only p i t = some_only p (some_mono (λ b q. (q, rw q t)) i)

  -- an element is the one at a place, or one of the others
  pub at_or_other : (i : ℕ) (x z : A) (l : List A) → at_place i l ≡ some x → In z l → (x ≡ z) ⊎ In z (without i l)
  unfolding at_place without
  at_or_other zero x z [] q k = elim k [ ]
  at_or_other (suc i) x z [] q k = elim k [ ]
  at_or_other zero x z (a ∷ l) q (here e) = inl (sym (some-injective _ _ q) ∙ e)
  at_or_other zero x z (a ∷ l) q (there k) = inr k
  at_or_other (suc i) x z (a ∷ l) q (here e) = inr (here e)
  at_or_other (suc i) x z (a ∷ l) q (there k) = ⊎_elim inl (λ j. inr (there j)) (at_or_other i x z l q k)

  -- the others stay where that at a place is replaced
  pub other_stays : (i : ℕ) (y z : A) (l : List A) → In z (without i l) → In z (on_at i (λ _. y) l)
  unfolding on_at without
  other_stays zero y z [] k = elim k [ ]
  other_stays (suc i) y z [] k = elim k [ ]
  other_stays zero y z (a ∷ l) k = there k
  other_stays (suc i) y z (a ∷ l) (here e) = here e
  other_stays (suc i) y z (a ∷ l) (there k) = there (other_stays i y z l k)

  -- what replaces that at a place is an element
  pub replaced_in : (i : ℕ) (x y : A) (l : List A) → at_place i l ≡ some x → In y (on_at i (λ _. y) l)
  unfolding at_place on_at
  replaced_in i x y [] q = not_none q
  replaced_in zero x y (a ∷ l) q = here refl
  replaced_in (suc i) x y (a ∷ l) q = there (replaced_in i x y l q)

  -- what holds of the others and of what replaces that at a place
  pub all_replaced : {P : A → Type 0} (i : ℕ) (y : A) (l : List A) → P y → All P (without i l) → All P (on_at i (λ _. y) l)
  unfolding on_at without
  all_replaced i y [] p h = nothing
  all_replaced zero y (a ∷ l) p h = both p h
  all_replaced (suc i) y (a ∷ l) p (both q h) = both q (all_replaced i y l p h)
