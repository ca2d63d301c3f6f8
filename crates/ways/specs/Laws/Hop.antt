-- The HopLimit that was found, as the code asks it.
-- Assumes nothing.
use Rattle.std.specs.Prelude.{ℕ, ◌-◌, ◌≡◌, refl, Bool, Option, Some, None, MatchOption}
use Rattle.std.proofs.Math.Path.{sym}
use Rattle.std.proofs.Common.{◌∙◌, arith}
use Rattle.std.proofs.Math.Bool.{true, false}
use Rattle.std.proofs.Math.Dec.{leb, eqb}
use borrow.Author.Tests.{leb-true, leb-false, eq-eqb, ne_eqb}
use Rattle.records.specs.Slots.{holds}
use Rattle.packets.specs.declared.bare.HopLimit.{HopLimit}
use Rattle.coming.specs.Places.Found.{limit_of}
use Rattle.rules.specs.Interest.{hop_is_zero, spent}

module _ (h : Option HopLimit) where
  -- no HopLimit is not 0
  pub zero_absent : h ≡ None → false ≡ hop_is_zero (limit_of h)
  unfolding hop_is_zero limit_of holds
  zero_absent e = rw e

  -- one that was found is what it is
  pub zero_found : (k at : ℕ) → h ≡ Some (record { limit = k; at = at }) → eqb k 0 ≡ hop_is_zero (limit_of h)
  unfolding hop_is_zero limit_of holds
  zero_found k at e = rw e

  -- no HopLimit is never used up
  pub spent_absent : h ≡ None → false ≡ spent (limit_of h)
  unfolding spent limit_of holds
  spent_absent e = rw e

  -- one that was found is used up where it is at most 1
  pub spent_found : (k at : ℕ) → h ≡ Some (record { limit = k; at = at }) → leb k 1 ≡ spent (limit_of h)
  unfolding spent limit_of holds
  spent_found k at e = rw e (go (leb k 1) refl)
    where
      go : (b : Bool) → leb k 1 ≡ b → leb k 1 ≡ eqb (k - 1) 0
      go true q = q ∙ sym (eq-eqb (k - 1) 0 (omega (arith, leb-true k 1 q)))
      go false q = q ∙ sym (ne_eqb (k - 1) 0 (λ z. omega (arith, leb-false k 1 q)))

module _ (r : Bool) where
  -- by one test of a HopLimit, if there is one, it is told whether it is 0
  pub zero_said : (h : Option HopLimit) → MatchOption h (r ≡ false) (λ k. r ≡ eqb k.limit 0) → r ≡ hop_is_zero (limit_of h)
  zero_said None m = m ∙ zero_absent None refl
  zero_said (Some k) m = m ∙ zero_found (Some k) k.limit k.at refl

  -- and whether it is used up
  pub spent_said : (h : Option HopLimit) → MatchOption h (r ≡ false) (λ k. r ≡ leb k.limit 1) → r ≡ spent (limit_of h)
  spent_said None m = m ∙ spent_absent None refl
  spent_said (Some k) m = m ∙ spent_found (Some k) k.limit k.at refl
