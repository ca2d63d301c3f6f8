-- Four shapes of loop, each a function of the place i and of the number m of places left: its turns, its end and what it means.
-- Assumes nothing.
use Prim.Native.Nat.{ℕ, suc, zero, ◌+◌, ◌-◌, ◌≤◌, ◌<◌}
use Rattle.std.specs.Prelude.{◌≡◌, refl, Bool, true, false, ◌&&◌}
use Rattle.std.proofs.Common.{subst, ⊎_elim, eq-or-lt_of_le}
use native.Mathlib.Omega.{arith}
use Rattle.std.proofs.Math.Numerals.{add-one}
use Rattle.laws.specs.Pick.{pick}
use Rattle.laws.specs.Laws.Pick.{pick_ind}
use Rattle.laws.specs.Places.Loop.{first, turns}

-- at the start all n places are left
pub from_zero : (n : ℕ) → n - 0 ≡ n
from_zero n = omega arith

-- before the end one place more is left than at the next place
pub left : (n i : ℕ) → i < n → n - i ≡ suc (n - (i + 1))
left n i h = omega arith

-- at the end no place is left
pub gone : (n i : ℕ) → n ≤ i → n - i ≡ 0
gone n i h = omega arith

module _ (p : ℕ → Bool) (n i : ℕ) where
  -- a search ends where p holds
  pub first_hit : i < n → p i ≡ true → first p i (n - i) ≡ i
  unfolding first pick
  first_hit h e = rw (left n i h, e)

  -- a search goes on where p fails
  pub first_miss : i < n → p i ≡ false → first p i (n - i) ≡ first p (i + 1) (n - (i + 1))
  unfolding first pick
  first_miss h e = rw (left n i h, e, add-one i)

  -- a search ends where no place is left
  pub first_end : n ≤ i → first p i (n - i) ≡ i
  unfolding first
  first_end h = rw (gone n i h)

module _ {S : Type 0} (f : ℕ → S → S) (n i : ℕ) (s : S) where
  -- a turn applies f at the place, and goes on at the next
  pub turns_turn : i < n → turns f i (n - i) s ≡ turns f (i + 1) (n - (i + 1)) (f i s)
  unfolding turns
  turns_turn h = rw (left n i h, add-one i)

  -- the turns end where no place is left
  pub turns_end : n ≤ i → turns f i (n - i) s ≡ s
  unfolding turns
  turns_end h = rw (gone n i h)

-- where a conjunction of tests holds, both hold
pub and_both : (a b : Bool) → a && b ≡ true → (a ≡ true) × (b ≡ true)
and_both true b e = (refl, e)
and_both false b e = (e, cc)

-- what holds at i, and at k wherever k comes later, holds at k
from_here : (P : ℕ → Type 0) (i k : ℕ) → i ≤ k → P i → (i < k → P k) → P k
from_here P i k l a b = ⊎_elim (λ e. subst P e a) b (eq-or-lt_of_le l)

module _ (p : ℕ → Bool) where
  -- a search gives at most the place past those searched
  pub first_le : (i m : ℕ) → first p i m ≤ i + m
  unfolding first
  first_le i zero = omega arith
  first_le i (suc m) = pick_ind (λ (r : ℕ). r ≤ i + suc m) (p i) _ _ (λ _. omega arith) (λ _. omega (arith, first_le (suc i) m))

  -- p holds at the place that a search gives, if that is one of those searched
  pub first_found : (i m : ℕ) → first p i m < i + m → p (first p i m) ≡ true
  unfolding first
  first_found i zero = λ h. absurd (omega arith)
  first_found i (suc m) =
      pick_ind (λ (r : ℕ). r < i + suc m → p r ≡ true) (p i) _ _ (λ e _. e) (λ _ h. first_found (suc i) m (omega arith))

  -- p fails at each place searched before the one that a search gives
  pub first_before : (i m k : ℕ) → i ≤ k → k < first p i m → p k ≡ false
  unfolding first
  first_before i zero k l = λ h. absurd (omega arith)
  first_before i (suc m) k l =
      pick_ind (λ (r : ℕ). k < r → p k ≡ false) (p i) _ _ (λ _ h. absurd (omega arith))
      (λ e h. from_here (λ (j : ℕ). p j ≡ false) i k l e (λ g. first_before (suc i) m k g h))

-- what holds at the start and is kept by each turn holds after all turns
pub turns_keeps : {S : Type 0} (P : S → Type 0) (f : ℕ → S → S) (i m : ℕ) (s : S)
    → ((k : ℕ) (t : S) → i ≤ k → k < i + m → P t → P (f k t)) → P s → P (turns f i m s)
unfolding turns
turns_keeps P f i zero s h a = a
turns_keeps P f i (suc m) s h a =
    turns_keeps P f (suc i) m (f i s) (λ k t l g. h k t (omega arith) (omega arith)) (h i s (omega arith) (omega arith) a)
