-- What a row changed in place and rows moved one place down leave, and what a store keeps.
-- Assumes nothing.
use Prim.Native.Nat.{ℕ, suc, zero, ◌+◌, ◌-◌, ◌≤◌, ◌<◌}
use Rattle.std.specs.Prelude.{◌≡◌, refl, ◌≢◌, length, set}
use Rattle.std.proofs.Math.Path.{sym, ap}
use Rattle.std.proofs.Common.{◌∙◌, eq-or-lt_of_le}
use mathlib.Core.List.{List}
use Rattle.std.proofs.Math.Logic.{⊎_elim}
use native.Mathlib.Omega.{arith}
use Rattle.std.proofs.Math.ListN.{get_or, length-set, get_or-map}
use Rattle.std.proofs.Math.Seq.{get_or-set_same, get_or-set_other, map-set_same}
use Rattle.laws.specs.Places.Loop.{turns}
use Rattle.laws.specs.Laws.Loop.{turns_keeps}
use Rattle.laws.specs.Places.Rows.{at, down}

module _ {A : Type 0} (d : A) where
  -- row i after its change
  pub at_same : (i : ℕ) (g : A → A) (t : List A) → i < length t → get_or (at d i g t) i d ≡ g (get_or t i d)
  unfolding at
  at_same i g t h = get_or-set_same t i _ d h

  -- any other row is as it was
  pub at_other : (i k : ℕ) (g : A → A) (t : List A) → k ≢ i → get_or (at d i g t) k d ≡ get_or t k d
  unfolding at
  at_other i k g t h = get_or-set_other t i k _ d h

  -- a measure m of rows that g does not change at row i does not change at any row
  pub at_leaves : {B : Type 0} (m : A → B) (i k : ℕ) (g : A → A) (t : List A) → m (g (get_or t i d)) ≡ m (get_or t i d)
      → m (get_or (at d i g t) k d) ≡ m (get_or t k d)
  unfolding at
  at_leaves {B} m i k g t e =
      sym (get_or-map m (set t i (g (get_or t i d))) k d)
      ∙ ap (λ (l : List B). get_or l k (m d)) (map-set_same m t i (g (get_or t i d)) d e)
      ∙ get_or-map m t k d

module _ {A : Type 0} (d : A) where
  -- one row moved down: the number of rows is as it was
  length_down : (k : ℕ) (t : List A) → length (down d k t) ≡ length t
  unfolding down
  length_down k t = length-set t (k - 1) (get_or t k d)

  -- one row moved down: any row but the one before it is as it was
  down_other : (a k : ℕ) (t : List A) → k ≢ a - 1 → get_or (down d a t) k d ≡ get_or t k d
  unfolding down
  down_other a k t n = get_or-set_other t (a - 1) k (get_or t a d) d n

  -- one row moved down: the row before it is now that row
  down_same : (a k : ℕ) (t : List A) → k + 1 ≡ a → k < length t → get_or (down d a t) k d ≡ get_or t (k + 1) d
  unfolding down
  down_same a k t e h =
      let b : a - 1 ≡ k = omega arith in
      rw (b, get_or-set_same t k (get_or t a d) d h, e)

  -- m rows from a on moved one place down: any row before the places moved to is as it was
  pub downs_before : (m a k : ℕ) (t : List A) → k + 1 < a → get_or (turns (down d) a m t) k d ≡ get_or t k d
  downs_before m a k t h =
      turns_keeps (λ (u : List A). get_or u k d ≡ get_or t k d) (down d) a m t (λ b u l _ e. down_other b k u (λ q. omega arith) ∙ e) refl

  -- m rows from a on moved one place down: each place moved to has the row of the next place
  pub downs_moved : (m a k : ℕ) (t : List A) → 0 < a → a + m ≤ length t → a ≤ k + 1 → k + 1 < a + m
      → get_or (turns (down d) a m t) k d ≡ get_or t (k + 1) d
  unfolding turns
  downs_moved zero a k t p l h g = absurd (omega arith)
  downs_moved (suc m) a k t p l h g =
      ⊎_elim
      (λ (e : a ≡ k + 1). downs_before m (suc a) k (down d a t) (omega arith) ∙ down_same a k t (omega arith) (omega arith))
      (λ (e : a < k + 1).
      downs_moved m (suc a) k (down d a t) (omega arith) (rw (length_down a t) (omega arith)) (omega arith) (omega arith)
      ∙ down_other a (k + 1) t (λ q. omega arith))
      (eq-or-lt_of_le h)
