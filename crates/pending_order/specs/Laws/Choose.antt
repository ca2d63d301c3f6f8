-- A walk over the used rows, in no order, that leaves in a set those that a test holds of.
-- Assumes nothing.
use Rattle.std.specs.Prelude.{ℕ, ◌≤◌, ◌<◌, ◌≡◌, refl, Bool, true, false, ◌&&◌, ◌||◌, ◌≢◌}
use Rattle.std.proofs.Common.{sym, ap, ◌∙◌, true≢false, arith}
use Rattle.laws.specs.Pick.{pick}
use Rattle.laws.specs.Laws.Pick.{pick_ind}
use Rattle.laws.specs.Digits.{member, removed}
use Rattle.laws.specs.Laws.Digits.{Lowest, member_no, member_remove_same, member_remove_other}
use Rattle.pending_order.specs.Laws.Place.{same_or}
use Rattle.pending_order.specs.Laws.Walk.{digit_here}

-- the rows `left` are to be looked at, `row` is the lowest of them; of the others those stay in `rows` that q holds of
pub record Choosing (n : ℕ) (q : ℕ → Bool) (used left rows row : ℕ) : Type 0 where
  pub at : Lowest n left row
  pub part : (t : ℕ) → member t left ≡ true → member t used ≡ true
  pub same : (t : ℕ) → t < n → member t rows ≡ (member t used && (member t left || q t))

module _ (n : ℕ) (q : ℕ → Bool) (used : ℕ) where
  -- at the start all are to be looked at
  pub choosing_start : (row : ℕ) → Lowest n used row → Choosing n q used used used row
  choosing_start row e = record { at = e; part = λ t h. h; same = λ t _. go (member t used) (q t) }
    where
      go : (a b : Bool) → a ≡ (a && (a || b))
      go true b = refl
      go false b = refl

  -- a turn
  pub choosing_turn : (left rows row next more : ℕ) → Choosing n q used left rows row → row < n → Lowest n (removed row left) next
      → more ≡ pick (q row) rows (removed row rows) → Choosing n q used (removed row left) more next
  choosing_turn left rows row next more a h e m = record {
    at = e;
    part = λ t k. a.part t (sym (member_remove_other row left t (other t k)) ∙ k);
    same = λ t l. rw m (same_or t row (here t l) (there t l));
  }
    where
      other : (t : ℕ) → member t (removed row left) ≡ true → t ≢ row
      other t k z = true≢false (sym k ∙ ap (λ (x : ℕ). member x (removed row left)) z ∙ member_remove_same row left)

      used_here : member row used ≡ true
      used_here = a.part row (digit_here n left row a.at h)

      was : member row rows ≡ true
      was = a.same row h ∙ rw (used_here, digit_here n left row a.at h)

      here : (t : ℕ) → t < n → t ≡ row
          → member t (pick (q row) rows (removed row rows)) ≡ (member t used && (member t (removed row left) || q t))
      here t l z =
          rw (z, used_here, member_remove_same row left)
          (pick_ind (λ (x : ℕ). member row x ≡ q row) (q row) _ _ (λ y. was ∙ sym y) (λ y. member_remove_same row rows ∙ sym y))

      there : (t : ℕ) → t < n → t ≢ row
          → member t (pick (q row) rows (removed row rows)) ≡ (member t used && (member t (removed row left) || q t))
      there t l d =
          rw (member_remove_other row left t d)
          (pick_ind (λ (x : ℕ). member t x ≡ (member t used && (member t left || q t))) (q row) _ _
          (λ _. a.same t l) (λ _. member_remove_other row rows t d ∙ a.same t l))

  -- at the end the rows that q holds of are chosen
  pub choosing_end : (left rows row : ℕ) → Choosing n q used left rows row → n ≤ row
      → (t : ℕ) → t < n → member t rows ≡ (member t used && q t)
  choosing_end left rows row a h t l = a.same t l ∙ rw ((member_no t left).1 (a.at.below t (omega arith)))
