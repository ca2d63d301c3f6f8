-- The walk over the digits of a word that finds the row opened first, or the largest number; walks over rows in the order of opening.
-- Assumes nothing.
use Rattle.std.specs.Prelude.{ℕ, suc, ◌+◌, ◌≤◌, ◌<◌, ◌^◌, max, ◌≡◌, refl, Bool, true, false, ◌&&◌, List, ◌≢◌, ltb, set}
use Rattle.std.proofs.Common.{sym, ◌∙◌, ⊎_elim, eq-or-lt_of_le, pow_pos}
use Rattle.std.proofs.Math.Path.{ap}
use Rattle.std.proofs.Math.Bool.{true≢false}
use Rattle.std.proofs.Math.ListN.{length, get_or}
use Rattle.std.proofs.Math.Seq.{get_or-set_other}
use lib.Pow.{pow_mono}
use borrow.Author.Tests.{ltb-true, ltb-false, lt-ltb}
use Rattle.std.proofs.Math.Numerals.{add-one}
use native.Mathlib.Omega.{arith}
use Rattle.laws.specs.Digits.{member, removed}
use Rattle.laws.specs.Laws.Digits.{Lowest, member_yes, member_no, member_remove_same, member_remove_other, removed_present, digit_pow_le, digit_high, digit_zero, digits_ext}
use Rattle.laws.specs.Laws.Loop.{and_both}
use Rattle.laws.specs.Laws.Pick.{pick_ind, pick_yes}
use Rattle.pending_order.specs.Laws.Number.{above_at, above_next, above_le}
use Rattle.pending_order.specs.Laws.Order.{before_of, before_no, before_self, before_trans}
use Rattle.pending_order.specs.Laws.Place.{same_or}
use Rattle.pending_order.specs.Laws.Rows.{least_of_lem, ordered_most}
use Rattle.pending_order.specs.Laws.Table.{first_of_least, rows_next, rows_end, rows_numbers}
use Rattle.pending_order.specs.Order.{before, rows_of}
use Rattle.pending_order.specs.Places.Rows.{better, least_of, first_of, above_of, numbered}

-- what is before another is not after it
before_not : (w : ℕ → ℕ) (s t : ℕ) → before w s t ≡ true → before w t s ≡ false
before_not w s t e = go (before w t s) refl
  where
    go : (b : Bool) → before w t s ≡ b → before w t s ≡ false
    go true h = absurd (before_self w s (before_trans w s t s e h))
    go false h = h

-- no row is before itself
before_same : (w : ℕ → ℕ) (s : ℕ) → before w s s ≡ false
before_same w s = go (before w s s) refl
  where
    go : (b : Bool) → before w s s ≡ b → before w s s ≡ false
    go true h = absurd (before_self w s h)
    go false h = h

-- without a member a word is smaller
pub removed_less : (s left : ℕ) → member s left ≡ true → removed s left < left
removed_less s left m = rw (removed_present s left m) (omega (arith, pow_pos s, digit_pow_le s left ((member_yes s left).0 m)))

-- the members of a word of n digits are below n
pub member_within : (n s set : ℕ) → set < 2 ^ n → member s set ≡ true → s < n
member_within n s set h m = go (ltb s n) refl
  where
    go : (b : Bool) → ltb s n ≡ b → s < n
    go true e = ltb-true s n e
    go false e =
        let l : n ≤ s = ltb-false s n e in
        absurd (true≢false (sym m ∙ (member_no s set).1 (digit_high s set (omega (arith, pow_mono {i = n} {j = s} l)))))

-- a word of n digits that is not 0 has a member
pub lowest_within : (n set s : ℕ) → set < 2 ^ n → set ≢ 0 → Lowest n set s → s < n
lowest_within n set s h z e = go (ltb s n) refl
  where
    go : (b : Bool) → ltb s n ≡ b → s < n
    go true q = ltb-true s n q
    go false q =
        let l : n ≤ s = ltb-false s n q in
        absurd (z (digits_ext n set 0 h (pow_pos n) (λ f k. e.below f (omega arith) ∙ sym (digit_zero f))))

-- a walk over the digits of a word is at s, the lowest that is left
module _ (n left s : ℕ) (a : Lowest n left s) where
  -- it is a member
  pub digit_here : s < n → member s left ≡ true
  digit_here h = (member_yes s left).1 (a.here h)

  -- no member is below it
  digit_below : (t : ℕ) → member t left ≡ true → s ≤ t
  digit_below t h =
      let k : (t < s → ⊥) = (λ l. true≢false (sym h ∙ (member_no t left).1 (a.below t l))) in
      omega arith

  -- what is left without it has only members above it
  digit_after : (t : ℕ) → member t (removed s left) ≡ true → (member t left ≡ true) × (s < t)
  digit_after t h =
      let d : t ≢ s = (λ q. true≢false (sym h ∙ ap (λ (x : ℕ). member x (removed s left)) q ∙ member_remove_same s left)) in
      let m : member t left ≡ true = sym (member_remove_other s left t d) ∙ h in
      (m, ⊎_elim (λ e. absurd (d (sym e))) (λ e. e) (eq-or-lt_of_le (digit_below t m)))

  -- each turn leaves a smaller word
  pub digit_less : s < n → removed s left < left
  digit_less h = removed_less s left (digit_here h)

-- of the rows of a mask that are not left, `best` is the first opened that q holds of; n where there is none
pub record Passed (n : ℕ) (numbers : List ℕ) (q : ℕ → Bool) (mask left best s : ℕ) : Type 0 where
  pub at : Lowest n left s
  pub part : (t : ℕ) → member t left ≡ true → member t mask ≡ true
  pub later : (t : ℕ) → member t left ≡ true → best < n → best < t
  pub within : best ≤ n
  pub here : best < n → (member best mask ≡ true) × (q best ≡ true)
  pub first : (t : ℕ) → t < n → member t mask ≡ true → q t ≡ true → member t left ≡ false
      → (best < n) × (before (λ x. get_or numbers x 0) t best ≡ false)

module _ (n : ℕ) (numbers : List ℕ) (q : ℕ → Bool) (mask : ℕ) where
  -- at the start all are left
  pub passed_start : (s : ℕ) → Lowest n mask s → Passed n numbers q mask mask n s
  passed_start s e = record {
    at = e;
    part = λ t h. h;
    later = λ t h l. absurd (omega arith);
    within = omega arith;
    here = λ l. absurd (omega arith);
    first = λ t l a _ b. absurd (true≢false (sym a ∙ b));
  }

  -- at the end none is left
  pub passed_end : (left best s : ℕ) → Passed n numbers q mask left best s → n ≤ s → best ≡ first_of n numbers mask q
  passed_end left best s a h =
      least_of_lem (λ t. get_or numbers t 0) (λ t. member t mask && q t) n best a.within (λ l. rw ((a.here l).0, (a.here l).1))
      (λ t l m. a.first t l (and_both (member t mask) (q t) m).0 (and_both (member t mask) (q t) m).1
      ((member_no t left).1 (a.at.below t (omega arith))))
      ∙ first_of_least n numbers mask q

  module _ (left best s u : ℕ) (a : Passed n numbers q mask left best s) (h : s < n) (e : Lowest n (removed s left) u) where
    -- what is left then was left, and stands after this row
    after : (t : ℕ) → member t (removed s left) ≡ true → (member t left ≡ true) × (s < t)
    after = digit_after n left s a.at

    -- the best stays, where this row is not better
    passed_stays : (q s ≡ true → (best < n) × (before (λ x. get_or numbers x 0) s best ≡ false))
        → Passed n numbers q mask (removed s left) best u
    passed_stays f = record {
      at = e;
      part = λ t m. a.part t (after t m).0;
      later = λ t m. a.later t (after t m).0;
      within = a.within;
      here = a.here;
      first = λ t l m z o. same_or t s
          (λ y. rw y (f (ap q (sym y) ∙ z)))
          (λ d. a.first t l m z (sym (member_remove_other s left t d) ∙ o));
    }

    -- this row is the best, where no other is before it
    passed_here : q s ≡ true
        → ((t : ℕ) → t < n → member t mask ≡ true → q t ≡ true → member t left ≡ false → before (λ x. get_or numbers x 0) t s ≡ false)
        → Passed n numbers q mask (removed s left) s u
    passed_here y f = record {
      at = e;
      part = λ t m. a.part t (after t m).0;
      later = λ t m _. (after t m).1;
      within = omega arith;
      here = λ _. (a.part s (digit_here n left s a.at h), y);
      first = λ t l m z o. (
        h,
        same_or t s (λ k. rw k (before_same (λ x. get_or numbers x 0) s)) (λ d. f t l m z (sym (member_remove_other s left t d) ∙ o)),
      );
    }

    -- a turn at a row that q fails of
    pub passed_no : q s ≡ false → Passed n numbers q mask (removed s left) best u
    passed_no y = passed_stays (λ z. absurd (true≢false (sym z ∙ y)))

    -- a turn at a row that q holds of
    pub passed_yes : q s ≡ true → Passed n numbers q mask (removed s left) (better n numbers best s) u
    unfolding better
    passed_yes y =
        let w : (ℕ → ℕ) = (λ x. get_or numbers x 0) in
        rw (pick_yes (ltb s n) _ _ (lt-ltb s n h))
        (pick_ind (λ (b : ℕ). Passed n numbers q mask (removed s left) b u) (ltb best n) _ _
        (λ x. pick_ind (λ (b : ℕ). Passed n numbers q mask (removed s left) b u) (ltb (get_or numbers s 0) (get_or numbers best 0)) _ _
        (λ z.
        let k : w s < w best = ltb-true (w s) (w best) z in
        passed_here y (λ t l m i o.
        let c : w best ≤ w t = (before_no w t best (a.first t l m i o).1).0 in
        before_not w s t (before_of w s t (omega arith) (λ v. absurd (omega arith)))))
        (λ z.
        let k : w best ≤ w s = ltb-false (w s) (w best) z in
        let l = ltb-true best n x in
        passed_stays (λ _. (l, before_not w best s (before_of w best s k (λ _. a.later s (digit_here n left s a.at h) l))))))
        (λ x. let k = ltb-false best n x in passed_here y (λ t l m i o. absurd (omega (arith, (a.first t l m i o).0)))))

-- the largest number so far, of those rows that are not left; 0 where there are none
pub record Largest (n : ℕ) (numbers : List ℕ) (used left most s : ℕ) : Type 0 where
  pub at : Lowest n left s
  pub same : max 1 (above_of n numbers used) ≡ max (suc most) (above_of n numbers left)

module _ (n : ℕ) (numbers : List ℕ) (used : ℕ) where
  -- a turn
  pub largest_turn : (left most s u more : ℕ) → Largest n numbers used left most s → s < n → Lowest n (removed s left) u
      → more ≡ max most (get_or numbers s 0) → Largest n numbers used (removed s left) more u
  unfolding above_of
  largest_turn left most s u more a h e m = record {
    at = e;
    same = let k = above_next (λ t. get_or numbers t 0) (λ t. member t left) (λ t. member t (removed s left)) n s h
        (digit_here n left s a.at h)
        (member_remove_same s left) (λ t d. member_remove_other s left t d) in let z = a.same in omega arith;
  }

  -- where no row is left no number is
  pub above_none : (left s : ℕ) → Lowest n left s → n ≤ s → above_of n numbers left ≡ 0
  unfolding above_of
  above_none left s e h =
      let k = above_le (λ t. get_or numbers t 0) (λ t. member t left) n 0
      (λ t l m. absurd (true≢false (sym m ∙ (member_no t left).1 (e.below t (omega arith))))) in
      omega arith

  -- of no rows no number is
  pub above_empty : above_of n numbers 0 ≡ 0
  above_empty = above_none 0 n (record { within = omega arith; below = λ f _. digit_zero f; here = λ l. absurd (omega arith) }) (omega arith)

  -- at the end
  pub largest_end : (left most s : ℕ) → Largest n numbers used left most s → n ≤ s → max 1 (above_of n numbers used) ≡ suc most
  largest_end left most s a h = let k = above_none left s a.at h in let z = a.same in omega arith

  -- where a row is used the number above all is not 0
  pub above_some : (s : ℕ) → Lowest n used s → s < n → 0 < above_of n numbers used
  unfolding above_of
  above_some s e h = omega (arith, above_at (λ t. get_or numbers t 0) (λ t. member t used) n s h (digit_here n used s e h))

-- there are at most n rows
pub rows_most : (n : ℕ) (numbers : List ℕ) (used : ℕ) → length (rows_of n numbers used) ≤ n
unfolding rows_of
rows_most n numbers used = ordered_most (λ t. get_or numbers t 0) (λ t. member t used) n

-- a walk that numbers rows anew: those that are left are to be numbered from `next` on, and `row` is the first
pub record Numbering (n : ℕ) (start : List ℕ) (used : ℕ) (numbers : List ℕ) (left next row : ℕ) : Type 0 where
  pub at : row ≡ least_of n numbers left
  pub room : next + length (rows_of n numbers left) ≤ n
  pub same : numbered numbers next (rows_of n numbers left) ≡ numbered start 0 (rows_of n start used)

module _ (n : ℕ) (start : List ℕ) (used : ℕ) where
  -- at the start all are left
  pub numbering_start : (row : ℕ) → row ≡ least_of n start used → Numbering n start used start used 0 row
  numbering_start row e = record { at = e; room = omega (arith, rows_most n start used); same = refl }

  module _ (numbers : List ℕ) (left next row : ℕ) (a : Numbering n start used numbers left next row) where
    -- where a row is left there is room for its number
    pub numbering_room : row < n → next < n
    numbering_room h = let r = a.room in omega (arith, ap length (rows_next n numbers left row a.at h))

    -- a turn
    pub numbering_turn : row < n → (u : ℕ) → u ≡ least_of n (set numbers row next) (removed row left)
        → Numbering n start used (set numbers row next) (removed row left) (next + 1) u
    unfolding numbered
    numbering_turn h u e =
        let others : rows_of n (set numbers row next) (removed row left) ≡ rows_of n numbers (removed row left) =
        rows_numbers n numbers (removed row left) (set numbers row next) (λ t _ m. get_or-set_other numbers row t next 0
        (λ q. true≢false (sym m ∙ ap (λ (x : ℕ). member x (removed row left)) q ∙ member_remove_same row left))) in
        let next_row = rows_next n numbers left row a.at h in
        let r = a.room in
        let k = ap length next_row in
        record { at = e; room = rw others (omega arith); same = rw (others, add-one next) (rw next_row at a.same) }

    -- at the end all are numbered
    pub numbering_end : n ≤ row → numbers ≡ numbered start 0 (rows_of n start used)
    unfolding numbered
    numbering_end h = rw (rows_end n numbers left row a.at h) at a.same
