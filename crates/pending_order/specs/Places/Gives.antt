-- What a walk over the rows of a set gives: the lowest row that is left, and the set without it; at the end no row is left.
-- Assumes nothing.
use Rattle.std.specs.Prelude.{ℕ, ◌≡◌, ◌<◌, ◌≤◌, Option, Some, None, MatchOption}
use Rattle.std.proofs.Common.{refl, sym, ap, ◌∙◌, arith}
use Rattle.std.specs.Int.Count.{count_trailing_zeros}
use Rattle.sizes.specs.Sizes.{most_entries}
use Rattle.laws.specs.Digits.{removed}
use Rattle.pending_order.specs.declared.RowWalk.{RowWalk}

-- the lowest row of a set, most_entries where it has none
abbrev pub lowest_row : ℕ → ℕ
lowest_row set = count_trailing_zeros most_entries set

-- one step of the walk
abbrev pub Gives : RowWalk → Option ℕ → RowWalk → Type 0
Gives s r t =
    MatchOption r ((most_entries ≤ lowest_row s.left) × (t.left ≡ s.left))
    (λ i. (i < most_entries) × (i ≡ lowest_row s.left) × (t.left ≡ removed i s.left))

-- there is one step
pub gives_one : (s : RowWalk) (x y : Option ℕ) {t u : RowWalk} → Gives s x t → Gives s y u → (x ≡ y) × (t.left ≡ u.left)
gives_one s None None p q = (refl, p.1 ∙ sym q.1)
gives_one s None (Some j) p q = absurd (omega (arith, p.0, q.0, q.1))
gives_one s (Some i) None p q = absurd (omega (arith, q.0, p.0, p.1))
gives_one s (Some i) (Some j) p q =
    let e : i ≡ j = p.1 ∙ sym q.1 in
    (ap (λ (n : ℕ). Some n) e, rw (p.2, q.2, e))
