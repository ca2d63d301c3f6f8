-- Each return is what the tests say of the row.
use mathlib.Core.Path.{sym}
use borrow.Author.Tests.{eq-eqb, ne_eqb}
use Rattle.pending_table.specs.Laws.Row.{row_matches}
use Rattle.pending_table.proofs.is_match.Goals as goal

pub returns-then-same : goal.returns-then-same
returns-then-same c = λ recs. rw (row_matches, sym c.part-own.ensures, sym c.same.ensures, c.if-same.true)

pub returns-then-head-eq1 : goal.returns-then-head-eq1
returns-then-head-eq1 c =
    λ recs.
    rw (
      row_matches,
      sym c.part-own.ensures,
      sym c.same.ensures,
      c.if-same.false,
      eq-eqb _ _ c.if-head-eq1.true,
      c.is_prefix.ensures,
    )

pub returns-else-head-eq1 : goal.returns-else-head-eq1
returns-else-head-eq1 c =
    λ recs.
    rw (
      row_matches,
      sym c.part-own.ensures,
      sym c.same.ensures,
      c.if-same.false,
      ne_eqb _ _ c.if-head-eq1.false,
    )
