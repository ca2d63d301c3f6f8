-- Each return is what the tests say of the row, the flags first.
use mathlib.Core.Path.{sym, ◌∙◌}
use mathlib.Core.Bool.{true≢false}
use Rattle.pending_table.specs.Laws.Row.{row_known}
use Rattle.pending_table.proofs.is_known.Goals.{then-same_flag, else-same_flag}
use Rattle.pending_table.proofs.is_known.Goals as goal

pub returns-then-same_flag-2 : goal.returns-then-same_flag-2
returns-then-same_flag-2 c =
    λ recs. elim c.if-same_flag.branch [
      | then-same_flag w ↦
          let second = w.value-is ∙ w.same_flag-then-same_flag.ensures in
          rw (row_known, sym c.same_flag.ensures, w.if-same_flag.true, sym second, c.if-same_flag-2.true, c.same.ensures, c.part.ensures)
      | else-same_flag w ↦ absurd (true≢false (sym c.if-same_flag-2.true ∙ w.value-is ∙ w.if-same_flag.false))
    ]

pub returns-else-same_flag-2 : goal.returns-else-same_flag-2
returns-else-same_flag-2 c =
    λ recs. elim c.if-same_flag.branch [
      | then-same_flag w ↦
          let second = w.value-is ∙ w.same_flag-then-same_flag.ensures in
          rw (row_known, sym c.same_flag.ensures, w.if-same_flag.true, sym second, c.if-same_flag-2.false)
      | else-same_flag w ↦ rw (row_known, sym c.same_flag.ensures, sym w.value-is, c.if-same_flag-2.false)
    ]
