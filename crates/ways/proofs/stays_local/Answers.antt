-- By the tests in order.
use Rattle.std.proofs.Common.{sym, ap, ◌∙◌, not, true≢false}
use Rattle.ways.specs.Laws.Eligible.{stays_spent, stays_host, stays_not, stays_hop}
use Rattle.ways.proofs.stays_local.Goals as goal
use Rattle.ways.proofs.stays_local.Goals.{then-is_spent, else-is_spent}

pub returns-then-under_localhost : goal.returns-then-under_localhost
returns-then-under_localhost c =
    c.if-under_localhost.true
    ∙ elim c.if-is_spent.branch [
      | then-is_spent w ↦ stays_spent _ _ _ _ c.is_spent.ensures w.if-is_spent.true
      | else-is_spent w ↦ stays_host _ _ _ _ c.is_spent.ensures _ w.if-is_spent.false w.under_localhost.ensures
          (sym w.value-is ∙ c.if-under_localhost.true)
    ]

pub returns-then-not-local : goal.returns-then-not-local
returns-then-not-local c =
    elim c.if-is_spent.branch [
      | then-is_spent w ↦ absurd (true≢false (sym w.if-is_spent.true ∙ sym w.value-is ∙ c.if-under_localhost.false))
      | else-is_spent w ↦ stays_hop _ _ _ _ c.is_spent.ensures _ w.if-is_spent.false w.under_localhost.ensures _
          (sym w.value-is ∙ c.if-under_localhost.false) c.if-not-local.true c.under_localhop.ensures
    ]

pub returns-else-not-local : goal.returns-else-not-local
returns-else-not-local c =
    ap not c.if-not-local.false
    ∙ elim c.if-is_spent.branch [
      | then-is_spent w ↦ absurd (true≢false (sym w.if-is_spent.true ∙ sym w.value-is ∙ c.if-under_localhost.false))
      | else-is_spent w ↦ stays_not _ _ _ _ c.is_spent.ensures _ w.if-is_spent.false w.under_localhost.ensures
          (sym w.value-is ∙ c.if-under_localhost.false) c.if-not-local.false
    ]
