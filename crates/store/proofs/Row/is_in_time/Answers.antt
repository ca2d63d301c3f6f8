-- A Data stored later than now is in time; any other by what is left of its freshness.
use Rattle.std.proofs.Common.{sym, ◌∙◌, true≢false, ltb-true, ltb-false}
use Rattle.store.specs.Laws.Look.{in_time_any, in_time_early, in_time_young}
use Rattle.store.proofs.Row.is_in_time.Goals as goal
use Rattle.store.proofs.Row.is_in_time.Goals.{then-not-fresh, else-not-fresh}

pub returns-then-time-self : goal.returns-then-time-self
returns-then-time-self c =
    let a = c.args in
    let t = c.if-time-self.true in
    elim c.if-not-fresh.branch [
      | then-not-fresh w ↦ t ∙ sym (rw w.if-not-fresh.true (in_time_any a.time a.self.now))
      | else-not-fresh w ↦ t ∙ sym (rw w.if-not-fresh.false (in_time_early a.time a.self.now (ltb-true _ _ (sym w.value-is ∙ t))))
    ]

pub returns-else-time-self : goal.returns-else-time-self
returns-else-time-self c =
    let a = c.args in
    let t = c.if-time-self.false in
    elim c.if-not-fresh.branch [
      | then-not-fresh w ↦ absurd (true≢false (sym (rw w.if-not-fresh.true at w.value-is) ∙ t))
      | else-not-fresh w ↦ sym (rw w.if-not-fresh.false (in_time_young a.time a.self.now (ltb-false _ _ (sym w.value-is ∙ t))))
    ]
