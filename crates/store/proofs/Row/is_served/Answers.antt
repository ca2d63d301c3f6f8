-- Both tests of a lookup, the cheap one first.
use Rattle.std.proofs.Common.{sym, ◌∙◌}
use Rattle.store.specs.Laws.Look.{serves_late, serves_named}
use Rattle.store.proofs.Row.is_served.Goals as goal

pub returns-then-is_in_time : goal.returns-then-is_in_time
returns-then-is_in_time c = c.is_named.ensures ∙ sym (serves_named _ _ _ _ _ _ (sym c.is_in_time.ensures ∙ c.if-is_in_time.true))

pub returns-else-is_in_time : goal.returns-else-is_in_time
returns-else-is_in_time c =
    c.if-is_in_time.false ∙ sym (serves_late _ _ _ _ _ _ (sym c.is_in_time.ensures ∙ c.if-is_in_time.false))
