-- One question of the name: an equal name extends the name too.
use Rattle.std.proofs.Common.{sym, ap, ◌∙◌}
use Rattle.names.specs.Name.{same_bytes, prefix_of}
use Rattle.store.specs.Laws.Look.{answers_same, answers_prefix}
use Rattle.store.proofs.Row.is_named.Goals as goal

pub returns-then-prefix : goal.returns-then-prefix
returns-then-prefix c = rw c.if-prefix.true (c.is_prefix.ensures ∙ ap (prefix_of _) c.name.ensures ∙ sym (answers_prefix _ _))

pub returns-else-prefix : goal.returns-else-prefix
returns-else-prefix c =
    rw c.if-prefix.false (c.same.ensures ∙ ap (same_bytes _) c.name-else-prefix.ensures ∙ sym (answers_same _ _))
