-- What the statements are to shut out: any node at all, whatever it does with an event.
-- Assumes nothing.
use Rattle.std.specs.Prelude.{◌≡◌}
use Rattle.rules.specs.Node.{Node, Event}
use Rattle.rules.specs.Outcome.{Outcome}
use Rattle.rules.specs.Step.{paper_step}

-- document 01's node, whatever it does with an event, that meets the rules
abbrev pub Meets : (Event → Node → Outcome) → Type 0
Meets f = (e : Event) (n : Node) → f e n ≡ paper_step e n
