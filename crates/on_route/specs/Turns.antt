-- What a command past ageing makes of the routes of any node, at any time; and what a prefix is answered.
-- Assumes nothing.
use Rattle.std.specs.Prelude.{ℕ, ◌≡◌, List, length, ltb}
use Rattle.answers.specs.declared.Answer.{Answer}
use Rattle.laws.specs.Pick.{pick}
use Rattle.sizes.specs.Sizes.{most_faces, most_name, most_components}
use Rattle.wire.specs.Verdict.{is_malformed, is_unsupported}
use Rattle.names.specs.Name.{counted}
use Rattle.records.specs.Route.{Route}
use Rattle.rules.specs.Node.{Node, What, with_routes}
use Rattle.rules.specs.Outcome.{quiet}
use Rattle.rules.specs.Step.{what_step}

-- a command that changes the routes rs alone, to rs', with an answer
abbrev pub RoutesBy : What → List Route → Answer → List Route → Type 0
RoutesBy w rs a rs' = (time : ℕ) (n : Node) → what_step most_faces time (with_routes n rs) w ≡ quiet a (with_routes n rs')

-- "5, 6, name size (4)": what a prefix is answered
unfoldable pub prefix_says : List ℕ → Answer
prefix_says p =
    pick (is_malformed (counted p).said) Answer.Malformed
    (pick (is_unsupported (counted p).said) Answer.Unsupported
    (pick (ltb most_name (length p)) Answer.TooLong (pick (ltb most_components (counted p).count) Answer.TooLong Answer.Done)))
