-- How every event begins, as an outcome of its own: checks 1, 2, 3 and ageing.
-- Assumes nothing.
use Rattle.std.specs.Prelude.{ℕ, Bool, ltb}
use Rattle.answers.specs.declared.Answer.{Answer}
use Rattle.laws.specs.Pick.{pick}
use Rattle.rules.specs.Node.{Node}
use Rattle.rules.specs.Outcome.{Outcome, quiet}
use Rattle.rules.specs.Ageing.{aged, ageing}
use Rattle.rules.specs.Step.{bad_time, after_ageing}

-- the outcome of an event that only begins, where `bad` says that its face is refused
unfoldable pub begun : ℕ → ℕ → ℕ → Bool → Node → Outcome
begun least time room bad n =
    pick (bad_time n time) (quiet Answer.Clock n)
    (pick (ltb room least) (quiet Answer.SmallBuffer n)
    (pick bad (quiet Answer.BadFace n)
    (after_ageing (ageing time n) (quiet Answer.Done (aged time n)))))
