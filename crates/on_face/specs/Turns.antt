-- What a command past ageing makes of the faces of any node, at any time.
-- Assumes nothing.
use Rattle.std.specs.Prelude.{ℕ, ◌≤◌, ◌<◌, ◌≡◌, List, Some, None}
use Rattle.std.specs.declared.option.Option as code
use Rattle.std.proofs.Math.Option.{Option}
use Rattle.answers.specs.declared.Answer.{Answer}
use Rattle.sizes.specs.Sizes.{most_faces}
use Rattle.records.specs.Face.{Face}
use Rattle.faces.specs.declared.Link.{Link}
use Rattle.faces.specs.Link.{link_type}
use Rattle.rules.specs.Node.{Node, What, with_faces}
use Rattle.rules.specs.Command.{link_of}
use Rattle.rules.specs.Outcome.{quiet}
use Rattle.rules.specs.Step.{what_step}

-- a command that changes the faces fs alone, to fs', with an answer
abbrev pub FacesBy : What → List (Option Face) → Answer → List (Option Face) → Type 0
FacesBy w fs a fs' = (time : ℕ) (n : Node) → what_step most_faces time (with_faces n fs) w ≡ quiet a (with_faces n fs')

-- the link type that a number says: "link(0, 1, 2 as above)"; no other number says one
abbrev pub LinkFor : ℕ → code.Option Link → Type 0
LinkFor k (Some l) = (k ≤ 2) × (link_type l ≡ link_of k)
LinkFor k None = 2 < k
