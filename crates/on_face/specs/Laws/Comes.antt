-- A command past ageing that changes the faces alone, as code gives it.
-- Assumes nothing.
use Rattle.std.specs.Option.{unwrap_or}
use Rattle.std.specs.Result.{result_err}
use Rattle.std.specs.Prelude.{ℕ, ◌≡◌, List, Result}
use Rattle.std.proofs.Math.Path.{refl}
use Rattle.std.proofs.Math.Option.{Option}
use Rattle.answers.specs.declared.Answer.{Answer}
use Rattle.sizes.specs.Sizes.{most_faces}
use Rattle.records.specs.Face.{Face}
use Rattle.faces.specs.declared.Faces.{Faces}
use Rattle.faces.specs.Places.View as faces
use Rattle.rules.specs.Node.{Node, What, with_faces}
use Rattle.rules.specs.Outcome.{quiet}
use Rattle.rules.specs.Step.{what_step}
use Rattle.event.specs.declared.Came.{Came}
use Rattle.event.specs.declared.Memory.{Memory}
use Rattle.event.specs.Memory.{Output, node_of}
use Rattle.event.specs.Comes.{Comes}
use Rattle.event.specs.Places.Begins.{answer_of}
use Rattle.event.specs.Laws.Allowed.{answer_by}
use Rattle.event.specs.Laws.Comes.{comes_by, comes_is, comes_quiet}
use Rattle.on_face.specs.Turns.{FacesBy}

-- of any node: the faces are others
turned_faces : (w : What) (time k : ℕ) (a : Answer) (n : Node) (fs : List (Option Face)) (r : Came) (o : Output)
    → FacesBy w n.faces a fs → r.answer ≡ a → r.sent ≡ 0 → r.made ≡ k
    → Comes k (what_step most_faces time n w) r (with_faces n fs) o o
turned_faces w time k a n fs r o t ea es em =
    comes_by k (what_step most_faces time n w) (quiet a (with_faces n fs)) r (with_faces n fs) o o (t time n)
    (comes_quiet k a r (with_faces n fs) o ea es em)

module _ (w : What) (time k : ℕ) (m : Memory) (r : Came) (o : Output) where
  -- of the node that a memory means: the faces are others, and the answer is that of a result without a value
  pub comes_faces : (v : Faces) (d : Result (Unit {0}) Answer) (a : Answer)
      → FacesBy w (faces.view m.faces) (answer_of d) (faces.view v) → a ≡ unwrap_or (result_err d) Answer.Done
      → r ≡ record { answer = a; sent = 0; made = k }
      → Comes k (what_step most_faces time (node_of m) w) r
      (node_of (record { time = m.time; faces = v; routes = m.routes; pending = m.pending; store = m.store; dead = m.dead })) o o
  unfolding node_of
  comes_faces v d a b e i = comes_is _ _ _ _ _ _ _ i (turned_faces _ _ _ _ _ _ _ _ b (answer_by d a e) refl refl)
