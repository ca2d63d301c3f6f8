-- A command past ageing that changes the routes alone, as code gives it.
-- Assumes nothing.
use Rattle.std.specs.Option.{unwrap_or}
use Rattle.std.specs.Result.{result_err}
use Rattle.std.specs.Prelude.{ℕ, ◌≡◌, List, Result}
use Rattle.std.proofs.Math.Path.{refl}
use Rattle.answers.specs.declared.Answer.{Answer}
use Rattle.sizes.specs.Sizes.{most_faces}
use Rattle.records.specs.Route.{Route}
use Rattle.routes.specs.declared.Routes.{Routes}
use Rattle.routes.specs.Places.View as routes
use Rattle.rules.specs.Node.{Node, What, with_routes}
use Rattle.rules.specs.Outcome.{quiet}
use Rattle.rules.specs.Step.{what_step}
use Rattle.event.specs.declared.Came.{Came}
use Rattle.event.specs.declared.Memory.{Memory}
use Rattle.event.specs.Memory.{Output, node_of}
use Rattle.event.specs.Comes.{Comes}
use Rattle.event.specs.Places.Begins.{answer_of}
use Rattle.event.specs.Laws.Allowed.{answer_by}
use Rattle.event.specs.Laws.Comes.{comes_by, comes_is, comes_quiet}
use Rattle.on_route.specs.Turns.{RoutesBy}

-- of any node: the routes are others
turned_routes : (w : What) (time k : ℕ) (a : Answer) (n : Node) (rs : List Route) (r : Came) (o : Output)
    → RoutesBy w n.routes a rs → r.answer ≡ a → r.sent ≡ 0 → r.made ≡ k
    → Comes k (what_step most_faces time n w) r (with_routes n rs) o o
turned_routes w time k a n rs r o t ea es em =
    comes_by k (what_step most_faces time n w) (quiet a (with_routes n rs)) r (with_routes n rs) o o (t time n)
    (comes_quiet k a r (with_routes n rs) o ea es em)

module _ (w : What) (time k : ℕ) (m : Memory) (r : Came) (o : Output) where
  -- of the node that a memory means: the routes are others, and the answer is that of a result without a value
  pub comes_routes : (t : Routes) (d : Result (Unit {0}) Answer) (a : Answer)
      → RoutesBy w (routes.view m.routes) (answer_of d) (routes.view t) → a ≡ unwrap_or (result_err d) Answer.Done
      → r ≡ record { answer = a; sent = 0; made = k }
      → Comes k (what_step most_faces time (node_of m) w) r
      (node_of (record { time = m.time; faces = m.faces; routes = t; pending = m.pending; store = m.store; dead = m.dead })) o o
  unfolding node_of
  comes_routes t d a b e i = comes_is _ _ _ _ _ _ _ i (turned_routes _ _ _ _ _ _ _ _ b (answer_by d a e) refl refl)
