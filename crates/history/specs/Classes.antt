-- "A route always has a class that somebody gave it.": the classes of a node, and the class that events gave a prefix last.
-- Assumes nothing.
use Rattle.std.specs.Prelude.{ℕ, ◌≡◌, Bool, true, List, [], ◌∷◌}
use Rattle.std.proofs.Math.Option.{Option, none, some}
use Rattle.laws.specs.Pick.{pick}
use Rattle.names.specs.Name.{same_bytes}
use Rattle.records.specs.Class.{Class, class_of, is_class}
use Rattle.records.specs.Route.{Route}
use Rattle.rules.specs.Node.{Node, What, packet, clock, open_face, close_face, set_route, drop_route, add_hop, drop_hop, Event}
use Rattle.rules.specs.Step.{Book}
use Rattle.history.specs.Lists.{All}
use Rattle.history.specs.Moments.{last_of}

-- each route has one of the three classes, and so has each pending entry
pub record Classed (n : Node) : Type 0 where
  pub routes : All (λ r. is_class r.cls ≡ true) n.routes
  pub pending : All (λ e. is_class e.cls ≡ true) n.pending

-- the class of the route of a prefix, if there is one
unfoldable pub class_at : List ℕ → List Route → Option Class
class_at p [] = none
class_at p (r ∷ rs) = pick (same_bytes p r.name) (some r.cls) (class_at p rs)

-- what an accepted event makes of the class of a prefix: setting a route of it gives one, dropping that route takes it away
unfoldable pub given_by : List ℕ → What → Option Class → Option Class
given_by p (packet f l) x = x
given_by p clock x = x
given_by p (open_face f scope link) x = x
given_by p (close_face f) x = x
given_by p (set_route c q) x = pick (same_bytes p q) (some (class_of c)) x
given_by p (drop_route q) x = pick (same_bytes p q) none x
given_by p (add_hop f cost q) x = x
given_by p (drop_hop f q) x = x

-- the class that events gave a prefix last by a rule book, where x was it before; a refused event gives none
abbrev pub last_class : Book → List ℕ → List Event → Node → Option Class → Option Class
last_class b p es n x = last_of (λ m. given_by p m.event.what) b es n x
