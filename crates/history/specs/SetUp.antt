-- What stands was set up: the open faces, the routes with their classes, and their hops are what the accepted commands made of them.
-- Assumes nothing.
use Rattle.std.specs.Prelude.{ℕ, ◌≡◌, ◌&&◌, List, eqb}
use Rattle.std.proofs.Math.Option.{Option, none, some}
use Rattle.laws.specs.Pick.{pick}
use Rattle.names.specs.Name.{same_bytes}
use Rattle.records.specs.Slots.{slot}
use Rattle.records.specs.Face.{Face}
use Rattle.records.specs.Route.{route_of, hop_at}
use Rattle.rules.specs.Node.{What, packet, clock, open_face, close_face, set_route, drop_route, add_hop, drop_hop, Event, empty_node}
use Rattle.rules.specs.Command.{face_of}
use Rattle.rules.specs.Step.{Book}
use Rattle.history.specs.Moments.{last_of, reached}
use Rattle.history.specs.Classes.{class_at, last_class}

-- what an accepted event makes of face f: opening it gives scope and link, closing it takes it away
unfoldable pub face_by : ℕ → What → Option Face → Option Face
face_by f (packet g l) x = x
face_by f clock x = x
face_by f (open_face g scope link) x = pick (eqb g f) (some (face_of scope link)) x
face_by f (close_face g) x = pick (eqb g f) none x
face_by f (set_route c q) x = x
face_by f (drop_route q) x = x
face_by f (add_hop g cost q) x = x
face_by f (drop_hop g q) x = x

-- what an accepted event makes of the hop on face f of the route of a prefix: adding it gives a cost; dropping it, dropping the route and
-- closing the face take it away
unfoldable pub hop_by : ℕ → List ℕ → What → Option ℕ → Option ℕ
hop_by f p (packet g l) x = x
hop_by f p clock x = x
hop_by f p (open_face g scope link) x = x
hop_by f p (close_face g) x = pick (eqb g f) none x
hop_by f p (set_route c q) x = x
hop_by f p (drop_route q) x = pick (same_bytes p q) none x
hop_by f p (add_hop g cost q) x = pick (eqb g f && same_bytes p q) (some cost) x
hop_by f p (drop_hop g q) x = pick (eqb g f && same_bytes p q) none x

-- the faces, the routes and the hops that stand after events are those that the events made, and no others
pub record SetUp (faces : ℕ) (b : Book) (es : List Event) : Type 0 where
  pub opened : (f : ℕ) → slot f (reached faces b es).faces ≡ last_of (λ m. face_by f m.event.what) b es (empty_node faces) none
  pub classes : (p : List ℕ) → class_at p (reached faces b es).routes ≡ last_class b p es (empty_node faces) none
  pub hops : (f : ℕ) (p : List ℕ)
      → hop_at f (route_of p (reached faces b es).routes) (reached faces b es).routes
      ≡ last_of (λ m. hop_by f p m.event.what) b es (empty_node faces) none
