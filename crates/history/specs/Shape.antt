-- The shape of the nodes that events lead to: how long each list is, what stands where, and that nothing stands twice. That the empty
-- node has it and that every event keeps it is in `ShapeKept`.
-- Assumes nothing.
use Rattle.std.specs.Prelude.{ℕ, ◌≤◌, ◌≡◌, true, false, List, length}
use Rattle.std.proofs.Math.Option.{Option, some}
use Rattle.packets.specs.Well.{Well}
use Rattle.records.specs.Slots.{slot, is_some, each}
use Rattle.records.specs.Face.{Face, is_open}
use Rattle.records.specs.Route.{Route}
use Rattle.records.specs.Entry.{Entry, is_idle, room_taken}
use Rattle.records.specs.Stored.{Stored}
use Rattle.sizes.specs.Sizes.{most_routes, most_entries, most_stored, most_dead, most_name, most_packet, most_cost}
use Rattle.rules.specs.Node.{Node}
use Rattle.history.specs.Lists.{All, Apart}

-- what is kept for a face is kept for an open one
abbrev pub AtOpen : {A : Type 0} → List (Option Face) → List (Option A) → Type 0
AtOpen fs l = (f : ℕ) → is_some (slot f l) ≡ true → is_open fs f ≡ true

-- an entry: a name that an Interest may have, of 1 to 16 components in 255 bytes at most, a slot for each face, requests and out-records at
-- open faces, and at least one request
pub record EntryShaped (faces : ℕ) (fs : List (Option Face)) (e : Entry) : Type 0 where
  pub name : Well e.name
  pub requests : length e.requests ≡ faces
  pub sent : length e.sent ≡ faces
  pub from : AtOpen fs e.requests
  pub to : AtOpen fs e.sent
  pub busy : is_idle e ≡ false

-- a route: a prefix of 255 bytes at most, a slot for each face, and hops at open faces, with costs in range
pub record RouteShaped (faces : ℕ) (fs : List (Option Face)) (r : Route) : Type 0 where
  pub name : length r.name ≤ most_name
  pub hops : length r.hops ≡ faces
  pub to : AtOpen fs r.hops
  pub costs : (f c : ℕ) → slot f r.hops ≡ some c → c ≤ most_cost

-- a stored Data: a name of 255 bytes at most, and a packet of 1,500 at most
pub record StoredShaped (d : Stored) : Type 0 where
  pub name : length d.name ≤ most_name
  pub bytes : length d.bytes ≤ most_packet

-- two entries: not one name and both flags
abbrev pub OtherEntry : Entry → Entry → Type 0
OtherEntry a b = a.name ≡ b.name → a.can_be_prefix ≡ b.can_be_prefix → a.must_be_fresh ≡ b.must_be_fresh → ⊥

-- two routes: not one prefix
abbrev pub OtherRoute : Route → Route → Type 0
OtherRoute a b = a.name ≡ b.name → ⊥

-- two stored Data: not one name
abbrev pub OtherStored : Stored → Stored → Type 0
OtherStored a b = a.name ≡ b.name → ⊥

-- the routes: "Routes 32"
pub record RoutesShaped (faces : ℕ) (fs : List (Option Face)) (rs : List Route) : Type 0 where
  pub each : All (RouteShaped faces fs) rs
  pub few : length rs ≤ most_routes
  pub apart : Apart OtherRoute rs

-- the pending entries: the room that they take, by the sum over the classes, is 64 at most
pub record PendingShaped (faces : ℕ) (fs : List (Option Face)) (es : List Entry) : Type 0 where
  pub each : All (EntryShaped faces fs) es
  pub room : room_taken es ≤ most_entries
  pub apart : Apart OtherEntry es

-- the store: "stored Data 8"
pub record StoreShaped (ds : List Stored) : Type 0 where
  pub each : All StoredShaped ds
  pub few : length ds ≤ most_stored
  pub apart : Apart OtherStored ds

-- the shape of a node of so many faces: "dead nonces 256". It says nothing of times, nonces and fingerprints; of classes, `Classes` does
pub record Shaped (faces : ℕ) (n : Node) : Type 0 where
  pub size : length n.faces ≡ faces
  pub routes : RoutesShaped faces n.faces n.routes
  pub pending : PendingShaped faces n.faces n.pending
  pub store : StoreShaped n.store
  pub dead : length n.dead ≤ most_dead
