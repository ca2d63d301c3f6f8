-- A node, and the events that reach it: those of document 01's tape. Every number of an event is as it was given.
-- Assumes nothing.
use Rattle.std.specs.Prelude.{ℕ, List, [], Bool, true, false}
use Rattle.std.proofs.Math.Option.{Option, none, some}
use Rattle.sizes.specs.Sizes.{most_dead}
use Rattle.names.specs.Fingerprint.{fnv_start, fingerprint}
use Rattle.records.specs.Slots.{no_slots}
use Rattle.records.specs.Face.{Face}
use Rattle.records.specs.Route.{Route}
use Rattle.records.specs.Entry.{Entry}
use Rattle.records.specs.Stored.{Stored}
use Rattle.records.specs.Line.{Line, joined_all}

-- the last accepted time, the faces, the routes, the pending entries, oldest opening first, the store and the dead nonces
pub record Node : Type 0 where
  pub time : ℕ
  pub faces : List (Option Face)
  pub routes : List Route
  pub pending : List Entry
  pub store : List Stored
  pub dead : List Line

-- "The last accepted time of an empty node is 0."
unfoldable pub empty_node : ℕ → Node
empty_node n = record { time = 0; faces = no_slots n; routes = []; pending = []; store = []; dead = [] }

-- what happens: a packet arrives on a face; the clock is read; a face is opened, with scope and link, or closed; a route is set, with
-- class and prefix, or dropped; a hop is added, with face, cost and prefix, or dropped
pub data What : Type 0 where
  packet : ℕ → List ℕ → What
  clock : What
  open_face : ℕ → ℕ → ℕ → What
  close_face : ℕ → What
  set_route : ℕ → List ℕ → What
  drop_route : List ℕ → What
  add_hop : ℕ → ℕ → List ℕ → What
  drop_hop : ℕ → List ℕ → What

-- the face that an event names
unfoldable pub face_in : What → Option ℕ
face_in (packet f l) = some f
face_in clock = none
face_in (open_face f scope link) = some f
face_in (close_face f) = some f
face_in (set_route c p) = none
face_in (drop_route p) = none
face_in (add_hop f cost p) = some f
face_in (drop_hop f p) = some f

-- whether it opens that face
unfoldable pub opens_face : What → Bool
opens_face (packet f l) = false
opens_face clock = false
opens_face (open_face f scope link) = true
opens_face (close_face f) = false
opens_face (set_route c p) = false
opens_face (drop_route p) = false
opens_face (add_hop f cost p) = false
opens_face (drop_hop f p) = false

-- an event: when, with how long an output buffer, and what
pub record Event : Type 0 where
  pub time : ℕ
  pub room : ℕ
  pub what : What

-- "64-bit FNV-1a over the name's value bytes, then the nonce": the fingerprint of a name with a nonce
unfoldable pub print_of : List ℕ → ℕ → ℕ
print_of name nonce = fingerprint fnv_start name nonce

module _ (n : Node) where
  -- the node with another last accepted time
  abbrev pub with_time : ℕ → Node
  with_time t = record { time = t; faces = n.faces; routes = n.routes; pending = n.pending; store = n.store; dead = n.dead }

  -- with other faces
  abbrev pub with_faces : List (Option Face) → Node
  with_faces x = record { time = n.time; faces = x; routes = n.routes; pending = n.pending; store = n.store; dead = n.dead }

  -- with other routes
  abbrev pub with_routes : List Route → Node
  with_routes x = record { time = n.time; faces = n.faces; routes = x; pending = n.pending; store = n.store; dead = n.dead }

  -- with other pending entries
  abbrev pub with_pending : List Entry → Node
  with_pending x = record { time = n.time; faces = n.faces; routes = n.routes; pending = x; store = n.store; dead = n.dead }

  -- with another store
  abbrev pub with_store : List Stored → Node
  with_store x = record { time = n.time; faces = n.faces; routes = n.routes; pending = n.pending; store = x; dead = n.dead }

  -- with another dead nonce list
  abbrev pub with_dead : List Line → Node
  with_dead x = record { time = n.time; faces = n.faces; routes = n.routes; pending = n.pending; store = n.store; dead = x }

  -- with lines that join the dead nonce list, one after the other
  abbrev pub burying : List Line → Node
  burying xs = with_dead (joined_all most_dead n.dead xs)
