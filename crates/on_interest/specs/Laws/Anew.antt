-- An Interest without an entry: a hit in the store, or the longest route.
-- Assumes nothing.
use Rattle.std.specs.Prelude.{ℕ, ◌≡◌, List, length}
use Rattle.std.specs.declared.option.Option as code
use Rattle.std.proofs.Math.Path.{refl}
use Rattle.std.proofs.Math.Option.{none, some}
use Rattle.packethead.specs.Name.{name_of}
use Rattle.packets.specs.declared.bare.Interest.{Interest}
use Rattle.records.specs.Route.{longest}
use Rattle.records.specs.Stored.{Stored, Hit, lookup}
use Rattle.store.specs.declared.Handle.{Handle}
use Rattle.store.specs.Places.View.{view, placed, found}
use Rattle.store.specs.Operations.{Looks}
use Rattle.store.specs.Laws.Hits.{look_some, look_none}
use Rattle.rules.specs.Node.{Node}
use Rattle.rules.specs.Interest.{Arrival, routed, served, asks_anew, asks_entry}
use Rattle.event.specs.declared.Came.{Came}
use Rattle.event.specs.declared.Memory.{Memory}
use Rattle.event.specs.Memory.{Output, node_of}
use Rattle.coming.specs.Goes.{Goes, guarded}
use Rattle.coming.specs.Places.Found.{ask_found, arrival_named, arrival_found}
use Rattle.coming.specs.Places.Guarded.{Guarded}
use Rattle.coming.specs.Laws.Found.{arrival_named_lem}
use Rattle.coming.specs.Laws.Goes.{goes_by}
use Rattle.opening.specs.Places.Sized.{Sized}
use Rattle.opening.specs.Laws.Checks.{guard_sized}

module _ (m : Memory) (k f : ℕ) (bare name : List ℕ) (i : Interest) (own : name ≡ name_of bare) (looked : code.Option Handle)
    (el : Looks looked (placed m.store) (view m.store) (lookup m.time name i.can_be_prefix i.must_be_fresh (view m.store)))
    (r : Came) (n : Node) (o o' : Output) where
  -- the Data
  abbrev ds : List Stored
  ds = view m.store

  -- a hit is served
  by_hit : (h : Hit) → lookup m.time name i.can_be_prefix i.must_be_fresh ds ≡ some h
      → asks_entry (node_of m).time (node_of m) (arrival_found f bare i) none ≡ served (node_of m) (arrival_found f bare i) h
  unfolding asks_entry asks_anew arrival_found ask_found node_of
  by_hit h e = let q = rw own at e in rw q

  -- a hit is served by the code
  pub anew_serves : (hit : Handle) → looked ≡ code.Option.Some hit
      → ((a : Arrival) (h : Hit) → a.face ≡ f → h.place ≡ placed m.store hit → found m.store hit ≡ some h.what
      → Goes k (served (node_of m) a h) r n o o')
      → Goes k (asks_entry (node_of m).time (node_of m) (arrival_found f bare i) none) r n o o'
  unfolding arrival_found
  anew_serves hit y s =
      let t = look_some ds _ (placed m.store) looked el hit y in
      goes_by _ _ _ r n o o' (by_hit t.hit t.took) (s (arrival_found f bare i) t.hit refl t.at t.there)

  -- else the longest route is taken
  pub anew_routes : looked ≡ code.Option.None → Guarded m.time (length o.buffer) bare name
      → Goes k (guarded (length o.buffer) (length bare) (length name) (node_of m)
      (routed (node_of m).time (node_of m) (arrival_named f name bare i) (longest name (node_of m).routes))) r n o o'
      → Goes k (asks_entry (node_of m).time (node_of m) (arrival_found f bare i) none) r n o o'
  unfolding asks_entry asks_anew arrival_found ask_found node_of
  anew_routes y g h =
      let e = look_none ds _ (placed m.store) looked el y in
      let q = rw own at e in
      let sized : Sized m.time (length o.buffer) (length bare) (length name) =
      record { timely = g.timely; roomy = g.roomy; small = g.small; short = g.short } in
      let past = guard_sized m (length o.buffer) (length bare) (length name) k _ r n o o' sized h in
      rw q (rw (arrival_named_lem f name bare i own, own) at past)
