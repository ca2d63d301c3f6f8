-- The longest matching route, its cheapest eligible hop, and the room for an entry, as the code asks them.
-- Assumes nothing.
use Rattle.std.specs.Prelude.{ℕ, ◌<◌, Bool, true, length, ltb, leb, Some, None}
use Rattle.std.specs.declared.option.Option as code
use Rattle.std.proofs.Math.Path.{◌≡◌, refl}
use Rattle.std.proofs.Common.{sym, ◌∙◌, arith, lt-ltb, le-ltb, leb-true, leb-false}
use Rattle.std.proofs.Math.Bool.{false}
use mathlib.Core.List.{List, [], ◌∷◌, ◌++◌}
use Rattle.std.proofs.Math.Option.{Option, none, some}
use Rattle.answers.specs.declared.Answer.{Answer}
use Rattle.laws.specs.Laws.Pick.{pick_yes, pick_no}
use Rattle.sizes.specs.Sizes.{most_faces, most_entries}
use Rattle.packets.specs.declared.bare.Interest.{Interest}
use Rattle.records.specs.Class.{class_of}
use Rattle.records.specs.Slots.{given, at_place}
use Rattle.records.specs.Face.{is_local_face}
use Rattle.records.specs.Route.{Route, longest, cheapest_of}
use Rattle.records.specs.Entry.{Entry, room_taken}
use Rattle.faces.specs.Set.{has_face, faces_where}
use Rattle.faces.specs.Places.View as faces
use Rattle.routes.specs.Places.View as routes
use Rattle.routes.specs.Places.View.{view_none, view_length}
use Rattle.routes.specs.declared.Routes.{Routes}
use Rattle.routes.specs.Operations.{longest_at, class_word}
use Rattle.routes.specs.Laws.Longest.{longest_place}
use Rattle.routes.specs.Laws.Bridge.{longest_cheapest, longest_class}
use Rattle.pending_entry.specs.Operations.{bare_entry}
use Rattle.pending_table.specs.Places.View.{view}
use Rattle.pending_table.specs.Laws.Room.{room_free, room_class}
use Rattle.rules.specs.Node.{Node}
use Rattle.rules.specs.Outcome.{nack_for}
use Rattle.rules.specs.Interest.{Arrival, eligible, new_entry, no_room, opens_entry, may_open, routed}
use Rattle.event.specs.declared.Came.{Came}
use Rattle.event.specs.declared.Memory.{Memory}
use Rattle.event.specs.Memory.{Output, node_of}
use Rattle.coming.specs.Goes.{Goes}
use Rattle.coming.specs.Places.Found.{limit_of, ask_named, arrival_named}
use Rattle.coming.specs.Laws.Goes.{goes_by}
use Rattle.opening.specs.Places.Way.{Way}

module _ (t : Routes) (name : List ℕ) (q : ℕ → Bool) where
  -- where no route matches there is no hop
  pub way_absent : longest_at name (routes.view t) ≡ length (routes.view t)
      → given none (cheapest_of q) (longest name (routes.view t)) ≡ none
  unfolding given
  way_absent e =
      let i = longest_at name (routes.view t) in
      let no : longest name (routes.view t) ≡ none =
      sym (longest_place name (routes.view t)) ∙ view_none most_faces t i (omega (arith, view_length most_faces t, e)) in
      rw no

  module _ (i : ℕ) (ei : i ≡ longest_at name (routes.view t)) where
    -- the cheapest hop of the route at the place is that of the longest
    pub way_hop : (may : ℕ) → may ≡ faces_where most_faces q → (o : Option ℕ)
        → o ≡ given none (cheapest_of (has_face most_faces may)) (at_place i (routes.view t))
        → given none (cheapest_of q) (longest name (routes.view t)) ≡ o
    way_hop may em o w = sym (rw (ei, em) at w ∙ longest_cheapest most_faces q t name)

    -- so is its class word
    pub way_class : (w : ℕ) → w ≡ given 0 class_word (at_place i (routes.view t))
        → w ≡ given 0 class_word (longest name (routes.view t))
    way_class w e = e ∙ rw (ei, longest_place name (routes.view t))

module _ (now : ℕ) (n : Node) (a : Arrival) where
  -- no eligible hop
  routed_not : (o : Option Route) → given none (cheapest_of (eligible n a (is_local_face n.faces a.face))) o ≡ none
      → routed now n a o ≡ nack_for Answer.NoRoute 150 n a.face a.ask
  unfolding routed given
  routed_not none e = refl
  routed_not (some r) e = rw e

  -- an eligible hop, of a route whose class word says its class
  routed_to : (o : Option Route) (to w : ℕ) → given none (cheapest_of (eligible n a (is_local_face n.faces a.face))) o ≡ some to
      → w ≡ given 0 class_word o → ((r : Route) → o ≡ some r → class_of (class_word r) ≡ r.cls)
      → routed now n a o ≡ may_open now n a (class_of w) to
  unfolding routed given
  routed_to none to w e q s = absurd (let z : ◌≡◌ {A = ℕ} 0 1 = cc in omega arith)
  routed_to (some r) to w e q s = let c : class_of w ≡ r.cls = rw q (s r refl) in rw (e, c)

  module _ (w to : ℕ) (b : Bool)
      (q : b ≡ leb (room_taken (n.pending ++ (bare_entry most_faces [] false false (class_of w) ∷ []))) most_entries) where
    -- the room is that for the new entry
    same_room : room_taken (n.pending ++ (new_entry now n a (class_of w) to ∷ []))
        ≡ room_taken (n.pending ++ (bare_entry most_faces [] false false (class_of w) ∷ []))
    unfolding new_entry bare_entry
    same_room = room_class n.pending _ _ refl

    -- where there is room it opens
    opens_room : b ≡ true → may_open now n a (class_of w) to ≡ opens_entry now n a (class_of w) to
    unfolding may_open no_room
    opens_room y =
        let room = room_taken (n.pending ++ (bare_entry most_faces [] false false (class_of w) ∷ [])) in
        rw same_room
        (pick_no (ltb most_entries room) (nack_for Answer.NoRoom 50 n a.face a.ask) (opens_entry now n a (class_of w) to)
        (le-ltb most_entries room (leb-true room most_entries (sym q ∙ y))))

    -- where there is none it is refused
    opens_not : b ≡ false → may_open now n a (class_of w) to ≡ nack_for Answer.NoRoom 50 n a.face a.ask
    unfolding may_open no_room
    opens_not y =
        let room = room_taken (n.pending ++ (bare_entry most_faces [] false false (class_of w) ∷ [])) in
        rw same_room
        (pick_yes (ltb most_entries room) (nack_for Answer.NoRoom 50 n a.face a.ask) (opens_entry now n a (class_of w) to)
        (lt-ltb most_entries room (leb-false room most_entries (sym q ∙ y))))

module _ (m : Memory) (f : ℕ) (bare name : List ℕ) (i : Interest) (may : ℕ) (local : Bool) (way : code.Option (ℕ × ℕ))
    (el : local ≡ is_local_face (faces.view m.faces) f)
    (em : (n : Node) (a : Arrival) → n.faces ≡ faces.view m.faces → a.face ≡ f → a.ask.hop ≡ limit_of i.hop
    → a.ask.name ≡ name → may ≡ faces_where most_faces (eligible n a local))
    (et : (q : ℕ → Bool) → may ≡ faces_where most_faces q → Way q (longest name (routes.view m.routes)) way) where
  -- the routes
  abbrev rs : List Route
  rs = routes.view m.routes

  -- the Interest that arrived
  abbrev a : Arrival
  a = arrival_named f name bare i

  -- the faces on which it may leave
  abbrev p : ℕ → Bool
  p = eligible (node_of m) (arrival_named f name bare i) (is_local_face (node_of m).faces (arrival_named f name bare i).face)

  -- the set of them
  may_is : may ≡ faces_where most_faces p
  unfolding node_of arrival_named
  may_is = rw el at (em (node_of m) (arrival_named f name bare i) refl refl refl refl)

  -- the hop and the class word are those of the node's longest route
  way_here : Way p (longest name (node_of m).routes) way
  unfolding node_of
  way_here = et p may_is

  module _ (k : ℕ) (r : Came) (n : Node) (o o' : Output) where
    -- the outcome by the longest route
    abbrev Routed : Type 0
    Routed = Goes k (routed (node_of m).time (node_of m) (arrival_named f name bare i) (longest name (node_of m).routes)) r n o o'

    -- no hop: the refusal
    pub routes_none : way ≡ None → Goes k (nack_for Answer.NoRoute 150 (node_of m) f (ask_named name i)) r n o o' → Routed
    unfolding arrival_named
    routes_none z h =
        goes_by _ _ _ r n o o' (routed_not _ _ _ _ (rw z at way_here)) h

    module _ (w to : ℕ) (z : way ≡ Some (w, to)) where
      -- a hop: it may open
      may_open_lem : routed (node_of m).time (node_of m) (arrival_named f name bare i) (longest name (node_of m).routes)
          ≡ may_open (node_of m).time (node_of m) (arrival_named f name bare i) (class_of w) to
      unfolding node_of
      may_open_lem =
          let (hop, word) = rw z at way_here in
          routed_to _ _ _ _ to w hop word (λ x q. longest_class most_faces _ name x q)

      module _ (b : Bool) (q : b ≡ leb (room_taken
          (view m.pending ++ (bare_entry most_faces [] false false (class_of w) ∷ [])))
          most_entries) where
        -- with room it opens
        pub routes_room : b ≡ true
            → Goes k (opens_entry (node_of m).time (node_of m) (arrival_named f name bare i) (class_of w) to) r n o o' → Routed
        unfolding node_of
        routes_room y h = goes_by _ _ _ r n o o' (may_open_lem ∙ opens_room _ (node_of m) _ w to b q y) h

        -- without it is refused
        pub routes_full : b ≡ false → Goes k (nack_for Answer.NoRoom 50 (node_of m) f (ask_named name i)) r n o o' → Routed
        unfolding node_of arrival_named
        routes_full y h = goes_by _ _ _ r n o o' (may_open_lem ∙ opens_not _ (node_of m) _ w to b q y) h

-- where there is room for an entry of a class a row is free
pub row_free : (es : List Entry) (w : ℕ) (b : Bool)
    → b ≡ leb (room_taken (es ++ (bare_entry most_faces [] false false (class_of w) ∷ []))) most_entries → b ≡ true
    → length es < most_entries
row_free es w b q y = room_free es _ (leb-true _ most_entries (sym q ∙ y))
