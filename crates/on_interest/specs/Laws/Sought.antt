-- An Interest by its entry, as the code finds it.
-- Assumes nothing.
use Rattle.std.specs.Prelude.{ℕ, ◌≤◌, ◌<◌, ◌≡◌, Bool, true, false, List, length, ltb}
use Rattle.std.specs.Bool.{then_some}
use Rattle.std.specs.Option.{MatchOption}
use Rattle.std.proofs.Math.Path.{refl, sym, ap}
use Rattle.std.proofs.Common.{◌∙◌, true≢false, lt-ltb, le-ltb, ltb-true, ltb-false}
use Rattle.std.proofs.Math.Option.{Option, none, some}
use Rattle.answers.specs.declared.Answer.{Answer}
use Rattle.laws.specs.Laws.Pick.{pick_yes, pick_no}
use Rattle.laws.specs.Lists.{index_of}
use Rattle.packethead.specs.Name.{name_of}
use Rattle.packets.specs.declared.bare.Interest.{Interest}
use Rattle.records.specs.Slots.{is_some, at_place}
use Rattle.records.specs.Entry.{Entry, is_known}
use Rattle.faces.specs.Places.View as faces
use Rattle.dead.specs.Places.View as dead
use Rattle.routes.specs.Laws.Bridge.{there_less}
use Rattle.pending_table.specs.declared.Handle.{Handle}
use Rattle.pending_table.specs.Places.View.{view}
use Rattle.rules.specs.Node.{Node}
use Rattle.rules.specs.Outcome.{nack_for}
use Rattle.rules.specs.Interest.{Arrival, entry_of, loops, asks_again, asks_entry}
use Rattle.event.specs.declared.Came.{Came}
use Rattle.event.specs.declared.Memory.{Memory}
use Rattle.event.specs.Memory.{Output, node_of}
use Rattle.coming.specs.Goes.{Goes}
use Rattle.coming.specs.Places.Found.{ask_named, ask_found, arrival_found}
use Rattle.on_interest.specs.Places.Sought.{sought}
use Rattle.coming.specs.Laws.Goes.{goes_by}

module _ (m : Memory) (k f : ℕ) (bare name : List ℕ) (i : Interest) (j : ℕ) (own : name ≡ name_of bare)
    (ej : j ≡ index_of (is_known name i.can_be_prefix i.must_be_fresh)
    (view m.pending))
    (b : Bool)
    (eb : (n : Node) (a : Arrival) → n.faces ≡ faces.view m.faces
    → n.pending ≡ view m.pending → n.dead ≡ dead.view m.dead
    → a.face ≡ f → a.ask.name ≡ name → a.ask.nonce ≡ i.nonce
    → index_of (is_known name i.can_be_prefix i.must_be_fresh) (view m.pending) ≡ entry_of n a.ask → b ≡ loops m.time n a)
    (r : Came) (n : Node) (o o' : Output) where
  -- the entries
  abbrev es : List Entry
  es = view m.pending

  -- the place that was found is that of the Interest's entry
  place_is : j ≡ entry_of (node_of m) (arrival_found f bare i).ask
  unfolding entry_of arrival_found ask_found node_of
  place_is = rw own at ej

  -- whether it loops
  loops_is : b ≡ loops (node_of m).time (node_of m) (arrival_found f bare i)
  unfolding arrival_found ask_found node_of
  loops_is = eb (node_of m) (arrival_found f bare i) refl refl refl refl (sym own) refl (sym ej ∙ place_is)

  -- a loop is refused
  pub sought_loop : b ≡ true → Goes k (nack_for Answer.Loop 100 (node_of m) f (ask_named name i)) r n o o'
      → Goes k (sought (node_of m).time (node_of m) (arrival_found f bare i)) r n o o'
  unfolding sought arrival_found ask_found
  sought_loop y h = goes_by _ _ _ r n o o' (pick_yes _ _ _ (sym loops_is ∙ y)) (rw own at h)

  -- else it goes by what stands at the place
  by_entry : b ≡ false
      → sought (node_of m).time (node_of m) (arrival_found f bare i)
      ≡ asks_entry (node_of m).time (node_of m) (arrival_found f bare i) (at_place j es)
  unfolding sought node_of
  by_entry y =
      pick_no _ _ _ (sym loops_is ∙ y)
      ∙ ap (λ (z : ℕ). asks_entry (node_of m).time (node_of m) (arrival_found f bare i) (at_place z es)) (sym place_is)

  module _ (y : b ≡ false) where
    -- what stands there is asked again
    pub sought_again : j < length (view m.pending)
        → ((e : Entry) → at_place j (view m.pending) ≡ some e
        → Goes k (asks_again (node_of m).time (node_of m) (arrival_found f bare i) j e) r n o o')
        → Goes k (sought (node_of m).time (node_of m) (arrival_found f bare i)) r n o o'
    unfolding is_some asks_entry
    sought_again z h = goes_by _ _ _ r n o o' (by_entry y) (go (at_place j es) refl)
      where
        go : (x : Option Entry) → at_place j es ≡ x → Goes k (asks_entry (node_of m).time (node_of m) (arrival_found f bare i) x) r n o o'
        go none q = absurd (true≢false (sym (lt-ltb j (length es) z) ∙ sym (there_less j es) ∙ ap is_some q))
        go (some e) q =
            goes_by _ _ _ r n o o'
            (ap (λ (w : ℕ). asks_again (node_of m).time (node_of m) (arrival_found f bare i) w e) (sym place_is)) (h e q)

    -- where nothing does it is asked anew
    pub sought_anew : length (view m.pending) ≤ j
        → Goes k (asks_entry (node_of m).time (node_of m) (arrival_found f bare i) none) r n o o'
        → Goes k (sought (node_of m).time (node_of m) (arrival_found f bare i)) r n o o'
    unfolding is_some
    sought_anew z h = goes_by _ _ _ r n o o' (by_entry y) (go (at_place j es) refl)
      where
        go : (x : Option Entry) → at_place j es ≡ x → Goes k (asks_entry (node_of m).time (node_of m) (arrival_found f bare i) x) r n o o'
        go none q = h
        go (some e) q = absurd (true≢false (sym (ap is_some q) ∙ there_less j es ∙ le-ltb j (length es) z))

-- the handle that was found, if an entry stands there
pub met_by : (place : Handle → ℕ) (es : List Entry) (j : ℕ) (h : Handle) (there : Bool) → place h ≡ j → there ≡ ltb (place h) (length es)
    → MatchOption (then_some there h) (length es ≤ j) (λ g. (place g < length es) × (place g ≡ j))
met_by place es j h true e q = (ltb-true _ _ (sym q), e)
met_by place es j h false e q = rw e at (ltb-false _ _ (sym q))
