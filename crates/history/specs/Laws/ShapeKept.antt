-- Every event keeps the shape of a node (`step_shaped`), and the empty node has it (`empty_shaped`): so every node that events lead to
-- has it (`run_shaped`).
-- Assumes nothing.
use Rattle.std.specs.Prelude.{ℕ, ◌≤◌, ◌≡◌, refl, Bool, true, false, length}
use Rattle.std.proofs.Common.{◌∙◌, ltb-false, arith}
use mathlib.Core.List.{List, [], ◌∷◌, ◌++◌}
use Rattle.std.proofs.Math.Option.{Option, none, some}
use Rattle.std.proofs.Math.ListN.{get_elem?}
use Rattle.answers.specs.declared.Answer.{Answer}
use Rattle.laws.specs.Pick.{pick}
use Rattle.laws.specs.Laws.Pick.{pick_ind}
use Rattle.laws.specs.Lists.{on_at, without}
use Rattle.names.specs.Laws.Same as names
use Rattle.packets.specs.Meaning.{Ask, Offer}
use Rattle.packets.specs.Well.{Well}
use Rattle.sizes.specs.Sizes.{most_entries, most_name, most_packet}
use Rattle.records.specs.Slots.{holds, set_slot, given, only, at_place}
use Rattle.records.specs.Face.{Face, is_open}
use Rattle.records.specs.Class.{Class, class_of, reserve}
use Rattle.records.specs.Route.{Route}
use Rattle.records.specs.Ageing.{becoming}
use Rattle.records.specs.Stored.{Hit}
use Rattle.records.specs.Entry.{Entry, with_requests, with_sent, asking, ending, sending, taken_by, is_idle, used_by, room_taken, with_nack}
use Rattle.rules.specs.Node.{face_in, opens_face, Node, What, Event, empty_node, with_pending, with_routes, with_faces}
use Rattle.rules.specs.Outcome.{Outcome, quiet, nack_for}
use Rattle.rules.specs.Ageing.{aged}
use Rattle.rules.specs.Interest.{Arrival, eligible, new_entry, no_room, entry_of, opens_entry, resends, sends_on, renews, asks_again, served}
use Rattle.rules.specs.Data.{stored_as, satisfies}
use Rattle.rules.specs.Nack.{settled, ends_by_nack}
use Rattle.rules.specs.Command.{face_of, close_step}
use Rattle.rules.specs.Step.{bad_face, after_ageing, step, run}
use Rattle.history.specs.Lists.{nothing, alone}
use Rattle.history.specs.Laws.Every.{all_on_at, all_in}
use Rattle.history.specs.Laws.Holding.{length_no_slots}
use Rattle.records.specs.Laws.Slot.{length_set_slot}
use Rattle.history.specs.Laws.Hops.{MayTake, cheapest_may, resends_may}
use Rattle.history.specs.Laws.Lookup.{lookup_takes}
use Rattle.history.specs.Laws.Becomes.{aged_face, arrival, GoodFace, good_face, came_face, Past, Becomes, ignored, taken, becomes, asked, brought}
use Rattle.history.specs.Laws.Becomes as case
use Rattle.history.specs.Laws.Names.{interest_name, data_name, data_size}
use Rattle.history.specs.Moments.{reached}
use Rattle.history.specs.Shape.{RoutesShaped, PendingShaped, Shaped}
use Rattle.history.specs.Laws.Known.{entry_in, entry_changed, with_request, sent_on, without_peer}
use Rattle.history.specs.Laws.Tables.{asked_entry, sent_entry, new_entry_lem, nacked_entry_lem, fewer_entry, aged_pending_lem, opened_pending, changed_pending, only_pending, without_pending, closed_pending, more_pending, added_routes, classed_routes, hopped_routes, dropped_routes, without_routes, closed_routes, more_routes, stored_shaped, touched_shaped, dead_few}

-- the empty node has the shape
pub empty_shaped : (faces : ℕ) → Shaped faces (empty_node faces)
unfolding empty_node room_taken taken_by reserve used_by only
empty_shaped faces = record {
  size = length_no_slots Face faces;
  routes = record { each = nothing; few = omega arith; apart = alone };
  pending = record { each = nothing; room = omega arith; apart = alone };
  store = record { each = nothing; few = omega arith; apart = alone };
  dead = omega arith;
}

-- ageing keeps it
pub aged_shaped : (faces now : ℕ) (n : Node) → Shaped faces n → Shaped faces (aged now n)
unfolding aged
aged_shaped faces now n s = record {
  size = s.size;
  routes = s.routes;
  pending = aged_pending_lem faces n.faces now n.pending s.pending;
  store = s.store;
  dead = dead_few n.dead _ s.dead;
}

-- an eligible hop is open
pub may_open_lem : (n : Node) (a : Arrival) (l : Bool) (f : ℕ) → MayTake n a l f → is_open n.faces f ≡ true
unfolding eligible
may_open_lem n a l f h = (names.both (is_open n.faces f) _ (names.both _ _ h.fit).0).0

module _ (faces now : ℕ) (n : Node) (s : Shaped faces n) where
  -- a node with other entries
  with_pending_lem : (es : List Entry) → PendingShaped faces n.faces es → Shaped faces (with_pending n es)
  with_pending_lem es p = record { size = s.size; routes = s.routes; pending = p; store = s.store; dead = s.dead }

  -- a node with other routes
  with_routes_lem : (rs : List Route) → RoutesShaped faces n.faces rs → Shaped faces (with_routes n rs)
  with_routes_lem rs p = record { size = s.size; routes = p; pending = s.pending; store = s.store; dead = s.dead }

  -- an Interest that opens an entry
  opened_shaped : (a : Arrival) (c : Class) (h : ℕ) → Well a.ask.name → GoodFace faces n a.face → is_open n.faces h ≡ true
      → at_place (entry_of n a.ask) n.pending ≡ none → no_room n (new_entry now n a c h) ≡ false
      → Shaped faces (opens_entry now n a c h).node
  unfolding opens_entry entry_of no_room new_entry
  opened_shaped a c h k g o q r =
      with_pending_lem (n.pending ++ (new_entry now n a c h ∷ []))
      (opened_pending faces n.faces n.pending (new_entry now n a c h) s.pending
      (new_entry_lem faces n.faces now n a c h s.size k g.low g.high g.stands o) q (ltb-false most_entries _ r))

  -- an Interest whose entry is there
  again_pending : (a : Arrival) (i : ℕ) → GoodFace faces n a.face → (x : Option ℕ) → ((h : ℕ) → x ≡ some h → is_open n.faces h ≡ true)
      → PendingShaped faces n.faces (on_at i (λ y. sent_on now a x (with_request now a y)) n.pending)
  unfolding given asking sending with_requests with_sent
  again_pending a i g none k =
      changed_pending faces n.faces i (λ y. with_request now a y) (λ y. (refl, (refl, refl))) (λ y. refl) n.pending s.pending
      (all_on_at i (λ y. with_request now a y) (λ y t. asked_entry faces n.faces now a y g.low g.high g.stands t)
      s.pending.each)
  again_pending a i g (some h) k =
      changed_pending faces n.faces i (λ y. sent_on now a (some h) (with_request now a y)) (λ y. (refl, (refl, refl))) (λ y. refl)
      n.pending s.pending
      (all_on_at i (λ y. sent_on now a (some h) (with_request now a y))
      (λ y t. sent_entry faces n.faces _ h (with_request now a y) (k h refl)
      (asked_entry faces n.faces now a y g.low g.high g.stands t)) s.pending.each)

  -- the node that it leaves
  again_shaped : (a : Arrival) (i : ℕ) (e : Entry) → GoodFace faces n a.face → at_place i n.pending ≡ some e
      → Shaped faces (asks_again now n a i e).node
  unfolding asks_again renews sends_on
  again_shaped a i e g w =
      with_pending_lem _ (rw (entry_changed i n.pending e (λ y. sent_on now a (resends now n a (with_request now a e))
      (with_request now a y)) w)
      (again_pending a i g (resends now n a (with_request now a e))
      (λ h q. may_open_lem n a _ h (resends_may now n a (with_request now a e) h q))))

  -- a Nack for an out-record
  marked_shaped : (i f r : ℕ) (e : Entry) → at_place i n.pending ≡ some e
      → PendingShaped faces n.faces (on_at i (λ _. with_nack f r e) n.pending)
  unfolding with_nack with_sent
  marked_shaped i f r e q =
      rw (entry_changed i n.pending e (with_nack f r) q)
      (changed_pending faces n.faces i (with_nack f r) (λ y. (refl, (refl, refl))) (λ y. refl) n.pending s.pending
      (all_on_at i (with_nack f r) (λ y t. nacked_entry_lem faces n.faces f r y t) s.pending.each))

  -- a Nack that ends requests
  settled_pending : (i f r : ℕ) (e : Entry) → at_place i n.pending ≡ some e
      → PendingShaped faces n.faces
      (pick (is_idle (without_peer n (with_nack f r e))) (without i n.pending) (on_at i (λ _. without_peer n (with_nack f r e)) n.pending))
  unfolding with_nack with_sent ending with_requests
  settled_pending i f r e q =
      pick_ind (PendingShaped faces n.faces) (is_idle (without_peer n (with_nack f r e))) _ _
      (λ _. without_pending faces n.faces i n.pending s.pending)
      (λ b.
      let same = entry_changed i n.pending e (λ x. without_peer n (with_nack f r x)) q in
      let shaped = fewer_entry faces n.faces _ (with_nack f r e)
      (nacked_entry_lem faces n.faces f r e (all_in s.pending.each (entry_in i n.pending e q))) b in
      rw same
      (changed_pending faces n.faces i (λ x. without_peer n (with_nack f r x)) (λ y. (refl, (refl, refl))) (λ y. refl) n.pending
      s.pending
      (rw same at (all_on_at i (λ _. without_peer n (with_nack f r e)) (λ y t. shaped) s.pending.each))))

  -- the node that it leaves
  settled_shaped : (i f r : ℕ) (e : Entry) → at_place i n.pending ≡ some e → Shaped faces (ends_by_nack now n i (with_nack f r e)).node
  unfolding ends_by_nack settled becoming
  settled_shaped i f r e q = record {
    size = s.size;
    routes = s.routes;
    pending = settled_pending i f r e q;
    store = s.store;
    dead = dead_few n.dead _ s.dead;
  }

  -- a refusal of an Interest leaves the node
  refusal_shaped : (a : Answer) (reason f : ℕ) (i : Ask) → Shaped faces (nack_for a reason n f i).node
  unfolding nack_for
  refusal_shaped a reason f i = s

  -- an Interest that the store serves
  served_shaped : (a : Arrival) (h : Hit) → get_elem? n.store h.place ≡ some h.what → Shaped faces (served n a h).node
  unfolding served
  served_shaped a h e =
      record { size = s.size; routes = s.routes; pending = s.pending; store = touched_shaped h n.store e s.store; dead = s.dead }

  -- a Data that ends requests
  satisfied_shaped : (f : ℕ) (d : Offer) (bytes : List ℕ) → length d.name ≤ most_name → length bytes ≤ most_packet
      → Shaped faces (satisfies now n f d bytes).node
  unfolding satisfies stored_as
  satisfied_shaped f d bytes a b = record {
    size = s.size;
    routes = s.routes;
    pending = only_pending faces n.faces _ n.pending s.pending;
    store = stored_shaped (stored_as now d bytes) n.store (record { name = a; bytes = b }) s.store;
    dead = dead_few n.dead _ s.dead;
  }

  -- a face closed
  closed_shaped : (f : ℕ) → Shaped faces (close_step now n f).node
  unfolding close_step
  closed_shaped f = record {
    size = length_set_slot f none n.faces ∙ s.size;
    routes = closed_routes faces n.faces f n.routes s.routes;
    pending = closed_pending faces n.faces f n.pending s.pending;
    store = s.store;
    dead = dead_few n.dead _ s.dead;
  }

  -- a face opened
  more_shaped : (f : ℕ) (x : Face) → Shaped faces (with_faces n (set_slot f (some x) n.faces))
  more_shaped f x = record {
    size = length_set_slot f (some x) n.faces ∙ s.size;
    routes = more_routes faces n.faces f x n.routes s.routes;
    pending = more_pending faces n.faces f x n.pending s.pending;
    store = s.store;
    dead = s.dead;
  }

  -- whatever an event comes to past the first three checks
  past_shaped : (w : What) (o : Outcome) → bad_face faces n w ≡ false → Past faces now n w o → Shaped faces o.node
  unfolding quiet bad_face holds face_in opens_face
  past_shaped w o fine (case.unread f a k) = s
  past_shaped w o fine (case.refused f a d) = s
  past_shaped w o fine (case.turned_away v a d) = s
  past_shaped w o fine case.ticked = s
  past_shaped w o fine (case.nacked_back f q a reason k) = refusal_shaped a reason f (asked q)
  past_shaped w o fine (case.served_from f q h found absent) = served_shaped (arrival f q) h (lookup_takes now _ _ _ n.store h found).0
  past_shaped w o fine (case.opened f q r h a b c d) =
      opened_shaped (arrival f q) r.cls h (interest_name q) (came_face faces n w f _ q.comes fine)
      (may_open_lem n (arrival f q) _ h (cheapest_may n (arrival f q) _ r h c)) a d
  past_shaped w o fine (case.joined f q x a) = again_shaped (arrival f q) _ x (came_face faces n w f _ q.comes fine) a
  past_shaped w o fine (case.satisfied f q a) = satisfied_shaped f (brought q) q.bytes (data_name q) (data_size q)
  past_shaped w o fine (case.marked f q x a k z) = with_pending_lem _ (marked_shaped _ f q.reason x a)
  past_shaped w o fine (case.nacked_on f q x a k z) = settled_shaped _ f q.reason x a
  past_shaped w o fine (case.opens_face f scope link a) = more_shaped f (face_of scope link)
  past_shaped w o fine (case.closes_face f) = closed_shaped f
  past_shaped w o fine (case.sets_class c p a b) = with_routes_lem _ (classed_routes faces n.faces _ (class_of c) n.routes s.routes)
  past_shaped w o fine (case.adds_route c p h a b d) =
      with_routes_lem _ (added_routes faces n.faces p (class_of c) n.routes h b d s.routes)
  past_shaped w o fine (case.drops_route p a) = with_routes_lem _ (without_routes faces n.faces _ n.routes s.routes)
  past_shaped w o fine (case.adds_hop f cost p a b) =
      with_routes_lem _ (hopped_routes faces n.faces _ f cost n.routes (good_face faces n f fine).stands a s.routes)
  past_shaped w o fine (case.drops_hop f p a) = with_routes_lem _ (dropped_routes faces n.faces _ f n.routes s.routes)

module _ (faces least : ℕ) where
  -- whatever an event comes to
  by_case : (e : Event) (n : Node) (o : Outcome) → Becomes faces least e n o → Shaped faces n → Shaped faces o.node
  unfolding quiet after_ageing
  by_case e n o (ignored a d) s = s
  by_case e n o (taken p t f k) s =
      past_shaped faces e.time (aged e.time n) (aged_shaped faces e.time n s) e.what p
      (aged_face faces e.time n e.what f) k

  -- every event keeps the shape, a refused one too
  pub step_shaped : (e : Event) (n : Node) → Shaped faces n → Shaped faces (step faces least e n).node
  step_shaped e n s = by_case e n (step faces least e n) (becomes faces least e n) s

  -- events one after the other keep it
  pub run_keeps : (es : List Event) (n : Node) → Shaped faces n → Shaped faces (run (step faces least) es n)
  unfolding run
  run_keeps [] n s = s
  run_keeps (e ∷ es) n s = run_keeps es (step faces least e n).node (step_shaped e n s)

  -- start from an empty node and take any events: the node has the shape
  pub run_shaped : (es : List Event) → Shaped faces (reached faces (step faces least) es)
  run_shaped es = run_keeps es (empty_node faces) (empty_shaped faces)
