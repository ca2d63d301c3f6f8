-- The shape of each table of a node, and what keeps it: what the rules do to entries, routes, stored Data and dead nonces.
-- Assumes nothing.
use Prim.Native.Nat.{ℕ, zero, suc, ◌+◌, ◌≤◌, ◌<◌}
use Rattle.std.specs.Prelude.{◌≡◌, Bool, true, length, get_or, set, drop, ltb}
use Rattle.std.proofs.Math.Path.{refl}
use Rattle.std.proofs.Common.{sym, ◌∙◌, ⊎_elim, length-drop, ltb-true}
use Rattle.std.proofs.Math.Bool.{false, not}
use mathlib.Core.List.{List, [], ◌∷◌, ◌++◌, map}
use Rattle.std.proofs.Math.Option.{Option, none, some}
use Rattle.std.proofs.Math.ListN.{length-append, length-map, get_elem?, get_or-map}
use Rattle.std.proofs.lemmas.Bool.{not-true}
use native.Mathlib.Omega.{arith}
use Rattle.laws.specs.Laws.Pick.{pick_ind}
use Rattle.laws.specs.Lists.{on_at, without, index_of}
use Rattle.laws.specs.Laws.Tab.{length_on_at, length_without}
use Rattle.names.specs.Name.{same_bytes}
use Rattle.names.specs.Laws.Same.{same_equal, same_not}
use Rattle.packets.specs.Well.{Well}
use Rattle.records.specs.Class.{Class}
use Rattle.records.specs.Slots.{no_slots, slot, set_slot, emptied, is_some, only, each, at_place}
use Rattle.records.specs.Face.{Face, is_open}
use Rattle.records.specs.Route.{Route, route_of, with_class, new_route, with_hop}
use Rattle.records.specs.Entry.{Request, Sent, Entry, is_known, with_requests, with_sent, asking, not_asking, ending, sending, not_sent, is_idle, if_live, aged_entry, room_taken, mark_nacked, with_nack}
use Rattle.records.specs.Stored.{Stored, Hit, others, room_for, stored, touched}
use Rattle.records.specs.Line.{Line, joined, joined_all}
use Rattle.sizes.specs.Sizes.{most_routes, most_entries, most_stored, most_dead, most_name, most_cost}
use Rattle.rules.specs.Node.{Node}
use Rattle.rules.specs.Interest.{Arrival, request_of, sent_of, new_entry}
use Rattle.records.specs.Closing.{without_face}
use Rattle.history.specs.Laws.Every.{not_none, at_in, all_mono, all_only, only_test, all_and, all_map, all_snoc, all_on_at, all_without, all_drop, all_in}
use Rattle.history.specs.Lists.{All, Apart}
use Rattle.history.specs.Laws.Known.{differs, entry_none, known_same, with_request}
use Rattle.history.specs.Laws.Apart.{apart_only, apart_map, apart_on_at, apart_snoc, apart_without, apart_drop, none_found, others_fail, apart_other}
use Rattle.history.specs.Laws.Holding.{has_some, set_some, unset_some, emptied_some, none_some, length_no_slots, not_empty}
use Rattle.records.specs.Laws.Slot.{length_set_slot, slot_set_same, slot_set_other, set_slot_keeps, length_emptied}
use Rattle.history.specs.Laws.Room.{room_only, room_map, room_on_at, room_without}
use Rattle.history.specs.Shape.{AtOpen, EntryShaped, RouteShaped, StoredShaped, OtherEntry, OtherStored, RoutesShaped, PendingShaped, StoreShaped}
use Rattle.records.specs.Ageing.{staying, aged_pending}

-- ---- open faces

-- opening a face closes none
open_more : (fs : List (Option Face)) (f g : ℕ) (x : Face) → is_open fs g ≡ true → is_open (set_slot f (some x) fs) g ≡ true
unfolding is_open is_some
open_more fs f g x h = set_slot_keeps (λ (y : Option Face). is_some y ≡ true) f g (some x) fs refl h

-- closing a face closes no other
open_less : (fs : List (Option Face)) (f g : ℕ) → (g ≡ f → ⊥) → is_open fs g ≡ true → is_open (set_slot f none fs) g ≡ true
unfolding is_open
open_less fs f g d h = rw (slot_set_other f g none fs d) h

module _ {A : Type 0} (fs : List (Option Face)) (l : List (Option A)) (h : AtOpen fs l) where
  -- a slot set at an open face
  at_set : (f : ℕ) (x : Option A) → is_open fs f ≡ true → AtOpen fs (set_slot f x l)
  at_set f x o g s = ⊎_elim (λ (q : g ≡ f). rw q o) (λ k. h g k) (set_some g f x l s)

  -- a slot emptied
  at_unset : (f : ℕ) → AtOpen fs (set_slot f none l)
  at_unset f g s = h g (unset_some g f l s).1

  -- a slot emptied, and its face closed
  at_closed : (f : ℕ) → AtOpen (set_slot f none fs) (set_slot f none l)
  at_closed f g s = let u = unset_some g f l s in open_less fs f g u.0 (h g u.1)

  -- another face opened
  at_opened : (f : ℕ) (x : Face) → AtOpen (set_slot f (some x) fs) l
  at_opened f x g s = open_more fs f g x (h g s)

-- no slot holds anything
at_none : (A : Type 0) (fs : List (Option Face)) (n : ℕ) → AtOpen fs (no_slots {A = A} n)
at_none A fs n g s = absurd (none_some A g n s)

-- ---- entries

-- a slot after ageing has its request, if that lives
pub slot_live : (now g : ℕ) (l : List (Option Request)) → slot g (map (if_live now) l) ≡ if_live now (slot g l)
unfolding slot if_live
slot_live now zero l = refl
slot_live now (suc i) l = get_or-map (if_live now) l i none

module _ (faces : ℕ) (fs : List (Option Face)) where
  -- a slot with its request, if that lives, holds no more than before
  live_some : (now : ℕ) (x : Option Request) → is_some (if_live now x) ≡ true → is_some x ≡ true
  unfolding is_some if_live
  live_some now none h = h
  live_some now (some r) h = refl

  -- an entry with the requests that live, if there are any
  aged_entry_lem : (now : ℕ) (e : Entry) → EntryShaped faces fs e → is_idle (aged_entry now e) ≡ false → EntryShaped faces fs (aged_entry now e)
  unfolding aged_entry with_requests
  aged_entry_lem now e s b = record {
    name = s.name;
    requests = length-map e.requests (if_live now) ∙ s.requests;
    sent = s.sent;
    from = λ g h. s.from g (live_some now (slot g e.requests) (rw (slot_live now g e.requests) at h));
    to = s.to;
    busy = b;
  }

  -- an entry with a request more, or renewed, at an open face
  pub asked_entry : (now : ℕ) (a : Arrival) (e : Entry) → 1 ≤ a.face → a.face ≤ faces → is_open fs a.face ≡ true
      → EntryShaped faces fs e
      → EntryShaped faces fs (with_request now a e)
  unfolding asking with_requests is_idle
  asked_entry now a e l h o s = record {
    name = s.name;
    requests = length_set_slot a.face (some (request_of now a)) e.requests ∙ s.requests;
    sent = s.sent;
    from = at_set fs e.requests s.from a.face (some (request_of now a)) o;
    to = s.to;
    busy =
        not_empty a.face _ (request_of now a) (slot_set_same a.face (some (request_of now a)) e.requests l
        (omega (arith, s.requests)));
  }

  -- an entry sent on to an open face
  pub sent_entry : (x : Sent) (f : ℕ) (e : Entry) → is_open fs f ≡ true → EntryShaped faces fs e
      → EntryShaped faces fs (sending f x e)
  unfolding sending with_sent is_idle
  sent_entry x f e o s = record {
    name = s.name;
    requests = s.requests;
    sent = length_set_slot f (some x) e.sent ∙ s.sent;
    from = s.from;
    to = at_set fs e.sent s.to f (some x) o;
    busy = s.busy;
  }

  -- a new entry, asked and sent on at open faces
  pub new_entry_lem : (now : ℕ) (n : Node) (a : Arrival) (c : Class) (f : ℕ) → length n.faces ≡ faces → Well a.ask.name
      → 1 ≤ a.face → a.face ≤ faces → is_open fs a.face ≡ true → is_open fs f ≡ true → EntryShaped faces fs (new_entry now n a c f)
  unfolding new_entry is_idle
  new_entry_lem now n a c f q b l h o p = record {
    name = b;
    requests =
        length_set_slot a.face (some (request_of now a)) (no_slots (length n.faces)) ∙ length_no_slots Request (length n.faces) ∙ q;
    sent = length_set_slot f (some (sent_of now a)) (no_slots (length n.faces)) ∙ length_no_slots Sent (length n.faces) ∙ q;
    from = at_set fs (no_slots (length n.faces)) (at_none Request fs (length n.faces)) a.face (some (request_of now a)) o;
    to = at_set fs (no_slots (length n.faces)) (at_none Sent fs (length n.faces)) f (some (sent_of now a)) p;
    busy =
        not_empty a.face _ (request_of now a)
        (slot_set_same a.face (some (request_of now a)) (no_slots (length n.faces)) l
        (omega (arith, length_no_slots Request (length n.faces))));
  }

  -- marking an out-record sets no other
  marked_some : (r : ℕ) (i j : ℕ) (l : List (Option Sent)) → is_some (get_or (set l i (mark_nacked r (get_or l i none))) j none) ≡ true
      → is_some (get_or l j none) ≡ true
  unfolding is_some mark_nacked
  marked_some r i j [] h = h
  marked_some r zero zero (none ∷ l) h = h
  marked_some r zero zero (some x ∷ l) h = refl
  marked_some r zero (suc j) (x ∷ l) h = h
  marked_some r (suc i) zero (x ∷ l) h = h
  marked_some r (suc i) (suc j) (x ∷ l) h = marked_some r i j l h

  -- nor does it by face
  marked_slot : (r f g : ℕ) (l : List (Option Sent)) → is_some (slot g (set_slot f (mark_nacked r (slot f l)) l)) ≡ true
      → is_some (slot g l) ≡ true
  unfolding slot set_slot
  marked_slot r f zero l h = h
  marked_slot r zero (suc j) l h = h
  marked_slot r (suc i) (suc j) l h = marked_some r i j l h

  -- an entry with an out-record Nacked
  pub nacked_entry_lem : (f r : ℕ) (e : Entry) → EntryShaped faces fs e → EntryShaped faces fs (with_nack f r e)
  unfolding with_nack with_sent is_idle
  nacked_entry_lem f r e s = record {
    name = s.name;
    requests = s.requests;
    sent = length_set_slot f (mark_nacked r (slot f e.sent)) e.sent ∙ s.sent;
    from = s.from;
    to = λ g h. s.to g (marked_slot r f g e.sent h);
    busy = s.busy;
  }

  -- an entry without the requests of some faces, if others are left
  pub fewer_entry : (p : ℕ → Bool) (e : Entry) → EntryShaped faces fs e → is_idle (ending p e) ≡ false → EntryShaped faces fs (ending p e)
  unfolding ending emptied with_requests is_some
  fewer_entry p e s b = record {
    name = s.name;
    requests = length_emptied p 1 e.requests ∙ s.requests;
    sent = s.sent;
    from = λ g h. s.from g (let (x, q) = has_some (slot g (emptied p e.requests)) h in rw (emptied_some p g e.requests x q));
    to = s.to;
    busy = b;
  }

  -- an entry without a face's records, where that face closes, if other requests are left
  closed_entry : (f : ℕ) (e : Entry) → EntryShaped faces fs e → is_idle (without_face f e) ≡ false
      → EntryShaped faces (set_slot f none fs) (without_face f e)
  unfolding not_asking not_sent with_requests with_sent
  closed_entry f e s b = record {
    name = s.name;
    requests = length_set_slot f none e.requests ∙ s.requests;
    sent = length_set_slot f none e.sent ∙ s.sent;
    from = at_closed fs e.requests s.from f;
    to = at_closed fs e.sent s.to f;
    busy = b;
  }

  -- an entry, where another face opens
  opened_entry : (f : ℕ) (x : Face) (e : Entry) → EntryShaped faces fs e → EntryShaped faces (set_slot f (some x) fs) e
  opened_entry f x e s = record {
    name = s.name;
    requests = s.requests;
    sent = s.sent;
    from = at_opened fs e.requests s.from f x;
    to = at_opened fs e.sent s.to f x;
    busy = s.busy;
  }

-- ---- lists

module _ {A : Type 0} where
  -- taking out makes no list longer
  without_length : (i : ℕ) (l : List A) → length (without i l) ≤ length l
  unfolding without
  without_length i [] = omega arith
  without_length zero (a ∷ l) = omega arith
  without_length (suc i) (a ∷ l) = omega (arith, without_length i l)

  -- where something stands, the list has not ended
  place_in_lem : (i : ℕ) (x : A) (l : List A) → get_elem? l i ≡ some x → i < length l
  place_in_lem i x [] e = not_none e
  place_in_lem zero x (a ∷ l) e = omega arith
  place_in_lem (suc i) x (a ∷ l) e = omega (arith, place_in_lem i x l e)

-- ---- the pending entries

-- an entry known by the same name and flags as another, and of its class
pub record SameKey (x e : Entry) : Type 0 where
  pub name : x.name ≡ e.name
  pub prefix : x.can_be_prefix ≡ e.can_be_prefix
  pub fresh : x.must_be_fresh ≡ e.must_be_fresh
  pub cls : x.cls ≡ e.cls

-- entries changed so are apart where they were
other_same : {g : Entry → Entry} → ((e : Entry) → SameKey (g e) e) → (a b : Entry) → OtherEntry a b → OtherEntry (g a) (g b)
other_same k a b d x y z =
    d (sym (k a).name ∙ x ∙ (k b).name) (sym (k a).prefix ∙ y ∙ (k b).prefix) (sym (k a).fresh ∙ z ∙ (k b).fresh)

module _ (faces : ℕ) (fs : List (Option Face)) where
  -- the entries that have requests, each changed, but not what it is known by nor its class
  pub staying_pending : (gs : List (Option Face)) (g : Entry → Entry) → ((e : Entry) → SameKey (g e) e)
      → ((e : Entry) → EntryShaped faces fs e → is_idle (g e) ≡ false → EntryShaped faces gs (g e)) → (es : List Entry)
      → PendingShaped faces fs es → PendingShaped faces gs (staying (map g es))
  unfolding staying
  staying_pending gs g k h es s = record {
    each =
        all_mono (λ e p. p.0 (not-true (is_idle e) p.1))
        (all_and
        (all_only (λ e. not (is_idle e))
        (all_map {P = λ e. is_idle e ≡ false → EntryShaped faces gs e} g (all_mono (λ e x. h e x) s.each)))
        (only_test (λ e. not (is_idle e)) (map g es)));
    room = omega (arith, s.room, room_only (map g es) (λ e. not (is_idle e)), room_map es g (λ e. (k e).cls));
    apart = apart_only (λ e. not (is_idle e)) (apart_map g (λ a b d. other_same k a b d) s.apart);
  }

  -- after ageing
  pub aged_pending_lem : (now : ℕ) (es : List Entry) → PendingShaped faces fs es → PendingShaped faces fs (aged_pending now es)
  unfolding aged_pending aged_entry with_requests
  aged_pending_lem now es s =
      staying_pending fs (aged_entry now) (λ e. record { name = refl; prefix = refl; fresh = refl; cls = refl })
      (aged_entry_lem faces fs now) es s

  -- with an entry more, which is not known, and for which there is room
  pub opened_pending : (es : List Entry) (x : Entry) → PendingShaped faces fs es → EntryShaped faces fs x
      → at_place (index_of (is_known x.name x.can_be_prefix x.must_be_fresh) es) es ≡ none → room_taken (es ++ (x ∷ [])) ≤ most_entries
      → PendingShaped faces fs (es ++ (x ∷ []))
  opened_pending es x s k q r = record {
    each = all_snoc s.each k;
    room = r;
    apart =
        apart_snoc x
        (all_mono (λ e f a b c. let z : ◌≡◌ {A = ℕ} 0 1 = cc (known_same x.name x.can_be_prefix
        x.must_be_fresh e a b c) in omega arith)
        (none_found (is_known x.name x.can_be_prefix x.must_be_fresh) es (entry_none _ es q)))
        s.apart;
  }

  -- with an entry changed, but not what it is known by nor its class
  pub changed_pending : (i : ℕ) (g : Entry → Entry)
      → ((e : Entry) → ((g e).name ≡ e.name) × (((g e).can_be_prefix ≡ e.can_be_prefix) × ((g e).must_be_fresh ≡ e.must_be_fresh)))
      → ((e : Entry) → (g e).cls ≡ e.cls) → (es : List Entry) → PendingShaped faces fs es → All (EntryShaped faces fs) (on_at i g es)
      → PendingShaped faces fs (on_at i g es)
  changed_pending i g k c es s each = record {
    each = each;
    room = omega (arith, s.room, room_on_at es i g c);
    apart =
        apart_on_at i g
        (λ a b d x y z. d (sym (k a).0 ∙ x) (sym (k a).1.0 ∙ y) (sym (k a).1.1 ∙ z))
        (λ a b d x y z. d (x ∙ (k b).0) (y ∙ (k b).1.0) (z ∙ (k b).1.1))
        s.apart;
  }

  -- with some entries only
  pub only_pending : (p : Entry → Bool) (es : List Entry) → PendingShaped faces fs es → PendingShaped faces fs (only p es)
  only_pending p es s =
      record { each = all_only p s.each; room = omega (arith, s.room, room_only es p); apart = apart_only p s.apart }

  -- with an entry taken out
  pub without_pending : (i : ℕ) (es : List Entry) → PendingShaped faces fs es → PendingShaped faces fs (without i es)
  without_pending i es s =
      record { each = all_without i s.each; room = omega (arith, s.room, room_without es i); apart = apart_without i s.apart }

  -- where a face closes
  pub closed_pending : (f : ℕ) (es : List Entry) → PendingShaped faces fs es
      → PendingShaped faces (set_slot f none fs) (staying (map (without_face f) es))
  unfolding not_asking not_sent with_requests with_sent
  closed_pending f es s =
      staying_pending (set_slot f none fs) (without_face f) (λ e. record { name = refl; prefix = refl; fresh = refl; cls = refl })
      (closed_entry faces fs f) es s

  -- where another face opens
  pub more_pending : (f : ℕ) (x : Face) (es : List Entry) → PendingShaped faces fs es → PendingShaped faces (set_slot f (some x) fs) es
  more_pending f x es s = record { each = all_mono (λ e k. opened_entry faces fs f x e k) s.each; room = s.room; apart = s.apart }

-- ---- the routes

-- costs in range, where a slot is set to one in range or emptied
costs_set : (f : ℕ) (y : Option ℕ) (l : List (Option ℕ)) → ((c : ℕ) → y ≡ some c → c ≤ most_cost)
    → ((g c : ℕ) → slot g l ≡ some c → c ≤ most_cost)
    → (g c : ℕ) → slot g (set_slot f y l) ≡ some c → c ≤ most_cost
costs_set f y l a b g c = set_slot_keeps (λ (z : Option ℕ). z ≡ some c → c ≤ most_cost) f g y l (a c) (b g c)

-- nothing is some cost
none_cost : (c : ℕ) → none ≡ some c → c ≤ most_cost
none_cost c q = not_none q

module _ (faces : ℕ) (fs : List (Option Face)) where
  -- a hop set at an open face, with a cost in range
  hopped_route : (f c : ℕ) (r : Route) → is_open fs f ≡ true → c ≤ most_cost → RouteShaped faces fs r
      → RouteShaped faces fs (with_hop f (some c) r)
  unfolding with_hop
  hopped_route f c r o k s = record {
    name = s.name;
    hops = length_set_slot f (some c) r.hops ∙ s.hops;
    to = at_set fs r.hops s.to f (some c) o;
    costs = costs_set f (some c) r.hops (λ x q. let z : c ≡ x = cc in omega arith) s.costs;
  }

  -- a hop dropped
  dropped_route : (f : ℕ) (r : Route) → RouteShaped faces fs r → RouteShaped faces fs (with_hop f none r)
  unfolding with_hop
  dropped_route f r s = record {
    name = s.name;
    hops = length_set_slot f none r.hops ∙ s.hops;
    to = at_unset fs r.hops s.to f;
    costs = costs_set f none r.hops none_cost s.costs;
  }

  -- a hop dropped, and its face closed
  closed_route : (f : ℕ) (r : Route) → RouteShaped faces fs r → RouteShaped faces (set_slot f none fs) (with_hop f none r)
  unfolding with_hop
  closed_route f r s = record {
    name = s.name;
    hops = length_set_slot f none r.hops ∙ s.hops;
    to = at_closed fs r.hops s.to f;
    costs = costs_set f none r.hops none_cost s.costs;
  }

  -- a route without hops
  new_route_lem : (p : List ℕ) (c : Class) → length p ≤ most_name → RouteShaped faces fs (new_route faces p c)
  unfolding new_route
  new_route_lem p c h = record {
    name = h;
    hops = length_no_slots ℕ faces;
    to = at_none ℕ fs faces;
    costs = λ g x q. absurd (none_some ℕ g faces (unfold is_some in rw q));
  }

  -- a new prefix
  pub added_routes : (p : List ℕ) (c : Class) (rs : List Route) → length p ≤ most_name → length rs ≤ route_of p rs → length rs < most_routes
      → RoutesShaped faces fs rs → RoutesShaped faces fs (rs ++ (new_route faces p c ∷ []))
  unfolding route_of new_route
  added_routes p c rs h k l s = record {
    each = all_snoc s.each (new_route_lem p c h);
    few = omega (arith, length-append rs (new_route faces p c ∷ []));
    apart =
        apart_snoc (new_route faces p c)
        (all_mono (λ r f q. same_not p r.name f (sym q)) (none_found (λ (r : Route). same_bytes p r.name) rs k)) s.apart;
  }

  -- a route changed, but not its prefix
  pub changed_routes : (i : ℕ) (g : Route → Route) → ((r : Route) → (g r).name ≡ r.name)
      → ((r : Route) → RouteShaped faces fs r → RouteShaped faces fs (g r)) → (rs : List Route)
      → RoutesShaped faces fs rs → RoutesShaped faces fs (on_at i g rs)
  changed_routes i g k h rs s = record {
    each = all_on_at i g h s.each;
    few = omega (arith, s.few, length_on_at i g rs);
    apart = apart_on_at i g (λ a b d q. d (sym (k a) ∙ q)) (λ a b d q. d (q ∙ k b)) s.apart;
  }

  -- another class
  pub classed_routes : (i : ℕ) (c : Class) (rs : List Route) → RoutesShaped faces fs rs → RoutesShaped faces fs (on_at i (with_class c) rs)
  unfolding with_class
  classed_routes i c rs s =
      changed_routes i (with_class c) (λ r. refl) (λ r k. record { name = k.name; hops = k.hops; to = k.to; costs = k.costs }) rs s

  -- a hop added
  pub hopped_routes : (i f c : ℕ) (rs : List Route) → is_open fs f ≡ true → c ≤ most_cost → RoutesShaped faces fs rs
      → RoutesShaped faces fs (on_at i (with_hop f (some c)) rs)
  unfolding with_hop
  hopped_routes i f c rs o h s = changed_routes i (with_hop f (some c)) (λ r. refl) (λ r k. hopped_route f c r o h k) rs s

  -- a hop dropped
  pub dropped_routes : (i f : ℕ) (rs : List Route) → RoutesShaped faces fs rs → RoutesShaped faces fs (on_at i (with_hop f none) rs)
  unfolding with_hop
  dropped_routes i f rs s = changed_routes i (with_hop f none) (λ r. refl) (λ r k. dropped_route f r k) rs s

  -- a route dropped
  pub without_routes : (i : ℕ) (rs : List Route) → RoutesShaped faces fs rs → RoutesShaped faces fs (without i rs)
  without_routes i rs s =
      record { each = all_without i s.each; few = omega (arith, s.few, without_length i rs); apart = apart_without i s.apart }

  -- where a face closes
  pub closed_routes : (f : ℕ) (rs : List Route) → RoutesShaped faces fs rs
      → RoutesShaped faces (set_slot f none fs) (map (with_hop f none) rs)
  unfolding with_hop
  closed_routes f rs s = record {
    each = all_map (with_hop f none) (all_mono (λ r k. closed_route f r k) s.each);
    few = omega (arith, s.few, length-map rs (with_hop f none));
    apart = apart_map (with_hop f none) (λ a b d. d) s.apart;
  }

  -- where another face opens
  pub more_routes : (f : ℕ) (x : Face) (rs : List Route) → RoutesShaped faces fs rs → RoutesShaped faces (set_slot f (some x) fs) rs
  more_routes f x rs s = record {
    each = all_mono (λ r k. record { name = k.name; hops = k.hops; to = at_opened fs r.hops k.to f x; costs = k.costs }) s.each;
    few = s.few;
    apart = s.apart;
  }

-- ---- the store

-- what is stored, with room made for it
roomed_apart : (size : ℕ) (ds : List Stored) → Apart OtherStored ds → Apart OtherStored (room_for size ds)
unfolding room_for
roomed_apart size ds h = pick_ind (Apart OtherStored) (ltb (length ds) size) _ _ (λ _. h) (λ _. apart_drop h)

-- what holds of each stored Data holds of those that are left
pub roomed_all : {P : Stored → Type 0} (size : ℕ) (ds : List Stored) → All P ds → All P (room_for size ds)
unfolding room_for
roomed_all {P} size ds h = pick_ind (All P) (ltb (length ds) size) _ _ (λ _. h) (λ _. all_drop h)

-- there is room for one more
roomed_few : (size : ℕ) (ds : List Stored) → 1 ≤ size → length ds ≤ size → length (room_for size ds) + 1 ≤ size
unfolding room_for
roomed_few size ds l h =
    pick_ind (λ (x : List Stored). length x + 1 ≤ size) (ltb (length ds) size) _ _ (λ e. omega (arith, ltb-true (length ds) size e))
    (λ _. omega (arith, length-drop 1 ds))

-- with a Data more
pub stored_shaped : (d : Stored) (ds : List Stored) → StoredShaped d → StoreShaped ds → StoreShaped (stored most_stored d ds)
unfolding stored others
stored_shaped d ds k s = record {
  each = all_snoc (roomed_all most_stored kept (all_without place s.each)) k;
  few =
      omega (
        arith,
        s.few,
        length-append (room_for most_stored kept) (d ∷ []),
        roomed_few most_stored kept (omega arith)
            (omega (arith, s.few, without_length place ds)),
      );
  apart =
      apart_snoc d
      (roomed_all most_stored kept (all_mono (λ x f q. same_not d.name x.name f (sym q))
      (others_fail (λ (x : Stored). same_bytes d.name x.name)
      (λ a b e x. differs d.name b.name (λ q. x (sym (same_equal d.name a.name e) ∙ q))) s.apart)))
      (roomed_apart most_stored kept (apart_without place s.apart));
}
  where
    place : ℕ
    place = index_of (λ (x : Stored). same_bytes d.name x.name) ds

    kept : List Stored
    kept = without place ds

-- with a Data hit
pub touched_shaped : (h : Hit) (ds : List Stored) → get_elem? ds h.place ≡ some h.what → StoreShaped ds → StoreShaped (touched h ds)
unfolding touched
touched_shaped h ds e s = record {
  each = all_snoc (all_without h.place s.each) (all_in s.each (at_in h.place h.what ds e));
  few =
      omega (
        arith,
        s.few,
        length-append (without h.place ds) (h.what ∷ []),
        length_without h.place ds (place_in_lem h.place h.what ds e),
      );
  apart = apart_snoc h.what (apart_other (λ a b d q. d (sym q)) h.place h.what s.apart e) (apart_without h.place s.apart);
}

-- ---- the dead nonces

-- lines that join leave the list within its size
joined_few : (size : ℕ) (ls : List Line) (x : Line) → 1 ≤ size → length ls ≤ size → length (joined size ls x) ≤ size
unfolding joined
joined_few size ls x l h =
    pick_ind (λ (y : List Line). length y ≤ size) (ltb (length ls) size) _ _
    (λ e. omega (arith, ltb-true (length ls) size e, length-append ls (x ∷ [])))
    (λ _. omega (arith, length-append (drop 1 ls) (x ∷ []), length-drop 1 ls))

-- lines that join one after the other
joined_all_few : (size : ℕ) (ls xs : List Line) → 1 ≤ size → length ls ≤ size → length (joined_all size ls xs) ≤ size
unfolding joined_all
joined_all_few size ls [] l h = h
joined_all_few size ls (x ∷ xs) l h = joined_all_few size (joined size ls x) xs l (joined_few size ls x l h)

-- lines join the dead nonce list
pub dead_few : (ls xs : List Line) → length ls ≤ most_dead → length (joined_all most_dead ls xs) ≤ most_dead
dead_few ls xs h = joined_all_few most_dead ls xs (omega arith) h
