-- What leaves is allowed to, and has the class that document 02 gives it (`step_leaving`, `run_leaving`): an Interest leaves on an eligible
-- hop of the longest route, a Data to serve the Interest that came there or to end a request there, a Nack for a refusal or for a request
-- that it ends. That at most one packet leaves on a face in an event is `one_each`, in `Rising`.
-- Assumes nothing.
use Rattle.std.specs.Prelude.{ℕ, ◌≡◌, Bool, true, false, ◌&&◌, not, ◌⊎◌, length}
use Rattle.std.proofs.Math.Path.{refl, sym}
use Rattle.std.proofs.Common.{◌∙◌, ap, inl, arith}
use Rattle.std.proofs.Math.Bool.{or_comm}
use mathlib.Core.List.{List, ◌∷◌, append-nil}
use mathlib.Core.Logic.Iff
use Rattle.std.proofs.Math.Logic.{inr}
use Rattle.std.proofs.Math.Option.{Option, none, some}
use Rattle.std.proofs.lemmas.Bool.{not-true}
use Rattle.answers.specs.declared.Answer.{Answer}
use Rattle.laws.specs.Pick.{pick}
use Rattle.laws.specs.Laws.Pick.{pick_ind}
use Rattle.names.specs.Laws.Same.{both as each_holds}
use Rattle.records.specs.Slots.{slot, is_some, no_slots, or_else, given, Held, held, only, at_place}
use Rattle.records.specs.Laws.Slot.{slot_set_same}
use Rattle.records.specs.Laws.Place.{place_on_at}
use Rattle.records.specs.Face.{is_local_face, is_peer}
use Rattle.records.specs.Class.{Class}
use Rattle.records.specs.Route.{Route, longest, cheapest_of}
use Rattle.records.specs.Entry.{Request, Sent, Entry, with_requests, with_sent, asking, sending, earliest_of, matches, smallest_reason}
use Rattle.records.specs.Stored.{Hit, lookup}
use Rattle.records.specs.Happening.{answered, nacked, happens}
use Rattle.rules.specs.Node.{Node, What, Event}
use Rattle.rules.specs.Outcome.{Kind, dat, Send, Outcome, name_class, quiet, nacks_to, nack_for}
use Rattle.rules.specs.Ageing.{aged, ageing}
use Rattle.rules.specs.Interest.{Arrival, eligible, request_of, sent_of, entry_of, new_entry, forwards, opens_entry, from_local_face, next_hop, resends, sends_on, renews, asks_again, served}
use Rattle.rules.specs.Data.{is_self_met, fate_of, data_ends, satisfies}
use Rattle.rules.specs.Nack.{peers_of, nack_of, ends_by_nack}
use Rattle.rules.specs.Command.{close_step}
use Rattle.rules.specs.Step.{bad_face, after_ageing, step}
use Rattle.refusals.specs.Refusals.{Local, NextHop}
use Rattle.refusals.specs.Laws.Tells.{tells_and, tells_or, tells_not, tells_if, tells_eq, tells_some, tells_held}
use Rattle.refusals.specs.Laws.Tests.{tells_open, tells_local, tells_peer, tells_ad_hoc, tells_spent, tells_serves, tells_matches}
use Rattle.refusals.specs.Laws.Longest.{longest_is}
use Rattle.history.specs.Lists.{All, nothing, both, here, there, In}
use Rattle.history.specs.Moments.{Moment, moment, lived}
use Rattle.history.specs.Sends.{NackedFor}
use Rattle.history.specs.Shape.{Shaped}
use Rattle.history.specs.Leaving.{MayLeave, Forwarding, FromStore, EndsRequest, Leaving}
use Rattle.history.specs.Laws.Elements.{in_only}
use Rattle.history.specs.Laws.Every.{not_none, all_mono, all_map, all_in, all_own, at_in, only_in, some_right, some_mono, some_each, in_map}
use Rattle.history.specs.Laws.Holding.{slot_held, slot_low, slot_within, has_some, least_face_lem, length_no_slots}
use Rattle.history.specs.Laws.Known.{entry_in, entry_known, with_request, onward}
use Rattle.history.specs.Laws.Lookup.{lookup_takes}
use Rattle.history.specs.Laws.Becomes.{HoldsInterest, HoldsData, asked, brought, arrival, GoodFace, came_face, aged_face, Past, Becomes, ignored, taken, becomes}
use Rattle.history.specs.Laws.Becomes as case
use Rattle.history.specs.Laws.Arrives.{interest_arrives, data_arrives}
use Rattle.history.specs.Laws.ShapeKept.{aged_shaped}
use Rattle.history.specs.Laws.Moments.{all_lived}
use Rattle.history.specs.Laws.Live.{aged_live}
use Rattle.history.specs.Laws.Copies.{Copied, copies_copied}

-- ---- where an Interest may leave

-- no request of an entry is from a local face
abbrev NoLocal : Node → Entry → Type 0
NoLocal n x = (g : ℕ) (r : Request) → slot g x.requests ≡ some r → Local n g → ⊥

-- "Eligible", in words: l says whether some request of the entry is from a local face
eligible_may : (n : Node) (a : Arrival) (l : Bool) (x : Entry) (h : ℕ) → (NoLocal n x → l ≡ false) → eligible n a l h ≡ true
    → MayLeave n a.face a.ask x h
unfolding eligible
eligible_may n a l x h far e =
    let k = (tells_and (tells_and (tells_open n h) (tells_if (tells_eq h a.face) (tells_ad_hoc n a.face)))
    (tells_if (tells_or (tells_or (tells_spent a.ask.hop) Iff.rfl) (tells_and Iff.rfl Iff.rfl)) (tells_local n h))).0
    (rw (or_comm (is_local_face n.faces h)) at e) in
    record {
      there = k.0.0;
      other = k.0.1;
      spent = λ j p q. k.1 (inl (inl (j, p, q)));
      localhost = λ p. k.1 (inl (inr p));
      localhop = λ p q. k.1 (inr (p, ap not (far q)));
    }

-- where no request is from a local face, the test for one fails
not_local : (n : Node) (x : Entry) → NoLocal n x → from_local_face n x ≡ false
unfolding from_local_face
not_local n x far =
    not-true (from_local_face n x)
    ((tells_not (tells_held (λ (h : Held Request). is_local_face n.faces h.face) (λ f a. tells_local n f) x.requests)).1
    (λ k. far k.0 k.1 k.2 k.3))

-- so it is with a new entry: its one request is from the face of the Interest
new_not_local : (faces now : ℕ) (n : Node) (a : Arrival) (c : Class) (h : ℕ) → length n.faces ≡ faces → GoodFace faces n a.face
    → NoLocal n (new_entry now n a c h) → is_local_face n.faces a.face ≡ false
unfolding new_entry
new_not_local faces now n a c h q g far =
    not-true (is_local_face n.faces a.face)
    ((tells_not (tells_local n a.face)).1
    (far a.face (request_of now a)
    (slot_set_same a.face (some (request_of now a)) (no_slots (length n.faces)) g.low
    (omega (arith, g.high, length_no_slots Request (length n.faces))))))

-- the cheapest hop of a route is a next hop of it
cheapest_hop : (p : ℕ → Bool) (r : Route) (f : ℕ) → cheapest_of p r ≡ some f → (p f ≡ true) × NextHop r f
unfolding cheapest_of
cheapest_hop p r f e = least_face_lem (λ c. c) p r.hops f e

-- the next hop for an entry is one that it may take, and a next hop of the route
next_hop_lem : (may : ℕ → Bool) (x : Entry) (r : Route) (f : ℕ) → next_hop may x r ≡ some f → (may f ≡ true) × NextHop r f
unfolding next_hop or_else earliest_of
next_hop_lem may x r f q = go (cheapest_of (λ f. may f && not (is_some (slot f x.sent))) r) refl q
  where
    go : (y : Option ℕ) → cheapest_of (λ f. may f && not (is_some (slot f x.sent))) r ≡ y
        → or_else y (earliest_of (λ f. may f && is_some (slot f r.hops)) x) ≡ some f → (may f ≡ true) × NextHop r f
    go none w v =
        let h = least_face_lem (λ s. s.time) (λ f. may f && is_some (slot f r.hops)) x.sent f v in
        let k = each_holds (may f) _ h.0 in
        (k.0, has_some (slot f r.hops) k.1)
    go (some h) w v =
        let k = cheapest_hop (λ f. may f && not (is_some (slot f x.sent))) r f (w ∙ v) in ((each_holds (may f) _ k.0).0, k.1)

-- a hop that an Interest takes: it is eligible, and a next hop of the longest route for its name
record Takes (n : Node) (a : Arrival) (l : Bool) (f : ℕ) : Type 0 where
  pub route : Route
  pub found : longest a.ask.name n.routes ≡ some route
  pub hop : NextHop route f
  pub fit : eligible n a l f ≡ true

-- so it is with a further Interest that is sent
resends_takes : (now : ℕ) (n : Node) (a : Arrival) (x : Entry) (f : ℕ) → resends now n a x ≡ some f → Takes n a (from_local_face n x) f
unfolding resends given
resends_takes now n a x f =
    pick_ind (λ (y : Option ℕ). y ≡ some f → Takes n a (from_local_face n x) f) _ _ _ (λ _ q. not_none q)
    (λ _ q. go (longest a.ask.name n.routes) refl q)
  where
    go : (y : Option Route) → longest a.ask.name n.routes ≡ y
        → given none (next_hop (eligible n a (from_local_face n x)) x) y ≡ some f → Takes n a (from_local_face n x) f
    go none w q = not_none q
    go (some r) w q = let k = next_hop_lem (eligible n a (from_local_face n x)) x r f q in record { route = r; found = w; hop = k.1; fit = k.0 }

-- ---- what an event sends

-- what is a Data may leave as a Data may
data_leaving : (m : Moment) (t : Send) (k : Kind) → k ≡ dat → FromStore m t ⊎ EndsRequest m t → Leaving m t k
data_leaving m t k q x = rw q x

-- a request that is not self-met ends as answered
answered_in : (now : ℕ) (n : Node) (f : ℕ) (x : Entry) (h : Held Request) → In h (held x.requests) → is_self_met n f h.face ≡ false
    → In (happens answered now x h) (data_ends now n f x)
unfolding data_ends fate_of pick
answered_in now n f x h i a = rw a at (in_map (λ (k : Held Request). happens (fate_of n f k.face) now x k) i)

module _ (faces : ℕ) (e : Event) (n : Node) (s : Shaped faces n) {w : What} (came : e.what ≡ w) where
  -- the node that the event meets
  abbrev m : Node
  m = aged e.time n

  -- the event, where it comes to an outcome after ageing
  abbrev at : Outcome → Moment
  at o = record { event = e; before = n; outcome = after_ageing (ageing e.time n) o }

  -- an Interest that opens an entry
  opened_leaves : (f : ℕ) (q : HoldsInterest m w f) (r : Route) (h : ℕ) → GoodFace faces m f
      → longest (asked q).name m.routes ≡ some r
      → cheapest_of (eligible m (arrival f q) (is_local_face m.faces f)) r ≡ some h
      → Forwarding (at (opens_entry e.time m (arrival f q) r.cls h)) (forwards (arrival f q) r.cls h)
  unfolding opens_entry forwards after_ageing new_entry sent_of
  opened_leaves f q r h g b c =
      let a = arrival f q in
      let o = opens_entry e.time m a r.cls h in
      let l = is_local_face m.faces f in
      let x = new_entry e.time m a r.cls h in
      let k = cheapest_hop (eligible m a l) r h c in
      let may = eligible_may m a l x h (new_not_local faces e.time m a r.cls h (aged_shaped faces e.time n s).size g) k.0 in
      record {
        from = f;
        ask = asked q;
        came = interest_arrives e n o f came q;
        done = refl;
        entry = x;
        pending = some_right m.pending (here refl);
        known = record { name = refl; prefix = refl; fresh = refl };
        sent =
            slot_set_same h (some (sent_of e.time a)) (no_slots (length m.faces)) (slot_low h m.faces _ may.there.1)
            (omega (arith, slot_within h m.faces _ may.there.1, length_no_slots Sent (length m.faces)));
        cls = refl;
        route = r;
        longest = (longest_is (asked q).name m.routes r).0 b;
        hop = k.1;
        may = may;
      }

  -- an Interest whose entry is there, and which is sent on to face h
  joined_leaves : (f : ℕ) (q : HoldsInterest m w f) (x : Entry) (h : ℕ) → at_place (entry_of m (asked q)) m.pending ≡ some x
      → resends e.time m (arrival f q) (with_request e.time (arrival f q) x) ≡ some h
      → Forwarding (at (asks_again e.time m (arrival f q) (entry_of m (asked q)) x)) (forwards (arrival f q) x.cls h)
  unfolding forwards after_ageing asks_again renews sends_on given sent_of sending asking with_sent with_requests
  joined_leaves f q x h p c =
      let a = arrival f q in
      let o = asks_again e.time m a (entry_of m (asked q)) x in
      let y = with_request e.time a x in
      let z = sending h (sent_of e.time a) y in
      let k = resends_takes e.time m a y h c in
      let may = eligible_may m a (from_local_face m y) z h (not_local m y) k.fit in
      let known = entry_known m (asked q) x p in
      let shape = all_in (aged_shaped faces e.time n s).pending.each (entry_in _ m.pending x p) in
      record {
        from = f;
        ask = asked q;
        came = interest_arrives e n o f came q;
        done = refl;
        entry = z;
        pending = rw c (entry_in (entry_of m (asked q)) _ z (place_on_at (entry_of m (asked q)) (λ _. z) m.pending x p));
        known = record { name = sym known.name; prefix = sym known.prefix; fresh = sym known.fresh };
        sent =
            slot_set_same h (some (sent_of e.time a)) x.sent (slot_low h m.faces _ may.there.1)
            (omega (arith, slot_within h m.faces _ may.there.1, shape.sent, (aged_shaped faces e.time n s).size));
        cls = refl;
        route = k.route;
        longest = (longest_is (asked q).name m.routes k.route).0 k.found;
        hop = k.hop;
        may = may;
      }

  -- what it sends, if anything
  again_leaves : (f : ℕ) (q : HoldsInterest m w f) (x : Entry) → at_place (entry_of m (asked q)) m.pending ≡ some x
      → All (λ t. Leaving (at (asks_again e.time m (arrival f q) (entry_of m (asked q)) x)) t t.kind)
      (asks_again e.time m (arrival f q) (entry_of m (asked q)) x).sends
  unfolding asks_again renews sends_on asking with_requests given forwards
  again_leaves f q x p = go (resends e.time m (arrival f q) (with_request e.time (arrival f q) x)) refl
    where
      go : (y : Option ℕ) → resends e.time m (arrival f q) (with_request e.time (arrival f q) x) ≡ y
          → All (λ t. Leaving (at (asks_again e.time m (arrival f q) (entry_of m (asked q)) x)) t t.kind)
          (onward (arrival f q) x.cls y)
      go none c = nothing
      go (some h) c = both (joined_leaves f q x h p c) nothing

  -- a Data that serves the Interest
  served_leaves : (f : ℕ) (q : HoldsInterest m w f) (h : Hit)
      → lookup e.time (asked q).name (asked q).can_be_prefix (asked q).must_be_fresh m.store ≡ some h
      → All (λ t. Leaving (at (served m (arrival f q) h)) t t.kind) (served m (arrival f q) h).sends
  unfolding served after_ageing aged
  served_leaves f q h found =
      let hit = lookup_takes e.time (asked q).name (asked q).can_be_prefix (asked q).must_be_fresh n.store h found in
      let t : Send = record { face = f; kind = dat; cls = name_class m h.what.name; bytes = h.what.bytes } in
      both {a = t} (inl (record {
        ask = asked q;
        bytes = q.bytes;
        came = interest_arrives e n (served m (arrival f q) h) f came q;
        done = refl;
        still = append-nil (ageing e.time n);
        what = h.what;
        stored = at_in h.place h.what n.store hit.0;
        serving = (tells_serves e.time (asked q) h.what).0 hit.1;
        same = refl;
        cls = refl;
      })) nothing

  -- the copies of a Data that ends requests
  satisfied_leaves : (f : ℕ) (q : HoldsData m w f)
      → All (λ t. Leaving (at (satisfies e.time m f (brought q) q.bytes)) t t.kind)
      (satisfies e.time m f (brought q) q.bytes).sends
  unfolding satisfies after_ageing
  satisfied_leaves f q = all_mono (λ t c. data_leaving _ t t.kind c.kind (inr (ends t c))) (copies_copied m f q.bytes es)
    where
      es : List Entry
      es = only (matches (brought q).name) m.pending

      ends : (t : Send) → Copied m f q.bytes es t → EndsRequest (at (satisfies e.time m f (brought q) q.bytes)) t
      ends t c =
          let was = all_in (only_in (matches (brought q).name) m.pending) c.one in
          let there = slot_held t.face c.entry.requests c.request c.standing in
          record {
            from = f;
            offer = brought q;
            came = rw c.same (data_arrives e n (satisfies e.time m f (brought q) q.bytes) f came q);
            entry = c.entry;
            request = c.request;
            pending = was.0;
            ends = (tells_matches (brought q) c.entry).0 was.1;
            standing = c.standing;
            live = all_in (all_in (aged_live e.time n) was.0) there;
            ended =
                some_right (ageing e.time n)
                (some_each (data_ends e.time m f) (some_mono (λ b k. rw k (answered_in e.time m f c.entry _ there c.away))
                c.one));
            cls = c.cls;
            lowest =
                λ x i k r z. c.lowest x (in_only (matches (brought q).name) i ((tells_matches (brought q) x).1 k))
                ((tells_some (slot t.face x.requests)).1 (r, z));
          }

  -- the Nack of a refusal
  refusal_leaves : (f : ℕ) (q : HoldsInterest m w f) (a : Answer) (reason : ℕ) → NackedFor a reason
      → All (λ t. Leaving (at (nack_for a reason m f (asked q))) t t.kind) (nack_for a reason m f (asked q)).sends
  unfolding nack_for nacks_to after_ageing
  refusal_leaves f q a reason why =
      pick_ind (All (λ t. Leaving (at (nack_for a reason m f (asked q))) t t.kind)) (is_peer m.faces f) _ _
      (λ p. both (inl (record {
        ask = asked q;
        bytes = q.bytes;
        came = interest_arrives e n (nack_for a reason m f (asked q)) f came q;
        reason = reason;
        why = why;
        peer = (tells_peer m f).0 p;
        same = refl;
        cls = refl;
      })) nothing)
      (λ _. nothing)

  -- the Nacks of requests that end
  nacks_leave : (i : ℕ) (x : Entry)
      → All (λ t. Leaving (at (ends_by_nack e.time m i x)) t t.kind) (ends_by_nack e.time m i x).sends
  unfolding ends_by_nack nack_of happens after_ageing
  nacks_leave i x =
      all_map (nack_of x)
      (all_mono (λ h k. inr (record {
        end = happens nacked e.time x h;
        ended = some_right (ageing e.time n) (in_map (happens nacked e.time x) k);
        fate = refl;
        face = refl;
        reason = smallest_reason (held x.sent);
        same = refl;
        cls = refl;
      })) (all_own (peers_of m x)))

-- whatever an event comes to past the first three checks
past_leaving : (faces : ℕ) (e : Event) (n : Node) → Shaped faces n → (w : What) (o : Outcome) → e.what ≡ w
    → bad_face faces (aged e.time n) w ≡ false → Past faces e.time (aged e.time n) w o
    → All (λ t. Leaving (record { event = e; before = n; outcome = after_ageing (ageing e.time n) o }) t t.kind) o.sends
unfolding quiet opens_entry forwards close_step
past_leaving faces e n s w o came fine (case.unread f a k) = nothing
past_leaving faces e n s w o came fine (case.refused f a d) = nothing
past_leaving faces e n s w o came fine (case.turned_away v a d) = nothing
past_leaving faces e n s w o came fine case.ticked = nothing
past_leaving faces e n s w o came fine (case.nacked_back f q a reason k) = refusal_leaves faces e n s came f q a reason k
past_leaving faces e n s w o came fine (case.served_from f q h found absent) = served_leaves faces e n s came f q h found
past_leaving faces e n s w o came fine (case.opened f q r h a b c d) =
    both (opened_leaves faces e n s came f q r h (came_face faces (aged e.time n) w f _ q.comes fine) b c) nothing
past_leaving faces e n s w o came fine (case.joined f q x a) = again_leaves faces e n s came f q x a
past_leaving faces e n s w o came fine (case.satisfied f q a) = satisfied_leaves faces e n s came f q
past_leaving faces e n s w o came fine (case.marked f q x a k z) = nothing
past_leaving faces e n s w o came fine (case.nacked_on f q x a k z) = nacks_leave faces e n s came _ _
past_leaving faces e n s w o came fine (case.opens_face f scope link a) = nothing
past_leaving faces e n s w o came fine (case.closes_face f) = nothing
past_leaving faces e n s w o came fine (case.sets_class c p a b) = nothing
past_leaving faces e n s w o came fine (case.adds_route c p h a b d) = nothing
past_leaving faces e n s w o came fine (case.drops_route p a) = nothing
past_leaving faces e n s w o came fine (case.adds_hop f cost p a b) = nothing
past_leaving faces e n s w o came fine (case.drops_hop f p a) = nothing

module _ (faces least : ℕ) where
  -- whatever an event comes to
  by_case : (e : Event) (n : Node) (o : Outcome) → Becomes faces least e n o → Shaped faces n
      → All (λ s. Leaving (record { event = e; before = n; outcome = o }) s s.kind) o.sends
  unfolding quiet after_ageing
  by_case e n o (ignored a d) s = nothing
  by_case e n o (taken p t f k) s = past_leaving faces e n s e.what p refl (aged_face faces e.time n e.what f) k

  -- in any event, from any node of the shape that events lead to: each packet that leaves may leave, and has the class that it is to have
  pub step_leaving : (e : Event) (n : Node) → Shaped faces n
      → let m = moment (step faces least) e n in
      All (λ s. Leaving m s s.kind) m.outcome.sends
  step_leaving e n s = by_case e n (step faces least e n) (becomes faces least e n) s

  -- start from an empty node and take any events: so it is in each of them
  pub run_leaving : (es : List Event) → All (λ m. All (λ s. Leaving m s s.kind) m.outcome.sends) (lived faces (step faces least) es)
  run_leaving es = all_lived faces least _ step_leaving es
