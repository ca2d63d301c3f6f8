-- The answer of an event is that of the first check, in document 01's order, whose test holds; 0 where none does.
-- Assumes nothing.
use Rattle.std.specs.Prelude.{ℕ, ◌≡◌, ◌⊎◌, Bool, ◌&&◌, ◌||◌, not, List, [], ◌∷◌, length, ltb, leb}
use Rattle.std.proofs.Math.Path.{refl, sym, ap}
use Rattle.std.proofs.Common.{◌∙◌, inl, inr}
use Rattle.std.proofs.Math.Bool.{true, false}
use Rattle.std.proofs.Math.Option.{Option, none, some}
use Rattle.answers.specs.declared.Answer.{Answer}
use Rattle.laws.specs.Pick.{pick}
use Rattle.laws.specs.Laws.Pick.{pick_ind, pick_ap}
use Rattle.wire.specs.declared.verdict.Verdict.{Verdict}
use Rattle.wire.specs.Verdict.{is_malformed, is_unsupported}
use Rattle.sizes.specs.Sizes.{most_packet, most_components, most_name, most_routes, most_entries, most_cost}
use Rattle.names.specs.Name.{counted}
use Rattle.packethead.specs.Name.{name_came}
use Rattle.packets.specs.Meaning.{Ask, Offer, Heard, refused, asks, brings, nacks, heard}
use Rattle.records.specs.Class.{class_of, is_class}
use Rattle.records.specs.Slots.{is_some, holds, given, is_empty, only, at_place}
use Rattle.records.specs.Face.{is_open, is_local_face, is_peer}
use Rattle.records.specs.Route.{Route, route_of, longest, cheapest_of}
use Rattle.records.specs.Laws.Least.{least_found}
use Rattle.records.specs.Entry.{Entry, matches, with_nack, all_nacked, sent_nonce}
use Rattle.records.specs.Stored.{Hit, lookup}
use Rattle.rules.specs.Node.{Node, What, packet, open_face, close_face, set_route, drop_route, add_hop, drop_hop, Event}
use Rattle.rules.specs.Outcome.{Outcome, quiet, nack_for}
use Rattle.rules.specs.Ageing.{aged}
use Rattle.rules.specs.Interest.{Arrival, eligible, entry_of, entry_loops, loops, new_entry, opens_entry, no_room, may_open, routed, served, asks_anew, sends_on, renews, asks_again, asks_entry, hop_is_zero, out_of_scope, interest_step}
use Rattle.rules.specs.Data.{satisfies, data_step}
use Rattle.rules.specs.Nack.{sent_back, ends_by_nack, nacked_entry, nack_step}
use Rattle.rules.specs.Command.{by_prefix, open_step, close_step, set_route_step, on_route, drop_route_step, add_hop_step, drop_hop_step}
use Rattle.rules.specs.Step.{arrives, what_step, bad_face, after_ageing, bad_time, step}
use Rattle.refusals.specs.Refusals.{Check, Clock, SmallBuffer, BadFace, FaceOpen, PacketSize, Malformed, Unsupported, NameSize, BadSetting, HopLimit, Scope, Loop, NoRoute, NoRoom, Unsolicited, StaleNack, TableFull, answer_of, prefix_in, name_in}
use Rattle.refusals.specs.Laws.Reading.{if_fine, over_size, is_long, Heeds, heard_heeds, heard_long}
use Rattle.refusals.specs.Laws.Events.{test_of, on_packet, on_ask, on_offer, on_nack}
use Rattle.refusals.specs.Laws.Tests.{refused_by, long_packet, broken_bytes, marked_bytes, long_name, opens_open, wrong_setting, no_hops_left, out_of_reach, asked, is_loop, asks_new, has_hop, no_way, room_with_lem, is_unrouted, is_full, is_crowded, crowded, is_unasked, unasked, is_stale, stale, is_route, is_hop, no_route_for, no_route_no_hop, no_place, test}

-- ---- the answers of the rules, as chains of tests

-- the answer of a choice
answer_pick : (b : Bool) (x y : Outcome) → (pick b x y).answer ≡ pick b x.answer y.answer
answer_pick b x y = pick_ap (λ (o : Outcome). o.answer) b x y

-- a choice of two answers, the other way round
pick_not : (b : Bool) (x y : Answer) → pick b x y ≡ pick (not b) y x
unfolding pick
pick_not true x y = refl
pick_not false x y = refl

-- the answer to an Interest
interest_answer : ℕ → Node → ℕ → Ask → Answer
interest_answer now n f i =
    pick (hop_is_zero i.hop) Answer.HopLimit
    (pick (out_of_scope n f i.name) Answer.Scope
    (pick (loops now n (asked f i)) Answer.Loop
    (pick (is_unrouted now n f i) Answer.NoRoute (pick (is_crowded now n i) Answer.NoRoom Answer.Done))))

-- the answer to a Data
data_answer : Node → ℕ → Offer → Answer
data_answer n f d = pick (out_of_scope n f d.name) Answer.Scope (pick (is_unasked n d) Answer.Unsolicited Answer.Done)

-- the answer to a Nack
nack_answer : Node → ℕ → Ask → Answer
nack_answer n f i = pick (out_of_scope n f i.name) Answer.Scope (pick (is_stale n f i) Answer.StaleNack Answer.Done)

module _ (now : ℕ) (n : Node) (f : ℕ) (i : Ask) (bytes : List ℕ) where
  -- the Interest as it arrived
  abbrev came : Arrival
  came = record { face = f; ask = i; bytes = bytes }

  -- a new entry finds no room where its class has none
  room_answer : (r : Route) (h : ℕ) → no_room n (new_entry now n came r.cls h) ≡ is_full n r
  unfolding no_room is_full new_entry
  room_answer r h = ap (ltb most_entries) (room_with_lem n.pending (new_entry now n came r.cls h))

  -- with a hop: 11, or the entry opens
  open_answer : (r : Route) (h : ℕ) → (may_open now n came r.cls h).answer ≡ pick (is_full n r) Answer.NoRoom Answer.Done
  unfolding may_open nack_for opens_entry
  open_answer r h =
      answer_pick (no_room n (new_entry now n came r.cls h)) _ _
      ∙ ap (λ (b : Bool). pick b Answer.NoRoom Answer.Done) (room_answer r h)

  -- there is a cheapest hop where there is a way; its bytes do not choose it
  hop_found : (r : Route) → is_some (cheapest_of (eligible n came (is_local_face n.faces f)) r) ≡ has_hop n f i r
  unfolding cheapest_of has_hop eligible
  hop_found r = least_found (λ c. c) (eligible n came (is_local_face n.faces f)) r.hops

  -- by the longest route: 10, 11, or the entry opens
  routed_answer : (o : Option Route)
      → (routed now n came o).answer ≡ pick (no_way n f i o) Answer.NoRoute (pick (holds (is_full n) o) Answer.NoRoom Answer.Done)
  unfolding routed no_way holds is_some given pick nack_for
  routed_answer none = refl
  routed_answer (some r) = go (cheapest_of (eligible n came (is_local_face n.faces f)) r) refl (hop_found r)
    where
      go : (x : Option ℕ) → cheapest_of (eligible n came (is_local_face n.faces f)) r ≡ x
          → is_some (cheapest_of (eligible n came (is_local_face n.faces f)) r) ≡ has_hop n f i r
          → (routed now n came (some r)).answer ≡ pick (no_way n f i (some r)) Answer.NoRoute (pick (is_full n r) Answer.NoRoom Answer.Done)
      go none e d = let q : has_hop n f i r ≡ false = sym (rw e at d) in rw (e, q)
      go (some h) e d = let q : has_hop n f i r ≡ true = sym (rw e at d) in rw (e, q) (open_answer r h)

  -- "No entry: look in the store"
  anew_answer : (o : Option Hit)
      → (asks_anew now n came o).answer
      ≡ pick (not (is_some o) && no_way n f i (longest i.name n.routes)) Answer.NoRoute
      (pick (not (is_some o) && holds (is_full n) (longest i.name n.routes)) Answer.NoRoom Answer.Done)
  unfolding asks_anew is_some served pick
  anew_answer none = routed_answer (longest i.name n.routes)
  anew_answer (some h) = refl

  -- past the checks of every Interest
  entry_answer : (o : Option Entry)
      → (asks_entry now n came o).answer
      ≡ pick (not (is_some o) && not (is_some (lookup now i.name i.can_be_prefix i.must_be_fresh n.store)) && no_way n f i
      (longest i.name n.routes)) Answer.NoRoute
      (pick (not (is_some o) && not (is_some (lookup now i.name i.can_be_prefix i.must_be_fresh n.store)) && holds (is_full n)
      (longest i.name n.routes)) Answer.NoRoom Answer.Done)
  unfolding asks_entry is_some asks_again renews sends_on pick
  entry_answer none = anew_answer (lookup now i.name i.can_be_prefix i.must_be_fresh n.store)
  entry_answer (some x) = refl

  -- an Interest
  interest_answer_lem : (interest_step now n came).answer ≡ interest_answer now n f i
  unfolding interest_step interest_answer quiet nack_for loops entry_loops is_unrouted is_crowded asks_new
  interest_answer_lem =
      rw (
        answer_pick (hop_is_zero i.hop) _ _,
        answer_pick (out_of_scope n f i.name) _ _,
        answer_pick (loops now n (asked f i)) _ _,
        entry_answer (at_place (entry_of n i) n.pending),
      )

-- a Data
data_answer_lem : (now : ℕ) (n : Node) (f : ℕ) (d : Offer) (bytes : List ℕ) → (data_step now n f d bytes).answer ≡ data_answer n f d
unfolding data_step data_answer quiet satisfies is_unasked
data_answer_lem now n f d bytes =
    rw (answer_pick (out_of_scope n f d.name) _ _, answer_pick (is_empty (only (matches d.name) n.pending)) _ _)

-- a Nack that is not stale
nacked_answer : (now : ℕ) (n : Node) (k : ℕ) (x : Entry) → (nacked_entry now n k x).answer ≡ Answer.Done
unfolding nacked_entry quiet ends_by_nack
nacked_answer now n k x = pick_ind (λ (o : Outcome). o.answer ≡ Answer.Done) (all_nacked x) _ _ (λ _. refl) (λ _. refl)

-- a Nack
nack_answer_lem : (now : ℕ) (n : Node) (f reason : ℕ) (i : Ask) → (nack_step now n f reason i).answer ≡ nack_answer n f i
unfolding nack_step sent_back nack_answer is_stale quiet holds given pick
nack_answer_lem now n f reason i = go (is_peer n.faces f) refl (at_place (entry_of n i) n.pending) refl
  where
    outer : (x y : Outcome) → (pick (out_of_scope n f i.name) x y).answer ≡ pick (out_of_scope n f i.name) x.answer y.answer
    outer x y = answer_pick (out_of_scope n f i.name) x y

    go : (b : Bool) → is_peer n.faces f ≡ b → (o : Option Entry) → at_place (entry_of n i) n.pending ≡ o
        → (nack_step now n f reason i).answer ≡ nack_answer n f i
    go false e o q = rw (outer, e)
    go true e none q = rw (outer, e, q)
    go true e (some x) q =
        let b = sent_nonce f i.nonce x in
        rw (outer, e, q, answer_pick b _ _, nacked_answer now n (entry_of n i) (with_nack f reason x), pick_not b)

-- ---- commands

-- the answer to a command that names a prefix, whose answer past the prefix is a: 5, 6, 4
by_prefix_answer : List ℕ → Answer → Answer
by_prefix_answer p a =
    pick (is_malformed (counted p).said) Answer.Malformed (pick (is_unsupported (counted p).said) Answer.Unsupported (pick (is_long p) Answer.TooLong a))

-- that it is so
prefix_answer : (n : Node) (p : List ℕ) (o : Outcome) → (by_prefix n p o).answer ≡ by_prefix_answer p o.answer
unfolding by_prefix by_prefix_answer is_long over_size quiet pick
prefix_answer n p o = go (counted p).said
  where
    sizes : (x y : Bool)
        → (pick x (quiet Answer.TooLong n) (pick y (quiet Answer.TooLong n) o)).answer ≡ pick (x || y) Answer.TooLong o.answer
    sizes true y = refl
    sizes false true = refl
    sizes false false = refl

    long : Bool
    long = ltb most_name (length p) || ltb most_components (counted p).count

    rest : Outcome
    rest = pick (ltb most_name (length p)) (quiet Answer.TooLong n) (pick (ltb most_components (counted p).count) (quiet Answer.TooLong n) o)

    go : (v : Verdict)
        → (pick (is_malformed v) (quiet Answer.Malformed n) (pick (is_unsupported v) (quiet Answer.Unsupported n) rest)).answer
        ≡ pick (is_malformed v) Answer.Malformed (pick (is_unsupported v) Answer.Unsupported (pick (if_fine v long) Answer.TooLong o.answer))
    go Verdict.Fine = sizes (ltb most_name (length p)) (ltb most_components (counted p).count)
    go Verdict.Malformed = refl
    go Verdict.Unsupported = refl

-- on a route, or 10
route_answer : (n : Node) (p : List ℕ) (o : ℕ → Outcome)
    → (on_route n p o).answer ≡ pick (not (is_route n p)) Answer.NoRoute (o (route_of p n.routes)).answer
unfolding on_route is_route quiet
route_answer n p o = answer_pick (is_route n p) _ _ ∙ pick_not (is_route n p) (o (route_of p n.routes)).answer Answer.NoRoute

-- an opening: 14, 15
opening_answer : (n : Node) (f scope link : ℕ)
    → (open_step n f scope link).answer ≡ pick (is_open n.faces f) Answer.FaceOpen
    (pick (ltb 1 scope || ltb 2 link) Answer.BadSetting Answer.Done)
unfolding open_step quiet
opening_answer n f scope link = rw (answer_pick (is_open n.faces f) _ _, answer_pick (ltb 1 scope || ltb 2 link) _ _)

-- a known prefix, or a place for it, or 16
full : (x y : Bool) → pick x Answer.Done (pick y Answer.TableFull Answer.Done) ≡ pick (not x && y) Answer.TableFull Answer.Done
unfolding pick
full true y = refl
full false y = refl

-- setting a route: 15, 16
setting_answer : (faces : ℕ) (n : Node) (c : ℕ) (p : List ℕ)
    → (set_route_step faces n c p).answer
    ≡ by_prefix_answer p (pick (not (is_class (class_of c))) Answer.BadSetting
    (pick (not (is_route n p) && leb most_routes (length n.routes)) Answer.TableFull Answer.Done))
unfolding set_route_step quiet is_route
setting_answer faces n c p =
    prefix_answer n p _
    ∙ ap (by_prefix_answer p)
    (let b = leb most_routes (length n.routes) in
    rw (answer_pick (not (is_class (class_of c))) _ _, answer_pick (is_route n p) _ _, answer_pick b _ _, full (is_route n p) b))

-- dropping a route: 10
dropping_answer : (n : Node) (p : List ℕ)
    → (drop_route_step n p).answer ≡ by_prefix_answer p (pick (not (is_route n p)) Answer.NoRoute Answer.Done)
unfolding drop_route_step quiet
dropping_answer n p = prefix_answer n p _ ∙ ap (by_prefix_answer p) (route_answer n p _)

-- adding a hop: 15, 10
adding_answer : (n : Node) (f cost : ℕ) (p : List ℕ)
    → (add_hop_step n f cost p).answer ≡ by_prefix_answer p (pick (ltb most_cost cost) Answer.BadSetting
    (pick (not (is_route n p)) Answer.NoRoute Answer.Done))
unfolding add_hop_step quiet
adding_answer n f cost p =
    prefix_answer n p _ ∙ ap (by_prefix_answer p) (answer_pick (ltb most_cost cost) _ _
    ∙ ap (pick (ltb most_cost cost) Answer.BadSetting) (route_answer n p _))

-- a route and its hop, or 10
hopless : (x y : Bool) → (x ≡ false → y ≡ false)
    → pick (not x) Answer.NoRoute (pick y Answer.Done Answer.NoRoute) ≡ pick (not y) Answer.NoRoute Answer.Done
unfolding pick
hopless true y h = pick_not y Answer.Done Answer.NoRoute
hopless false y h = rw (h refl)

-- dropping a hop: 10
unhopping_answer : (n : Node) (f : ℕ) (p : List ℕ)
    → (drop_hop_step n f p).answer ≡ by_prefix_answer p (pick (not (is_hop n p f)) Answer.NoRoute Answer.Done)
unfolding drop_hop_step quiet is_hop
unhopping_answer n f p =
    prefix_answer n p _
    ∙ ap (by_prefix_answer p)
    (route_answer n p _ ∙ rw (answer_pick (is_hop n p f) _ _) (hopless (is_route n p) (is_hop n p f) (no_route_no_hop n f p)))

-- ---- packets

-- the answer to a packet by what it means
heard_answer : ℕ → Node → ℕ → Heard → Answer
heard_answer now n f (refused a) = a
heard_answer now n f (asks i bytes) = interest_answer now n f i
heard_answer now n f (brings d bytes) = data_answer n f d
heard_answer now n f (nacks reason i) = nack_answer n f i

-- a packet by what it means
arrives_answer : (now : ℕ) (n : Node) (f : ℕ) (h : Heard) → (arrives now n f h).answer ≡ heard_answer now n f h
unfolding arrives heard_answer quiet
arrives_answer now n f (refused a) = refl
arrives_answer now n f (asks i bytes) = interest_answer_lem now n f i bytes
arrives_answer now n f (brings d bytes) = data_answer_lem now n f d bytes
arrives_answer now n f (nacks reason i) = nack_answer_lem now n f reason i

-- what a packet means, as a chain of tests: of its length, and whether its name is long
module _ (now : ℕ) (n : Node) (f : ℕ) where
  -- the tests of a packet, in their order
  heard_chain : Bool → Bool → Heard → Answer
  heard_chain long b h =
      pick long Answer.TooLong
      (pick (refused_by Answer.Malformed h || false) Answer.Malformed
      (pick (refused_by Answer.Unsupported h || false) Answer.Unsupported
      (pick (b || false) Answer.TooLong
      (pick (on_ask (λ i. hop_is_zero i.hop) h) Answer.HopLimit
      (pick (holds (out_of_scope n f) (name_in h)) Answer.Scope
      (pick (on_ask (λ i. loops now n (asked f i)) h) Answer.Loop
      (pick (on_ask (is_unrouted now n f) h) Answer.NoRoute
      (pick (on_ask (is_crowded now n) h) Answer.NoRoom
      (pick (on_offer (is_unasked n) h) Answer.Unsolicited (pick (on_nack (is_stale n f) h) Answer.StaleNack Answer.Done))))))))))

  -- where 4 is given for a packet that is too long, and else as reading heeds its name
  heard_chain_lem : (long b : Bool) (h : Heard) → (long ≡ true → h ≡ refused Answer.TooLong) → (long ≡ false → Heeds b h)
      → heard_answer now n f h ≡ heard_chain long b h
  unfolding heard_answer heard_chain refused_by on_ask on_offer on_nack holds name_in pick interest_answer data_answer nack_answer
  heard_chain_lem true b h x y = rw (x refl)
  heard_chain_lem false b (refused a) x y = go (y refl)
    where
      go : (a ≡ Answer.Malformed) ⊎ (a ≡ Answer.Unsupported) ⊎ ((a ≡ Answer.TooLong) × (b ≡ true)) → a ≡ heard_chain false b (refused a)
      go (inl e) = rw e
      go (inr (inl e)) = rw e
      go (inr (inr e)) = rw (e.0, e.1)
  heard_chain_lem false b (asks i bytes) x y = rw (y refl)
  heard_chain_lem false b (brings d bytes) x y = rw (y refl)
  heard_chain_lem false b (nacks reason i) x y = rw (y refl)

-- ---- an event past ageing

-- the checks after ageing, in their order
later_answer : ℕ → Node → What → Answer
later_answer now n w =
    pick (opens_open n w) Answer.FaceOpen
    (pick (long_packet w) Answer.TooLong
    (pick (broken_bytes w) Answer.Malformed
    (pick (marked_bytes w) Answer.Unsupported
    (pick (long_name w) Answer.TooLong
    (pick (wrong_setting w) Answer.BadSetting
    (pick (no_hops_left w) Answer.HopLimit
    (pick (out_of_reach n w) Answer.Scope
    (pick (is_loop now n w) Answer.Loop
    (pick (no_route_for now n w) Answer.NoRoute
    (pick (crowded now n w) Answer.NoRoom
    (pick (unasked n w) Answer.Unsolicited (pick (stale n w) Answer.StaleNack (pick (no_place n w) Answer.TableFull Answer.Done)))))))))))))

-- an event past ageing is answered by them
what_answer : (faces now : ℕ) (n : Node) (w : What) → (what_step faces now n w).answer ≡ later_answer now n w
unfolding what_step later_answer opens_open long_packet broken_bytes marked_bytes long_name wrong_setting no_hops_left out_of_reach is_loop no_route_for
    crowded unasked stale no_place test_of on_packet prefix_in holds pick heard_chain by_prefix_answer quiet close_step
what_answer faces now n (packet f l) =
    arrives_answer now n f (heard l)
    ∙ heard_chain_lem now n f (ltb most_packet (length l)) (is_long (name_came l)) (heard l) (heard_long l) (heard_heeds l)
what_answer faces now n What.clock = refl
what_answer faces now n (open_face f scope link) = opening_answer n f scope link
what_answer faces now n (close_face f) = refl
what_answer faces now n (set_route c p) = setting_answer faces n c p
what_answer faces now n (drop_route p) = dropping_answer n p
what_answer faces now n (add_hop f cost p) = adding_answer n f cost p
what_answer faces now n (drop_hop f p) = unhopping_answer n f p

-- ---- an event

-- "Checks run in this order: 1, 2, 3, ageing, 14, packet over 1,500 (4), 5, 6, name size (4), 15, then 7 to 13 and 16 as listed"
unfoldable pub order : List Check
order =
    Clock
    ∷ SmallBuffer
    ∷ BadFace
    ∷ FaceOpen
    ∷ PacketSize
    ∷ Malformed
    ∷ Unsupported
    ∷ NameSize
    ∷ BadSetting
    ∷ HopLimit
    ∷ Scope
    ∷ Loop
    ∷ NoRoute
    ∷ NoRoom
    ∷ Unsolicited
    ∷ StaleNack
    ∷ TableFull
    ∷ []

-- the answer of the first check whose test holds, or 0
unfoldable pub first_answer : (Check → Bool) → List Check → Answer
first_answer t [] = Answer.Done
first_answer t (c ∷ cs) = pick (t c) (answer_of c) (first_answer t cs)

-- an event's answer is that of the first check whose test holds
pub step_answer : (faces least : ℕ) (e : Event) (n : Node) → (step faces least e n).answer ≡ first_answer (test faces least e n) order
unfolding step first_answer order test later_answer quiet after_ageing
step_answer faces least e n =
    rw (
      answer_pick (bad_time n e.time) _ _,
      answer_pick (ltb e.room least) _ _,
      answer_pick (bad_face faces n e.what) _ _,
      what_answer faces e.time (aged e.time n) e.what,
    )
