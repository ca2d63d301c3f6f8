-- What an event can come to: one case for each outcome that the rules name, with what is known there. The theorems go by these cases.
-- Assumes nothing.
use Rattle.std.specs.Prelude.{ℕ, ◌≤◌, ◌<◌, ◌≡◌, true, false, not, ◌&&◌, List, [], ◌∷◌, ◌++◌, length, leb}
use Rattle.std.proofs.Math.Path.{refl}
use Rattle.std.proofs.Math.Option.{Option, none, some}
use Rattle.std.proofs.Common.{ltb-true, ltb-false, leb-true, leb-false}
use Rattle.std.proofs.lemmas.Bool.{not-false}
use Rattle.answers.specs.declared.Answer.{Answer}
use Rattle.laws.specs.Laws.Pick.{pick_ind}
use Rattle.laws.specs.Lists.{on_at, without}
use Rattle.packets.specs.Meaning.{Ask, Offer, Heard, asks, brings, nacks, heard}
use Rattle.packets.specs.Meaning as meaning
use Rattle.sizes.specs.Sizes.{most_routes, most_cost, most_name}
use Rattle.records.specs.Class.{class_of, is_class}
use Rattle.records.specs.Slots.{given, holds, set_slot, only, is_empty, at_place}
use Rattle.names.specs.Laws.Same.{both}
use Rattle.records.specs.Face.{is_face, is_open, is_local_face, is_peer}
use Rattle.records.specs.Route.{Route, route_of, with_class, new_route, with_hop, longest, cheapest_of}
use Rattle.records.specs.Entry.{Entry, matches, with_nack, all_nacked, sent_nonce}
use Rattle.records.specs.Stored.{Hit, lookup}
use Rattle.rules.specs.Node.{Node, What, packet, clock, open_face, close_face, set_route, drop_route, add_hop, drop_hop, Event, with_pending, with_faces, with_routes}
use Rattle.rules.specs.Outcome.{Outcome, quiet, nack_for}
use Rattle.rules.specs.Ageing.{aged, ageing}
use Rattle.rules.specs.Interest as rule
use Rattle.rules.specs.Interest.{Arrival, eligible, entry_of, new_entry, opens_entry, may_open, routed, served, asks_anew, asks_again, asks_entry, interest_step}
use Rattle.rules.specs.Data.{satisfies, data_step}
use Rattle.rules.specs.Nack.{sent_back, ends_by_nack, nacked_entry, nack_step}
use Rattle.rules.specs.Command.{face_of, by_prefix, open_step, close_step, set_route_step, on_route, drop_route_step, add_hop_step, drop_hop_step}
use Rattle.rules.specs.Step.{arrives, what_step, bad_face, after_ageing, bad_time, step}
use Rattle.incoming.specs.Incoming.{Hears}
use Rattle.incoming.specs.Laws.Incoming.{bytes_hears, hears_face, hears_opens}
use Rattle.history.specs.Moments.{is_done}
use Rattle.history.specs.Sends.{NackedFor, loop, no_route, no_room}

module _ (n : Node) (w : What) (f : ℕ) where
  -- an Interest came in on face f: what it asks, and its bytes as it leaves
  pub record HoldsInterest : Type 0 where
    pub ask : Ask
    pub bytes : List ℕ
    pub comes : Hears n w f (asks ask bytes)

  -- a Data came in: what it brings, and its bytes as it leaves
  pub record HoldsData : Type 0 where
    pub offer : Offer
    pub bytes : List ℕ
    pub comes : Hears n w f (brings offer bytes)

  -- a Nack came in: the reason, and what the Interest in it asked
  pub record HoldsNack : Type 0 where
    pub reason : ℕ
    pub ask : Ask
    pub comes : Hears n w f (nacks reason ask)

-- a Nack on face f is one for an out-record of the entry, with this nonce
pub record Fits (n : Node) (f nonce : ℕ) (e : Entry) : Type 0 where
  pub peer : is_peer n.faces f ≡ true
  pub sent : sent_nonce f nonce e ≡ true

-- what the Interest asks
abbrev pub asked : {n : Node} {w : What} {f : ℕ} → HoldsInterest n w f → Ask
asked q = q.ask

-- what the Data brings
abbrev pub brought : {n : Node} {w : What} {f : ℕ} → HoldsData n w f → Offer
brought q = q.offer

-- what the Interest asked that is Nacked
abbrev pub denied : {n : Node} {w : What} {f : ℕ} → HoldsNack n w f → Ask
denied q = q.ask

-- an Interest as the rules are told of it, on the face where it came
abbrev pub arrival : {n : Node} {w : What} (f : ℕ) → HoldsInterest n w f → Arrival
arrival f q = record { face = f; ask = q.ask; bytes = q.bytes }

module _ (faces now : ℕ) (n : Node) where
  -- what an event can come to past the first three checks, in a node that has aged
  pub data Past : What → Outcome → Type 0 where
    -- a packet that its reading refuses
    unread : {w : What} (f : ℕ) (a : Answer) → Hears n w f (meaning.refused a) → Past w (quiet a n)
    -- a packet that is refused with no Nack
    refused : {w : What} (f : ℕ) (a : Answer) → is_done a ≡ false → Past w (quiet a n)
    -- a command that is refused
    turned_away : (w : What) (a : Answer) → is_done a ≡ false → Past w (quiet a n)
    -- the clock is read
    ticked : Past clock (quiet Answer.Done n)
    -- an Interest that is refused, with a Nack where its face takes one
    nacked_back : {w : What} (f : ℕ) (q : HoldsInterest n w f) (a : Answer) (reason : ℕ) → NackedFor a reason
        → Past w (nack_for a reason n f (asked q))
    -- an Interest that the store serves
    served_from : {w : What} (f : ℕ) (q : HoldsInterest n w f) (h : Hit)
        → lookup now (asked q).name (asked q).can_be_prefix (asked q).must_be_fresh n.store ≡ some h
        → at_place (entry_of n (asked q)) n.pending ≡ none
        → Past w (served n (arrival f q) h)
    -- an Interest that opens an entry
    opened : {w : What} (f : ℕ) (q : HoldsInterest n w f) (r : Route) (h : ℕ)
        → at_place (entry_of n (asked q)) n.pending ≡ none
        → longest (asked q).name n.routes ≡ some r
        → cheapest_of (eligible n (arrival f q) (is_local_face n.faces f)) r ≡ some h
        → rule.no_room n (new_entry now n (arrival f q) r.cls h) ≡ false
        → Past w (opens_entry now n (arrival f q) r.cls h)
    -- an Interest whose entry is there
    joined : {w : What} (f : ℕ) (q : HoldsInterest n w f) (e : Entry)
        → at_place (entry_of n (asked q)) n.pending ≡ some e
        → Past w (asks_again now n (arrival f q) (entry_of n (asked q)) e)
    -- a Data that ends the requests of the entries that it matches
    satisfied : {w : What} (f : ℕ) (q : HoldsData n w f)
        → is_empty (only (matches (brought q).name) n.pending) ≡ false
        → Past w (satisfies now n f (brought q) q.bytes)
    -- a Nack for an out-record, others being still without one
    marked : {w : What} (f : ℕ) (q : HoldsNack n w f) (e : Entry)
        → at_place (entry_of n (denied q)) n.pending ≡ some e → Fits n f (denied q).nonce e → all_nacked (with_nack f q.reason e) ≡ false
        → Past w (quiet Answer.Done (with_pending n (on_at (entry_of n (denied q)) (λ _. with_nack f q.reason e) n.pending)))
    -- a Nack that leaves all out-records Nacked
    nacked_on : {w : What} (f : ℕ) (q : HoldsNack n w f) (e : Entry)
        → at_place (entry_of n (denied q)) n.pending ≡ some e → Fits n f (denied q).nonce e → all_nacked (with_nack f q.reason e) ≡ true
        → Past w (ends_by_nack now n (entry_of n (denied q)) (with_nack f q.reason e))
    -- a face is opened
    opens_face : (f scope link : ℕ) → is_open n.faces f ≡ false
        → Past (open_face f scope link) (quiet Answer.Done (with_faces n (set_slot f (some (face_of scope link)) n.faces)))
    -- a face is closed
    closes_face : (f : ℕ) → Past (close_face f) (close_step now n f)
    -- a known prefix is given a class
    sets_class : (c : ℕ) (p : List ℕ) → is_class (class_of c) ≡ true → route_of p n.routes < length n.routes
        → Past (set_route c p) (quiet Answer.Done (with_routes n (on_at (route_of p n.routes) (with_class (class_of c)) n.routes)))
    -- a new prefix is given a class
    adds_route : (c : ℕ) (p : List ℕ) → length p ≤ most_name → is_class (class_of c) ≡ true → length n.routes ≤ route_of p n.routes
        → length n.routes < most_routes
        → Past (set_route c p) (quiet Answer.Done (with_routes n (n.routes ++ (new_route faces p (class_of c) ∷ []))))
    -- a route is dropped
    drops_route : (p : List ℕ) → route_of p n.routes < length n.routes
        → Past (drop_route p) (quiet Answer.Done (with_routes n (without (route_of p n.routes) n.routes)))
    -- a hop is added
    adds_hop : (f cost : ℕ) (p : List ℕ) → cost ≤ most_cost → route_of p n.routes < length n.routes
        → Past (add_hop f cost p) (quiet Answer.Done (with_routes n (on_at (route_of p n.routes) (with_hop f (some cost)) n.routes)))
    -- a hop is dropped
    drops_hop : (f : ℕ) (p : List ℕ) → route_of p n.routes < length n.routes
        → Past (drop_hop f p) (quiet Answer.Done (with_routes n (on_at (route_of p n.routes) (with_hop f none) n.routes)))

  -- an Interest, by the route for it
  routed_past : {w : What} (f : ℕ) (q : HoldsInterest n w f) → at_place (entry_of n (asked q)) n.pending ≡ none
      → (x : Option Route) → longest (asked q).name n.routes ≡ x → Past w (routed now n (arrival f q) x)
  unfolding routed given
  routed_past {w} f q a none b = nacked_back f q Answer.NoRoute 150 no_route
  routed_past {w} f q a (some r) b = go (cheapest_of (eligible n (arrival f q) (is_local_face n.faces f)) r) refl
    where
      go : (x : Option ℕ) → cheapest_of (eligible n (arrival f q) (is_local_face n.faces f)) r ≡ x
          → Past w (routed now n (arrival f q) (some r))
      go none c = rw c (nacked_back f q Answer.NoRoute 150 no_route)
      go (some h) c =
          rw c (unfold may_open in pick_ind (Past w) (rule.no_room n (new_entry now n (arrival f q) r.cls h)) _ _
          (λ _. nacked_back f q Answer.NoRoom 50 no_room) (λ d. opened f q r h a b c d))

  -- an Interest past the checks
  entry_past : {w : What} (f : ℕ) (q : HoldsInterest n w f) (x : Option Entry) → at_place (entry_of n (asked q)) n.pending ≡ x
      → Past w (asks_entry now n (arrival f q) x)
  unfolding asks_entry
  entry_past {w} f q (some e) a = joined f q e a
  entry_past {w} f q none a =
      go (lookup now (asked q).name (asked q).can_be_prefix (asked q).must_be_fresh n.store) refl
    where
      go : (x : Option Hit) → lookup now (asked q).name (asked q).can_be_prefix (asked q).must_be_fresh n.store ≡ x
          → Past w (asks_anew now n (arrival f q) x)
      go none b = unfold asks_anew in routed_past f q a (longest (asked q).name n.routes) refl
      go (some h) b = unfold asks_anew in served_from f q h b a

  -- an Interest
  interest_past : {w : What} (f : ℕ) (q : HoldsInterest n w f) → Past w (interest_step now n (arrival f q))
  unfolding interest_step
  interest_past {w} f q =
      pick_ind (Past w) _ _ _ (λ _. refused f Answer.HopLimit refl)
      (λ _. pick_ind (Past w) _ _ _ (λ _. refused f Answer.Scope refl)
      (λ _. pick_ind (Past w) _ _ _ (λ _. nacked_back f q Answer.Loop 100 loop)
      (λ _. entry_past f q (at_place (entry_of n (asked q)) n.pending) refl)))

  -- a Data
  data_past : {w : What} (f : ℕ) (q : HoldsData n w f) → Past w (data_step now n f (brought q) q.bytes)
  unfolding data_step
  data_past {w} f q =
      pick_ind (Past w) _ _ _ (λ _. refused f Answer.Scope refl)
      (λ _. pick_ind (Past w) _ _ _ (λ _. refused f Answer.Unsolicited refl) (λ a. satisfied f q a))

  -- a Nack for an out-record
  nacked_past : {w : What} (f : ℕ) (q : HoldsNack n w f) (e : Entry) → at_place (entry_of n (denied q)) n.pending ≡ some e
      → Fits n f (denied q).nonce e → Past w (nacked_entry now n (entry_of n (denied q)) (with_nack f q.reason e))
  unfolding nacked_entry
  nacked_past {w} f q e a k =
      pick_ind (Past w) (all_nacked (with_nack f q.reason e)) _ _ (λ b. nacked_on f q e a k b) (λ b. marked f q e a k b)

  -- a Nack
  nack_past : {w : What} (f : ℕ) (q : HoldsNack n w f) → Past w (nack_step now n f q.reason (denied q))
  unfolding nack_step sent_back given
  nack_past {w} f q = go (at_place (entry_of n (denied q)) n.pending) refl
    where
      go : (x : Option Entry) → at_place (entry_of n (denied q)) n.pending ≡ x
          → Past w (nack_step now n f q.reason (denied q))
      go none a =
          rw a (pick_ind (Past w) _ _ _ (λ _. refused f Answer.Scope refl)
          (λ _. pick_ind (Past w) _ _ _ (λ _. refused f Answer.StaleNack refl) (λ _. refused f Answer.StaleNack refl)))
      go (some e) a =
          rw a (pick_ind (Past w) _ _ _ (λ _. refused f Answer.Scope refl)
          (λ _. pick_ind (Past w) _ _ _
          (λ p. pick_ind (Past w) _ _ _
          (λ s. nacked_past f q e a (record { peer = p; sent = s }))
          (λ _. refused f Answer.StaleNack refl))
          (λ _. refused f Answer.StaleNack refl)))

  -- a packet, by what it means
  packet_past : {w : What} (f : ℕ) (h : Heard) → Hears n w f h → Past w (arrives now n f h)
  unfolding arrives
  packet_past f (meaning.refused a) k = unread f a k
  packet_past f (asks i b) k = interest_past f (record { ask = i; bytes = b; comes = k })
  packet_past f (brings d b) k = data_past f (record { offer = d; bytes = b; comes = k })
  packet_past f (nacks r i) k = nack_past f (record { reason = r; ask = i; comes = k })

  -- a command by its prefix: refused, or what is done where the prefix is good
  prefix_past : (w : What) (p : List ℕ) (o : Outcome) → (length p ≤ most_name → Past w o) → Past w (by_prefix n p o)
  unfolding by_prefix
  prefix_past w p o k =
      pick_ind (Past w) _ _ _ (λ _. turned_away w Answer.Malformed refl)
      (λ _. pick_ind (Past w) _ _ _ (λ _. turned_away w Answer.Unsupported refl)
      (λ _. pick_ind (Past w) _ _ _ (λ _. turned_away w Answer.TooLong refl)
      (λ s. pick_ind (Past w) _ _ _ (λ _. turned_away w Answer.TooLong refl) (λ _. k (ltb-false most_name (length p) s)))))

  -- a command on a route: refused, or what is done where the route is there
  route_past : (w : What) (p : List ℕ) (o : ℕ → Outcome) → (route_of p n.routes < length n.routes → Past w (o (route_of p n.routes)))
      → Past w (on_route n p o)
  unfolding on_route
  route_past w p o k =
      pick_ind (Past w) _ _ _ (λ h. k (ltb-true (route_of p n.routes) (length n.routes) h)) (λ _. turned_away w Answer.NoRoute refl)

  -- opening a face
  open_past : (f scope link : ℕ) → Past (open_face f scope link) (open_step n f scope link)
  unfolding open_step
  open_past f scope link =
      pick_ind (Past (open_face f scope link)) _ _ _ (λ _. turned_away _ Answer.FaceOpen refl)
      (λ a. pick_ind (Past (open_face f scope link)) _ _ _ (λ _. turned_away _ Answer.BadSetting refl) (λ _. opens_face f scope link a))

  -- setting a route
  set_past : (c : ℕ) (p : List ℕ) → Past (set_route c p) (set_route_step faces n c p)
  unfolding set_route_step
  set_past c p =
      prefix_past _ p _
      (λ s. pick_ind (Past (set_route c p)) _ _ _ (λ _. turned_away _ Answer.BadSetting refl)
      (λ a. pick_ind (Past (set_route c p)) _ _ _
      (λ h. sets_class c p (not-false (is_class (class_of c)) a) (ltb-true (route_of p n.routes) (length n.routes) h))
      (λ g. pick_ind (Past (set_route c p)) _ _ _ (λ _. turned_away _ Answer.TableFull refl)
      (λ h. adds_route c p s (not-false (is_class (class_of c)) a) (ltb-false (route_of p n.routes) (length n.routes) g)
      (leb-false most_routes (length n.routes) h)))))

  -- dropping a route
  drop_past : (p : List ℕ) → Past (drop_route p) (drop_route_step n p)
  unfolding drop_route_step
  drop_past p = prefix_past _ p _ (λ _. route_past _ p _ (λ h. drops_route p h))

  -- adding a hop
  hop_past : (f cost : ℕ) (p : List ℕ) → Past (add_hop f cost p) (add_hop_step n f cost p)
  unfolding add_hop_step
  hop_past f cost p =
      prefix_past _ p _
      (λ _. pick_ind (Past (add_hop f cost p)) _ _ _ (λ _. turned_away _ Answer.BadSetting refl)
      (λ a. route_past _ p _ (λ h. adds_hop f cost p (ltb-false most_cost cost a) h)))

  -- dropping a hop
  unhop_past : (f : ℕ) (p : List ℕ) → Past (drop_hop f p) (drop_hop_step n f p)
  unfolding drop_hop_step
  unhop_past f p =
      prefix_past _ p _
      (λ _. route_past _ p _ (λ h. pick_ind (Past (drop_hop f p)) _ _ _ (λ _. drops_hop f p h) (λ _. turned_away _ Answer.NoRoute refl)))

  -- each event past the first three checks comes to one of these
  pub past : (w : What) → Past w (what_step faces now n w)
  unfolding what_step
  past (packet f l) = packet_past f (heard l) (bytes_hears n f l)
  past clock = ticked
  past (open_face f scope link) = open_past f scope link
  past (close_face f) = closes_face f
  past (set_route c p) = set_past c p
  past (drop_route p) = drop_past p
  past (add_hop f cost p) = hop_past f cost p
  past (drop_hop f p) = unhop_past f p

-- a face of a packet or a command that is not bad: one of the faces, and open
pub record GoodFace (faces : ℕ) (n : Node) (f : ℕ) : Type 0 where
  pub low : 1 ≤ f
  pub high : f ≤ faces
  pub stands : is_open n.faces f ≡ true

-- what the check of a face leaves
pub good_face : (faces : ℕ) (n : Node) (f : ℕ) → not (is_face faces f && is_open n.faces f) ≡ false → GoodFace faces n f
unfolding is_face
good_face faces n f e =
    let a = both (is_face faces f) (is_open n.faces f) (not-false (is_face faces f && is_open n.faces f) e) in
    let b = both (leb 1 f) (leb f faces) a.0 in
    record { low = leb-true 1 f b.0; high = leb-true f faces b.1; stands = a.1 }

-- the face of a packet that came in is such, where the event's face is not bad
pub came_face : (faces : ℕ) (n : Node) (w : What) (f : ℕ) (h : Heard) → Hears n w f h → bad_face faces n w ≡ false → GoodFace faces n f
unfolding bad_face holds
came_face faces n w f h k e =
    good_face faces n f (rw (hears_face n f h w k, hears_opens n f h w k) at e)

-- ageing opens and closes no face
pub aged_face : (faces now : ℕ) (n : Node) (w : What) → bad_face faces n w ≡ false → bad_face faces (aged now n) w ≡ false
unfolding aged bad_face
aged_face faces now n w h = h

module _ (faces least : ℕ) (e : Event) (n : Node) where
  -- what an event can come to: refused by one of the first three checks, it changes nothing; else the node ages and what follows is as
  -- above
  pub data Becomes : Outcome → Type 0 where
    ignored : (a : Answer) → is_done a ≡ false → Becomes (quiet a n)
    taken : (o : Outcome) → bad_time n e.time ≡ false → bad_face faces n e.what ≡ false
        → Past faces e.time (aged e.time n) e.what o → Becomes (after_ageing (ageing e.time n) o)

  -- each event comes to one of these
  pub becomes : Becomes (step faces least e n)
  unfolding step
  becomes =
      pick_ind Becomes _ _ _ (λ _. ignored Answer.Clock refl)
      (λ t. pick_ind Becomes _ _ _ (λ _. ignored Answer.SmallBuffer refl)
      (λ _. pick_ind Becomes _ _ _ (λ _. ignored Answer.BadFace refl)
      (λ f. taken (what_step faces e.time (aged e.time n) e.what) t f (past faces e.time (aged e.time n) e.what))))
