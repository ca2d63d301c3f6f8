-- What a refusal leaves: the check that refuses alone says which packets are sent, what happens to requests, and what the node holds
-- afterwards.
-- Assumes nothing.
use Rattle.std.specs.Prelude.{ℕ, ◌≡◌, ◌⊎◌, ◌≢◌, Bool, true, false, ◌||◌, not, length, ltb, leb, eqb}
use Rattle.std.proofs.Math.Path.{refl, sym, ap}
use Rattle.std.proofs.Common.{◌∙◌, ⊎_elim, arith}
use Rattle.std.proofs.Math.Logic.{inl, inr}
use mathlib.Core.List.{List, [], append-nil}
use Rattle.std.proofs.Math.Option.{Option, none, some}
use Rattle.answers.specs.declared.Answer.{Answer}
use Rattle.answers.specs.Number.{number_of}
use Rattle.laws.specs.Pick.{pick}
use Rattle.laws.specs.Laws.Pick.{pick_ind, pick_yes, pick_no}
use Rattle.wire.specs.Verdict.{is_malformed, is_unsupported}
use Rattle.sizes.specs.Sizes.{most_packet, most_components, most_name}
use Rattle.names.specs.Name.{counted}
use Rattle.packethead.specs.Name.{name_came}
use Rattle.packets.specs.Meaning.{Ask, Offer, Heard, refused, asks, brings, nacks, heard}
use Rattle.sizes.specs.Sizes.{most_packet, most_routes, most_cost, most_name, most_components}
use Rattle.records.specs.Class.{class_of, is_class}
use Rattle.records.specs.Slots.{is_empty, is_some, given, only, at_place}
use Rattle.records.specs.Face.{is_open, is_local_face, is_peer}
use Rattle.records.specs.Route.{Route, route_of, longest, hop_at, cheapest_of}
use Rattle.records.specs.Entry.{Entry, matches, with_nack, all_nacked, sent_nonce}
use Rattle.records.specs.Stored.{Hit, lookup}
use Rattle.rules.specs.Node.{Node, What, packet, open_face, close_face, set_route, drop_route, add_hop, drop_hop, Event}
use Rattle.rules.specs.Outcome.{Send, Outcome, quiet, nack_for}
use Rattle.rules.specs.Ageing.{aged, ageing}
use Rattle.incoming.specs.Incoming.{came_in}
use Rattle.refusals.specs.Refusals.{Check, Clock, SmallBuffer, BadFace, FaceOpen, PacketSize, Malformed, Unsupported, NameSize, BadSetting, HopLimit, Scope, Loop, NoRoute, NoRoom, Unsolicited, StaleNack, TableFull, answer_of, Decides}
use Rattle.refusals.specs.Refused.{is_early, nack_reason, sends_for, refusal_sends, refusal}
use Rattle.rules.specs.Interest.{Arrival, eligible, entry_of, loops, new_entry, opens_entry, no_room, may_open, routed, served, asks_anew, sends_on, renews, asks_again, asks_entry, hop_is_zero, out_of_scope, interest_step}
use Rattle.rules.specs.Data.{satisfies, data_step}
use Rattle.rules.specs.Nack.{sent_back, ends_by_nack, nacked_entry, nack_step}
use Rattle.rules.specs.Command.{by_prefix, open_step, close_step, set_route_step, on_route, drop_route_step, add_hop_step, drop_hop_step}
use Rattle.rules.specs.Step.{arrives, what_step, bad_face, after_ageing, bad_time, step}
use Rattle.refusals.specs.Laws.Reading.{is_long, Heeds, heard_heeds, heard_long}
use Rattle.refusals.specs.Laws.Exactly.{decides_answer}
use Rattle.records.specs.Happening.{Happening}

-- ---- what a refusal leaves, by its answer: each check's number tells its check's side of ageing and its Nack

-- the reason of the Nack that an answer sends
unfoldable reason_for : Answer → Option ℕ
unfolding pick
reason_for a = pick (eqb (number_of a) 9) (some 100) (pick (eqb (number_of a) 10) (some 150) (pick (eqb (number_of a) 11) (some 50) none))

-- what a refusal by an answer sends
unfoldable sends_by : Node → What → Answer → List Send
sends_by n (packet f l) a = sends_for n f (reason_for a) (heard l)
sends_by n What.clock a = []
sends_by n (open_face f scope link) a = []
sends_by n (close_face f) a = []
sends_by n (set_route c p) a = []
sends_by n (drop_route p) a = []
sends_by n (add_hop f cost p) a = []
sends_by n (drop_hop f p) a = []

-- what it leaves
unfoldable left_by : Event → Node → Answer → Outcome
left_by e n a =
    let m = aged e.time n in
    pick (leb (number_of a) 3) (quiet a n)
    (record { answer = a; node = m; sends = sends_by m e.what a; happenings = ageing e.time n })

-- ---- past ageing

-- a refusal's outcome before the expiries are put in front
abbrev plain : Node → What → Answer → Outcome
plain n w a = record { answer = a; node = n; sends = sends_by n w a; happenings = [] }

-- an outcome is 0's, or a refusal's
abbrev Leaves : Node → What → Outcome → Type 0
Leaves n w o = (o.answer ≡ Answer.Done) ⊎ ((leb (number_of o.answer) 3 ≡ false) × (o ≡ plain n w o.answer))

-- an answer that sends no Nack
sends_none : (n : Node) (w : What) (a : Answer) → reason_for a ≡ none → sends_by n w a ≡ []
unfolding sends_by sends_for given
sends_none n (packet f l) a e = rw e (go (heard l))
  where
    go : (h : Heard) → sends_for n f none h ≡ []
    go (refused a) = refl
    go (asks i bytes) = refl
    go (brings d bytes) = refl
    go (nacks reason i) = refl
sends_none n What.clock a e = refl
sends_none n (open_face f scope link) a e = refl
sends_none n (close_face f) a e = refl
sends_none n (set_route c p) a e = refl
sends_none n (drop_route p) a e = refl
sends_none n (add_hop f cost p) a e = refl
sends_none n (drop_hop f p) a e = refl

-- a refusal that sends nothing
silent : (n : Node) (w : What) (a : Answer) → leb (number_of a) 3 ≡ false → sends_by n w a ≡ [] → Leaves n w (quiet a n)
unfolding quiet
silent n w a h e = inr (h, rw e)

-- a refusal of an Interest, with a Nack of a reason
nacking : (n : Node) (f : ℕ) (l : List ℕ) (i : Ask) (bytes : List ℕ) (a : Answer) (reason : ℕ)
    → heard l ≡ asks i bytes → leb (number_of a) 3 ≡ false → reason_for a ≡ some reason → Leaves n (packet f l) (nack_for a reason n f i)
unfolding nack_for sends_by sends_for given
nacking n f l i bytes a reason q h e = inr (h, rw (q, e))

module _ (now : ℕ) (n : Node) (f : ℕ) (l : List ℕ) (i : Ask) (bytes : List ℕ) (q : heard l ≡ asks i bytes) where
  -- the Interest as it arrived
  abbrev came : Arrival
  came = record { face = f; ask = i; bytes = bytes }

  -- 10 for an Interest
  no_route_lem : Leaves n (packet f l) (nack_for Answer.NoRoute 150 n f i)
  unfolding reason_for
  no_route_lem = nacking n f l i bytes Answer.NoRoute 150 q refl refl

  -- an Interest by its longest route
  routed_leaves : (o : Option Route) → Leaves n (packet f l) (routed now n came o)
  unfolding routed given may_open opens_entry reason_for
  routed_leaves none = no_route_lem
  routed_leaves (some r) = go (cheapest_of (eligible n came (is_local_face n.faces f)) r) refl
    where
      go : (o : Option ℕ) → cheapest_of (eligible n came (is_local_face n.faces f)) r ≡ o
          → Leaves n (packet f l) (routed now n came (some r))
      go none e = rw e no_route_lem
      go (some h) e =
          rw e (pick_ind (Leaves n (packet f l)) (no_room n (new_entry now n came r.cls h)) _ _
          (λ _. nacking n f l i bytes Answer.NoRoom 50 q refl refl) (λ _. inl refl))

  -- an Interest past the checks of every Interest
  entry_leaves : (o : Option Entry) → Leaves n (packet f l) (asks_entry now n came o)
  unfolding asks_entry asks_anew asks_again renews sends_on served
  entry_leaves none = go (lookup now i.name i.can_be_prefix i.must_be_fresh n.store)
    where
      go : (o : Option Hit) → Leaves n (packet f l) (asks_anew now n came o)
      go none = routed_leaves (longest i.name n.routes)
      go (some h) = inl refl
  entry_leaves (some x) = inl refl

  -- an Interest
  interest_leaves : Leaves n (packet f l) (interest_step now n came)
  unfolding interest_step reason_for
  interest_leaves =
      let w = packet f l in
      pick_ind (Leaves n w) (hop_is_zero i.hop) _ _ (λ _. silent n w Answer.HopLimit refl (sends_none n w Answer.HopLimit refl))
      (λ _. pick_ind (Leaves n w) (out_of_scope n f i.name) _ _ (λ _. silent n w Answer.Scope refl (sends_none n w Answer.Scope refl))
      (λ _. pick_ind (Leaves n w) (loops now n came) _ _ (λ _. nacking n f l i bytes Answer.Loop 100 q refl refl)
      (λ _. entry_leaves (at_place (entry_of n i) n.pending))))

-- a Data
data_leaves : (now : ℕ) (n : Node) (w : What) (f : ℕ) (d : Offer) (bytes : List ℕ) → Leaves n w (data_step now n f d bytes)
unfolding data_step satisfies reason_for
data_leaves now n w f d bytes =
    pick_ind (Leaves n w) (out_of_scope n f d.name) _ _ (λ _. silent n w Answer.Scope refl (sends_none n w Answer.Scope refl))
    (λ _. pick_ind (Leaves n w) (is_empty (only (matches d.name) n.pending)) _ _
    (λ _. silent n w Answer.Unsolicited refl (sends_none n w Answer.Unsolicited refl)) (λ _. inl refl))

-- a Nack
nack_leaves : (now : ℕ) (n : Node) (w : What) (f reason : ℕ) (i : Ask) → Leaves n w (nack_step now n f reason i)
unfolding nack_step sent_back given nacked_entry ends_by_nack quiet reason_for
nack_leaves now n w f reason i = go (at_place (entry_of n i) n.pending) refl
  where
    stale : Leaves n w (quiet Answer.StaleNack n)
    stale = silent n w Answer.StaleNack refl (sends_none n w Answer.StaleNack refl)

    scope : Leaves n w (quiet Answer.Scope n)
    scope = silent n w Answer.Scope refl (sends_none n w Answer.Scope refl)

    go : (o : Option Entry) → at_place (entry_of n i) n.pending ≡ o → Leaves n w (nack_step now n f reason i)
    go none e =
        rw e (pick_ind (Leaves n w) (out_of_scope n f i.name) _ _ (λ _. scope)
        (λ _. pick_ind (Leaves n w) (is_peer n.faces f) _ _ (λ _. stale) (λ _. stale)))
    go (some x) e =
        rw e (pick_ind (Leaves n w) (out_of_scope n f i.name) _ _ (λ _. scope)
        (λ _. pick_ind (Leaves n w) (is_peer n.faces f) _ _
        (λ _. pick_ind (Leaves n w) (sent_nonce f i.nonce x) _ _
        (λ _. pick_ind (Leaves n w) (all_nacked (with_nack f reason x)) _ _ (λ _. inl refl) (λ _. inl refl)) (λ _. stale)) (λ _. stale)))

-- a packet that is read to a left_by is refused by 4, 5 or 6, with no Nack
unread_leaves : (n : Node) (f : ℕ) (l : List ℕ) (a : Answer) → heard l ≡ refused a → Leaves n (packet f l) (quiet a n)
unfolding reason_for
unread_leaves n f l a q = go (ltb most_packet (length l)) refl
  where
    by : (b : Answer) → a ≡ b → leb (number_of b) 3 ≡ false → reason_for b ≡ none → Leaves n (packet f l) (quiet a n)
    by b e h r = rw e (silent n (packet f l) b h (sends_none n (packet f l) b r))

    judged : Heeds (is_long (name_came l)) (refused a) → Leaves n (packet f l) (quiet a n)
    judged (inl e) = by Answer.Malformed e refl refl
    judged (inr (inl e)) = by Answer.Unsupported e refl refl
    judged (inr (inr e)) = by Answer.TooLong e.0 refl refl

    go : (b : Bool) → ltb most_packet (length l) ≡ b → Leaves n (packet f l) (quiet a n)
    go true e = by Answer.TooLong (cc (heard_long l e)) refl refl
    go false e = judged (rw q at (heard_heeds l e))

-- a packet by what it means
arrives_leaves : (now : ℕ) (n : Node) (f : ℕ) (l : List ℕ) (h : Heard) → heard l ≡ h → Leaves n (packet f l) (arrives now n f h)
unfolding arrives
arrives_leaves now n f l (refused a) q = unread_leaves n f l a q
arrives_leaves now n f l (asks i bytes) q = interest_leaves now n f l i bytes q
arrives_leaves now n f l (brings d bytes) q = data_leaves now n (packet f l) f d bytes
arrives_leaves now n f l (nacks reason i) q = nack_leaves now n (packet f l) f reason i

-- a command by its prefix
prefix_leaves : (n : Node) (w : What) (p : List ℕ) (o : Outcome) → Leaves n w o → Leaves n w (by_prefix n p o)
unfolding by_prefix reason_for
prefix_leaves n w p o h =
    pick_ind (Leaves n w) (is_malformed (counted p).said) _ _ (λ _. silent n w Answer.Malformed refl (sends_none n w Answer.Malformed refl))
    (λ _. pick_ind (Leaves n w) (is_unsupported (counted p).said) _ _
    (λ _. silent n w Answer.Unsupported refl (sends_none n w Answer.Unsupported refl))
    (λ _. pick_ind (Leaves n w) (ltb most_name (length p)) _ _ (λ _. long)
    (λ _. pick_ind (Leaves n w) (ltb most_components (counted p).count) _ _ (λ _. long) (λ _. h))))
  where
    long : Leaves n w (quiet Answer.TooLong n)
    long = silent n w Answer.TooLong refl (sends_none n w Answer.TooLong refl)

-- a command on a route: 10 sends no Nack
route_leaves : (n : Node) (w : What) (p : List ℕ) (o : ℕ → Outcome)
    → sends_by n w Answer.NoRoute ≡ [] → Leaves n w (o (route_of p n.routes)) → Leaves n w (on_route n p o)
unfolding on_route
route_leaves n w p o e h =
    pick_ind (Leaves n w) (ltb (route_of p n.routes) (length n.routes)) _ _ (λ _. h) (λ _. silent n w Answer.NoRoute refl e)

-- an event past ageing
what_leaves : (faces now : ℕ) (n : Node) (w : What) → Leaves n w (what_step faces now n w)
unfolding what_step open_step close_step set_route_step drop_route_step add_hop_step drop_hop_step quiet reason_for sends_by
what_leaves faces now n (packet f l) = arrives_leaves now n f l (heard l) refl
what_leaves faces now n What.clock = inl refl
what_leaves faces now n (open_face f scope link) =
    let w = open_face f scope link in
    pick_ind (Leaves n w) (is_open n.faces f) _ _ (λ _. silent n w Answer.FaceOpen refl refl)
    (λ _. pick_ind (Leaves n w) (ltb 1 scope || ltb 2 link) _ _ (λ _. silent n w Answer.BadSetting refl refl) (λ _. inl refl))
what_leaves faces now n (close_face f) = inl refl
what_leaves faces now n (set_route c p) =
    let w = set_route c p in
    prefix_leaves n w p _
    (pick_ind (Leaves n w) (not (is_class (class_of c))) _ _ (λ _. silent n w Answer.BadSetting refl refl)
    (λ _. pick_ind (Leaves n w) (ltb (route_of p n.routes) (length n.routes)) _ _ (λ _. inl refl)
    (λ _. pick_ind (Leaves n w) (leb most_routes (length n.routes)) _ _ (λ _. silent n w Answer.TableFull refl refl) (λ _. inl refl))))
what_leaves faces now n (drop_route p) = prefix_leaves n (drop_route p) p _ (route_leaves n (drop_route p) p _ refl (inl refl))
what_leaves faces now n (add_hop f cost p) =
    let w = add_hop f cost p in
    prefix_leaves n w p _
    (pick_ind (Leaves n w) (ltb most_cost cost) _ _ (λ _. silent n w Answer.BadSetting refl refl)
    (λ _. route_leaves n w p _ refl (inl refl)))
what_leaves faces now n (drop_hop f p) =
    let w = drop_hop f p in
    prefix_leaves n w p _
    (route_leaves n w p _ refl
    (pick_ind (Leaves n w) (is_some (hop_at f (route_of p n.routes) n.routes)) _ _ (λ _. inl refl)
    (λ _. silent n w Answer.NoRoute refl refl)))

-- ---- the theorem

module _ (faces least : ℕ) (e : Event) (n : Node) where
  -- an outcome is 0's, or what the answer says that a refusal leaves
  abbrev Says : Outcome → Type 0
  Says o = (o.answer ≡ Answer.Done) ⊎ (o ≡ left_by e n o.answer)

  -- answers 1 to 3
  early : (a : Answer) → leb (number_of a) 3 ≡ true → Says (quiet a n)
  unfolding left_by quiet
  early a h = inr (sym (pick_yes (leb (number_of a) 3) _ _ h))

  -- every other answer
  late : (o : Outcome) → Leaves (aged e.time n) e.what o → Says (after_ageing (ageing e.time n) o)
  unfolding left_by after_ageing
  late o (inl q) = inl q
  late o (inr (h, q)) =
      let m = aged e.time n in
      let leaving : List Happening → Outcome = λ hs. record {
        answer = o.answer;
        node = m;
        sends = sends_by m e.what
            o.answer;
        happenings = hs;
      } in
      inr (ap (after_ageing (ageing e.time n)) q ∙ ap leaving (append-nil (ageing e.time n))
      ∙ sym (pick_no (leb (number_of o.answer) 3) _ _ h))

  -- every event
  says : Says (step faces least e n)
  unfolding step
  says =
      pick_ind Says (bad_time n e.time) _ _ (λ _. early Answer.Clock refl)
      (λ _. pick_ind Says (ltb e.room least) _ _ (λ _. early Answer.SmallBuffer refl)
      (λ _. pick_ind Says (bad_face faces n e.what) _ _ (λ _. early Answer.BadFace refl)
      (λ _. late (what_step faces e.time (aged e.time n) e.what) (what_leaves faces e.time (aged e.time n) e.what))))

  -- by its number
  by_answer : (step faces least e n).answer ≢ Answer.Done → step faces least e n ≡ left_by e n (step faces least e n).answer
  by_answer h = ⊎_elim (λ q. absurd (h q)) (λ q. q) says

-- a check's number tells that its answer is not 0, its side of ageing, and its Nack
record Number (c : Check) : Type 0 where
  refuses : answer_of c ≢ Answer.Done
  side : leb (number_of (answer_of c)) 3 ≡ is_early c
  reason : reason_for (answer_of c) ≡ nack_reason c

-- an answer whose number is not 0 is not 0
not_done : (a : Answer) → ltb 0 (number_of a) ≡ true → a ≢ Answer.Done
not_done a h q = let z : ◌≡◌ {A = ℕ} 0 1 = cc (h, q) in omega arith

-- each check's
number : (c : Check) → Number c
unfolding is_early reason_for nack_reason
number Clock = record { refuses = not_done (answer_of Clock) refl; side = refl; reason = refl }
number SmallBuffer = record { refuses = not_done (answer_of SmallBuffer) refl; side = refl; reason = refl }
number BadFace = record { refuses = not_done (answer_of BadFace) refl; side = refl; reason = refl }
number FaceOpen = record { refuses = not_done (answer_of FaceOpen) refl; side = refl; reason = refl }
number PacketSize = record { refuses = not_done (answer_of PacketSize) refl; side = refl; reason = refl }
number Malformed = record { refuses = not_done (answer_of Malformed) refl; side = refl; reason = refl }
number Unsupported = record { refuses = not_done (answer_of Unsupported) refl; side = refl; reason = refl }
number NameSize = record { refuses = not_done (answer_of NameSize) refl; side = refl; reason = refl }
number BadSetting = record { refuses = not_done (answer_of BadSetting) refl; side = refl; reason = refl }
number HopLimit = record { refuses = not_done (answer_of HopLimit) refl; side = refl; reason = refl }
number Scope = record { refuses = not_done (answer_of Scope) refl; side = refl; reason = refl }
number Loop = record { refuses = not_done (answer_of Loop) refl; side = refl; reason = refl }
number NoRoute = record { refuses = not_done (answer_of NoRoute) refl; side = refl; reason = refl }
number NoRoom = record { refuses = not_done (answer_of NoRoom) refl; side = refl; reason = refl }
number Unsolicited = record { refuses = not_done (answer_of Unsolicited) refl; side = refl; reason = refl }
number StaleNack = record { refuses = not_done (answer_of StaleNack) refl; side = refl; reason = refl }
number TableFull = record { refuses = not_done (answer_of TableFull) refl; side = refl; reason = refl }

-- what a check sends is what its answer does
same_sends : (n : Node) (w : What) (c : Check) → reason_for (answer_of c) ≡ nack_reason c → sends_by n w (answer_of c) ≡ refusal_sends n w c
unfolding sends_by refusal_sends came_in given heard
same_sends n (packet f l) c r = rw r
same_sends n What.clock c r = refl
same_sends n (open_face f scope link) c r = refl
same_sends n (close_face f) c r = refl
same_sends n (set_route k p) c r = refl
same_sends n (drop_route p) c r = refl
same_sends n (add_hop f cost p) c r = refl
same_sends n (drop_hop f p) c r = refl

module _ (faces least : ℕ) (e : Event) (n : Node) where
  -- what a refusal leaves: the check that decides says it
  pub refusal_leaves : (c : Check) → Decides faces least e n c → step faces least e n ≡ refusal e n c
  unfolding left_by refusal
  refusal_leaves c d =
      let a : (step faces least e n).answer ≡ answer_of c = decides_answer faces least e n c d in
      let k = number c in
      let b : step faces least e n ≡ left_by e n (answer_of c) =
      by_answer faces least e n (λ q. k.refuses (sym a ∙ q)) ∙ ap (left_by e n) a in
      b ∙ rw (k.side, same_sends (aged e.time n) e.what c k.reason) refl
