-- "What it writes, it reads back to the same meaning" (`run_reads_back`): what each send means to a reader of the same rules, over any
-- events whose packets are bytes, each element below 256. A Data that is stored came in at an earlier moment (`store_brought`).
-- Assumes nothing.
use Rattle.std.specs.Prelude.{ℕ, ◌^◌, ◌<◌, ◌≡◌, length}
use Rattle.std.proofs.Math.Path.{refl}
use Rattle.std.proofs.Common.{sym, ◌∙◌, inl, inr}
use mathlib.Core.List.{List, [], ◌∷◌, ◌++◌, map, append-nil}
use Rattle.std.proofs.Math.Option.{Option, none, some}
use Rattle.std.proofs.Math.ListN.{get_elem?}
use Rattle.std.proofs.Math.Seq.{append_snoc}
use Rattle.laws.specs.Laws.Pick.{pick_ind}
use Rattle.laws.specs.Lists.{on_at}
use Rattle.wire.specs.Bytes.{Bytes}
use Rattle.packets.specs.Meaning.{Offer, Heard, brings, heard}
use Rattle.packets.specs.Laws.Heard.{asks_nonce}
use Rattle.writing.specs.Laws.InterestBack.{forward_back}
use Rattle.writing.specs.Laws.BareBack.{data_back}
use Rattle.writing.specs.Laws.NackBack.{nack_back}
use Rattle.sizes.specs.Sizes.{most_stored}
use Rattle.records.specs.Class.{Class}
use Rattle.records.specs.Slots.{no_slots, slot, set_slot, given, at_place}
use Rattle.records.specs.Laws.Slot.{set_slot_keeps, slot_no_slots}
use Rattle.records.specs.Entry.{Request, Entry, with_requests, with_sent, asking, not_asking, ending, sending, not_sent, is_live, if_live, aged_entry, with_nack}
use Rattle.records.specs.Stored.{Stored, Hit, others, stored, touched}
use Rattle.records.specs.Happening.{Fate, nacked, Happening}
use Rattle.records.specs.Ageing.{staying, becoming, aged_pending}
use Rattle.records.specs.Closing.{without_face}
use Rattle.rules.specs.Node.{Node, empty_node, What, packet, Event}
use Rattle.rules.specs.Outcome.{Kind, interest, dat, nack, Send, Outcome, quiet, nack_for}
use Rattle.rules.specs.Ageing.{aged}
use Rattle.rules.specs.Interest.{Arrival, request_of, new_entry, opens_entry, sends_on, renews, asks_again, served}
use Rattle.rules.specs.Data.{stored_as, satisfies}
use Rattle.rules.specs.Nack.{settled, ends_by_nack}
use Rattle.rules.specs.Command.{close_step}
use Rattle.rules.specs.Step.{after_ageing, step, run}
use Rattle.incoming.specs.Incoming.{Hears}
use Rattle.incoming.specs.Laws.Incoming.{hears_bytes}
use Rattle.history.specs.Lists.{All, nothing, both, Some, here, there, In}
use Rattle.history.specs.Moments.{Moment, moment, moments, now, met, reached, lived, Arrives}
use Rattle.history.specs.Shape.{Shaped}
use Rattle.history.specs.Ends.{Nacking, Says, Honest}
use Rattle.history.specs.Leaving.{Forwarding, FromStore, EndsRequest, Refusing, Ending, Leaving}
use Rattle.history.specs.ReadBack.{BroughtBy, OfBytes, AsksOn, BringsOn, NacksBack, ReadsBack}
use Rattle.history.specs.Laws.Every.{not_none, all_mono, all_only, all_map, all_snoc, all_on_at, all_without, all_in, at_in, some_left, some_right, some_mono}
use Rattle.history.specs.Laws.Holding.{emptied_some}
use Rattle.history.specs.Laws.Known.{entry_in, with_request, sent_on}
use Rattle.history.specs.Laws.Lookup.{lookup_takes}
use Rattle.history.specs.Laws.Becomes.{HoldsInterest, asked, brought, arrival, Past, Becomes, ignored, taken, becomes}
use Rattle.history.specs.Laws.Becomes as case
use Rattle.history.specs.Laws.Arrives.{data_arrives}
use Rattle.history.specs.Laws.Tables.{slot_live, roomed_all}
use Rattle.history.specs.Laws.Names.{interest_name}
use Rattle.history.specs.Laws.ShapeKept.{aged_shaped, run_shaped}
use Rattle.history.specs.Laws.Ends.{step_honest}
use Rattle.history.specs.Laws.Leaving.{step_leaving}

-- ---- what is stored

module _ (past : List Moment) (e : Event) (n : Node) (k : All (λ d. Some (BroughtBy d) past) n.store) where
  -- the event, where it comes to an outcome
  abbrev at : Outcome → Moment
  at o = record { event = e; before = n; outcome = o }

  -- what was there came in before
  same_brought : (m : Moment) → All (λ d. Some (BroughtBy d) (past ++ (m ∷ []))) n.store
  same_brought m = all_mono (λ d b. some_left (m ∷ []) b) k

  -- a Data more
  stored_brought : (m : Moment) (d : Stored) → BroughtBy d m
      → All (λ d. Some (BroughtBy d) (past ++ (m ∷ []))) (stored most_stored d n.store)
  unfolding stored others
  stored_brought m d b = all_snoc (roomed_all most_stored _ (all_without _ (same_brought m))) (some_right past (here b))

  -- a Data hit
  touched_brought : (m : Moment) (h : Hit) → get_elem? n.store h.place ≡ some h.what
      → All (λ d. Some (BroughtBy d) (past ++ (m ∷ []))) (touched h n.store)
  unfolding touched
  touched_brought m h q =
      all_snoc (all_without _ (same_brought m)) (some_left (m ∷ []) (all_in k (at_in h.place h.what n.store q)))

  -- whatever the event comes to past the first three checks; p is what it comes to with its expiries
  past_brought : (faces : ℕ) (w : What) (o p : Outcome) → e.what ≡ w → Past faces e.time (aged e.time n) w o
      → All (λ d. Some (BroughtBy d) (past ++ (at p ∷ []))) o.node.store
  unfolding quiet nack_for opens_entry asks_again renews sends_on served satisfies stored_as ends_by_nack settled close_step aged
  past_brought faces w o p came (case.unread f a h) = same_brought (at p)
  past_brought faces w o p came (case.refused f a d) = same_brought (at p)
  past_brought faces w o p came (case.turned_away v a d) = same_brought (at p)
  past_brought faces w o p came case.ticked = same_brought (at p)
  past_brought faces w o p came (case.nacked_back f q a reason h) = same_brought (at p)
  past_brought faces w o p came (case.served_from f q h found absent) =
      touched_brought (at p) h (lookup_takes e.time _ _ _ n.store h found).0
  past_brought faces w o p came (case.opened f q r h a b c d) = same_brought (at p)
  past_brought faces w o p came (case.joined f q x a) = same_brought (at p)
  past_brought faces w o p came (case.satisfied f q a) =
      stored_brought (at p) (stored_as e.time (brought q) q.bytes)
      (record { from = f; offer = brought q; came = data_arrives e n p f came q; name = refl; freshness = refl; time = refl })
  past_brought faces w o p came (case.marked f q x a h z) = same_brought (at p)
  past_brought faces w o p came (case.nacked_on f q x a h z) = same_brought (at p)
  past_brought faces w o p came (case.opens_face f scope link a) = same_brought (at p)
  past_brought faces w o p came (case.closes_face f) = same_brought (at p)
  past_brought faces w o p came (case.sets_class c q a b) = same_brought (at p)
  past_brought faces w o p came (case.adds_route c q h a b d) = same_brought (at p)
  past_brought faces w o p came (case.drops_route q a) = same_brought (at p)
  past_brought faces w o p came (case.adds_hop f cost q a b) = same_brought (at p)
  past_brought faces w o p came (case.drops_hop f q a) = same_brought (at p)

module _ (faces least : ℕ) where
  -- whatever an event comes to, each stored Data came in it or before
  brought_case : (past : List Moment) (e : Event) (n : Node) (o : Outcome) → Becomes faces least e n o
      → All (λ d. Some (BroughtBy d) past) n.store
      → All (λ d. Some (BroughtBy d) (past ++ (record { event = e; before = n; outcome = o } ∷ []))) o.node.store
  unfolding quiet after_ageing
  brought_case past e n o (ignored a d) k = same_brought past e n k _
  brought_case past e n o (taken p t f b) k = past_brought past e n k faces e.what p _ refl b

  -- so it is after events, one after the other
  brought_keeps : (past : List Moment) (es : List Event) (n : Node) → All (λ d. Some (BroughtBy d) past) n.store
      → All (λ d. Some (BroughtBy d) (past ++ moments (step faces least) es n)) (run (step faces least) es n).store
  unfolding run moments
  brought_keeps past [] n k = rw (append-nil past) k
  brought_keeps past (e ∷ es) n k =
      rw (← append_snoc past (moment (step faces least) e n) (moments (step faces least) es (step faces least e n).node))
      (brought_keeps (past ++ (moment (step faces least) e n ∷ [])) es (step faces least e n).node
      (brought_case past e n (step faces least e n) (becomes faces least e n) k))

  -- start from an empty node and take any events: each stored Data came in at one of their moments, with these bytes, this name and this
  -- freshness, at the time of storing
  pub store_brought : (es : List Event)
      → All (λ d. Some (BroughtBy d) (lived faces (step faces least) es)) (reached faces (step faces least) es).store
  unfolding empty_node
  store_brought es = brought_keeps [] es (empty_node faces) nothing

-- ---- the packets of events of bytes

-- bytes that mean something
record Came (h : Heard) : Type 0 where
  pub packet : List ℕ
  pub bytes : Bytes packet
  pub means : heard packet ≡ h

-- with an event of bytes, bytes come in
came_bytes : (n : Node) (w : What) (f : ℕ) (h : Heard) → OfBytes w → Hears n w f h → Came h
came_bytes n w f h b k =
    let x = hears_bytes n f h w k in
    let y : OfBytes (packet f x.0) = rw x.1 at b in
    record { packet = x.0; bytes = y; means = x.2 }

-- the nonce of an Interest that comes in is below 2 ^ 32
interest_nonce : {n : Node} {w : What} (f : ℕ) (q : HoldsInterest n w f) → OfBytes w → (asked q).nonce < 2 ^ 32
interest_nonce {n} {w} f q b = let c = came_bytes n w f _ b q.comes in asks_nonce c.packet c.means c.bytes

-- ---- the nonces of requests

-- the nonces that slots hold are below 2 ^ 32
abbrev Narrow : List (Option Request) → Type 0
Narrow l = (f : ℕ) (r : Request) → slot f l ≡ some r → r.nonce < 2 ^ 32

-- those of all entries
abbrev AllNarrow : Node → Type 0
AllNarrow n = All (λ x. Narrow x.requests) n.pending

-- a slot set to a request with such a nonce, or emptied
set_narrow : (f : ℕ) (y : Option Request) (l : List (Option Request)) → ((r : Request) → y ≡ some r → r.nonce < 2 ^ 32) → Narrow l
    → Narrow (set_slot f y l)
set_narrow f y l a b g r = set_slot_keeps (λ (z : Option Request). z ≡ some r → r.nonce < 2 ^ 32) f g y l (a r) (b g r)

-- an empty slot holds no request
no_request : (r : Request) → none ≡ some r → r.nonce < 2 ^ 32
no_request r q = not_none q

-- empty slots
none_narrow : (n : ℕ) → Narrow (no_slots n)
none_narrow n f r q = not_none (sym (slot_no_slots f n) ∙ q)

-- requests that live are as they were
live_same : (now : ℕ) (x : Option Request) (r : Request) → if_live now x ≡ some r → x ≡ some r
unfolding if_live
live_same now none r q = q
live_same now (some y) r q =
    pick_ind (λ (z : Option Request). z ≡ some r → some y ≡ some r) (is_live now y) (some y) none (λ _ k. k)
    (λ _ k. not_none k) q

-- so their nonces are
live_narrow : (now : ℕ) (l : List (Option Request)) → Narrow l → Narrow (map (if_live now) l)
live_narrow now l h f r q = h f r (live_same now (slot f l) r (sym (slot_live now f l) ∙ q))

-- ageing
aged_narrow : (now : ℕ) (n : Node) → AllNarrow n → AllNarrow (aged now n)
unfolding aged aged_pending staying aged_entry with_requests
aged_narrow now n k = all_only _ (all_map (aged_entry now) (all_mono (λ x h. live_narrow now x.requests h) k))

module _ (faces now : ℕ) (n : Node) (k : AllNarrow n) where
  -- an Interest that opens an entry
  opened_narrow : (a : Arrival) (c : Class) (h : ℕ) → a.ask.nonce < 2 ^ 32 → AllNarrow (opens_entry now n a c h).node
  unfolding opens_entry new_entry request_of
  opened_narrow a c h b =
      all_snoc k (set_narrow a.face (some (request_of now a)) (no_slots (length n.faces))
      (λ r q. let z : request_of now a ≡ r = cc in rw (← z) b) (none_narrow (length n.faces)))

  -- an Interest whose entry is there
  again_narrow : (a : Arrival) (i : ℕ) (e : Entry) → a.ask.nonce < 2 ^ 32 → (x : Option ℕ) → at_place i n.pending ≡ some e
      → All (λ y. Narrow y.requests) (on_at i (λ _. sent_on now a x (with_request now a e)) n.pending)
  unfolding given asking sending with_requests with_sent request_of
  again_narrow a i e b x q = go x
    where
      new : Narrow (set_slot a.face (some (request_of now a)) e.requests)
      new =
          set_narrow a.face (some (request_of now a)) e.requests (λ r w. let z : request_of now a ≡ r = cc in rw (← z) b)
          (all_in k (entry_in i n.pending e q))

      go : (x : Option ℕ) → All (λ y. Narrow y.requests) (on_at i (λ _. sent_on now a x (with_request now a e)) n.pending)
      go none = all_on_at i _ (λ y h. new) k
      go (some g) = all_on_at i _ (λ y h. new) k

  -- a Nack
  marked_narrow : (i f r : ℕ) (e : Entry) → at_place i n.pending ≡ some e
      → All (λ y. Narrow y.requests) (on_at i (λ _. with_nack f r e) n.pending)
  unfolding with_nack with_sent
  marked_narrow i f r e q = all_on_at i _ (λ y h. all_in k (entry_in i n.pending e q)) k

  -- a Nack that ends requests
  nacked_narrow : (i f r : ℕ) (e : Entry) → at_place i n.pending ≡ some e → AllNarrow (ends_by_nack now n i (with_nack f r e)).node
  unfolding ends_by_nack settled becoming ending with_nack with_requests with_sent
  nacked_narrow i f r e q =
      pick_ind (All (λ y. Narrow y.requests)) _ _ _ (λ _. all_without i k)
      (λ _. all_on_at i _ (λ y h g x w. all_in k (entry_in i n.pending e q) g x (emptied_some _ g e.requests x w)) k)

  -- a face closed
  closed_narrow : (f : ℕ) → AllNarrow (close_step now n f).node
  unfolding close_step staying not_asking not_sent with_requests with_sent
  closed_narrow f = all_only _ (all_map (without_face f) (all_mono (λ y h. set_narrow f none y.requests no_request h) k))

  -- whatever an event of bytes comes to past the first three checks
  past_narrow : (w : What) (o : Outcome) → OfBytes w → Past faces now n w o → AllNarrow o.node
  unfolding quiet nack_for served asks_again renews sends_on satisfies
  past_narrow w o b (case.unread f a h) = k
  past_narrow w o b (case.refused f a d) = k
  past_narrow w o b (case.turned_away v a d) = k
  past_narrow w o b case.ticked = k
  past_narrow w o b (case.nacked_back f q a reason h) = k
  past_narrow w o b (case.served_from f q h found absent) = k
  past_narrow w o b (case.opened f q r h x y z d) = opened_narrow (arrival f q) r.cls h (interest_nonce f q b)
  past_narrow w o b (case.joined f q x a) = again_narrow (arrival f q) _ x (interest_nonce f q b) _ a
  past_narrow w o b (case.satisfied f q a) = all_only _ k
  past_narrow w o b (case.marked f q x a h z) = marked_narrow _ f q.reason x a
  past_narrow w o b (case.nacked_on f q x a h z) = nacked_narrow _ f q.reason x a
  past_narrow w o b (case.opens_face f scope link a) = k
  past_narrow w o b (case.closes_face f) = closed_narrow f
  past_narrow w o b (case.sets_class c p x y) = k
  past_narrow w o b (case.adds_route c p h x y d) = k
  past_narrow w o b (case.drops_route p a) = k
  past_narrow w o b (case.adds_hop f cost p x y) = k
  past_narrow w o b (case.drops_hop f p a) = k

module _ (faces least : ℕ) where
  -- whatever an event of bytes comes to
  narrow_case : (e : Event) (n : Node) (o : Outcome) → OfBytes e.what → Becomes faces least e n o → AllNarrow n → AllNarrow o.node
  unfolding quiet after_ageing
  narrow_case e n o b (ignored a d) k = k
  narrow_case e n o b (taken p t f x) k = past_narrow faces e.time (aged e.time n) (aged_narrow e.time n k) e.what p b x

  -- events of bytes, one after the other
  run_narrow : (es : List Event) (n : Node) → All (λ e. OfBytes e.what) es → AllNarrow n → AllNarrow (run (step faces least) es n)
  unfolding run
  run_narrow [] n b k = k
  run_narrow (e ∷ es) n (both b bs) k =
      run_narrow es (step faces least e n).node bs (narrow_case e n (step faces least e n) b (becomes faces least e n) k)

-- ---- what each send means

-- the element of which something holds
found : {A : Type 0} {P : A → Type 0} {l : List A} → Some P l → (a : A) × P a × In a l
found (here {a} p) = (a, p, here refl)
found (there s) = let r = found s in (r.0, r.1, there r.2)

-- what is told of a request that ends as Nacked
nacked_says : (m : Moment) (h : Happening) (x : Fate) → x ≡ nacked → Says m h x → Nacking m h
nacked_says m h x q s = rw q at s

-- a Data that came at a moment means what it meant then
came_back : (ms : List Moment) (s : Send) → Some (λ m. (o : Offer) × (f : ℕ) × Arrives m f (brings o s.bytes)) ms → BringsOn ms s
came_back ms s k =
    let b = found k in
    let x = hears_bytes (met b.0) b.1.1 _ b.0.event.what b.1.2 in
    record {
      offer = b.1.0;
      came = some_mono (λ v q. rw q (b.1.1, b.1.2)) b.2;
      means = data_back x.0 x.2;
    }

module _ (past : List Moment) (m : Moment) (bytes : OfBytes m.event.what) where
  -- an Interest
  forwarded_back : (s : Send) → Forwarding m s → AsksOn m s
  forwarded_back s f =
      let c = came_bytes (met m) m.event.what f.from _ bytes f.came in
      record { from = f.from; ask = f.ask; came = f.came; means = forward_back c.packet c.bytes c.means }

  -- a Data that came in this event
  passed_back : (s : Send) → EndsRequest m s → BringsOn (past ++ (m ∷ [])) s
  passed_back s r = came_back (past ++ (m ∷ [])) s (some_right past (here (r.offer, r.from, r.came)))

  -- a Data that came in an earlier one
  kept_back : (s : Send) → All (λ d. Some (BroughtBy d) past) m.before.store → FromStore m s → BringsOn (past ++ (m ∷ [])) s
  kept_back s k r =
      came_back (past ++ (m ∷ [])) s
      (some_left (m ∷ []) (some_mono (λ v b. (b.offer, b.from, rw r.same b.came)) (all_in k r.stored)))

  -- a Nack that refuses an Interest
  refusing_back : (s : Send) → Refusing m s → NacksBack s
  refusing_back s r =
      let i = r.ask in
      let q : HoldsInterest (met m) m.event.what s.face = record { ask = i; bytes = r.bytes; comes = r.came } in
      record {
        reason = r.reason;
        name = i.name;
        can_be_prefix = i.can_be_prefix;
        must_be_fresh = i.must_be_fresh;
        nonce = i.nonce;
        same = r.same;
        means =
            rw r.same (nack_back r.reason i.name i.can_be_prefix i.must_be_fresh i.nonce (interest_name q)
            (interest_nonce s.face q bytes));
      }

  -- a Nack that ends a request
  ending_back : (faces : ℕ) → Shaped faces m.before → AllNarrow m.before → All (Honest m) m.outcome.happenings → (s : Send)
      → Ending m s → NacksBack s
  ending_back faces shape k honest s r =
      let h = r.end in
      let stood = (nacked_says m h h.fate r.fate (all_in honest r.ended).says).stood in
      record {
        reason = r.reason;
        name = h.name;
        can_be_prefix = h.can_be_prefix;
        must_be_fresh = h.must_be_fresh;
        nonce = h.nonce;
        same = r.same;
        means =
            rw r.same (nack_back r.reason h.name h.can_be_prefix h.must_be_fresh h.nonce
            (rw stood.name (all_in (aged_shaped faces (now m) m.before shape).pending.each stood.pending).name)
            (rw stood.nonce (all_in (aged_narrow (now m) m.before k) stood.pending h.face stood.request stood.held)));
      }

  -- any send
  send_back : (faces : ℕ) → Shaped faces m.before → AllNarrow m.before → All (Honest m) m.outcome.happenings
      → All (λ d. Some (BroughtBy d) past) m.before.store → (s : Send) (k : Kind) → Leaving m s k → ReadsBack (past ++ (m ∷ [])) m s k
  send_back faces shape a honest b s interest r = forwarded_back s r
  send_back faces shape a honest b s dat (inl r) = kept_back s b r
  send_back faces shape a honest b s dat (inr r) = passed_back s r
  send_back faces shape a honest b s nack (inl r) = refusing_back s r
  send_back faces shape a honest b s nack (inr r) = ending_back faces shape a honest s r

module _ (faces least : ℕ) where
  -- start from an empty node and take any events whose packets are bytes: each send of the next one reads back to what it was to say
  pub run_reads_back : (es : List Event) (e : Event) → All (λ v. OfBytes v.what) es → OfBytes e.what
      → let n = reached faces (step faces least) es in
      let m = moment (step faces least) e n in
      All (λ s. ReadsBack (lived faces (step faces least) es ++ (m ∷ [])) m s s.kind) m.outcome.sends
  unfolding empty_node
  run_reads_back es e bs b =
      let n = reached faces (step faces least) es in
      let m = moment (step faces least) e n in
      let shape = run_shaped faces least es in
      let narrow = run_narrow faces least es (empty_node faces) bs nothing in
      all_mono
      (λ s r. send_back (lived faces (step faces least) es) m b faces shape narrow (step_honest faces least e n shape)
      (store_brought faces least es) s s.kind r)
      (step_leaving faces least e n shape)
