-- Each entry that stands after an event came to stand in one of the ways of `AskedWays`, whatever the event comes to (`past_from`).
-- Assumes nothing.
use Rattle.std.specs.Prelude.{ℕ, ◌≡◌, Bool, true, false, ◌&&◌, ◌||◌, List, [], ◌∷◌, ◌++◌, length, eqb}
use Rattle.std.proofs.Math.Path.{refl, sym}
use Rattle.std.proofs.Common.{◌∙◌}
use Rattle.std.proofs.Math.Option.{Option, none, some}
use Rattle.answers.specs.declared.Answer.{Answer}
use Rattle.laws.specs.Pick.{pick}
use Rattle.laws.specs.Laws.Pick.{pick_ind}
use Rattle.laws.specs.Lists.{without}
use Rattle.packets.specs.Meaning.{Heard}
use Rattle.records.specs.Class.{Class}
use Rattle.records.specs.Slots.{slot, given, any_of, at_place}
use Rattle.records.specs.Face.{is_open}
use Rattle.records.specs.Route.{Route, longest}
use Rattle.records.specs.Entry.{Request, Sent, Entry, is_known, with_requests, with_sent, asking, ending, sending, is_idle, mark_nacked, with_nack}
use Rattle.records.specs.Ageing.{staying, becoming}
use Rattle.records.specs.Closing.{without_face}
use Rattle.records.specs.Happening.{Happening}
use Rattle.rules.specs.Node.{Node, What}
use Rattle.rules.specs.Outcome.{kind_number, Outcome, quiet, nack_for}
use Rattle.rules.specs.Ageing.{aged}
use Rattle.rules.specs.Interest.{Arrival, request_of, sent_of, forwards, new_entry, entry_of, opens_entry, resends, renews, asks_again, served}
use Rattle.rules.specs.Interest as rule
use Rattle.rules.specs.Data.{satisfies}
use Rattle.rules.specs.Nack.{settled, ends_by_nack}
use Rattle.rules.specs.Command.{close_step}
use Rattle.rules.specs.Step.{after_ageing}
use Rattle.incoming.specs.Incoming.{came_in, heard_in, Hears}
use Rattle.incoming.specs.Laws.Incoming.{hears_in}
use Rattle.history.specs.Lists.{All, In, Apart}
use Rattle.history.specs.Moments.{Moment, is_done}
use Rattle.history.specs.Sends.{NackedFor, loop, no_route, no_room}
use Rattle.history.specs.Shape.{OtherEntry, Shaped}
use Rattle.history.specs.TakenIn.{request_at}
use Rattle.history.specs.Asked.{want_of, sends_on, is_pending, closes_face}
use Rattle.history.specs.Laws.Every.{all_mono, all_own, all_only, all_map, all_snoc, all_without, all_and, all_in}
use Rattle.history.specs.Laws.Apart.{none_found}
use Rattle.history.specs.Laws.Holding.{emptied_some, length_no_slots}
use Rattle.history.specs.Laws.Hops.{cheapest_may, resends_may}
use Rattle.history.specs.Laws.Known.{entry_in, entry_none, entry_known, with_request, sent_on, without_peer}
use Rattle.history.specs.Laws.Becomes.{asked, denied, arrival, HoldsInterest, HoldsNack, Past}
use Rattle.history.specs.Laws.Becomes as case
use Rattle.history.specs.Laws.ShapeKept.{may_open_lem}
use Rattle.history.specs.Laws.AskedWays.{concerns, Silent, refuses, no_packet, another, Within, From, stood, opened, joined, marked, shut, is_for_lem, none_for, others_for, any_none, all_put, slot_set, slot_open, slot_changed, within_self, by_closing}

-- the sends of one Interest: it leaves on its own face
sends_one : (f h : ℕ) (a : Arrival) (c : Class) → sends_on f (forwards a c h ∷ []) ≡ eqb h f
unfolding sends_on any_of forwards kind_number
sends_one f h a c = go (eqb h f)
  where
    go : (b : Bool) → ((b && eqb 1 1) || false) ≡ b
    go true = refl
    go false = refl

-- an answer with a Nack is not 0
nacked_not : (a : Answer) (reason : ℕ) → NackedFor a reason → is_done a ≡ false
nacked_not a reason loop = refl
nacked_not a reason no_route = refl
nacked_not a reason no_room = refl

module _ (faces time room : ℕ) (n : Node) (hs : List Happening) where
  -- the moment of an event at this time in this node
  abbrev pub moment_of : What → Outcome → Moment
  moment_of w o = record { event = record { time = time; room = room; what = w }; before = n; outcome = after_ageing hs o }

  -- entries that the event leaves and makes nothing of
  all_stood : (w : What) (o : Outcome) → ((y : Entry) → Silent (moment_of w o) (want_of y))
      → All (From (moment_of w o)) (aged time n).pending
  all_stood w o k = all_mono (λ y i. stood y i (within_self y) (k y)) (all_own (aged time n).pending)

  -- entries that the event leaves, its packet being for none of them
  all_other : (w : What) (o : Outcome) (g : ℕ) (h : Heard) → Hears (aged time n) w g h → {es : List Entry}
      → All (λ y. In y (aged time n).pending × (concerns (want_of y) h ≡ false)) es → All (From (moment_of w o)) es
  all_other w o g h k a =
      all_mono (λ y p. stood y p.0 (within_self y) (another g h (hears_in (aged time n) w g h k) p.1)) a

  -- an Interest that opens an entry
  opened_from : (w : What) (g h : ℕ) (q : HoldsInterest (aged time n) w g) (r : Route)
      → at_place (entry_of (aged time n) (asked q)) (aged time n).pending ≡ none
      → longest (asked q).name (aged time n).routes ≡ some r → is_open (aged time n).faces h ≡ true
      → All (From (moment_of w (opens_entry time (aged time n) (arrival g q) r.cls h)))
      ((aged time n).pending ++ (new_entry time (aged time n) (arrival g q) r.cls h ∷ []))
  unfolding opens_entry new_entry entry_of after_ageing request_of sent_of concerns is_pending
  opened_from w g h q r a b c =
      let es = (aged time n).pending in
      let i = asked q in
      all_snoc
      (all_other w _ g _ q.comes (all_and (all_own es) (none_for i es a)))
      (opened (length (aged time n).faces) (record {
        face = g;
        ask = i;
        bytes = q.bytes;
        comes = hears_in (aged time n) w g _ q.comes;
        fits = is_for_lem i (new_entry time (aged time n) (arrival g q) r.cls h) refl refl refl;
        done = refl;
        requests = λ f x e. slot_set g f _ _ x e;
        outs = λ f.
            rw (sends_one f h (arrival g q) r.cls)
            (slot_open (aged time n).faces h f _ _ c (length_no_slots Sent (length (aged time n).faces)));
      }) r
      (any_none _ (none_found (is_known i.name i.can_be_prefix i.must_be_fresh) es (entry_none _ es a)))
      b refl)

  module _ (w : What) (g : ℕ) (q : HoldsInterest (aged time n) w g) (x : Entry)
      (a : at_place (entry_of (aged time n) (asked q)) (aged time n).pending ≡ some x) where
    -- an entry that an Interest joins, by what it makes of the records
    join_from : (o : Outcome) (y : Entry) → is_done o.answer ≡ true → want_of y ≡ want_of x → y.cls ≡ x.cls
        → ((f : ℕ) (r : Request) → slot f y.requests ≡ some r
        → pick (eqb g f) (some (request_at time (asked q))) (slot f x.requests) ≡ some r)
        → ((f : ℕ) → slot f y.sent
        ≡ pick (sends_on f o.sends) (some (record { nonce = (asked q).nonce; time = time; nacked = none })) (slot f x.sent))
        → From (moment_of w o) y
    unfolding after_ageing
    join_from o y d v c rs ss =
        let k = entry_known (aged time n) (asked q) x a in
        joined x (entry_in _ (aged time n).pending x a) v c (record {
          face = g;
          ask = asked q;
          bytes = q.bytes;
          comes = hears_in (aged time n) w g _ q.comes;
          fits = rw v (is_for_lem (asked q) x k.name k.prefix k.fresh);
          done = d;
          requests = rs;
          outs = ss;
        })

    -- the entry that an Interest joins, sent on or not
    entry_from : length x.sent ≡ length (aged time n).faces → (y : Option ℕ)
        → ((h : ℕ) → y ≡ some h → is_open (aged time n).faces h ≡ true) → (gs : List Happening)
        → From (moment_of w (rule.sends_on time (aged time n) (arrival g q) (entry_of (aged time n) (asked q))
        (with_request time (arrival g q) x) y gs)) (sent_on time (arrival g q) y (with_request time (arrival g q) x))
    unfolding rule.sends_on request_of sent_of given asking sending with_requests with_sent sends_on any_of pick
    entry_from l none k gs = join_from _ _ refl refl refl (λ f r e. slot_set g f _ x.requests r e) (λ f. refl)
    entry_from l (some h) k gs =
        join_from _ _ refl refl refl (λ f r e. slot_set g f _ x.requests r e)
        (λ f. rw (sends_one f h (arrival g q) x.cls) (slot_open (aged time n).faces h f _ x.sent (k h refl) l))

    -- all entries, where an Interest joins one
    joined_from : Shaped faces (aged time n)
        → All (From (moment_of w (asks_again time (aged time n) (arrival g q) (entry_of (aged time n) (asked q)) x)))
        (asks_again time (aged time n) (arrival g q) (entry_of (aged time n) (asked q)) x).node.pending
    unfolding asks_again renews rule.sends_on entry_of after_ageing concerns
    joined_from s =
        let es = (aged time n).pending in
        let y = with_request time (arrival g q) x in
        all_put _ _ es
        (entry_from ((all_in s.pending.each (entry_in _ es x a)).sent ∙ sym s.size) (resends time (aged time n) (arrival g q) y)
        (λ h e. may_open_lem (aged time n) (arrival g q) _ h (resends_may time (aged time n) (arrival g q) y h e)) _)
        (all_other w _ g _ q.comes (all_and (all_without _ (all_own es)) (others_for (asked q) es s.pending.apart)))

  module _ (w : What) (g : ℕ) (q : HoldsNack (aged time n) w g) (x : Entry)
      (a : at_place (entry_of (aged time n) (denied q)) (aged time n).pending ≡ some x) where
    -- an entry whose out-record a Nack marks, and which keeps its requests or some of them
    nack_from : (o : Outcome) (y : Entry) → is_done o.answer ≡ true → Within y (with_nack g q.reason x) → From (moment_of w o) y
    unfolding after_ageing with_nack with_sent mark_nacked
    nack_from o y d v =
        let k = entry_known (aged time n) (denied q) x a in
        marked x (entry_in _ (aged time n).pending x a) (record {
          face = g;
          reason = q.reason;
          ask = denied q;
          comes = hears_in (aged time n) w g _ q.comes;
          fits = rw v.want (is_for_lem (denied q) x k.name k.prefix k.fresh);
          done = d;
          want = v.want;
          cls = v.cls;
          requests = v.requests;
          outs = λ f. v.outs f ∙ slot_changed (mark_nacked q.reason) refl g f x.sent;
        })

    -- the entries that the Nack is not for
    nack_others : (o : Outcome) → Apart OtherEntry (aged time n).pending
        → All (From (moment_of w o)) (without (entry_of (aged time n) (denied q)) (aged time n).pending)
    unfolding entry_of concerns
    nack_others o s =
        let es = (aged time n).pending in
        all_other w o g _ q.comes (all_and (all_without _ (all_own es)) (others_for (denied q) es s))

    -- all entries, where the Nack ends requests
    ended_from : Apart OtherEntry (aged time n).pending
        → All (From (moment_of w (ends_by_nack time (aged time n) (entry_of (aged time n) (denied q)) (with_nack g q.reason x))))
        (ends_by_nack time (aged time n) (entry_of (aged time n) (denied q)) (with_nack g q.reason x)).node.pending
    unfolding ends_by_nack settled becoming ending with_requests
    ended_from s =
        pick_ind (All (From (moment_of w (ends_by_nack time (aged time n) (entry_of (aged time n) (denied q)) (with_nack g q.reason x)))))
        (is_idle (without_peer (aged time n) (with_nack g q.reason x))) _ _
        (λ _. nack_others _ s)
        (λ _. all_put _ _ (aged time n).pending
        (nack_from _ _ refl (record {
          want = refl;
          cls = refl;
          requests = λ f r e. emptied_some _ f _ r e;
          outs = λ f. refl;
        })) (nack_others _ s))

  -- whatever an event comes to past the first three checks
  pub past_from : Shaped faces (aged time n) → (w : What) (o : Outcome) → Past faces time (aged time n) w o
      → All (From (moment_of w o)) o.node.pending
  unfolding quiet nack_for served satisfies close_step staying opens_entry heard_in came_in given closes_face after_ageing concerns
      entry_of
  past_from s w o (case.unread f a j) = all_stood w _ (λ y. another f _ (hears_in (aged time n) w f _ j) refl)
  past_from s w o (case.refused f a d) = all_stood w _ (λ y. refuses d)
  past_from s w o (case.turned_away v a d) = all_stood w _ (λ y. refuses d)
  past_from s w o case.ticked = all_stood w _ (λ y. no_packet refl (λ _. refl))
  past_from s w o (case.nacked_back f q a reason j) = all_stood w _ (λ y. refuses (nacked_not a reason j))
  past_from s w o (case.served_from f q h found absent) =
      all_other w _ f _ q.comes (all_and (all_own (aged time n).pending) (none_for (asked q) (aged time n).pending absent))
  past_from s w o (case.opened f q r h a b c d) =
      opened_from w f h q r a b
      (may_open_lem (aged time n) (arrival f q) _ h (cheapest_may (aged time n) (arrival f q) _ r h c))
  past_from s w o (case.joined f q x a) = joined_from w f q x a s
  past_from s w o (case.satisfied f q a) = all_only _ (all_stood w _ (λ y. another f _ (hears_in (aged time n) w f _ q.comes) refl))
  past_from s w o (case.marked f q x a j z) =
      all_put _ _ (aged time n).pending (nack_from w f q x a _ _ refl (within_self _)) (nack_others w f q x a _ s.pending.apart)
  past_from s w o (case.nacked_on f q x a j z) = ended_from w f q x a s.pending.apart
  past_from s w o (case.opens_face f scope link a) = all_stood w _ (λ y. no_packet refl (λ _. refl))
  past_from s w o (case.closes_face f) =
      all_only _ (all_map (without_face f)
      (all_mono (λ y i. shut y i (by_closing _ f y refl refl)) (all_own (aged time n).pending)))
  past_from s w o (case.sets_class c p a b) = all_stood w _ (λ y. no_packet refl (λ _. refl))
  past_from s w o (case.adds_route c p h a b d) = all_stood w _ (λ y. no_packet refl (λ _. refl))
  past_from s w o (case.drops_route p a) = all_stood w _ (λ y. no_packet refl (λ _. refl))
  past_from s w o (case.adds_hop f cost p a b) = all_stood w _ (λ y. no_packet refl (λ _. refl))
  past_from s w o (case.drops_hop f p a) = all_stood w _ (λ y. no_packet refl (λ _. refl))
