-- What stands was asked for (`was_asked`): each request of a pending entry and the entry's class is what the accepted events made of it
-- last, and each out-record is, whether it stands or not. One law serves the three: what holds of each way in which an entry comes to
-- stand holds after events.
-- Assumes nothing.
use Rattle.std.specs.Prelude.{ℕ, ◌≡◌, refl, Bool, ◌&&◌, eqb}
use Rattle.std.proofs.Common.{sym, ◌∙◌, ap}
use Rattle.std.proofs.Math.Bool.{true, false, or-true, and-true, and-false}
use mathlib.Core.List.{List, [], ◌∷◌}
use Rattle.std.proofs.Math.Option.{Option, none, some}
use Rattle.laws.specs.Pick.{pick}
use Rattle.laws.specs.Laws.Pick.{pick_ind, pick_no}
use Rattle.packets.specs.Meaning.{Heard, refused, asks, brings, nacks}
use Rattle.records.specs.Class.{Class}
use Rattle.records.specs.Slots.{no_slots, slot, given, any_of}
use Rattle.records.specs.Laws.Slot.{slot_no_slots}
use Rattle.records.specs.Route.{Route, longest}
use Rattle.records.specs.Entry.{Request, Sent, Entry, is_known, aged_entry}
use Rattle.records.specs.Ageing.{staying, aged_pending}
use Rattle.rules.specs.Node.{Node, What, Event, empty_node}
use Rattle.rules.specs.Outcome.{Outcome, quiet}
use Rattle.rules.specs.Ageing.{aged, ageing}
use Rattle.rules.specs.Step.{after_ageing, step, run}
use Rattle.history.specs.Lists.{All, nothing, In, here, there}
use Rattle.history.specs.Moments.{Moment, moment, met, is_done, last_of, reached}
use Rattle.history.specs.Shape.{Shaped}
use Rattle.history.specs.Asked.{Want, want_of, is_for, by_packet, asked_by, is_pending, sent_by, closes_face, out_by, classed_by, WasAsked}
use Rattle.history.specs.Laws.Every.{not_none, all_mono, all_own, all_only, all_map, all_in}
use Rattle.history.specs.Laws.Known.{known_same}
use Rattle.history.specs.Laws.Becomes.{Becomes, ignored, taken, becomes}
use Rattle.history.specs.Laws.ShapeKept.{empty_shaped, aged_shaped, step_shaped}
use Rattle.history.specs.Laws.AskedWays.{came, concerns, Silent, refuses, no_packet, another, Within, ByInterest, ByNack, ByClosing, From, stood, opened, joined, marked, shut, packet_closes, within_aged}
use Rattle.history.specs.Laws.AskedFrom.{past_from}

-- x is what z has, if z has anything
abbrev Agrees : {A : Type 0} → Option A → Option A → Type 0
Agrees {A} x z = (a : A) → z ≡ some a → x ≡ some a

-- x is what z has, if anything
abbrev Is : {A : Type 0} → Option A → Option A → Type 0
Is x z = z ≡ x

-- an entry is known by its name and flags among those that it stands among
known_among : (k : Want) (z : Entry) {es : List Entry} → In z es → k ≡ want_of z
    → any_of (is_known k.name k.can_be_prefix k.must_be_fresh) es ≡ true
unfolding any_of
known_among k z (here {a} {l} e) w =
    let v : want_of a ≡ k = ap (λ x. want_of x) e ∙ sym w in
    rw (known_same k.name k.can_be_prefix k.must_be_fresh a (ap (λ (x : Want). x.name) v) (ap (λ (x : Want). x.can_be_prefix) v)
    (ap (λ (x : Want). x.must_be_fresh) v))
known_among k z (there {a} {l} i) w = rw (known_among k z i w) (or-true (is_known k.name k.can_be_prefix k.must_be_fresh a))

-- so it stands when the event meets the node
stands_known : (k : Want) (m : Moment) (z : Entry) → In z (met m).pending → k ≡ want_of z → is_pending k m ≡ true
unfolding is_pending
stands_known k m z i w = known_among k z i w

-- ---- one law for the three

module _ {A : Type 0} (R : Option A → Option A → Type 0) (get : Entry → Option A)
    (s : Want → Moment → ℕ → Heard → Option A → Option A) (gone : What → Bool) where
  -- a thing of an entry, what packets make of it and by which commands it goes, as the ways go in which an entry comes to stand; what the
  -- events made of it stands in R to what the entry has
  record Thing : Type 0 where
    -- it goes by no other command than closing a face
    stays : (w : What) → ((f : ℕ) → closes_face f w ≡ false) → gone w ≡ false
    -- what is told of an entry is told of it with fewer requests
    within : (y z : Entry) → Within y z → (x : Option A) → R x (get z) → R x (get y)
    -- a packet that is not for the entry makes nothing of it
    other : (k : Want) (m : Moment) (g : ℕ) (h : Heard) (x : Option A) → concerns k h ≡ false → s k m g h x ≡ x
    -- an Interest that opens the entry makes it what the entry has
    opens : (m : Moment) (y : Entry) (n : ℕ) (q : ByInterest m y (no_slots n) (no_slots n)) (r : Route) → is_pending (want_of y) m ≡ false
        → longest q.ask.name (met m).routes ≡ some r → r.cls ≡ y.cls
        → (x : Option A) → R (s (want_of y) m q.face (asks q.ask q.bytes) x) (get y)
    -- so does one that joins it
    joins : (m : Moment) (y z : Entry) (q : ByInterest m y z.requests z.sent) → is_pending (want_of y) m ≡ true → y.cls ≡ z.cls
        → (x : Option A) → R x (get z) → R (s (want_of y) m q.face (asks q.ask q.bytes) x) (get y)
    -- and a Nack that is noted
    marks : (m : Moment) (y z : Entry) (q : ByNack m y z) → (x : Option A) → R x (get z)
        → R (s (want_of y) m q.face (nacks q.reason q.ask) x) (get y)
    -- and the closing of a face
    closes : (m : Moment) (y z : Entry) → ByClosing m y z → (x : Option A) → R x (get z) → R (pick (gone m.event.what) none x) (get y)

  -- what an accepted event makes of the thing, of the entry that is known so
  abbrev makes : Want → Moment → Option A → Option A
  makes k m x = pick (gone m.event.what) none (by_packet (s k) m x)

  -- what an event makes of it
  abbrev made : Moment → Want → Option A → Option A
  made m k x = pick (is_done m.outcome.answer) (makes k m x) x

  -- of each entry the thing is what v says of it
  abbrev Holds : (Want → Option A) → List Entry → Type 0
  Holds v es = All (λ y. R (v (want_of y)) (get y)) es

  -- what is the same is told alike
  told : {x y z : Option A} → x ≡ y → R y z → R x z
  told e r = rw e r

  module _ (t : Thing) where
    -- an event that makes nothing of an entry makes nothing of the thing
    silent_made : (m : Moment) (k : Want) (x : Option A) → Silent m k → made m k x ≡ x
    unfolding pick given
    silent_made m k x (refuses d) = rw d
    silent_made m k x (no_packet e c) =
        rw (e, t.stays m.event.what c)
        (pick_ind (λ (y : Option A). y ≡ x) (is_done m.outcome.answer) x x (λ _. refl) (λ _. refl))
    silent_made m k x (another g h e c) =
        rw (e, t.stays m.event.what (λ f. packet_closes f (met m) m.event.what _ e))
        (pick_ind (λ (y : Option A). y ≡ x) (is_done m.outcome.answer) (s k m g h x) x (λ _. t.other k m g h x c) (λ _. refl))

    -- an accepted packet makes of it what it says
    packet_made : (m : Moment) (k : Want) (x : Option A) (g : ℕ) (h : Heard) → is_done m.outcome.answer ≡ true
        → came m ≡ some (record { face = g; what = h }) → made m k x ≡ s k m g h x
    unfolding pick given
    packet_made m k x g h d e = rw (d, e, t.stays m.event.what (λ f. packet_closes f (met m) m.event.what _ e))

    -- the closing of a face takes it away, or makes nothing of it
    closing_made : (m : Moment) (k : Want) (x : Option A) → is_done m.outcome.answer ≡ true → came m ≡ none
        → made m k x ≡ pick (gone m.event.what) none x
    unfolding pick given
    closing_made m k x d e = rw (d, e)

    -- of each entry that stands after an event the thing is what the event made of it
    from_holds : (m : Moment) (v : Want → Option A) → Holds v (met m).pending → (y : Entry) → From m y
        → R (made m (want_of y) (v (want_of y))) (get y)
    from_holds m v h y (stood z i w u) =
        told (silent_made m (want_of y) (v (want_of y)) u ∙ ap v w.want) (t.within y z w (v (want_of z)) (all_in h i))
    from_holds m v h y (opened n b r u l c) =
        told (packet_made m (want_of y) (v (want_of y)) b.face _ b.done b.comes) (t.opens m y n b r u l c (v (want_of y)))
    from_holds m v h y (joined z i w c b) =
        told (packet_made m (want_of y) (v (want_of y)) b.face _ b.done b.comes)
        (t.joins m y z b (stands_known (want_of y) m z i w) c (v (want_of y)) (told (ap v w) (all_in h i)))
    from_holds m v h y (marked z i b) =
        told (packet_made m (want_of y) (v (want_of y)) b.face _ b.done b.comes)
        (t.marks m y z b (v (want_of y)) (told (ap v b.want) (all_in h i)))
    from_holds m v h y (shut z i b) =
        told (closing_made m (want_of y) (v (want_of y)) b.done b.comes)
        (t.closes m y z b (v (want_of y)) (told (ap v b.want) (all_in h i)))

    -- ageing keeps what each entry has
    aged_holds : (time : ℕ) (n : Node) (v : Want → Option A) → Holds v n.pending → Holds v (aged time n).pending
    unfolding aged aged_pending staying
    aged_holds time n v h =
        all_only _ (all_map (aged_entry time) (all_mono (λ y k.
        told (ap v (within_aged time y).want) (t.within (aged_entry time y) y (within_aged time y) (v (want_of y)) k)) h))

    module _ (faces least : ℕ) where
      -- whatever an event comes to
      case_holds : (e : Event) (n : Node) (o : Outcome) → Becomes faces least e n o → Shaped faces n → (v : Want → Option A)
          → Holds v n.pending → Holds (λ k. made (record { event = e; before = n; outcome = o }) k (v k)) o.node.pending
      unfolding quiet after_ageing pick
      case_holds e n o (ignored a d) h v k = rw d k
      case_holds e n o (taken p x f b) h v k =
          all_mono (λ y c. from_holds _ v (aged_holds e.time n v k) y c)
          (past_from faces e.time e.room n (ageing e.time n) (aged_shaped faces e.time n h) e.what p b)

      -- events one after the other
      run_holds : (es : List Event) (n : Node) → Shaped faces n → (v : Want → Option A) → Holds v n.pending
          → Holds (λ k. last_of (makes k) (step faces least) es n (v k)) (run (step faces least) es n).pending
      unfolding run last_of
      run_holds [] n h v k = k
      run_holds (e ∷ es) n h v k =
          run_holds es (step faces least e n).node (step_shaped faces least e n h) (λ k. made (moment (step faces least) e n) k (v k))
          (case_holds e n (step faces least e n) (becomes faces least e n) h v k)

      -- start from an empty node and take any events: of each entry the thing is what the events made of it last
      reached_holds : (es : List Event)
          → Holds (λ k. last_of (makes k) (step faces least) es (empty_node faces) none) (reached faces (step faces least) es).pending
      unfolding empty_node
      reached_holds es = run_holds es (empty_node faces) (empty_shaped faces) (λ _. none) nothing

-- ---- the three

-- a test with one that holds is that test
and_yes : (b c : Bool) → c ≡ true → (b && c) ≡ b
and_yes b c e = rw e (and-true b)

-- a test with one that fails fails
and_no : (b c : Bool) → c ≡ false → (b && c) ≡ false
and_no b c e = rw e (and-false b)

module _ {A : Type 0} where
  -- choices by one test agree where what they choose does
  pick_agrees : (b c : Bool) (w x u z : Option A) → b ≡ c → Agrees w u → Agrees x z → Agrees (pick b w x) (pick c u z)
  unfolding pick
  pick_agrees b true w x u z e h k a q = rw e (h a q)
  pick_agrees b false w x u z e h k a q = rw e (k a q)

  -- anything agrees with an empty slot
  empty_agrees : (f n : ℕ) (x : Option A) → Agrees x (slot f (no_slots {A = A} n))
  empty_agrees f n x a e = not_none (sym (slot_no_slots f n) ∙ e)

-- a face's request
request_thing : (f : ℕ) → Thing Agrees (λ y. slot f y.requests) (asked_by f) (λ _. false)
unfolding asked_by concerns pick
request_thing f = record {
  stays = λ w c. refl;
  within = λ y z w x h a e. h a (w.requests f a e);
  other = makes_none;
  opens = λ m y n q r u l c x a e.
      pick_agrees _ (eqb q.face f) _ x _ _ (and_yes _ _ q.fits) (λ b k. k) (empty_agrees f n x) a (q.requests f a e);
  joins = λ m y z q u c x h a e. pick_agrees _ (eqb q.face f) _ x _ _ (and_yes _ _ q.fits) (λ b k. k) h a (q.requests f a e);
  marks = λ m y z q x h a e. h a (q.requests f a e);
  closes = λ m y z q x h a e. h a (q.requests f a e);
}
  where
    makes_none : (k : Want) (m : Moment) (g : ℕ) (h : Heard) (x : Option Request) → concerns k h ≡ false → asked_by f k m g h x ≡ x
    makes_none k m g (asks i bytes) x e = pick_no _ _ x (and_no (eqb g f) (is_for k i) e)
    makes_none k m g (nacks reason i) x e = refl
    makes_none k m g (refused a) x e = refl
    makes_none k m g (brings d bytes) x e = refl

-- a face's out-record
sent_thing : (f : ℕ) → Thing Is (λ y. slot f y.sent) (sent_by f) (closes_face f)
unfolding sent_by concerns pick
sent_thing f = record {
  stays = λ w c. c f;
  within = λ y z w x h. w.outs f ∙ h;
  other = makes_none;
  opens = λ m y n q r u l c x. q.outs f ∙ rw (q.fits, u, slot_no_slots {A = Sent} f n);
  joins = λ m y z q u c x h. q.outs f ∙ rw (q.fits, u, h);
  marks = λ m y z q x h. q.outs f ∙ rw (and_yes (eqb q.face f) (is_for (want_of y) q.ask) q.fits, h);
  closes = λ m y z q x h. q.outs f ∙ rw (q.closes f, h);
}
  where
    makes_none : (k : Want) (m : Moment) (g : ℕ) (h : Heard) (x : Option Sent) → concerns k h ≡ false → sent_by f k m g h x ≡ x
    makes_none k m g (asks i bytes) x e = rw e
    makes_none k m g (nacks reason i) x e = pick_no _ _ x (and_no (eqb g f) (is_for k i) e)
    makes_none k m g (refused a) x e = refl
    makes_none k m g (brings d bytes) x e = refl

-- an entry's class
class_thing : Thing Agrees (λ y. some y.cls) classed_by (λ _. false)
unfolding classed_by concerns pick given
class_thing = record {
  stays = λ w c. refl;
  within = λ y z w x h a e. h a (ap some (sym w.cls) ∙ e);
  other = makes_none;
  opens = λ m y n q r u l c x a e. rw (q.fits, u, l) (ap some c ∙ e);
  joins = λ m y z q u c x h a e. rw (q.fits, u) (h a (ap some (sym c) ∙ e));
  marks = λ m y z q x h a e. h a (ap some (sym q.cls) ∙ e);
  closes = λ m y z q x h a e. h a (ap some (sym q.cls) ∙ e);
}
  where
    makes_none : (k : Want) (m : Moment) (g : ℕ) (h : Heard) (x : Option Class) → concerns k h ≡ false → classed_by k m g h x ≡ x
    makes_none k m g (asks i bytes) x e = rw e
    makes_none k m g (nacks reason i) x e = refl
    makes_none k m g (refused a) x e = refl
    makes_none k m g (brings d bytes) x e = refl

-- start from an empty node and take any events: each request that stands and each entry's class is what the accepted events made of it
-- last; so is each out-record, and none is lost
pub was_asked : (faces least : ℕ) (es : List Event) → WasAsked faces (step faces least) es
unfolding out_by pick
was_asked faces least es =
    all_mono (λ y i. record {
      requests = λ f. all_in (reached_holds _ _ _ _ (request_thing f) faces least es) i;
      outs = λ f. all_in (reached_holds _ _ _ _ (sent_thing f) faces least es) i;
      cls = all_in (reached_holds _ _ _ _ class_thing faces least es) i y.cls refl;
    }) (all_own (reached faces (step faces least) es).pending)
