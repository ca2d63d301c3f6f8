-- Ends are what they are called: what each fate in an event's happenings says of that event (`step_honest`, `run_honest`), and that each
-- happening of a history is one of a moment of it, about which it is honest (`history_honest`).
-- Assumes nothing.
use Rattle.std.specs.Prelude.{ℕ, ◌≤◌, ◌<◌, ◌≡◌, ◌⊎◌, ◌≢◌, Bool, not, List, [], ◌∷◌, length, ltb}
use Rattle.std.proofs.Math.Path.{refl, sym, ap}
use Rattle.std.proofs.Common.{◌∙◌, inl, inr, ⊎_elim, arith}
use Rattle.std.proofs.Math.Bool.{true, false, false≢true}
use Rattle.std.proofs.Math.Option.{Option, none, some, some-injective}
use Rattle.std.proofs.Math.Dec.{eqb}
use borrow.Author.Tests.{ltb-true, ltb-false, eqb-true, eqb-false, not-true, not-false, eq-eqb}
use Rattle.laws.specs.Pick.{pick}
use Rattle.laws.specs.Laws.Pick.{pick_ind}
use Rattle.laws.specs.Lists.{on_at}
use Rattle.names.specs.Laws.Same as names
use Rattle.packets.specs.Meaning.{Ask}
use Rattle.records.specs.Class.{Class}
use Rattle.records.specs.Slots.{no_slots, slot, set_slot, given, is_some, Held, held, only, is_empty, at_place}
use Rattle.records.specs.Laws.Slot.{slot_set_same, slot_set_other}
use Rattle.records.specs.Laws.Place.{place_on_at}
use Rattle.records.specs.Face.{is_peer, is_ad_hoc_face}
use Rattle.records.specs.Entry.{Request, Sent, Entry, with_requests, with_sent, asking, sending, is_live, matches, reason_of, was_nacked, lesser_reason, smallest_reason, mark_nacked, with_nack, all_nacked}
use Rattle.records.specs.Happening.{Fate, opened, answered, nacked, expired, closed, self_met, Happening, happens}
use Rattle.records.specs.Ageing.{expiries}
use Rattle.records.specs.Closing.{closing_ends}
use Rattle.rules.specs.Node.{Node, What, close_face, Event, empty_node}
use Rattle.rules.specs.Outcome.{Outcome, quiet, nack_for}
use Rattle.rules.specs.Ageing.{aged, ageing}
use Rattle.rules.specs.Interest.{request_of, entry_of, new_entry, opens, opens_entry, sends_on, renews, asks_again, served}
use Rattle.rules.specs.Data.{is_self_met, fate_of, data_ends, satisfies}
use Rattle.rules.specs.Nack.{peers_of, nack_of, ends_by_nack}
use Rattle.rules.specs.Command.{close_step}
use Rattle.rules.specs.Step.{bad_face, after_ageing, step}
use Rattle.refusals.specs.Refusals.{AdHoc, Known, OutRecord}
use Rattle.refusals.specs.Laws.Tells.{tells_not, tells_some, tells_held}
use Rattle.refusals.specs.Laws.Tests.{tells_peer, tells_ad_hoc, tells_known, tells_sent, tells_matches}
use Rattle.history.specs.Lists.{All, nothing, both, Some, here, there, In, Apart, alone, among}
use Rattle.history.specs.Moments.{Moment, moment, lived, told}
use Rattle.history.specs.Shape.{Shaped}
use Rattle.history.specs.Ends.{Stood, OthersNacked, Reason, own, noted, Smallest, zero_only, nonzero, Honest}
use Rattle.history.specs.Laws.Every.{not_none, all_append, all_mono, all_in, all_and, all_map, all_each, all_own, some_right, some_mono, some_map, only_in}
use Rattle.history.specs.Laws.Holding.{held_slot, slot_held, slot_low, slot_within, length_no_slots}
use Rattle.history.specs.Laws.Apart.{none_found}
use Rattle.history.specs.Laws.Known.{KnownBy, entry_in, entry_none, entry_known, with_request, sent_on}
use Rattle.history.specs.Laws.Becomes.{HoldsInterest, HoldsData, HoldsNack, Fits, asked, brought, denied, arrival, GoodFace, came_face, aged_face, Past, Becomes, ignored, taken, becomes}
use Rattle.history.specs.Laws.Becomes as case
use Rattle.history.specs.Laws.Tables.{SameKey}
use Rattle.history.specs.Laws.Arrives.{interest_arrives, data_arrives, nack_arrives}
use Rattle.history.specs.Laws.ShapeKept.{aged_shaped}
use Rattle.history.specs.Laws.Live.{aged_live}
use Rattle.history.specs.Laws.Moments.{history_moments, all_lived}
use Rattle.history.specs.Laws.Copies.{copies_made}

-- ---- the smallest nonzero reason, or 0

-- the same reasons, in other words
smallest_as : (R Q : ℕ → Type 0) → ((r : ℕ) → R r → Q r) → ((r : ℕ) → Q r → R r) → (k : ℕ) → Smallest R k → Smallest Q k
smallest_as R Q to back k (zero_only z) = zero_only (λ r q. z r (back r q))
smallest_as R Q to back k (nonzero j n h g) = nonzero j n (to j h) (λ r q. g r (back r q))

-- one reason more
smallest_more : (R : ℕ → Type 0) (a b : ℕ) → Smallest R b → Smallest (λ r. (a ≡ r) ⊎ R r) (lesser_reason a b)
unfolding lesser_reason pick
smallest_more R a b s =
    pick_ind (Smallest (λ r. (a ≡ r) ⊎ R r)) (eqb a 0) _ _ (λ e. without b (eqb-true a 0 e) s) (λ e. other b (eqb-false a 0 e) s)
  where
    S : ℕ → Type 0
    S r = (a ≡ r) ⊎ R r

    without : (b : ℕ) → a ≡ 0 → Smallest R b → Smallest S b
    without b e (zero_only z) = zero_only (λ r. ⊎_elim (λ q. sym q ∙ e) (z r))
    without b e (nonzero k n h g) = nonzero k n (inr h) (λ r. ⊎_elim (λ q. inl (sym q ∙ e)) (g r))

    other : (b : ℕ) → a ≢ 0 → Smallest R b → Smallest S (pick (eqb b 0) a (pick (ltb b a) b a))
    other b m (zero_only z) = nonzero a m (inl refl) (λ r. ⊎_elim (λ q. inr (omega arith)) (λ q. inl (z r q)))
    other b m (nonzero k n h g) =
        pick_ind (Smallest S) (eqb k 0) _ _ (λ e. absurd (n (eqb-true k 0 e)))
        (λ _. pick_ind (Smallest S) (ltb k a) _ _
        (λ e. let l = ltb-true k a e in nonzero k n (inr h) (λ r. ⊎_elim (λ q. inr (omega arith)) (g r)))
        (λ e.
        let l = ltb-false k a e in
        nonzero a m (inl refl) (λ r. ⊎_elim (λ q. inr (omega arith)) (λ q. ⊎_elim inl (λ t. inr (omega arith)) (g r q)))))

-- the reason of an out-record, or 0
abbrev reason_in : Held Sent → ℕ
reason_in h = given 0 (λ n. n) h.what.nacked

-- of out-records, it is the smallest of their reasons
smallest_is : (hs : List (Held Sent)) → Smallest (λ r. Some (λ h. reason_in h ≡ r) hs) (smallest_reason hs)
unfolding smallest_reason is_empty
smallest_is [] = zero_only (λ r q. absurd (false≢true (sym (filled [] q))))
  where
    filled : {P : Held Sent → Type 0} (l : List (Held Sent)) → Some P l → is_empty l ≡ false
    filled [] q = elim q [ ]
    filled (h ∷ l) q = refl
smallest_is (h ∷ hs) =
    smallest_as _ _ (λ r. ⊎_elim (λ q. here q) (λ q. there q)) (λ r. parts r) _
    (smallest_more (λ r. Some (λ k. reason_in k ≡ r) hs) (reason_in h) (smallest_reason hs) (smallest_is hs))
  where
    parts : (r : ℕ) → Some (λ k. reason_in k ≡ r) (h ∷ hs) → (reason_in h ≡ r) ⊎ Some (λ k. reason_in k ≡ r) hs
    parts r (here q) = inl q
    parts r (there q) = inr q

-- ---- the out-records that a Nack leaves

-- an element of which one thing holds, where another holds of each
all_some : {A : Type 0} {P Q : A → Type 0} {l : List A} → All P l → Some Q l → (a : A) × P a × Q a
all_some nothing s = elim s [ ]
all_some (both {a} p h) (here q) = (a, p, q)
all_some (both p h) (there s) = all_some h s

-- where all are Nacked, each has a reason
each_nacked : (x : Entry) → all_nacked x ≡ true → (g : ℕ) (s : Sent) → slot g x.sent ≡ some s → (r : ℕ) × (s.nacked ≡ some r)
unfolding all_nacked was_nacked
each_nacked x a g s e = go s.nacked refl
  where
    go : (y : Option ℕ) → s.nacked ≡ y → (r : ℕ) × (s.nacked ≡ some r)
    go (some r) q = (r, q)
    go none q =
        let told = tells_held (λ (h : Held Sent). not (is_some h.what.nacked)) (λ f t. tells_not (tells_some t.nacked)) x.sent in
        absurd ((tells_not told).0 a (g, s, e, λ k. not_none (sym q ∙ k.1)))

module _ (x : Entry) (f cause : ℕ) (s : Sent) (stands : slot f x.sent ≡ some s) where
  -- the Nack's own out-record
  own_marked : slot f (with_nack f cause x).sent ≡ some (record { nonce = s.nonce; time = s.time; nacked = some (reason_of cause) })
  unfolding with_nack with_sent mark_nacked
  own_marked =
      slot_set_same f _ x.sent (slot_low f x.sent s stands) (slot_within f x.sent s stands) ∙ ap (mark_nacked cause) stands

  -- the others are as they were
  other_marked : (g : ℕ) → g ≢ f → slot g (with_nack f cause x).sent ≡ slot g x.sent
  unfolding with_nack with_sent
  other_marked g n = slot_set_other f g _ x.sent n

  module _ (all : all_nacked (with_nack f cause x) ≡ true) where
    -- where all are Nacked then, the others were Nacked before
    others_nacked : OthersNacked x f
    others_nacked g t n e q =
        let k = each_nacked (with_nack f cause x) all g t (other_marked g n ∙ e) in not_none (sym q ∙ k.1)

    -- the reasons then are that of the Nack and those of the others
    to_reason : (r : ℕ) → Some (λ h. reason_in h ≡ r) (held (with_nack f cause x).sent) → Reason x f cause r
    unfolding given
    to_reason r i = let (h, e, q) = all_some (held_slot (with_nack f cause x).sent) i in go h (eqb h.face f) refl e.1 q
      where
        go : (h : Held Sent) (b : Bool) → eqb h.face f ≡ b → slot h.face (with_nack f cause x).sent ≡ some h.what → reason_in h ≡ r
            → Reason x f cause r
        go h true a e q =
            let same = some-injective _ _ (sym own_marked ∙ (rw (eqb-true h.face f a) at e)) in
            let z : r ≡ reason_of cause = sym q ∙ ap (λ (t : Sent). given 0 (λ n. n) t.nacked) (sym same) in
            rw z own
        go h false a e q =
            let n = eqb-false h.face f a in
            let k = each_nacked (with_nack f cause x) all h.face h.what e in
            let z : k.0 ≡ r = rw k.1 at q in
            noted h.face h.what r n (sym (other_marked h.face n) ∙ e) (rw z at k.1)

    -- and each of those is one
    from_reason : (r : ℕ) → Reason x f cause r → Some (λ h. reason_in h ≡ r) (held (with_nack f cause x).sent)
    unfolding given
    from_reason r own = some_mono (λ h e. rw e) (slot_held f (with_nack f cause x).sent _ own_marked)
    from_reason r (noted g t k n e q) =
        some_mono (λ h z. ap reason_in z ∙ ap (given 0 (λ n. n)) q) (slot_held g (with_nack f cause x).sent t (other_marked g n ∙ e))

    -- so the smallest is that of these
    smallest_nacked : Smallest (Reason x f cause) (smallest_reason (held (with_nack f cause x).sent))
    smallest_nacked = smallest_as _ _ to_reason from_reason _ (smallest_is (held (with_nack f cause x).sent))

-- ---- what stands

-- a request of the entry x stands where x does, as it is told of an entry z of its name, flags and class
unfoldable stood_as : (es : List Entry) (x z : Entry) → SameKey z x → In x es → (y : Fate) (t : ℕ) (h : Held Request)
    → slot h.face x.requests ≡ some h.what → Stood es (happens y t z h)
unfolding happens
stood_as es x z k i y t h e = record {
  entry = x;
  request = h.what;
  pending = i;
  held = e;
  name = k.name;
  prefix = k.prefix;
  fresh = k.fresh;
  cls = k.cls;
  nonce = refl;
  expiry = refl;
}

-- or of x itself
unfoldable stood_of : (es : List Entry) (x : Entry) → In x es → (y : Fate) (t : ℕ) (h : Held Request)
    → slot h.face x.requests ≡ some h.what → Stood es (happens y t x h)
unfolding stood_as
stood_of es x i y t h e = stood_as es x x (record { name = refl; prefix = refl; fresh = refl; cls = refl }) i y t h e

-- of elements apart, two that are not apart are one
in_one : {A : Type 0} {D : A → A → Type 0} {l : List A} → Apart D l → {a b : A} → In a l → In b l → (D a b → ⊥) → (D b a → ⊥) → a ≡ b
in_one alone i _ u v = elim i [ ]
in_one (among d h) (here p) (here q) u v = sym p ∙ q
in_one (among d h) (here p) (there j) u v = absurd (u (rw p at (all_in d j)))
in_one (among d h) (there i) (here q) u v = absurd (v (rw q at (all_in d i)))
in_one (among d h) (there i) (there j) u v = in_one h i j u v

-- a slot that does not hold something is empty
not_some : {A : Type 0} (o : Option A) → is_some o ≡ false → o ≡ none
unfolding is_some
not_some none e = refl
not_some (some a) e = absurd (false≢true (sym e))

module _ (n : Node) (i : Ask) where
  -- where a search finds no entry of an Interest, there is none
  no_entry : at_place (entry_of n i) n.pending ≡ none → (x : Entry) → In x n.pending → Known i x → ⊥
  unfolding entry_of
  no_entry a x j k = false≢true (sym (all_in (none_found _ n.pending (entry_none _ n.pending a)) j) ∙ (tells_known i x).1 k)

  -- where it finds one, that is the one
  one_entry : (faces : ℕ) → Shaped faces n → (x : Entry) → at_place (entry_of n i) n.pending ≡ some x → (y : Entry) → In y n.pending
      → Known i y → y ≡ x
  one_entry faces s x a y j k =
      let b = entry_known n i x a in
      in_one s.pending.apart j (entry_in _ n.pending x a)
      (λ d. d (sym (b.name ∙ k.name)) (sym (b.prefix ∙ k.prefix)) (sym (b.fresh ∙ k.fresh)))
      (λ d. d (b.name ∙ k.name) (b.prefix ∙ k.prefix) (b.fresh ∙ k.fresh))

-- an event and what it comes to, its expiries first
abbrev whole : Event → Node → Outcome → Moment
whole e n o = record { event = e; before = n; outcome = after_ageing (ageing e.time n) o }

-- a request on the arrival face that is not self-met is on an ad hoc face
answers_own : (n : Node) (f h : ℕ) → is_self_met n f h ≡ false → h ≡ f → AdHoc n f
unfolding is_self_met
answers_own n f h a same = (tells_ad_hoc n f).0 (not-false (is_ad_hoc_face n.faces f) (rw (eq-eqb h f same) at a))

-- ---- expiries

-- each expiry of an entry is one
expiries_honest : (e : Event) (n : Node) (o : Outcome) (x : Entry) → In x n.pending
    → All (Honest (record { event = e; before = n; outcome = o })) (expiries e.time x)
unfolding expiries happens is_live
expiries_honest e n o x i =
    all_map (happens expired e.time x)
    (all_mono (λ h p. record {
      when = refl;
      says = record {
        stood = stood_of n.pending x i expired e.time h (all_in (held_slot x.requests) p.0).1;
        over = ltb-false e.time h.what.expiry (not-true _ p.1);
      };
    })
    (only_in (λ (h : Held Request). not (is_live e.time h.what)) (held x.requests)))

-- all of an event's expiries
ageing_honest : (e : Event) (n : Node) (o : Outcome) → All (Honest (record { event = e; before = n; outcome = o })) (ageing e.time n)
unfolding ageing
ageing_honest e n o = all_each (expiries e.time) (all_mono (λ x i. expiries_honest e n o x i) (all_own n.pending))

module _ (faces : ℕ) (e : Event) (n : Node) (s : Shaped faces n) {w : What} (came : e.what ≡ w) where
  -- the event's time
  abbrev t : ℕ
  t = e.time

  -- the node that it meets
  abbrev m : Node
  m = aged e.time n

  -- which has the shape
  met_shaped : Shaped faces m
  met_shaped = aged_shaped faces t n s

  -- ---- openings

  module _ (f : ℕ) (fine : bad_face faces n w ≡ false) (q : HoldsInterest m w f) where
    -- the Interest's face
    good : GoodFace faces m f
    good = came_face faces m w f _ q.comes (aged_face faces t n w fine)

    -- what it opens in a new entry
    begun_honest : (c : Class) (h : ℕ) → at_place (entry_of m (asked q)) m.pending ≡ none
        → Honest (whole e n (opens_entry t m (arrival f q) c h)) (opens t (arrival f q) (new_entry t m (arrival f q) c h))
    unfolding opens_entry opens happens new_entry request_of after_ageing
    begun_honest c h a =
        let l = length_no_slots Request (length m.faces) ∙ met_shaped.size in
        record {
          when = refl;
          says = record {
            ask = asked q;
            bytes = q.bytes;
            came = interest_arrives e n (opens_entry t m (arrival f q) c h) f came q;
            name = refl;
            prefix = refl;
            fresh = refl;
            nonce = refl;
            expiry = refl;
            done = refl;
            stands =
                stood_of _ (new_entry t m (arrival f q) c h) (some_right m.pending (here refl)) opened t _
                (slot_set_same f _ (no_slots (length m.faces)) good.low (omega (arith, good.high, l)));
            new = λ x i k. absurd (no_entry m (asked q) a x i k);
          };
        }

    module _ (x : Entry) (a : at_place (entry_of m (asked q)) m.pending ≡ some x) where
      -- what the entry that was there becomes is there
      changed_in : (y : Entry) → In y (on_at (entry_of m (asked q)) (λ _. y) m.pending)
      changed_in y = entry_in _ _ y (place_on_at (entry_of m (asked q)) (λ _. y) m.pending x a)

      -- the face's request in it is the Interest's
      asked_now : slot f (set_slot f (some (request_of t (arrival f q))) x.requests) ≡ some (request_of t (arrival f q))
      asked_now =
          let l = (all_in met_shaped.pending.each (entry_in _ m.pending x a)).requests in
          slot_set_same f _ x.requests good.low (omega (arith, good.high, l))

      -- so the request stands in it, whether the Interest is sent on or not
      again_stands : (hop : Option ℕ)
          → Stood (on_at (entry_of m (asked q)) (λ _. sent_on t (arrival f q) hop (with_request t (arrival f q) x)) m.pending)
          (opens t (arrival f q) x)
      unfolding opens given asking sending with_requests with_sent
      again_stands none =
          stood_as _ _ x (record { name = refl; prefix = refl; fresh = refl; cls = refl }) (changed_in _) opened t _ asked_now
      again_stands (some h) =
          stood_as _ _ x (record { name = refl; prefix = refl; fresh = refl; cls = refl }) (changed_in _) opened t _ asked_now

      -- what it opens in that entry, where its face had no request there
      again_honest : is_some (slot f x.requests) ≡ false
          → Honest (whole e n (asks_again t m (arrival f q) (entry_of m (asked q)) x)) (opens t (arrival f q) x)
      unfolding asks_again renews sends_on opens happens request_of after_ageing
      again_honest b =
          let k = entry_known m (asked q) x a in
          record {
            when = refl;
            says = record {
              ask = asked q;
              bytes = q.bytes;
              came = interest_arrives e n (asks_again t m (arrival f q) (entry_of m (asked q)) x) f came q;
              name = k.name;
              prefix = k.prefix;
              fresh = k.fresh;
              nonce = refl;
              expiry = refl;
              done = refl;
              stands = again_stands _;
              new = λ y i j. rw (one_entry m (asked q) faces met_shaped x a y i j) (not_some (slot f x.requests) b);
            };
          }

  -- ---- the ends that a Data makes

  module _ (f : ℕ) (q : HoldsData m w f) where
    -- the entries that it matches
    abbrev matched : List Entry
    matched = only (matches (brought q).name) m.pending

    -- what it comes to
    abbrev brings_about : Outcome
    brings_about = satisfies t m f (brought q) q.bytes

    -- such an entry was there, and the Data matches it
    was : (x : Entry) → In x matched → In x m.pending × (matches (brought q).name x ≡ true)
    was x i = all_in (only_in (matches (brought q).name) m.pending) i

    -- a request of one of these entries
    module _ (x : Entry) (i : In x matched) (h : Held Request) (low : 1 ≤ h.face) (stands : slot h.face x.requests ≡ some h.what)
        (live : t < h.what.expiry) where
      -- it ends as self-met
      self_honest : is_self_met m f h.face ≡ true → Honest (whole e n brings_about) (happens self_met t x h)
      unfolding happens is_self_met stood_of stood_as
      self_honest a =
          let p = names.both (eqb h.face f) (not (is_ad_hoc_face m.faces f)) a in
          let same : h.face ≡ f = eqb-true h.face f p.0 in
          record {
            when = refl;
            says = record {
              stood = stood_of m.pending x (was x i).0 self_met t h stands;
              live = live;
              offer = brought q;
              bytes = q.bytes;
              came = rw same (data_arrives e n brings_about f came q);
              ends = (tells_matches (brought q) x).0 (was x i).1;
              link = rw same ((tells_not (tells_ad_hoc m f)).0 p.1);
            };
          }

      -- it ends as answered
      copy_honest : is_self_met m f h.face ≡ false → Honest (whole e n brings_about) (happens answered t x h)
      unfolding happens satisfies after_ageing is_some stood_of stood_as
      copy_honest a =
          let high = slot_within h.face x.requests h.what stands in
          record {
            when = refl;
            says = record {
              stood = stood_of m.pending x (was x i).0 answered t h stands;
              live = live;
              from = f;
              offer = brought q;
              bytes = q.bytes;
              came = data_arrives e n brings_about f came q;
              ends = (tells_matches (brought q) x).0 (was x i).1;
              copy =
                  copies_made m f q.bytes matched x h.face low
                  (omega (arith, met_shaped.size, (all_in met_shaped.pending.each (was x i).0).requests)) i (rw stands) a;
              own = answers_own m f h.face a;
            };
          }

      -- either way
      end_honest : Honest (whole e n brings_about) (happens (fate_of m f h.face) t x h)
      unfolding fate_of
      end_honest =
          pick_ind (λ (y : Fate). Honest (whole e n brings_about) (happens y t x h)) (is_self_met m f h.face) self_met answered
          self_honest copy_honest

    -- all requests that it ends
    data_honest : All (Honest (whole e n brings_about)) brings_about.happenings
    unfolding satisfies data_ends
    data_honest =
        all_each (data_ends t m f)
        (all_mono
        (λ x i.
        all_map (λ h. happens (fate_of m f h.face) t x h)
        (all_mono (λ h p. end_honest x i h p.0.0 p.0.1 p.1)
        (all_and (held_slot x.requests) (all_in (aged_live t n) (was x i).0))))
        (all_own matched))

  -- ---- the ends that a Nack makes

  -- a Nack for an out-record of an entry that leaves all of them Nacked
  module _ (f : ℕ) (q : HoldsNack m w f) (x : Entry) (a : at_place (entry_of m (denied q)) m.pending ≡ some x)
      (k : Fits m f (denied q).nonce x) (z : all_nacked (with_nack f q.reason x) ≡ true) where
    -- what it comes to
    abbrev refusing : Outcome
    refusing = ends_by_nack t m (entry_of m (denied q)) (with_nack f q.reason x)

    -- each request that it ends
    nack_honest : All (Honest (whole e n refusing)) refusing.happenings
    unfolding ends_by_nack after_ageing peers_of with_nack with_sent happens nack_of stood_as
    nack_honest =
        all_map (happens nacked t (with_nack f q.reason x))
        (all_mono (λ h p. record {
          when = refl;
          says = record {
            stood =
                stood_as m.pending x (with_nack f q.reason x) (record { name = refl; prefix = refl; fresh = refl; cls = refl })
                there_before nacked t h (all_in (held_slot x.requests) p.1.0).1;
            live = all_in (all_in (aged_live t n) there_before) p.1.0;
            peer = (tells_peer m h.face).0 p.1.1;
            from = f;
            cause = q.reason;
            ask = denied q;
            came = nack_arrives e n refusing f came q;
            known = record { name = sym b.name; prefix = sym b.prefix; fresh = sym b.fresh };
            out = sent;
            last = others_nacked x f q.reason sent.0 sent.1 z;
            reason = smallest_reason (held (with_nack f q.reason x).sent);
            smallest = smallest_nacked x f q.reason sent.0 sent.1 z;
            copy = some_map (nack_of (with_nack f q.reason x)) (some_mono (λ g r. rw r (refl, (refl, refl))) p.0);
          };
        })
        (all_and (all_own (peers_of m (with_nack f q.reason x)))
        (only_in (λ (h : Held Request). is_peer m.faces h.face) (held x.requests))))
      where
        there_before : In x m.pending
        there_before = entry_in _ m.pending x a

        b : KnownBy (denied q) x
        b = entry_known m (denied q) x a

        sent : OutRecord x f (denied q).nonce
        sent = (tells_sent f (denied q).nonce x).0 k.sent

  -- ---- closing

  -- the request of an entry that closing a face ends
  closing_honest : (f : ℕ) (o : Outcome) → w ≡ close_face f → (x : Entry) → In x m.pending
      → All (Honest (whole e n o)) (closing_ends t f x)
  unfolding closing_ends given happens
  closing_honest f o c x i = go (slot f x.requests) refl
    where
      go : (y : Option Request) → slot f x.requests ≡ y → All (Honest (whole e n o)) (closing_ends t f x)
      go none p = rw p nothing
      go (some r) p =
          let late : t < r.expiry = all_in (all_in (aged_live t n) i) (slot_held f x.requests r p) in
          let one : Honest (whole e n o) (happens closed t x (record { face = f; what = r })) =
          record { when = refl; says = record { stood = stood_of m.pending x i closed t _ p; live = late; what = came ∙ c } } in
          rw p (both one nothing)

  -- all that closing a face ends
  close_honest : (f : ℕ) (o : Outcome) → w ≡ close_face f → All (Honest (whole e n o)) (close_step t m f).happenings
  unfolding close_step
  close_honest f o c = all_each (closing_ends t f) (all_mono (λ x i. closing_honest f o c x i) (all_own m.pending))

module _ (faces : ℕ) (e : Event) (n : Node) (s : Shaped faces n) where
  -- whatever an event comes to past the first three checks
  past_honest : (w : What) (o : Outcome) → e.what ≡ w → bad_face faces n w ≡ false → Past faces e.time (aged e.time n) w o
      → All (Honest (whole e n o)) o.happenings
  unfolding quiet nack_for served opens_entry asks_again renews sends_on
  past_honest w o came fine (case.unread f a k) = nothing
  past_honest w o came fine (case.refused f a d) = nothing
  past_honest w o came fine (case.turned_away v a d) = nothing
  past_honest w o came fine case.ticked = nothing
  past_honest w o came fine (case.nacked_back f q a reason k) = nothing
  past_honest w o came fine (case.served_from f q h found absent) = nothing
  past_honest w o came fine (case.opened f q r h a b c d) = both (begun_honest faces e n s came f fine q r.cls h a) nothing
  past_honest w o came fine (case.joined f q x a) =
      pick_ind (All (Honest (whole e n _))) _ _ _ (λ _. nothing) (λ b. both (again_honest faces e n s came f fine q x a b) nothing)
  past_honest w o came fine (case.satisfied f q a) = data_honest faces e n s came f q
  past_honest w o came fine (case.marked f q x a k z) = nothing
  past_honest w o came fine (case.nacked_on f q x a k z) = nack_honest faces e n s came f q x a k z
  past_honest w o came fine (case.opens_face f scope link a) = nothing
  past_honest w o came fine (case.closes_face f) = close_honest faces e n s came f _ refl
  past_honest w o came fine (case.sets_class c p a b) = nothing
  past_honest w o came fine (case.adds_route c p h a b d) = nothing
  past_honest w o came fine (case.drops_route p a) = nothing
  past_honest w o came fine (case.adds_hop f cost p a b) = nothing
  past_honest w o came fine (case.drops_hop f p a) = nothing

-- a happening is one of a moment among these, and is honest about it
pub record Belongs (ms : List Moment) (h : Happening) : Type 0 where
  pub moment : Moment
  pub of : In moment ms
  pub among : In h moment.outcome.happenings
  pub honest : Honest moment h

module _ (faces least : ℕ) where
  -- whatever an event comes to
  by_case : (e : Event) (n : Node) (o : Outcome) → Becomes faces least e n o → Shaped faces n
      → All (Honest (record { event = e; before = n; outcome = o })) o.happenings
  unfolding quiet after_ageing
  by_case e n o (ignored a d) s = nothing
  by_case e n o (taken p t f k) s = all_append (ageing_honest e n _) (past_honest faces e n s e.what p refl f k)

  -- in any event, from any node of the shape that events lead to: each happening is what it is called. This does not say that a request
  -- ends when it should: that is in `MustEnd`; and that none ends twice is in `Legal`
  pub step_honest : (e : Event) (n : Node) → Shaped faces n
      → let m = moment (step faces least) e n in All (Honest m) m.outcome.happenings
  step_honest e n s = by_case e n (step faces least e n) (becomes faces least e n) s

  -- start from an empty node and take any events: each happening of each event is what it is called
  pub run_honest : (es : List Event) → All (λ m. All (Honest m) m.outcome.happenings) (lived faces (step faces least) es)
  run_honest es = all_lived faces least (λ m. All (Honest m) m.outcome.happenings) step_honest es

  -- so each happening of the history belongs to a moment of it, and is honest about that moment
  pub history_honest : (es : List Event) → All (Belongs (lived faces (step faces least) es)) (told faces (step faces least) es)
  history_honest es =
      rw (history_moments (step faces least) es (empty_node faces))
      (all_each (λ (m : Moment). m.outcome.happenings)
      (all_mono (λ m p. all_mono (λ h q. record { moment = m; of = p.0; among = q.0; honest = q.1 })
      (all_and (all_own m.outcome.happenings) p.1))
      (all_and (all_own (lived faces (step faces least) es)) (run_honest es))))
