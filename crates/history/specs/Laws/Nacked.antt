-- What a Nack must end, ends, and what it need not, stays (`step_nacked`).
-- Assumes nothing.
use Rattle.std.specs.Prelude.{ℕ, ◌≡◌, Bool, not, List, ◌≢◌}
use Rattle.std.proofs.Math.Path.{refl, ap}
use Rattle.std.proofs.Common.{sym, ◌∙◌, ⊎_elim, eqb-true}
use Rattle.std.proofs.Math.Bool.{true, false}
use Rattle.std.proofs.Math.Option.{Option, none, some, some-injective}
use Rattle.std.proofs.Math.Dec.{eqb}
use Rattle.std.proofs.lemmas.Bool.{eqb-false, not-true}
use Rattle.answers.specs.declared.Answer.{Answer}
use Rattle.laws.specs.Pick.{pick}
use Rattle.laws.specs.Laws.Pick.{pick_ind, pick_yes, pick_no}
use Rattle.laws.specs.Lists.{on_at, without}
use Rattle.packets.specs.Meaning.{Ask, nacks}
use Rattle.records.specs.Slots.{slot, is_some, at_place}
use Rattle.records.specs.Face.{is_peer}
use Rattle.records.specs.Entry.{Request, Sent, Entry, with_requests, with_sent, ending, is_idle, reason_of, was_nacked, mark_nacked, with_nack, all_nacked, sent_nonce}
use Rattle.records.specs.Ageing.{becoming}
use Rattle.records.specs.Happening.{nacked, happens}
use Rattle.records.specs.Laws.Slot.{slot_set_same, slot_set_other, slot_emptied}
use Rattle.rules.specs.Node.{Node, Event, with_pending}
use Rattle.rules.specs.Outcome.{Outcome, quiet}
use Rattle.rules.specs.Ageing.{aged, ageing}
use Rattle.rules.specs.Interest.{entry_of}
use Rattle.rules.specs.Nack.{peers_of, settled, ends_by_nack, nacked_entry}
use Rattle.rules.specs.Step.{arrives, after_ageing, step}
use Rattle.refusals.specs.Laws.Tells.{Tells, not_both, tells_as, tells_not, tells_held}
use Rattle.refusals.specs.Laws.Tests.{tells_peer, tells_sent}
use Rattle.history.specs.Lists.{All, In}
use Rattle.history.specs.Moments.{Moment, Arrives, moment}
use Rattle.history.specs.Ends.{OthersNacked}
use Rattle.history.specs.MustEnd.{SameName, Noted, Nacked}
use Rattle.history.specs.Shape.{Shaped}
use Rattle.history.specs.Laws.Every.{not_none, all_mono, in_map, some_mono, some_right}
use Rattle.history.specs.Laws.Elements.{in_only, at_or_other, other_stays, replaced_in, all_replaced}
use Rattle.history.specs.Laws.Holding.{slot_held, slot_low, slot_within, not_empty}
use Rattle.history.specs.Laws.Known.{entry_in, without_peer}
use Rattle.history.specs.Laws.Lookup.{element_at_lem}
use Rattle.history.specs.Laws.Apart.{apart_other}
use Rattle.history.specs.Laws.ShapeKept.{aged_shaped}
use Rattle.history.specs.Laws.Accepted.{by_arrival, nack_done}
use Rattle.history.specs.Laws.TakenIn.{entry_fits}

-- ---- the entry with its reason noted

-- nothing is there
tells_none : {A : Type 0} (o : Option A) → Tells (not (is_some o)) (o ≡ none)
unfolding is_some
tells_none none = (λ _. refl, λ _. refl)
tells_none (some a) = (not_both, λ q. cc)

module _ (f cause : ℕ) (x : Entry) (s : Sent) (there : slot f x.sent ≡ some s) where
  -- the out-record as the Nack leaves it
  abbrev after_nack : Sent
  after_nack = record { nonce = s.nonce; time = s.time; nacked = some (reason_of cause) }

  -- it stands in the entry
  own_noted : slot f (with_nack f cause x).sent ≡ some after_nack
  unfolding with_nack with_sent mark_nacked
  own_noted =
      slot_set_same f (mark_nacked cause (slot f x.sent)) x.sent (slot_low f x.sent s there) (slot_within f x.sent s there)
      ∙ ap (mark_nacked cause) there

  -- no other changes
  other_noted : (g : ℕ) → g ≢ f → slot g (with_nack f cause x).sent ≡ slot g x.sent
  unfolding with_nack with_sent
  other_noted g d = slot_set_other f g (mark_nacked cause (slot f x.sent)) x.sent d

  -- all out-records are Nacked then exactly where all others were
  tells_others : Tells (all_nacked (with_nack f cause x)) (OthersNacked x f)
  unfolding all_nacked was_nacked
  tells_others =
      tells_as (tells_not (tells_held _ {P = λ g z. z.nacked ≡ none} (λ g z. tells_none z.nacked) (with_nack f cause x).sent)) (
        λ h g z d q k. h (g, z, other_noted g d ∙ q, k),
        λ all k. go k.0 k.1 all k.2 k.3 (eqb k.0 f) refl,
      )
    where
      go : (g : ℕ) (z : Sent) → OthersNacked x f → slot g (with_nack f cause x).sent ≡ some z → z.nacked ≡ none → (b : Bool) → eqb g f ≡ b
          → ⊥
      go g z all q k true e =
          let same : slot f (with_nack f cause x).sent ≡ some z = rw (eqb-true g f e) at q in
          let own : after_nack ≡ z = some-injective _ _ (sym own_noted ∙ same) in
          not_none (sym (rw (← own) at k))
      go g z all q k false e = all g z (eqb-false g f e) (sym (other_noted g (eqb-false g f e)) ∙ q) k

-- ---- the table

-- the entries when that at a place is now another, or has left if it has no requests
module _ (k : ℕ) (y : Entry) (es : List Entry) where
  -- what holds of the others and of the new one
  all_becoming : {P : Entry → Type 0} → P y → All P (without k es) → All P (becoming k y es)
  unfolding becoming
  all_becoming {P} p h = pick_ind (All P) (is_idle y) _ _ (λ _. h) (λ _. all_replaced k y es p h)

  -- the others stay
  other_becoming : (z : Entry) → In z (without k es) → In z (becoming k y es)
  unfolding becoming
  other_becoming z i = pick_ind (In z) (is_idle y) _ _ (λ _. i) (λ _. other_stays k y z es i)

  -- the new one is there where it has a request
  new_becoming : (x : Entry) → at_place k es ≡ some x → (g : ℕ) (r : Request) → slot g y.requests ≡ some r → In y (becoming k y es)
  unfolding becoming is_idle pick
  new_becoming x q g r s = rw (not_empty g y.requests r s) (replaced_in k x y es q)

-- ---- the Nack

module _ (faces : ℕ) (e : Event) (n : Node) (shape : Shaped faces n) (f cause : ℕ) (i : Ask) (x : Entry)
    (q : at_place (entry_of (aged e.time n) i) (aged e.time n).pending ≡ some x) (t : sent_nonce f i.nonce x ≡ true) where
  -- the node that the Nack meets
  abbrev m : Node
  m = aged e.time n

  -- the place of its entry
  abbrev at : ℕ
  at = entry_of m i

  -- that entry with the reason noted
  abbrev noted : Entry
  noted = with_nack f cause x

  -- and without its point-to-point requests
  abbrev fewer : Entry
  fewer = without_peer m noted

  -- the event, if it comes to an outcome after ageing
  abbrev coming : Outcome → Moment
  coming o = record { event = e; before = n; outcome = after_ageing (ageing e.time n) o }

  -- no other entry is of its name and flags
  others_differ : All (λ z. SameName x z → ⊥) (without at m.pending)
  others_differ =
      all_mono (λ z d k. d k.name k.prefix k.fresh)
      (apart_other (λ a b d u v w. d (sym u) (sym v) (sym w)) at x (aged_shaped faces e.time n shape).pending.apart
      (element_at_lem at m.pending ∙ q))

  -- an entry not of its name and flags is one of the others
  is_other : (z : Entry) → In z m.pending → (SameName x z → ⊥) → In z (without at m.pending)
  is_other z k d =
      ⊎_elim (λ p. absurd (d (rw (← p) (record { name = refl; prefix = refl; fresh = refl })))) (λ j. j)
      (at_or_other at x z m.pending q k)

  -- its out-record
  out : (s : Sent) × (slot f x.sent ≡ some s) × (s.nonce ≡ i.nonce)
  out = (tells_sent f i.nonce x).0 t

  -- when the Nack leaves all out-records Nacked
  tells_last : Tells (all_nacked noted) (OthersNacked x f)
  tells_last = tells_others f cause x out.0 out.1

  -- an entry with its out-records is noted so
  is_noted : (y : Entry) → y.sent ≡ noted.sent → Noted x y f cause
  is_noted y k = record {
    out = after_nack f cause x out.0 out.1;
    there = rw k (own_noted f cause x out.0 out.1);
    reason = refl;
    others = λ g d. rw k (other_noted f cause x out.0 out.1 g d);
  }

  -- a Nack that leaves an out-record without one
  waits_on : all_nacked noted ≡ false → Nacked (coming (quiet Answer.Done (with_pending m (on_at at (λ _. noted) m.pending)))) f cause i
  unfolding quiet after_ageing with_nack with_sent
  waits_on a =
      let never : OthersNacked x f → ⊥ = λ all. not_both (sym a ∙ tells_last.1 all) in
      record {
        entry = x;
        stood = entry_in at m.pending x q;
        known = entry_fits m i x q;
        out = out;
        ended = λ all. absurd (never all);
        stays = λ all. absurd (never all);
        waits = λ _ g r s.
            some_mono (λ y k. rw k (record { name = refl; prefix = refl; fresh = refl }, refl, s)) (replaced_in at x noted m.pending q);
        noted = all_replaced at noted m.pending (λ _. is_noted noted refl) (all_mono (λ z d k. absurd (d k)) others_differ);
        others = λ z k d. other_stays at noted z m.pending (is_other z k d);
      }

  -- what is left in a face's slot
  left_of : (g : ℕ) (r : Request) → slot g x.requests ≡ some r
      → slot g fewer.requests ≡ pick (is_peer m.faces g) none (some r)
  unfolding ending with_requests with_nack with_sent
  left_of g r s =
      slot_emptied (is_peer m.faces) g x.requests (slot_low g x.requests r s)
      ∙ ap (λ (o : Option Request). pick (is_peer m.faces g) none o) s

  -- a point-to-point request ends
  peer_ends : (g : ℕ) (r : Request) → slot g x.requests ≡ some r → is_peer m.faces g ≡ true
      → In (happens nacked e.time x (record { face = g; what = r })) (ends_by_nack e.time m at noted).happenings
  unfolding ends_by_nack peers_of with_nack with_sent happens
  peer_ends g r s p =
      in_map (happens nacked e.time noted) (in_only (λ h. is_peer m.faces h.face) (slot_held g x.requests r s) p)

  -- a Nack that leaves all out-records Nacked
  ends_all : all_nacked noted ≡ true → Nacked (coming (ends_by_nack e.time m at noted)) f cause i
  unfolding ends_by_nack settled after_ageing with_nack with_sent ending with_requests
  ends_all a = record {
    entry = x;
    stood = entry_in at m.pending x q;
    known = entry_fits m i x q;
    out = out;
    ended = λ _ g r s p.
        let b = (tells_peer m g).1 p in (
          some_right (ageing e.time n) (peer_ends g r s b),
          all_becoming at fewer m.pending (λ _. left_of g r s ∙ pick_yes _ _ _ b) (all_mono (λ z d k. absurd (d k)) others_differ),
        );
    stays = λ _ g r s d.
        let there : slot g fewer.requests ≡ some r = left_of g r s ∙ pick_no _ _ _ (not-true _ ((tells_not (tells_peer m g)).1 d)) in
        some_mono (λ y k. rw k (record { name = refl; prefix = refl; fresh = refl }, refl, there))
        (new_becoming at fewer m.pending x q g r there);
    waits = λ k. absurd (k (tells_last.0 a));
    noted = all_becoming at fewer m.pending (λ _. is_noted fewer refl) (all_mono (λ z d k. absurd (d k)) others_differ);
    others = λ z k d. other_becoming at fewer m.pending z (is_other z k d);
  }

-- in any event, from any node of the shape: where a Nack is answered 0, its entry has its reason noted; the requests that it ends, ended,
-- and all else stands
pub step_nacked : (faces least : ℕ) (e : Event) (n : Node) → Shaped faces n → (f cause : ℕ) (i : Ask)
    → Arrives (moment (step faces least) e n) f (nacks cause i) → (step faces least e n).answer ≡ Answer.Done
    → Nacked (moment (step faces least) e n) f cause i
unfolding arrives nacked_entry
step_nacked faces least e n s f cause i k =
    by_arrival faces least e n Done f (nacks cause i) k
    (λ _. nack_done (λ o. Done (after_ageing (ageing e.time n) o)) e.time (aged e.time n) f cause i
    (λ x q t. pick_ind (λ o. Done (after_ageing (ageing e.time n) o)) (all_nacked (with_nack f cause x)) _ _
    (ends_all faces e n s f cause i x q t) (waits_on faces e n s f cause i x q t)))
  where
    Done : Outcome → Type 0
    Done o = Nacked (record { event = e; before = n; outcome = o }) f cause i
