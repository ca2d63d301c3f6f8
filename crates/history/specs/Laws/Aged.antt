-- Past the checks before ageing, no request that is over stands (`step_live`): each that stands is live, or is the one that an Interest
-- made in this event. And the node's last time is the event's (`step_timed`).
-- Assumes nothing.
use Rattle.std.specs.Prelude.{ℕ, ◌<◌, ◌≡◌, Bool, true, false, List, ◌⊎◌, length, eqb}
use Rattle.std.proofs.Math.Path.{refl, sym}
use Rattle.std.proofs.Common.{◌∙◌, eqb-true}
use Rattle.std.proofs.Math.Logic.{inl, inr, ⊎_elim}
use Rattle.std.proofs.Math.Option.{Option, none, some, some-injective}
use Rattle.std.proofs.lemmas.Bool.{eqb-false, not-true}
use Rattle.laws.specs.Laws.Pick.{pick_ind, pick_no}
use Rattle.packets.specs.Meaning.{Ask, asks}
use Rattle.records.specs.Class.{Class}
use Rattle.records.specs.Slots.{no_slots, slot, set_slot, given, at_place}
use Rattle.records.specs.Entry.{Request, Entry, with_requests, with_sent, asking, not_asking, ending, sending, not_sent, with_nack}
use Rattle.records.specs.Ageing.{staying, becoming}
use Rattle.records.specs.Closing.{without_face}
use Rattle.records.specs.Laws.Slot.{slot_set_other, set_slot_keeps, slot_no_slots}
use Rattle.rules.specs.Node.{Node, What, Event}
use Rattle.rules.specs.Outcome.{Outcome, quiet, nack_for}
use Rattle.rules.specs.Ageing.{aged}
use Rattle.rules.specs.Interest.{request_of, new_entry, opens_entry, sends_on, renews, asks_again, served}
use Rattle.rules.specs.Data.{satisfies}
use Rattle.rules.specs.Nack.{settled, ends_by_nack}
use Rattle.rules.specs.Command.{close_step}
use Rattle.rules.specs.Step.{after_ageing, step}
use Rattle.incoming.specs.Incoming.{Hears}
use Rattle.refusals.specs.Refusals.{Check, Clock, SmallBuffer, BadFace, Known, Applies}
use Rattle.refusals.specs.Refused.{is_early}
use Rattle.refusals.specs.Laws.Tells.{tells_not}
use Rattle.refusals.specs.Laws.Tests.{test, tells}
use Rattle.history.specs.Lists.{All}
use Rattle.history.specs.Moments.{moment}
use Rattle.history.specs.TakenIn.{request_at}
use Rattle.history.specs.MustEnd.{Live}
use Rattle.history.specs.Laws.Every.{not_none, all_mono, all_only, all_map, all_snoc, all_on_at, all_without, all_in}
use Rattle.history.specs.Laws.Holding.{slot_held, emptied_some}
use Rattle.history.specs.Laws.Known.{entry_in, with_request, sent_on, without_peer}
use Rattle.history.specs.Laws.Becomes.{HoldsInterest, arrival, asked, Past, past}
use Rattle.history.specs.Laws.Becomes as case
use Rattle.history.specs.Laws.Live.{aged_live}
use Rattle.history.specs.Laws.Accepted.{onwards}
use Rattle.history.specs.Laws.TakenIn.{entry_fits}

-- what a slot holds after one was set is what was set there, or what it held before
set_found : {A : Type 0} (f g : ℕ) (x : A) (l : List (Option A)) (a : A) → slot g (set_slot f (some x) l) ≡ some a
    → ((g ≡ f) × (x ≡ a)) ⊎ (slot g l ≡ some a)
set_found f g x l a = go (eqb g f) refl
  where
    go : (b : Bool) → eqb g f ≡ b → slot g (set_slot f (some x) l) ≡ some a → ((g ≡ f) × (x ≡ a)) ⊎ (slot g l ≡ some a)
    go true e =
        set_slot_keeps (λ o. o ≡ some a → ((g ≡ f) × (x ≡ a)) ⊎ (slot g l ≡ some a)) f g (some x) l
        (λ q. inl (eqb-true g f e, some-injective _ _ q)) inr
    go false e = λ q. inr (sym (slot_set_other f g (some x) l (eqb-false g f e)) ∙ q)

-- each request of an entry is live at a time
abbrev Standing : ℕ → Entry → Type 0
Standing now x = (g : ℕ) (r : Request) → slot g x.requests ≡ some r → now < r.expiry

-- so it is with each that stands after ageing
aged_standing : (now : ℕ) (n : Node) → All (Standing now) (aged now n).pending
aged_standing now n = all_mono (λ x h g r s. all_in h (slot_held g x.requests r s)) (aged_live now n)

module _ (faces : ℕ) (e : Event) (n : Node) where
  -- the node that the event meets
  abbrev m : Node
  m = aged e.time n

  -- each request of an entry is live, or is the one that an Interest made in this event
  abbrev Lives : Entry → Type 0
  Lives x = (g : ℕ) (r : Request) → slot g x.requests ≡ some r
      → (e.time < r.expiry)
      ⊎ ((i : Ask) × (bytes : List ℕ) × Hears m e.what g (asks i bytes) × Known i x × (r ≡ request_at e.time i))

  -- it is so where each is live
  lives : (x : Entry) → Standing e.time x → Lives x
  lives x h g r s = inl (h g r s)

  -- and so of the node that the event meets
  met_lives : All Lives m.pending
  met_lives = all_mono lives (aged_standing e.time n)

  -- an Interest's request in an entry that it is for, the others of which are live
  asked_lives : (f : ℕ) (q : HoldsInterest m e.what f) (y : Entry) → Known (asked q) y → (l : List (Option Request))
      → y.requests ≡ set_slot f (some (request_of e.time (arrival f q))) l
      → ((g : ℕ) (r : Request) → slot g l ≡ some r → e.time < r.expiry) → Lives y
  unfolding request_of
  asked_lives f q y k l same h g r s =
      ⊎_elim (λ z. inr (asked q, q.bytes, rw z.0 q.comes, k, sym z.1)) (λ z. inl (h g r z))
      (set_found f g (request_at e.time (asked q)) l r (rw same at s))

  -- an Interest that opens an entry
  opened_lives : (f : ℕ) (q : HoldsInterest m e.what f) (c : Class) (h : ℕ) → Lives (new_entry e.time m (arrival f q) c h)
  unfolding new_entry
  opened_lives f q c h =
      asked_lives f q _ (record { name = refl; prefix = refl; fresh = refl }) (no_slots (length m.faces)) refl
      (λ g r s. not_none (sym (slot_no_slots g (length m.faces)) ∙ s))

  -- an Interest that finds its entry
  joined_lives : (f : ℕ) (q : HoldsInterest m e.what f) (x : Entry) → Known (asked q) x → Standing e.time x → (o : Option ℕ)
      → Lives (sent_on e.time (arrival f q) o (with_request e.time (arrival f q) x))
  unfolding given asking sending with_requests with_sent
  joined_lives f q x k h none =
      asked_lives f q _ (record { name = k.name; prefix = k.prefix; fresh = k.fresh }) x.requests refl h
  joined_lives f q x k h (some j) =
      asked_lives f q _ (record { name = k.name; prefix = k.prefix; fresh = k.fresh }) x.requests refl h

  -- a Nack changes no request
  marked_lives : (f cause : ℕ) (x : Entry) → Standing e.time x → Standing e.time (with_nack f cause x)
  unfolding with_nack with_sent
  marked_lives f cause x h = h

  -- the requests that a Nack leaves were there
  fewer_lives : (x : Entry) → Standing e.time x → Standing e.time (without_peer m x)
  unfolding ending with_requests
  fewer_lives x h g r s = h g r (emptied_some _ g x.requests r s)

  -- so with those that closing a face leaves
  closed_lives : (f : ℕ) (x : Entry) → Standing e.time x → Standing e.time (without_face f x)
  unfolding not_asking not_sent with_requests with_sent
  closed_lives f x h g r s =
      h g r (set_slot_keeps (λ o. o ≡ some r → slot g x.requests ≡ some r) f g none x.requests (λ q. not_none q) (λ q. q) s)

  -- the entry of a packet has live requests
  entry_lives : (i : ℕ) (x : Entry) → at_place i m.pending ≡ some x → Standing e.time x
  entry_lives i x a = all_in (aged_standing e.time n) (entry_in i m.pending x a)

  -- a packet that came in with the event
  came_in_lem : {w : What} → e.what ≡ w → (f : ℕ) → HoldsInterest m w f → HoldsInterest m e.what f
  came_in_lem c f q = record { ask = q.ask; bytes = q.bytes; comes = rw c q.comes }

  -- whatever an event comes to past the first three checks
  past_live : (w : What) (o : Outcome) → e.what ≡ w → Past faces e.time m w o → All Lives o.node.pending
  unfolding quiet nack_for served opens_entry new_entry asks_again renews sends_on satisfies ends_by_nack settled becoming close_step
      staying came_in_lem
  past_live w o came (case.unread f a k) = met_lives
  past_live w o came (case.refused f a d) = met_lives
  past_live w o came (case.turned_away v a d) = met_lives
  past_live w o came case.ticked = met_lives
  past_live w o came (case.nacked_back f q a reason k) = met_lives
  past_live w o came (case.served_from f q h found absent) = met_lives
  past_live w o came (case.opened f q r h a b c d) = all_snoc met_lives (opened_lives f (came_in_lem came f q) r.cls h)
  past_live w o came (case.joined f q x a) =
      all_on_at _ _ (λ _ _. joined_lives f (came_in_lem came f q) x (entry_fits m (asked q) x a) (entry_lives _ x a) _) met_lives
  past_live w o came (case.satisfied f q a) = all_only _ met_lives
  past_live w o came (case.marked f q x a k z) =
      all_on_at _ _ (λ _ _. lives _ (marked_lives f q.reason x (entry_lives _ x a))) met_lives
  past_live w o came (case.nacked_on f q x a k z) =
      pick_ind (All Lives) _ _ _ (λ _. all_without _ met_lives)
      (λ _. all_on_at _ _ (λ _ _. lives _ (fewer_lives _ (marked_lives f q.reason x (entry_lives _ x a)))) met_lives)
  past_live w o came (case.opens_face f scope link a) = met_lives
  past_live w o came (case.closes_face f) =
      all_only _ (all_map (without_face f) (all_mono (λ x h. lives _ (closed_lives f x h)) (aged_standing e.time n)))
  past_live w o came (case.sets_class c p a b) = met_lives
  past_live w o came (case.adds_route c p h a b d) = met_lives
  past_live w o came (case.drops_route p a) = met_lives
  past_live w o came (case.adds_hop f cost p a b) = met_lives
  past_live w o came (case.drops_hop f p a) = met_lives

-- whatever an event comes to past the first three checks, it leaves the last time
past_timed : (faces now : ℕ) (n : Node) (w : What) (o : Outcome) → Past faces now n w o → o.node.time ≡ n.time
unfolding quiet nack_for served opens_entry asks_again renews sends_on satisfies ends_by_nack settled close_step
past_timed faces now n w o (case.unread f a k) = refl
past_timed faces now n w o (case.refused f a d) = refl
past_timed faces now n w o (case.turned_away v a d) = refl
past_timed faces now n w o case.ticked = refl
past_timed faces now n w o (case.nacked_back f q a reason k) = refl
past_timed faces now n w o (case.served_from f q h found absent) = refl
past_timed faces now n w o (case.opened f q r h a b c d) = refl
past_timed faces now n w o (case.joined f q x a) = refl
past_timed faces now n w o (case.satisfied f q a) = refl
past_timed faces now n w o (case.marked f q x a k z) = refl
past_timed faces now n w o (case.nacked_on f q x a k z) = refl
past_timed faces now n w o (case.opens_face f scope link a) = refl
past_timed faces now n w o (case.closes_face f) = refl
past_timed faces now n w o (case.sets_class c p a b) = refl
past_timed faces now n w o (case.adds_route c p h a b d) = refl
past_timed faces now n w o (case.drops_route p a) = refl
past_timed faces now n w o (case.adds_hop f cost p a b) = refl
past_timed faces now n w o (case.drops_hop f p a) = refl

module _ (faces least : ℕ) (e : Event) (n : Node) (late : (c : Check) → is_early c ≡ true → ¬ Applies faces least e n c) where
  -- the test of a check before ageing fails
  early_fails : (c : Check) → is_early c ≡ true → test faces least e n c ≡ false
  early_fails c k = not-true (test faces least e n c) ((tells_not (tells faces least e n c)).1 (late c k))

  -- so the event passes the first three checks
  passes : step faces least e n ≡ onwards faces e n
  unfolding step test is_early
  passes =
      pick_no _ _ _ (early_fails Clock refl) ∙ pick_no _ _ _ (early_fails SmallBuffer refl) ∙ pick_no _ _ _ (early_fails BadFace refl)

  -- in any event, from any node: where no check before ageing applies, each request that stands is live, or is the one that an Interest
  -- made in this event
  pub step_live : Live (moment (step faces least) e n)
  unfolding after_ageing
  step_live = rw passes (past_live faces e n e.what _ refl (past faces e.time (aged e.time n) e.what))

  -- and the last time is the event's
  pub step_timed : (step faces least e n).node.time ≡ e.time
  unfolding after_ageing aged
  step_timed = rw passes (past_timed faces e.time (aged e.time n) e.what _ (past faces e.time (aged e.time n) e.what))
