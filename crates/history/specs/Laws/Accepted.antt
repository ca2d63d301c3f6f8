-- An event that is answered 0: it passes the first three checks, and comes to what the rules make of the packet that came in, past all
-- refusals.
-- Assumes nothing.
use Rattle.std.specs.Prelude.{ℕ, ◌≡◌, true, false, List}
use Rattle.std.proofs.Math.Path.{refl, ap}
use Rattle.std.proofs.Common.{sym, ◌∙◌}
use Rattle.std.proofs.Math.Option.{Option, none, some}
use Rattle.answers.specs.declared.Answer.{Answer}
use Rattle.laws.specs.Laws.Pick.{pick_ind}
use Rattle.packets.specs.Meaning.{Ask, Offer, Heard}
use Rattle.records.specs.Class.{Class}
use Rattle.records.specs.Slots.{given, at_place}
use Rattle.records.specs.Face.{is_local_face}
use Rattle.records.specs.Route.{Route, longest, cheapest_of}
use Rattle.records.specs.Entry.{Entry, with_nack, sent_nonce}
use Rattle.records.specs.Stored.{Hit, lookup}
use Rattle.rules.specs.Node.{Node, Event}
use Rattle.rules.specs.Outcome.{Outcome, quiet, nack_for}
use Rattle.rules.specs.Ageing.{aged, ageing}
use Rattle.rules.specs.Interest.{Arrival, eligible, entry_of, opens_entry, may_open, routed, served, asks_anew, asks_again, asks_entry, interest_step}
use Rattle.rules.specs.Data.{satisfies, data_step}
use Rattle.rules.specs.Nack.{sent_back, nacked_entry, nack_step}
use Rattle.rules.specs.Step.{arrives, what_step, bad_face, after_ageing, step}
use Rattle.incoming.specs.Incoming.{Hears}
use Rattle.incoming.specs.Laws.Incoming.{hears_step}
use Rattle.refusals.specs.Laws.Tells.{not_both}
use Rattle.history.specs.Moments.{is_done}
use Rattle.history.specs.Laws.Becomes.{GoodFace, came_face, aged_face}

-- an answer that is not 0 is not
not_done : {A : Type 0} (a : Answer) → is_done a ≡ false → a ≡ Answer.Done → A
not_done a e q = not_both (sym e ∙ ap is_done q)

-- what an event comes to, past the first three checks
abbrev pub onwards : ℕ → Event → Node → Outcome
onwards faces e n = after_ageing (ageing e.time n) (what_step faces e.time (aged e.time n) e.what)

module _ (faces least : ℕ) (e : Event) (n : Node) where
  -- an event that is answered 0 passes the first three checks
  pub accepted : (step faces least e n).answer ≡ Answer.Done
      → (bad_face faces n e.what ≡ false) × (step faces least e n ≡ onwards faces e n)
  unfolding step quiet
  accepted =
      pick_ind Fine _ _ _ (λ _. not_done Answer.Clock refl)
      (λ _. pick_ind Fine _ _ _ (λ _. not_done Answer.SmallBuffer refl)
      (λ _. pick_ind Fine _ _ _ (λ _. not_done Answer.BadFace refl) (λ f _. (f, refl))))
    where
      Fine : Outcome → Type 0
      Fine o = o.answer ≡ Answer.Done → (bad_face faces n e.what ≡ false) × (o ≡ onwards faces e n)

  -- a packet that is accepted: what holds of what the rules make of it, after ageing, holds of the event
  pub by_arrival : (P : Outcome → Type 0) (f : ℕ) (h : Heard) → Hears (aged e.time n) e.what f h
      → (GoodFace faces (aged e.time n) f → (arrives e.time (aged e.time n) f h).answer ≡ Answer.Done
      → P (after_ageing (ageing e.time n) (arrives e.time (aged e.time n) f h)))
      → (step faces least e n).answer ≡ Answer.Done → P (step faces least e n)
  unfolding after_ageing
  by_arrival P f h k p d =
      let a = accepted d in
      let g = came_face faces (aged e.time n) e.what f h k (aged_face faces e.time n e.what a.0) in
      let same = a.1 ∙ ap (after_ageing (ageing e.time n)) (hears_step (aged e.time n) f h faces e.time e.what k) in
      rw same (p g (sym (ap (λ (o : Outcome). o.answer) same) ∙ d))

module _ (P : Outcome → Type 0) (now : ℕ) (n : Node) where
  -- P holds of an outcome if its answer is 0
  abbrev Fine : Outcome → Type 0
  Fine o = o.answer ≡ Answer.Done → P o

  -- an Interest that is answered 0 is served, opens an entry, or finds its entry
  pub interest_done : (a : Arrival)
      → ((h : Hit) → lookup now a.ask.name a.ask.can_be_prefix a.ask.must_be_fresh n.store ≡ some h → P (served n a h))
      → ((c : Class) (h : ℕ) → P (opens_entry now n a c h))
      → ((x : Entry) → at_place (entry_of n a.ask) n.pending ≡ some x → P (asks_again now n a (entry_of n a.ask) x))
      → (interest_step now n a).answer ≡ Answer.Done → P (interest_step now n a)
  unfolding interest_step quiet nack_for
  interest_done a s o j =
      pick_ind Fine _ _ _ (λ _. not_done Answer.HopLimit refl)
      (λ _. pick_ind Fine _ _ _ (λ _. not_done Answer.Scope refl)
      (λ _. pick_ind Fine _ _ _ (λ _. not_done Answer.Loop refl) (λ _. entry (at_place (entry_of n a.ask) n.pending) refl)))
    where
      hop : (c : Class) (x : Option ℕ) → Fine (given (nack_for Answer.NoRoute 150 n a.face a.ask) (may_open now n a c) x)
      hop c none = unfold given nack_for in not_done Answer.NoRoute refl
      hop c (some h) = unfold given may_open nack_for in pick_ind Fine _ _ _ (λ _. not_done Answer.NoRoom refl) (λ _ _. o c h)

      route : (x : Option Route) → Fine (routed now n a x)
      route none = unfold routed nack_for in not_done Answer.NoRoute refl
      route (some r) = unfold routed in hop r.cls (cheapest_of (eligible n a (is_local_face n.faces a.face)) r)

      anew : (x : Option Hit) → lookup now a.ask.name a.ask.can_be_prefix a.ask.must_be_fresh n.store ≡ x
          → Fine (asks_anew now n a x)
      anew none q = unfold asks_anew in route (longest a.ask.name n.routes)
      anew (some h) q = unfold asks_anew in λ _. s h q

      entry : (x : Option Entry) → at_place (entry_of n a.ask) n.pending ≡ x → Fine (asks_entry now n a x)
      entry none q =
          unfold asks_entry in anew (lookup now a.ask.name a.ask.can_be_prefix a.ask.must_be_fresh n.store) refl
      entry (some x) q = unfold asks_entry in λ _. j x q

  -- a Data that is answered 0 ends requests
  pub data_done : (f : ℕ) (d : Offer) (bytes : List ℕ) → P (satisfies now n f d bytes)
      → (data_step now n f d bytes).answer ≡ Answer.Done → P (data_step now n f d bytes)
  unfolding data_step quiet
  data_done f d bytes s =
      pick_ind Fine _ _ _ (λ _. not_done Answer.Scope refl)
      (λ _. pick_ind Fine _ _ _ (λ _. not_done Answer.Unsolicited refl) (λ _ _. s))

  -- a Nack that is answered 0 is one for an out-record of its entry
  pub nack_done : (f reason : ℕ) (i : Ask)
      → ((x : Entry) → at_place (entry_of n i) n.pending ≡ some x → sent_nonce f i.nonce x ≡ true
      → P (nacked_entry now n (entry_of n i) (with_nack f reason x)))
      → (nack_step now n f reason i).answer ≡ Answer.Done → P (nack_step now n f reason i)
  unfolding nack_step quiet
  nack_done f reason i k =
      pick_ind Fine _ _ _ (λ _. not_done Answer.Scope refl)
      (λ _. pick_ind Fine _ _ _ (λ _. entry (at_place (entry_of n i) n.pending) refl) (λ _. not_done Answer.StaleNack refl))
    where
      entry : (x : Option Entry) → at_place (entry_of n i) n.pending ≡ x
          → Fine (given (quiet Answer.StaleNack n) (sent_back now n f reason i) x)
      entry none q = unfold given quiet in not_done Answer.StaleNack refl
      entry (some x) q =
          unfold given sent_back quiet in pick_ind Fine _ _ _ (λ s _. k x q s) (λ _. not_done Answer.StaleNack refl)
