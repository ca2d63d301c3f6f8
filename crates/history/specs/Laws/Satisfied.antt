-- What a Data must end, ends, and what it need not, stays; and it is stored (`step_satisfied`).
-- Assumes nothing.
use Rattle.std.specs.Prelude.{ℕ, ◌≡◌, refl, not, List, ◌⊎◌}
use Rattle.std.proofs.Common.{inl, inr, ⊎_elim}
use Rattle.answers.specs.declared.Answer.{Answer}
use Rattle.laws.specs.Laws.Pick.{pick_ind}
use Rattle.sizes.specs.Sizes.{most_stored}
use Rattle.packets.specs.Meaning.{Offer, brings}
use Rattle.records.specs.Slots.{Held, held, each}
use Rattle.records.specs.Entry.{Request, Entry, matches}
use Rattle.records.specs.Stored.{others, room_for, stored}
use Rattle.records.specs.Happening.{Fate, answered, self_met, happens}
use Rattle.rules.specs.Node.{Node, Event}
use Rattle.rules.specs.Outcome.{Outcome}
use Rattle.rules.specs.Ageing.{aged, ageing}
use Rattle.rules.specs.Data.{stored_as, is_self_met, fate_of, data_ends, satisfies}
use Rattle.rules.specs.Step.{arrives, after_ageing, step}
use Rattle.refusals.specs.Laws.Tells.{tells_not}
use Rattle.refusals.specs.Laws.Tests.{tells_matches}
use Rattle.history.specs.Lists.{In, here}
use Rattle.history.specs.Moments.{Arrives, moment}
use Rattle.history.specs.MustEnd.{Satisfied}
use Rattle.history.specs.Laws.Every.{all_mono, only_test, in_map, some_mono, some_right, some_each}
use Rattle.history.specs.Laws.Elements.{in_only}
use Rattle.history.specs.Laws.Holding.{slot_held}
use Rattle.history.specs.Laws.Accepted.{by_arrival, data_done}

-- a request of an entry that a Data ends, ends as answered or self-met
data_ends_lem : (now : ℕ) (n : Node) (f : ℕ) (x : Entry) (h : Held Request) → In h (held x.requests)
    → In (happens answered now x h) (data_ends now n f x) ⊎ In (happens self_met now x h) (data_ends now n f x)
unfolding data_ends fate_of
data_ends_lem now n f x h i =
    pick_ind (λ (y : Fate). In (happens y now x h) (data_ends now n f x)
    → In (happens answered now x h) (data_ends now n f x) ⊎ In (happens self_met now x h) (data_ends now n f x))
    (is_self_met n f h.face) self_met answered (λ _. inr) (λ _. inl)
    (in_map (λ (k : Held Request). happens (fate_of n f k.face) now x k) i)

-- what ends in one of the entries that a Data matches, ends in the event
ends_among : (now : ℕ) (n : Node) (f : ℕ) (x : Entry) (y : Fate) (h : Held Request) (es : List Entry) → In x es
    → In (happens y now x h) (data_ends now n f x) → In (happens y now x h) (each (data_ends now n f) es)
ends_among now n f x y h es i k = some_each (data_ends now n f) (some_mono (λ b q. rw q k) i)

-- what a Data that matches comes to
satisfied_by : (e : Event) (n : Node) (f : ℕ) (d : Offer) (bytes : List ℕ)
    → let o = satisfies e.time (aged e.time n) f d bytes in
    Satisfied (record { event = e; before = n; outcome = after_ageing (ageing e.time n) o }) f d bytes
unfolding satisfies after_ageing stored stored_as
satisfied_by e n f d bytes = record {
  stored = some_right (room_for most_stored (others d.name m.store)) (here refl);
  gone = all_mono (λ x t. (tells_not (tells_matches d x)).0 t) (only_test (λ x. not (matches d.name x)) m.pending);
  ended = λ x i k g r s.
      let j = in_only (matches d.name) i ((tells_matches d x).1 k) in
      let h = slot_held g x.requests r s in
      ⊎_elim (λ z. inl (some_right (ageing e.time n) (ends_among e.time m f x answered _ _ j z)))
      (λ z. inr (some_right (ageing e.time n) (ends_among e.time m f x self_met _ _ j z))) (data_ends_lem e.time m f x _ h);
  others = λ x i k. in_only (λ x. not (matches d.name x)) i ((tells_not (tells_matches d x)).1 k);
}
  where
    m : Node
    m = aged e.time n

-- in any event, from any node: where a Data is answered 0, it is stored, no entry that it ends stands, each of its requests ended, and
-- every other entry is as it was
pub step_satisfied : (faces least : ℕ) (e : Event) (n : Node) (f : ℕ) (d : Offer) (bytes : List ℕ)
    → Arrives (moment (step faces least) e n) f (brings d bytes) → (step faces least e n).answer ≡ Answer.Done
    → Satisfied (moment (step faces least) e n) f d bytes
unfolding arrives
step_satisfied faces least e n f d bytes k =
    by_arrival faces least e n Done f (brings d bytes) k
    (λ _. data_done (λ o. Done (after_ageing (ageing e.time n) o)) e.time (aged e.time n) f d bytes (satisfied_by e n f d bytes))
  where
    Done : Outcome → Type 0
    Done o = Satisfied (record { event = e; before = n; outcome = o }) f d bytes
