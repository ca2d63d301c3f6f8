-- What the closing of a face must end, ends, and what it need not, stays (`step_closed`).
-- Assumes nothing.
use Rattle.std.specs.Prelude.{ℕ, ◌≡◌, List, map, ◌≢◌}
use Rattle.std.proofs.Math.Path.{refl}
use Rattle.std.proofs.Common.{◌∙◌, ap}
use Rattle.std.proofs.Math.Bool.{not}
use Rattle.std.proofs.Math.Option.{none, some}
use Rattle.answers.specs.declared.Answer.{Answer}
use Rattle.records.specs.Slots.{slot, set_slot, given}
use Rattle.records.specs.Route.{with_hop}
use Rattle.records.specs.Entry.{Request, Entry, with_requests, with_sent, not_asking, not_sent, is_idle}
use Rattle.records.specs.Ageing.{staying}
use Rattle.records.specs.Closing.{without_face, closing_ends}
use Rattle.records.specs.Happening.{closed, happens}
use Rattle.records.specs.Laws.Slot.{slot_unset, slot_set_other}
use Rattle.rules.specs.Node.{Node, What, close_face, Event}
use Rattle.rules.specs.Ageing.{aged, ageing}
use Rattle.rules.specs.Command.{close_step}
use Rattle.rules.specs.Step.{what_step, after_ageing, step}
use Rattle.history.specs.Lists.{All, here, In}
use Rattle.history.specs.Moments.{moment}
use Rattle.history.specs.MustEnd.{Stays, Closed}
use Rattle.history.specs.Laws.Every.{all_any, all_only, all_map, some_map, some_mono, some_right, some_each}
use Rattle.history.specs.Laws.Elements.{some_only}
use Rattle.history.specs.Laws.Holding.{not_empty}
use Rattle.history.specs.Laws.Accepted.{accepted}

module _ (f : ℕ) where
  -- the entries that stay have no request of the face
  requests_gone : (es : List Entry) → All (λ x. slot f x.requests ≡ none) (staying (map (without_face f) es))
  unfolding staying not_asking not_sent with_requests with_sent
  requests_gone es = all_only _ (all_map (without_face f) (all_any (λ x. slot_unset f x.requests) es))

  -- nor an out-record of it
  outs_gone : (es : List Entry) → All (λ x. slot f x.sent ≡ none) (staying (map (without_face f) es))
  unfolding staying not_asking not_sent with_requests with_sent
  outs_gone es = all_only _ (all_map (without_face f) (all_any (λ x. slot_unset f x.sent) es))

  -- another face's request stays
  other_request : (x : Entry) (es : List Entry) → In x es → (g : ℕ) → g ≢ f → (r : Request) → slot g x.requests ≡ some r
      → Stays (staying (map (without_face f) es)) x g r
  unfolding staying not_asking not_sent with_requests with_sent is_idle
  other_request x es i g d r s =
      let there : slot g (set_slot f none x.requests) ≡ some r = slot_set_other f g none x.requests d ∙ s in
      some_only (λ y. not (is_idle y)) (some_map (without_face f)
      (some_mono
      (λ b q. rw q ((record { name = refl; prefix = refl; fresh = refl }, refl, there), rw (not_empty g _ r there))) i))

  -- its request ends
  closing_ends_lem : (now : ℕ) (x : Entry) (r : Request) → slot f x.requests ≡ some r
      → In (happens closed now x (record { face = f; what = r })) (closing_ends now f x)
  unfolding closing_ends given
  closing_ends_lem now x r s = rw s (here refl)

-- what closing a face comes to
closed_by : (e : Event) (n : Node) (f : ℕ)
    → let o = close_step e.time (aged e.time n) f in
    Closed (record { event = e; before = n; outcome = after_ageing (ageing e.time n) o }) f
unfolding close_step after_ageing with_hop
closed_by e n f = record {
  face = slot_unset f m.faces;
  requests = requests_gone f m.pending;
  outs = outs_gone f m.pending;
  hops = all_map (with_hop f none) (all_any (λ r. slot_unset f r.hops) m.routes);
  ended = λ x i r s.
      some_right (ageing e.time n)
      (some_each (closing_ends e.time f) (some_mono (λ b q. rw q (closing_ends_lem f e.time x r s)) i));
  others = λ x i g d r s. other_request f x m.pending i g d r s;
}
  where
    m : Node
    m = aged e.time n

-- in any event, from any node: where the closing of a face is answered 0, nothing of it stands, each of its requests ended as closed, and
-- every other request stands
pub step_closed : (faces least : ℕ) (e : Event) (n : Node) (f : ℕ) → e.what ≡ close_face f → (step faces least e n).answer ≡ Answer.Done
    → Closed (moment (step faces least) e n) f
unfolding what_step
step_closed faces least e n f w d =
    let same = (accepted faces least e n d).1
    ∙ ap (λ (v : What). after_ageing (ageing e.time n) (what_step faces e.time (aged e.time n) v)) w in
    rw same (closed_by e n f)
