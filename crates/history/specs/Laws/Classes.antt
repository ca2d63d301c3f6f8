-- A route has a class that somebody gave it: each route's class, and each pending entry's, is alarm, monitoring or bulk (`run_classed`);
-- and a route has the class that the last accepted setting of its prefix gave (`last_class_lem`, `route_class_lem`).
-- Assumes nothing.
use Rattle.std.specs.Prelude.{ℕ, ◌≡◌, true, ◌⊎◌}
use Rattle.std.proofs.Common.{sym, ◌∙◌, inl, inr}
use mathlib.Core.List.{List, [], ◌∷◌}
use Rattle.std.proofs.Math.Option.{Option, none, some}
use Rattle.laws.specs.Pick.{pick}
use Rattle.laws.specs.Laws.Pick.{pick_ind}
use Rattle.laws.specs.Lists.{on_at}
use Rattle.names.specs.Name.{prefix_of}
use Rattle.names.specs.Laws.Same.{same_refl}
use Rattle.records.specs.Class.{class_of, is_class}
use Rattle.records.specs.Route.{Route, with_class, new_route, with_hop, longer, longest}
use Rattle.records.specs.Entry.{Entry, with_requests, with_sent, asking, not_asking, ending, sending, not_sent, aged_entry, with_nack}
use Rattle.rules.specs.Node.{Node, empty_node, What, Event}
use Rattle.rules.specs.Outcome.{Outcome, quiet, nack_for}
use Rattle.rules.specs.Ageing.{aged}
use Rattle.rules.specs.Interest.{Arrival, new_entry, opens_entry, sends_on, renews, asks_again, served}
use Rattle.rules.specs.Data.{satisfies}
use Rattle.rules.specs.Nack.{settled, ends_by_nack}
use Rattle.rules.specs.Command.{close_step}
use Rattle.records.specs.Closing.{without_face}
use Rattle.rules.specs.Step.{after_ageing, step, run}
use Rattle.history.specs.Laws.Every.{not_none, all_mono, all_only, all_map, all_snoc, all_on_at, all_without, all_in, all_and}
use Rattle.history.specs.Lists.{All, nothing, both, In, here, there, Apart, alone, among}
use Rattle.history.specs.Laws.Known.{differs, entry_in, with_request, sent_on}
use Rattle.history.specs.Classes.{Classed, class_at, last_class}
use Rattle.history.specs.Laws.Becomes.{arrival, Past, Becomes, ignored, taken, becomes}
use Rattle.history.specs.Laws.Becomes as case
use Rattle.history.specs.Moments.{reached}
use Rattle.history.specs.Shape.{OtherRoute}
use Rattle.history.specs.Laws.ShapeKept.{run_shaped}
use Rattle.history.specs.Laws.SetUp.{set_up_lem}
use Rattle.records.specs.Slots.{at_place, given}
use Rattle.records.specs.Ageing.{staying, becoming, aged_pending}

-- ---- the classes are the three

-- the longer of a route and what was found after it is one of the two
longer_cases : (q : Route) (x : Option Route) (r : Route) → longer q x ≡ some r → (q ≡ r) ⊎ (x ≡ some r)
unfolding longer
longer_cases q none r e = inl (cc)
longer_cases q (some y) r e =
    pick_ind (λ (z : Option Route). z ≡ some r → (q ≡ r) ⊎ (some y ≡ some r)) _ (some y) (some q) (λ _ k. inr k) (λ _ k. inl (cc)) e

-- the longest route is one of them
longest_in : (name : List ℕ) (rs : List Route) (r : Route) → longest name rs ≡ some r → In r rs
unfolding longest
longest_in name [] r e = not_none e
longest_in name (q ∷ rs) r e =
    let rest = longest_in name rs r in
    pick_ind (λ (x : Option Route). x ≡ some r → In r (q ∷ rs)) (prefix_of q.name name) _ _
    (λ _ k. go rest (longer_cases q (longest name rs) r k)) (λ _ k. there (rest k)) e
  where
    go : (longest name rs ≡ some r → In r rs) → (q ≡ r) ⊎ (longest name rs ≡ some r) → In r (q ∷ rs)
    go rest (inl s) = here s
    go rest (inr s) = there (rest s)

-- ageing keeps the classes
aged_classed : (now : ℕ) (n : Node) → Classed n → Classed (aged now n)
unfolding aged aged_pending staying aged_entry with_requests
aged_classed now n k = record { routes = k.routes; pending = all_only _ (all_map (aged_entry now) k.pending) }

module _ (faces now : ℕ) (n : Node) (k : Classed n) where
  -- an Interest that opens an entry: the class is that of its route
  opened_classed : (a : Arrival) (r : Route) (h : ℕ) (name : List ℕ) → longest name n.routes ≡ some r
      → Classed (opens_entry now n a r.cls h).node
  unfolding opens_entry new_entry
  opened_classed a r h name e =
      record { routes = k.routes; pending = all_snoc k.pending (all_in k.routes (longest_in name n.routes r e)) }

  -- an Interest whose entry is there
  again_classed : (a : Arrival) (i : ℕ) (e : Entry) (x : Option ℕ) → at_place i n.pending ≡ some e
      → All (λ e. is_class e.cls ≡ true) (on_at i (λ _. sent_on now a x (with_request now a e)) n.pending)
  unfolding given asking sending with_requests with_sent
  again_classed a i e none q = all_on_at i _ (λ y c. all_in k.pending (entry_in i n.pending e q)) k.pending
  again_classed a i e (some h) q = all_on_at i _ (λ y c. all_in k.pending (entry_in i n.pending e q)) k.pending

  -- a Nack
  marked_classed : (i f r : ℕ) (e : Entry) → at_place i n.pending ≡ some e
      → All (λ x. is_class x.cls ≡ true) (on_at i (λ _. with_nack f r e) n.pending)
  unfolding with_nack with_sent
  marked_classed i f r e q = all_on_at i _ (λ y c. all_in k.pending (entry_in i n.pending e q)) k.pending

  -- a Nack that ends requests
  nacked_classed : (i f r : ℕ) (e : Entry) → at_place i n.pending ≡ some e → Classed (ends_by_nack now n i (with_nack f r e)).node
  unfolding ends_by_nack settled becoming ending with_nack with_requests with_sent
  nacked_classed i f r e q = record {
    routes = k.routes;
    pending =
        pick_ind (All (λ x. is_class x.cls ≡ true)) _ _ _ (λ _. all_without i k.pending)
        (λ _. all_on_at i _ (λ y c. all_in k.pending (entry_in i n.pending e q)) k.pending);
  }

  -- a face closed
  closed_classed : (f : ℕ) → Classed (close_step now n f).node
  unfolding close_step with_hop staying not_asking not_sent with_requests with_sent
  closed_classed f = record {
    routes = all_map (with_hop f none) k.routes;
    pending = all_only _ (all_map (without_face f) k.pending);
  }

  -- whatever an event comes to past the first three checks
  past_classed : (w : What) (o : Outcome) → Past faces now n w o → Classed o.node
  unfolding quiet nack_for served asks_again renews sends_on satisfies with_class new_route with_hop
  past_classed w o (case.unread f a j) = k
  past_classed w o (case.refused f a d) = k
  past_classed w o (case.turned_away v a d) = k
  past_classed w o case.ticked = k
  past_classed w o (case.nacked_back f q a reason j) = k
  past_classed w o (case.served_from f q h found absent) = record { routes = k.routes; pending = k.pending }
  past_classed w o (case.opened f q r h a b c d) = opened_classed (arrival f q) r h _ b
  past_classed w o (case.joined f q x a) = record { routes = k.routes; pending = again_classed (arrival f q) _ x _ a }
  past_classed w o (case.satisfied f q a) = record { routes = k.routes; pending = all_only _ k.pending }
  past_classed w o (case.marked f q x a j z) = record { routes = k.routes; pending = marked_classed _ f q.reason x a }
  past_classed w o (case.nacked_on f q x a j z) = nacked_classed _ f q.reason x a
  past_classed w o (case.opens_face f scope link a) = record { routes = k.routes; pending = k.pending }
  past_classed w o (case.closes_face f) = closed_classed f
  past_classed w o (case.sets_class c p a b) =
      record { routes = all_on_at _ (with_class (class_of c)) (λ r _. a) k.routes; pending = k.pending }
  past_classed w o (case.adds_route c p h a b d) = record { routes = all_snoc k.routes a; pending = k.pending }
  past_classed w o (case.drops_route p a) = record { routes = all_without _ k.routes; pending = k.pending }
  past_classed w o (case.adds_hop f cost p a b) =
      record { routes = all_on_at _ (with_hop f (some cost)) (λ r c. c) k.routes; pending = k.pending }
  past_classed w o (case.drops_hop f p a) = record { routes = all_on_at _ (with_hop f none) (λ r c. c) k.routes; pending = k.pending }

-- ---- the class of a prefix

-- each route has the class of its own prefix
own_class : {rs : List Route} → Apart OtherRoute rs → All (λ r. class_at r.name rs ≡ some r.cls) rs
unfolding class_at pick
own_class alone = nothing
own_class (among {a = r} {l = rs} d h) =
    let first : class_at r.name (r ∷ rs) ≡ some r.cls = rw (same_refl r.name) in
    both first
    (all_mono (λ x k. rw (differs x.name r.name (λ z. k.0 (sym z))) k.1) (all_and d (own_class h)))

module _ (faces least : ℕ) where
  -- whatever an event comes to, the classes are among the three
  class_case : (e : Event) (n : Node) (o : Outcome) → Becomes faces least e n o → Classed n → Classed o.node
  unfolding quiet after_ageing
  class_case e n o (ignored a d) k = k
  class_case e n o (taken p t f b) k = past_classed faces e.time (aged e.time n) (aged_classed e.time n k) e.what p b

  -- events one after the other keep the classes among the three
  run_keeps : (es : List Event) (n : Node) → Classed n → Classed (run (step faces least) es n)
  unfolding run
  run_keeps [] n k = k
  run_keeps (e ∷ es) n k = run_keeps es (step faces least e n).node (class_case e n (step faces least e n) (becomes faces least e n) k)

  -- start from an empty node and take any events: the class of each route and of each pending entry is alarm, monitoring or bulk
  pub run_classed : (es : List Event) → Classed (reached faces (step faces least) es)
  unfolding empty_node
  run_classed es = run_keeps es (empty_node faces) (record { routes = nothing; pending = nothing })

  -- start from an empty node and take any events: a prefix has a route exactly if an accepted event set one and none dropped it since, and
  -- that route's class is the one last given. This does not say that the class is the right one: that is for who gives it
  pub last_class_lem : (p : List ℕ) (es : List Event)
      → class_at p (reached faces (step faces least) es).routes ≡ last_class (step faces least) p es (empty_node faces) none
  last_class_lem p es = (set_up_lem faces least es).classes p

  -- so each route has the class that was last given to its prefix
  pub route_class_lem : (es : List Event)
      → All (λ r. last_class (step faces least) r.name es (empty_node faces) none ≡ some r.cls) (reached faces (step faces least) es).routes
  route_class_lem es = all_mono (λ r e. sym (last_class_lem r.name es) ∙ e) (own_class (run_shaped faces least es).routes.apart)
