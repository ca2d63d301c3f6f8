-- Where an Interest is sent: to an eligible hop of the longest matching route.
-- Assumes nothing.
use Rattle.std.specs.Prelude.{ℕ, ◌≤◌, ◌≡◌, refl, Bool, true, ◌&&◌, not}
use Rattle.std.proofs.Common.{◌∙◌}
use Rattle.std.proofs.Math.Option.{Option, none, some}
use Rattle.laws.specs.Laws.Pick.{pick_ind}
use Rattle.names.specs.Laws.Same.{both}
use Rattle.records.specs.Slots.{slot, is_some, or_else, given}
use Rattle.records.specs.Route.{Route, longest, cheapest_of}
use Rattle.records.specs.Entry.{Entry, earliest_of}
use Rattle.rules.specs.Node.{Node}
use Rattle.rules.specs.Interest.{Arrival, eligible, from_local_face, next_hop, resends}
use Rattle.history.specs.Laws.Every.{not_none}
use Rattle.history.specs.Laws.Holding.{slot_low, least_face_lem}

-- a hop that an Interest may take: its face is 1 or more, and eligible
pub record MayTake (n : Node) (a : Arrival) (l : Bool) (f : ℕ) : Type 0 where
  pub face : 1 ≤ f
  pub fit : eligible n a l f ≡ true

-- the cheapest eligible hop is such
pub cheapest_may : (n : Node) (a : Arrival) (l : Bool) (r : Route) (f : ℕ) → cheapest_of (eligible n a l) r ≡ some f → MayTake n a l f
unfolding cheapest_of
cheapest_may n a l r f e =
    let h = least_face_lem (λ c. c) (eligible n a l) r.hops f e in record { face = slot_low f r.hops h.1.0 h.1.1; fit = h.0 }

-- the next hop for an entry is such
next_may : (n : Node) (a : Arrival) (l : Bool) (e : Entry) (r : Route) (f : ℕ) → next_hop (eligible n a l) e r ≡ some f → MayTake n a l f
unfolding next_hop or_else cheapest_of earliest_of
next_may n a l e r f q = go (cheapest_of (λ f. eligible n a l f && not (is_some (slot f e.sent))) r) refl q
  where
    first : cheapest_of (λ f. eligible n a l f && not (is_some (slot f e.sent))) r ≡ some f → MayTake n a l f
    first w =
        let h = least_face_lem (λ c. c) (λ f. eligible n a l f && not (is_some (slot f e.sent))) r.hops f w in
        record { face = slot_low f r.hops h.1.0 h.1.1; fit = (both (eligible n a l f) _ h.0).0 }

    second : earliest_of (λ f. eligible n a l f && is_some (slot f r.hops)) e ≡ some f → MayTake n a l f
    second w =
        let h = least_face_lem (λ s. s.time) (λ f. eligible n a l f && is_some (slot f r.hops)) e.sent f w in
        record { face = slot_low f e.sent h.1.0 h.1.1; fit = (both (eligible n a l f) _ h.0).0 }

    go : (x : Option ℕ) → cheapest_of (λ f. eligible n a l f && not (is_some (slot f e.sent))) r ≡ x
        → or_else x (earliest_of (λ f. eligible n a l f && is_some (slot f r.hops)) e) ≡ some f → MayTake n a l f
    go none w v = second v
    go (some h) w v = first (w ∙ v)

-- a further Interest is sent to an eligible hop of the longest route
pub resends_may : (now : ℕ) (n : Node) (a : Arrival) (e : Entry) (k : ℕ) → resends now n a e ≡ some k → MayTake n a (from_local_face n e) k
unfolding resends given
resends_may now n a e k =
    pick_ind (λ (x : Option ℕ). x ≡ some k → MayTake n a (from_local_face n e) k) _ _ _ (λ _ q. not_none q)
    (λ _ q. go (longest a.ask.name n.routes) q)
  where
    go : (x : Option Route) → given none (next_hop (eligible n a (from_local_face n e)) e) x ≡ some k → MayTake n a (from_local_face n e) k
    go none q = not_none q
    go (some r) q = next_may n a (from_local_face n e) e r k q
