-- What the answer of the search for a hop says: 0 that there is none, any other number its face.
-- Assumes nothing.
use Rattle.std.specs.Prelude.{ℕ, suc, ◌≤◌, ◌≡◌, refl, Bool, false, ◌&&◌, not, ltb, eqb}
use Rattle.std.proofs.Common.{sym, ap, ◌∙◌, arith, eq-eqb, ne_eqb}
use mathlib.Core.List.{List, [], ◌∷◌}
use Rattle.std.proofs.Math.Option.{Option, none, some, none-ne-some, some-injective}
use Rattle.laws.specs.Pick.{pick}
use Rattle.laws.specs.Laws.Pick.{pick_ind, pick_yes, pick_no}
use Rattle.records.specs.Slots.{Held, given, or_else, held, held_from, only, less_by, least_by, least_face, slot, is_some}
use Rattle.records.specs.Route.{Route, longest, cheapest_of}
use Rattle.records.specs.Entry.{Entry, earliest_of, is_suppressed}
use Rattle.rules.specs.Node.{Node}
use Rattle.rules.specs.Interest.{Arrival, eligible, from_local_face, next_hop, resends}

-- nothing that an option holds has a face below f
abbrev Low : {A : Type 0} → ℕ → Option (Held A) → Type 0
Low f o = (h : Held _) → o ≡ some h → f ≤ h.face

module _ {A : Type 0} (by : Held A → ℕ) where
  -- the lesser of two that have no face below f has none
  low_less : (f : ℕ) (x : Held A) (o : Option (Held A)) → f ≤ x.face → Low f o → Low f (less_by by x o)
  unfolding less_by
  low_less f x none l g = (λ h e. rw (← (some-injective x h e)) l)
  low_less f x (some k) l g =
      pick_ind (Low f) (ltb (by k) (by x)) (some k) (some x) (λ _. g) (λ _ h e. rw (← (some-injective x h e)) l)

  -- what measures least of those kept from face f on has no face below f
  low_least : (p : Held A → Bool) (f : ℕ) (l : List (Option A)) → Low f (least_by by (only p (held_from f l)))
  unfolding least_by only held_from
  low_least p f [] = (λ h e. absurd (none-ne-some h e))
  low_least p f (none ∷ l) = (λ h e. omega (arith, low_least p (suc f) l h e))
  low_least p f (some a ∷ l) =
      let x : Held A = record { face = f; what = a } in
      let rest : Low f (least_by by (only p (held_from (suc f) l))) = (λ h e. omega (arith, low_least p (suc f) l h e)) in
      pick_ind (λ (k : List (Held A)). Low f (least_by by k)) (p x) _ _ (λ _. low_less f x _ (omega arith) rest) (λ _. rest)

-- a hop that is found is a face
abbrev Found : Option ℕ → Type 0
Found o = (f : ℕ) → o ≡ some f → 1 ≤ f

-- the face for which the least is kept
least_found : {A : Type 0} (by : A → ℕ) (p : ℕ → Bool) (l : List (Option A)) → Found (least_face by p l)
unfolding least_face held given
least_found {A} by p l =
    go (least_by (λ h. by h.what) (only (λ h. p h.face) (held_from 1 l))) (low_least (λ h. by h.what) (λ h. p h.face) 1 l)
  where
    go : (q : Option (Held A)) → Low 1 q → Found (given none (λ h. some h.face) q)
    go none k = (λ f e. absurd (none-ne-some f e))
    go (some h) k = (λ f e. rw (← (some-injective h.face f e)) (k h refl))

-- the next hop in a route
next_found : (p : ℕ → Bool) (e : Entry) (r : Route) → Found (next_hop p e r)
unfolding next_hop or_else cheapest_of earliest_of
next_found p e r =
    go (least_face (λ c. c) (λ f. p f && not (is_some (slot f e.sent))) r.hops)
    (least_found (λ c. c) (λ f. p f && not (is_some (slot f e.sent))) r.hops)
  where
    late : Option ℕ
    late = least_face (λ s. s.time) (λ f. p f && is_some (slot f r.hops)) e.sent

    go : (o : Option ℕ) → Found o → Found (or_else o late)
    go none k = least_found (λ s. s.time) (λ f. p f && is_some (slot f r.hops)) e.sent
    go (some g) k = k

-- the hop that a further Interest takes
resends_found : (t : ℕ) (n : Node) (a : Arrival) (e : Entry) → Found (resends t n a e)
unfolding resends given
resends_found t n a e =
    pick_ind Found (is_suppressed t e) none _ (λ _ f q. absurd (none-ne-some f q)) (λ _. go (longest a.ask.name n.routes))
  where
    go : (o : Option Route) → Found (given none (next_hop (eligible n a (from_local_face n e)) e) o)
    go none = (λ f q. absurd (none-ne-some f q))
    go (some r) = next_found (eligible n a (from_local_face n e)) e r

-- the answer 0 says that no hop is taken, and any other is the hop's face
pub resends_said : (t : ℕ) (n : Node) (a : Arrival) (e : Entry) (f : ℕ) → f ≡ given 0 (λ g. g) (resends t n a e)
    → resends t n a e ≡ pick (eqb f 0) none (some f)
unfolding given
resends_said t n a e f = go (resends t n a e) (resends_found t n a e)
  where
    go : (o : Option ℕ) → Found o → f ≡ given 0 (λ g. g) o → o ≡ pick (eqb f 0) none (some f)
    go none k q = sym (pick_yes _ _ _ (eq-eqb f 0 q))
    go (some g) k q =
        let z : eqb f 0 ≡ false = ne_eqb f 0 (λ w. omega (arith, k g refl)) in
        ap some (sym q) ∙ sym (pick_no _ none (some f) z)
