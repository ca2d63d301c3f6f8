-- What the events need of the routes: the cheapest hop by any test and what its answer says, whether a handle stands for a
-- route, and setting a route in the order in which the rules ask.
-- Assumes nothing.
use Rattle.std.specs.Prelude.{ℕ, zero, suc, ◌≤◌, ◌≡◌, Bool, ◌||◌, length, eqb}
use Rattle.std.proofs.Math.Path.{refl, sym}
use Rattle.std.proofs.Common.{ap, ◌∙◌, arith}
use Rattle.std.proofs.Math.Bool.{true, false, not}
use mathlib.Core.List.{List, [], ◌∷◌, ◌++◌}
use Rattle.std.proofs.Math.Option.{Option, none, some, none-ne-some, some-injective}
use Rattle.std.proofs.Math.Dec.{ltb, leb, leb-suc-suc}
use borrow.Author.Tests.{lt-ltb, le-ltb, le-leb, leb-true, leb-false, ne_eqb}
use Rattle.sizes.specs.Sizes.{most_name, most_routes}
use Rattle.laws.specs.Pick.{pick}
use Rattle.laws.specs.Laws.Pick.{pick_ind, pick_yes, pick_no}
use Rattle.laws.specs.Lists.{on_at}
use Rattle.faces.specs.Set.{has_face, faces_where}
use Rattle.faces.specs.Laws.Least.{least_where}
use Rattle.records.specs.Slots.{Held, given, at_place, is_some, held, held_from, only, less_by, least_by, least_face}
use Rattle.records.specs.Class.{Class, class_of}
use Rattle.records.specs.Route.{Route, route_of, with_class, new_route, longest, cheapest_of}
use Rattle.routes.specs.declared.Routes.{Routes}
use Rattle.routes.specs.Places.View.{view_for, view_hops, view_class}
use Rattle.routes.specs.Operations.{is_route, has_room, with_route, longest_at, class_word}
use Rattle.routes.specs.Laws.Longest.{longest_place}

module _ (n : ℕ) (p : ℕ → Bool) where
  -- the cheapest hop in the set of the faces that p holds of is the cheapest that p holds of
  pub cheapest_where : (r : Route) → length r.hops ≡ n → cheapest_of (has_face n (faces_where n p)) r ≡ cheapest_of p r
  unfolding cheapest_of
  cheapest_where r e = least_where n p (λ (c : ℕ). c) r.hops e

  module _ (t : Routes) where
    -- the same for the route at a place
    pub place_cheapest : (i : ℕ)
        → given none (cheapest_of (has_face n (faces_where n p))) (at_place i (view_for n t))
        ≡ given none (cheapest_of p) (at_place i (view_for n t))
    unfolding given
    place_cheapest i = go (at_place i (view_for n t)) refl
      where
        go : (o : Option Route) → at_place i (view_for n t) ≡ o
            → given none (cheapest_of (has_face n (faces_where n p))) o ≡ given none (cheapest_of p) o
        go none e = refl
        go (some r) e = cheapest_where r (view_hops n t i r e)

    -- and for the longest matching route, where it was found
    pub longest_cheapest : (name : List ℕ)
        → given none (cheapest_of (has_face n (faces_where n p)))
        (at_place (longest_at name (view_for n t)) (view_for n t))
        ≡ given none (cheapest_of p) (longest name (view_for n t))
    longest_cheapest name =
        place_cheapest (longest_at name (view_for n t))
        ∙ ap (given none (cheapest_of p)) (longest_place name (view_for n t))

module _ (n : ℕ) (t : Routes) where
  -- the class word of the longest matching route says its class
  pub longest_class : (name : List ℕ) (r : Route) → longest name (view_for n t) ≡ some r → class_of (class_word r) ≡ r.cls
  unfolding class_word
  longest_class name r e = view_class n t _ r (longest_place name (view_for n t) ∙ e)

-- there is an element at a place exactly where the place is below the length: a prefix that is found is known
pub there_less : {A : Type 0} (i : ℕ) (l : List A) → is_some (at_place i l) ≡ ltb i (length l)
unfolding at_place is_some
there_less i [] = sym (le-ltb i 0 (omega arith))
there_less zero (a ∷ l) = sym (lt-ltb 0 (suc (length l)) (omega arith))
there_less (suc i) (a ∷ l) = there_less i l ∙ sym (leb-suc-suc (suc i) (length l))

-- nothing that an option holds has a face below f
abbrev Low : {A : Type 0} → ℕ → Option (Held A) → Type 0
Low f o = (h : Held _) → o ≡ some h → f ≤ h.face

module _ {A : Type 0} (by : Held A → ℕ) where
  -- the lesser of two that have no face below f has none
  low_less : (f : ℕ) (x : Held A) (o : Option (Held A)) → f ≤ x.face → Low f o → Low f (less_by by x o)
  unfolding less_by
  low_less f x none l g = (λ h e. rw (← (some-injective x h e)) l)
  low_less f x (some k) l g =
      pick_ind (Low f) (ltb (by k) (by x)) (some k) (some x) (λ _. g) (λ _ h e. rw (← (some-injective x h e)) l)

  -- what measures least of those kept from face f on has no face below f
  low_least : (p : Held A → Bool) (f : ℕ) (l : List (Option A)) → Low f (least_by by (only p (held_from f l)))
  unfolding least_by only held_from
  low_least p f [] = (λ h e. absurd (none-ne-some h e))
  low_least p f (none ∷ l) = (λ h e. omega (arith, low_least p (suc f) l h e))
  low_least p f (some a ∷ l) =
      let x : Held A = record { face = f; what = a } in
      let rest : Low f (least_by by (only p (held_from (suc f) l))) = (λ h e. omega (arith, low_least p (suc f) l h e)) in
      pick_ind (λ (k : List (Held A)). Low f (least_by by k)) (p x) _ _ (λ _. low_less f x _ (omega arith) rest) (λ _. rest)

-- a number that is the hop, or 0 where there is none: 0 says that there is none, any other is the hop's face
pub cheapest_said : (p : ℕ → Bool) (o : Option Route) (f : ℕ) → f ≡ given 0 (λ g. g) (given none (cheapest_of p) o)
    → given none (cheapest_of p) o ≡ pick (eqb f 0) none (some f)
unfolding given cheapest_of least_face held pick
cheapest_said p none f e = rw e
cheapest_said p (some r) f e =
    go (least_by (λ h. h.what) (only (λ h. p h.face) (held_from 1 r.hops))) (low_least (λ h. h.what) (λ h. p h.face) 1 r.hops) e
  where
    go : (q : Option (Held ℕ)) → Low 1 q → f ≡ given 0 (λ g. g) (given none (λ h. some h.face) q)
        → given none (λ h. some h.face) q ≡ pick (eqb f 0) none (some f)
    go none l e = rw e
    go (some h) l e =
        let k : f ≡ h.face = e in
        let z : eqb f 0 ≡ false = ne_eqb f 0 (λ q. omega (arith, l h refl)) in
        rw (z, k)

module _ (p : List ℕ) (rs : List Route) (h : length p ≤ most_name) where
  -- for a prefix that fits a row there is room exactly where the table is not full
  room_left : has_room p rs ≡ not (leb most_routes (length rs))
  unfolding has_room
  room_left = rw (le-leb (length p) most_name h) (go (leb most_routes (length rs)) refl)
    where
      go : (b : Bool) → leb most_routes (length rs) ≡ b → ltb (length rs) most_routes ≡ not b
      go true e = le-ltb (length rs) most_routes (leb-true most_routes (length rs) e)
      go false e = lt-ltb (length rs) most_routes (leb-false most_routes (length rs) e)

  -- what setting a route says, in the order in which the rules ask
  pub set_said : (is_route p rs || has_room p rs) ≡ (is_route p rs || not (leb most_routes (length rs)))
  set_said = rw room_left

  -- the routes that it leaves, in the same order
  pub set_left : (n : ℕ) (c : Class)
      → with_route n p c rs
      ≡ pick (is_route p rs) (on_at (route_of p rs) (with_class c) rs)
      (pick (leb most_routes (length rs)) rs (rs ++ (new_route n p c ∷ [])))
  unfolding with_route
  set_left n c = rw room_left (ap (pick (is_route p rs) (on_at (route_of p rs) (with_class c) rs)) (swap (leb most_routes (length rs))))
    where
      swap : (b : Bool) → pick (not b) (rs ++ (new_route n p c ∷ [])) rs ≡ pick b rs (rs ++ (new_route n p c ∷ []))
      swap true = pick_no _ _ _ refl ∙ sym (pick_yes _ _ _ refl)
      swap false = pick_yes _ _ _ refl ∙ sym (pick_no _ _ _ refl)
