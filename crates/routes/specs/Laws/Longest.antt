-- The longest matching route, and a search for it from the last route down.
-- Assumes nothing.
use Rattle.std.specs.Prelude.{ℕ, zero, suc, ◌+◌, ◌-◌, ◌≤◌, ◌<◌, ◌≡◌, Bool, ◌&&◌, not, List, [], ◌∷◌, length, drop, ltb, MatchOption, Some, None}
use Rattle.std.specs.declared.option.Option as code
use Rattle.std.proofs.Math.Path.{refl}
use Rattle.std.proofs.Common.{sym, arith, ◌∙◌}
use Rattle.std.proofs.Math.Bool.{true, false, and-false}
use Rattle.std.proofs.Math.Option.{Option, none, some}
use Rattle.std.proofs.Math.Dec.{leb}
use borrow.Author.Tests.{ltb-true, ltb-false, le-leb, lt-leb}
use Rattle.laws.specs.Pick.{pick}
use Rattle.names.specs.Name.{prefix_of}
use Rattle.records.specs.Slots.{given, at_place}
use Rattle.records.specs.Route.{Route, longer, longest}
use Rattle.routes.specs.Places.Longest.{reach, place_or}
use Rattle.routes.specs.declared.Routes.{Routes}
use Rattle.routes.specs.declared.Handle.{Handle}
use Rattle.routes.specs.Places.View.{view, placed, place_is}
use Rattle.routes.specs.Operations.{is_longest, longest_at}

-- a route is the longest where what was found after it reaches no further
longest_reach : (r : Route) (o : Option Route) → is_longest r o ≡ leb (reach o) (length r.name)
unfolding is_longest reach given
longest_reach r none = sym (le-leb 0 (length r.name) (omega arith))
longest_reach r (some q) = go (ltb (length r.name) (length q.name)) refl
  where
    go : (b : Bool) → ltb (length r.name) (length q.name) ≡ b → not b ≡ leb (length q.name) (length r.name)
    go true e = sym (lt-leb (length q.name) (length r.name) (ltb-true _ _ e))
    go false e = sym (le-leb (length q.name) (length r.name) (ltb-false _ _ e))

module _ (name : List ℕ) (r : Route) (rs : List Route) where
  -- whether a route matches, and is the longest of those from it on
  unfoldable is_best : Bool
  is_best = prefix_of r.name name && is_longest r (longest name rs)

  -- the longest matching route by one test
  longest_test : longest name (r ∷ rs) ≡ pick is_best (some r) (longest name rs)
  unfolding longest longer is_longest is_best pick
  longest_test = go (prefix_of r.name name) (longest name rs)
    where
      go : (b : Bool) (o : Option Route) → pick b (longer r o) o ≡ pick (b && is_longest r o) (some r) o
      go true none = refl
      go true (some q) = swap (ltb (length r.name) (length q.name))
        where
          swap : (b : Bool) → pick b (some q) (some r) ≡ pick (not b) (some r) (some q)
          swap true = refl
          swap false = refl
      go false o = refl

  -- the place of the longest matching route by the same test
  place_test : longest_at name (r ∷ rs) ≡ pick is_best 0 (suc (longest_at name rs))
  unfolding longest_at is_best
  place_test = refl

-- the route at the place of the longest is that of the rules
pub longest_place : (name : List ℕ) (rs : List Route) → at_place (longest_at name rs) rs ≡ longest name rs
unfolding longest_at longest at_place pick
longest_place name [] = refl
longest_place name (r ∷ rs) =
    rw (longest_test name r rs, place_test name r rs) (go (is_best name r rs) (longest_at name rs) (longest_place name rs))
  where
    go : (b : Bool) (i : ℕ) → at_place i rs ≡ longest name rs → at_place (pick b 0 (suc i)) (r ∷ rs) ≡ pick b (some r) (longest name rs)
    go true i e = refl
    go false i e = e

-- what a search from the last route down has found where it has come to place i: the place of the longest, and its prefix's length
pub record Best (name : List ℕ) (all : List Route) (i best most : ℕ) : Type 0 where
  pub place : best ≡ i + longest_at name (drop i all)
  pub size : most ≡ reach (longest name (drop i all))

-- past the last route nothing is found
pub best_none : (name : List ℕ) (all : List Route) (i : ℕ) → drop i all ≡ [] → Best name all i i 0
unfolding longest_at longest reach given
best_none name all i e = record { place = rw e (omega arith); size = rw e }

-- at the first route all is found
pub best_all : (name : List ℕ) (all : List Route) (i best most : ℕ) → Best name all i best most → i ≤ 0 → best ≡ longest_at name all
best_all name all zero best most b h = omega (arith, b.place)
best_all name all (suc i) best most b h = absurd (omega arith)

module _ (name : List ℕ) (all : List Route) (i best most : ℕ) (r : Route) (q : List ℕ) (p : 0 < i)
    (here : drop (i - 1) all ≡ r ∷ drop (i - 1 + 1) all) (named : q ≡ r.name) (b : Best name all i best most) where
  -- the route before place i, and those from there on
  before_here : drop (i - 1) all ≡ r ∷ drop i all
  before_here = let e : i - 1 + 1 ≡ i = omega arith in rw e at here

  -- the test in the words of the search
  best_test : is_best name r (drop i all) ≡ prefix_of q name && leb most (length q)
  unfolding is_best
  best_test = rw (longest_reach r (longest name (drop i all)), b.size, named)

  -- the place that is found by the test
  best_place : longest_at name (drop (i - 1) all) ≡ pick (prefix_of q name && leb most (length q)) 0 (suc (longest_at name (drop i all)))
  best_place = rw (before_here, ← best_test) (place_test name r (drop i all))

  -- the route that is found by the test
  best_route : longest name (drop (i - 1) all) ≡ pick (prefix_of q name && leb most (length q)) (some r) (longest name (drop i all))
  best_route = rw (before_here, ← best_test) (longest_test name r (drop i all))

  -- a route that matches and is no shorter than what was found is the longest
  pub best_here : most ≤ length q → prefix_of q name ≡ true → Best name all (i - 1) (i - 1) (length q)
  unfolding reach given pick
  best_here h m =
      let t : prefix_of q name && leb most (length q) ≡ true = rw (m, le-leb most (length q) h) in
      record { place = rw (best_place, t) (omega arith); size = rw (best_route, t, named) }

  -- any other route leaves what was found
  best_other : prefix_of q name && leb most (length q) ≡ false → Best name all (i - 1) best most
  unfolding pick
  best_other t = record { place = rw (best_place, t) (omega (arith, b.place)); size = rw (best_route, t) b.size }

  -- a route that is shorter
  pub best_short : length q < most → Best name all (i - 1) best most
  best_short h = best_other (rw (lt-leb most (length q) h) (and-false (prefix_of q name)))

  -- a route that does not match
  pub best_apart : prefix_of q name ≡ false → Best name all (i - 1) best most
  best_apart m = best_other (rw m)

-- what a search down to the first route has found, as code gives it
pub best_found : (t : Routes) (name : List ℕ) (i n most : ℕ) (o : code.Option Handle)
    → Best name (view t) i (place_or n o) most → i ≤ 0 → n ≡ length (view t) → MatchOption o (Unit {0}) (λ h. h.at < n)
    → MatchOption o (longest_at name (view t) ≡ length (view t))
    (λ h. (placed t h ≡ longest_at name (view t)) × (placed t h < length (view t)))
unfolding place_or
best_found t name i n most None b z e m = omega (arith, best_all name (view t) i n most b z, e)
best_found t name i n most (Some h) b z e m =
    let p = place_is t h in
    (p ∙ best_all name (view t) i h.at most b z, omega (arith, p, m, e))
