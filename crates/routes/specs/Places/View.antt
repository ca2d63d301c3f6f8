-- The routes as the rules have them, in the order in which they were set. No other file can open `view_for`, `count_of` and `place`, so
-- their laws stand here.
-- Assumes nothing.
use Prim.Native.Nat.{ℕ, ◌+◌, ◌-◌, ◌≤◌, ◌<◌, min}
use Rattle.std.specs.Prelude.{◌≡◌, Bool, ◌≢◌, set, take, drop, ltb, MatchOption, Some, None}
use Rattle.std.specs.declared.option.Option as code
use Rattle.std.proofs.Math.Path.{refl, sym, ap}
use Rattle.std.proofs.Common.{◌∙◌, drop_of_length-le, drop-cons, lt-ltb, le-ltb, map}
use Rattle.std.proofs.Math.Bool.{true, false}
use mathlib.Core.List.{List, [], ◌∷◌, ◌++◌}
use Rattle.std.proofs.Math.Option.{Option, none, some, none-ne-some, some-injective}
use native.Mathlib.Omega.{arith}
use Rattle.std.proofs.Math.Nat.{zero-add}
use Rattle.std.proofs.Math.Numerals.{add-one}
use Rattle.std.proofs.Math.ListN.{length, get_or}
use Rattle.std.proofs.Math.Seq.{get_or-set_same, get_or-set_other}
use Rattle.sizes.specs.Sizes.{most_faces, most_routes}
use Rattle.laws.specs.Pick.{pick}
use Rattle.laws.specs.Laws.Pick.{pick_yes, pick_no}
use Rattle.laws.specs.Places.Loop.{first}
use Rattle.laws.specs.Places.Tab.{tab}
use Rattle.laws.specs.Lists.{on_at, without, index_of}
use Rattle.laws.specs.Laws.Tab.{length_tab, get_d_tab, tab_ext, tab_snoc, tab_at, tab_without, first_tab, map_tab}
use Rattle.faces.specs.Slots.{slots_of}
use Rattle.faces.specs.Laws.Slot.{slots_length}
use Rattle.records.specs.Class.{class_of, class_number}
use Rattle.records.specs.Laws.Class.{class_number_lem}
use Rattle.records.specs.Slots.{at_place, is_some}
use Rattle.records.specs.Laws.Place.{at_place_tab}
use Rattle.records.specs.Route.{Route}
pub use Rattle.rows.specs.Places.Moved.{Moved}
use Rattle.routes.specs.declared.Row.{Row}
use Rattle.routes.specs.declared.Count.{Count}
use Rattle.routes.specs.declared.Routes.{Routes}
use Rattle.routes.specs.declared.Handle.{Handle}

-- the route that the bytes of a prefix, a row and its costs mean, for n faces
unfoldable pub route_row : ℕ → List ℕ → Row → List ℕ → Route
route_row n name r costs = record {
  name = take r.len name;
  cls = class_of r.class;
  hops = slots_of n r.hops (λ i. get_or costs i 0);
}

-- a row where there is none
abbrev pub no_row : Row
no_row = record { len = 0; class = 0; hops = 0 }

-- the route at a place
unfoldable pub route_at : ℕ → Routes → ℕ → Route
route_at n t i = route_row n (get_or t.prefixes i []) (get_or t.rows i no_row) (get_or t.costs i [])

-- the routes of a node that has n faces; a count past the table's size is the size
pub view_for : ℕ → Routes → List Route
view_for n t = tab (route_at n t) 0 (min t.count.count most_routes)

-- the routes of a node
abbrev pub view : Routes → List Route
view t = view_for most_faces t

-- how many routes a table counts
pub count_of : Routes → ℕ
count_of t = t.count.count

-- the place among the routes that a handle stands for
pub place : Routes → Handle → ℕ
place t h = h.at

abbrev pub placed : Routes → Handle → ℕ
placed = place

-- the place that code found, if it found one
pub place_in : Routes → code.Option Handle → Option ℕ
place_in t None = none
place_in t (Some h) = some (placed t h)

-- the route that a handle stands for, if there is one
abbrev pub found : Routes → Handle → Option Route
found t h = at_place (placed t h) (view t)

-- what code found is the route at place i; it found none where that is the number of the routes
abbrev pub Finds : Routes → ℕ → code.Option Handle → Type 0
Finds t i o = MatchOption o (i ≡ length (view t)) (λ h. (placed t h ≡ i) × (placed t h < length (view t)))

-- no routes counted are none, whatever the memory holds
pub view_empty : (n : ℕ) (t : Routes) → t.count.count ≡ 0 → view_for n t ≡ []
unfolding view_for tab
view_empty n t e = let z : min t.count.count most_routes ≡ 0 = omega arith in rw z

module _ (t : Routes) where
  -- a table counts the routes that it says
  pub count_is : count_of t ≡ t.count.count
  unfolding count_of
  count_is = refl

  -- no routes counted are counted as none
  pub count_empty : t.count.count ≡ 0 → count_of t ≡ 0
  count_empty e = count_is ∙ e

  -- a handle stands for the place that it has
  pub place_is : (h : Handle) → place t h ≡ h.at
  unfolding place
  place_is h = refl

  -- handles that stand for one place are one handle
  pub place_one : (h k : Handle) → place t h ≡ place t k → h ≡ k
  unfolding place
  place_one h k e = ap (λ (i : ℕ). record { at = i }) e

-- tables that count as many routes have one count
pub count_one : (t u : Routes) → count_of t ≡ count_of u → t.count ≡ u.count
unfolding count_of
count_one t u e = ap (λ (k : ℕ). record { count = k }) e

-- what was found is one place, or none
pub place_found : (t : Routes) (i : ℕ) (o : code.Option Handle) → Finds t i o
    → place_in t o ≡ pick (ltb i (length (view t))) (some i) none
unfolding place_in
place_found t i None e = sym (pick_no _ _ _ (le-ltb i (length (view t)) (omega (arith, e))))
place_found t i (Some h) e = ap some (e.0) ∙ sym (pick_yes _ _ _ (lt-ltb i (length (view t)) (omega (arith, e.0, e.1))))

-- two that were found at one place are one
pub found_one : (t : Routes) (x y : code.Option Handle) → place_in t x ≡ place_in t y → x ≡ y
unfolding place_in
found_one t None None e = refl
found_one t None (Some k) e = absurd (none-ne-some _ e)
found_one t (Some h) None e = absurd (none-ne-some _ (sym e))
found_one t (Some h) (Some k) e = ap (λ (j : Handle). Some j) (place_one t h k (some-injective _ _ e))

module _ (n : ℕ) (t : Routes) where
  -- there are as many routes as are counted, at most most_routes
  pub view_length : length (view_for n t) ≡ min t.count.count most_routes
  unfolding view_for
  view_length = length_tab (route_at n t) 0 (min t.count.count most_routes)

  -- a count that is cut at the table's size counts the same routes
  pub view_cut : (c : ℕ) → c ≡ min t.count.count most_routes → view_for n (record t { count = record { count = c } }) ≡ view_for n t
  unfolding view_for route_at
  view_cut c q = let e : min c most_routes ≡ min t.count.count most_routes = omega arith in rw e

  -- a count that is at most the table's size is the number of its routes
  pub view_count : t.count.count ≤ most_routes → count_of t ≡ length (view_for n t)
  view_count h = count_is t ∙ omega (arith, view_length)

  -- what holds of the route that any row means holds of the route at a place
  view_each : (P : Route → Type 0) → ((k : ℕ) → P (route_at n t k)) → (i : ℕ) (r : Route)
      → at_place i (view_for n t) ≡ some r → P r
  unfolding view_for pick
  view_each P h i r e = go (ltb i (min t.count.count most_routes))
      (sym (at_place_tab (route_at n t) 0 (min t.count.count most_routes) i) ∙ e)
    where
      go : (b : Bool) → pick b (some (route_at n t (0 + i))) none ≡ some r → P r
      go true q = rw (← (some-injective _ _ q)) (h (0 + i))
      go false q = absurd (none-ne-some _ q)

  -- each route has a slot for each face
  pub view_hops : (i : ℕ) (r : Route) → at_place i (view_for n t) ≡ some r → length r.hops ≡ n
  unfolding route_at route_row
  view_hops = view_each (λ r. length r.hops ≡ n) (λ k. slots_length n _ _)

  -- the class of each route is what its number says: no word is taken for another
  pub view_class : (i : ℕ) (r : Route) → at_place i (view_for n t) ≡ some r → class_of (class_number r.cls) ≡ r.cls
  unfolding route_at route_row
  view_class = view_each (λ r. class_of (class_number r.cls) ≡ r.cls) (λ k. ap class_of (class_number_lem _))

  -- the route at a place before the last is what its row means
  pub view_place : (i : ℕ) → i < min t.count.count most_routes → at_place i (view_for n t) ≡ some (route_at n t i)
  unfolding view_for
  view_place i h =
      at_place_tab (route_at n t) 0 (min t.count.count most_routes) i
      ∙ rw (zero-add i) (pick_yes _ _ _ (lt-ltb i (min t.count.count most_routes) h))

  -- a handle stands for a route exactly where its place is before the last
  pub is_found : (h : Handle) → ltb h.at (min t.count.count most_routes) ≡ is_some (at_place (place t h) (view_for n t))
  unfolding view_for place is_some pick
  is_found h =
      sym (ap is_some (at_place_tab (route_at n t) 0 (min t.count.count most_routes) h.at) ∙ go (ltb h.at (min t.count.count most_routes)))
    where
      go : (b : Bool) → is_some (pick b (some (route_at n t (0 + h.at))) none) ≡ b
      go true = refl
      go false = refl

  -- past the last there is no route
  pub view_none : (i : ℕ) → min t.count.count most_routes ≤ i → at_place i (view_for n t) ≡ none
  unfolding view_for
  view_none i h = at_place_tab (route_at n t) 0 (min t.count.count most_routes) i
      ∙ pick_no _ _ _ (le-ltb i (min t.count.count most_routes) h)

  -- the routes from a place on begin with the route there
  pub view_drop : (i : ℕ) → i < min t.count.count most_routes → drop i (view_for n t) ≡ route_at n t i ∷ drop (i + 1) (view_for n t)
  unfolding view_for
  view_drop i h =
      let g = route_at n t in
      let m = min t.count.count most_routes in
      rw (drop-cons (tab g 0 m) i (g 0) (omega (arith, length_tab g 0 m)), get_d_tab g 0 m i (g 0) h, zero-add i, add-one i)

  -- past the last no routes are left
  pub view_end : (i : ℕ) → min t.count.count most_routes ≤ i → drop i (view_for n t) ≡ []
  view_end i h = drop_of_length-le (view_for n t) {i = i} (omega (arith, view_length))

  -- a search among the routes is a search by places
  pub view_find : (p : Route → Bool) → index_of p (view_for n t) ≡ first (λ k. p (route_at n t k)) 0 (min t.count.count most_routes)
  unfolding view_for
  view_find p =
      let g = route_at n t in
      sym (first_tab p g (λ k. p (g k)) 0 (min t.count.count most_routes) (λ k a b. refl) ∙ zero-add _)

  -- where the rows mean what they meant but for one place, changed by g, the route there is changed by g
  pub view_at : (u : Routes) (i : ℕ) (g : Route → Route) → u.count ≡ t.count → route_at n u i ≡ g (route_at n t i)
      → ((k : ℕ) → k ≢ i → route_at n u k ≡ route_at n t k)
      → view_for n u ≡ on_at i g (view_for n t)
  unfolding view_for
  view_at u i g c e o =
      ap (λ (c : Count). tab (route_at n u) 0 (min c.count most_routes)) c
      ∙ tab_at (route_at n t) (route_at n u) g 0 (min t.count.count most_routes) i (rw (zero-add i) e)
      (λ k _ _ d. o k (λ q. d (omega arith)))

  -- where each row means what it meant changed by g, each route is changed by g
  pub view_all : (u : Routes) (g : Route → Route) → u.count ≡ t.count
      → ((k : ℕ) → k < min t.count.count most_routes → route_at n u k ≡ g (route_at n t k))
      → view_for n u ≡ map g (view_for n t)
  unfolding view_for
  view_all u g c e =
      ap (λ (c : Count). tab (route_at n u) 0 (min c.count most_routes)) c
      ∙ tab_ext (route_at n u) (λ k. g (route_at n t k)) 0 (min t.count.count most_routes) (λ k _ h. e k (omega arith))
      ∙ sym (map_tab g (route_at n t) 0 (min t.count.count most_routes))

  -- a change that leaves the route at a place as it is leaves all
  pub view_kept : (i : ℕ) (g : Route → Route) → route_at n t i ≡ g (route_at n t i) → view_for n t ≡ on_at i g (view_for n t)
  view_kept i g e = view_at t i g refl e (λ k d. refl)

  -- a row changed in its place
  pub view_on : (i : ℕ) (row : Row) (g : Route → Route) → i < length t.rows
      → route_row n (get_or t.prefixes i []) row (get_or t.costs i []) ≡ g (route_at n t i)
      → view_for n (record t { rows = set t.rows i row }) ≡ on_at i g (view_for n t)
  unfolding route_at
  view_on i row g h e =
      view_at (record t { rows = set t.rows i row }) i g refl (rw (get_or-set_same t.rows i row no_row h) e)
      (λ k d. rw (get_or-set_other t.rows i k row no_row d))

  -- a row and its costs changed in their place
  pub view_put : (i : ℕ) (row : Row) (costs : List ℕ) (g : Route → Route) → i < length t.rows → i < length t.costs
      → route_row n (get_or t.prefixes i []) row costs ≡ g (route_at n t i)
      → view_for n (record t { rows = set t.rows i row; costs = set t.costs i costs }) ≡ on_at i g (view_for n t)
  unfolding route_at
  view_put i row costs g h k e =
      view_at (record t { rows = set t.rows i row; costs = set t.costs i costs }) i g refl
      (rw (get_or-set_same t.rows i row no_row h, get_or-set_same t.costs i costs [] k) e)
      (λ k d. rw (get_or-set_other t.rows i k row no_row d, get_or-set_other t.costs i k costs [] d))

  -- a prefix and a row written after the last route make a route more, at the end
  pub view_snoc : (name : List ℕ) (row : Row) (r : Route) (m : ℕ) → min t.count.count most_routes ≡ m → m < most_routes
      → m < length t.prefixes → m < length t.rows → route_row n name row (get_or t.costs m []) ≡ r
      → view_for n (record t { prefixes = set t.prefixes m name; rows = set t.rows m row; count = record { count = m + 1 } })
      ≡ view_for n t ++ (r ∷ [])
  unfolding view_for route_at
  view_snoc name row r m c l b a e =
      let f = route_at n t in
      let g = route_at n (record t { prefixes = set t.prefixes m name; rows = set t.rows m row; count = record { count = m + 1 } }) in
      let one : min (m + 1) most_routes ≡ m + 1 = omega arith in
      let old : tab g 0 m ≡ tab f 0 m =
      tab_ext g f 0 m
      (λ k _ h.
      let d : k ≢ m = (λ q. omega arith) in
      rw (get_or-set_other t.prefixes m k name [] d, get_or-set_other t.rows m k row no_row d)) in
      let new : g (0 + m) ≡ r =
      rw (zero-add m, get_or-set_same t.prefixes m name [] b, get_or-set_same t.rows m row no_row a) e in
      rw (one, c, tab_snoc g 0 m, old, new)

  -- what stood after a place moved one place down, what stood before it as it was: the route there is taken out
  pub view_without : (names : List (List ℕ)) (rows : List Row) (costs : List (List ℕ)) (i m : ℕ)
      → min t.count.count most_routes ≡ m → i < m
      → Moved [] i m t.prefixes names → Moved no_row i m t.rows rows → Moved [] i m t.costs costs
      → view_for n (record { prefixes = names; rows = rows; costs = costs; count = record { count = m - 1 } }) ≡ without i (view_for n t)
  unfolding view_for route_at
  view_without names rows costs i m c l a b d =
      let u : Routes = record { prefixes = names; rows = rows; costs = costs; count = record { count = m - 1 } } in
      let less : min (m - 1) most_routes ≡ m - 1 = omega arith in
      let all : m ≡ m - 1 + 1 = omega arith in
      rw (less, c)
      (tab_without (route_at n t) (route_at n u) 0 (m - 1) i (omega arith)
      (λ k _ q. rw (a.before k (omega arith), b.before k (omega arith), d.before k (omega arith)))
      (λ k p q.
      rw (a.after k (omega arith) (omega arith), b.after k (omega arith) (omega arith), d.after k (omega arith) (omega arith)))
      ∙ ap (λ (x : ℕ). without i (tab (route_at n t) 0 x)) (sym all))
