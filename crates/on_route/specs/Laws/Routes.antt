-- Setting and dropping a route, and adding and dropping a hop, past ageing: one law for each arm.
-- Assumes nothing.
use Prim.Native.Nat.{ℕ, ◌≤◌, ◌<◌}
use Rattle.std.specs.Prelude.{◌≡◌, Bool, true, false, ◌||◌, ◌≢◌, leb, eqb, Result, Ok, Err, IsErrAnd, MatchOption, Some, None}
use Rattle.std.specs.declared.option.Option as code
use Rattle.std.specs.Option.{ok_or}
use Rattle.std.specs.Result.{is_ok}
use Rattle.std.proofs.Math.Path.{refl, ap}
use Rattle.std.proofs.Common.{sym, ◌∙◌, arith, lt-ltb, le-ltb, ne_eqb}
use Rattle.std.proofs.Math.Bool.{not}
use mathlib.Core.List.{List, [], ◌∷◌, ◌++◌}
use Rattle.std.proofs.Math.Option.{none, some}
use Rattle.std.proofs.Math.ListN.{length}
use Rattle.std.proofs.lemmas.Bool.{eqb-false, false≢true}
use Rattle.answers.specs.declared.Answer.{Answer}
use Rattle.laws.specs.Pick.{pick}
use Rattle.laws.specs.Lists.{on_at, without}
use Rattle.laws.specs.Laws.Pick.{pick_ind, pick_yes, pick_no}
use Rattle.sizes.specs.Sizes.{most_faces, most_routes, most_name, most_cost}
use Rattle.records.specs.Class.{Class, class_of, is_class}
use Rattle.records.specs.Slots.{is_some}
use Rattle.records.specs.Route.{Route, route_of, with_hop, hop_at, with_class, new_route}
use Rattle.routes.specs.Operations.{is_route, Sets}
use Rattle.routes.specs.Laws.Bridge.{set_said, set_left}
use Rattle.rules.specs.Node.{Node, with_routes, set_route, drop_route, add_hop, drop_hop}
use Rattle.rules.specs.Outcome.{Outcome, quiet}
use Rattle.rules.specs.Command.{on_route, set_route_step, drop_route_step, add_hop_step, drop_hop_step}
use Rattle.rules.specs.Step.{what_step}
use Rattle.event.specs.Places.Begins.{allowed, answer_of}
use Rattle.on_route.specs.Turns.{RoutesBy, prefix_says}
use Rattle.on_route.specs.Laws.Prefix.{prefix_refused, prefix_answered, prefix_on, prefix_fits}

-- a word that is none of the three is no class
pub no_class_lem : (k : ℕ) → k ≢ 1 → k ≢ 2 → k ≢ 3 → false ≡ is_class (class_of k)
unfolding class_of is_class pick
no_class_lem k a b c = rw (ne_eqb k 1 a, ne_eqb k 2 b, ne_eqb k 3 c)

-- one of the three is a class
pub a_class : (k : ℕ) → k ≢ 0 → k ≤ 3 → true ≡ is_class (class_of k)
unfolding class_of is_class
a_class k z h =
    pick_ind P (eqb k 1) _ _ (λ _. refl)
    (λ a. pick_ind P (eqb k 2) _ _ (λ _. refl)
    (λ b. pick_ind P (eqb k 3) _ _ (λ _. refl)
    (λ c.
    let x : k ≢ 1 = eqb-false k 1 a in
    let y : k ≢ 2 = eqb-false k 2 b in
    let w : k ≢ 3 = eqb-false k 3 c in
    absurd (omega arith))))
  where
    P : Class → Type 0
    P c = true ≡ is_class c

module _ (p : List ℕ) (rs : List Route) (n : Node) (x : ℕ → Outcome) where
  -- a command on a known prefix
  on_there : (i : ℕ) → i ≡ route_of p rs → i < length rs → on_route (with_routes n rs) p x ≡ x i
  unfolding on_route
  on_there i ei h = pick_yes _ _ _ (lt-ltb _ _ (omega (arith, ei, h))) ∙ ap x (sym ei)

  -- and on something absent
  on_none : route_of p rs ≡ length rs → on_route (with_routes n rs) p x ≡ quiet Answer.NoRoute (with_routes n rs)
  unfolding on_route
  on_none e = pick_no _ _ _ (le-ltb _ _ (omega (arith, e)))

-- where nothing was found, the error that stands beside it
pub sought_none : {A : Type 0} (o : code.Option A) (P : Type 0) (Q : A → Type 0) (y d : Answer) → MatchOption o P Q
    → Err y ≡ ok_or o d → P × (y ≡ d)
sought_none {A} None P Q y d m q = let w : ◌≡◌ {A = Result A Answer} (Err y) (Err d) = q in let i : y ≡ d = cc in (m, i)
sought_none {A} (Some a) P Q y d m q = absurd (false≢true (ap is_ok q))

-- and what was found
pub sought_some : {A : Type 0} (o : code.Option A) (P : Type 0) (Q : A → Type 0) (a : A) (d : Answer) → MatchOption o P Q
    → Ok a ≡ ok_or o d → Q a
sought_some {A} None P Q a d m q = absurd (false≢true (ap is_ok (sym q)))
sought_some {A} (Some b) P Q a d m q = let w : ◌≡◌ {A = Result A Answer} (Ok a) (Ok b) = q in let i : a ≡ b = cc in rw i m

-- an error that is passed on is the answer
pub error_passed : (r : Result (Unit {0}) Answer) (y : Answer) → IsErrAnd r (λ a. a ≡ y) → answer_of r ≡ y
unfolding answer_of
error_passed (Ok u) y h = absurd h
error_passed (Err a) y h = h

-- by whether a prefix is known, a, and whether the table is full, b: the answer and the routes that setting a route comes to
set_arms : (n : Node) (rs xs ys rs' : List Route) (a b t : Bool) → t ≡ (a || not b) → rs' ≡ pick a xs (pick b rs ys)
    → pick a (quiet Answer.Done (with_routes n xs))
    (pick b (quiet Answer.TableFull (with_routes n rs)) (quiet Answer.Done (with_routes n ys)))
    ≡ quiet (pick t Answer.Done Answer.TableFull) (with_routes n rs')
unfolding pick
set_arms n rs xs ys rs' true b t et e = rw (et, e)
set_arms n rs xs ys rs' false true t et e = rw (et, e)
set_arms n rs xs ys rs' false false t et e = rw (et, e)

module _ (p : List ℕ) (rs : List Route) where
  module _ (r : Result (Unit {0}) Answer) (y : Answer) (h : IsErrAnd r (λ a. a ≡ y)) (e : allowed (prefix_says p) ≡ Err y) where
    -- a route is not dropped by a refused prefix
    pub drop_refused : RoutesBy (drop_route p) rs (answer_of r) rs
    unfolding what_step drop_route_step
    drop_refused time n = rw (prefix_answered p r y h e) (prefix_refused p (with_routes n rs) _ y e)

    -- nor is one set
    pub set_refused : (c : ℕ) → RoutesBy (set_route c p) rs (answer_of r) rs
    unfolding what_step set_route_step
    set_refused c time n = rw (prefix_answered p r y h e) (prefix_refused p (with_routes n rs) _ y e)

    -- nor is a hop added
    pub add_refused : (f cost : ℕ) → RoutesBy (add_hop f cost p) rs (answer_of r) rs
    unfolding what_step add_hop_step
    add_refused f cost time n = rw (prefix_answered p r y h e) (prefix_refused p (with_routes n rs) _ y e)

    -- nor is one dropped
    pub hop_refused : (f : ℕ) → RoutesBy (drop_hop f p) rs (answer_of r) rs
    unfolding what_step drop_hop_step
    hop_refused f time n = rw (prefix_answered p r y h e) (prefix_refused p (with_routes n rs) _ y e)

  module _ (u : Unit {0}) (e : allowed (prefix_says p) ≡ Ok u) where
    -- a route is not set to a word that is no class
    pub set_unclassed : (c : ℕ) (b : Bool) → b ≡ is_class (class_of c) → b ≡ false → RoutesBy (set_route c p) rs Answer.BadSetting rs
    unfolding what_step set_route_step
    set_unclassed c b eb q time n =
        prefix_on p u e (with_routes n rs) _ ∙ pick_yes _ _ _ (ap not (sym eb ∙ q))

    -- what setting a route to a class comes to
    set_made : (c : ℕ) (b : Bool) → b ≡ is_class (class_of c) → b ≡ true → (s : Bool) (rs' : List Route)
        → Sets most_faces s rs' p (class_of c) rs → RoutesBy (set_route c p) rs (pick s Answer.Done Answer.TableFull) rs'
    unfolding what_step set_route_step is_route
    set_made c b eb q s rs' g time n =
        let fits : length p ≤ most_name = prefix_fits p u e n in
        prefix_on p u e (with_routes n rs) _ ∙ pick_no _ _ _ (ap not (sym eb ∙ q))
        ∙ set_arms n rs (on_at (route_of p rs) (with_class (class_of c)) rs) (rs ++ (new_route most_faces p (class_of c) ∷ [])) rs'
        (is_route p rs) (leb most_routes (length rs)) s (g.said ∙ set_said p rs fits)
        (g.left ∙ set_left p rs fits most_faces (class_of c))

    module _ (c : ℕ) (b : Bool) (eb : b ≡ is_class (class_of c)) (q : b ≡ true) (s : Bool) (rs' : List Route)
        (g : Sets most_faces s rs' p (class_of c) rs) where
      -- it is set, where it is known or fits
      pub set_done : s ≡ true → RoutesBy (set_route c p) rs Answer.Done rs'
      set_done t time n = set_made c b eb q s rs' g time n ∙ ap (λ (x : Answer). quiet x (with_routes n rs')) (pick_yes _ _ _ t)

      -- else the table is full
      pub set_full : s ≡ false → RoutesBy (set_route c p) rs Answer.TableFull rs'
      set_full t time n = set_made c b eb q s rs' g time n ∙ ap (λ (x : Answer). quiet x (with_routes n rs')) (pick_no _ _ _ t)

    -- a hop is not added for a cost above the most
    pub add_cost : (f cost : ℕ) → most_cost < cost → RoutesBy (add_hop f cost p) rs Answer.BadSetting rs
    unfolding what_step add_hop_step
    add_cost f cost h time n = prefix_on p u e (with_routes n rs) _ ∙ pick_yes _ _ _ (lt-ltb most_cost cost h)

    module _ (z : route_of p rs ≡ length rs) where
      -- a route that is absent is not dropped
      pub drop_none : RoutesBy (drop_route p) rs Answer.NoRoute rs
      unfolding what_step drop_route_step
      drop_none time n = prefix_on p u e (with_routes n rs) _ ∙ on_none p rs n _ z

      -- to a route that is absent no hop is added
      pub add_none : (f cost : ℕ) → cost ≤ most_cost → RoutesBy (add_hop f cost p) rs Answer.NoRoute rs
      unfolding what_step add_hop_step
      add_none f cost h time n =
          prefix_on p u e (with_routes n rs) _ ∙ pick_no _ _ _ (le-ltb most_cost cost h) ∙ on_none p rs n _ z

      -- and from one none is dropped
      pub hop_unknown : (f : ℕ) → RoutesBy (drop_hop f p) rs Answer.NoRoute rs
      unfolding what_step drop_hop_step
      hop_unknown f time n = prefix_on p u e (with_routes n rs) _ ∙ on_none p rs n _ z

    module _ (i : ℕ) (ei : i ≡ route_of p rs) (there : i < length rs) where
      -- a known route is dropped
      pub drop_done : (rs' : List Route) → rs' ≡ without i rs → RoutesBy (drop_route p) rs Answer.Done rs'
      unfolding what_step drop_route_step
      drop_done rs' l time n =
          prefix_on p u e (with_routes n rs) _ ∙ on_there p rs n _ i ei there
          ∙ ap (λ (z : List Route). quiet Answer.Done (with_routes n z)) (sym l)

      -- to a known one a hop is added
      pub add_done : (f cost : ℕ) → cost ≤ most_cost → (rs' : List Route) → rs' ≡ on_at i (with_hop f (some cost)) rs
          → RoutesBy (add_hop f cost p) rs Answer.Done rs'
      unfolding what_step add_hop_step
      add_done f cost h rs' l time n =
          prefix_on p u e (with_routes n rs) _ ∙ pick_no _ _ _ (le-ltb most_cost cost h) ∙ on_there p rs n _ i ei there
          ∙ ap (λ (z : List Route). quiet Answer.Done (with_routes n z)) (sym l)

      module _ (f : ℕ) (t : Bool) (et : t ≡ is_some (hop_at f i rs)) where
        -- a hop that is there is dropped
        pub hop_done : t ≡ true → (rs' : List Route) → rs' ≡ on_at i (with_hop f none) rs → RoutesBy (drop_hop f p) rs Answer.Done rs'
        unfolding what_step drop_hop_step
        hop_done q rs' l time n =
            prefix_on p u e (with_routes n rs) _
            ∙ on_there p rs n _ i ei there
            ∙ pick_yes _ _ _ (sym et ∙ q)
            ∙ ap (λ (z : List Route). quiet Answer.Done (with_routes n z)) (sym l)

        -- one that is absent is not
        pub hop_none : t ≡ false → RoutesBy (drop_hop f p) rs Answer.NoRoute rs
        unfolding what_step drop_hop_step
        hop_none q time n =
            prefix_on p u e (with_routes n rs) _
            ∙ on_there p rs n _ i ei there
            ∙ pick_no _ _ _ (sym et ∙ q)
