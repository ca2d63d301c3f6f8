-- Setting a route: what each outcome comes to, and what the rows of a prefix and a head mean then.
-- Assumes nothing.
use Rattle.std.specs.Prelude.{ℕ, Bool, ◌≤◌, ◌<◌, ◌≡◌, refl, List, [], ◌∷◌, ◌++◌, length, get_or, take}
use Rattle.std.proofs.Math.Bool.{true, false, and-false}
use Rattle.std.proofs.Math.Dec.{ltb, leb}
use borrow.Author.Tests.{lt-ltb, le-ltb, le-leb, lt-leb}
use Rattle.sizes.specs.Sizes.{most_name, most_routes}
use Rattle.laws.specs.Pick.{pick}
use Rattle.laws.specs.Lists.{on_at}
use Rattle.laws.specs.Laws.Digits.{digit_zero, member_no}
use Rattle.faces.specs.Laws.Slot.{slots_none}
use Rattle.records.specs.Class.{Class, class_of}
use Rattle.records.specs.Laws.Class.{class_number_lem}
use Rattle.records.specs.Route.{Route, route_of, with_class, new_route}
use Rattle.routes.specs.declared.Row.{Row}
use Rattle.routes.specs.Places.View.{route_row}
use Rattle.routes.specs.Operations.{is_route, has_room, with_route, Sets, class_word}

module _ (n : ℕ) (p : List ℕ) (c : Class) (before after : List Route) (r : Bool) where
  -- a known prefix gets its class changed
  pub set_known : r ≡ true → route_of p before < length before → after ≡ on_at (route_of p before) (with_class c) before
      → Sets n r after p c before
  unfolding is_route with_route pick
  set_known f h e =
      let k : ltb (route_of p before) (length before) ≡ true = lt-ltb _ _ h in
      record { said = rw (k, f); left = rw (k, e) }

  module _ (new : length before ≤ route_of p before) where
    -- a new prefix that fits is put at the end
    pub set_new : r ≡ true → length p ≤ most_name → length before < most_routes → after ≡ before ++ (new_route n p c ∷ [])
        → Sets n r after p c before
    unfolding is_route has_room with_route pick
    set_new f a b e =
        let k : ltb (route_of p before) (length before) ≡ false = le-ltb _ _ new in
        let l : leb (length p) most_name ≡ true = le-leb _ _ a in
        let m : ltb (length before) most_routes ≡ true = lt-ltb _ _ b in
        record { said = rw (k, l, m, f); left = rw (k, l, m, e) }

    -- a new prefix for which there is no room changes nothing
    set_refused : has_room p before ≡ false → r ≡ false → after ≡ before → Sets n r after p c before
    unfolding is_route with_route pick
    set_refused m f e =
        let k : ltb (route_of p before) (length before) ≡ false = le-ltb _ _ new in
        record { said = rw (k, m, f); left = rw (k, m, e) }

    -- there is none where it is too long
    pub set_long : most_name < length p → r ≡ false → after ≡ before → Sets n r after p c before
    unfolding has_room
    set_long a = set_refused (rw (lt-leb (length p) most_name a))

    -- there is none where there are most_routes routes
    pub set_full : most_routes ≤ length before → r ≡ false → after ≡ before → Sets n r after p c before
    unfolding has_room
    set_full b = set_refused (rw (le-ltb (length before) most_routes b) (and-false (leb (length p) most_name)))

-- the class word changed in its row
pub row_class : (n w : ℕ) (name : List ℕ) (r : Row) (costs : List ℕ)
    → route_row n name (record r { class = w }) costs ≡ with_class (class_of w) (route_row n name r costs)
unfolding route_row with_class
row_class n w name r costs = refl

-- the class word of a route is that of its row
pub row_word : (n : ℕ) (name : List ℕ) (r : Row) (costs : List ℕ) → class_word (route_row n name r costs) ≡ r.class
unfolding route_row class_word
row_word n name r costs = class_number_lem r.class

-- the row of a new route: no face is in its set, whatever the costs
pub row_new : (n w : ℕ) (p name costs : List ℕ) → take (length p) name ≡ p
    → route_row n name (record { len = length p; class = w; hops = 0 }) costs ≡ new_route n p (class_of w)
unfolding route_row new_route
row_new n w p name costs e = rw (e, slots_none n 0 (λ i. get_or costs i 0) (λ i _. (member_no i 0).1 (digit_zero i)))
