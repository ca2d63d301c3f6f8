-- What stands after the place stands one place down; past the last there is none to take out.
use native.Mathlib.Omega.{arith}
use mathlib.Core.Path.{sym, ◌∙◌}
use Rattle.std.proofs.Common.{ℕ, List, rules, [], length, ◌≡◌, ◌+◌, ◌-◌}
use Rattle.std.specs.List.{CopiedTo, SameBelow}
use Rattle.sizes.specs.Sizes.{most_faces, most_routes}
use Rattle.laws.specs.Laws.Tab.{without_out}
use Rattle.routes.specs.Places.View.{no_row, place_is, view_length, view_cut, view_count, view_without, Moved}
use Rattle.routes.proofs.Routes.remove.Goals as goal

-- a column of which what stands after a place was copied one place down
down : {A : Type 0} (z : A) (i n : ℕ) {old new : List A} → CopiedTo old new (i + 1) i (n - (i + 1)) → SameBelow old new i
    → Moved z i n old new
down z i n to below = record {
  before = λ k h. below k z h;
  after = λ k p q. let e : i + 1 + (k - i) ≡ k + 1 = omega arith in rw e at (to k z p (omega arith));
}

pub returns-then-i-n-clause-gone : goal.returns-then-i-n-clause-gone
returns-then-i-n-clause-gone c =
    let a = c.args in
    let t = a.self.now in
    let n = c.cut-n in
    let names : length t.prefixes ≡ most_routes = search rules in
    let rows : length t.rows ≡ most_routes = search rules in
    let costs : length t.costs ≡ most_routes = search rules in
    let (toN, belowN, aboveN) = c.copy_within.ensures.by_index in
    let (toR, belowR, aboveR) = c.copy_within-then-i-n.ensures.by_index in
    let (toC, belowC, aboveC) = c.copy_within-then-i-n-2.ensures.by_index in
    rw (place_is t a.route)
    (view_without most_faces t _ _ _ a.route.at n.result (sym n.ensures) (omega arith)
    (down [] _ _ toN belowN) (down no_row _ _ toR belowR) (down [] _ _ toC belowC))

pub returns-then-i-n-clause-counted : goal.returns-then-i-n-clause-counted
returns-then-i-n-clause-counted c = view_count most_faces _ (omega arith)

pub returns-else-i-n-clause-gone : goal.returns-else-i-n-clause-gone
returns-else-i-n-clause-gone c =
    let t = c.args.self.now in
    let len = view_length most_faces t in
    view_cut most_faces t _ c.cut-n.ensures ∙ rw (place_is t c.args.route) (sym (without_out _ _ (omega arith)))

pub returns-else-i-n-clause-counted : goal.returns-else-i-n-clause-counted
returns-else-i-n-clause-counted c = view_count most_faces _ (omega arith)
