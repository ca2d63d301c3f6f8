-- One law for each outcome: a known prefix, one that is too long, no room, a new route at the end.
use native.Mathlib.Omega.{arith}
use mathlib.Core.List.{[]}
use mathlib.Core.Path.{refl, sym, ◌∙◌}
use Rattle.std.proofs.Common.{rules, length, ◌≡◌, get_or}
use Rattle.sizes.specs.Sizes.{most_faces, most_routes, most_name}
use Rattle.wire.specs.Laws.Write.{put_back}
use Rattle.records.specs.Class.{class_of}
use Rattle.records.specs.Route.{with_class}
use Rattle.routes.specs.Places.View.{route_at, place_is, view_length, view_cut, view_count, view_on, view_snoc}
use Rattle.routes.specs.Places.Parts.{table}
use Rattle.routes.specs.Laws.Setting.{set_known, set_new, set_long, set_full, row_class, row_new}
use Rattle.routes.proofs.set.Goals as goal
use Rattle.routes.proofs.set.Goals.{else-prefix-le-NAME-via-then-prefix-le-NAME+else-n-lt-ROUTES}
use Rattle.routes.proofs.set.Goals.{else-prefix-le-NAME-via-else-prefix-le-NAME}

pub offset_bounds-rows-route : goal.offset_bounds-rows-route
offset_bounds-rows-route c =
    let a = c.args in
    let t = table a.prefixes.now a.rows.now [] a.count.now in
    let h = c.in-Some.route in
    omega (arith, (c.in-Some.ensures []).1, place_is t h, view_length most_faces t)

pub bounds-rows-route : goal.bounds-rows-route
bounds-rows-route c =
    let a = c.args in
    let t = table a.prefixes.now a.rows.now [] a.count.now in
    let h = c.in-Some.route in
    omega (arith, (c.in-Some.ensures []).1, place_is t h, view_length most_faces t)

pub returns-in-Some-clause-sets : goal.returns-in-Some-clause-sets
unfolding route_at
returns-in-Some-clause-sets c =
    let a = c.args in
    let n = c.cut-n in
    let h = c.in-Some.route in
    let all : length a.rows.now ≡ most_routes = search rules in
    λ q.
    let t = table a.prefixes.now a.rows.now q a.count.now in
    let (is, below) = c.in-Some.ensures q in
    let len = view_length most_faces t in
    let p = place_is t h in
    let e = sym p ∙ is in
    let cls = class_of a.class in
    let changed = view_on most_faces t h.at _ (with_class cls) (omega arith) (row_class most_faces a.class _ _ _) in
    set_known most_faces a.prefix.now cls _ _ _ refl (omega arith)
    (view_cut most_faces (table a.prefixes.now _ q a.count.now) _ n.ensures ∙ rw (← e) changed)

pub returns-in-Some-clause-counted : goal.returns-in-Some-clause-counted
returns-in-Some-clause-counted c = λ q. view_count most_faces _ (omega (arith, c.cut-n.ensures))

pub returns-then-n-lt-ROUTES-clause-sets : goal.returns-then-n-lt-ROUTES-clause-sets
returns-then-n-lt-ROUTES-clause-sets c =
    let a = c.args in
    let n = c.cut-n in
    let names : length a.prefixes.now ≡ most_routes = search rules in
    let rows : length a.rows.now ≡ most_routes = search rules in
    let bytes : length (get_or a.prefixes.now n.result []) ≡ most_name = search rules in
    λ q.
    let t = table a.prefixes.now a.rows.now q a.count.now in
    let none = c.in_default.ensures q in
    let len = view_length most_faces t in
    set_new most_faces a.prefix.now (class_of a.class) _ _ _ (omega arith) refl (omega arith) (omega arith)
    (view_snoc most_faces t _ _ _ n.result (sym n.ensures) (omega arith) (omega arith) (omega arith)
    (row_new most_faces a.class a.prefix.now _ _ (put_back _ _ _ _ c.put_bytes.ensures (omega arith))))

pub returns-then-n-lt-ROUTES-clause-counted : goal.returns-then-n-lt-ROUTES-clause-counted
returns-then-n-lt-ROUTES-clause-counted c = λ q. view_count most_faces _ (omega arith)

pub returns-else-prefix-le-NAME-clause-sets : goal.returns-else-prefix-le-NAME-clause-sets
returns-else-prefix-le-NAME-clause-sets c =
    let a = c.args in
    let n = c.cut-n in
    λ q.
    let t = table a.prefixes.now a.rows.now q a.count.now in
    let none = c.in_default.ensures q in
    let len = view_length most_faces t in
    let same = view_cut most_faces t n.result n.ensures in
    let cls = class_of a.class in
    elim c.else-prefix-le-NAME.branch [
      | else-prefix-le-NAME-via-then-prefix-le-NAME+else-n-lt-ROUTES w ↦
          set_full most_faces a.prefix.now cls _ _ _ (omega arith) (omega arith) refl same
      | else-prefix-le-NAME-via-else-prefix-le-NAME w ↦
          set_long most_faces a.prefix.now cls _ _ _ (omega arith) (omega arith) refl same
    ]

pub returns-else-prefix-le-NAME-clause-counted : goal.returns-else-prefix-le-NAME-clause-counted
returns-else-prefix-le-NAME-clause-counted c = λ q. view_count most_faces _ (omega (arith, c.cut-n.ensures))
