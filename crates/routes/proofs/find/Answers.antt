-- The loop's invariant: a prefix is found among all routes where it is found from place i on.
use native.Mathlib.Omega.{arith}
use mathlib.Core.Path.{sym, ◌∙◌}
use Rattle.sizes.specs.Sizes.{most_faces}
use Rattle.laws.specs.Laws.Loop.{first_hit, first_miss, first_end, from_zero}
use Rattle.names.specs.Name.{same_bytes}
use Rattle.records.specs.Route.{route_of}
use Rattle.routes.specs.Places.View.{route_at, route_row, place_is, view_find, view_length}
use Rattle.routes.specs.Places.Parts.{table}
use Rattle.routes.proofs.find.Goals as goal

pub loop-i-init : goal.loop-i-init
loop-i-init c = λ q. rw from_zero

pub returns-then-same : goal.returns-then-same
unfolding route_of route_at route_row
returns-then-same c =
    let a = c.args in
    let l = c.loop-i in
    λ q.
    let t = table a.prefixes.now a.rows.now q a.count in
    let p = place_is t (record { at = l.i }) in
    let found = view_find most_faces t (λ r. same_bytes a.prefix.now r.name) ∙ l.invariant q
    ∙ first_hit _ _ _ (omega arith) (sym (rw c.part.ensures at c.same.ensures) ∙ c.if-same.true) in
    (p ∙ sym found, omega (arith, p, view_length most_faces t))

pub loop-i-preserved : goal.loop-i-preserved
unfolding route_at route_row
loop-i-preserved c =
    λ q. c.loop-i.invariant q ∙ first_miss _ _ _ (omega arith) (sym (rw c.part.ensures at c.same.ensures) ∙ c.if-same.false)

pub returns : goal.returns
unfolding route_of
returns c =
    let a = c.args in
    λ q.
    let t = table a.prefixes.now a.rows.now q a.count in
    view_find most_faces t (λ r. same_bytes a.prefix.now r.name) ∙ c.loop-i.invariant q ∙ first_end _ _ _ (omega arith)
    ∙ omega (arith, view_length most_faces t)
