-- The loop's invariant: best and most are what a search of the routes from place i on finds.
use native.Mathlib.Omega.{arith}
use mathlib.Core.Path.{sym, ◌∙◌}
use Prim.Native.Nat.{◌-◌}
use Rattle.sizes.specs.Sizes.{most_faces}
use Rattle.routes.specs.Places.View.{route_at, route_row, view_length, view_drop, view_end}
use Rattle.routes.specs.Places.Parts.{known_routes}
use Rattle.routes.specs.Places.Longest.{place_or}
use Rattle.routes.specs.Laws.Longest.{best_none, best_found, best_here, best_short, best_apart}
use Rattle.routes.proofs.Known.longest.Goals as goal
use Rattle.routes.proofs.Known.longest.Goals.{else-most-len-via-then-most-len+else-is_prefix, else-most-len-via-else-most-len}

pub loop-i-init : goal.loop-i-init
unfolding place_or
loop-i-init c = rw (← c.cut-i.ensures) (best_none _ _ _ (view_end most_faces (known_routes c.args.self) c.cut-i.result (omega arith)), tt)

pub loop-i-preserved-then-is_prefix : goal.loop-i-preserved-then-is_prefix
unfolding route_at route_row place_or
loop-i-preserved-then-is_prefix c =
    let l = c.loop-i in
    let here = view_drop most_faces (known_routes c.args.self) (l.i - 1) (omega arith) in (
      best_here _ _ _ _ _ _ _ (omega arith) here c.part-prefix.ensures l.invariant.0 (omega arith)
          (sym c.is_prefix.ensures ∙ c.if-is_prefix.true),
      omega arith,
    )

pub loop-i-preserved : goal.loop-i-preserved
unfolding route_at route_row
loop-i-preserved c =
    let l = c.loop-i in
    let here = view_drop most_faces (known_routes c.args.self) (l.i - 1) (omega arith) in (
      elim c.else-most-len.branch [
        | else-most-len-via-then-most-len+else-is_prefix w ↦
            best_apart _ _ _ _ _ _ _ (omega arith) here c.part-prefix.ensures l.invariant.0
            (sym w.is_prefix.ensures ∙ w.if-is_prefix.false)
        | else-most-len-via-else-most-len w ↦
            best_short _ _ _ _ _ _ _ (omega arith) here c.part-prefix.ensures l.invariant.0 (omega arith)
      ],
      l.invariant.1,
    )

pub returns : goal.returns
returns c =
    let l = c.loop-i in
    best_found (known_routes c.args.self) _ _ _ _ _ l.invariant.0 (omega arith) (sym (view_length most_faces (known_routes c.args.self))) l.invariant.1
