-- The loop's invariant: the number above all is above the largest so far and those that are left.
use native.Mathlib.Omega.{arith}
use mathlib.Core.Path.{◌≡◌, refl}
use Prim.Native.Nat.{max}
use Rattle.std.proofs.Math.ListN.{get_or}
use Rattle.std.proofs.lemmas.Grind.{common_steps}
use Rattle.laws.specs.Laws.Digits.{lowest}
use Rattle.laws.specs.Pick.{pick}
use Rattle.sizes.specs.Sizes.{most_entries}
use Rattle.pending_order.specs.Laws.Walk.{largest_turn, largest_end, above_empty, above_some, lowest_within}
use Rattle.pending_order.specs.Laws.Free.{next_some}
use Rattle.pending_order.specs.Places.Rows.{next_in}
use Rattle.pending_order.proofs.next_number.Goals as goal

pub returns-then-used-eq0 : goal.returns-then-used-eq0
unfolding next_in pick
returns-then-used-eq0 c = rw (c.if-used-eq0.true, above_empty most_entries c.args.numbers.now c.args.used)

pub loop-row-init : goal.loop-row-init
loop-row-init c =
    let a = c.args in
    let e = lowest most_entries a.used in
    rw (c.into_iter-row-iterator.ensures.into_iter_gives, c.of-row-items.ensures) (
      record { at = e; same = refl },
      above_some most_entries a.numbers.now a.used _ e (lowest_within most_entries a.used _ (omega arith) (omega arith) e),
    )

pub loop-row-preserved : goal.loop-row-preserved
loop-row-preserved c =
    let l = c.loop-row in
    let w = c.in-Some.ensures.steps in
    let row = c.in-Some.row in
    let more : c.max-most.result ≡ max l.most (get_or c.args.numbers.now row 0) = grind (arith, common_steps) in (
      rw w.2
          (largest_turn most_entries _ _ l.row-iterator.left l.most row _ _ (rw (← w.1) at l.invariant.0) w.0 (lowest most_entries _) more),
      l.invariant.1,
    )

pub returns : goal.returns
returns c =
    let l = c.loop-row in
    let h = largest_end most_entries c.args.numbers.now c.args.used l.row-iterator.left l.most _ l.invariant.0 c.in-None.ensures.steps.0 in
    let k = l.invariant.1 in
    next_some _ _ _ c.checked_add.ensures (omega arith)
