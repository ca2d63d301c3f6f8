-- The loop's invariant: the reason that goes on is the smaller of the one so far and of those that are left, where all of these are Nacked.
use native.Mathlib.Omega.{arith}
use mathlib.Core.Path.{refl, sym, ◌∙◌}
use Rattle.sizes.specs.Sizes.{most_faces}
use Rattle.faces.specs.Laws.Gives.{starts}
use Rattle.pending_records.specs.Operations.{nacks_in}
use Rattle.pending_records.specs.Laws.Nacks.{nacks_turn, nacks_open, nacks_end, view_nacks}
use Rattle.pending_records.proofs.all_nacked.Goals as goal

pub loop-f-init : goal.loop-f-init
loop-f-init c = rw (starts c.into_iter-f-iterator.ensures.into_iter_gives c.of-f-items.ensures) refl

pub returns-in_err-nacked : goal.returns-in_err-nacked
unfolding nacks_in
returns-in_err-nacked c =
    let s = c.in-Some.ensures.steps in
    let l = c.loop-f in
    let a = c.args in
    let word = c.in_err-nacked.ensures in
    λ nm. rw c.from_residual.ensures (sym (view_nacks most_faces nm a.head.now a.recs.now ∙ l.invariant
    ∙ nacks_open s.walk a.recs.now s.within l.reason (omega arith)))

pub loop-f-preserved : goal.loop-f-preserved
loop-f-preserved c =
    let s = c.in-Some.ensures.steps in
    let l = c.loop-f in
    let nacked = c.in_ok-nacked.ensures in
    let lesser = rw (c.reason_of.ensures, nacked.1) at c.lesser-reason.ensures in
    l.invariant ∙ nacks_turn s.walk c.args.recs.now s.within s.rest l.reason (λ q. omega arith) lesser

pub returns : goal.returns
unfolding nacks_in
returns c =
    let s = c.in-None.ensures.steps in
    let l = c.loop-f in
    let a = c.args in
    λ nm. sym (view_nacks most_faces nm a.head.now a.recs.now ∙ l.invariant ∙ nacks_end s.walk a.recs.now s.past l.reason)
