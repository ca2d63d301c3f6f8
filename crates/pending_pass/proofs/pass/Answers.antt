-- The loop's invariant is `Passing`, with the handle at the first mark: one law for the start, one for a turn, one for the end.
use borrow.Author.Tests.{ltb-true, ltb-false}
use borrow.Author.Rules.{rules}
use mathlib.Core.Path.{sym, ◌∙◌}
use mathlib.Core.List.{[]}
use Rattle.sizes.specs.Sizes.{most_faces}
use Rattle.pending_table.specs.Places.View.{marks_length}
use Rattle.pending_table.specs.Places.Parts.{table}
use Rattle.pending_pass.specs.Laws.Pass.{pass_start, pass_turn, pass_less, pass_end}
use Rattle.pending_pass.proofs.pass.Goals as goal

pub loop-left-init : goal.loop-left-init
loop-left-init g c = (
  (c.next-h.ensures [] [] []).at,
  λ w n hs r t. pass_start _ _ _ _ _ _ (marks_length most_faces _ _ _ _ _ _) (search rules),
)

pub loop-left-smaller : goal.loop-left-smaller
loop-left-smaller g c =
    let l = c.loop-left in
    let k = c.args.numbers.now in
    let q = c.requires.turns in
    pass_less _ _ _ _ _ _ _ _ _ _ _ (l.invariant.1 q.0 q.1 q.2 q.3 q.4) _ l.invariant.0
    (ltb-true _ _ (sym (c.is_there.ensures q.1 (q.2 l.s) q.3 k) ∙ c.loop-left-test.true)) _ _ _
    (c.rest-left.ensures (table q.1 (q.2 l.s) q.3 k l.used)) _ _ _ _ (q.4 _ _ _ _ _ _ _ _ _ _ _ c.turn-noted.ensures)

pub loop-left-preserved : goal.loop-left-preserved
loop-left-preserved g c =
    let l = c.loop-left in
    let k = c.args.numbers.now in (
      (c.next-h-in-loop-left.ensures [] [] []).at,
      λ w n hs r t.
          pass_turn _ _ _ _ _ _ _ _ _ _ _ (l.invariant.1 w n hs r t) _ l.invariant.0
          (ltb-true _ _ (sym (c.is_there.ensures n (hs l.s) r k) ∙ c.loop-left-test.true)) _ _ _
          (c.rest-left.ensures (table n (hs l.s) r k l.used)) _ _ _ _ (t _ _ _ _ _ _ _ _ _ _ _ c.turn-noted.ensures),
    )

pub returns : goal.returns
returns g c =
    let l = c.loop-left in
    λ w n hs r t.
    pass_end _ _ _ _ _ _ _ _ _ _ _ (l.invariant.1 w n hs r t) _ l.invariant.0
    (ltb-false _ _ (sym (c.is_there.ensures n (hs l.s) r c.args.numbers.now) ∙ c.loop-left-test.false))
