-- The loop's invariant is `LowestTo`, with the handle at the first mark: one law for the start, one for a turn, one for the end.
use borrow.Author.Tests.{ltb-true, ltb-false}
use mathlib.Core.Path.{refl, sym, ◌∙◌}
use Rattle.sizes.specs.Sizes.{most_faces}
use Rattle.pending_table.specs.Places.View.{marks_length}
use Rattle.pending_table.specs.Places.Parts.{seen}
use Rattle.pending_pass.specs.Laws.Faces.{has_none}
use Rattle.pending_pass.specs.Laws.Lowest.{lowest_start, lowest_next, lowest_less, lowest_end, zeros_at}
use Rattle.pending_pass.proofs.lowest_classes.Goals as goal

pub loop-left-init : goal.loop-left-init
loop-left-init c = (
  (let t = c.args.t in c.next-h.ensures t.names.now t.heads.now t.recs.now).at,
  lowest_start _ _ _ _ _ (marks_length most_faces _ _ _ _ _ _) refl (λ f. zeros_at most_faces f) (λ f. has_none most_faces f),
)

pub loop-left-smaller : goal.loop-left-smaller
loop-left-smaller c =
    let l = c.loop-left in
    let t = c.args.t in
    lowest_less _ _ _ _ _ _ l.invariant.1 _ l.invariant.0 (ltb-true _ _ (sym (c.is_there.ensures t.names.now t.heads.now t.recs.now
    t.numbers.now) ∙ c.loop-left-test.true)) _
    (c.rest-left.ensures (seen t))

pub loop-left-preserved : goal.loop-left-preserved
loop-left-preserved c =
    let l = c.loop-left in
    let t = c.args.t in (
      (c.next-h-in-loop-left.ensures t.names.now t.heads.now t.recs.now).at,
      lowest_next _ _ _ _ _ _ l.invariant.1 _ l.invariant.0 (ltb-true _ _ (sym (c.is_there.ensures t.names.now t.heads.now t.recs.now
          t.numbers.now) ∙ c.loop-left-test.true)) _
          c.asking_faces.ensures _ (c.facts_of-class.ensures t.names.now t.recs.now t.numbers.now) _ _ c.lower_words-had.ensures _
          (c.rest-left.ensures (seen t)),
    )

pub returns : goal.returns
returns c =
    let l = c.loop-left in
    let t = c.args.t in
    lowest_end _ _ _ _ _ _ l.invariant.1 _ l.invariant.0 (ltb-false _ _ (sym (c.is_there.ensures t.names.now t.heads.now t.recs.now
    t.numbers.now) ∙ c.loop-left-test.false))
