-- The loop's invariant: what was counted, and the entries of the rows that are left, are all.
use borrow.Author.Rules.{rules}
use mathlib.Core.List.{[]}
use mathlib.Core.Path.{◌≡◌}
use Rattle.laws.specs.Laws.Digits.{lowest}
use Rattle.sizes.specs.Sizes.{most_faces, most_entries}
use Rattle.pending_table.specs.Laws.Room.{no_uses, counting_start, counting_room, counting_turn, counting_end}
use Rattle.pending_table.proofs.use_by_class.Goals as goal

pub loop-row-init : goal.loop-row-init
loop-row-init c =
    let d : c.default-uses.result ≡ no_uses = search rules in
    λ n r k.
    rw (d, c.into_iter-row-iterator.ensures.into_iter_gives, c.of-row-items.ensures)
    (counting_start most_faces _ _ _ _ _ _ (lowest most_entries _))

pub counted-uses-requires : goal.counted-uses-requires
counted-uses-requires c =
    let l = c.loop-row in
    counting_room most_faces [] c.args.heads.now [] [] _ l.uses l.row-iterator.left _ (l.invariant [] [] [])

pub loop-row-preserved : goal.loop-row-preserved
loop-row-preserved c =
    let l = c.loop-row in
    let g = c.in-Some.ensures.steps in
    λ n r k.
    rw (g.2, c.counted-uses.ensures)
    (counting_turn most_faces n c.args.heads.now r k _ l.uses l.row-iterator.left c.in-Some.row (rw (← g.1) at (l.invariant n r k)) _ g.0
    (lowest most_entries _))

pub returns : goal.returns
returns c =
    let l = c.loop-row in
    λ n r k.
    counting_end most_faces n c.args.heads.now r k _ l.uses l.row-iterator.left _ (l.invariant n r k) c.in-None.ensures.steps.0
