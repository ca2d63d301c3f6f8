-- What a row's head says, and what is said of nothing.
use borrow.Author.Rules.{rules}
use mathlib.Core.Path.{◌≡◌, sym, ◌∙◌}
use Rattle.sizes.specs.Sizes.{most_faces}
use Rattle.pending_table.specs.Operations.{nothing, facts_of}
use Rattle.pending_table.specs.Laws.Row.{row_facts}
use Rattle.pending_table.specs.Laws.Parts.{part_says, part_none_says}
use Rattle.pending_table.proofs.facts_of.Goals as goal

pub returns-in-Some : goal.returns-in-Some
returns-in-Some c =
    let a = c.args in
    λ n r k. part_says n a.heads.now r k a.used a.h c.row_of.ensures.row c.in-Some.is nothing facts_of (sym (row_facts most_faces _ _ _))

pub returns-in-None : goal.returns-in-None
unfolding nothing
returns-in-None c =
    let a = c.args in
    let d : c.default.result ≡ nothing = search rules in
    λ n r k. d ∙ part_none_says n a.heads.now r k a.used a.h c.row_of.ensures.row c.in-None.is nothing facts_of
