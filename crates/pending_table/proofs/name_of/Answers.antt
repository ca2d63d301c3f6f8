-- The first bytes of the row; where there is none, no bytes.
use mathlib.Core.Path.{sym, ◌∙◌}
use mathlib.Core.List.{[]}
use Rattle.sizes.specs.Sizes.{most_faces}
use Rattle.pending_entry.specs.Places.View as entry
use Rattle.pending_table.specs.Laws.Parts.{part_says, part_none_says}
use Rattle.pending_table.proofs.name_of.Goals as goal

pub returns-in-Some : goal.returns-in-Some
returns-in-Some c =
    let a = c.args in
    λ r k. part_says a.names.now a.heads.now r k a.used a.h c.row_of.ensures.row c.in-Some.is [] (λ e. e.name)
    (c.part.ensures ∙ sym (entry.view_name most_faces _ _ _))

pub returns-in-None : goal.returns-in-None
returns-in-None c =
    let a = c.args in
    λ r k. part_none_says a.names.now a.heads.now r k a.used a.h c.row_of.ensures.row c.in-None.is [] (λ e. e.name)
