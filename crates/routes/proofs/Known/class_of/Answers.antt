-- The class word is that of the row; past the last route it is 0.
use Rattle.std.proofs.Common.{rules, MatchOption, ◌≡◌}
use Rattle.sizes.specs.Sizes.{most_faces}
use Rattle.routes.proofs.Found.{answer_found}
use mathlib.Core.Path.{sym}
use Rattle.records.specs.Slots.{given}
use Rattle.routes.specs.Operations.{class_word}
use Rattle.routes.specs.Laws.Setting.{row_word}
use Rattle.routes.proofs.Known.class_of.Goals as goal

pub returns : goal.returns
unfolding given
returns c =
    let a = c.args in
    let k : MatchOption c.row_of.result (c.map_or.result ≡ 0) (λ r. c.map_or.result ≡ r.now.class) = search rules in
    answer_found (given 0 class_word) (λ r. r.class) _ _ c.row_of.result _ c.map_or.result (λ r. sym (row_word most_faces _ r _))
    (c.row_of.ensures _ _) k
