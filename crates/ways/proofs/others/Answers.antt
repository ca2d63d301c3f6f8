-- A face that is not ad hoc is not left.
use Rattle.sizes.specs.Sizes.{most_faces}
use Rattle.ways.specs.Laws.Eligible.{others_less}
use Rattle.ways.proofs.others.Goals as goal

pub returns-else-is_ad_hoc : goal.returns-else-is_ad_hoc
returns-else-is_ad_hoc c =
    others_less most_faces _ _ _ _ c.is_ad_hoc.ensures c.all_open-open.ensures _
    c.if-is_ad_hoc.false c.remove.ensures
