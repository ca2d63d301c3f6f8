-- The face is put into each set or taken out of it as its scope and link type say.
use Rattle.std.proofs.Common.{rules}
use Rattle.laws.specs.Pick.{pick}
use Rattle.faces.specs.Laws.View.{with_open}
use Rattle.faces.specs.Link.{link_type}
use Rattle.faces.proofs.Faces.with_open.Goals as goal

pub returns : goal.returns
unfolding pick link_type
returns c = with_open _ _ _ c.eq.result c.eq-2.result _ c.args.self _ (search rules) c.add.ensures c.put.ensures c.put-2.ensures c.put-3.ensures
