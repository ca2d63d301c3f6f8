-- The library's comparison with what b begins with is the definition's.
use Rattle.std.proofs.Common.{◌∙◌, length, take}
use Rattle.names.specs.Name.{prefix_of}
use Rattle.names.specs.Laws.Same.{same_is}
use Rattle.names.proofs.order.is_prefix.Goals as goal

pub returns : goal.returns
unfolding prefix_of
returns c = let a = c.args.a.now in c.starts_with.ensures.value ∙ same_is a (take (length a) c.args.b.now)
