-- The number of a kind is one more than its place among the variants.
use mathlib.Core.Path.{◌≡◌, refl}
use denote.Enum.Declared.{tag_of}
use Rattle.std.proofs.Common.{◌+◌}
use Rattle.rules.specs.Outcome.{kind_number}
use Rattle.sending.specs.contracts.Kind.{the_type}
use Rattle.sending.specs.declared.Kind.{Kind}
use Rattle.sending.specs.declared.Kind.TheVariants.{Interest, Data, Nack}
use Rattle.sending.specs.Places.Sheet.{kind_of}
use Rattle.sending.proofs.note.Goals as goal

numbered : (k : Kind) → tag_of the_type k + 1 ≡ kind_number (kind_of k)
unfolding kind_number
numbered Interest = refl
numbered Data = refl
numbered Nack = refl

pub returns : goal.returns
returns c = rw (← (numbered c.args.kind))
