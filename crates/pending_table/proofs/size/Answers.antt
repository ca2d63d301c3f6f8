-- As many entries as rows used.
use native.Mathlib.Omega.{arith}
use mathlib.Core.Path.{sym}
use Rattle.sizes.specs.Sizes.{most_faces}
use Rattle.pending_table.specs.Places.View.{view_length}
use Rattle.pending_table.proofs.size.Goals as goal

pub returns : goal.returns
returns c = λ n hs r k. sym (view_length most_faces n hs r k (record { used = c.args.used }) (omega arith))
