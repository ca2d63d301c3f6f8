-- A handle has an entry where its row is used.
use native.Mathlib.Omega.{arith}
use mathlib.Core.Path.{◌∙◌}
use Rattle.sizes.specs.Sizes.{most_faces}
use Rattle.pending_table.specs.Places.View.{place_used}
use Rattle.pending_table.proofs.is_there.Goals as goal

pub returns : goal.returns
returns c =
    λ n hs r k. c.has.ensures ∙ place_used most_faces n hs r k (record { used = c.args.used }) c.args.h (omega arith)
