-- The class word of the longest matching route and its cheapest eligible hop, as code gives them.
-- Assumes nothing.
use Rattle.std.specs.Prelude.{ℕ, ◌≡◌, Bool, MatchOption}
use Rattle.std.specs.declared.option.Option as code
use Rattle.std.proofs.Math.Option.{Option, none, some}
use Rattle.records.specs.Slots.{given}
use Rattle.records.specs.Route.{Route, cheapest_of}
use Rattle.routes.specs.Operations.{class_word}

-- no route, or no hop of it that q holds of; or the class word of the route, and the cheapest such hop
abbrev pub Way : (ℕ → Bool) → Option Route → code.Option (ℕ × ℕ) → Type 0
Way q r o =
    MatchOption o (given none (cheapest_of q) r ≡ none)
    (λ x. (given none (cheapest_of q) r ≡ some x.1) × (x.0 ≡ given 0 class_word r))
