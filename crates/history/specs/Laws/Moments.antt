-- Events one after the other, moment by moment: what holds of each event in any node of the shape holds of all moments of a run, and the
-- history is what happened in its moments.
-- Assumes nothing.
use Rattle.std.specs.Prelude.{ℕ, ◌≡◌, refl}
use mathlib.Core.List.{List, [], ◌∷◌, ◌++◌}
use Rattle.records.specs.Slots.{each}
use Rattle.rules.specs.Node.{Node, Event, empty_node}
use Rattle.rules.specs.Step.{Book, step, history}
use Rattle.history.specs.Lists.{All, nothing, both}
use Rattle.history.specs.Moments.{Moment, moment, moments, lived}
use Rattle.history.specs.Shape.{Shaped}
use Rattle.history.specs.Laws.ShapeKept.{empty_shaped, step_shaped}

-- the history is what happened in its moments, one after the other
pub history_moments : (b : Book) (es : List Event) (n : Node) → history b es n ≡ each (λ (m : Moment). m.outcome.happenings) (moments b es n)
unfolding history moments each
history_moments b [] n = refl
history_moments b (e ∷ es) n = rw (history_moments b es (b e n).node)

module _ (faces least : ℕ) (P : Moment → Type 0)
    (one : (e : Event) (n : Node) → Shaped faces n → P (moment (step faces least) e n)) where
  -- what holds of each event in a node of the shape holds of all moments from such a node on
  pub all_moments : (es : List Event) (n : Node) → Shaped faces n → All P (moments (step faces least) es n)
  unfolding moments
  all_moments [] n s = nothing
  all_moments (e ∷ es) n s = both (one e n s) (all_moments es (step faces least e n).node (step_shaped faces least e n s))

  -- and so from the empty node on
  pub all_lived : (es : List Event) → All P (lived faces (step faces least) es)
  all_lived es = all_moments es (empty_node faces) (empty_shaped faces)
