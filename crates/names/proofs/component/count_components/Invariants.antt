-- What is left, judged behind what was met and counted, is the answer.
use Rattle.std.proofs.Common.{◌≡◌, ◌-◌, ◌≤◌, length, drop}
use Rattle.names.specs.Name.{components, counted}
use Rattle.names.specs.Laws.Name.{judged_from}
use Rattle.names.proofs.component.count_components.Given as goal

abbrev pub invariant-loop-place : goal.invariant-loop-place
invariant-loop-place l = (l.place.at ≤ length l.name) × (l.count ≤ l.place.at) × (judged_from l.met l.count (components (drop l.place.at l.name)) ≡ counted l.name)

abbrev pub decreases-loop-place : goal.decreases-loop-place
decreases-loop-place l = length l.name - l.place.at
