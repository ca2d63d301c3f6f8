-- By whether there is a route for the name.
use Rattle.records.specs.Class.{class_number}
use Rattle.sending.specs.Laws.Refusal.{class_in, class_none}
use Rattle.sending.proofs.class_for.Goals as goal

pub returns-in-Some : goal.returns-in-Some
returns-in-Some c = class_in _ _ _ c.in-Some.ensures.0 c.in-Some.ensures.1 _ c.class_of.ensures

pub returns-in-None : goal.returns-in-None
unfolding class_number
returns-in-None c = class_none _ _ c.in-None.ensures
