-- The lowest face is given, and a smaller set is left.
use native.Mathlib.Omega.{arith}
use Rattle.std.proofs.Common.{rules, ◌<◌}
use Rattle.faces.specs.Laws.Walk.{walks, walk_less}
use Rattle.faces.specs.Laws.Gives.{gave}
use Rattle.faces.proofs.WalkIterator.next.Goals as goal

pub returns-clause-steps : goal.returns-clause-steps
returns-clause-steps c = gave (omega arith) c.lowest-face.ensures (omega arith) c.remove-self.ensures

pub returns-clause-goes : goal.returns-clause-goes
returns-clause-goes c =
    let w = walks (omega arith) c.lowest-face.ensures in
    let l : c.remove-self.result < c.args.self.now.left = walk_less w (omega arith) c.remove-self.ensures in
    record { keeps = search rules; on = λ f. search (rules, l); rests = search rules }
