-- The used rows are those that are left.
use mathlib.Core.Path.{ap}
use Rattle.pending_table.specs.Places.Parts.{table}
use Rattle.pending_pass.proofs.leave_if_idle.Goals as goal

pub returns-clause-leaves : goal.returns-clause-leaves
returns-clause-leaves c = c.used_after.ensures.leaves

pub returns-clause-absent : goal.returns-clause-absent
returns-clause-absent c =
    let t = c.args.t in
    λ q. let a = c.used_after.ensures.absent q in
    (ap (λ u. table t.names.now t.heads.now t.recs.now t.numbers.now u) a.0, a.1)
