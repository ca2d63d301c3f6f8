-- One law for a ring with room and one for a full ring.
use Rattle.std.proofs.Common.{rules, arith, ◌≡◌, length}
use Rattle.sizes.specs.Sizes.{most_dead}
use Rattle.dead.specs.Places.View.{view_join_room, view_join_full, count_all}
use Rattle.dead.proofs.Dead.join.Goals as goal

pub returns-then-self-lt-DEAD-clause-joins : goal.returns-then-self-lt-DEAD-clause-joins
returns-then-self-lt-DEAD-clause-joins c =
    let n : length c.args.self.now.lines ≡ most_dead = search rules in
    view_join_room c.args.self.now c.args.print c.args.time n (omega arith)

pub returns-then-self-lt-DEAD-clause-counted : goal.returns-then-self-lt-DEAD-clause-counted
returns-then-self-lt-DEAD-clause-counted c = count_all _ (omega arith)

pub returns-else-self-lt-DEAD-clause-joins : goal.returns-else-self-lt-DEAD-clause-joins
returns-else-self-lt-DEAD-clause-joins c =
    let n : length c.args.self.now.lines ≡ most_dead = search rules in
    view_join_full c.args.self.now c.args.print c.args.time n (omega arith)

pub returns-else-self-lt-DEAD-clause-counted : goal.returns-else-self-lt-DEAD-clause-counted
returns-else-self-lt-DEAD-clause-counted c = count_all _ (omega arith)
