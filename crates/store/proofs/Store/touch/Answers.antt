-- The packets and the rows from a Data to the last turn by one place. Past the last nothing changes.
use Rattle.std.proofs.Common.{rules, arith, ◌≡◌, length}
use Rattle.sizes.specs.Sizes.{most_stored}
use Rattle.store.specs.Places.View.{place_is, count_all}
use Rattle.store.specs.Laws.Put.{last_stays}
use Rattle.store.proofs.Turned.{turned}
use Rattle.store.proofs.Store.touch.Goals as goal

pub returns-then-taken-self-clause-touched : goal.returns-then-taken-self-clause-touched
returns-then-taken-self-clause-touched c =
    let a = c.args in
    let l : length a.self.now.packets ≡ most_stored = search rules in
    let n : length a.self.now.rows ≡ most_stored = search rules in
    let p = c.rotate_left in
    let r = c.rotate_left-then-taken-self in
    rw place_is (turned a.self.now c.len-self.result a.taken.at p.new.self r.new.self c.len-self.ensures (omega arith) l n
    p.ensures.len p.ensures.by_index r.ensures.len r.ensures.by_index)

pub returns-then-taken-self-clause-counted : goal.returns-then-taken-self-clause-counted
returns-then-taken-self-clause-counted c = count_all _ (omega arith)

pub returns-else-taken-self-clause-touched : goal.returns-else-taken-self-clause-touched
returns-else-taken-self-clause-touched c = last_stays c.args.self.now c.len-self.result c.args.taken c.len-self.ensures (omega arith)

pub returns-else-taken-self-clause-counted : goal.returns-else-taken-self-clause-counted
returns-else-taken-self-clause-counted c = count_all _ (omega arith)
