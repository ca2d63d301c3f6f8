-- The Name is the one in the value of the element e that is read.
use Rattle.std.proofs.Common.{sym, ◌∙◌, arith}
use Rattle.std.proofs.Math.Nat.{add-sub_cancel_left}
use Rattle.packethead.specs.Laws.Find.{name_none, name_at}
use Rattle.wire.specs.Laws.Within.{read_is}
use Rattle.packethead.proofs.name.find_name.Goals as goal

pub overflow_add-e : goal.overflow_add-e
overflow_add-e c =
    let n = read_is _ _ _ _ (sym c.in-Some.ensures) in
    omega (arith, n.value, n.inside)

pub slice_bounds-name_in-end : goal.slice_bounds-name_in-end
slice_bounds-name_in-end c =
    let n = read_is _ _ _ _ (sym c.in-Some.ensures) in
    omega (arith, n.value, n.inside)

pub returns-in-None : goal.returns-in-None
returns-in-None c = name_none _ (sym c.in-None.ensures)

pub returns-in-Some : goal.returns-in-Some
returns-in-Some c = c.name_in.ensures ∙ rw add-sub_cancel_left (name_at _ _ _ (sym c.in-Some.ensures))
