-- By case: there is no row, there is no room, or the Nack is written and its row stored.
use native.Mathlib.Omega.{arith}
use Rattle.wire.specs.Laws.Write.{answer_next, answer_full}
use Rattle.rules.specs.Outcome.{nack}
use Rattle.sending.specs.Laws.Put.{put_no_row, put_full, put_stored}
use Rattle.sending.proofs.put_nack.Goals as goal

pub returns-then-count-ge-FACES : goal.returns-then-count-ge-FACES
returns-then-count-ge-FACES c = put_no_row _ _ (omega arith)

pub overflow_sub-end : goal.overflow_sub-end
overflow_sub-end c =
    let wrote =
    answer_next _ _ _ _ c.write_nack.ensures c.in-Some.is in
    omega (arith, wrote.2)

pub returns-in_default : goal.returns-in_default
returns-in_default c =
    let full = answer_full _ _ _ _ c.write_nack.ensures c.in_default.is in
    put_full _ _ _ full.0 full.1

pub returns : goal.returns
returns c =
    let wrote =
    answer_next _ _ _ _ c.write_nack.ensures
    c.in-Some.is in
    put_stored _ nack _ _ _ _ _ _ (omega arith) wrote c.note.ensures
