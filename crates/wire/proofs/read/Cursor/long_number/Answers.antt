-- One law for each form and outcome.
use Rattle.std.proofs.Common.{◌≡◌, ◌-◌, ◌<◌, ◌≤◌, ◌+◌, sym, ◌∙◌, length, take, drop, arith, ap}
use Rattle.std.proofs.lemmas.Grind.{common_steps}
use Rattle.wire.specs.Number.{big}
use Rattle.wire.specs.Laws.Read.{two_none, two_some, four_none, four_some, eight_none, eight_some}
use Rattle.wire.proofs.read.Cursor.long_number.Goals as goal
use Rattle.wire.proofs.read.Cursor.long_number.Goals.{in-253, in-254, in_default}

pub returns-in_err-bytes : goal.returns-in_err-bytes
returns-in_err-bytes c =
    let short : length c.args.s.now - c.args.self.at < c.match-b.width = grind (arith, common_steps, c.in_err-bytes.ensures.lookup) in
    c.from_residual.ensures ∙
    elim c.match-b.branch [
      | in-253 w ↦ sym (two_none _ _ _ (omega arith) (omega arith))
      | in-254 w ↦ sym (four_none _ _ _ (omega arith) (omega arith) (omega arith))
      | in_default w ↦ sym (eight_none _ _ _ (omega arith) (omega arith) (omega arith))
    ]

pub returns : goal.returns
returns c =
    let room : c.args.self.at + c.match-b.width ≤ length c.args.s.now = grind (arith, common_steps, c.in_ok-bytes.ensures.lookup) in
    let part : c.in_ok-bytes.bytes.now ≡ take c.match-b.width (drop c.args.self.at c.args.s.now) = grind (arith, common_steps, c.in_ok-bytes.ensures.lookup) in
    let value = c.big_of.ensures ∙ ap (big 0) part in
    elim c.match-b.branch [
      | in-253 w ↦ rw w.width-is (sym (two_some _ _ _ _ (omega arith) (omega arith) (rw w.width-is at value)))
      | in-254 w ↦ rw w.width-is (sym (four_some _ _ _ _ (omega arith) (omega arith) (omega arith) (rw w.width-is at value)))
      | in_default w ↦ rw w.width-is (sym (eight_some _ _ _ _ (omega arith) (omega arith) (omega arith) (rw w.width-is at value)))
    ]
