-- One law for each outcome.
use Rattle.std.proofs.Common.{◌≡◌, sym, ◌∙◌, get_or, arith}
use Rattle.wire.specs.Laws.Read.{any_none, any_one, any_long}
use Rattle.wire.proofs.read.Cursor.any_number.Goals as goal

pub returns-in_err-get : goal.returns-in_err-get
returns-in_err-get c = c.from_residual.ensures ∙ sym (any_none _ _ (omega (arith, c.in_err-get.ensures.lookup)))

pub returns-then-b-lt253 : goal.returns-then-b-lt253
returns-then-b-lt253 c =
    let h = c.in_ok-get.ensures.lookup.3 in
    let e : c.from-b.result ≡ get_or c.args.s.now c.args.self.at 0 = c.from-b.ensures ∙ h.1 0 in
    rw e (sym (any_one _ _ h.0 (omega arith)))

pub returns-else-b-lt253 : goal.returns-else-b-lt253
returns-else-b-lt253 c =
    let h = c.in_ok-get.ensures.lookup.3 in
    let e : c.from-b.result ≡ get_or c.args.s.now c.args.self.at 0 = c.from-b.ensures ∙ h.1 0 in
    c.long_number.ensures ∙ rw e (sym (any_long _ _ h.0 (omega arith)))
