-- `reason_len` meets its contract: a NackReason that is not left out is an element of one byte.
use mathlib.Core.Path.{refl}
use Rattle.writing.specs.Written.{reason_bytes}
use Rattle.laws.specs.Pick.{pick}
use mathlib.Core.List.{[], ◌∷◌}
use borrow.Author.Tests.{eq-eqb, ne_eqb}
use Rattle.writing.proofs.reason_len.Goals as goal

pub returns-then-reason-eq0 : goal.returns-then-reason-eq0
unfolding reason_bytes pick
returns-then-reason-eq0 c = rw (eq-eqb c.args.reason 0 c.if-reason-eq0.true)

pub returns-else-reason-eq0 : goal.returns-else-reason-eq0
unfolding reason_bytes pick
returns-else-reason-eq0 c =
    let reason = c.args.reason in
    rw (ne_eqb reason 0 c.if-reason-eq0.false) (c.element_len.ensures (reason ∷ []) refl)
