-- One law where there is no best so far, and one where the two names are compared.
use Rattle.std.proofs.Common.{rules, ◌∙◌}
use Rattle.laws.specs.Pick.{pick}
use Rattle.store.specs.Laws.Look.{earlier_alone, earlier_is, before_lt}
use Rattle.store.proofs.Store.earlier_of.Goals as goal

pub returns-in-Some-clause-earlier : goal.returns-in-Some-clause-earlier
unfolding pick
returns-in-Some-clause-earlier c =
    let a = c.args in
    rw c.in-Some.is
    (rw c.if-is_lt.true at
    (earlier_is a.self.now a.i c.in-Some.b c.is_lt.result c.compare.result _ _ (c.is_lt.ensures ∙ before_lt c.compare.result)
    c.compare.ensures c.name_at.ensures (search rules)))

pub returns-in_default-clause-earlier : goal.returns-in_default-clause-earlier
unfolding pick
returns-in_default-clause-earlier c =
    let a = c.args in
    rw c.in-Some.is
    (rw c.if-is_lt.false at
    (earlier_is a.self.now a.i c.in-Some.b c.is_lt.result c.compare.result _ _ (c.is_lt.ensures ∙ before_lt c.compare.result)
    c.compare.ensures c.name_at.ensures (search rules)))

pub returns-in_default-2-clause-earlier : goal.returns-in_default-2-clause-earlier
returns-in_default-2-clause-earlier c = rw c.in_default.is (earlier_alone c.args.self.now c.args.i)
