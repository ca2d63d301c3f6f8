-- What the callees ensure is put into the definition, and each return is then what it picks under the tests on the way to it.
use Rattle.std.proofs.Common.{arith, sym, ◌∙◌, eq-eqb, ne_eqb, le-leb}
use Rattle.std.proofs.lemmas.Bool.{lt-leb}
use Rattle.laws.specs.Pick.{pick}
use Rattle.grammar.specs.Walk.{known, judged}
use Rattle.grammar.specs.Laws.Table.{known_none, known_some}
use Rattle.grammar.proofs.judge.Goals as goal
use Rattle.grammar.proofs.judge.Goals.{then-row-last-via-then-row-last, then-row-last-via-else-row-last+then-not-length_fits}

pub returns-then-is_malformed : goal.returns-then-is_malformed
unfolding judged pick
returns-then-is_malformed c = rw (sym c.is_malformed.ensures ∙ c.if-is_malformed.true)

pub returns-in-None : goal.returns-in-None
unfolding judged pick
returns-in-None c =
    rw (
      sym c.is_malformed.ensures ∙ c.if-is_malformed.false,
      eq-eqb _ 0 (known_none _ (sym c.row_of.ensures ∙ c.in-None.is)),
      c.said_with.ensures,
      c.other_says.ensures,
    )

pub returns-then-row-last : goal.returns-then-row-last
unfolding judged known pick
returns-then-row-last c =
    let k = known_some _ (sym c.row_of.ensures ∙ c.in-Some.is) in
    rw (sym c.is_malformed.ensures ∙ c.if-is_malformed.false, k.0, ne_eqb _ 0 k.1)
    (elim c.then-row-last.branch [
      | then-row-last-via-then-row-last w ↦ rw (le-leb c.in-Some.row.order c.args.last (omega arith))
      | then-row-last-via-else-row-last+then-not-length_fits w ↦
          rw (lt-leb c.in-Some.row.order c.args.last (omega arith), sym w.length_fits.ensures ∙ w.if-not-length_fits.true)
    ])

pub returns-else-not-length_fits : goal.returns-else-not-length_fits
unfolding judged known pick
returns-else-not-length_fits c =
    let k = known_some _ (sym c.row_of.ensures ∙ c.in-Some.is) in
    rw (
      sym c.is_malformed.ensures ∙ c.if-is_malformed.false,
      k.0,
      ne_eqb _ 0 k.1,
      c.said_with-in-Some.ensures,
      lt-leb c.in-Some.row.order c.args.last (omega (arith, c.if-row-last.false)),
      sym c.length_fits.ensures ∙ c.if-not-length_fits.false,
    )
