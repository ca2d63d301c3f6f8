-- The return joins the pass, the lowest classes and the faces of the copies.
use borrow.Author.Rules.{rules}
use Rattle.sizes.specs.Sizes.{most_faces}
use Rattle.names.specs.Fingerprint.{fingerprint}
use Rattle.pending_pass.specs.Satisfies.{data_fate}
use Rattle.pending_pass.specs.Places.Works.{satisfying_work}
use Rattle.pending_pass.specs.Laws.Works.{pass_satisfies}
use Rattle.pending_pass.specs.Laws.Lowest.{lowest_words, lowest_owed}
use Rattle.pending_pass.proofs.satisfy.Goals as goal

pub pass-made-requires-clause-turns : goal.pass-made-requires-clause-turns
pass-made-requires-clause-turns c =
    let a = c.args in (
      satisfying_work (fingerprint a.start) a.time (data_fate a.face a.adhoc),
      a.t.names.now,
      λ _. a.t.heads.now,
      a.t.recs.now,
      λ s u h d r k n s' u' d' r' z e q. search rules,
    )

pub returns : goal.returns
returns c =
    let a = c.args in
    let t = a.t in
    let l = c.lowest_classes-asked.ensures in
    pass_satisfies _ _ _ _ _ _ _ _ _ _ _ a.face a.adhoc _ (c.matching-chosen.ensures t.recs.now t.numbers.now)
    (c.pass-made.ensures (satisfying_work (fingerprint a.start) a.time (data_fate a.face a.adhoc)) t.names.now (λ _. t.heads.now) t.recs.now
    (λ s u h d r k n s' u' d' r' z e q. search rules))
    _ (lowest_words most_faces _ _ _ l)
    _ (lowest_owed most_faces a.face a.adhoc _ _ _ _ _ l c.self_met.ensures c.less.ensures)
