-- Closing a face is a pass over all entries.
use borrow.Author.Rules.{rules}
use Rattle.names.specs.Fingerprint.{fingerprint}
use Rattle.pending_pass.specs.Places.Works.{closing_work}
use Rattle.pending_pass.specs.Laws.Works.{pass_closes}
use Rattle.pending_pass.proofs.close_face.Goals as goal

pub pass-requires-clause-turns : goal.pass-requires-clause-turns
pass-requires-clause-turns c =
    let a = c.args in (
      closing_work (fingerprint a.start) a.time a.face,
      a.t.names.now,
      λ x. x,
      a.t.recs.now,
      λ s u h d r k n s' u' d' r' z e q. search rules,
    )

pub returns : goal.returns
returns c =
    let a = c.args in
    let t = a.t in
    pass_closes _ _ _ _ _ _ _ _ _ _ _ _ (c.all-chosen.ensures t.names.now t.heads.now t.recs.now t.numbers.now)
    (c.pass.ensures (closing_work (fingerprint a.start) a.time a.face) t.names.now (λ x. x) t.recs.now
    (λ s u h d r k n s' u' d' r' z e q. search rules))
