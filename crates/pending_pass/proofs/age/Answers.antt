-- Ageing is a pass over the entries that it concerns.
use borrow.Author.Rules.{rules}
use Rattle.sizes.specs.Sizes.{most_faces}
use Rattle.names.specs.Fingerprint.{fingerprint}
use Rattle.pending_table.specs.Places.View.{view_most, view_wide}
use Rattle.pending_pass.specs.Places.Works.{ageing_work}
use Rattle.pending_pass.specs.Laws.Works.{pass_ages}
use Rattle.pending_pass.specs.Laws.Asked.{rows_few}
use Rattle.pending_pass.proofs.age.Goals as goal

pub pass-requires-clause-turns : goal.pass-requires-clause-turns
pass-requires-clause-turns c =
    let a = c.args in (
      ageing_work (fingerprint a.start) a.time,
      a.t.names.now,
      λ x. x,
      a.t.recs.now,
      λ s u h d r k n s' u' d' r' z e q. search rules,
    )

pub returns : goal.returns
returns c =
    let a = c.args in
    pass_ages _ _ _ _ _ 0 _ _ _ _ _ c.overdue_entries-chosen.ensures
    (c.pass.ensures (ageing_work (fingerprint a.start) a.time) a.t.names.now (λ x. x) a.t.recs.now
    (λ s u h d r k n s' u' d' r' z e q. search rules))
    (rows_few _ _ (λ i e p. (view_wide most_faces _ _ _ _ _ i e p).0) (view_most most_faces _ _ _ _ _))
