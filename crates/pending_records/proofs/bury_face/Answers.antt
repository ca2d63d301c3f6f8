-- A face of the set has its line joined; no other number has one.
use mathlib.Core.Path.{sym, ◌∙◌}
use Rattle.sizes.specs.Sizes.{most_faces}
use Rattle.names.specs.Fingerprint.{fingerprint}
use Rattle.records.specs.Line.{joined_all}
use Rattle.pending_records.specs.Laws.Line.{view_own_line, view_no_line}
use Rattle.pending_records.proofs.bury_face.Goals as goal

pub returns-then-has : goal.returns-then-has
unfolding joined_all
returns-then-has c =
    let a = c.args in
    let there = sym c.has.ensures ∙ c.if-has.true in
    rw (
      view_own_line most_faces a.name.now a.head.now a.recs.now (fingerprint a.start) a.time _ there,
      sym c.part-own.ensures,
      sym c.fingerprint_from-print.ensures,
    ) c.join.ensures.joins

pub returns-else-has : goal.returns-else-has
unfolding joined_all
returns-else-has c =
    let a = c.args in
    let none = sym c.has.ensures ∙ c.if-has.false in
    rw (view_no_line most_faces a.name.now a.head.now a.recs.now (fingerprint a.start) a.time _ none)
