-- The test of one face after the other is the test of what is held for all.
use borrow.Author.Rules.{rules}
use borrow.Author.Tests.{tests}
use mathlib.Core.Path.{◌≡◌}
use Rattle.std.proofs.Math.Bool.{true, false}
use Rattle.std.proofs.lemmas.Iterator.{cases_from_any}
use lib.Dec.{eqb}
use Rattle.faces.specs.Laws.Gives.{walk_lists}
use Rattle.pending_records.specs.Places.Walk.{column_at}
use Rattle.pending_records.specs.Laws.Nonce.{any_found}
use Rattle.pending_records.proofs.column_has.Goals as goal

pub returns : goal.returns
unfolding column_at
returns c =
    let a = c.args in
    let lists = walk_lists (column_at a.recs.now a.column) c.of.result in
    let found = cases_from_any _ _ _ (λ h. eqb h.what a.nonce ≡ true) (λ h. eqb h.what a.nonce ≡ false) c.any.ensures.ran lists
    (λ f q k. search (rules, tests)) (λ f q k. search (rules, tests)) in
    rw (← c.of.ensures) (any_found (λ h. eqb h.what a.nonce) c.any.result _ found)
