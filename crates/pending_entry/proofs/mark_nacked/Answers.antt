-- A face with an out-record has its Nack word set.
use borrow.Author.Rules.{rules}
use native.Mathlib.Omega.{arith}
use mathlib.Core.Path.{◌≡◌, sym, ◌∙◌}
use mathlib.Core.List.{[]}
use Prim.Native.Nat.{◌-◌}
use Rattle.std.proofs.Math.ListN.{length, get_or}
use Rattle.sizes.specs.Sizes.{most_faces}
use Rattle.laws.specs.Places.Rows.{at}
use Rattle.pending_entry.specs.Laws.Write.{nack_written}
use Rattle.pending_entry.specs.Laws.Change.{view_nacking}
use Rattle.pending_entry.proofs.mark_nacked.Goals as goal

pub returns-then-has : goal.returns-then-has
unfolding at
returns-then-has c =
    let a = c.args in
    let e = sym c.has.ensures ∙ c.if-has.true in
    let rows : length a.recs.now ≡ most_faces = search rules in
    let five : length (get_or a.recs.now (a.face - 1) []) ≡ 5 = search rules in
    λ nm. rw (nack_written _ five c.nack_word.result, c.nack_word.ensures) (view_nacking most_faces nm _ _ _ _ (omega arith) e)
