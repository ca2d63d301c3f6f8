-- For a face the set and the record are set.
use borrow.Author.Rules.{rules}
use native.Mathlib.Omega.{arith}
use mathlib.Core.Path.{◌≡◌, sym, ◌∙◌}
use mathlib.Core.List.{[]}
use Prim.Native.Nat.{◌-◌}
use Rattle.std.proofs.Math.ListN.{length, get_or}
use Rattle.sizes.specs.Sizes.{most_faces}
use Rattle.laws.specs.Places.Rows.{at}
use Rattle.pending_entry.specs.Laws.Write.{sent_written, sends_written}
use Rattle.pending_entry.specs.Laws.Change.{view_sending}
use Rattle.pending_entry.proofs.send.Goals as goal

pub returns-then-is_face : goal.returns-then-is_face
unfolding at
returns-then-is_face c =
    let a = c.args in
    let q = sym c.is_face.ensures ∙ c.if-is_face.true in
    let six : length a.head.now ≡ 6 = search rules in
    let rows : length a.recs.now ≡ most_faces = search rules in
    let five : length (get_or a.recs.now (a.face - 1) []) ≡ 5 = search rules in
    λ nm. rw (sent_written a.head.now six c.add.result, sends_written _ five c.args.nonce c.args.time 0, c.add.ensures)
    (view_sending most_faces nm _ _ _ q (omega arith) _ _)
