-- A walk over the set's faces, the lowest first: one law for the start, one for a turn, one for the end.
use borrow.Author.Rules.{rules}
use mathlib.Core.Path.{ap, ◌∙◌}
use Prim.Native.Nat.{ℕ}
use Rattle.sizes.specs.Sizes.{most_faces}
use Rattle.faces.specs.Set.{has_face}
use Rattle.faces.specs.Laws.Set.{has_removed_same, has_removed_other}
use Rattle.faces.specs.Laws.Gives.{starts}
use Rattle.pending_pass.specs.Laws.Lowest.{lowers_start, lowers_turn, lowers_end}
use Rattle.pending_pass.proofs.lower_words.Goals as goal

pub loop-face-init : goal.loop-face-init
loop-face-init c =
    rw (starts c.into_iter-face-iterator.ensures.into_iter_gives c.of-face-items.ensures) (lowers_start _ _ _ _ _ (search rules))

pub loop-face-preserved : goal.loop-face-preserved
loop-face-preserved c =
    let s = c.in-Some.ensures.steps in
    let left = c.loop-face.face-iterator.left in
    let r = s.rest in
    let e = c.lower_word-have.ensures in
    lowers_turn _ _ _ _ _ _ _ _ _ c.loop-face.invariant s.walk s.within _ _ _
    (ap (λ (x : ℕ). has_face most_faces x c.in-Some.face) r ∙ has_removed_same most_faces left c.in-Some.face)
    (λ g d. ap (λ (x : ℕ). has_face most_faces x g) r ∙ has_removed_other most_faces left c.in-Some.face g d)
    e.told e.lowered

pub returns : goal.returns
returns c = let s = c.in-None.ensures.steps in lowers_end _ _ _ _ _ _ _ _ _ c.loop-face.invariant s.walk s.past
