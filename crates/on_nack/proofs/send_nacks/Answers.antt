-- A walk over the set's faces, the lowest first: one law for the start, one for a turn, one for the end.
use borrow.Author.Rules.{rules}
use mathlib.Core.Path.{refl, ◌∙◌}
use Rattle.faces.specs.Laws.Gives.{starts}
use Rattle.on_nack.specs.Laws.Nacks.{put_length, nacks_start, nacks_turn, nacks_end}
use Rattle.on_nack.proofs.send_nacks.Goals as goal

pub loop-face-init : goal.loop-face-init
loop-face-init c = (
  rw (starts c.into_iter-face-iterator.ensures.into_iter_gives c.of-face-items.ensures)
      (nacks_start _ _ _ _ _ _ _ _ _ (search rules) (search rules)),
  refl,
)

pub loop-face-preserved : goal.loop-face-preserved
loop-face-preserved c =
    let s = c.in-Some.ensures.steps in
    let i = c.loop-face.invariant in (
      nacks_turn _ _ _ _ _ _ _ _ _ s.walk s.within s.rest c.nonce_of.ensures i.0 c.put_nack-sent.ensures,
      put_length _ _ _ c.put_nack-sent.ensures ∙ i.1,
    )

pub returns : goal.returns
returns c = let s = c.in-None.ensures.steps in nacks_end _ _ _ _ _ _ _ _ _ s.walk s.past c.loop-face.invariant.0
