-- What a walk over the faces of a set gives, for n faces: the lowest face that is left, and the set without it; at the end none is left.
-- Assumes nothing.
use Rattle.std.specs.Prelude.{ℕ, ◌≡◌, ◌<◌, ◌≤◌, true, Option, MatchOption}
use Rattle.faces.specs.Set.{has_face, lowest_face, minus_face}
use Rattle.faces.specs.Laws.Walk.{Walks}
use Rattle.faces.specs.declared.Walk.{Walk}

-- a walk with the set s left gives face f, and the set t is left
pub record Gave (n s f t : ℕ) : Type 0 where
  pub walk : Walks n s f
  pub first : 1 ≤ f
  pub within : f ≤ n
  pub has : has_face n s f ≡ true
  pub rest : t ≡ minus_face n s f

-- a walk with the set s left is at its end, and the set t is left
pub record Ended (n s t : ℕ) : Type 0 where
  pub walk : Walks n s (lowest_face n s)
  pub past : n < lowest_face n s
  pub rest : t ≡ s

-- one step of a walk
abbrev pub Gives : ℕ → Walk → Option ℕ → Walk → Type 0
Gives n s r t = MatchOption r (Ended n s.left t.left) (λ f. Gave n s.left f t.left)
