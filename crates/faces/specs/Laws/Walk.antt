-- A walk over a set of faces, from the lowest face up: the set that is left gets smaller, and what is kept for its faces with it.
-- Assumes nothing.
use Rattle.std.specs.Prelude.{ℕ, ◌-◌, ◌≤◌, ◌<◌, ◌≡◌, true, [], ◌∷◌}
use Rattle.std.proofs.Common.{arith}
use Rattle.records.specs.Slots.{held}
use Rattle.faces.specs.Set.{has_face, minus_face, lowest_face}
use Rattle.faces.specs.Laws.Set.{lowest_has}
use Rattle.faces.specs.Slots.{slots_of}
use Rattle.faces.specs.Laws.Slot.{lowest_less, held_more, held_end}

-- a walk with the set s left is at face f
pub record Walks (n s f : ℕ) : Type 0 where
  pub few : n ≤ 64
  pub lowest : f ≡ lowest_face n s
  pub first : 1 ≤ f

-- a walk is at the lowest face of what is left
pub walks : {n s f : ℕ} → n ≤ 64 → f ≡ lowest_face n s → Walks n s f
unfolding lowest_face
walks w e = record { few = w; lowest = e; first = omega arith }

module _ {n s f : ℕ} (a : Walks n s f) where
  -- a walk is at a face of what is left
  pub walk_has : f ≤ n → has_face n s f ≡ true
  walk_has l = rw a.lowest (lowest_has n s a.few (omega arith))

  -- each turn of a walk leaves a smaller set
  pub walk_less : f ≤ n → {t : ℕ} → t ≡ minus_face n s f → t < s
  walk_less l e = omega (arith, lowest_less n s f a.few a.lowest l)

  -- a turn takes what is held for the face, and leaves what is held without it
  pub walk_more : f ≤ n → {t : ℕ} → t ≡ minus_face n s f → {A : Type 0} (g : ℕ → A)
      → held (slots_of n s g) ≡ record { face = f; what = g (f - 1) } ∷ held (slots_of n t g)
  walk_more l e g = rw (e, a.lowest) (held_more n s g a.few (omega arith))

  -- at the end nothing is left
  pub walk_end : n < f → {A : Type 0} (g : ℕ → A) → held (slots_of n s g) ≡ []
  walk_end l g = held_end n s g a.few (omega arith)
