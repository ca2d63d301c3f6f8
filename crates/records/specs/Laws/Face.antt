-- Which numbers are faces of n.
-- Assumes nothing.
use Rattle.std.specs.Prelude.{ℕ, ◌≤◌, ◌≡◌, refl, Bool, true, false, ◌↔◌}
use Rattle.std.proofs.Common.{sym, ◌∙◌, true≢false, leb-true, le-leb}
use Rattle.laws.specs.Laws.Loop.{and_both}
use Rattle.records.specs.Face.{is_face}

-- the faces of n are the numbers from 1 to n
pub face_yes : (n f : ℕ) → (is_face n f ≡ true) ↔ ((1 ≤ f) × (f ≤ n))
unfolding is_face
face_yes n f = (
  (λ e. let h = and_both _ _ e in (leb-true 1 f h.0, leb-true f n h.1)),
  (λ h. rw (le-leb 1 f h.0, le-leb f n h.1)),
)

-- no other number is a face
pub face_no : (n f : ℕ) → (is_face n f ≡ false) ↔ ((1 ≤ f) × (f ≤ n) → ⊥)
unfolding is_face
face_no n f = (
  (λ e h. true≢false (sym ((face_yes n f).1 h) ∙ e)),
  (λ h. go (is_face n f) (λ e. h ((face_yes n f).0 e))),
)
  where
    go : (b : Bool) → (b ≡ true → ⊥) → b ≡ false
    go true h = absurd (h refl)
    go false h = refl
