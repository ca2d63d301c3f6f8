-- Of what is kept for each face, the least by any test is the least in the set of the faces that the test holds of.
-- Assumes nothing.
use Rattle.std.specs.Prelude.{ℕ, suc, ◌+◌, ◌≤◌, ◌<◌, ◌≡◌, refl, Bool, List, [], ◌∷◌, length}
use Rattle.std.proofs.Math.Option.{Option, none, some}
use Rattle.std.proofs.Common.{arith}
use Rattle.records.specs.Slots.{held, held_from, only, least_face}
use Rattle.records.specs.Laws.Face.{face_yes}
use Rattle.faces.specs.Set.{has_face, faces_where}
use Rattle.faces.specs.Laws.Set.{where_has}

-- tests that agree on the faces that have a slot hold of the same of what is kept
only_ext : {A : Type 0} (p q : ℕ → Bool) (f : ℕ) (l : List (Option A)) → ((g : ℕ) → f ≤ g → g < f + length l → p g ≡ q g)
    → only (λ h. p h.face) (held_from f l) ≡ only (λ h. q h.face) (held_from f l)
unfolding only held_from
only_ext p q f [] e = refl
only_ext p q f (none ∷ l) e = only_ext p q (suc f) l (λ g a b. e g (omega arith) (omega arith))
only_ext p q f (some x ∷ l) e =
    rw (e f (omega arith) (omega arith), only_ext p q (suc f) l (λ g a b. e g (omega arith) (omega arith)))

-- the least in the set of the faces that p holds of is the least that p holds of
pub least_where : {A : Type 0} (n : ℕ) (p : ℕ → Bool) (by : A → ℕ) (l : List (Option A)) → length l ≡ n
    → least_face by (has_face n (faces_where n p)) l ≡ least_face by p l
unfolding least_face held
least_where n p by l e =
    rw (only_ext (has_face n (faces_where n p)) p 1 l (λ g a b. where_has n g p ((face_yes n g).1 (omega arith, omega arith))))
