-- Two faces that code gives are one where they mean one.
-- Assumes nothing.
use Rattle.std.specs.Prelude.{ℕ, ◌≡◌, Some, None}
use Rattle.std.specs.declared.option.Option as code
use Rattle.std.proofs.Math.Path.{refl, sym, ap}
use Rattle.std.proofs.Math.Option.{none-ne-some, some-injective}
use Rattle.faces.specs.Found.{face_in}

-- what code gives is what it means
pub face_one : (x y : code.Option ℕ) → face_in x ≡ face_in y → x ≡ y
unfolding face_in
face_one None None e = refl
face_one None (Some f) e = absurd (none-ne-some _ e)
face_one (Some f) None e = absurd (none-ne-some _ (sym e))
face_one (Some f) (Some g) e = ap (λ (h : ℕ). Some h) (some-injective _ _ e)
