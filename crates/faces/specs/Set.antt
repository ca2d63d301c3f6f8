-- A set of faces as the binary digits of a number: face f is digit f - 1. Digits past the number n of faces are not members.
-- Assumes nothing.
use Rattle.std.specs.Prelude.{ℕ, zero, suc, ◌+◌, ◌-◌, ◌%◌, ◌^◌, Bool, ◌&&◌}
use Rattle.std.specs.Int.Count.{ones, count_trailing_zeros}
use Rattle.laws.specs.Pick.{pick}
use Rattle.laws.specs.Digits.{member, added, removed}
use Rattle.records.specs.Face.{is_face}

-- whether a set has a face
unfoldable pub has_face : ℕ → ℕ → ℕ → Bool
has_face n s f = is_face n f && member (f - 1) s

-- the set with a face more
unfoldable pub with_face : ℕ → ℕ → ℕ → ℕ
with_face n s f = pick (is_face n f) (added (f - 1) s) s

-- the set without a face
unfoldable pub minus_face : ℕ → ℕ → ℕ → ℕ
minus_face n s f = pick (is_face n f) (removed (f - 1) s) s

-- how many faces a set has
unfoldable pub size_of : ℕ → ℕ → ℕ
size_of n s = ones (s % 2 ^ n)

-- the lowest face of a set, one past the last face where it has none
unfoldable pub lowest_face : ℕ → ℕ → ℕ
lowest_face n s = count_trailing_zeros 64 (s % 2 ^ n + 2 ^ n) + 1

-- the set of those of n faces that p holds of
unfoldable pub faces_where : ℕ → (ℕ → Bool) → ℕ
faces_where zero p = 0
faces_where (suc n) p = faces_where n p + pick (p (suc n)) (2 ^ n) 0
