-- Sets of small numbers as the binary digits of a number: membership, a member more or less.
-- Assumes nothing.
use Rattle.std.specs.Prelude.{ℕ, zero, suc, ◌+◌, ◌-◌, ◌/◌, ◌%◌, ◌^◌, Bool, eqb}
use Rattle.laws.specs.Pick.{pick}

-- the digit f of the number s: 1 where f is in the set s, else 0
unfoldable pub digit : ℕ → ℕ → ℕ
digit zero s = s % 2
digit (suc f) s = digit f (s / 2)

-- f is in the set s
unfoldable pub member : ℕ → ℕ → Bool
member f s = eqb (digit f s) 1

-- the set s with f
unfoldable pub added : ℕ → ℕ → ℕ
added f s = pick (member f s) s (s + 2 ^ f)

-- the set s without f
unfoldable pub removed : ℕ → ℕ → ℕ
removed f s = pick (member f s) (s - 2 ^ f) s
