-- Document 01, "Examples": "Numbers are groups of seven bits, low first, top bit set on all but the last, shortest form, at most 64 bits."
-- Assumes nothing.
use Rattle.std.specs.Prelude.{ℕ, suc, ◌+◌, ◌*◌, ◌-◌, ◌^◌, Bool, ◌&&◌, ◌||◌, List, [], ◌∷◌, length, drop, ltb, leb, eqb, None, Option, Some}
use Rattle.laws.specs.Pick.{pick}

-- groups of seven bits: their number, how many there are, and what follows them
pub data Groups : Type 0 where
  cut : Groups
  groups : ℕ → ℕ → List ℕ → Groups

-- one group more in front, the lowest
unfoldable pub lower : ℕ → Groups → Groups
lower d cut = cut
lower d (groups v n l) = groups (d + 128 * v) (suc n) l

-- "low first, top bit set on all but the last"
unfoldable pub sevens : List ℕ → Groups
sevens [] = cut
sevens (b ∷ l) = pick (ltb b 128) (groups b 1 l) (lower (b - 128) (sevens l))

-- "shortest form, at most 64 bits": the last group of several is not 0
unfoldable pub regular : ℕ → ℕ → Bool
regular v n = (eqb n 1 || leb (128 ^ (n - 1)) v) && ltb v (2 ^ 64)

-- a number, with its place past it in a slice s
unfoldable pub number_in : List ℕ → Groups → Option (ℕ × ℕ)
number_in s cut = None
number_in s (groups v n l) = pick (regular v n) (Some (v, (length s - length l))) None

-- the number at a place of a slice
unfoldable pub tape_number_at : List ℕ → ℕ → Option (ℕ × ℕ)
tape_number_at s at = number_in s (sevens (drop at s))
