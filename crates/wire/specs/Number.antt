-- Document 01, "Reading packets": "TLV variable numbers of 1, 3, 5 or 9 bytes, shortest form only", over a list of bytes.
-- Assumes nothing.
use Rattle.std.specs.Prelude.{ℕ, suc, ◌+◌, ◌*◌, Bool, ◌||◌, List, [], ◌∷◌, length, take, drop, ltb, eqb}
use Rattle.laws.specs.Pick.{pick}

-- the number that bytes make after a, the highest byte first
unfoldable pub big : ℕ → List ℕ → ℕ
big a [] = a
big a (b ∷ l) = big (a * 256 + b) l

-- a number as it stands: its value, how many bytes it takes, and what follows it
pub data Got : Type 0 where
  nothing : Got
  got : ℕ → ℕ → List ℕ → Got

-- n bytes after the first one
unfoldable pub wide : ℕ → List ℕ → Got
wide n l = pick (ltb (length l) n) nothing (got (big 0 (take n l)) (suc n) (drop n l))

-- the forms of 3, 5 and 9 bytes, whose first byte is 253, 254 and 255
unfoldable pub long : ℕ → List ℕ → Got
long b l = pick (eqb b 253) (wide 2 l) (pick (eqb b 254) (wide 4 l) (wide 8 l))

-- "numbers of 1, 3, 5 or 9 bytes": the first byte says which
unfoldable pub any_number : List ℕ → Got
any_number [] = nothing
any_number (b ∷ l) = pick (ltb b 253) (got b 1 l) (long b l)

-- how many bytes the shortest form of n takes
unfoldable pub width_of : ℕ → ℕ
width_of n = pick (ltb n 253) 1 (pick (ltb n 65536) 3 (pick (ltb n 4294967296) 5 9))

-- "shortest form only"
unfoldable pub shortest : Got → Got
shortest nothing = nothing
shortest (got v w l) = pick (eqb w (width_of v)) (got v w l) nothing

-- a variable number at the start of the bytes
unfoldable pub number : List ℕ → Got
unfolding pick big wide long any_number width_of shortest
number l = shortest (any_number l)

-- "Whole numbers in elements take 1, 2, 4 or 8 bytes."
unfoldable pub is_whole : ℕ → Bool
is_whole n = eqb n 1 || eqb n 2 || eqb n 4 || eqb n 8
