-- Writing: the bytes of a number in its shortest form, and of an element.
-- Assumes nothing.
use Rattle.std.specs.Prelude.{ℕ, zero, suc, ◌/◌, ◌%◌, List, [], ◌∷◌, ◌++◌, length, ltb}
use Rattle.laws.specs.Pick.{pick}

-- n in k bytes, the highest first
unfoldable pub bytes_of : ℕ → ℕ → List ℕ
bytes_of zero n = []
bytes_of (suc k) n = bytes_of k (n / 256) ++ (n % 256 ∷ [])

-- a variable number in its shortest form
unfoldable pub encoded : ℕ → List ℕ
encoded n =
    pick (ltb n 253) (n ∷ [])
    (pick (ltb n 65536) (253 ∷ bytes_of 2 n) (pick (ltb n 4294967296) (254 ∷ bytes_of 4 n) (255 ∷ bytes_of 8 n)))

-- an element's head: its type and the length of its value
unfoldable pub head_of : ℕ → ℕ → List ℕ
head_of t n = encoded t ++ encoded n

-- an element
unfoldable pub written : ℕ → List ℕ → List ℕ
unfolding pick bytes_of encoded head_of
written t v = head_of t (length v) ++ v
