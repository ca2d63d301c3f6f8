-- Numbers as they are printed: ASCII digits, the highest first, in the shortest form.
-- Assumes nothing.
use Rattle.std.specs.Prelude.{ℕ, zero, suc, ◌+◌, ◌-◌, ◌*◌, ◌/◌, ◌%◌, List, [], ◌∷◌, ◌++◌, ltb}
use Rattle.laws.specs.Pick.{pick}

-- the digits of n, at most k of them before the last
unfoldable pub digits_of : ℕ → ℕ → List ℕ
digits_of zero n = (48 + n % 10) ∷ []
digits_of (suc k) n = pick (ltb n 10) ((48 + n % 10) ∷ []) (digits_of k (n / 10) ++ ((48 + n % 10) ∷ []))

-- the digits of n in its shortest form, "0" for 0; n of them are always enough
unfoldable pub decimal : ℕ → List ℕ
decimal n = digits_of n n

-- the number whose digits follow those of a
unfoldable pub undigits : ℕ → List ℕ → ℕ
undigits a [] = a
undigits a (d ∷ l) = undigits (a * 10 + (d - 48)) l

-- the number that digits stand for
unfoldable pub undecimal : List ℕ → ℕ
undecimal l = undigits 0 l
