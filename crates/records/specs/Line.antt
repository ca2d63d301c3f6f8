-- The dead nonce list: fingerprints with the time when they joined, the oldest first.
-- Assumes nothing.
use Rattle.std.specs.Prelude.{ℕ, ◌-◌, Bool, ◌&&◌, List, [], ◌∷◌, ◌++◌, length, drop, ltb, eqb}
use Rattle.laws.specs.Pick.{pick}
use Rattle.sizes.specs.Sizes.{dead_time}
use Rattle.records.specs.Slots.{any_of}

-- a line of the list: a fingerprint, and when it joined
pub record Line : Type 0 where
  pub print : ℕ
  pub time : ℕ

-- "the 257th overwrites the oldest": a line joins a list of a size
unfoldable pub joined : ℕ → List Line → Line → List Line
joined size ls x = pick (ltb (length ls) size) (ls ++ (x ∷ [])) (drop 1 ls ++ (x ∷ []))

-- lines join one after the other
unfoldable pub joined_all : ℕ → List Line → List Line → List Line
joined_all size ls [] = ls
joined_all size ls (x ∷ xs) = joined_all size (joined size ls x) xs

-- "A line counts while now minus its time is under 6,000."
unfoldable pub counts : ℕ → ℕ → Line → Bool
counts now print x = eqb x.print print && ltb (now - x.time) dead_time

-- "a live fingerprint equals this one": whether some line with this fingerprint counts now
unfoldable pub is_dead : ℕ → ℕ → List Line → Bool
is_dead now print ls = any_of (counts now print) ls
