-- The used rows of a table whose rows stay in place, in the order of opening: by a number for each row, and by the place where numbers
-- are equal.
-- Which rows are used is told by a word's digits.
-- Assumes nothing.
use Rattle.std.specs.Prelude.{ℕ, zero, suc, ◌-◌, Bool, ◌&&◌, ◌||◌, List, [], ◌∷◌, map, ltb, eqb, get_or}
use Rattle.laws.specs.Pick.{pick}
use Rattle.laws.specs.Lists.{index_of}
use Rattle.laws.specs.Digits.{member}

-- whether row s was opened before row t, where w gives each row's number
unfoldable pub before : (ℕ → ℕ) → ℕ → ℕ → Bool
before w s t = ltb (w s) (w t) || (eqb (w s) (w t) && ltb s t)

-- rows in order, with one more put in its place
unfoldable pub insert : (ℕ → ℕ) → ℕ → List ℕ → List ℕ
insert w s [] = s ∷ []
insert w s (a ∷ l) = pick (before w s a) (s ∷ a ∷ l) (a ∷ insert w s l)

-- those of n rows that p holds of, in order
unfoldable pub ordered : (ℕ → ℕ) → (ℕ → Bool) → ℕ → List ℕ
ordered w p zero = []
ordered w p (suc n) = pick (p n) (insert w n (ordered w p n)) (ordered w p n)

-- the used rows, in order
unfoldable pub rows_of : ℕ → List ℕ → ℕ → List ℕ
rows_of n numbers used = ordered (λ s. get_or numbers s 0) (λ s. member s used) n

-- the entries of a table, where each row is an entry
unfoldable pub view_of : {A : Type 0} → ℕ → (ℕ → A) → List ℕ → ℕ → List A
view_of n entry_at numbers used = map entry_at (rows_of n numbers used)

-- the place of row s in a list of rows, the length where it is not there
unfoldable pub place_in : ℕ → List ℕ → ℕ
place_in s l = index_of (λ t. eqb t s) l

-- the place of the element that was at j, when that at i is taken out; past the last of n where it is itself gone
unfoldable pub place_without : ℕ → ℕ → ℕ → ℕ
place_without i j n = pick (eqb i j) n (pick (ltb i j) (j - 1) j)
