-- What the code finds among the rows: the first, the largest number, a free row; rows numbered anew, and a row opened.
-- Assumes nothing.
use Rattle.std.specs.Prelude.{ℕ, zero, suc, ◌^◌, ◌≤◌, ◌<◌, max, ◌≡◌, Bool, not, List, [], ◌∷◌, ◌++◌, ltb, get_or, set, None, Option, Some}
use Rattle.laws.specs.Pick.{pick}
use Rattle.laws.specs.Lists.{index_of}
use Rattle.laws.specs.Digits.{member, added}
use Rattle.laws.specs.Places.Loop.{first}
use Rattle.pending_order.specs.Order.{ordered, rows_of}

-- the first of the rows that p holds of, n where there is none
unfoldable pub least : (ℕ → ℕ) → (ℕ → Bool) → ℕ → ℕ
least w p n = get_or (ordered w p n) 0 n

-- the least number that is above those of all of them
unfoldable pub above : (ℕ → ℕ) → (ℕ → Bool) → ℕ → ℕ
above w p zero = 0
above w p (suc n) = pick (p n) (max (suc (w n)) (above w p n)) (above w p n)

-- the first of the used rows, n where there is none
unfoldable pub least_of : ℕ → List ℕ → ℕ → ℕ
least_of n numbers used = least (λ s. get_or numbers s 0) (λ s. member s used) n

-- the first of them that q holds of, n where there is none
unfoldable pub first_of : ℕ → List ℕ → ℕ → (ℕ → Bool) → ℕ
first_of n numbers used q = get_or (rows_of n numbers used) (index_of q (rows_of n numbers used)) n

-- the least number above those of all of them
unfoldable pub above_of : ℕ → List ℕ → ℕ → ℕ
above_of n numbers used = above (λ s. get_or numbers s 0) (λ s. member s used) n

-- the numbers with k, k + 1 .. for the rows of a list
unfoldable pub numbered : List ℕ → ℕ → List ℕ → List ℕ
numbered numbers k [] = numbers
numbered numbers k (s ∷ l) = numbered (set numbers s k) (suc k) l

-- the lowest row that is not used, n where all are
unfoldable pub free_of : ℕ → ℕ → ℕ
free_of n used = first (λ s. not (member s used)) 0 n

-- the better of the best row so far, n where there is none, and a later row; a number that is no row is not better
unfoldable pub better : ℕ → List ℕ → ℕ → ℕ → ℕ
better n numbers best s =
    pick (ltb s n) (pick (ltb best n) (pick (ltb (get_or numbers s 0) (get_or numbers best 0)) s best) s) best

-- a number for a row, if it fits a word
unfoldable pub next_in : ℕ → Option ℕ
next_in x = pick (ltb x (2 ^ 64)) (Some x) None

-- numbers that keep the order, and a number above them
pub record Fresh (n : ℕ) (numbers others : List ℕ) (used number : ℕ) : Type 0 where
  pub same : rows_of n others used ≡ rows_of n numbers used
  pub above : above_of n others used ≤ number

-- a row opened: the lowest free row, if there is one, comes last; a full table is as it was
pub record Opens (n : ℕ) (numbers others : List ℕ) (used row more : ℕ) : Type 0 where
  pub free : row ≡ free_of n used
  pub fits : row < n → (more ≡ added row used) × (rows_of n others more ≡ rows_of n numbers used ++ (row ∷ []))
  pub full : n ≤ row → (more ≡ used) × (others ≡ numbers)
