-- Worked cases of the order of opening, by computation.
-- Assumes nothing.
use Rattle.std.specs.Prelude.{◌≡◌, refl, [], ◌∷◌, map}
use Rattle.laws.specs.Digits.{member, digit}
use Rattle.laws.specs.Pick.{pick}
use Rattle.laws.specs.Places.Loop.{first}
use Rattle.pending_order.specs.Order.{before, insert, ordered, rows_of}
use Rattle.pending_order.specs.Places.Rows.{above, above_of, free_of, numbered}

-- numbers 7, 3, 7, 1: all rows, three of them, none; equal numbers by place; digits past the rows are not rows
pub order_cases : map (rows_of 4 (7 ∷ 3 ∷ 7 ∷ 1 ∷ [])) (15 ∷ 7 ∷ 13 ∷ 0 ∷ 16 ∷ [])
    ≡ (3 ∷ 1 ∷ 0 ∷ 2 ∷ []) ∷ (1 ∷ 0 ∷ 2 ∷ []) ∷ (3 ∷ 0 ∷ 2 ∷ []) ∷ [] ∷ [] ∷ []
unfolding rows_of ordered insert before pick member digit
order_cases = refl

-- the number above those of the used rows, and the lowest free row
pub number_cases : map (above_of 4 (7 ∷ 3 ∷ 7 ∷ 1 ∷ [])) (15 ∷ 10 ∷ 8 ∷ 0 ∷ []) ≡ 8 ∷ 4 ∷ 2 ∷ 0 ∷ []
unfolding above_of above pick member digit
number_cases = refl

pub free_cases : map (free_of 4) (15 ∷ 7 ∷ 13 ∷ 0 ∷ []) ≡ 4 ∷ 3 ∷ 1 ∷ 0 ∷ []
unfolding free_of first pick member digit
free_cases = refl

-- rows numbered anew
pub renumber_case : numbered (7 ∷ 3 ∷ 7 ∷ 1 ∷ []) 0 (3 ∷ 0 ∷ 2 ∷ []) ≡ 1 ∷ 3 ∷ 2 ∷ 0 ∷ []
unfolding numbered
renumber_case = refl
