-- What the cursor's methods answer: the definitions over lists, with a place for each list that is left. A place in s is told by
-- what is left of s there, so that each answer is fixed by the lists alone.
-- Assumes nothing.
use Rattle.wire.specs.declared.read.Element.{Element}
use Rattle.std.specs.Prelude.{ℕ, ◌-◌, List, length, drop, None, Option, Some}
use Rattle.laws.specs.Pick.{pick}
use Rattle.wire.specs.declared.read.Cursor.{Cursor}
use Rattle.wire.specs.Number.{big, Got, nothing, got, long, any_number, number, is_whole}
use Rattle.wire.specs.Element.{Elem, bad, elem, element}

-- the cursor at which l is what is left of s
unfoldable pub cursor_at : List ℕ → List ℕ → Cursor
cursor_at s l = record { at = length s - length l }

-- a number's value, and the cursor past it
unfoldable pub number_in : List ℕ → Got → Option (ℕ × Cursor)
number_in s nothing = None
number_in s (got v w l) = Some (v, (cursor_at s l))

-- an element's type, the place and length of its value, and the cursor past it
unfoldable pub element_in : List ℕ → Elem → Option (Element × Cursor)
element_in s bad = None
element_in s (elem t v l) = Some ((record { typ = t; at = length s - length l - length v; len = length v }), (cursor_at s l))

-- the number of 3, 5 or 9 bytes whose first byte b stands before a place
unfoldable pub long_number_at : List ℕ → ℕ → ℕ → Option (ℕ × Cursor)
long_number_at s b at = number_in s (long b (drop at s))

-- the number at a place, in any form
unfoldable pub any_number_at : List ℕ → ℕ → Option (ℕ × Cursor)
any_number_at s at = number_in s (any_number (drop at s))

-- the number at a place, in its shortest form
unfoldable pub number_at : List ℕ → ℕ → Option (ℕ × Cursor)
number_at s at = number_in s (number (drop at s))

-- the element at a place; the parent ends with s
unfoldable pub element_at : List ℕ → ℕ → Option (Element × Cursor)
element_at s at = element_in s (element (drop at s))

-- the whole number that fills an element's value
unfoldable pub whole_of : List ℕ → Option ℕ
whole_of l = pick (is_whole (length l)) (Some (big 0 l)) None
