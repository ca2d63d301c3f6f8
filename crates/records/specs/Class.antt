-- Document 01, "Classes": "1 alarm, 2 monitoring, 3 bulk". A word that is none of them is a case of its own: a class is never guessed.
-- Assumes nothing.
use Rattle.std.specs.Prelude.{ℕ, Bool, true, false, ◌&&◌, ltb, eqb}
use Rattle.laws.specs.Pick.{pick}

-- the three classes, and a word that is none of them
pub data Class : Type 0 where
  alarm : Class
  monitoring : Class
  bulk : Class
  no_class : ℕ → Class

-- the class that a number gives; any other number stays what it is
unfoldable pub class_of : ℕ → Class
class_of n = pick (eqb n 1) alarm (pick (eqb n 2) monitoring (pick (eqb n 3) bulk (no_class n)))

-- the number of a class
unfoldable pub class_number : Class → ℕ
class_number alarm = 1
class_number monitoring = 2
class_number bulk = 3
class_number (no_class n) = n

-- whether it is one of the three
unfoldable pub is_class : Class → Bool
is_class alarm = true
is_class monitoring = true
is_class bulk = true
is_class (no_class n) = false

-- "Their reserves are 24, 16 and 8."; a word that is no class has none
unfoldable pub reserve : Class → ℕ
reserve alarm = 24
reserve monitoring = 16
reserve bulk = 8
reserve (no_class n) = 0

-- whether a class is c, which is one of the three
unfoldable pub is_of : Class → Class → Bool
is_of c d = is_class d && eqb (class_number d) (class_number c)

-- the lower of two classes, by their numbers
unfoldable pub lower : Class → Class → Class
lower c d = pick (ltb (class_number d) (class_number c)) d c
