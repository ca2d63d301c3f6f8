-- What a function was lent, told at entry and at exit, so that contracts read alike for tables behind `&` and behind `&mut`.
-- Assumes nothing.
use Rattle.std.specs.Borrow.{Bor, MutBor}
use denote.Triple.Both.{Both}

-- what a function was lent, as it is at entry and at exit
abbrev pub Lent : Type 0 → Type 0
Lent A = Both A A

-- behind `&mut`
abbrev pub lent : {A : Type 0} → Both (MutBor A) (MutBor A) → Lent A
lent x = record { entry = x.entry.now; exit = x.exit.now }

-- behind `&`: it is the same at both
abbrev pub shown : {A : Type 0} → Both (Bor A) (Bor A) → Lent A
shown x = record { entry = x.entry.now; exit = x.exit.now }
