-- "one copy per face however many requests it ends": which faces a copy of Data goes to, and the lowest class of the entries that ask for
-- it there.
-- Assumes nothing.
use Rattle.std.specs.Prelude.{ℕ, suc, Bool, ◌&&◌, not, List, eqb}
use Rattle.laws.specs.Places.Tab.{tab}
use Rattle.records.specs.Class.{class_number}
use Rattle.records.specs.Slots.{is_some, given}
use Rattle.records.specs.Entry.{Entry, class_on}

-- its number, 0 where there is none
unfoldable pub class_word : ℕ → List Entry → ℕ
class_word f es = given 0 class_number (class_on f es)

-- for each of n faces the number of the lowest class of the entries that have a request there, 0 where there is none
unfoldable pub class_words : ℕ → List Entry → List ℕ
class_words n es = tab (λ i. class_word (suc i) es) 0 n

-- whether some entry has a request on a face
unfoldable pub is_asked : List Entry → ℕ → Bool
is_asked es f = is_some (class_on f es)

-- whether a request on a face is self-met by Data from f: "those on the arrival face as self-met, unless that face is ad hoc"
unfoldable pub meets_own : ℕ → Bool → ℕ → Bool
meets_own f ad_hoc h = eqb h f && not ad_hoc

-- whether a copy of Data from f, which ends the requests of some entries, goes to a face
unfoldable pub is_owed : ℕ → Bool → List Entry → ℕ → Bool
is_owed f ad_hoc es h = is_asked es h && not (meets_own f ad_hoc h)
