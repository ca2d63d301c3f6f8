-- "No request ends twice.": openings and ends of a request that take turns, and the opening of an end.
-- Assumes nothing.
use Rattle.std.specs.Prelude.{◌≡◌, Bool, true, false, not, List, [], ◌∷◌, ◌++◌}
use Rattle.std.specs.Bool.{beq}
use Rattle.std.proofs.Math.Option.{Option, none, some}
use Rattle.laws.specs.Pick.{pick}
use Rattle.history.specs.Lists.{how_many}
use Rattle.history.specs.Key.{Key, key_of, is_end}
use Rattle.records.specs.Happening.{Happening}

-- whether a request is open after happenings, where b says whether it is before them: an opening has to find it not open and an end has
-- to find it open, else there is no answer. The request is the one whose key q holds of.
unfoldable pub turns : (Key → Bool) → Bool → List Happening → Option Bool
turns q b [] = some b
turns q b (h ∷ hs) = pick (q (key_of h)) (pick (beq b (is_end h.fate)) (turns q (not b) hs) none) (turns q b hs)

-- happenings that take turns, from b (open or not) to c
abbrev pub Legal : (Key → Bool) → Bool → List Happening → Bool → Type 0
Legal q b hs c = turns q b hs ≡ some c

-- the last happening of a request in a list, which is an opening: what stands before it, it, and what stands since
pub record Opening (q : Key → Bool) (s : List Happening) : Type 0 where
  pub before : List Happening
  pub opening : Happening
  pub since : List Happening
  pub parts : s ≡ before ++ (opening ∷ since)
  pub opens : is_end opening.fate ≡ false
  pub own : q (key_of opening) ≡ true
  pub none_since : how_many (λ h. q (key_of h)) since ≡ 0
