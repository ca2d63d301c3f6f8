-- The lowest class for each face, step by step: a class joins for the faces of a set, and entries are gone through.
-- Assumes nothing.
use Rattle.std.specs.Prelude.{ℕ, ◌-◌, min, ◌≡◌, Bool, true, ◌||◌, List, ◌++◌, length, get_or}
use Rattle.laws.specs.Pick.{pick}
use Rattle.faces.specs.Set.{has_face}
use Rattle.records.specs.Face.{is_face}
use Rattle.records.specs.Entry.{Entry}
use Rattle.pending_pass.specs.Lowest.{class_word, is_asked}
use Rattle.pending_pass.specs.Places.Pass.{marked}

-- the word of a face with a class: the lower of the two, where it has one
unfoldable pub lower_word : Bool → ℕ → ℕ → ℕ
lower_word had w c = pick had (min w c) c

-- a class joins for those of n faces that are in a set; `had` is the set of the faces that have a class
pub record Lowers (n set class had : ℕ) (ws : List ℕ) (had' : ℕ) (ws' : List ℕ) : Type 0 where
  pub long : length ws' ≡ length ws
  pub words : (f : ℕ) → is_face n f ≡ true
      → get_or ws' (f - 1) 0 ≡ pick (has_face n set f) (lower_word (has_face n had f) (get_or ws (f - 1) 0) class) (get_or ws (f - 1) 0)
  pub have : (f : ℕ) → is_face n f ≡ true → has_face n had' f ≡ (has_face n set f || has_face n had f)

-- on the way: for the faces that are left it is still to join
pub record LowersTo (n set class had : ℕ) (ws : List ℕ) (left had' : ℕ) (ws' : List ℕ) : Type 0 where
  pub all : length ws ≡ n
  pub long : length ws' ≡ length ws
  pub part : (f : ℕ) → has_face n left f ≡ true → has_face n set f ≡ true
  pub words : (f : ℕ) → is_face n f ≡ true → get_or ws' (f - 1) 0
      ≡ pick (has_face n left f) (get_or ws (f - 1) 0)
      (pick (has_face n set f) (lower_word (has_face n had f) (get_or ws (f - 1) 0) class) (get_or ws (f - 1) 0))
  pub have : (f : ℕ) → is_face n f ≡ true
      → has_face n had' f ≡ pick (has_face n left f) (has_face n had f) (has_face n set f || has_face n had f)

-- the words and the set tell the lowest classes of some entries
pub record Lowest (n : ℕ) (es : List Entry) (had : ℕ) (ws : List ℕ) : Type 0 where
  pub all : length ws ≡ n
  pub words : (f : ℕ) → is_face n f ≡ true → get_or ws (f - 1) 0 ≡ class_word f es
  pub have : (f : ℕ) → is_face n f ≡ true → has_face n had f ≡ is_asked es f

-- on the way: those of the entries that were marked, but for those that are marked now
pub record LowestTo (n : ℕ) (ms : List Bool) (es : List Entry) (ms' : List Bool) (had : ℕ) (ws : List ℕ) : Type 0 where
  pub done : List Entry
  pub split : marked ms es ≡ done ++ marked ms' es
  pub even : length ms' ≡ length es
  pub told : Lowest n done had ws
