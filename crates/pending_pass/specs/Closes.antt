-- Document 01, "Faces and routes": what closing a face makes of the pending entries, the dead nonce list and the rows of happenings.
-- Assumes nothing.
use Rattle.std.specs.Prelude.{ℕ, ◌≡◌, List, map}
use Rattle.sizes.specs.Sizes.{most_dead}
use Rattle.records.specs.Slots.{each}
use Rattle.records.specs.Entry.{Entry}
use Rattle.records.specs.Closing.{without_face, closing_lines_by, closing_ends}
use Rattle.records.specs.Line.{Line, joined_all}
use Rattle.records.specs.Rows.{row_of}
use Rattle.records.specs.Ageing.{staying}
use Rattle.happenings.specs.Noted.{most_rows, Notes}

-- from entries, lines, rows and how many are noted before a face is closed to those after it
pub record Closes (print : List ℕ → ℕ → ℕ) (now f : ℕ) (es : List Entry) (ls : List Line) (rs : List (List ℕ)) (made : ℕ)
    (es' : List Entry) (ls' : List Line) (rs' : List (List ℕ)) (made' : ℕ) : Type 0 where
  pub entries : es' ≡ staying (map (without_face f) es)
  pub lines : ls' ≡ joined_all most_dead ls (each (closing_lines_by print now f) es)
  pub rows : Notes most_rows made' rs' rs made (map row_of (each (closing_ends now f) es))
