-- What ageing makes of the pending entries, the dead nonce list and the rows of happenings.
-- Assumes nothing.
use Rattle.std.specs.Prelude.{ℕ, ◌≡◌, List, map, length}
use Rattle.std.proofs.lemmas.List.Edits.{sets}
use Rattle.sizes.specs.Sizes.{most_dead}
use Rattle.records.specs.Slots.{each}
use Rattle.records.specs.Entry.{Entry}
use Rattle.records.specs.Line.{Line, joined_all}
use Rattle.records.specs.Rows.{row_of}
use Rattle.records.specs.Ageing.{expiries, aged_pending, aged_lines_by}

-- the rows of the requests that expire, in ageing's order
unfoldable pub aged_rows : ℕ → List Entry → List (List ℕ)
aged_rows now es = map row_of (each (expiries now) es)

-- from entries, lines and rows before ageing to those after, and how many rows were noted, from the first on
pub record Ages (print : List ℕ → ℕ → ℕ) (now : ℕ) (es : List Entry) (ls : List Line) (rs : List (List ℕ))
    (es' : List Entry) (ls' : List Line) (rs' : List (List ℕ)) (made : ℕ) : Type 0 where
  pub entries : es' ≡ aged_pending now es
  pub lines : ls' ≡ joined_all most_dead ls (aged_lines_by print now es)
  pub rows : rs' ≡ sets rs 0 (aged_rows now es)
  pub noted : made ≡ length (aged_rows now es)
