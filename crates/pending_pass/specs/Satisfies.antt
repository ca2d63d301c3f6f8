-- Document 01, "Data, store, Nack": what Data makes of the pending entries, the dead nonce list and the rows of happenings.
-- Assumes nothing.
use Rattle.std.specs.Prelude.{ℕ, ◌≡◌, Bool, not, List, map}
use Rattle.laws.specs.Pick.{pick}
use Rattle.sizes.specs.Sizes.{most_faces, most_dead}
use Rattle.faces.specs.Set.{faces_where}
use Rattle.records.specs.Slots.{held, only, each}
use Rattle.records.specs.Entry.{Entry, matches}
use Rattle.records.specs.Line.{Line, joined_all}
use Rattle.records.specs.Happening.{Fate, answered, self_met, Happening, happens}
use Rattle.records.specs.Rows.{row_of}
use Rattle.records.specs.Ageing.{buried_by}
use Rattle.happenings.specs.Noted.{most_rows, Notes}
use Rattle.pending_pass.specs.Lowest.{class_words, meets_own, is_owed}

-- how a request on a face ends by Data from f
unfoldable pub data_fate : ℕ → Bool → ℕ → Fate
data_fate f ad_hoc h = pick (meets_own f ad_hoc h) self_met answered

-- "end every request": the ends of an entry's requests, by face
unfoldable pub ends_by : (ℕ → Fate) → ℕ → Entry → List Happening
ends_by fate now e = map (λ h. happens (fate h.face) now e h) (held e.requests)

-- from entries, lines, rows and how many are noted before Data of a name, from face f, to those after it: the matched entries leave. With
-- the number of the lowest class for each face, and the faces that a copy goes to
pub record Satisfies (print : List ℕ → ℕ → ℕ) (now f : ℕ) (ad_hoc : Bool) (name : List ℕ) (es : List Entry) (ls : List Line)
    (rs : List (List ℕ)) (made : ℕ)
    (es' : List Entry) (ls' : List Line) (rs' : List (List ℕ)) (made' : ℕ) (ws' : List ℕ) (copies' : ℕ) : Type 0 where
  pub entries : es' ≡ only (λ e. not (matches name e)) es
  pub lines : ls' ≡ joined_all most_dead ls (each (buried_by print now) (only (matches name) es))
  pub rows : Notes most_rows made' rs' rs made (map row_of (each (ends_by (data_fate f ad_hoc) now) (only (matches name) es)))
  pub classes : ws' ≡ class_words most_faces (only (matches name) es)
  pub copies : copies' ≡ faces_where most_faces (is_owed f ad_hoc (only (matches name) es))
