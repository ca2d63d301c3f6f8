-- The rows of a Data's copies, as the code stores them, and what is noted in a walk over the faces that copies go to.
-- Assumes nothing.
use Rattle.std.specs.Prelude.{ℕ, ◌+◌, ◌≡◌, List, map, length, get_or}
use Rattle.std.proofs.lemmas.List.Edits.{sets}
use Rattle.records.specs.Slots.{Held, held}
use Rattle.rules.specs.Outcome.{dat, kind_number}
use Rattle.faces.specs.Slots.{slots_of}
use Rattle.sending.specs.Places.Sheet.{note_of}

-- each face of a set with its class word, by ascending face
unfoldable pub owed : ℕ → ℕ → List ℕ → List (Held ℕ)
owed n set words = held (slots_of n set (λ i. get_or words i 0))

-- the row of a copy that stands at the buffer's start
unfoldable pub copy_row : ℕ → Held ℕ → List ℕ
copy_row len h = note_of h.face (kind_number dat) h.what 0 len

-- a walk with k copies noted and some still owed has noted all of `all` once those are noted
pub record Owes (len : ℕ) (rows : List (List ℕ)) (all left : List (Held ℕ)) (k : ℕ) (rows' : List (List ℕ)) : Type 0 where
  pub count : k + length left ≡ length all
  pub noted : sets rows' k (map (copy_row len) left) ≡ sets rows 0 (map (copy_row len) all)

-- the copies for the faces of a set are noted
abbrev pub NotesCopies : ℕ → ℕ → ℕ → List ℕ → List (List ℕ) → List (List ℕ) → ℕ → Type 0
NotesCopies n set len words rows rows' k = (k ≡ length (owed n set words)) × (rows' ≡ sets rows 0 (map (copy_row len) (owed n set words)))
