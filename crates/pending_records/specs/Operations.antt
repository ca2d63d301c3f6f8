-- What is asked of an entry's records, the lines that it buries and the rows that tell what became of its requests.
-- Assumes nothing.
use Rattle.std.specs.declared.option.Option as code
use Rattle.std.specs.Prelude.{ℕ, ◌≡◌, Bool, not, List, [], ◌∷◌, map, None, Some}
use Rattle.std.proofs.Math.Option.{Option, none, some}
use Rattle.laws.specs.Pick.{pick}
use Rattle.sizes.specs.Sizes.{most_dead}
use Rattle.faces.specs.Set.{has_face, faces_where}
use Rattle.records.specs.Slots.{slot, holds, given, held, only}
use Rattle.records.specs.Entry.{Entry, is_live, all_nacked, smallest_reason}
use Rattle.records.specs.Line.{Line, joined_all}
use Rattle.records.specs.Happening.{Fate, happens}
use Rattle.records.specs.Rows.{row_of}
use Rattle.dead.specs.declared.Dead.{Dead}
use Rattle.dead.specs.Places.View as dead
use Rattle.happenings.specs.declared.Fate as told
use Rattle.happenings.specs.Noted.{fate_in}

-- the faces whose requests are over
unfoldable pub overdue_faces : ℕ → ℕ → Entry → ℕ
overdue_faces n now e = faces_where n (λ f. holds (λ r. not (is_live now r)) (slot f e.requests))

-- the reason that an answer tells
unfoldable pub nacks_in : code.Option ℕ → Option ℕ
nacks_in None = none
nacks_in (Some r) = some r

-- the reason that goes on, where all out-records are Nacked
unfoldable pub nacks_of : Entry → Option ℕ
nacks_of e = pick (all_nacked e) (some (smallest_reason (held e.sent))) none

-- the rows that tell what became of the requests of an entry on the faces that p holds of, by face, each face with its fate
unfoldable pub noted_by : (ℕ → Fate) → ℕ → (ℕ → Bool) → Entry → List (List ℕ)
noted_by x now p e = map row_of (map (λ h. happens (x h.face) now e h) (only (λ h. p h.face) (held e.requests)))

-- all with one fate
unfoldable pub noted : Fate → ℕ → (ℕ → Bool) → Entry → List (List ℕ)
noted x now p e = noted_by (λ _. x) now p e

-- one fate for the faces of a set, another for the others
abbrev pub fate_by : ℕ → ℕ → told.Fate → told.Fate → ℕ → Fate
fate_by n special own fate f = pick (has_face n special f) (fate_in own) (fate_in fate)

-- with one fate for the faces of a set `special`, and another for the others: the requests on the faces of a set
abbrev pub noted_split : ℕ → ℕ → ℕ → told.Fate → told.Fate → ℕ → Entry → List (List ℕ)
noted_split n set special own fate now e = noted_by (fate_by n special own fate) now (has_face n set) e

-- the row that tells what became of a face's request, if it has one
unfoldable pub noted_one : Fate → ℕ → ℕ → Entry → List (List ℕ)
noted_one x now f e = given [] (λ r. row_of (happens x now e (record { face = f; what = r })) ∷ []) (slot f e.requests)

-- lines that join the dead nonce list, from one memory of it to another
abbrev pub Joins : Dead → Dead → List Line → Type 0
Joins d e news = dead.view e ≡ joined_all most_dead (dead.view d) news
