-- Happenings noted in rows, one after the other.
-- Assumes nothing.
use Rattle.std.specs.Prelude.{ℕ, ◌+◌, ◌*◌, ◌≤◌, ◌<◌, max, ◌≡◌, List, [], ◌∷◌, length}
use Rattle.rows.specs.Lent.{Lent}
use Rattle.std.proofs.lemmas.List.Edits.{sets}
use Rattle.sizes.specs.Sizes.{most_faces, most_entries}
use Rattle.records.specs.Happening as rules
use Rattle.happenings.specs.declared.Fate.{Fate}

-- room for one opening and the end of every request
abbrev pub most_rows : ℕ
most_rows = 1 + most_entries * most_faces

-- the fate as the rules name it
unfoldable pub fate_in : Fate → rules.Fate
fate_in Fate.Opened = rules.opened
fate_in Fate.Answered = rules.answered
fate_in Fate.Nacked = rules.nacked
fate_in Fate.Expired = rules.expired
fate_in Fate.Closed = rules.closed
fate_in Fate.SelfMet = rules.self_met

-- a row: face, class, fate, nonce and expiry
abbrev pub note_of : ℕ → ℕ → ℕ → ℕ → ℕ → List ℕ
note_of face class fate nonce expiry = face ∷ class ∷ fate ∷ nonce ∷ expiry ∷ []

-- what noting some rows after the first `at` comes to, where there are `most` in all: they stand there and every other row is as it was;
-- there are so many more rows then, or, where there is no room for them, all
pub record Notes (most r : ℕ) (after before : List (List ℕ)) (at : ℕ) (news : List (List ℕ)) : Type 0 where
  pub rows : after ≡ sets before at news
  pub made : at + length news ≤ most → r ≡ at + length news
  pub full : most < at + length news → r ≡ max at most

-- rows noted in what a function was lent, with its answer
abbrev pub Noted : Lent (List (List ℕ)) → ℕ → ℕ → List (List ℕ) → Type 0
Noted rows r at news = Notes most_rows r rows.exit rows.entry at news
