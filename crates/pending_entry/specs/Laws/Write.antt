-- What a write to a column of a head, or to columns of a face's row, makes of it.
-- Assumes nothing.
use Rattle.std.specs.Prelude.{ℕ, ◌≤◌, ◌≡◌, true, List, [], ◌∷◌, length, get_or, set}
use Rattle.std.proofs.Common.{refl, arith}
use Rattle.records.specs.Face.{is_face}
use Rattle.records.specs.Laws.Face.{face_yes}
use Rattle.pending_entry.specs.Places.Row.{asked_row, sent_row, nacked_row, with_sets}

-- a number that is a face's is at least 1 and at most the number of faces
pub face_within : (n f : ℕ) → is_face n f ≡ true → (1 ≤ f) × (f ≤ n)
face_within n f e = (face_yes n f).0 e

-- the words of a row
row_words : (r : List ℕ) → length r ≡ 5 → r ≡ get_or r 0 0 ∷ get_or r 1 0 ∷ get_or r 2 0 ∷ get_or r 3 0 ∷ get_or r 4 0 ∷ []
row_words [] e = absurd (omega arith)
row_words (a ∷ []) e = absurd (omega arith)
row_words (a ∷ b ∷ []) e = absurd (omega arith)
row_words (a ∷ b ∷ c ∷ []) e = absurd (omega arith)
row_words (a ∷ b ∷ c ∷ d ∷ []) e = absurd (omega arith)
row_words (a ∷ b ∷ c ∷ d ∷ f ∷ []) e = refl
row_words (a ∷ b ∷ c ∷ d ∷ f ∷ g ∷ l) e = absurd (omega arith)

-- the words of a head
head_words : (h : List ℕ) → length h ≡ 6
    → h ≡ get_or h 0 0 ∷ get_or h 1 0 ∷ get_or h 2 0 ∷ get_or h 3 0 ∷ get_or h 4 0 ∷ get_or h 5 0 ∷ []
head_words [] e = absurd (omega arith)
head_words (a ∷ []) e = absurd (omega arith)
head_words (a ∷ b ∷ []) e = absurd (omega arith)
head_words (a ∷ b ∷ c ∷ []) e = absurd (omega arith)
head_words (a ∷ b ∷ c ∷ d ∷ []) e = absurd (omega arith)
head_words (a ∷ b ∷ c ∷ d ∷ f ∷ []) e = absurd (omega arith)
head_words (a ∷ b ∷ c ∷ d ∷ f ∷ g ∷ []) e = refl
head_words (a ∷ b ∷ c ∷ d ∷ f ∷ g ∷ k ∷ l) e = absurd (omega arith)

module _ (h : List ℕ) (six : length h ≡ 6) (s : ℕ) where
  -- another set of the faces with an in-record
  pub asking_written : set h 4 s ≡ with_sets s (get_or h 5 0) h
  asking_written = rw (head_words h six)

  -- another set of the faces with an out-record
  pub sent_written : set h 5 s ≡ with_sets (get_or h 4 0) s h
  sent_written = rw (head_words h six)

module _ (r : List ℕ) (five : length r ≡ 5) where
  -- another in-record
  pub asked_written : (nonce expiry : ℕ) → set (set r 0 nonce) 1 expiry ≡ asked_row nonce expiry r
  asked_written nonce expiry = rw (row_words r five)

  -- another out-record
  pub sends_written : (nonce time nack : ℕ) → set (set (set r 2 nonce) 3 time) 4 nack ≡ sent_row nonce time nack r
  sends_written nonce time nack = rw (row_words r five)

  -- another Nack word
  pub nack_written : (nack : ℕ) → set r 4 nack ≡ nacked_row nack r
  nack_written nack = rw (row_words r five)
