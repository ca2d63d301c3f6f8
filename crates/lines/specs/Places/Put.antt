-- What a writer of a line answers, and the buffer that it leaves.
-- Assumes nothing.
use Rattle.std.specs.Prelude.{ℕ, zero, suc, ◌+◌, ◌/◌, ◌%◌, ◌≡◌, List, [], ◌∷◌, ◌++◌, length, leb}
use Rattle.std.proofs.lemmas.List.Edits.{sets}
use Rattle.laws.specs.Pick.{pick}
use Rattle.lines.specs.Decimal.{decimal}
use Rattle.lines.specs.declared.Totals.{Totals}
use Rattle.lines.specs.Lines.{spaced, newline}

-- the place that a writer gives, and the buffer that it leaves
pub record Placed : Type 0 where
  pub next : ℕ
  pub buffer : List ℕ

abbrev pub placed : ℕ → List ℕ → Placed
placed r b = record { next = r; buffer = b }

-- bytes written from a place on, and the place past them; where they do not fit, the same place, and the buffer as it was
unfoldable pub put : List ℕ → ℕ → List ℕ → Placed
put b at vs = pick (leb (at + length vs) (length b)) (placed (at + length vs) (sets b at vs)) (placed at b)

-- c is b after vs was stored from place `at` on, and r is the place past it
pub record Stored (b : List ℕ) (at : ℕ) (vs c : List ℕ) (r : ℕ) : Type 0 where
  pub same : c ≡ sets b at vs
  pub past : r ≡ at + length vs

-- numbers, each after a space
unfoldable pub all_spaced : List ℕ → List ℕ
all_spaced [] = []
all_spaced (n ∷ ns) = spaced n ++ all_spaced ns

-- a line of a word and numbers
unfoldable pub line_of : List ℕ → List ℕ → List ℕ
line_of word ns = word ++ all_spaced ns ++ newline

-- the i lowest digits of m, leading zeros kept
unfoldable pub lowest : ℕ → ℕ → List ℕ
lowest zero m = []
lowest (suc i) m = lowest i (m / 10) ++ ((48 + m % 10) ∷ [])

-- how long the seven numbers of the last line are together
unfoldable pub widths : Totals → ℕ
widths t =
    length (decimal t.opened) + length (decimal t.answered) + length (decimal t.nacked) + length (decimal t.expired)
    + length (decimal t.closed) + length (decimal t.self_met) + length (decimal t.still_open)
