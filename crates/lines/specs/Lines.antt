-- Document 01, "Examples": the lines that a tape's run prints, as bytes. Each ends in a newline; its parts are parted by one space.
-- Assumes nothing.
use Rattle.std.specs.Prelude.{ℕ, List, [], ◌∷◌, ◌++◌}
use Rattle.lines.specs.Decimal.{decimal}
use Rattle.lines.specs.declared.Totals.{Totals}

-- a number after a space
unfoldable pub spaced : ℕ → List ℕ
spaced n = 32 ∷ decimal n

-- the end of a line
unfoldable pub newline : List ℕ
newline = 10 ∷ []

-- `>`
unfoldable pub mark : List ℕ
mark = 62 ∷ []

-- `bad`
unfoldable pub bad_word : List ℕ
bad_word = 98 ∷ 97 ∷ 100 ∷ []

-- `total`
unfoldable pub total_word : List ℕ
total_word = 116 ∷ 111 ∷ 116 ∷ 97 ∷ 108 ∷ []

-- "Per event it prints position from 1, answer, number of sends": position, answer, sends
unfoldable pub event_line : ℕ → ℕ → ℕ → List ℕ
event_line position answer sends = decimal position ++ spaced answer ++ spaced sends ++ newline

-- "per send `>` face, kind (1 Interest, 2 Data, 3 Nack), length": face, kind, length
unfoldable pub send_line : ℕ → ℕ → ℕ → List ℕ
send_line face kind len = mark ++ spaced face ++ spaced kind ++ spaced len ++ newline

-- "An unreadable event prints `bad` and the offset of its first byte, from 0": the offset
unfoldable pub bad_line : ℕ → List ℕ
bad_line offset = bad_word ++ spaced offset ++ newline

-- the seven numbers in the order in which they are printed
abbrev pub totals : ℕ → ℕ → ℕ → ℕ → ℕ → ℕ → ℕ → Totals
totals a b c d e f g =
    record { opened = a; answered = b; nacked = c; expired = d; closed = e; self_met = f; still_open = g }

-- "The last line is `total` opened, answered, Nacked, expired, closed, self-met, open."
unfoldable pub total_line : Totals → List ℕ
total_line t =
    total_word ++ spaced t.opened ++ spaced t.answered ++ spaced t.nacked ++ spaced t.expired
    ++ spaced t.closed ++ spaced t.self_met ++ spaced t.still_open ++ newline

-- "a longer tape prints `too long` only"
unfoldable pub too_long : List ℕ
too_long = 116 ∷ 111 ∷ 111 ∷ 32 ∷ 108 ∷ 111 ∷ 110 ∷ 103 ∷ 10 ∷ []
