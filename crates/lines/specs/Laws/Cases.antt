-- The lines of document 01's sample.
-- Assumes nothing.
use Rattle.std.specs.Prelude.{◌≡◌, refl, [], ◌∷◌, ◌++◌}
use Rattle.laws.specs.Pick.{pick}
use Rattle.lines.specs.Decimal.{digits_of, decimal}
use Rattle.lines.specs.Lines.{spaced, newline, mark, bad_word, total_word, event_line, send_line, bad_line, total_line, totals}

-- "5 0 1"
sample_event : event_line 5 0 1 ≡ 53 ∷ 32 ∷ 48 ∷ 32 ∷ 49 ∷ 10 ∷ []
unfolding pick digits_of decimal spaced newline event_line
sample_event = refl

-- "> 2 1 13"
sample_send : send_line 2 1 13 ≡ 62 ∷ 32 ∷ 50 ∷ 32 ∷ 49 ∷ 32 ∷ 49 ∷ 51 ∷ 10 ∷ []
unfolding pick digits_of decimal spaced newline mark send_line
sample_send = refl

-- "bad 0"
sample_bad : bad_line 0 ≡ 98 ∷ 97 ∷ 100 ∷ 32 ∷ 48 ∷ 10 ∷ []
unfolding pick digits_of decimal spaced newline bad_word bad_line
sample_bad = refl

-- "total 1 0 0 1 0 0 0"
sample_total : total_line (totals 1 0 0 1 0 0 0)
    ≡ 116 ∷ 111 ∷ 116 ∷ 97 ∷ 108 ∷ 32 ∷ 49 ∷ 32 ∷ 48 ∷ 32 ∷ 48 ∷ 32 ∷ 49 ∷ 32 ∷ 48 ∷ 32 ∷ 48 ∷ 32 ∷ 48 ∷ 10 ∷ []
unfolding pick digits_of decimal spaced newline total_word total_line
sample_total = refl

-- "0", "9", "10" and "1500"
sample_decimals : decimal 0 ++ decimal 9 ++ decimal 10 ++ decimal 1500 ≡ 48 ∷ 57 ∷ 49 ∷ 48 ∷ 49 ∷ 53 ∷ 48 ∷ 48 ∷ []
unfolding pick digits_of decimal
sample_decimals = refl
