-- Laws of lines: how long each is, and at most, where its numbers are of 64 bits.
-- Assumes nothing.
use Rattle.std.specs.Prelude.{ℕ, suc, ◌+◌, ◌^◌, ◌≤◌, ◌<◌, ◌≡◌, refl, List, [], ◌∷◌, ◌++◌, length}
use Rattle.std.proofs.Common.{◌∙◌, append-nil, append_assoc, length-append, arith}
use Rattle.lines.specs.Decimal.{decimal}
use Rattle.lines.specs.declared.Totals.{Totals}
use Rattle.lines.specs.Lines.{spaced, newline, mark, bad_word, total_word, event_line, send_line, bad_line, total_line, too_long}
use Rattle.lines.specs.Places.Put.{widths, all_spaced, line_of}
use Rattle.lines.specs.Laws.Decimal.{decimal_most}

-- the length of a line with a number more
pub length_spaced : (l : List ℕ) (n : ℕ) → length (l ++ spaced n) ≡ length l + suc (length (decimal n))
unfolding spaced
length_spaced l n = length-append l (spaced n)

-- the length of a line that is ended
pub length_ended : (l : List ℕ) → length (l ++ newline) ≡ length l + 1
unfolding newline
length_ended l = length-append l newline

-- the length of an event's line
pub length_event : (p a s : ℕ) → length (event_line p a s) ≡ length (decimal p) + length (decimal a) + length (decimal s) + 3
unfolding event_line
length_event p a s =
    length_ended (decimal p ++ spaced a ++ spaced s)
    ∙ omega (arith, length_spaced (decimal p ++ spaced a) s, length_spaced (decimal p) a)

-- the length of a send's line
pub length_send : (f k l : ℕ) → length (send_line f k l) ≡ length (decimal f) + length (decimal k) + length (decimal l) + 5
unfolding send_line mark
length_send f k l =
    length_ended (mark ++ spaced f ++ spaced k ++ spaced l)
    ∙ omega (arith, length_spaced (mark ++ spaced f ++ spaced k) l, length_spaced (mark ++ spaced f) k, length_spaced mark f)

-- the length of the line of an unreadable event
pub length_bad : (n : ℕ) → length (bad_line n) ≡ length (decimal n) + 5
unfolding bad_line bad_word
length_bad n =
    length_ended (bad_word ++ spaced n) ∙ omega (arith, length_spaced bad_word n)

-- an event's line is its position and a line of two numbers
pub event_parts : (p a s : ℕ) → event_line p a s ≡ decimal p ++ line_of [] (a ∷ s ∷ [])
unfolding event_line line_of all_spaced
event_parts p a s = simp (append_assoc, append-nil)

-- and as long as these
pub length_event_parts : (p a s : ℕ) → length (event_line p a s) ≡ length (decimal p) + length (line_of [] (a ∷ s ∷ []))
length_event_parts p a s = rw event_parts (length-append (decimal p) (line_of [] (a ∷ s ∷ [])))

-- a send's line is one of a word and numbers
pub send_parts : (f k l : ℕ) → send_line f k l ≡ line_of mark (f ∷ k ∷ l ∷ [])
unfolding send_line line_of all_spaced
send_parts f k l = simp (append_assoc, append-nil)

-- so is the line of an unreadable event
pub bad_parts : (n : ℕ) → bad_line n ≡ line_of bad_word (n ∷ [])
unfolding bad_line line_of all_spaced
bad_parts n = simp (append_assoc, append-nil)

-- the last line
pub total_parts : (t : Totals) → total_line t
    ≡ line_of total_word (t.opened ∷ t.answered ∷ t.nacked ∷ t.expired ∷ t.closed ∷ t.self_met ∷ t.still_open ∷ [])
unfolding total_line line_of all_spaced
total_parts t = simp (append_assoc, append-nil)

-- and `too long`
pub long_parts : too_long ≡ line_of (116 ∷ 111 ∷ 111 ∷ 32 ∷ 108 ∷ 111 ∷ 110 ∷ 103 ∷ []) []
unfolding too_long line_of all_spaced newline
long_parts = refl

-- an event's line has at most 63 bytes
pub event_most : (p a s : ℕ) → p < 2 ^ 64 → a < 2 ^ 64 → s < 2 ^ 64 → length (event_line p a s) ≤ 63
event_most p a s h i j = omega (arith, length_event p a s, decimal_most p h, decimal_most a i, decimal_most s j)

-- a send's line has at most 65 bytes
pub send_most : (f k l : ℕ) → f < 2 ^ 64 → k < 2 ^ 64 → l < 2 ^ 64 → length (send_line f k l) ≤ 65
send_most f k l h i j = omega (arith, length_send f k l, decimal_most f h, decimal_most k i, decimal_most l j)

-- the line of an unreadable event has at most 25 bytes
pub bad_most : (n : ℕ) → n < 2 ^ 64 → length (bad_line n) ≤ 25
bad_most n h = omega (arith, length_bad n, decimal_most n h)

-- the length of the last line
pub length_total : (t : Totals) → length (total_line t) ≡ widths t + 13
unfolding total_line total_word widths
length_total t =
    let a = total_word ++ spaced t.opened in
    let b = a ++ spaced t.answered in
    let c = b ++ spaced t.nacked in
    let d = c ++ spaced t.expired in
    let e = d ++ spaced t.closed in
    let f = e ++ spaced t.self_met in
    length_ended (f ++ spaced t.still_open)
    ∙ omega (
      arith,
      length_spaced total_word t.opened,
      length_spaced a t.answered,
      length_spaced b t.nacked,
      length_spaced c t.expired,
      length_spaced d t.closed,
      length_spaced e t.self_met,
      length_spaced f t.still_open,
    )

-- seven numbers of 64 bits
pub record Short (t : Totals) : Type 0 where
  pub opened : t.opened < 2 ^ 64
  pub answered : t.answered < 2 ^ 64
  pub nacked : t.nacked < 2 ^ 64
  pub expired : t.expired < 2 ^ 64
  pub closed : t.closed < 2 ^ 64
  pub self_met : t.self_met < 2 ^ 64
  pub still_open : t.still_open < 2 ^ 64

-- the last line has at most 153 bytes
pub total_most : (t : Totals) → Short t → length (total_line t) ≤ 153
unfolding widths
total_most t h =
    omega (
      arith,
      length_total t,
      decimal_most t.opened h.opened,
      decimal_most t.answered h.answered,
      decimal_most t.nacked h.nacked,
      decimal_most t.expired h.expired,
      decimal_most t.closed h.closed,
      decimal_most t.self_met h.self_met,
      decimal_most t.still_open h.still_open,
    )

-- `too long` has 9 bytes
pub length_too_long : length too_long ≡ 9
unfolding too_long
length_too_long = refl
