-- Numbers worked out: the forms that are written, and what is read from bytes.
-- Assumes nothing.
use Rattle.std.specs.Prelude.{ℕ, ◌-◌, ◌^◌, ◌≡◌, refl, List, [], ◌∷◌, map, None, Option, Some}
use Rattle.laws.specs.Pick.{pick}
use Rattle.tape.specs.Number.{lower, sevens, regular, number_in, tape_number_at}
use Rattle.tape.specs.Laws.NumberRound.{tape_form}

-- a number and the bytes of its shortest form
pub record Form : Type 0 where
  pub number : ℕ
  pub bytes : List ℕ

-- a row of the table of forms
abbrev form : ℕ → List ℕ → Form
form v l = record { number = v; bytes = l }

-- numbers of one group, of two, and the largest
pub forms : List Form
forms =
    form 0 (0x00 ∷ [])
    ∷ form 127 (0x7F ∷ [])
    ∷ form 128 (0x80 ∷ 0x01 ∷ [])
    ∷ form 4100 (0x84 ∷ 0x20 ∷ [])
    ∷ form (2 ^ 64 - 1) (0xFF ∷ 0xFF ∷ 0xFF ∷ 0xFF ∷ 0xFF ∷ 0xFF ∷ 0xFF ∷ 0xFF ∷ 0xFF ∷ 0x01 ∷ [])
    ∷ []

-- each number of the table is written as its bytes
pub forms_written : map (λ (f : Form). tape_form f.number) forms ≡ map (λ (f : Form). f.bytes) forms
unfolding forms tape_form
forms_written = refl

-- bytes and what stands at their start
pub record Case : Type 0 where
  pub bytes : List ℕ
  pub want : Option (ℕ × ℕ)

-- a row of the table of cases
abbrev case : List ℕ → Option (ℕ × ℕ) → Case
case l w = record { bytes = l; want = w }

-- the forms above; then a 0 on top, a tenth group of 2, an eleventh group, no byte, and a number cut off
pub cases : List Case
cases =
    case (0x00 ∷ []) (Some (0, 1))
    ∷ case (0x7F ∷ []) (Some (127, 1))
    ∷ case (0x80 ∷ 0x01 ∷ []) (Some (128, 2))
    ∷ case (0x84 ∷ 0x20 ∷ 0x05 ∷ []) (Some (4100, 2))
    ∷ case (0xFF ∷ 0xFF ∷ 0xFF ∷ 0xFF ∷ 0xFF ∷ 0xFF ∷ 0xFF ∷ 0xFF ∷ 0xFF ∷ 0x01 ∷ []) (Some ((2 ^ 64 - 1), 10))
    ∷ case (0x80 ∷ 0x00 ∷ []) None
    ∷ case (0x80 ∷ 0x80 ∷ 0x80 ∷ 0x80 ∷ 0x80 ∷ 0x80 ∷ 0x80 ∷ 0x80 ∷ 0x80 ∷ 0x02 ∷ []) None
    ∷ case (0x80 ∷ 0x80 ∷ 0x80 ∷ 0x80 ∷ 0x80 ∷ 0x80 ∷ 0x80 ∷ 0x80 ∷ 0x80 ∷ 0x80 ∷ 0x01 ∷ []) None
    ∷ case [] None
    ∷ case (0x80 ∷ []) None
    ∷ []

-- each row of bytes is read as the table says
pub cases_read : map (λ (c : Case). tape_number_at c.bytes 0) cases ≡ map (λ (c : Case). c.want) cases
unfolding cases tape_number_at sevens lower number_in regular pick
cases_read = refl
