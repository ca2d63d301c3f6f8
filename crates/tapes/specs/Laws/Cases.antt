-- Tapes worked out: document 01's sample tape, one of the other kinds, and tapes with an unreadable event after a clock reading.
-- Assumes nothing.
use Rattle.std.specs.Prelude.{ℕ, ◌-◌, ◌^◌, ◌≡◌, refl, List, [], ◌∷◌, ◌++◌, map}
use Rattle.std.proofs.Math.Option.{none, some}
use Rattle.laws.specs.Pick.{pick}
use Rattle.rules.specs.Node.{What, packet, clock, open_face, close_face, set_route, drop_route, add_hop, drop_hop}
use Rattle.tape.specs.Number.{lower, sevens, regular}
use Rattle.tape.specs.Laws.NumberRound.{tape_form}
use Rattle.tapes.specs.Tape.{onward, reads, takes, counted, of_kind, event_at}
use Rattle.tapes.specs.Tape.{arrival, ticking, opening, closing, setting, dropping, adding, leaving}
use Rattle.tapes.specs.Tape.{Given, Tape, next, at_most, tape_of}
use Rattle.tapes.specs.Laws.Form.{with_length, kind_of, parts_of, written, all_written}

-- an event at a time
abbrev on : ℕ → What → Given
on t w = record { time = t; what = w }

-- the packet "I" of document 01
abbrev packet_i : List ℕ
packet_i = 0x05 ∷ 0x0B ∷ 0x07 ∷ 0x03 ∷ 0x08 ∷ 0x01 ∷ 0x61 ∷ 0x0A ∷ 0x04 ∷ 0x01 ∷ 0x02 ∷ 0x03 ∷ 0x04 ∷ []

-- the value of the Name /a
abbrev name_a : List ℕ
name_a = 0x08 ∷ 0x01 ∷ 0x61 ∷ []

-- "Tape: `03 00 01 01 00`, `03 00 02 01 00`, `05 00 01 03 08 01 61`, `07 00 02 0A 03 08 01 61`, `01 64 01 0D` then I, `02 84 20`"
pub sample : List ℕ
sample =
    (0x03 ∷ 0x00 ∷ 0x01 ∷ 0x01 ∷ 0x00 ∷ [])
    ++ (0x03 ∷ 0x00 ∷ 0x02 ∷ 0x01 ∷ 0x00 ∷ [])
    ++ (0x05 ∷ 0x00 ∷ 0x01 ∷ 0x03 ∷ 0x08 ∷ 0x01 ∷ 0x61 ∷ [])
    ++ (0x07 ∷ 0x00 ∷ 0x02 ∷ 0x0A ∷ 0x03 ∷ 0x08 ∷ 0x01 ∷ 0x61 ∷ [])
    ++ (0x01 ∷ 0x64 ∷ 0x01 ∷ 0x0D ∷ [])
    ++ packet_i
    ++ (0x02 ∷ 0x84 ∷ 0x20 ∷ [])

-- its events
pub sample_events : List Given
sample_events =
    on 0 (open_face 1 1 0)
    ∷ on 0 (open_face 2 1 0)
    ∷ on 0 (set_route 1 name_a)
    ∷ on 0 (add_hop 2 10 name_a)
    ∷ on 100 (packet 1 packet_i)
    ∷ on 4100 clock
    ∷ []

-- bytes of a tape, and what it is
pub record Case : Type 0 where
  pub bytes : List ℕ
  pub want : Tape

-- a row of the table whose events can all be read
abbrev good : List ℕ → List Given → Case
good l gs = record { bytes = l; want = record { events = gs; bad = none } }

-- a row in which nothing can be read after a clock reading at 7, of two bytes
abbrev wrong : List ℕ → Case
wrong l = record { bytes = 0x02 ∷ 0x07 ∷ l; want = record { events = on 7 clock ∷ []; bad = some 2 } }

-- the sample; the kinds that it has not; great numbers, which are readable; then kinds 0 and 9, a number cut off, not shortest and over
-- 64 bits, an event without its last number, and lengths beyond the tape, by one byte and by the most
pub cases : List Case
cases =
    good sample sample_events
    ∷ good (0x04 ∷ 0x09 ∷ 0x10 ∷ 0x06 ∷ 0x09 ∷ 0x00 ∷ 0x08 ∷ 0x0A ∷ 0x02 ∷ 0x03 ∷ name_a)
    (on 9 (close_face 16) ∷ on 9 (drop_route []) ∷ on 10 (drop_hop 2 name_a) ∷ [])
    ∷ good (0x02 ∷ 0xFF ∷ 0xFF ∷ 0xFF ∷ 0xFF ∷ 0xFF ∷ 0xFF ∷ 0xFF ∷ 0xFF ∷ 0xFF ∷ 0x01 ∷ []) (on (2 ^ 64 - 1) clock ∷ [])
    ∷ good [] []
    ∷ wrong (0x00 ∷ [])
    ∷ wrong (0x09 ∷ 0x00 ∷ [])
    ∷ wrong (0x02 ∷ [])
    ∷ wrong (0x02 ∷ 0x80 ∷ [])
    ∷ wrong (0x02 ∷ 0x80 ∷ 0x00 ∷ [])
    ∷ wrong (0x81 ∷ 0x00 ∷ 0x00 ∷ [])
    ∷ wrong (0x02 ∷ 0xFF ∷ 0xFF ∷ 0xFF ∷ 0xFF ∷ 0xFF ∷ 0xFF ∷ 0xFF ∷ 0xFF ∷ 0xFF ∷ 0x02 ∷ [])
    ∷ wrong (0x03 ∷ 0x07 ∷ 0x01 ∷ 0x01 ∷ [])
    ∷ wrong (0x05 ∷ 0x07 ∷ 0x01 ∷ 0x04 ∷ name_a)
    ∷ wrong (0x07 ∷ 0x07 ∷ 0x01 ∷ 0x01 ∷ 0xFF ∷ 0xFF ∷ 0xFF ∷ 0xFF ∷ 0xFF ∷ 0xFF ∷ 0xFF ∷ 0xFF ∷ 0xFF ∷ 0x01 ∷ 0x08 ∷ [])
    ∷ []

-- each tape is read as the table says
pub cases_read : map (λ (c : Case). tape_of c.bytes) cases ≡ map (λ (c : Case). c.want) cases
unfolding cases sample sample_events tape_of at_most next event_at of_kind arrival ticking opening closing setting dropping
    adding leaving counted takes reads onward sevens lower regular pick
cases_read = refl

-- the sample's events are written as document 01 has them
pub sample_written : all_written sample_events ≡ sample
unfolding sample sample_events all_written written parts_of kind_of with_length tape_form
sample_written = refl
