-- Document 01, "Reading packets": what came is a bare packet, or an LpPacket that holds one, with a Nack or without. Over a list of bytes.
-- Assumes nothing.
use Rattle.std.specs.Prelude.{ℕ, Bool, true, false, List, [], length, get_or, ltb, eqb, None, Option, Some}
use Rattle.laws.specs.Pick.{pick}
use Rattle.wire.specs.Number.{big, is_whole}
use Rattle.wire.specs.Element.{element, onward}
use Rattle.wire.specs.Verdict.{is_malformed, is_unsupported}
use Rattle.sizes.specs.Sizes.{most_packet}
use Rattle.answers.specs.declared.Answer.{Answer}
use Rattle.grammar.specs.Types as types
use Rattle.grammar.specs.Orders as order
use Rattle.grammar.specs.Table.{table, row_of, outer}
use Rattle.grammar.specs.Walk.{Field, absent, here, Fields, walked}

-- the element of an order
abbrev pub val : Fields → ℕ → Field
val f o = get_or f.vals o absent

-- a field's bytes; none where it is absent
abbrev pub bytes_in : Field → List ℕ
bytes_in absent = []
bytes_in (here v k) = v

-- whether a field is absent
abbrev pub missing : Field → Bool
missing absent = true
missing (here v k) = false

-- whether a field is there
abbrev pub present : Field → Bool
present absent = false
present (here v k) = true

-- "Whole numbers in elements take 1, 2, 4 or 8 bytes."
unfoldable pub whole_number : List ℕ → ℕ
whole_number l = pick (is_whole (length l)) (big 0 l) 0

-- a bare packet: the Nack that it came with, whether its header has an element that is 6, its bytes, and how many bytes follow it, which
-- tells where it stands (no meaning depends on that)
pub record Bare : Type 0 where
  pub nack : Option ℕ
  pub marked : Bool
  pub bytes : List ℕ
  pub left : ℕ

-- the header's refusal, or the bare packet
pub data Came : Type 0 where
  refused : Answer → Came
  bare : Bare → Came

-- "Nack is empty (reason 0) or holds one NackReason"
unfoldable pub nacked_by : Field → Field → Option ℕ
nacked_by absent r = None
nacked_by (here v k) r = Some (whole_number (bytes_in r))

-- "no Fragment, is 6"
unfoldable pub fragment_read : Field → Option ℕ → Bool → Came
fragment_read absent n m = refused Answer.Unsupported
fragment_read (here v k) n m = bare (record { nack = n; marked = m; bytes = v; left = k })

-- an LpPacket's elements f, and the elements g of its Nack; without a Nack there are none
unfoldable pub lp_fields : Fields → Fields → Came
lp_fields f g =
    pick (is_malformed f.said) (refused Answer.Malformed)
    (pick (is_malformed g.said) (refused Answer.Malformed)
    (fragment_read (val f order.fragment) (nacked_by (val f order.nack) (val g order.nack_reason)) (is_unsupported f.said)))

-- an LpPacket's value
unfoldable pub lp_read : List ℕ → Came
unfolding whole_number nacked_by fragment_read lp_fields walked
lp_read v = lp_fields (walked types.lp_packet v) (walked types.nack (bytes_in (val (walked types.lp_packet v) order.nack)))

-- "An outer type other than 0x05, 0x06 or 0x64 is 5."
unfoldable pub outer_read : ℕ → List ℕ → List ℕ → Came
outer_read t v l =
    pick (eqb (row_of outer t table).order 0) (refused Answer.Malformed)
    (pick (eqb (row_of outer t table).order order.lp_packet) (lp_read v)
    (bare (record { nack = None; marked = false; bytes = l; left = 0 })))

-- a packet as it came: "packet over 1,500 (4)", then "the packet [ends] at the last byte"
unfoldable pub header_read : List ℕ → Came
unfolding pick onward table row_of lp_read outer_read
header_read l =
    pick (ltb most_packet (length l)) (refused Answer.TooLong)
    (onward (element l) (refused Answer.Malformed) (λ t v r. pick (ltb 0 (length r)) (refused Answer.Malformed) (outer_read t v l)))
