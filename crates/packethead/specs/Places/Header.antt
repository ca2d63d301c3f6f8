-- What the reader of a header answers: where the bare packet stands.
-- Assumes nothing.
use Rattle.answers.specs.declared.Answer.{Answer}
use Rattle.packethead.specs.declared.header.Part.{Part}
use Rattle.std.specs.Prelude.{ℕ, ◌+◌, ◌-◌, List, [], length, take, drop, leb, Err, None, Ok, Option, Result, Some}
use Rattle.laws.specs.Pick.{pick}
use Rattle.grammar.specs.declared.Place.{Place}
use Rattle.packethead.specs.Header.{Came, refused, bare}

-- the bytes at a place of l; none where the place does not lie within l
unfoldable pub part_at : List ℕ → Place → List ℕ
part_at l p = pick (leb (p.at + p.len) (length l)) (take p.len (drop p.at l)) []

-- the bytes of an element that was looked for in l; none where it was not found
unfoldable pub bytes_at : List ℕ → Option Place → List ℕ
bytes_at l None = []
bytes_at l (Some p) = part_at l p

-- the header with the bare packet's place, in n bytes that begin at base
unfoldable pub header_from : ℕ → ℕ → Came → Result Part Answer
header_from base n (refused a) = Err a
header_from base n (bare b) =
    Ok (record { from = base + (n - b.left - length b.bytes); len = length b.bytes; nack = b.nack; marked = b.marked })

-- the header with the bare packet's place in a packet of n bytes
unfoldable pub header_in : ℕ → Came → Result Part Answer
unfolding header_from
header_in n c = header_from 0 n c

-- the Nack that a place tells of: none where there is no place, else the reason
unfoldable pub nack_at : Option Place → ℕ → Option ℕ
nack_at None reason = None
nack_at (Some p) reason = Some reason
