-- What a packet past ageing comes to, by its header.
-- Assumes nothing.
use Rattle.std.specs.Prelude.{ℕ, List}
use Rattle.packethead.specs.Header.{Came, header_read}
use Rattle.packethead.specs.Header as header
use Rattle.rules.specs.Node.{Node}
use Rattle.rules.specs.Outcome.{Outcome, quiet}
use Rattle.arriving.specs.Coming.{comes_in}

-- the header's refusal, or what comes in
unfoldable pub read_by : ℕ → ℕ → Node → Came → Outcome
read_by room f n (header.refused a) = quiet a n
read_by room f n (header.bare b) = comes_in room b.nack b.marked b.bytes f n

-- of the packet l on face f
unfoldable pub read_in : ℕ → ℕ → List ℕ → Node → Outcome
read_in room f l n = read_by room f n (header_read l)
