-- What comes in past ageing: the contract of the functions that an event goes on with. They may be called by themselves, so that they ask
-- again what makes their promise hold of any memory and any buffer.
-- Assumes nothing.
use Rattle.std.specs.Prelude.{ℕ, ◌≡◌, map, length, ltb}
use denote.Triple.Both.{Both}
use Rattle.std.proofs.lemmas.List.Edits.{sets}
use Rattle.answers.specs.declared.Answer.{Answer}
use Rattle.laws.specs.Pick.{pick}
use Rattle.sizes.specs.Sizes.{most_time, most_packet, most_name, least_buffer}
use Rattle.records.specs.Rows.{row_of}
use Rattle.happenings.specs.Noted.{most_rows, Notes}
use Rattle.rules.specs.Node.{Node}
use Rattle.rules.specs.Outcome.{Outcome, quiet}
use Rattle.rules.specs.Packed.{packed}
use Rattle.sending.specs.Rows.{send_row}
use Rattle.event.specs.declared.Came.{Came}
use Rattle.event.specs.declared.Memory.{Memory}
use Rattle.event.specs.Memory.{Output, node_of}

-- an outcome as code gives it, after k rows of happenings: the answer, the node, the sends as rows and in the buffer, and the happenings as
-- rows, as far as there are rows; every other row and byte is as it was
pub record Goes (k : ℕ) (x : Outcome) (r : Came) (n : Node) (o o' : Output) : Type 0 where
  pub answer : r.answer ≡ x.answer
  pub node : n ≡ x.node
  pub sent : r.sent ≡ length x.sends
  pub sends : o'.sends ≡ sets o.sends 0 (map send_row (packed x.sends o.buffer).places)
  pub buffer : o'.buffer ≡ (packed x.sends o.buffer).buffer
  pub noted : Notes most_rows r.made o'.rows o.rows k (map row_of x.happenings)

-- what is made of the node that a memory means, from a memory and an output to those after it
abbrev pub After : (Node → Outcome) → ℕ → Came → Both Memory Memory → Both Output Output → Type 0
After x k r m o = Goes k (x (node_of m.entry)) r (node_of m.exit) o.entry o.exit

-- "time .. above 2^53", "output buffer under 8,192", "packet or name over its size": what is asked again, of a last time, a buffer's
-- length, a packet's and a name's
unfoldable pub guard_says : ℕ → ℕ → ℕ → ℕ → Answer
guard_says time room packet name =
    pick (ltb most_time time) Answer.Clock
    (pick (ltb room least_buffer) Answer.SmallBuffer
    (pick (ltb most_packet packet) Answer.TooLong (pick (ltb most_name name) Answer.TooLong Answer.Done)))

-- an outcome, where nothing of that is against it
unfoldable pub guarded : ℕ → ℕ → ℕ → Node → Outcome → Outcome
guarded room packet name n x =
    pick (ltb most_time n.time) (quiet Answer.Clock n)
    (pick (ltb room least_buffer) (quiet Answer.SmallBuffer n)
    (pick (ltb most_packet packet) (quiet Answer.TooLong n) (pick (ltb most_name name) (quiet Answer.TooLong n) x)))
