-- The contract of any event: what the code answers, leaves and writes is what the rules' outcome says.
-- Assumes nothing.
use Rattle.std.specs.Prelude.{ℕ, ◌+◌, ◌≡◌, Bool, map, length}
use denote.Triple.Both.{Both}
use Rattle.std.proofs.lemmas.List.Edits.{sets}
use Rattle.sizes.specs.Sizes.{most_faces, least_buffer}
use Rattle.records.specs.Rows.{row_of}
use Rattle.rules.specs.Node.{Node, What}
use Rattle.rules.specs.Outcome.{Outcome}
use Rattle.rules.specs.Packed.{packed}
use Rattle.rules.specs.Step.{step}
use Rattle.event.specs.declared.Came.{Came}
use Rattle.sending.specs.Rows.{send_row}
use Rattle.event.specs.Begun.{begun}
use Rattle.event.specs.declared.Memory.{Memory}
use Rattle.event.specs.Memory.{Output, node_of}

-- an outcome as code gives it, where k rows of happenings were noted before: the answer, the node, the sends as rows and in the buffer,
-- and the happenings as rows; every other row and byte is as it was
pub record Comes (k : ℕ) (x : Outcome) (r : Came) (n : Node) (o o' : Output) : Type 0 where
  pub answer : r.answer ≡ x.answer
  pub node : n ≡ x.node
  pub sent : r.sent ≡ length x.sends
  pub sends : o'.sends ≡ sets o.sends 0 (map send_row (packed x.sends o.buffer).places)
  pub buffer : o'.buffer ≡ (packed x.sends o.buffer).buffer
  pub made : r.made ≡ k + length x.happenings
  pub rows : o'.rows ≡ sets o.rows k (map row_of x.happenings)

-- one event of the rules, from a memory and an output to those after it
abbrev pub Stepped : ℕ → What → Came → Both Memory Memory → Both Output Output → Type 0
Stepped time w r m o =
    Comes 0 (step most_faces least_buffer (record { time = time; room = length o.entry.buffer; what = w }) (node_of m.entry)) r
    (node_of m.exit) o.entry o.exit

-- an event that only begins: checks 1, 2, 3 and ageing
abbrev pub Begun : ℕ → Bool → Came → Both Memory Memory → Both Output Output → Type 0
Begun time bad r m o =
    Comes 0 (begun least_buffer time (length o.entry.buffer) bad (node_of m.entry)) r (node_of m.exit) o.entry o.exit
