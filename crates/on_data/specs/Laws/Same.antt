-- The contract of a Data leaves one outcome: everything that it speaks of is fixed by the node that the memory means, the Data and the
-- output.
-- Assumes nothing.
use Rattle.std.specs.Prelude.{ℕ, ◌≡◌, List}
use denote.Triple.Both.{Both}
use Rattle.packets.specs.declared.bare.Data.{Data}
use Rattle.event.specs.declared.Came.{Came}
use Rattle.event.specs.declared.Memory.{Memory}
use Rattle.event.specs.Memory.{Output, node_of}
use Rattle.event.specs.Laws.Same.{Same}
use Rattle.coming.specs.Goes.{After}
use Rattle.coming.specs.Laws.Goes.{after_same}
use Rattle.on_data.specs.Places.Brings.{data_on}

-- from two memories that mean the same node, with the same output and rows, the same Data comes to the same
pub data_on_same : (r s : Came) (m p : Both Memory Memory) (o q : Both Output Output) → node_of m.entry ≡ node_of p.entry
    → o.entry ≡ q.entry → (k j f h : ℕ) (b c : List ℕ) (d e : Data) → k ≡ j → f ≡ h → b ≡ c → d ≡ e
    → After (data_on f b d o.entry) k r m o → After (data_on h c e q.entry) j s p q
    → Same r s (node_of m.exit) (node_of p.exit) o.exit q.exit
data_on_same r s m p o q node output k j f h b c d e ek ef eb ed x y =
    after_same r s m p o q node output (data_on f b d o.entry) (data_on h c e q.entry) k j (rw (ef, eb, ed, output)) ek x y
