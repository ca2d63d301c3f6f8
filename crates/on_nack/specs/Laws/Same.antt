-- The contract of a Nack leaves one outcome: everything that it speaks of is fixed by the node that the memory means, the Nack and the
-- output.
-- Assumes nothing.
use Rattle.std.specs.Prelude.{ℕ, ◌≡◌, List}
use denote.Triple.Both.{Both}
use Rattle.packets.specs.declared.bare.Interest.{Interest}
use Rattle.event.specs.declared.Came.{Came}
use Rattle.event.specs.declared.Memory.{Memory}
use Rattle.event.specs.Memory.{Output, node_of}
use Rattle.event.specs.Laws.Same.{Same}
use Rattle.coming.specs.Goes.{After}
use Rattle.coming.specs.Laws.Goes.{after_same}
use Rattle.on_nack.specs.Places.Turns.{nack_on}

-- from two memories that mean the same node, with the same output and rows, the same Nack comes to the same
pub nack_on_same : (r s : Came) (m p : Both Memory Memory) (o q : Both Output Output) → node_of m.entry ≡ node_of p.entry
    → o.entry ≡ q.entry → (k j f h a g : ℕ) (b c : List ℕ) (d e : Interest) → k ≡ j → f ≡ h → a ≡ g → b ≡ c → d ≡ e
    → After (nack_on f a b d o.entry) k r m o → After (nack_on h g c e q.entry) j s p q
    → Same r s (node_of m.exit) (node_of p.exit) o.exit q.exit
nack_on_same r s m p o q node output k j f h a g b c d e ek ef ea eb ed x y =
    after_same r s m p o q node output (nack_on f a b d o.entry) (nack_on h g c e q.entry) k j (rw (ef, ea, eb, ed, output)) ek x y
