-- The contract of an Interest leaves one outcome: everything that it speaks of is fixed by the node that the memory means, the Interest and
-- the output.
-- Assumes nothing.
use Rattle.std.specs.Prelude.{ℕ, ◌≡◌, List, length}
use denote.Triple.Both.{Both}
use Rattle.packethead.specs.Name.{name_of}
use Rattle.packets.specs.declared.bare.Interest.{Interest}
use Rattle.rules.specs.Node.{Node}
use Rattle.rules.specs.Outcome.{Outcome}
use Rattle.rules.specs.Interest.{interest_step}
use Rattle.event.specs.declared.Came.{Came}
use Rattle.event.specs.declared.Memory.{Memory}
use Rattle.event.specs.Memory.{Output, node_of}
use Rattle.event.specs.Laws.Same.{Same}
use Rattle.coming.specs.Goes.{After, guarded}
use Rattle.coming.specs.Places.Found.{arrival_found}
use Rattle.coming.specs.Laws.Goes.{after_same}

-- what an Interest on a face makes of a node, where nothing that is asked again is against it
abbrev pub interest_on : ℕ → List ℕ → Interest → Output → Node → Outcome
interest_on f bare i o n =
    guarded (length o.buffer) (length bare) (length (name_of bare)) n (interest_step n.time n (arrival_found f bare i))

-- from two memories that mean the same node, with the same output and rows, the same Interest comes to the same
pub interest_on_same : (r s : Came) (m p : Both Memory Memory) (o q : Both Output Output) → node_of m.entry ≡ node_of p.entry
    → o.entry ≡ q.entry → (k j f h : ℕ) (b c : List ℕ) (d e : Interest) → k ≡ j → f ≡ h → b ≡ c → d ≡ e
    → After (interest_on f b d o.entry) k r m o → After (interest_on h c e q.entry) j s p q
    → Same r s (node_of m.exit) (node_of p.exit) o.exit q.exit
interest_on_same r s m p o q node output k j f h b c d e ek ef eb ed x y =
    after_same r s m p o q node output (interest_on f b d o.entry) (interest_on h c e q.entry) k j (rw (ef, eb, ed, output)) ek x y
