-- The contract of `route` leaves one outcome: everything that it speaks of is fixed by the node that the memory means, the Interest with
-- its name, and the output.
-- Assumes nothing.
use Rattle.std.specs.Prelude.{ℕ, ◌≡◌, List, length}
use denote.Triple.Both.{Both}
use Rattle.packets.specs.declared.bare.Interest.{Interest}
use Rattle.records.specs.Route.{longest}
use Rattle.rules.specs.Node.{Node}
use Rattle.rules.specs.Outcome.{Outcome}
use Rattle.rules.specs.Interest.{routed}
use Rattle.event.specs.declared.Came.{Came}
use Rattle.event.specs.declared.Memory.{Memory}
use Rattle.event.specs.Memory.{Output, node_of}
use Rattle.event.specs.Laws.Same.{Same}
use Rattle.coming.specs.Goes.{After, guarded}
use Rattle.coming.specs.Places.Found.{arrival_named}
use Rattle.coming.specs.Laws.Goes.{after_same}

-- what an Interest of a name, without an entry and without a hit, makes of a node, where nothing that is asked again is against it
abbrev pub route_on : ℕ → List ℕ → List ℕ → Interest → Output → Node → Outcome
route_on f name bare i o n =
    guarded (length o.buffer) (length bare) (length name) n
    (routed n.time n (arrival_named f name bare i) (longest name n.routes))

-- from two memories that mean the same node, with the same output and rows, the same Interest comes to the same
pub route_on_same : (r s : Came) (m p : Both Memory Memory) (o q : Both Output Output) → node_of m.entry ≡ node_of p.entry
    → o.entry ≡ q.entry → (k j f h : ℕ) (l g b c : List ℕ) (d e : Interest) → k ≡ j → f ≡ h → l ≡ g → b ≡ c → d ≡ e
    → After (route_on f l b d o.entry) k r m o → After (route_on h g c e q.entry) j s p q
    → Same r s (node_of m.exit) (node_of p.exit) o.exit q.exit
route_on_same r s m p o q node output k j f h l g b c d e ek ef el eb ed x y =
    after_same r s m p o q node output (route_on f l b d o.entry) (route_on h g c e q.entry) k j (rw (ef, el, eb, ed, output)) ek x y
