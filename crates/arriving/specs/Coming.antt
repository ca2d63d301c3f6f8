-- What comes in on a face, past ageing: "a Nack reason or none, the header's mark and a bare part". A packet as it came is one use of it; a
-- packet that was joined of several enters here too.
-- Assumes nothing.
use Rattle.std.specs.Prelude.{ℕ, Bool, List, length, Option}
use Rattle.packets.specs.Meaning.{heard_bare}
use Rattle.rules.specs.Node.{Node}
use Rattle.rules.specs.Outcome.{Outcome}
use Rattle.rules.specs.Step.{arrives}
use Rattle.coming.specs.Goes.{guarded}

-- what it comes to: the rules' `arrives`, where the last time, the buffer's length and the packet's have nothing against it; the name's
-- size is the reader's to refuse
unfoldable pub comes_in : ℕ → Option ℕ → Bool → List ℕ → ℕ → Node → Outcome
comes_in room k m bare f n = guarded room (length bare) 0 n (arrives n.time n f (heard_bare k m bare))
