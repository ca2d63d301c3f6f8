-- What was found, by a name of its own or by the name that the name finder gives.
-- Assumes nothing.
use Rattle.std.specs.Prelude.{ℕ, ◌≡◌, List}
use Rattle.packethead.specs.Name.{name_of}
use Rattle.packets.specs.declared.bare.Interest.{Interest}
use Rattle.coming.specs.Places.Found.{ask_found, arrival_named, arrival_found}

-- an Interest is the same by both, where they are one name
pub arrival_named_lem : (f : ℕ) (name bare : List ℕ) (i : Interest) → name ≡ name_of bare
    → arrival_named f name bare i ≡ arrival_found f bare i
unfolding arrival_named arrival_found ask_found
arrival_named_lem f name bare i e = rw e
