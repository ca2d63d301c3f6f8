-- Events as a tape has them: what the round trip is stated of.
-- Assumes nothing.
use Rattle.std.specs.Prelude.{ℕ, ◌^◌, Bool, true, ◌&&◌, List, [], ◌∷◌, ◌++◌, length, ltb}
use Rattle.tape.specs.Laws.NumberRound.{tape_form}
use Rattle.rules.specs.Node.{What, packet, clock, open_face, close_face, set_route, drop_route, add_hop, drop_hop}
use Rattle.tapes.specs.Tape.{Given}

-- bytes after their length
unfoldable pub with_length : List ℕ → List ℕ
with_length p = tape_form (length p) ++ p

-- the kind of an event
unfoldable pub kind_of : What → ℕ
kind_of (packet f p) = 1
kind_of clock = 2
kind_of (open_face f scope link) = 3
kind_of (close_face f) = 4
kind_of (set_route class p) = 5
kind_of (drop_route p) = 6
kind_of (add_hop f cost p) = 7
kind_of (drop_hop f p) = 8

-- what follows an event's time on a tape
unfoldable pub parts_of : What → List ℕ
parts_of (packet f p) = tape_form f ++ with_length p
parts_of clock = []
parts_of (open_face f scope link) = tape_form f ++ (tape_form scope ++ tape_form link)
parts_of (close_face f) = tape_form f
parts_of (set_route class p) = tape_form class ++ with_length p
parts_of (drop_route p) = with_length p
parts_of (add_hop f cost p) = tape_form f ++ (tape_form cost ++ with_length p)
parts_of (drop_hop f p) = tape_form f ++ with_length p

-- an event as a tape has it
unfoldable pub written : Given → List ℕ
written g = tape_form (kind_of g.what) ++ (tape_form g.time ++ parts_of g.what)

-- events as a tape has them, one after the other
unfoldable pub all_written : List Given → List ℕ
all_written [] = []
all_written (g ∷ gs) = written g ++ all_written gs

-- "at most 64 bits"
unfoldable pub fits : ℕ → Bool
fits v = ltb v (2 ^ 64)

-- whether every number of what happens can be written, lengths too
unfoldable pub fitting : What → Bool
fitting (packet f p) = fits f && fits (length p)
fitting clock = true
fitting (open_face f scope link) = fits f && (fits scope && fits link)
fitting (close_face f) = fits f
fitting (set_route class p) = fits class && fits (length p)
fitting (drop_route p) = fits (length p)
fitting (add_hop f cost p) = fits f && (fits cost && fits (length p))
fitting (drop_hop f p) = fits f && fits (length p)

-- whether a tape can have an event
unfoldable pub writable : Given → Bool
writable g = fits g.time && fitting g.what

-- whether a tape can have all events
unfoldable pub all_writable : List Given → Bool
all_writable [] = true
all_writable (g ∷ gs) = writable g && all_writable gs
