-- Document 01, "Examples": the events of a tape, read one after the other.
-- Assumes nothing.
use Rattle.std.specs.Prelude.{ℕ, zero, suc, ◌-◌, List, [], ◌∷◌, length, take, drop, ltb, eqb}
use Rattle.std.proofs.Math.Option.{Option, none, some}
use Rattle.laws.specs.Pick.{pick}
use Rattle.tape.specs.Number.{Groups, cut, groups, sevens, regular}
use Rattle.rules.specs.Node.{What, packet, clock, open_face, close_face, set_route, drop_route, add_hop, drop_hop}

-- what the front of a tape is: an event, its time, what happens and what follows it on the tape; or "an unreadable event"
pub data Reading : Type 0 where
  unreadable : Reading
  event : ℕ → What → List ℕ → Reading

-- what is made of a number and of what follows it: "shortest form, at most 64 bits"
unfoldable pub onward : Groups → (ℕ → List ℕ → Reading) → Reading
onward cut go = unreadable
onward (groups v n l) go = pick (regular v n) (go v l) unreadable

-- a number at the front
unfoldable pub reads : List ℕ → (ℕ → List ℕ → Reading) → Reading
reads l go = onward (sevens l) go

-- so many bytes at the front, which the tape must have
unfoldable pub takes : ℕ → List ℕ → (List ℕ → List ℕ → Reading) → Reading
takes n l go = pick (ltb (length l) n) unreadable (go (take n l) (drop n l))

-- "length packet", "length prefix"
unfoldable pub counted : List ℕ → (List ℕ → List ℕ → Reading) → Reading
counted l go = reads l (λ n r. takes n r go)

-- "1 time face length packet"
unfoldable pub arrival : List ℕ → Reading
arrival l = reads l (λ t a. reads a (λ f b. counted b (λ p r. event t (packet f p) r)))

-- "2 time"
unfoldable pub ticking : List ℕ → Reading
ticking l = reads l (λ t r. event t clock r)

-- "3 time face scope(0 local, 1 not) link(0, 1, 2 as above)"
unfoldable pub opening : List ℕ → Reading
opening l = reads l (λ t a. reads a (λ f b. reads b (λ scope c. reads c (λ link r. event t (open_face f scope link) r))))

-- "4 time face (close)"
unfoldable pub closing : List ℕ → Reading
closing l = reads l (λ t a. reads a (λ f r. event t (close_face f) r))

-- "5 time class length prefix"
unfoldable pub setting : List ℕ → Reading
setting l = reads l (λ t a. reads a (λ class b. counted b (λ p r. event t (set_route class p) r)))

-- "6 time length prefix (drop)"
unfoldable pub dropping : List ℕ → Reading
dropping l = reads l (λ t a. counted a (λ p r. event t (drop_route p) r))

-- "7 time face cost length prefix"
unfoldable pub adding : List ℕ → Reading
adding l = reads l (λ t a. reads a (λ f b. reads b (λ cost c. counted c (λ p r. event t (add_hop f cost p) r))))

-- "8 time face length prefix (drop hop)"
unfoldable pub leaving : List ℕ → Reading
leaving l = reads l (λ t a. reads a (λ f b. counted b (λ p r. event t (drop_hop f p) r)))

-- an event of a kind, past the kind: any other kind is unreadable
unfoldable pub of_kind : ℕ → List ℕ → Reading
of_kind k l =
    pick (eqb k 1) (arrival l)
    (pick (eqb k 2) (ticking l)
    (pick (eqb k 3) (opening l)
    (pick (eqb k 4) (closing l)
    (pick (eqb k 5) (setting l)
    (pick (eqb k 6) (dropping l)
    (pick (eqb k 7) (adding l)
    (pick (eqb k 8) (leaving l) unreadable)))))))

-- the event at the front of a tape
unfoldable pub event_at : List ℕ → Reading
event_at l = reads l of_kind

-- an event of a tape: when, and what
pub record Given : Type 0 where
  pub time : ℕ
  pub what : What

-- a tape's events, and the offset of an unreadable one, if there is one: "An unreadable event prints `bad` and the offset of its first
-- byte, from 0, then the total, and ends the run"
pub record Tape : Type 0 where
  pub events : List Given
  pub bad : Option ℕ

-- nothing is left
abbrev pub ends : Tape
ends = record { events = []; bad = none }

-- an unreadable event begins at an offset
abbrev pub stops : ℕ → Tape
stops at = record { events = []; bad = some at }

-- one event more in front
abbrev pub more : Given → Tape → Tape
more g t = record { events = g ∷ t.events; bad = t.bad }

-- what is made of the front of a tape, which stands at an offset, and of what follows it
unfoldable pub next : ℕ → Reading → (List ℕ → Tape) → Tape
next at unreadable go = stops at
next at (event t w r) go = more (record { time = t; what = w }) (go r)

-- at most k events, at the end of a tape of n bytes
unfoldable pub at_most : ℕ → ℕ → List ℕ → Tape
at_most zero n l = ends
at_most (suc k) n l = pick (eqb (length l) 0) ends (next (n - length l) (event_at l) (λ r. at_most k n r))

-- a tape's events, one after the other: each has two bytes at least, so that there are no more than bytes
unfoldable pub tape_of : List ℕ → Tape
tape_of l = at_most (length l) (length l) l
