-- Packets, events and short runs of document 01's node, for theorems that go by computation; and the last event of a run.
-- Assumes nothing.
use Rattle.std.specs.Prelude.{ℕ, zero, suc, ◌≡◌, refl, List, [], ◌∷◌, ◌++◌}
use Rattle.sizes.specs.Sizes.{least_buffer}
use Rattle.records.specs.Happening.{Fate, opened, answered, nacked, expired, closed, self_met}
use Rattle.records.specs.Rows.{fate_number}
use Rattle.rules.specs.Node.{Node, What, packet, clock, open_face, close_face, set_route, add_hop, Event}
use Rattle.rules.specs.Step.{Book, run}
use Rattle.rules.specs.Laws.Compute.{computed}
use Rattle.history.specs.Key.{counted, of_face, key_of, is_fate}
use Rattle.history.specs.Lists.{All, both, how_many}
use Rattle.history.specs.Moments.{Moment, moment, moments, paper_history}

-- an event with room enough
abbrev pub at : ℕ → What → Event
at t w = record { time = t; room = least_buffer; what = w }

-- the name /a
abbrev pub a : List ℕ
a = 0x08 ∷ 0x01 ∷ 0x61 ∷ []

-- an Interest for /a, whose nonce ends in k; with 4 it is document 01's Interest I
abbrev pub asks_a : ℕ → List ℕ
asks_a k = 0x05 ∷ 0x0B ∷ 0x07 ∷ 0x03 ∷ 0x08 ∷ 0x01 ∷ 0x61 ∷ 0x0A ∷ 0x04 ∷ 0x01 ∷ 0x02 ∷ 0x03 ∷ k ∷ []

-- the same with CanBePrefix
abbrev pub asks_under_a : ℕ → List ℕ
asks_under_a k = 0x05 ∷ 0x0D ∷ 0x07 ∷ 0x03 ∷ 0x08 ∷ 0x01 ∷ 0x61 ∷ 0x21 ∷ 0x00 ∷ 0x0A ∷ 0x04 ∷ 0x01 ∷ 0x02 ∷ 0x03 ∷ k ∷ []

-- a Data of /a
abbrev pub brings_a : List ℕ
brings_a = 0x06 ∷ 0x09 ∷ 0x07 ∷ 0x03 ∷ 0x08 ∷ 0x01 ∷ 0x61 ∷ 0x16 ∷ 0x00 ∷ 0x17 ∷ 0x00 ∷ []

-- a Data of /a/x
abbrev pub brings_ax : List ℕ
brings_ax =
    0x06 ∷ 0x0C ∷ 0x07 ∷ 0x06 ∷ 0x08 ∷ 0x01 ∷ 0x61 ∷ 0x08 ∷ 0x01 ∷ 0x78 ∷ 0x16 ∷ 0x00 ∷ 0x17 ∷ 0x00 ∷ []

-- a Nack, with reason 150, of the Interest for /a whose nonce ends in k
abbrev pub nacks_a : ℕ → List ℕ
nacks_a k = 0x64 ∷ 0x18 ∷ 0xFD ∷ 0x03 ∷ 0x20 ∷ 0x05 ∷ 0xFD ∷ 0x03 ∷ 0x21 ∷ 0x01 ∷ 0x96 ∷ 0x50 ∷ 0x0D ∷ asks_a k

-- an Interest for the name of one component of one byte k, with k as its nonce
abbrev pub asks_for : ℕ → List ℕ
asks_for k = 0x05 ∷ 0x0B ∷ 0x07 ∷ 0x03 ∷ 0x08 ∷ 0x01 ∷ k ∷ 0x0A ∷ 0x04 ∷ 0x00 ∷ 0x00 ∷ 0x00 ∷ k ∷ []

-- an Interest for /localhost
abbrev pub asks_localhost : List ℕ
asks_localhost =
    0x05 ∷ 0x13 ∷ 0x07 ∷ 0x0B ∷ 0x08 ∷ 0x09 ∷ 108 ∷ 111 ∷ 99 ∷ 97 ∷ 108 ∷ 104 ∷ 111 ∷ 115 ∷ 116
    ∷ 0x0A ∷ 0x04 ∷ 0x01 ∷ 0x02 ∷ 0x03 ∷ 0x04 ∷ []

-- two faces, and a route of a class and a prefix to the second
abbrev pub ready : ℕ → List ℕ → List Event
ready c p = at 0 (open_face 1 1 0) ∷ at 0 (open_face 2 1 0) ∷ at 0 (set_route c p) ∷ at 0 (add_hop 2 10 p) ∷ []

-- an Interest for /a, on face 1
abbrev pub asked : List Event
asked = ready 1 a ++ (at 100 (packet 1 (asks_a 4)) ∷ [])

-- faces 1 to 3, and an Interest of face 1 for /a that left on face 2, and again on face 3
abbrev pub asked_twice : List Event
asked_twice =
    ready 1 a ++ (at 0 (open_face 3 1 0) ∷ at 0 (add_hop 3 20 a) ∷ at 100 (packet 1 (asks_a 4)) ∷ at 300 (packet 1 (asks_a 5)) ∷ [])

-- Interests on face 1 for k names, the last for that of 0
unfoldable pub openings : ℕ → List Event
openings zero = []
openings (suc k) = at 100 (packet 1 (asks_for k)) ∷ openings k

-- a run in which a request of face 1 comes to a fate
unfoldable pub run_of : Fate → List Event
run_of opened = asked
run_of answered = asked ++ (at 101 (packet 2 brings_a) ∷ [])
run_of nacked = asked ++ (at 101 (packet 2 (nacks_a 4)) ∷ [])
run_of expired = asked ++ (at 4100 clock ∷ [])
run_of closed = asked ++ (at 101 (close_face 1) ∷ [])
run_of self_met = asked ++ (at 101 (packet 1 brings_a) ∷ [])

-- it does, once
pub run_has : (x : Fate) → counted x (of_face 1) (paper_history (run_of x)) ≡ 1
unfolding computed run_of counted how_many is_fate fate_number key_of of_face
run_has opened = refl
run_has answered = refl
run_has nacked = refl
run_has expired = refl
run_has closed = refl
run_has self_met = refl

-- the first of some
first_all : {A : Type 0} {P : A → Type 0} {a : A} {l : List A} → All P (a ∷ l) → P a
first_all (both p h) = p

-- the others
rest_all : {A : Type 0} {P : A → Type 0} {a : A} {l : List A} → All P (a ∷ l) → All P l
rest_all (both p h) = h

-- what holds of each moment of a run holds of that of its last event
pub last_moment : (P : Moment → Type 0) (b : Book) (es : List Event) (e : Event) (n : Node)
    → All P (moments b (es ++ (e ∷ [])) n) → P (moment b e (run b es n))
unfolding moments run
last_moment P b [] e n h = first_all h
last_moment P b (x ∷ es) e n h = last_moment P b es e (b x n).node (rest_all h)
