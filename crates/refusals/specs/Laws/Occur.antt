-- Each of the 17 answers occurs: one run from the empty node, by computation. So no row of the table is empty.
-- Assumes nothing.
use Rattle.std.specs.Prelude.{ℕ, zero, suc, ◌+◌, ◌-◌, ◌≡◌, refl, false, List, [], ◌∷◌, ◌++◌, map, replicate}
use Rattle.sizes.specs.Sizes.{most_faces, most_packet, most_time, least_buffer}
use Rattle.rules.specs.Step.{paper_node}
use Rattle.answers.specs.Number.{number_of}
use Rattle.writing.specs.Written.{nack_bytes}
use Rattle.rules.specs.Node.{empty_node, What, packet, open_face, set_route, add_hop, Event}
use Rattle.rules.specs.Outcome.{Outcome}
use Rattle.rules.specs.Laws.Compute.{computed}

-- an event at time 0, with the least buffer
abbrev at : What → Event
at w = record { time = 0; room = least_buffer; what = w }

-- an Interest for the name of one component of one byte k, with k as its nonce
abbrev ask : ℕ → List ℕ
ask k = 0x05 ∷ 0x0B ∷ 0x07 ∷ 0x03 ∷ 0x08 ∷ 0x01 ∷ k ∷ 0x0A ∷ 0x04 ∷ 0x00 ∷ 0x00 ∷ 0x00 ∷ k ∷ []

-- events of k and of each number below it
down : (ℕ → What) → ℕ → List Event
down w zero = []
down w (suc k) = at (w k) ∷ down w k

-- an event, and the number of its answer
pub record Line : Type 0 where
  pub event : Event
  pub number : ℕ

-- an event at time 0, and its answer
abbrev line : What → ℕ → Line
line w k = record { event = at w; number = k }

-- a run in which each answer is given
pub lines : List Line
lines =
    line (open_face 1 1 0) 0
    ∷ record { event = record { time = most_time + 1; room = least_buffer; what = What.clock }; number = 1 }
    ∷ record { event = record { time = 0; room = least_buffer - 1; what = What.clock }; number = 2 }
    ∷ line (open_face (most_faces + 1) 1 0) 3
    ∷ line (packet 1 (replicate (most_packet + 1) 0)) 4
    ∷ line (packet 1 []) 5
    -- an Interest with a ForwardingHint
    ∷ line (packet 1 (0x05 ∷ 0x0D ∷ 0x07 ∷ 0x03 ∷ 0x08 ∷ 0x01 ∷ 0x61 ∷ 0x1E ∷ 0x00 ∷ 0x0A ∷ 0x04 ∷ 0x01 ∷ 0x02 ∷ 0x03 ∷ 0x04 ∷ [])) 6
    -- an Interest with HopLimit 0
    ∷ line (packet 1 (0x05 ∷ 0x0E ∷ 0x07 ∷ 0x03 ∷ 0x08 ∷ 0x01 ∷ 0x61 ∷ 0x0A ∷ 0x04 ∷ 0x01 ∷ 0x02 ∷ 0x03 ∷ 0x04 ∷ 0x22 ∷ 0x01 ∷ 0x00 ∷ [])) 7
    -- an Interest for /localhost
    ∷ line (packet 1 (0x05 ∷ 0x13 ∷ 0x07 ∷ 0x0B ∷ 0x08 ∷ 0x09 ∷ 108 ∷ 111 ∷ 99 ∷ 97 ∷ 108 ∷ 104 ∷ 111 ∷ 115 ∷ 116 ∷ 0x0A ∷ 0x04 ∷ 0x01
    ∷ 0x02 ∷ 0x03 ∷ 0x04 ∷ [])) 8
    ∷ line (packet 1 (ask 24)) 10
    ∷ line (open_face 1 1 0) 14
    ∷ line (open_face 2 2 0) 15
    ∷ line (open_face 2 1 0) 0
    ∷ line (set_route 3 []) 0
    ∷ line (add_hop 2 10 []) 0
    ∷ line (packet 1 (ask 24)) 0
    -- the same nonce on another face
    ∷ line (packet 2 (ask 24)) 9
    -- a Data for /b
    ∷ line (packet 2 (0x06 ∷ 0x09 ∷ 0x07 ∷ 0x03 ∷ 0x08 ∷ 0x01 ∷ 0x62 ∷ 0x16 ∷ 0x00 ∷ 0x17 ∷ 0x00 ∷ [])) 12
    -- a Nack on a face to which nothing was sent
    ∷ line (packet 1 (nack_bytes 150 (0x08 ∷ 0x01 ∷ 24 ∷ []) false false 24)) 13
    ∷ []

-- then bulk requests until there is no room, and routes until there is no place
pub rest : List Event
rest = down (λ k. packet 1 (ask k)) 24 ++ down (λ k. set_route 1 (0x08 ∷ 0x01 ∷ k ∷ [])) 32

-- the run gives these answers, 0 to 16 among them
pub each-answer :
    map (λ (o : Outcome). number_of o.answer) (computed most_faces least_buffer (map (λ (l : Line). l.event) lines ++ rest) paper_node)
    ≡ map (λ (l : Line). l.number) lines ++ (replicate 23 0 ++ (11 ∷ replicate 31 0 ++ (16 ∷ [])))
unfolding lines rest down computed empty_node nack_bytes
each-answer = refl
