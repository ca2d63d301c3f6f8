-- The cases that document 01 marks P, its sample tape, and some more: one table under one claim, by computation.
-- Assumes nothing.
use Rattle.std.specs.Prelude.{ℕ, zero, suc, ◌+◌, ◌≡◌, refl, false, List, [], ◌∷◌, ◌++◌, map, length}
use Rattle.std.proofs.Math.Option.{none, some}
use Rattle.answers.specs.declared.Answer.{Answer}
use Rattle.sizes.specs.Sizes.{most_faces, least_buffer}
use Rattle.rules.specs.Step.{paper_node}
use Rattle.answers.specs.Number.{number_of}
use Rattle.names.specs.Name.{localhost}
use Rattle.packets.specs.Meaning.{Heard, refused, asks, heard}
use Rattle.writing.specs.Written.{nack_bytes}
use Rattle.records.specs.Class.{class_number}
use Rattle.records.specs.Slots.{each}
use Rattle.rules.specs.Node.{empty_node, What, packet, clock, open_face, set_route, add_hop, Event}
use Rattle.rules.specs.Outcome.{kind_number, Send, Outcome}
use Rattle.rules.specs.Laws.Compute.{computed}
use Rattle.records.specs.Happening.{Happening}
use Rattle.records.specs.Rows.{fate_number}

-- what a case shows: what bytes mean, bytes, or the lines of a run
pub data Shown : Type 0 where
  meaning : Heard → Shown
  bytes : List ℕ → Shown
  lines : List (List ℕ) → Shown

-- a case: what the definitions give, and what document 01 says
pub record Case : Type 0 where
  pub gives : Shown
  pub says : Shown

-- what is given and what is said, as a case
abbrev case : Shown → Shown → Case
case g s = record { gives = g; says = s }

-- reading
abbrev reads : List ℕ → Heard → Case
reads l h = case (meaning (heard l)) (meaning h)

-- an event's line: its answer, then face, kind, class and length of each send, then the fates of requests
line : Outcome → List ℕ
line o =
    number_of o.answer ∷ each (λ (s : Send). s.face ∷ kind_number s.kind ∷ class_number s.cls ∷ length s.bytes ∷ []) o.sends
    ++ map (λ (h : Happening). fate_number h.fate) o.happenings

-- a run of document 01's node
runs : List Event → List (List ℕ) → Case
runs es ls = case (lines (map line (computed most_faces least_buffer es paper_node))) (lines ls)

-- an event, with the least buffer
abbrev at : ℕ → What → Event
at t w = record { time = t; room = least_buffer; what = w }

-- "I = `05 0B 07 03 08 01 61 0A 04 01 02 03 04`"
abbrev I : List ℕ
I = 0x05 ∷ 0x0B ∷ 0x07 ∷ 0x03 ∷ 0x08 ∷ 0x01 ∷ 0x61 ∷ 0x0A ∷ 0x04 ∷ 0x01 ∷ 0x02 ∷ 0x03 ∷ 0x04 ∷ []

-- the name /a
abbrev a : List ℕ
a = 0x08 ∷ 0x01 ∷ 0x61 ∷ []

-- k empty components
parts : ℕ → List ℕ
parts zero = []
parts (suc k) = 0x08 ∷ 0x00 ∷ parts k

-- an Interest of k components
wide : ℕ → List ℕ
wide k = 0x05 ∷ (8 + length (parts k)) ∷ 0x07 ∷ length (parts k) ∷ (parts k ++ 0x0A ∷ 0x04 ∷ 0x01 ∷ 0x02 ∷ 0x03 ∷ 0x04 ∷ [])

-- an Interest of lifetime 4,000 for the name of one component of one byte k
ask : ℕ → List ℕ
ask k = 0x05 ∷ 0x0B ∷ 0x07 ∷ 0x03 ∷ 0x08 ∷ 0x01 ∷ k ∷ 0x0A ∷ 0x04 ∷ 0x00 ∷ 0x00 ∷ 0x00 ∷ k ∷ []

-- k Interests of such names on face 1
many : ℕ → List Event
many zero = []
many (suc k) = at 100 (packet 1 (ask k)) ∷ many k

-- two faces, and a route of a class to the second
abbrev ready : ℕ → List ℕ → List Event
ready c p = at 0 (open_face 1 1 0) ∷ at 0 (open_face 2 1 0) ∷ at 0 (set_route c p) ∷ at 0 (add_hop 2 10 p) ∷ []

-- lines of events that are done and send nothing
done : ℕ → List (List ℕ)
done zero = []
done (suc k) = (0 ∷ []) ∷ done k

-- lines of Interests that open, each sent to face 2
opening : ℕ → List (List ℕ)
opening zero = []
opening (suc k) = (0 ∷ 2 ∷ 1 ∷ 3 ∷ 13 ∷ 1 ∷ []) ∷ opening k

-- I with a nonce that ends in k
again : ℕ → List ℕ
again k = 0x05 ∷ 0x0B ∷ 0x07 ∷ 0x03 ∷ 0x08 ∷ 0x01 ∷ 0x61 ∷ 0x0A ∷ 0x04 ∷ 0x01 ∷ 0x02 ∷ 0x03 ∷ k ∷ []

-- the same with CanBePrefix
wider : ℕ → List ℕ
wider k = 0x05 ∷ 0x0D ∷ 0x07 ∷ 0x03 ∷ 0x08 ∷ 0x01 ∷ 0x61 ∷ 0x21 ∷ 0x00 ∷ 0x0A ∷ 0x04 ∷ 0x01 ∷ 0x02 ∷ 0x03 ∷ k ∷ []

-- an Interest for /localhost with a HopLimit
home : ℕ → List ℕ
home hop =
    0x05 ∷ 0x16 ∷ 0x07 ∷ 0x0B ∷ 0x08 ∷ 0x09 ∷ 108 ∷ 111 ∷ 99 ∷ 97 ∷ 108 ∷ 104 ∷ 111 ∷ 115 ∷ 116
    ∷ 0x0A ∷ 0x04 ∷ 0x01 ∷ 0x02 ∷ 0x03 ∷ 0x04 ∷ 0x22 ∷ 0x01 ∷ hop ∷ []

-- a Data of /a
D : List ℕ
D = 0x06 ∷ 0x09 ∷ 0x07 ∷ 0x03 ∷ 0x08 ∷ 0x01 ∷ 0x61 ∷ 0x16 ∷ 0x00 ∷ 0x17 ∷ 0x00 ∷ []

-- the name /a/x
abbrev ax : List ℕ
ax = 0x08 ∷ 0x01 ∷ 0x61 ∷ 0x08 ∷ 0x01 ∷ 0x78 ∷ []

-- a Data of /a/x
E : List ℕ
E = 0x06 ∷ 0x0C ∷ 0x07 ∷ 0x06 ∷ (ax ++ 0x16 ∷ 0x00 ∷ 0x17 ∷ 0x00 ∷ [])

-- the table: each case as document 01 words it, or with what it shows
pub cases : List Case
cases =
    -- "I is /a with lifetime 4,000."
    reads I (asks (record { name = a; can_be_prefix = false; must_be_fresh = false; nonce = 0x01020304; lifetime = 4000; hop = none }) I)
    -- "last byte cut, 5."
    ∷ reads (0x05 ∷ 0x0B ∷ 0x07 ∷ 0x03 ∷ 0x08 ∷ 0x01 ∷ 0x61 ∷ 0x0A ∷ 0x04 ∷ 0x01 ∷ 0x02 ∷ 0x03 ∷ []) (refused Answer.Malformed)
    -- "its Nack 150 is `64 18 FD 03 20 05 FD 03 21 01 96 50 0D` then I."
    ∷ case (bytes (nack_bytes 150 a false false 0x01020304))
    (bytes (0x64 ∷ 0x18 ∷ 0xFD ∷ 0x03 ∷ 0x20 ∷ 0x05 ∷ 0xFD ∷ 0x03 ∷ 0x21 ∷ 0x01 ∷ 0x96 ∷ 0x50 ∷ 0x0D ∷ I))
    -- "length 11 as `FD 00 0B`, 5."
    ∷ reads (0x05 ∷ 0xFD ∷ 0x00 ∷ 0x0B ∷ 0x07 ∷ 0x03 ∷ 0x08 ∷ 0x01 ∷ 0x61 ∷ 0x0A ∷ 0x04 ∷ 0x01 ∷ 0x02 ∷ 0x03 ∷ 0x04 ∷ [])
    (refused Answer.Malformed)
    -- "empty input, 5."
    ∷ reads [] (refused Answer.Malformed)
    -- "16 components pass, 17 give 4."
    ∷ reads (wide 16) (asks (record { name = parts 16; can_be_prefix = false; must_be_fresh = false; nonce = 0x01020304; lifetime = 4000; hop = none }) (wide 16))
    ∷ reads (wide 17) (refused Answer.TooLong)
    -- "class 3 alone opens 24, the 25th gets 11." The refusal's Nack has 26 bytes.
    ∷ runs (ready 3 [] ++ many 25) (done 4 ++ opening 24 ++ (11 ∷ 1 ∷ 3 ∷ 3 ∷ 26 ∷ []) ∷ [])
    -- "arrival 100, lifetime 4,000: open at 4,099, expired at 4,100."
    ∷ runs (ready 1 a ++ at 100 (packet 1 I) ∷ at 4099 clock ∷ at 4100 clock ∷ [])
    (done 4 ++ (0 ∷ 2 ∷ 1 ∷ 1 ∷ 13 ∷ 1 ∷ []) ∷ (0 ∷ []) ∷ (0 ∷ 4 ∷ []) ∷ [])
    -- the sample tape: the last clock reading expires the request
    ∷ runs (ready 1 a ++ at 100 (packet 1 I) ∷ at 4100 clock ∷ []) (done 4 ++ (0 ∷ 2 ∷ 1 ∷ 1 ∷ 13 ∷ 1 ∷ []) ∷ (0 ∷ 4 ∷ []) ∷ [])
    -- "HopLimit one lower", without the Lp header
    ∷ reads (0x64 ∷ 0x1A ∷ 0x50 ∷ 0x18 ∷ home 5)
    (asks
    (record { name = 0x08 ∷ 0x09 ∷ localhost; can_be_prefix = false; must_be_fresh = false; nonce = 0x01020304; lifetime = 4000; hop = some 5 })
    (home 4))
    -- 7 comes before 8
    ∷ runs (at 0 (open_face 1 1 0) ∷ at 1 (packet 1 (home 0)) ∷ at 1 (packet 1 (home 1)) ∷ []) ((0 ∷ []) ∷ (7 ∷ []) ∷ (8 ∷ []) ∷ [])
    -- a nonce that left with its entry loops while under 6,000 ms have passed, and no longer
    ∷ runs (ready 1 a ++ at 100 (packet 1 I) ∷ at 4100 clock ∷ at 10099 (packet 1 I) ∷ at 10100 (packet 1 I) ∷ [])
    (done 4 ++ (0 ∷ 2 ∷ 1 ∷ 1 ∷ 13 ∷ 1 ∷ []) ∷ (0 ∷ 4 ∷ []) ∷ (9 ∷ 1 ∷ 3 ∷ 1 ∷ 26 ∷ []) ∷ (0 ∷ 2 ∷ 1 ∷ 1 ∷ 13 ∷ 1 ∷ []) ∷ [])
    -- under 100 ms nothing is sent again, at 100 it is; a renewal opens nothing
    ∷ runs (ready 1 a ++ at 0 (open_face 3 1 0) ∷ at 100 (packet 1 I) ∷ at 199 (packet 3 (again 5)) ∷ at 200 (packet 3 (again 6)) ∷ [])
    (done 5 ++ (0 ∷ 2 ∷ 1 ∷ 1 ∷ 13 ∷ 1 ∷ []) ∷ (0 ∷ 1 ∷ []) ∷ (0 ∷ 2 ∷ 1 ∷ 1 ∷ 13 ∷ []) ∷ [])
    -- on an ad hoc face the asker's own face is answered; on any other it is self-met
    ∷ runs (ready 1 a ++ at 0 (open_face 3 1 2) ∷ at 100 (packet 3 I) ∷ at 101 (packet 3 D) ∷ at 102 (packet 1 (again 5)) ∷ [])
    (done 5 ++ (0 ∷ 2 ∷ 1 ∷ 1 ∷ 13 ∷ 1 ∷ []) ∷ (0 ∷ 3 ∷ 2 ∷ 1 ∷ 11 ∷ 2 ∷ []) ∷ (0 ∷ 1 ∷ 2 ∷ 1 ∷ 11 ∷ []) ∷ [])
    ∷ runs (ready 1 a ++ at 100 (packet 1 I) ∷ at 101 (packet 1 D) ∷ []) (done 4 ++ (0 ∷ 2 ∷ 1 ∷ 1 ∷ 13 ∷ 1 ∷ []) ∷ (0 ∷ 6 ∷ []) ∷ [])
    -- no Nack goes to a multi-access face, and a refusal opens nothing: the Data is unsolicited
    ∷ runs (at 0 (open_face 1 1 1) ∷ at 1 (packet 1 I) ∷ at 2 (packet 1 D) ∷ []) ((0 ∷ []) ∷ (10 ∷ []) ∷ (12 ∷ []) ∷ [])
    -- the class is that of the entry's opening, not of the route when the Data comes
    ∷ runs (ready 1 a ++ at 100 (packet 1 I) ∷ at 101 (set_route 3 a) ∷ at 102 (packet 2 D) ∷ [])
    (done 4 ++ (0 ∷ 2 ∷ 1 ∷ 1 ∷ 13 ∷ 1 ∷ []) ∷ (0 ∷ []) ∷ (0 ∷ 1 ∷ 2 ∷ 1 ∷ 11 ∷ 2 ∷ []) ∷ [])
    -- Data from the store has the class of the longest route for its own name, not for the Interest's
    ∷ runs (ready 3 a ++ at 0 (set_route 1 ax) ∷ at 100 (packet 1 (wider 4)) ∷ at 101 (packet 2 E) ∷ at 102 (packet 1 (wider 5)) ∷ [])
    (done 5 ++ (0 ∷ 2 ∷ 1 ∷ 3 ∷ 15 ∷ 1 ∷ []) ∷ (0 ∷ 1 ∷ 2 ∷ 3 ∷ 14 ∷ 2 ∷ []) ∷ (0 ∷ 1 ∷ 2 ∷ 1 ∷ 14 ∷ []) ∷ [])
    -- one copy of a Data ends two requests of a face; a refusal's Nack ended none
    ∷ runs (ready 1 a ++ at 100 (packet 1 I) ∷ at 100 (packet 1 (wider 5)) ∷ at 101 (packet 2 (again 4)) ∷ at 102 (packet 2 D) ∷ [])
    (done 4 ++ (0 ∷ 2 ∷ 1 ∷ 1 ∷ 13 ∷ 1 ∷ []) ∷ (0 ∷ 2 ∷ 1 ∷ 1 ∷ 15 ∷ 1 ∷ []) ∷ (9 ∷ 2 ∷ 3 ∷ 1 ∷ 26 ∷ []) ∷ (0 ∷ 1 ∷ 2 ∷ 1 ∷ 11 ∷ 2 ∷ 2 ∷ [])
    ∷ [])
    ∷ []

-- every case gives what document 01 says
pub examples : map (λ (c : Case). c.gives) cases ≡ map (λ (c : Case). c.says) cases
unfolding cases computed empty_node heard nack_bytes each class_number kind_number fate_number line runs parts wide ask many done opening again
    wider home D E
examples = refl
