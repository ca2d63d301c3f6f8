-- The bytes of the packets that leave.
-- Assumes nothing.
use Rattle.std.specs.Prelude.{ℕ, Bool, List, [], ◌∷◌, ◌++◌, eqb}
use Rattle.laws.specs.Pick.{pick}
use Rattle.grammar.specs.Types as types
use Rattle.wire.specs.Write.{bytes_of, encoded, head_of, written}

-- an element of length 0 where a flag is set
unfoldable pub flag : ℕ → Bool → List ℕ
flag t b = pick b (written t []) []

-- "an Interest of Name, the two flags and Nonce only": its value
unfoldable pub request_value : List ℕ → Bool → Bool → ℕ → List ℕ
request_value name prefix fresh nonce = written 0x07 name ++ (flag 0x21 prefix ++ (flag 0x12 fresh ++ written 0x0A (bytes_of 4 nonce)))

-- that Interest
unfoldable pub request_bytes : List ℕ → Bool → Bool → ℕ → List ℕ
request_bytes name prefix fresh nonce = written types.interest (request_value name prefix fresh nonce)

-- "NackReason (left out for reason 0)", in one byte
unfoldable pub reason_bytes : ℕ → List ℕ
reason_bytes n = pick (eqb n 0) [] (written 0x0321 (n ∷ []))

-- "LpPacket with Nack, NackReason .., and an Interest": its value
unfoldable pub nack_value : ℕ → List ℕ → Bool → Bool → ℕ → List ℕ
nack_value reason name p m nonce = written types.nack (reason_bytes reason) ++ written types.fragment (request_bytes name p m nonce)

-- the Nack
unfoldable pub nack_bytes : ℕ → List ℕ → Bool → Bool → ℕ → List ℕ
unfolding pick bytes_of encoded head_of written flag request_value request_bytes reason_bytes nack_value
nack_bytes reason name prefix fresh nonce = written types.lp_packet (nack_value reason name prefix fresh nonce)
