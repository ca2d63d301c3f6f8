-- Laws of the packets that leave: how long their parts are at most, the bytes of a Nonce, and the length of an Interest.
-- Assumes nothing.
use Rattle.std.specs.Prelude.{ℕ, ◌+◌, ◌-◌, ◌/◌, ◌%◌, ◌≤◌, ◌≡◌, refl, Bool, List, [], ◌∷◌, length, eqb, Option, Some, None}
use Rattle.std.proofs.Common.{length-set}
use native.Mathlib.Omega.{arith}
use Rattle.laws.specs.Laws.Pick.{pick_ind}
use Rattle.wire.specs.Write.{bytes_of, written}
use Rattle.wire.specs.Laws.Write.{width_most, length_bytes_of}
use Rattle.packets.specs.declared.bare.HopLimit.{HopLimit}
use Rattle.packets.specs.Places.View.{lowered}
use Rattle.writing.specs.Written.{flag, request_value, request_bytes, reason_bytes, nack_value}
use Rattle.writing.specs.Laws.Size.{length_written, request_parts, nack_parts}

-- an element of any length has 18 bytes more than its value, at most
pub element_most : (t : ℕ) (v : List ℕ) → length (written t v) ≤ length v + 18
element_most t v = omega (arith, length_written t v, width_most t, width_most (length v))

-- a flag has 18 bytes at most
pub flag_most : (t : ℕ) (b : Bool) → length (flag t b) ≤ 18
unfolding flag
flag_most t b = pick_ind (λ (l : List ℕ). length l ≤ 18) b _ _ (λ _. element_most t []) (λ _. omega arith)

-- a NackReason has 19 bytes at most
pub reason_most : (n : ℕ) → length (reason_bytes n) ≤ 19
unfolding reason_bytes
reason_most n = pick_ind (λ (l : List ℕ). length l ≤ 19) (eqb n 0) _ _ (λ _. omega arith) (λ _. element_most 0x0321 (n ∷ []))

module _ (name : List ℕ) (p m : Bool) (nonce : ℕ) where
  -- the value of an Interest of Name, flags and Nonce has 76 bytes more than the name, at most
  pub request_most : length (request_value name p m nonce) ≤ length name + 76
  request_most =
      omega (
        arith,
        request_parts name p m nonce,
        element_most 0x07 name,
        flag_most 0x21 p,
        flag_most 0x12 m,
        element_most 0x0A (bytes_of 4 nonce),
        length_bytes_of 4 nonce,
      )

  -- the value of a Nack has 149 bytes more than the name, at most
  pub nack_most : (reason : ℕ) → length (nack_value reason name p m nonce) ≤ length name + 149
  unfolding request_bytes
  nack_most reason =
      omega (
        arith,
        nack_parts reason name p m nonce,
        reason_most reason,
        element_most 0x0320 (reason_bytes reason),
        request_most,
        element_most 0x05 (request_value name p m nonce),
        element_most 0x50 (request_bytes name p m nonce),
      )

-- the four bytes of a Nonce
pub nonce_bytes : (n : ℕ) → n / 16777216 % 256 ∷ n / 65536 % 256 ∷ n / 256 % 256 ∷ n % 256 ∷ [] ≡ bytes_of 4 n
unfolding bytes_of
nonce_bytes n =
    let a : n / 256 / 256 ≡ n / 65536 = omega arith in
    let b : n / 65536 / 256 ≡ n / 16777216 = omega arith in
    rw (a, b)

-- an Interest keeps its length
pub length_lowered : (l : List ℕ) (h : Option HopLimit) → length (lowered l h) ≡ length l
unfolding lowered
length_lowered l None = refl
length_lowered l (Some h) = length-set l h.at ((h.limit - 1) % 256)
