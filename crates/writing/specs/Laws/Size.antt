-- "At worst it has 290 bytes": a Nack has no more where its name has 255 bytes at most, and one with a name of 255 bytes has as many.
-- Assumes nothing.
use Rattle.std.specs.Prelude.{ℕ, ◌+◌, ◌≤◌, ◌<◌, ◌≡◌, Bool, true, false, ◌≢◌, List, [], ◌∷◌, length, eqb}
use Rattle.std.proofs.Math.Path.{refl}
use Rattle.std.proofs.Common.{◌∙◌, ne_eqb, arith}
use Rattle.std.proofs.Math.ListN.{length-append}
use Rattle.laws.specs.Pick.{pick}
use Rattle.wire.specs.Number.{width_of}
use Rattle.wire.specs.Write.{bytes_of, head_of, written}
use Rattle.wire.specs.Laws.Write.{encoded_ind, form_three, length_bytes_of, length_head_of}
use Rattle.writing.specs.Written.{flag, request_value, request_bytes, reason_bytes, nack_value, nack_bytes}

-- an element has the widths of its type and of its value's length, and its value
pub length_written : (t : ℕ) (v : List ℕ) → length (written t v) ≡ width_of t + width_of (length v) + length v
unfolding written
length_written t v = length-append (head_of t (length v)) v ∙ rw (length_head_of t (length v))

-- a number below 65,536 takes three bytes at most
width_three : (n : ℕ) → n < 65536 → width_of n ≤ 3
width_three n h =
    encoded_ind (λ (l : List ℕ) (w : ℕ). w ≤ 3) n (λ a. omega arith) (λ a b. omega arith) (λ a b. omega arith) (λ a. omega arith)

-- an element with a value of less than 65,536 bytes has three bytes more than its type and its value, at most
pub written_most : (t : ℕ) (v : List ℕ) → length v < 65536 → length (written t v) ≤ width_of t + 3 + length v
written_most t v h = omega (arith, length_written t v, width_three (length v) h)

-- an element with a value of 253 bytes and less than 65,536 has exactly as many
written_exact : (t : ℕ) (v : List ℕ) → 253 ≤ length v → length v < 65536 → length (written t v) ≡ width_of t + 3 + length v
written_exact t v l h = length_written t v ∙ rw (form_three (length v) l h).width

-- the types that have a long value have one byte in a Nack
one_byte : (width_of 0x05 ≡ 1) × ((width_of 0x07 ≡ 1) × ((width_of 0x50 ≡ 1) × (width_of 0x64 ≡ 1)))
unfolding width_of pick
one_byte = (refl, (refl, (refl, refl)))

-- a flag has two bytes where it is set, and none where it is not
length_flag : (b : Bool) → (length (flag 0x21 b) ≡ pick b 2 0) × (length (flag 0x12 b) ≡ pick b 2 0)
unfolding flag written pick
length_flag true = (refl, refl)
length_flag false = (refl, refl)

-- the element of a Nack has nine bytes, and four for reason 0
length_reason : (n : ℕ) → length (written 0x0320 (reason_bytes n)) ≡ pick (eqb n 0) 4 9
unfolding reason_bytes written
length_reason n = go (eqb n 0)
  where
    go : (b : Bool) → length (written 0x0320 (pick b [] (written 0x0321 (n ∷ [])))) ≡ pick b 4 9
    go true = refl
    go false = refl

-- the element of a Nonce has six bytes
length_nonce : (n : ℕ) → length (written 0x0A (bytes_of 4 n)) ≡ 6
length_nonce n = length_written 0x0A (bytes_of 4 n) ∙ rw (length_bytes_of 4 n) (unfold width_of pick in refl)

-- a choice of two numbers is the larger of them at most
pub pick_most : (b : Bool) (x y : ℕ) → x ≤ y → (pick b x y ≤ y) × (pick b y x ≤ y)
unfolding pick
pick_most true x y h = (h, omega arith)
pick_most false x y h = (omega arith, h)

module _ (name : List ℕ) (p m : Bool) (nonce : ℕ) where
  -- the value of the Interest in a Nack has four parts
  pub request_parts : length (request_value name p m nonce)
      ≡ length (written 0x07 name) + (length (flag 0x21 p) + (length (flag 0x12 m) + length (written 0x0A (bytes_of 4 nonce))))
  unfolding request_value
  request_parts = simp length-append

  -- its length
  length_request : length (request_value name p m nonce) ≡ length (written 0x07 name) + (pick p 2 0 + (pick m 2 0 + 6))
  length_request = request_parts ∙ rw ((length_flag p).0, (length_flag m).1, length_nonce nonce)

  -- that Interest has 273 bytes at most
  pub request_size : length name ≤ 255 → length (request_bytes name p m nonce) ≤ 273
  unfolding request_bytes
  request_size h =
      let a = (pick_most p 0 2 (omega arith)).1 in
      let b = (pick_most m 0 2 (omega arith)).1 in
      let n = written_most 0x07 name (omega arith) in
      let v = length_request in
      omega (arith, one_byte, written_most 0x05 (request_value name p m nonce) (omega (arith, one_byte)))

module _ (reason : ℕ) (name : List ℕ) (p m : Bool) (nonce : ℕ) where
  -- the value of a Nack has two parts
  pub nack_parts : length (nack_value reason name p m nonce)
      ≡ length (written 0x0320 (reason_bytes reason)) + length (written 0x50 (request_bytes name p m nonce))
  unfolding nack_value
  nack_parts = simp length-append

  -- its length
  length_nack : length (nack_value reason name p m nonce) ≡ pick (eqb reason 0) 4 9 + length (written 0x50 (request_bytes name p m nonce))
  length_nack = nack_parts ∙ rw (length_reason reason)

  -- a Nack is an LpPacket
  pub nack_is : nack_bytes reason name p m nonce ≡ written 0x64 (nack_value reason name p m nonce)
  unfolding nack_bytes
  nack_is = refl

  -- a Nack's value has 286 bytes at most
  pub nack_value_size : length name ≤ 255 → length (nack_value reason name p m nonce) ≤ 286
  nack_value_size h =
      let a = (pick_most (eqb reason 0) 4 9 (omega arith)).0 in
      let i = request_size name p m nonce h in
      let f = written_most 0x50 (request_bytes name p m nonce) (omega arith) in
      omega (arith, one_byte, length_nack)

  -- "At worst it has 290 bytes."
  pub nack_size : length name ≤ 255 → length (nack_bytes reason name p m nonce) ≤ 290
  nack_size h =
      let v = nack_value_size h in
      rw nack_is (omega (arith, one_byte, written_most 0x64 (nack_value reason name p m nonce) (omega arith)))

-- with a name of 255 bytes and both flags the Interest in a Nack has 273 bytes
request_worst : (name : List ℕ) (nonce : ℕ) → length name ≡ 255 → length (request_bytes name true true nonce) ≡ 273
unfolding pick request_bytes
request_worst name nonce h =
    let n = written_exact 0x07 name (omega arith) (omega arith) in
    let v = length_request name true true nonce in
    omega (arith, one_byte, written_exact 0x05 (request_value name true true nonce) (omega (arith, one_byte)) (omega (arith, one_byte)))

-- with a reason other than 0 that Nack has 290 bytes
pub nack_worst : (reason : ℕ) (name : List ℕ) (nonce : ℕ) → reason ≢ 0 → length name ≡ 255 → length (nack_bytes reason name true true nonce) ≡ 290
unfolding pick
nack_worst reason name nonce r h =
    let i = request_worst name nonce h in
    let f = written_exact 0x50 (request_bytes name true true nonce) (omega arith) (omega arith) in
    let v = rw (ne_eqb reason 0 r) at (length_nack reason name true true nonce) in
    rw (nack_is reason name true true nonce)
    (omega (arith, one_byte, written_exact 0x64 (nack_value reason name true true nonce) (omega (arith, one_byte)) (omega (arith, one_byte))))
