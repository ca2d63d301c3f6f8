-- The laws of the fingerprint: a product from halves of 32 bits, a byte's xor, and FNV-1a over bytes one after the other.
-- Assumes nothing.
use Rattle.std.specs.Prelude.{◌≡◌, ℕ, ◌+◌, ◌*◌, ◌/◌, ◌%◌, ◌^◌, ◌<◌, ◌≤◌, List, [], ◌∷◌, ◌++◌, length, drop, bit_xor, slice_index, refl}
use Rattle.std.proofs.Common.{sym, ◌∙◌, ap, ap₂, drop_of_length-le, drop-cons, pow_pos, pow-add, add-one, le_of_lt, lt_of_le_of_lt, mul-le-mul_left, mul-lt-mul_of_pos_right, arith}
use Rattle.std.proofs.Math.Path.{subst⁻¹}
use Rattle.std.proofs.lemmas.Nat.{xor_block}
use Rattle.std.specs.Int.Bits.{xor_zero_r}
use Rattle.std.proofs.Math.Nat.{add-mul-mod_self_right}
use Rattle.wire.specs.Write.{bytes_of}
use Rattle.names.specs.Fingerprint.{xor_low, stepped, fnv, fingerprint}

-- the product of two numbers of k bits has twice as many, at most
pub product_below : (k : ℕ) {a b : ℕ} → a < 2 ^ k → b < 2 ^ k → a * b < 2 ^ (k + k)
product_below k {a} {b} ha hb =
    subst⁻¹ (λ (n : ℕ). a * b < n) (pow-add 2 k k)
    (lt_of_le_of_lt (mul-le-mul_left a (le_of_lt hb)) (mul-lt-mul_of_pos_right ha (pow_pos k)))

-- a product by columns: the low halves' product, the mixed products' low halves moved up by 32 bits, and what lies above 64 bits
columns : (a0 a1 b0 b1 p q : ℕ) → p ≡ a1 * b0 → q ≡ a0 * b1
    → (a1 * 2 ^ 32 + a0) * (b1 * 2 ^ 32 + b0)
    ≡ a0 * b0 + (p % 2 ^ 32 + q % 2 ^ 32) % 2 ^ 32 * 2 ^ 32
    + (a1 * b1 + p / 2 ^ 32 + q / 2 ^ 32 + (p % 2 ^ 32 + q % 2 ^ 32) / 2 ^ 32) * 2 ^ 64
columns a0 a1 b0 b1 p q e f = omega arith

-- so a product modulo 2^64 needs no column above 64 bits
pub product : (a b : ℕ)
    → (a % 2 ^ 32 * (b % 2 ^ 32) + (a / 2 ^ 32 * (b % 2 ^ 32) % 2 ^ 32 + a % 2 ^ 32 * (b / 2 ^ 32) % 2 ^ 32) % 2 ^ 32 * 2 ^ 32) % 2 ^ 64
    ≡ (a * b) % 2 ^ 64
product a b =
    let a0 = a % 2 ^ 32 in
    let a1 = a / 2 ^ 32 in
    let b0 = b % 2 ^ 32 in
    let b1 = b / 2 ^ 32 in
    let ea : a ≡ a1 * 2 ^ 32 + a0 = omega arith in
    let eb : b ≡ b1 * 2 ^ 32 + b0 = omega arith in
    sym (ap₂ (λ (x y : ℕ). (x * y) % 2 ^ 64) ea eb
    ∙ ap (λ (x : ℕ). x % 2 ^ 64) (columns a0 a1 b0 b1 (a1 * b0) (a0 * b1) refl refl)
    ∙ add-mul-mod_self_right _ _ (2 ^ 64))

-- a byte changes the lowest eight digits alone
pub xor_low_lem : (h b : ℕ) → b < 256 → bit_xor h b ≡ xor_low h b
unfolding xor_low
xor_low_lem h b l =
    let e : h ≡ h / 256 * 2 ^ 8 + h % 256 = omega arith in
    let f : b ≡ 0 * 2 ^ 8 + b = omega arith in
    ap₂ bit_xor e f
    ∙ xor_block 8 (h / 256) 0 (h % 256) b (omega arith) l
    ∙ ap (λ (x : ℕ). x * 256 + bit_xor (h % 256) b) (xor_zero_r (h / 256))

-- a step as the machine takes it
pub stepped_xor : (h b : ℕ) → b < 256 → (bit_xor h b * 1099511628211) % 2 ^ 64 ≡ stepped h b
unfolding stepped
stepped_xor h b l = rw (xor_low_lem h b l)

-- the byte at a place, then those behind it
pub fnv_more : (s : List ℕ) (i h r : ℕ) → i < length s → r ≡ stepped h (slice_index s i) → fnv r (drop (i + 1) s) ≡ fnv h (drop i s)
unfolding fnv
fnv_more s i h r l e = rw (e, drop-cons s i 0 l, add-one i)

-- past the last byte
pub fnv_end : (s : List ℕ) (i h : ℕ) → length s ≤ i → fnv h (drop i s) ≡ h
unfolding fnv
fnv_end s i h l = rw (drop_of_length-le s l)

-- over bytes behind others it goes on from where those led
pub fnv_append : (h : ℕ) (a b : List ℕ) → fnv h (a ++ b) ≡ fnv (fnv h a) b
unfolding fnv
fnv_append h [] b = refl
fnv_append h (x ∷ a) b = fnv_append (stepped h x) a b

-- a nonce's four bytes, by what is taken of it
pub nonce_bytes : (n : ℕ) → bytes_of 4 n ≡ n / 16777216 % 256 ∷ n / 65536 % 256 ∷ n / 256 % 256 ∷ n % 256 ∷ []
unfolding bytes_of
nonce_bytes n =
    let p : n / 256 / 256 ≡ n / 65536 = omega arith in
    let q : n / 256 / 256 / 256 ≡ n / 16777216 = omega arith in
    rw (q, p)

-- a nonce's four bytes behind the name's, one step each
pub fingerprint_steps : (start : ℕ) (name : List ℕ) (n : ℕ)
    → fingerprint start name n
    ≡ stepped (stepped (stepped (stepped (fnv start name) (n / 16777216 % 256)) (n / 65536 % 256)) (n / 256 % 256)) (n % 256)
unfolding fingerprint
fingerprint_steps start name n = ap (fnv (fnv start name)) (nonce_bytes n)

-- bytes put ahead of the name only move the start: from there on a fingerprint is one FNV-1a over them, the name and the nonce
pub fingerprint_seed : (start : ℕ) (seed name : List ℕ) (nonce : ℕ)
    → fingerprint (fnv start seed) name nonce ≡ fnv start (seed ++ name ++ bytes_of 4 nonce)
unfolding fingerprint
fingerprint_seed start seed name nonce = rw (fnv_append start (seed ++ name) (bytes_of 4 nonce), fnv_append start seed name)
