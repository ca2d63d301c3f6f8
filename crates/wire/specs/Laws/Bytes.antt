-- Lists of bytes: each element is below 256. What code reads from a slice of u8 is such a list.
-- Assumes nothing.
use Rattle.std.specs.Prelude.{ℕ, zero, suc, ◌+◌, ◌*◌, ◌^◌, ◌≤◌, ◌<◌, ◌≡◌, List, [], ◌∷◌, ◌++◌, length, take, drop}
use Rattle.std.proofs.Common.{get_or-drop, mul-le-mul_right, arith}
use Rattle.std.proofs.Math.Seq.{drop-append_seam}
use Rattle.std.proofs.Math.Nat.{pow-succ'}
use Rattle.wire.specs.Number.{big}
use Rattle.wire.specs.Bytes.{Bytes}

-- no element is no exception
pub bytes_nil : Bytes []
bytes_nil k = omega arith

-- a byte before bytes
pub bytes_more : (b : ℕ) (l : List ℕ) → b < 256 → Bytes l → Bytes (b ∷ l)
bytes_more b l h t zero = h
bytes_more b l h t (suc k) = t k

-- the first byte, and the bytes after it
pub bytes_cons : (b : ℕ) (l : List ℕ) → Bytes (b ∷ l) → (b < 256) × Bytes l
bytes_cons b l h = (h 0, λ k. h (suc k))

-- bytes after some others
pub bytes_drop : (n : ℕ) (l : List ℕ) → Bytes l → Bytes (drop n l)
bytes_drop n l h k = rw get_or-drop (h (n + k))

-- the first bytes
pub bytes_take : (n : ℕ) (l : List ℕ) → Bytes l → Bytes (take n l)
bytes_take zero l h = bytes_nil
bytes_take (suc n) [] h = bytes_nil
bytes_take (suc n) (b ∷ l) h = bytes_more b (take n l) (h 0) (bytes_take n l (λ k. h (suc k)))

-- bytes after bytes
pub bytes_append : (a b : List ℕ) → Bytes a → Bytes b → Bytes (a ++ b)
bytes_append [] b h k = k
bytes_append (x ∷ a) b h k = bytes_more x (a ++ b) (h 0) (bytes_append a b (λ i. h (suc i)) k)

-- the bytes behind others
pub bytes_right : (a b : List ℕ) → Bytes (a ++ b) → Bytes b
bytes_right a b h = rw drop-append_seam at (bytes_drop (length a) (a ++ b) h)

-- n bytes after a make a number of a's block
big_block : (a : ℕ) (l : List ℕ) → Bytes l → big a l < (a + 1) * 256 ^ length l
unfolding big
big_block a [] h = omega arith
big_block a (b ∷ l) h =
    let t : (a * 256 + b + 1) * 256 ^ length l ≤ (a * 256 + 256) * 256 ^ length l = mul-le-mul_right (256 ^ length l) (omega (arith, h 0)) in
    let p : 256 ^ suc (length l) ≡ 256 * 256 ^ length l = pow-succ' 256 (length l) in
    rw p (omega (arith, big_block (a * 256 + b) l (λ k. h (suc k))))

-- n bytes make a number below 256 ^ n
pub big_below : (l : List ℕ) → Bytes l → big 0 l < 256 ^ length l
big_below l h = omega (arith, big_block 0 l h)
