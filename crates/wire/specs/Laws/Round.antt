-- The round trip: what is written is read back, whatever stands after it, and what is written are bytes.
-- Assumes nothing.
use Rattle.std.specs.Prelude.{ℕ, zero, suc, ◌/◌, ◌%◌, ◌^◌, ◌≤◌, ◌<◌, ◌≡◌, refl, length, take, drop}
use Rattle.std.proofs.Common.{◌∙◌, take_at, drop_at}
use Rattle.std.proofs.Math.Bool.{false}
use mathlib.Core.List.{List, [], ◌∷◌, ◌++◌, append_assoc}
use Rattle.std.proofs.Math.ListN.{length-append}
use Rattle.std.proofs.Math.Seq.{take-append_seam, drop-append_seam}
use Rattle.std.proofs.Math.Dec.{ltb}
use borrow.Author.Tests.{lt-ltb, le-ltb, eq-eqb}
use native.Mathlib.Omega.{arith}
use Rattle.laws.specs.Pick.{pick}
use Rattle.wire.specs.Laws.Read.{big_snoc}
use Rattle.wire.specs.Number.{big, got, wide, long, any_number, width_of, shortest, number}
use Rattle.wire.specs.Element.{elem, valued, typed, element_by, element}
use Rattle.wire.specs.Write.{bytes_of, encoded, head_of, written}
use Rattle.wire.specs.Bytes.{Bytes}
use Rattle.wire.specs.Laws.Bytes.{bytes_nil, bytes_more, bytes_append}
use Rattle.wire.specs.Laws.Write.{length_bytes_of, encoded_ind}

-- k bytes make the number that they were made of, where it is below 256 ^ k
pub big_bytes_of : (k n : ℕ) → n < 256 ^ k → big 0 (bytes_of k n) ≡ n
unfolding bytes_of
big_bytes_of zero n h = unfold big in omega arith
big_bytes_of (suc k) n h = big_snoc 0 (bytes_of k (n / 256)) (n % 256) ∙ omega (arith, big_bytes_of k (n / 256) (omega arith))

-- k bytes after the first one are read as the number that they were made of
wide_bytes_of : (k n : ℕ) (r : List ℕ) → n < 256 ^ k → wide k (bytes_of k n ++ r) ≡ got n (suc k) r
unfolding wide pick
wide_bytes_of k n r h =
    let a : take k (bytes_of k n ++ r) ≡ bytes_of k n = take_at (bytes_of k n) r k (length_bytes_of k n) in
    let b : drop k (bytes_of k n ++ r) ≡ r = drop_at (bytes_of k n) r k (length_bytes_of k n) in
    let c : ltb (length (bytes_of k n ++ r)) k ≡ false = le-ltb (length (bytes_of k n ++ r)) k (omega (arith, length-append (bytes_of k n) r, length_bytes_of k n)) in
    rw (c, a, b, big_bytes_of k n h)

-- the shortest form of n is read as n, in any form
pub any_number_encoded : (n : ℕ) (r : List ℕ) → n < 2 ^ 64 → any_number (encoded n ++ r) ≡ got n (width_of n) r
unfolding any_number long pick
any_number_encoded n r h =
    encoded_ind (λ (l : List ℕ) (w : ℕ). any_number (l ++ r) ≡ got n w r) n
    (λ a. rw (lt-ltb n 253 a))
    (λ a b. wide_bytes_of 2 n r b)
    (λ a b. wide_bytes_of 4 n r b)
    (λ a. wide_bytes_of 8 n r h)

-- a number that is written is read back, with its width, whatever stands after it
pub number_encoded : (n : ℕ) (r : List ℕ) → n < 2 ^ 64 → number (encoded n ++ r) ≡ got n (width_of n) r
unfolding number shortest pick
number_encoded n r h = rw (any_number_encoded n r h, eq-eqb (width_of n) (width_of n) refl)

-- an element that is written is read back, whatever stands after it
pub element_written : (t : ℕ) (v r : List ℕ) → 1 ≤ t → t < 2 ^ 32 → length v < 2 ^ 64 → element (written t v ++ r) ≡ elem t v r
unfolding element element_by typed valued pick
element_written t v r l h k =
    let w : written t v ++ r ≡ encoded t ++ (encoded (length v) ++ (v ++ r)) = unfold written head_of in simp append_assoc in
    let c : ltb (length (v ++ r)) (length v) ≡ false = le-ltb (length (v ++ r)) (length v) (omega (arith, length-append v r)) in
    let typ = number_encoded t (encoded (length v) ++ (v ++ r)) (omega arith) in
    rw (w, typ, le-ltb t 1 l, le-ltb 4294967295 t (omega arith), number_encoded (length v) (v ++ r) k, c, take-append_seam v r, drop-append_seam v r)

-- a number in k bytes
pub bytes_of_bytes : (k n : ℕ) → Bytes (bytes_of k n)
unfolding bytes_of
bytes_of_bytes zero n = bytes_nil
bytes_of_bytes (suc k) n = bytes_append (bytes_of k (n / 256)) (n % 256 ∷ []) (bytes_of_bytes k (n / 256)) (bytes_more (n % 256) [] (omega arith) bytes_nil)

-- the shortest form of a number is bytes
pub encoded_bytes : (n : ℕ) → Bytes (encoded n)
encoded_bytes n =
    encoded_ind (λ (l : List ℕ) (w : ℕ). Bytes l) n
    (λ a. bytes_more n [] (omega arith) bytes_nil)
    (λ a b. bytes_more 253 (bytes_of 2 n) (omega arith) (bytes_of_bytes 2 n))
    (λ a b. bytes_more 254 (bytes_of 4 n) (omega arith) (bytes_of_bytes 4 n))
    (λ a. bytes_more 255 (bytes_of 8 n) (omega arith) (bytes_of_bytes 8 n))

-- an element is bytes where its value is
pub written_bytes : (t : ℕ) (v : List ℕ) → Bytes v → Bytes (written t v)
unfolding written head_of
written_bytes t v b =
    bytes_append (encoded t ++ encoded (length v)) v (bytes_append (encoded t) (encoded (length v)) (encoded_bytes t) (encoded_bytes (length v))) b
