-- Laws of writing: runs of stores, the bytes of a number, its shortest form, a head, a copy, and the two outcomes of a writer.
-- Assumes nothing.
use Rattle.std.specs.Prelude.{ℕ, zero, suc, ◌+◌, ◌-◌, ◌/◌, ◌%◌, ◌^◌, ◌≤◌, ◌<◌, Bool, List, [], ◌∷◌, ◌++◌, set, take, drop, ltb, None, Option, Some}
use Rattle.std.specs.Int.{byte_at, bytes_high_first}
use borrow.Rule.Slice.PartMut.{put_mid}
use Rattle.std.proofs.lemmas.List.Edits.{sets-eq}
use Rattle.std.proofs.Math.Path.{◌≡◌, refl, ap}
use Rattle.std.proofs.Common.{sym, ◌∙◌, append-nil, append_assoc, length-append, lt-ltb, le-ltb, ltb-true, ltb-false, leb-true, leb-false, le-leb, add-zero, add-suc, add-one, arith}
use Rattle.std.proofs.Math.Bool.{true, false}
use Rattle.std.proofs.Math.ListN.{length}
use Rattle.std.proofs.Math.Seq.{sets, drop-drop}
use Rattle.std.proofs.Math.Dec.{leb}
use Rattle.std.proofs.lemmas.Bool.{lt-leb}
use Rattle.std.proofs.Math.Nat.{pow-succ', div-div-eq-div-mul}
use Rattle.laws.specs.Laws.Writes.{sets_append, sets_back}
use Rattle.laws.specs.Pick.{pick}
use Rattle.laws.specs.Laws.Pick.{pick_ap}
use Rattle.wire.specs.Number.{width_of}
use Rattle.wire.specs.Write.{bytes_of, encoded, head_of}
use Rattle.wire.specs.Places.Write.{Outcome, outcome, wrote}

-- n in k bytes is k bytes long
pub length_bytes_of : (k n : ℕ) → length (bytes_of k n) ≡ k
unfolding bytes_of
length_bytes_of zero n = refl
length_bytes_of (suc k) n = length-append (bytes_of k (n / 256)) _ ∙ omega (arith, length_bytes_of k (n / 256))

-- n in j + k bytes: the part above the k lowest bytes, then these
pub bytes_of_add : (j k n : ℕ) → bytes_of (j + k) n ≡ bytes_of j (n / 256 ^ k) ++ bytes_of k n
unfolding bytes_of
bytes_of_add j zero n = let e : n / 1 ≡ n = omega arith in rw (add-zero j, e, append-nil)
bytes_of_add j (suc k) n =
    let e : n / 256 ^ suc k ≡ n / 256 / 256 ^ k = rw (pow-succ' 256 k, div-div-eq-div-mul n 256 (256 ^ k)) in
    rw (add-suc j k, e, bytes_of_add j k (n / 256), append_assoc)

-- the lowest k bytes of n, as the library tells them
pub bytes_high : (k n : ℕ) → bytes_high_first k n ≡ bytes_of k n
unfolding bytes_of
bytes_high zero n = refl
bytes_high (suc k) n =
    let e : suc k ≡ 1 + k = omega arith in
    rw (byte_is k n, bytes_high k n) (sym (ap (λ j. bytes_of j n) e ∙ bytes_of_add 1 k n))
  where
    byte_is : (i m : ℕ) → byte_at i m ≡ m / 256 ^ i % 256
    byte_is zero m = let d : m / 1 ≡ m = omega arith in rw d
    byte_is (suc i) m = refl

-- a part of a buffer where vs was copied: a run of stores
pub part_stored : (b vs c : List ℕ) (at k : ℕ) → at + length vs ≤ length b → k ≡ length vs → c ≡ vs → put_mid at k b c ≡ sets b at vs
part_stored b vs c at k h e q =
    let d : drop k (drop at b) ≡ drop (at + length vs) b = drop-drop k at b ∙ ap (λ m. drop (at + m) b) e in
    ap (λ l. take at b ++ (l ++ drop k (drop at b))) q ∙ ap (λ l. take at b ++ (vs ++ l)) d ∙ sym (append_assoc (take at b) vs _) ∙ sym (sets-eq vs b at h)

-- the two halves of n, stored one after the other
pub halves_stored : (k n at : ℕ) (b c d : List ℕ) → c ≡ sets b at (bytes_of k (n / 256 ^ k)) → d ≡ sets c (at + k) (bytes_of k n)
    → d ≡ sets b at (bytes_of (k + k) n)
halves_stored k n at b c d p q =
    rw (q, p, bytes_of_add k k n) (rw length_bytes_of at (sym (sets_append (bytes_of k (n / 256 ^ k)) (bytes_of k n) b at)))

-- the shortest form of n is l, of w bytes
pub record Form (n : ℕ) (l : List ℕ) (w : ℕ) : Type 0 where
  pub bytes : encoded n ≡ l
  pub width : width_of n ≡ w

-- the form of one byte
pub form_one : (n : ℕ) → n < 253 → Form n (n ∷ []) 1
unfolding encoded width_of pick
form_one n h = let a : ltb n 253 ≡ true = lt-ltb n 253 h in record { bytes = rw a; width = rw a }

-- the form of three bytes
pub form_three : (n : ℕ) → 253 ≤ n → n < 65536 → Form n (253 ∷ bytes_of 2 n) 3
unfolding encoded width_of pick
form_three n l h =
    let a : ltb n 253 ≡ false = le-ltb n 253 l in
    let b : ltb n 65536 ≡ true = lt-ltb n 65536 h in
    record { bytes = rw (a, b); width = rw (a, b) }

-- the form of five bytes
pub form_five : (n : ℕ) → 65536 ≤ n → n < 4294967296 → Form n (254 ∷ bytes_of 4 n) 5
unfolding encoded width_of pick
form_five n l h =
    let a : ltb n 253 ≡ false = le-ltb n 253 (omega arith) in
    let b : ltb n 65536 ≡ false = le-ltb n 65536 l in
    let c : ltb n 4294967296 ≡ true = lt-ltb n 4294967296 h in
    record { bytes = rw (a, b, c); width = rw (a, b, c) }

-- the form of nine bytes
pub form_nine : (n : ℕ) → 4294967296 ≤ n → Form n (255 ∷ bytes_of 8 n) 9
unfolding encoded width_of pick
form_nine n l =
    let a : ltb n 253 ≡ false = le-ltb n 253 (omega arith) in
    let b : ltb n 65536 ≡ false = le-ltb n 65536 (omega arith) in
    let c : ltb n 4294967296 ≡ false = le-ltb n 4294967296 l in
    record { bytes = rw (a, b, c); width = rw (a, b, c) }

-- what holds of each form and its width, where it is the shortest, holds of the shortest form
pub encoded_ind : (P : List ℕ → ℕ → Type 0) (n : ℕ) → (n < 253 → P (n ∷ []) 1) → (253 ≤ n → n < 65536 → P (253 ∷ bytes_of 2 n) 3)
    → (65536 ≤ n → n < 4294967296 → P (254 ∷ bytes_of 4 n) 5) → (4294967296 ≤ n → P (255 ∷ bytes_of 8 n) 9) → P (encoded n) (width_of n)
unfolding encoded width_of pick
encoded_ind P n one three five nine = go (ltb n 253) (ltb n 65536) (ltb n 4294967296) refl refl refl
  where
    go : (a b c : Bool) → ltb n 253 ≡ a → ltb n 65536 ≡ b → ltb n 4294967296 ≡ c
        → P (pick a (n ∷ []) (pick b (253 ∷ bytes_of 2 n) (pick c (254 ∷ bytes_of 4 n) (255 ∷ bytes_of 8 n)))) (pick a 1 (pick b 3 (pick c 5 9)))
    go true b c e f g = one (ltb-true n 253 e)
    go false true c e f g = three (ltb-false n 253 e) (ltb-true n 65536 f)
    go false false true e f g = five (ltb-false n 65536 f) (ltb-true n 4294967296 g)
    go false false false e f g = nine (ltb-false n 4294967296 g)

-- the shortest form of n is as long as its width says
pub length_encoded : (n : ℕ) → length (encoded n) ≡ width_of n
unfolding encoded width_of
length_encoded n = simp (pick_ap (λ (l : List ℕ). length l), length_bytes_of)

-- a width is nine at most
pub width_most : (n : ℕ) → width_of n ≤ 9
width_most n =
    encoded_ind (λ (l : List ℕ) (w : ℕ). w ≤ 9) n (λ a. omega arith) (λ a b. omega arith) (λ a b. omega arith) (λ a. omega arith)

-- the form of one byte is one store
pub short_stored : (n at : ℕ) (b : List ℕ) → n < 253 → set b at (n % 256) ≡ sets b at (encoded n)
short_stored n at b h = let e : n % 256 ≡ n = omega arith in rw ((form_one n h).bytes, e)

-- a longer form is the store of its first byte, and then of the others
pub long_stored : {n w f : ℕ} {l : List ℕ} (at : ℕ) (b c : List ℕ) → Form n (f ∷ l) w → c ≡ sets (set b at f) (at + 1) l
    → c ≡ sets b at (encoded n)
long_stored at b c p q = rw (q, p.bytes, add-one at)

-- a head is as long as the widths of its two numbers say
pub length_head_of : (t n : ℕ) → length (head_of t n) ≡ width_of t + width_of n
unfolding head_of
length_head_of t n = length-append (encoded t) (encoded n) ∙ rw (length_encoded t, length_encoded n)

-- a head's two numbers, stored one after the other
pub head_stored : (t n at w : ℕ) (b c d : List ℕ) → w ≡ width_of t → c ≡ sets b at (encoded t) → d ≡ sets c (at + w) (encoded n)
    → d ≡ sets b at (head_of t n)
unfolding head_of
head_stored t n at w b c d e p q = rw (q, p, e, ← length_encoded t) (sym (sets_append (encoded t) (encoded n) b at))

-- from a place past the end on nothing fits
pub no_room : (all at len : ℕ) → all < at → false ≡ leb (at + len) all
no_room all at len h = sym (lt-leb (at + len) all (omega arith))

-- from any other place on fits what fits into the rest
pub room_left : (all at len : ℕ) → at ≤ all → leb len (all - at) ≡ leb (at + len) all
room_left all at len h = go (leb len (all - at)) refl
  where
    go : (b : Bool) → leb len (all - at) ≡ b → b ≡ leb (at + len) all
    go true e = sym (le-leb (at + len) all (omega (arith, leb-true len (all - at) e)))
    go false e = sym (lt-leb (at + len) all (omega (arith, leb-false len (all - at) e)))

-- the outcome where vs, of m bytes, is found to fit and is stored: the answer is the place behind it
pub wrote_fits : {r : Bool} (b : List ℕ) (at m : ℕ) (vs c : List ℕ) → length vs ≡ m → r ≡ leb (at + m) (length b) → r ≡ true
    → c ≡ sets b at vs → outcome (Some (at + m)) c ≡ wrote b at vs
unfolding wrote pick
wrote_fits b at m vs c e p t s = rw (e, sym p ∙ t, s)

-- the outcome where vs, of m bytes, is found not to fit: the buffer is as it was
pub wrote_full : {r : Bool} (b : List ℕ) (at m : ℕ) (vs : List ℕ) → length vs ≡ m → r ≡ leb (at + m) (length b) → r ≡ false
    → outcome None b ≡ wrote b at vs
unfolding wrote pick
wrote_full b at m vs e p t = rw (e, sym p ∙ t)

-- what a writer's answer p and the buffer c that it leaves tell
module _ (b : List ℕ) (at : ℕ) (vs c : List ℕ) {p : Option ℕ} (is : outcome p c ≡ wrote b at vs) where
  -- where it answers a place the bytes fit, they stand in the buffer, and the place is the one behind them
  pub answer_next : {r : ℕ} → p ≡ Some r → (at + length vs ≤ length b) × (c ≡ sets b at vs) × (r ≡ at + length vs)
  unfolding wrote pick
  answer_next {r} n = go (leb (at + length vs) (length b)) refl is
    where
      go : (f : Bool) → leb (at + length vs) (length b) ≡ f
          → outcome p c ≡ pick f (outcome (Some (at + length vs)) (sets b at vs)) (outcome None b)
          → (at + length vs ≤ length b) × (c ≡ sets b at vs) × (r ≡ at + length vs)
      go true t e =
          let m : p ≡ Some (at + length vs) = ap (λ (o : Outcome). o.next) e in
          (leb-true (at + length vs) (length b) t, ap (λ (o : Outcome). o.buffer) e, cc)
      go false t e =
          let m : p ≡ None = ap (λ (o : Outcome). o.next) e in
          let z : ◌≡◌ {A = ℕ} 0 1 = cc in
          absurd (omega arith)

  -- where it answers that it is full the bytes do not fit, and the buffer is as it was
  pub answer_full : p ≡ None → (length b < at + length vs) × (c ≡ b)
  unfolding wrote pick
  answer_full n = go (leb (at + length vs) (length b)) refl is
    where
      go : (f : Bool) → leb (at + length vs) (length b) ≡ f
          → outcome p c ≡ pick f (outcome (Some (at + length vs)) (sets b at vs)) (outcome None b)
          → (length b < at + length vs) × (c ≡ b)
      go true t e =
          let m : p ≡ Some (at + length vs) = ap (λ (o : Outcome). o.next) e in
          let z : ◌≡◌ {A = ℕ} 0 1 = cc in
          absurd (omega arith)
      go false t e = (leb-false (at + length vs) (length b) t, ap (λ (o : Outcome). o.buffer) e)

-- what was written at the start of a row that it fits into is read back
pub put_back : (row vs after : List ℕ) (r : Option ℕ) → outcome r after ≡ wrote row 0 vs → length vs ≤ length row → take (length vs) after ≡ vs
unfolding wrote pick
put_back row vs after r e h =
    let fits : leb (0 + length vs) (length row) ≡ true = le-leb (0 + length vs) (length row) (omega arith) in
    let stored : after ≡ sets row 0 vs = ap (λ (o : Outcome). o.buffer) (rw fits at e) in
    rw stored (sets_back vs row 0 (omega arith))
