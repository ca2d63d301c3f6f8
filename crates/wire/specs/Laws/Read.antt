-- The laws by which the cursor's methods meet their definitions: bytes at a place, and one law for each outcome.
-- Assumes nothing.
use Rattle.std.specs.Prelude.{ℕ, suc, ◌+◌, ◌*◌, ◌-◌, ◌^◌, ◌≤◌, ◌<◌, ◌≡◌, true, ◌≢◌, get_or, take, None, Some}
use Rattle.std.proofs.Math.Path.{refl}
use Rattle.std.proofs.Common.{sym, ◌∙◌, ap, drop-cons, take-add, take-suc, add-one, arith, add-mul, mul_assoc, zero-mul}
use mathlib.Core.List.{List, [], ◌∷◌, ◌++◌}
use Rattle.std.proofs.Math.ListN.{length, drop, length-drop, drop_of_length-le}
use Rattle.std.proofs.Math.Seq.{drop-drop, length-take-le}
use Rattle.std.proofs.Math.Nat.{pow-le-pow_right}
use borrow.Author.Tests.{lt-ltb, le-ltb, eq-eqb, ne_eqb}
use Rattle.laws.specs.Pick.{pick}
use Rattle.wire.specs.declared.read.Cursor.{Cursor}
use Rattle.wire.specs.Bytes.{Bytes}
use Rattle.wire.specs.Laws.Bytes.{bytes_take, big_below}
use Rattle.wire.specs.Number.{big, got, wide, long, any_number, width_of, number, is_whole}
use Rattle.wire.specs.Element.{element}
use Rattle.wire.specs.Places.Place.{cursor_at, number_in, element_in, long_number_at, any_number_at, number_at, element_at, whole_of}
use Rattle.wire.specs.Laws.Within.{any_number_bad, any_number_is, number_bad, number_is}

-- the byte at a place, and what follows it
pub byte : (s : List ℕ) (at m : ℕ) → m ≡ at + 1 → at < length s → drop at s ≡ get_or s at 0 ∷ drop m s
byte s at m q h = let e : suc at ≡ m = omega arith in rw (drop-cons s at 0 h, e)

-- a number's bytes after a are a moved up by them, and their own number
pub big_more : (a : ℕ) (l : List ℕ) → big a l ≡ a * 256 ^ length l + big 0 l
unfolding big
big_more a [] = omega arith
big_more a (b ∷ l) =
    let p = 256 ^ length l in
    let d : (c : ℕ) → (c * 256 + b) * p ≡ c * (256 * p) + b * p = λ c. add-mul (c * 256) b p ∙ ap (λ (x : ℕ). x + b * p) (mul_assoc c 256 p) in
    let z : 0 * (256 * p) ≡ 0 = zero-mul (256 * p) in
    let e : 256 ^ suc (length l) ≡ 256 * p = omega arith in
    rw e (omega (arith, big_more (a * 256 + b) l, big_more (0 * 256 + b) l, d a, d 0))

-- the number of two parts, one after the other
pub big_append : (a : ℕ) (k l : List ℕ) → big a (k ++ l) ≡ big (big a k) l
unfolding big
big_append a [] l = refl
big_append a (b ∷ k) l = big_append (a * 256 + b) k l

-- one byte more at the end
pub big_snoc : (a : ℕ) (l : List ℕ) (b : ℕ) → big a (l ++ b ∷ []) ≡ big a l * 256 + b
unfolding big
big_snoc a l b = big_append a l (b ∷ [])

-- the number of the first bytes, and one more
pub big_next : (l : List ℕ) (i : ℕ) → i < length l → big 0 (take i l) * 256 + get_or l i 0 ≡ big 0 (take (i + 1) l)
big_next l i h = rw (add-one i, take-suc l i 0 h, big_snoc 0 (take i l) (get_or l i 0))

-- of eight bytes, what is before any one and that one fit 64 bits
pub big_room : (l : List ℕ) (i : ℕ) → Bytes l → i < length l → length l ≤ 8 → big 0 (take i l) * 256 + 256 ≤ 2 ^ 64
big_room l i b h e =
    let n : length (take i l) ≡ i = length-take-le i l (omega arith) in
    let s : big 0 (take i l) < 256 ^ i = rw n at (big_below (take i l) (bytes_take i l b)) in
    let p : 256 ^ i ≤ 256 ^ 7 = pow-le-pow_right {n = 256} (omega arith) {i = i} {j = 7} (omega arith) in
    omega arith

-- two bytes at a place
pub two_is : (s : List ℕ) (at : ℕ) → at + 2 ≤ length s → get_or s at 0 * 256 + get_or s (at + 1) 0 ≡ big 0 (take 2 (drop at s))
unfolding big
two_is s at h = rw (byte s at (at + 1) refl (omega arith), byte s (at + 1) (at + 2) (omega arith) (omega arith)) (omega arith)

-- twice as many bytes are two halves
pub halves : (n : ℕ) (s : List ℕ) (at : ℕ) → at + (n + n) ≤ length s
    → big 0 (take n (drop at s)) * 256 ^ n + big 0 (take n (drop (at + n) s)) ≡ big 0 (take (n + n) (drop at s))
halves n s at h =
    let l : length (take n (drop (at + n) s)) ≡ n = length-take-le n (drop (at + n) s) (omega (arith, length-drop (at + n) s)) in
    let t : take (n + n) (drop at s) ≡ take n (drop at s) ++ take n (drop (at + n) s) = take-add n n (drop at s) ∙ rw (drop-drop n at s) in
    let m = big_more (big 0 (take n (drop at s))) (take n (drop (at + n) s)) in
    rw (t, big_append 0 (take n (drop at s)) (take n (drop (at + n) s)))
    (sym (rw l at m))

-- the cursor where n bytes more are passed
pub passed : (s : List ℕ) (at n : ℕ) → at + n ≤ length s → cursor_at s (drop n (drop at s)) ≡ record { at = at + n }
unfolding cursor_at
passed s at n h = let e : length s - length (drop n (drop at s)) ≡ at + n = rw (drop-drop n at s, length-drop (at + n) s) (omega arith) in rw e

-- fewer than n bytes are left
wide_none : (s : List ℕ) (n at : ℕ) → length s - at < n → number_in s (wide n (drop at s)) ≡ None
unfolding wide number_in pick
wide_none s n at h = rw (length-drop at s, lt-ltb (length s - at) n h)

-- n bytes are there, of the number v
wide_some : (s : List ℕ) (n v at : ℕ) → at + n ≤ length s → v ≡ big 0 (take n (drop at s)) → number_in s (wide n (drop at s)) ≡ Some (v, (record { at = at + n }))
unfolding wide number_in pick
wide_some s n v at h q = rw (length-drop at s, le-ltb (length s - at) n (omega arith), ← q, passed s at n h)

module _ (s : List ℕ) (b at : ℕ) where
  pub two_none : b ≡ 253 → length s - at < 2 → long_number_at s b at ≡ None
  unfolding long_number_at long pick
  two_none e h = rw (eq-eqb b 253 e) (wide_none s 2 at h)

  pub two_some : (v : ℕ) → b ≡ 253 → at + 2 ≤ length s → v ≡ big 0 (take 2 (drop at s)) → long_number_at s b at ≡ Some (v, (record { at = at + 2 }))
  unfolding long_number_at long pick
  two_some v e h q = rw (eq-eqb b 253 e) (wide_some s 2 v at h q)

  pub four_none : b ≢ 253 → b ≡ 254 → length s - at < 4 → long_number_at s b at ≡ None
  unfolding long_number_at long pick
  four_none f e h = rw (ne_eqb b 253 f, eq-eqb b 254 e) (wide_none s 4 at h)

  pub four_some : (v : ℕ) → b ≢ 253 → b ≡ 254 → at + 4 ≤ length s → v ≡ big 0 (take 4 (drop at s)) → long_number_at s b at ≡ Some (v, (record { at = at + 4 }))
  unfolding long_number_at long pick
  four_some v f e h q = rw (ne_eqb b 253 f, eq-eqb b 254 e) (wide_some s 4 v at h q)

  pub eight_none : b ≢ 253 → b ≢ 254 → length s - at < 8 → long_number_at s b at ≡ None
  unfolding long_number_at long pick
  eight_none f e h = rw (ne_eqb b 253 f, ne_eqb b 254 e) (wide_none s 8 at h)

  pub eight_some : (v : ℕ) → b ≢ 253 → b ≢ 254 → at + 8 ≤ length s → v ≡ big 0 (take 8 (drop at s)) → long_number_at s b at ≡ Some (v, (record { at = at + 8 }))
  unfolding long_number_at long pick
  eight_some v f e h q = rw (ne_eqb b 253 f, ne_eqb b 254 e) (wide_some s 8 v at h q)

module _ (s : List ℕ) (at : ℕ) where
  pub any_none : length s ≤ at → any_number_at s at ≡ None
  unfolding any_number_at any_number number_in
  any_none h = let z : drop at s ≡ [] = drop_of_length-le s h in rw z

  pub any_one : at < length s → get_or s at 0 < 253 → any_number_at s at ≡ Some ((get_or s at 0), (record { at = at + 1 }))
  unfolding any_number_at any_number number_in pick cursor_at
  any_one h l =
      let e : length s - length (drop (at + 1) s) ≡ at + 1 = rw (length-drop (at + 1) s) (omega arith) in
      rw (byte s at (at + 1) refl h, lt-ltb (get_or s at 0) 253 l, e)

  pub any_long : at < length s → 253 ≤ get_or s at 0 → any_number_at s at ≡ long_number_at s (get_or s at 0) (at + 1)
  unfolding any_number_at any_number long_number_at pick
  any_long h l = rw (byte s at (at + 1) refl h, le-ltb (get_or s at 0) 253 l)

-- the cursor at which a place's bytes are left
cursor_at_lem : (s : List ℕ) (at : ℕ) → at ≤ length s → cursor_at s (drop at s) ≡ record { at = at }
unfolding cursor_at
cursor_at_lem s at h = let e : length s - length (drop at s) ≡ at = rw (length-drop at s) (omega arith) in rw e

module _ (s : List ℕ) (at : ℕ) where
  pub number_none : any_number_at s at ≡ None → number_at s at ≡ None
  unfolding number_at number number_in
  number_none e = rw (any_number_bad s at e)

  pub number_short : (v : ℕ) (c : Cursor) → any_number_at s at ≡ Some (v, c) → c.at - at ≡ width_of v → number_at s at ≡ Some (v, c)
  unfolding number_at number number_in
  number_short v c e w =
      let f = any_number_is s at v c e in
      rw (f.same, eq-eqb (c.at - at) (width_of v) w, cursor_at_lem s c.at f.inside)

  pub number_wider : (v : ℕ) (c : Cursor) → any_number_at s at ≡ Some (v, c) → c.at - at ≢ width_of v → number_at s at ≡ None
  unfolding number_at number number_in
  number_wider v c e w =
      let f = any_number_is s at v c e in
      rw (f.same, ne_eqb (c.at - at) (width_of v) w)

  pub element_untyped : number_at s at ≡ None → element_at s at ≡ None
  unfolding element_at element element_in
  element_untyped e = rw (number_bad s at e)

  module _ (t : ℕ) (c : Cursor) (is : number_at s at ≡ Some (t, c)) where
    pub element_zero : t < 1 → element_at s at ≡ None
    unfolding element_at element element_in
    element_zero h = rw ((number_is s at t c is).same, lt-ltb t 1 h)

    module _ (low : 1 ≤ t) where
      pub element_large : 4294967295 < t → element_at s at ≡ None
      unfolding element_at element element_in
      element_large h = rw ((number_is s at t c is).same, le-ltb t 1 low, lt-ltb 4294967295 t h)

      module _ (high : t ≤ 4294967295) where
        pub element_unsized : number_at s c.at ≡ None → element_at s at ≡ None
        unfolding element_at element element_in
        element_unsized e = rw ((number_is s at t c is).same, le-ltb t 1 low, le-ltb 4294967295 t high, number_bad s c.at e)

        module _ (n : ℕ) (d : Cursor) (sized : number_at s c.at ≡ Some (n, d)) where
          pub element_long : length s - d.at < n → element_at s at ≡ None
          unfolding element_at element element_in
          element_long h =
              rw ((number_is s at t c is).same, le-ltb t 1 low, le-ltb 4294967295 t high, (number_is s c.at n d sized).same, length-drop d.at s, lt-ltb (length s - d.at) n h)

          pub element_is : n ≤ length s - d.at → element_at s at ≡ Some ((record { typ = t; at = d.at; len = n }), (record { at = d.at + n }))
          unfolding element_at element element_in
          element_is h =
              let f = number_is s c.at n d sized in
              let l : length (take n (drop d.at s)) ≡ n = length-take-le n (drop d.at s) (rw (length-drop d.at s) h) in
              let k : length (drop (d.at + n) s) ≡ length s - (d.at + n) = length-drop (d.at + n) s in
              let p : length s - length (drop (d.at + n) s) - length (take n (drop d.at s)) ≡ d.at = omega (arith, f.inside) in
              rw (
                (number_is s at t c is).same,
                le-ltb t 1 low,
                le-ltb 4294967295 t high,
                f.same,
                length-drop d.at s,
                le-ltb (length s - d.at) n h,
                drop-drop n d.at s,
                p,
                l,
                cursor_at_lem s (d.at + n) (omega (arith, f.inside)),
              )

-- a number of one byte
small : (b : ℕ) (l : List ℕ) → b < 253 → number (b ∷ l) ≡ got b 1 l
unfolding number
small b l h = rw (lt-ltb b 253 h, lt-ltb b 253 h)

-- a number of one byte at a place
small_at : (s : List ℕ) (at b : ℕ) → at < length s → b ≡ get_or s at 0 → b < 253 → number_at s at ≡ Some (b, (record { at = at + 1 }))
unfolding number_at number_in
small_at s at b h q l = rw (byte s at (at + 1) refl h, ← q, small b (drop (at + 1) s) l, cursor_at_lem s (at + 1) (omega arith))

-- an element whose type and length have a byte each
pub element_short : (s : List ℕ) (at t n b : ℕ) → at < length s → 2 ≤ length s - at → b ≡ at + 2 → t ≡ get_or s at 0 → n ≡ get_or s (at + 1) 0
    → 0 < t → t < 253 → n < 253 → n ≤ length s - at - 2 → element_at s at ≡ Some ((record { typ = t; at = b; len = n }), (record { at = b + n }))
element_short s at t n b h two place qt qn pos lt ln fits =
    let c : Cursor = record { at = at + 1 } in
    let d : Cursor = record { at = at + 1 + 1 } in
    let e : at + 1 + 1 ≡ b = omega arith in
    rw e at (element_is s at t c (small_at s at t h qt lt) pos (omega arith) n d (small_at s (at + 1) n (omega arith) qn ln) (omega arith))

-- one byte is its own number
pub one_is : (l : List ℕ) → length l ≡ 1 → get_or l 0 0 ≡ big 0 l
unfolding big
one_is [] h = absurd (omega arith)
one_is (b ∷ []) h = omega arith
one_is (b ∷ c ∷ l) h = absurd (omega arith)

-- bytes of a length that a whole number can have
pub whole_is : (n : ℕ) (l : List ℕ) → length l ≡ n → is_whole n ≡ true → (v : ℕ) → v ≡ big 0 l → Some v ≡ whole_of l
unfolding whole_of pick
whole_is n l h w v q = rw (h, w, q)

-- bytes of any other length
pub whole_not : (l : List ℕ) → length l ≢ 1 → length l ≢ 2 → length l ≢ 4 → length l ≢ 8 → None ≡ whole_of l
unfolding whole_of is_whole pick
whole_not l a b c d = rw (ne_eqb (length l) 1 a, ne_eqb (length l) 2 b, ne_eqb (length l) 4 c, ne_eqb (length l) 8 d)
