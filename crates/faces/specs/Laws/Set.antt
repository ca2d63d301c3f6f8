-- What the sets of faces mean: members, a face more or less, the size, the lowest face, and the faces that a test holds of, for any
-- number n of faces.
-- Assumes nothing.
use Prim.Native.Nat.{ℕ, zero, suc, ◌+◌, ◌-◌, ◌%◌, ◌^◌, ◌≤◌, ◌<◌}
use Rattle.std.specs.Prelude.{◌≡◌, Bool, ◌&&◌, ◌≢◌}
use Rattle.std.proofs.Math.Path.{refl, sym}
use Rattle.std.proofs.Common.{◌∙◌, ⊎_elim, mod-lt, add-zero, eq-or-lt_of_le, pow_pos}
use Rattle.std.proofs.Math.Bool.{true, false, not}
use native.Mathlib.Omega.{arith}
use Rattle.std.specs.Int.Count.{count_trailing_zeros}
use Rattle.std.specs.Int.Bits.{bit_and, bit_xor, and_self, xor_add_and}
use Rattle.std.proofs.lemmas.Nat.{and-not, and_assoc, and_comm}
use Rattle.laws.specs.Pick.{pick}
use Rattle.laws.specs.Laws.Pick.{pick_yes, pick_ind}
use Rattle.laws.specs.Laws.Loop.{and_both}
use Rattle.laws.specs.Digits.{digit, member, added, removed}
use Rattle.laws.specs.Laws.Digits.{digit_mod, digit_high, digits_ext, add_same, add_other, member_and, member_less, lowest_below}
use Rattle.laws.specs.Laws.Digits.{member_yes, member_no, digit_member, removed_present, removed_absent, member_add_same}
use Rattle.laws.specs.Laws.Digits.{member_add_other, member_remove_same, member_remove_other}
use Rattle.records.specs.Face.{is_face}
use Rattle.records.specs.Laws.Face.{face_yes}
use Rattle.faces.specs.Set.{has_face, with_face, minus_face, lowest_face, faces_where}

-- what is in a set is a face
pub has_face_lem : (n s f : ℕ) → has_face n s f ≡ true → (1 ≤ f) × (f ≤ n)
unfolding has_face
has_face_lem n s f e = (face_yes n f).0 (and_both _ _ e).0

-- what is in a set has its digit there
pub has_member : (n s f : ℕ) → has_face n s f ≡ true → member (f - 1) s ≡ true
unfolding has_face
has_member n s f e = (and_both (is_face n f) _ e).1

-- to remove a face that is in the set subtracts its power of 2
pub without_present : (n s f : ℕ) → has_face n s f ≡ true → minus_face n s f ≡ s - 2 ^ (f - 1)
unfolding minus_face
without_present n s f e =
    pick_yes _ _ _ ((face_yes n f).1 (has_face_lem n s f e)) ∙ removed_present (f - 1) s (has_member n s f e)

-- to remove what is not in the set changes nothing
pub without_absent : (n s f : ℕ) → has_face n s f ≡ false → minus_face n s f ≡ s
unfolding has_face minus_face pick
without_absent n s f = go (is_face n f)
  where
    go : (b : Bool) → b && member (f - 1) s ≡ false → pick b (removed (f - 1) s) s ≡ s
    go true e = removed_absent (f - 1) s e
    go false e = refl

-- what is no face is in no set
has_no : (n s f : ℕ) → (is_face n f ≡ true → member (f - 1) s ≡ false) → has_face n s f ≡ false
unfolding has_face
has_no n s f = go (is_face n f)
  where
    go : (b : Bool) → (b ≡ true → member (f - 1) s ≡ false) → b && member (f - 1) s ≡ false
    go true h = h refl
    go false h = refl

-- the face i + 1 is in a set exactly where the digit i is
pub has_after : (n s i : ℕ) → i < n → has_face n s (i + 1) ≡ member i s
unfolding has_face
has_after n s i h =
    let e : i + 1 - 1 ≡ i = omega arith in
    rw ((face_yes n (i + 1)).1 (omega arith, omega arith), e)

module _ (n s f : ℕ) where
  -- a face that is added is in the set
  pub has_added_same : has_face n (with_face n s f) f ≡ is_face n f
  unfolding has_face with_face pick
  has_added_same = go (is_face n f)
    where
      go : (b : Bool) → b && member (f - 1) (pick b (added (f - 1) s) s) ≡ b
      go true = member_add_same (f - 1) s
      go false = refl

  -- a face that is removed is not in the set
  pub has_removed_same : has_face n (minus_face n s f) f ≡ false
  unfolding has_face minus_face pick
  has_removed_same = go (is_face n f)
    where
      go : (b : Bool) → b && member (f - 1) (pick b (removed (f - 1) s) s) ≡ false
      go true = member_remove_same (f - 1) s
      go false = refl

  -- a change at the digit of a face changes nothing for another face
  change_other : (t g : ℕ) → ((i : ℕ) → i ≢ f - 1 → member i t ≡ member i s) → g ≢ f
      → has_face n (pick (is_face n f) t s) g ≡ has_face n s g
  unfolding has_face pick
  change_other t g h d = go (is_face n g) (is_face n f) (face_yes n g).0 (face_yes n f).0
    where
      go : (b c : Bool) → (b ≡ true → (1 ≤ g) × (g ≤ n)) → (c ≡ true → (1 ≤ f) × (f ≤ n))
          → b && member (g - 1) (pick c t s) ≡ b && member (g - 1) s
      go true true x y = h (g - 1) (λ q. d (omega (arith, x refl, y refl)))
      go true false x y = refl
      go false c x y = refl

  -- to add a face changes nothing for another
  pub has_added_other : (g : ℕ) → g ≢ f → has_face n (with_face n s f) g ≡ has_face n s g
  unfolding with_face
  has_added_other g d = change_other (added (f - 1) s) g (member_add_other (f - 1) s) d

  -- to remove a face changes nothing for another
  pub has_removed_other : (g : ℕ) → g ≢ f → has_face n (minus_face n s f) g ≡ has_face n s g
  unfolding minus_face
  has_removed_other g d = change_other (removed (f - 1) s) g (member_remove_other (f - 1) s) d

-- a face that is put in has its digit set, one that is taken out has not
pub put_same : (n f s : ℕ) (b : Bool) → is_face n f ≡ true → member (f - 1) (pick b (with_face n s f) (minus_face n s f)) ≡ b
unfolding pick with_face minus_face
put_same n f s true h = rw h (member_add_same (f - 1) s)
put_same n f s false h = rw h (member_remove_same (f - 1) s)

-- the digits of the other faces are as they were
pub put_other : (n f s : ℕ) (b : Bool) → is_face n f ≡ true → (i : ℕ) → i ≢ f - 1
    → member i (pick b (with_face n s f) (minus_face n s f)) ≡ member i s
unfolding pick with_face minus_face
put_other n f s true h i d = rw h (member_add_other (f - 1) s i d)
put_other n f s false h i d = rw h (member_remove_other (f - 1) s i d)

-- a number that is no face changes nothing
pub put_none : (n f s : ℕ) (b : Bool) → is_face n f ≡ false → pick b (with_face n s f) (minus_face n s f) ≡ s
unfolding pick with_face minus_face
put_none n f s true h = rw h
put_none n f s false h = rw h

module _ (n s : ℕ) where
  module _ (w : n ≤ 64) where
    -- the lowest face is in the set, if the set has one
    pub lowest_has : lowest_face n s ≤ n → has_face n s (lowest_face n s) ≡ true
    unfolding lowest_face
    lowest_has h =
        let t = count_trailing_zeros 64 (s % 2 ^ n + 2 ^ n) in
        has_after n s t (omega arith) ∙ (member_yes t s).1 ((lowest_below 64 n s w).here (omega arith))

    -- no face below the lowest is in the set
    pub lowest_before : (f : ℕ) → f < lowest_face n s → has_face n s f ≡ false
    unfolding lowest_face
    lowest_before f h =
        has_no n s f
        (λ q. (member_no (f - 1) s).1 ((lowest_below 64 n s w).below (f - 1) (omega (arith, (face_yes n f).0 q))))

module _ (n : ℕ) where
  -- a set below 2 ^ n and one digit more, set or not, is below 2 ^ (n + 1)
  more_lt : (s : ℕ) (b : Bool) → s < 2 ^ n → s + pick b (2 ^ n) 0 < 2 ^ suc n
  more_lt s b h = pick_ind (λ (x : ℕ). s + x < 2 ^ suc n) b _ _ (λ _. omega arith) (λ _. omega arith)

-- the set of those faces that p holds of has no digit past the faces
pub where_lt : (n : ℕ) (p : ℕ → Bool) → faces_where n p < 2 ^ n
unfolding faces_where
where_lt zero p = omega arith
where_lt (suc n) p = more_lt n (faces_where n p) (p (suc n)) (where_lt n p)

-- the digit i is there exactly where p holds of the face i + 1
where_member : (n i : ℕ) (p : ℕ → Bool) → i < n → member i (faces_where n p) ≡ p (suc i)
unfolding faces_where member
where_member zero i p h = absurd (omega arith)
where_member (suc n) i p h =
    let s = faces_where n p in
    let free : digit n s ≡ 0 = digit_high n s (where_lt n p) in
    pick_ind (λ (x : ℕ). member i (s + x) ≡ p (suc i)) (p (suc n)) (2 ^ n) 0
    (λ e. ⊎_elim (λ (q : i ≡ n). rw (q, e) ((member_yes n (s + 2 ^ n)).1 (add_same n s free)))
    (λ (l : i < n). rw (add_other n i s (λ q. omega arith) free) (where_member n i p l)) (eq-or-lt_of_le (omega arith)))
    (λ e. rw add-zero (⊎_elim (λ (q : i ≡ n). rw (q, e) ((member_no n s).1 free)) (λ (l : i < n). where_member n i p l)
    (eq-or-lt_of_le (omega arith))))

module _ (n : ℕ) where
  -- of the faces those are in the set that p holds of
  pub where_has : (f : ℕ) (p : ℕ → Bool) → is_face n f ≡ true → has_face n (faces_where n p) f ≡ p f
  unfolding has_face
  where_has f p h =
      let within = (face_yes n f).0 h in
      let e : suc (f - 1) ≡ f = omega arith in
      rw h (rw e at (where_member n (f - 1) p (omega arith)))

  -- a set without digits past the faces is that of the faces that are in it
  pub where_is : (s : ℕ) (p : ℕ → Bool) → s < 2 ^ n → ((f : ℕ) → is_face n f ≡ true → has_face n s f ≡ p f) → s ≡ faces_where n p
  where_is s p l h = digits_ext n s (faces_where n p) l (where_lt n p) same
    where
      same : (i : ℕ) → i < n → digit i s ≡ digit i (faces_where n p)
      same i b =
          let q = (face_yes n (i + 1)).1 (omega arith, omega arith) in
          let e : member i s ≡ member i (faces_where n p) =
          sym (has_after n s i b) ∙ h (i + 1) q ∙ sym (where_has (i + 1) p q) ∙ has_after n (faces_where n p) i b in
          digit_member i s ∙ rw e (sym (digit_member i (faces_where n p)))

  -- tests that agree on the faces give the same set
  pub where_ext : (p q : ℕ → Bool) → ((f : ℕ) → is_face n f ≡ true → p f ≡ q f) → faces_where n p ≡ faces_where n q
  where_ext p q h = where_is (faces_where n p) q (where_lt n p) (λ f e. where_has f p e ∙ h f e)

  -- the set of the faces that are in a set is that set without its digits past the faces
  pub where_mod : (s : ℕ) → faces_where n (has_face n s) ≡ s % 2 ^ n
  unfolding has_face member
  where_mod s =
      sym (where_is (s % 2 ^ n) (has_face n s) (mod-lt s (pow_pos n))
      (λ f h. rw (digit_mod (f - 1) n s (omega (arith, (face_yes n f).0 h)))))

-- at 64 bits the machine's `and` with what is not in a set is its `xor` with what is in both
pub and_not_is : (a b : ℕ) → a < 2 ^ 64 → b < 2 ^ 64 → bit_and a (2 ^ 64 - 1 - b) ≡ bit_xor a (bit_and a b)
and_not_is a b h l =
    let c = bit_and a b in
    let i : bit_and a c ≡ c = sym (and_assoc b a a) ∙ rw (and_self a) in
    let n : bit_and a (2 ^ 64 - 1 - b) + c ≡ a = rw (and_comm (2 ^ 64 - 1 - b) a, and_comm b a) at (and-not 64 b a l h) in
    omega (arith, xor_add_and a c, i, n)

module _ (n a b f : ℕ) where
  -- a face is in the machine's `and` of two sets exactly where it is in both
  pub has_and : has_face n (bit_and a b) f ≡ (has_face n a f && has_face n b f)
  unfolding has_face
  has_and = go (is_face n f)
    where
      go : (c : Bool) → c && member (f - 1) (bit_and a b) ≡ (c && member (f - 1) a) && (c && member (f - 1) b)
      go true = member_and (f - 1) a b
      go false = refl

  -- a face is in the machine's `xor` of a set and what it shares exactly where it is in the set and not in the other
  pub has_less : has_face n (bit_xor a (bit_and a b)) f ≡ (has_face n a f && not (has_face n b f))
  unfolding has_face
  has_less = go (is_face n f)
    where
      go : (c : Bool) → c && member (f - 1) (bit_xor a (bit_and a b)) ≡ (c && member (f - 1) a) && not (c && member (f - 1) b)
      go true = member_less (f - 1) a b
      go false = refl
