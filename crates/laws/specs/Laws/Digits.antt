-- Sets of small numbers as the binary digits of a number: membership, a member more or less, the size, the lowest member.
-- Assumes nothing.
use Prim.Native.Nat.{ℕ, zero, suc, ◌+◌, ◌-◌, ◌*◌, ◌/◌, ◌%◌, ◌^◌, ◌≤◌, ◌<◌, min}
use Rattle.std.specs.Prelude.{◌≡◌, Bool, ◌&&◌, List, [], ◌∷◌, ◌≢◌, ◌↔◌}
use Rattle.std.proofs.Math.Path.{refl}
use Rattle.std.proofs.Common.{sym, ◌∙◌, ap, pow_pos, pow-add, shr-shr, eqb-true, eq-eqb, ne_eqb, one-add, mod-lt, mod-eq_of_lt, one-mul, add-zero, div-add-mod', arith}
use Rattle.std.proofs.Math.Bool.{true, false, not}
use Rattle.std.proofs.Math.Dec.{eqb}
use Rattle.std.specs.Int.Count.{ones_in, ones, count_trailing_zeros, under, ones_step}
use Rattle.std.proofs.Math.Pow.{pow-lt}
use Rattle.std.specs.Int.Bits.{bit_and, bit_or, bit_xor, differ, and_step, xor_step, or_add_and}
use Rattle.std.proofs.lemmas.Nat.Bits.{and_high}
use Rattle.std.proofs.lemmas.Nat.{or_disjoint, or_lt}
use Rattle.std.proofs.lemmas.Bool.{eqb-false}
use Rattle.std.proofs.Math.Nat.{add-mul-mod_self_right}
use Rattle.laws.specs.Pick.{pick}
use Rattle.laws.specs.Laws.Pick.{pick_ind, pick_yes, pick_no}
use Rattle.laws.specs.Places.Tab.{tab}
use Rattle.laws.specs.Digits.{digit, member, added, removed}

-- a digit is 0 or 1
pub digit_le : (f s : ℕ) → digit f s ≤ 1
unfolding digit
digit_le zero s = omega arith
digit_le (suc f) s = digit_le f (s / 2)

-- the number 0 is the empty set
pub digit_zero : (f : ℕ) → digit f 0 ≡ 0
unfolding digit
digit_zero zero = refl
digit_zero (suc f) = digit_zero f

-- a digit as the machine takes it, by a shift
pub digit_shift : (f s : ℕ) → s / 2 ^ f % 2 ≡ digit f s
unfolding digit
digit_shift zero s = omega arith
digit_shift (suc f) s =
    let h : s / 2 ^ suc f ≡ s / 2 / 2 ^ f = rw (← (one-add f)) (sym (shr-shr s 1 f)) in
    rw h (digit_shift f (s / 2))

-- a number with the digit f set is at least 2 ^ f
pub digit_pow_le : (f s : ℕ) → digit f s ≡ 1 → 2 ^ f ≤ s
unfolding digit
digit_pow_le zero s e = omega arith
digit_pow_le (suc f) s e = omega (arith, digit_pow_le f (s / 2) e)

-- a number below 2 ^ f has no digit f
pub digit_high : (f s : ℕ) → s < 2 ^ f → digit f s ≡ 0
unfolding digit
digit_high zero s h = omega arith
digit_high (suc f) s h = digit_high f (s / 2) (omega arith)

-- half of a remainder by 2 * p is the remainder of the half by p
half_mod : (s p : ℕ) → 0 < p → s % (2 * p) / 2 ≡ s / 2 % p
half_mod s p h =
    let q = s / (2 * p) in
    let r = s % (2 * p) in
    let l : r < 2 * p = mod-lt s (omega arith) in
    let e : s ≡ r + q * (2 * p) = omega (arith, div-add-mod' s (2 * p)) in
    let f : s / 2 ≡ r / 2 + q * p = omega arith in
    sym (rw f (add-mul-mod_self_right (r / 2) q p ∙ mod-eq_of_lt (omega arith)))

-- a remainder by 2 * p has the lowest digit of the number
mod_two : (s p : ℕ) → s % (2 * p) % 2 ≡ s % 2
mod_two s p = let e : s ≡ s / (2 * p) * (2 * p) + s % (2 * p) = sym (div-add-mod' s (2 * p)) in omega arith

-- the remainder by 2 ^ d has the digits below d
pub digit_mod : (f d s : ℕ) → f < d → digit f (s % 2 ^ d) ≡ digit f s
unfolding digit
digit_mod f zero s h = absurd (omega arith)
digit_mod zero (suc d) s h = let e : 2 ^ suc d ≡ 2 * 2 ^ d = omega arith in rw e (mod_two s (2 ^ d))
digit_mod (suc f) (suc d) s h =
    let e : 2 ^ suc d ≡ 2 * 2 ^ d = omega arith in
    rw (e, half_mod s (2 ^ d) (pow_pos d)) (digit_mod f d (s / 2) (omega arith))

-- sets below 2 ^ d with the same members are equal
pub digits_ext : (d s t : ℕ) → s < 2 ^ d → t < 2 ^ d → ((f : ℕ) → f < d → digit f s ≡ digit f t) → s ≡ t
unfolding digit
digits_ext zero s t a b e = omega arith
digits_ext (suc d) s t a b e =
    omega (arith, e 0 (omega arith), digits_ext d (s / 2) (t / 2) (omega arith) (omega arith) (λ f h. e (suc f) (omega arith)))

-- to add 2 ^ f sets the digit f, where it was not set
pub add_same : (f s : ℕ) → digit f s ≡ 0 → digit f (s + 2 ^ f) ≡ 1
unfolding digit
add_same zero s e = omega arith
add_same (suc f) s e = let h : (s + 2 ^ suc f) / 2 ≡ s / 2 + 2 ^ f = omega arith in rw h (add_same f (s / 2) e)

-- to add 2 ^ f, where the digit f was not set, changes no other digit
pub add_other : (f g s : ℕ) → g ≢ f → digit f s ≡ 0 → digit g (s + 2 ^ f) ≡ digit g s
unfolding digit
add_other zero zero s n e = absurd (n refl)
add_other zero (suc g) s n e = let h : (s + 2 ^ 0) / 2 ≡ s / 2 = omega arith in rw h
add_other (suc f) zero s n e = omega arith
add_other (suc f) (suc g) s n e =
    let h : (s + 2 ^ suc f) / 2 ≡ s / 2 + 2 ^ f = omega arith in
    rw h (add_other f g (s / 2) (λ q. n (ap suc q)) e)

-- to subtract 2 ^ f clears the digit f, where it was set
pub sub_same : (f s : ℕ) → digit f s ≡ 1 → digit f (s - 2 ^ f) ≡ 0
unfolding digit
sub_same zero s e = omega arith
sub_same (suc f) s e = let h : (s - 2 ^ suc f) / 2 ≡ s / 2 - 2 ^ f = omega arith in rw h (sub_same f (s / 2) e)

-- 2 ^ f can be subtracted and added again, where the digit f is set
sub_back : (f s : ℕ) → digit f s ≡ 1 → s - 2 ^ f + 2 ^ f ≡ s
sub_back f s e = omega (arith, digit_pow_le f s e)

-- to subtract 2 ^ f, where the digit f was set, changes no other digit
pub sub_other : (f g s : ℕ) → g ≢ f → digit f s ≡ 1 → digit g (s - 2 ^ f) ≡ digit g s
sub_other f g s n e = sym (rw (sub_back f s e) at (add_other f g (s - 2 ^ f) n (sub_same f s e)))

-- the sum of what m gives below d: how many numbers are marked, where m gives 1 for a mark and 0 for none
unfoldable pub tally : ℕ → (ℕ → ℕ) → ℕ
tally zero m = 0
tally (suc d) m = m zero + tally d (λ i. m (suc i))

-- functions that agree below d have the same sum
pub tally_ext : (d : ℕ) (m n : ℕ → ℕ) → ((i : ℕ) → i < d → m i ≡ n i) → tally d m ≡ tally d n
unfolding tally
tally_ext zero m n e = refl
tally_ext (suc d) m n e = rw (e 0 (omega arith), tally_ext d (λ i. m (suc i)) (λ i. n (suc i)) (λ i h. e (suc i) (omega arith)))

-- a sum over the elements of a list made from places is the sum over the places
pub tally_tab : {A : Type 0} (c : List A → ℕ) (m : A → ℕ) → c [] ≡ 0 → ((a : A) (l : List A) → c (a ∷ l) ≡ m a + c l)
    → (g : ℕ → A) (i d : ℕ) → c (tab g i d) ≡ tally d (λ k. m (g (i + k)))
unfolding tally tab
tally_tab c m z e g i zero = z
tally_tab c m z e g i (suc d) =
    e (g i) (tab g (suc i) d) ∙ rw (add-zero, tally_tab c m z e g (suc i) d)
    (ap (λ (x : ℕ). m (g i) + x) (tally_ext d _ _ (λ k _. let q : suc i + k ≡ i + suc k = omega arith in rw q)))

-- the count of ones over d digits is how many digits are set
pub ones_tally : (d s : ℕ) → ones_in d s ≡ tally d (λ f. digit f s)
unfolding ones_in tally digit
ones_tally zero s = refl
ones_tally (suc d) s = rw (ones_tally d (s / 2))

-- to count the ones of a number below 2 ^ d, d digits are enough
pub ones_in_lem : (d s : ℕ) → s < 2 ^ d → ones_in d s ≡ ones s
unfolding ones_in
ones_in_lem zero s h = let z : s ≡ 0 = omega arith in rw z (unfold ones in refl)
ones_in_lem (suc d) s h = omega (arith, ones_step s, ones_in_lem d (s / 2) (omega arith))

-- the count of ones of a set below 2 ^ d is the number of its members
pub size_members : (d s : ℕ) → s < 2 ^ d → ones s ≡ tally d (λ f. digit f s)
size_members d s h = sym (ones_in_lem d s h) ∙ ones_tally d s

-- the count of ones of the remainder by 2 ^ d is the number of members below d, of any set
pub size_below : (d s : ℕ) → ones (s % 2 ^ d) ≡ tally d (λ f. digit f s)
size_below d s =
    size_members d (s % 2 ^ d) (mod-lt s (pow_pos d))
    ∙ tally_ext d (λ f. digit f (s % 2 ^ d)) (λ f. digit f s) (λ f h. digit_mod f d s h)

-- a member more is one more
pub ones_add : (f s : ℕ) → digit f s ≡ 0 → ones (s + 2 ^ f) ≡ ones s + 1
unfolding digit
ones_add zero s e =
    let h : (s + 2 ^ 0) / 2 ≡ s / 2 = omega arith in
    omega (arith, rw h at (ones_step (s + 2 ^ 0)), ones_step s)
ones_add (suc f) s e =
    let h : (s + 2 ^ suc f) / 2 ≡ s / 2 + 2 ^ f = omega arith in
    omega (arith, rw h at (ones_step (s + 2 ^ suc f)), ones_step s, ones_add f (s / 2) e)

-- where the count is 0 no digit is set
none_set : (f s : ℕ) → ones s ≡ 0 → digit f s ≡ 0
unfolding digit
none_set zero s e = omega (arith, ones_step s)
none_set (suc f) s e = none_set f (s / 2) (omega (arith, ones_step s))

-- t is the lowest member of s below n, or n where there is none
pub record Lowest (n s t : ℕ) : Type 0 where
  pub within : t ≤ n
  pub below : (f : ℕ) → f < t → digit f s ≡ 0
  pub here : t < n → digit t s ≡ 1

-- no lowest member is below another
none_lower : (n s t u : ℕ) → Lowest n s t → Lowest n s u → u < t → ⊥
none_lower n s t u a b l = omega (arith, a.below u l, b.here (omega arith))

-- there is only one lowest member
pub lowest_one : (n s t u : ℕ) → Lowest n s t → Lowest n s u → t ≡ u
lowest_one n s t u a b = omega (arith, none_lower n s t u a b, none_lower n s u t b a)

-- the trailing zeros of n digits are the lowest member below n
pub lowest : (n s : ℕ) → Lowest n s (count_trailing_zeros n s)
unfolding count_trailing_zeros digit
lowest zero s = record { within = omega arith; below = λ f h. omega arith; here = λ h. omega arith }
lowest (suc n) s = go (s % 2) refl (lowest n (s / 2))
  where
    go : (r : ℕ) → s % 2 ≡ r → Lowest n (s / 2) (count_trailing_zeros n (s / 2)) → Lowest (suc n) s (under r (count_trailing_zeros n (s / 2)))
    go zero e h = record { within = omega arith; below = b; here = λ l. h.here (omega arith) }
      where
        b : (f : ℕ) → f < suc (count_trailing_zeros n (s / 2)) → digit f s ≡ 0
        b zero l = e
        b (suc f) l = h.below f (omega arith)
    go (suc r) e h = record { within = omega arith; below = λ f l. omega arith; here = λ l. omega arith }

-- with n as a further member the trailing zeros are the lowest member below n, and n where there is none, with no test
pub lowest_below : (w n s : ℕ) → n ≤ w → Lowest n s (count_trailing_zeros w (s % 2 ^ n + 2 ^ n))
lowest_below w n s h =
    let r = s % 2 ^ n in
    let a = lowest w (r + 2 ^ n) in
    let free : digit n r ≡ 0 = digit_high n r (mod-lt s (pow_pos n)) in
    let same : ((f : ℕ) → f < n → digit f (r + 2 ^ n) ≡ digit f s) =
    (λ f l. add_other n f r (λ e. omega arith) free ∙ digit_mod f n s l) in
    let past : (n < count_trailing_zeros w (r + 2 ^ n) → ⊥) = (λ l. omega (arith, a.below n l, add_same n r free)) in
    record {
      within = omega arith;
      below = λ f l. sym (same f (omega arith)) ∙ a.below f l;
      here = λ l. sym (same _ l) ∙ a.here (omega arith);
    }

-- f is a member exactly where its digit is 1
pub member_yes : (f s : ℕ) → (member f s ≡ true) ↔ (digit f s ≡ 1)
unfolding member
member_yes f s = (eqb-true _ _, eq-eqb _ _)

-- f is no member exactly where its digit is 0
pub member_no : (f s : ℕ) → (member f s ≡ false) ↔ (digit f s ≡ 0)
unfolding member
member_no f s = ((λ e. omega (arith, digit_le f s, eqb-false (digit f s) 1 e)), (λ e. ne_eqb (digit f s) 1 (λ q. omega arith)))

-- a digit is 1 for a member, else 0
pub digit_member : (f s : ℕ) → digit f s ≡ pick (member f s) 1 0
digit_member f s = pick_ind (λ (x : ℕ). digit f s ≡ x) (member f s) 1 0 (member_yes f s).0 (member_no f s).0

module _ (f s : ℕ) where
  -- to add a member changes nothing
  pub added_present : member f s ≡ true → added f s ≡ s
  unfolding added
  added_present e = pick_yes _ _ _ e

  -- a member is removed by subtracting 2 ^ f
  pub removed_present : member f s ≡ true → removed f s ≡ s - 2 ^ f
  unfolding removed
  removed_present e = pick_yes _ _ _ e

  -- to remove what is no member changes nothing
  pub removed_absent : member f s ≡ false → removed f s ≡ s
  unfolding removed
  removed_absent e = pick_no _ _ _ e

  -- what is added is a member
  pub member_add_same : member f (added f s) ≡ true
  unfolding added
  member_add_same =
      pick_ind (λ (x : ℕ). member f x ≡ true) (member f s) _ _ (λ e. e)
      (λ e. (member_yes f (s + 2 ^ f)).1 (add_same f s ((member_no f s).0 e)))

  -- to add f changes nothing for any other number
  pub member_add_other : (g : ℕ) → g ≢ f → member g (added f s) ≡ member g s
  unfolding added member
  member_add_other g n =
      pick_ind (λ (x : ℕ). member g x ≡ member g s) (member f s) _ _ (λ _. refl)
      (λ e. rw (add_other f g s n ((member_no f s).0 e)))

  -- what is removed is no member
  pub member_remove_same : member f (removed f s) ≡ false
  unfolding removed
  member_remove_same =
      pick_ind (λ (x : ℕ). member f x ≡ false) (member f s) _ _
      (λ e. (member_no f (s - 2 ^ f)).1 (sub_same f s ((member_yes f s).0 e))) (λ e. e)

  -- to remove f changes nothing for any other number
  pub member_remove_other : (g : ℕ) → g ≢ f → member g (removed f s) ≡ member g s
  unfolding removed member
  member_remove_other g n =
      pick_ind (λ (x : ℕ). member g x ≡ member g s) (member f s) _ _
      (λ e. rw (sub_other f g s n ((member_yes f s).0 e))) (λ _. refl)

-- the machine's 1 << f at w bits is 2 ^ f
pub shl_one : (w f : ℕ) → f < w → 1 * 2 ^ f % 2 ^ w ≡ 2 ^ f
shl_one w f l = rw one-mul (mod-eq_of_lt (pow-lt l))

-- the machine's `and` with 2 ^ f is the digit f in its place
and_bit : (f s : ℕ) → bit_and s (2 ^ f) ≡ digit f s * 2 ^ f
and_bit f s =
    let h : 2 ^ (1 + f) - 2 ^ f ≡ 2 ^ f = omega (arith, pow-add 2 1 f) in
    rw (← (digit_shift f s)) (rw h at (and_high s 1 f))

-- the machine's `or` with 1 << f adds 2 ^ f, where the digit f is not set
pub or_bit : (w f s : ℕ) → f < w → digit f s ≡ 0 → bit_or s (1 * 2 ^ f % 2 ^ w) ≡ s + 2 ^ f
or_bit w f s l e = rw (shl_one w f l) (or_disjoint s (2 ^ f) (and_bit f s ∙ rw e (omega arith)))

-- the machine's `or` with 1 << f adds f to the set, with no test
pub or_added : (w f s : ℕ) → f < w → bit_or s (1 * 2 ^ f % 2 ^ w) ≡ added f s
unfolding added
or_added w f s l =
    pick_ind (λ (x : ℕ). bit_or s (1 * 2 ^ f % 2 ^ w) ≡ x) (member f s) _ _
    (λ e. rw (shl_one w f l) (omega (arith, or_add_and s (2 ^ f), rw ((member_yes f s).0 e) at (and_bit f s))))
    (λ e. or_bit w f s l ((member_no f s).0 e))

-- a set below 2 ^ w stays below it when a number below w is added
pub added_lt : (w f s : ℕ) → f < w → s < 2 ^ w → added f s < 2 ^ w
added_lt w f s l h = rw (← (or_added w f s l)) (or_lt w s _ h (mod-lt _ (pow_pos w)))

-- what holds of 0 and 1 holds of any digit
one_digit : (P : ℕ → Type 0) → P 0 → P 1 → (x : ℕ) → x ≤ 1 → P x
one_digit P a b zero h = a
one_digit P a b (suc zero) h = b
one_digit P a b (suc (suc x)) h = absurd (omega arith)

-- what holds of 0 and 1 holds of any two digits
two_digits : (P : ℕ → ℕ → Type 0) → P 0 0 → P 0 1 → P 1 0 → P 1 1 → (x y : ℕ) → x ≤ 1 → y ≤ 1 → P x y
two_digits P a b c d x y h l = one_digit (λ z. P z y) (one_digit (P 0) a b y l) (one_digit (P 1) c d y l) x h

-- a number made digit by digit from two others, each digit as the test t says, has as members what t says of those of the two
module _ (o : ℕ → ℕ → ℕ) (d : ℕ → ℕ → ℕ) (t : Bool → Bool → Bool) (step : (a b : ℕ) → o a b ≡ o (a / 2) (b / 2) * 2 + d (a % 2) (b % 2))
    (tests : (x y : ℕ) → x ≤ 1 → y ≤ 1 → d x y ≡ pick (t (eqb x 1) (eqb y 1)) 1 0) where
  -- the lowest digit is what t says, and the half is made of the halves
  made_low : (a b : ℕ) → (o a b % 2 ≡ pick (t (eqb (a % 2) 1) (eqb (b % 2) 1)) 1 0) × (o a b / 2 ≡ o (a / 2) (b / 2))
  made_low a b =
      let c = t (eqb (a % 2) 1) (eqb (b % 2) 1) in
      let e : d (a % 2) (b % 2) ≡ pick c 1 0 = tests (a % 2) (b % 2) (omega arith) (omega arith) in
      let l : pick c 1 0 ≤ 1 = pick_ind (λ (x : ℕ). x ≤ 1) c 1 0 (λ _. omega arith) (λ _. omega arith) in
      (omega (arith, step a b), omega (arith, step a b))

  -- each member is what t says
  member_made : (f a b : ℕ) → member f (o a b) ≡ t (member f a) (member f b)
  unfolding member digit
  member_made zero a b = rw (made_low a b).0 (one (t (eqb (a % 2) 1) (eqb (b % 2) 1)))
    where
      one : (c : Bool) → eqb (pick c 1 0) 1 ≡ c
      one true = unfold pick in refl
      one false = unfold pick in refl
  member_made (suc f) a b = rw (made_low a b).1 (member_made f (a / 2) (b / 2))

module _ (f a b : ℕ) where
  -- the members of the machine's `and` are those of both
  pub member_and : member f (bit_and a b) ≡ (member f a && member f b)
  unfolding pick
  member_and =
      member_made bit_and min (λ x y. x && y) and_step
      (two_digits (λ x y. min x y ≡ pick (eqb x 1 && eqb y 1) 1 0) refl refl refl refl) f a b

  -- the members of the machine's `xor` with what is in both are those of the first that the second has not
  pub member_less : member f (bit_xor a (bit_and a b)) ≡ (member f a && not (member f b))
  unfolding pick
  member_less =
      member_made (λ x y. bit_xor x (bit_and x y)) (λ x y. differ x (min x y)) (λ x y. x && not y) step
      (two_digits (λ x y. differ x (min x y) ≡ pick (eqb x 1 && not (eqb y 1)) 1 0) refl refl refl refl) f a b
    where
      step : (x y : ℕ) → bit_xor x (bit_and x y) ≡ bit_xor (x / 2) (bit_and (x / 2) (y / 2)) * 2 + differ (x % 2) (min (x % 2) (y % 2))
      step x y =
          let h : bit_and x y / 2 ≡ bit_and (x / 2) (y / 2) = omega (arith, and_step x y) in
          let l : bit_and x y % 2 ≡ min (x % 2) (y % 2) = omega (arith, and_step x y) in
          rw (h, l) at (xor_step x (bit_and x y))
