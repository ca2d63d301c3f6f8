-- The laws by which the reader of a number meets its definition: the groups passed so far, and one law for each outcome.
-- Assumes nothing.
use Rattle.std.specs.Prelude.{ℕ, zero, suc, ◌+◌, ◌*◌, ◌-◌, ◌^◌, ◌≤◌, ◌<◌, ◌≡◌, refl, Bool, true, false, ◌&&◌, ◌||◌, ◌≢◌, get_or, ltb, leb, eqb, None, Option, Some}
use Rattle.std.proofs.Common.{sym, ◌∙◌, ap, length-drop, drop-cons, drop-drop, pow-add, mul-add, mul_assoc, add-one}
use Rattle.std.proofs.Math.Bool.{and-false, or-true}
use mathlib.Core.List.{List, [], ◌∷◌}
use Rattle.std.proofs.Math.ListN.{length, drop, drop_of_length-le}
use borrow.Author.Tests.{lt-ltb, le-ltb, le-leb, lt-leb, ne_eqb, ltb-true, leb-true}
use Rattle.std.proofs.Math.Nat.{mul_comm, mul-le-mul_right, one-le-pow, pow-le-pow_right}
use native.Mathlib.Omega.{arith}
use Rattle.laws.specs.Laws.Loop.{and_both}
use Rattle.laws.specs.Pick.{pick}
use Rattle.laws.specs.Laws.Pick.{pick_ind}
use Rattle.laws.specs.Laws.Some.{some_pair}
use Rattle.tape.specs.Number.{Groups, cut, groups, lower, sevens, regular, number_in, tape_number_at}
use Rattle.tape.specs.Places.Number.{Passed, closed}

-- n groups of the number v in front of others, of which unit is the place value
unfoldable pub above : ℕ → ℕ → ℕ → Groups → Groups
above v unit n cut = cut
above v unit n (groups w m l) = groups (v + unit * w) (n + m) l

-- the reader of the number at a place has passed groups of the number v, and stands at i
pub record Passing (s : List ℕ) (at i v unit : ℕ) : Type 0 where
  pub passed : Passed v unit
  pub same : sevens (drop at s) ≡ above v unit passed.count (sevens (drop i s))

-- before a group that is not the tenth stand at most eight
count_small : {v unit : ℕ} (p : Passed v unit) → unit ≢ 2 ^ 63 → p.count ≤ 8
count_small p n = let k : (p.count ≡ 9 → ⊥) = (λ e. n (p.power ∙ rw e)) in omega (arith, p.few)

-- the place value of a group that is not the tenth
pub unit_small : {v unit : ℕ} → Passed v unit → unit ≢ 2 ^ 63 → unit ≤ 2 ^ 56
unit_small p n = rw p.power (pow-le-pow_right {n = 128} (omega arith) {i = p.count} {j = 8} (count_small p n))

-- with a group that is not the tenth the number fits 64 bits
pub group_fits : {v unit : ℕ} → Passed v unit → unit ≢ 2 ^ 63 → (d : ℕ) → d < 128 → v + d * unit < 2 ^ 64
group_fits {v} {unit} p n d h = omega (arith, p.low, unit_small p n, mul-le-mul_right {m = d} {n = 127} unit (omega arith))

-- groups in front of a group that stands in front of others are one group more in front of those
above_lower : (v unit n d : ℕ) (g : Groups) → above v unit n (lower d g) ≡ above (v + d * unit) (unit * 128) (suc n) g
unfolding above lower
above_lower v unit n d cut = refl
above_lower v unit n d (groups w m l) =
    let a : v + unit * (d + 128 * w) ≡ v + d * unit + unit * 128 * w =
    omega (arith, mul-add unit d (128 * w), mul_comm unit d, mul_assoc unit 128 w) in
    let b : n + suc m ≡ suc n + m = omega arith in
    rw (a, b)

-- no groups in front change nothing
above_none : (g : Groups) → g ≡ above 0 1 0 g
unfolding above
above_none cut = refl
above_none (groups w m l) =
    let e : 0 + 1 * w ≡ w = omega arith in
    let f : 0 + m ≡ m = omega arith in
    rw (e, f)

-- at the start no group is passed
pub passing_none : (s : List ℕ) (at : ℕ) → Passing s at at 0 1
passing_none s at =
    record { passed = record { count = 0; few = omega arith; power = refl; low = omega arith }; same = above_none (sevens (drop at s)) }

module _ (b : ℕ) (l : List ℕ) where
  -- a byte with its top bit clear is the last group
  pub group_last : b < 128 → sevens (b ∷ l) ≡ groups b 1 l
  unfolding sevens pick
  group_last h = rw (lt-ltb b 128 h)

  -- a byte with its top bit set is a group in front of those that follow
  pub group_more : 128 ≤ b → sevens (b ∷ l) ≡ lower (b - 128) (sevens l)
  unfolding sevens pick
  group_more h = rw (le-ltb b 128 h)

-- there are n groups in front of r in l: at least one, with a byte each
pub record Counted (l r : List ℕ) (n : ℕ) : Type 0 where
  pub some : 0 < n
  pub inside : n ≤ length l
  pub rest : drop n l ≡ r

-- the groups of a list are counted
pub sevens_counted : (l r : List ℕ) (v n : ℕ) → sevens l ≡ groups v n r → Counted l r n
unfolding sevens lower
sevens_counted [] r v n = λ e. let z : ◌≡◌ {A = ℕ} 0 1 = cc in absurd (omega arith)
sevens_counted (b ∷ l) r v n =
    pick_ind (λ (g : Groups). g ≡ groups v n r → Counted (b ∷ l) r n) (ltb b 128) _ _
    (λ _ e. let q : n ≡ 1 = cc in let k : l ≡ r = cc in record { some = omega arith; inside = omega arith; rest = rw q k })
    (λ _. go (sevens l) (sevens_counted l))
  where
    go : (g : Groups) → ((r : List ℕ) (v n : ℕ) → g ≡ groups v n r → Counted l r n) → lower (b - 128) g ≡ groups v n r → Counted (b ∷ l) r n
    go cut f e = let z : ◌≡◌ {A = ℕ} 0 1 = cc in absurd (omega arith)
    go (groups w m k) f e =
        let q : n ≡ suc m = cc in
        let c = f k w m refl in
        let d : drop m l ≡ r = c.rest ∙ (cc) in
        record { some = omega arith; inside = omega (arith, c.inside); rest = rw q d }

-- two tests of which the first fails where the second holds do not both hold
never_both : (a b : Bool) → (b ≡ true → a ≡ false) → a && b ≡ false
never_both a true h = rw (h refl)
never_both a false h = and-false a

-- where the smallest number of n groups has more than 64 bits, none is regular
too_many : (v n : ℕ) → n ≢ 1 → 2 ^ 64 ≤ 128 ^ (n - 1) → regular v n ≡ false
unfolding regular
too_many v n more h =
    rw (ne_eqb n 1 more) (never_both _ _ (λ e. lt-leb (128 ^ (n - 1)) v (omega (arith, ltb-true v (2 ^ 64) e))))

-- after the groups passed before a tenth, a group with groups after it is one too many
long_bad : (s : List ℕ) (v unit d : ℕ) (p : Passed v unit) (g : Groups) → unit ≡ 2 ^ 63
    → ((w m : ℕ) (l : List ℕ) → g ≡ groups w m l → 0 < m) → number_in s (above v unit p.count (lower d g)) ≡ None
unfolding number_in above lower pick
long_bad s v unit d p cut e f = refl
long_bad s v unit d p (groups w m l) e f =
    let n = p.count in
    let z : 0 < m = f w m l refl in
    let q : n + suc m - 1 ≡ n + 1 + (m - 1) = omega arith in
    let a : 128 ^ (n + 1 + (m - 1)) ≡ 128 ^ (n + 1) * 128 ^ (m - 1) = pow-add 128 (n + 1) (m - 1) in
    let b : 128 ^ (n + 1) ≡ 128 * unit = rw (add-one n, p.power) (omega arith) in
    let c : 1 ≤ 128 ^ (m - 1) = one-le-pow (m - 1) 128 (omega arith) in
    let k : 2 ^ 64 ≤ 128 ^ (n + suc m - 1) = rw (q, a, b, e) (omega arith) in
    rw (too_many (v + unit * (d + 128 * w)) (n + suc m) (λ h. omega arith) k)

-- a group has the place value 1 where no group stands before it
alone : (n : ℕ) → eqb (n + 1) 1 ≡ eqb (128 ^ n) 1
alone zero = refl
alone (suc n) =
    let c : 1 ≤ 128 ^ n = one-le-pow n 128 (omega arith) in
    ne_eqb (suc n + 1) 1 (λ h. omega arith) ∙ sym (ne_eqb (128 ^ suc n) 1 (λ h. omega arith))

-- the byte at a place, and what follows it
byte : (s : List ℕ) (i : ℕ) → i < length s → drop i s ≡ get_or s i 0 ∷ drop (i + 1) s
byte s i h = rw (add-one i) (drop-cons s i 0 h)

module _ {s : List ℕ} {at i v unit : ℕ} (p : Passing s at i v unit) where
  -- where no byte is left the groups are cut off
  pub number_cut : length s ≤ i → tape_number_at s at ≡ None
  unfolding tape_number_at sevens above number_in
  number_cut h = let z : drop i s ≡ [] = drop_of_length-le s h in rw (p.same, z)

  -- a turn passes one group
  pub passing_more : i < length s → 128 ≤ get_or s i 0 → get_or s i 0 < 256 → unit ≢ 2 ^ 63
      → Passing s at (i + 1) (v + (get_or s i 0 - 128) * unit) (unit * 128)
  passing_more inside high small n =
      let d = get_or s i 0 - 128 in
      let q = p.passed in
      record {
        passed = record {
          count = suc q.count;
          few = omega (arith, count_small q n);
          power = ap (λ (x : ℕ). x * 128) q.power ∙ omega arith;
          low = omega (arith, q.low, mul-le-mul_right {m = d} {n = 127} unit (omega arith));
        };
        same = p.same ∙ rw (byte s i inside, group_more (get_or s i 0) (drop (i + 1) s) high) (above_lower v unit q.count d (sevens (drop (i + 1) s)));
      }

  -- a turn's number fits 64 bits
  pub turn_fits : get_or s i 0 < 256 → unit ≢ 2 ^ 63 → v + (get_or s i 0 - 128) * unit < 2 ^ 64
  turn_fits small n = group_fits p.passed n (get_or s i 0 - 128) (omega arith)

  -- more groups than ten are no number
  pub number_long : i < length s → 128 ≤ get_or s i 0 → unit ≡ 2 ^ 63 → tape_number_at s at ≡ None
  unfolding tape_number_at
  number_long inside high e =
      rw (p.same, byte s i inside, group_more (get_or s i 0) (drop (i + 1) s) high)
      (long_bad s v unit (get_or s i 0 - 128) p.passed (sevens (drop (i + 1) s)) e (λ w m l q. (sevens_counted (drop (i + 1) s) l w m q).some))

  -- the number is closed by a byte with its top bit clear
  pub number_last : i < length s → get_or s i 0 < 128 → tape_number_at s at ≡ closed v unit (get_or s i 0) (i + 1)
  unfolding tape_number_at number_in above closed regular
  number_last inside h =
      let n = p.passed.count in
      let a : n + 1 - 1 ≡ n = omega arith in
      let e : length s - length (drop (i + 1) s) ≡ i + 1 = rw (length-drop (i + 1) s) (omega arith) in
      rw (p.same, byte s i inside, group_last (get_or s i 0) (drop (i + 1) s) h, e, mul_comm unit (get_or s i 0), a, alone n, ← p.passed.power)

module _ (v unit b next : ℕ) where
  -- a group alone is its own number
  pub closed_alone : v < unit → unit ≡ 1 → b < 128 → closed v unit b next ≡ Some (b, next)
  unfolding closed pick
  closed_alone l e h = let q : v + b * 1 ≡ b = omega arith in rw (e, q, lt-ltb b (2 ^ 64) (omega arith))

  -- "shortest form": the last group of several is not 0
  pub closed_zero : v < unit → unit ≢ 1 → b ≡ 0 → closed v unit b next ≡ None
  unfolding closed pick
  closed_zero l n e = let q : v + 0 * unit ≡ v = omega arith in rw (e, q, ne_eqb unit 1 n, lt-leb unit v l)

  -- any other group gives its number, where that fits 64 bits
  pub closed_is : b ≢ 0 → v + b * unit < 2 ^ 64 → closed v unit b next ≡ Some ((v + b * unit), next)
  unfolding closed pick
  closed_is n h =
      let l : unit ≤ v + b * unit = omega (arith, mul-le-mul_right {m = 1} {n = b} unit (omega arith)) in
      rw (le-leb unit (v + b * unit) l, lt-ltb (v + b * unit) (2 ^ 64) h, or-true)

  -- a tenth group of 1 is the highest bit
  pub closed_tenth : v < unit → b ≢ 0 → unit ≡ 2 ^ 63 → b ≤ 1 → closed v unit b next ≡ Some ((v + unit), next)
  closed_tenth l n e h =
      let q : b ≡ 1 = omega arith in
      let k : v + b * unit ≡ v + unit = rw q (omega arith) in
      closed_is n (omega arith) ∙ rw k

  -- "at most 64 bits": a tenth group is not more than 1
  pub closed_large : unit ≡ 2 ^ 63 → 1 < b → closed v unit b next ≡ None
  unfolding closed pick
  closed_large e h =
      let l : 2 ^ 64 ≤ v + b * unit = rw e (omega arith) in
      rw (le-ltb (v + b * unit) (2 ^ 64) l, and-false)

-- the number v stands at a place: its bytes end at next, inside the slice, and are its shortest form
pub record Stands (s : List ℕ) (at v next : ℕ) : Type 0 where
  pub early : at < next
  pub inside : next ≤ length s
  pub same : sevens (drop at s) ≡ groups v (next - at) (drop next s)
  pub form : regular v (next - at) ≡ true

-- a number that is read stands at its place
pub number_is : (s : List ℕ) (at v next : ℕ) → tape_number_at s at ≡ Some (v, next) → Stands s at v next
unfolding tape_number_at number_in
number_is s at v next = go (sevens (drop at s)) refl
  where
    go : (g : Groups) → sevens (drop at s) ≡ g → number_in s g ≡ Some (v, next) → Stands s at v next
    go cut q = λ e. let z : ◌≡◌ {A = ℕ} 0 1 = cc in absurd (omega arith)
    go (groups w n r) q =
        pick_ind (λ (x : Option (ℕ × ℕ)). x ≡ Some (v, next) → Stands s at v next) (regular w n) _ _
        (λ f e.
        let c = sevens_counted (drop at s) r w n q in
        let k : length r ≡ length s - (at + n) = ap length (sym c.rest) ∙ rw (drop-drop n at s, length-drop (at + n) s) in
        let d : length (drop at s) ≡ length s - at = length-drop at s in
        let parts = some_pair e in
        let a : length s - length r ≡ next = parts.1 in
        let b : next ≡ at + n = omega (arith, c.some, c.inside) in
        let m : next - at ≡ n = omega arith in
        let u : w ≡ v = parts.0 in
        let t : drop next s ≡ r = rw (b, ← (drop-drop n at s)) c.rest in
        record {
          early = omega (arith, c.some);
          inside = omega (arith, c.inside);
          same = rw (m, t, ← u) q;
          form = rw (m, ← u) f;
        })
        (λ _ e. let z : ◌≡◌ {A = ℕ} 0 1 = cc in absurd (omega arith))

-- the two tests of the form
form_tests : (v n : ℕ) → regular v n ≡ true → (eqb n 1 || leb (128 ^ (n - 1)) v ≡ true) × (ltb v (2 ^ 64) ≡ true)
unfolding regular
form_tests v n e = and_both (eqb n 1 || leb (128 ^ (n - 1)) v) (ltb v (2 ^ 64)) e

-- "shortest form": the last of several groups is not 0
pub regular_shortest : (v n : ℕ) → regular v n ≡ true → n ≢ 1 → 128 ^ (n - 1) ≤ v
regular_shortest v n e more = leb-true (128 ^ (n - 1)) v (rw (ne_eqb n 1 more) at (form_tests v n e).0)

-- a number in this form has at most ten groups
pub regular_few : (v n : ℕ) → regular v n ≡ true → n ≤ 10
regular_few v n e =
    let many : (10 < n → ⊥) =
    (λ h.
    let p : 128 ^ 10 ≤ 128 ^ (n - 1) = pow-le-pow_right {n = 128} (omega arith) {i = 10} {j = n - 1} (omega arith) in
    let f : regular v n ≡ false = too_many v n (λ q. omega arith) (omega arith) in
    let z : ◌≡◌ {A = ℕ} 0 1 = cc in
    omega arith) in
    omega (arith, many)
