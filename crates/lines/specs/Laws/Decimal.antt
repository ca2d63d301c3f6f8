-- Laws of decimals: one digit, one digit more, reading back, and the length.
-- Assumes nothing.
use Rattle.std.specs.Prelude.{ℕ, zero, suc, ◌+◌, ◌-◌, ◌*◌, ◌/◌, ◌%◌, ◌^◌, ◌≤◌, ◌<◌, ◌≡◌, refl, List, [], ◌∷◌, ◌++◌, length, get_or, ltb}
use Rattle.std.proofs.Common.{sym, ap, ◌∙◌, length-append, lt-ltb, le-ltb, ltb-true, ltb-false, pow-suc, arith}
use Rattle.laws.specs.Pick.{pick}
use Rattle.laws.specs.Laws.Pick.{pick_ind, pick_eq}
use Rattle.lines.specs.Decimal.{digits_of, decimal, undigits, undecimal}
use Rattle.lines.specs.Places.Put.{lowest}

-- places enough are as good as any other places enough
digits_enough : (k j n : ℕ) → n ≤ k → n ≤ j → digits_of k n ≡ digits_of j n
unfolding digits_of pick
digits_enough zero zero n h g = refl
digits_enough zero (suc j) n h g = rw (lt-ltb n 10 (omega arith))
digits_enough (suc k) zero n h g = rw (lt-ltb n 10 (omega arith))
digits_enough (suc k) (suc j) n h g =
    pick_eq (ltb n 10) _ _ _ _ (λ _. refl)
    (λ e. ap (λ (l : List ℕ). l ++ ((48 + n % 10) ∷ []))
    (digits_enough k j (n / 10) (omega (arith, ltb-false n 10 e)) (omega (arith, ltb-false n 10 e))))

-- a number below 10 is one digit
pub decimal_one : (n : ℕ) → n < 10 → decimal n ≡ (48 + n % 10) ∷ []
unfolding decimal digits_of pick
decimal_one n h = digits_enough n (suc n) n (omega arith) (omega arith) ∙ rw (lt-ltb n 10 h)

-- any other is the digits of its tenth, and its last digit
pub decimal_more : (n : ℕ) → 10 ≤ n → decimal n ≡ decimal (n / 10) ++ ((48 + n % 10) ∷ [])
unfolding decimal digits_of pick
decimal_more n h =
    digits_enough n (suc n) n (omega arith) (omega arith) ∙ rw (le-ltb n 10 h)
    (ap (λ (l : List ℕ). l ++ ((48 + n % 10) ∷ [])) (digits_enough n (n / 10) (n / 10) (omega arith) (omega arith)))

-- the last digit is read last
undigits_last : (l : List ℕ) (a d : ℕ) → undigits a (l ++ (d ∷ [])) ≡ undigits a l * 10 + (d - 48)
unfolding undigits
undigits_last [] a d = refl
undigits_last (x ∷ l) a d = undigits_last l (a * 10 + (x - 48)) d

-- digits enough are read back
digits_back : (k n : ℕ) → n ≤ k → undigits 0 (digits_of k n) ≡ n
unfolding digits_of undigits
digits_back zero n h = omega arith
digits_back (suc k) n h =
    pick_ind (λ (l : List ℕ). undigits 0 l ≡ n) (ltb n 10) _ _ (λ e. omega (arith, ltb-true n 10 e))
    (λ e. undigits_last (digits_of k (n / 10)) 0 (48 + n % 10)
    ∙ omega (arith, digits_back k (n / 10) (omega (arith, ltb-false n 10 e))))

-- a number is read back from its digits
pub decimal_back : (n : ℕ) → undecimal (decimal n) ≡ n
unfolding undecimal decimal
decimal_back n = digits_back n n (omega arith)

-- two numbers with the same digits are the same
pub decimal_injective : (m n : ℕ) → decimal m ≡ decimal n → m ≡ n
decimal_injective m n e = sym (decimal_back m) ∙ ap undecimal e ∙ decimal_back n

-- a number below a power of ten has at most as many digits
digits_most : (k w n : ℕ) → n < 10 ^ suc w → length (digits_of k n) ≤ suc w
unfolding digits_of
digits_most zero w n h = omega arith
digits_most (suc k) zero n h =
    pick_ind (λ (l : List ℕ). length l ≤ 1) (ltb n 10) _ _ (λ e. omega arith) (λ e. absurd (omega (arith, ltb-false n 10 e)))
digits_most (suc k) (suc w) n h =
    let g : n < 10 ^ suc w * 10 = rw pow-suc at h in
    pick_ind (λ (l : List ℕ). length l ≤ suc (suc w)) (ltb n 10) _ _ (λ e. omega arith)
    (λ e. omega (arith, length-append (digits_of k (n / 10)) ((48 + n % 10) ∷ []), digits_most k w (n / 10) (omega arith)))

-- digits are at least one
digits_least : (k n : ℕ) → 1 ≤ length (digits_of k n)
unfolding digits_of
digits_least zero n = omega arith
digits_least (suc k) n =
    pick_ind (λ (l : List ℕ). 1 ≤ length l) (ltb n 10) _ _ (λ e. omega arith)
    (λ e. omega (arith, length-append (digits_of k (n / 10)) ((48 + n % 10) ∷ [])))

-- a number has a digit
pub decimal_least : (n : ℕ) → 1 ≤ length (decimal n)
unfolding decimal
decimal_least n = digits_least n n

-- what follows digits does not change the first
first_append : (l : List ℕ) (d : ℕ) → 1 ≤ length l → get_or (l ++ (d ∷ [])) 0 0 ≡ get_or l 0 0
first_append [] d h = absurd (omega arith)
first_append (x ∷ l) d h = refl

-- digits enough of a number that is not 0 begin with no 0
digits_first : (k n : ℕ) → n ≤ k → 0 < n → 49 ≤ get_or (digits_of k n) 0 0
unfolding digits_of
digits_first zero n h g = absurd (omega arith)
digits_first (suc k) n h g =
    pick_ind (λ (l : List ℕ). 49 ≤ get_or l 0 0) (ltb n 10) _ _ (λ e. omega (arith, ltb-true n 10 e))
    (λ e. let b : 10 ≤ n = ltb-false n 10 e in
    let i : 49 ≤ get_or (digits_of k (n / 10)) 0 0 = digits_first k (n / 10) (omega arith) (omega arith) in
    rw (first_append (digits_of k (n / 10)) (48 + n % 10) (digits_least k (n / 10))) i)

-- the shortest form: a number that is not 0 begins with no 0
pub decimal_first : (n : ℕ) → 0 < n → 49 ≤ get_or (decimal n) 0 0
unfolding decimal
decimal_first n g = digits_first n n (omega arith) g

-- a number of 64 bits has at most 20 digits
pub decimal_most : (n : ℕ) → n < 2 ^ 64 → length (decimal n) ≤ 20
unfolding decimal
decimal_most n h = digits_most n 19 n (omega arith)

-- one digit more where there is a tenth
pub length_more : (n : ℕ) → 10 ≤ n → length (decimal n) ≡ suc (length (decimal (n / 10)))
length_more n h = ap length (decimal_more n h) ∙ length-append (decimal (n / 10)) _ ∙ omega arith

-- one digit below 10
pub length_one : (n : ℕ) → n < 10 → length (decimal n) ≡ 1
length_one n h = ap length (decimal_one n h)

-- the lowest digits, as many as there are, are all of them
digits_lowest : (k n : ℕ) → lowest (length (digits_of k n)) n ≡ digits_of k n
unfolding digits_of lowest
digits_lowest zero n = refl
digits_lowest (suc k) n =
    pick_ind (λ (l : List ℕ). lowest (length l) n ≡ l) (ltb n 10) _ _ (λ e. refl)
    (λ e. let z : length (digits_of k (n / 10) ++ ((48 + n % 10) ∷ [])) ≡ suc (length (digits_of k (n / 10))) =
    length-append (digits_of k (n / 10)) ((48 + n % 10) ∷ []) ∙ omega arith in
    ap (λ (j : ℕ). lowest j n) z ∙ ap (λ (l : List ℕ). l ++ ((48 + n % 10) ∷ [])) (digits_lowest k (n / 10)))

-- as many of the lowest digits as there are in all
pub lowest_all : (n : ℕ) → lowest (length (decimal n)) n ≡ decimal n
unfolding decimal
lowest_all n = digits_lowest n n

-- w digits of n were counted, and those of m are left but for one
pub record Counting (n w m : ℕ) : Type 0 where
  pub sum : w + length (decimal m) ≡ length (decimal n) + 1
  pub short : length (decimal n) ≤ 20

-- at the start one digit is counted
pub counting_first : (n : ℕ) → n < 2 ^ 64 → Counting n 1 n
counting_first n h = record { sum = omega arith; short = decimal_most n h }

-- a turn counts a digit
pub counting_more : (n w m : ℕ) → Counting n w m → 10 ≤ m → Counting n (w + 1) (m / 10)
counting_more n w m c h = record { sum = omega (arith, c.sum, length_more m h); short = c.short }

-- at most 20 are counted
pub counting_few : (n w m : ℕ) → Counting n w m → w ≤ 20
counting_few n w m c = omega (arith, c.sum, c.short, decimal_least m)

-- at the end all are counted
pub counting_all : (n w m : ℕ) → Counting n w m → m < 10 → (w ≡ length (decimal n)) × (w ≤ 20)
counting_all n w m c h = (omega (arith, c.sum, length_one m h), counting_few n w m c)
