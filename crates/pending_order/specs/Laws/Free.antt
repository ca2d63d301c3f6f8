-- The lowest row that is not used, and a row opened there.
-- Assumes nothing.
use Rattle.std.specs.Prelude.{ℕ, zero, suc, ◌+◌, ◌-◌, ◌/◌, ◌^◌, ◌≤◌, ◌<◌, ◌≡◌, refl, Bool, true, false, List, [], ◌∷◌, ◌++◌, ltb, length, get_or, set, None, Option, Some}
use Rattle.std.specs.Option.{SomeIff}
use Rattle.std.proofs.Common.{sym, ap, ◌∙◌, arith}
use Rattle.std.proofs.Math.Bool.{not}
use Rattle.std.specs.Int.Count.{count_trailing_zeros}
use borrow.Author.Tests.{not-true, not-false, ltb-true, ltb-false, lt-ltb, le-ltb}
use Rattle.laws.specs.Digits.{digit, member, added}
use Rattle.laws.specs.Laws.Digits.{member_yes, member_no, lowest, lowest_one, tally, tally_ext}
use Rattle.laws.specs.Laws.Pick.{pick_yes}
use Rattle.laws.specs.Laws.Loop.{first_le, first_found, first_before}
use Rattle.laws.specs.Pick.{pick}
use Rattle.pending_order.specs.Laws.Table.{rows_opened, rows_renumbered, above_renumbered}
use Rattle.pending_order.specs.Laws.Walk.{rows_most}
use Rattle.pending_order.specs.Order.{rows_of}
use Rattle.pending_order.specs.Laws.Rows.{ordered_length}
use Rattle.pending_order.specs.Places.Rows.{next_in, above_of, numbered, free_of, Fresh, Opens}

-- a digit of what is missing to 2 ^ n - 1 is the other digit
digit_not : (f n s : ℕ) → f < n → s < 2 ^ n → digit f (2 ^ n - 1 - s) + digit f s ≡ 1
unfolding digit
digit_not f zero s h l = absurd (omega arith)
digit_not zero (suc n) s h l = omega arith
digit_not (suc f) (suc n) s h l =
    let e : (2 ^ suc n - 1 - s) / 2 ≡ 2 ^ n - 1 - s / 2 = omega arith in
    rw e (digit_not f n (s / 2) (omega arith) (omega arith))

-- so its members are those that s has not
member_not : (f n s : ℕ) → f < n → s < 2 ^ n → member f (2 ^ n - 1 - s) ≡ not (member f s)
member_not f n s h l = go (member f s) refl
  where
    go : (b : Bool) → member f s ≡ b → member f (2 ^ n - 1 - s) ≡ not (member f s)
    go true e = rw e ((member_no f _).1 (omega (arith, digit_not f n s h l, (member_yes f s).0 e)))
    go false e = rw e ((member_yes f _).1 (omega (arith, digit_not f n s h l, (member_no f s).0 e)))

module _ (n used : ℕ) where
  -- the lowest free row is the lowest member of what is missing
  pub free_lowest : used < 2 ^ n → count_trailing_zeros n (2 ^ n - 1 - used) ≡ free_of n used
  unfolding free_of
  free_lowest h =
      let p : (ℕ → Bool) = (λ s. not (member s used)) in
      let u = 2 ^ n - 1 - used in
      lowest_one n u _ _ (lowest n u) (record {
        within = omega (arith, first_le p 0 n);
        below = λ f l. (member_no f u).0 (member_not f n used (omega (arith, first_le p 0 n)) h ∙ first_before p 0 n f (omega arith) l);
        here = λ l. (member_yes _ u).0 (member_not _ n used l h ∙ first_found p 0 n (omega arith));
      })

  -- a free row is not used
  pub free_here : free_of n used < n → member (free_of n used) used ≡ false
  unfolding free_of
  free_here h = not-true _ (first_found (λ s. not (member s used)) 0 n (omega arith))

  -- where no row is free all are used
  pub free_none : n ≤ free_of n used → (t : ℕ) → t < n → member t used ≡ true
  unfolding free_of
  free_none h t l = not-false _ (first_before (λ s. not (member s used)) 0 n t (omega arith) (omega arith))

-- a sum of ones
tally_ones : (n : ℕ) → tally n (λ _. 1) ≡ n
unfolding tally
tally_ones zero = refl
tally_ones (suc n) = omega (arith, tally_ones n)

-- where no row is free there are n rows
pub rows_full : (n : ℕ) (numbers : List ℕ) (used : ℕ) → n ≤ free_of n used → length (rows_of n numbers used) ≡ n
unfolding rows_of
rows_full n numbers used h =
    ordered_length (λ t. get_or numbers t 0) (λ t. member t used) n
    ∙ tally_ext n _ (λ _. 1) (λ t l. pick_yes _ 1 0 (free_none n used h t l)) ∙ tally_ones n

-- the number that is next, where it fits
pub fresh_next : (n : ℕ) (numbers : List ℕ) (used number : ℕ) → Some number ≡ next_in (above_of n numbers used)
    → Fresh n numbers numbers used number
unfolding next_in pick
fresh_next n numbers used number e = record { same = refl; above = go (ltb (above_of n numbers used) (2 ^ 64)) e }
  where
    go : (b : Bool) → Some number ≡ pick b (Some (above_of n numbers used)) None → above_of n numbers used ≤ number
    go true q = let z : number ≡ above_of n numbers used = cc in omega arith
    go false q = absurd (let z : ◌≡◌ {A = ℕ} 0 1 = cc in omega arith)

-- a number that is told exactly where it fits a word is the one that is next
pub next_some : (x : Option ℕ) (v m : ℕ) → SomeIff x (v < 2 ^ 64) v → v ≡ m → x ≡ next_in m
unfolding next_in pick
next_some None v m s e = rw (← e, le-ltb v (2 ^ 64) (omega arith))
next_some (Some n) v m s e = rw (← e, lt-ltb v (2 ^ 64) s.0, s.1)

-- rows that are numbered anew have n above them
pub fresh_renumbered : (n : ℕ) (numbers : List ℕ) (used : ℕ) → n ≤ length numbers
    → Fresh n numbers (numbered numbers 0 (rows_of n numbers used)) used n
fresh_renumbered n numbers used h = record {
  same = rows_renumbered n numbers used h;
  above = let a = above_renumbered n numbers used h in let b = rows_most n numbers used in omega arith;
}

-- a free row that is given a number above all others
pub opens_free : (n : ℕ) (numbers others : List ℕ) (used row number more : ℕ) → row ≡ free_of n used → row < n → n ≤ length others
    → Fresh n numbers others used number → more ≡ added row used → Opens n numbers (set others row number) used row more
opens_free n numbers others used row number more e h l f m = record {
  free = e;
  fits = λ _. (
    m,
    rw m (rows_opened n others used row number h (omega arith) (rw e (free_here n used (omega arith))) f.above
        ∙ ap (λ (k : List ℕ). k ++ (row ∷ [])) f.same),
  );
  full = λ k. absurd (omega arith);
}

-- two rows opened are the same row, in the same order
pub opens_one : (n : ℕ) (numbers others third : List ℕ) (used row more row' more' : ℕ) → Opens n numbers others used row more
    → Opens n numbers third used row' more' → (row ≡ row') × (more ≡ more') × (rows_of n others more ≡ rows_of n third more')
opens_one n numbers others third used row more row' more' p q = go (ltb row n) refl
  where
    e : row ≡ row'
    e = p.free ∙ sym q.free

    go : (b : Bool) → ltb row n ≡ b → (row ≡ row') × (more ≡ more') × (rows_of n others more ≡ rows_of n third more')
    go true y =
        let h = ltb-true row n y in
        let k = p.fits h in
        let l = q.fits (omega (arith, e)) in
        (e, k.0 ∙ rw e (sym l.0), k.1 ∙ rw e (sym l.1))
    go false y =
        let h = ltb-false row n y in
        let k = p.full h in
        let l = q.full (omega (arith, e)) in
        (e, k.0 ∙ sym l.0, rw (k.0, k.1, l.0, l.1))
