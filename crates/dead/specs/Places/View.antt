-- The ring as the rules have it: a list of lines, the oldest first. No other file can open `view` and `line_count`, so their laws stand
-- here.
-- Assumes nothing.
use Prim.Native.Nat.{ℕ, zero, suc, ◌+◌, ◌-◌, ◌%◌, ◌≤◌, ◌<◌, min}
use Rattle.std.specs.Prelude.{◌≡◌, refl, Bool, false, ◌||◌, ◌≢◌, get_or, set, drop}
use Rattle.std.specs.List.{list_any, range_with_len}
use Rattle.std.proofs.Common.{◌∙◌, drop_of_length-le, get_or-set_other, drop-cons}
use mathlib.Core.List.{List, [], ◌∷◌, ◌++◌}
use native.Mathlib.Omega.{arith}
use Rattle.std.proofs.Math.Nat.{zero-add}
use Rattle.std.proofs.Math.Numerals.{add-one}
use Rattle.std.proofs.Math.ListN.{length}
use Rattle.std.proofs.Math.Seq.{get_or-set_same}
use borrow.Author.Tests.{lt-ltb}
use Rattle.sizes.specs.Sizes.{most_dead}
use Rattle.laws.specs.Laws.Pick.{pick_yes, pick_no}
use Rattle.laws.specs.Places.Tab.{tab}
use Rattle.laws.specs.Laws.Tab.{length_tab, get_d_tab, tab_ext, tab_snoc, tab_push}
use Rattle.records.specs.Slots.{any_of}
use Rattle.records.specs.Line.{Line, joined, counts, is_dead}
use Rattle.dead.specs.declared.Row.{Row}
use Rattle.dead.specs.declared.Dead.{Dead}

-- a line
abbrev pub line : ℕ → ℕ → Line
line p t = record { print = p; time = t }

-- the line that a row means
abbrev pub line_of : Row → Line
line_of r = line r.print r.time

-- a row without a line
abbrev no_row : Row
no_row = record { print = 0; time = 0 }

-- a row
abbrev pub row : ℕ → ℕ → Row
row p t = record { print = p; time = t }

-- the line that stands k places after the oldest, which stands at a place
unfoldable pub line_at : List Row → ℕ → ℕ → Line
line_at t at k = line_of (get_or t ((at + k) % most_dead) no_row)

-- the lines, the oldest first; a count past the ring's size is the size
pub view : Dead → List Line
view r = tab (line_at r.lines (r.at % most_dead)) 0 (min r.count most_dead)

-- how many lines a ring counts
pub line_count : Dead → ℕ
line_count r = r.count

-- what a ring counts
pub count_is : (r : Dead) → line_count r ≡ r.count
unfolding line_count
count_is r = refl

-- a view has as many lines as the ring counts, at most most_dead
pub view_length : (r : Dead) → length (view r) ≡ min r.count most_dead
unfolding view
view_length r = length_tab (line_at r.lines (r.at % most_dead)) 0 (min r.count most_dead)

-- a ring that counts no more lines than it has room for has as many
pub count_all : (r : Dead) → r.count ≤ most_dead → line_count r ≡ length (view r)
unfolding line_count
count_all r h = omega (arith, view_length r)

-- a ring that counts no lines has none, whatever the memory holds
pub view_empty : (r : Dead) → r.count ≡ 0 → view r ≡ []
unfolding view tab
view_empty r e = let none : min r.count most_dead ≡ 0 = omega arith in rw none

-- a store elsewhere leaves a line
line_other : (t : List Row) (v : Row) (i at k : ℕ) → (at + k) % most_dead ≢ i → line_at (set t i v) at k ≡ line_at t at k
unfolding line_at
line_other t v i at k h = rw (get_or-set_other t i ((at + k) % most_dead) v no_row h)

module _ (t : List Row) (p time : ℕ) (rows : length t ≡ most_dead) where
  -- a store at its place makes a line
  line_same : (i at k : ℕ) → (at + k) % most_dead ≡ i → line_at (set t i (row p time)) at k ≡ line p time
  unfolding line_at
  line_same i at k e = rw (e, get_or-set_same t i (row p time) no_row (omega arith))

  -- n lines and one stored after them
  one_more : (at n : ℕ) → n < most_dead
      → tab (line_at (set t ((at + n) % most_dead) (row p time)) at) 0 (n + 1) ≡ tab (line_at t at) 0 n ++ (line p time ∷ [])
  one_more at n h =
      let g = line_at (set t ((at + n) % most_dead) (row p time)) at in
      tab_snoc g 0 n
      ∙ rw (
        line_same ((at + n) % most_dead) at (0 + n) (omega arith),
        tab_ext g (line_at t at) 0 n (λ k _ l. line_other t _ _ at k (λ e. omega arith)),
      )

  -- m + 1 lines, the whole ring, and one stored over the first
  one_over : (at m : ℕ) → at < most_dead → m + 1 ≡ most_dead
      → tab (line_at (set t at (row p time)) ((at + 1) % most_dead)) 0 (m + 1) ≡ drop 1 (tab (line_at t at) 0 (m + 1)) ++ (line p time ∷ [])
  unfolding line_at
  one_over at m a h =
      tab_push (line_at t at) (line_at (set t at (row p time)) ((at + 1) % most_dead)) (line p time) 0 m
      (λ k _ l.
      let e : ((at + 1) % most_dead + k) % most_dead ≡ (at + (k + 1)) % most_dead = omega arith in
      line_other t _ at ((at + 1) % most_dead) k (λ q. omega arith) ∙ rw e)
      (line_same at ((at + 1) % most_dead) (0 + m) (omega arith))

-- a line that joins a ring with room stands after the newest
pub view_join_room : (r : Dead) (p time : ℕ) → length r.lines ≡ most_dead → r.count < most_dead
    → view (record { lines = set r.lines ((r.at % most_dead + r.count) % most_dead) (row p time); at = r.at % most_dead; count = r.count + 1 })
    ≡ joined most_dead (view r) (line p time)
unfolding view joined
view_join_room r p time rows h =
    let a : r.at % most_dead % most_dead ≡ r.at % most_dead = omega arith in
    let m : min (r.count + 1) most_dead ≡ r.count + 1 = omega arith in
    let n : min r.count most_dead ≡ r.count = omega arith in
    rw (a, m, n, length_tab (line_at r.lines (r.at % most_dead)) 0 r.count, lt-ltb r.count most_dead h, pick_yes)
    (one_more r.lines p time rows (r.at % most_dead) r.count h)

-- a line that joins a full ring goes over the oldest, and the next is then the oldest
pub view_join_full : (r : Dead) (p time : ℕ) → length r.lines ≡ most_dead → most_dead ≤ r.count
    → view (record { lines = set r.lines (r.at % most_dead) (row p time); at = (r.at % most_dead + 1) % most_dead; count = most_dead })
    ≡ joined most_dead (view r) (line p time)
unfolding view joined
view_join_full r p time rows h =
    let a : (r.at % most_dead + 1) % most_dead % most_dead ≡ (r.at % most_dead + 1) % most_dead = omega arith in
    let n : min r.count most_dead ≡ most_dead = omega arith in
    rw (a, n, length_tab (line_at r.lines (r.at % most_dead)) 0 most_dead, pick_no)
    (one_over r.lines p time rows (r.at % most_dead) (most_dead - 1) (omega arith) refl)

module _ (now print : ℕ) (r : Dead) (k : ℕ) where
  -- from line k on a fingerprint is live where line k counts for it, or where it is live from the next line on
  pub view_dead : k < min r.count most_dead
      → is_dead now print (drop k (view r))
      ≡ counts now print (line_at r.lines (r.at % most_dead) k) || is_dead now print (drop (k + 1) (view r))
  unfolding view is_dead any_of
  view_dead h =
      let g = line_at r.lines (r.at % most_dead) in
      let n = min r.count most_dead in
      let l : k < length (tab g 0 n) = omega (arith, length_tab g 0 n) in
      rw (drop-cons (tab g 0 n) k (line 0 0) l, get_d_tab g 0 n k (line 0 0) h, zero-add k, add-one k)

  -- past the last line no fingerprint is live
  pub view_dead_end : min r.count most_dead ≤ k → is_dead now print (drop k (view r)) ≡ false
  unfolding is_dead any_of
  view_dead_end h =
      let l : length (view r) ≤ k = omega (arith, view_length r) in
      rw (drop_of_length-le (view r) l)

-- to ask the places from i on is to ask the lines that they make
any_range : (p : Line → Bool) (g : ℕ → Line) (i n : ℕ) → list_any (λ k. p (g k)) (range_with_len i n) ≡ any_of p (tab g i n)
unfolding tab any_of
any_range p g i zero = refl
any_range p g i (suc n) = rw (add-one i, any_range p g (suc i) n)

-- a fingerprint is live where some place's line counts for it
pub view_any : (now print : ℕ) (r : Dead)
    → list_any (λ k. counts now print (line_at r.lines (r.at % most_dead) k)) (range_with_len 0 (min r.count most_dead))
    ≡ is_dead now print (view r)
unfolding view is_dead
view_any now print r = any_range (counts now print) (line_at r.lines (r.at % most_dead)) 0 (min r.count most_dead)
