-- A lookup by places: what a row says of it, and the best of the Data from a place on.
-- Assumes nothing.
use Rattle.std.specs.declared.cmp.Ordering.{Ordering}
use Rattle.std.specs.declared.option.Option as code
use Rattle.std.specs.Option.{unwrap_or}
use Rattle.std.specs.Prelude.{ℕ, ◌+◌, ◌-◌, ◌≤◌, ◌<◌, min, ◌≡◌, Bool, ◌&&◌, ◌||◌, List}
use Rattle.std.proofs.Math.Path.{refl}
use Rattle.std.proofs.Common.{sym, drop_of_length-le, arith, is_lt}
use Rattle.std.proofs.Math.Bool.{true, false}
use Rattle.std.proofs.Math.Option.{none, some}
use Rattle.std.proofs.Math.ListN.{length}
use Rattle.std.proofs.Math.Seq.{take-length}
use Rattle.std.proofs.Math.Dec.{ltb}
use Rattle.std.proofs.Math.Numerals.{add-one}
use borrow.Author.Tests.{ltb-true, ltb-false, lt-ltb, le-ltb}
use Rattle.laws.specs.Pick.{pick}
use Rattle.laws.specs.Laws.Pick.{pick_yes, pick_no, pick_ap}
use Rattle.sizes.specs.Sizes.{most_stored}
use Rattle.names.specs.Name.{same_bytes, prefix_of}
use Rattle.names.specs.Order.{canonical_order}
use Rattle.names.specs.Laws.Same.{same_equal, same_refl}
use Rattle.records.specs.Slots.{given}
use Rattle.records.specs.Stored.{Stored, serves, is_before, earlier, lookup_from, lookup}
use Rattle.store.specs.declared.Row.{Row}
use Rattle.store.specs.declared.Store.{Store}
use Rattle.store.specs.Places.View.{stored_of, stored_at, view, data_of, view_length, view_from}
use Rattle.store.specs.Places.Look.{hit, hit_at, answers, in_time, best_from}

-- a lookup may take a Data whose name answers and which is in time
pub serves_is : (now : ℕ) (name packet : List ℕ) (row : Row) (p m : Bool)
    → serves now name p m (stored_of packet row) ≡ answers name p (stored_of packet row).name && in_time now m row
unfolding serves answers in_time stored_of data_of
serves_is now name packet row p m = refl

-- what a lookup may not take for its time it may not take
pub serves_late : (now : ℕ) (name packet : List ℕ) (row : Row) (p m : Bool) → in_time now m row ≡ false
    → serves now name p m (stored_of packet row) ≡ false
serves_late now name packet row p m e = rw (serves_is now name packet row p m, e) (and_no (answers name p (stored_of packet row).name))
  where
    and_no : (a : Bool) → a && false ≡ false
    and_no true = refl
    and_no false = refl

-- what is in time a lookup may take for its name
pub serves_named : (now : ℕ) (name packet : List ℕ) (row : Row) (p m : Bool) → in_time now m row ≡ true
    → serves now name p m (stored_of packet row) ≡ answers name p (stored_of packet row).name
serves_named now name packet row p m e = rw (serves_is now name packet row p m, e) (and_yes (answers name p (stored_of packet row).name))
  where
    and_yes : (a : Bool) → a && true ≡ a
    and_yes true = refl
    and_yes false = refl

-- where only the name itself will do, that is asked
pub answers_same : (name other : List ℕ) → answers name false other ≡ same_bytes name other
unfolding answers
answers_same name other = go (same_bytes name other)
  where
    go : (a : Bool) → a || false ≡ a
    go true = refl
    go false = refl

-- where a prefix will do, that is asked: an equal name extends the name too
pub answers_prefix : (name other : List ℕ) → answers name true other ≡ prefix_of name other
unfolding answers prefix_of
answers_prefix name other = go (same_bytes name other) refl
  where
    go : (a : Bool) → same_bytes name other ≡ a → a || prefix_of name other ≡ prefix_of name other
    go false e = refl
    go true e = sym (rw (← (same_equal name other e), take-length name) (same_refl name))

module _ (now : ℕ) (row : Row) where
  -- where freshness is not asked for, any Data is in time
  pub in_time_any : in_time now false row ≡ true
  unfolding in_time
  in_time_any = refl

  -- a Data that was stored later than now is in time
  pub in_time_early : now < row.time → in_time now true row ≡ true
  unfolding in_time
  in_time_early h = lt-ltb now (row.time + row.freshness) (omega arith)

  -- any other is in time while it is younger than its freshness
  pub in_time_young : row.time ≤ now → in_time now true row ≡ ltb (now - row.time) row.freshness
  unfolding in_time
  in_time_young h = go (ltb (now - row.time) row.freshness) refl
    where
      go : (b : Bool) → ltb (now - row.time) row.freshness ≡ b → ltb now (row.time + row.freshness) ≡ b
      go true e = lt-ltb now (row.time + row.freshness) (omega (arith, ltb-true (now - row.time) row.freshness e))
      go false e = le-ltb now (row.time + row.freshness) (omega (arith, ltb-false (now - row.time) row.freshness e))

-- an order is less where the first comes before
pub before_lt : (o : Ordering) → is_lt o ≡ is_before o
unfolding is_before
before_lt Ordering.Less = refl
before_lt Ordering.Equal = refl
before_lt Ordering.Greater = refl

module _ (s : Store) where
  -- a place means the Data there
  pub hit_in : (i : ℕ) → hit_at s (code.Option.Some i) ≡ some (hit s i)
  unfolding hit_at
  hit_in i = refl

  -- no place means none
  pub hit_out : hit_at s code.Option.None ≡ none
  unfolding hit_at
  hit_out = refl

  -- the place of what a place means is that place, and n where there is none
  pub place_of_lem : (n : ℕ) (o : code.Option ℕ) → given n (λ h. h.place) (hit_at s o) ≡ unwrap_or o n
  unfolding hit_at hit given
  place_of_lem n code.Option.None = refl
  place_of_lem n (code.Option.Some i) = refl

  -- with none after it a Data is the first
  pub earlier_alone : (i : ℕ) → some (hit s i) ≡ earlier (hit s i) (hit_at s code.Option.None)
  unfolding earlier hit_at
  earlier_alone i = refl

  -- of a Data and the best of those after it the best is taken only where its name comes before
  pub earlier_is : (i best : ℕ) (t : Bool) (o : Ordering) (x y : List ℕ) → t ≡ is_before o → o ≡ canonical_order x y
      → x ≡ (stored_at s best).name → y ≡ (stored_at s i).name
      → some (hit s (pick t best i)) ≡ earlier (hit s i) (hit_at s (code.Option.Some best))
  unfolding earlier hit hit_at
  earlier_is i best t o x y q e a b = rw (pick_ap (λ (k : ℕ). some (hit s k)), q, e, a, b)

module _ (p : Stored → Bool) (s : Store) where
  -- past the last Data it takes none
  pub best_end : (n : ℕ) → n ≡ min s.count most_stored → best_from p s n ≡ none
  unfolding best_from lookup_from
  best_end n e =
      let l : length (view s) ≤ n = omega (arith, view_length s) in
      rw (drop_of_length-le (view s) l)

  -- a Data that it may take is taken, or what it takes of those after it
  pub best_taken : (i j : ℕ) → i + 1 ≡ j → i < min s.count most_stored → p (stored_at s i) ≡ true
      → best_from p s i ≡ earlier (hit s i) (best_from p s j)
  unfolding best_from lookup_from hit
  best_taken i j q h e = rw (← q, view_from s i h, e, pick_yes, add-one i)

  -- a Data that it may not take is passed
  pub best_passed : (i j : ℕ) → i + 1 ≡ j → i < min s.count most_stored → p (stored_at s i) ≡ false
      → best_from p s i ≡ best_from p s j
  unfolding best_from lookup_from
  best_passed i j q h e = rw (← q, view_from s i h, e, pick_no, add-one i)

-- from the first Data on a lookup takes what it takes
pub best_all : (now : ℕ) (name : List ℕ) (q m : Bool) (s : Store)
    → best_from (serves now name q m) s 0 ≡ lookup now name q m (view s)
unfolding best_from lookup
best_all now name q m s = refl
