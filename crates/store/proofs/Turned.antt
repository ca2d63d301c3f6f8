-- Packets and rows turned by one place, from a Data to the last: that Data is then the most recent.
-- Assumes nothing.
use Rattle.std.specs.Prelude.{ℕ, ◌+◌, ◌-◌, ◌<◌, ◌≤◌, ◌≡◌, List, [], length, get_or, take, drop, min, ◌++◌}
use Rattle.std.proofs.Common.{◌∙◌, arith, length-take}
use Rattle.std.specs.List.{RotatedLeft}
use borrow.Rule.Slice.PartMut.{put_mid, mid_of, post_of, same_len_mid}
use Rattle.std.proofs.Math.ListN.{get_or-append}
use Rattle.std.proofs.lemmas.List.{get_or-append_right, get_or-take, get_or-drop, length-drop}
use Rattle.sizes.specs.Sizes.{most_stored}
use Rattle.store.specs.declared.Row.{Row}
use Rattle.store.specs.declared.Store.{Store}
use Rattle.store.specs.Places.Parts.{table}
use Rattle.store.specs.Places.View.{view, no_row}
use Rattle.store.specs.Operations.{recent}
use Rattle.store.specs.Laws.Put.{Turned, turn_is}

module _ {A : Type 0} (d : A) (i n : ℕ) (xs ys : List A) (w : i < n) (l : n ≤ length xs)
    (e : length ys ≡ length (mid_of i (n - i) xs)) (r : RotatedLeft (mid_of i (n - i) xs) ys (length (mid_of i (n - i) xs)) 1) where
  -- the list with its part turned
  abbrev all : List A
  all = put_mid i (n - i) xs ys

  -- the part has as many elements as it spans
  span : length (mid_of i (n - i) xs) ≡ n - i
  span = omega (arith, length-take (n - i) (drop i xs), length-drop i xs)

  -- the elements before it
  front : length (take i xs) ≡ i
  front = omega (arith, length-take i xs)

  -- an element of the part as it was
  mid_at : (k : ℕ) → k < n - i → get_or (mid_of i (n - i) xs) k d ≡ get_or xs (i + k) d
  mid_at k h = get_or-take (n - i) (drop i xs) k d h ∙ get_or-drop i xs k d

  -- an element of the part as it is
  at : (k : ℕ) → i ≤ k → k < n → get_or all k d ≡ get_or ys (k - i) d
  at k h g =
      get_or-append_right (take i xs) (ys ++ post_of i (n - i) xs) i k d front h
      ∙ get_or-append ys (post_of i (n - i) xs) d (k - i) (omega (arith, span))

  -- before the part all is as it was
  before : (k : ℕ) → k < i → get_or all k d ≡ get_or xs k d
  before k h =
      get_or-append (take i xs) (ys ++ post_of i (n - i) xs) d k (omega (arith, front)) ∙ get_or-take i xs k d h

  -- each element of the part but the last is the next
  moved : (k : ℕ) → i ≤ k → k + 1 < n → get_or all k d ≡ get_or xs (k + 1) d
  moved k h g =
      let q : i + (k - i + 1) ≡ k + 1 = omega arith in
      at k h (omega arith) ∙ r.0 (k - i) d (omega (arith, span)) ∙ mid_at (k - i + 1) (omega arith) ∙ rw q

  -- the last is the first
  last : get_or all (n - 1) d ≡ get_or xs i d
  last =
      let q : n - 1 - i + 1 - length (mid_of i (n - i) xs) ≡ 0 = omega (arith, span) in
      let z : i + 0 ≡ i = omega arith in
      at (n - 1) (omega arith) (omega arith)
      ∙ r.1 (n - 1 - i) d (omega (arith, span)) (omega (arith, span))
      ∙ rw q (mid_at 0 (omega arith) ∙ rw z)

  -- so those from the first of the part on turned by one place
  pub is_turned : Turned d i n xs all
  is_turned = record { moved = record { before = before; after = moved }; last = last }

-- the Data whose packet and row are then the last is the most recent
pub turned : (s : Store) (n i : ℕ) (ps : List (List ℕ)) (rs : List Row) → n ≡ min s.count most_stored → i < n
    → length s.packets ≡ most_stored → length s.rows ≡ most_stored
    → length ps ≡ length (mid_of i (n - i) s.packets)
    → RotatedLeft (mid_of i (n - i) s.packets) ps (length (mid_of i (n - i) s.packets)) 1
    → length rs ≡ length (mid_of i (n - i) s.rows) → RotatedLeft (mid_of i (n - i) s.rows) rs (length (mid_of i (n - i) s.rows)) 1
    → view (table (put_mid i (n - i) s.packets ps) (put_mid i (n - i) s.rows rs) n) ≡ recent i (view s)
turned s n i ps rs c h a b e p f r =
    let l : n ≤ length s.packets = omega arith in
    let m : n ≤ length s.rows = omega arith in
    turn_is s (put_mid i (n - i) s.packets ps) (put_mid i (n - i) s.rows rs) n i c h
    (same_len_mid i (n - i) s.packets ps e ∙ a) (same_len_mid i (n - i) s.rows rs f ∙ b)
    (is_turned [] i n s.packets ps h l e p) (is_turned no_row i n s.rows rs h m f r)
