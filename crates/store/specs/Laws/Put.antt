-- Storing a Data and making one the most recent: what the steps on rows come to.
-- Assumes nothing.
use Rattle.std.specs.Prelude.{ℕ, suc, zero, ◌+◌, ◌-◌, ◌≤◌, ◌<◌, min, ◌≡◌, refl, List, [], ◌∷◌, ◌++◌, get_or, set, take, drop, ltb}
use Rattle.std.proofs.Math.Path.{sym}
use Rattle.std.proofs.Common.{ap, ◌∙◌, arith, length-append}
use Rattle.std.proofs.Math.Bool.{true, false}
use Rattle.std.proofs.Math.Option.{Option, none, some}
use Rattle.std.proofs.Math.ListN.{length}
use Rattle.std.proofs.Math.Dec.{leb}
use borrow.Author.Tests.{ltb-true, ltb-false, lt-ltb, le-ltb, le-leb, lt-leb}
use Rattle.std.proofs.Math.Seq.{take-append_seam}
use Rattle.std.proofs.lemmas.List.{set-get_or}
use Rattle.sizes.specs.Sizes.{most_packet, most_stored}
use Rattle.laws.specs.Pick.{pick}
use Rattle.laws.specs.Laws.Pick.{pick_ind, pick_yes, pick_no}
use Rattle.laws.specs.Lists.{index_of, without}
use Rattle.laws.specs.Laws.Tab.{index_of_le, without_out, length_without, without_less, without_first}
use Rattle.packethead.specs.Name.{name_of}
use Rattle.records.specs.Slots.{given, at_place}
use Rattle.records.specs.Stored.{Stored, others, room_for, stored}
use Rattle.store.specs.declared.Row.{Row}
use Rattle.store.specs.declared.Store.{Store}
use Rattle.store.specs.declared.Handle.{Handle}
use Rattle.store.specs.Places.View.{no_row, stored_of, stored_at, view, place, data_of, place_is, view_length, view_count, view_at}
use Rattle.store.specs.Places.View.{view_add, view_without, view_take, count_of, count_is, Moved}
use Rattle.store.specs.Places.Parts.{table}
use Rattle.store.specs.Operations.{recent, kept, fits_row, Puts}
use Rattle.store.specs.Places.Put.{is_named, leaver}

-- a Data is stored where the one that gives way to it was taken out and it was put at the end
pub stored_is : (d : Stored) (ds : List Stored) → length ds ≤ most_stored → without (leaver d.name ds) ds ++ (d ∷ [])
    ≡ stored most_stored d ds
unfolding stored room_for others leaver
stored_is d ds h =
    let i = index_of (is_named d.name) ds in
    pick_ind (λ (k : ℕ). without k ds ++ (d ∷ []) ≡ pick (ltb (length (without i ds)) most_stored) (without i ds)
    (drop 1 (without i ds)) ++ (d ∷ []))
    (ltb i most_stored) i 0
    (λ e.
    let l : ltb (length (without i ds)) most_stored ≡ true = lt-ltb _ _ (without_less i most_stored ds h (ltb-true i most_stored e)) in
    rw (l, pick_yes))
    (λ e.
    let g : most_stored ≤ i = ltb-false i most_stored e in
    let n : i ≤ length ds = index_of_le (is_named d.name) ds in
    let l : ltb (length ds) most_stored ≡ false = le-ltb (length ds) most_stored (omega arith) in
    rw (without_out i ds (omega arith), l, pick_no, without_first ds))

module _ (bytes : List ℕ) (time freshness : ℕ) (s : Store) where
  -- bytes that are longer than a packet change nothing
  pub put_long : (n : ℕ) → n ≡ min s.count most_stored → most_packet < length bytes
      → Puts false (view (table s.packets s.rows n)) (data_of bytes time freshness) (view s)
  unfolding kept fits_row data_of
  put_long n c h =
      let l : leb (length bytes) most_packet ≡ false = lt-leb (length bytes) most_packet h in
      record { said = sym l; left = view_count s.packets s.rows n s.count (omega arith) ∙ sym (pick_no _ _ _ l) }

  -- a packet and a row written after the Data that are left store a Data
  pub put_short : (packets : List (List ℕ)) (rows : List Row) (r : ℕ) (packet : List ℕ) (row : Row) → length bytes ≤ most_packet
      → r < most_stored → length packets ≡ most_stored → length rows ≡ most_stored
      → view (table packets rows r) ≡ without (leaver (name_of bytes) (view s)) (view s)
      → stored_of packet row ≡ data_of bytes time freshness
      → Puts true (view (table (set packets r packet) (set rows r row) (r + 1))) (data_of bytes time freshness) (view s)
  unfolding kept fits_row data_of
  put_short packets rows r packet row h g a b e w =
      let l : leb (length bytes) most_packet ≡ true = le-leb (length bytes) most_packet h in
      let m : length (view s) ≤ most_stored = omega (arith, view_length s) in
      record {
        said = sym l;
        left = view_add packets rows r packet row g a b ∙ rw (e, w, l, pick_yes) (stored_is (data_of bytes time freshness) (view s) m);
      }

-- the last Data is the most recent already, and past it there is none
pub recent_last : (i : ℕ) (ds : List Stored) → length ds ≤ i + 1 → recent i ds ≡ ds
unfolding recent given at_place without
recent_last i [] h = refl
recent_last zero (d ∷ []) h = refl
recent_last zero (d ∷ e ∷ ds) h = absurd (omega arith)
recent_last (suc i) (d ∷ ds) h = go (at_place i ds) ∙ ap (λ (l : List Stored). d ∷ l) (recent_last i ds (omega arith))
  where
    go : (o : Option Stored)
        → given (d ∷ ds) (λ e. without (suc i) (d ∷ ds) ++ (e ∷ [])) o ≡ d ∷ given ds (λ e. without i ds ++ (e ∷ [])) o
    go none = refl
    go (some e) = refl

module _ (i : ℕ) (d : Stored) (ds : List Stored) (h : i < length ds) (e : at_place i ds ≡ some d) where
  -- as many Data where one is made the most recent
  pub length_recent : length (recent i ds) ≡ length ds
  unfolding recent given
  length_recent = rw e (omega (arith, length-append (without i ds) (d ∷ []), length_without i ds h))

  -- what is left where the most recent then goes
  pub recent_less : take (length ds - 1) (recent i ds) ≡ without i ds
  unfolding recent given
  recent_less =
      let n : length ds - 1 ≡ length (without i ds) = omega (arith, length_without i ds h) in
      rw (e, n, take-append_seam)

module _ (s t : Store) (i : ℕ) (h : i < length (view s)) (e : view t ≡ recent i (view s)) (c : count_of t ≡ length (view t)) where
  -- a store in which one Data was made the most recent counts as many
  pub recent_count : t.count ≡ length (view s)
  recent_count =
      let at = view_at s i (omega (arith, view_length s)) in
      sym (count_is t) ∙ c ∙ ap (λ (ds : List Stored). length ds) e ∙ length_recent i (stored_at s i) (view s) h at

  -- where the most recent then counts no more, it is gone
  pub recent_gone : view (table t.packets t.rows (t.count - 1)) ≡ without i (view s)
  recent_gone =
      let at = view_at s i (omega (arith, view_length s)) in
      let n : length (view s) - 1 ≡ t.count - 1 = omega (arith, recent_count) in
      view_take t.packets t.rows t.count (t.count - 1) (omega arith) (omega (arith, recent_count, view_length s))
      ∙ rw (e, ← n) (recent_less i (stored_at s i) (view s) h at)

-- so a handle that stands for the last, or for none, leaves the store as it is
pub last_stays : (s : Store) (n : ℕ) (h : Handle) → n ≡ min s.count most_stored → n ≤ h.at + 1
    → view (table s.packets s.rows n) ≡ recent (place s h) (view s)
last_stays s n h c l =
    view_count s.packets s.rows n s.count (omega arith) ∙ rw place_is (sym (recent_last h.at (view s) (omega (arith, view_length s))))

-- the Data that was taken out, its packet and its row written after those that are left, is the most recent
pub touch_is : (s : Store) (packets : List (List ℕ)) (rows : List Row) (n i r : ℕ) → n ≡ min s.count most_stored → i < n
    → r < most_stored → length packets ≡ most_stored → length rows ≡ most_stored
    → view (table packets rows r) ≡ without i (view s)
    → view (table (set packets r (get_or s.packets i [])) (set rows r (get_or s.rows i no_row)) n) ≡ recent i (view s)
unfolding recent given stored_at
touch_is s packets rows n i r c h g a b e =
    let v = view s in
    let p = get_or s.packets i [] in
    let w = get_or s.rows i no_row in
    let m : length v ≡ min s.count most_stored = view_length s in
    let f : r + 1 ≡ min s.count most_stored =
    omega (arith, view_length (table packets rows r), ap (λ (x : List Stored). length x) e, length_without i v (omega arith)) in
    rw (view_at s i (omega arith))
    (view_count (set packets r p) (set rows r w) n (r + 1) (omega arith) ∙ view_add packets rows r p w g a b ∙ rw e)

-- of n, those from place i on turned by one place: each is the next, and the last is the first
pub record Turned {A : Type 0} (z : A) (i n : ℕ) (old new : List A) : Type 0 where
  pub moved : Moved z i n old new
  pub last : get_or new (n - 1) z ≡ get_or old i z

-- packets and rows that turned by one place from a Data to the last make that Data the most recent
pub turn_is : (s : Store) (packets : List (List ℕ)) (rows : List Row) (n i : ℕ) → n ≡ min s.count most_stored → i < n
    → length packets ≡ most_stored → length rows ≡ most_stored
    → Turned [] i n s.packets packets → Turned no_row i n s.rows rows
    → view (table packets rows n) ≡ recent i (view s)
turn_is s packets rows n i c h a b p r =
    let l : n - 1 < most_stored = omega arith in
    let v = touch_is s packets rows n i (n - 1) c h l a b (view_without s packets rows i n c h p.moved r.moved) in
    rw (← (p.last), ← (r.last), set-get_or packets (n - 1) [], set-get_or rows (n - 1) no_row) at v
