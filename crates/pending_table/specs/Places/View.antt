-- The pending table as the rules have it: entries in the order of opening; a handle's place among them; a choice of them as marks.
-- No other file can open `view_for`, `place`, `handle_at` and `marks`, so their laws stand here.
-- Assumes nothing.
use Rattle.std.specs.declared.option.Option as code
use Rattle.std.specs.Prelude.{ℕ, zero, suc, ◌^◌, ◌≤◌, ◌<◌, ◌≡◌, Bool, ◌&&◌, set, Some, None, IfSome}
use Rattle.std.specs.Bool.{then_some}
use Rattle.std.proofs.Math.Path.{refl, sym, ap}
use Rattle.std.proofs.Common.{subst, ◌∙◌, mod-eq_of_lt, pow_mono}
use Rattle.std.proofs.Math.Bool.{true, false, and-false, true≢false}
use mathlib.Core.List.{List, [], ◌∷◌, ◌++◌, map}
use Rattle.std.proofs.Math.Option.{Option, none, some, some-injective}
use native.Mathlib.Omega.{arith}
use Rattle.std.proofs.Math.ListN.{length, get_or, length-map, length-append}
use Rattle.std.proofs.Math.Seq.{get_or-set_same, get_or-set_other, take-length}
use Rattle.std.proofs.lemmas.List.{set-get_or}
use Rattle.std.specs.Int.Count.{ones}
use Rattle.std.specs.Int.Bits.{bit_and}
use Rattle.std.proofs.Math.Dec.{ltb, leb, eqb}
use borrow.Author.Tests.{lt-ltb, le-ltb, le-leb, lt-leb, ltb-true, ltb-false, eqb-true}
use Rattle.laws.specs.Pick.{pick}
use Rattle.laws.specs.Laws.Pick.{pick_yes, pick_no}
use Rattle.laws.specs.Lists.{on_at, index_of}
use Rattle.laws.specs.Laws.Tab.{on_at_out, index_of_at}
use Rattle.laws.specs.Digits.{member, removed}
use Rattle.laws.specs.Laws.Digits.{member_no, digit_zero, digit_high, member_and, member_remove_same, member_remove_other}
use Rattle.sizes.specs.Sizes.{most_faces, most_entries, most_name}
use Rattle.records.specs.Slots.{at_place, given}
use Rattle.records.specs.Laws.Place.{place_past}
use Rattle.records.specs.Class.{class_of, class_number}
use Rattle.records.specs.Laws.Class.{class_number_lem}
use Rattle.records.specs.Entry.{Entry}
use Rattle.faces.specs.Laws.Slot.{slots_length}
use Rattle.pending_entry.specs.Places.View as entry
use Rattle.pending_order.specs.Order.{rows_of, view_of, place_in}
use Rattle.pending_order.specs.Places.Rows as order
use Rattle.pending_order.specs.Places.Rows.{first_of, least_of, free_of}
use Rattle.pending_order.specs.Laws.Place as places
use Rattle.pending_order.specs.Laws.Table as table
use Rattle.pending_order.specs.Laws.Walk.{rows_most}
use Rattle.pending_order.specs.Laws.Free.{free_here, rows_full}
use Rattle.pending_order.specs.Laws.Moved.{rows_moved, place_last, place_before, take_first}
use Rattle.pending_table.specs.declared.Pending.{Pending}
use Rattle.pending_table.specs.declared.Handle.{Handle}
use Rattle.pending_table.specs.declared.Chosen.{Chosen}
use Rattle.pending_table.specs.Operations.{Finds, Opens, TakesOut, fits_table}

-- which rows are used, a bit each
pub record State : Type 0 where
  pub used : ℕ

-- the entry of a row, for n faces
unfoldable pub row_at : ℕ → List (List ℕ) → List (List ℕ) → List (List (List ℕ)) → ℕ → Entry
row_at n names heads recs i = entry.view_for n (get_or names i []) (get_or heads i []) (get_or recs i [])

-- the entries, for n faces
pub view_for : ℕ → List (List ℕ) → List (List ℕ) → List (List (List ℕ)) → List ℕ → State → List Entry
view_for n names heads recs numbers s = view_of most_entries (row_at n names heads recs) numbers s.used

-- the place of a handle's entry, the number of entries where it has none
pub place : List ℕ → State → Handle → ℕ
place numbers s h = place_in h.row (rows_of most_entries numbers s.used)

-- the row of a handle's entry, if it has one
unfoldable pub row_held : State → Handle → code.Option ℕ
row_held s h = pick (member h.row s.used && ltb h.row most_entries) (Some h.row) None

-- the handle of the entry at a place, that of no entry past the last
pub handle_at : List ℕ → State → ℕ → Handle
handle_at numbers s i = record { row = get_or (rows_of most_entries numbers s.used) i most_entries }

-- for each entry whether it is chosen
pub marks : List ℕ → State → Chosen → List Bool
marks numbers s c = view_of most_entries (λ t. member t c.rows) numbers s.used

-- what tells which rows are used
abbrev pub state : Pending → State
state p = record { used = p.used }

-- the entries of a table, for the product's faces
abbrev pub view : Pending → List Entry
view p = view_for most_faces p.names p.heads p.recs p.numbers (state p)

-- a handle's place
abbrev pub place_of : Pending → Handle → ℕ
place_of p h = place p.numbers (state p) h

-- a handle's entry, if it has one
abbrev pub entry_at : Pending → Handle → Option Entry
entry_at p h = at_place (place_of p h) (view p)

-- the handle of a place
abbrev pub handle_of : Pending → ℕ → Handle
handle_of p i = handle_at p.numbers (state p) i

-- the marks of a choice
abbrev pub marks_of : Pending → Chosen → List Bool
marks_of p c = marks p.numbers (state p) c

-- handles and choices stand for the same entries in two tables
pub record Stands (p q : Pending) : Type 0 where
  pub places : (h : Handle) → place_of q h ≡ place_of p h
  pub handles : (i : ℕ) → handle_of q i ≡ handle_of p i
  pub choices : (c : Chosen) → marks_of q c ≡ marks_of p c
  pub rows : (h : Handle) → row_held (state q) h ≡ row_held (state p) h

-- the element at a place of a list
at_get_d : {A : Type 0} (i : ℕ) (l : List A) (d : A) → i < length l → at_place i l ≡ some (get_or l i d)
unfolding at_place
at_get_d i [] d h = absurd (omega arith)
at_get_d zero (a ∷ l) d h = refl
at_get_d (suc i) (a ∷ l) d h = at_get_d i l d (omega arith)

-- an element of a list that is made of others is made of one of them
at_map : {A B : Type 0} (P : B → Type 0) (g : A → B) → ((a : A) → P (g a)) → (l : List A) (i : ℕ) (b : B) → at_place i (map g l) ≡ some b
    → P b
unfolding at_place
at_map P g p [] i b e = let z : ◌≡◌ {A = ℕ} 0 1 = cc in absurd (omega arith)
at_map P g p (a ∷ l) zero b e = subst P (some-injective (g a) b e) (p a)
at_map P g p (a ∷ l) (suc i) b e = at_map P g p l i b e

-- a table without used rows has no entries
pub view_none : (n : ℕ) (names heads : List (List ℕ)) (recs : List (List (List ℕ))) (numbers : List ℕ) (used : ℕ)
    → ((t : ℕ) → t < most_entries → member t used ≡ false) → view_for n names heads recs numbers (record { used = used }) ≡ []
unfolding view_for view_of
view_none n names heads recs numbers used h = rw (table.rows_none most_entries numbers used h)

-- the number 0 has no rows
pub view_empty : (n : ℕ) (names heads : List (List ℕ)) (recs : List (List (List ℕ))) (numbers : List ℕ)
    → view_for n names heads recs numbers (record { used = 0 }) ≡ []
view_empty n names heads recs numbers = view_none n names heads recs numbers 0 (λ t _. (member_no t 0).1 (digit_zero t))

module _ (n : ℕ) (names heads : List (List ℕ)) (recs : List (List (List ℕ))) (numbers : List ℕ) (s : State) where
  -- there are as many entries as rows used
  pub view_length : s.used < 2 ^ most_entries → length (view_for n names heads recs numbers s) ≡ ones s.used
  unfolding view_for
  view_length h =
      table.view_length most_entries (row_at n names heads recs) numbers s.used ∙ ap ones (mod-eq_of_lt h)

  -- at most as many as the table has rows
  pub view_most : length (view_for n names heads recs numbers s) ≤ most_entries
  unfolding view_for view_of
  view_most =
      omega (arith, length-map (rows_of most_entries numbers s.used) (row_at n names heads recs), rows_most most_entries numbers s.used)

  -- a used row is a handle of an entry
  pub place_there : (h : Handle) → h.row < most_entries → member h.row s.used ≡ true
      → place numbers s h < length (view_for n names heads recs numbers s)
  unfolding view_for place
  place_there h l m = (table.view_at most_entries (row_at n names heads recs) numbers s.used h.row (row_at n names heads recs 0) l m).0

  -- any other number is not
  pub place_not : (h : Handle) → ((h.row < most_entries) × (member h.row s.used ≡ true) → ⊥)
      → place numbers s h ≡ length (view_for n names heads recs numbers s)
  unfolding view_for place
  place_not h k = table.view_out most_entries (row_at n names heads recs) numbers s.used h.row k

  -- the handle of no entry
  pub place_none : place numbers s (record { row = most_entries }) ≡ length (view_for n names heads recs numbers s)
  place_none = place_not (record { row = most_entries }) (λ k. omega (arith, k.0))

  -- a handle that has an entry is the handle of its place
  pub place_own : (h : Handle) → place numbers s h < length (view_for n names heads recs numbers s)
      → h ≡ handle_at numbers s (place numbers s h)
  unfolding view_for place handle_at place_in
  place_own h l =
      let rows = rows_of most_entries numbers s.used in
      let q : (ℕ → Bool) = (λ t. eqb t h.row) in
      let e = table.view_rows most_entries (row_at n names heads recs) numbers s.used in
      let z : get_or rows (index_of q rows) most_entries ≡ h.row = eqb-true _ h.row (index_of_at q rows most_entries (omega arith)) in
      rw z

  -- so no other handle has its place
  pub place_one : (g h : Handle) → place numbers s g ≡ place numbers s h
      → place numbers s g < length (view_for n names heads recs numbers s) → g ≡ h
  place_one g h e l = place_own g l ∙ ap (handle_at numbers s) e ∙ sym (place_own h (omega arith))

  -- a used row is one of the table's
  pub row_within : (h : Handle) → s.used < 2 ^ most_entries → member h.row s.used ≡ true → h.row < most_entries
  row_within h k y = go (ltb h.row most_entries) refl
    where
      go : (b : Bool) → ltb h.row most_entries ≡ b → h.row < most_entries
      go true e = ltb-true h.row most_entries e
      go false e =
          let l = ltb-false h.row most_entries e in
          absurd (true≢false (sym y ∙ (member_no h.row s.used).1
          (digit_high h.row s.used (omega (arith, pow_mono {i = most_entries} {j = h.row} l)))))

  -- a handle's row, where it is used, is that of its entry
  pub row_used : (h : Handle) → s.used < 2 ^ most_entries → then_some (member h.row s.used) h.row ≡ row_held s h
  unfolding row_held pick
  row_used h k = go (member h.row s.used) refl
    where
      go : (b : Bool) → member h.row s.used ≡ b → then_some (member h.row s.used) h.row ≡ row_held s h
      go true y = rw (y, lt-ltb h.row most_entries (row_within h k y))
      go false y = rw y

  -- which is one of the table's
  pub row_fits : (h : Handle) → IfSome (row_held s h) (λ i. i < most_entries)
  unfolding row_held pick
  row_fits h = go (member h.row s.used) (ltb h.row most_entries) refl
    where
      go : (a b : Bool) → ltb h.row most_entries ≡ b → IfSome (pick (a && b) (Some h.row) None) (λ i. i < most_entries)
      go true true e = ltb-true h.row most_entries e
      go true false e = tt
      go false b e = tt

  -- whether a handle has an entry is whether its row is used
  pub place_used : (h : Handle) → s.used < 2 ^ most_entries
      → member h.row s.used ≡ ltb (place numbers s h) (length (view_for n names heads recs numbers s))
  place_used h k = go (member h.row s.used) refl
    where
      go : (b : Bool) → member h.row s.used ≡ b
          → member h.row s.used ≡ ltb (place numbers s h) (length (view_for n names heads recs numbers s))
      go true y = y ∙ sym (lt-ltb _ _ (place_there h (row_within h k y) y))
      go false y =
          let e = place_not h (λ q. true≢false (sym q.1 ∙ y)) in
          y ∙ sym (le-ltb (place numbers s h) (length (view_for n names heads recs numbers s)) (omega arith))

  -- the entry at the place of a used row is that row's
  pub place_row : (h : Handle) → h.row < most_entries → member h.row s.used ≡ true
      → at_place (place numbers s h) (view_for n names heads recs numbers s) ≡ some (row_at n names heads recs h.row)
  unfolding view_for place
  place_row h l m =
      let e = table.view_at most_entries (row_at n names heads recs) numbers s.used h.row (row_at n names heads recs h.row) l m in
      at_get_d _ _ (row_at n names heads recs h.row) e.0 ∙ ap some e.1

  -- each entry is that of a row: what holds of each row's entry holds of it
  pub view_each : (P : Entry → Type 0) → ((t : ℕ) → P (row_at n names heads recs t)) → (i : ℕ) (e : Entry)
      → at_place i (view_for n names heads recs numbers s) ≡ some e → P e
  unfolding view_for view_of
  view_each P p i e q = at_map P (row_at n names heads recs) p (rows_of most_entries numbers s.used) i e q

  -- an entry has a slot for each face
  pub view_wide : (i : ℕ) (e : Entry) → at_place i (view_for n names heads recs numbers s) ≡ some e
      → (length e.requests ≡ n) × (length e.sent ≡ n)
  unfolding row_at
  view_wide i e q =
      view_each (λ (x : Entry). (length x.requests ≡ n) × (length x.sent ≡ n))
      (λ t. (
        rw (entry.view_requests n (get_or names t []) (get_or heads t []) (get_or recs t [])) (slots_length n _ _),
        rw (entry.view_sent n (get_or names t []) (get_or heads t []) (get_or recs t [])) (slots_length n _ _),
      )) i e q

  -- an entry's class is what its number says
  pub view_said : (i : ℕ) (e : Entry) → at_place i (view_for n names heads recs numbers s) ≡ some e → class_of (class_number e.cls) ≡ e.cls
  unfolding row_at
  view_said i e q =
      view_each (λ (x : Entry). class_of (class_number x.cls) ≡ x.cls)
      (λ t. rw (entry.view_class n (get_or names t []) (get_or heads t []) (get_or recs t [])) (ap class_of (class_number_lem _))) i e q

  -- a handle of no entry has none
  pub place_past_last : (h : Handle) → ((h.row < most_entries) × (member h.row s.used ≡ true) → ⊥)
      → at_place (place numbers s h) (view_for n names heads recs numbers s) ≡ none
  place_past_last h k = place_past (view_for n names heads recs numbers s) (place numbers s h) (omega (arith, place_not h k))

  -- the row of a handle that has an entry
  module _ (h : Handle) (i : ℕ) (e : row_held s h ≡ Some i) where
    -- it is the handle's, one of the rows, and used
    row_there : (i ≡ h.row) × (i < most_entries) × (member h.row s.used ≡ true)
    unfolding row_held pick
    row_there = go (member h.row s.used) (ltb h.row most_entries) refl refl
      where
        go : (a b : Bool) → member h.row s.used ≡ a → ltb h.row most_entries ≡ b
            → (i ≡ h.row) × (i < most_entries) × (member h.row s.used ≡ true)
        go true true y z =
            let k : ◌≡◌ {A = code.Option ℕ} (Some h.row) (Some i) = rw (y, z) at e in
            let same : h.row ≡ i = cc in
            (sym same, rw (← same) (ltb-true h.row most_entries z), y)
        go true false y z = let k : ◌≡◌ {A = code.Option ℕ} None (Some i) = rw (y, z) at e in absurd cc
        go false b y z = let k : ◌≡◌ {A = code.Option ℕ} None (Some i) = rw y at e in absurd cc

    -- the handle's entry is that of its row
    pub entry_there : at_place (place numbers s h) (view_for n names heads recs numbers s) ≡ some (row_at n names heads recs i)
    entry_there = let k = row_there in rw k.0 (place_row h (omega (arith, k.0, k.1)) k.2)

    -- what the row says is said of the handle's entry
    pub said_of : {B : Type 0} (d : B) (g : Entry → B) {r : B} → r ≡ g (row_at n names heads recs i)
        → r ≡ given d g (at_place (place numbers s h) (view_for n names heads recs numbers s))
    unfolding given
    said_of d g q = rw entry_there q

    -- a row's head and records stored: its entry is changed
    pub view_on : (hd : List ℕ) (r : List (List ℕ)) (g : Entry → Entry) → length heads ≡ most_entries → length recs ≡ most_entries
        → ((nm : List ℕ) → entry.view_for n nm hd r ≡ g (entry.view_for n nm (get_or heads i []) (get_or recs i [])))
        → view_for n names (set heads i hd) (set recs i r) numbers s
        ≡ on_at (place numbers s h) g (view_for n names heads recs numbers s)
    unfolding view_for place row_at
    view_on hd r g a b q =
        let l = row_there.1 in
        rw (← row_there.0)
        (table.view_on most_entries (row_at n names heads recs) (row_at n names (set heads i hd) (set recs i r)) numbers s.used i g
        (rw (get_or-set_same heads i hd [] (omega arith), get_or-set_same recs i r [] (omega arith)) (q (get_or names i [])))
        (λ k m. rw (get_or-set_other heads i k hd [] m, get_or-set_other recs i k r [] m)))

    -- only a row's head stored
    pub view_on_head : (hd : List ℕ) (g : Entry → Entry) → length heads ≡ most_entries → length recs ≡ most_entries
        → ((nm : List ℕ) → entry.view_for n nm hd (get_or recs i []) ≡ g (entry.view_for n nm (get_or heads i []) (get_or recs i [])))
        → view_for n names (set heads i hd) recs numbers s ≡ on_at (place numbers s h) g (view_for n names heads recs numbers s)
    view_on_head hd g a b q = rw (set-get_or recs i []) at (view_on hd (get_or recs i []) g a b q)

    -- only a row's records stored
    pub view_on_records : (r : List (List ℕ)) (g : Entry → Entry) → length heads ≡ most_entries → length recs ≡ most_entries
        → ((nm : List ℕ) → entry.view_for n nm (get_or heads i []) r ≡ g (entry.view_for n nm (get_or heads i []) (get_or recs i [])))
        → view_for n names heads (set recs i r) numbers s ≡ on_at (place numbers s h) g (view_for n names heads recs numbers s)
    view_on_records r g a b q = rw (set-get_or heads i []) at (view_on (get_or heads i []) r g a b q)

  -- a handle without a row
  module _ (h : Handle) (e : row_held s h ≡ None) where
    -- its row is not one that is used
    row_not : (h.row < most_entries) × (member h.row s.used ≡ true) → ⊥
    unfolding row_held pick
    row_not q = let k : ◌≡◌ {A = code.Option ℕ} (Some h.row) None = rw (q.1, lt-ltb h.row most_entries q.0) at e in cc

    -- it has no entry
    pub entry_none : at_place (place numbers s h) (view_for n names heads recs numbers s) ≡ none
    entry_none = place_past_last h row_not

    -- d is said
    pub said_none : {B : Type 0} (d : B) (g : Entry → B)
        → d ≡ given d g (at_place (place numbers s h) (view_for n names heads recs numbers s))
    unfolding given
    said_none d g = rw entry_none

    -- a change of no entry changes nothing
    pub changed_none : (g : Entry → Entry) → view_for n names heads recs numbers s
        ≡ on_at (place numbers s h) g (view_for n names heads recs numbers s)
    changed_none g = sym (on_at_out _ g _ (omega (arith, place_not h row_not)))

  -- a name stored as it was changes nothing
  pub view_kept : (i : ℕ) (nm : List ℕ) → nm ≡ get_or names i []
      → view_for n (set names i nm) heads recs numbers s ≡ view_for n names heads recs numbers s
  view_kept i nm q = rw (q, set-get_or names i [])

  -- the first row that a test holds of is the handle of the first entry that it holds of
  pub view_finds : (p : Entry → Bool) (row : ℕ) → row ≡ first_of most_entries numbers s.used (λ i. p (row_at n names heads recs i))
      → Finds (place numbers s) (handle_at numbers s) (index_of p (view_for n names heads recs numbers s)) (record { row = row })
  unfolding view_for place handle_at view_of first_of
  view_finds p row e =
      let rows = rows_of most_entries numbers s.used in
      let same : index_of p (map (row_at n names heads recs) rows) ≡ index_of (λ i. p (row_at n names heads recs i)) rows =
      places.index_of_map (row_at n names heads recs) p rows in
      record {
        at = rw (e, same) (table.rows_placed most_entries numbers s.used (λ i. p (row_at n names heads recs i)));
        own = rw (e, same);
      }

  -- a row no longer used: its entry is gone, the others move as the list does
  pub view_taken : (h : Handle) (u : ℕ) → u ≡ removed h.row s.used
      → TakesOut h (view_for n names heads recs numbers s) (view_for n names heads recs numbers (record { used = u }))
      (place numbers s) (place numbers (record { used = u })) (marks numbers s) (marks numbers (record { used = u }))
  unfolding view_for place marks
  view_taken h u e =
      rw e
      (record {
        left = table.view_removed most_entries (row_at n names heads recs) (row_at n names heads recs) numbers s.used h.row;
        others = λ g. rw (table.view_rows most_entries (row_at n names heads recs) numbers (removed h.row s.used))
            (rows_moved most_entries numbers s.used h.row g.row);
        chosen = λ c.
            let m : (ℕ → Bool) = (λ t. member t c.rows) in
            table.view_removed most_entries m m numbers s.used h.row;
      })

  -- as many marks as entries
  pub marks_length : (c : Chosen) → length (marks numbers s c) ≡ length (view_for n names heads recs numbers s)
  unfolding view_for marks
  marks_length c =
      table.view_rows most_entries (λ t. member t c.rows) numbers s.used
      ∙ sym (table.view_rows most_entries (row_at n names heads recs) numbers s.used)

  -- rows chosen by a test of their entries
  pub marks_where : (c : Chosen) (q : Entry → Bool)
      → ((t : ℕ) → t < most_entries → member t c.rows ≡ (member t s.used && q (row_at n names heads recs t)))
      → marks numbers s c ≡ map q (view_for n names heads recs numbers s)
  unfolding view_for marks
  marks_where c q e =
      table.view_map most_entries (row_at n names heads recs) numbers s.used (λ t. member t c.rows) q (λ t l m. e t l ∙ rw m)

module _ (n : ℕ) (names heads : List (List ℕ)) (recs : List (List (List ℕ))) (numbers : List ℕ) (s : State) (e : Entry) where
  -- a name and a head stored in a free row, which is opened as the last: an entry more
  opens_at : (row more : ℕ) (nm h others : List ℕ) → order.Opens most_entries numbers others s.used row more → row < most_entries
      → length e.name ≤ most_name → length names ≡ most_entries → length heads ≡ most_entries
      → entry.view_for n nm h (get_or recs row []) ≡ e
      → Opens (record { row = row }) e
      (view_for n names heads recs numbers s)
      (view_for n (set names row nm) (set heads row h) recs others (record { used = more }))
      (place numbers s) (place others (record { used = more })) (marks numbers s) (marks others (record { used = more }))
  unfolding view_for place marks row_at fits_table
  opens_at row more nm h others o l a b c d =
      let g = row_at n names heads recs in
      let g' = row_at n (set names row nm) (set heads row h) recs in
      let rows = rows_of most_entries numbers s.used in
      let last : rows_of most_entries others more ≡ rows ++ (row ∷ []) = (o.fits l).1 in
      let unused : member row s.used ≡ false = rw o.free (free_here most_entries s.used (omega (arith, o.free))) in
      let count = table.view_rows most_entries g numbers s.used in
      let here : g' row ≡ e = rw (get_or-set_same names row nm [] (omega arith), get_or-set_same heads row h [] (omega arith)) d in
      let fits : leb (length e.name) most_name && ltb (length (view_of most_entries g numbers s.used)) most_entries ≡ true =
      rw (
        le-leb (length e.name) most_name a,
        lt-ltb (length (view_of most_entries g numbers s.used)) most_entries
            (omega (arith, ap length last, rows_most most_entries others more, length-append rows (row ∷ []))),
      ) in
      record {
        said = rw fits (lt-ltb (place_in row (rows_of most_entries others more)) (length (view_of most_entries g' others more))
            (omega (
              arith,
              ap length last,
              table.view_rows most_entries g' others more,
              length-append rows (row ∷ []),
              count,
              ap (place_in row) last,
              place_last row rows (table.view_out most_entries g numbers s.used row (λ q. true≢false (sym q.1 ∙ unused)) ∙ count),
            )));
        left = rw (fits, pick_yes)
            (table.view_opened most_entries g g' numbers s.used row others more unused last
            (λ t m. rw (get_or-set_other names row t nm [] m, get_or-set_other heads row t h [] m)) ∙ rw here);
        last = rw (last, count)
            (place_last row rows (table.view_out most_entries g numbers s.used row (λ q. true≢false (sym q.1 ∙ unused)) ∙ count));
        others = λ k z. rw last (place_before k.row rows (row ∷ []) (omega arith));
        chosen = λ k.
            let m : (ℕ → Bool) = (λ t. member t k.rows) in
            let same = table.view_rows most_entries m numbers s.used in
            let z : length (view_of most_entries g numbers s.used) ≡ length (view_of most_entries m numbers s.used) = omega arith in
            rw (table.view_opened most_entries m m numbers s.used row others more unused last (λ _ _. refl), z)
            (take_first (view_of most_entries m numbers s.used) (m row ∷ []));
      }

  -- the same, where the free row was asked for before
  pub opens_more : (row row' more : ℕ) (nm h others : List ℕ) → row ≡ free_of most_entries s.used
      → order.Opens most_entries numbers others s.used row' more → row < most_entries
      → length e.name ≤ most_name → length names ≡ most_entries → length heads ≡ most_entries
      → entry.view_for n nm h (get_or recs row []) ≡ e
      → Opens (record { row = row }) e
      (view_for n names heads recs numbers s)
      (view_for n (set names row nm) (set heads row h) recs others (record { used = more }))
      (place numbers s) (place others (record { used = more })) (marks numbers s) (marks others (record { used = more }))
  opens_more row row' more nm h others f o = opens_at row more nm h others (rw (o.free ∙ sym f) at o)

  -- what does not fit changes nothing
  opens_none : (after : List Entry) → fits_table e (view_for n names heads recs numbers s) ≡ false
      → after ≡ view_for n names heads recs numbers s
      → Opens (record { row = most_entries }) e (view_for n names heads recs numbers s) after
      (place numbers s) (place numbers s) (marks numbers s) (marks numbers s)
  opens_none after f q = record {
    said = rw (f, q) (le-ltb _ _ (omega (arith, place_none n names heads recs numbers s)));
    left = q ∙ rw (f, pick_no);
    last = place_none n names heads recs numbers s;
    others = λ _ _. refl;
    chosen = λ c. rw (← (marks_length n names heads recs numbers s c)) (take-length (marks numbers s c));
  }

  -- a name that is longer than a row
  pub opens_long : (row : ℕ) (nm : List ℕ) → most_name < length e.name → nm ≡ get_or names row []
      → Opens (record { row = most_entries }) e (view_for n names heads recs numbers s)
      (view_for n (set names row nm) heads recs numbers s) (place numbers s) (place numbers s) (marks numbers s) (marks numbers s)
  unfolding fits_table
  opens_long row nm h q =
      opens_none _ (rw (lt-leb (length e.name) most_name h)) (view_kept n names heads recs numbers s row nm q)

  -- a full table
  pub opens_full : most_entries ≤ free_of most_entries s.used
      → Opens (record { row = most_entries }) e (view_for n names heads recs numbers s)
      (view_for n names heads recs numbers s) (place numbers s) (place numbers s) (marks numbers s) (marks numbers s)
  unfolding fits_table
  opens_full h = opens_none _
      (rw (le-ltb (length (view_for n names heads recs numbers s)) most_entries full) (and-false (leb (length e.name) most_name))) refl
    where
      full : most_entries ≤ length (view_for n names heads recs numbers s)
      full = unfold view_for in
          omega (arith, table.view_rows most_entries (row_at n names heads recs) numbers s.used, rows_full most_entries numbers s.used h)

-- a choice without a row
pub marks_rest : (numbers : List ℕ) (s : State) (c : Chosen) (h : Handle) (u : ℕ) → u ≡ removed h.row c.rows
    → marks numbers s (record { rows = u }) ≡ on_at (place numbers s h) (λ _. false) (marks numbers s c)
unfolding marks place
marks_rest numbers s c h u e =
    rw e
    (table.view_on most_entries (λ t. member t c.rows) (λ t. member t (removed h.row c.rows)) numbers s.used h.row
    (λ _. false)
    (member_remove_same h.row c.rows) (λ t d. member_remove_other h.row c.rows t d))

-- the first chosen row is the handle of the first mark
pub marks_next : (numbers : List ℕ) (s : State) (c : Chosen) (row : ℕ) → row ≡ least_of most_entries numbers (bit_and s.used c.rows)
    → Finds (place numbers s) (handle_at numbers s) (index_of (λ b. b) (marks numbers s c)) (record { row = row })
unfolding marks place handle_at
marks_next numbers s c row e =
    let g : (ℕ → Bool) = (λ t. member t c.rows) in
    let u = bit_and s.used c.rows in
    record {
      at = rw e (table.view_found most_entries g numbers s.used u (λ b. b) (λ t _. member_and t s.used c.rows));
      own = rw e (ap (λ (r : ℕ). record { row = r })
          (table.view_first most_entries g numbers s.used u (λ b. b) (λ t _. member_and t s.used c.rows)));
    }

-- a table has at most as many entries as it has rows
pub view_few : (p : Pending) → length (view p) ≤ most_entries
view_few p = view_most most_faces p.names p.heads p.recs p.numbers (state p)

-- its entries have a slot for each face
pub view_faces : (p : Pending) (i : ℕ) (e : Entry) → at_place i (view p) ≡ some e
    → (length e.requests ≡ most_faces) × (length e.sent ≡ most_faces)
view_faces p = view_wide most_faces p.names p.heads p.recs p.numbers (state p)

-- and their classes are what their numbers say
pub view_classes : (p : Pending) (i : ℕ) (e : Entry) → at_place i (view p) ≡ some e → class_of (class_number e.cls) ≡ e.cls
view_classes p = view_said most_faces p.names p.heads p.recs p.numbers (state p)
