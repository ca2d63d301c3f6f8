-- The store as the rules have it: Data in the order of their use. No other file can open `view`, `count_of` and `place`, so their laws
-- stand here.
-- Assumes nothing.
use Rattle.std.specs.Prelude.{ℕ, suc, zero, ◌+◌, ◌-◌, ◌≤◌, ◌<◌, ◌≡◌, List, [], ◌∷◌, ◌++◌, get_or, set, take, drop, map, min}
use Rattle.std.specs.Prelude.{Bool, not, cond}
use Rattle.std.specs.declared.option.Option as code
use Rattle.std.specs.List.{position_or_len, zip}
use Rattle.std.specs.Option.{MatchOption}
use Rattle.std.proofs.lemmas.List.{get_or-take, length-map}
use Rattle.std.proofs.lemmas.Slice.Zip.{length-zip, get_or-zip}
use Rattle.std.proofs.Math.Path.{refl, ap}
use Rattle.std.proofs.Common.{sym, ◌∙◌, drop-cons, ltb-true, ltb-false, arith, length-take}
use Rattle.std.proofs.Math.Bool.{true, false}
use Rattle.std.proofs.Math.Option.{Option, none, some, none-ne-some, some-injective}
use Rattle.std.proofs.Math.Nat.{zero-add}
use Rattle.std.proofs.Math.ListN.{length}
use Rattle.std.proofs.Math.Seq.{get_or-set_same, get_or-set_other}
use Rattle.std.proofs.Math.Dec.{ltb}
use Rattle.sizes.specs.Sizes.{most_stored}
use Rattle.laws.specs.Places.Loop.{first}
use Rattle.laws.specs.Places.Tab.{tab}
use Rattle.laws.specs.Pick.{pick}
use Rattle.laws.specs.Lists.{without, index_of}
use Rattle.laws.specs.Laws.Tab.{length_tab, get_d_tab, tab_ext, tab_snoc, tab_without, tab_list, map_tab, first_tab, index_of_le}
use Rattle.packethead.specs.Name.{name_of}
use Rattle.records.specs.Slots.{at_place, is_some}
use Rattle.records.specs.Laws.Place.{place_in_lem, place_past}
use Rattle.records.specs.Stored.{Stored}
pub use Rattle.rows.specs.Places.Moved.{Moved}
use Rattle.store.specs.declared.Row.{Row}
use Rattle.store.specs.declared.Store.{Store}
use Rattle.store.specs.declared.Handle.{Handle}
use Rattle.store.specs.Places.Parts.{table}

-- a Data of some bytes, its name read where it stands in them
unfoldable pub data_of : List ℕ → ℕ → ℕ → Stored
data_of bytes time freshness = record { name = name_of bytes; bytes = bytes; time = time; freshness = freshness }

-- the Data that a packet and its row mean
unfoldable pub stored_of : List ℕ → Row → Stored
stored_of p r = data_of (take r.len p) r.time r.freshness

-- the same of the two as one
abbrev pub stored_both : List ℕ × Row → Stored
stored_both x = stored_of x.0 x.1

-- a row where there is none
abbrev pub no_row : Row
no_row = record { len = 0; time = 0; freshness = 0 }

-- the Data at a place
unfoldable pub stored_at : Store → ℕ → Stored
stored_at s i = stored_of (get_or s.packets i []) (get_or s.rows i no_row)

-- the Data in the order of their use; a count past the store's size is the size
pub view : Store → List Stored
view s = tab (stored_at s) 0 (min s.count most_stored)

-- how many Data a store counts
pub count_of : Store → ℕ
count_of s = s.count

-- the place among the Data that a handle stands for
pub place : Store → Handle → ℕ
place s h = h.at

abbrev pub placed : Store → Handle → ℕ
placed = place

-- the Data that a handle stands for, if there is one
abbrev pub found : Store → Handle → Option Stored
found s h = at_place (placed s h) (view s)

-- the first places make the first of a list
tab_take : (g : ℕ → Stored) (i m n : ℕ) → n ≤ m → tab g i n ≡ take n (tab g i m)
unfolding tab
tab_take g i m zero h = refl
tab_take g i zero (suc n) h = absurd (omega arith)
tab_take g i (suc m) (suc n) h = ap (λ (l : List Stored). g i ∷ l) (tab_take g (suc i) m n (omega arith))

-- as many Data as are counted, at most the size
pub view_length : (s : Store) → length (view s) ≡ min s.count most_stored
unfolding view
view_length s = length_tab (stored_at s) 0 (min s.count most_stored)

-- none counted is none, whatever the memory holds
pub view_empty : (s : Store) → s.count ≡ 0 → view s ≡ []
unfolding view tab
view_empty s e = let z : min s.count most_stored ≡ 0 = omega arith in rw z

-- what a store counts
pub count_is : (s : Store) → count_of s ≡ s.count
unfolding count_of
count_is s = refl

-- a store that counts none has no Data to count
pub count_empty : (s : Store) → s.count ≡ 0 → count_of s ≡ length {A = Stored} []
unfolding count_of
count_empty s e = e

-- a store that counts at most its size counts its Data
pub count_all : (s : Store) → s.count ≤ most_stored → count_of s ≡ length (view s)
unfolding count_of
count_all s h = omega (arith, view_length s)

-- a handle stands for the place that it has
pub place_is : (s : Store) (h : Handle) → place s h ≡ h.at
unfolding place
place_is s h = refl

-- handles that stand for one place are one handle
pub place_one : (s : Store) (h k : Handle) → place s h ≡ place s k → h ≡ k
unfolding place
place_one s h k e = ap (λ (i : ℕ). record { at = i }) e

module _ (s : Store) where
  -- the Data at a place
  pub view_at : (i : ℕ) → i < min s.count most_stored → at_place i (view s) ≡ some (stored_at s i)
  unfolding view
  view_at i h = place_in_lem (stored_at s) 0 (min s.count most_stored) i h ∙ rw (zero-add i)

  -- past the last there is no Data
  pub view_past : (i : ℕ) → min s.count most_stored ≤ i → at_place i (view s) ≡ none
  view_past i h = place_past (view s) i (omega (arith, view_length s))

  -- whether there is a Data at a place
  pub view_there : (i : ℕ) → is_some (at_place i (view s)) ≡ ltb i (min s.count most_stored)
  unfolding is_some
  view_there i = go (ltb i (min s.count most_stored)) refl
    where
      go : (b : Bool) → ltb i (min s.count most_stored) ≡ b → is_some (at_place i (view s)) ≡ b
      go true q = rw (view_at i (ltb-true _ _ q))
      go false q = rw (view_past i (ltb-false _ _ q))

  -- a Data's name is where it stands in its bytes
  pub view_name : (i : ℕ) (d : Stored) → at_place i (view s) ≡ some d → d.name ≡ name_of d.bytes
  unfolding stored_at stored_of data_of
  view_name i d e = go (ltb i (min s.count most_stored)) refl
    where
      go : (b : Bool) → ltb i (min s.count most_stored) ≡ b → d.name ≡ name_of d.bytes
      go true q =
          let own : d ≡ stored_at s i = some-injective _ _ (sym e ∙ view_at i (ltb-true _ _ q)) in
          rw own
      go false q = absurd (none-ne-some d (sym (view_past i (ltb-false _ _ q)) ∙ e))

  -- a search by places is a search among the Data
  pub view_find : (p : Stored → Bool) → first (λ k. p (stored_at s k)) 0 (min s.count most_stored) ≡ index_of p (view s)
  unfolding view
  view_find p =
      first_tab p (stored_at s) (λ k. p (stored_at s k)) 0 (min s.count most_stored) (λ k _ _. refl) ∙ zero-add _

  -- from a place on there is the Data at that place, and then those from the next on
  pub view_from : (i : ℕ) → i < min s.count most_stored → drop i (view s) ≡ stored_at s i ∷ drop (suc i) (view s)
  unfolding view
  view_from i h =
      let g = stored_at s in
      let n = min s.count most_stored in
      let l : i < length (tab g 0 n) = omega (arith, length_tab g 0 n) in
      rw (drop-cons (tab g 0 n) i (g i) l, get_d_tab g 0 n i (g i) h, zero-add i)

-- the Data that the packets and the rows mean, in their order
pub view_rows : (s : Store) → length s.packets ≡ most_stored → length s.rows ≡ most_stored
    → view s ≡ map stored_both (zip s.packets (take (min s.count most_stored) s.rows))
unfolding view stored_at
view_rows s a b =
    let r = take (min s.count most_stored) s.rows in
    let l = zip s.packets r in
    let d : List ℕ × Row = ([], no_row) in
    let m : length r ≡ min s.count most_stored = omega (arith, length-take (min s.count most_stored) s.rows) in
    let n : length l ≡ min s.count most_stored = omega (arith, length-zip s.packets r) in
    tab_ext (stored_at s) (λ k. stored_both (get_or l k d)) 0 (min s.count most_stored)
    (λ k _ h.
    rw (get_or-zip s.packets r k d (omega arith) (omega arith), get_or-take (min s.count most_stored) s.rows k no_row (omega arith)))
    ∙ sym (map_tab stored_both (λ k. get_or l k d) 0 (min s.count most_stored))
    ∙ ap (map stored_both) (rw n at (tab_list l d))

-- the first packet and row that mean a Data of which p holds
pub first_row : (p : Stored → Bool) (l : List (List ℕ × Row)) → index_of p (map stored_both l)
    ≡ position_or_len (λ x. p (stored_both x)) l
unfolding index_of pick
first_row p [] = refl
first_row p (r ∷ l) = go (p (stored_both r)) (first_row p l)
  where
    go : (b : Bool) → index_of p (map stored_both l) ≡ position_or_len (λ x. p (stored_both x)) l
        → pick b 0 (suc (index_of p (map stored_both l))) ≡ cond (not b) (1 + position_or_len (λ x. p (stored_both x)) l) 0
    go true e = refl
    go false e = omega (arith, e)

-- what a search of the packets and the rows answers is the place of the first Data of which p holds, or none where there is none
pub view_position : (p : Stored → Bool) (s : Store) (r : code.Option ℕ) (l : List (List ℕ × Row)) → length s.packets ≡ most_stored
    → length s.rows ≡ most_stored → l ≡ zip s.packets (take (min s.count most_stored) s.rows)
    → r ≡ cond (ltb (position_or_len (λ x. p (stored_both x)) l) (length l))
    (code.Option.Some (position_or_len (λ x. p (stored_both x)) l)) code.Option.None
    → MatchOption r (index_of p (view s) ≡ length (view s)) (λ i. (i < length (view s)) × (i ≡ index_of p (view s)))
view_position p s r l a b f q = rw (q, ← i, ← n) (go (ltb (index_of p (view s)) (length (view s))) refl)
  where
    v : view s ≡ map stored_both l
    v = view_rows s a b ∙ ap (map stored_both) (sym f)

    i : index_of p (view s) ≡ position_or_len (λ x. p (stored_both x)) l
    i = rw v (first_row p l)

    n : length (view s) ≡ length l
    n = rw (v, length-map l stored_both)

    go : (b : Bool) → ltb (index_of p (view s)) (length (view s)) ≡ b
        → MatchOption (cond b (code.Option.Some (index_of p (view s))) code.Option.None) (index_of p (view s) ≡ length (view s))
        (λ i. (i < length (view s)) × (i ≡ index_of p (view s)))
    go true h = (ltb-true _ _ h, refl)
    go false h = omega (arith, ltb-false _ _ h, index_of_le p (view s))

-- counts that are the same up to the size show the same Data of the same packets and rows
pub view_count : (packets : List (List ℕ)) (rows : List Row) (m n : ℕ) → min m most_stored ≡ min n most_stored
    → view (table packets rows m) ≡ view (table packets rows n)
unfolding view stored_at
view_count packets rows m n e = rw e

-- a store that counts fewer shows the first of the Data
pub view_take : (packets : List (List ℕ)) (rows : List Row) (m n : ℕ) → n ≤ m → m ≤ most_stored
    → view (table packets rows n) ≡ take n (view (table packets rows m))
unfolding view stored_at
view_take packets rows m n h l =
    let a : min n most_stored ≡ n = omega arith in
    let b : min m most_stored ≡ m = omega arith in
    rw (a, b) (tab_take (stored_at (table packets rows m)) 0 m n h)

-- packets and rows of which those after a place stand one place down leave the Data without the one at that place
pub view_without : (s : Store) (packets : List (List ℕ)) (rows : List Row) (i n : ℕ) → n ≡ min s.count most_stored → i < n
    → Moved [] i n s.packets packets → Moved no_row i n s.rows rows
    → view (table packets rows (n - 1)) ≡ without i (view s)
unfolding view stored_at
view_without s packets rows i n e h a b =
    let m : min s.count most_stored ≡ n - 1 + 1 = omega arith in
    let c : min (n - 1) most_stored ≡ n - 1 = omega arith in
    rw (c, m)
    (tab_without (stored_at s) (stored_at (table packets rows (n - 1))) 0 (n - 1) i (omega arith)
    (λ k _ l. rw (a.before k (omega arith), b.before k (omega arith)))
    (λ k l t. rw (a.after k (omega arith) (omega arith), b.after k (omega arith) (omega arith))))

-- a packet and a row written after the last Data add the Data that they mean
pub view_add : (packets : List (List ℕ)) (rows : List Row) (n : ℕ) (packet : List ℕ) (row : Row) → n < most_stored
    → length packets ≡ most_stored → length rows ≡ most_stored
    → view (table (set packets n packet) (set rows n row) (n + 1)) ≡ view (table packets rows n) ++ (stored_of packet row ∷ [])
unfolding view stored_at
view_add packets rows n packet row h a b =
    let g = stored_at (table (set packets n packet) (set rows n row) (n + 1)) in
    let m : min (n + 1) most_stored ≡ n + 1 = omega arith in
    let c : min n most_stored ≡ n = omega arith in
    rw (m, c)
    (tab_snoc g 0 n
    ∙ rw (
      zero-add n,
      get_or-set_same packets n packet [] (omega arith),
      get_or-set_same rows n row no_row (omega arith),
      tab_ext g (stored_at (table packets rows n)) 0 n
          (λ k _ l. rw (
            get_or-set_other packets n k packet [] (λ q. omega arith),
            get_or-set_other rows n k row no_row (λ q. omega arith),
          )),
    ))
