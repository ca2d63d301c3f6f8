-- What the row of a handle tells of a table that is lent in parts, and what a change of that row does to its entries.
-- Assumes nothing.
use Rattle.std.specs.declared.option.Option as code
use Rattle.std.specs.Prelude.{ℕ, ◌≡◌, set, get_or, Some, None, List, [], length}
use Rattle.std.proofs.Common.{sym, ◌∙◌}
use Rattle.std.proofs.Math.Option.{none, some}
use Rattle.laws.specs.Lists.{on_at}
use Rattle.sizes.specs.Sizes.{most_faces, most_entries}
use Rattle.records.specs.Slots.{given}
use Rattle.records.specs.Entry.{Entry}
use Rattle.pending_entry.specs.Places.View as entry
use Rattle.pending_table.specs.declared.Handle.{Handle}
use Rattle.pending_table.specs.Places.View as whole
use Rattle.pending_table.specs.Places.View.{view, row_held, row_at, place_of, entry_at}
use Rattle.pending_table.specs.declared.Shown.{Shown}
use Rattle.pending_table.specs.Places.Parts.{table, seen}

module _ (n hs : List (List ℕ)) (rs : List (List (List ℕ))) (k : List ℕ) (u : ℕ) (h : Handle) {o : code.Option ℕ}
    (e : o ≡ row_held (record { used = u }) h) where
  module _ {i : ℕ} (y : o ≡ Some i) where
    -- the handle's entry is that of its row
    pub part_entry : entry_at (table n hs rs k u) h ≡ some (entry.view (get_or n i []) (get_or hs i []) (get_or rs i []))
    unfolding row_at
    part_entry = whole.entry_there most_faces n hs rs k (record { used = u }) h i (sym e ∙ y)

    -- what the row says is said of the handle's entry
    pub part_says : {B : Type 0} (d : B) (g : Entry → B) {r : B}
        → r ≡ g (entry.view (get_or n i []) (get_or hs i []) (get_or rs i [])) → r ≡ given d g (entry_at (table n hs rs k u) h)
    unfolding row_at
    part_says = whole.said_of most_faces n hs rs k (record { used = u }) h i (sym e ∙ y)

    -- so is what it says whatever its name
    pub part_tells : {B : Type 0} (d : B) (g : Entry → B) {r : B}
        → ((nm : List ℕ) → r ≡ g (entry.view nm (get_or hs i []) (get_or rs i []))) → r ≡ given d g (entry_at (table n hs rs k u) h)
    part_tells d g q = part_says d g (q (get_or n i []))

    -- a row's head and records stored: its entry is changed
    pub part_changed : (hd : List ℕ) (r : List (List ℕ)) (g : Entry → Entry) → length hs ≡ most_entries → length rs ≡ most_entries
        → ((nm : List ℕ) → entry.view nm hd r ≡ g (entry.view nm (get_or hs i []) (get_or rs i [])))
        → view (table n (set hs i hd) (set rs i r) k u) ≡ on_at (place_of (table n hs rs k u) h) g (view (table n hs rs k u))
    part_changed = whole.view_on most_faces n hs rs k (record { used = u }) h i (sym e ∙ y)

    -- a row's head alone
    pub part_head : (hd : List ℕ) (g : Entry → Entry) → length hs ≡ most_entries → length rs ≡ most_entries
        → ((nm : List ℕ) → entry.view nm hd (get_or rs i []) ≡ g (entry.view nm (get_or hs i []) (get_or rs i [])))
        → view (table n (set hs i hd) rs k u) ≡ on_at (place_of (table n hs rs k u) h) g (view (table n hs rs k u))
    part_head = whole.view_on_head most_faces n hs rs k (record { used = u }) h i (sym e ∙ y)

    -- a row's records alone
    pub part_records : (r : List (List ℕ)) (g : Entry → Entry) → length hs ≡ most_entries → length rs ≡ most_entries
        → ((nm : List ℕ) → entry.view nm (get_or hs i []) r ≡ g (entry.view nm (get_or hs i []) (get_or rs i [])))
        → view (table n hs (set rs i r) k u) ≡ on_at (place_of (table n hs rs k u) h) g (view (table n hs rs k u))
    part_records = whole.view_on_records most_faces n hs rs k (record { used = u }) h i (sym e ∙ y)

  module _ (y : o ≡ None) where
    -- without a row there is no entry
    pub part_no_entry : entry_at (table n hs rs k u) h ≡ none
    part_no_entry = whole.entry_none most_faces n hs rs k (record { used = u }) h (sym e ∙ y)

    -- what is said of none
    pub part_none_says : {B : Type 0} (d : B) (g : Entry → B) → d ≡ given d g (entry_at (table n hs rs k u) h)
    part_none_says = whole.said_none most_faces n hs rs k (record { used = u }) h (sym e ∙ y)

    -- a change of no entry changes nothing
    pub part_none_changed : (g : Entry → Entry) → view (table n hs rs k u) ≡ on_at (place_of (table n hs rs k u) h) g
        (view (table n hs rs k u))
    part_none_changed = whole.changed_none most_faces n hs rs k (record { used = u }) h (sym e ∙ y)

-- the same of a table that is lent to be read
module _ (t : Shown) (h : Handle) {o : code.Option ℕ} (e : o ≡ row_held (record { used = t.used }) h) {i : ℕ} (y : o ≡ Some i) where
  -- the handle's entry
  pub seen_entry : entry_at (seen t) h
      ≡ some (entry.view (get_or t.names.now i []) (get_or t.heads.now i []) (get_or t.recs.now i []))
  seen_entry = part_entry t.names.now t.heads.now t.recs.now t.numbers.now t.used h e y

  -- what the row says whatever its name
  pub seen_tells : {B : Type 0} (d : B) (g : Entry → B) {r : B}
      → ((nm : List ℕ) → r ≡ g (entry.view nm (get_or t.heads.now i []) (get_or t.recs.now i []))) → r ≡ given d g (entry_at (seen t) h)
  seen_tells = part_tells t.names.now t.heads.now t.recs.now t.numbers.now t.used h e y
