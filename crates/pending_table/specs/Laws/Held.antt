-- What the row of a handle tells of a table's entry, and what a change of that row does to the entries: the laws of a table in parts, at
-- its own.
-- Assumes nothing.
use Rattle.std.specs.declared.option.Option as code
use Rattle.std.specs.Prelude.{ℕ, ◌≡◌, set, get_or, Some, None, List, [], length}
use Rattle.std.proofs.Math.Option.{none, some}
use Rattle.laws.specs.Lists.{on_at}
use Rattle.sizes.specs.Sizes.{most_faces, most_entries}
use Rattle.records.specs.Slots.{given}
use Rattle.records.specs.Entry.{Entry}
use Rattle.pending_entry.specs.Places.View as entry
use Rattle.pending_table.specs.declared.Pending.{Pending}
use Rattle.pending_table.specs.declared.Handle.{Handle}
use Rattle.pending_table.specs.Places.View.{view, state, row_held, row_at, place_of, entry_at}
use Rattle.pending_table.specs.Laws.Parts.{part_entry, part_says, part_tells, part_changed}
use Rattle.pending_table.specs.Laws.Parts.{part_no_entry, part_none_says, part_none_changed}

module _ (p : Pending) (h : Handle) {o : code.Option ℕ} (e : o ≡ row_held (state p) h) where
  module _ {i : ℕ} (y : o ≡ Some i) where
    -- the handle's entry is that of its row
    pub row_entry : entry_at p h ≡ some (entry.view (get_or p.names i []) (get_or p.heads i []) (get_or p.recs i []))
    row_entry = part_entry p.names p.heads p.recs p.numbers p.used h e y

    -- what the row says is said of the handle's entry
    pub row_says : {B : Type 0} (d : B) (g : Entry → B) {r : B} → r ≡ g (row_at most_faces p.names p.heads p.recs i)
        → r ≡ given d g (entry_at p h)
    unfolding row_at
    row_says = part_says p.names p.heads p.recs p.numbers p.used h e y

    -- so is what it says whatever its name
    pub row_tells : {B : Type 0} (d : B) (g : Entry → B) {r : B}
        → ((nm : List ℕ) → r ≡ g (entry.view nm (get_or p.heads i []) (get_or p.recs i []))) → r ≡ given d g (entry_at p h)
    row_tells = part_tells p.names p.heads p.recs p.numbers p.used h e y

    -- a row's head and records stored: its entry is changed
    pub row_changed : (hd : List ℕ) (r : List (List ℕ)) (g : Entry → Entry) → length p.heads ≡ most_entries
        → length p.recs ≡ most_entries
        → ((nm : List ℕ) → entry.view nm hd r ≡ g (entry.view nm (get_or p.heads i []) (get_or p.recs i [])))
        → view (record { names = p.names; heads = set p.heads i hd; recs = set p.recs i r; numbers = p.numbers; used = p.used })
        ≡ on_at (place_of p h) g (view p)
    row_changed = part_changed p.names p.heads p.recs p.numbers p.used h e y

  module _ (y : o ≡ None) where
    -- without a row there is no entry
    pub no_entry : entry_at p h ≡ none
    no_entry = part_no_entry p.names p.heads p.recs p.numbers p.used h e y

    -- what is said of none
    pub none_says : {B : Type 0} (d : B) (g : Entry → B) → d ≡ given d g (entry_at p h)
    none_says = part_none_says p.names p.heads p.recs p.numbers p.used h e y

    -- a change of no entry changes nothing
    pub none_changed : (g : Entry → Entry) → view p ≡ on_at (place_of p h) g (view p)
    none_changed = part_none_changed p.names p.heads p.recs p.numbers p.used h e y
