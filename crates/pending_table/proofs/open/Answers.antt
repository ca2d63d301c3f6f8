-- One law for each outcome: an entry more, a name that the row has no room for, and a full table.
use borrow.Author.Rules.{rules}
use native.Mathlib.Omega.{arith}
use mathlib.Core.Path.{◌≡◌, sym, ◌∙◌}
use lib.ListN.{length}
use Rattle.sizes.specs.Sizes.{most_faces, most_entries}
use Rattle.pending_entry.specs.Operations.{bare_entry}
use Rattle.pending_table.specs.Places.View.{opens_more, opens_long, opens_full}
use Rattle.pending_table.specs.Laws.Row.{row_stored, row_full}
use Rattle.pending_table.proofs.open.Goals.{else-row-lt-ENTRIES-via-then-row-lt-ENTRIES+else-is_some}
use Rattle.pending_table.proofs.open.Goals.{else-row-lt-ENTRIES-via-else-row-lt-ENTRIES}
use Rattle.pending_table.proofs.open.Goals as goal

pub returns-then-is_some : goal.returns-then-is_some
unfolding bare_entry
returns-then-is_some c =
    let a = c.args in
    let n : length a.names.now ≡ most_entries = search rules in
    let h : length a.heads.now ≡ most_entries = search rules in
    λ r.
    let put = row_stored _ c.args.name.now _ c.put_bytes.ensures (sym c.is_some.ensures ∙ c.if-is_some.true) in
    opens_more most_faces a.names.now a.heads.now r a.numbers.now (record { used = a.used.now }) _ _ _ _ _ _ _ c.free-row.ensures
    c.open_row.ensures (omega arith)
    (omega (arith, put.0)) n h (c.bare.ensures _ _ ∙ rw put.1)

pub returns-else-row-lt-ENTRIES : goal.returns-else-row-lt-ENTRIES
unfolding bare_entry
returns-else-row-lt-ENTRIES c =
    let a = c.args in
    λ r.
    elim c.else-row-lt-ENTRIES.branch [
      | else-row-lt-ENTRIES-via-then-row-lt-ENTRIES+else-is_some w ↦
          let put = row_full _ c.args.name.now _ w.put_bytes.ensures (sym w.is_some.ensures ∙ w.if-is_some.false) in
          rw w.names-is (opens_long most_faces a.names.now a.heads.now r a.numbers.now (record { used = a.used.now }) _ _ _
          (omega (arith, put.0)) put.1)
      | else-row-lt-ENTRIES-via-else-row-lt-ENTRIES w ↦
          rw w.names-is
          (opens_full most_faces a.names.now a.heads.now r a.numbers.now (record { used = a.used.now }) _
          (omega (arith, w.if-row-lt-ENTRIES.false, c.free-row.ensures)))
    ]
