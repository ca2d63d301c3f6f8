-- The table that is lent to a pass, at entry and at exit.
-- Assumes nothing.
use Rattle.std.specs.Prelude.{ℕ, List, ⊤}
use Rattle.std.specs.Borrow.{Bor, MutBor}
use denote.Triple.Both.{Both}
use Rattle.rows.specs.Lent.{Lent}
use Rattle.pending_table.specs.declared.Pending.{Pending}
use Rattle.pending_table.specs.declared.Shown.{Shown}
use Rattle.pending_table.specs.Places.Parts.{table}
use Rattle.pending_pass.specs.declared.Ageing.{Ageing}
use Rattle.pending_pass.specs.declared.Leaving.{Leaving}
use Rattle.pending_pass.specs.declared.Marking.{Marking}

-- a table that is lent to be read, with other used rows
abbrev pub using : Shown → ℕ → Pending
using t u = table t.names.now t.heads.now t.recs.now t.numbers.now u

-- what is left at exit of a value that lends: its references, names, heads, records, numbers and used rows
abbrev pub Left : Type 0 → Type 0
Left H = Bor (List (List ℕ)) × (H × (Bor (List (List (List ℕ))) × (Bor (List ℕ) × (MutBor ℕ × ⊤))))

-- what is left at exit of a value that lends the records too
abbrev pub MarkingLeft : Type 0
MarkingLeft = Bor (List (List ℕ)) × (MutBor (List (List ℕ)) × (MutBor (List (List (List ℕ))) × (Bor (List ℕ) × (MutBor ℕ × ⊤))))

-- a table whose heads and used rows may change, at entry
abbrev pub ageing_in : Both Ageing (Left (MutBor (List (List ℕ)))) → Pending
ageing_in t = let e = t.entry in table e.names.now e.heads.now e.recs.now e.numbers.now e.used.now

-- and at exit
abbrev pub ageing_out : Both Ageing (Left (MutBor (List (List ℕ)))) → Pending
ageing_out t = let e = t.entry in table e.names.now t.exit.1.0.now e.recs.now e.numbers.now t.exit.1.1.1.1.0.now

-- a table whose used rows alone may change, at entry
abbrev pub leaving_in : Both Leaving (Left (Bor (List (List ℕ)))) → Pending
leaving_in t = let e = t.entry in table e.names.now e.heads.now e.recs.now e.numbers.now e.used.now

-- and at exit
abbrev pub leaving_out : Both Leaving (Left (Bor (List (List ℕ)))) → Pending
leaving_out t = let e = t.entry in table e.names.now e.heads.now e.recs.now e.numbers.now t.exit.1.1.1.1.0.now

-- a table whose heads, records and used rows may change, as it is now
abbrev pub marked_table : Marking → Pending
marked_table e = table e.names.now e.heads.now e.recs.now e.numbers.now e.used.now

-- at entry
abbrev pub marking_in : Both Marking MarkingLeft → Pending
marking_in t = marked_table t.entry

-- and at exit
abbrev pub marking_out : Both Marking MarkingLeft → Pending
marking_out t = let e = t.entry in table e.names.now t.exit.1.0.now t.exit.1.1.0.now e.numbers.now t.exit.1.1.1.1.0.now

-- a table that is lent in one of these ways, at entry and at exit
abbrev pub ageing_lent : Both Ageing (Left (MutBor (List (List ℕ)))) → Lent Pending
ageing_lent t = record { entry = ageing_in t; exit = ageing_out t }

-- of which the used rows alone may change
abbrev pub leaving_lent : Both Leaving (Left (Bor (List (List ℕ)))) → Lent Pending
leaving_lent t = record { entry = leaving_in t; exit = leaving_out t }

-- of which all but names and numbers may change
abbrev pub marking_lent : Both Marking MarkingLeft → Lent Pending
marking_lent t = record { entry = marking_in t; exit = marking_out t }
