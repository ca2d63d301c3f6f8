-- What a pass asks of the function that it calls at each chosen entry. What that function changes beside the used rows is a state of any
-- kind, from which a word tells the table's heads.
-- Assumes nothing.
use Rattle.std.specs.Prelude.{ℕ, ◌≡◌, List}
use Rattle.std.specs.Borrow.{MutBor}
use Rattle.std.proofs.Math.Option.{some}
use Rattle.records.specs.Entry.{Entry}
use Rattle.dead.specs.declared.Dead.{Dead}
use Rattle.dead.specs.Places.View as dead
use Rattle.pending_table.specs.declared.Pending.{Pending}
use Rattle.pending_table.specs.declared.Handle.{Handle}
use Rattle.pending_table.specs.Places.View.{view, place_of, entry_at, marks_of}
use Rattle.pending_pass.specs.Places.Pass.{Work, Turned}

-- what a call comes to, from a state, used rows, a handle, nonces, rows and how many are noted to how many are noted then, and what it
-- leaves
abbrev pub Calls : Type 0 → Type 1
Calls S = MutBor S → MutBor ℕ → Handle → MutBor Dead → MutBor (List (List ℕ)) → ℕ → ℕ
    → MutBor S → MutBor ℕ → MutBor Dead → MutBor (List (List ℕ)) → Type 0

-- each call is a turn of a pass's work, where a state and used rows make a table
abbrev pub Turns : {S : Type 0} → Calls S → (S → ℕ → Pending) → Work → Type 0
Turns {S} calls of w =
    (s : MutBor S) (u : MutBor ℕ) (h : Handle) (d : MutBor Dead) (r : MutBor (List (List ℕ))) (k n : ℕ)
    (s' : MutBor S) (u' : MutBor ℕ) (d' : MutBor Dead) (r' : MutBor (List (List ℕ))) → calls s u h d r k n s' u' d' r'
    → (e : Entry) → entry_at (of s.now u.now) h ≡ some e
    → Turned w (place_of (of s.now u.now) h) e (view (of s.now u.now)) (marks_of (of s.now u.now)) (dead.view d.now) r.now k
    (view (of s'.now u'.now)) (marks_of (of s'.now u'.now)) (dead.view d'.now) r'.now n
