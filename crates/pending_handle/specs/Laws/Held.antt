-- What the answers of this crate's functions say of no entry, and the laws on a handle's row that the check uses with it.
-- Assumes nothing.
use Rattle.std.specs.Prelude.{ℕ, ◌≡◌, List, [], None}
use Rattle.std.proofs.Math.Path.{refl}
use Rattle.std.proofs.Math.Option.{none, some}
use Rattle.records.specs.Slots.{given}
use Rattle.records.specs.Line.{Line, joined_all}
use Rattle.happenings.specs.Laws.Noted.{notes_none}
use Rattle.pending_entry.specs.Operations.{request_in}
use Rattle.pending_records.specs.Operations.{nacks_in}
use Rattle.pending_table.specs.Laws.Held.{row_entry, row_changed, no_entry, none_changed}

-- what is said of an entry that is there
pub given_some : {A B : Type 0} (d : B) (g : A → B) (a : A) → given d g (some a) ≡ g a
unfolding given
given_some d g a = refl

-- and of none
pub given_none : {A B : Type 0} (d : B) (g : A → B) → given d g none ≡ d
unfolding given
given_none d g = refl

-- no lines join
pub none_joined : (size : ℕ) (ls : List Line) → joined_all size ls [] ≡ ls
unfolding joined_all
none_joined size ls = refl

-- no request is told
pub no_request : request_in None ≡ none
unfolding request_in
no_request = refl

-- no reason is told
pub no_nacks : nacks_in None ≡ none
unfolding nacks_in
no_nacks = refl

-- what the functions at a handle come to, with a row and without
pub ruleset held =
    (row_entry, row_changed, no_entry, none_changed, given_some, given_none, none_joined, no_request, no_nacks, notes_none)
