-- An Interest as the code goes on with it: the checks before the tables, what it meets in them, "LOOP", or by its entry.
-- Assumes nothing.
use Rattle.std.specs.Prelude.{ℕ, ◌≤◌, ◌<◌, ◌≡◌, Bool, List, length, eqb}
use Rattle.std.specs.Option.{MatchOption}
use Rattle.std.proofs.Math.Option.{Option}
use Rattle.answers.specs.declared.Answer.{Answer}
use Rattle.answers.specs.Number.{number_of}
use Rattle.laws.specs.Pick.{pick}
use Rattle.laws.specs.Lists.{index_of}
use Rattle.packets.specs.declared.bare.Interest.{Interest}
use Rattle.records.specs.Slots.{at_place}
use Rattle.records.specs.Face.{Face}
use Rattle.records.specs.Line.{Line}
use Rattle.records.specs.Entry.{Entry, is_known}
use Rattle.pending_table.specs.declared.Handle.{Handle}
use Rattle.rules.specs.Node.{Node}
use Rattle.rules.specs.Outcome.{Outcome, nack_for}
use Rattle.rules.specs.Interest.{Arrival, entry_of, loops, asks_entry}
use Rattle.on_interest.specs.declared.Seen.{Seen}

-- the answer of what is asked again, by whether the HopLimit is 0 and by whether it is out of scope
unfoldable pub checked : Answer → Bool → Bool → Answer
checked said zero out = pick (eqb (number_of said) 0) (pick zero Answer.HopLimit (pick out Answer.Scope Answer.Done)) said

-- what an Interest of a name meets, by the faces, the entries, the dead nonces and the places that handles stand for
pub record Sees (r : Seen) (t : ℕ) (fs : List (Option Face)) (es : List Entry) (ls : List Line) (f : ℕ) (name : List ℕ) (i : Interest)
    (place : Handle → ℕ) : Type 0 where
  pub looping : (n : Node) (a : Arrival) → n.faces ≡ fs → n.pending ≡ es → n.dead ≡ ls → a.face ≡ f → a.ask.name ≡ name
      → a.ask.nonce ≡ i.nonce → index_of (is_known name i.can_be_prefix i.must_be_fresh) es ≡ entry_of n a.ask → r.loops ≡ loops t n a
  pub met : MatchOption r.entry (length es ≤ index_of (is_known name i.can_be_prefix i.must_be_fresh) es)
      (λ h. (place h < length es) × (place h ≡ index_of (is_known name i.can_be_prefix i.must_be_fresh) es))

-- refused as a loop, or by its entry, if there is one
unfoldable pub sought : ℕ → Node → Arrival → Outcome
sought now n a =
    pick (loops now n a) (nack_for Answer.Loop 100 n a.face a.ask) (asks_entry now n a (at_place (entry_of n a.ask) n.pending))
