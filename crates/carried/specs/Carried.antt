-- What calls show to whoever makes them: the answers, the views, the rows of sends, the bytes of the buffers and the rows of happenings are
-- those of the rules' moments, so that what is proved of moments is proved of them; and the customer's balance, counted in the rows that
-- were written.
-- Assumes nothing.
use Rattle.std.specs.Prelude.{ℕ, ◌+◌, ◌≡◌, Bool, false, ◌&&◌, List, [], ◌∷◌, ◌++◌, map, eqb, length, get_or, take}
use Rattle.std.proofs.lemmas.List.Edits.{sets}
use Rattle.sizes.specs.Sizes.{most_faces, least_buffer}
use Rattle.records.specs.Happening.{Fate, opened, answered, nacked, expired, closed, self_met}
use Rattle.records.specs.Rows.{fate_number, row_of}
use Rattle.happenings.specs.Noted.{most_rows}
use Rattle.rules.specs.Packed.{Placed}
use Rattle.rules.specs.Step.{paper_step}
use Rattle.sending.specs.Rows.{send_row}
use Rattle.event.specs.declared.Memory.{Memory}
use Rattle.event.specs.Memory.{node_of}
use Rattle.history.specs.Lists.{All, Some, how_many, Pairs}
use Rattle.history.specs.Key.{Key, Accounted, is_of, of_face, open_now, stands}
use Rattle.history.specs.Turns.{Legal}
use Rattle.history.specs.Moments.{Moment, reached, told, lived}
use Rattle.history.specs.Sends.{Filled}
use Rattle.history.specs.Asked.{WasAsked}
use Rattle.history.specs.ReadBack.{BroughtBy}
use Rattle.history.specs.SetUp.{SetUp}
use Rattle.history.specs.Classes.{Classed}
use Rattle.history.specs.Shape.{Shaped}
use Rattle.demand3.specs.Demand3.{Accounts}
use Rattle.carried.specs.Calls.{Call, event_of}

-- a call shows a moment: the event, the node before it and after it, and the answer; each send has its row and stands in the buffer at its
-- place, and what lies behind the sends is as it was; each happening has its row; every other row is as it was
pub record Shows (c : Call) (m : Moment) : Type 0 where
  pub event : m.event ≡ event_of c
  pub before : m.before ≡ node_of c.memory.entry
  pub after : m.outcome.node ≡ node_of c.memory.exit
  pub answer : m.outcome.answer ≡ c.came.answer
  pub sent : length m.outcome.sends ≡ c.came.sent
  pub places : List Placed
  pub sends : c.output.exit.sends ≡ sets c.output.entry.sends 0 (map send_row places)
  pub filled : Filled m.outcome.sends c.output.entry.buffer (record { places = places; buffer = c.output.exit.buffer })
  pub made : length m.outcome.happenings ≡ c.came.made
  pub rows : c.output.exit.rows ≡ sets c.output.entry.rows 0 (map row_of m.outcome.happenings)

-- the rows of happenings that a call wrote
abbrev pub written : Call → List (List ℕ)
written c = take c.came.made c.output.exit.rows

-- all that calls wrote, one after the other
unfoldable pub written_by : List Call → List (List ℕ)
written_by [] = []
written_by (c ∷ cs) = written c ++ written_by cs

-- how many rows have a fate and a face
unfoldable pub rows_of : Fate → ℕ → List (List ℕ) → ℕ
rows_of x f rows = how_many (λ r. eqb (fate_number x) (get_or r 2 0) && eqb (get_or r 0 0) f) rows

-- "For every face, the requests opened equal those answered, those ended by Nack, those expired, those ended by closing the face, those met
-- by the asker's own face, plus those open now.": in rows that were written, and the memory that is left
abbrev pub Balanced : ℕ → List (List ℕ) → Memory → Type 0
Balanced f rows m =
    rows_of opened f rows
    ≡ rows_of answered f rows + rows_of nacked f rows + rows_of expired f rows + rows_of closed f rows + rows_of self_met f rows
    + open_now (of_face f) (node_of m).pending

-- a call was lent as many rows of happenings as their type says
abbrev pub Rowed : Call → Type 0
Rowed c = length c.output.entry.rows ≡ most_rows

-- what calls show, and the memory m that they leave
pub record Carried (cs : List Call) (m : Memory) : Type 0 where
  -- each call shows the moment of its event, of which all of demand 3 holds that is asked of an event
  pub events : Pairs (λ c x. Shows c x × Accounts most_faces least_buffer x) cs (lived most_faces paper_step (map event_of cs))
  -- the memory means the node that the events lead to
  pub node : node_of m ≡ reached most_faces paper_step (map event_of cs)
  -- the rows that were written balance, for every face
  pub balance : All Rowed cs → (f : ℕ) → Balanced f (written_by cs) m
  -- what demand 3 asks of a history, of the memory: the account for any set of faces, names, flags and classes, and that nothing ends twice
  pub accounted : (p : Key → Bool) → Accounted p (told most_faces paper_step (map event_of cs)) (node_of m).pending
  pub turns : (f : ℕ) (name : List ℕ) (p q : Bool)
      → Legal (is_of f name p q) false (told most_faces paper_step (map event_of cs)) (stands (is_of f name p q) (node_of m).pending)
  -- what stands was asked for, what is stored was brought, and what is set up was commanded, with that class
  pub asked : WasAsked most_faces paper_step (map event_of cs)
  pub brought : All (λ d. Some (BroughtBy d) (lived most_faces paper_step (map event_of cs))) (node_of m).store
  pub set_up : SetUp most_faces paper_step (map event_of cs)
  pub classes : Classed (node_of m)
  -- the memory keeps the shape of a node
  pub shaped : Shaped most_faces (node_of m)
