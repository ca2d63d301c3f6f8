-- Events one after the other, by a rule book: what each finds, and what it comes to. A statement about an event is one about its moment.
-- Assumes nothing.
use Rattle.std.specs.Prelude.{ℕ, Bool, List, [], ◌∷◌, map, eqb}
use Rattle.std.proofs.Math.Option.{Option}
use Rattle.laws.specs.Pick.{pick}
use Rattle.answers.specs.declared.Answer.{Answer}
use Rattle.answers.specs.Number.{number_of}
use Rattle.sizes.specs.Sizes.{most_faces, least_buffer}
use Rattle.packets.specs.Meaning.{Heard}
use Rattle.records.specs.Happening.{Happening}
use Rattle.rules.specs.Node.{Node, Event, empty_node}
use Rattle.rules.specs.Outcome.{Outcome}
use Rattle.rules.specs.Ageing.{aged}
use Rattle.rules.specs.Step.{Book, run, history, paper_node, paper_step}
use Rattle.incoming.specs.Incoming.{Hears}

-- an event, the node before it, and what it comes to
pub record Moment : Type 0 where
  pub event : Event
  pub before : Node
  pub outcome : Outcome

-- an event, as a rule book has it, in a node
abbrev pub moment : Book → Event → Node → Moment
moment b e n = record { event = e; before = n; outcome = b e n }

-- the moments of events, one after the other
unfoldable pub moments : Book → List Event → Node → List Moment
moments b [] n = []
moments b (e ∷ es) n = moment b e n ∷ moments b es (b e n).node

-- its time
abbrev pub now : Moment → ℕ
now m = m.event.time

-- the node that the event meets: that before it, aged
abbrev pub met : Moment → Node
met m = aged (now m) m.before

-- the node afterwards
abbrev pub after : Moment → Node
after m = m.outcome.node

-- a packet comes in on face f that means h
abbrev pub Arrives : Moment → ℕ → Heard → Type 0
Arrives m f h = Hears (met m) m.event.what f h

-- whether an answer is 0: the event is accepted
abbrev pub is_done : Answer → Bool
is_done a = eqb (number_of a) 0

-- what the events that are accepted make of a thing, one after the other, by a rule book: s says what one makes of it
unfoldable pub last_of : {A : Type 0} → (Moment → Option A → Option A) → Book → List Event → Node → Option A → Option A
last_of s b [] n x = x
last_of s b (e ∷ es) n x = last_of s b es (b e n).node (pick (is_done (b e n).answer) (s (moment b e n) x) x)

-- the node that events lead to, from an empty one of so many faces
abbrev pub reached : ℕ → Book → List Event → Node
reached faces b es = run b es (empty_node faces)

-- all that happened to requests on the way
abbrev pub told : ℕ → Book → List Event → List Happening
told faces b es = history b es (empty_node faces)

-- the moments of the way
abbrev pub lived : ℕ → Book → List Event → List Moment
lived faces b es = moments b es (empty_node faces)

-- document 01's node after events
abbrev pub paper_run : List Event → Node
paper_run es = run paper_step es paper_node

-- the outcomes of its events
abbrev pub paper_outcomes : List Event → List Outcome
paper_outcomes es = map (λ (m : Moment). m.outcome) (moments paper_step es paper_node)

-- their history
abbrev pub paper_history : List Event → List Happening
paper_history es = history paper_step es paper_node
