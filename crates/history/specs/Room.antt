-- What one event does to the uses by class, for document 02, request 11: "a class 1 Interest gets NO_ROOM only when at least 24 entries
-- opened in class 1 are still pending".
-- Assumes nothing.
use Rattle.std.specs.Prelude.{ℕ, ◌+◌, ◌≤◌, ◌≡◌, true, List, ◌⊎◌}
use Rattle.answers.specs.declared.Answer.{Answer}
use Rattle.sizes.specs.Sizes.{most_entries}
use Rattle.packets.specs.Meaning.{Ask, asks}
use Rattle.records.specs.Class.{Class, is_class, reserve, is_of}
use Rattle.records.specs.Route.{Route}
use Rattle.records.specs.Entry.{used_by, room_taken}
use Rattle.rules.specs.Node.{Node}
use Rattle.refusals.specs.Refusals.{RouteOf}
use Rattle.history.specs.Moments.{Moment, met, after, Arrives}

-- the use of a class
abbrev pub uses : Class → Node → ℕ
uses c n = used_by (is_of c) n.pending

-- an Interest came in, and a route is the longest for its name
pub record Routed (m : Moment) (r : Route) : Type 0 where
  pub from : ℕ
  pub ask : Ask
  pub bytes : List ℕ
  pub came : Arrives m from (asks ask bytes)
  pub longest : RouteOf (met m) ask.name r

-- what is owed to a class: NO_ROOM is given only where the class of the Interest's longest route has used its reserve; the use of a class
-- grows only by an Interest whose longest route has that class and which is answered 0, by one; and the room taken stays within 64
pub record RoomOwed (m : Moment) : Type 0 where
  pub full : m.outcome.answer ≡ Answer.NoRoom → (r : Route) × Routed m r × (reserve r.cls ≤ uses r.cls (met m))
  pub ages : (c : Class) → uses c (met m) ≤ uses c m.before
  pub grows : (c : Class) → is_class c ≡ true
      → (after m ≡ m.before) ⊎ (uses c (after m) ≤ uses c (met m))
      ⊎ ((r : Route) × Routed m r × (r.cls ≡ c) × (m.outcome.answer ≡ Answer.Done) × (uses c (after m) ≡ uses c (met m) + 1))
  pub most : room_taken (after m).pending ≤ most_entries
