-- The code's parts make an empty node, a refusal where an event begins, and ageing.
-- Assumes nothing.
use Rattle.std.specs.Prelude.{ℕ, ◌≡◌, Bool, List, [], ◌≢◌, length, Result, Ok, Err}
use Rattle.std.proofs.Math.Path.{refl}
use Rattle.answers.specs.declared.Answer.{Answer}
use Rattle.answers.specs.Number.{number_of}
use Rattle.sizes.specs.Sizes.{most_faces, least_buffer}
use Rattle.names.specs.Fingerprint.{fnv_start, fingerprint}
use Rattle.records.specs.Slots.{no_slots}
use Rattle.faces.specs.Places.View as faces
use Rattle.routes.specs.Places.View as routes
use Rattle.pending_table.specs.Places.View as pending
use Rattle.store.specs.Places.View as store
use Rattle.dead.specs.Places.View as dead
use Rattle.dead.specs.declared.Dead.{Dead}
use Rattle.pending_table.specs.declared.Pending.{Pending}
use Rattle.pending_pass.specs.Ages.{Ages}
use Rattle.rules.specs.Node.{empty_node}
use Rattle.event.specs.declared.Memory.{Memory}
use Rattle.event.specs.Memory.{Table, Output, node_of}
use Rattle.event.specs.Begun.{begun}
use Rattle.event.specs.Comes.{Comes}
use Rattle.event.specs.Places.Begins.{refusal, began}
use Rattle.event.specs.Laws.Begun.{begun_refused, begun_aged}
use Rattle.event.specs.Laws.Comes.{comes_by, comes_quiet, comes_aged}

-- a memory whose tables are empty is that of an empty node, whatever their rows hold
pub clear_node : (m : Memory) → m.time ≡ 0 → faces.view m.faces ≡ no_slots most_faces → routes.view m.routes ≡ []
    → pending.view m.pending ≡ [] → store.view m.store ≡ [] → dead.view m.dead ≡ [] → node_of m ≡ empty_node most_faces
unfolding node_of empty_node
clear_node m t f r p k d = rw (t, f, r, p, k, d)

module _ (time : ℕ) (bad : Bool) (y : Answer) (r : Result ℕ Answer) (m : Memory) where
  -- an event that is refused where it begins: everything is as it was
  pub begins_refused : (o : Output) → y ≡ refusal least_buffer time (length o.buffer) bad m.time → number_of y ≢ 0 → r ≡ Err y
      → Comes 0 (begun least_buffer time (length o.buffer) bad (node_of m)) (began r) (node_of m) o o
  unfolding node_of began
  begins_refused o q d w =
      comes_by _ _ _ _ _ _ _ (begun_refused _ _ _ _ _ _ q d) (rw w (comes_quiet _ _ _ _ _ refl refl refl))

  -- an event whose tables are aged where it begins
  pub begins_aged : (p : Pending) (d : Dead) (ss : Table) (b : List ℕ) (rs rs' : Table) (made : ℕ)
      → y ≡ refusal least_buffer time (length b) bad m.time → number_of y ≡ 0 → r ≡ Ok made
      → Ages (fingerprint fnv_start) time (pending.view m.pending) (dead.view m.dead) rs (pending.view p) (dead.view d) rs' made
      → Comes 0 (begun least_buffer time (length b) bad (node_of m)) (began r)
      (node_of (record { time = time; faces = m.faces; routes = m.routes; pending = p; store = m.store; dead = d }))
      (record { sends = ss; buffer = b; rows = rs }) (record { sends = ss; buffer = b; rows = rs' })
  unfolding node_of began
  begins_aged p d ss b rs rs' made q z w a =
      comes_by _ _ _ _ _ _ _ (begun_aged _ _ _ _ _ _ q z) (rw w (comes_aged _ _ _ _ _ _ _ _ _ refl refl a))
