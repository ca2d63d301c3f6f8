-- Closing a face, past ageing, as code gives it.
-- Assumes nothing.
use Rattle.std.specs.Prelude.{ℕ, ◌+◌, ◌≤◌, ◌≡◌, List, map, length}
use Rattle.std.proofs.Math.Path.{refl}
use Rattle.std.proofs.Math.Option.{Option, none}
use Rattle.answers.specs.declared.Answer.{Answer}
use Rattle.sizes.specs.Sizes.{most_faces}
use Rattle.names.specs.Fingerprint.{fnv_start, fingerprint}
use Rattle.records.specs.Slots.{set_slot, each}
use Rattle.records.specs.Face.{Face}
use Rattle.records.specs.Route.{Route, with_hop}
use Rattle.records.specs.Entry.{Entry}
use Rattle.records.specs.Line.{Line}
use Rattle.records.specs.Closing.{closing_ends}
use Rattle.happenings.specs.Noted.{most_rows}
use Rattle.faces.specs.declared.Faces.{Faces}
use Rattle.faces.specs.Places.View as faces
use Rattle.routes.specs.Places.View as routes
use Rattle.routes.specs.declared.Routes.{Routes}
use Rattle.pending_table.specs.declared.Pending.{Pending}
use Rattle.pending_table.specs.Places.View as pending
use Rattle.dead.specs.declared.Dead.{Dead}
use Rattle.dead.specs.Places.View as dead
use Rattle.pending_pass.specs.Closes.{Closes}
use Rattle.rules.specs.Node.{Node, close_face, print_of}
use Rattle.rules.specs.Packed.{packed, packed_from}
use Rattle.rules.specs.Command.{close_step}
use Rattle.rules.specs.Step.{what_step}
use Rattle.event.specs.declared.Came.{Came}
use Rattle.event.specs.declared.Memory.{Memory}
use Rattle.event.specs.Memory.{Table, node_of}
use Rattle.event.specs.Comes.{Comes}
use Rattle.event.specs.Laws.Comes.{comes_is}
use Rattle.event.specs.Laws.Rows.{comes_noted}

-- of any node in which there is a row for each request that ends
turned_closed : (time f k : ℕ) (n : Node) (fs : List (Option Face)) (rts : List Route) (es : List Entry) (ls : List Line) (r : Came)
    (ss : Table) (b : List ℕ) (rs rs' : Table)
    → fs ≡ set_slot f none n.faces → rts ≡ map (with_hop f none) n.routes
    → Closes (fingerprint fnv_start) time f n.pending n.dead rs k es ls rs' r.made
    → k + length (each (closing_ends time f) n.pending) ≤ most_rows → r.answer ≡ Answer.Done → r.sent ≡ 0
    → Comes k (what_step most_faces time n (close_face f)) r
    (record { time = n.time; faces = fs; routes = rts; pending = es; store = n.store; dead = ls })
    (record { sends = ss; buffer = b; rows = rs }) (record { sends = ss; buffer = b; rows = rs' })
unfolding what_step close_step packed packed_from print_of
turned_closed time f k n fs rts es ls r ss b rs rs' ef er c room ea et =
    comes_noted k _ r _ _ _ ea (rw (ef, er, c.entries, c.lines)) et refl refl room c.rows

module _ (time f k : ℕ) (m : Memory) (r : Came) (ss : Table) (b : List ℕ) (rs rs' : Table) where
  -- of the node that a memory means
  pub comes_closed : (fs : Faces) (t : Routes) (p : Pending) (d : Dead) (made : ℕ)
      → faces.view fs ≡ set_slot f none (faces.view m.faces)
      → routes.view t ≡ map (with_hop f none) (routes.view m.routes)
      → Closes (fingerprint fnv_start) time f (pending.view m.pending) (dead.view m.dead) rs k (pending.view p) (dead.view d) rs' made
      → k + length (each (closing_ends time f) (pending.view m.pending)) ≤ most_rows
      → r ≡ record { answer = Answer.Done; sent = 0; made = made }
      → Comes k (what_step most_faces time (node_of m) (close_face f)) r
      (node_of (record { time = m.time; faces = fs; routes = t; pending = p; store = m.store; dead = d }))
      (record { sends = ss; buffer = b; rows = rs }) (record { sends = ss; buffer = b; rows = rs' })
  unfolding node_of
  comes_closed fs t p d made ef er cl room i =
      comes_is _ _ _ _ _ _ _ i (turned_closed _ _ _ _ _ _ _ _ _ _ _ _ _ ef er cl room refl refl)
