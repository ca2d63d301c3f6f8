-- The node that a memory means, and what an event writes for its caller.
-- Assumes nothing.
use Rattle.std.specs.Prelude.{ℕ, List}
use denote.Triple.Both.{Both}
use Rattle.rows.specs.Lent.{Lent}
use Rattle.faces.specs.Places.View as faces
use Rattle.routes.specs.Places.View as routes
use Rattle.pending_table.specs.Places.View as pending
use Rattle.store.specs.Places.View as store
use Rattle.dead.specs.Places.View as dead
use Rattle.rules.specs.Node.{Node}
use Rattle.faces.specs.declared.Faces.{Faces}
use Rattle.routes.specs.declared.Routes.{Routes}
use Rattle.pending_table.specs.declared.Pending.{Pending}
use Rattle.store.specs.declared.Store.{Store}
use Rattle.dead.specs.declared.Dead.{Dead}
use Rattle.event.specs.declared.Memory.{Memory}
use Rattle.event.specs.declared.Small.{Small}

-- a table of rows
abbrev pub Table : Type 0
Table = List (List ℕ)

-- what an event writes for its caller: rows of sends, the output buffer, rows of happenings
pub record Output : Type 0 where
  pub sends : Table
  pub buffer : List ℕ
  pub rows : Table

-- the output at entry and at exit
abbrev pub output : Lent Table → Lent (List ℕ) → Lent Table → Both Output Output
output s b r = record {
  entry = record { sends = s.entry; buffer = b.entry; rows = r.entry };
  exit = record { sends = s.exit; buffer = b.exit; rows = r.exit };
}

-- what code is lent by value, or not at all: it is the same at both
abbrev pub still : {A : Type 0} → A → Lent A
still x = record { entry = x; exit = x }

-- the memory at entry and at exit, of its parts
abbrev pub memory : Lent ℕ → Lent Faces → Lent Routes → Lent Pending → Lent Store → Lent Dead → Both Memory Memory
memory t f r p s d = record {
  entry = record { time = t.entry; faces = f.entry; routes = r.entry; pending = p.entry; store = s.entry; dead = d.entry };
  exit = record { time = t.exit; faces = f.exit; routes = r.exit; pending = p.exit; store = s.exit; dead = d.exit };
}

-- the node that a memory means: each table through its view. Any memory is some node.
unfoldable pub node_of : Memory → Node
node_of m = record {
  time = m.time;
  faces = faces.view m.faces;
  routes = routes.view m.routes;
  pending = pending.view m.pending;
  store = store.view m.store;
  dead = dead.view m.dead;
}

-- what of a memory is no row
abbrev pub small_of : Memory → Small
small_of m = record {
  time = m.time;
  faces = m.faces;
  routes = m.routes.count;
  pending = m.pending.used;
  store = m.store.count;
  dead = m.dead.count;
}
