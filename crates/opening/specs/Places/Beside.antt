-- The memory of code that is lent neither the store nor the dead nonces.
-- Assumes nothing.
use Rattle.std.specs.Prelude.{ℕ}
use denote.Triple.Both.{Both}
use Rattle.rows.specs.Lent.{Lent}
use Rattle.faces.specs.declared.Faces.{Faces}
use Rattle.routes.specs.declared.Routes.{Routes}
use Rattle.pending_table.specs.declared.Pending.{Pending}
use Rattle.store.specs.declared.Store.{Store}
use Rattle.dead.specs.declared.Dead.{Dead}
use Rattle.event.specs.declared.Memory.{Memory}

-- the memory at entry and at exit of code that is lent the pending entries to be changed, with the store and the dead nonces beside it
abbrev pub beside : ℕ → Faces → Routes → Lent Pending → Store → Dead → Both Memory Memory
beside t f r p s d = record {
  entry = record { time = t; faces = f; routes = r; pending = p.entry; store = s; dead = d };
  exit = record { time = t; faces = f; routes = r; pending = p.exit; store = s; dead = d };
}
