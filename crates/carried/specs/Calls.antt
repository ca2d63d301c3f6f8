-- Calls of the events' functions, one after the other: each is a call of one of the eight, with whatever its generated contract admits,
-- over the memory that the call before it left, with any buffers.
-- Assumes nothing.
use Rattle.std.specs.Prelude.{ℕ, ◌≡◌, List, [], ◌∷◌, length}
use Rattle.std.specs.Borrow.{Bor, MutBor}
use contract.Lifetimes.{Lfts}
use denote.Triple.Both.{Both}
use denote.Triple.Clauses.{AtExit}
use borrow.Fn.Kinds.{Dens, ended_of, res_t}
use Rattle.rows.specs.Lent.{Lent}
use Rattle.rules.specs.Node.{What, Event}
use Rattle.rules.specs.Node as rules
use Rattle.routes.specs.Lent.{setting_lent, hopping_lent, dropping_lent}
use Rattle.routes.specs.Places.Parts.{known_routes}
use Rattle.pending_pass.specs.Lent.{ageing_lent}
use Rattle.event.specs.declared.Came.{Came}
use Rattle.event.specs.declared.Memory.{Memory}
use Rattle.faces.specs.declared.Faces.{Faces}
use Rattle.routes.specs.declared.Routes.{Routes}
use Rattle.store.specs.declared.Store.{Store}
use Rattle.event.specs.Memory.{Output, output, memory, still}
use Rattle.event.proofs.clear.Kinds as clear-kinds
use Rattle.event.proofs.clear.Reads as clear_reads
use Rattle.event.proofs.clock.Kinds as clock-kinds
use Rattle.event.proofs.clock.Reads as clock-reads
use Rattle.on_face.proofs.open_face.Kinds as open-face-kinds
use Rattle.on_face.proofs.open_face.Reads as open-face-reads
use Rattle.on_face.proofs.close_face.Kinds as close-face-kinds
use Rattle.on_face.proofs.close_face.Reads as close-face-reads
use Rattle.on_route.proofs.set_route.Kinds as set-route-kinds
use Rattle.on_route.proofs.set_route.Reads as set-route-reads
use Rattle.on_route.proofs.drop_route.Kinds as drop-route-kinds
use Rattle.on_route.proofs.drop_route.Reads as drop-route-reads
use Rattle.on_route.proofs.add_hop.Kinds as add-hop-kinds
use Rattle.on_route.proofs.add_hop.Reads as add-hop-reads
use Rattle.on_route.proofs.drop_hop.Kinds as drop-hop-kinds
use Rattle.on_route.proofs.drop_hop.Reads as drop-hop-reads
use Rattle.forwarder.proofs.packet.Kinds as packet-kinds
use Rattle.forwarder.proofs.packet.Reads as packet-reads

-- a call: its time and what happened, the memory and the output before it and after it, and what it came to
pub record Call : Type 0 where
  pub time : ℕ
  pub what : What
  pub memory : Both Memory Memory
  pub output : Both Output Output
  pub came : Came

-- the event that a call is
abbrev pub event_of : Call → Event
event_of c = record { time = c.time; room = length c.output.entry.buffer; what = c.what }

-- what was lent behind `&mut`, from its two ends
abbrev lent : {A : Type 0} → MutBor A → MutBor A → Lent A
lent e x = record { entry = e.now; exit = x.now }

-- what was lent behind `&`, from its two ends
abbrev shown : {A : Type 0} → Bor A → Bor A → Lent A
shown e x = record { entry = e.now; exit = x.now }

-- what was lent in a struct by value, from its two ends
abbrev both : {A B : Type 0} → A → B → Both A B
both e x = record { entry = e; exit = x }

-- a call of one of the eight functions, as its contract has it, and what of the memory it is not lent
pub data Made : Call → Type 1 where
  packet : (κs : Lfts 9) (a : Dens κs packet-kinds.ps) (x : (res_t packet-kinds.r κs).Denot)
      (s : AtExit (ended_of 9 packet-kinds.ps packet-kinds.r) κs) → packet-reads.Post κs a x s
      → Made (record {
        time = a.1.1.1.1.1.1.1.1.1.0;
        what = rules.packet a.1.1.1.1.1.1.1.1.1.1.0 a.1.1.1.1.1.1.1.1.1.1.1.0.now;
        memory = memory (lent a.0 s.0) (still a.1.0) (still (known_routes a.1.1.0)) (lent a.1.1.1.0 s.1.1.1.0) (lent a.1.1.1.1.0 s.1.1.1.1.0)
            (lent a.1.1.1.1.1.0 s.1.1.1.1.1.0);
        output = output (lent a.1.1.1.1.1.1.0 s.1.1.1.1.1.1.0) (lent a.1.1.1.1.1.1.1.0 s.1.1.1.1.1.1.1.0)
            (lent a.1.1.1.1.1.1.1.1.0 s.1.1.1.1.1.1.1.1.0);
        came = x;
      })
  clock : (f : Faces) (r : Routes) (d : Store) (κs : Lfts 6) (a : Dens κs clock-kinds.ps) (x : (res_t clock-kinds.r κs).Denot)
      (s : AtExit (ended_of 6 clock-kinds.ps clock-kinds.r) κs) → clock-reads.Post κs a x s
      → Made (record {
        time = a.1.1.1.1.1.1.0;
        what = rules.clock;
        memory = memory (lent a.0 s.0) (still f) (still r) (ageing_lent (both a.1.0 s.1.0)) (still d) (lent a.1.1.0 s.1.1.0);
        output = output (shown a.1.1.1.0 s.1.1.1.0) (shown a.1.1.1.1.0 s.1.1.1.1.0) (lent a.1.1.1.1.1.0 s.1.1.1.1.1.0);
        came = x;
      })
  open_face : (r : Routes) (d : Store) (κs : Lfts 7) (a : Dens κs open-face-kinds.ps) (x : (res_t open-face-kinds.r κs).Denot)
      (s : AtExit (ended_of 7 open-face-kinds.ps open-face-kinds.r) κs) → open-face-reads.Post κs a x s
      → Made (record {
        time = a.1.1.1.1.1.1.1.0;
        what = rules.open_face a.1.1.1.1.1.1.1.1.0 a.1.1.1.1.1.1.1.1.1.0 a.1.1.1.1.1.1.1.1.1.1.0;
        memory = memory (lent a.0 s.0) (lent a.1.0 s.1.0) (still r) (ageing_lent (both a.1.1.0 s.1.1.0)) (still d)
            (lent a.1.1.1.0 s.1.1.1.0);
        output = output (shown a.1.1.1.1.0 s.1.1.1.1.0) (shown a.1.1.1.1.1.0 s.1.1.1.1.1.0) (lent a.1.1.1.1.1.1.0 s.1.1.1.1.1.1.0);
        came = x;
      })
  close_face : (d : Store) (κs : Lfts 8) (a : Dens κs close-face-kinds.ps) (x : (res_t close-face-kinds.r κs).Denot)
      (s : AtExit (ended_of 8 close-face-kinds.ps close-face-kinds.r) κs) → close-face-reads.Post κs a x s
      → Made (record {
        time = a.1.1.1.1.1.1.1.1.0;
        what = rules.close_face a.1.1.1.1.1.1.1.1.1.0;
        memory = memory (lent a.0 s.0) (lent a.1.0 s.1.0) (dropping_lent (both a.1.1.0 s.1.1.0)) (ageing_lent (both a.1.1.1.0 s.1.1.1.0))
            (still d) (lent a.1.1.1.1.0 s.1.1.1.1.0);
        output = output (shown a.1.1.1.1.1.0 s.1.1.1.1.1.0) (shown a.1.1.1.1.1.1.0 s.1.1.1.1.1.1.0)
            (lent a.1.1.1.1.1.1.1.0 s.1.1.1.1.1.1.1.0);
        came = x;
      })
  set_route : (f : Faces) (d : Store) (κs : Lfts 8) (a : Dens κs set-route-kinds.ps) (x : (res_t set-route-kinds.r κs).Denot)
      (s : AtExit (ended_of 8 set-route-kinds.ps set-route-kinds.r) κs) → set-route-reads.Post κs a x s
      → Made (record {
        time = a.1.1.1.1.1.1.1.0;
        what = rules.set_route a.1.1.1.1.1.1.1.1.0 a.1.1.1.1.1.1.1.1.1.0.now;
        memory = memory (lent a.0 s.0) (still f) (setting_lent (both a.1.0 s.1.0)) (ageing_lent (both a.1.1.0 s.1.1.0)) (still d)
            (lent a.1.1.1.0 s.1.1.1.0);
        output = output (shown a.1.1.1.1.0 s.1.1.1.1.0) (shown a.1.1.1.1.1.0 s.1.1.1.1.1.0) (lent a.1.1.1.1.1.1.0 s.1.1.1.1.1.1.0);
        came = x;
      })
  drop_route : (f : Faces) (d : Store) (κs : Lfts 8) (a : Dens κs drop-route-kinds.ps) (x : (res_t drop-route-kinds.r κs).Denot)
      (s : AtExit (ended_of 8 drop-route-kinds.ps drop-route-kinds.r) κs) → drop-route-reads.Post κs a x s
      → Made (record {
        time = a.1.1.1.1.1.1.1.0;
        what = rules.drop_route a.1.1.1.1.1.1.1.1.0.now;
        memory = memory (lent a.0 s.0) (still f) (lent a.1.0 s.1.0) (ageing_lent (both a.1.1.0 s.1.1.0)) (still d)
            (lent a.1.1.1.0 s.1.1.1.0);
        output = output (shown a.1.1.1.1.0 s.1.1.1.1.0) (shown a.1.1.1.1.1.0 s.1.1.1.1.1.0) (lent a.1.1.1.1.1.1.0 s.1.1.1.1.1.1.0);
        came = x;
      })
  add_hop : (d : Store) (κs : Lfts 8) (a : Dens κs add-hop-kinds.ps) (x : (res_t add-hop-kinds.r κs).Denot)
      (s : AtExit (ended_of 8 add-hop-kinds.ps add-hop-kinds.r) κs) → add-hop-reads.Post κs a x s
      → Made (record {
        time = a.1.1.1.1.1.1.1.1.0;
        what = rules.add_hop a.1.1.1.1.1.1.1.1.1.0 a.1.1.1.1.1.1.1.1.1.1.0 a.1.1.1.1.1.1.1.1.1.1.1.0.now;
        memory = memory (lent a.0 s.0) (still a.1.0) (hopping_lent (both a.1.1.0 s.1.1.0)) (ageing_lent (both a.1.1.1.0 s.1.1.1.0))
            (still d)
            (lent a.1.1.1.1.0 s.1.1.1.1.0);
        output = output (shown a.1.1.1.1.1.0 s.1.1.1.1.1.0) (shown a.1.1.1.1.1.1.0 s.1.1.1.1.1.1.0)
            (lent a.1.1.1.1.1.1.1.0 s.1.1.1.1.1.1.1.0);
        came = x;
      })
  drop_hop : (d : Store) (κs : Lfts 8) (a : Dens κs drop-hop-kinds.ps) (x : (res_t drop-hop-kinds.r κs).Denot)
      (s : AtExit (ended_of 8 drop-hop-kinds.ps drop-hop-kinds.r) κs) → drop-hop-reads.Post κs a x s
      → Made (record {
        time = a.1.1.1.1.1.1.1.1.0;
        what = rules.drop_hop a.1.1.1.1.1.1.1.1.1.0 a.1.1.1.1.1.1.1.1.1.1.0.now;
        memory = memory (lent a.0 s.0) (still a.1.0) (dropping_lent (both a.1.1.0 s.1.1.0)) (ageing_lent (both a.1.1.1.0 s.1.1.1.0))
            (still d)
            (lent a.1.1.1.1.0 s.1.1.1.1.0);
        output = output (shown a.1.1.1.1.1.0 s.1.1.1.1.1.0) (shown a.1.1.1.1.1.1.0 s.1.1.1.1.1.1.0)
            (lent a.1.1.1.1.1.1.1.0 s.1.1.1.1.1.1.1.0);
        came = x;
      })

-- calls from a memory to a memory, each over what the one before it left
pub data Calls : Memory → List Call → Memory → Type 1 where
  done : {m : Memory} → Calls m [] m
  next : {c : Call} {cs : List Call} {m m' : Memory} → Made c → c.memory.entry ≡ m → Calls c.memory.exit cs m' → Calls m (c ∷ cs) m'

-- a memory that the clearing function left, whatever it held before
pub record Cleared (m : Memory) : Type 1 where
  pub κs : Lfts 1
  pub args : Dens κs clear-kinds.ps
  pub given : (res_t clear-kinds.r κs).Denot
  pub ends : AtExit (ended_of 1 clear-kinds.ps clear-kinds.r) κs
  pub kept : clear_reads.Post κs args given ends
  pub left : m ≡ ends.0.now
