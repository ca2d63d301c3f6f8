-- One outcome for each input of each public function: any two that its contract admits are the same in everything that it speaks of, also
-- from two memories that mean the same node. Rows and bits that mean no part of the node are fixed only where the contract says outright
-- that they stay.
-- Assumes nothing.
use mathlib.Core.Path.{◌≡◌, refl}
use contract.Lifetimes.{Lfts}
use Rattle.std.specs.Borrow.{MutBor}
use denote.Triple.Both.{Both}
use denote.Triple.Clauses.{AtExit}
use borrow.Fn.Kinds.{Dens, ended_of, res_t}
use Rattle.rows.specs.Lent.{Lent}
use Rattle.rules.specs.Node as rules
use Rattle.event.specs.declared.Memory.{Memory}
use Rattle.event.specs.Memory.{Output, output, memory, still, node_of}
use Rattle.event.specs.Laws.Same.{Same, stepped_same}
use Rattle.forwarder.proofs.packet.Kinds as packet-kinds
use Rattle.routes.specs.Places.Parts.{known_routes}
use Rattle.forwarder.proofs.packet.Reads as packet-reads

-- what was lent behind `&mut`, from its two ends
abbrev lent : {A : Type 0} → MutBor A → MutBor A → Lent A
lent e x = record { entry = e.now; exit = x.now }

module _ (κs : Lfts 9) where
  -- the memory of a packet at entry and at exit
  abbrev pub packet_memory : Dens κs packet-kinds.ps → AtExit (ended_of 9 packet-kinds.ps packet-kinds.r) κs → Both Memory Memory
  packet_memory a s =
      memory (lent a.0 s.0) (still a.1.0) (still (known_routes a.1.1.0)) (lent a.1.1.1.0 s.1.1.1.0) (lent a.1.1.1.1.0 s.1.1.1.1.0)
      (lent a.1.1.1.1.1.0 s.1.1.1.1.1.0)

  -- its output at entry and at exit
  abbrev pub packet_output : Dens κs packet-kinds.ps → AtExit (ended_of 9 packet-kinds.ps packet-kinds.r) κs → Both Output Output
  packet_output a s =
      output (lent a.1.1.1.1.1.1.0 s.1.1.1.1.1.1.0) (lent a.1.1.1.1.1.1.1.0 s.1.1.1.1.1.1.1.0)
      (lent a.1.1.1.1.1.1.1.1.0 s.1.1.1.1.1.1.1.1.0)

  -- the packet
  abbrev pub packet_what : Dens κs packet-kinds.ps → rules.What
  packet_what a = rules.packet a.1.1.1.1.1.1.1.1.1.1.0 a.1.1.1.1.1.1.1.1.1.1.1.0.now

  -- a packet from two memories that mean the same node, with the same time, face and output
  pub packet_same : (a b : Dens κs packet-kinds.ps) (x y : (res_t packet-kinds.r κs).Denot)
      (s t : AtExit (ended_of 9 packet-kinds.ps packet-kinds.r) κs)
      → a.1.1.1.1.1.1.1.1.1.0 ≡ b.1.1.1.1.1.1.1.1.1.0
      → packet_what a ≡ packet_what b
      → node_of (packet_memory a s).entry ≡ node_of (packet_memory b t).entry
      → (packet_output a s).entry ≡ (packet_output b t).entry
      → packet-reads.Post κs a x s → packet-reads.Post κs b y t
      → Same x y (node_of (packet_memory a s).exit) (node_of (packet_memory b t).exit)
      (packet_output a s).exit (packet_output b t).exit
  packet_same a b x y s t et ew n o p q =
      stepped_same x y (packet_memory a s) (packet_memory b t) (packet_output a s) (packet_output b t) n o _ _ (packet_what a)
      (packet_what b) et ew p q

  -- two outcomes of a packet
  pub packet_one : (a : Dens κs packet-kinds.ps) (x y : (res_t packet-kinds.r κs).Denot)
      (s t : AtExit (ended_of 9 packet-kinds.ps packet-kinds.r) κs) → packet-reads.Post κs a x s → packet-reads.Post κs a y t
      → Same x y (node_of (packet_memory a s).exit) (node_of (packet_memory a t).exit)
      (packet_output a s).exit (packet_output a t).exit
  packet_one a x y s t p q = packet_same a a x y s t refl refl refl refl p q
