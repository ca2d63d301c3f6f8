-- One outcome for each input of each public function: any two that its contract admits are the same in everything that it speaks of, also
-- from two memories that mean the same node. Rows and bits that mean no part of the node are fixed only where the contract says outright
-- that they stay.
-- Assumes nothing.
use mathlib.Core.Path.{◌≡◌, refl}
use contract.Lifetimes.{Lfts}
use Rattle.std.specs.Borrow.{MutBor}
use denote.Triple.Both.{Both}
use denote.Triple.Clauses.{AtExit}
use borrow.Fn.Kinds.{Dens, ended_of, res_t}
use lib.ListN.{length}
use Rattle.rows.specs.Lent.{Lent}
use Rattle.rules.specs.Node.{Node}
use Rattle.rules.specs.Outcome.{Outcome}
use Rattle.event.specs.declared.Memory.{Memory}
use Rattle.event.specs.Memory.{Output, output, memory, still, node_of}
use Rattle.event.specs.Laws.Same.{Same}
use Rattle.coming.specs.Laws.Goes.{after_same}
use Rattle.arriving.specs.Coming.{comes_in}
use Rattle.arriving.proofs.arrive.Kinds as arrive-kinds
use Rattle.routes.specs.Places.Parts.{known_routes}
use Rattle.arriving.proofs.arrive.Reads as arrive-reads

-- what was lent behind `&mut`, from its two ends
abbrev lent : {A : Type 0} → MutBor A → MutBor A → Lent A
lent e x = record { entry = e.now; exit = x.now }

module _ (κs : Lfts 8) where
  -- the memory of what came in at entry and at exit
  abbrev pub arrive_memory : Dens κs arrive-kinds.ps → AtExit (ended_of 8 arrive-kinds.ps arrive-kinds.r) κs → Both Memory Memory
  arrive_memory a s =
      memory (still a.0) (still a.1.0) (still (known_routes a.1.1.0)) (lent a.1.1.1.0 s.1.1.1.0) (lent a.1.1.1.1.0 s.1.1.1.1.0)
      (lent a.1.1.1.1.1.0 s.1.1.1.1.1.0)

  -- its output at entry and at exit
  abbrev pub arrive_output : Dens κs arrive-kinds.ps → AtExit (ended_of 8 arrive-kinds.ps arrive-kinds.r) κs → Both Output Output
  arrive_output a s =
      output (lent a.1.1.1.1.1.1.0 s.1.1.1.1.1.1.0) (lent a.1.1.1.1.1.1.1.0 s.1.1.1.1.1.1.1.0)
      (lent a.1.1.1.1.1.1.1.1.0 s.1.1.1.1.1.1.1.1.0)

  -- what came in
  abbrev pub arrive_what : Dens κs arrive-kinds.ps → AtExit (ended_of 8 arrive-kinds.ps arrive-kinds.r) κs → Node → Outcome
  arrive_what a s =
      comes_in (length (arrive_output a s).entry.buffer) a.1.1.1.1.1.1.1.1.1.1.1.0 a.1.1.1.1.1.1.1.1.1.1.1.1.0
      a.1.1.1.1.1.1.1.1.1.1.1.1.1.0.now a.1.1.1.1.1.1.1.1.1.1.0

  -- the same coming in, after as many rows, from two memories that mean the same node, with the same output
  pub arrive_same : (a b : Dens κs arrive-kinds.ps) (x y : (res_t arrive-kinds.r κs).Denot)
      (s t : AtExit (ended_of 8 arrive-kinds.ps arrive-kinds.r) κs)
      → a.1.1.1.1.1.1.1.1.1.0 ≡ b.1.1.1.1.1.1.1.1.1.0
      → arrive_what a s ≡ arrive_what b t
      → node_of (arrive_memory a s).entry ≡ node_of (arrive_memory b t).entry
      → (arrive_output a s).entry ≡ (arrive_output b t).entry
      → arrive-reads.Post κs a x s → arrive-reads.Post κs b y t
      → Same x y (node_of (arrive_memory a s).exit) (node_of (arrive_memory b t).exit)
      (arrive_output a s).exit (arrive_output b t).exit
  arrive_same a b x y s t ek ew n o p q =
      after_same x y (arrive_memory a s) (arrive_memory b t) (arrive_output a s) (arrive_output b t) n o
      (arrive_what a s) (arrive_what b t) _ _ ew ek p q

  -- two outcomes of what came in
  pub arrive_one : (a : Dens κs arrive-kinds.ps) (x y : (res_t arrive-kinds.r κs).Denot)
      (s t : AtExit (ended_of 8 arrive-kinds.ps arrive-kinds.r) κs) → arrive-reads.Post κs a x s → arrive-reads.Post κs a y t
      → Same x y (node_of (arrive_memory a s).exit) (node_of (arrive_memory a t).exit)
      (arrive_output a s).exit (arrive_output a t).exit
  arrive_one a x y s t p q = arrive_same a a x y s t refl refl refl refl p q
