-- One outcome for each input of each public function: any two that its contract admits are the same in everything that it speaks of, also
-- from two memories that mean the same node. Rows and bits that mean no part of the node are fixed only where the contract says outright
-- that they stay.
-- Assumes nothing.
use mathlib.Core.Path.{◌≡◌, refl}
use contract.Lifetimes.{Lfts}
use Rattle.std.specs.Borrow.{Bor, MutBor}
use denote.Triple.Both.{Both}
use denote.Triple.Clauses.{AtExit}
use borrow.Fn.Kinds.{Dens, ended_of, res_t}
use Rattle.rows.specs.Lent.{Lent}
use Rattle.event.specs.declared.Memory.{Memory}
use Rattle.event.specs.Memory.{Output, output, memory, still, node_of}
use Rattle.event.specs.Laws.Same.{Same}
use Rattle.on_interest.specs.Laws.Same.{interest_on_same}
use Rattle.on_interest.proofs.interest.Kinds as kinds
use Rattle.routes.specs.Places.Parts.{known_routes}
use Rattle.on_interest.proofs.interest.Reads as reads

-- what was lent behind `&mut`, from its two ends
abbrev pub lent : {A : Type 0} → MutBor A → MutBor A → Lent A
lent e x = record { entry = e.now; exit = x.now }

-- what was lent behind `&`, from its two ends
abbrev pub shown : {A : Type 0} → Bor A → Bor A → Lent A
shown e x = record { entry = e.now; exit = x.now }

module _ (κs : Lfts 8) where
  -- the memory of an Interest at entry and at exit
  abbrev pub interest_memory : Dens κs kinds.ps → AtExit (ended_of 8 kinds.ps kinds.r) κs → Both Memory Memory
  interest_memory a s =
      memory (still a.0) (still a.1.0) (still (known_routes a.1.1.0)) (lent a.1.1.1.0 s.1.1.1.0) (lent a.1.1.1.1.0 s.1.1.1.1.0)
      (shown a.1.1.1.1.1.0 s.1.1.1.1.1.0)

  -- its output at entry and at exit
  abbrev pub interest_output : Dens κs kinds.ps → AtExit (ended_of 8 kinds.ps kinds.r) κs → Both Output Output
  interest_output a s =
      output (lent a.1.1.1.1.1.1.0 s.1.1.1.1.1.1.0) (lent a.1.1.1.1.1.1.1.0 s.1.1.1.1.1.1.1.0)
      (lent a.1.1.1.1.1.1.1.1.0 s.1.1.1.1.1.1.1.1.0)

  -- the same Interest on the same face, after as many rows, from two memories that mean the same node, with the same output
  pub interest_same : (a b : Dens κs kinds.ps) (x y : (res_t kinds.r κs).Denot)
      (s t : AtExit (ended_of 8 kinds.ps kinds.r) κs)
      → a.1.1.1.1.1.1.1.1.1.0 ≡ b.1.1.1.1.1.1.1.1.1.0
      → a.1.1.1.1.1.1.1.1.1.1.0 ≡ b.1.1.1.1.1.1.1.1.1.1.0
      → a.1.1.1.1.1.1.1.1.1.1.1.0.now ≡ b.1.1.1.1.1.1.1.1.1.1.1.0.now
      → a.1.1.1.1.1.1.1.1.1.1.1.1.0 ≡ b.1.1.1.1.1.1.1.1.1.1.1.1.0
      → node_of (interest_memory a s).entry ≡ node_of (interest_memory b t).entry
      → (interest_output a s).entry ≡ (interest_output b t).entry
      → reads.Post κs a x s → reads.Post κs b y t
      → Same x y (node_of (interest_memory a s).exit) (node_of (interest_memory b t).exit)
      (interest_output a s).exit (interest_output b t).exit
  interest_same a b x y s t ek ef eb ei n o v w =
      interest_on_same x y (interest_memory a s) (interest_memory b t) (interest_output a s) (interest_output b t) n o
      _ _ _ _ _ _ _ _ ek ef eb ei v w

  -- two outcomes of an Interest
  pub interest_one : (a : Dens κs kinds.ps) (x y : (res_t kinds.r κs).Denot) (s t : AtExit (ended_of 8 kinds.ps kinds.r) κs)
      → reads.Post κs a x s → reads.Post κs a y t
      → Same x y (node_of (interest_memory a s).exit) (node_of (interest_memory a t).exit)
      (interest_output a s).exit (interest_output a t).exit
  interest_one a x y s t v w =
      interest_same a a x y s t refl refl refl refl refl refl v w
