-- One outcome for each input of each public function: any two that its contract admits are the same in everything that it speaks of, also
-- from two memories that mean the same node. Rows and bits that mean no part of the node are fixed only where the contract says outright
-- that they stay.
-- Assumes nothing.
use mathlib.Core.Path.{◌≡◌, refl}
use contract.Lifetimes.{Lfts}
use Rattle.std.specs.Borrow.{MutBor}
use denote.Triple.Both.{Both}
use denote.Triple.Clauses.{AtExit}
use borrow.Fn.Kinds.{Dens, ended_of, res_t}
use Rattle.rows.specs.Lent.{Lent}
use Rattle.pending_pass.specs.Lent.{marking_lent}
use Rattle.event.specs.declared.Memory.{Memory}
use Rattle.routes.specs.declared.Routes.{Routes}
use Rattle.store.specs.declared.Store.{Store}
use Rattle.event.specs.Memory.{Output, output, memory, still, node_of}
use Rattle.event.specs.Laws.Same.{Same}
use Rattle.on_nack.specs.Laws.Same.{nack_on_same}
use Rattle.on_nack.proofs.nack.Kinds as kinds
use Rattle.on_nack.proofs.nack.Reads as reads

-- what was lent behind `&mut`, from its two ends
abbrev lent : {A : Type 0} → MutBor A → MutBor A → Lent A
lent e x = record { entry = e.now; exit = x.now }

module _ (κs : Lfts 6) where
  -- the memory of a Nack at entry and at exit, with what it is not lent
  abbrev pub nack_memory : Routes → Store → Dens κs kinds.ps → AtExit (ended_of 6 kinds.ps kinds.r) κs → Both Memory Memory
  nack_memory r d a s =
      memory (still a.0) (still a.1.0) (still r) (marking_lent (record { entry = a.1.1.0; exit = s.1.1.0 })) (still d)
      (lent a.1.1.1.0 s.1.1.1.0)

  -- its output at entry and at exit
  abbrev pub nack_output : Dens κs kinds.ps → AtExit (ended_of 6 kinds.ps kinds.r) κs → Both Output Output
  nack_output a s =
      output (lent a.1.1.1.1.0 s.1.1.1.1.0) (lent a.1.1.1.1.1.0 s.1.1.1.1.1.0) (lent a.1.1.1.1.1.1.0 s.1.1.1.1.1.1.0)

  -- the same Nack on the same face, after as many rows, from two memories that mean the same node, with the same output
  pub nack_same : (r q : Routes) (d e : Store) (a b : Dens κs kinds.ps) (x y : (res_t kinds.r κs).Denot)
      (s t : AtExit (ended_of 6 kinds.ps kinds.r) κs)
      → a.1.1.1.1.1.1.1.0 ≡ b.1.1.1.1.1.1.1.0
      → a.1.1.1.1.1.1.1.1.0 ≡ b.1.1.1.1.1.1.1.1.0
      → a.1.1.1.1.1.1.1.1.1.0 ≡ b.1.1.1.1.1.1.1.1.1.0
      → a.1.1.1.1.1.1.1.1.1.1.0.now ≡ b.1.1.1.1.1.1.1.1.1.1.0.now
      → a.1.1.1.1.1.1.1.1.1.1.1.0 ≡ b.1.1.1.1.1.1.1.1.1.1.1.0
      → node_of (nack_memory r d a s).entry ≡ node_of (nack_memory q e b t).entry
      → (nack_output a s).entry ≡ (nack_output b t).entry
      → reads.Post κs a x s → reads.Post κs b y t
      → Same x y (node_of (nack_memory r d a s).exit) (node_of (nack_memory q e b t).exit)
      (nack_output a s).exit (nack_output b t).exit
  nack_same r q d e a b x y s t ek ef ea eb ed n o v w =
      nack_on_same x y (nack_memory r d a s) (nack_memory q e b t) (nack_output a s) (nack_output b t) n o
      _ _ _ _ _ _ _ _ _ _ ek ef ea eb ed (v r d) (w q e)

  -- two outcomes of a Nack
  pub nack_one : (r : Routes) (d : Store) (a : Dens κs kinds.ps) (x y : (res_t kinds.r κs).Denot)
      (s t : AtExit (ended_of 6 kinds.ps kinds.r) κs)
      → reads.Post κs a x s → reads.Post κs a y t
      → Same x y (node_of (nack_memory r d a s).exit) (node_of (nack_memory r d a t).exit)
      (nack_output a s).exit (nack_output a t).exit
  nack_one r d a x y s t v w =
      nack_same r r d d a a x y s t refl refl refl refl refl refl refl v w
