-- One outcome for each input of each public function: any two that its contract admits are the same in everything that it speaks of, also
-- from two memories that mean the same node. Rows and bits that mean no part of the node are fixed only where the contract says outright
-- that they stay.
-- Assumes nothing.
use mathlib.Core.Path.{◌≡◌, refl}
use contract.Lifetimes.{Lfts}
use Rattle.std.specs.Borrow.{MutBor}
use denote.Triple.Both.{Both}
use denote.Triple.Clauses.{AtExit}
use borrow.Fn.Kinds.{Dens, ended_of, res_t}
use Rattle.rows.specs.Lent.{Lent}
use Rattle.pending_pass.specs.Lent.{leaving_lent}
use Rattle.event.specs.declared.Memory.{Memory}
use Rattle.routes.specs.declared.Routes.{Routes}
use Rattle.event.specs.Memory.{Output, output, memory, still, node_of}
use Rattle.event.specs.Laws.Same.{Same}
use Rattle.on_data.specs.Laws.Same.{data_on_same}
use Rattle.on_data.proofs.data.Kinds as kinds
use Rattle.on_data.proofs.data.Reads as reads

-- what was lent behind `&mut`, from its two ends
abbrev lent : {A : Type 0} → MutBor A → MutBor A → Lent A
lent e x = record { entry = e.now; exit = x.now }

module _ (κs : Lfts 7) where
  -- the memory of a Data at entry and at exit, with what it is not lent
  abbrev data_memory : Routes → Dens κs kinds.ps → AtExit (ended_of 7 kinds.ps kinds.r) κs → Both Memory Memory
  data_memory r a s =
      memory (still a.0) (still a.1.0) (still r) (leaving_lent (record { entry = a.1.1.0; exit = s.1.1.0 }))
      (lent a.1.1.1.0 s.1.1.1.0) (lent a.1.1.1.1.0 s.1.1.1.1.0)

  -- its output at entry and at exit
  abbrev data_output : Dens κs kinds.ps → AtExit (ended_of 7 kinds.ps kinds.r) κs → Both Output Output
  data_output a s =
      output (lent a.1.1.1.1.1.0 s.1.1.1.1.1.0) (lent a.1.1.1.1.1.1.0 s.1.1.1.1.1.1.0) (lent a.1.1.1.1.1.1.1.0 s.1.1.1.1.1.1.1.0)

  -- the same Data on the same face, after as many rows, from two memories that mean the same node, with the same output
  pub data_same : (r q : Routes) (a b : Dens κs kinds.ps) (x y : (res_t kinds.r κs).Denot)
      (s t : AtExit (ended_of 7 kinds.ps kinds.r) κs)
      → a.1.1.1.1.1.1.1.1.0 ≡ b.1.1.1.1.1.1.1.1.0
      → a.1.1.1.1.1.1.1.1.1.0 ≡ b.1.1.1.1.1.1.1.1.1.0
      → a.1.1.1.1.1.1.1.1.1.1.0.now ≡ b.1.1.1.1.1.1.1.1.1.1.0.now
      → a.1.1.1.1.1.1.1.1.1.1.1.0 ≡ b.1.1.1.1.1.1.1.1.1.1.1.0
      → node_of (data_memory r a s).entry ≡ node_of (data_memory q b t).entry
      → (data_output a s).entry ≡ (data_output b t).entry
      → reads.Post κs a x s → reads.Post κs b y t
      → Same x y (node_of (data_memory r a s).exit) (node_of (data_memory q b t).exit)
      (data_output a s).exit (data_output b t).exit
  data_same r q a b x y s t ek ef eb ed n o v w =
      data_on_same x y (data_memory r a s) (data_memory q b t) (data_output a s) (data_output b t) n o
      _ _ _ _ _ _ _ _ ek ef eb ed (v r) (w q)

  -- two outcomes of a Data
  pub data_one : (r : Routes) (a : Dens κs kinds.ps) (x y : (res_t kinds.r κs).Denot) (s t : AtExit (ended_of 7 kinds.ps kinds.r) κs)
      → reads.Post κs a x s → reads.Post κs a y t
      → Same x y (node_of (data_memory r a s).exit) (node_of (data_memory r a t).exit)
      (data_output a s).exit (data_output a t).exit
  data_one r a x y s t v w =
      data_same r r a a x y s t refl refl refl refl refl refl v w
