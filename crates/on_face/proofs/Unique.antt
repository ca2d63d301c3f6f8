-- One outcome for each input of each public function: any two that its contract admits are the same in everything that it speaks of, also
-- from two memories that mean the same node. Rows and bits that mean no part of the node are fixed only where the contract says outright
-- that they stay.
-- Assumes nothing.
use mathlib.Core.Path.{◌≡◌, refl}
use contract.Lifetimes.{Lfts}
use Rattle.std.specs.Borrow.{Bor, MutBor}
use denote.Triple.Both.{Both}
use denote.Triple.Clauses.{AtExit}
use borrow.Fn.Kinds.{Dens, ended_of, res_t}
use Rattle.rows.specs.Lent.{Lent}
use Rattle.rules.specs.Node as rules
use Rattle.routes.specs.Lent.{dropping_lent}
use Rattle.pending_pass.specs.Lent.{ageing_lent}
use Rattle.event.specs.declared.Memory.{Memory}
use Rattle.routes.specs.declared.Routes.{Routes}
use Rattle.store.specs.declared.Store.{Store}
use Rattle.event.specs.Memory.{Output, output, memory, still, node_of}
use Rattle.event.specs.Laws.Same.{Same, stepped_same}
use Rattle.on_face.proofs.open_face.Kinds as open-face-kinds
use Rattle.on_face.proofs.open_face.Reads as open-face-reads
use Rattle.on_face.proofs.close_face.Kinds as close-face-kinds
use Rattle.on_face.proofs.close_face.Reads as close-face-reads

-- what was lent behind `&mut`, from its two ends
abbrev lent : {A : Type 0} → MutBor A → MutBor A → Lent A
lent e x = record { entry = e.now; exit = x.now }

-- what was lent behind `&`, from its two ends
abbrev shown : {A : Type 0} → Bor A → Bor A → Lent A
shown e x = record { entry = e.now; exit = x.now }

module _ (κs : Lfts 7) where
  -- the memory of opening a face at entry and at exit, with what it is not lent
  abbrev pub open_face_memory : Routes → Store → Dens κs open-face-kinds.ps
      → AtExit (ended_of 7 open-face-kinds.ps open-face-kinds.r) κs → Both Memory Memory
  open_face_memory r d a s =
      memory (lent a.0 s.0) (lent a.1.0 s.1.0) (still r)
      (ageing_lent (record { entry = a.1.1.0; exit = s.1.1.0 })) (still d) (lent a.1.1.1.0 s.1.1.1.0)

  -- its output at entry and at exit
  abbrev pub open_face_output : Dens κs open-face-kinds.ps
      → AtExit (ended_of 7 open-face-kinds.ps open-face-kinds.r) κs → Both Output Output
  open_face_output a s =
      output (shown a.1.1.1.1.0 s.1.1.1.1.0) (shown a.1.1.1.1.1.0 s.1.1.1.1.1.0) (lent a.1.1.1.1.1.1.0 s.1.1.1.1.1.1.0)

  -- its command
  abbrev pub open_face_what : Dens κs open-face-kinds.ps → rules.What
  open_face_what a = rules.open_face a.1.1.1.1.1.1.1.1.0 a.1.1.1.1.1.1.1.1.1.0 a.1.1.1.1.1.1.1.1.1.1.0

  -- opening a face from two memories that mean the same node, with the same time, command and output
  pub open_face_same : (r q : Routes) (d e : Store) (a b : Dens κs open-face-kinds.ps) (x y : (res_t open-face-kinds.r κs).Denot)
      (s t : AtExit (ended_of 7 open-face-kinds.ps open-face-kinds.r) κs)
      → a.1.1.1.1.1.1.1.0 ≡ b.1.1.1.1.1.1.1.0
      → open_face_what a ≡ open_face_what b
      → node_of (open_face_memory r d a s).entry ≡ node_of (open_face_memory q e b t).entry
      → (open_face_output a s).entry ≡ (open_face_output b t).entry
      → open-face-reads.Post κs a x s → open-face-reads.Post κs b y t
      → Same x y (node_of (open_face_memory r d a s).exit) (node_of (open_face_memory q e b t).exit)
      (open_face_output a s).exit (open_face_output b t).exit
  open_face_same r q d e a b x y s t et ew n o v w =
      stepped_same x y (open_face_memory r d a s) (open_face_memory q e b t) (open_face_output a s) (open_face_output b t) n o
      _ _ (open_face_what a) (open_face_what b) et ew (v r d) (w q e)

  -- two outcomes of opening a face
  pub open_face_one : (r : Routes) (d : Store) (a : Dens κs open-face-kinds.ps) (x y : (res_t open-face-kinds.r κs).Denot)
      (s t : AtExit (ended_of 7 open-face-kinds.ps open-face-kinds.r) κs)
      → open-face-reads.Post κs a x s → open-face-reads.Post κs a y t
      → Same x y (node_of (open_face_memory r d a s).exit) (node_of (open_face_memory r d a t).exit)
      (open_face_output a s).exit (open_face_output a t).exit
  open_face_one r d a x y s t v w = open_face_same r r d d a a x y s t refl refl refl refl v w

module _ (κs : Lfts 8) where
  -- the memory of closing a face at entry and at exit, with what it is not lent
  abbrev pub close_face_memory : Store → Dens κs close-face-kinds.ps
      → AtExit (ended_of 8 close-face-kinds.ps close-face-kinds.r) κs → Both Memory Memory
  close_face_memory d a s =
      memory (lent a.0 s.0) (lent a.1.0 s.1.0) (dropping_lent (record { entry = a.1.1.0; exit = s.1.1.0 }))
      (ageing_lent (record { entry = a.1.1.1.0; exit = s.1.1.1.0 })) (still d) (lent a.1.1.1.1.0 s.1.1.1.1.0)

  -- its output at entry and at exit
  abbrev pub close_face_output : Dens κs close-face-kinds.ps
      → AtExit (ended_of 8 close-face-kinds.ps close-face-kinds.r) κs → Both Output Output
  close_face_output a s =
      output (shown a.1.1.1.1.1.0 s.1.1.1.1.1.0) (shown a.1.1.1.1.1.1.0 s.1.1.1.1.1.1.0) (lent a.1.1.1.1.1.1.1.0 s.1.1.1.1.1.1.1.0)

  -- its command
  abbrev pub close_face_what : Dens κs close-face-kinds.ps → rules.What
  close_face_what a = rules.close_face a.1.1.1.1.1.1.1.1.1.0

  -- closing a face from two memories that mean the same node, with the same time, command and output
  pub close_face_same : (d e : Store) (a b : Dens κs close-face-kinds.ps) (x y : (res_t close-face-kinds.r κs).Denot)
      (s t : AtExit (ended_of 8 close-face-kinds.ps close-face-kinds.r) κs)
      → a.1.1.1.1.1.1.1.1.0 ≡ b.1.1.1.1.1.1.1.1.0
      → close_face_what a ≡ close_face_what b
      → node_of (close_face_memory d a s).entry ≡ node_of (close_face_memory e b t).entry
      → (close_face_output a s).entry ≡ (close_face_output b t).entry
      → close-face-reads.Post κs a x s → close-face-reads.Post κs b y t
      → Same x y (node_of (close_face_memory d a s).exit) (node_of (close_face_memory e b t).exit)
      (close_face_output a s).exit (close_face_output b t).exit
  close_face_same d e a b x y s t et ew n o v w =
      stepped_same x y (close_face_memory d a s) (close_face_memory e b t) (close_face_output a s) (close_face_output b t) n o
      _ _ (close_face_what a) (close_face_what b) et ew (v d) (w e)

  -- two outcomes of closing a face
  pub close_face_one : (d : Store) (a : Dens κs close-face-kinds.ps) (x y : (res_t close-face-kinds.r κs).Denot)
      (s t : AtExit (ended_of 8 close-face-kinds.ps close-face-kinds.r) κs)
      → close-face-reads.Post κs a x s → close-face-reads.Post κs a y t
      → Same x y (node_of (close_face_memory d a s).exit) (node_of (close_face_memory d a t).exit)
      (close_face_output a s).exit (close_face_output a t).exit
  close_face_one d a x y s t v w = close_face_same d d a a x y s t refl refl refl refl v w
