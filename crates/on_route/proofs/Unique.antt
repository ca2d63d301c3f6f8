-- One outcome for each input of each public function: any two that its contract admits are the same in everything that it speaks of, also
-- from two memories that mean the same node. Rows and bits that mean no part of the node are fixed only where the contract says outright
-- that they stay.
-- Assumes nothing.
use mathlib.Core.Path.{◌≡◌, refl}
use contract.Lifetimes.{Lfts}
use Rattle.std.specs.Borrow.{Bor, MutBor}
use denote.Triple.Both.{Both}
use denote.Triple.Clauses.{AtExit}
use borrow.Fn.Kinds.{Dens, ended_of, res_t}
use Rattle.rows.specs.Lent.{Lent}
use Rattle.pending_pass.specs.Lent.{ageing_lent}
use Rattle.routes.specs.Lent.{setting_lent, hopping_lent, dropping_lent}
use Rattle.rules.specs.Node as rules
use Rattle.event.specs.declared.Memory.{Memory}
use Rattle.faces.specs.declared.Faces.{Faces}
use Rattle.store.specs.declared.Store.{Store}
use Rattle.event.specs.Memory.{Output, output, memory, still, node_of}
use Rattle.event.specs.Laws.Same.{Same, stepped_same}
use Rattle.on_route.proofs.drop_route.Kinds as drop-route-kinds
use Rattle.on_route.proofs.drop_route.Reads as drop-route-reads
use Rattle.on_route.proofs.set_route.Kinds as set-route-kinds
use Rattle.on_route.proofs.set_route.Reads as set-route-reads
use Rattle.on_route.proofs.add_hop.Kinds as add-hop-kinds
use Rattle.on_route.proofs.add_hop.Reads as add-hop-reads
use Rattle.on_route.proofs.drop_hop.Kinds as drop-hop-kinds
use Rattle.on_route.proofs.drop_hop.Reads as drop-hop-reads

-- what was lent behind `&mut`, from its two ends
abbrev lent : {A : Type 0} → MutBor A → MutBor A → Lent A
lent e x = record { entry = e.now; exit = x.now }

-- what was lent behind `&`, from its two ends
abbrev shown : {A : Type 0} → Bor A → Bor A → Lent A
shown e x = record { entry = e.now; exit = x.now }

module _ (κs : Lfts 8) where
  -- the memory of dropping a route at entry and at exit, with what it is not lent
  abbrev pub drop_route_memory : Faces → Store → Dens κs drop-route-kinds.ps
      → AtExit (ended_of 8 drop-route-kinds.ps drop-route-kinds.r) κs → Both Memory Memory
  drop_route_memory f d a s =
      memory (lent a.0 s.0) (still f) (lent a.1.0 s.1.0)
      (ageing_lent (record { entry = a.1.1.0; exit = s.1.1.0 })) (still d) (lent a.1.1.1.0 s.1.1.1.0)

  -- its output at entry and at exit
  abbrev pub drop_route_output : Dens κs drop-route-kinds.ps
      → AtExit (ended_of 8 drop-route-kinds.ps drop-route-kinds.r) κs → Both Output Output
  drop_route_output a s =
      output (shown a.1.1.1.1.0 s.1.1.1.1.0) (shown a.1.1.1.1.1.0 s.1.1.1.1.1.0) (lent a.1.1.1.1.1.1.0 s.1.1.1.1.1.1.0)

  -- its command
  abbrev pub drop_route_what : Dens κs drop-route-kinds.ps → rules.What
  drop_route_what a = rules.drop_route a.1.1.1.1.1.1.1.1.0.now

  -- dropping a route from two memories that mean the same node, with the same time, command and output
  pub drop_route_same : (f g : Faces) (d e : Store) (a b : Dens κs drop-route-kinds.ps) (x y : (res_t drop-route-kinds.r κs).Denot)
      (s t : AtExit (ended_of 8 drop-route-kinds.ps drop-route-kinds.r) κs)
      → a.1.1.1.1.1.1.1.0 ≡ b.1.1.1.1.1.1.1.0
      → drop_route_what a ≡ drop_route_what b
      → node_of (drop_route_memory f d a s).entry ≡ node_of (drop_route_memory g e b t).entry
      → (drop_route_output a s).entry ≡ (drop_route_output b t).entry
      → drop-route-reads.Post κs a x s → drop-route-reads.Post κs b y t
      → Same x y (node_of (drop_route_memory f d a s).exit) (node_of (drop_route_memory g e b t).exit)
      (drop_route_output a s).exit (drop_route_output b t).exit
  drop_route_same f g d e a b x y s t et ew n o v w =
      stepped_same x y (drop_route_memory f d a s) (drop_route_memory g e b t) (drop_route_output a s) (drop_route_output b t) n o
      _ _ (drop_route_what a) (drop_route_what b) et ew (v f d) (w g e)

  -- two outcomes of dropping a route
  pub drop_route_one : (f : Faces) (d : Store) (a : Dens κs drop-route-kinds.ps) (x y : (res_t drop-route-kinds.r κs).Denot)
      (s t : AtExit (ended_of 8 drop-route-kinds.ps drop-route-kinds.r) κs)
      → drop-route-reads.Post κs a x s → drop-route-reads.Post κs a y t
      → Same x y (node_of (drop_route_memory f d a s).exit) (node_of (drop_route_memory f d a t).exit)
      (drop_route_output a s).exit (drop_route_output a t).exit
  drop_route_one f d a x y s t v w = drop_route_same f f d d a a x y s t refl refl refl refl v w

module _ (κs : Lfts 8) where
  -- the memory of setting a route at entry and at exit, with what it is not lent
  abbrev pub set_route_memory : Faces → Store → Dens κs set-route-kinds.ps
      → AtExit (ended_of 8 set-route-kinds.ps set-route-kinds.r) κs → Both Memory Memory
  set_route_memory f d a s =
      memory (lent a.0 s.0) (still f) (setting_lent (record { entry = a.1.0; exit = s.1.0 }))
      (ageing_lent (record { entry = a.1.1.0; exit = s.1.1.0 })) (still d) (lent a.1.1.1.0 s.1.1.1.0)

  -- its output at entry and at exit
  abbrev pub set_route_output : Dens κs set-route-kinds.ps
      → AtExit (ended_of 8 set-route-kinds.ps set-route-kinds.r) κs → Both Output Output
  set_route_output a s =
      output (shown a.1.1.1.1.0 s.1.1.1.1.0) (shown a.1.1.1.1.1.0 s.1.1.1.1.1.0) (lent a.1.1.1.1.1.1.0 s.1.1.1.1.1.1.0)

  -- its command
  abbrev pub set_route_what : Dens κs set-route-kinds.ps → rules.What
  set_route_what a = rules.set_route a.1.1.1.1.1.1.1.1.0 a.1.1.1.1.1.1.1.1.1.0.now

  -- setting a route from two memories that mean the same node, with the same time, command and output
  pub set_route_same : (f g : Faces) (d e : Store) (a b : Dens κs set-route-kinds.ps) (x y : (res_t set-route-kinds.r κs).Denot)
      (s t : AtExit (ended_of 8 set-route-kinds.ps set-route-kinds.r) κs)
      → a.1.1.1.1.1.1.1.0 ≡ b.1.1.1.1.1.1.1.0
      → set_route_what a ≡ set_route_what b
      → node_of (set_route_memory f d a s).entry ≡ node_of (set_route_memory g e b t).entry
      → (set_route_output a s).entry ≡ (set_route_output b t).entry
      → set-route-reads.Post κs a x s → set-route-reads.Post κs b y t
      → Same x y (node_of (set_route_memory f d a s).exit) (node_of (set_route_memory g e b t).exit)
      (set_route_output a s).exit (set_route_output b t).exit
  set_route_same f g d e a b x y s t et ew n o v w =
      stepped_same x y (set_route_memory f d a s) (set_route_memory g e b t) (set_route_output a s) (set_route_output b t) n o
      _ _ (set_route_what a) (set_route_what b) et ew (v f d) (w g e)

  -- two outcomes of setting a route
  pub set_route_one : (f : Faces) (d : Store) (a : Dens κs set-route-kinds.ps) (x y : (res_t set-route-kinds.r κs).Denot)
      (s t : AtExit (ended_of 8 set-route-kinds.ps set-route-kinds.r) κs)
      → set-route-reads.Post κs a x s → set-route-reads.Post κs a y t
      → Same x y (node_of (set_route_memory f d a s).exit) (node_of (set_route_memory f d a t).exit)
      (set_route_output a s).exit (set_route_output a t).exit
  set_route_one f d a x y s t v w = set_route_same f f d d a a x y s t refl refl refl refl v w

module _ (κs : Lfts 8) where
  -- the memory of adding a hop at entry and at exit, with what it is not lent
  abbrev pub add_hop_memory : Store → Dens κs add-hop-kinds.ps
      → AtExit (ended_of 8 add-hop-kinds.ps add-hop-kinds.r) κs → Both Memory Memory
  add_hop_memory d a s =
      memory (lent a.0 s.0) (still a.1.0) (hopping_lent (record { entry = a.1.1.0; exit = s.1.1.0 }))
      (ageing_lent (record { entry = a.1.1.1.0; exit = s.1.1.1.0 })) (still d) (lent a.1.1.1.1.0 s.1.1.1.1.0)

  -- its output at entry and at exit
  abbrev pub add_hop_output : Dens κs add-hop-kinds.ps
      → AtExit (ended_of 8 add-hop-kinds.ps add-hop-kinds.r) κs → Both Output Output
  add_hop_output a s =
      output (shown a.1.1.1.1.1.0 s.1.1.1.1.1.0) (shown a.1.1.1.1.1.1.0 s.1.1.1.1.1.1.0) (lent a.1.1.1.1.1.1.1.0 s.1.1.1.1.1.1.1.0)

  -- its command
  abbrev pub add_hop_what : Dens κs add-hop-kinds.ps → rules.What
  add_hop_what a = rules.add_hop a.1.1.1.1.1.1.1.1.1.0 a.1.1.1.1.1.1.1.1.1.1.0 a.1.1.1.1.1.1.1.1.1.1.1.0.now

  -- adding a hop from two memories that mean the same node, with the same time, command and output
  pub add_hop_same : (d e : Store) (a b : Dens κs add-hop-kinds.ps) (x y : (res_t add-hop-kinds.r κs).Denot)
      (s t : AtExit (ended_of 8 add-hop-kinds.ps add-hop-kinds.r) κs)
      → a.1.1.1.1.1.1.1.1.0 ≡ b.1.1.1.1.1.1.1.1.0
      → add_hop_what a ≡ add_hop_what b
      → node_of (add_hop_memory d a s).entry ≡ node_of (add_hop_memory e b t).entry
      → (add_hop_output a s).entry ≡ (add_hop_output b t).entry
      → add-hop-reads.Post κs a x s → add-hop-reads.Post κs b y t
      → Same x y (node_of (add_hop_memory d a s).exit) (node_of (add_hop_memory e b t).exit)
      (add_hop_output a s).exit (add_hop_output b t).exit
  add_hop_same d e a b x y s t et ew n o v w =
      stepped_same x y (add_hop_memory d a s) (add_hop_memory e b t) (add_hop_output a s) (add_hop_output b t) n o
      _ _ (add_hop_what a) (add_hop_what b) et ew (v d) (w e)

  -- two outcomes of adding a hop
  pub add_hop_one : (d : Store) (a : Dens κs add-hop-kinds.ps) (x y : (res_t add-hop-kinds.r κs).Denot)
      (s t : AtExit (ended_of 8 add-hop-kinds.ps add-hop-kinds.r) κs)
      → add-hop-reads.Post κs a x s → add-hop-reads.Post κs a y t
      → Same x y (node_of (add_hop_memory d a s).exit) (node_of (add_hop_memory d a t).exit)
      (add_hop_output a s).exit (add_hop_output a t).exit
  add_hop_one d a x y s t v w = add_hop_same d d a a x y s t refl refl refl refl v w

module _ (κs : Lfts 8) where
  -- the memory of dropping a hop at entry and at exit, with what it is not lent
  abbrev pub drop_hop_memory : Store → Dens κs drop-hop-kinds.ps
      → AtExit (ended_of 8 drop-hop-kinds.ps drop-hop-kinds.r) κs → Both Memory Memory
  drop_hop_memory d a s =
      memory (lent a.0 s.0) (still a.1.0) (dropping_lent (record { entry = a.1.1.0; exit = s.1.1.0 }))
      (ageing_lent (record { entry = a.1.1.1.0; exit = s.1.1.1.0 })) (still d) (lent a.1.1.1.1.0 s.1.1.1.1.0)

  -- its output at entry and at exit
  abbrev pub drop_hop_output : Dens κs drop-hop-kinds.ps
      → AtExit (ended_of 8 drop-hop-kinds.ps drop-hop-kinds.r) κs → Both Output Output
  drop_hop_output a s =
      output (shown a.1.1.1.1.1.0 s.1.1.1.1.1.0) (shown a.1.1.1.1.1.1.0 s.1.1.1.1.1.1.0) (lent a.1.1.1.1.1.1.1.0 s.1.1.1.1.1.1.1.0)

  -- its command
  abbrev pub drop_hop_what : Dens κs drop-hop-kinds.ps → rules.What
  drop_hop_what a = rules.drop_hop a.1.1.1.1.1.1.1.1.1.0 a.1.1.1.1.1.1.1.1.1.1.0.now

  -- dropping a hop from two memories that mean the same node, with the same time, command and output
  pub drop_hop_same : (d e : Store) (a b : Dens κs drop-hop-kinds.ps) (x y : (res_t drop-hop-kinds.r κs).Denot)
      (s t : AtExit (ended_of 8 drop-hop-kinds.ps drop-hop-kinds.r) κs)
      → a.1.1.1.1.1.1.1.1.0 ≡ b.1.1.1.1.1.1.1.1.0
      → drop_hop_what a ≡ drop_hop_what b
      → node_of (drop_hop_memory d a s).entry ≡ node_of (drop_hop_memory e b t).entry
      → (drop_hop_output a s).entry ≡ (drop_hop_output b t).entry
      → drop-hop-reads.Post κs a x s → drop-hop-reads.Post κs b y t
      → Same x y (node_of (drop_hop_memory d a s).exit) (node_of (drop_hop_memory e b t).exit)
      (drop_hop_output a s).exit (drop_hop_output b t).exit
  drop_hop_same d e a b x y s t et ew n o v w =
      stepped_same x y (drop_hop_memory d a s) (drop_hop_memory e b t) (drop_hop_output a s) (drop_hop_output b t) n o
      _ _ (drop_hop_what a) (drop_hop_what b) et ew (v d) (w e)

  -- two outcomes of dropping a hop
  pub drop_hop_one : (d : Store) (a : Dens κs drop-hop-kinds.ps) (x y : (res_t drop-hop-kinds.r κs).Denot)
      (s t : AtExit (ended_of 8 drop-hop-kinds.ps drop-hop-kinds.r) κs)
      → drop-hop-reads.Post κs a x s → drop-hop-reads.Post κs a y t
      → Same x y (node_of (drop_hop_memory d a s).exit) (node_of (drop_hop_memory d a t).exit)
      (drop_hop_output a s).exit (drop_hop_output a t).exit
  drop_hop_one d a x y s t v w = drop_hop_same d d a a x y s t refl refl refl refl v w
