-- One outcome for each input of each public function: any two that its contract admits are the same in everything that it speaks of, also
-- from two memories that mean the same node. Rows and bits that mean no part of the node are not fixed.
-- Assumes nothing.
use Prim.Native.Nat.{ℕ}
use mathlib.Core.Path.{◌≡◌, refl, sym, ap, ◌∙◌}
use contract.Lifetimes.{Lfts}
use Rattle.std.specs.Borrow.{MutBor}
use denote.Triple.Both.{Both}
use denote.Triple.Clauses.{AtExit}
use borrow.Fn.Kinds.{Dens, ended_of, res_t}
use Rattle.rows.specs.Lent.{Lent}
use Rattle.store.specs.declared.Store.{Store}
use Rattle.dead.specs.declared.Dead.{Dead}
use Rattle.sending.specs.Laws.Same.{packs_same}
use Rattle.event.specs.declared.Memory.{Memory}
use Rattle.event.specs.Memory.{Output, output, node_of}
use Rattle.event.specs.Laws.Same.{Same}
use Rattle.opening.specs.Places.Asked.{came}
use Rattle.opening.specs.Places.Beside.{beside}
use Rattle.opening.specs.Laws.Same.{route_on_same}
use Rattle.opening.proofs.refused.Kinds as refused-kinds
use Rattle.opening.proofs.refused.Reads as refused-reads
use Rattle.opening.proofs.route.Kinds as kinds
use Rattle.routes.specs.Places.Parts.{known_routes}
use Rattle.opening.proofs.route.Reads as reads

-- what was lent behind `&mut`, from its two ends
abbrev lent : {A : Type 0} → MutBor A → MutBor A → Lent A
lent e x = record { entry = e.now; exit = x.now }

-- two outcomes of a refusal
pub refused_one : (κs : Lfts 4) (a : Dens κs refused-kinds.ps) (x y : (res_t refused-kinds.r κs).Denot)
    (s t : AtExit (ended_of 4 refused-kinds.ps refused-kinds.r) κs)
    → refused-reads.Post κs a x s → refused-reads.Post κs a y t
    → (x ≡ y) × (s.1.1.0.now ≡ t.1.1.0.now) × (s.1.1.1.0.now ≡ t.1.1.1.0.now)
refused_one κs a x y s t p q =
    let one = packs_same p.1 q.1 in
    let made = a.1.1.1.1.0 in
    let answer = a.1.1.1.1.1.1.0 in
    (p.0 ∙ ap (λ (n : ℕ). came answer n made) one.0 ∙ sym q.0, one.1, one.2)

module _ (κs : Lfts 7) where
  -- the memory of an Interest at entry and at exit, with any store and dead nonces
  abbrev pub route_memory : Dens κs kinds.ps → AtExit (ended_of 7 kinds.ps kinds.r) κs → Store → Dead → Both Memory Memory
  route_memory a s k d = beside a.0 a.1.0 (known_routes a.1.1.0) (lent a.1.1.1.0 s.1.1.1.0) k d

  -- its output at entry and at exit
  abbrev pub route_output : Dens κs kinds.ps → AtExit (ended_of 7 kinds.ps kinds.r) κs → Both Output Output
  route_output a s =
      output
      (lent a.1.1.1.1.0 s.1.1.1.1.0)
      (lent a.1.1.1.1.1.0 s.1.1.1.1.1.0)
      (lent a.1.1.1.1.1.1.0 s.1.1.1.1.1.1.0)

  -- the same Interest of the same name on one face, after as many rows, from two memories that mean the same node, with the same output
  pub route_same : (a b : Dens κs kinds.ps) (x y : (res_t kinds.r κs).Denot) (s t : AtExit (ended_of 7 kinds.ps kinds.r) κs)
      (ka : Store) (da : Dead) (kb : Store) (db : Dead)
      → a.1.1.1.1.1.1.1.0 ≡ b.1.1.1.1.1.1.1.0
      → a.1.1.1.1.1.1.1.1.0 ≡ b.1.1.1.1.1.1.1.1.0
      → a.1.1.1.1.1.1.1.1.1.0.now ≡ b.1.1.1.1.1.1.1.1.1.0.now
      → a.1.1.1.1.1.1.1.1.1.1.0.now ≡ b.1.1.1.1.1.1.1.1.1.1.0.now
      → a.1.1.1.1.1.1.1.1.1.1.1.0 ≡ b.1.1.1.1.1.1.1.1.1.1.1.0
      → node_of (route_memory a s ka da).entry ≡ node_of (route_memory b t kb db).entry
      → (route_output a s).entry ≡ (route_output b t).entry
      → reads.Post κs a x s → reads.Post κs b y t
      → Same x y (node_of (route_memory a s ka da).exit) (node_of (route_memory b t kb db).exit)
      (route_output a s).exit (route_output b t).exit
  route_same a b x y s t ka da kb db ek ef en eb ei n o p q =
      route_on_same x y (route_memory a s ka da) (route_memory b t kb db) (route_output a s) (route_output b t) n o
      _ _ _ _ _ _ _ _ _ _ ek ef en eb ei (p ka da) (q kb db)

  -- two outcomes of an Interest
  pub route_one : (a : Dens κs kinds.ps) (x y : (res_t kinds.r κs).Denot) (s t : AtExit (ended_of 7 kinds.ps kinds.r) κs)
      (k : Store) (d : Dead) → reads.Post κs a x s → reads.Post κs a y t
      → Same x y (node_of (route_memory a s k d).exit) (node_of (route_memory a t k d).exit)
      (route_output a s).exit (route_output a t).exit
  route_one a x y s t k d p q = route_same a a x y s t k d k d refl refl refl refl refl refl refl p q
