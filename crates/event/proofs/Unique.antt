-- One outcome for each input of each public function: any two that its contract admits are the same in everything that it speaks of, also
-- from two memories that mean the same node. Rows and bits that mean no part of the node are fixed only where the contract says outright
-- that they stay.
-- Assumes nothing.
use mathlib.Core.Path.{◌≡◌, refl, sym, ap, ◌∙◌}
use contract.Lifetimes.{Lfts}
use Rattle.std.specs.Prelude.{ℕ, ◌≢◌, Result, Ok, Err, IfErr}
use Rattle.std.specs.Borrow.{Bor, MutBor}
use denote.Triple.Both.{Both}
use denote.Triple.Clauses.{AtExit}
use borrow.Fn.Kinds.{Dens, ended_of, res_t}
use Rattle.answers.specs.declared.Answer.{Answer}
use Rattle.answers.specs.Number.{number_of}
use Rattle.rows.specs.Lent.{Lent}
use Rattle.rules.specs.Node as rules
use Rattle.pending_pass.specs.Lent.{ageing_lent}
use Rattle.event.specs.declared.Memory.{Memory}
use Rattle.faces.specs.declared.Faces.{Faces}
use Rattle.routes.specs.declared.Routes.{Routes}
use Rattle.store.specs.declared.Store.{Store}
use Rattle.event.specs.Memory.{Output, output, memory, still, node_of, small_of}
use Rattle.event.specs.Places.Begins.{began}
use Rattle.event.specs.Laws.Same.{Same, stepped_same, begun_same}
use Rattle.event.proofs.Memory.new.Kinds as new-kinds
use Rattle.event.proofs.Memory.new.Reads as new_reads
use Rattle.event.proofs.Small.none.Kinds as none-kinds
use Rattle.event.proofs.Small.none.Reads as none-reads
use Rattle.event.proofs.clear.Kinds as clear-kinds
use Rattle.event.proofs.clear.Reads as clear_reads
use Rattle.event.proofs.quiet.Kinds as quiet-kinds
use Rattle.event.proofs.quiet.Reads as quiet-reads
use Rattle.event.proofs.is_not_open.Kinds as open-kinds
use Rattle.event.proofs.is_not_open.Reads as open-reads
use Rattle.event.proofs.begins.Kinds as begins-kinds
use Rattle.event.proofs.begins.Reads as begins-reads
use Rattle.event.proofs.clock.Kinds as clock-kinds
use Rattle.event.proofs.clock.Reads as clock-reads

-- two new memories mean the same node
pub new_one : (κs : Lfts 0) (a b : Dens κs new-kinds.ps) (x y : (res_t new-kinds.r κs).Denot)
    (s t : AtExit (ended_of 0 new-kinds.ps new-kinds.r) κs) → new_reads.Post κs a x s → new_reads.Post κs b y t
    → node_of x ≡ node_of y
new_one κs a b x y s t p q = p ∙ sym q

-- with two that are no rows of an empty node any two memories mean the same node
pub none_one : (κs : Lfts 0) (a : Dens κs none-kinds.ps) (x y : (res_t none-kinds.r κs).Denot)
    (s t : AtExit (ended_of 0 none-kinds.ps none-kinds.r) κs) → none-reads.Post κs a x s → none-reads.Post κs a y t
    → (m n : Memory) → small_of m ≡ x → small_of n ≡ y → node_of m ≡ node_of n
none_one κs a x y s t p q m n e d = p m e ∙ sym (q n d)

-- two memories that are cleared mean the same node, whatever they held
pub clear_one : (κs : Lfts 1) (a b : Dens κs clear-kinds.ps) (x y : (res_t clear-kinds.r κs).Denot)
    (s t : AtExit (ended_of 1 clear-kinds.ps clear-kinds.r) κs) → clear_reads.Post κs a x s → clear_reads.Post κs b y t
    → node_of s.0.now ≡ node_of t.0.now
clear_one κs a b x y s t p q = p.0 ∙ sym q.0

-- two answers with nothing sent are the same
pub quiet_one : (κs : Lfts 0) (a : Dens κs quiet-kinds.ps) (x y : (res_t quiet-kinds.r κs).Denot)
    (s t : AtExit (ended_of 0 quiet-kinds.ps quiet-kinds.r) κs) → quiet-reads.Post κs a x s → quiet-reads.Post κs a y t → x ≡ y
quiet_one κs a x y s t p q = p ∙ sym q

-- two answers about a face are the same
pub is_not_open_one : (κs : Lfts 0) (a : Dens κs open-kinds.ps) (x y : (res_t open-kinds.r κs).Denot)
    (s t : AtExit (ended_of 0 open-kinds.ps open-kinds.r) κs) → open-reads.Post κs a x s → open-reads.Post κs a y t → x ≡ y
is_not_open_one κs a x y s t p q = p ∙ sym q

-- what was lent behind `&mut`, from its two ends
abbrev lent : {A : Type 0} → MutBor A → MutBor A → Lent A
lent e x = record { entry = e.now; exit = x.now }

-- what was lent behind `&`, from its two ends
abbrev shown : {A : Type 0} → Bor A → Bor A → Lent A
shown e x = record { entry = e.now; exit = x.now }

-- two results of the beginning of an event that come to the same are the same: no refusal has the number 0
began_one : (x y : Result ℕ Answer) → IfErr x (λ a. number_of a ≢ 0) → IfErr y (λ a. number_of a ≢ 0)
    → (began x).answer ≡ (began y).answer → (began x).made ≡ (began y).made → x ≡ y
unfolding began
began_one (Ok k) (Ok j) p q e m = ap (λ (n : ℕ). Ok n) m
began_one (Ok k) (Err b) p q e m = absurd (q (ap number_of (sym e)))
began_one (Err a) (Ok j) p q e m = absurd (p (ap number_of e))
began_one (Err a) (Err b) p q e m = ap (λ (y : Answer). Err y) e

module _ (κs : Lfts 6) where
  -- the memory of the beginning of an event at entry and at exit, with the tables that it is not lent
  abbrev begins_memory : Faces → Routes → Store → Dens κs begins-kinds.ps → AtExit (ended_of 6 begins-kinds.ps begins-kinds.r) κs
      → Both Memory Memory
  begins_memory f r d a s = memory (lent a.0 s.0) (still f) (still r) (ageing_lent (record { entry = a.1.0; exit = s.1.0 })) (still d)
      (lent a.1.1.0 s.1.1.0)

  -- its output at entry and at exit
  abbrev begins_output : Dens κs begins-kinds.ps → AtExit (ended_of 6 begins-kinds.ps begins-kinds.r) κs → Both Output Output
  begins_output a s = output (shown a.1.1.1.0 s.1.1.1.0) (shown a.1.1.1.1.0 s.1.1.1.1.0) (lent a.1.1.1.1.1.0 s.1.1.1.1.1.0)

  -- the beginning of an event from two memories that mean the same node, with the same time, refusal and output
  pub begins_same : (f g : Faces) (r q : Routes) (d e : Store) (a b : Dens κs begins-kinds.ps) (x y : (res_t begins-kinds.r κs).Denot)
      (s t : AtExit (ended_of 6 begins-kinds.ps begins-kinds.r) κs)
      → a.1.1.1.1.1.1.0 ≡ b.1.1.1.1.1.1.0 → a.1.1.1.1.1.1.1.0 ≡ b.1.1.1.1.1.1.1.0
      → node_of (begins_memory f r d a s).entry ≡ node_of (begins_memory g q e b t).entry
      → (begins_output a s).entry ≡ (begins_output b t).entry
      → begins-reads.Post κs a x s → begins-reads.Post κs b y t
      → (x ≡ y)
      × Same (began x) (began y) (node_of (begins_memory f r d a s).exit) (node_of (begins_memory g q e b t).exit)
      (begins_output a s).exit (begins_output b t).exit
  begins_same f g r q d e a b x y s t et ec n o p w =
      let z = begun_same (began x) (began y) (begins_memory f r d a s) (begins_memory g q e b t) (begins_output a s) (begins_output b t)
      n o _ _ _ _ et ec (p.0 f r d) (w.0 g q e) in
      (began_one x y p.1.0 w.1.0 z.answer z.made, z)

  -- two outcomes of the beginning of an event
  pub begins_one : (f : Faces) (r : Routes) (d : Store) (a : Dens κs begins-kinds.ps) (x y : (res_t begins-kinds.r κs).Denot)
      (s t : AtExit (ended_of 6 begins-kinds.ps begins-kinds.r) κs)
      → begins-reads.Post κs a x s → begins-reads.Post κs a y t
      → (x ≡ y)
      × Same (began x) (began y) (node_of (begins_memory f r d a s).exit) (node_of (begins_memory f r d a t).exit)
      (begins_output a s).exit (begins_output a t).exit
  begins_one f r d a x y s t p w = begins_same f f r r d d a a x y s t refl refl refl refl p w

module _ (κs : Lfts 6) where
  -- the memory of a reading of the clock at entry and at exit, with the tables that it is not lent
  abbrev pub clock_memory : Faces → Routes → Store → Dens κs clock-kinds.ps → AtExit (ended_of 6 clock-kinds.ps clock-kinds.r) κs
      → Both Memory Memory
  clock_memory f r d a s = memory (lent a.0 s.0) (still f) (still r) (ageing_lent (record { entry = a.1.0; exit = s.1.0 })) (still d)
      (lent a.1.1.0 s.1.1.0)

  -- its output at entry and at exit
  abbrev pub clock_output : Dens κs clock-kinds.ps → AtExit (ended_of 6 clock-kinds.ps clock-kinds.r) κs → Both Output Output
  clock_output a s = output (shown a.1.1.1.0 s.1.1.1.0) (shown a.1.1.1.1.0 s.1.1.1.1.0) (lent a.1.1.1.1.1.0 s.1.1.1.1.1.0)

  -- a reading of the clock from two memories that mean the same node, with the same time and output
  pub clock_same : (f g : Faces) (r q : Routes) (d e : Store) (a b : Dens κs clock-kinds.ps) (x y : (res_t clock-kinds.r κs).Denot)
      (s t : AtExit (ended_of 6 clock-kinds.ps clock-kinds.r) κs)
      → a.1.1.1.1.1.1.0 ≡ b.1.1.1.1.1.1.0
      → node_of (clock_memory f r d a s).entry ≡ node_of (clock_memory g q e b t).entry
      → (clock_output a s).entry ≡ (clock_output b t).entry
      → clock-reads.Post κs a x s → clock-reads.Post κs b y t
      → Same x y (node_of (clock_memory f r d a s).exit) (node_of (clock_memory g q e b t).exit)
      (clock_output a s).exit (clock_output b t).exit
  clock_same f g r q d e a b x y s t et n o p w =
      stepped_same x y (clock_memory f r d a s) (clock_memory g q e b t) (clock_output a s) (clock_output b t) n o
      _ _ rules.clock rules.clock et refl (p f r d) (w g q e)

  -- two outcomes of a reading of the clock
  pub clock_one : (f : Faces) (r : Routes) (d : Store) (a : Dens κs clock-kinds.ps) (x y : (res_t clock-kinds.r κs).Denot)
      (s t : AtExit (ended_of 6 clock-kinds.ps clock-kinds.r) κs)
      → clock-reads.Post κs a x s → clock-reads.Post κs a y t
      → Same x y (node_of (clock_memory f r d a s).exit) (node_of (clock_memory f r d a t).exit)
      (clock_output a s).exit (clock_output a t).exit
  clock_one f r d a x y s t p w = clock_same f f r r d d a a x y s t refl refl refl p w
