-- One outcome for each input of each public function: any two that its contract admits are equal, or have the same lines at exit and count
-- as many. Where a ring's oldest line stands is not fixed.
-- Assumes nothing.
use Prim.Native.Nat.{ℕ}
use mathlib.Core.List.{[]}
use mathlib.Core.Path.{◌≡◌, refl, sym, ◌∙◌}
use contract.Lifetimes.{Lfts}
use denote.Triple.Clauses.{AtExit}
use borrow.Fn.Kinds.{Dens, ended_of, res_t}
use Rattle.dead.specs.Places.View.{line_count, view, count_is}
use Rattle.dead.specs.declared.Dead.{Dead}
use Rattle.dead.proofs.none.Kinds as none-kinds
use Rattle.dead.proofs.none.Reads as none-reads
use Rattle.dead.proofs.Dead.new.Kinds as new-kinds
use Rattle.dead.proofs.Dead.new.Reads as new_reads
use Rattle.dead.proofs.Dead.clear.Kinds as clear-kinds
use Rattle.dead.proofs.Dead.clear.Reads as clear-reads
use Rattle.dead.proofs.Dead.join.Kinds as join-kinds
use Rattle.dead.proofs.Dead.join.Reads as join-reads
use Rattle.dead.proofs.Dead.is_dead.Kinds as is-dead-kinds
use Rattle.dead.proofs.Dead.is_dead.Reads as is-dead-reads
use Rattle.dead.proofs.Same.{join_same, is_dead_same}

-- a ring that counts so many lines
abbrev counting : ℕ → Dead
counting n = record { lines = []; at = 0; count = n }

-- two counts of no lines are the same
pub none_one : (κs : Lfts 0) (a : Dens κs none-kinds.ps) (x y : (res_t none-kinds.r κs).Denot)
    (s t : AtExit (ended_of 0 none-kinds.ps none-kinds.r) κs)
    → none-reads.Post κs a x s → none-reads.Post κs a y t → x ≡ y
none_one κs a x y s t p q = sym (count_is (counting x)) ∙ p.1 (counting x) refl ∙ sym (q.1 (counting y) refl) ∙ count_is (counting y)

-- two new rings have the same lines, and count as many
pub new_one : (κs : Lfts 0) (a b : Dens κs new-kinds.ps) (x y : (res_t new-kinds.r κs).Denot)
    (s t : AtExit (ended_of 0 new-kinds.ps new-kinds.r) κs)
    → new_reads.Post κs a x s → new_reads.Post κs b y t
    → (view x ≡ view y) × (line_count x ≡ line_count y)
new_one κs a b x y s t p q = (p.0 ∙ sym q.0, p.1 ∙ sym q.1)

-- two rings that are cleared have the same lines, whatever the memory held, and count as many
pub clear_one : (κs : Lfts 1) (a b : Dens κs clear-kinds.ps) (x y : (res_t clear-kinds.r κs).Denot)
    (s t : AtExit (ended_of 1 clear-kinds.ps clear-kinds.r) κs) → clear-reads.Post κs a x s → clear-reads.Post κs b y t
    → (view s.0.now ≡ view t.0.now) × (line_count s.0.now ≡ line_count t.0.now)
clear_one κs a b x y s t p q = (p.0 ∙ sym q.0, p.1.0 ∙ sym q.1.0)

-- two outcomes of a join have the same lines, and count as many
pub join_one : (κs : Lfts 1) (a : Dens κs join-kinds.ps) (x y : (res_t join-kinds.r κs).Denot)
    (s t : AtExit (ended_of 1 join-kinds.ps join-kinds.r) κs) → join-reads.Post κs a x s → join-reads.Post κs a y t
    → (view s.0.now ≡ view t.0.now) × (line_count s.0.now ≡ line_count t.0.now)
join_one κs a x y s t p q = join_same κs a a x y s t refl refl refl p q

-- two answers whether a fingerprint is live are the same
pub is_dead_one : (κs : Lfts 1) (a : Dens κs is-dead-kinds.ps) (x y : (res_t is-dead-kinds.r κs).Denot)
    (s t : AtExit (ended_of 1 is-dead-kinds.ps is-dead-kinds.r) κs)
    → is-dead-reads.Post κs a x s → is-dead-reads.Post κs a y t → x ≡ y
is_dead_one κs a x y s t p q = is_dead_same κs a a x y s t refl refl refl p q
