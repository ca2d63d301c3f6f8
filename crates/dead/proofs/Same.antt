-- Rings with equal lines give equal answers and equal lines: each public function, from its contract.
-- Assumes nothing.
use mathlib.Core.Path.{◌≡◌, sym, ap, ◌∙◌}
use lib.ListN.{length}
use contract.Lifetimes.{Lfts}
use denote.Triple.Clauses.{AtExit}
use borrow.Fn.Kinds.{Dens, ended_of, res_t}
use Rattle.dead.specs.Places.View.{line_count, view}
use Rattle.dead.proofs.Dead.join.Kinds as join-kinds
use Rattle.dead.proofs.Dead.join.Reads as join-reads
use Rattle.dead.proofs.Dead.is_dead.Kinds as is-dead-kinds
use Rattle.dead.proofs.Dead.is_dead.Reads as is-dead-reads

-- a line that joins equal lines leaves equal lines, as many of them
pub join_same : (κs : Lfts 1) (a b : Dens κs join-kinds.ps) (x y : (res_t join-kinds.r κs).Denot)
    (s t : AtExit (ended_of 1 join-kinds.ps join-kinds.r) κs)
    → view a.0.now ≡ view b.0.now → a.1.0 ≡ b.1.0 → a.1.1.0 ≡ b.1.1.0
    → join-reads.Post κs a x s → join-reads.Post κs b y t
    → (view s.0.now ≡ view t.0.now) × (line_count s.0.now ≡ line_count t.0.now)
join_same κs a b x y s t v e f p q =
    let same = rw (v, e, f) at p.0 ∙ sym q.0 in
    (same, p.1 ∙ ap length same ∙ sym q.1)

-- of equal lines a fingerprint is live in both or in none
pub is_dead_same : (κs : Lfts 1) (a b : Dens κs is-dead-kinds.ps) (x y : (res_t is-dead-kinds.r κs).Denot)
    (s t : AtExit (ended_of 1 is-dead-kinds.ps is-dead-kinds.r) κs)
    → view a.0.now ≡ view b.0.now → a.1.0 ≡ b.1.0 → a.1.1.0 ≡ b.1.1.0
    → is-dead-reads.Post κs a x s → is-dead-reads.Post κs b y t → x ≡ y
is_dead_same κs a b x y s t v e f p q = rw (v, e, f) at p ∙ sym q
