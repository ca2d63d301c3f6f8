-- One outcome for each input of each public function: any two that its contract admits have the same entries, lines and rows at exit, as
-- many rows, and, for Data, the same class words and faces of copies.
-- Assumes nothing.
use mathlib.Core.Path.{◌≡◌, refl, sym, ◌∙◌}
use contract.Lifetimes.{Lfts}
use denote.Triple.Clauses.{AtExit}
use borrow.Fn.Kinds.{Dens, ended_of, res_t}
use Rattle.std.proofs.Math.Option.{none, some}
use Rattle.dead.specs.Places.View as dead
use Rattle.records.specs.Entry.{Entry}
use Rattle.pending_table.specs.declared.Chosen.{Chosen}
use Rattle.pending_table.specs.Places.View.{view, entry_at, marks_of}
use Rattle.pending_pass.specs.Lent.{ageing_out, leaving_in, leaving_out}
use Rattle.pending_pass.specs.Laws.Same.{ages_same, closes_same, satisfies_same, leaves_same}
use Rattle.pending_pass.proofs.leave_if_idle.Kinds as leave-kinds
use Rattle.pending_pass.proofs.leave_if_idle.Reads as leave-reads
use Rattle.pending_pass.proofs.age.Kinds as age-kinds
use Rattle.pending_pass.proofs.age.Reads as age-reads
use Rattle.pending_pass.proofs.close_face.Kinds as close-kinds
use Rattle.pending_pass.proofs.close_face.Reads as close-reads
use Rattle.pending_pass.proofs.satisfy.Kinds as satisfy-kinds
use Rattle.pending_pass.proofs.satisfy.Reads as satisfy-reads

-- two outcomes where an entry without requests leaves
pub leave_if_idle_one : (κs : Lfts 2) (a : Dens κs leave-kinds.ps) (x y : (res_t leave-kinds.r κs).Denot)
    (s t : AtExit (ended_of 2 leave-kinds.ps leave-kinds.r) κs)
    → (e : Entry) → entry_at (leaving_in (record { entry = a.0; exit = s.0 })) a.1.0 ≡ some e
    → leave-reads.Post κs a x s → leave-reads.Post κs a y t
    → (view (leaving_out (record { entry = a.0; exit = s.0 })) ≡ view (leaving_out (record { entry = a.0; exit = t.0 })))
    × ((k : Chosen) → marks_of (leaving_out (record { entry = a.0; exit = s.0 })) k ≡ marks_of
    (leaving_out (record { entry = a.0; exit = t.0 })) k)
    × (dead.view s.1.1.0.now ≡ dead.view t.1.1.0.now)
leave_if_idle_one κs a x y s t e f p q = leaves_same refl refl refl refl (λ _. refl) refl (p.0 e f) (q.0 e f)

-- and where the handle has no entry
pub leave_if_idle_none : (κs : Lfts 2) (a : Dens κs leave-kinds.ps) (x y : (res_t leave-kinds.r κs).Denot)
    (s t : AtExit (ended_of 2 leave-kinds.ps leave-kinds.r) κs)
    → entry_at (leaving_in (record { entry = a.0; exit = s.0 })) a.1.0 ≡ none
    → leave-reads.Post κs a x s → leave-reads.Post κs a y t
    → ((leaving_out (record { entry = a.0; exit = s.0 })) ≡ (leaving_out (record { entry = a.0; exit = t.0 }))) ×
    (s.1.1.0.now ≡ t.1.1.0.now)
leave_if_idle_none κs a x y s t f p q = ((p.1 f).0 ∙ sym (q.1 f).0, (p.1 f).1 ∙ sym (q.1 f).1)

-- two outcomes of ageing
pub age_one : (κs : Lfts 3) (a : Dens κs age-kinds.ps) (x y : (res_t age-kinds.r κs).Denot)
    (s t : AtExit (ended_of 3 age-kinds.ps age-kinds.r) κs)
    → age-reads.Post κs a x s → age-reads.Post κs a y t
    → (view (ageing_out (record { entry = a.0; exit = s.0 })) ≡ view (ageing_out (record { entry = a.0; exit = t.0 })))
    × (dead.view s.1.0.now ≡ dead.view t.1.0.now)
    × (x ≡ y)
    × (s.1.1.0.now ≡ t.1.1.0.now)
age_one κs a x y s t p q = ages_same refl refl refl refl refl p q

-- two outcomes of closing a face
pub close_face_one : (κs : Lfts 3) (a : Dens κs close-kinds.ps) (x y : (res_t close-kinds.r κs).Denot)
    (s t : AtExit (ended_of 3 close-kinds.ps close-kinds.r) κs)
    → close-reads.Post κs a x s → close-reads.Post κs a y t
    → (view (ageing_out (record { entry = a.0; exit = s.0 })) ≡ view (ageing_out (record { entry = a.0; exit = t.0 })))
    × (dead.view s.1.0.now ≡ dead.view t.1.0.now)
    × (x ≡ y)
    × (s.1.1.0.now ≡ t.1.1.0.now)
close_face_one κs a x y s t p q = closes_same refl refl refl refl refl refl refl p q

-- two outcomes of Data
pub satisfy_one : (κs : Lfts 5) (a : Dens κs satisfy-kinds.ps) (x y : (res_t satisfy-kinds.r κs).Denot)
    (s t : AtExit (ended_of 5 satisfy-kinds.ps satisfy-kinds.r) κs)
    → satisfy-reads.Post κs a x s → satisfy-reads.Post κs a y t
    → (view (leaving_out (record { entry = a.0; exit = s.0 })) ≡ view (leaving_out (record { entry = a.0; exit = t.0 })))
    × (dead.view s.1.0.now ≡ dead.view t.1.0.now)
    × (x.made ≡ y.made)
    × (s.1.1.0.now ≡ t.1.1.0.now)
    × (s.1.1.1.1.1.1.1.1.1.0.now ≡ t.1.1.1.1.1.1.1.1.1.0.now)
    × (x.copies ≡ y.copies)
satisfy_one κs a x y s t p q = satisfies_same refl refl refl refl refl refl refl refl refl p q
