-- Two memories with the same entries, lines and rows give the same outcome of each public function, whatever their rows and numbers are.
-- Assumes nothing.
use mathlib.Core.Path.{◌≡◌}
use contract.Lifetimes.{Lfts}
use denote.Triple.Clauses.{AtExit}
use borrow.Fn.Kinds.{Dens, ended_of, res_t}
use Rattle.std.proofs.Math.Option.{some}
use Rattle.dead.specs.Places.View as dead
use Rattle.records.specs.Entry.{Entry}
use Rattle.pending_table.specs.declared.Chosen.{Chosen}
use Rattle.pending_table.specs.Places.View.{view, place_of, entry_at, marks_of}
use Rattle.pending_pass.specs.Lent.{ageing_in, ageing_out, leaving_in, leaving_out}
use Rattle.pending_pass.specs.Laws.Same.{ages_same, closes_same, satisfies_same, leaves_same}
use Rattle.pending_pass.proofs.leave_if_idle.Kinds as leave-kinds
use Rattle.pending_pass.proofs.leave_if_idle.Reads as leave-reads
use Rattle.pending_pass.proofs.age.Kinds as age-kinds
use Rattle.pending_pass.proofs.age.Reads as age-reads
use Rattle.pending_pass.proofs.close_face.Kinds as close-kinds
use Rattle.pending_pass.proofs.close_face.Reads as close-reads
use Rattle.pending_pass.proofs.satisfy.Kinds as satisfy-kinds
use Rattle.pending_pass.proofs.satisfy.Reads as satisfy-reads

-- an entry without requests leaves, where its handle stands for the same place in both and choices are the same
pub leave_if_idle_same : (κs : Lfts 2) (a b : Dens κs leave-kinds.ps) (x y : (res_t leave-kinds.r κs).Denot)
    (s t : AtExit (ended_of 2 leave-kinds.ps leave-kinds.r) κs)
    → (view (leaving_in (record { entry = a.0; exit = s.0 })) ≡ view (leaving_in (record { entry = b.0; exit = t.0 })))
    → (place_of (leaving_in (record { entry = a.0; exit = s.0 })) a.1.0 ≡ place_of (leaving_in (record { entry = b.0; exit = t.0 })) b.1.0)
    → ((k : Chosen) → marks_of (leaving_in (record { entry = a.0; exit = s.0 })) k ≡ marks_of
    (leaving_in (record { entry = b.0; exit = t.0 })) k)
    → (dead.view a.1.1.0.now ≡ dead.view b.1.1.0.now)
    → (a.1.1.1.0 ≡ b.1.1.1.0)
    → (a.1.1.1.1.0 ≡ b.1.1.1.1.0)
    → (e : Entry) → entry_at (leaving_in (record { entry = a.0; exit = s.0 })) a.1.0 ≡ some e → entry_at
    (leaving_in (record { entry = b.0; exit = t.0 })) b.1.0 ≡ some e
    → leave-reads.Post κs a x s → leave-reads.Post κs b y t
    → (view (leaving_out (record { entry = a.0; exit = s.0 })) ≡ view (leaving_out (record { entry = b.0; exit = t.0 })))
    × ((k : Chosen) → marks_of (leaving_out (record { entry = a.0; exit = s.0 })) k ≡ marks_of
    (leaving_out (record { entry = b.0; exit = t.0 })) k)
    × (dead.view s.1.1.0.now ≡ dead.view t.1.1.0.now)
leave_if_idle_same κs a b x y s t v k m l r n e f g p q = leaves_same r n k v m l (p.0 e f) (q.0 e g)

-- ageing
pub age_same : (κs : Lfts 3) (a b : Dens κs age-kinds.ps) (x y : (res_t age-kinds.r κs).Denot)
    (s t : AtExit (ended_of 3 age-kinds.ps age-kinds.r) κs)
    → (view (ageing_in (record { entry = a.0; exit = s.0 })) ≡ view (ageing_in (record { entry = b.0; exit = t.0 })))
    → (dead.view a.1.0.now ≡ dead.view b.1.0.now)
    → (a.1.1.0.now ≡ b.1.1.0.now)
    → (a.1.1.1.0 ≡ b.1.1.1.0)
    → (a.1.1.1.1.0 ≡ b.1.1.1.1.0)
    → age-reads.Post κs a x s → age-reads.Post κs b y t
    → (view (ageing_out (record { entry = a.0; exit = s.0 })) ≡ view (ageing_out (record { entry = b.0; exit = t.0 })))
    × (dead.view s.1.0.now ≡ dead.view t.1.0.now)
    × (x ≡ y)
    × (s.1.1.0.now ≡ t.1.1.0.now)
age_same κs a b x y s t e l r k n p q = ages_same k n e l r p q

-- closing a face
pub close_face_same : (κs : Lfts 3) (a b : Dens κs close-kinds.ps) (x y : (res_t close-kinds.r κs).Denot)
    (s t : AtExit (ended_of 3 close-kinds.ps close-kinds.r) κs)
    → (view (ageing_in (record { entry = a.0; exit = s.0 })) ≡ view (ageing_in (record { entry = b.0; exit = t.0 })))
    → (dead.view a.1.0.now ≡ dead.view b.1.0.now)
    → (a.1.1.0.now ≡ b.1.1.0.now)
    → (a.1.1.1.1.0 ≡ b.1.1.1.1.0)
    → (a.1.1.1.1.1.0 ≡ b.1.1.1.1.1.0)
    → (a.1.1.1.0 ≡ b.1.1.1.0)
    → (a.1.1.1.1.1.1.0 ≡ b.1.1.1.1.1.1.0)
    → close-reads.Post κs a x s → close-reads.Post κs b y t
    → (view (ageing_out (record { entry = a.0; exit = s.0 })) ≡ view (ageing_out (record { entry = b.0; exit = t.0 })))
    × (dead.view s.1.0.now ≡ dead.view t.1.0.now)
    × (x ≡ y)
    × (s.1.1.0.now ≡ t.1.1.0.now)
close_face_same κs a b x y s t e l r k n m f p q = closes_same k n e l r m f p q

-- Data
pub satisfy_same : (κs : Lfts 5) (a b : Dens κs satisfy-kinds.ps) (x y : (res_t satisfy-kinds.r κs).Denot)
    (s t : AtExit (ended_of 5 satisfy-kinds.ps satisfy-kinds.r) κs)
    → (view (leaving_in (record { entry = a.0; exit = s.0 })) ≡ view (leaving_in (record { entry = b.0; exit = t.0 })))
    → (dead.view a.1.0.now ≡ dead.view b.1.0.now)
    → (a.1.1.0.now ≡ b.1.1.0.now)
    → (a.1.1.1.1.0 ≡ b.1.1.1.1.0)
    → (a.1.1.1.1.1.0 ≡ b.1.1.1.1.1.0)
    → (a.1.1.1.0 ≡ b.1.1.1.0)
    → (a.1.1.1.1.1.1.1.0 ≡ b.1.1.1.1.1.1.1.0)
    → (a.1.1.1.1.1.1.1.1.0 ≡ b.1.1.1.1.1.1.1.1.0)
    → (a.1.1.1.1.1.1.0.now ≡ b.1.1.1.1.1.1.0.now)
    → satisfy-reads.Post κs a x s → satisfy-reads.Post κs b y t
    → (view (leaving_out (record { entry = a.0; exit = s.0 })) ≡ view (leaving_out (record { entry = b.0; exit = t.0 })))
    × (dead.view s.1.0.now ≡ dead.view t.1.0.now)
    × (x.made ≡ y.made)
    × (s.1.1.0.now ≡ t.1.1.0.now)
    × (s.1.1.1.1.1.1.1.1.1.0.now ≡ t.1.1.1.1.1.1.1.1.1.0.now)
    × (x.copies ≡ y.copies)
satisfy_same κs a b x y s t e l r k n m f d w p q = satisfies_same k n e l r m f d w p q
