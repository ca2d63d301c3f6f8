-- Two memories with the same entries give the same answers and the same entries, whatever rows and numbers they have.
-- Assumes nothing.
use Prim.Native.Nat.{ℕ}
use mathlib.Core.Path.{◌≡◌, sym, ap, ◌∙◌}
use mathlib.Core.Bool.{Bool, true, false}
use mathlib.Core.List.{List, [], ◌∷◌, ◌++◌, map}
use lib.ListN.{length}
use lib.Dec.{ltb, leb}
use contract.Lifetimes.{Lfts}
use denote.Triple.Clauses.{AtExit}
use borrow.Fn.Kinds.{Dens, ended_of, res_t}
use Rattle.laws.specs.Lists.{on_at, index_of}
use Rattle.sizes.specs.Sizes.{most_faces, most_entries}
use Rattle.records.specs.Class.{class_of}
use Rattle.records.specs.Entry.{Entry, matches, room_taken}
use Rattle.pending_entry.specs.Operations.{bare_entry}
use Rattle.pending_table.specs.Operations.{nothing, facts_of, uses_of}
use Rattle.pending_table.specs.Places.View.{view, place_of, marks_of}
use Rattle.pending_table.specs.Places.Parts.{table}
use Rattle.pending_table.specs.declared.Pending.{Pending}
use Rattle.pending_table.specs.Laws.Same.{ap2, said_same, known_same, found_same, bare_same, opened_same, taken_same}
use Rattle.pending_table.proofs.size.Kinds as size-kinds
use Rattle.pending_table.proofs.size.Reads as size-reads
use Rattle.pending_table.proofs.find.Kinds as find-kinds
use Rattle.pending_table.proofs.find.Reads as find-reads
use Rattle.pending_table.proofs.is_there.Kinds as is-there-kinds
use Rattle.pending_table.proofs.is_there.Reads as is-there-reads
use Rattle.pending_table.proofs.open.Kinds as open-kinds
use Rattle.pending_table.proofs.open.Reads as open-reads
use Rattle.pending_table.proofs.take_out.Kinds as take-out-kinds
use Rattle.pending_table.proofs.take_out.Reads as take-out-reads
use Rattle.pending_table.proofs.name_of.Kinds as name-of-kinds
use Rattle.pending_table.proofs.name_of.Reads as name-of-reads
use Rattle.pending_table.proofs.facts_of.Kinds as facts-of-kinds
use Rattle.pending_table.proofs.facts_of.Reads as facts-of-reads
use Rattle.pending_table.proofs.matching.Kinds as matching-kinds
use Rattle.pending_table.proofs.matching.Reads as matching-reads
use Rattle.pending_table.proofs.all.Kinds as all_kinds
use Rattle.pending_table.proofs.all.Reads as all-reads
use Rattle.pending_table.proofs.next.Kinds as next-kinds
use Rattle.pending_table.proofs.next.Reads as next-reads
use Rattle.pending_table.proofs.rest.Kinds as rest-kinds
use Rattle.pending_table.proofs.rest.Reads as rest-reads
use Rattle.pending_table.proofs.use_by_class.Kinds as use-by-class-kinds
use Rattle.pending_table.proofs.use_by_class.Reads as use-by-class-reads
use Rattle.pending_table.proofs.has_room.Kinds as has-room-kinds
use Rattle.pending_table.proofs.has_room.Reads as has-room-reads

-- whether there is room for an entry of a class
abbrev room : List Entry → ℕ → Bool
room es class = leb (room_taken (es ++ (bare_entry most_faces [] false false (class_of class) ∷ []))) most_entries

-- how many entries there are
pub size_same : (κs : Lfts 0) (a b : Dens κs size-kinds.ps) (x y : (res_t size-kinds.r κs).Denot)
    (s t : AtExit (ended_of 0 size-kinds.ps size-kinds.r) κs)
    (n m hs gs : List (List ℕ)) (u v : List (List (List ℕ))) (k l : List ℕ)
    → (view (table n hs u k a.0) ≡ view (table m gs v l b.0))
    → size-reads.Post κs a x s → size-reads.Post κs b y t
    → x ≡ y
size_same κs a b x y s t n m hs gs u v k l e p q = p n hs u k ∙ ap length e ∙ sym (q m gs v l)

-- where an entry stands
pub find_same : (κs : Lfts 4) (a b : Dens κs find-kinds.ps) (x y : (res_t find-kinds.r κs).Denot)
    (s t : AtExit (ended_of 4 find-kinds.ps find-kinds.r) κs)
    (u v : List (List (List ℕ)))
    → (view (table a.0.now a.1.0.now u a.1.1.0.now a.1.1.1.0) ≡ view (table b.0.now b.1.0.now v b.1.1.0.now b.1.1.1.0))
    → (a.1.1.1.1.0.now ≡ b.1.1.1.1.0.now) → (a.1.1.1.1.1.0 ≡ b.1.1.1.1.1.0) → (a.1.1.1.1.1.1.0 ≡ b.1.1.1.1.1.1.0)
    → find-reads.Post κs a x s → find-reads.Post κs b y t
    → place_of (table a.0.now a.1.0.now u a.1.1.0.now a.1.1.1.0) x ≡ place_of (table b.0.now b.1.0.now v b.1.1.0.now b.1.1.1.0) y
find_same κs a b x y s t u v e n f m p q = found_same (known_same n f m e) (p u) (q v)

-- whether a handle has an entry
pub is_there_same : (κs : Lfts 0) (a b : Dens κs is-there-kinds.ps) (x y : (res_t is-there-kinds.r κs).Denot)
    (s t : AtExit (ended_of 0 is-there-kinds.ps is-there-kinds.r) κs)
    (n m hs gs : List (List ℕ)) (u v : List (List (List ℕ))) (k l : List ℕ)
    → (view (table n hs u k a.0) ≡ view (table m gs v l b.0))
    → (place_of (table n hs u k a.0) a.1.0 ≡ place_of (table m gs v l b.0) b.1.0)
    → is-there-reads.Post κs a x s → is-there-reads.Post κs b y t
    → x ≡ y
is_there_same κs a b x y s t n m hs gs u v k l e h p q = p n hs u k ∙ ap2 ltb h (ap length e) ∙ sym (q m gs v l)

-- an entry opened
pub open_same : (κs : Lfts 5) (a b : Dens κs open-kinds.ps) (x y : (res_t open-kinds.r κs).Denot)
    (s t : AtExit (ended_of 5 open-kinds.ps open-kinds.r) κs)
    (u v : List (List (List ℕ)))
    → (view (table a.0.now a.1.0.now u a.1.1.0.now a.1.1.1.0.now) ≡ view (table b.0.now b.1.0.now v b.1.1.0.now b.1.1.1.0.now))
    → (a.1.1.1.1.0.now ≡ b.1.1.1.1.0.now) → (a.1.1.1.1.1.0 ≡ b.1.1.1.1.1.0) → (a.1.1.1.1.1.1.0 ≡ b.1.1.1.1.1.1.0)
    → (a.1.1.1.1.1.1.1.0 ≡ b.1.1.1.1.1.1.1.0)
    → open-reads.Post κs a x s → open-reads.Post κs b y t
    → (ltb (place_of (table s.0.now s.1.0.now u s.1.1.0.now s.1.1.1.0.now) x) (length (view
    (table s.0.now s.1.0.now u s.1.1.0.now s.1.1.1.0.now))) ≡ ltb (place_of (table t.0.now t.1.0.now v t.1.1.0.now t.1.1.1.0.now) y)
    (length (view (table t.0.now t.1.0.now v t.1.1.0.now t.1.1.1.0.now))))
    × (view (table s.0.now s.1.0.now u s.1.1.0.now s.1.1.1.0.now) ≡ view (table t.0.now t.1.0.now v t.1.1.0.now t.1.1.1.0.now)) ×
    (place_of (table s.0.now s.1.0.now u s.1.1.0.now s.1.1.1.0.now) x ≡ place_of (table t.0.now t.1.0.now v t.1.1.0.now t.1.1.1.0.now) y)
open_same κs a b x y s t u v e n f m c p q = opened_same (bare_same most_faces n f m c) e (p u) (q v)

-- an entry taken out
pub take_out_same : (κs : Lfts 1) (a b : Dens κs take-out-kinds.ps) (x y : (res_t take-out-kinds.r κs).Denot)
    (s t : AtExit (ended_of 1 take-out-kinds.ps take-out-kinds.r) κs)
    (n m hs gs : List (List ℕ)) (u v : List (List (List ℕ))) (k l : List ℕ)
    → (view (table n hs u k a.0.now) ≡ view (table m gs v l b.0.now))
    → (place_of (table n hs u k a.0.now) a.1.0 ≡ place_of (table m gs v l b.0.now) b.1.0)
    → take-out-reads.Post κs a x s → take-out-reads.Post κs b y t
    → view (table n hs u k s.0.now) ≡ view (table m gs v l t.0.now)
take_out_same κs a b x y s t n m hs gs u v k l e h p q = taken_same h e (p n hs u k) (q m gs v l)

-- the name of an entry
pub name_of_same : (κs : Lfts 2) (a b : Dens κs name-of-kinds.ps) (x y : (res_t name-of-kinds.r κs).Denot)
    (s t : AtExit (ended_of 2 name-of-kinds.ps name-of-kinds.r) κs)
    (u v : List (List (List ℕ))) (k l : List ℕ)
    → (view (table a.0.now a.1.0.now u k a.1.1.0) ≡ view (table b.0.now b.1.0.now v l b.1.1.0))
    → (place_of (table a.0.now a.1.0.now u k a.1.1.0) a.1.1.1.0 ≡ place_of (table b.0.now b.1.0.now v l b.1.1.0) b.1.1.1.0)
    → name-of-reads.Post κs a x s → name-of-reads.Post κs b y t
    → x.now ≡ y.now
name_of_same κs a b x y s t u v k l e h p q = p u k ∙ said_same [] (λ (x : Entry). x.name) h e ∙ sym (q v l)

-- the flags and the class word of an entry
pub facts_of_same : (κs : Lfts 1) (a b : Dens κs facts-of-kinds.ps) (x y : (res_t facts-of-kinds.r κs).Denot)
    (s t : AtExit (ended_of 1 facts-of-kinds.ps facts-of-kinds.r) κs)
    (n m : List (List ℕ)) (u v : List (List (List ℕ))) (k l : List ℕ)
    → (view (table n a.0.now u k a.1.0) ≡ view (table m b.0.now v l b.1.0))
    → (place_of (table n a.0.now u k a.1.0) a.1.1.0 ≡ place_of (table m b.0.now v l b.1.0) b.1.1.0)
    → facts-of-reads.Post κs a x s → facts-of-reads.Post κs b y t
    → x ≡ y
facts_of_same κs a b x y s t n m u v k l e h p q = p n u k ∙ said_same nothing facts_of h e ∙ sym (q m v l)

-- the entries that match
pub matching_same : (κs : Lfts 3) (a b : Dens κs matching-kinds.ps) (x y : (res_t matching-kinds.r κs).Denot)
    (s t : AtExit (ended_of 3 matching-kinds.ps matching-kinds.r) κs)
    (u v : List (List (List ℕ))) (k l : List ℕ)
    → (view (table a.0.now a.1.0.now u k a.1.1.0) ≡ view (table b.0.now b.1.0.now v l b.1.1.0)) → (a.1.1.1.0.now ≡ b.1.1.1.0.now)
    → matching-reads.Post κs a x s → matching-reads.Post κs b y t
    → marks_of (table a.0.now a.1.0.now u k a.1.1.0) x ≡ marks_of (table b.0.now b.1.0.now v l b.1.1.0) y
matching_same κs a b x y s t u v k l e n p q = p u k ∙ ap2 (λ (k : List ℕ). map (matches k)) n e ∙ sym (q v l)

-- all entries
pub all_same : (κs : Lfts 0) (a b : Dens κs all_kinds.ps) (x y : (res_t all_kinds.r κs).Denot)
    (s t : AtExit (ended_of 0 all_kinds.ps all_kinds.r) κs)
    (n m hs gs : List (List ℕ)) (u v : List (List (List ℕ))) (k l : List ℕ)
    → (view (table n hs u k a.0) ≡ view (table m gs v l b.0))
    → all-reads.Post κs a x s → all-reads.Post κs b y t
    → marks_of (table n hs u k a.0) x ≡ marks_of (table m gs v l b.0) y
all_same κs a b x y s t n m hs gs u v k l e p q = p n hs u k ∙ ap (map (λ _. true)) e ∙ sym (q m gs v l)

-- where the first chosen entry stands
pub next_same : (κs : Lfts 1) (a b : Dens κs next-kinds.ps) (x y : (res_t next-kinds.r κs).Denot)
    (s t : AtExit (ended_of 1 next-kinds.ps next-kinds.r) κs)
    (n m hs gs : List (List ℕ)) (u v : List (List (List ℕ)))
    → (marks_of (table n hs u a.0.now a.1.0) a.1.1.0 ≡ marks_of (table m gs v b.0.now b.1.0) b.1.1.0)
    → next-reads.Post κs a x s → next-reads.Post κs b y t
    → place_of (table n hs u a.0.now a.1.0) x ≡ place_of (table m gs v b.0.now b.1.0) y
next_same κs a b x y s t n m hs gs u v e p q = found_same (ap (index_of (λ b. b)) e) (p n hs u) (q m gs v)

-- a choice without an entry
pub rest_same : (κs : Lfts 0) (a b : Dens κs rest-kinds.ps) (x y : (res_t rest-kinds.r κs).Denot)
    (s t : AtExit (ended_of 0 rest-kinds.ps rest-kinds.r) κs) (v w : Pending)
    → (marks_of v a.0 ≡ marks_of w b.0) → (place_of v a.1.0 ≡ place_of w b.1.0)
    → rest-reads.Post κs a x s → rest-reads.Post κs b y t
    → marks_of v x ≡ marks_of w y
rest_same κs a b x y s t v w e h p q = p v ∙ ap2 (λ (i : ℕ). on_at i (λ _. false)) h e ∙ sym (q w)

-- how many entries each class has
pub use_by_class_same : (κs : Lfts 1) (a b : Dens κs use-by-class-kinds.ps) (x y : (res_t use-by-class-kinds.r κs).Denot)
    (s t : AtExit (ended_of 1 use-by-class-kinds.ps use-by-class-kinds.r) κs)
    (n m : List (List ℕ)) (u v : List (List (List ℕ))) (k l : List ℕ)
    → (view (table n a.0.now u k a.1.0) ≡ view (table m b.0.now v l b.1.0))
    → use-by-class-reads.Post κs a x s → use-by-class-reads.Post κs b y t
    → x ≡ y
use_by_class_same κs a b x y s t n m u v k l e p q = p n u k ∙ ap uses_of e ∙ sym (q m v l)

-- whether there is room
pub has_room_same : (κs : Lfts 1) (a b : Dens κs has-room-kinds.ps) (x y : (res_t has-room-kinds.r κs).Denot)
    (s t : AtExit (ended_of 1 has-room-kinds.ps has-room-kinds.r) κs)
    (n m : List (List ℕ)) (u v : List (List (List ℕ))) (k l : List ℕ)
    → (view (table n a.0.now u k a.1.0) ≡ view (table m b.0.now v l b.1.0)) → (a.1.1.0 ≡ b.1.1.0)
    → has-room-reads.Post κs a x s → has-room-reads.Post κs b y t
    → x ≡ y
has_room_same κs a b x y s t n m u v k l e c p q = p n u k ∙ ap2 room e c ∙ sym (q m v l)
