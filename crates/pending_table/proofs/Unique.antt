-- One outcome for each input of each public function: any two that its contract admits are equal, or have the same entries, places and
-- marks at exit.
-- Assumes nothing.
use Prim.Native.Nat.{ℕ, ◌<◌}
use mathlib.Core.List.{List, []}
use mathlib.Core.Path.{◌≡◌, sym, ◌∙◌}
use lib.ListN.{length}
use lib.Dec.{ltb}
use contract.Lifetimes.{Lfts}
use denote.Triple.Clauses.{AtExit}
use borrow.Fn.Kinds.{Dens, ended_of, res_t}
use Rattle.pending_table.specs.declared.Handle.{Handle}
use Rattle.pending_table.specs.declared.Chosen.{Chosen}
use Rattle.pending_table.specs.Places.View.{view, place_of, marks_of}
use Rattle.pending_table.specs.Places.Parts.{table}
use Rattle.pending_table.specs.declared.Pending.{Pending}
use Rattle.pending_table.specs.Laws.Same.{found_one, opened_one, taken_one}
use Rattle.pending_table.proofs.Pending.new.Kinds as new-kinds
use Rattle.pending_table.proofs.Pending.new.Reads as new_reads
use Rattle.pending_table.proofs.Pending.clear.Kinds as clear-kinds
use Rattle.pending_table.proofs.Pending.clear.Reads as clear-reads
use Rattle.pending_table.proofs.none.Kinds as none-kinds
use Rattle.pending_table.proofs.none.Reads as none-reads
use Rattle.pending_table.proofs.size.Kinds as size-kinds
use Rattle.pending_table.proofs.size.Reads as size-reads
use Rattle.pending_table.proofs.find.Kinds as find-kinds
use Rattle.pending_table.proofs.find.Reads as find-reads
use Rattle.pending_table.proofs.row_of.Kinds as row-of-kinds
use Rattle.pending_table.proofs.row_of.Reads as row-of-reads
use Rattle.pending_table.proofs.is_there.Kinds as is-there-kinds
use Rattle.pending_table.proofs.is_there.Reads as is-there-reads
use Rattle.pending_table.proofs.open.Kinds as open-kinds
use Rattle.pending_table.proofs.open.Reads as open-reads
use Rattle.pending_table.proofs.take_out.Kinds as take-out-kinds
use Rattle.pending_table.proofs.take_out.Reads as take-out-reads
use Rattle.pending_table.proofs.name_of.Kinds as name-of-kinds
use Rattle.pending_table.proofs.name_of.Reads as name-of-reads
use Rattle.pending_table.proofs.facts_of.Kinds as facts-of-kinds
use Rattle.pending_table.proofs.facts_of.Reads as facts-of-reads
use Rattle.pending_table.proofs.matching.Kinds as matching-kinds
use Rattle.pending_table.proofs.matching.Reads as matching-reads
use Rattle.pending_table.proofs.all.Kinds as all_kinds
use Rattle.pending_table.proofs.all.Reads as all-reads
use Rattle.pending_table.proofs.next.Kinds as next-kinds
use Rattle.pending_table.proofs.next.Reads as next-reads
use Rattle.pending_table.proofs.rest.Kinds as rest-kinds
use Rattle.pending_table.proofs.rest.Reads as rest-reads
use Rattle.pending_table.proofs.use_by_class.Kinds as use-by-class-kinds
use Rattle.pending_table.proofs.use_by_class.Reads as use-by-class-reads
use Rattle.pending_table.proofs.has_room.Kinds as has-room-kinds
use Rattle.pending_table.proofs.has_room.Reads as has-room-reads

-- two new tables have the same entries
pub new_one : (κs : Lfts 0) (a b : Dens κs new-kinds.ps) (x y : (res_t new-kinds.r κs).Denot)
    (s t : AtExit (ended_of 0 new-kinds.ps new-kinds.r) κs)
    → new_reads.Post κs a x s → new_reads.Post κs b y t
    → view x ≡ view y
new_one κs a b x y s t p q = p ∙ sym q

-- two tables without entries have the same entries
pub clear_one : (κs : Lfts 1) (a : Dens κs clear-kinds.ps) (x y : (res_t clear-kinds.r κs).Denot)
    (s t : AtExit (ended_of 1 clear-kinds.ps clear-kinds.r) κs)
    → clear-reads.Post κs a x s → clear-reads.Post κs a y t
    → view s.0.now ≡ view t.0.now
clear_one κs a x y s t p q = p.0 ∙ sym q.0

-- with two answers of the used rows of a table without entries any table has the same entries
pub none_one : (κs : Lfts 0) (a : Dens κs none-kinds.ps) (x y : (res_t none-kinds.r κs).Denot)
    (s t : AtExit (ended_of 0 none-kinds.ps none-kinds.r) κs)
    → none-reads.Post κs a x s → none-reads.Post κs a y t
    → (n hs : List (List ℕ)) (r : List (List (List ℕ))) (k : List ℕ) → view (table n hs r k x) ≡ view (table n hs r k y)
none_one κs a x y s t p q n hs r k = p n hs r k ∙ sym (q n hs r k)

-- two answers how many entries there are are the same
pub size_one : (κs : Lfts 0) (a : Dens κs size-kinds.ps) (x y : (res_t size-kinds.r κs).Denot)
    (s t : AtExit (ended_of 0 size-kinds.ps size-kinds.r) κs)
    → size-reads.Post κs a x s → size-reads.Post κs a y t
    → x ≡ y
size_one κs a x y s t p q = p [] [] [] [] ∙ sym (q [] [] [] [])

-- two handles of an entry that is looked for are the same
pub find_one : (κs : Lfts 4) (a : Dens κs find-kinds.ps) (x y : (res_t find-kinds.r κs).Denot)
    (s t : AtExit (ended_of 4 find-kinds.ps find-kinds.r) κs)
    → find-reads.Post κs a x s → find-reads.Post κs a y t
    → x ≡ y
find_one κs a x y s t p q = found_one (p []) (q [])

-- two rows of a handle are the same
pub row_of_one : (κs : Lfts 0) (a : Dens κs row-of-kinds.ps) (x y : (res_t row-of-kinds.r κs).Denot)
    (s t : AtExit (ended_of 0 row-of-kinds.ps row-of-kinds.r) κs)
    → row-of-reads.Post κs a x s → row-of-reads.Post κs a y t
    → x ≡ y
row_of_one κs a x y s t p q = p.0 ∙ sym q.0

-- two answers whether a handle has an entry are the same
pub is_there_one : (κs : Lfts 0) (a : Dens κs is-there-kinds.ps) (x y : (res_t is-there-kinds.r κs).Denot)
    (s t : AtExit (ended_of 0 is-there-kinds.ps is-there-kinds.r) κs)
    → is-there-reads.Post κs a x s → is-there-reads.Post κs a y t
    → x ≡ y
is_there_one κs a x y s t p q = p [] [] [] [] ∙ sym (q [] [] [] [])

-- two outcomes of opening an entry say the same, and have the same entries, places and marks
pub open_one : (κs : Lfts 5) (a : Dens κs open-kinds.ps) (x y : (res_t open-kinds.r κs).Denot)
    (s t : AtExit (ended_of 5 open-kinds.ps open-kinds.r) κs) (r : List (List (List ℕ)))
    → open-reads.Post κs a x s → open-reads.Post κs a y t
    → (ltb (place_of (table s.0.now s.1.0.now r s.1.1.0.now s.1.1.1.0.now) x) (length (view
    (table s.0.now s.1.0.now r s.1.1.0.now s.1.1.1.0.now))) ≡ ltb (place_of (table t.0.now t.1.0.now r t.1.1.0.now t.1.1.1.0.now) y)
    (length (view (table t.0.now t.1.0.now r t.1.1.0.now t.1.1.1.0.now))))
    × (view (table s.0.now s.1.0.now r s.1.1.0.now s.1.1.1.0.now) ≡ view (table t.0.now t.1.0.now r t.1.1.0.now t.1.1.1.0.now)) ×
    (place_of (table s.0.now s.1.0.now r s.1.1.0.now s.1.1.1.0.now) x ≡ place_of (table t.0.now t.1.0.now r t.1.1.0.now t.1.1.1.0.now) y)
    × ((h : Handle)
    → place_of (table a.0.now a.1.0.now r a.1.1.0.now a.1.1.1.0.now) h < length (view (table a.0.now a.1.0.now r a.1.1.0.now a.1.1.1.0.now))
    → place_of (table s.0.now s.1.0.now r s.1.1.0.now s.1.1.1.0.now) h ≡ place_of (table t.0.now t.1.0.now r t.1.1.0.now t.1.1.1.0.now) h)
open_one κs a x y s t r p q = opened_one (p r) (q r)

-- two tables without an entry have the same entries, places and marks
pub take_out_one : (κs : Lfts 1) (a : Dens κs take-out-kinds.ps) (x y : (res_t take-out-kinds.r κs).Denot)
    (s t : AtExit (ended_of 1 take-out-kinds.ps take-out-kinds.r) κs) (n hs : List (List ℕ)) (u : List (List (List ℕ))) (k : List ℕ)
    → take-out-reads.Post κs a x s → take-out-reads.Post κs a y t
    → (view (table n hs u k s.0.now) ≡ view (table n hs u k t.0.now))
    × ((h : Handle) → place_of (table n hs u k s.0.now) h ≡ place_of (table n hs u k t.0.now) h)
    × ((c : Chosen) → marks_of (table n hs u k s.0.now) c ≡ marks_of (table n hs u k t.0.now) c)
take_out_one κs a x y s t n hs u k p q = taken_one (p n hs u k) (q n hs u k)

-- two names of an entry have the same bytes
pub name_of_one : (κs : Lfts 2) (a : Dens κs name-of-kinds.ps) (x y : (res_t name-of-kinds.r κs).Denot)
    (s t : AtExit (ended_of 2 name-of-kinds.ps name-of-kinds.r) κs)
    → name-of-reads.Post κs a x s → name-of-reads.Post κs a y t
    → x.now ≡ y.now
name_of_one κs a x y s t p q = p [] [] ∙ sym (q [] [])

-- two answers with the flags and the class word of an entry are the same
pub facts_of_one : (κs : Lfts 1) (a : Dens κs facts-of-kinds.ps) (x y : (res_t facts-of-kinds.r κs).Denot)
    (s t : AtExit (ended_of 1 facts-of-kinds.ps facts-of-kinds.r) κs)
    → facts-of-reads.Post κs a x s → facts-of-reads.Post κs a y t
    → x ≡ y
facts_of_one κs a x y s t p q = p [] [] [] ∙ sym (q [] [] [])

-- two choices of the entries that match have the same marks
pub matching_one : (κs : Lfts 3) (a : Dens κs matching-kinds.ps) (x y : (res_t matching-kinds.r κs).Denot)
    (s t : AtExit (ended_of 3 matching-kinds.ps matching-kinds.r) κs) (u : List (List (List ℕ))) (k : List ℕ)
    → matching-reads.Post κs a x s → matching-reads.Post κs a y t
    → marks_of (table a.0.now a.1.0.now u k a.1.1.0) x ≡ marks_of (table a.0.now a.1.0.now u k a.1.1.0) y
matching_one κs a x y s t u k p q = p u k ∙ sym (q u k)

-- two choices of all entries have the same marks
pub all_one : (κs : Lfts 0) (a : Dens κs all_kinds.ps) (x y : (res_t all_kinds.r κs).Denot)
    (s t : AtExit (ended_of 0 all_kinds.ps all_kinds.r) κs) (n hs : List (List ℕ)) (u : List (List (List ℕ))) (k : List ℕ)
    → all-reads.Post κs a x s → all-reads.Post κs a y t
    → marks_of (table n hs u k a.0) x ≡ marks_of (table n hs u k a.0) y
all_one κs a x y s t n hs u k p q = p n hs u k ∙ sym (q n hs u k)

-- two handles of the first chosen entry are the same
pub next_one : (κs : Lfts 1) (a : Dens κs next-kinds.ps) (x y : (res_t next-kinds.r κs).Denot)
    (s t : AtExit (ended_of 1 next-kinds.ps next-kinds.r) κs)
    → next-reads.Post κs a x s → next-reads.Post κs a y t
    → x ≡ y
next_one κs a x y s t p q = found_one (p [] [] []) (q [] [] [])

-- two choices without an entry have the same marks
pub rest_one : (κs : Lfts 0) (a : Dens κs rest-kinds.ps) (x y : (res_t rest-kinds.r κs).Denot)
    (s t : AtExit (ended_of 0 rest-kinds.ps rest-kinds.r) κs) (v : Pending)
    → rest-reads.Post κs a x s → rest-reads.Post κs a y t
    → marks_of v x ≡ marks_of v y
rest_one κs a x y s t v p q = p v ∙ sym (q v)

-- two answers with the uses of the classes are the same
pub use_by_class_one : (κs : Lfts 1) (a : Dens κs use-by-class-kinds.ps) (x y : (res_t use-by-class-kinds.r κs).Denot)
    (s t : AtExit (ended_of 1 use-by-class-kinds.ps use-by-class-kinds.r) κs)
    → use-by-class-reads.Post κs a x s → use-by-class-reads.Post κs a y t
    → x ≡ y
use_by_class_one κs a x y s t p q = p [] [] [] ∙ sym (q [] [] [])

-- two answers whether there is room are the same
pub has_room_one : (κs : Lfts 1) (a : Dens κs has-room-kinds.ps) (x y : (res_t has-room-kinds.r κs).Denot)
    (s t : AtExit (ended_of 1 has-room-kinds.ps has-room-kinds.r) κs)
    → has-room-reads.Post κs a x s → has-room-reads.Post κs a y t
    → x ≡ y
has_room_one κs a x y s t p q = p [] [] [] ∙ sym (q [] [] [])
