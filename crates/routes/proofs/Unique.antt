-- One outcome for each input of each public function: any two that its contract admits are equal, and leave the same routes. Rows past the
-- last route, bytes past a prefix, and costs of faces that are no hop are fixed only where the contract says outright that they stay.
-- Assumes nothing.
use Prim.Native.Nat.{ℕ}
use mathlib.Core.List.{List, []}
use mathlib.Core.Path.{◌≡◌, refl, sym, ◌∙◌}
use contract.Lifetimes.{Lfts}
use denote.Triple.Clauses.{AtExit}
use borrow.Fn.Kinds.{Dens, ended_of, res_t}
use Rattle.routes.specs.declared.Count.{Count}
use Rattle.routes.specs.Places.Parts.{table}
use Rattle.routes.specs.Places.View.{view, count_of, count_is, count_one, found_one}
use Rattle.routes.proofs.Count.none.Kinds as none-kinds
use Rattle.routes.proofs.Count.none.Reads as none-reads
use Rattle.routes.proofs.Routes.new.Kinds as new-kinds
use Rattle.routes.proofs.Routes.new.Reads as new_reads
use Rattle.routes.proofs.Routes.clear.Kinds as clear-kinds
use Rattle.routes.proofs.Routes.clear.Reads as clear-reads
use Rattle.routes.proofs.find.Kinds as find-kinds
use Rattle.routes.proofs.find.Reads as find-reads
use Rattle.routes.proofs.is_there.Kinds as is-there-kinds
use Rattle.routes.proofs.is_there.Reads as is-there-reads
use Rattle.routes.proofs.set.Kinds as set-kinds
use Rattle.routes.proofs.set.Reads as set_Reads
use Rattle.routes.proofs.Routes.remove.Kinds as remove-kinds
use Rattle.routes.proofs.Routes.remove.Reads as remove-reads
use Rattle.routes.proofs.add_hop.Kinds as add-hop-kinds
use Rattle.routes.proofs.add_hop.Reads as add-hop-reads
use Rattle.routes.proofs.drop_hop.Kinds as drop-hop-kinds
use Rattle.routes.proofs.drop_hop.Reads as drop-hop-reads
use Rattle.routes.proofs.has_hop.Kinds as has-hop-kinds
use Rattle.routes.proofs.has_hop.Reads as has-hop-reads
use Rattle.routes.proofs.drop_face.Kinds as drop-face-kinds
use Rattle.routes.proofs.drop_face.Reads as drop-face-reads
use Rattle.routes.proofs.Known.longest.Kinds as longest-kinds
use Rattle.routes.proofs.Known.longest.Reads as longest-reads
use Rattle.routes.proofs.Known.class_of.Kinds as class-of-kinds
use Rattle.routes.proofs.Known.class_of.Reads as class-of-reads
use Rattle.routes.proofs.Known.hops_of.Kinds as hops-of-kinds
use Rattle.routes.proofs.Known.hops_of.Reads as hops-of-reads
use Rattle.routes.proofs.Known.cheapest.Kinds as cheapest-kinds
use Rattle.routes.proofs.Known.cheapest.Reads as cheapest-reads
use Rattle.routes.proofs.Same as same

-- two new tables have the same routes, and count as many
pub new_one : (κs : Lfts 0) (a b : Dens κs new-kinds.ps) (x y : (res_t new-kinds.r κs).Denot)
    (s t : AtExit (ended_of 0 new-kinds.ps new-kinds.r) κs)
    → new_reads.Post κs a x s → new_reads.Post κs b y t
    → (view x ≡ view y) × (count_of x ≡ count_of y)
new_one κs a b x y s t p q = (p.0 ∙ sym q.0, p.1 ∙ sym q.1)

-- two tables with no routes are the same
pub clear_one : (κs : Lfts 1) (a : Dens κs clear-kinds.ps) (x y : (res_t clear-kinds.r κs).Denot)
    (s t : AtExit (ended_of 1 clear-kinds.ps clear-kinds.r) κs)
    → clear-reads.Post κs a x s → clear-reads.Post κs a y t → (count_of s.0.now ≡ count_of t.0.now) × (view s.0.now ≡ view t.0.now)
clear_one κs a x y s t p q = same.clear_same κs a a x y s t p q

-- two counts of no routes are the same
pub none_one : (κs : Lfts 0) (a : Dens κs none-kinds.ps) (x y : (res_t none-kinds.r κs).Denot)
    (s t : AtExit (ended_of 0 none-kinds.ps none-kinds.r) κs)
    → none-reads.Post κs a x s → none-reads.Post κs a y t → x ≡ y
none_one κs a x y s t p q = count_one (table [] [] [] x) (table [] [] [] y) (p.1 _ refl ∙ sym (q.1 _ refl))

-- two routes of a prefix are the same
pub find_one : (κs : Lfts 3) (a : Dens κs find-kinds.ps) (x y : (res_t find-kinds.r κs).Denot)
    (s t : AtExit (ended_of 3 find-kinds.ps find-kinds.r) κs)
    → find-reads.Post κs a x s → find-reads.Post κs a y t → x ≡ y
find_one κs a x y s t p q = found_one (table a.0.now a.1.0.now [] a.1.1.0) x y (same.find_same κs a a x y s t [] [] refl refl p q)

-- two answers whether a handle stands for a route are the same
pub is_there_one : (κs : Lfts 0) (a : Dens κs is-there-kinds.ps) (x y : (res_t is-there-kinds.r κs).Denot)
    (s t : AtExit (ended_of 0 is-there-kinds.ps is-there-kinds.r) κs)
    → is-there-reads.Post κs a x s → is-there-reads.Post κs a y t → x ≡ y
is_there_one κs a x y s t p q =
    let f = table [] [] [] a.0 in same.is_there_same κs a a x y s t f f refl refl refl refl p q

-- two outcomes of setting a route are the same, and leave the same routes, whatever the costs are
pub set_one : (κs : Lfts 4) (a : Dens κs set-kinds.ps) (x y : (res_t set-kinds.r κs).Denot)
    (s t : AtExit (ended_of 4 set-kinds.ps set-kinds.r) κs) (c : List (List ℕ))
    → set_Reads.Post κs a x s → set_Reads.Post κs a y t
    → (x ≡ y)
    × (count_of (table s.0.now s.1.0.now c s.1.1.0.now) ≡ count_of (table t.0.now t.1.0.now c t.1.1.0.now))
    × (view (table s.0.now s.1.0.now c s.1.1.0.now) ≡ view (table t.0.now t.1.0.now c t.1.1.0.now))
set_one κs a x y s t c p q = same.set_same κs a a x y s t c c refl refl refl p q

-- two outcomes of removing a route leave the same routes
pub remove_one : (κs : Lfts 1) (a : Dens κs remove-kinds.ps) (x y : (res_t remove-kinds.r κs).Denot)
    (s t : AtExit (ended_of 1 remove-kinds.ps remove-kinds.r) κs)
    → remove-reads.Post κs a x s → remove-reads.Post κs a y t → (count_of s.0.now ≡ count_of t.0.now) × (view s.0.now ≡ view t.0.now)
remove_one κs a x y s t p q = same.remove_same κs a a x y s t refl refl p q

-- two outcomes of adding a hop leave the same routes and count as many, whatever the prefixes are
pub add_hop_one : (κs : Lfts 2) (a : Dens κs add-hop-kinds.ps) (x y : (res_t add-hop-kinds.r κs).Denot)
    (s t : AtExit (ended_of 2 add-hop-kinds.ps add-hop-kinds.r) κs) (n : List (List ℕ))
    → add-hop-reads.Post κs a x s → add-hop-reads.Post κs a y t
    → (count_of (table n s.0.now s.1.0.now a.1.1.0) ≡ count_of (table n t.0.now t.1.0.now a.1.1.0))
    × (view (table n s.0.now s.1.0.now a.1.1.0) ≡ view (table n t.0.now t.1.0.now a.1.1.0))
add_hop_one κs a x y s t n p q = (count_is _ ∙ sym (count_is _), same.add_hop_same κs a a x y s t n n refl refl refl refl p q)

-- two outcomes of dropping a hop leave the same routes and count as many, whatever the prefixes and the costs are
pub drop_hop_one : (κs : Lfts 1) (a : Dens κs drop-hop-kinds.ps) (x y : (res_t drop-hop-kinds.r κs).Denot)
    (s t : AtExit (ended_of 1 drop-hop-kinds.ps drop-hop-kinds.r) κs) (n c : List (List ℕ))
    → drop-hop-reads.Post κs a x s → drop-hop-reads.Post κs a y t
    → (count_of (table n s.0.now c a.1.0) ≡ count_of (table n t.0.now c a.1.0))
    × (view (table n s.0.now c a.1.0) ≡ view (table n t.0.now c a.1.0))
drop_hop_one κs a x y s t n c p q = (count_is _ ∙ sym (count_is _), same.drop_hop_same κs a a x y s t n n c c refl refl refl p q)

-- two answers whether a face is a hop are the same
pub has_hop_one : (κs : Lfts 1) (a : Dens κs has-hop-kinds.ps) (x y : (res_t has-hop-kinds.r κs).Denot)
    (s t : AtExit (ended_of 1 has-hop-kinds.ps has-hop-kinds.r) κs)
    → has-hop-reads.Post κs a x s → has-hop-reads.Post κs a y t → x ≡ y
has_hop_one κs a x y s t p q = same.has_hop_same κs a a x y s t [] [] [] [] refl refl refl p q

-- two outcomes of a face's closing leave the same routes and count as many, whatever the prefixes, the costs and the count are
pub drop_face_one : (κs : Lfts 1) (a : Dens κs drop-face-kinds.ps) (x y : (res_t drop-face-kinds.r κs).Denot)
    (s t : AtExit (ended_of 1 drop-face-kinds.ps drop-face-kinds.r) κs) (n c : List (List ℕ)) (k : Count)
    → drop-face-reads.Post κs a x s → drop-face-reads.Post κs a y t
    → (count_of (table n s.0.now c k) ≡ count_of (table n t.0.now c k)) × (view (table n s.0.now c k) ≡ view (table n t.0.now c k))
drop_face_one κs a x y s t n c k p q = (count_is _ ∙ sym (count_is _), same.drop_face_same κs a a x y s t n n c c k k refl refl p q)

-- two longest matching routes are the same
pub longest_one : (κs : Lfts 2) (a : Dens κs longest-kinds.ps) (x y : (res_t longest-kinds.r κs).Denot)
    (s t : AtExit (ended_of 2 longest-kinds.ps longest-kinds.r) κs)
    → longest-reads.Post κs a x s → longest-reads.Post κs a y t → x ≡ y
longest_one κs a x y s t p q = found_one _ x y (same.longest_same κs a a x y s t refl refl p q)

-- two class words of a route are the same
pub class_of_one : (κs : Lfts 1) (a : Dens κs class-of-kinds.ps) (x y : (res_t class-of-kinds.r κs).Denot)
    (s t : AtExit (ended_of 1 class-of-kinds.ps class-of-kinds.r) κs)
    → class-of-reads.Post κs a x s → class-of-reads.Post κs a y t → x ≡ y
class_of_one κs a x y s t p q = same.class_of_same κs a a x y s t refl refl p q

-- two sets of the hops of a route are the same
pub hops_of_one : (κs : Lfts 1) (a : Dens κs hops-of-kinds.ps) (x y : (res_t hops-of-kinds.r κs).Denot)
    (s t : AtExit (ended_of 1 hops-of-kinds.ps hops-of-kinds.r) κs)
    → hops-of-reads.Post κs a x s → hops-of-reads.Post κs a y t → x ≡ y
hops_of_one κs a x y s t p q = same.hops_of_same κs a a x y s t refl refl p q

-- two cheapest hops are the same
pub cheapest_one : (κs : Lfts 1) (a : Dens κs cheapest-kinds.ps) (x y : (res_t cheapest-kinds.r κs).Denot)
    (s t : AtExit (ended_of 1 cheapest-kinds.ps cheapest-kinds.r) κs)
    → cheapest-reads.Post κs a x s → cheapest-reads.Post κs a y t → x ≡ y
cheapest_one κs a x y s t p q = same.cheapest_same κs a a x y s t refl refl refl p q
