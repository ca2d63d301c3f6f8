-- Memories with equal routes give equal answers and equal routes: each public function, from its contract. Handles are alike where they
-- stand for equal places.
-- Assumes nothing.
use mathlib.Core.Path.{◌≡◌, sym, ap, ◌∙◌}
use mathlib.Core.List.{List}
use Prim.Native.Nat.{ℕ}
use lib.ListN.{length}
use contract.Lifetimes.{Lfts}
use denote.Triple.Clauses.{AtExit}
use borrow.Fn.Kinds.{Dens, ended_of, res_t}
use Rattle.routes.specs.declared.Count.{Count}
use Rattle.routes.specs.declared.Routes.{Routes}
use Rattle.routes.specs.Places.Parts.{table, known_routes}
use Rattle.routes.specs.Places.View.{view, place, place_in, place_found, count_of}
use Rattle.faces.specs.Laws.Found.{face_one}
use Rattle.routes.proofs.Routes.clear.Kinds as clear-kinds
use Rattle.routes.proofs.Routes.clear.Reads as clear-reads
use Rattle.routes.proofs.find.Kinds as find-kinds
use Rattle.routes.proofs.find.Reads as find-reads
use Rattle.routes.proofs.is_there.Kinds as is-there-kinds
use Rattle.routes.proofs.is_there.Reads as is-there-reads
use Rattle.routes.proofs.set.Kinds as set-kinds
use Rattle.routes.proofs.set.Reads as set_Reads
use Rattle.routes.proofs.Routes.remove.Kinds as remove-kinds
use Rattle.routes.proofs.Routes.remove.Reads as remove-reads
use Rattle.routes.proofs.add_hop.Kinds as add-hop-kinds
use Rattle.routes.proofs.add_hop.Reads as add-hop-reads
use Rattle.routes.proofs.drop_hop.Kinds as drop-hop-kinds
use Rattle.routes.proofs.drop_hop.Reads as drop-hop-reads
use Rattle.routes.proofs.has_hop.Kinds as has-hop-kinds
use Rattle.routes.proofs.has_hop.Reads as has-hop-reads
use Rattle.routes.proofs.drop_face.Kinds as drop-face-kinds
use Rattle.routes.proofs.drop_face.Reads as drop-face-reads
use Rattle.routes.proofs.Known.longest.Kinds as longest-kinds
use Rattle.routes.proofs.Known.longest.Reads as longest-reads
use Rattle.routes.proofs.Known.class_of.Kinds as class-of-kinds
use Rattle.routes.proofs.Known.class_of.Reads as class-of-reads
use Rattle.routes.proofs.Known.hops_of.Kinds as hops-of-kinds
use Rattle.routes.proofs.Known.hops_of.Reads as hops-of-reads
use Rattle.routes.proofs.Known.cheapest.Kinds as cheapest-kinds
use Rattle.routes.proofs.Known.cheapest.Reads as cheapest-reads

-- a table with no routes
pub clear_same : (κs : Lfts 1) (a b : Dens κs clear-kinds.ps) (x y : (res_t clear-kinds.r κs).Denot)
    (s t : AtExit (ended_of 1 clear-kinds.ps clear-kinds.r) κs)
    → clear-reads.Post κs a x s → clear-reads.Post κs b y t
    → (count_of s.0.now ≡ count_of t.0.now) × (view s.0.now ≡ view t.0.now)
clear_same κs a b x y s t p q = (p.1.0 ∙ sym q.1.0, p.0 ∙ sym q.0)

-- the route of a prefix
pub find_same : (κs : Lfts 3) (a b : Dens κs find-kinds.ps) (x y : (res_t find-kinds.r κs).Denot)
    (s t : AtExit (ended_of 3 find-kinds.ps find-kinds.r) κs) (c d : List (List ℕ))
    → view (table a.0.now a.1.0.now c a.1.1.0) ≡ view (table b.0.now b.1.0.now d b.1.1.0)
    → a.1.1.1.0.now ≡ b.1.1.1.0.now
    → find-reads.Post κs a x s → find-reads.Post κs b y t
    → place_in (table a.0.now a.1.0.now c a.1.1.0) x ≡ place_in (table b.0.now b.1.0.now d b.1.1.0) y
find_same κs a b x y s t c d v e p q =
    rw (v, e) at (place_found (table a.0.now a.1.0.now c a.1.1.0) _ x (p c))
    ∙ sym (place_found (table b.0.now b.1.0.now d b.1.1.0) _ y (q d))

-- whether a handle stands for a route
pub is_there_same : (κs : Lfts 0) (a b : Dens κs is-there-kinds.ps) (x y : (res_t is-there-kinds.r κs).Denot)
    (s t : AtExit (ended_of 0 is-there-kinds.ps is-there-kinds.r) κs) (f g : Routes)
    → f.count ≡ a.0 → g.count ≡ b.0
    → view f ≡ view g
    → place f a.1.0 ≡ place g b.1.0
    → is-there-reads.Post κs a x s → is-there-reads.Post κs b y t
    → x ≡ y
is_there_same κs a b x y s t f g m n v h p q = rw (v, h) at (p f m) ∙ sym (q g n)

-- a route that is set
pub set_same : (κs : Lfts 4) (a b : Dens κs set-kinds.ps) (x y : (res_t set-kinds.r κs).Denot)
    (s t : AtExit (ended_of 4 set-kinds.ps set-kinds.r) κs) (c d : List (List ℕ))
    → view (table a.0.now a.1.0.now c a.1.1.0.now) ≡ view (table b.0.now b.1.0.now d b.1.1.0.now)
    → a.1.1.1.0.now ≡ b.1.1.1.0.now
    → a.1.1.1.1.0 ≡ b.1.1.1.1.0
    → set_Reads.Post κs a x s → set_Reads.Post κs b y t
    → (x ≡ y)
    × (count_of (table s.0.now s.1.0.now c s.1.1.0.now) ≡ count_of (table t.0.now t.1.0.now d t.1.1.0.now))
    × (view (table s.0.now s.1.0.now c s.1.1.0.now) ≡ view (table t.0.now t.1.0.now d t.1.1.0.now))
set_same κs a b x y s t c d v e f p q =
    let said = rw (v, e) at (p.0 c).said ∙ sym (q.0 d).said in
    let left = rw (v, e, f) at (p.0 c).left ∙ sym (q.0 d).left in
    (said, p.1 c ∙ ap length left ∙ sym (q.1 d), left)

-- a route that is removed
pub remove_same : (κs : Lfts 1) (a b : Dens κs remove-kinds.ps) (x y : (res_t remove-kinds.r κs).Denot)
    (s t : AtExit (ended_of 1 remove-kinds.ps remove-kinds.r) κs)
    → view a.0.now ≡ view b.0.now
    → place a.0.now a.1.0 ≡ place b.0.now b.1.0
    → remove-reads.Post κs a x s → remove-reads.Post κs b y t
    → (count_of s.0.now ≡ count_of t.0.now) × (view s.0.now ≡ view t.0.now)
remove_same κs a b x y s t v h p q =
    let left = rw (v, h) at p.0 ∙ sym q.0 in
    (p.1 ∙ ap length left ∙ sym q.1, left)

-- a hop that is added
pub add_hop_same : (κs : Lfts 2) (a b : Dens κs add-hop-kinds.ps) (x y : (res_t add-hop-kinds.r κs).Denot)
    (s t : AtExit (ended_of 2 add-hop-kinds.ps add-hop-kinds.r) κs) (n o : List (List ℕ))
    → view (table n a.0.now a.1.0.now a.1.1.0) ≡ view (table o b.0.now b.1.0.now b.1.1.0)
    → place (table n a.0.now a.1.0.now a.1.1.0) a.1.1.1.0 ≡ place (table o b.0.now b.1.0.now b.1.1.0) b.1.1.1.0
    → a.1.1.1.1.0 ≡ b.1.1.1.1.0
    → a.1.1.1.1.1.0 ≡ b.1.1.1.1.1.0
    → add-hop-reads.Post κs a x s → add-hop-reads.Post κs b y t
    → view (table n s.0.now s.1.0.now a.1.1.0) ≡ view (table o t.0.now t.1.0.now b.1.1.0)
add_hop_same κs a b x y s t n o v h e0 e1 p q = rw (v, h, e0, e1) at (p n) ∙ sym (q o)

-- a hop that is dropped
pub drop_hop_same : (κs : Lfts 1) (a b : Dens κs drop-hop-kinds.ps) (x y : (res_t drop-hop-kinds.r κs).Denot)
    (s t : AtExit (ended_of 1 drop-hop-kinds.ps drop-hop-kinds.r) κs) (n o c d : List (List ℕ))
    → view (table n a.0.now c a.1.0) ≡ view (table o b.0.now d b.1.0)
    → place (table n a.0.now c a.1.0) a.1.1.0 ≡ place (table o b.0.now d b.1.0) b.1.1.0
    → a.1.1.1.0 ≡ b.1.1.1.0
    → drop-hop-reads.Post κs a x s → drop-hop-reads.Post κs b y t
    → view (table n s.0.now c a.1.0) ≡ view (table o t.0.now d b.1.0)
drop_hop_same κs a b x y s t n o c d v h e0 p q = rw (v, h, e0) at (p n c) ∙ sym (q o d)

-- whether a face is a hop
pub has_hop_same : (κs : Lfts 1) (a b : Dens κs has-hop-kinds.ps) (x y : (res_t has-hop-kinds.r κs).Denot)
    (s t : AtExit (ended_of 1 has-hop-kinds.ps has-hop-kinds.r) κs) (n o c d : List (List ℕ))
    → view (table n a.0.now c a.1.0) ≡ view (table o b.0.now d b.1.0)
    → place (table n a.0.now c a.1.0) a.1.1.0 ≡ place (table o b.0.now d b.1.0) b.1.1.0
    → a.1.1.1.0 ≡ b.1.1.1.0
    → has-hop-reads.Post κs a x s → has-hop-reads.Post κs b y t
    → x ≡ y
has_hop_same κs a b x y s t n o c d v h e0 p q = rw (v, h, e0) at (p n c) ∙ sym (q o d)

-- a face whose hops go
pub drop_face_same : (κs : Lfts 1) (a b : Dens κs drop-face-kinds.ps) (x y : (res_t drop-face-kinds.r κs).Denot)
    (s t : AtExit (ended_of 1 drop-face-kinds.ps drop-face-kinds.r) κs) (n o c d : List (List ℕ)) (j k : Count)
    → view (table n a.0.now c j) ≡ view (table o b.0.now d k)
    → a.1.0 ≡ b.1.0
    → drop-face-reads.Post κs a x s → drop-face-reads.Post κs b y t
    → view (table n s.0.now c j) ≡ view (table o t.0.now d k)
drop_face_same κs a b x y s t n o c d j k v e0 p q = rw (v, e0) at (p n c j) ∙ sym (q o d k)

-- the longest matching route
pub longest_same : (κs : Lfts 2) (a b : Dens κs longest-kinds.ps) (x y : (res_t longest-kinds.r κs).Denot)
    (s t : AtExit (ended_of 2 longest-kinds.ps longest-kinds.r) κs)
    → view (known_routes a.0) ≡ view (known_routes b.0)
    → a.1.0.now ≡ b.1.0.now
    → longest-reads.Post κs a x s → longest-reads.Post κs b y t
    → place_in (known_routes a.0) x ≡ place_in (known_routes b.0) y
longest_same κs a b x y s t v e p q = rw (v, e) at (place_found (known_routes a.0) _ x p) ∙ sym (place_found (known_routes b.0) _ y q)

-- the class word of a route
pub class_of_same : (κs : Lfts 1) (a b : Dens κs class-of-kinds.ps) (x y : (res_t class-of-kinds.r κs).Denot)
    (s t : AtExit (ended_of 1 class-of-kinds.ps class-of-kinds.r) κs)
    → view (known_routes a.0) ≡ view (known_routes b.0)
    → place (known_routes a.0) a.1.0 ≡ place (known_routes b.0) b.1.0
    → class-of-reads.Post κs a x s → class-of-reads.Post κs b y t
    → x ≡ y
class_of_same κs a b x y s t v h p q = rw (v, h) at p ∙ sym q

-- the set of the hops of a route
pub hops_of_same : (κs : Lfts 1) (a b : Dens κs hops-of-kinds.ps) (x y : (res_t hops-of-kinds.r κs).Denot)
    (s t : AtExit (ended_of 1 hops-of-kinds.ps hops-of-kinds.r) κs)
    → view (known_routes a.0) ≡ view (known_routes b.0)
    → place (known_routes a.0) a.1.0 ≡ place (known_routes b.0) b.1.0
    → hops-of-reads.Post κs a x s → hops-of-reads.Post κs b y t
    → x ≡ y
hops_of_same κs a b x y s t v h p q = rw (v, h) at p ∙ sym q

-- the cheapest hop
pub cheapest_same : (κs : Lfts 1) (a b : Dens κs cheapest-kinds.ps) (x y : (res_t cheapest-kinds.r κs).Denot)
    (s t : AtExit (ended_of 1 cheapest-kinds.ps cheapest-kinds.r) κs)
    → view (known_routes a.0) ≡ view (known_routes b.0)
    → place (known_routes a.0) a.1.0 ≡ place (known_routes b.0) b.1.0
    → a.1.1.0 ≡ b.1.1.0
    → cheapest-reads.Post κs a x s → cheapest-reads.Post κs b y t
    → x ≡ y
cheapest_same κs a b x y s t v h e0 p q = face_one x y (rw (v, h, e0) at p ∙ sym q)
