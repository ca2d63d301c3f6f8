-- One outcome for each input of each public function: any two that its contract admits are equal, and leave the same Data and count as
-- many. Packets and rows past the last Data and bytes of a packet past its length are not fixed.
-- Assumes nothing.
use Prim.Native.Nat.{ℕ}
use mathlib.Core.List.{[]}
use mathlib.Core.Path.{◌≡◌, refl, sym, ◌∙◌}
use contract.Lifetimes.{Lfts}
use denote.Triple.Clauses.{AtExit}
use borrow.Fn.Kinds.{Dens, ended_of, res_t}
use Rattle.store.specs.Places.View.{view, count_of, count_is}
use Rattle.store.specs.Laws.Hits.{looks_one}
use Rattle.store.specs.declared.Store.{Store}
use Rattle.store.proofs.none.Kinds as none-kinds
use Rattle.store.proofs.none.Reads as none-reads
use Rattle.store.proofs.Store.new.Kinds as new-kinds
use Rattle.store.proofs.Store.new.Reads as new_reads
use Rattle.store.proofs.Store.clear.Kinds as clear-kinds
use Rattle.store.proofs.Store.clear.Reads as clear-reads
use Rattle.store.proofs.Store.is_there.Kinds as is-there-kinds
use Rattle.store.proofs.Store.is_there.Reads as is-there-reads
use Rattle.store.proofs.bytes_of.Kinds as bytes-of-kinds
use Rattle.store.proofs.bytes_of.Reads as bytes-of-reads
use Rattle.store.proofs.Store.put.Kinds as put-kinds
use Rattle.store.proofs.Store.put.Reads as put_reads
use Rattle.store.proofs.Store.look.Kinds as look-kinds
use Rattle.store.proofs.Store.look.Reads as look-reads
use Rattle.store.proofs.Store.touch.Kinds as touch-kinds
use Rattle.store.proofs.Store.touch.Reads as Touch-reads
use Rattle.store.proofs.Same as same

-- a store that counts so many Data
abbrev counting : ℕ → Store
counting n = record { packets = []; rows = []; count = n }

-- two counts of no Data are the same
pub none_one : (κs : Lfts 0) (a : Dens κs none-kinds.ps) (x y : (res_t none-kinds.r κs).Denot)
    (s t : AtExit (ended_of 0 none-kinds.ps none-kinds.r) κs)
    → none-reads.Post κs a x s → none-reads.Post κs a y t → x ≡ y
none_one κs a x y s t p q = sym (count_is (counting x)) ∙ p.1 (counting x) refl ∙ sym (q.1 (counting y) refl) ∙ count_is (counting y)

-- two new stores have the same Data, and count as many
pub new_one : (κs : Lfts 0) (a b : Dens κs new-kinds.ps) (x y : (res_t new-kinds.r κs).Denot)
    (s t : AtExit (ended_of 0 new-kinds.ps new-kinds.r) κs)
    → new_reads.Post κs a x s → new_reads.Post κs b y t
    → (view x ≡ view y) × (count_of x ≡ count_of y)
new_one κs a b x y s t p q = (p.0 ∙ sym q.0, p.1 ∙ sym q.1)

-- two stores that are cleared have the same Data, whatever the memory held, and count as many
pub clear_one : (κs : Lfts 1) (a b : Dens κs clear-kinds.ps) (x y : (res_t clear-kinds.r κs).Denot)
    (s t : AtExit (ended_of 1 clear-kinds.ps clear-kinds.r) κs)
    → clear-reads.Post κs a x s → clear-reads.Post κs b y t
    → (view s.0.now ≡ view t.0.now) × (count_of s.0.now ≡ count_of t.0.now)
clear_one κs a b x y s t p q = (p.0 ∙ sym q.0, p.1.0 ∙ sym q.1.0)

-- two answers whether a handle stands for a Data are the same
pub is_there_one : (κs : Lfts 1) (a : Dens κs is-there-kinds.ps) (x y : (res_t is-there-kinds.r κs).Denot)
    (s t : AtExit (ended_of 1 is-there-kinds.ps is-there-kinds.r) κs)
    → is-there-reads.Post κs a x s → is-there-reads.Post κs a y t → x ≡ y
is_there_one κs a x y s t p q = same.is_there_same κs a a x y s t refl refl p q

-- two parts with the bytes of a Data hold the same bytes
pub bytes_of_one : (κs : Lfts 2) (a : Dens κs bytes-of-kinds.ps) (x y : (res_t bytes-of-kinds.r κs).Denot)
    (s t : AtExit (ended_of 2 bytes-of-kinds.ps bytes-of-kinds.r) κs)
    → bytes-of-reads.Post κs a x s → bytes-of-reads.Post κs a y t → x.now ≡ y.now
bytes_of_one κs a x y s t p q = same.bytes_of_same κs a a x y s t refl refl p q

-- two outcomes of storing a Data are the same, and leave the same Data
pub put_one : (κs : Lfts 2) (a : Dens κs put-kinds.ps) (x y : (res_t put-kinds.r κs).Denot)
    (s t : AtExit (ended_of 2 put-kinds.ps put-kinds.r) κs)
    → put_reads.Post κs a x s → put_reads.Post κs a y t
    → (x ≡ y) × (view s.0.now ≡ view t.0.now) × (count_of s.0.now ≡ count_of t.0.now)
put_one κs a x y s t p q = same.put_same κs a a x y s t refl refl refl refl p q

-- two answers of a lookup are the same
pub look_one : (κs : Lfts 2) (a : Dens κs look-kinds.ps) (x y : (res_t look-kinds.r κs).Denot)
    (s t : AtExit (ended_of 2 look-kinds.ps look-kinds.r) κs)
    → look-reads.Post κs a x s → look-reads.Post κs a y t → x ≡ y
look_one κs a x y s t p q = looks_one _ x y (same.look_same κs a a x y s t refl refl refl refl refl p q)

-- two outcomes of a hit leave the same Data
pub touch_one : (κs : Lfts 1) (a : Dens κs touch-kinds.ps) (x y : (res_t touch-kinds.r κs).Denot)
    (s t : AtExit (ended_of 1 touch-kinds.ps touch-kinds.r) κs)
    → Touch-reads.Post κs a x s → Touch-reads.Post κs a y t
    → (view s.0.now ≡ view t.0.now) × (count_of s.0.now ≡ count_of t.0.now)
touch_one κs a x y s t p q = same.touch_same κs a a x y s t refl refl p q
