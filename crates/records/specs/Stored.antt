-- The store: Data in the order of their use, the least recently stored or hit first.
-- Assumes nothing.
use Rattle.std.specs.declared.cmp.Ordering.{Ordering}
use Rattle.std.specs.Prelude.{ℕ, suc, ◌+◌, Bool, true, false, ◌&&◌, ◌||◌, not, List, [], ◌∷◌, ◌++◌, length, drop, ltb}
use Rattle.std.proofs.Math.Option.{Option, none, some}
use Rattle.laws.specs.Pick.{pick}
use Rattle.laws.specs.Lists.{index_of, without}
use Rattle.names.specs.Name.{same_bytes, prefix_of}
use Rattle.names.specs.Order.{canonical_order}

-- a Data: its name, its bytes without an Lp header, when it was stored, and its freshness as it counts
pub record Stored : Type 0 where
  pub name : List ℕ
  pub bytes : List ℕ
  pub time : ℕ
  pub freshness : ℕ

-- "The store replaces an equal name": what is left without it
unfoldable pub others : List ℕ → List Stored → List Stored
others name ds = without (index_of (λ d. same_bytes name d.name) ds) ds

-- "else, when full, evicts the least recently stored or hit"
unfoldable pub room_for : ℕ → List Stored → List Stored
room_for size ds = pick (ltb (length ds) size) ds (drop 1 ds)

-- the store with a Data more, the most recent, in a store of a size
unfoldable pub stored : ℕ → Stored → List Stored → List Stored
stored size d ds = room_for size (others d.name ds) ++ (d ∷ [])

-- "A lookup may take an equal name, with CanBePrefix also any name extending it, and with MustBeFresh only while now < storing time +
-- freshness"
unfoldable pub serves : ℕ → List ℕ → Bool → Bool → Stored → Bool
serves now name p m d =
    (same_bytes name d.name || (p && prefix_of name d.name)) && (not m || ltb now (d.time + d.freshness))

-- a Data, and its place in the store
pub record Hit : Type 0 where
  pub place : ℕ
  pub what : Stored

-- whether it comes before
unfoldable pub is_before : Ordering → Bool
is_before Ordering.Less = true
is_before Ordering.Equal = false
is_before Ordering.Greater = false

-- "the first in canonical order" of a Data and what was found after it
unfoldable pub earlier : Hit → Option Hit → Option Hit
earlier h none = some h
earlier h (some k) = pick (is_before (canonical_order k.what.name h.what.name)) (some k) (some h)

-- the Data that a lookup takes of those from place i on
unfoldable pub lookup_from : (Stored → Bool) → ℕ → List Stored → Option Hit
lookup_from p i [] = none
lookup_from p i (d ∷ ds) = pick (p d) (earlier (record { place = i; what = d }) (lookup_from p (suc i) ds)) (lookup_from p (suc i) ds)

-- the Data that a lookup takes
unfoldable pub lookup : ℕ → List ℕ → Bool → Bool → List Stored → Option Hit
lookup now name p m ds = lookup_from (serves now name p m) 0 ds

-- a hit becomes the most recent
unfoldable pub touched : Hit → List Stored → List Stored
touched h ds = without h.place ds ++ (h.what ∷ [])
