-- What each function of the table comes to: an entry found, opened, taken out; what is said of one; how many there are of each class.
-- Assumes nothing.
use Rattle.std.specs.Prelude.{ℕ, ◌<◌, ◌≡◌, Bool, false, not, ◌&&◌, List, [], ◌∷◌, ◌++◌, length, take, ltb, leb}
use Rattle.laws.specs.Pick.{pick}
use Rattle.laws.specs.Lists.{without}
use Rattle.sizes.specs.Sizes.{most_entries, most_name}
use Rattle.records.specs.Class.{alarm, monitoring, bulk, class_number, is_class, is_of}
use Rattle.records.specs.Entry.{Entry, used_by}
use Rattle.pending_order.specs.Order.{place_without}
use Rattle.pending_table.specs.declared.Handle.{Handle}
use Rattle.pending_table.specs.declared.Chosen.{Chosen}
use Rattle.pending_table.specs.declared.Facts.{Facts}
use Rattle.pending_table.specs.declared.Uses.{Uses}

-- the handle of the entry at place i is found: it stands there, and no other handle is an answer
pub record Finds (place : Handle → ℕ) (handle : ℕ → Handle) (i : ℕ) (r : Handle) : Type 0 where
  pub at : place r ≡ i
  pub own : r ≡ handle i

-- whether a new entry fits: the size of a name, and of the table
unfoldable pub fits_table : Entry → List Entry → Bool
fits_table e es = leb (length e.name) most_name && ltb (length es) most_entries

-- an entry opened, after the others, if it fits; the handle is its own, else that of no entry; other entries and marks stay where they are
pub record Opens (r : Handle) (e : Entry) (before after : List Entry) (was stands : Handle → ℕ)
    (marked marks : Chosen → List Bool) : Type 0 where
  pub said : ltb (stands r) (length after) ≡ fits_table e before
  pub left : after ≡ pick (fits_table e before) (before ++ (e ∷ [])) before
  pub last : stands r ≡ length before
  pub others : (h : Handle) → was h < length before → stands h ≡ was h
  pub chosen : (c : Chosen) → take (length before) (marks c) ≡ marked c

-- the entry of a handle taken out, if it has one; other entries and marks move as the list does
pub record TakesOut (h : Handle) (before after : List Entry) (was stands : Handle → ℕ) (marked marks : Chosen → List Bool) : Type 0 where
  pub left : after ≡ without (was h) before
  pub others : (g : Handle) → stands g ≡ place_without (was h) (was g) (length after)
  pub chosen : (c : Chosen) → marks c ≡ without (was h) (marked c)

-- what is said of an entry that is not there
unfoldable pub nothing : Facts
nothing = record { prefix = false; fresh = false; class = 0 }

-- the flags and the class word of an entry
unfoldable pub facts_of : Entry → Facts
facts_of e = record { prefix = e.can_be_prefix; fresh = e.must_be_fresh; class = class_number e.cls }

-- how many entries each class has; `other` counts those whose class word is no class
unfoldable pub uses_of : List Entry → Uses
uses_of es = record {
  alarm = used_by (is_of alarm) es;
  monitoring = used_by (is_of monitoring) es;
  bulk = used_by (is_of bulk) es;
  other = used_by (λ c. not (is_class c)) es;
}
