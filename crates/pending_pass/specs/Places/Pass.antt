-- A pass over chosen entries, the oldest opening first: each is changed and kept, or leaves; what it buries joins the dead nonce list,
-- and what happened to it is noted.
-- Assumes nothing.
use Rattle.std.specs.Prelude.{ℕ, ◌≡◌, Bool, List, [], ◌∷◌, map, length}
use Rattle.laws.specs.Pick.{pick}
use Rattle.laws.specs.Lists.{on_at, without}
use Rattle.sizes.specs.Sizes.{most_dead}
use Rattle.records.specs.Slots.{each}
use Rattle.records.specs.Entry.{Entry, is_idle}
use Rattle.records.specs.Ageing.{leaving}
use Rattle.records.specs.Line.{Line, joined_all}
use Rattle.records.specs.Happening.{Happening}
use Rattle.records.specs.Rows.{row_of}
use Rattle.happenings.specs.Noted.{most_rows, Notes}

-- what a pass does to each chosen entry: what it becomes, whether it stays, what it buries, and what happened to its requests
pub record Work : Type 0 where
  pub change : Entry → Entry
  pub stays : Entry → Bool
  pub buries : Entry → List Line
  pub ends : Entry → List Happening

-- the rows of what happened to an entry's requests
unfoldable pub notes : Work → Entry → List (List ℕ)
notes w e = map row_of (w.ends e)

-- the marked ones of a list, where each has a mark
unfoldable pub marked : {A : Type 0} → List Bool → List A → List A
marked [] es = []
marked (m ∷ ms) [] = []
marked (m ∷ ms) (e ∷ es) = pick m (e ∷ marked ms es) (marked ms es)

-- an entry after its turn, before others
unfoldable pub after : Work → Entry → List Entry → List Entry
after w e es = pick (w.stays e) (w.change e ∷ es) es

-- the entries after a pass over the marked ones
unfoldable pub passed : Work → List Bool → List Entry → List Entry
passed w [] es = es
passed w (m ∷ ms) [] = []
passed w (m ∷ ms) (e ∷ es) = pick m (after w e (passed w ms es)) (e ∷ passed w ms es)

-- from entries, lines, rows and how many are noted, before a turn, to those after it: the turn is that of the entry e, at place k
pub record Turned {C : Type 0} (w : Work) (k : ℕ) (e : Entry) (es : List Entry) (ms : C → List Bool) (ls : List Line)
    (rs : List (List ℕ)) (made : ℕ)
    (es' : List Entry) (ms' : C → List Bool) (ls' : List Line) (rs' : List (List ℕ)) (made' : ℕ) : Type 0 where
  pub entries : es' ≡ pick (w.stays e) (on_at k w.change es) (without k es)
  pub marks : (c : C) → ms' c ≡ pick (w.stays e) (ms c) (without k (ms c))
  pub lines : ls' ≡ joined_all most_dead ls (w.buries e)
  pub rows : Notes most_rows made' rs' rs made (notes w e)

-- an entry without requests is buried and leaves: from entries, marks and lines before to those after, where e stands at place k
pub record Leaves {C : Type 0} (print : List ℕ → ℕ → ℕ) (now k : ℕ) (e : Entry) (es : List Entry) (ms : C → List Bool) (ls : List Line)
    (es' : List Entry) (ms' : C → List Bool) (ls' : List Line) : Type 0 where
  pub entries : es' ≡ pick (is_idle e) (without k es) es
  pub marks : (c : C) → ms' c ≡ pick (is_idle e) (without k (ms c)) (ms c)
  pub lines : ls' ≡ joined_all most_dead ls (leaving print now e)

-- from those before a pass over the marked entries to those after it
pub record Passes (w : Work) (ms : List Bool) (es : List Entry) (ls : List Line) (rs : List (List ℕ)) (made : ℕ)
    (es' : List Entry) (ls' : List Line) (rs' : List (List ℕ)) (made' : ℕ) : Type 0 where
  pub entries : es' ≡ passed w ms es
  pub lines : ls' ≡ joined_all most_dead ls (each w.buries (marked ms es))
  pub rows : Notes most_rows made' rs' rs made (each (notes w) (marked ms es))

-- on the way: a pass over what is marked now comes to what the whole pass comes to
pub record Passing (w : Work) (ms : List Bool) (es : List Entry) (ls : List Line) (rs : List (List ℕ)) (made : ℕ)
    (ms' : List Bool) (es' : List Entry) (ls' : List Line) (rs' : List (List ℕ)) (made' : ℕ) : Type 0 where
  pub long : length ms' ≡ length es'
  pub entries : passed w ms' es' ≡ passed w ms es
  pub lines : joined_all most_dead ls' (each w.buries (marked ms' es')) ≡ joined_all most_dead ls (each w.buries (marked ms es))
  pub all : length rs' ≡ most_rows
  pub rows : (r : ℕ) (end : List (List ℕ)) → Notes most_rows r end rs' made' (each (notes w) (marked ms' es'))
      → Notes most_rows r end rs made (each (notes w) (marked ms es))
