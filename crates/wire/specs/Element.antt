-- Document 01, "Reading packets": elements, one after the other, over a list of bytes.
-- Assumes nothing.
use Rattle.std.specs.Prelude.{ℕ, zero, suc, Bool, List, [], ◌∷◌, length, take, drop, ltb, eqb}
use Rattle.laws.specs.Pick.{pick}
use Rattle.wire.specs.Number.{Got, nothing, got, number}

-- an element: its type, its value, and what follows it
pub data Elem : Type 0 where
  bad : Elem
  elem : ℕ → List ℕ → List ℕ → Elem

-- "Each element ends within its parent"
unfoldable pub valued : ℕ → Got → Elem
valued t nothing = bad
valued t (got n w l) = pick (ltb (length l) n) bad (elem t (take n l) (drop n l))

-- "Type is 1 to 2^32-1"
unfoldable pub typed : (List ℕ → Got) → Got → Elem
typed num nothing = bad
typed num (got t w l) = pick (ltb t 1) bad (pick (ltb 4294967295 t) bad (valued t (num l)))

-- the element at the start of the bytes, whose type and length are read by num
unfoldable pub element_by : (List ℕ → Got) → List ℕ → Elem
element_by num l = typed num (num l)

-- the element at the start of the bytes
unfoldable pub element : List ℕ → Elem
unfolding pick valued typed element_by
element l = element_by number l

-- what is made of an element, or of a fault
unfoldable pub onward : {S : Type 0} → Elem → S → (ℕ → List ℕ → List ℕ → S) → S
onward bad x go = x
onward (elem t v l) x go = go t v l

-- elements, and the bytes after them that begin no element
pub record Split (A : Type 0) : Type 0 where
  pub items : List A
  pub rest : List ℕ

-- one element more in front
abbrev pub more : {A : Type 0} → A → Split A → Split A
more a p = record { items = a ∷ p.items; rest = p.rest }

-- no element begins here
abbrev pub stop : {A : Type 0} → List ℕ → Split A
stop l = record { items = []; rest = l }

module _ {A : Type 0} (keep : ℕ → List ℕ → List ℕ → A) where
  -- at most k elements, of each of which keep says what is kept: its type, its value and what follows it are at hand
  unfoldable pub at_most : ℕ → List ℕ → Split A
  at_most zero l = stop l
  at_most (suc k) l = onward (element l) (stop l) (λ t v r. more (keep t v r) (at_most k r))

  -- the elements of a parent, one after the other: each has a byte at least, so that there are no more than bytes
  unfoldable pub elements : List ℕ → Split A
  unfolding onward at_most
  elements l = at_most (length l) l

-- "Each element ends within its parent": nothing is left after the elements
unfoldable pub ended : {A : Type 0} → Split A → Bool
ended p = eqb (length p.rest) 0
