-- What is kept for each face: a list of slots, the first for face 1.
-- Assumes nothing.
use Rattle.std.specs.Prelude.{ℕ, zero, suc, Bool, true, false, List, [], ◌∷◌, ◌++◌, get_or, set, replicate, ltb}
use Rattle.std.proofs.Math.Option.{Option, none, some}
unfoldable pub use Rattle.laws.specs.Lists.{any_of}
use Rattle.laws.specs.Pick.{pick}

-- n empty slots
unfoldable pub no_slots : {A : Type 0} → ℕ → List (Option A)
no_slots n = replicate n none

-- the slot of a face; 0 is no face, and no more is a number past the last slot
unfoldable pub slot : {A : Type 0} → ℕ → List (Option A) → Option A
slot zero l = none
slot (suc i) l = get_or l i none

-- the slots with that of a face set; a number that is no face sets nothing
unfoldable pub set_slot : {A : Type 0} → ℕ → Option A → List (Option A) → List (Option A)
set_slot zero x l = l
set_slot (suc i) x l = set l i x

-- the slots, the first being that of face f, without those of the faces that p holds of
unfoldable pub emptied_from : {A : Type 0} → (ℕ → Bool) → ℕ → List (Option A) → List (Option A)
emptied_from p f [] = []
emptied_from p f (x ∷ l) = pick (p f) none x ∷ emptied_from p (suc f) l

-- the slots without those of the faces that p holds of
unfoldable pub emptied : {A : Type 0} → (ℕ → Bool) → List (Option A) → List (Option A)
emptied p l = emptied_from p 1 l

-- whether something is there
unfoldable pub is_some : {A : Type 0} → Option A → Bool
is_some none = false
is_some (some a) = true

-- whether p holds of what is there
unfoldable pub holds : {A : Type 0} → (A → Bool) → Option A → Bool
holds p none = false
holds p (some a) = p a

-- what is there, or else what is there instead
unfoldable pub or_else : {A : Type 0} → Option A → Option A → Option A
or_else none y = y
or_else (some a) y = some a

-- what f makes of what is there, or d
unfoldable pub given : {A B : Type 0} → B → (A → B) → Option A → B
given d f none = d
given d f (some a) = f a

-- the element at a place, if there is one
unfoldable pub at_place : {A : Type 0} → ℕ → List A → Option A
at_place i [] = none
at_place zero (a ∷ l) = some a
at_place (suc i) (a ∷ l) = at_place i l

-- a face, and what is kept for it
pub record Held (A : Type 0) : Type 0 where
  pub face : ℕ
  pub what : A

-- what is kept, by ascending face, the first slot being that of face f
unfoldable pub held_from : {A : Type 0} → ℕ → List (Option A) → List (Held A)
held_from f [] = []
held_from f (none ∷ l) = held_from (suc f) l
held_from f (some a ∷ l) = record { face = f; what = a } ∷ held_from (suc f) l

-- what is kept, by ascending face
unfoldable pub held : {A : Type 0} → List (Option A) → List (Held A)
held l = held_from 1 l

-- the elements of a list that p holds of
unfoldable pub only : {A : Type 0} → (A → Bool) → List A → List A
only p [] = []
only p (a ∷ l) = pick (p a) (a ∷ only p l) (only p l)

-- the one that measures less, the first where they measure the same
unfoldable pub less_by : {A : Type 0} → (Held A → ℕ) → Held A → Option (Held A) → Option (Held A)
less_by by h none = some h
less_by by h (some k) = pick (ltb (by k) (by h)) (some k) (some h)

-- the one that measures least, "ties to the lower face"
unfoldable pub least_by : {A : Type 0} → (Held A → ℕ) → List (Held A) → Option (Held A)
least_by by [] = none
least_by by (h ∷ hs) = less_by by h (least_by by hs)

-- of the faces that p holds of, the one for which what measures least is kept, "ties to the lower face"
unfoldable pub least_face : {A : Type 0} → (A → ℕ) → (ℕ → Bool) → List (Option A) → Option ℕ
least_face by p l = given none (λ h. some h.face) (least_by (λ h. by h.what) (only (λ h. p h.face) (held l)))

-- the lists that f makes of the elements, one after the other
unfoldable pub each : {A B : Type 0} → (A → List B) → List A → List B
each f [] = []
each f (a ∷ l) = f a ++ each f l

-- whether there is no element
unfoldable pub is_empty : {A : Type 0} → List A → Bool
is_empty [] = true
is_empty (a ∷ l) = false
