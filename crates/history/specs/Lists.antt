-- Words about lists: what holds of each element or of some, how many there are of a kind, and lists of which no two elements are alike.
-- Assumes nothing.
use Rattle.std.specs.Prelude.{ℕ, ◌+◌, ◌≡◌, Bool, true, false, List, [], ◌∷◌}

-- P holds of each element
pub data All {A : Type 0} (P : A → Type 0) : List A → Type 0 where
  nothing : All P []
  both : {a : A} {l : List A} → P a → All P l → All P (a ∷ l)

-- P holds of some element
pub data Some {A : Type 0} (P : A → Type 0) : List A → Type 0 where
  here : {a : A} {l : List A} → P a → Some P (a ∷ l)
  there : {a : A} {l : List A} → Some P l → Some P (a ∷ l)

-- an element of a list
abbrev pub In : {A : Type 0} → A → List A → Type 0
In a l = Some (λ b. b ≡ a) l

-- any two elements at different places stand in D
pub data Apart {A : Type 0} (D : A → A → Type 0) : List A → Type 0 where
  alone : Apart D []
  among : {a : A} {l : List A} → All (D a) l → Apart D l → Apart D (a ∷ l)

-- 1 where a test holds, else 0
abbrev pub one : Bool → ℕ
one true = 1
one false = 0

-- how many elements of a list p holds of
unfoldable pub how_many : {A : Type 0} → (A → Bool) → List A → ℕ
how_many p [] = 0
how_many p (a ∷ l) = one (p a) + how_many p l

-- two lists of one length, whose elements stand in R pair by pair
pub data Pairs {A B : Type 0} (R : A → B → Type 0) : List A → List B → Type 0 where
  done : Pairs R [] []
  next : {a : A} {b : B} {l : List A} {m : List B} → R a b → Pairs R l m → Pairs R (a ∷ l) (b ∷ m)
