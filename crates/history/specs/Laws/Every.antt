-- What holds of each element, or of some element, of the lists that the rules make.
-- Assumes nothing.
use Prim.Native.Nat.{ℕ, zero, suc}
use Rattle.std.specs.Prelude.{◌≡◌, refl, Bool, true, List, [], ◌∷◌, ◌++◌, map, drop}
use Rattle.std.proofs.Common.{ap, arith}
use Rattle.std.proofs.Math.Option.{none, some}
use Rattle.std.proofs.Math.ListN.{get_elem?}
use Rattle.laws.specs.Laws.Pick.{pick_ind}
use Rattle.laws.specs.Lists.{on_at, without}
use Rattle.records.specs.Slots.{only, each}
use Rattle.history.specs.Lists.{All, nothing, both, Some, here, there, In}

-- nothing is no thing
pub not_none : {A B : Type 0} {a : A} → none ≡ some a → B
not_none e = absurd (let z : ◌≡◌ {A = ℕ} 0 1 = cc in omega arith)

module _ {A : Type 0} {P : A → Type 0} where
  -- one list after another
  pub all_append : {l m : List A} → All P l → All P m → All P (l ++ m)
  all_append nothing k = k
  all_append (both p h) k = both p (all_append h k)

  -- one element more at the end
  pub all_snoc : {l : List A} {a : A} → All P l → P a → All P (l ++ (a ∷ []))
  all_snoc h p = all_append h (both p nothing)

  -- what holds wherever P does
  pub all_mono : {Q : A → Type 0} {l : List A} → ((a : A) → P a → Q a) → All P l → All Q l
  all_mono f nothing = nothing
  all_mono f (both {a} p h) = both (f a p) (all_mono f h)

  -- what holds of any element
  pub all_any : ((a : A) → P a) → (l : List A) → All P l
  all_any f [] = nothing
  all_any f (a ∷ l) = both (f a) (all_any f l)

  -- the elements that a test holds of
  pub all_only : (p : A → Bool) {l : List A} → All P l → All P (only p l)
  unfolding only
  all_only p nothing = nothing
  all_only p (both {a} {l} q h) = let r = all_only p h in pick_ind (All P) (p a) _ _ (λ _. both q r) (λ _. r)

  -- an element taken out
  pub all_without : (i : ℕ) {l : List A} → All P l → All P (without i l)
  unfolding without
  all_without i nothing = nothing
  all_without zero (both p h) = h
  all_without (suc i) (both p h) = both p (all_without i h)

  -- the first element dropped
  pub all_drop : {l : List A} → All P l → All P (drop 1 l)
  all_drop nothing = nothing
  all_drop (both p h) = h

  -- an element changed
  pub all_on_at : (i : ℕ) (f : A → A) → ((a : A) → P a → P (f a)) → {l : List A} → All P l → All P (on_at i f l)
  unfolding on_at
  all_on_at i f k nothing = nothing
  all_on_at zero f k (both {a} p h) = both (k a p) h
  all_on_at (suc i) f k (both p h) = both p (all_on_at i f k h)

  -- an element that P holds of
  pub all_in : {l : List A} → All P l → {a : A} → In a l → P a
  all_in nothing i = elim i [ ]
  all_in (both p h) (here e) = rw e at p
  all_in (both p h) (there i) = all_in h i

-- a test holds of the elements that it holds of
pub only_test : {A : Type 0} (p : A → Bool) (l : List A) → All (λ a. p a ≡ true) (only p l)
unfolding only
only_test p [] = nothing
only_test p (a ∷ l) = let r = only_test p l in pick_ind (All (λ a. p a ≡ true)) (p a) _ _ (λ e. both e r) (λ _. r)

module _ {A B : Type 0} {P : B → Type 0} where
  -- what f makes of the elements
  pub all_map : (f : A → B) {l : List A} → All (λ a. P (f a)) l → All P (map f l)
  all_map f nothing = nothing
  all_map f (both p h) = both p (all_map f h)

  -- the lists that f makes of the elements
  pub all_each : (f : A → List B) {l : List A} → All (λ a. All P (f a)) l → All P (each f l)
  unfolding each
  all_each f nothing = nothing
  all_each f (both p h) = all_append p (all_each f h)

module _ {A : Type 0} where
  -- two things that hold of each
  pub all_and : {P Q : A → Type 0} {l : List A} → All P l → All Q l → All (λ a. P a × Q a) l
  all_and nothing nothing = nothing
  all_and (both p h) (both q k) = both (p, q) (all_and h k)

  -- some element of the first of two lists
  pub some_left : {P : A → Type 0} {l : List A} (m : List A) → Some P l → Some P (l ++ m)
  some_left m (here p) = here p
  some_left m (there s) = there (some_left m s)

  -- some element of the second of two lists
  pub some_right : {P : A → Type 0} (l : List A) {m : List A} → Some P m → Some P (l ++ m)
  some_right [] s = s
  some_right (a ∷ l) s = there (some_right l s)

  -- what holds wherever P does
  pub some_mono : {P Q : A → Type 0} {l : List A} → ((a : A) → P a → Q a) → Some P l → Some Q l
  some_mono f (here {a} p) = here (f a p)
  some_mono f (there s) = there (some_mono f s)

  -- each element is one
  pub all_own : (l : List A) → All (λ a. In a l) l
  all_own [] = nothing
  all_own (a ∷ l) = both (here refl) (all_mono (λ b i. there i) (all_own l))

  -- what stands at a place is an element
  pub at_in : (i : ℕ) (x : A) (l : List A) → get_elem? l i ≡ some x → In x l
  at_in i x [] e = not_none e
  at_in zero x (a ∷ l) e = let q : a ≡ x = cc in here q
  at_in (suc i) x (a ∷ l) e = there (at_in i x l e)

module _ {A B : Type 0} where
  -- what f makes of an element is in what it makes of them all
  pub in_map : (f : A → B) {a : A} {l : List A} → In a l → In (f a) (map f l)
  in_map f (here e) = here (ap f e)
  in_map f (there i) = there (in_map f i)

  -- some element of what f makes of the elements
  pub some_map : {P : B → Type 0} (f : A → B) {l : List A} → Some (λ a. P (f a)) l → Some P (map f l)
  some_map f (here p) = here p
  some_map f (there s) = there (some_map f s)

  -- some element of a list that f makes is one of the lists that it makes of them all
  pub some_each : {P : B → Type 0} (f : A → List B) {l : List A} → Some (λ a. Some P (f a)) l → Some P (each f l)
  unfolding each
  some_each f (here {a} {l} p) = some_left (each f l) p
  some_each f (there {a} s) = some_right (f a) (some_each f s)

-- the elements that a test holds of are elements that it holds of
pub only_in : {A : Type 0} (p : A → Bool) (l : List A) → All (λ a. In a l × (p a ≡ true)) (only p l)
only_in p l = all_and (all_only p (all_own l)) (only_test p l)
