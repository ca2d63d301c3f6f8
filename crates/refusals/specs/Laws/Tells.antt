-- What a test tells: the statement that holds exactly where the test does, for the tests that the rules are made of.
-- Assumes nothing.
use Rattle.std.specs.Prelude.{ℕ, zero, suc, ◌+◌, ◌≤◌, ◌<◌, ◌≡◌, ◌↔◌, ◌⊎◌, Bool, ◌&&◌, ◌||◌, not, length, get_or, drop, ltb, leb, eqb}
use Rattle.std.proofs.Math.Path.{refl}
use Rattle.std.proofs.Common.{sym, ap, ltb-true, leb-true, eqb-true, lt-ltb, le-leb, eq-eqb, arith, add-zero}
use mathlib.Core.Logic.Iff
use Rattle.std.proofs.Math.Logic.{inl, inr, ⊎_elim}
use Rattle.std.proofs.Math.Bool.{true, false, false≢true}
use Rattle.std.specs.Bool.{beq}
use mathlib.Core.List.Memᴰ
use mathlib.Core.List.{List, [], ◌∷◌, Memᴰ}
use Rattle.std.proofs.Math.Option.{Option, none, some}
use Rattle.laws.specs.Pick.{pick}
use Rattle.laws.specs.Lists.{index_of}
use Rattle.names.specs.Name.{same_bytes, prefix_of}
use Rattle.names.specs.Laws.Same.{same_equal, same_refl, prefix_append, prefix_is}
use Rattle.records.specs.Slots.{slot, is_some, holds, Held, held_from, held, any_of, only, is_empty, at_place}
use Rattle.refusals.specs.Refusals.{First, NoneOf, Prefix}

-- a test holds exactly where a statement does
abbrev pub Tells : Bool → Type 0 → Type 0
Tells b P = (b ≡ true) ↔ P

-- no test both fails and holds
pub not_both : {C : Type 0} → false ≡ true → C
not_both e = absurd (false≢true e)

module _ {P Q : Type 0} where
  -- one test or another
  pub tells_or : {b c : Bool} → Tells b P → Tells c Q → Tells (b || c) (P ⊎ Q)
  tells_or {b = true} p q = (λ e. inl (p.0 refl), λ x. refl)
  tells_or {b = false} p q = (λ e. inr (q.0 e), ⊎_elim (λ x. not_both (p.1 x)) q.1)

  -- one test and another
  pub tells_and : {b c : Bool} → Tells b P → Tells c Q → Tells (b && c) (P × Q)
  tells_and {b = true} p q = (λ e. (p.0 refl, q.0 e), λ x. q.1 x.1)
  tells_and {b = false} p q = (not_both, λ x. not_both (p.1 x.0))

  -- one test, if another holds
  pub tells_if : {b c : Bool} → Tells b P → Tells c Q → Tells (not b || c) (P → Q)
  tells_if {b = true} p q = (λ e x. q.0 e, λ h. q.1 (h (p.0 refl)))
  tells_if {b = false} p q = (λ e x. not_both (p.1 x), λ h. refl)

  -- the same test, in other words
  pub tells_as : {b : Bool} → Tells b P → (P ↔ Q) → Tells b Q
  tells_as p i = Iff.trans p i

-- a test that fails
pub tells_not : {P : Type 0} {b : Bool} → Tells b P → Tells (not b) (¬ P)
tells_not {b = true} p = (λ e x. false≢true e, λ h. absurd (h (p.0 refl)))
tells_not {b = false} p = (λ e x. false≢true (p.1 x), λ h. refl)

-- less
pub tells_lt : (a b : ℕ) → Tells (ltb a b) (a < b)
tells_lt a b = (ltb-true a b, lt-ltb a b)

-- at most
pub tells_le : (a b : ℕ) → Tells (leb a b) (a ≤ b)
tells_le a b = (leb-true a b, le-leb a b)

-- equal
pub tells_eq : (a b : ℕ) → Tells (eqb a b) (a ≡ b)
tells_eq a b = (eqb-true a b, eq-eqb a b)

-- equal flags
pub tells_flag : (a b : Bool) → Tells (beq a b) (a ≡ b)
tells_flag true true = (λ e. refl, λ q. refl)
tells_flag true false = (not_both, sym)
tells_flag false true = (not_both, λ q. q)
tells_flag false false = (λ e. refl, λ q. refl)

-- equal names
pub tells_bytes : (a b : List ℕ) → Tells (same_bytes a b) (a ≡ b)
tells_bytes a b = (same_equal a b, λ q. rw q (same_refl b))

-- a prefix
pub tells_prefix : (a b : List ℕ) → Tells (prefix_of a b) (Prefix a b)
tells_prefix a b = (λ e. (drop (length a) b, prefix_is a b e), λ x. rw x.1 (prefix_append a x.0))

module _ {A : Type 0} where
  -- something is there
  pub tells_some : (o : Option A) → Tells (is_some o) ((a : A) × (o ≡ some a))
  unfolding is_some
  tells_some none = (not_both, λ x. cc)
  tells_some (some a) = (λ e. (a, refl), λ x. refl)

module _ {A : Type 0} {p : A → Bool} {P : A → Type 0} (t : (a : A) → Tells (p a) (P a)) where
  -- a test of what is there
  pub tells_holds : (o : Option A) → Tells (holds p o) ((a : A) × (o ≡ some a) × P a)
  unfolding holds
  tells_holds none = (not_both, λ x. cc)
  tells_holds (some b) = (λ e. (b, refl, (t b).0 e), λ x. let q : x.0 ≡ b = cc in (t b).1 (rw q at x.2))

  -- a test of some element
  pub tells_any : (l : List A) → Tells (any_of p l) ((a : A) × Memᴰ a l × P a)
  unfolding any_of
  tells_any [] = (not_both, λ x. absurd (Memᴰ.not-nil x.1))
  tells_any (b ∷ l) =
      tells_as (tells_or (t b) (tells_any l)) (
        ⊎_elim (λ x. (b, Memᴰ.head refl, x)) (λ x. (x.0, Memᴰ.tail x.1, x.2)),
        λ x. ⊎_elim (λ q. inl (rw q at x.2)) (λ m. inr (x.0, m, x.2)) (Memᴰ.cases_cons x.1),
      )

  -- the test of no element
  pub tells_no : (l : List A) → Tells (not (any_of p l)) (NoneOf P l)
  tells_no l = tells_as (tells_not (tells_any l)) (λ h a m x. h (a, m, x), λ h x. h x.0 x.1 x.2)

-- no element is left of those that a test holds of
pub only_none : {A : Type 0} (p : A → Bool) (l : List A) → is_empty (only p l) ≡ not (any_of p l)
unfolding is_empty only any_of pick
only_none p [] = refl
only_none p (a ∷ l) = go (p a) (only_none p l)
  where
    go : (b : Bool) → is_empty (only p l) ≡ not (any_of p l) → is_empty (pick b (a ∷ only p l) (only p l)) ≡ not (b || any_of p l)
    go true ih = refl
    go false ih = ih

module _ {A : Type 0} {p : A → Bool} {P : A → Type 0} (t : (a : A) → Tells (p a) (P a)) where
  -- a test of the first element of a kind, if there is one
  pub tells_first : {q : A → Bool} {Q : A → Type 0} → ((a : A) → Tells (q a) (Q a)) → (l : List A)
      → Tells (holds q (at_place (index_of p l) l)) ((x : A) × First P x l × Q x)
  unfolding at_place holds index_of pick
  tells_first u [] = (not_both, λ x. absurd x.1)
  tells_first {q} {Q} u (a ∷ l) = go (p a) (t a) (tells_first u l)
    where
      go : (b : Bool) → Tells b (P a) → Tells (holds q (at_place (index_of p l) l)) ((x : A) × First P x l × Q x)
          → Tells (holds q (at_place (pick b 0 (suc (index_of p l))) (a ∷ l))) ((x : A) × First P x (a ∷ l) × Q x)
      go true v ih = (
        λ e. (a, inl (v.0 refl, refl), (u a).0 e),
        λ x. ⊎_elim (λ h. (u a).1 (rw h.1 x.2)) (λ h. absurd (h.0 (v.0 refl))) x.1,
      )
      go false v ih = (
        λ e. let (x, f, g) = ih.0 e in (x, inr (λ h. false≢true (v.1 h), f), g),
        λ x. ⊎_elim (λ h. not_both (v.1 h.0)) (λ h. ih.1 (x.0, h.1, x.2)) x.1,
      )

  -- there is no element of the kind
  pub tells_no_first : (l : List A) → Tells (not (is_some (at_place (index_of p l) l))) (NoneOf P l)
  unfolding at_place is_some index_of pick
  tells_no_first [] = (λ e a m. absurd (Memᴰ.not-nil m), λ h. refl)
  tells_no_first (a ∷ l) = go (p a) (t a) (tells_no_first l)
    where
      go : (b : Bool) → Tells b (P a) → Tells (not (is_some (at_place (index_of p l) l))) (NoneOf P l)
          → Tells (not (is_some (at_place (pick b 0 (suc (index_of p l))) (a ∷ l)))) (NoneOf P (a ∷ l))
      go true u ih = (not_both, λ h. absurd (h a (Memᴰ.head refl) (u.0 refl)))
      go false u ih = (
        λ e x m. ⊎_elim (λ q y. false≢true (u.1 (rw q at y))) (ih.0 e x) (Memᴰ.cases_cons m),
        λ h. ih.1 (λ x m. h x (Memᴰ.tail m)),
      )

-- a test of what is kept, d slots after that of face k
tells_from : {A : Type 0} (p : Held A → Bool) {P : ℕ → A → Type 0} → ((f : ℕ) (a : A) → Tells (p (record { face = f; what = a })) (P f a))
    → (k : ℕ) (l : List (Option A)) → Tells (any_of p (held_from k l)) ((d : ℕ) × (a : A) × (get_or l d none ≡ some a) × P (k + d) a)
unfolding any_of held_from
tells_from p t k [] = (not_both, λ x. cc)
tells_from {A} p {P} t k (none ∷ l) =
    tells_as (tells_from p t (suc k) l) (λ x. up x.0 x.1 x.2 x.3, λ x. down x.0 x.1 x.2 x.3)
  where
    up : (d : ℕ) (a : A) → get_or l d none ≡ some a → P (suc k + d) a → (d : ℕ) × (a : A) × (get_or (none ∷ l) d none ≡ some a) × P (k + d) a
    up d a e x = let z : suc k + d ≡ k + suc d = omega arith in (suc d, a, e, rw z at x)

    down : (d : ℕ) (a : A) → get_or (none ∷ l) d none ≡ some a → P (k + d) a → (d : ℕ) × (a : A) × (get_or l d none ≡ some a) × P (suc k + d) a
    down zero a e x = absurd (let z : ◌≡◌ {A = ℕ} 0 1 = cc in omega arith)
    down (suc d) a e x = let z : suc k + d ≡ k + suc d = omega arith in (d, a, e, rw z x)
tells_from {A} p {P} t k (some b ∷ l) =
    tells_as
    (tells_or (t k b) (tells_from p t (suc k) l))
    (⊎_elim (λ x. (0, b, refl, rw add-zero x)) (λ x. up x.0 x.1 x.2 x.3), λ x. down x.0 x.1 x.2 x.3)
  where
    up : (d : ℕ) (a : A) → get_or l d none ≡ some a → P (suc k + d) a → (d : ℕ) × (a : A) × (get_or (some b ∷ l) d none ≡ some a) × P (k + d) a
    up d a e x = let z : suc k + d ≡ k + suc d = omega arith in (suc d, a, e, rw z at x)

    down : (d : ℕ) (a : A) → get_or (some b ∷ l) d none ≡ some a → P (k + d) a
        → P k b ⊎ ((d : ℕ) × (a : A) × (get_or l d none ≡ some a) × P (suc k + d) a)
    down zero a e x = let z : b ≡ a = cc in inl (rw (z, ← (add-zero k)) x)
    down (suc d) a e x = let z : suc k + d ≡ k + suc d = omega arith in inr (d, a, e, rw z x)

-- a test of what is kept for some face
pub tells_held : {A : Type 0} (p : Held A → Bool) {P : ℕ → A → Type 0}
    → ((f : ℕ) (a : A) → Tells (p (record { face = f; what = a })) (P f a))
    → (l : List (Option A)) → Tells (any_of p (held l)) ((g : ℕ) × (a : A) × (slot g l ≡ some a) × P g a)
unfolding held slot
tells_held {A} p {P} t l =
    tells_as (tells_from p t 1 l) (
      λ x. let z : 1 + x.0 ≡ suc x.0 = omega arith in (suc x.0, x.1, x.2, rw (← z) x.3),
      λ x. down x.0 x.1 x.2 x.3,
    )
  where
    down : (g : ℕ) (a : A) → slot g l ≡ some a → P g a → (d : ℕ) × (a : A) × (get_or l d none ≡ some a) × P (1 + d) a
    down zero a e x = absurd (let z : ◌≡◌ {A = ℕ} 0 1 = cc in omega arith)
    down (suc d) a e x = let z : 1 + d ≡ suc d = omega arith in (d, a, e, rw z x)

-- a test of what is in the slots, without regard to the face
held_any : {A : Type 0} (p : A → Bool) (k : ℕ) (l : List (Option A))
    → any_of (λ (h : Held A). p h.what) (held_from k l) ≡ any_of (holds p) l
unfolding any_of holds held_from
held_any p k [] = refl
held_any p k (none ∷ l) = held_any p (suc k) l
held_any p k (some a ∷ l) = ap (λ (b : Bool). p a || b) (held_any p (suc k) l)

-- a test of what is in some slot
pub tells_slots : {A : Type 0} {p : A → Bool} {P : A → Type 0} → ((a : A) → Tells (p a) (P a))
    → (l : List (Option A)) → Tells (any_of (holds p) l) ((g : ℕ) × ((a : A) × (slot g l ≡ some a) × P a))
unfolding held
tells_slots {A} {p} {P} t l =
    rw (← (held_any p 1 l)) (tells_as (tells_held (λ (h : Held A). p h.what) (λ f a. t a) l)
    (λ x. (x.0, (x.1, x.2, x.3)), λ x. (x.0, x.1.0, x.1.1, x.1.2)))
