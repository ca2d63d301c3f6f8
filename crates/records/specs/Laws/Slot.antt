-- The slot of a face, and slots that are set, by the face's number: 0 is no face.
-- Assumes nothing.
use Prim.Native.Nat.{ℕ, zero, suc, ◌+◌, ◌-◌, ◌≤◌}
use Rattle.std.specs.Prelude.{◌≡◌, ◌≢◌, Bool, set, replicate}
use Rattle.std.proofs.Math.Path.{refl, ap}
use mathlib.Core.List.{List, [], ◌∷◌}
use Rattle.std.proofs.Math.Option.{Option, none}
use Rattle.std.proofs.Math.ListN.{length, get_or, length-set}
use Rattle.std.proofs.Math.Seq.{get_or-set_same, get_or-set_other}
use native.Mathlib.Omega.{arith}
use Rattle.std.proofs.Common.{add-zero}
use Rattle.laws.specs.Pick.{pick}
use Rattle.laws.specs.Laws.Pick.{pick_ind}
use Rattle.records.specs.Slots.{no_slots, slot, set_slot, emptied_from, emptied}

module _ {A : Type 0} where
  -- the slot of a face stands one place before its number
  pub slot_at : (f : ℕ) (l : List (Option A)) → 1 ≤ f → slot f l ≡ get_or l (f - 1) none
  unfolding slot
  slot_at zero l h = absurd (omega arith)
  slot_at (suc i) l h = let e : suc i - 1 ≡ i = omega arith in rw e

  -- and so is it set
  pub set_slot_at : (f : ℕ) (x : Option A) (l : List (Option A)) → 1 ≤ f → set_slot f x l ≡ set l (f - 1) x
  unfolding set_slot
  set_slot_at zero x l h = absurd (omega arith)
  set_slot_at (suc i) x l h = let e : suc i - 1 ≡ i = omega arith in rw e

  -- a number past the last slot has none
  past : (i : ℕ) (l : List (Option A)) → length l ≤ i → get_or l i none ≡ none
  past i [] h = refl
  past zero (a ∷ l) h = absurd (omega arith)
  past (suc i) (a ∷ l) h = past i l (omega arith)

  -- and sets nothing
  set_past : (i : ℕ) (x : Option A) (l : List (Option A)) → length l ≤ i → set l i x ≡ l
  set_past i x [] h = refl
  set_past zero x (a ∷ l) h = absurd (omega arith)
  set_past (suc i) x (a ∷ l) h = ap (λ z. a ∷ z) (set_past i x l (omega arith))

  -- a number that is no face has no slot
  pub slot_none : (f : ℕ) (l : List (Option A)) → ((1 ≤ f) × (f ≤ length l) → ⊥) → slot f l ≡ none
  unfolding slot
  slot_none zero l h = refl
  slot_none (suc i) l h = let k : (suc i ≤ length l → ⊥) = (λ q. h (omega arith, q)) in past i l (omega (arith, k))

  -- and sets none
  pub set_slot_none : (f : ℕ) (x : Option A) (l : List (Option A)) → ((1 ≤ f) × (f ≤ length l) → ⊥) → set_slot f x l ≡ l
  unfolding set_slot
  set_slot_none zero x l h = refl
  set_slot_none (suc i) x l h = let k : (suc i ≤ length l → ⊥) = (λ q. h (omega arith, q)) in set_past i x l (omega (arith, k))

  -- setting a slot keeps how many there are
  pub length_set_slot : (f : ℕ) (x : Option A) (l : List (Option A)) → length (set_slot f x l) ≡ length l
  unfolding set_slot
  length_set_slot zero x l = refl
  length_set_slot (suc i) x l = length-set l i x

  -- the slot that was set is what it was set to
  pub slot_set_same : (f : ℕ) (x : Option A) (l : List (Option A)) → 1 ≤ f → f ≤ length l → slot f (set_slot f x l) ≡ x
  unfolding slot set_slot
  slot_set_same zero x l h k = absurd (omega arith)
  slot_set_same (suc i) x l h k = get_or-set_same l i x none (omega arith)

  -- any other is as it was
  pub slot_set_other : (f g : ℕ) (x : Option A) (l : List (Option A)) → g ≢ f → slot g (set_slot f x l) ≡ slot g l
  unfolding slot set_slot
  slot_set_other f zero x l n = refl
  slot_set_other zero (suc j) x l n = refl
  slot_set_other (suc i) (suc j) x l n = get_or-set_other l i j x none (λ e. n (ap suc e))

  -- an emptied slot is empty
  pub slot_unset : (f : ℕ) (l : List (Option A)) → slot f (set_slot f none l) ≡ none
  unfolding slot set_slot
  slot_unset zero l = refl
  slot_unset (suc i) l = go i l
    where
      go : (i : ℕ) (l : List (Option A)) → get_or (set l i none) i none ≡ none
      go i [] = refl
      go zero (a ∷ l) = refl
      go (suc i) (a ∷ l) = go i l

  -- what holds of a slot and of what is set holds of the slot afterwards
  pub set_slot_keeps : (P : Option A → Type 0) (f g : ℕ) (x : Option A) (l : List (Option A)) → P x → P (slot g l)
      → P (slot g (set_slot f x l))
  unfolding slot set_slot
  set_slot_keeps P f zero x l a b = b
  set_slot_keeps P zero (suc j) x l a b = b
  set_slot_keeps P (suc i) (suc j) x l a b = go i j l b
    where
      go : (i j : ℕ) (l : List (Option A)) → P (get_or l j none) → P (get_or (set l i x) j none)
      go i j [] h = h
      go zero zero (y ∷ l) h = a
      go zero (suc j) (y ∷ l) h = h
      go (suc i) zero (y ∷ l) h = h
      go (suc i) (suc j) (y ∷ l) h = go i j l h

  -- of empty slots, each is empty
  pub slot_no_slots : (f n : ℕ) → slot f (no_slots {A = A} n) ≡ none
  unfolding slot no_slots
  slot_no_slots zero n = refl
  slot_no_slots (suc i) n = go i n
    where
      go : (i n : ℕ) → get_or {A = Option A} (replicate n none) i none ≡ none
      go i zero = refl
      go zero (suc n) = refl
      go (suc i) (suc n) = go i n

  -- what is left in a slot, without those of the faces that p holds of
  pub slot_emptied : (p : ℕ → Bool) (f : ℕ) (l : List (Option A)) → 1 ≤ f → slot f (emptied p l) ≡ pick (p f) none (slot f l)
  unfolding slot emptied emptied_from
  slot_emptied p zero l h = absurd (omega arith)
  slot_emptied p (suc i) l h = let z : 1 + i ≡ suc i = omega arith in rw z at (go 1 i l)
    where
      same : (b : Bool) → none ≡ pick {A = Option A} b none none
      same b = pick_ind (λ (x : Option A). none ≡ x) b none none (λ _. refl) (λ _. refl)

      go : (k i : ℕ) (l : List (Option A)) → get_or (emptied_from p k l) i none ≡ pick (p (k + i)) none (get_or l i none)
      go k i [] = same (p (k + i))
      go k zero (x ∷ l) = rw add-zero
      go k (suc i) (x ∷ l) = let z : k + suc i ≡ suc k + i = omega arith in rw z (go (suc k) i l)

  -- emptying slots keeps how many there are
  pub length_emptied : (p : ℕ → Bool) (k : ℕ) (l : List (Option A)) → length (emptied_from p k l) ≡ length l
  unfolding emptied_from
  length_emptied p k [] = refl
  length_emptied p k (x ∷ l) = ap suc (length_emptied p (suc k) l)
