-- Lists of which no two elements are alike: what keeps them so.
-- Assumes nothing.
use Prim.Native.Nat.{ℕ, zero, suc, ◌≤◌}
use Rattle.std.specs.Prelude.{◌≡◌, Bool, true, false, length, drop}
use mathlib.Core.List.{List, [], ◌∷◌, ◌++◌, map}
use Rattle.std.proofs.Math.Option.{some}
use Rattle.std.proofs.Math.ListN.{get_elem?}
use Rattle.std.proofs.Common.{arith}
use Rattle.laws.specs.Laws.Pick.{pick_ind}
use Rattle.laws.specs.Lists.{on_at, without, index_of}
use Rattle.records.specs.Slots.{only}
use Rattle.history.specs.Lists.{All, nothing, both, Apart, alone, among}
use Rattle.history.specs.Laws.Every.{all_mono, all_only, all_without, all_in, at_in, all_on_at, all_map, all_snoc}

module _ {A : Type 0} {D : A → A → Type 0} where
  -- the elements that a test holds of
  pub apart_only : (p : A → Bool) {l : List A} → Apart D l → Apart D (only p l)
  unfolding only
  apart_only p alone = alone
  apart_only p (among {a} d h) = let r = apart_only p h in pick_ind (Apart D) (p a) _ _ (λ _. among (all_only p d) r) (λ _. r)

  -- an element taken out
  pub apart_without : (i : ℕ) {l : List A} → Apart D l → Apart D (without i l)
  unfolding without
  apart_without i alone = alone
  apart_without zero (among d h) = h
  apart_without (suc i) (among d h) = among (all_without i d) (apart_without i h)

  -- the first element dropped
  pub apart_drop : {l : List A} → Apart D l → Apart D (drop 1 l)
  apart_drop alone = alone
  apart_drop (among d h) = h

  -- each element changed, where changed elements stand in D too
  pub apart_map : (f : A → A) → ((a b : A) → D a b → D (f a) (f b)) → {l : List A} → Apart D l → Apart D (map f l)
  apart_map f k alone = alone
  apart_map f k (among {a} d h) = among (all_map f (all_mono (λ b e. k a b e) d)) (apart_map f k h)

  -- one element more at the end
  pub apart_snoc : (x : A) {l : List A} → All (λ a. D a x) l → Apart D l → Apart D (l ++ (x ∷ []))
  apart_snoc x nothing alone = among nothing alone
  apart_snoc x (both e es) (among d h) = among (all_snoc d e) (apart_snoc x es h)

  -- one element changed, where the changed one stands in D to what the other did
  pub apart_on_at : (i : ℕ) (f : A → A) → ((a b : A) → D a b → D (f a) b) → ((a b : A) → D a b → D a (f b)) → {l : List A} → Apart D l
      → Apart D (on_at i f l)
  unfolding on_at
  apart_on_at i f j k alone = alone
  apart_on_at zero f j k (among {a} d h) = among (all_mono (λ b e. j a b e) d) h
  apart_on_at (suc i) f j k (among {a} d h) = among (all_on_at i f (λ b e. k a b e) d) (apart_on_at i f j k h)

  -- an element at a place and each other stand in D, where D goes both ways
  pub apart_other : ((a b : A) → D a b → D b a) → (i : ℕ) (x : A) {l : List A} → Apart D l → get_elem? l i ≡ some x
      → All (λ a. D a x) (without i l)
  unfolding without
  apart_other s i x alone e = nothing
  apart_other s zero x (among {a} d h) e = let q : a ≡ x = cc in all_mono (λ b k. rw q at (s a b k)) d
  apart_other s (suc i) x (among {a} {l} d h) e = both (all_in d (at_in i x l e)) (apart_other s i x h e)

module _ {A : Type 0} where
  -- a test fails of each element where a search for it finds none
  pub none_found : (p : A → Bool) (l : List A) → length l ≤ index_of p l → All (λ a. p a ≡ false) l
  unfolding index_of
  none_found p [] = λ h. nothing
  none_found p (a ∷ l) =
      pick_ind (λ (i : ℕ). suc (length l) ≤ i → All (λ a. p a ≡ false) (a ∷ l)) (p a) _ _ (λ _ h. absurd (omega arith))
      (λ e h. both e (none_found p l (omega arith)))

  -- of elements apart, a test that holds of one fails of the others: without the first that it holds of, it fails of all
  pub others_fail : {D : A → A → Type 0} (p : A → Bool) → ((a b : A) → p a ≡ true → D a b → p b ≡ false) → {l : List A} → Apart D l
      → All (λ a. p a ≡ false) (without (index_of p l) l)
  unfolding index_of without
  others_fail p k alone = nothing
  others_fail p k (among {a} {l} d h) =
      pick_ind (λ (i : ℕ). All (λ a. p a ≡ false) (without i (a ∷ l))) (p a) _ _ (λ e. all_mono (λ b x. k a b e x) d)
      (λ e. both e (others_fail p k h))
