-- What is kept for each face: the slots of a list, and the list of what they hold.
-- Assumes nothing.
use Prim.Native.Nat.{ℕ, zero, suc, ◌+◌, ◌-◌, ◌≤◌}
use Rattle.std.proofs.Math.Path.{◌≡◌, refl}
use Rattle.std.proofs.Common.{sym, ◌∙◌, inl, inr, eqb-true}
use Rattle.std.specs.Prelude.{Bool, true, ◌⊎◌, ltb, eqb}
use Rattle.std.proofs.Math.Bool.{false}
use mathlib.Core.List.{List, [], ◌∷◌}
use Rattle.std.proofs.Math.Option.{Option, none, some}
use Rattle.std.proofs.Math.ListN.{length, get_or, length-replicate}
use native.Mathlib.Omega.{arith}
use Rattle.std.proofs.lemmas.Bool.{eqb-false}
use Rattle.laws.specs.Pick.{pick}
use Rattle.laws.specs.Laws.Pick.{pick_ind, pick_ap}
use Rattle.records.specs.Slots.{no_slots, slot, set_slot, emptied, given, is_empty, is_some, Held, held_from, held, only, less_by, least_by, least_face}
use Rattle.records.specs.Laws.Slot.{slot_at, slot_set_other, slot_unset, slot_no_slots, slot_emptied}
use Rattle.history.specs.Laws.Every.{not_none, all_mono, all_in, only_in}
use Rattle.history.specs.Lists.{All, nothing, both, here, there, In}

module _ {A : Type 0} where
  -- what the slot at a place holds is held, by its face
  pub from_slot : (k i : ℕ) (l : List (Option A)) (a : A) → get_or l i none ≡ some a → In (record { face = k + i; what = a }) (held_from k l)
  unfolding held_from
  from_slot k i [] a e = not_none e
  from_slot k zero (none ∷ l) a e = not_none e
  from_slot k zero (some b ∷ l) a e =
      let q : k ≡ k + 0 = omega arith in
      let p : b ≡ a = cc in
      here {a = record { face = k; what = b }} (cc)
  from_slot k (suc i) (none ∷ l) a e = let q : k + suc i ≡ suc k + i = omega arith in rw q (from_slot (suc k) i l a e)
  from_slot k (suc i) (some b ∷ l) a e = let q : k + suc i ≡ suc k + i = omega arith in rw q (there (from_slot (suc k) i l a e))

  -- what a face's slot holds is held
  pub slot_held : (f : ℕ) (l : List (Option A)) (a : A) → slot f l ≡ some a → In (record { face = f; what = a }) (held l)
  unfolding slot held
  slot_held zero l a e = not_none e
  slot_held (suc i) l a e = let q : suc i ≡ 1 + i = omega arith in rw q (from_slot 1 i l a e)

  -- what is held from a place on is what the slot of its face holds
  further : (k : ℕ) (x : Option A) (l : List (Option A)) (h : Held A) → (suc k ≤ h.face) × (get_or l (h.face - suc k) none ≡ some h.what)
      → (k ≤ h.face) × (get_or (x ∷ l) (h.face - k) none ≡ some h.what)
  further k x l h p = (omega (arith, p.0), let q : h.face - k ≡ suc (h.face - suc k) = omega (arith, p.0) in rw q p.1)

  -- so it is with all that is held
  pub from_held : (k : ℕ) (l : List (Option A)) → All (λ h. (k ≤ h.face) × (get_or l (h.face - k) none ≡ some h.what)) (held_from k l)
  unfolding held_from
  from_held k [] = nothing
  from_held k (none ∷ l) = all_mono (λ h p. further k none l h p) (from_held (suc k) l)
  from_held k (some a ∷ l) =
      let q : k - k ≡ 0 = omega arith in
      both {a = record { face = k; what = a }} (omega arith, rw q) (all_mono (λ h p. further k (some a) l h p) (from_held (suc k) l))

  -- what is held is what the slot of its face holds, and its face is 1 or more
  pub held_slot : (l : List (Option A)) → All (λ h. (1 ≤ h.face) × (slot h.face l ≡ some h.what)) (held l)
  unfolding held
  held_slot l = all_mono (λ h p. (p.0, slot_at h.face l p.0 ∙ p.1)) (from_held 1 l)

  -- what a slot holds, the slot is that of a face
  pub slot_low : (f : ℕ) (l : List (Option A)) (a : A) → slot f l ≡ some a → 1 ≤ f
  unfolding slot
  slot_low zero l a e = not_none e
  slot_low (suc i) l a e = omega arith

  -- and one of the list's
  pub slot_within : (f : ℕ) (l : List (Option A)) (a : A) → slot f l ≡ some a → f ≤ length l
  unfolding slot
  slot_within zero l a e = not_none e
  slot_within (suc i) l a e = place_within i l a e
    where
      place_within : (i : ℕ) (l : List (Option A)) (a : A) → get_or l i none ≡ some a → suc i ≤ length l
      place_within i [] a e = not_none e
      place_within zero (x ∷ l) a e = omega arith
      place_within (suc i) (x ∷ l) a e = let k = place_within i l a e in omega arith

  -- a slot holds something, or it does not
  pub has_some : (x : Option A) → is_some x ≡ true → (a : A) × (x ≡ some a)
  unfolding is_some
  has_some none e = absurd (let z : ◌≡◌ {A = ℕ} 0 1 = cc in omega arith)
  has_some (some a) e = (a, refl)

  -- of a thing and those after it, the one that measures least, the first where several do
  unfoldable pub chosen : (Held A → ℕ) → Held A → List (Held A) → Held A
  chosen by g [] = g
  chosen by g (h ∷ hs) = pick (ltb (by (chosen by h hs)) (by g)) (chosen by h hs) g

  -- where there is something, it is what measures least
  pub least_is : (by : Held A → ℕ) (g : Held A) (gs : List (Held A)) → least_by by (g ∷ gs) ≡ some (chosen by g gs)
  unfolding least_by less_by chosen
  least_is by g [] = refl
  least_is by g (h ∷ hs) =
      rw (least_is by h hs) (sym (pick_ap {B = Option (Held A)} some (ltb (by (chosen by h hs)) (by g)) (chosen by h hs) g))

  -- it is one of them
  pub chosen_in : (by : Held A → ℕ) (g : Held A) (gs : List (Held A)) → In (chosen by g gs) (g ∷ gs)
  unfolding chosen
  chosen_in by g [] = here refl
  chosen_in by g (h ∷ hs) =
      let rest = chosen_in by h hs in
      pick_ind (λ (x : Held A). In x (g ∷ h ∷ hs)) (ltb (by (chosen by h hs)) (by g)) _ _ (λ _. there rest) (λ _. here refl)

  -- of nothing there is none
  pub least_none : (by : Held A → ℕ) → least_by by [] ≡ none
  unfolding least_by
  least_none by = refl

  -- the one that measures least is one of them
  pub least_in : (by : Held A → ℕ) (hs : List (Held A)) (h : Held A) → least_by by hs ≡ some h → In h hs
  least_in by [] h e = not_none (sym (least_none by) ∙ e)
  least_in by (g ∷ gs) h e = let q : chosen by g gs ≡ h = cc (least_is by g gs) in rw (← q) (chosen_in by g gs)

  -- the face that measures least, of those that p holds of, is one of them and holds something
  pub least_face_lem : (by : A → ℕ) (p : ℕ → Bool) (l : List (Option A)) (f : ℕ) → least_face by p l ≡ some f
      → (p f ≡ true) × ((a : A) × (slot f l ≡ some a))
  unfolding least_face given
  least_face_lem by p l f e = go (least_by (λ h. by h.what) (only (λ h. p h.face) (held l))) refl e
    where
      go : (x : Option (Held A)) → least_by (λ (h : Held A). by h.what) (only (λ h. p h.face) (held l)) ≡ x
          → given none (λ (h : Held A). some h.face) x ≡ some f → (p f ≡ true) × ((a : A) × (slot f l ≡ some a))
      go none q r = not_none r
      go (some h) q r =
          let z : h.face ≡ f = cc in
          let i = all_in (only_in (λ (h : Held A). p h.face) (held l))
          (least_in (λ h. by h.what) (only (λ h. p h.face) (held l)) h q) in
          (rw z at i.1, (h.what, rw z at (all_in (held_slot l) i.0).1))

  -- ---- slots after a change

  -- a slot that holds something after one was set is that one, or held something before
  pub set_some : (g f : ℕ) (x : Option A) (l : List (Option A)) → is_some (slot g (set_slot f x l)) ≡ true
      → (g ≡ f) ⊎ (is_some (slot g l) ≡ true)
  set_some g f x l h = go (eqb g f) refl
    where
      go : (b : Bool) → eqb g f ≡ b → (g ≡ f) ⊎ (is_some (slot g l) ≡ true)
      go true e = inl (eqb-true g f e)
      go false e = inr (rw (slot_set_other f g x l (eqb-false g f e)) at h)

  -- a slot that holds something after one was emptied is another, and held it before
  pub unset_some : (g f : ℕ) (l : List (Option A)) → is_some (slot g (set_slot f none l)) ≡ true → (g ≡ f → ⊥) × (is_some (slot g l) ≡ true)
  unfolding is_some
  unset_some g f l h =
      let other : g ≡ f → ⊥ = λ q. let z : ◌≡◌ {A = ℕ} 0 1 = cc (slot_unset f l, rw q at h) in omega arith in
      (other, rw (slot_set_other f g none l other) at h)

  -- a slot that some faces' slots were emptied of is empty, or as it was
  pub emptied_some : (p : ℕ → Bool) (g : ℕ) (l : List (Option A)) (a : A) → slot g (emptied p l) ≡ some a → slot g l ≡ some a
  emptied_some p g l a e =
      pick_ind (λ (x : Option A). x ≡ some a → slot g l ≡ some a) (p g) none (slot g l) (λ _ q. not_none q) (λ _ q. q)
      (sym (slot_emptied p g l (slot_low g (emptied p l) a e)) ∙ e)

  -- where a slot holds something, something is held
  pub not_empty : (f : ℕ) (l : List (Option A)) (a : A) → slot f l ≡ some a → is_empty (held l) ≡ false
  unfolding is_empty
  not_empty f l a e = go (held l) (slot_held f l a e)
    where
      go : {x : Held A} (m : List (Held A)) → In x m → is_empty m ≡ false
      go [] i = elim i [ ]
      go (y ∷ m) i = refl

module _ (A : Type 0) where
  -- none of n empty slots holds anything
  pub none_some : (g n : ℕ) → is_some (slot g (no_slots {A = A} n)) ≡ true → ⊥
  unfolding is_some
  none_some g n h = let z : ◌≡◌ {A = ℕ} 0 1 = cc (slot_no_slots {A = A} g n, h) in omega arith

  -- n empty slots are n
  pub length_no_slots : (n : ℕ) → length (no_slots {A = A} n) ≡ n
  unfolding no_slots
  length_no_slots n = length-replicate n none
