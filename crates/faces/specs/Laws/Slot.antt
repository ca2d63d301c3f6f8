-- What the slots of a set of faces are, how they change with the set, and their walk from the lowest face up, for any number n of faces.
-- Assumes nothing.
use Prim.Native.Nat.{ℕ, zero, suc, ◌+◌, ◌-◌, ◌%◌, ◌^◌, ◌≤◌, ◌<◌}
use Rattle.std.specs.Prelude.{◌≡◌, Bool, ◌&&◌, ◌||◌, ◌≢◌, eqb, replicate}
use Rattle.std.proofs.Math.Path.{refl, ap, sym}
use Rattle.std.proofs.Common.{◌∙◌, ne_eqb, pow_pos}
use Rattle.std.proofs.Math.Bool.{true, false}
use mathlib.Core.List.{List, [], ◌∷◌, map}
use Rattle.std.proofs.Math.Option.{Option, none, some}
use Rattle.std.proofs.Math.Nat.{zero-add, add-zero}
use native.Mathlib.Omega.{arith}
use Rattle.std.proofs.Math.ListN.{length}
use Rattle.laws.specs.Lists.{any_of}
use Rattle.laws.specs.Pick.{pick}
use Rattle.laws.specs.Laws.Pick.{pick_eq, pick_no}
use Rattle.laws.specs.Digits.{member}
use Rattle.laws.specs.Laws.Digits.{member_yes, digit_pow_le, digit_member, tally_ext, tally_tab, size_below}
use Rattle.laws.specs.Places.Tab.{tab}
use Rattle.laws.specs.Laws.Tab.{length_tab, get_d_tab, tab_ext, tab_set, tab_replicate, map_tab}
use Rattle.records.specs.Slots.{no_slots, slot, set_slot, is_some, holds, held, held_from, is_empty}
use Rattle.records.specs.Face.{is_face}
use Rattle.records.specs.Laws.Face.{face_yes, face_no}
use Rattle.records.specs.Laws.Slot.{slot_at, set_slot_at, slot_none, set_slot_none}
use Rattle.faces.specs.Set.{has_face, with_face, minus_face, size_of, lowest_face, faces_where}
use Rattle.faces.specs.Laws.Set.{has_face_lem, has_member, has_after, without_present, where_ext, where_mod, put_same, put_other}
use Rattle.faces.specs.Laws.Set.{put_none, lowest_has, lowest_before}
use Rattle.faces.specs.Slots.{slots_of}

-- to remove a face that is in the set makes the number smaller
pub without_less : (n s f : ℕ) → has_face n s f ≡ true → minus_face n s f < s
without_less n s f e =
    let there = digit_pow_le (f - 1) s ((member_yes (f - 1) s).0 (has_member n s f e)) in
    omega (arith, without_present n s f e, pow_pos (f - 1), there)

module _ {A : Type 0} where
  -- p holds of what is there exactly where something is there and p holds of it
  pub holds_there : (p : A → Bool) (o : Bool) (x : A) → holds p (pick o (some x) none) ≡ o && p x
  unfolding holds pick
  holds_there p true x = refl
  holds_there p false x = refl

  -- something is there exactly where the digit says so
  pub some_there : (o : Bool) (x : A) → is_some (pick o (some x) none) ≡ o
  unfolding is_some pick
  some_there true x = refl
  some_there false x = refl

-- each turn of a walk from the lowest face up leaves a smaller number
pub lowest_less : (n s f : ℕ) → n ≤ 64 → f ≡ lowest_face n s → f ≤ n → minus_face n s f < s
lowest_less n s f w e h = without_less n s f (rw e (lowest_has n s w (omega arith)))

module _ {A : Type 0} (n s : ℕ) (g : ℕ → A) where
  -- there is a slot for each face
  pub slots_length : length (slots_of n s g) ≡ n
  unfolding slots_of
  slots_length = length_tab _ 0 n

  -- the slot of a face has what g has for its digit, if the face is in the set
  pub slots_slot : (f : ℕ) → slot f (slots_of n s g) ≡ pick (has_face n s f) (some (g (f - 1))) none
  unfolding slots_of has_face
  slots_slot f = go (is_face n f) refl
    where
      go : (b : Bool) → is_face n f ≡ b → slot f (slots_of n s g) ≡ pick (is_face n f && member (f - 1) s) (some (g (f - 1))) none
      go true e =
          let h = (face_yes n f).0 e in
          slot_at f (slots_of n s g) h.0
          ∙ get_d_tab (λ i. pick (member i s) (some (g i)) none) 0 n (f - 1) none (omega (arith, h.0, h.1))
          ∙ rw (zero-add, e)
      go false e = slot_none f (slots_of n s g) (λ h. (face_no n f).0 e (h.0, rw slots_length at h.1)) ∙ rw (e, pick_no)

  -- a number that is no face sets no slot
  pub slots_past : (f : ℕ) (x : Option A) → is_face n f ≡ false → set_slot f x (slots_of n s g) ≡ slots_of n s g
  slots_past f x e = set_slot_none f x (slots_of n s g) (λ h. (face_no n f).0 e (h.0, rw slots_length at h.1))

  -- something is kept for a face exactly where it is in the set
  pub slots_has : (f : ℕ) → is_some (slot f (slots_of n s g)) ≡ has_face n s f
  slots_has f = rw (slots_slot f) (some_there _ _)

  -- something is kept for a face exactly where it is in the set
  pub slots_some : (f : ℕ) → is_face n f ≡ true → is_some (slot f (slots_of n s g)) ≡ has_face n s f
  slots_some f h = rw (slots_slot f) (some_there _ _)

  -- the faces that something is kept for are those of the set
  pub slots_set : faces_where n (λ f. is_some (slot f (slots_of n s g))) ≡ s % 2 ^ n
  slots_set = where_ext n _ (has_face n s) slots_some ∙ where_mod n s

  -- the same faces with the same kept for them are the same slots
  pub slots_same : (t : ℕ) (h : ℕ → A) → ((i : ℕ) → i < n → member i t ≡ member i s)
      → ((i : ℕ) → i < n → member i s ≡ true → h i ≡ g i) → slots_of n t h ≡ slots_of n s g
  unfolding slots_of
  slots_same t h a b =
      tab_ext _ _ 0 n (λ i _ l.
      rw (a i (omega arith)) (pick_eq (member i s) _ _ _ _ (λ e. ap some (b i (omega arith) e)) (λ _. refl)))

  -- a face put in, with what is kept for it, has its slot set
  pub slots_put : (f : ℕ) (a : A) (h : ℕ → A) → is_face n f ≡ true → h (f - 1) ≡ a → ((i : ℕ) → i ≢ f - 1 → h i ≡ g i)
      → slots_of n (with_face n s f) h ≡ set_slot f (some a) (slots_of n s g)
  unfolding slots_of pick
  slots_put f a h q e o =
      tab_set _ _ (some a) 0 n (f - 1) (rw (zero-add, put_same n f s true q, e))
      (λ i _ _ d. let c : i ≢ f - 1 = (λ z. d (omega arith)) in rw (put_other n f s true q i c, o i c))
      ∙ sym (set_slot_at f (some a) (slots_of n s g) ((face_yes n f).0 q).0)

  -- a face taken out has no slot
  pub slots_take : (f : ℕ) → is_face n f ≡ true → slots_of n (minus_face n s f) g ≡ set_slot f none (slots_of n s g)
  unfolding slots_of pick
  slots_take f q =
      tab_set _ _ none 0 n (f - 1) (rw (zero-add, put_same n f s false q))
      (λ i _ _ d. rw (put_other n f s false q i (λ z. d (omega arith))))
      ∙ sym (set_slot_at f none (slots_of n s g) ((face_yes n f).0 q).0)

  -- the same for any number: one that is no face takes nothing out
  pub slots_minus : (f : ℕ) → slots_of n (minus_face n s f) g ≡ set_slot f none (slots_of n s g)
  unfolding pick
  slots_minus f = go (is_face n f) refl
    where
      go : (b : Bool) → is_face n f ≡ b → slots_of n (minus_face n s f) g ≡ set_slot f none (slots_of n s g)
      go true e = slots_take f e
      go false e = rw (put_none n f s false e) (sym (slots_past f none e))

  -- an empty set has no slots
  pub slots_none : ((i : ℕ) → i < n → member i s ≡ false) → slots_of n s g ≡ no_slots n
  unfolding slots_of no_slots
  slots_none e = tab_replicate _ none 0 n (λ i _ l. pick_no _ _ _ (e i (omega arith)))

  -- slots of which only those stay that p holds of are the slots of the faces whose slots stay
  pub slots_only : (t : ℕ) (k : Option A → Option A) (p : A → Bool) → k none ≡ none → ((a : A) → k (some a) ≡ pick (p a) (some a) none)
      → ((i : ℕ) → i < n → member i t ≡ (member i s && p (g i))) → map k (slots_of n s g) ≡ slots_of n t g
  unfolding slots_of pick
  slots_only t k p z y e = map_tab k _ 0 n ∙ tab_ext _ _ 0 n (λ i _ l. rw (e i (omega arith)) (go (member i s) (g i)))
    where
      go : (b : Bool) (a : A) → k (pick b (some a) none) ≡ pick (b && p a) (some a) none
      go true a = y a
      go false a = z

module _ {A : Type 0} where
  -- from whichever face the slots start, as many are held
  held_count : (f i : ℕ) (l : List (Option A)) → length (held_from f l) ≡ length (held_from i l)
  unfolding held_from
  held_count f i [] = refl
  held_count f i (none ∷ l) = held_count (suc f) (suc i) l
  held_count f i (some a ∷ l) = ap suc (held_count (suc f) (suc i) l)

  -- of empty slots none is held
  held_none : (f n : ℕ) → held_from {A = A} f (replicate n none) ≡ []
  unfolding held_from
  held_none f zero = refl
  held_none f (suc n) = held_none (suc f) n

  -- a test of what is kept is a test of what is held, from whichever face the slots start
  any_from : (q : A → Bool) (f : ℕ) (l : List (Option A)) → any_of (holds q) l ≡ any_of (λ h. q h.what) (held_from f l)
  unfolding any_of holds held_from
  any_from q f [] = refl
  any_from q f (none ∷ l) = any_from q (suc f) l
  any_from q f (some a ∷ l) = ap (λ (b : Bool). q a || b) (any_from q (suc f) l)

  -- a test of what is kept is a test of what is held
  pub any_held : (q : A → Bool) (l : List (Option A)) → any_of (holds q) l ≡ any_of (λ h. q h.what) (held l)
  unfolding held
  any_held q l = any_from q 1 l

  -- where the first t places have none and the next has a, that is held first, and then what h has, which is none there and g elsewhere
  held_first : (g h : ℕ → Option A) (a : A) (f i t m : ℕ) → t < m → ((k : ℕ) → i ≤ k → k < i + t → g k ≡ none) → g (i + t) ≡ some a
      → h (i + t) ≡ none → ((k : ℕ) → k ≢ i + t → h k ≡ g k)
      → held_from f (tab g i m) ≡ record { face = f + t; what = a } ∷ held_from f (tab h i m)
  unfolding held_from tab
  held_first g h a f i t zero l b x y o = absurd (omega arith)
  held_first g h a f i zero (suc m) l b x y o =
      let x' : g i ≡ some a = rw add-zero at x in
      let y' : h i ≡ none = rw add-zero at y in
      rw (x', y', add-zero, tab_ext h g (suc i) m (λ k p _. o k (λ z. omega arith)))
  held_first g h a f i (suc t) (suc m) l b x y o =
      let e : i + suc t ≡ suc i + t = omega arith in
      let w : f + suc t ≡ suc f + t = omega arith in
      let z : g i ≡ none = b i (omega arith) (omega arith) in
      rw (o i (λ q. omega arith), z, w)
      (held_first g h a (suc f) (suc i) t m (omega arith) (λ k p q. b k (omega arith) (omega arith)) (rw e at x) (rw e at y)
      (λ k q. o k (λ r. q (omega arith))))

  -- a list is empty exactly where its length is 0
  empty_length : (l : List A) → is_empty l ≡ eqb (length l) 0
  unfolding is_empty
  empty_length [] = refl
  empty_length (a ∷ l) = sym (ne_eqb (suc (length l)) 0 (λ q. omega arith))

module _ {A : Type 0} (n s : ℕ) (g : ℕ → A) where
  -- as many are held as the set has faces
  pub held_size : length (held (slots_of n s g)) ≡ size_of n s
  unfolding held held_from slots_of size_of pick
  held_size =
      tally_tab (λ l. length (held_from 1 l)) one refl step (λ i. pick (member i s) (some (g i)) none) 0 n
      ∙ tally_ext n _ _ (λ i _. rw zero-add (count (member i s) (g i) ∙ sym (digit_member i s)))
      ∙ sym (size_below n s)
    where
      one : Option A → ℕ
      one none = 0
      one (some a) = 1

      step : (a : Option A) (l : List (Option A)) → length (held_from 1 (a ∷ l)) ≡ one a + length (held_from 1 l)
      step none l = omega (arith, held_count 2 1 l)
      step (some a) l = omega (arith, held_count 2 1 l)

      count : (b : Bool) (a : A) → one (pick b (some a) none) ≡ pick b 1 0
      count true a = refl
      count false a = refl

  -- nothing is held exactly where the set has no face
  pub slots_idle : eqb (size_of n s) 0 ≡ is_empty (held (slots_of n s g))
  slots_idle = rw (← held_size) (sym (empty_length _))

  module _ (w : n ≤ 64) where
    -- no digit below that of the lowest face is a member
    digit_before : (i : ℕ) → i < n → i + 1 < lowest_face n s → member i s ≡ false
    digit_before i l h = sym (has_after n s i l) ∙ lowest_before n s w (i + 1) h

    -- what is held starts with the lowest face, and goes on with what is held without it
    pub held_more : lowest_face n s ≤ n
        → held (slots_of n s g)
        ≡ record { face = lowest_face n s; what = g (lowest_face n s - 1) } ∷ held (slots_of n (minus_face n s (lowest_face n s)) g)
    unfolding held slots_of pick
    held_more h =
        let f = lowest_face n s in
        let there = lowest_has n s w h in
        let within : (1 ≤ f) × (f ≤ n) = has_face_lem n s f there in
        let q : is_face n f ≡ true = (face_yes n f).1 within in
        let e : 1 + (f - 1) ≡ f = omega arith in
        rw e at (held_first (λ i. pick (member i s) (some (g i)) none) (λ i. pick (member i (minus_face n s f)) (some (g i)) none)
        (g (f - 1)) 1 0 (f - 1) n (omega arith)
        (λ k _ l. rw (digit_before k (omega arith) (omega arith))) (rw (zero-add, has_member n s f there))
        (rw (zero-add, put_same n f s false q))
        (λ k d. rw (put_other n f s false q k (λ z. d (omega arith)))))

    -- where no face is left nothing is held
    pub held_end : n < lowest_face n s → held (slots_of n s g) ≡ []
    unfolding held no_slots
    held_end h = rw (slots_none n s g (λ i l. digit_before i l (omega arith))) (held_none 1 n)
