-- The requests of an entry by sets of faces: those whose slots a test holds of, and the set of one face.
-- Assumes nothing.
use Prim.Native.Nat.{ℕ, zero, suc, ◌+◌, ◌-◌, ◌≤◌}
use Rattle.std.specs.Prelude.{◌≡◌, Bool, ◌&&◌, ◌≢◌, length, set, eqb}
use Rattle.std.proofs.Math.Path.{refl}
use Rattle.std.proofs.Common.{sym, ap, ◌∙◌, add-zero, eq-eqb, ne_eqb}
use Rattle.std.proofs.Math.Bool.{true, false}
use mathlib.Core.List.{List, [], ◌∷◌, map}
use Rattle.std.proofs.Math.Option.{Option, none, some}
use native.Mathlib.Omega.{arith}
use Rattle.laws.specs.Digits.{member}
use Rattle.laws.specs.Laws.Digits.{digit_zero, member_no}
use Rattle.laws.specs.Pick.{pick}
use Rattle.faces.specs.Set.{has_face, with_face}
use Rattle.faces.specs.Laws.Set.{has_added_same, has_added_other}
use Rattle.records.specs.Laws.Face.{face_yes, face_no}
use Rattle.records.specs.Face.{is_face}
use Rattle.records.specs.Slots.{set_slot, is_some, holds, Held, held_from, only, emptied, emptied_from}
use Rattle.records.specs.Laws.Slot.{set_slot_none}
use Rattle.records.specs.Entry.{Request, Entry, with_requests, ending, not_asking}
use Rattle.pending_order.specs.Laws.Place.{same_or}
use Rattle.pending_pass.specs.Lowest.{meets_own}

-- all of a list
pub only_all : {A : Type 0} (l : List A) → only (λ _. true) l ≡ l
unfolding only pick
only_all [] = refl
only_all {A} (a ∷ l) = ap (λ (x : List A). a ∷ x) (only_all l)

-- something is there where all holds of it
pub some_holds : {A : Type 0} (x : Option A) → is_some x ≡ holds (λ _. true) x
unfolding is_some holds
some_holds none = refl
some_holds (some a) = refl

-- what is made of what is held is the same where it is the same for each face of n
pub map_face : {A B : Type 0} (g k : Held A → B) (n f : ℕ) (l : List (Option A)) → 1 ≤ f → f + length l ≤ n + 1
    → ((h : Held A) → is_face n h.face ≡ true → g h ≡ k h) → map g (held_from f l) ≡ map k (held_from f l)
unfolding held_from
map_face g k n f [] a b h = refl
map_face g k n f (none ∷ l) a b h = map_face g k n (suc f) l (omega arith) (omega arith) h
map_face g k n f (some x ∷ l) a b h =
    rw (
      h (record { face = f; what = x }) ((face_yes n f).1 (omega arith, omega arith)),
      map_face g k n (suc f) l (omega arith)
          (omega arith) h,
    )

-- the empty set has no face
pub has_none : (n g : ℕ) → has_face n 0 g ≡ false
unfolding has_face
has_none n g = go (is_face n g)
  where
    go : (b : Bool) → b && member (g - 1) 0 ≡ false
    go true = (member_no (g - 1) 0).1 (digit_zero (g - 1))
    go false = refl

-- the set of one face has no other
one_other : (n f g : ℕ) → g ≢ f → has_face n (with_face n 0 f) g ≡ false
one_other n f g d = has_added_other n 0 f g d ∙ has_none n g

-- the set of one face, of all faces
one_has : (n f g : ℕ) → is_face n g ≡ true → has_face n (with_face n 0 f) g ≡ eqb g f
one_has n f g h =
    same_or g f
    (λ e. rw e (has_added_same n 0 f ∙ ap (is_face n) (sym e) ∙ h ∙ sym (eq-eqb f f refl)))
    (λ d. one_other n f g d ∙ sym (ne_eqb g f d))

module _ {A : Type 0} (p : ℕ → Bool) where
  -- where p holds of no face no slot is emptied
  emptied_none : (k : ℕ) (l : List (Option A)) → ((j : ℕ) → p (k + j) ≡ false) → emptied_from p k l ≡ l
  unfolding emptied_from pick
  emptied_none k [] h = refl
  emptied_none k (x ∷ l) h =
      let z : p k ≡ false = rw (add-zero k) at (h 0) in
      rw (z, emptied_none (suc k) l (λ j. let z : suc k + j ≡ k + suc j = omega arith in rw z (h (suc j))))

  -- where p holds of one face its slot is emptied
  emptied_one : (k i : ℕ) (l : List (Option A)) → p (k + i) ≡ true → ((j : ℕ) → j ≢ i → p (k + j) ≡ false)
      → emptied_from p k l ≡ set l i none
  unfolding emptied_from pick
  emptied_one k i [] y h = refl
  emptied_one k zero (x ∷ l) y h =
      let z : p k ≡ true = rw (add-zero k) at y in
      rw (z, emptied_none (suc k) l (λ j. let z : suc k + j ≡ k + suc j = omega arith in rw z (h (suc j) (λ e. absurd (omega arith)))))
  emptied_one k (suc i) (x ∷ l) y h =
      let z : p k ≡ false = rw (add-zero k) at (h 0 (λ e. absurd (omega arith))) in
      let a : suc k + i ≡ k + suc i = omega arith in
      rw (
        z,
        emptied_one (suc k) i l (rw a y)
            (λ j d. let z : suc k + j ≡ k + suc j = omega arith in rw z (h (suc j) (λ e. d (omega arith)))),
      )

-- ending the requests of a set of one face ends that face's request
pub ending_one : (n f : ℕ) (e : Entry) → length e.requests ≡ n → ending (has_face n (with_face n 0 f)) e ≡ not_asking f e
unfolding ending not_asking emptied
ending_one n f e w = ap (λ (x : List (Option Request)). with_requests x e) (go (is_face n f) refl)
  where
    one : (i : ℕ) → is_face n (suc i) ≡ true → emptied_from (has_face n (with_face n 0 (suc i))) 1 e.requests ≡ set e.requests i none
    one i y =
        let z : 1 + i ≡ suc i = omega arith in
        emptied_one (has_face n (with_face n 0 (suc i))) 1 i e.requests (rw z (has_added_same n 0 (suc i) ∙ y))
        (λ j d. one_other n (suc i) (1 + j) (λ q. d (omega arith)))

    pos : (g : ℕ) → is_face n g ≡ true → emptied_from (has_face n (with_face n 0 g)) 1 e.requests ≡ set_slot g none e.requests
    pos zero y = absurd (omega (arith, (face_yes n 0).0 y))
    pos (suc i) y = one i y ∙ (unfold set_slot in refl)

    go : (b : Bool) → is_face n f ≡ b → emptied_from (has_face n (with_face n 0 f)) 1 e.requests ≡ set_slot f none e.requests
    go true y = pos f y
    go false y =
        emptied_none (has_face n (with_face n 0 f)) 1 e.requests (λ j. no (1 + j))
        ∙ sym (set_slot_none f none e.requests (λ q. (face_no n f).0 y (q.0, omega (arith, q.1, w))))
      where
        no : (g : ℕ) → has_face n (with_face n 0 f) g ≡ false
        no g = same_or g f (λ q. rw q (has_added_same n 0 f ∙ y)) (λ d. one_other n f g d)

-- the faces where a request is self-met by Data from f: f alone, or none where it is ad hoc
pub met_one : (n f g : ℕ) → is_face n g ≡ true → has_face n (with_face n 0 f) g ≡ meets_own f false g
unfolding meets_own
met_one n f g y = one_has n f g y ∙ go (eqb g f)
  where
    go : (b : Bool) → b ≡ (b && true)
    go true = refl
    go false = refl

pub met_none : (n f g : ℕ) → has_face n 0 g ≡ meets_own f true g
unfolding meets_own
met_none n f g = has_none n g ∙ go (eqb g f)
  where
    go : (b : Bool) → false ≡ (b && false)
    go true = refl
    go false = refl
