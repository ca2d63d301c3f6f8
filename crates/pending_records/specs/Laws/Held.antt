-- What is held for the faces of a set, of what is held.
-- Assumes nothing.
use Rattle.std.specs.Prelude.{ℕ, suc, ◌+◌, ◌-◌, ◌≤◌, ◌<◌, zero, ◌≡◌, refl, Bool, true, false, ◌&&◌, List, [], ◌∷◌, length, get_or}
use Rattle.std.proofs.Common.{sym, ap, ◌∙◌, add-zero, arith}
use Rattle.std.proofs.Math.Option.{Option, none, some}
use Rattle.laws.specs.Pick.{pick}
use Rattle.records.specs.Slots.{slot, holds, held, held_from, only}
use Rattle.records.specs.Laws.Face.{face_yes}
use Rattle.records.specs.Laws.Slot.{slot_at}
use Rattle.faces.specs.Set.{has_face, faces_where}
use Rattle.faces.specs.Laws.Set.{where_has, has_after}
use Rattle.faces.specs.Slots.{slots_of}
use Rattle.laws.specs.Digits.{member}
use Rattle.laws.specs.Places.Tab.{tab}

-- what is held for the faces of two sets, place by place
held_both : {A : Type 0} (p q : ℕ → Bool) (r : ℕ → Bool) (g : ℕ → A) (f i m : ℕ) → f ≡ i + 1
    → ((k : ℕ) → i ≤ k → k < i + m → r k ≡ (p k && q (k + 1)))
    → held_from f (tab (λ k. pick (r k) (some (g k)) none) i m)
    ≡ only (λ h. q h.face) (held_from f (tab (λ k. pick (p k) (some (g k)) none) i m))
unfolding held_from tab only pick
held_both p q r g f i zero e h = refl
held_both {A} p q r g f i (suc m) e h =
    let here : r i ≡ (p i && q f) = h i (omega arith) (omega arith) ∙ ap (λ (k : ℕ). p i && q k) (sym e) in
    rw here (go (p i) (q f) (tab (λ k. pick (r k) (some (g k)) none) (suc i) m) (tab (λ k. pick (p k) (some (g k)) none) (suc i) m) refl
    (held_both p q r g (suc f) (suc i) m (omega arith) (λ k a b. h k (omega arith) (omega arith))))
  where
    go : (b c : Bool) (x y : List (Option A)) → q f ≡ c → held_from (suc f) x ≡ only (λ h. q h.face) (held_from (suc f) y)
        → held_from f (pick (b && c) (some (g i)) none ∷ x) ≡ only (λ h. q h.face) (held_from f (pick b (some (g i)) none ∷ y))
    go true true x y w u = rw (w, u)
    go true false x y w u = rw (w, u)
    go false c x y w u = u

-- what is held for the faces that are in two sets is, of what is held for the faces of one, that for the faces of the other
pub held_common : {A : Type 0} (n s t x : ℕ) (g : ℕ → A) → x ≡ faces_where n (λ f. has_face n s f && has_face n t f)
    → held (slots_of n x g) ≡ only (λ h. has_face n t h.face) (held (slots_of n s g))
unfolding held slots_of
held_common n s t x g e =
    held_both (λ i. member i s) (has_face n t) (λ i. member i x) g 1 0 n (omega arith) (λ i _ l. there i (omega arith))
  where
    there : (i : ℕ) → i < n → member i x ≡ (member i s && has_face n t (i + 1))
    there i h =
        let face = (face_yes n (i + 1)).1 (omega arith, omega arith) in
        sym (has_after n x i h) ∙ rw (e, where_has n (i + 1) (λ f. has_face n s f && has_face n t f) face, has_after n s i h)

-- of what is held that on the faces of a set, where these are the faces of what q holds of
only_from : {A : Type 0} (q : A → Bool) (p : ℕ → Bool) (f : ℕ) (l : List (Option A))
    → ((i : ℕ) → i < length l → p (f + i) ≡ holds q (get_or l i none))
    → only (λ h. p h.face) (held_from f l) ≡ only (λ h. q h.what) (held_from f l)
unfolding only held_from holds
only_from q p f [] h = refl
only_from q p f (none ∷ l) h =
    only_from q p (suc f) l (λ i b. let e : suc f + i ≡ f + suc i = omega arith in rw e (h (suc i) (omega arith)))
only_from q p f (some a ∷ l) h =
    let here : p f ≡ q a = rw add-zero at (h 0 (omega arith)) in
    rw (here, only_from q p (suc f) l (λ i b. let e : suc f + i ≡ f + suc i = omega arith in rw e (h (suc i) (omega arith))))

-- of what is held that on the faces of the set of those that q holds of is what q holds of
pub only_where : {A : Type 0} (q : A → Bool) (n : ℕ) (l : List (Option A)) → length l ≤ n
    → only (λ h. has_face n (faces_where n (λ f. holds q (slot f l))) h.face) (held l) ≡ only (λ h. q h.what) (held l)
unfolding held
only_where q n l b = only_from q _ 1 l over
  where
    over : (i : ℕ) → i < length l → has_face n (faces_where n (λ f. holds q (slot f l))) (1 + i) ≡ holds q (get_or l i none)
    over i h =
        let back : 1 + i - 1 ≡ i = omega arith in
        where_has n (1 + i) _ ((face_yes n (1 + i)).1 (omega arith, omega arith)) ∙ ap (holds q) (slot_at (1 + i) l (omega arith) ∙ rw back)
