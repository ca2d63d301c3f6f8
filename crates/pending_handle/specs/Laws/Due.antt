-- Whether a request is over is told by the set of the faces whose requests are.
-- Assumes nothing.
use Prim.Native.Nat.{ℕ, zero, suc, ◌-◌, ◌≤◌, ◌<◌}
use Rattle.std.specs.Prelude.{◌≡◌, Bool, ◌&&◌, ◌||◌, length, get_or, eqb}
use Rattle.std.proofs.Math.Path.{refl, sym}
use Rattle.std.proofs.Common.{ap, ◌∙◌, true≢false, arith, pow_pos, eq-eqb, ne_eqb}
use Rattle.std.proofs.Math.Bool.{true, false, not}
use mathlib.Core.List.{List, [], ◌∷◌}
use Rattle.std.proofs.Math.Option.{Option, none}
use Rattle.laws.specs.Laws.Digits.{member_no, digit_zero}
use Rattle.records.specs.Slots.{slot, holds, any_of}
use Rattle.records.specs.Face.{is_face}
use Rattle.records.specs.Laws.Face.{face_yes}
use Rattle.records.specs.Laws.Slot.{slot_at}
use Rattle.records.specs.Entry.{Request, is_live, is_idle}
use Rattle.faces.specs.Set.{has_face, faces_where}
use Rattle.faces.specs.Laws.Set.{where_has, where_is}
use Rattle.faces.specs.Laws.Slot.{any_held, slots_length}
use Rattle.pending_entry.specs.Places.View as entry
use Rattle.pending_records.specs.Operations.{overdue_faces}
use Rattle.pending_handle.specs.Operations.{is_due}

module _ (q : Request → Bool) where
  -- where a test holds of no slot
  any_none : (l : List (Option Request)) → ((i : ℕ) → i < length l → holds q (get_or l i none) ≡ false) → any_of (holds q) l ≡ false
  unfolding any_of
  any_none [] h = refl
  any_none (x ∷ l) h = rw (h 0 (omega arith), any_none l (λ i k. h (suc i) (omega arith)))

  -- it holds of none
  none_any : (l : List (Option Request)) (i : ℕ) → any_of (holds q) l ≡ false → i < length l → holds q (get_or l i none) ≡ false
  unfolding any_of
  none_any [] i e h = absurd (omega arith)
  none_any (x ∷ l) zero e h = left (holds q x) (any_of (holds q) l) e
    where
      left : (a b : Bool) → a || b ≡ false → a ≡ false
      left true b e = e
      left false b e = refl
  none_any (x ∷ l) (suc i) e h = none_any l i (right (holds q x) (any_of (holds q) l) e) (omega arith)
    where
      right : (a b : Bool) → a || b ≡ false → b ≡ false
      right true b e = absurd (true≢false e)
      right false b e = e

-- the number 0 has no face
has_zero : (n f : ℕ) → has_face n 0 f ≡ false
unfolding has_face
has_zero n f = rw ((member_no (f - 1) 0).1 (digit_zero (f - 1))) (go (is_face n f))
  where
    go : (b : Bool) → (b && false) ≡ false
    go true = refl
    go false = refl

-- the set of the faces that a test holds of is empty where it holds of no slot
where_any : (n : ℕ) (q : Request → Bool) (l : List (Option Request)) → length l ≡ n
    → not (eqb (faces_where n (λ f. holds q (slot f l))) 0) ≡ any_of (holds q) l
where_any n q l h = go (any_of (holds q) l) refl
  where
    at : (i : ℕ) → slot (suc i) l ≡ get_or l i none
    at i = let e : suc i - 1 ≡ i = omega arith in slot_at (suc i) l (omega arith) ∙ rw e

    none_set : any_of (holds q) l ≡ false → faces_where n (λ f. holds q (slot f l)) ≡ 0
    none_set e = sym (where_is n 0 _ (pow_pos n) (λ f k. has_zero n f ∙ sym (each f ((face_yes n f).0 k))))
      where
        each : (f : ℕ) → (1 ≤ f) × (f ≤ n) → holds q (slot f l) ≡ false
        each zero k = absurd (omega (arith, k.0))
        each (suc i) k = ap (holds q) (at i) ∙ none_any q l i e (omega (arith, k.1))

    set_none : faces_where n (λ f. holds q (slot f l)) ≡ 0 → any_of (holds q) l ≡ false
    set_none e = any_none q l (λ i k.
        ap (holds q) (sym (at i)) ∙ sym (where_has n (suc i) (λ f. holds q (slot f l)) ((face_yes n (suc i)).1 (omega arith, omega arith)))
        ∙ rw e (has_zero n (suc i)))

    go : (b : Bool) → any_of (holds q) l ≡ b → not (eqb (faces_where n (λ f. holds q (slot f l))) 0) ≡ any_of (holds q) l
    go true e = rw (ne_eqb (faces_where n (λ f. holds q (slot f l))) 0 (λ z. true≢false (sym e ∙ set_none z))) (sym e)
    go false e = rw (eq-eqb (faces_where n (λ f. holds q (slot f l))) 0 (none_set e)) (sym e)

module _ (n now : ℕ) (nm head : List ℕ) (recs : List (List ℕ)) where
  -- an entry without requests
  pub due_idle : is_idle (entry.view_for n nm head recs) ≡ true → is_due now (entry.view_for n nm head recs) ≡ true
  unfolding is_due
  due_idle e = rw e

  -- one with requests, by the faces whose requests are over
  pub due_over : is_idle (entry.view_for n nm head recs) ≡ false
      → is_due now (entry.view_for n nm head recs) ≡ not (eqb (overdue_faces n now (entry.view_for n nm head recs)) 0)
  unfolding is_due overdue_faces
  due_over e =
      rw e
      (sym (any_held (λ r. not (is_live now r)) (entry.view_for n nm head recs).requests)
      ∙ sym (where_any n (λ r. not (is_live now r)) (entry.view_for n nm head recs).requests
      (rw (entry.view_requests n nm head recs) (slots_length n _ _))))
