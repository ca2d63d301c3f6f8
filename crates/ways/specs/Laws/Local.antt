-- Whether some request of an entry is from a local face: the set of the faces that ask and are local has one.
-- Assumes nothing.
use Prim.Native.Nat.{ℕ, zero, suc, ◌+◌, ◌-◌, ◌≤◌, ◌<◌}
use Rattle.std.specs.Prelude.{◌≡◌, ◌&&◌, ◌||◌, not, length, get_or, eqb}
use Rattle.std.proofs.Math.Path.{refl}
use Rattle.std.proofs.Common.{sym, ap, ◌∙◌, true≢false, pow_pos, eq-eqb, ne_eqb}
use Rattle.std.proofs.Math.Bool.{Bool, true, false, and-false}
use mathlib.Core.List.{List, [], ◌∷◌}
use Rattle.std.proofs.Math.Option.{Option, none, some}
use native.Mathlib.Omega.{arith}
use Rattle.laws.specs.Laws.Digits.{member_no, digit_zero}
use Rattle.records.specs.Slots.{slot, is_some, given, holds, held, held_from, any_of}
use Rattle.records.specs.Face.{Face, is_face, is_local_face}
use Rattle.records.specs.Laws.Face.{face_yes}
use Rattle.records.specs.Laws.Slot.{slot_at}
use Rattle.records.specs.Entry.{Entry}
use Rattle.faces.specs.Set.{has_face, faces_where}
use Rattle.faces.specs.Laws.Set.{where_has, where_is, where_ext}
use Rattle.faces.specs.Laws.Where.{where_both}
use Rattle.pending_entry.specs.Operations.{asking_faces}
use Rattle.rules.specs.Node.{Node}
use Rattle.rules.specs.Interest.{from_local_face}

-- the number 0 has no face
pub has_zero : (n f : ℕ) → has_face n 0 f ≡ false
unfolding has_face
has_zero n f = rw ((member_no (f - 1) 0).1 (digit_zero (f - 1))) (and-false (is_face n f))

module _ {A : Type 0} (q : ℕ → Bool) where
  -- where a test holds of no face that something is kept for
  any_none : (f : ℕ) (l : List (Option A)) → ((i : ℕ) → i < length l → (is_some (get_or l i none) && q (f + i)) ≡ false)
      → any_of (λ h. q h.face) (held_from f l) ≡ false
  unfolding any_of held_from is_some
  any_none f [] h = refl
  any_none f (none ∷ l) h =
      any_none (suc f) l (λ i k. let e : suc f + i ≡ f + suc i = omega arith in rw e (h (suc i) (omega arith)))
  any_none f (some a ∷ l) h =
      let e : f + 0 ≡ f = omega arith in
      let z : q f ≡ false = rw e at (h 0 (omega arith)) in
      rw (z, any_none (suc f) l (λ i k. let e : suc f + i ≡ f + suc i = omega arith in rw e (h (suc i) (omega arith))))

  -- it holds of none
  none_any : (f : ℕ) (l : List (Option A)) (i : ℕ) → any_of (λ h. q h.face) (held_from f l) ≡ false → i < length l
      → (is_some (get_or l i none) && q (f + i)) ≡ false
  unfolding any_of held_from is_some
  none_any f [] i e h = absurd (omega arith)
  none_any f (none ∷ l) zero e h = refl
  none_any f (none ∷ l) (suc i) e h =
      let z : f + suc i ≡ suc f + i = omega arith in
      rw z (none_any (suc f) l i e (omega arith))
  none_any f (some a ∷ l) zero e h = let z : f + 0 ≡ f = omega arith in rw z (left (q f) (any_of (λ h. q h.face) (held_from (suc f) l)) e)
    where
      left : (a b : Bool) → a || b ≡ false → a ≡ false
      left true b e = e
      left false b e = refl
  none_any f (some a ∷ l) (suc i) e h =
      let z : f + suc i ≡ suc f + i = omega arith in
      rw z (none_any (suc f) l i (right (q f) (any_of (λ h. q h.face) (held_from (suc f) l)) e) (omega arith))
    where
      right : (a b : Bool) → a || b ≡ false → b ≡ false
      right true b e = absurd (true≢false e)
      right false b e = e

  -- the set of the faces that something is kept for and that a test holds of is empty where the test holds of none of them
  where_any : (n : ℕ) (l : List (Option A)) → length l ≡ n
      → not (eqb (faces_where n (λ f. is_some (slot f l) && q f)) 0) ≡ any_of (λ h. q h.face) (held l)
  unfolding held
  where_any n l h = go (any_of (λ h. q h.face) (held_from 1 l)) refl
    where
      p : ℕ → Bool
      p f = is_some (slot f l) && q f

      at : (i : ℕ) → p (suc i) ≡ (is_some (get_or l i none) && q (1 + i))
      at i =
          let e : suc i - 1 ≡ i = omega arith in
          let z : 1 + i ≡ suc i = omega arith in
          let k : slot (suc i) l ≡ get_or l i none = slot_at (suc i) l (omega arith) ∙ rw e in
          rw (k, z)

      none_set : any_of (λ h. q h.face) (held_from 1 l) ≡ false → faces_where n p ≡ 0
      none_set e = sym (where_is n 0 _ (pow_pos n) (λ f k. has_zero n f ∙ sym (each f ((face_yes n f).0 k))))
        where
          each : (f : ℕ) → (1 ≤ f) × (f ≤ n) → p f ≡ false
          each zero k = absurd (omega (arith, k.0))
          each (suc i) k = at i ∙ none_any 1 l i e (omega (arith, k.1))

      set_none : faces_where n p ≡ 0 → any_of (λ h. q h.face) (held_from 1 l) ≡ false
      set_none e = any_none 1 l (λ i k.
          sym (at i) ∙ sym (where_has n (suc i) p ((face_yes n (suc i)).1 (omega arith, omega arith))) ∙ rw e (has_zero n (suc i)))

      go : (b : Bool) → any_of (λ h. q h.face) (held_from 1 l) ≡ b
          → not (eqb (faces_where n p) 0) ≡ any_of (λ h. q h.face) (held_from 1 l)
      go true e = rw (ne_eqb (faces_where n p) 0 (λ z. true≢false (sym e ∙ set_none z))) (sym e)
      go false e = rw (eq-eqb (faces_where n p) 0 (none_set e)) (sym e)

-- whether a request of an entry is from a local face is told by the set of the faces that ask and are local
local_said : (m : ℕ) (n : Node) (e : Entry) (o : Option Entry) (fs : List (Option Face)) (s k c : ℕ) → n.faces ≡ fs → o ≡ some e
    → length e.requests ≡ m → s ≡ given 0 (asking_faces m) o → k ≡ faces_where m (is_local_face fs)
    → c ≡ faces_where m (λ f. has_face m s f && has_face m k f) → not (eqb c 0) ≡ from_local_face n e
unfolding from_local_face asking_faces given
local_said m n e o fs s k c x y l a b d =
    let z : c ≡ faces_where m (λ f. is_some (slot f e.requests) && is_local_face fs f) =
    d ∙ rw (a, b, y) (where_both m (λ f. is_some (slot f e.requests)) (is_local_face fs)) in
    rw (z, x) (where_any (is_local_face fs) m e.requests l)

-- the set of no face is the number 0
pub where_nothing : (m : ℕ) → 0 ≡ faces_where m (λ _. false)
where_nothing m = where_is m 0 (λ _. false) (pow_pos m) (λ f _. has_zero m f)

-- and so it is told of an entry or none
pub local_held : (m : ℕ) (n : Node) (o : Option Entry) (fs : List (Option Face)) (s k c : ℕ) → n.faces ≡ fs
    → ((e : Entry) → o ≡ some e → length e.requests ≡ m) → s ≡ given 0 (asking_faces m) o → k ≡ faces_where m (is_local_face fs)
    → c ≡ faces_where m (λ f. has_face m s f && has_face m k f) → not (eqb c 0) ≡ holds (from_local_face n) o
unfolding given holds
local_held m n none fs s k c x l a b d =
    let z : c ≡ 0 = d ∙ where_ext m _ (λ _. false) (λ f _. rw (a, has_zero m f)) ∙ sym (where_nothing m) in
    ap not (eq-eqb c 0 z)
local_held m n (some e) fs s k c x l a b d = local_said m n e (some e) fs s k c x refl (l e refl) a b d
