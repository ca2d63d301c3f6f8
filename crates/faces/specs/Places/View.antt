-- The open faces as a node has them: a slot for each of n faces. No other file can open `view_for`, so its laws stand here.
-- Assumes nothing.
use Rattle.std.specs.Prelude.{ℕ, ◌-◌, ◌<◌, ◌≡◌, refl, true, false, List, ◌≢◌, length}
use Rattle.std.proofs.Common.{sym, ◌∙◌}
use Rattle.std.proofs.Math.Option.{Option, none, some}
use Rattle.sizes.specs.Sizes.{most_faces}
use Rattle.laws.specs.Pick.{pick}
use Rattle.laws.specs.Digits.{member}
use Rattle.records.specs.Slots.{no_slots, slot, set_slot}
use Rattle.records.specs.Face as node
use Rattle.records.specs.Face.{Face, point_to_point, multi_access, ad_hoc, is_face}
use Rattle.records.specs.Laws.Face.{face_no}
use Rattle.records.specs.Laws.Slot.{set_slot_none}
use Rattle.faces.specs.declared.Faces.{Faces}
use Rattle.faces.specs.Set.{has_face, with_face, minus_face}
use Rattle.faces.specs.Slots.{slots_of}
use Rattle.faces.specs.Laws.Slot.{slots_length, slots_slot, slots_same, slots_put, slots_minus, slots_none}

-- the link type that a face's digits say: one that is both is point-to-point
unfoldable pub link_at : Faces → ℕ → node.Link
link_at fs i = pick (member i fs.peer) point_to_point (pick (member i fs.adhoc) ad_hoc multi_access)

-- the face with digit i, where it is open
unfoldable pub face_at : Faces → ℕ → Face
face_at fs i = record { is_local = member i fs.local; link = link_at fs i }

-- the faces of a node that has n
pub view_for : ℕ → Faces → List (Option Face)
view_for n fs = slots_of n fs.open (face_at fs)

-- the faces of a node
abbrev pub view : Faces → List (Option Face)
view fs = view_for most_faces fs

-- there is a slot for each face
pub view_length : (n : ℕ) (fs : Faces) → length (view_for n fs) ≡ n
unfolding view_for
view_length n fs = slots_length n fs.open (face_at fs)

-- the slot of a face is what its digits say; a number that is no face has none
pub view_slot : (n f : ℕ) (fs : Faces) → slot f (view_for n fs) ≡ pick (has_face n fs.open f) (some (face_at fs (f - 1))) none
unfolding view_for
view_slot n f fs = slots_slot n fs.open (face_at fs) f

-- where the digits of face f say open, as x, and those of the others are as they were, f is opened
pub view_opened : (n f : ℕ) (x : Face) (fs gs : Faces) → is_face n f ≡ true → gs.open ≡ with_face n fs.open f → face_at gs (f - 1) ≡ x
    → ((i : ℕ) → i ≢ f - 1 → face_at gs i ≡ face_at fs i) → view_for n gs ≡ set_slot f (some x) (view_for n fs)
unfolding view_for face_at link_at
view_opened n f x fs gs q e y o = rw e (slots_put n fs.open (face_at fs) f x (face_at gs) q y o)

-- where the digits of face f say not open, and those of the others are as they were, f is closed; a number that is no face closes none
pub view_closed : (n f : ℕ) (fs gs : Faces) → gs.open ≡ minus_face n fs.open f → ((i : ℕ) → face_at gs i ≡ face_at fs i)
    → view_for n gs ≡ set_slot f none (view_for n fs)
unfolding view_for
view_closed n f fs gs e o =
    slots_same n gs.open (face_at fs) gs.open (face_at gs) (λ i _. refl) (λ i _ _. o i) ∙ rw e (slots_minus n fs.open (face_at fs) f)

-- a number that is no face opens none: digits that say the same are the same faces
pub view_other : (n f : ℕ) (x : Option Face) (fs gs : Faces) → is_face n f ≡ false → gs.open ≡ fs.open
    → ((i : ℕ) → face_at gs i ≡ face_at fs i) → view_for n gs ≡ set_slot f x (view_for n fs)
unfolding view_for
view_other n f x fs gs q e o =
    slots_same n gs.open (face_at fs) gs.open (face_at gs) (λ i _. refl) (λ i _ _. o i)
    ∙ rw e (sym (set_slot_none f x (view_for n fs) (λ h. (face_no n f).0 q (h.0, rw (view_length n fs) at h.1))))

-- where no digit says open, no face is open
pub view_none : (n : ℕ) (fs : Faces) → ((i : ℕ) → i < n → member i fs.open ≡ false) → view_for n fs ≡ no_slots n
unfolding view_for
view_none n fs h = slots_none n fs.open (face_at fs) h
