-- A request that opens in an entry that stands, as the code notes it.
-- Assumes nothing.
use Rattle.std.specs.Prelude.{ℕ, ◌≡◌, refl, Bool, true, false, [], ◌∷◌, map, length}
use Rattle.std.proofs.Math.Path.{sym}
use Rattle.std.proofs.Common.{◌∙◌}
use Rattle.std.proofs.Math.Option.{Option, none, some}
use Rattle.laws.specs.Pick.{pick}
use Rattle.laws.specs.Laws.Pick.{pick_yes, pick_no}
use Rattle.sizes.specs.Sizes.{most_faces}
use Rattle.records.specs.Class.{class_number}
use Rattle.records.specs.Slots.{slot, is_some, given}
use Rattle.records.specs.Face.{is_face}
use Rattle.records.specs.Entry.{Entry}
use Rattle.records.specs.Happening.{opened, happens}
use Rattle.records.specs.Rows.{fate_number, row_of}
use Rattle.records.specs.Laws.Face.{face_no}
use Rattle.records.specs.Laws.Slot.{slot_none}
use Rattle.faces.specs.Set.{has_face}
use Rattle.faces.specs.Laws.Set.{where_has}
use Rattle.happenings.specs.declared.Fate.{Fate}
use Rattle.happenings.specs.Noted.{most_rows, fate_in, note_of, Notes}
use Rattle.happenings.specs.Laws.Noted.{row_is, notes_none}
use Rattle.pending_entry.specs.Operations.{request_with, asking_faces}
use Rattle.event.specs.Memory.{Table}

-- the faces with a request are those whose slot holds one
asking_has : (n f : ℕ) (e : Entry) → length e.requests ≡ n → has_face n (asking_faces n e) f ≡ is_some (slot f e.requests)
unfolding asking_faces has_face is_some
asking_has n f e w = go (is_face n f) refl
  where
    go : (b : Bool) → is_face n f ≡ b → has_face n (asking_faces n e) f ≡ is_some (slot f e.requests)
    go true q = where_has n f (λ g. is_some (slot g e.requests)) q
    go false q =
        let s : slot f e.requests ≡ none = slot_none f e.requests (λ h. (face_no n f).0 q (h.0, rw w at h.1)) in
        rw (q, s)

module _ (e : Entry) (o : Option Entry) (set f nonce expiry t k : ℕ) (rows : Table) (wide : length e.requests ≡ most_faces)
    (at : o ≡ some e) (es : set ≡ given 0 (asking_faces most_faces) o) where
  -- the face has a request
  has : has_face most_faces set f ≡ is_some (slot f e.requests)
  unfolding given
  has = rw (es, at) (asking_has most_faces f e wide)

  -- a request that is renewed is not noted
  pub noted_not : (b : Bool) → b ≡ has_face most_faces set f → b ≡ true
      → Notes most_rows k rows rows k
      (map row_of (pick (is_some (slot f e.requests)) []
      (happens opened t e (record { face = f; what = request_with nonce expiry }) ∷ [])))
  noted_not b q y = rw (sym has ∙ sym q ∙ y, pick_yes) (notes_none most_rows k rows)

  -- one that opens is
  pub noted_opened : (b : Bool) (w r : ℕ) (rows' : Table) → b ≡ has_face most_faces set f → b ≡ false → w ≡ class_number e.cls
      → Notes most_rows r rows' rows k (note_of f w (fate_number (fate_in Fate.Opened)) nonce expiry ∷ [])
      → Notes most_rows r rows' rows k
      (map row_of (pick (is_some (slot f e.requests)) []
      (happens opened t e (record { face = f; what = request_with nonce expiry }) ∷ [])))
  unfolding fate_in
  noted_opened b w r rows' q y c h =
      rw (sym has ∙ sym q ∙ y, pick_no) (rw (row_is opened t e (record { face = f; what = request_with nonce expiry }), ← c) h)
