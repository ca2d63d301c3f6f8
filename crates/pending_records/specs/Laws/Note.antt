-- The rows of requests, one after the other, the lowest face first.
-- Assumes nothing.
use Rattle.std.specs.Prelude.{ℕ, ◌≤◌, ◌<◌, ◌≡◌, Bool, ◌&&◌, length, get_or}
use Rattle.std.proofs.Math.Path.{refl, sym}
use Rattle.std.proofs.Common.{◌∙◌}
use Rattle.std.proofs.Math.Bool.{true, false}
use mathlib.Core.List.{List, [], ◌∷◌, ◌++◌, map}
use Rattle.laws.specs.Pick.{pick}
use Rattle.laws.specs.Laws.Pick.{pick_ap, pick_yes, pick_no}
use Rattle.records.specs.Slots.{given, Held, held, only}
use Rattle.records.specs.Class.{class_number}
use Rattle.records.specs.Laws.Class.{class_number_lem}
use Rattle.records.specs.Entry.{Request, Entry}
use Rattle.records.specs.Happening.{Fate, happens}
use Rattle.records.specs.Rows.{fate_number, row_of}
use Rattle.faces.specs.Set.{has_face, minus_face, faces_where}
use Rattle.faces.specs.Slots.{slots_of}
use Rattle.faces.specs.Laws.Walk.{Walks, walk_more, walk_end}
use Rattle.happenings.specs.Noted.{fate_in, note_of, Notes}
use Rattle.happenings.specs.Laws.Noted.{row_is, notes_none, notes_length, notes_then}
use Rattle.pending_entry.specs.Places.View.{request_at, view_for, view_class, view_requests}
use Rattle.pending_entry.specs.Laws.Change.{view_request}
use Rattle.pending_records.specs.Operations.{noted_by, noted, fate_by, noted_split, noted_one}
use Rattle.happenings.specs.declared.Fate as told
use Rattle.pending_records.specs.Places.Walk.{word, request_row, rows_of}
use Rattle.pending_records.specs.Laws.Held.{held_common}

-- some rows are noted, those of the faces left are still to be noted: noting those too notes all
pub record Noting (most n class : ℕ) (x : ℕ → ℕ) (recs before : List (List ℕ)) (at set : ℕ) (rows : List (List ℕ)) (left next : ℕ)
    : Type 0 where
  pub all : length rows ≡ most
  pub on : (r : ℕ) (after : List (List ℕ)) → Notes most r after rows next (rows_of n class x left recs)
      → Notes most r after before at (rows_of n class x set recs)

module _ (most n class : ℕ) (x : ℕ → ℕ) (recs before : List (List ℕ)) (at set : ℕ) where
  -- at the start all faces are left
  pub noting_start : length before ≡ most → Noting most n class x recs before at set before set at
  noting_start all = record { all = all; on = λ r after h. h }

  module _ (rows : List (List ℕ)) (left next f : ℕ) (h : Noting most n class x recs before at set rows left next) (a : Walks n left f) where
    -- a turn notes the request of the lowest face
    pub noting_more : (rows' : List (List ℕ)) (left' next' : ℕ) → f ≤ n
        → Notes most next' rows' rows next (note_of f class (x f) (word recs f 0) (word recs f 1) ∷ [])
        → left' ≡ minus_face n left f → Noting most n class x recs before at set rows' left' next'
    unfolding rows_of request_row request_at
    noting_more rows' left' next' l b e = record {
      all = notes_length most next' next rows' rows _ b ∙ h.all;
      on = λ r after d.
          let here = note_of f class (x f) (word recs f 0) (word recs f 1) in
          let more : rows_of n class x left recs ≡ (here ∷ []) ++ rows_of n class x left' recs =
          rw (walk_more a l e (request_at recs)) in
          h.on r after (rw more (notes_then most next' r next rows rows' after _ _ h.all b d));
    }

    -- where no face is left all are noted
    pub noting_end : n < f → Notes most next rows before at (rows_of n class x set recs)
    unfolding rows_of
    noting_end l =
        let none : map (request_row class x) (held (slots_of n left (request_at recs))) ≡ [] = rw (walk_end a l (request_at recs)) in
        h.on next rows (rw none (notes_none most next rows))

-- numbers that are the same for each face make the same rows
rows_ext : (n class : ℕ) (x y : ℕ → ℕ) (s : ℕ) (recs : List (List ℕ)) → ((f : ℕ) → x f ≡ y f)
    → rows_of n class x s recs ≡ rows_of n class y s recs
unfolding rows_of request_row
rows_ext n class x y s recs e = go (held (slots_of n s (request_at recs)))
  where
    go : (hs : List (Held Request)) → map (request_row class x) hs ≡ map (request_row class y) hs
    go [] = refl
    go (h ∷ hs) = rw (e h.face, go hs)

-- the rows of happenings of some requests of an entry
rows_happen : (x : ℕ → Fate) (now : ℕ) (e : Entry) (hs : List (Held Request))
    → map row_of (map (λ h. happens (x h.face) now e h) hs) ≡ map (request_row (class_number e.cls) (λ f. fate_number (x f))) hs
unfolding request_row
rows_happen x now e [] = refl
rows_happen x now e (h ∷ hs) = rw (row_is (x h.face) now e h, rows_happen x now e hs)

module _ (n : ℕ) (name head : List ℕ) (recs : List (List ℕ)) (now : ℕ) where
  -- the rows of an entry's requests on the faces of a set
  pub view_noted : (x : ℕ → Fate) (set s : ℕ) → s ≡ faces_where n (λ f. has_face n (get_or head 4 0) f && has_face n set f)
      → noted_by x now (has_face n set) (view_for n name head recs) ≡ rows_of n (get_or head 3 0) (λ f. fate_number (x f)) s recs
  unfolding noted_by rows_of
  view_noted x set s e =
      rows_happen x now (view_for n name head recs) (only (λ h. has_face n set h.face) (held (view_for n name head recs).requests))
      ∙ rw (
        view_class n name head recs,
        class_number_lem,
        view_requests n name head recs,
        held_common n (get_or head 4 0) set s (request_at recs) e,
      )

  -- with a fate for the faces of one set, and another for the others
  pub view_noted_by : (special : ℕ) (own fate : told.Fate) {a b : ℕ} → a ≡ fate_number (fate_in own) → b ≡ fate_number (fate_in fate)
      → (set s : ℕ) → s ≡ faces_where n (λ f. has_face n (get_or head 4 0) f && has_face n set f)
      → noted_split n set special own fate now (view_for n name head recs)
      ≡ rows_of n (get_or head 3 0) (λ f. pick (has_face n special f) a b) s recs
  view_noted_by special own fate p q set s e =
      view_noted (fate_by n special own fate) set s e
      ∙ rows_ext n _ _ _ s recs (λ f. pick_ap fate_number (has_face n special f) (fate_in own) (fate_in fate) ∙ rw (p, q))

  -- with one fate
  pub view_noted_all : (x : Fate) {a : ℕ} → a ≡ fate_number x → (special set s : ℕ)
      → s ≡ faces_where n (λ f. has_face n (get_or head 4 0) f && has_face n set f)
      → noted x now (has_face n set) (view_for n name head recs) ≡ rows_of n (get_or head 3 0) (λ f. pick (has_face n special f) a a) s recs
  unfolding noted pick
  view_noted_all x {a} p special set s e = view_noted (λ _. x) set s e ∙ rows_ext n _ _ _ s recs (λ f. sym p ∙ go (has_face n special f))
    where
      go : (b : Bool) → a ≡ pick b a a
      go true = refl
      go false = refl

  -- with two fates that are one
  pub view_noted_same : (x : told.Fate) (special set : ℕ) → noted_split n set special x x now (view_for n name head recs)
      ≡ noted (fate_in x) now (has_face n set) (view_for n name head recs)
  view_noted_same x special set =
      view_noted_by special x x refl refl set _ refl ∙ sym (view_noted_all (fate_in x) refl special set _ refl)

  -- the row of a face's request
  pub view_noted_one : (x : Fate) (f : ℕ) → has_face n (get_or head 4 0) f ≡ true
      → noted_one x now f (view_for n name head recs) ≡ note_of f (get_or head 3 0) (fate_number x) (word recs f 0) (word recs f 1) ∷ []
  unfolding noted_one given request_at
  view_noted_one x f h =
      rw (view_request n name head recs f, h, pick_yes, row_is, view_class n name head recs, class_number_lem)

  -- without a request there is none
  pub view_noted_none : (x : Fate) (f : ℕ) → has_face n (get_or head 4 0) f ≡ false → noted_one x now f (view_for n name head recs) ≡ []
  unfolding noted_one given
  view_noted_none x f h = rw (view_request n name head recs f, h, pick_no)
