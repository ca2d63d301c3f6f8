-- The faces whose requests are over: looked at from the lowest up, and the entry without their requests.
-- Assumes nothing.
use Rattle.std.specs.Prelude.{ℕ, ◌+◌, ◌-◌, ◌^◌, ◌≤◌, ◌<◌, ◌≡◌, Bool, ◌&&◌, ◌||◌, List, [], ◌∷◌, map, ◌≢◌, get_or, ltb, eqb}
use Rattle.std.proofs.Math.Path.{refl}
use Rattle.std.proofs.Common.{sym, ◌∙◌, arith, pow_pos, eqb-true}
use Rattle.std.proofs.Math.Bool.{true, false, not}
use Rattle.std.proofs.lemmas.Bool.{eqb-false}
use Rattle.laws.specs.Pick.{pick}
use Rattle.laws.specs.Digits.{member}
use Rattle.laws.specs.Laws.Digits.{member_no, digit_zero, added_lt}
use Rattle.records.specs.Face.{is_face}
use Rattle.records.specs.Laws.Face.{face_yes}
use Rattle.records.specs.Entry.{Request, with_requests, is_live, if_live, aged_entry}
use Rattle.faces.specs.Set.{has_face, with_face, minus_face, faces_where}
use Rattle.faces.specs.Laws.Set.{has_after, has_added_same, has_added_other, has_removed_same, has_removed_other, lowest_before}
use Rattle.faces.specs.Laws.Set.{where_has, where_is, where_ext}
use Rattle.faces.specs.Slots.{slots_of}
use Rattle.faces.specs.Laws.Walk.{Walks, walk_has}
use Rattle.faces.specs.Laws.Slot.{holds_there, slots_only}
use Rattle.pending_entry.specs.Places.View.{request_at, view_for, view_name, view_prefix, view_fresh, view_class, view_requests, view_sent}
use Rattle.pending_entry.specs.Laws.Change.{view_is, view_request}
use Rattle.pending_records.specs.Operations.{overdue_faces}
use Rattle.pending_records.specs.Places.Walk.{is_over}

-- of the requests of a set those of the faces left are still to be looked at; those of the others that are over are known
pub record Overs (n now : ℕ) (recs : List (List ℕ)) (set left over : ℕ) : Type 0 where
  pub within : over < 2 ^ n
  pub split : (k : ℕ) → (has_face n set k && is_over now recs k) ≡ (has_face n over k || (has_face n left k && is_over now recs k))

-- the number 0 has no face
has_zero : (n f : ℕ) → has_face n 0 f ≡ false
unfolding has_face
has_zero n f = rw ((member_no (f - 1) 0).1 (digit_zero (f - 1))) (go (is_face n f))
  where
    go : (b : Bool) → (b && false) ≡ false
    go true = refl
    go false = refl

-- at the start all are left
pub overs_start : {n now : ℕ} {recs : List (List ℕ)} {set : ℕ} → Overs n now recs set set 0
overs_start {n} = record { within = pow_pos n; split = λ k. rw (has_zero n k) }

module _ (n x f : ℕ) (face : is_face n f ≡ true) where
  -- a set has a face that was put in if a test held, where the test held or where the set had it before
  more_same : (b : Bool) → has_face n (pick b (with_face n x f) x) f ≡ b || has_face n x f
  unfolding pick
  more_same true = has_added_same n x f ∙ face
  more_same false = refl

  -- for another face nothing changed
  more_other : (b : Bool) (k : ℕ) → k ≢ f → has_face n (pick b (with_face n x f) x) k ≡ has_face n x k
  unfolding pick
  more_other true k d = has_added_other n x f k d
  more_other false k d = refl

  -- no digit past the faces was set
  more_within : (b : Bool) → x < 2 ^ n → pick b (with_face n x f) x < 2 ^ n
  unfolding pick with_face
  more_within true h = rw face (added_lt n (f - 1) x (omega (arith, (face_yes n f).0 face)) h)
  more_within false h = h

module _ {n s f : ℕ} (a : Walks n s f) {now : ℕ} {recs : List (List ℕ)} {set x : ℕ} (h : Overs n now recs set s x) where
  -- a turn looks at one request
  pub overs_turn : {t y : ℕ} → f ≤ n → t ≡ minus_face n s f → y ≡ pick (is_over now recs f) (with_face n x f) x → Overs n now recs set t y
  overs_turn {t} {y} l e q = record { within = rw q (more_within n x f face over h.within); split = λ k. go k (eqb k f) refl }
    where
      face : is_face n f ≡ true
      face = (face_yes n f).1 (a.first, l)

      over : Bool
      over = is_over now recs f

      looked : (b c : Bool) → (c || (true && b)) ≡ ((b || c) || (false && b))
      looked true true = refl
      looked true false = refl
      looked false true = refl
      looked false false = refl

      go : (k : ℕ) (b : Bool) → eqb k f ≡ b
          → (has_face n set k && is_over now recs k) ≡ (has_face n y k || (has_face n t k && is_over now recs k))
      go k true p =
          let z : k ≡ f = eqb-true k f p in
          rw (z, q, e, has_removed_same n s f, more_same n x f face over)
          (h.split f ∙ rw (walk_has a l) (looked over (has_face n x f)))
      go k false p =
          let d : k ≢ f = eqb-false k f p in
          h.split k ∙ rw (q, e, more_other n x f face over k d, has_removed_other n s f k d)

  -- at the end the faces whose requests are over are known
  pub overs_end : n < f → x ≡ faces_where n (λ k. has_face n set k && is_over now recs k)
  overs_end l = where_is n x _ h.within (λ k q. sym (h.split k ∙ rw (gone k q) (last (has_face n x k))))
    where
      gone : (k : ℕ) → is_face n k ≡ true → has_face n s k ≡ false
      gone k q = lowest_before n s a.few k (omega (arith, a.lowest, (face_yes n k).0 q))

      last : (b : Bool) → (b || false) ≡ b
      last true = refl
      last false = refl

module _ (n : ℕ) (name head : List ℕ) (recs : List (List ℕ)) where
  -- the faces of an entry whose requests are over
  pub view_overdue : (now : ℕ)
      → overdue_faces n now (view_for n name head recs) ≡ faces_where n (λ k. has_face n (get_or head 4 0) k && is_over now recs k)
  unfolding overdue_faces is_over is_live request_at
  view_overdue now =
      where_ext n _ _ (λ k _. rw (view_request n name head recs k) (holds_there (λ (r : Request). not (ltb now r.expiry)) _ _))

  -- the entry with the set without those faces has the requests that live
  pub view_aged : (now over x : ℕ) → over ≡ faces_where n (λ k. has_face n (get_or head 4 0) k && is_over now recs k)
      → x ≡ faces_where n (λ k. has_face n (get_or head 4 0) k && not (has_face n over k))
      → view_for n name (get_or head 0 0 ∷ get_or head 1 0 ∷ get_or head 2 0 ∷ get_or head 3 0 ∷ x ∷ get_or head 5 0 ∷ []) recs
      ≡ aged_entry now (view_for n name head recs)
  unfolding aged_entry with_requests if_live is_live request_at is_over
  view_aged now over x p q =
      view_is n name _ recs _ (sym (view_name n name head recs)) (sym (view_prefix n name head recs)) (sym (view_fresh n name head recs))
      (sym (view_class n name head recs)) (sym (rw (view_requests n name head recs) lives)) (sym (view_sent n name head recs))
    where
      keep : (b c : Bool) → (b && not (b && not c)) ≡ (b && c)
      keep true true = refl
      keep true false = refl
      keep false c = refl

      stays : (i : ℕ) → i < n → member i x ≡ (member i (get_or head 4 0) && is_live now (request_at recs i))
      stays i h =
          let face = (face_yes n (i + 1)).1 (omega arith, omega arith) in
          let back : i + 1 - 1 ≡ i = omega arith in
          let s = get_or head 4 0 in
          let gone : has_face n over (i + 1) ≡ (has_face n s (i + 1) && is_over now recs (i + 1)) = rw p (where_has n (i + 1) _ face) in
          let here : has_face n x (i + 1) ≡ (has_face n s (i + 1) && not (has_face n over (i + 1))) = rw q (where_has n (i + 1) _ face) in
          sym (has_after n x i h) ∙ here ∙ rw (gone, has_after n s i h, back) (keep (member i s) (is_live now (request_at recs i)))

      lives : map (if_live now) (slots_of n (get_or head 4 0) (request_at recs)) ≡ slots_of n x (request_at recs)
      lives = slots_only n (get_or head 4 0) (request_at recs) x (if_live now) (is_live now) refl (λ a. refl) stays
