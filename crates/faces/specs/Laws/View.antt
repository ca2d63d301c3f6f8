-- What is asked of the open faces, and how the sets change where a face is opened or closed, for any number n of faces.
-- Assumes nothing.
use Rattle.std.specs.Prelude.{ℕ, ◌-◌, ◌≡◌, Bool, ◌&&◌, not}
use Rattle.std.proofs.Math.Path.{refl}
use Rattle.std.proofs.Common.{◌∙◌}
use Rattle.std.proofs.Math.Bool.{true, false}
use Rattle.std.proofs.Math.Option.{none, some}
use Rattle.laws.specs.Pick.{pick}
use Rattle.laws.specs.Digits.{member}
use Rattle.records.specs.Slots.{slot, set_slot, is_some, holds}
use Rattle.records.specs.Face.{is_face, is_open, is_local_face, is_peer, is_ad_hoc_face, is_point_to_point, is_ad_hoc, point_to_point, multi_access, ad_hoc}
use Rattle.records.specs.Laws.Face.{face_no}
use Rattle.records.specs.Laws.Slot.{slot_none}
use Rattle.faces.specs.declared.Link.{Link}
use Rattle.faces.specs.declared.Faces.{Faces}
use Rattle.faces.specs.Set.{has_face, with_face, minus_face, faces_where}
use Rattle.faces.specs.Laws.Set.{put_same, put_other, put_none, where_has}
use Rattle.faces.specs.Laws.Slot.{holds_there, some_there}
use Rattle.faces.specs.Places.View.{view_for, view_length, view_slot, view_opened, view_other, view_closed, face_at, link_at}
use Rattle.faces.specs.Link.{link_type, face_with}

-- digits that say point-to-point
link_peer : (l p a : Bool) → is_point_to_point (record { is_local = l; link = pick p point_to_point (pick a ad_hoc multi_access) }) ≡ p
unfolding is_point_to_point pick
link_peer l true a = refl
link_peer l false true = refl
link_peer l false false = refl

-- digits that say ad hoc: not those that also say point-to-point
link_adhoc : (l p a : Bool) → is_ad_hoc (record { is_local = l; link = pick p point_to_point (pick a ad_hoc multi_access) }) ≡ not p && a
unfolding is_ad_hoc pick
link_adhoc l true a = refl
link_adhoc l false true = refl
link_adhoc l false false = refl

-- in two sets and not in a third, whichever is asked first
pub but_is : (x y z : Bool) → (x && y) && not z ≡ x && (not z && y)
but_is true true true = refl
but_is true true false = refl
but_is true false true = refl
but_is true false false = refl
but_is false y z = refl

module _ (n f : ℕ) (fs : Faces) where
  -- of a face that is in one set, its digit in another says whether it is in both
  has_both : (a b : ℕ) → has_face n a f && member (f - 1) b ≡ has_face n a f && has_face n b f
  unfolding has_face
  has_both a b = go (is_face n f)
    where
      go : (c : Bool) → (c && member (f - 1) a) && member (f - 1) b ≡ (c && member (f - 1) a) && (c && member (f - 1) b)
      go true = refl
      go false = refl

  -- the same with a third set that it must not be in
  has_but : (a b d : ℕ) → has_face n a f && (not (member (f - 1) d) && member (f - 1) b)
      ≡ has_face n a f && (not (has_face n d f) && has_face n b f)
  unfolding has_face
  has_but a b d = go (is_face n f)
    where
      go : (c : Bool)
          → (c && member (f - 1) a) && (not (member (f - 1) d) && member (f - 1) b)
          ≡ (c && member (f - 1) a) && (not (c && member (f - 1) d) && (c && member (f - 1) b))
      go true = refl
      go false = refl

  -- a face is open exactly where it is in the set of the open ones
  pub open_is : is_open (view_for n fs) f ≡ has_face n fs.open f
  unfolding is_open
  open_is = rw (view_slot n f fs) (some_there _ _)

  -- a face is open and local exactly where it is in both sets
  pub local_is : is_local_face (view_for n fs) f ≡ has_face n fs.open f && has_face n fs.local f
  unfolding is_local_face face_at
  local_is = rw (view_slot n f fs, holds_there) (has_both fs.open fs.local)

  -- a face is open and point-to-point exactly where it is in both sets
  pub peer_is : is_peer (view_for n fs) f ≡ has_face n fs.open f && has_face n fs.peer f
  unfolding is_peer face_at link_at
  peer_is = rw (view_slot n f fs, holds_there, link_peer) (has_both fs.open fs.peer)

  -- a face is open and ad hoc exactly where it is in both sets and not in that of the point-to-point ones
  pub adhoc_is : is_ad_hoc_face (view_for n fs) f ≡ has_face n fs.open f && (not (has_face n fs.peer f) && has_face n fs.adhoc f)
  unfolding is_ad_hoc_face face_at link_at
  adhoc_is = rw (view_slot n f fs, holds_there, link_adhoc) (has_but fs.open fs.adhoc fs.peer)

-- where p holds of no number but a face, the set of the faces that it holds of has exactly those numbers
where_all : (n f : ℕ) (p : ℕ → Bool) → (is_face n f ≡ false → p f ≡ false) → has_face n (faces_where n p) f ≡ p f
unfolding has_face
where_all n f p h = go (is_face n f) refl
  where
    go : (b : Bool) → is_face n f ≡ b → is_face n f && member (f - 1) (faces_where n p) ≡ p f
    go true e = where_has n f p e
    go false e = rw (e, h e)

module _ (n f : ℕ) (fs : Faces) where
  -- a number that is no face has no slot
  slot_no : is_face n f ≡ false → slot f (view_for n fs) ≡ none
  slot_no e = slot_none f (view_for n fs) (λ h. (face_no n f).0 e (h.0, rw (view_length n fs) at h.1))

  -- the set of the open faces has a face exactly where it is open
  pub has_open : has_face n (faces_where n (is_open (view_for n fs))) f ≡ is_open (view_for n fs) f
  unfolding is_open is_some
  has_open = where_all n f (is_open (view_for n fs)) (λ e. rw (slot_no e))

  -- the set of the local ones where it is open and local
  pub has_local : has_face n (faces_where n (is_local_face (view_for n fs))) f ≡ is_local_face (view_for n fs) f
  unfolding is_local_face holds
  has_local = where_all n f (is_local_face (view_for n fs)) (λ e. rw (slot_no e))

  -- the set of the point-to-point ones where it is open and point-to-point
  pub has_peer : has_face n (faces_where n (is_peer (view_for n fs))) f ≡ is_peer (view_for n fs) f
  unfolding is_peer holds
  has_peer = where_all n f (is_peer (view_for n fs)) (λ e. rw (slot_no e))

  -- the set of the ad hoc ones where it is open and ad hoc
  pub has_adhoc : has_face n (faces_where n (is_ad_hoc_face (view_for n fs))) f ≡ is_ad_hoc_face (view_for n fs) f
  unfolding is_ad_hoc_face holds
  has_adhoc = where_all n f (is_ad_hoc_face (view_for n fs)) (λ e. rw (slot_no e))

-- the faces with one opened: put into or taken out of each set as its scope and link type say; a number that is no face opens none
pub with_open : (n f : ℕ) (l p a : Bool) (k : Link) (fs gs : Faces)
    → pick p point_to_point (pick a ad_hoc multi_access) ≡ link_type k
    → gs.open ≡ with_face n fs.open f
    → gs.local ≡ pick l (with_face n fs.local f) (minus_face n fs.local f)
    → gs.peer ≡ pick p (with_face n fs.peer f) (minus_face n fs.peer f)
    → gs.adhoc ≡ pick a (with_face n fs.adhoc f) (minus_face n fs.adhoc f)
    → view_for n gs ≡ set_slot f (some (face_with l k)) (view_for n fs)
unfolding pick face_at link_at face_with
with_open n f l p a k fs gs e x y z w = go (is_face n f) refl
  where
    go : (b : Bool) → is_face n f ≡ b → view_for n gs ≡ set_slot f (some (face_with l k)) (view_for n fs)
    go true h =
        view_opened n f (face_with l k) fs gs h x
        (rw (y, z, w, put_same n f fs.local l h, put_same n f fs.peer p h, put_same n f fs.adhoc a h, e))
        (λ i d. rw (y, z, w) (rw (
          put_other n f fs.local l h i d,
          put_other n f fs.peer p h i d,
          put_other n f fs.adhoc a h i d,
        )))
    go false h =
        view_other n f (some (face_with l k)) fs gs h (x ∙ put_none n f fs.open true h)
        (λ i. rw (y ∙ put_none n f fs.local l h, z ∙ put_none n f fs.peer p h, w ∙ put_none n f fs.adhoc a h))

-- the faces with one closed: taken out of the set of the open ones
pub with_closed : (n f : ℕ) (fs gs : Faces) → gs.open ≡ minus_face n fs.open f → gs.local ≡ fs.local → gs.peer ≡ fs.peer
    → gs.adhoc ≡ fs.adhoc → view_for n gs ≡ set_slot f none (view_for n fs)
unfolding face_at link_at
with_closed n f fs gs x y z w = view_closed n f fs gs x (λ i. rw (y, z, w))
