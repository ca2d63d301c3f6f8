-- Nacks sent one after the other, for the faces of a set: the state of the loop, and that they are those of the rules.
-- Assumes nothing.
use Rattle.std.specs.declared.option.Option as code
use Rattle.std.specs.Prelude.{ℕ, ◌+◌, ◌-◌, ◌≤◌, ◌<◌, ◌≡◌, Bool, true, ◌&&◌, List, [], ◌∷◌, map, length, get_or, Some, None}
use Rattle.std.proofs.Math.Path.{refl, ap}
use Rattle.std.proofs.Common.{◌∙◌}
use Rattle.std.proofs.Math.Option.{Option, none, some}
use native.Mathlib.Omega.{arith}
use Rattle.std.proofs.Math.Seq.{length-sets}
use Rattle.laws.specs.Laws.Pick.{pick_ind}
use Rattle.sizes.specs.Sizes.{most_faces, most_name, least_buffer}
use Rattle.records.specs.Class.{class_of, class_number}
use Rattle.records.specs.Slots.{slot, is_some, given, Held, held, only}
use Rattle.records.specs.Entry.{Request, Entry, is_known, smallest_reason}
use Rattle.records.specs.Laws.Slot.{slot_at}
use Rattle.records.specs.Laws.Each.{held_length}
use Rattle.faces.specs.Set.{minus_face, faces_where}
use Rattle.faces.specs.Slots.{slots_of}
use Rattle.faces.specs.Laws.Slot.{slots_length}
use Rattle.faces.specs.Laws.Walk.{Walks, walk_more, walk_end}
use Rattle.pending_entry.specs.declared.Asked.{Asked}
use Rattle.pending_entry.specs.Operations.{request_in}
use Rattle.writing.specs.Written.{nack_bytes}
use Rattle.writing.specs.Laws.Size.{nack_size}
use Rattle.rules.specs.Outcome.{nack, Send}
use Rattle.rules.specs.Nack.{nack_of}
use Rattle.sending.specs.Rows.{Packs, Sheet, put}
use Rattle.sending.specs.Laws.Packing.{Sending, clear, sending_nacks, sending_put, sending_end}
use Rattle.on_nack.specs.Places.Nacks.{nonce_at, nack_with, nonces_on, nacks_on}
use Rattle.on_nack.specs.Laws.Known.{known_is}
use Rattle.on_nack.specs.Laws.Peers.{held_peers}

module _ (o : Option Entry) (f : ℕ) (a : code.Option Asked) (told : request_in a ≡ given none (λ e. slot f e.requests) o) where
  -- the nonce of a request that is told
  pub nonce_is : (r : Asked) → a ≡ Some r → r.nonce ≡ nonce_at o f
  unfolding nonce_at given request_in
  nonce_is r e = rw (← told, e)

  -- where none is told there is none
  pub nonce_none : a ≡ None → 0 ≡ nonce_at o f
  unfolding nonce_at given request_in
  nonce_none e = rw (← told, e)

-- one packet more leaves the buffer as long as it was
pub put_length : (s : Send) (x y : Sheet) → y ≡ put s x → length y.buffer ≡ length x.buffer
unfolding put
put_length s x y e =
    rw e
    (pick_ind (λ (z : Sheet). length z.buffer ≡ length x.buffer) _ _ _ (λ _. length-sets x.buffer x.at s.bytes)
    (λ _. refl))

module _ (o : Option Entry) (reason : ℕ) (name : List ℕ) (p m : Bool) (class : ℕ) (rows : List (List ℕ)) (b : List ℕ) (set : ℕ) where
  -- the Nacks for the faces that are left of the set
  abbrev owed : ℕ → List Send
  owed left = nacks_on o left reason name p m class

  -- at the start all are left
  pub nacks_start : length name ≤ most_name → least_buffer ≤ length b → Sending rows b (owed set) (owed set) (clear rows b)
  unfolding nacks_on nonces_on nack_with held
  nacks_start l r =
      sending_nacks (nack_with reason name p m class) rows b (nonces_on o set) (λ h. nack_size reason name p m h.what l)
      (omega (
        arith,
        held_length 1 (slots_of most_faces set (λ i. nonce_at o (i + 1))),
        slots_length most_faces set (λ i. nonce_at o (i + 1)),
      )) r

  module _ {left face : ℕ} (w : Walks most_faces left face) where
    -- a turn puts the Nack of the lowest face
    pub nacks_turn : face ≤ most_faces → {less nonce : ℕ} {x y : Sheet} → less ≡ minus_face most_faces left face → nonce ≡ nonce_at o face
        → Sending rows b (owed set) (owed left) x
        → y ≡ put (record { face = face; kind = nack; cls = class_of class; bytes = nack_bytes reason name p m nonce }) x
        → Sending rows b (owed set) (owed less) y
    unfolding nacks_on nonces_on nack_with
    nacks_turn l {less} {nonce} {x} {y} e k h q =
        let v : (ℕ → ℕ) = (λ i. nonce_at o (i + 1)) in
        let f : face - 1 + 1 ≡ face = omega (arith, w.first) in
        let more = ap (map (nack_with reason name p m class)) (walk_more w l e v) in
        sending_put rows b (owed set) refl (rw more at h) (q ∙ rw (k, f))

    -- at the end all are sent
    pub nacks_end : most_faces < face → {x : Sheet} → Sending rows b (owed set) (owed left) x
        → Packs (owed set) x.count rows x.rows b x.buffer
    unfolding nacks_on nonces_on
    nacks_end l {x} h =
        let v : (ℕ → ℕ) = (λ i. nonce_at o (i + 1)) in
        sending_end rows b (owed set) (rw (walk_end w l v) at h)

module _ (e : Entry) (said : class_of (class_number e.cls) ≡ e.cls) where
  -- the Nack with an entry's reason, name, flags, class and a request's nonce is the rules' for that request
  nack_made : (h : Held Request)
      → nack_with (smallest_reason (held e.sent)) e.name e.can_be_prefix e.must_be_fresh (class_number e.cls)
      (record { face = h.face; what = h.what.nonce }) ≡ nack_of e h
  unfolding nack_with nack_of
  nack_made h = rw said

  -- so it is for each request of a list
  nacks_made : (l : List (Held Request))
      → map (nack_with (smallest_reason (held e.sent)) e.name e.can_be_prefix e.must_be_fresh (class_number e.cls))
      (map (λ h. record { face = h.face; what = h.what.nonce }) l) ≡ map (nack_of e) l
  nacks_made [] = refl
  nacks_made (h ∷ l) = rw (nack_made h, nacks_made l)

-- the slot of the face after i
slot_after : {A : Type 0} (l : List (Option A)) (i : ℕ) → slot (i + 1) l ≡ get_or l i none
slot_after l i = let back : i + 1 - 1 ≡ i = omega arith in slot_at (i + 1) l (omega arith) ∙ rw back

-- the Nacks for the faces of a set, those with a request that q holds of, are the rules' for those requests
pub nacks_are : (q : ℕ → Bool) (e : Entry) → length e.requests ≡ most_faces → (set : ℕ)
    → set ≡ faces_where most_faces (λ f. is_some (slot f e.requests) && q f) → (reason : ℕ) (name : List ℕ) (p m : Bool) (class : ℕ)
    → reason ≡ smallest_reason (held e.sent) → is_known name p m e ≡ true → class ≡ class_number e.cls
    → class_of (class_number e.cls) ≡ e.cls
    → nacks_on (some e) set reason name p m class ≡ map (nack_of e) (only (λ h. q h.face) (held e.requests))
unfolding nacks_on nonces_on nonce_at given
nacks_are q e wide set is reason name p m class r known c said =
    let same = known_is name p m e known in
    rw (r, same.0, same.1.0, same.1.1, c)
    (ap (map (nack_with (smallest_reason (held e.sent)) e.name e.can_be_prefix e.must_be_fresh (class_number e.cls)))
    (held_peers most_faces q e wide set is (λ i. given 0 (λ (r : Request). r.nonce) (slot (i + 1) e.requests)) (λ r. r.nonce)
    (λ i x y. rw (slot_after e.requests i ∙ y)))
    ∙ nacks_made e said (only (λ h. q h.face) (held e.requests)))
