-- How the view of an entry follows its head and its records, for any number n of faces.
-- Assumes nothing.
use Rattle.std.specs.declared.option.Option as code
use Rattle.std.specs.Prelude.{ℕ, zero, suc, ◌+◌, ◌-◌, ◌≤◌, ◌<◌, ◌≡◌, Bool, ◌&&◌, ◌||◌, not, List, [], ◌∷◌, length, take, Some, None}
use Rattle.std.proofs.Math.Path.{refl, ap, sym}
use Rattle.std.proofs.Common.{◌∙◌, arith, eqb-true, ne_eqb}
use Rattle.std.proofs.Math.Bool.{true, false}
use Rattle.std.proofs.Math.Option.{Option, none, some, some-injective}
use Rattle.std.proofs.Math.ListN.{get_or}
use Rattle.std.proofs.Math.Dec.{eqb}
use Rattle.laws.specs.Digits.{member}
use Rattle.laws.specs.Laws.Digits.{added_present, member_no, digit_zero}
use Rattle.laws.specs.Pick.{pick}
use Rattle.laws.specs.Laws.Pick.{pick_ind, pick_yes, pick_no}
use Rattle.laws.specs.Places.Rows.{at}
use Rattle.laws.specs.Laws.Rows.{at_same, at_other, at_leaves}
use Rattle.laws.specs.Places.Tab.{tab}
use Rattle.laws.specs.Laws.Tab.{tab_ext}
use Rattle.faces.specs.Set.{has_face, with_face, minus_face, size_of, faces_where}
use Rattle.faces.specs.Laws.Set.{has_face_lem, has_member, has_after, without_absent, where_ext, where_has}
use Rattle.faces.specs.Slots.{slots_of}
use Rattle.faces.specs.Laws.Slot.{holds_there, slots_length, slots_same, slots_put, slots_take, slots_none, slots_slot, slots_some, slots_idle}
use Rattle.records.specs.Class.{Class, class_of}
use Rattle.records.specs.Face.{is_face}
use Rattle.records.specs.Laws.Face.{face_yes, face_no}
use Rattle.records.specs.Laws.Slot.{set_slot_none}
use Rattle.records.specs.Slots.{slot, set_slot, emptied, emptied_from}
use Rattle.records.specs.Entry.{Request, Sent, Entry, with_requests, with_sent, asking, ending, sending, not_sent, mark_nacked, with_nack, reason_of, is_idle, own_nonce, sent_nonce}
use Rattle.pending_entry.specs.declared.Asked.{Asked}
use Rattle.pending_entry.specs.Places.View.{request_at, sent_at, nack_word, view_for, view_name, view_prefix, view_fresh, view_class, view_requests, view_sent}
use Rattle.pending_entry.specs.Places.Row.{request_words, sent_words, asked_row, sent_row, nacked_row, with_sets}
use Rattle.pending_entry.specs.Operations.{bare_entry, request_in, asking_faces, sent_faces, unsent_of}

-- an entry is what its head and its records say of each part
pub view_is : (n : ℕ) (nm h : List ℕ) (rs : List (List ℕ)) (e : Entry) → take (get_or h 0 0) nm ≡ e.name
    → eqb (get_or h 1 0) 1 ≡ e.can_be_prefix → eqb (get_or h 2 0) 1 ≡ e.must_be_fresh → class_of (get_or h 3 0) ≡ e.cls
    → slots_of n (get_or h 4 0) (request_at rs) ≡ e.requests → slots_of n (get_or h 5 0) (sent_at rs) ≡ e.sent → view_for n nm h rs ≡ e
view_is n nm h rs e a b c d x y =
    made (view_name n nm h rs ∙ a) (view_prefix n nm h rs ∙ b) (view_fresh n nm h rs ∙ c) (view_class n nm h rs ∙ d)
    (view_requests n nm h rs ∙ x) (view_sent n nm h rs ∙ y)
  where
    made : {a a' : List ℕ} {b b' c c' : Bool} {d d' : Class} {x x' : List (Option Request)} {y y' : List (Option Sent)}
        → a ≡ a' → b ≡ b' → c ≡ c' → d ≡ d' → x ≡ x' → y ≡ y'
        → ◌≡◌ {A = Entry} (record { name = a; can_be_prefix = b; must_be_fresh = c; cls = d; requests = x; sent = y })
        (record { name = a'; can_be_prefix = b'; must_be_fresh = c'; cls = d'; requests = x'; sent = y' })
    made e f g h i j = rw (e, f, g, h, i, j)

-- empty sets have no records
pub view_bare : (n len class p m : ℕ) (nm : List ℕ) (rs : List (List ℕ))
    → view_for n nm (len ∷ p ∷ m ∷ class ∷ 0 ∷ 0 ∷ []) rs ≡ bare_entry n (take len nm) (eqb p 1) (eqb m 1) (class_of class)
unfolding bare_entry
view_bare n len class p m nm rs =
    view_is n nm _ rs _ refl refl refl refl
    (slots_none n 0 (request_at rs) (λ i _. (member_no i 0).1 (digit_zero i)))
    (slots_none n 0 (sent_at rs) (λ i _. (member_no i 0).1 (digit_zero i)))

module _ {A : Type 0} (n : ℕ) (m : List ℕ → A) (g : List ℕ → List ℕ) (s : ℕ) (recs : List (List ℕ)) where
  -- a face put in, and its row changed, has its slot set
  slots_at : (f : ℕ) → is_face n f ≡ true → n ≤ length recs
      → slots_of n (with_face n s f) (λ i. m (get_or (at [] (f - 1) g recs) i []))
      ≡ set_slot f (some (m (g (get_or recs (f - 1) [])))) (slots_of n s (λ i. m (get_or recs i [])))
  slots_at f q l =
      let within = (face_yes n f).0 q in
      slots_put n s _ f _ _ q (ap m (at_same [] (f - 1) g recs (omega arith))) (λ i d. ap m (at_other [] (f - 1) i g recs d))

  -- a change of a row that leaves what is kept leaves the slots
  slots_leave : (i : ℕ) → m (g (get_or recs i [])) ≡ m (get_or recs i [])
      → slots_of n s (λ k. m (get_or (at [] i g recs) k [])) ≡ slots_of n s (λ k. m (get_or recs k []))
  slots_leave i e = slots_same n s _ s _ (λ _ _. refl) (λ k _ _. at_leaves [] m i k g recs e)

module _ {A : Type 0} (n s : ℕ) (g : ℕ → A) (f : ℕ) where
  -- a number that is no face sets no slot
  slots_still : (x : Option A) → is_face n f ≡ false → set_slot f x (slots_of n s g) ≡ slots_of n s g
  slots_still x e = set_slot_none f x (slots_of n s g) (λ h. (face_no n f).0 e (h.0, rw (slots_length n s g) at h.1))

  -- a face taken out has no slot; a number that is none changes nothing
  slots_less : slots_of n (minus_face n s f) g ≡ set_slot f none (slots_of n s g)
  unfolding minus_face pick
  slots_less = go (is_face n f) refl
    where
      go : (b : Bool) → is_face n f ≡ b → slots_of n (minus_face n s f) g ≡ set_slot f none (slots_of n s g)
      go true e = slots_take n s g f e
      go false e = rw e (sym (slots_still none e))

-- the slots of which those of the faces that p holds of are emptied, place by place
emptied_tab : {A : Type 0} (p : ℕ → Bool) (g : ℕ → Option A) (f i m : ℕ) → f ≡ i + 1
    → emptied_from p f (tab g i m) ≡ tab (λ k. pick (p (k + 1)) none (g k)) i m
unfolding emptied_from tab
emptied_tab p g f i zero e = refl
emptied_tab p g f i (suc m) e = let q : suc f ≡ suc i + 1 = omega arith in rw (emptied_tab p g (suc f) (suc i) m q, e)

-- the slots without those of the faces of a set are the slots of the faces that are not in that set
slots_emptied : {A : Type 0} (n s t x : ℕ) (g : ℕ → A) → x ≡ faces_where n (λ f. has_face n s f && not (has_face n t f))
    → slots_of n x g ≡ emptied (has_face n t) (slots_of n s g)
unfolding emptied slots_of pick
slots_emptied {A} n s t x g e =
    tab_ext _ _ 0 n (λ i _ l. rw (stays i (omega arith)) (go (member i s) (has_face n t (i + 1)) (g i)))
    ∙ sym (emptied_tab (has_face n t) _ 1 0 n (omega arith))
  where
    stays : (i : ℕ) → i < n → member i x ≡ (member i s && not (has_face n t (i + 1)))
    stays i h =
        let face = (face_yes n (i + 1)).1 (omega arith, omega arith) in
        sym (has_after n x i h) ∙ rw (e, where_has n (i + 1) (λ f. has_face n s f && not (has_face n t f)) face, has_after n s i h)

    go : (b c : Bool) (a : A) → pick (b && not c) (some a) none ≡ pick c none (pick b (some a) none)
    go true true a = refl
    go true false a = refl
    go false true a = refl
    go false false a = refl

-- a reason that was read once is read as itself
reason_twice : (k : ℕ) → reason_of (reason_of k) ≡ reason_of k
unfolding reason_of
reason_twice k =
    pick_ind (λ (x : ℕ). pick (eqb x 50 || eqb x 100 || eqb x 150) x 0 ≡ x) (eqb k 50 || eqb k 100 || eqb k 150) k 0
    (λ e. pick_yes (eqb k 50 || eqb k 100 || eqb k 150) k 0 e) (λ _. pick_no _ _ _ refl)

-- a reason is at most 150
pub reason_most : (k : ℕ) → reason_of k ≤ 150
unfolding reason_of
reason_most k =
    pick_ind (λ (x : ℕ). x ≤ 150) (eqb k 50 || eqb k 100 || eqb k 150) k 0
    (λ e. go (eqb k 50) (eqb k 100) (eqb-true k 50) (eqb-true k 100) e) (λ _. omega arith)
  where
    go : (a b : Bool) → (a ≡ true → k ≡ 50) → (b ≡ true → k ≡ 100) → (a || b || eqb k 150) ≡ true → k ≤ 150
    go true b x y e = let z = x refl in omega arith
    go false true x y e = let z = y refl in omega arith
    go false false x y e = let z = eqb-true k 150 e in omega arith

-- a Nack word that is a reason and 1 says the reason
nack_said : (reason : ℕ) → nack_word (reason_of reason + 1) ≡ some (reason_of reason)
unfolding nack_word
nack_said reason =
    let e : reason_of reason + 1 - 1 ≡ reason_of reason = omega arith in
    pick_no _ _ _ (ne_eqb (reason_of reason + 1) 0 (λ q. omega arith)) ∙ ap some (ap reason_of e ∙ reason_twice reason)

-- to add what is in the set changes nothing
with_present : (n s f : ℕ) → has_face n s f ≡ true → with_face n s f ≡ s
unfolding with_face
with_present n s f e = pick_yes _ _ _ ((face_yes n f).1 (has_face_lem n s f e)) ∙ added_present (f - 1) s (has_member n s f e)

module _ (n : ℕ) (nm head : List ℕ) (recs : List (List ℕ)) where
  -- other sets, or other records, make other requests and other out-records
  view_with : (h : List ℕ) (rs : List (List ℕ)) (x : List (Option Request)) (y : List (Option Sent)) → get_or h 0 0 ≡ get_or head 0 0
      → get_or h 1 0 ≡ get_or head 1 0 → get_or h 2 0 ≡ get_or head 2 0 → get_or h 3 0 ≡ get_or head 3 0 → slots_of n (get_or h 4 0) (request_at rs) ≡ x
      → slots_of n (get_or h 5 0) (sent_at rs) ≡ y → view_for n nm h rs ≡ with_sent y (with_requests x (view_for n nm head recs))
  unfolding with_sent with_requests
  view_with h rs x y a b c d =
      view_is n nm h rs _
      (rw a (sym (view_name n nm head recs)))
      (rw b (sym (view_prefix n nm head recs)))
      (rw c (sym (view_fresh n nm head recs)))
      (rw d (sym (view_class n nm head recs)))

  module _ (f : ℕ) (q : is_face n f ≡ true) (l : n ≤ length recs) where
    -- a face put among those with a request, and its in-record set
    pub view_asking : (nonce expiry : ℕ)
        → view_for n nm (with_sets (with_face n (get_or head 4 0) f) (get_or head 5 0) head) (at [] (f - 1) (asked_row nonce expiry) recs)
        ≡ asking f (record { nonce = nonce; expiry = expiry }) (view_for n nm head recs)
    unfolding asking with_sent with_requests request_at sent_at
    view_asking nonce expiry =
        let row = asked_row nonce expiry in
        view_with _ _ _ _ refl refl refl refl
        (slots_at n request_words row _ recs f q l ∙ ap (set_slot f _) (sym (view_requests n nm head recs)))
        (slots_leave n sent_words row _ recs (f - 1) refl ∙ sym (view_sent n nm head recs))

    -- a face put among those with an out-record, and its out-record set
    pub view_sending : (nonce time : ℕ)
        → view_for n nm (with_sets (get_or head 4 0) (with_face n (get_or head 5 0) f) head) (at [] (f - 1) (sent_row nonce time 0) recs)
        ≡ sending f (record { nonce = nonce; time = time; nacked = none }) (view_for n nm head recs)
    unfolding sending with_sent with_requests request_at sent_at nack_word pick
    view_sending nonce time =
        let row = sent_row nonce time 0 in
        view_with _ _ _ _ refl refl refl refl
        (slots_leave n request_words row _ recs (f - 1) refl ∙ sym (view_requests n nm head recs))
        (slots_at n sent_words row _ recs f q l ∙ ap (set_slot f _) (sym (view_sent n nm head recs)))

  module _ (f : ℕ) where
    -- a number that is no face opens no request
    pub view_asking_none : (r : Request) → is_face n f ≡ false → view_for n nm head recs ≡ asking f r (view_for n nm head recs)
    unfolding asking with_requests
    view_asking_none r e =
        let still : set_slot f (some r) (view_for n nm head recs).requests ≡ (view_for n nm head recs).requests =
        rw (view_requests n nm head recs) (slots_still n (get_or head 4 0) (request_at recs) f (some r) e) in
        rw still

    -- and no out-record
    pub view_sending_none : (s : Sent) → is_face n f ≡ false → view_for n nm head recs ≡ sending f s (view_for n nm head recs)
    unfolding sending with_sent
    view_sending_none s e =
        let still : set_slot f (some s) (view_for n nm head recs).sent ≡ (view_for n nm head recs).sent =
        rw (view_sent n nm head recs) (slots_still n (get_or head 5 0) (sent_at recs) f (some s) e) in
        rw still

    -- a face taken out of those with an out-record
    pub view_not_sent : view_for n nm (with_sets (get_or head 4 0) (minus_face n (get_or head 5 0) f) head) recs
        ≡ not_sent f (view_for n nm head recs)
    unfolding not_sent with_sent with_requests
    view_not_sent =
        view_with _ _ _ _ refl refl refl refl
        (sym (view_requests n nm head recs))
        (slots_less n (get_or head 5 0) (sent_at recs) f ∙ ap (set_slot f none) (sym (view_sent n nm head recs)))

    -- a face with an out-record, and its Nack word set
    pub view_nacking : (reason : ℕ) → n ≤ length recs → has_face n (get_or head 5 0) f ≡ true
        → view_for n nm head (at [] (f - 1) (nacked_row (reason_of reason + 1)) recs) ≡ with_nack f reason (view_for n nm head recs)
    unfolding with_nack with_sent with_requests request_at sent_at mark_nacked
    view_nacking reason l e =
        let t = get_or head 5 0 in
        let row = nacked_row (reason_of reason + 1) in
        let q = (face_yes n f).1 (has_face_lem n t f e) in
        let there : slot f (slots_of n t (sent_at recs)) ≡ some (sent_at recs (f - 1)) = slots_slot n t (sent_at recs) f ∙ pick_yes _ _ _ e in
        view_with _ _ _ _ refl refl refl refl
        (slots_leave n request_words row _ recs (f - 1) refl ∙ sym (view_requests n nm head recs))
        (rw (with_present n t f e) at (slots_at n sent_words row t recs f q l))
        ∙ rw (view_sent n nm head recs, there, nack_said reason)

    -- without an out-record there is nothing to mark
    pub view_nacking_none : (reason : ℕ) → has_face n (get_or head 5 0) f ≡ false
        → view_for n nm head recs ≡ with_nack f reason (view_for n nm head recs)
    unfolding with_nack with_sent mark_nacked
    view_nacking_none reason e =
        let t = get_or head 5 0 in
        let none-there : slot f (slots_of n t (sent_at recs)) ≡ none = slots_slot n t (sent_at recs) f ∙ pick_no _ _ _ e in
        let same : set_slot f none (slots_of n t (sent_at recs)) ≡ slots_of n t (sent_at recs) =
        sym (slots_less n t (sent_at recs) f) ∙ ap (λ (s : ℕ). slots_of n s (sent_at recs)) (without_absent n t f e) in
        let y = (view_for n nm head recs).sent in
        let still : set_slot f (mark_nacked reason (slot f y)) y ≡ y = rw (view_sent n nm head recs, none-there, same) in
        rw still

    -- the request of a face of the set is its in-record
    pub view_request : slot f (view_for n nm head recs).requests ≡ pick (has_face n (get_or head 4 0) f) (some (request_at recs (f - 1))) none
    view_request = rw (view_requests n nm head recs) (slots_slot n (get_or head 4 0) (request_at recs) f)

    -- the out-record of a face of the set
    pub view_sent_slot : slot f (view_for n nm head recs).sent ≡ pick (has_face n (get_or head 5 0) f) (some (sent_at recs (f - 1))) none
    view_sent_slot = rw (view_sent n nm head recs) (slots_slot n (get_or head 5 0) (sent_at recs) f)

    -- whether a face's own request has a nonce
    pub view_own_nonce : (nonce : ℕ) → own_nonce f nonce (view_for n nm head recs)
        ≡ (has_face n (get_or head 4 0) f && eqb (get_or (get_or recs (f - 1) []) 0 0) nonce)
    unfolding own_nonce request_at
    view_own_nonce nonce = rw view_request (holds_there (λ r. eqb r.nonce nonce) _ _)

    -- whether a face has an out-record with a nonce
    pub view_sent_nonce : (nonce : ℕ) → sent_nonce f nonce (view_for n nm head recs)
        ≡ (has_face n (get_or head 5 0) f && eqb (get_or (get_or recs (f - 1) []) 2 0) nonce)
    unfolding sent_nonce sent_at
    view_sent_nonce nonce = rw view_sent_slot (holds_there (λ s. eqb s.nonce nonce) _ _)

  -- the faces of a set taken out of those with a request
  pub view_ending : (set x : ℕ) → x ≡ faces_where n (λ f. has_face n (get_or head 4 0) f && not (has_face n set f))
      → view_for n nm (with_sets x (get_or head 5 0) head) recs ≡ ending (has_face n set) (view_for n nm head recs)
  unfolding ending with_sent with_requests
  view_ending set x e =
      view_with _ _ _ _ refl refl refl refl
      (slots_emptied n (get_or head 4 0) set x (request_at recs) e ∙ ap (emptied (has_face n set)) (sym (view_requests n nm head recs)))
      (sym (view_sent n nm head recs))

  -- there are no requests exactly where their set has no face
  pub view_idle : eqb (size_of n (get_or head 4 0)) 0 ≡ is_idle (view_for n nm head recs)
  unfolding is_idle
  view_idle = rw (view_requests n nm head recs) (slots_idle n (get_or head 4 0) (request_at recs))

  -- the faces with a request are those of their set
  pub view_asking_faces : faces_where n (has_face n (get_or head 4 0)) ≡ asking_faces n (view_for n nm head recs)
  unfolding asking_faces
  view_asking_faces = where_ext n _ _ (λ f q. rw (view_requests n nm head recs) (sym (slots_some n _ _ f q)))

  -- the faces with an out-record are those of their set
  pub view_sent_faces : faces_where n (has_face n (get_or head 5 0)) ≡ sent_faces n (view_for n nm head recs)
  unfolding sent_faces
  view_sent_faces = where_ext n _ _ (λ f q. rw (view_sent n nm head recs) (sym (slots_some n _ _ f q)))

  -- the faces of a set without an out-record are those that are not in the set of the faces with one
  pub view_unsent : (s : ℕ) → faces_where n (λ f. has_face n s f && not (has_face n (get_or head 5 0) f)) ≡ unsent_of n s (view_for n nm head recs)
  unfolding unsent_of
  view_unsent s = where_ext n _ _ (λ f q. rw (view_sent n nm head recs, slots_some n _ _ f q))

-- answers that tell the same request are the same
pub asked_same : (x y : code.Option Asked) → request_in x ≡ request_in y → x ≡ y
unfolding request_in
asked_same None None e = refl
asked_same None (Some b) e = cc
asked_same (Some a) None e = cc
asked_same (Some a) (Some b) e =
    let q = some-injective (record { nonce = a.nonce; expiry = a.expiry }) (record { nonce = b.nonce; expiry = b.expiry }) e in
    let n : a.nonce ≡ b.nonce = ap (λ (r : Request). r.nonce) q in
    let x : a.expiry ≡ b.expiry = ap (λ (r : Request). r.expiry) q in
    let s : a ≡ b = rw (n, x) in
    ap (λ (r : Asked). Some r) s
