-- The requests on the faces that are in the set of asking faces and in a set of faces q: those that q holds of.
-- Assumes nothing.
use Prim.Native.Nat.{ℕ, suc, ◌+◌, ◌-◌, ◌<◌}
use Rattle.std.specs.Prelude.{◌≡◌, Bool, ◌&&◌}
use Rattle.std.proofs.Math.Path.{refl, sym, ap}
use Rattle.std.proofs.Common.{◌∙◌}
use Rattle.std.proofs.Math.Bool.{true, false}
use mathlib.Core.List.{List, [], ◌∷◌, map}
use Rattle.std.proofs.Math.Option.{Option, none, some}
use Rattle.std.proofs.Math.Nat.{add-zero}
use native.Mathlib.Omega.{arith}
use Rattle.std.proofs.Math.ListN.{length, get_or}
use Rattle.laws.specs.Pick.{pick}
use Rattle.laws.specs.Digits.{member}
use Rattle.laws.specs.Places.Tab.{tab}
use Rattle.records.specs.Slots.{slot, is_some, given, Held, held, held_from, only, emptied, emptied_from}
use Rattle.records.specs.Laws.Face.{face_yes}
use Rattle.records.specs.Laws.Slot.{slot_at}
use Rattle.records.specs.Entry.{Request, Entry, with_requests, ending}
use Rattle.faces.specs.Set.{has_face, faces_where}
use Rattle.faces.specs.Laws.Set.{where_has, has_after}
use Rattle.faces.specs.Slots.{slots_of}

module _ {A : Type 0} (p q : ℕ → Bool) where
  -- two tests that agree on the faces for which something is held take the same of what is held
  only_agree : (f : ℕ) (l : List (Option A)) → ((i : ℕ) → i < length l → is_some (get_or l i none) ≡ true → p (f + i) ≡ q (f + i))
      → only (λ h. p h.face) (held_from f l) ≡ only (λ h. q h.face) (held_from f l)
  unfolding only held_from is_some
  only_agree f [] h = refl
  only_agree f (none ∷ l) h =
      only_agree (suc f) l (λ i b y. let e : suc f + i ≡ f + suc i = omega arith in rw e (h (suc i) (omega arith) y))
  only_agree f (some a ∷ l) h =
      let here : p f ≡ q f = rw add-zero at (h 0 (omega arith) refl) in
      rw (here, only_agree (suc f) l (λ i b y. let e : suc f + i ≡ f + suc i = omega arith in rw e (h (suc i) (omega arith) y)))

  -- and empty the same slots
  emptied_agree : (f : ℕ) (l : List (Option A)) → ((i : ℕ) → i < length l → is_some (get_or l i none) ≡ true → p (f + i) ≡ q (f + i))
      → emptied_from p f l ≡ emptied_from q f l
  unfolding emptied_from is_some pick
  emptied_agree f [] h = refl
  emptied_agree f (x ∷ l) h =
      let rest = emptied_agree (suc f) l (λ i b y. let e : suc f + i ≡ f + suc i = omega arith in rw e (h (suc i) (omega arith) y)) in
      let here : is_some x ≡ true → p f ≡ q f = λ y. rw add-zero at (h 0 (omega arith) y) in
      rw (rest, go x (p f) (q f) here)
    where
      go : (y : Option A) (b c : Bool) → (is_some y ≡ true → b ≡ c) → pick b none y ≡ pick c none y
      go none true true k = refl
      go none true false k = refl
      go none false true k = refl
      go none false false k = refl
      go (some a) b c k = rw (k refl)

-- what is held for a set of faces, where a slot is in it as q holds of its face, is made of what is held where q holds
held_made : {A B : Type 0} (r q : ℕ → Bool) (v : ℕ → B) (to : A → B) (f i : ℕ) (l : List (Option A))
    → ((k : ℕ) → k < length l
    → pick (r (i + k)) (some (v (i + k))) none ≡ pick (q (f + k)) (given none (λ a. some (to a)) (get_or l k none)) none)
    → held_from f (tab (λ k. pick (r k) (some (v k)) none) i (length l))
    ≡ map (λ h. record { face = h.face; what = to h.what }) (only (λ h. q h.face) (held_from f l))
unfolding held_from tab only pick given
held_made r q v to f i [] h = refl
held_made {A} {B} r q v to f i (x ∷ l) h =
    let here : pick (r i) (some (v i)) none ≡ pick (q f) (given none (λ a. some (to a)) x) none =
    rw (add-zero, add-zero) at (h 0 (omega arith)) in
    rw here (go x (q f) refl (tab (λ k. pick (r k) (some (v k)) none) (suc i) (length l))
    (held_made r q v to (suc f) (suc i) l (λ k b.
    let e : suc f + k ≡ f + suc k = omega arith in
    let d : suc i + k ≡ i + suc k = omega arith in
    rw (e, d) (h (suc k) (omega arith)))))
  where
    to' : Held A → Held B
    to' h = record { face = h.face; what = to h.what }

    go : (x : Option A) (b : Bool) → q f ≡ b → (y : List (Option B))
        → held_from (suc f) y ≡ map to' (only (λ h. q h.face) (held_from (suc f) l))
        → held_from f (pick b (given none (λ a. some (to a)) x) none ∷ y) ≡ map to' (only (λ h. q h.face) (held_from f (x ∷ l)))
    go none true w y u = u
    go none false w y u = u
    go (some a) true w y u = rw (w, u)
    go (some a) false w y u = rw (w, u)

module _ (n : ℕ) (q : ℕ → Bool) (e : Entry) (wide : length e.requests ≡ n) (set : ℕ)
    (is : set ≡ faces_where n (λ f. is_some (slot f e.requests) && q f)) where
  -- the slot of the face after i
  slot_after : (i : ℕ) → slot (1 + i) e.requests ≡ get_or e.requests i none
  slot_after i = let back : 1 + i - 1 ≡ i = omega arith in slot_at (1 + i) e.requests (omega arith) ∙ rw back

  -- whether the set has the face after i
  set_has : (i : ℕ) → i < length e.requests → has_face n set (1 + i) ≡ (is_some (get_or e.requests i none) && q (1 + i))
  set_has i h =
      rw is
      (where_has n (1 + i) (λ f. is_some (slot f e.requests) && q f) ((face_yes n (1 + i)).1 (omega arith, omega arith))
      ∙ rw (slot_after i))

  -- on a face with a request it is as q says
  set_agrees : (i : ℕ) → i < length e.requests → is_some (get_or e.requests i none) ≡ true → has_face n set (1 + i) ≡ q (1 + i)
  set_agrees i h y = set_has i h ∙ rw y

  -- the requests on the faces of the set are those that q holds of
  pub only_peers : only (λ h. has_face n set h.face) (held e.requests) ≡ only (λ h. q h.face) (held e.requests)
  unfolding held
  only_peers = only_agree (has_face n set) q 1 e.requests set_agrees

  -- ending them is ending those
  pub ending_peers : ending (has_face n set) e ≡ ending q e
  unfolding ending emptied
  ending_peers =
      ap (λ (x : List (Option Request)). with_requests x e) (emptied_agree (has_face n set) q 1 e.requests set_agrees)

  -- what v gives for the faces of the set is what the requests that q holds of give
  pub held_peers : {B : Type 0} (v : ℕ → B) (to : Request → B)
      → ((i : ℕ) (r : Request) → get_or e.requests i none ≡ some r → v i ≡ to r)
      → held (slots_of n set v)
      ≡ map (λ h. record { face = h.face; what = to h.what }) (only (λ h. q h.face) (held e.requests))
  unfolding held slots_of pick is_some given
  held_peers {B} v to same =
      rw (← wide)
      (held_made (λ i. member i set) q v to 1 0 e.requests
      (λ k l. let z : 0 + k ≡ k = omega arith in rw z (slots k l (get_or e.requests k none) refl)))
    where
      slots : (k : ℕ) → k < length e.requests → (x : Option Request) → get_or e.requests k none ≡ x
          → pick (member k set) (some (v k)) none ≡ pick (q (1 + k)) (given none (λ a. some (to a)) x) none
      slots k l x y =
          let z : k + 1 ≡ 1 + k = omega arith in
          let has : has_face n set (k + 1) ≡ (is_some x && q (1 + k)) = rw (z, ← y) (set_has k l) in
          let m : member k set ≡ (is_some x && q (1 + k)) = sym (has_after n set k (omega arith)) ∙ has in
          rw m (go x y (q (1 + k)))
        where
          go : (x : Option Request) → get_or e.requests k none ≡ x → (b : Bool)
              → pick (is_some x && b) (some (v k)) none ≡ pick b (given none (λ a. some (to a)) x) none
          go none y true = refl
          go none y false = refl
          go (some r) y b = rw (same k r y)
