-- Counting in lists, and counting what slots hold by face.
-- Assumes nothing.
use Prim.Native.Nat.{ℕ, zero, suc, ◌+◌, ◌≤◌, ◌<◌}
use Rattle.std.specs.Prelude.{◌≡◌, Bool, ◌&&◌, ◌||◌, not, length, get_or, set}
use Rattle.std.proofs.Math.Path.{refl, ap}
use Rattle.std.proofs.Math.Bool.{true, false, and-false}
use Rattle.std.proofs.lemmas.Bool.{false≢true}
use mathlib.Core.List.{List, [], ◌∷◌, ◌++◌, map}
use Rattle.std.proofs.Math.Option.{Option, none, some}
use native.Mathlib.Omega.{arith}
use Rattle.std.proofs.Math.Nat.{add-zero}
use Rattle.std.proofs.lemmas.List.{length-replicate}
use Rattle.std.proofs.Math.Dec.{eqb}
use borrow.Author.Tests.{eqb-true, ne_eqb}
use Rattle.laws.specs.Pick.{pick}
use Rattle.laws.specs.Laws.Pick.{pick_ind}
use Rattle.records.specs.Slots.{no_slots, slot, set_slot, emptied_from, is_some, Held, held_from, any_of, only, is_empty}
use Rattle.records.specs.Laws.Slot.{slot_no_slots}
use Rattle.records.specs.Entry.{Request, is_live, if_live}
use Rattle.history.specs.Lists.{one, how_many}

-- a test counts once at most
pub one_le : (b : Bool) → one b ≤ 1
one_le true = omega arith
one_le false = omega arith

module _ {A : Type 0} where
  -- lists one after the other count together
  pub how_many_append : (p : A → Bool) (s t : List A) → how_many p (s ++ t) ≡ how_many p s + how_many p t
  unfolding how_many
  how_many_append p [] t = omega arith
  how_many_append p (a ∷ s) t = omega (arith, how_many_append p s t)

  -- tests that agree on every element count the same
  pub how_many_same : (p q : A → Bool) → ((a : A) → p a ≡ q a) → (l : List A) → how_many p l ≡ how_many q l
  unfolding how_many
  how_many_same p q e [] = refl
  how_many_same p q e (a ∷ l) = rw (e a, how_many_same p q e l)

  -- a test that fails everywhere counts nothing
  pub how_many_none : (p : A → Bool) → ((a : A) → p a ≡ false) → (l : List A) → how_many p l ≡ 0
  unfolding how_many
  how_many_none p e [] = refl
  how_many_none p e (a ∷ l) = rw (e a) (omega (arith, how_many_none p e l))

  -- what a function makes of a list
  pub how_many_map : {B : Type 0} (p : A → Bool) (f : B → A) (l : List B) → how_many p (map f l) ≡ how_many (λ b. p (f b)) l
  unfolding how_many
  how_many_map p f [] = refl
  how_many_map p f (b ∷ l) = ap (λ (k : ℕ). one (p (f b)) + k) (how_many_map p f l)

  -- where a test holds only where another does, it counts no more
  pub how_many_le : (p q : A → Bool) → ((a : A) → p a ≡ true → q a ≡ true) → (l : List A) → how_many p l ≤ how_many q l
  unfolding how_many
  how_many_le p q k [] = omega arith
  how_many_le p q k (a ∷ l) = go (p a) refl (how_many_le p q k l)
    where
      go : (b : Bool) → p a ≡ b → how_many p l ≤ how_many q l → one b + how_many p l ≤ one (q a) + how_many q l
      go true w h = rw (k a w) (omega arith)
      go false w h = omega arith

  -- a test parted in two
  pub how_many_sum : (p q r : A → Bool) → ((a : A) → one (p a) ≡ one (q a) + one (r a)) → (l : List A)
      → how_many p l ≡ how_many q l + how_many r l
  unfolding how_many
  how_many_sum p q r k [] = refl
  how_many_sum p q r k (a ∷ l) = omega (arith, k a, how_many_sum p q r k l)

  -- of those that another test keeps, no more
  pub how_many_only : (p q : A → Bool) (l : List A) → how_many p (only q l) ≤ how_many p l
  unfolding how_many only
  how_many_only p q [] = omega arith
  how_many_only p q (a ∷ l) =
      pick_ind (λ (r : List A). how_many p r ≤ one (p a) + how_many p l) (q a) _ _ (λ _. omega (arith, how_many_only p q l))
      (λ _. omega (arith, how_many_only p q l))

-- at most one element counts: 1 where there is one
pub how_many_any : {A : Type 0} (p : A → Bool) (l : List A) → how_many p l ≤ 1 → how_many p l ≡ one (any_of p l)
unfolding how_many any_of
how_many_any p [] h = refl
how_many_any p (a ∷ l) h = go (p a) h (how_many_any p l (omega arith))
  where
    go : (b : Bool) → one b + how_many p l ≤ 1 → how_many p l ≡ one (any_of p l) → one b + how_many p l ≡ one (b || any_of p l)
    go true k e = omega arith
    go false k e = omega arith

-- how many slots hold a request of a face that q holds of, the first slot being that of face k
unfoldable pub on_faces : (ℕ → Bool) → ℕ → List (Option Request) → ℕ
on_faces q k l = how_many (λ h. q h.face) (held_from k l)

-- empty slots, each of them empty
slots_none : (m : ℕ) → length (no_slots {A = Request} m) ≡ m
unfolding no_slots
slots_none m = simp length-replicate

module _ (q : ℕ → Bool) where
  -- the first slot and the others
  on_faces_cons : (k : ℕ) (x : Option Request) (l : List (Option Request))
      → on_faces q k (x ∷ l) ≡ one (is_some x && q k) + on_faces q (suc k) l
  unfolding on_faces held_from how_many is_some
  on_faces_cons k none l = omega arith
  on_faces_cons k (some a) l = refl

  -- setting slot i
  on_faces_set : (k i : ℕ) (x : Option Request) (l : List (Option Request)) → i < length l
      → on_faces q k (set l i x) + one (is_some (get_or l i none) && q (k + i)) ≡ on_faces q k l + one (is_some x && q (k + i))
  on_faces_set k i x [] h = absurd (omega arith)
  on_faces_set k zero x (y ∷ l) h = rw add-zero (omega (arith, on_faces_cons k x l, on_faces_cons k y l))
  on_faces_set k (suc i) x (y ∷ l) h =
      let z : k + suc i ≡ suc k + i = omega arith in
      rw z (omega (arith, on_faces_cons k y (set l i x), on_faces_cons k y l, on_faces_set (suc k) i x l (omega arith)))

  -- clearing slot i, whether it is there or not
  on_faces_clear : (k i : ℕ) (l : List (Option Request))
      → on_faces q k (set l i none) + one (is_some (get_or l i none) && q (k + i)) ≡ on_faces q k l
  unfolding is_some
  on_faces_clear k i [] = omega arith
  on_faces_clear k zero (y ∷ l) = rw add-zero (omega (arith, on_faces_cons k none l, on_faces_cons k y l))
  on_faces_clear k (suc i) (y ∷ l) =
      let z : k + suc i ≡ suc k + i = omega arith in
      rw z (omega (arith, on_faces_cons k y (set l i none), on_faces_cons k y l, on_faces_clear (suc k) i l))

  -- setting the slot of a face that has one
  pub on_faces_set_slot : (f : ℕ) (x : Option Request) (l : List (Option Request)) → 1 ≤ f → f ≤ length l
      → on_faces q 1 (set_slot f x l) + one (is_some (slot f l) && q f) ≡ on_faces q 1 l + one (is_some x && q f)
  unfolding set_slot slot
  on_faces_set_slot zero x l a b = absurd (omega arith)
  on_faces_set_slot (suc i) x l a b = let z : 1 + i ≡ suc i = omega arith in rw z at (on_faces_set 1 i x l (omega arith))

  -- clearing the slot of a face, whether it has one or not
  pub on_faces_no_slot : (f : ℕ) (l : List (Option Request))
      → on_faces q 1 (set_slot f none l) + one (is_some (slot f l) && q f) ≡ on_faces q 1 l
  unfolding set_slot slot is_some
  on_faces_no_slot zero l = omega arith
  on_faces_no_slot (suc i) l = let z : 1 + i ≡ suc i = omega arith in rw z at (on_faces_clear 1 i l)

  -- empty slots hold nothing
  pub on_faces_no_slots : (k m : ℕ) → on_faces q k (no_slots m) ≡ 0
  unfolding no_slots is_some
  on_faces_no_slots k zero = unfold on_faces held_from how_many in refl
  on_faces_no_slots k (suc m) = omega (arith, on_faces_cons k none (no_slots m), on_faces_no_slots (suc k) m)

  -- a request among empty slots
  pub on_faces_new : (f m : ℕ) (r : Request) → 1 ≤ f → f ≤ m → on_faces q 1 (set_slot f (some r) (no_slots m)) ≡ one (q f)
  unfolding is_some
  on_faces_new f m r a b =
      let s = rw (slot_no_slots f m) at (on_faces_set_slot f (some r) (no_slots m) a (rw (slots_none m) b)) in
      omega (arith, on_faces_no_slots 1 m)

  -- slots that hold nothing count nothing
  pub on_faces_empty : (k : ℕ) (l : List (Option Request)) → is_empty (held_from k l) ≡ true → on_faces q k l ≡ 0
  unfolding on_faces
  on_faces_empty k l = go (held_from k l)
    where
      go : (hs : List (Held Request)) → is_empty hs ≡ true → how_many (λ h. q h.face) hs ≡ 0
      go [] e = unfold how_many in refl
      go (h ∷ hs) e = unfold is_empty in absurd (false≢true e)

-- the requests that live, and those that do not, are all
pub on_faces_live : (q : ℕ → Bool) (now k : ℕ) (l : List (Option Request))
    → on_faces q k l ≡ how_many (λ h. q h.face) (only (λ h. not (is_live now h.what)) (held_from k l)) + on_faces q k (map (if_live now) l)
unfolding on_faces held_from how_many only if_live
on_faces_live q now k [] = refl
on_faces_live q now k (none ∷ l) = on_faces_live q now (suc k) l
on_faces_live q now k (some r ∷ l) = go (is_live now r) (on_faces_live q now (suc k) l)
  where
    at : Held Request
    at = record { face = k; what = r }

    rest : List (Held Request)
    rest = only (λ h. not (is_live now h.what)) (held_from (suc k) l)

    go : (b : Bool) → on_faces q (suc k) l ≡ how_many (λ h. q h.face) rest + on_faces q (suc k) (map (if_live now) l)
        → one (q k) + on_faces q (suc k) l
        ≡ how_many (λ h. q h.face) (pick (not b) (at ∷ rest) rest) + on_faces q k (pick b (some r) none ∷ map (if_live now) l)
    go true h = unfold pick in omega arith
    go false h = unfold pick in omega arith

-- the requests of the faces that r holds of, and the others, are all
pub on_faces_ending : (q r : ℕ → Bool) (k : ℕ) (l : List (Option Request))
    → on_faces q k l ≡ how_many (λ h. q h.face) (only (λ h. r h.face) (held_from k l)) + on_faces q k (emptied_from r k l)
unfolding on_faces held_from how_many only emptied_from
on_faces_ending q r k [] = refl
on_faces_ending q r k (none ∷ l) = go (r k) (on_faces_ending q r (suc k) l)
  where
    rest : List (Held Request)
    rest = only (λ h. r h.face) (held_from (suc k) l)

    go : (b : Bool) → on_faces q (suc k) l ≡ how_many (λ h. q h.face) rest + on_faces q (suc k) (emptied_from r (suc k) l)
        → on_faces q (suc k) l ≡ how_many (λ h. q h.face) rest + on_faces q k (pick b none none ∷ emptied_from r (suc k) l)
    go true h = unfold pick in h
    go false h = unfold pick in h
on_faces_ending q r k (some x ∷ l) = go (r k) (on_faces_ending q r (suc k) l)
  where
    at : Held Request
    at = record { face = k; what = x }

    rest : List (Held Request)
    rest = only (λ h. r h.face) (held_from (suc k) l)

    go : (b : Bool) → on_faces q (suc k) l ≡ how_many (λ h. q h.face) rest + on_faces q (suc k) (emptied_from r (suc k) l)
        → one (q k) + on_faces q (suc k) l
        ≡ how_many (λ h. q h.face) (pick b (at ∷ rest) rest) + on_faces q k (pick b none (some x) ∷ emptied_from r (suc k) l)
    go true h = unfold pick in omega arith
    go false h = unfold pick in omega arith

-- a face holds at most one request in slots
module _ (f : ℕ) where
  -- past its slot there is none
  on_faces_past : (k : ℕ) (l : List (Option Request)) → f < k → on_faces (λ g. eqb g f) k l ≡ 0
  on_faces_past k [] h = unfold on_faces held_from how_many in refl
  on_faces_past k (x ∷ l) h =
      let c = rw (ne_eqb k f (λ e. omega arith), and-false) at (on_faces_cons (λ g. eqb g f) k x l) in
      omega (arith, on_faces_past (suc k) l (omega arith))

  -- and so there is one at most
  pub on_faces_one : (k : ℕ) (l : List (Option Request)) → on_faces (λ g. eqb g f) k l ≤ 1
  on_faces_one k [] = unfold on_faces held_from how_many in omega arith
  on_faces_one k (x ∷ l) = go (eqb k f) refl (on_faces_cons (λ g. eqb g f) k x l) (on_faces_one (suc k) l)
    where
      go : (b : Bool) → eqb k f ≡ b → on_faces (λ g. eqb g f) k (x ∷ l) ≡ one (is_some x && eqb k f) + on_faces (λ g. eqb g f) (suc k) l
          → on_faces (λ g. eqb g f) (suc k) l ≤ 1 → on_faces (λ g. eqb g f) k (x ∷ l) ≤ 1
      go true w c i = let z = eqb-true k f w in omega (arith, on_faces_past (suc k) l (omega arith), one_le (is_some x && eqb k f))
      go false w c i = let d = rw (w, and-false) at c in omega arith
