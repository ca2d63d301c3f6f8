-- A nonce in one column of the records, and in an entry.
-- Assumes nothing.
use Rattle.std.specs.Prelude.{ℕ, zero, suc, ◌-◌, ◌≤◌, ◌<◌, ◌≡◌, refl, Bool, true, false, ◌||◌, List, [], ◌∷◌, length, get_or}
use Rattle.std.specs.Bool.{MatchBool}
use Rattle.std.specs.List.{HoldsAt, AllWithin}
use Rattle.std.proofs.Common.{sym, arith}
use Rattle.std.proofs.Math.Option.{none, some}
use Rattle.std.proofs.Math.Dec.{eqb}
use Rattle.laws.specs.Lists.{any_of}
use Rattle.laws.specs.Pick.{pick}
use Rattle.laws.specs.Digits.{member}
use Rattle.laws.specs.Places.Tab.{tab}
use Rattle.records.specs.Slots.{holds, held}
use Rattle.records.specs.Entry.{has_nonce}
use Rattle.faces.specs.Set.{minus_face}
use Rattle.faces.specs.Slots.{slots_of}
use Rattle.faces.specs.Laws.Walk.{Walks, walk_more}
use Rattle.faces.specs.Laws.Slot.{holds_there, any_held}
use Rattle.pending_entry.specs.Places.View.{request_at, sent_at, view_for, view_requests, view_sent}
use Rattle.pending_records.specs.Places.Walk.{column_at}

module _ {n s f : ℕ} (a : Walks n s f) (l : f ≤ n) {t : ℕ} (e : t ≡ minus_face n s f) where
  -- a test of what is held tests the first, and then the others
  pub any_turn : {A : Type 0} (g : ℕ → A) (q : A → Bool)
      → any_of (λ h. q h.what) (held (slots_of n s g)) ≡ (q (g (f - 1)) || any_of (λ h. q h.what) (held (slots_of n t g)))
  unfolding any_of
  any_turn g q = rw (walk_more a l e g)

-- in one column of the records, whatever else is kept there, a test finds the same
column_any : {A B : Type 0} (n s : ℕ) (g : ℕ → A) (v : A → B) (q : B → Bool)
    → any_of (holds (λ a. q (v a))) (slots_of n s g) ≡ any_of (holds q) (slots_of n s (λ i. v (g i)))
unfolding slots_of tab any_of
column_any n s g v q = go 0 n
  where
    go : (i m : ℕ)
        → any_of (holds (λ a. q (v a))) (tab (λ i. pick (member i s) (some (g i)) none) i m)
        ≡ any_of (holds q) (tab (λ i. pick (member i s) (some (v (g i))) none) i m)
    go i zero = refl
    go i (suc m) = rw (holds_there (λ a. q (v a)) (member i s) (g i), holds_there q (member i s) (v (g i)), go (suc i) m)

module _ (n : ℕ) (name head : List ℕ) (recs : List (List ℕ)) where
  -- whether an entry has a nonce, by two columns of its records
  pub view_nonce : (nonce : ℕ) → has_nonce nonce (view_for n name head recs)
      ≡ (any_of (λ h. eqb h.what nonce) (held (slots_of n (get_or head 4 0) (column_at recs 0)))
      || any_of (λ h. eqb h.what nonce) (held (slots_of n (get_or head 5 0) (column_at recs 2))))
  unfolding has_nonce request_at sent_at column_at
  view_nonce nonce =
      rw (view_sent n name head recs, view_requests n name head recs)
      (rw (
        column_any n (get_or head 4 0) (request_at recs) (λ r. r.nonce) (λ w. eqb w nonce),
        column_any n (get_or head 5 0) (sent_at recs) (λ r. r.nonce) (λ w. eqb w nonce),
        any_held (λ w. eqb w nonce) (slots_of n (get_or head 4 0) (column_at recs 0)),
        any_held (λ w. eqb w nonce) (slots_of n (get_or head 5 0) (column_at recs 2)),
      ))

module _ {A : Type 0} (p : A → Bool) where
  -- a test that one element passes
  any_there : (l : List A) (k : ℕ) → k < length l → HoldsAt (λ x. p x ≡ true) l k → any_of p l ≡ true
  unfolding any_of
  any_there [] k h e = absurd (omega (arith, h))
  any_there (x ∷ l) zero h e = rw (e x) refl
  any_there (x ∷ l) (suc k) h e = rw (any_there l k (omega (arith, h)) (λ d. e d)) (go (p x))
    where
      go : (b : Bool) → (b || true) ≡ true
      go true = refl
      go false = refl

  -- a test that no element passes
  any_off : (l : List A) → AllWithin (λ x. p x ≡ false) l 0 (length l) → any_of p l ≡ false
  unfolding any_of
  any_off [] e = refl
  any_off (x ∷ l) e = rw (e 0 x (omega arith) (omega arith), any_off l (λ k d _ h. e (suc k) d (omega arith) (omega (arith, h)))) refl

  -- what is found one by one is what a test of all finds
  pub any_found : (r : Bool) (l : List A)
      → MatchBool r ((k : ℕ) × (k < length l) × HoldsAt (λ x. p x ≡ true) l k) (AllWithin (λ x. p x ≡ false) l 0 (length l))
      → r ≡ any_of p l
  any_found true l (k, h, e) = sym (any_there l k h e)
  any_found false l e = sym (any_off l e)
