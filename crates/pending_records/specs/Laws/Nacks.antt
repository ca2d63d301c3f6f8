-- Whether all out-records are Nacked, and the smallest reason, by a running reason.
-- Assumes nothing.
use Rattle.std.specs.Prelude.{ℕ, zero, suc, ◌-◌, ◌≤◌, ◌<◌, min, ◌≡◌, not, List, ◌∷◌, ◌≢◌, get_or, ltb, eqb, None, Option, Some}
use Rattle.std.proofs.Math.Path.{refl}
use Rattle.std.proofs.Common.{sym, ◌∙◌, arith, ltb-true, ltb-false, eqb-true, ne_eqb}
use Rattle.std.proofs.Math.Option.{none, some}
use Rattle.laws.specs.Lists.{any_of}
use Rattle.laws.specs.Pick.{pick}
use Rattle.laws.specs.Laws.Pick.{pick_ind, pick_yes, pick_no}
use Rattle.records.specs.Slots.{is_some, Held, given}
use Rattle.records.specs.Entry.{Sent, was_nacked, lesser_reason, smallest_reason, all_nacked, reason_of}
use Rattle.faces.specs.Set.{minus_face}
use Rattle.faces.specs.Laws.Walk.{Walks, walk_more, walk_end}
use Rattle.pending_entry.specs.Places.View.{nack_word, sent_at, view_for, view_sent}
use Rattle.pending_records.specs.Operations.{nacks_in, nacks_of}
use Rattle.pending_records.specs.Places.Walk.{word, sent_in, nacks_from}

-- before any reason 0 is left out
lesser_first : (a : ℕ) → lesser_reason 0 a ≡ a
unfolding lesser_reason pick
lesser_first a = refl

-- after any reason 0 is left out
lesser_last : (a : ℕ) → lesser_reason a 0 ≡ a
unfolding lesser_reason
lesser_last a = pick_ind (λ (x : ℕ). x ≡ a) (eqb a 0) _ _ (λ e. sym (eqb-true a 0 e)) (λ _. pick_yes _ _ _ refl)

-- the smaller of two reasons that are not 0 is the lesser number
lesser_min : (a b : ℕ) → lesser_reason (suc a) (suc b) ≡ suc (min a b)
unfolding lesser_reason
lesser_min a b =
    rw (ne_eqb (suc a) 0 (λ q. omega arith), ne_eqb (suc b) 0 (λ q. omega arith))
    (pick_no _ _ _ refl ∙ pick_no _ _ _ refl
    ∙ pick_ind (λ (x : ℕ). x ≡ suc (min a b)) (ltb (suc b) (suc a)) _ _ (λ e. omega (arith, ltb-true (suc b) (suc a) e))
    (λ e. omega (arith, ltb-false (suc b) (suc a) e)))

-- of three reasons it does not matter which two are compared first
lesser_assoc : (a b c : ℕ) → lesser_reason a (lesser_reason b c) ≡ lesser_reason (lesser_reason a b) c
lesser_assoc zero b c = rw (lesser_first (lesser_reason b c), lesser_first b)
lesser_assoc (suc a) zero c = rw (lesser_first c, lesser_last (suc a))
lesser_assoc (suc a) (suc b) zero = rw (lesser_last (suc b)) (sym (lesser_last _))
lesser_assoc (suc a) (suc b) (suc c) =
    let e : min a (min b c) ≡ min (min a b) c = omega arith in
    rw (lesser_min a b, lesser_min b c) (lesser_min a (min b c) ∙ rw e (sym (lesser_min (min a b) c)))

-- where the first is Nacked, its reason joins
nacks_step : (r k : ℕ) (h : Held Sent) (hs : List (Held Sent)) → h.what.nacked ≡ some k
    → nacks_from r (h ∷ hs) ≡ nacks_from (lesser_reason r k) hs
unfolding nacks_from any_of was_nacked is_some smallest_reason given
nacks_step r k h hs e = rw (e, lesser_assoc r k (smallest_reason hs))

-- where the first is not Nacked, not all are
nacks_not : (r : ℕ) (h : Held Sent) (hs : List (Held Sent)) → h.what.nacked ≡ none → nacks_from r (h ∷ hs) ≡ none
unfolding nacks_from any_of was_nacked is_some pick
nacks_not r h hs e = rw e

-- what a Nack word that is not 0 says
nack_word_lem : (k : ℕ) → k ≢ 0 → nack_word k ≡ some (reason_of (k - 1))
unfolding nack_word
nack_word_lem k h = pick_no _ _ _ (ne_eqb k 0 h)

module _ {n s f : ℕ} (a : Walks n s f) (recs : List (List ℕ)) where
  -- a turn that finds an out-record without a Nack
  pub nacks_open : f ≤ n → (x : ℕ) → word recs f 4 ≡ 0 → nacks_from x (sent_in n s recs) ≡ none
  unfolding sent_at nack_word pick
  nacks_open l x z = rw (walk_more a l refl (sent_at recs)) (nacks_not x _ _ (rw z))

  -- a turn of a running reason
  pub nacks_turn : f ≤ n → {t : ℕ} → t ≡ minus_face n s f → (x : ℕ) {y : ℕ} → word recs f 4 ≢ 0
      → y ≡ lesser_reason x (reason_of (word recs f 4 - 1)) → nacks_from x (sent_in n s recs) ≡ nacks_from y (sent_in n t recs)
  unfolding sent_at
  nacks_turn l e x d q = rw (walk_more a l e (sent_at recs), q) (nacks_step x _ _ _ (nack_word_lem _ d))

  -- at the end the reason so far is that of all
  pub nacks_end : n < f → (x : ℕ) → nacks_from x (sent_in n s recs) ≡ some x
  unfolding nacks_from any_of smallest_reason given pick
  nacks_end l x = rw (walk_end a l (sent_at recs), lesser_last x)

-- at the start 0 is no reason
nacks_start : (hs : List (Held Sent)) → nacks_from 0 hs ≡ pick (not (any_of (λ h. not (was_nacked h)) hs)) (some (smallest_reason hs)) none
unfolding nacks_from
nacks_start hs = rw (lesser_first (smallest_reason hs))

-- the reason of an entry that goes on
pub view_nacks : (n : ℕ) (name head : List ℕ) (recs : List (List ℕ))
    → nacks_of (view_for n name head recs) ≡ nacks_from 0 (sent_in n (get_or head 5 0) recs)
unfolding nacks_of all_nacked
view_nacks n name head recs = rw (view_sent n name head recs) (sym (nacks_start _))

-- answers that tell the same reason are the same
pub nacks_same : (a b : Option ℕ) → nacks_in a ≡ nacks_in b → a ≡ b
unfolding nacks_in
nacks_same None None e = refl
nacks_same None (Some r) e = cc
nacks_same (Some r) None e = cc
nacks_same (Some r) (Some q) e = cc
