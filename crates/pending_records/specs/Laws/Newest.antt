-- The newest out-record, by a running newest.
-- Assumes nothing.
use Rattle.std.specs.Prelude.{ℕ, ◌-◌, ◌≤◌, ◌<◌, max, ◌≡◌, refl, Bool, false, List, [], ◌∷◌, map, get_or, ltb, MatchOption, None, Some}
use Rattle.std.specs.declared.option.Option as code
use Rattle.std.specs.Option.{option_cmp, option_map}
use Rattle.std.specs.List.{fold, reduce}
use Rattle.std.specs.Ordering.{ord_max, nat_cmp}
use Rattle.std.proofs.Math.Option.{Option, none, some}
use Rattle.std.proofs.Math.Nat.{zero-max}
use Rattle.std.proofs.Common.{ap, sym, ◌∙◌, arith}
use Rattle.std.proofs.lemmas.Grind.{common_steps}
use Rattle.records.specs.Slots.{holds, Held, given}
use Rattle.records.specs.Entry.{Sent, newest_of, is_suppressed}
use Rattle.faces.specs.Set.{minus_face}
use Rattle.faces.specs.Laws.Walk.{Walks, walk_more, walk_end}
use Rattle.pending_entry.specs.Places.View.{sent_at, view_for, view_sent}
use Rattle.pending_records.specs.Places.Walk.{word, sent_in, newest_in, newer, newer_of, time_of}
use Rattle.sizes.specs.Sizes.{resend_time}

-- the newest of a time and of those held is that of the later of it and the first, and of the others
newest_step : (t : ℕ) (h : Held Sent) (hs : List (Held Sent)) → newer t (newest_of (h ∷ hs)) ≡ newer (max t h.what.time) (newest_of hs)
unfolding newer newest_of given
newest_step t h hs = go (newest_of hs) refl
  where
    go : (o : Option ℕ) → newest_of hs ≡ o → newer t (newest_of (h ∷ hs)) ≡ newer (max t h.what.time) (newest_of hs)
    go none e = rw e
    go (some u) e = let q : max t (max h.what.time u) ≡ max (max t h.what.time) u = omega arith in rw (e, q)

-- the newest of a time that may be none and of those held is that of the newer of it and the first, and of the others
newest_more : (o : Option ℕ) (h : Held Sent) (hs : List (Held Sent))
    → newer_of o (newest_of (h ∷ hs)) ≡ newer_of (newer_of o (some h.what.time)) (newest_of hs)
unfolding newer_of newest_of given newer
newest_more none h hs = go (newest_of hs) refl
  where
    go : (o : Option ℕ) → newest_of hs ≡ o → newest_of (h ∷ hs) ≡ newer h.what.time (newest_of hs)
    go none e = rw e
    go (some u) e = rw e
newest_more (some t) h hs = newest_step t h hs

-- the larger of two times
larger_some : (t x : ℕ) → ord_max (option_cmp nat_cmp) (Some t) (Some x) ≡ Some (max t x)
larger_some t x = grind (arith, common_steps)

-- the larger of a time that may be none and a time is the newer of the two
newer_larger : (o : code.Option ℕ) (x : ℕ) → newest_in (ord_max (option_cmp nat_cmp) o (Some x)) ≡ newer_of (newest_in o) (some x)
unfolding newest_in newer_of newer
newer_larger None x = refl
newer_larger (Some t) x = rw larger_some

-- of what is held the newest is that of 0 and of what is held
newest_first : (h : Held Sent) (hs : List (Held Sent)) → newest_of (h ∷ hs) ≡ newer 0 (newest_of (h ∷ hs))
unfolding newer newest_of given
newest_first h hs = go (newest_of hs) refl
  where
    go : (o : Option ℕ) → newest_of hs ≡ o → newest_of (h ∷ hs) ≡ newer 0 (newest_of (h ∷ hs))
    go none e = rw (e, zero-max)
    go (some u) e = rw (e, zero-max)

module _ {n s f : ℕ} (a : Walks n s f) (recs : List (List ℕ)) where
  -- where something is held, the newest is that of 0 and of what is held
  pub newest_start : f ≤ n → newest_of (sent_in n s recs) ≡ newer 0 (newest_of (sent_in n s recs))
  newest_start l = rw (walk_more a l refl (sent_at recs)) (newest_first _ _)

  -- a turn of a running newest
  pub newest_turn : f ≤ n → {t : ℕ} → t ≡ minus_face n s f → (o : code.Option ℕ) {y : code.Option ℕ}
      → y ≡ ord_max (option_cmp nat_cmp) o (Some (word recs f 3))
      → newer_of (newest_in o) (newest_of (sent_in n s recs)) ≡ newer_of (newest_in y) (newest_of (sent_in n t recs))
  unfolding sent_at
  newest_turn l e o q =
      rw (walk_more a l e (sent_at recs), q, newer_larger o (word recs f 3)) (newest_more (newest_in o) _ _)

  -- where there is no out-record there is no newest
  pub newest_none : n < f → newest_of (sent_in n s recs) ≡ none
  unfolding newest_of given
  newest_none l = rw (walk_end a l (sent_at recs))

  -- at the end the newest so far is the newest of all
  pub newest_end : n < f → (o : code.Option ℕ) → newer_of (newest_in o) (newest_of (sent_in n s recs)) ≡ newest_in o
  unfolding newest_in newer_of newer newest_of given
  newest_end l None = newest_none l
  newest_end l (Some t) = rw (walk_end a l (sent_at recs))

-- whether the newest out-record of an entry was sent under 100 ms ago
pub view_suppressed : (n : ℕ) (name head : List ℕ) (recs : List (List ℕ)) (now : ℕ)
    → is_suppressed now (view_for n name head recs) ≡ holds (λ t. ltb (now - t) resend_time) (newest_of (sent_in n (get_or head 5 0) recs))
unfolding is_suppressed
view_suppressed n name head recs now = rw (view_sent n name head recs)

-- and by a time that may be none
pub view_recent : (n : ℕ) (name head : List ℕ) (recs : List (List ℕ)) (now : ℕ) (o : code.Option ℕ) (r : Bool)
    → newest_in o ≡ newest_of (sent_in n (get_or head 5 0) recs) → MatchOption o (r ≡ false) (λ t. r ≡ ltb (now - t) resend_time)
    → r ≡ is_suppressed now (view_for n name head recs)
unfolding newest_in holds
view_recent n name head recs now o r e m = told o m ∙ rw e (sym (view_suppressed n name head recs now))
  where
    told : (o : code.Option ℕ) → MatchOption o (r ≡ false) (λ t. r ≡ ltb (now - t) resend_time)
        → r ≡ holds (λ t. ltb (now - t) resend_time) (newest_in o)
    told None m = m
    told (Some t) m = m

-- a running largest time is the newest of a time and of those held
largest_from : (t : ℕ) (hs : List (Held Sent)) → fold max t (map time_of hs) ≡ given t (max t) (newest_of hs)
unfolding newest_of given
largest_from t [] = refl
largest_from t (h ∷ hs) = largest_from (max t h.what.time) hs ∙ go (newest_of hs)
  where
    go : (o : Option ℕ) → given (max t h.what.time) (max (max t h.what.time)) o ≡ max t (given h.what.time (max h.what.time) o)
    go none = refl
    go (some u) = omega arith

-- the largest time is that of the newest
pub newest_all : (o : code.Option ℕ) (hs : List (Held Sent)) → option_map (λ t. t) o ≡ reduce max (map time_of hs)
    → newest_in o ≡ newest_of hs
unfolding newest_in newest_of
newest_all o [] e = rw (same o ∙ e) refl
  where
    same : (o : code.Option ℕ) → o ≡ option_map (λ t. t) o
    same None = refl
    same (Some t) = refl
newest_all o (h ∷ hs) e = rw (same o ∙ e) (ap some (largest_from h.what.time hs))
  where
    same : (o : code.Option ℕ) → o ≡ option_map (λ t. t) o
    same None = refl
    same (Some t) = refl
