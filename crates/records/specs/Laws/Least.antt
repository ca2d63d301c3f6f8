-- The least of what is held, by a running least that only a strictly smaller one replaces.
-- Assumes nothing.
use Rattle.std.specs.Prelude.{ℕ, ◌≤◌, ◌<◌, ◌≡◌, refl, Bool, true, false, ◌||◌, not, List, [], ◌∷◌, ltb}
use Rattle.std.proofs.Math.Path.{sym}
use Rattle.std.proofs.Common.{◌∙◌, arith}
use Rattle.std.proofs.Math.Option.{Option, none, some}
use borrow.Author.Tests.{ltb-true, ltb-false, lt-ltb, le-ltb}
use Rattle.laws.specs.Pick.{pick}
use Rattle.laws.specs.Laws.Pick.{pick_ind, pick_yes, pick_no}
use Rattle.records.specs.Slots.{is_some, given, Held, held, any_of, only, less_by, least_by, least_face, is_empty}

module _ {A : Type 0} (by : Held A → ℕ) (h k : Held A) (o : Option (Held A)) where
  -- one that measures less takes the place of the least so far
  pub less_next : by k < by h → less_by by h (less_by by k o) ≡ less_by by k o
  unfolding less_by
  less_next l = go o
    where
      go : (o : Option (Held A)) → less_by by h (less_by by k o) ≡ less_by by k o
      go none = pick_yes _ _ _ (lt-ltb (by k) (by h) l)
      go (some q) =
          pick_ind (λ (x : Option (Held A)). less_by by h x ≡ x) (ltb (by q) (by k)) (some q) (some k)
          (λ e. pick_yes _ _ _ (lt-ltb (by q) (by h) (omega (arith, ltb-true (by q) (by k) e))))
          (λ _. pick_yes _ _ _ (lt-ltb (by k) (by h) l))

  -- one that measures the same or more does not
  pub less_stays : by h ≤ by k → less_by by h (less_by by k o) ≡ less_by by h o
  unfolding less_by
  less_stays l = go o
    where
      go : (o : Option (Held A)) → less_by by h (less_by by k o) ≡ less_by by h o
      go none = pick_no _ _ _ (le-ltb (by k) (by h) l)
      go (some q) =
          pick_ind (λ (x : Option (Held A)). less_by by h x ≡ less_by by h (some q)) (ltb (by q) (by k)) (some q) (some k)
          (λ _. refl)
          (λ e. pick_no _ _ _ (le-ltb (by k) (by h) l)
          ∙ sym (pick_no _ _ _ (le-ltb (by q) (by h) (omega (arith, ltb-false (by q) (by k) e)))))

-- the least so far, against one more and the rest, is the lesser of it and the one more, against the rest
pub least_step : {A : Type 0} (by : Held A → ℕ) (b h : Held A) (hs : List (Held A))
    → less_by by b (least_by by (h ∷ hs)) ≡ less_by by (pick (ltb (by h) (by b)) h b) (least_by by hs)
unfolding least_by pick
least_step by b h hs = go (ltb (by h) (by b)) refl
  where
    go : (x : Bool) → ltb (by h) (by b) ≡ x → less_by by b (less_by by h (least_by by hs)) ≡ less_by by (pick x h b) (least_by by hs)
    go true e = less_next by b h (least_by by hs) (ltb-true (by h) (by b) e)
    go false e = less_stays by b h (least_by by hs) (ltb-false (by h) (by b) e)

-- something measures least where there is something
least_some : {A : Type 0} (by : Held A → ℕ) (hs : List (Held A)) → is_some (least_by by hs) ≡ not (is_empty hs)
unfolding least_by less_by is_some is_empty
least_some by [] = refl
least_some {A} by (h ∷ hs) = go (least_by by hs)
  where
    go : (o : Option (Held A)) → is_some (less_by by h o) ≡ true
    go none = refl
    go (some k) = pick_ind (λ (x : Option (Held A)). is_some x ≡ true) (ltb (by k) (by h)) (some k) (some h) (λ _. refl) (λ _. refl)

-- p holds of some element where not all are left out
only_any : {A : Type 0} (p : A → Bool) (l : List A) → not (is_empty (only p l)) ≡ any_of p l
unfolding only is_empty any_of pick
only_any p [] = refl
only_any p (a ∷ l) = go (p a) (only_any p l)
  where
    go : (b : Bool) → not (is_empty (only p l)) ≡ any_of p l → not (is_empty (pick b (a ∷ only p l) (only p l))) ≡ (b || any_of p l)
    go true ih = refl
    go false ih = ih

-- there is a least face where p holds of some face that has something
pub least_found : {A : Type 0} (by : A → ℕ) (p : ℕ → Bool) (l : List (Option A))
    → is_some (least_face by p l) ≡ any_of (λ (h : Held A). p h.face) (held l)
unfolding least_face is_some given
least_found {A} by p l =
    same (least_by (λ h. by h.what) (only (λ h. p h.face) (held l)))
    ∙ least_some (λ h. by h.what) (only (λ h. p h.face) (held l)) ∙ only_any (λ h. p h.face) (held l)
  where
    same : (o : Option (Held A)) → is_some (given none (λ (h : Held A). some h.face) o) ≡ is_some o
    same none = refl
    same (some h) = refl
