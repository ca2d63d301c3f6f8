-- Where rows stand when one is taken out, or when one comes last.
-- Assumes nothing.
use Rattle.std.specs.Prelude.{ℕ, zero, suc, ◌-◌, ◌<◌, ◌≡◌, refl, Bool, true, false, List, [], ◌∷◌, ◌++◌, ◌≢◌, length, get_or, take, ltb}
use Rattle.std.proofs.Common.{sym, ap, subst, ◌∙◌, ⊎_elim, eq-or-lt_of_le, arith}
use borrow.Author.Tests.{eq-eqb, ne_eqb, lt-ltb, le-ltb, ltb-true, ltb-false}
use Rattle.laws.specs.Lists.{without}
use Rattle.laws.specs.Laws.Pick.{pick_yes, pick_no}
use Rattle.laws.specs.Digits.{removed}
use Rattle.records.specs.Slots.{at_place}
use Rattle.pending_order.specs.Order.{before, rows_of, place_in, place_without}
use Rattle.pending_order.specs.Laws.Order.{before_self, In, Rising}
use Rattle.pending_order.specs.Laws.Place.{same_or, place_here, place_later, place_out}
use Rattle.pending_order.specs.Laws.Table.{rows_rise, rows_removed}

module _ (i j n : ℕ) where
  -- the element itself is gone
  pub without_same : i ≡ j → place_without i j n ≡ n
  unfolding place_without
  without_same e = pick_yes _ _ _ (eq-eqb i j e)

  -- one after it moves up
  pub without_after : i < j → place_without i j n ≡ j - 1
  unfolding place_without
  without_after h = rw (ne_eqb i j (λ e. omega arith), lt-ltb i j h, pick_no, pick_yes)

  -- one before it stays
  pub without_before : j < i → place_without i j n ≡ j
  unfolding place_without
  without_before h = rw (ne_eqb i j (λ e. omega arith), le-ltb i j (omega arith), pick_no, pick_no)

-- of two numbers the first is equal, smaller or larger
which : {A : Type 0} (i j : ℕ) → (i ≡ j → A) → (i < j → A) → (j < i → A) → A
which {A} i j f g h = same_or i j f (λ d. go d (ltb i j) refl)
  where
    go : i ≢ j → (b : Bool) → ltb i j ≡ b → A
    go d true e = g (ltb-true i j e)
    go d false e = h (⊎_elim (λ (q : j ≡ i). absurd (d (sym q))) (λ (q : j < i). q) (eq-or-lt_of_le (ltb-false i j e)))

-- all one place on
without_suc : (i j n : ℕ) → suc (place_without i j n) ≡ place_without (suc i) (suc j) (suc n)
without_suc i j n =
    which i j
    (λ e. ap suc (without_same i j n e) ∙ sym (without_same (suc i) (suc j) (suc n) (ap suc e)))
    (λ h. ap suc (without_after i j n h) ∙ omega (arith, without_after (suc i) (suc j) (suc n) (omega arith)))
    (λ h. ap suc (without_before i j n h) ∙ sym (without_before (suc i) (suc j) (suc n) (omega arith)))

-- what stands after an element that is taken out
there_after : {A : Type 0} (i j : ℕ) (l : List A) → i < suc j → at_place j (without i l) ≡ at_place (suc j) l
unfolding at_place without
there_after i j [] h = refl
there_after zero j (a ∷ l) h = refl
there_after (suc i) zero (a ∷ l) h = absurd (omega arith)
there_after (suc i) (suc j) (a ∷ l) h = there_after i j l (omega arith)

-- and before it
there_before : {A : Type 0} (i j : ℕ) (l : List A) → j < i → at_place j (without i l) ≡ at_place j l
unfolding at_place without
there_before i j [] h = refl
there_before zero j (a ∷ l) h = absurd (omega arith)
there_before (suc i) zero (a ∷ l) h = refl
there_before (suc i) (suc j) (a ∷ l) h = there_before i j l (omega arith)

-- an element that is not taken out is still there
pub without_there : {A : Type 0} (i j n : ℕ) (l : List A) → i ≢ j → at_place (place_without i j n) (without i l) ≡ at_place j l
without_there i j n l d =
    which i j (λ e. absurd (d e))
    (λ h. let e : suc (j - 1) ≡ j = omega arith in rw (without_after i j n h) (rw e at (there_after i (j - 1) l (omega arith))))
    (λ h. rw (without_before i j n h) (there_before i j l h))

-- the place of a row when another, or itself, is taken out of a list that rises
place_without_lem : (w : ℕ → ℕ) (s t : ℕ) (l : List ℕ) → Rising w l
    → place_in t (without (place_in s l) l) ≡ place_without (place_in s l) (place_in t l) (length (without (place_in s l) l))
unfolding without
place_without_lem w s t [] r = none_in t ∙ sym (without_same (place_in s []) (place_in t []) 0 (none_in s ∙ sym (none_in t)))
  where
    none_in : (s : ℕ) → place_in s [] ≡ 0
    none_in s = place_out s [] (λ i. i)
place_without_lem w s t (a ∷ l) r =
    same_or a s
    (λ e. same_or a t
    (λ f.
    let away : (In t l → ⊥) = (λ i. before_self w a (subst (λ (x : ℕ). before w a x ≡ true) (sym f) (r.0 t i))) in
    rw (place_here s a l e, place_here t a l f) (place_out t l away ∙ sym (without_same 0 0 (length l) refl)))
    (λ f. rw (place_here s a l e, place_later t a l f) (sym (without_after 0 (suc (place_in t l)) (length l) (omega arith) ∙ omega arith))))
    (λ e. rw (place_later s a l e)
    (same_or a t
    (λ f. place_here t a _ f ∙ sym (rw (place_here t a l f) (without_before (suc (place_in s l)) 0 _ (omega arith))))
    (λ f. rw (place_later t a l f)
    (place_later t a _ f ∙ ap suc (place_without_lem w s t l r.1) ∙ without_suc (place_in s l) (place_in t l) _))))

module _ (n : ℕ) (numbers : List ℕ) (used s : ℕ) where
  -- the place of a row when another, or itself, is no longer used
  pub rows_moved : (t : ℕ) → place_in t (rows_of n numbers (removed s used))
      ≡ place_without (place_in s (rows_of n numbers used)) (place_in t (rows_of n numbers used)) (length (rows_of n numbers (removed s used)))
  rows_moved t =
      rw (rows_removed n numbers used s) (place_without_lem (λ t. get_or numbers t 0) s t (rows_of n numbers used) (rows_rise n numbers used))

-- a row that comes last stands there
pub place_last : (s : ℕ) (l : List ℕ) → place_in s l ≡ length l → place_in s (l ++ (s ∷ [])) ≡ length l
place_last s [] h = place_here s s [] refl
place_last s (a ∷ l) h =
    same_or a s (λ e. let z = place_here s a l e in absurd (omega arith))
    (λ d. let z = place_later s a l d in place_later s a (l ++ (s ∷ [])) d ∙ ap suc (place_last s l (omega arith)))

-- and the others where they stood
pub place_before : (t : ℕ) (l m : List ℕ) → place_in t l < length l → place_in t (l ++ m) ≡ place_in t l
place_before t [] m h = absurd (omega arith)
place_before t (a ∷ l) m h =
    same_or a t (λ e. place_here t a (l ++ m) e ∙ sym (place_here t a l e))
    (λ d. let z = place_later t a l d in place_later t a (l ++ m) d ∙ ap suc (place_before t l m (omega arith)) ∙ sym (place_later t a l d))

-- the first of two lists is what is taken of both
pub take_first : {A : Type 0} (l m : List A) → take (length l) (l ++ m) ≡ l
take_first [] m = refl
take_first (a ∷ l) m = rw (take_first l m)
