-- The elements of a parent, one after the other: what `elements` is at the end, at a fault and at an element, whatever is kept.
-- Assumes nothing.
use Prim.Native.Nat.{ℕ, zero, suc, ◌≤◌, ◌<◌}
use Rattle.std.proofs.Math.Path.{◌≡◌, refl, sym, ap}
use mathlib.Core.List.{List, [], ◌∷◌, map}
use Rattle.std.specs.Prelude.{true, take, drop, None, Some}
use Rattle.std.proofs.Math.ListN.{length}
use Rattle.std.proofs.Common.{drop_of_length-le, eqb-true, arith}
use Rattle.wire.specs.declared.read.Cursor.{Cursor}
use Rattle.wire.specs.declared.read.Element.{Element}
use Rattle.wire.specs.Element.{Elem, bad, elem, element, onward, Split, more, stop, at_most, elements, ended}
use Rattle.wire.specs.Places.Place.{element_at}
use Rattle.wire.specs.Laws.Within.{element_less, element_none, read_bad, read_is}

-- what holds where no element begins, and of bytes where it holds of what follows their first element, holds of all bytes
pub elements_ind : (P : List ℕ → Type 0)
    → ((l : List ℕ) → element l ≡ bad → P l)
    → ((l : List ℕ) (t : ℕ) (v r : List ℕ) → element l ≡ elem t v r → P r → P l)
    → (l : List ℕ) → P l
elements_ind P none some l = by (length l) l (omega arith)
  where
    by : (k : ℕ) (l : List ℕ) → length l ≤ k → P l
    by zero [] h = none [] element_none
    by zero (b ∷ l) h = absurd (omega arith)
    by (suc k) l h = go (λ r i. by k r (omega arith)) (element l) refl
      where
        go : ((r : List ℕ) → length r < length l → P r) → (e : Elem) → element l ≡ e → P l
        go ih bad q = none l q
        go ih (elem t v r) q = some l t v r q (ih r (omega (arith, element_less l q)))

module _ {A : Type 0} (keep : ℕ → List ℕ → List ℕ → A) where
  -- no bytes have no elements
  at_most_none : (k : ℕ) → at_most keep k [] ≡ stop []
  unfolding at_most onward
  at_most_none zero = refl
  at_most_none (suc k) = rw element_none

  -- the same, told by the length
  at_most_empty : (k : ℕ) (l : List ℕ) → length l ≤ 0 → at_most keep k l ≡ stop l
  at_most_empty k [] h = at_most_none k
  at_most_empty k (b ∷ l) h = absurd (omega arith)

  -- as many turns as bytes are enough: more make no difference
  pub enough : (k j : ℕ) (l : List ℕ) → length l ≤ k → length l ≤ j → at_most keep k l ≡ at_most keep j l
  unfolding at_most onward
  enough zero j l h i = sym (at_most_empty j l h)
  enough (suc k) zero l h i = at_most_empty (suc k) l i
  enough (suc k) (suc j) l h i = go (λ r m. enough k j r (omega arith) (omega arith)) (element l) refl
    where
      go : ((r : List ℕ) → length r < length l → at_most keep k r ≡ at_most keep j r) → (e : Elem) → element l ≡ e
          → onward e (stop l) (λ t v r. more (keep t v r) (at_most keep k r)) ≡ onward e (stop l) (λ t v r. more (keep t v r) (at_most keep j r))
      go ih bad q = refl
      go ih (elem t v r) q = ap (more (keep t v r)) (ih r (omega (arith, element_less l q)))

  -- where no element begins, none is kept, and all bytes are left
  pub elements_stop : (l : List ℕ) → element l ≡ bad → elements keep l ≡ stop l
  unfolding elements
  elements_stop [] e = refl
  elements_stop (b ∷ l) e = rw e

  -- no bytes have no elements
  pub elements_none : elements keep [] ≡ stop []
  elements_none = elements_stop [] element_none

  -- an element is kept in front of what follows it
  pub elements_more : (l : List ℕ) {t : ℕ} {v r : List ℕ} → element l ≡ elem t v r → elements keep l ≡ more (keep t v r) (elements keep r)
  unfolding elements
  elements_more [] e = absurd (let z : ◌≡◌ {A = ℕ} 0 1 = cc element_none in omega arith)
  elements_more (b ∷ l) {t} {v} {r} e =
      rw e (ap (more (keep t v r)) (enough (length l) (length r) r (omega (arith, element_less (b ∷ l) e)) (omega arith)))

  -- by places: at the end of the slice
  pub walk_end : (s : List ℕ) (at : ℕ) → length s ≤ at → elements keep (drop at s) ≡ stop []
  walk_end s at h = rw (drop_of_length-le s h) elements_none

  -- at a fault
  pub walk_bad : (s : List ℕ) (at : ℕ) → element_at s at ≡ None → elements keep (drop at s) ≡ stop (drop at s)
  walk_bad s at e = elements_stop (drop at s) (read_bad s at e)

  -- at an element
  pub walk_more : (s : List ℕ) (at : ℕ) (e : Element) (c : Cursor) → element_at s at ≡ Some (e, c)
      → elements keep (drop at s) ≡ more (keep e.typ (take e.len (drop e.at s)) (drop c.at s)) (elements keep (drop c.at s))
  walk_more s at e c i = elements_more (drop at s) (read_is s at e c i).same

module _ {A B : Type 0} (keep : ℕ → List ℕ → List ℕ → A) (keep' : ℕ → List ℕ → List ℕ → B) where
  -- whatever is kept, the same bytes are left
  pub rest_same : (l : List ℕ) → (elements keep l).rest ≡ (elements keep' l).rest
  rest_same =
      elements_ind (λ l. (elements keep l).rest ≡ (elements keep' l).rest)
      (λ l e. rw (elements_stop keep l e, elements_stop keep' l e))
      (λ l t v r e h. rw (elements_more keep l e, elements_more keep' l e) h)

  -- and the elements end at the last byte or not
  pub ended_same : (l : List ℕ) → ended (elements keep l) ≡ ended (elements keep' l)
  unfolding ended
  ended_same l = rw (rest_same l)

  -- what is made of what is kept
  pub kept : (f : A → B) → ((t : ℕ) (v r : List ℕ) → f (keep t v r) ≡ keep' t v r)
      → (l : List ℕ) → map f (elements keep l).items ≡ (elements keep' l).items
  kept f same =
      elements_ind (λ l. map f (elements keep l).items ≡ (elements keep' l).items)
      (λ l e. rw (elements_stop keep l e, elements_stop keep' l e))
      (λ l t v r e h. rw (elements_more keep l e, elements_more keep' l e, same t v r, h))

-- elements that end at the last byte leave none
pub ended_rest : {A : Type 0} (p : Split A) → ended p ≡ true → p.rest ≡ []
unfolding ended
ended_rest p e = go p.rest (eqb-true (length p.rest) 0 e)
  where
    go : (l : List ℕ) → length l ≡ 0 → l ≡ []
    go [] h = refl
    go (b ∷ l) h = absurd (omega arith)
