-- Reading does not look past what it reads: more bytes behind change only what follows.
-- Assumes nothing.
use Rattle.std.specs.Prelude.{ℕ, ◌≤◌, ◌≡◌, refl, Bool, true, false, List, [], ◌∷◌, ◌++◌, length, ltb, eqb}
use Rattle.std.proofs.Common.{sym, ◌∙◌, ap, length-append, ltb-false, le-ltb, arith}
use Rattle.std.proofs.lemmas.List.{take-append-le, drop-append-le}
use Rattle.laws.specs.Pick.{pick}
use Rattle.laws.specs.Laws.Pick.{pick_ind}
use Rattle.wire.specs.Number.{Got, nothing, got, wide, long, any_number, width_of, shortest, number}
use Rattle.wire.specs.Element.{elem, element, Split, elements, ended}
use Rattle.wire.specs.Laws.Within.{Parts, element_parts, element_of}
use Rattle.wire.specs.Laws.Walk.{elements_ind, elements_stop, elements_more, ended_rest}

-- the second is the first, if that is a number, with x behind it
abbrev Extends : List ℕ → Got → Got → Type 0
Extends x nothing g = Unit {0}
Extends x (got v w r) g = g ≡ got v w (r ++ x)

-- n bytes after a first one
extends_wide : (n : ℕ) (l x : List ℕ) → Extends x (wide n l) (wide n (l ++ x))
unfolding wide pick
extends_wide n l x =
    pick_ind (λ g. Extends x g (wide n (l ++ x))) (ltb (length l) n) _ _ (λ e. tt)
    (λ e.
    let h : n ≤ length l = ltb-false (length l) n e in
    let i : n ≤ length (l ++ x) = omega (arith, length-append l x) in
    rw (le-ltb (length (l ++ x)) n i, take-append-le n l x h, drop-append-le n l x h))

-- the forms of 3, 5 and 9 bytes
extends_long : (b : ℕ) (l x : List ℕ) → Extends x (long b l) (long b (l ++ x))
unfolding long pick
extends_long b l x = go (eqb b 253) (eqb b 254)
  where
    go : (c d : Bool) → Extends x (pick c (wide 2 l) (pick d (wide 4 l) (wide 8 l))) (pick c (wide 2 (l ++ x)) (pick d (wide 4 (l ++ x)) (wide 8 (l ++ x))))
    go true d = extends_wide 2 l x
    go false true = extends_wide 4 l x
    go false false = extends_wide 8 l x

-- a number in any form
extends_any : (l x : List ℕ) → Extends x (any_number l) (any_number (l ++ x))
unfolding any_number pick
extends_any [] x = tt
extends_any (b ∷ l) x = go (ltb b 253)
  where
    go : (c : Bool) → Extends x (pick c (got b 1 l) (long b l)) (pick c (got b 1 (l ++ x)) (long b (l ++ x)))
    go true = refl
    go false = extends_long b l x

-- a number in its shortest form
extends_short : (x : List ℕ) (g h : Got) → Extends x g h → Extends x (shortest g) (shortest h)
unfolding shortest pick
extends_short x nothing h e = tt
extends_short x (got v w r) h e = rw e (go (eqb w (width_of v)))
  where
    go : (c : Bool) → Extends x (pick c (got v w r) nothing) (pick c (got v w (r ++ x)) nothing)
    go true = refl
    go false = tt

-- a number in its shortest form, with more bytes behind it
pub number_extend : (l x : List ℕ) {v w : ℕ} {r : List ℕ} → number l ≡ got v w r → number (l ++ x) ≡ got v w (r ++ x)
unfolding number
number_extend l x {v} {w} {r} e =
    let h : Extends x (got v w r) (number (l ++ x)) = rw e at (extends_short x (any_number l) (any_number (l ++ x)) (extends_any l x)) in
    h

-- an element, with more bytes behind it
pub element_extend : (l x : List ℕ) {t : ℕ} {v r : List ℕ} → element l ≡ elem t v r → element (l ++ x) ≡ elem t v (r ++ x)
element_extend l x {t} {v} {r} e =
    let p : Parts l t v r = element_parts l e in
    let q : Parts (l ++ x) t v (r ++ x) = record {
      first = p.first;
      after = p.after ++ x;
      typ = number_extend l x p.typ;
      low = p.low;
      high = p.high;
      second = p.second;
      body = p.body ++ x;
      len = number_extend p.after x p.len;
      fits = omega (arith, length-append p.body x);
      value = p.value ∙ sym (take-append-le (length v) p.body x p.fits);
      rest = ap (λ (y : List ℕ). y ++ x) p.rest ∙ sym (drop-append-le (length v) p.body x p.fits);
    } in
    element_of q

-- elements in front of others
abbrev pub before : {A : Type 0} → List A → Split A → Split A
before a p = record { items = a ++ p.items; rest = p.rest }

module _ {A : Type 0} (keep : ℕ → List ℕ → List ℕ → A) (alike : (t : ℕ) (v r r' : List ℕ) → keep t v r ≡ keep t v r') where
  -- bytes that end with their last element, with more bytes behind them: the elements of both, and what is left of the second
  pub elements_extend : (l x : List ℕ) → ended (elements keep l) ≡ true → elements keep (l ++ x) ≡ before (elements keep l).items (elements keep x)
  elements_extend l x e =
      elements_ind (λ l. (elements keep l).rest ≡ [] → elements keep (l ++ x) ≡ before (elements keep l).items (elements keep x))
      (λ l e. rw (elements_stop keep l e) (λ z. rw z))
      (λ l t v r e ih. rw (elements_more keep l e, elements_more keep (l ++ x) (element_extend l x e)) (λ z. rw (ih z, alike t v (r ++ x) r)))
      l
      (ended_rest (elements keep l) e)
