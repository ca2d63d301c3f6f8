-- The longest matching route, in words: `longest` finds the first route that matches and than which no matching route is longer.
-- Assumes nothing.
use Rattle.std.specs.Prelude.{ℕ, ◌≡◌, ◌↔◌, Bool, length}
use Rattle.std.proofs.Math.Path.{refl, ap}
use Rattle.std.proofs.Common.{sym, ◌∙◌, arith}
use Rattle.std.proofs.Math.Logic.{inl, inr, ⊎_elim}
use Rattle.std.proofs.Math.Bool.{true, false, false≢true}
use mathlib.Core.List.Memᴰ
use mathlib.Core.List.{List, [], ◌∷◌, Memᴰ}
use Rattle.std.proofs.Math.Option.{Option, none, some}
use Rattle.std.proofs.Math.Dec.{ltb}
use borrow.Author.Tests.{ltb-true, ltb-false}
use Rattle.laws.specs.Pick.{pick}
use Rattle.names.specs.Name.{prefix_of}
use Rattle.records.specs.Route.{Route, longer, longest}
use Rattle.refusals.specs.Refusals.{First, NoneOf, Fits, Longest}
use Rattle.refusals.specs.Laws.Tells.{Tells, tells_prefix}

-- the first of a kind is of the kind and in the list
first_in : {A : Type 0} (P : A → Type 0) (x : A) (l : List A) → First P x l → P x × Memᴰ x l
first_in P x [] h = absurd h
first_in P x (a ∷ l) (inl h) = (rw (sym h.1) h.0, Memᴰ.head (sym h.1))
first_in P x (a ∷ l) (inr h) = let (p, m) = first_in P x l h.1 in (p, Memᴰ.tail m)

-- there is one first
first_one : {A : Type 0} (P : A → Type 0) (x y : A) (l : List A) → First P x l → First P y l → x ≡ y
first_one P x y [] h k = absurd h
first_one P x y (a ∷ l) (inl h) (inl k) = sym h.1 ∙ k.1
first_one P x y (a ∷ l) (inl h) (inr k) = absurd (k.0 h.0)
first_one P x y (a ∷ l) (inr h) (inl k) = absurd (h.0 k.0)
first_one P x y (a ∷ l) (inr h) (inr k) = first_one P x y l h.1 k.1

-- the same kind in other words
first_as : {A : Type 0} {P Q : A → Type 0} (x : A) (l : List A) → ((a : A) → P a ↔ Q a) → First P x l → First Q x l
first_as x [] i h = h
first_as x (a ∷ l) i (inl h) = inl ((i a).0 h.0, h.1)
first_as x (a ∷ l) i (inr h) = inr (λ q. h.0 ((i a).1 q), first_as x l i h.1)

-- equal routes are equally long
long : {r s : Route} → r ≡ s → length r.name ≡ length s.name
long q = ap (λ (r : Route). length r.name) q

module _ (name : List ℕ) where
  -- what is found among routes
  Found : List Route → Option Route → Type 0
  Found rs none = NoneOf (Fits name) rs
  Found rs (some r) = First (Longest name rs) r rs

  -- fewer routes have no longer one
  longest_tail : (a : Route) (rs : List Route) (x : Route) → Longest name (a ∷ rs) x → Longest name rs x
  longest_tail a rs x l = (l.0, λ y m. l.1 y (Memᴰ.tail m))

  -- a route in front that does not match
  found_skip : (a : Route) (rs : List Route) (o : Option Route) → ¬ Fits name a → Found rs o → Found (a ∷ rs) o
  unfolding Found
  found_skip a rs none h k = λ x m. ⊎_elim (λ q y. h (rw q at y)) (k x) (Memᴰ.cases_cons m)
  found_skip a rs (some r) h k =
      inr (
        λ l. h l.0,
        first_as r rs (λ x. (
          λ l. (l.0, λ y m z. ⊎_elim (λ q. h (rw q at z.0)) (λ j. l.1 y j z) (Memᴰ.cases_cons m)),
          longest_tail a rs x,
        )) k,
      )

  -- a route in front that matches
  found_longer : (a : Route) (rs : List Route) (o : Option Route) → Fits name a → Found rs o → Found (a ∷ rs) (longer a o)
  unfolding Found longer pick
  found_longer a rs none h k =
      inl ((h, λ y m z. ⊎_elim (λ q. omega (arith, z.1, long q)) (λ j. k y j z.0) (Memᴰ.cases_cons m)), refl)
  found_longer a rs (some q) h k = go (ltb (length a.name) (length q.name)) refl (first_in (Longest name rs) q rs k)
    where
      go : (b : Bool) → ltb (length a.name) (length q.name) ≡ b → Longest name rs q × Memᴰ q rs
          → Found (a ∷ rs) (pick b (some q) (some a))
      go true e (best, m) =
          let s = ltb-true (length a.name) (length q.name) e in
          inr (
            λ l. l.1 q (Memᴰ.tail m) (best.0, s),
            first_as q rs
                (λ x. (
                  λ l. (
                    l.0,
                    λ y i z. ⊎_elim (λ p. l.1 q m (best.0, omega (arith, z.1, long p))) (λ j. l.1 y j z)
                        (Memᴰ.cases_cons i),
                  ),
                  longest_tail a rs x,
                ))
                k,
          )
      go false e (best, m) =
          let s = ltb-false (length a.name) (length q.name) e in
          inl (
            (
              h,
              λ y i z. ⊎_elim (λ p. omega (arith, z.1, long p)) (λ j. best.1 y j (z.0, omega (arith, z.1)))
                  (Memᴰ.cases_cons i),
            ),
            refl,
          )

  -- what `longest` finds
  found : (rs : List Route) → Found rs (longest name rs)
  unfolding Found longest pick
  found [] = λ x m. absurd (Memᴰ.not-nil m)
  found (a ∷ rs) = go (prefix_of a.name name) (tells_prefix a.name name) (found rs)
    where
      go : (b : Bool) → Tells b (Fits name a) → Found rs (longest name rs)
          → Found (a ∷ rs) (pick b (longer a (longest name rs)) (longest name rs))
      go true t k = found_longer a rs (longest name rs) (t.0 refl) k
      go false t k = found_skip a rs (longest name rs) (λ h. false≢true (t.1 h)) k

  -- the longest matching route is found, and is what is found
  pub longest_is : (rs : List Route) (r : Route) → (longest name rs ≡ some r) ↔ First (Longest name rs) r rs
  unfolding Found
  longest_is rs r = (λ q. rw q at (found rs), λ h. go (longest name rs) (found rs) h)
    where
      go : (o : Option Route) → Found rs o → First (Longest name rs) r rs → o ≡ some r
      go none k h = let (l, m) = first_in (Longest name rs) r rs h in absurd (k r m l.0)
      go (some x) k h = ap some (first_one (Longest name rs) x r rs k h)

  -- nothing is found where no route matches
  pub longest_none : (rs : List Route) → (longest name rs ≡ none) ↔ NoneOf (Fits name) rs
  unfolding Found
  longest_none rs = (λ q. rw q at (found rs), λ h. go (longest name rs) (found rs) h)
    where
      go : (o : Option Route) → Found rs o → NoneOf (Fits name) rs → o ≡ none
      go none k h = refl
      go (some x) k h = let (l, m) = first_in (Longest name rs) x rs k in absurd (h x m l.0)
