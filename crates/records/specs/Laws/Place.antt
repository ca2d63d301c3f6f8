-- What stands at a place of a list: of one made from places, before and after a change, and with those before it taken or dropped.
-- Assumes nothing.
use Prim.Native.Nat.{ℕ, suc, zero, ◌+◌, ◌≤◌, ◌<◌}
use Rattle.std.proofs.Math.Path.{◌≡◌}
use Rattle.std.specs.Prelude.{refl, length, ltb}
use Rattle.std.proofs.Common.{sym, ◌∙◌, lt-ltb, add-zero}
use mathlib.Core.List.{List, [], ◌∷◌}
use Rattle.std.proofs.Math.Option.{none, some}
use Rattle.std.proofs.Math.Dec.{leb-suc-zero, leb-suc-suc}
use native.Mathlib.Omega.{arith}
use Rattle.laws.specs.Pick.{pick}
use Rattle.laws.specs.Laws.Pick.{pick_yes, pick_no}
use Rattle.laws.specs.Places.Tab.{tab}
use Rattle.laws.specs.Lists.{on_at}
use Rattle.records.specs.Slots.{at_place}

-- the element at place j is what g gives j places on, below m
pub at_place_tab : {A : Type 0} (g : ℕ → A) (i m j : ℕ) → at_place j (tab g i m) ≡ pick (ltb j m) (some (g (i + j))) none
unfolding tab at_place
at_place_tab g i zero j = sym (pick_no _ _ _ (leb-suc-zero j))
at_place_tab g i (suc m) zero = sym (rw add-zero (pick_yes _ _ _ (lt-ltb 0 (suc m) (omega arith))))
at_place_tab g i (suc m) (suc j) =
    let z : i + suc j ≡ suc i + j = omega arith in
    rw (leb-suc-suc (suc j) m, z) (at_place_tab g (suc i) m j)

-- the element at a place of a list made from places
pub place_in_lem : {A : Type 0} (g : ℕ → A) (i m j : ℕ) → j < m → at_place j (tab g i m) ≡ some (g (i + j))
place_in_lem g i m j h = at_place_tab g i m j ∙ pick_yes _ _ _ (lt-ltb j m h)

-- past the last element there is none
pub place_past : {A : Type 0} (l : List A) (i : ℕ) → length l ≤ i → at_place i l ≡ none
unfolding at_place
place_past [] i h = refl
place_past (a ∷ l) zero h = absurd (omega arith)
place_past (a ∷ l) (suc i) h = place_past l i (omega arith)

module _ {A : Type 0} where
  -- below the length there is an element at a place
  pub place_some : (i : ℕ) (l : List A) → i < length l → (a : A) × (at_place i l ≡ some a)
  unfolding at_place
  place_some i [] h = absurd (omega arith)
  place_some zero (a ∷ l) h = (a, refl)
  place_some (suc i) (a ∷ l) h = place_some i l (omega arith)

  -- there is an element at a place below the length only
  pub place_lt : (i : ℕ) (l : List A) (a : A) → at_place i l ≡ some a → i < length l
  unfolding at_place
  place_lt i [] a e = let z : ◌≡◌ {A = ℕ} 0 1 = cc in omega arith
  place_lt zero (b ∷ l) a e = omega arith
  place_lt (suc i) (b ∷ l) a e = omega (arith, place_lt i l a e)

  -- the element at a place after its change
  pub place_on_at : (i : ℕ) (f : A → A) (l : List A) (a : A) → at_place i l ≡ some a → at_place i (on_at i f l) ≡ some (f a)
  unfolding at_place on_at
  place_on_at i f [] a e = let z : ◌≡◌ {A = ℕ} 0 1 = cc in absurd (omega arith)
  place_on_at zero f (b ∷ l) a e = cc
  place_on_at (suc i) f (b ∷ l) a e = place_on_at i f l a e
