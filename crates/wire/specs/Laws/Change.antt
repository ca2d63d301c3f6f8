-- One byte within the value of an element is replaced: the elements stay, and of their values that one alone changes.
-- Assumes nothing.
use Prim.Native.Nat.{ℕ, suc, ◌+◌, ◌-◌, ◌^◌, ◌≤◌, ◌<◌}
use Rattle.std.specs.Prelude.{◌≡◌, Bool}
use Rattle.std.proofs.Math.Path.{refl}
use Rattle.std.proofs.Common.{sym, ◌∙◌, ap}
use Rattle.std.proofs.Math.Bool.{true, false}
use mathlib.Core.List.{List, [], ◌∷◌, ◌++◌}
use Rattle.std.proofs.Math.ListN.{length, set, length-append}
use Rattle.std.proofs.Math.Dec.{eqb}
use borrow.Author.Tests.{eqb-true, eqb-false, ne_eqb}
use native.Mathlib.Omega.{arith}
use Rattle.laws.specs.Pick.{pick}
use Rattle.wire.specs.Element.{elem, element, more, elements}
use Rattle.wire.specs.Write.{head_of, written}
use Rattle.wire.specs.Bytes.{Bytes}
use Rattle.wire.specs.Laws.Within.{element_within, element_less, rest_bytes}
use Rattle.wire.specs.Laws.Walk.{elements_ind, elements_stop, elements_more}
use Rattle.wire.specs.Laws.Exact.{element_exact}
use Rattle.wire.specs.Laws.Round.{element_written}

-- bytes that n others follow, with y for the byte that j bytes follow, if it is one of them
unfoldable pub changed : ℕ → ℕ → ℕ → List ℕ → List ℕ
changed j y n [] = []
changed j y n (b ∷ l) = pick (eqb (n + length l) j) y b ∷ changed j y n l

module _ (j y : ℕ) where
  -- as many bytes
  pub length_changed : (n : ℕ) (l : List ℕ) → length (changed j y n l) ≡ length l
  unfolding changed
  length_changed n [] = refl
  length_changed n (b ∷ l) = rw (length_changed n l)

  -- two parts, one after the other
  pub changed_append : (n : ℕ) (a b : List ℕ) → changed j y n (a ++ b) ≡ changed j y (n + length b) a ++ changed j y n b
  unfolding changed
  changed_append n [] b = refl
  changed_append n (x ∷ a) b =
      let e : n + length (a ++ b) ≡ n + length b + length a = omega (arith, length-append a b) in rw (e, changed_append n a b)

  -- the byte is not one of them
  pub changed_out : (n : ℕ) (l : List ℕ) → (n ≤ j → j < n + length l → ⊥) → changed j y n l ≡ l
  unfolding changed pick
  changed_out n [] h = refl
  changed_out n (b ∷ l) h =
      rw (ne_eqb (n + length l) j (λ e. h (omega arith) (omega arith)), changed_out n l (λ a c. h a (omega arith)))

  -- in all bytes it is the store at its place
  pub changed_set : (l : List ℕ) → j < length l → changed j y 0 l ≡ set l (length l - j - 1) y
  unfolding changed pick
  changed_set [] h = absurd (omega arith)
  changed_set (b ∷ l) h = go (eqb (0 + length l) j) refl (λ i. changed_set l i)
    where
      go : (c : Bool) → eqb (0 + length l) j ≡ c → (j < length l → changed j y 0 l ≡ set l (length l - j - 1) y)
          → changed j y 0 (b ∷ l) ≡ set (b ∷ l) (suc (length l) - j - 1) y
      go true e ih =
          let q = eqb-true (0 + length l) j e in
          let z : suc (length l) - j - 1 ≡ 0 = omega arith in
          rw (z, e, changed_out 0 l (λ a b. omega arith))
      go false e ih =
          let q = eqb-false (0 + length l) j e in
          let z : suc (length l) - j - 1 ≡ suc (length l - j - 1) = omega arith in
          rw (z, e, ih (omega arith))

-- an element and what follows it, where the byte stands behind the element's head
written_changed : (j y t : ℕ) (v r : List ℕ) → j < length v + length r
    → changed j y 0 (written t v ++ r) ≡ written t (changed j y (length r) v) ++ changed j y 0 r
written_changed j y t v r h =
    let p : List ℕ = head_of t (length v) in
    let is : (u : List ℕ) → written t u ≡ head_of t (length u) ++ u = (λ u. unfold written in refl) in
    let z : 0 + length r ≡ length r = omega arith in
    let o : changed j y (length r + length v) p ≡ p = changed_out j y (length r + length v) p (λ a b. omega arith) in
    rw (
      is v,
      changed_append j y 0 (p ++ v) r,
      z,
      changed_append j y (length r) p v,
      o,
      is (changed j y (length r) v),
      length_changed j y (length r) v,
    )

-- an element of bytes, where the byte stands behind its head: the byte is replaced in its value, or in what follows it
pub element_changed : (j y : ℕ) (l : List ℕ) {t : ℕ} {v r : List ℕ} → Bytes l → length l < 2 ^ 64 → element l ≡ elem t v r
    → j < length v + length r → element (changed j y 0 l) ≡ elem t (changed j y (length r) v) (changed j y 0 r)
element_changed j y l {t} {v} {r} b n e h =
    let i = element_within l e in
    let w = length_changed j y (length r) v in
    ap (λ (x : List ℕ). element (changed j y 0 x)) (element_exact l b e)
    ∙ rw (written_changed j y t v r h)
    (element_written t (changed j y (length r) v) (changed j y 0 r) i.low (omega (arith, i.high)) (omega (arith, element_less l e)))

-- the byte that j bytes follow stands in no head of the elements that l begins with: it stands before l, or behind the first element's head
-- and in no head of what follows that
pub data Clear (j : ℕ) : List ℕ → Type 0 where
  before : {l : List ℕ} → length l ≤ j → Clear j l
  behind : {l v r : List ℕ} {t : ℕ} → element l ≡ elem t v r → j < length v + length r → Clear j r → Clear j l

module _ {A : Type 0} (keep : ℕ → List ℕ → List ℕ → A) (j y : ℕ) where
  -- what is kept of an element after the change
  abbrev pub keep_changed : ℕ → List ℕ → List ℕ → A
  keep_changed t v r = keep t (changed j y (length r) v) (changed j y 0 r)

  -- of bytes behind the one that is replaced the same is kept
  kept_behind : (l : List ℕ) → length l ≤ j → elements keep l ≡ elements keep_changed l
  kept_behind =
      elements_ind (λ l. length l ≤ j → elements keep l ≡ elements keep_changed l)
      (λ l e h. rw (elements_stop keep l e, elements_stop keep_changed l e))
      (λ l t v r e ih h.
      let n = element_less l e in
      let a : changed j y (length r) v ≡ v = changed_out j y (length r) v (λ a b. omega arith) in
      let b : changed j y 0 r ≡ r = changed_out j y 0 r (λ a b. omega arith) in
      rw (elements_more keep l e, elements_more keep_changed l e, ih (omega arith), a, b))

  -- the elements after the change are those before it, of which that is kept
  pub elements_changed : (l : List ℕ) → Bytes l → length l < 2 ^ 64 → Clear j l → elements keep (changed j y 0 l) ≡ elements keep_changed l
  elements_changed l b n (before h) = rw (changed_out j y 0 l (λ a c. omega arith)) (kept_behind l h)
  elements_changed l b n (behind {v = v} {r = r} {t = t} e h c) =
      elements_more keep (changed j y 0 l) (element_changed j y l b n e h)
      ∙ ap (more (keep_changed t v r)) (elements_changed r (rest_bytes l b e) (omega (arith, element_less l e)) c)
      ∙ sym (elements_more keep_changed l e)
