-- The numbers of the rows: one above all others, and rows numbered anew by their places.
-- Assumes nothing.
use Rattle.std.specs.Prelude.{ℕ, zero, suc, ◌≤◌, ◌<◌, max, ◌≡◌, Bool, true, List, [], ◌∷◌, ◌≢◌}
use Rattle.std.proofs.Math.Path.{refl}
use Rattle.std.proofs.Common.{sym, ap, subst, ◌∙◌, ⊎_elim, eq-or-lt_of_le}
use Rattle.std.proofs.Math.Bool.{false}
use native.Mathlib.Omega.{arith}
use Rattle.laws.specs.Laws.Pick.{pick_ind, pick_yes, pick_no}
use Rattle.laws.specs.Pick.{pick}
use Rattle.pending_order.specs.Laws.Order.{before_of, before_self, before_trans, In, Rising, ordered_sorts}
use Rattle.pending_order.specs.Laws.Place.{same_or, place_here, place_later}
use Rattle.pending_order.specs.Laws.Rows.{ordered_same}
use Rattle.pending_order.specs.Order.{before, ordered, place_in}
use Rattle.pending_order.specs.Places.Rows.{above}

-- of two rows in a list that rises, the one that is before the other has the smaller place
place_less : (w : ℕ → ℕ) (s t : ℕ) (l : List ℕ) → Rising w l → In s l → In t l → before w s t ≡ true → place_in s l < place_in t l
place_less w s t [] r i j b = absurd i
place_less w s t (a ∷ l) r i j b =
    same_or a s
    (λ q.
    let d : a ≢ t = (λ z. before_self w s (subst (λ (x : ℕ). before w s x ≡ true) (sym z ∙ q) b)) in
    rw (place_here s a l q, place_later t a l d) (omega arith))
    (λ n.
    let k : In s l = ⊎_elim (λ e. absurd (n (sym e))) (λ e. e) i in
    let d : a ≢ t = (λ z. before_self w s (before_trans w s t s b (subst (λ (x : ℕ). before w x s ≡ true) z (r.0 s k)))) in
    let h = place_less w s t l r.1 k (⊎_elim (λ e. absurd (d (sym e))) (λ e. e) j) b in
    rw (place_later s a l n, place_later t a l d) (omega arith))

-- rows that are numbered by their places keep their order
pub ordered_renumbered : (w v : ℕ → ℕ) (p : ℕ → Bool) (n : ℕ) → ((t : ℕ) → t < n → p t ≡ true → v t ≡ place_in t (ordered w p n))
    → ordered v p n ≡ ordered w p n
ordered_renumbered w v p n h =
    let o = ordered_sorts w p n in
    sym (ordered_same w p n v p (λ t _. refl) (λ s t a b c d e.
    let k = place_less w s t (ordered w p n) o.rises (o.all s a c) (o.all t b d) e in
    before_of v s t (omega (arith, h s a c, h t b d)) (λ z. omega (arith, h s a c, h t b d))))

-- each row that p holds of has a number below the one above all
pub above_at : (w : ℕ → ℕ) (p : ℕ → Bool) (n t : ℕ) → t < n → p t ≡ true → w t < above w p n
unfolding above
above_at w p zero t h e = absurd (omega arith)
above_at w p (suc n) t h e =
    ⊎_elim (λ (q : suc t ≡ suc n). let z : n ≡ t = omega arith in rw (pick_yes (p n) _ _ (ap p z ∙ e)) (omega (arith, ap w z)))
    (λ q.
    let k = above_at w p n t (omega arith) e in
    pick_ind (λ (r : ℕ). w t < r) (p n) _ _ (λ _. omega arith) (λ _. omega arith)) (eq-or-lt_of_le h)

-- the same rows with the same numbers have the same number above all
pub above_ext : (w v : ℕ → ℕ) (p q : ℕ → Bool) (n : ℕ) → ((t : ℕ) → t < n → p t ≡ q t) → ((t : ℕ) → t < n → p t ≡ true → w t ≡ v t)
    → above w p n ≡ above v q n
unfolding above
above_ext w v p q zero a b = refl
above_ext w v p q (suc n) a b =
    let h = above_ext w v p q n (λ t l. a t (omega arith)) (λ t l. b t (omega arith)) in
    rw (← (a n (omega arith)), h) (arm (p n) (λ e. b n (omega arith) e))
  where
    arm : (c : Bool) → (c ≡ true → w n ≡ v n)
        → pick c (max (suc (w n)) (above v q n)) (above v q n) ≡ pick c (max (suc (v n)) (above v q n)) (above v q n)
    arm true e = rw (e refl)
    arm false e = unfold pick in refl

-- with one row taken out, the number above all is above that row and the others
pub above_next : (w : ℕ → ℕ) (p q : ℕ → Bool) (n s : ℕ) → s < n → p s ≡ true → q s ≡ false → ((t : ℕ) → t ≢ s → q t ≡ p t)
    → above w p n ≡ max (suc (w s)) (above w q n)
unfolding above
above_next w p q zero s l a b e = absurd (omega arith)
above_next w p q (suc n) s l a b e =
    ⊎_elim
    (λ z.
    let n≡s : n ≡ s = omega arith in
    let h : above w p n ≡ above w q n = above_ext w w p q n (λ t g. sym (e t (λ y. omega arith))) (λ _ _ _. refl) in
    rw (pick_yes (p n) _ _ (ap p n≡s ∙ a), pick_no (q n) _ _ (ap q n≡s ∙ b), h, ap w n≡s))
    (λ z.
    let h = above_next w p q n s (omega arith) a b e in
    rw (e n (λ y. omega arith)) (arm (p n) h))
    (eq-or-lt_of_le l)
  where
    arm : (c : Bool) → above w p n ≡ max (suc (w s)) (above w q n)
        → pick c (max (suc (w n)) (above w p n)) (above w p n) ≡ max (suc (w s)) (pick c (max (suc (w n)) (above w q n)) (above w q n))
    arm true h = unfold pick in omega arith
    arm false h = unfold pick in h

-- a number above those of all rows is no smaller
pub above_le : (w : ℕ → ℕ) (p : ℕ → Bool) (n m : ℕ) → ((t : ℕ) → t < n → p t ≡ true → w t < m) → above w p n ≤ m
unfolding above
above_le w p zero m h = omega arith
above_le w p (suc n) m h =
    let k = above_le w p n m (λ t l. h t (omega arith)) in
    pick_ind (λ (r : ℕ). r ≤ m) (p n) _ _ (λ e. omega (arith, h n (omega arith) e)) (λ _. k)
