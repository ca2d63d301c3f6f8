-- A list of rows that rises and has the rows that p holds of is the only one: so each law shows this of its right side.
-- Assumes nothing.
use Rattle.std.specs.Prelude.{ℕ, zero, suc, ◌≤◌, ◌<◌, ◌≡◌, Bool, true, false, ◌&&◌, ◌||◌, ◌≢◌, ◌⊎◌, ltb, eqb}
use Rattle.std.proofs.Math.Path.{refl}
use Rattle.std.proofs.Common.{sym, ap, subst, ◌∙◌, true≢false, ltb-true, ltb-false, eqb-true, lt-ltb, le-ltb, eq-eqb, eq-or-lt_of_le, arith}
use mathlib.Core.List.{List, [], ◌∷◌}
use Rattle.std.proofs.Math.Logic.{inl, inr, ⊎_elim}
use Rattle.std.proofs.lemmas.Bool.{eqb-false}
use Rattle.laws.specs.Laws.Pick.{pick_ind}
use Rattle.pending_order.specs.Order.{before, insert, ordered}

-- a row before another has the smaller number, or the same and the smaller place
pub before_yes : (w : ℕ → ℕ) (s t : ℕ) → before w s t ≡ true → (w s ≤ w t) × (w t ≤ w s → s < t)
unfolding before
before_yes w s t = go (ltb (w s) (w t)) (eqb (w s) (w t)) refl refl
  where
    go : (a b : Bool) → ltb (w s) (w t) ≡ a → eqb (w s) (w t) ≡ b → a || (b && ltb s t) ≡ true → (w s ≤ w t) × (w t ≤ w s → s < t)
    go true b x y e = let h = ltb-true (w s) (w t) x in (omega arith, λ l. omega arith)
    go false true x y e = let h = eqb-true (w s) (w t) y in (omega arith, λ l. ltb-true s t e)
    go false false x y e = absurd (let z : ◌≡◌ {A = ℕ} 0 1 = cc in omega arith)

-- and the other way round
pub before_of : (w : ℕ → ℕ) (s t : ℕ) → w s ≤ w t → (w t ≤ w s → s < t) → before w s t ≡ true
unfolding before
before_of w s t a h = ⊎_elim
    (λ (e : w s ≡ w t). rw (le-ltb (w s) (w t) (omega arith), eq-eqb (w s) (w t) e, lt-ltb s t (h (omega arith))))
    (λ (e : w s < w t). rw (lt-ltb (w s) (w t) e)) (eq-or-lt_of_le a)

-- what is not before another comes after it, or is the same
pub before_no : (w : ℕ → ℕ) (s t : ℕ) → before w s t ≡ false → (w t ≤ w s) × (w s ≤ w t → t ≤ s)
unfolding before
before_no w s t = go (ltb (w s) (w t)) (eqb (w s) (w t)) refl refl
  where
    go : (a b : Bool) → ltb (w s) (w t) ≡ a → eqb (w s) (w t) ≡ b → a || (b && ltb s t) ≡ false → (w t ≤ w s) × (w s ≤ w t → t ≤ s)
    go true b x y e = absurd (let z : ◌≡◌ {A = ℕ} 0 1 = cc in omega arith)
    go false true x y e = let h = eqb-true (w s) (w t) y in (omega arith, λ l. ltb-false s t e)
    go false false x y e =
        let h = ltb-false (w s) (w t) x in
        let g = eqb-false (w s) (w t) y in
        (omega arith, λ l. absurd (g (omega arith)))

-- s is in a list
abbrev pub In : ℕ → List ℕ → Type 0
In s [] = ⊥
In s (a ∷ l) = (s ≡ a) ⊎ In s l

-- each element comes before all that follow it
abbrev pub Rising : (ℕ → ℕ) → List ℕ → Type 0
Rising w [] = Unit {0}
Rising w (a ∷ l) = ((t : ℕ) → In t l → before w a t ≡ true) × Rising w l

module _ (w : ℕ → ℕ) where
  -- no row is before itself
  pub before_self : (s : ℕ) → before w s s ≡ true → ⊥
  before_self s e = omega (arith, (before_yes w s s e).1 (omega arith))

  -- what is before a row that is before another is before that
  pub before_trans : (s t u : ℕ) → before w s t ≡ true → before w t u ≡ true → before w s u ≡ true
  before_trans s t u a b =
      let x = before_yes w s t a in
      let y = before_yes w t u b in
      before_of w s u (omega arith) (λ h. omega (arith, x.1 (omega arith), y.1 (omega arith)))

  -- of two rows one is before the other
  pub before_total : (s t : ℕ) → s ≢ t → before w s t ≡ false → before w t s ≡ true
  before_total s t n e =
      let x = before_no w s t e in
      before_of w t s (omega arith) (λ h. ⊎_elim (λ q. absurd (n (sym q))) (λ q. q) (eq-or-lt_of_le (x.1 h)))

  -- two lists that rise and have the same elements are equal
  pub rising_one : (l m : List ℕ) → Rising w l → Rising w m → ((t : ℕ) → In t l → In t m) → ((t : ℕ) → In t m → In t l) → l ≡ m
  rising_one [] [] a b f g = refl
  rising_one [] (y ∷ m) a b f g = absurd (g y (inl refl))
  rising_one (x ∷ l) [] a b f g = absurd (f x (inl refl))
  rising_one (x ∷ l) (y ∷ m) a b f g =
      let e : x ≡ y = same (f x (inl refl)) (g y (inl refl)) in
      let h = rising_one l m a.1 b.1
      (λ t i. other t (f t (inr i)) (λ q. before_self x (subst (λ (z : ℕ). before w x z ≡ true) (q ∙ sym e) (a.0 t i))))
      (λ t i. other' t (g t (inr i)) (λ q. before_self y (subst (λ (z : ℕ). before w y z ≡ true) (q ∙ e) (b.0 t i)))) in
      cc
    where
      same : (x ≡ y) ⊎ In x m → (y ≡ x) ⊎ In y l → x ≡ y
      same (inl p) q = p
      same (inr p) (inl q) = sym q
      same (inr p) (inr q) = absurd (before_self x (before_trans x y x (a.0 y q) (b.0 x p)))

      other : (t : ℕ) → (t ≡ y) ⊎ In t m → (t ≡ y → ⊥) → In t m
      other t (inl p) n = absurd (n p)
      other t (inr p) n = p

      other' : (t : ℕ) → (t ≡ x) ⊎ In t l → (t ≡ x → ⊥) → In t l
      other' t (inl p) n = absurd (n p)
      other' t (inr p) n = p

  -- what is put in is there, and so is what was there, and nothing else
  in_insert : (s t : ℕ) (l : List ℕ) → In t (insert w s l) → (t ≡ s) ⊎ In t l
  unfolding insert
  in_insert s t [] = λ i. i
  in_insert s t (a ∷ l) =
      pick_ind (λ (r : List ℕ). In t r → (t ≡ s) ⊎ ((t ≡ a) ⊎ In t l)) (before w s a) _ _ (λ _ i. i)
      (λ _ i. ⊎_elim (λ q. inr (inl q)) (λ q. ⊎_elim (λ z. inl z) (λ z. inr (inr z)) (in_insert s t l q)) i)

  insert_new : (s : ℕ) (l : List ℕ) → In s (insert w s l)
  unfolding insert
  insert_new s [] = inl refl
  insert_new s (a ∷ l) = pick_ind (λ (r : List ℕ). In s r) (before w s a) _ _ (λ _. inl refl) (λ _. inr (insert_new s l))

  insert_old : (s t : ℕ) (l : List ℕ) → In t l → In t (insert w s l)
  unfolding insert
  insert_old s t [] i = absurd i
  insert_old s t (a ∷ l) i =
      pick_ind (λ (r : List ℕ). In t r) (before w s a) _ _ (λ _. inr i)
      (λ _. ⊎_elim (λ q. inl q) (λ q. inr (insert_old s t l q)) i)

  -- a row that is not there is put in so that the list rises
  rising_insert : (s : ℕ) (l : List ℕ) → (In s l → ⊥) → Rising w l → Rising w (insert w s l)
  unfolding insert
  rising_insert s [] n r = (λ t i. absurd i, tt)
  rising_insert s (a ∷ l) n r =
      pick_ind (λ (m : List ℕ). Rising w m) (before w s a) _ _
      (λ e. (λ t i. ⊎_elim (λ q. rw q e) (λ q. before_trans s a t e (r.0 t q)) i, r))
      (λ e. (
        λ t i. ⊎_elim (λ q. rw q (before_total s a (λ z. n (inl z)) e)) (λ q. r.0 t q) (in_insert s t l i),
        rising_insert s l (λ z. n (inr z)) r.1,
      ))

-- l has those of n rows that p holds of, in order
pub record Sorts (w : ℕ → ℕ) (p : ℕ → Bool) (n : ℕ) (l : List ℕ) : Type 0 where
  pub rises : Rising w l
  pub only : (t : ℕ) → In t l → (t < n) × (p t ≡ true)
  pub all : (t : ℕ) → t < n → p t ≡ true → In t l

-- `ordered` does
pub ordered_sorts : (w : ℕ → ℕ) (p : ℕ → Bool) (n : ℕ) → Sorts w p n (ordered w p n)
unfolding ordered
ordered_sorts w p zero = record { rises = tt; only = λ t i. absurd i; all = λ t h e. absurd (omega arith) }
ordered_sorts w p (suc n) =
    let o = ordered_sorts w p n in
    pick_ind (λ (l : List ℕ). Sorts w p (suc n) l) (p n) _ _
    (λ e. record {
      rises = rising_insert w n _ (λ i. omega (arith, o.only n i)) o.rises;
      only = λ t i. ⊎_elim (λ q. (omega arith, rw q e)) (λ q. (omega (arith, o.only t q), (o.only t q).1)) (in_insert w n t _ i);
      all = λ t h z. ⊎_elim (λ q. let t≡n : t ≡ n = omega arith in rw t≡n (insert_new w n _))
          (λ q. insert_old w n t _ (o.all t (omega arith) z)) (eq-or-lt_of_le h);
    })
    (λ e. record {
      rises = o.rises;
      only = λ t i. (omega (arith, o.only t i), (o.only t i).1);
      all = λ t h z. ⊎_elim (λ q. let t≡n : t ≡ n = omega arith in absurd (true≢false (sym z ∙ ap p t≡n ∙ e)))
          (λ q. o.all t (omega arith) z) (eq-or-lt_of_le h);
    })

-- and no other list does
pub ordered_is : (w : ℕ → ℕ) (p : ℕ → Bool) (n : ℕ) (l : List ℕ) → Sorts w p n l → ordered w p n ≡ l
ordered_is w p n l s =
    let o = ordered_sorts w p n in
    rising_one w _ l o.rises s.rises (λ t i. s.all t (o.only t i).0 (o.only t i).1)
    (λ t i. o.all t (s.only t i).0 (s.only t i).1)
