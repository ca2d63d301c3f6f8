-- What the order of opening is told by: a part of the rows, a row more, a row less, the first row, the place of a row, and other numbers.
-- Assumes nothing.
use Rattle.std.specs.Prelude.{ℕ, zero, suc, ◌+◌, ◌≤◌, ◌<◌, ◌≡◌, Bool, ◌&&◌, ◌≢◌, ◌↔◌, ◌⊎◌, eqb, length}
use Rattle.std.proofs.Math.Path.{refl, sym, ap}
use Rattle.std.proofs.Common.{subst, ◌∙◌, inl, inr, eqb-true, eq-or-lt_of_le}
use Rattle.std.proofs.Math.Bool.{true, false, true≢false}
use mathlib.Core.List.{List, [], ◌∷◌, ◌++◌}
use Rattle.std.proofs.Math.Logic.{⊎_elim}
use Rattle.std.proofs.Math.ListN.{get_or}
use Rattle.std.proofs.lemmas.Bool.{eqb-false}
use native.Mathlib.Omega.{arith}
use Rattle.laws.specs.Laws.Digits.{tally}
use Rattle.laws.specs.Laws.Loop.{and_both}
use Rattle.laws.specs.Laws.Pick.{pick_ind}
use Rattle.laws.specs.Lists.{index_of}
use Rattle.laws.specs.Pick.{pick}
use Rattle.records.specs.Slots.{only}
use Rattle.pending_order.specs.Laws.Order.{before_self, In, Rising, Sorts, ordered_sorts, ordered_is}
use Rattle.pending_order.specs.Order.{before, insert, ordered}
use Rattle.pending_order.specs.Places.Rows.{least}

-- a list has the elements of the two that it is made of
in_append : (t : ℕ) (l m : List ℕ) → In t (l ++ m) → In t l ⊎ In t m
in_append t [] m = λ i. inr i
in_append t (a ∷ l) m = λ i. ⊎_elim (λ q. inl (inl q)) (λ q. ⊎_elim (λ z. inl (inr z)) (λ z. inr z) (in_append t l m q)) i

append_left : (t : ℕ) (l m : List ℕ) → In t l → In t (l ++ m)
append_left t [] m = λ i. absurd i
append_left t (a ∷ l) m = λ i. ⊎_elim (λ q. inl q) (λ q. inr (append_left t l m q)) i

append_right : (t : ℕ) (l m : List ℕ) → In t m → In t (l ++ m)
append_right t [] m i = i
append_right t (a ∷ l) m i = inr (append_right t l m i)

-- what is kept was there, and the test holds of it
in_keep : (q : ℕ → Bool) (t : ℕ) (l : List ℕ) → In t (only q l) → In t l × (q t ≡ true)
unfolding only
in_keep q t [] = λ i. absurd i
in_keep q t (a ∷ l) =
    let more : (In t (only q l) → ((t ≡ a) ⊎ In t l) × (q t ≡ true)) = (λ i. (inr (in_keep q t l i).0, (in_keep q t l i).1)) in
    pick_ind (λ (r : List ℕ). In t r → ((t ≡ a) ⊎ In t l) × (q t ≡ true)) (q a) _ _
    (λ e i. ⊎_elim (λ z. (inl z, ap q z ∙ e)) more i) (λ e i. more i)

keep_in : (q : ℕ → Bool) (t : ℕ) (l : List ℕ) → q t ≡ true → In t l → In t (only q l)
unfolding only
keep_in q t [] h = λ i. absurd i
keep_in q t (a ∷ l) h =
    pick_ind (λ (r : List ℕ). (t ≡ a) ⊎ In t l → In t r) (q a) _ _
    (λ e i. ⊎_elim (λ z. inl z) (λ z. inr (keep_in q t l h z)) i)
    (λ e i. ⊎_elim (λ z. absurd (true≢false (sym h ∙ ap q z ∙ e))) (λ z. keep_in q t l h z) i)

rising_keep : (w : ℕ → ℕ) (q : ℕ → Bool) (l : List ℕ) → Rising w l → Rising w (only q l)
unfolding only
rising_keep w q [] r = tt
rising_keep w q (a ∷ l) r =
    pick_ind (λ (m : List ℕ). Rising w m) (q a) _ _
    (λ _. (λ t i. r.0 t (in_keep q t l i).0, rising_keep w q l r.1)) (λ _. rising_keep w q l r.1)

rising_snoc : (w : ℕ → ℕ) (l : List ℕ) (s : ℕ) → Rising w l → ((t : ℕ) → In t l → before w t s ≡ true) → Rising w (l ++ (s ∷ []))
rising_snoc w [] s r h = (λ t i. absurd i, tt)
rising_snoc w (a ∷ l) s r h = (
  λ t i. ⊎_elim (λ q. r.0 t q) (λ q. ⊎_elim (λ z. rw z (h a (inl refl))) (λ z. absurd z) q) (in_append t l (s ∷ []) i),
  rising_snoc w l s r.1 (λ t i. h t (inr i)),
)

module _ (w : ℕ → ℕ) (p : ℕ → Bool) (n : ℕ) where
  -- a row is in the list exactly where it is used
  pub ordered_in : (s : ℕ) → In s (ordered w p n) ↔ ((s < n) × (p s ≡ true))
  ordered_in s = let o = ordered_sorts w p n in (o.only s, λ h. o.all s h.0 h.1)

  -- numbers in the same order, and the same rows, make the same list
  pub ordered_same : (v : ℕ → ℕ) (q : ℕ → Bool) → ((t : ℕ) → t < n → p t ≡ q t)
      → ((s t : ℕ) → s < n → t < n → p s ≡ true → p t ≡ true → before w s t ≡ true → before v s t ≡ true)
      → ordered w p n ≡ ordered v q n
  ordered_same v q e h =
      let o = ordered_sorts w p n in
      sym (ordered_is v q n _ (record {
        rises = rises (ordered w p n) o.rises o.only;
        only = λ t i. ((o.only t i).0, sym (e t (o.only t i).0) ∙ (o.only t i).1);
        all = λ t l z. o.all t l (e t l ∙ z);
      }))
    where
      rises : (l : List ℕ) → Rising w l → ((t : ℕ) → In t l → (t < n) × (p t ≡ true)) → Rising v l
      rises [] r k = tt
      rises (a ∷ l) r k = (
        λ t i. h a t (k a (inl refl)).0 (k t (inr i)).0 (k a (inl refl)).1 (k t (inr i)).1 (r.0 t i),
        rises l r.1 (λ t i. k t (inr i)),
      )

  -- the rows that q holds of too are what q keeps of the list
  pub ordered_keep : (q : ℕ → Bool) → ordered w (λ t. p t && q t) n ≡ only q (ordered w p n)
  ordered_keep q =
      let o = ordered_sorts w p n in
      ordered_is w _ n _ (record {
        rises = rising_keep w q _ o.rises;
        only = λ t i. let k = in_keep q t _ i in ((o.only t k.0).0, rw ((o.only t k.0).1, k.1));
        all = λ t l z. keep_in q t _ (and_both (p t) (q t) z).1 (o.all t l (and_both (p t) (q t) z).0);
      })

  -- a row opened after all others comes last
  pub ordered_open : (s : ℕ) (q : ℕ → Bool) → s < n → p s ≡ false → q s ≡ true → ((t : ℕ) → t ≢ s → q t ≡ p t)
      → ((t : ℕ) → t < n → p t ≡ true → before w t s ≡ true) → ordered w q n ≡ ordered w p n ++ (s ∷ [])
  ordered_open s q l a b e h =
      let o = ordered_sorts w p n in
      let other : ((t : ℕ) → p t ≡ true → t ≢ s) = (λ t x y. true≢false (sym x ∙ ap p y ∙ a)) in
      ordered_is w q n _ (record {
        rises = rising_snoc w (ordered w p n) s o.rises (λ t i. h t (o.only t i).0 (o.only t i).1);
        only = λ t i. ⊎_elim
            (λ z. let k = o.only t z in (k.0, e t (other t k.1) ∙ k.1))
            (λ z. ⊎_elim (λ y. (rw y l, rw y b)) (λ y. absurd y) z)
            (in_append t (ordered w p n) (s ∷ []) i);
        all = λ t g z. place t g z (eqb t s) refl;
      })
    where
      place : (t : ℕ) → t < n → q t ≡ true → (c : Bool) → eqb t s ≡ c → In t (ordered w p n ++ (s ∷ []))
      place t g z true y = append_right t (ordered w p n) _ (inl (eqb-true t s y))
      place t g z false y =
          append_left t (ordered w p n) _ ((ordered_sorts w p n).all t g (sym (e t (eqb-false t s y)) ∙ z))

  -- the first row is used, if there is one, and no used row is before it: the only such number
  pub least_of_lem : (r : ℕ) → r ≤ n → (r < n → p r ≡ true) → ((t : ℕ) → t < n → p t ≡ true → (r < n) × (before w t r ≡ false))
      → r ≡ least w p n
  unfolding least
  least_of_lem r a b c = go (ordered w p n) (ordered_sorts w p n)
    where
      at : (x : ℕ) → (r ≡ x) ⊎ (before w x r ≡ true) → before w x r ≡ false → r ≡ x
      at x (inl e) g = e
      at x (inr e) g = absurd (true≢false (sym e ∙ g))

      go : (l : List ℕ) → Sorts w p n l → r ≡ get_or l 0 n
      go [] o = ⊎_elim (λ e. e) (λ e. absurd (o.all r e (b e))) (eq-or-lt_of_le a)
      go (x ∷ l) o =
          let k = o.only x (inl refl) in
          let m = c x k.0 k.1 in
          at x (⊎_elim (λ e. inl e) (λ e. inr (o.rises.0 r e)) (o.all r m.0 (b m.0))) m.1

  -- the list starts with the first row, and goes on with the rows without it
  pub ordered_next : (r : ℕ) (q : ℕ → Bool) → r ≡ least w p n → r < n → q r ≡ false → ((t : ℕ) → t ≢ r → q t ≡ p t)
      → ordered w p n ≡ r ∷ ordered w q n
  unfolding least
  ordered_next r q a b e f = go (ordered w p n) (ordered_sorts w p n) a
    where
      rest : (x : ℕ) (l : List ℕ) → Sorts w p n (x ∷ l) → x ≡ r → Sorts w q n l
      rest x l o z = record {
        rises = o.rises.1;
        only = λ t i. (
          (o.only t (inr i)).0,
          f t (λ y. before_self w x (subst (λ (k : ℕ). before w x k ≡ true) (y ∙ sym z) (o.rises.0 t i))) ∙ (o.only t (inr i)).1,
        );
        all = λ t g y.
            let d : t ≢ r = (λ k. true≢false (sym y ∙ ap q k ∙ e)) in
            ⊎_elim (λ k. absurd (d (k ∙ z))) (λ k. k) (o.all t g (sym (f t d) ∙ y));
      }

      go : (l : List ℕ) → Sorts w p n l → r ≡ get_or l 0 n → l ≡ r ∷ ordered w q n
      go [] o z = absurd (omega arith)
      go (x ∷ l) o z = let k = ordered_is w q n l (rest x l o (sym z)) in cc

  -- the first row is used, if there is one
  pub least_in : least w p n < n → p (least w p n) ≡ true
  unfolding least
  least_in h = go (ordered w p n) (ordered_sorts w p n) h
    where
      go : (l : List ℕ) → Sorts w p n l → get_or l 0 n < n → p (get_or l 0 n) ≡ true
      go [] o z = absurd (omega arith)
      go (x ∷ l) o z = (o.only x (inl refl)).1

  -- where there is no first row there are none
  pub ordered_end : n ≤ least w p n → ordered w p n ≡ []
  unfolding least
  ordered_end h = go (ordered w p n) (ordered_sorts w p n) h
    where
      go : (l : List ℕ) → Sorts w p n l → n ≤ get_or l 0 n → l ≡ []
      go [] o z = refl
      go (x ∷ l) o z = absurd (omega (arith, (o.only x (inl refl)).0))

-- what is kept starts with the first element that the test holds of
pub keep_first : (q : ℕ → Bool) (l : List ℕ) (d : ℕ) → get_or (only q l) 0 d ≡ get_or l (index_of q l) d
unfolding only index_of pick
keep_first q [] d = refl
keep_first q (a ∷ l) d = go (q a) (keep_first q l d)
  where
    go : (b : Bool) → get_or (only q l) 0 d ≡ get_or l (index_of q l) d
        → get_or (pick b (a ∷ only q l) (only q l)) 0 d ≡ get_or (a ∷ l) (pick b 0 (suc (index_of q l))) d
    go true h = refl
    go false h = h

-- the first row of the list that q holds of is the first of the rows that q holds of
pub least_found : (w : ℕ → ℕ) (p q : ℕ → Bool) (n : ℕ)
    → least w (λ t. p t && q t) n ≡ get_or (ordered w p n) (index_of q (ordered w p n)) n
unfolding least
least_found w p q n = rw (ordered_keep w p n q) (keep_first q (ordered w p n) n)

-- a row more is one more
length_insert : (w : ℕ → ℕ) (s : ℕ) (l : List ℕ) → length (insert w s l) ≡ suc (length l)
unfolding insert
length_insert w s [] = refl
length_insert w s (a ∷ l) =
    pick_ind (λ (r : List ℕ). length r ≡ suc (suc (length l))) (before w s a) _ _ (λ _. refl) (λ _. ap suc (length_insert w s l))

-- a sum over one place more
tally_last : (d : ℕ) (m : ℕ → ℕ) → tally (suc d) m ≡ tally d m + m d
unfolding tally
tally_last zero m = omega arith
tally_last (suc d) m = omega (arith, tally_last d (λ i. m (suc i)))

-- the list has as many rows as are used
pub ordered_length : (w : ℕ → ℕ) (p : ℕ → Bool) (n : ℕ) → length (ordered w p n) ≡ tally n (λ t. pick (p t) 1 0)
unfolding ordered
ordered_length w p zero = unfold tally in refl
ordered_length w p (suc n) =
    tail (p n) ∙ sym (tally_last n (λ t. pick (p t) 1 0) ∙ ap (λ (x : ℕ). x + pick (p n) 1 0) (sym (ordered_length w p n)))
  where
    tail : (b : Bool) → length (pick b (insert w n (ordered w p n)) (ordered w p n)) ≡ length (ordered w p n) + pick b 1 0
    tail true = unfold pick in omega (arith, length_insert w n (ordered w p n))
    tail false = unfold pick in omega arith

-- there are at most n
pub ordered_most : (w : ℕ → ℕ) (p : ℕ → Bool) (n : ℕ) → length (ordered w p n) ≤ n
unfolding ordered
ordered_most w p zero = omega arith
ordered_most w p (suc n) =
    let h = ordered_most w p n in
    pick_ind (λ (l : List ℕ). length l ≤ suc n) (p n) _ _ (λ _. omega (arith, length_insert w n (ordered w p n))) (λ _. omega arith)
