-- The place of a row in the order of opening: a row changed, taken out or looked for is that element of the list changed, taken out or
-- found.
-- Assumes nothing.
use Rattle.std.specs.Prelude.{ℕ, zero, suc, ◌<◌, ◌≡◌, Bool, true, false, not, ◌≢◌, eqb, length, get_or}
use Rattle.std.proofs.Math.Path.{refl, subst}
use Rattle.std.proofs.Common.{sym, ap, ◌∙◌, inl, inr, ⊎_elim, eqb-true, eq-eqb, ne_eqb, eq-or-lt_of_le, arith}
use mathlib.Core.List.{List, [], ◌∷◌, map}
use Rattle.std.proofs.lemmas.Bool.{eqb-false}
use Rattle.laws.specs.Laws.Pick.{pick_yes, pick_no}
use Rattle.laws.specs.Laws.Tab.{index_of_le}
use Rattle.laws.specs.Lists.{on_at, without, index_of}
use Rattle.records.specs.Slots.{only}
use Rattle.pending_order.specs.Laws.Order.{before_self, In, Rising, ordered_sorts}
use Rattle.pending_order.specs.Laws.Rows.{ordered_in}
use Rattle.pending_order.specs.Order.{before, ordered, place_in}

-- the place of a row, by its first element
pub place_here : (s a : ℕ) (l : List ℕ) → a ≡ s → place_in s (a ∷ l) ≡ 0
unfolding place_in index_of
place_here s a l e = rw (eq-eqb a s e, pick_yes)

pub place_later : (s a : ℕ) (l : List ℕ) → a ≢ s → place_in s (a ∷ l) ≡ suc (place_in s l)
unfolding place_in index_of
place_later s a l n = rw (ne_eqb a s n, pick_no)

-- what holds where two numbers are equal, and where not, holds
pub same_or : {A : Type 0} (a b : ℕ) → (a ≡ b → A) → (a ≢ b → A) → A
same_or {A} a b f g = go (eqb a b) refl
  where
    go : (c : Bool) → eqb a b ≡ c → A
    go true e = f (eqb-true a b e)
    go false e = g (eqb-false a b e)

-- a row that is in the list has its place there
pub place_in_lem : (s : ℕ) (l : List ℕ) (d : ℕ) → In s l → (place_in s l < length l) × (get_or l (place_in s l) d ≡ s)
place_in_lem s [] d i = absurd i
place_in_lem s (a ∷ l) d i =
    same_or a s (λ e. rw (place_here s a l e) (omega arith, e))
    (λ n. let h = place_in_lem s l d (⊎_elim (λ e. absurd (n (sym e))) (λ e. e) i) in rw (place_later s a l n) (omega arith, h.1))

-- a row that is not in the list has the place past its end
pub place_out : (s : ℕ) (l : List ℕ) → (In s l → ⊥) → place_in s l ≡ length l
unfolding place_in index_of
place_out s [] n = refl
place_out s (a ∷ l) n = place_later s a l (λ e. n (inl (sym e))) ∙ ap suc (place_out s l (λ i. n (inr i)))

-- an element is in the list
in_at : (l : List ℕ) (i d : ℕ) → i < length l → In (get_or l i d) l
in_at [] i d h = absurd (omega arith)
in_at (a ∷ l) zero d h = inl refl
in_at (a ∷ l) (suc i) d h = inr (in_at l i d (omega arith))

-- no row is in a list that rises twice: the place of element i is i
pub place_at : (w : ℕ → ℕ) (l : List ℕ) (i d : ℕ) → Rising w l → i < length l → place_in (get_or l i d) l ≡ i
place_at w [] i d r h = absurd (omega arith)
place_at w (a ∷ l) zero d r h = place_here a a l refl
place_at w (a ∷ l) (suc i) d r h =
    let g : i < length l = omega arith in
    place_later (get_or l i d) a l (λ e. before_self w a (subst (λ (x : ℕ). before w a x ≡ true) (sym e) (r.0 _ (in_at l i d g))))
    ∙ ap suc (place_at w l i d r.1 g)

module _ {A : Type 0} (g h : ℕ → A) (f : A → A) (s : ℕ) (e : h s ≡ f (g s)) where
  -- what differs only at a row that is not in the list makes the same of the list
  map_away : (l : List ℕ) → (In s l → ⊥) → ((t : ℕ) → In t l → t ≢ s → h t ≡ g t) → map h l ≡ map g l
  map_away [] n o = refl
  map_away (a ∷ l) n o = rw (o a (inl refl) (λ q. n (inl (sym q))), map_away l (λ i. n (inr i)) (λ t i. o t (inr i)))

  -- a row changed is the element at its place changed
  pub map_place : (w : ℕ → ℕ) (l : List ℕ) → Rising w l → ((t : ℕ) → In t l → t ≢ s → h t ≡ g t)
      → map h l ≡ on_at (place_in s l) f (map g l)
  unfolding on_at
  map_place w [] r o = refl
  map_place w (a ∷ l) r o =
      same_or a s
      (λ q.
      let away : (In s l → ⊥) = (λ i. before_self w a (subst (λ (x : ℕ). before w a x ≡ true) (sym q) (r.0 s i))) in
      let first : h a ≡ f (g a) = subst (λ (x : ℕ). h x ≡ f (g x)) (sym q) e in
      rw (place_here s a l q, first, map_away l away (λ t i. o t (inr i))))
      (λ n. rw (place_later s a l n, o a (inl refl) n, map_place w l r.1 (λ t i. o t (inr i))))

-- without a row the list has the element at its place taken out
pub keep_place : (w : ℕ → ℕ) (s : ℕ) (l : List ℕ) → Rising w l → only (λ t. not (eqb t s)) l ≡ without (place_in s l) l
unfolding only without
keep_place w s [] r = refl
keep_place w s (a ∷ l) r =
    same_or a s
    (λ q. rw (place_here s a l q, eq-eqb a s q, pick_no)
    (all l (λ i. before_self w a (subst (λ (x : ℕ). before w a x ≡ true) (sym q) (r.0 s i)))))
    (λ n. rw (place_later s a l n, ne_eqb a s n, pick_yes, keep_place w s l r.1))
  where
    all : (l : List ℕ) → (In s l → ⊥) → only (λ t. not (eqb t s)) l ≡ l
    all [] n = refl
    all (a ∷ l) n = rw (ne_eqb a s (λ q. n (inl (sym q))), pick_yes, all l (λ i. n (inr i)))

-- what is made of a list without an element is what is made of the list, without that element
pub map_without : {A B : Type 0} (g : A → B) (i : ℕ) (l : List A) → map g (without i l) ≡ without i (map g l)
unfolding without
map_without g i [] = refl
map_without g zero (a ∷ l) = refl
map_without g (suc i) (a ∷ l) = rw (map_without g i l)

-- a search in what is made of a list
pub index_of_map : {A B : Type 0} (g : A → B) (q : B → Bool) (l : List A) → index_of q (map g l) ≡ index_of (λ a. q (g a)) l
unfolding index_of
index_of_map g q [] = refl
index_of_map g q (a ∷ l) = rw (index_of_map g q l)

module _ (w : ℕ → ℕ) (p : ℕ → Bool) (n : ℕ) where
  -- the place of the first row that q holds of is where a search in the list ends
  pub place_found : (q : ℕ → Bool)
      → place_in (get_or (ordered w p n) (index_of q (ordered w p n)) n) (ordered w p n) ≡ index_of q (ordered w p n)
  place_found q = ⊎_elim
      (λ (e : index_of q (ordered w p n) ≡ length (ordered w p n)).
      rw (e, past (ordered w p n)) (place_out n (ordered w p n) (λ i. omega (arith, ((ordered_in w p n n).0 i).0))))
      (λ (e : index_of q (ordered w p n) < length (ordered w p n)). place_at w (ordered w p n) _ n (ordered_sorts w p n).rises e)
      (eq-or-lt_of_le (index_of_le q (ordered w p n)))
    where
      past : (l : List ℕ) → get_or l (length l) n ≡ n
      past [] = refl
      past (a ∷ l) = past l
