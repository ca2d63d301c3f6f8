-- Lists made from places, which is what a view of a table is: an element changed, taken out, put at the end or looked for.
-- Assumes nothing.
use Prim.Native.Nat.{ℕ, suc, zero, ◌+◌, ◌-◌, ◌≤◌, ◌<◌}
use Rattle.std.specs.Prelude.{◌≡◌, Bool, true, false, ◌≢◌, length, get_or, drop, set, replicate}
use Rattle.std.proofs.Math.Path.{refl, sym, ap}
use Rattle.std.proofs.Common.{◌∙◌, zero-add, ext_get_or}
use mathlib.Core.List.{List, [], ◌∷◌, ◌++◌, map}
use native.Mathlib.Omega.{arith}
use Rattle.std.proofs.Math.Nat.{add-zero}
use Rattle.std.proofs.Math.Numerals.{add-one}
use Rattle.laws.specs.Laws.Pick.{pick_ind, pick_ap, pick_eq}
use Rattle.laws.specs.Places.Loop.{first, turns}
use Rattle.laws.specs.Places.Rows.{at}
use Rattle.laws.specs.Places.Tab.{tab}
use Rattle.laws.specs.Lists.{on_at, without, index_of}

module _ {A : Type 0} where
  -- m places give m elements
  pub length_tab : (g : ℕ → A) (i m : ℕ) → length (tab g i m) ≡ m
  unfolding tab
  length_tab g i zero = refl
  length_tab g i (suc m) = ap suc (length_tab g (suc i) m)

  -- element j is what g gives j places on
  pub get_d_tab : (g : ℕ → A) (i m j : ℕ) (d : A) → j < m → get_or (tab g i m) j d ≡ g (i + j)
  unfolding tab
  get_d_tab g i zero j d h = absurd (omega arith)
  get_d_tab g i (suc m) zero d h = rw add-zero
  get_d_tab g i (suc m) (suc j) d h = let z : i + suc j ≡ suc i + j = omega arith in rw z (get_d_tab g (suc i) m j d (omega arith))

  -- functions that agree at each place make the same list
  pub tab_ext : (g h : ℕ → A) (i m : ℕ) → ((k : ℕ) → i ≤ k → k < i + m → g k ≡ h k) → tab g i m ≡ tab h i m
  unfolding tab
  tab_ext g h i zero e = refl
  tab_ext g h i (suc m) e =
      rw (e i (omega arith) (omega arith), tab_ext g h (suc i) m (λ k a b. e k (omega arith) (omega arith)))

  -- where h is at each place what g is at the next, h makes the list that g makes one place on
  pub tab_shift : (g h : ℕ → A) (i m : ℕ) → ((k : ℕ) → i ≤ k → k < i + m → h k ≡ g (k + 1)) → tab h i m ≡ tab g (i + 1) m
  unfolding tab
  tab_shift g h i zero e = refl
  tab_shift g h i (suc m) e =
      let s : suc (i + 1) ≡ suc i + 1 = omega arith in
      rw (s, e i (omega arith) (omega arith), tab_shift g h (suc i) m (λ k a b. e k (omega arith) (omega arith)))

  -- one place more makes one element more, at the end
  pub tab_snoc : (g : ℕ → A) (i m : ℕ) → tab g i (m + 1) ≡ tab g i m ++ (g (i + m) ∷ [])
  unfolding tab
  tab_snoc g i zero = rw add-zero
  tab_snoc g i (suc m) =
      let a : suc m + 1 ≡ suc (m + 1) = omega arith in
      let b : i + suc m ≡ suc i + m = omega arith in
      rw (a, b, tab_snoc g (suc i) m)

  -- where h is g but for one place, changed by f, h makes the list of g with that element changed
  pub tab_at : (g h : ℕ → A) (f : A → A) (i m j : ℕ) → h (i + j) ≡ f (g (i + j))
      → ((k : ℕ) → i ≤ k → k < i + m → k ≢ i + j → h k ≡ g k) → tab h i m ≡ on_at j f (tab g i m)
  unfolding tab on_at
  tab_at g h f i zero j e o = refl
  tab_at g h f i (suc m) zero e o =
      let e' : h i ≡ f (g i) = rw add-zero at e in
      rw (e', tab_ext h g (suc i) m (λ k a b. o k (omega arith) (omega arith) (λ q. omega arith)))
  tab_at g h f i (suc m) (suc j) e o =
      let z : i + suc j ≡ suc i + j = omega arith in
      let e' : h (suc i + j) ≡ f (g (suc i + j)) = rw z at e in
      rw (
        o i (omega arith) (omega arith) (λ q. omega arith),
        tab_at g h f (suc i) m j e' (λ k a b n. o k (omega arith) (omega arith) (λ q. n (omega arith))),
      )

  -- where h is g up to a place, and from there what g is at the next, h makes the list of g with that element taken out
  pub tab_without : (g h : ℕ → A) (i m j : ℕ) → j < m + 1 → ((k : ℕ) → i ≤ k → k < i + j → h k ≡ g k)
      → ((k : ℕ) → i + j ≤ k → k < i + m → h k ≡ g (k + 1)) → tab h i m ≡ without j (tab g i (m + 1))
  unfolding tab without
  tab_without g h i m zero l a b =
      rw (add-one m, ← (add-one i)) (tab_shift g h i m (λ k p q. b k (omega arith) q))
  tab_without g h i zero (suc j) l a b = absurd (omega arith)
  tab_without g h i (suc m) (suc j) l a b =
      let s : suc m + 1 ≡ suc (m + 1) = omega arith in
      rw (
        s,
        a i (omega arith) (omega arith),
        tab_without g h (suc i) m j (omega arith) (λ k p q. a k (omega arith) (omega arith)) (λ k p q. b k (omega arith) (omega arith)),
      )

  -- where h is at each place what g is at the next, and x at the last, h makes the list of g with its first element gone and x at the end
  pub tab_push : (g h : ℕ → A) (x : A) (i m : ℕ) → ((k : ℕ) → i ≤ k → k < i + m → h k ≡ g (k + 1)) → h (i + m) ≡ x
      → tab h i (m + 1) ≡ drop 1 (tab g i (m + 1)) ++ (x ∷ [])
  unfolding tab
  tab_push g h x i m e l = tab_snoc h i m ∙ rw (add-one m, l, tab_shift g h i m e, add-one i)

  -- a search by places is a search in the list
  pub first_tab : (p : A → Bool) (g : ℕ → A) (q : ℕ → Bool) (i m : ℕ) → ((k : ℕ) → i ≤ k → k < i + m → q k ≡ p (g k))
      → first q i m ≡ i + index_of p (tab g i m)
  unfolding tab index_of first
  first_tab p g q i zero e = omega arith
  first_tab p g q i (suc m) e =
      let s = first_tab p g q (suc i) m (λ k a b. e k (omega arith) (omega arith)) in
      rw (e i (omega arith) (omega arith), pick_ap (λ (r : ℕ). i + r)) (pick_eq _ _ _ _ _ (λ _. omega arith) (λ _. omega arith))

  -- a change past the end changes nothing
  pub on_at_out : (i : ℕ) (f : A → A) (l : List A) → length l ≤ i → on_at i f l ≡ l
  unfolding on_at
  on_at_out i f [] h = refl
  on_at_out zero f (a ∷ l) h = absurd (omega arith)
  on_at_out (suc i) f (a ∷ l) h = rw (on_at_out i f l (omega arith))

  -- a change by places is a change in the list
  pub at_on_at : (d : A) (i : ℕ) (f : A → A) (l : List A) → at d i f l ≡ on_at i f l
  unfolding at on_at
  at_on_at d i f [] = refl
  at_on_at d zero f (a ∷ l) = refl
  at_on_at d (suc i) f (a ∷ l) = rw (at_on_at d i f l)

  -- where h is g but for one place, where it is x, h makes the list of g with x stored there
  pub tab_set : (g h : ℕ → A) (x : A) (i m j : ℕ) → h (i + j) ≡ x → ((k : ℕ) → i ≤ k → k < i + m → k ≢ i + j → h k ≡ g k)
      → tab h i m ≡ set (tab g i m) j x
  unfolding at
  tab_set g h x i m j e o = tab_at g h (λ _. x) i m j e o ∙ sym (at_on_at x j (λ _. x) (tab g i m))

  -- what is x at each place makes a list of x
  pub tab_replicate : (g : ℕ → A) (x : A) (i m : ℕ) → ((k : ℕ) → i ≤ k → k < i + m → g k ≡ x) → tab g i m ≡ replicate m x
  unfolding tab
  tab_replicate g x i zero e = refl
  tab_replicate g x i (suc m) e =
      rw (e i (omega arith) (omega arith), tab_replicate g x (suc i) m (λ k a b. e k (omega arith) (omega arith)))

  -- a change keeps the length
  pub length_on_at : (i : ℕ) (f : A → A) (l : List A) → length (on_at i f l) ≡ length l
  unfolding on_at
  length_on_at i f [] = refl
  length_on_at zero f (a ∷ l) = refl
  length_on_at (suc i) f (a ∷ l) = ap suc (length_on_at i f l)

  -- past the end there is nothing to take out
  pub without_out : (i : ℕ) (l : List A) → length l ≤ i → without i l ≡ l
  unfolding without
  without_out i [] h = refl
  without_out zero (a ∷ l) h = absurd (omega arith)
  without_out (suc i) (a ∷ l) h = rw (without_out i l (omega arith))

  -- an element taken out makes the list one shorter
  pub length_without : (i : ℕ) (l : List A) → i < length l → length (without i l) + 1 ≡ length l
  unfolding without
  length_without i [] h = absurd (omega arith)
  length_without zero (a ∷ l) h = omega arith
  length_without (suc i) (a ∷ l) h = omega (arith, length_without i l (omega arith))

  -- without an element below m a list of at most m elements has room for one more
  pub without_less : (i m : ℕ) (l : List A) → length l ≤ m → i < m → length (without i l) < m
  unfolding without
  without_less i m [] h g = omega arith
  without_less zero m (a ∷ l) h g = omega arith
  without_less (suc i) m (a ∷ l) h g = omega (arith, without_less i (m - 1) l (omega arith) (omega arith))

  -- without its first element a list is what follows it
  pub without_first : (l : List A) → without 0 l ≡ drop 1 l
  unfolding without
  without_first [] = refl
  without_first (a ∷ l) = refl

-- what f makes of the elements is what it makes at each place
pub map_tab : {A B : Type 0} (f : A → B) (g : ℕ → A) (i m : ℕ) → map f (tab g i m) ≡ tab (λ k. f (g k)) i m
unfolding tab
map_tab f g i zero = refl
map_tab f g i (suc m) = rw (map_tab f g (suc i) m)

module _ {A : Type 0} (p : A → Bool) where
  -- a search in a list gives at most the length
  pub index_of_le : (l : List A) → index_of p l ≤ length l
  unfolding index_of
  index_of_le [] = omega arith
  index_of_le (a ∷ l) = pick_ind (λ (r : ℕ). r ≤ suc (length l)) (p a) _ _ (λ _. omega arith) (λ _. omega (arith, index_of_le l))

  -- p holds of the element at the place that a search gives, if there is one
  pub index_of_at : (l : List A) (d : A) → index_of p l < length l → p (get_or l (index_of p l) d) ≡ true
  unfolding index_of
  index_of_at [] d = λ h. absurd (omega arith)
  index_of_at (a ∷ l) d =
      pick_ind (λ (r : ℕ). r < suc (length l) → p (get_or (a ∷ l) r d) ≡ true) (p a) _ _ (λ e _. e) (λ _ h. index_of_at l d (omega arith))

  -- p fails of each element before the place that a search gives
  pub index_of_before : (l : List A) (k : ℕ) (d : A) → k < index_of p l → p (get_or l k d) ≡ false
  unfolding index_of
  index_of_before [] k d = λ h. absurd (omega arith)
  index_of_before (a ∷ l) zero d = pick_ind (λ (r : ℕ). 0 < r → p a ≡ false) (p a) _ _ (λ _ h. absurd (omega arith)) (λ e _. e)
  index_of_before (a ∷ l) (suc k) d =
      pick_ind (λ (r : ℕ). suc k < r → p (get_or l k d) ≡ false) (p a) _ _ (λ _ h. absurd (omega arith))
      (λ _ h. index_of_before l k d (omega arith))

module _ {A : Type 0} (g : ℕ → A) where
  -- without the first k elements there is what g gives from k places on
  pub drop_tab : (i m k : ℕ) → drop k (tab g i m) ≡ tab g (i + k) (m - k)
  unfolding tab
  drop_tab i m zero = let z : m - 0 ≡ m = omega arith in rw (z, add-zero)
  drop_tab i zero (suc k) = let z : 0 - suc k ≡ 0 = omega arith in rw z
  drop_tab i (suc m) (suc k) =
      let z : suc m - suc k ≡ m - k = omega arith in
      let s : i + suc k ≡ suc i + k = omega arith in
      rw (z, s, drop_tab (suc i) m k)

-- a list is made from its places
pub tab_list : {A : Type 0} (l : List A) (d : A) → tab (λ i. get_or l i d) 0 (length l) ≡ l
tab_list {A} l d =
    let g : (ℕ → A) = (λ i. get_or l i d) in
    ext_get_or d (tab g 0 (length l)) l (length_tab g 0 (length l))
    (λ i h. get_d_tab g 0 (length l) i d (omega (arith, length_tab g 0 (length l))) ∙ rw zero-add)

module _ {A : Type 0} (g : A → A) where
  -- turns that change elements after the first leave the first
  turns_behind : (i m : ℕ) (a : A) (l : List A) → turns (λ k t. on_at k g t) (suc i) m (a ∷ l) ≡ a ∷ turns (λ k t. on_at k g t) i m l
  unfolding turns on_at
  turns_behind i zero a l = refl
  turns_behind i (suc m) a l = turns_behind (suc i) m a (on_at i g l)

  -- a turn for each element, that changes it, changes them all
  pub turns_map : (l : List A) → turns (λ k t. on_at k g t) 0 (length l) l ≡ map g l
  unfolding turns on_at
  turns_map [] = refl
  turns_map (a ∷ l) = turns_behind 0 (length l) (g a) l ∙ rw (turns_map l)
