-- What the rows of a table are when one is opened, removed or changed, when some are picked out, and when their numbers are made anew.
-- Assumes nothing.
use Rattle.std.specs.Prelude.{ℕ, zero, suc, ◌+◌, ◌%◌, ◌^◌, ◌≤◌, ◌<◌, ◌≡◌, refl, Bool, false, ◌&&◌, not, ◌≢◌, ◌↔◌, eqb, length, set}
use Rattle.std.proofs.Math.Path.{sym, ap}
use Rattle.std.proofs.Common.{subst, ◌∙◌, inl, inr, ⊎_elim, length-set, eq-eqb, ne_eqb, arith}
use Rattle.std.proofs.Math.Bool.{true, and-true, and-false, true≢false}
use mathlib.Core.List.{List, [], ◌∷◌, ◌++◌, map}
use Rattle.std.proofs.Math.ListN.{get_or, length-map}
use Rattle.std.proofs.Math.Seq.{get_or-set_same, get_or-set_other}
use Rattle.std.specs.Int.Count.{ones}
use Rattle.laws.specs.Digits.{member, added, removed}
use Rattle.laws.specs.Laws.Digits.{member_add_same, member_add_other, member_remove_same, member_remove_other, digit_member, size_below, tally_ext}
use Rattle.laws.specs.Lists.{on_at, without, index_of}
use Rattle.laws.specs.Pick.{pick}
use Rattle.records.specs.Slots.{only}
use Rattle.pending_order.specs.Laws.Number.{ordered_renumbered, above_at, above_le}
use Rattle.pending_order.specs.Laws.Order.{before_of, before_self, In, Rising, ordered_sorts}
use Rattle.pending_order.specs.Laws.Place.{same_or, place_here, place_later, place_in_lem, place_out, place_found, keep_place, map_place, map_without, index_of_map}
use Rattle.pending_order.specs.Laws.Rows.{least_found, ordered_in, ordered_same, ordered_keep, ordered_open, ordered_next, ordered_end, ordered_length, least_in, keep_first}
use Rattle.pending_order.specs.Order.{before, place_in, rows_of, view_of}
use Rattle.pending_order.specs.Places.Rows.{least, least_of, first_of, above_of, numbered}

-- a map with one more at the end
map_snoc : {A : Type 0} (g : ℕ → A) (l : List ℕ) (s : ℕ) → map g (l ++ (s ∷ [])) ≡ map g l ++ (g s ∷ [])
map_snoc g [] s = refl
map_snoc g (a ∷ l) s = rw (map_snoc g l s)

pub map_ext : {A : Type 0} (g h : ℕ → A) (l : List ℕ) → ((t : ℕ) → In t l → g t ≡ h t) → map g l ≡ map h l
map_ext g h [] e = refl
map_ext g h (a ∷ l) e = rw (e a (inl refl), map_ext g h l (λ t i. e t (inr i)))

map_map : {A B : Type 0} (f : A → B) (g : ℕ → A) (l : List ℕ) → map f (map g l) ≡ map (λ t. f (g t)) l
map_map f g [] = refl
map_map f g (a ∷ l) = rw (map_map f g l)

get_d_map_in : {A : Type 0} (g : ℕ → A) (l : List ℕ) (i x : ℕ) (d : A) → i < length l → get_or (map g l) i d ≡ g (get_or l i x)
get_d_map_in g [] i x d h = absurd (omega arith)
get_d_map_in g (a ∷ l) zero x d h = refl
get_d_map_in g (a ∷ l) (suc i) x d h = get_d_map_in g l i x d (omega arith)

-- the first row is the first of the list
least_of_first : (n : ℕ) (numbers : List ℕ) (used : ℕ) → least_of n numbers used ≡ get_or (rows_of n numbers used) 0 n
unfolding least_of rows_of least
least_of_first n numbers used = refl

-- the first row of all
pub first_of_all : (n : ℕ) (numbers : List ℕ) (used : ℕ) → first_of n numbers used (λ _. true) ≡ least_of n numbers used
unfolding first_of index_of pick
first_of_all n numbers used = go (rows_of n numbers used) (least_of_first n numbers used)
  where
    go : (l : List ℕ) → least_of n numbers used ≡ get_or l 0 n → get_or l (index_of (λ _. true) l) n ≡ least_of n numbers used
    go [] e = sym e
    go (a ∷ l) e = sym e

-- the first used row that q holds of is the first of the rows that it holds of
pub first_of_least : (n : ℕ) (numbers : List ℕ) (used : ℕ) (q : ℕ → Bool)
    → least (λ t. get_or numbers t 0) (λ t. member t used && q t) n ≡ first_of n numbers used q
unfolding first_of rows_of
first_of_least n numbers used q = least_found (λ t. get_or numbers t 0) (λ t. member t used) q n

module _ (n : ℕ) (numbers : List ℕ) (used : ℕ) where
  -- a row is in the list exactly where it is used
  pub rows_in : (s : ℕ) → In s (rows_of n numbers used) ↔ ((s < n) × (member s used ≡ true))
  unfolding rows_of
  rows_in s = ordered_in (λ t. get_or numbers t 0) (λ t. member t used) n s

  -- the rows rise
  pub rows_rise : Rising (λ t. get_or numbers t 0) (rows_of n numbers used)
  unfolding rows_of
  rows_rise = (ordered_sorts (λ t. get_or numbers t 0) (λ t. member t used) n).rises

  -- the first row that q holds of stands where a search ends
  pub rows_placed : (q : ℕ → Bool) → place_in (get_or (rows_of n numbers used) (index_of q (rows_of n numbers used)) n) (rows_of n numbers used)
      ≡ index_of q (rows_of n numbers used)
  unfolding rows_of
  rows_placed q = place_found (λ t. get_or numbers t 0) (λ t. member t used) n q

  -- there are as many as the word has digits set below n
  pub rows_length : length (rows_of n numbers used) ≡ ones (used % 2 ^ n)
  unfolding rows_of
  rows_length =
      ordered_length (λ t. get_or numbers t 0) (λ t. member t used) n
      ∙ sym (size_below n used ∙ tally_ext n _ _ (λ i _. digit_member i used))

  -- other numbers for rows that are not used change nothing
  pub rows_numbers : (others : List ℕ) → ((t : ℕ) → t < n → member t used ≡ true → get_or others t 0 ≡ get_or numbers t 0)
      → rows_of n others used ≡ rows_of n numbers used
  unfolding rows_of before
  rows_numbers others e =
      sym (ordered_same (λ t. get_or numbers t 0) (λ t. member t used) n (λ t. get_or others t 0) (λ t. member t used) (λ _ _. refl)
      (λ s t a b c d h. rw (e s a c, e t b d) h))

  -- the rows that a test holds of too are what the test keeps of the list
  pub rows_keep : (u : ℕ) (q : ℕ → Bool) → ((t : ℕ) → t < n → member t u ≡ (member t used && q t))
      → rows_of n numbers u ≡ only q (rows_of n numbers used)
  unfolding rows_of
  rows_keep u q e =
      ordered_same (λ t. get_or numbers t 0) (λ t. member t u) n (λ t. get_or numbers t 0) (λ t. member t used && q t) e (λ s t _ _ _ _ h. h)
      ∙ ordered_keep (λ t. get_or numbers t 0) (λ t. member t used) n q

  -- the first row that a test holds of is the first of the rows that it holds of
  pub rows_found : (u : ℕ) (q : ℕ → Bool) → ((t : ℕ) → t < n → member t u ≡ (member t used && q t))
      → least_of n numbers u ≡ get_or (rows_of n numbers used) (index_of q (rows_of n numbers used)) n
  rows_found u q e = least_of_first n numbers u ∙ ap (λ (l : List ℕ). get_or l 0 n) (rows_keep u q e) ∙ keep_first q (rows_of n numbers used) n

  -- a row that is removed is the element at its place taken out
  pub rows_removed : (s : ℕ) → rows_of n numbers (removed s used) ≡ without (place_in s (rows_of n numbers used)) (rows_of n numbers used)
  rows_removed s =
      rows_keep (removed s used) (λ t. not (eqb t s))
      (λ t _. same_or t s
      (λ e. rw (e, member_remove_same s used, eq-eqb s s refl) (sym (and-false (member s used))))
      (λ d. rw (member_remove_other s used t d, ne_eqb t s d) (sym (and-true (member t used)))))
      ∙ keep_place (λ t. get_or numbers t 0) s (rows_of n numbers used) rows_rise

  -- a walk: the list starts with the first row, and goes on with the others
  pub rows_next : (r : ℕ) → r ≡ least_of n numbers used → r < n → rows_of n numbers used ≡ r ∷ rows_of n numbers (removed r used)
  unfolding rows_of least_of
  rows_next r e h =
      ordered_next (λ t. get_or numbers t 0) (λ t. member t used) n r (λ t. member t (removed r used)) e h
      (member_remove_same r used) (λ t d. member_remove_other r used t d)

  -- a walk's row is used
  pub rows_here : (r : ℕ) → r ≡ least_of n numbers used → r < n → member r used ≡ true
  unfolding least_of
  rows_here r e h = rw e (least_in (λ t. get_or numbers t 0) (λ t. member t used) n (omega arith))

  -- a walk ends where no row is left
  pub rows_end : (r : ℕ) → r ≡ least_of n numbers used → n ≤ r → rows_of n numbers used ≡ []
  unfolding rows_of least_of
  rows_end r e h = ordered_end (λ t. get_or numbers t 0) (λ t. member t used) n (omega arith)

  -- a row opened with a number above all others comes last
  pub rows_opened : (s number : ℕ) → s < n → s < length numbers → member s used ≡ false → above_of n numbers used ≤ number
      → rows_of n (set numbers s number) (added s used) ≡ rows_of n numbers used ++ (s ∷ [])
  unfolding rows_of above_of
  rows_opened s number a b c d =
      let v : (ℕ → ℕ) = (λ t. get_or (set numbers s number) t 0) in
      let w : (ℕ → ℕ) = (λ t. get_or numbers t 0) in
      let p : (ℕ → Bool) = (λ t. member t used) in
      let here : v s ≡ number = get_or-set_same numbers s number 0 b in
      let other : ((t : ℕ) → p t ≡ true → v t ≡ w t) = (λ t h. get_or-set_other numbers s t number 0 (λ q. true≢false (sym h ∙ ap p q ∙ c)))
      in
      ordered_open v p n s (λ t. member t (added s used)) a c (member_add_same s used) (λ t q. member_add_other s used t q)
      (λ t l h.
      let k = above_at w p n t l h in
      let x = other t h in
      before_of v t s (omega arith) (λ z. absurd (omega arith)))
      ∙ ap (λ (l : List ℕ). l ++ (s ∷ [])) (rows_numbers (set numbers s number) (λ t _ h. other t h))

module _ {A : Type 0} (n : ℕ) (g h : ℕ → A) (numbers : List ℕ) (used s : ℕ) where
  -- a row changed is the entry at its place changed
  pub view_on : (f : A → A) → h s ≡ f (g s) → ((t : ℕ) → t ≢ s → h t ≡ g t)
      → view_of n h numbers used ≡ on_at (place_in s (rows_of n numbers used)) f (view_of n g numbers used)
  unfolding view_of
  view_on f e o = map_place g h f s e (λ t. get_or numbers t 0) (rows_of n numbers used) (rows_rise n numbers used) (λ t _. o t)

  -- a row removed is the entry at its place taken out
  pub view_removed : view_of n g numbers (removed s used) ≡ without (place_in s (rows_of n numbers used)) (view_of n g numbers used)
  unfolding view_of
  view_removed = ap (map g) (rows_removed n numbers used s) ∙ map_without g _ (rows_of n numbers used)

  -- a row that comes last is an entry at the end
  pub view_opened : (others : List ℕ) (u : ℕ) → member s used ≡ false → rows_of n others u ≡ rows_of n numbers used ++ (s ∷ [])
      → ((t : ℕ) → t ≢ s → h t ≡ g t) → view_of n h others u ≡ view_of n g numbers used ++ (h s ∷ [])
  unfolding view_of
  view_opened others u c e o =
      ap (map h) e ∙ map_snoc h (rows_of n numbers used) s
      ∙ ap (λ (l : List A). l ++ (h s ∷ []))
      (map_ext h g (rows_of n numbers used)
      (λ t i. o t (λ q. true≢false (sym ((rows_in n numbers used t).0 i).1 ∙ ap (λ (x : ℕ). member x used) q ∙ c))))

module _ {A : Type 0} (n : ℕ) (g : ℕ → A) (numbers : List ℕ) (used : ℕ) where
  -- there are as many entries as rows
  pub view_length : length (view_of n g numbers used) ≡ ones (used % 2 ^ n)
  unfolding view_of
  view_length = length-map (rows_of n numbers used) g ∙ rows_length n numbers used

  -- of each row
  pub view_rows : length (view_of n g numbers used) ≡ length (rows_of n numbers used)
  unfolding view_of
  view_rows = length-map (rows_of n numbers used) g

  -- the entry at the place of a used row is that row's
  pub view_at : (s : ℕ) (d : A) → s < n → member s used ≡ true
      → (place_in s (rows_of n numbers used) < length (view_of n g numbers used))
      × (get_or (view_of n g numbers used) (place_in s (rows_of n numbers used)) d ≡ g s)
  unfolding view_of
  view_at s d a b =
      let k = place_in_lem s (rows_of n numbers used) 0 ((rows_in n numbers used s).1 (a, b)) in (
        rw (length-map (rows_of n numbers used) g) k.0,
        get_d_map_in g (rows_of n numbers used) (place_in s (rows_of n numbers used)) 0 d
            k.0 ∙ ap g k.1,
      )

  -- a row that is not used has its place past the entries
  pub view_out : (s : ℕ) → ((s < n) × (member s used ≡ true) → ⊥) → place_in s (rows_of n numbers used) ≡ length (view_of n g numbers used)
  unfolding view_of
  view_out s h = place_out s (rows_of n numbers used) (λ i. h ((rows_in n numbers used s).0 i)) ∙ sym (length-map (rows_of n numbers used) g)

  -- where each used row is changed, each entry is
  pub view_map : {B : Type 0} (h : ℕ → B) (f : A → B) → ((t : ℕ) → t < n → member t used ≡ true → h t ≡ f (g t))
      → view_of n h numbers used ≡ map f (view_of n g numbers used)
  unfolding view_of
  view_map h f e =
      map_ext h (λ t. f (g t)) (rows_of n numbers used) (λ t i. let k = (rows_in n numbers used t).0 i in e t k.0 k.1)
      ∙ sym (map_map f g (rows_of n numbers used))

  module _ (u : ℕ) (test : A → Bool) (e : (t : ℕ) → t < n → member t u ≡ (member t used && test (g t))) where
    -- the first of them is the row where a search ends
    pub view_first : least_of n numbers u ≡ get_or (rows_of n numbers used) (index_of test (view_of n g numbers used)) n
    unfolding view_of
    view_first = rw (index_of_map g test (rows_of n numbers used)) (rows_found n numbers used u (λ t. test (g t)) e)

    -- and its place is where a search ends
    pub view_found : place_in (least_of n numbers u) (rows_of n numbers used) ≡ index_of test (view_of n g numbers used)
    unfolding view_of
    view_found =
        rw (index_of_map g test (rows_of n numbers used), rows_found n numbers used u (λ t. test (g t)) e)
        (rows_placed n numbers used (λ t. test (g t)))

-- rows that are not in the list keep their numbers
pub numbered_away : (numbers : List ℕ) (k t : ℕ) (l : List ℕ) → (In t l → ⊥) → get_or (numbered numbers k l) t 0 ≡ get_or numbers t 0
unfolding numbered
numbered_away numbers k t [] n = refl
numbered_away numbers k t (a ∷ l) n =
    numbered_away (set numbers a k) (suc k) t l (λ i. n (inr i)) ∙ get_or-set_other numbers a t k 0 (λ q. n (inl q))

-- rows in a list that rises are numbered by their places
pub numbered_in : (w : ℕ → ℕ) (numbers : List ℕ) (k t : ℕ) (l : List ℕ) → Rising w l → In t l → t < length numbers
    → get_or (numbered numbers k l) t 0 ≡ k + place_in t l
unfolding numbered
numbered_in w numbers k t [] r i h = absurd i
numbered_in w numbers k t (a ∷ l) r i h =
    same_or a t
    (λ q.
    let away : (In t l → ⊥) = (λ j. before_self w a (subst (λ (x : ℕ). before w a x ≡ true) (sym q) (r.0 t j))) in
    rw (place_here t a l q, q) (numbered_away (set numbers t k) (suc k) t l away ∙ get_or-set_same numbers t k 0 h ∙ omega arith))
    (λ d.
    let j : In t l = ⊎_elim (λ e. absurd (d (sym e))) (λ e. e) i in
    rw (place_later t a l d) (numbered_in w (set numbers a k) (suc k) t l r.1 j (rw (length-set numbers a k) h) ∙ omega arith))

module _ (n : ℕ) (numbers : List ℕ) (used : ℕ) (long : n ≤ length numbers) where
  -- each used row's new number is its place
  pub renumbered_at : (t : ℕ) → t < n → member t used ≡ true
      → get_or (numbered numbers 0 (rows_of n numbers used)) t 0 ≡ place_in t (rows_of n numbers used)
  renumbered_at t a b =
      numbered_in (λ t. get_or numbers t 0) numbers 0 t (rows_of n numbers used) (rows_rise n numbers used)
      ((rows_in n numbers used t).1 (a, b)) (omega arith)
      ∙ omega arith

  -- rows that are numbered anew keep their order
  pub rows_renumbered : rows_of n (numbered numbers 0 (rows_of n numbers used)) used ≡ rows_of n numbers used
  rows_renumbered = go (numbered numbers 0 (rows_of n numbers used)) renumbered_at
    where
      go : (m : List ℕ) → ((t : ℕ) → t < n → member t used ≡ true → get_or m t 0 ≡ place_in t (rows_of n numbers used))
          → rows_of n m used ≡ rows_of n numbers used
      go m h = unfold rows_of in ordered_renumbered (λ t. get_or numbers t 0) (λ t. get_or m t 0) (λ t. member t used) n h

  -- and there is a number above them that is at most how many they are
  pub above_renumbered : above_of n (numbered numbers 0 (rows_of n numbers used)) used ≤ length (rows_of n numbers used)
  unfolding above_of
  above_renumbered = above_le _ _ n _
      (λ t a b. rw (renumbered_at t a b) (place_in_lem t (rows_of n numbers used) 0 ((rows_in n numbers used t).1 (a, b))).0)

-- where no row is used there are no rows
pub rows_none : (n : ℕ) (numbers : List ℕ) (used : ℕ) → ((t : ℕ) → t < n → member t used ≡ false) → rows_of n numbers used ≡ []
rows_none n numbers used h = go (rows_of n numbers used) (λ t i. (rows_in n numbers used t).0 i)
  where
    go : (l : List ℕ) → ((t : ℕ) → In t l → (t < n) × (member t used ≡ true)) → l ≡ []
    go [] k = refl
    go (a ∷ l) k = let e = k a (inl refl) in absurd (true≢false (sym e.1 ∙ h a e.0))
