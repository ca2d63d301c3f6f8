-- Laws of the table: the look-up, a row at a time, and what holds of every row.
-- Assumes nothing.
use Rattle.std.specs.Prelude.{ℕ, zero, suc, ◌+◌, ◌-◌, ◌≤◌, ◌<◌, ◌≡◌, ◌≢◌, Bool, false, ◌&&◌, List, [], ◌∷◌, length, get_or, take, drop, ltb, cond, None, Some}
use Rattle.std.proofs.Math.Path.{refl, subst⁻¹}
use Rattle.std.specs.List.{find}
use Rattle.std.proofs.lemmas.List.{take_all}
use Rattle.std.proofs.Common.{length-drop, sym, ◌∙◌, drop-cons, eq-eqb, ne_eqb, eqb-true, ltb-true, add-one, arith}
use Rattle.std.proofs.Math.Bool.{true}
use Rattle.std.proofs.Math.Dec.{eqb}
use Rattle.laws.specs.Pick.{pick}
use Rattle.laws.specs.Laws.Pick.{pick_ind}
use Rattle.laws.specs.Laws.Loop.{and_both}
use Rattle.grammar.specs.declared.Row.{Row}
use Rattle.grammar.specs.Table.{table, none, hit, row_of}
use Rattle.grammar.specs.Types as types
use Rattle.grammar.specs.Places.Table.{start, known_row}

-- the row at a place of the table
abbrev pub row_at : ℕ → Row
row_at i = get_or table i none

-- the table has 26 rows
table_length : length table ≡ 26
unfolding table
table_length = refl

-- a look-up ends at the row that is sought
row_here : (p t : ℕ) (l : List Row) (i : ℕ) → i < length l → hit p t (get_or l i none) ≡ true → row_of p t (drop i l) ≡ get_or l i none
unfolding row_of pick
row_here p t l i h e = rw (drop-cons l i none h, e)

-- a look-up goes on behind a row that is not sought
row_next : (p t : ℕ) (l : List Row) (i : ℕ) → i < length l → hit p t (get_or l i none) ≡ false
    → row_of p t (drop i l) ≡ row_of p t (drop (i + 1) l)
unfolding row_of pick
row_next p t l i h e = rw (drop-cons l i none h, e, add-one i)

-- behind the last row nothing is found
row_end : (p t : ℕ) → row_of p t (drop 26 table) ≡ none
unfolding table row_of
row_end p t = refl

-- the look-up from row i on finds what the whole look-up finds
pub record Sought (p t i : ℕ) : Type 0 where
  pub inside : i ≤ 26
  pub same : row_of p t (drop i table) ≡ row_of p t table

-- the rows before a parent's first are of other parents
pub sought_start : (p t : ℕ) → Sought p t (start p)
unfolding start
sought_start p t =
    pick_ind (Sought p t) (eqb p types.interest) _ _ (λ e. from types.interest 3 e (omega arith) (unfold table row_of pick in refl))
    (λ _. pick_ind (Sought p t) (eqb p types.dat) _ _ (λ e. from types.dat 13 e (omega arith) (unfold table row_of pick in refl))
    (λ _. pick_ind (Sought p t) (eqb p types.meta_info) _ _ (λ e. from types.meta_info 18 e (omega arith) (unfold table row_of pick in refl))
    (λ _. pick_ind (Sought p t) (eqb p types.fragment) _ _ (λ e. from types.fragment 21 e (omega arith) (unfold table row_of pick in refl))
    (λ _. pick_ind (Sought p t) (eqb p types.lp_packet) _ _ (λ e. from types.lp_packet 23 e (omega arith) (unfold table row_of pick in refl))
    (λ _. pick_ind (Sought p t) (eqb p types.nack) _ _ (λ e. from types.nack 25 e (omega arith) (unfold table row_of pick in refl))
    (λ _. record { inside = omega arith; same = refl }))))))
  where
    from : (q i : ℕ) → eqb p q ≡ true → i ≤ 26 → row_of q t (drop i table) ≡ row_of q t table → Sought p t i
    from q i e h s = subst⁻¹ (λ (x : ℕ). Sought x t i) (eqb-true p q e) (record { inside = h; same = s })

module _ {p t i : ℕ} (h : Sought p t i) where
  -- the row of the type and the parent is what the look-up finds
  pub sought_here : i < 26 → (row_at i).typ ≡ t → (row_at i).parent ≡ p → row_at i ≡ row_of p t table
  sought_here l a b =
      sym (row_here p t table i (omega (arith, table_length)) (rw (eq-eqb (row_at i).parent p b, eq-eqb (row_at i).typ t a))) ∙ h.same

  -- behind a row that is not sought the look-up finds the same
  sought_next : i < 26 → hit p t (row_at i) ≡ false → Sought p t (i + 1)
  sought_next l e = record { inside = omega arith; same = sym (row_next p t table i (omega (arith, table_length)) e) ∙ h.same }

  -- a row of another type is not sought
  pub other_type : i < 26 → ((row_at i).typ ≡ t → ⊥) → Sought p t (i + 1)
  other_type l a = sought_next l (rw (ne_eqb (row_at i).typ t a) (go (eqb (row_at i).parent p)))
    where
      go : (b : Bool) → (b && false) ≡ false
      go true = refl
      go false = refl

  -- a row of another parent is not sought
  pub other_parent : i < 26 → ((row_at i).parent ≡ p → ⊥) → Sought p t (i + 1)
  other_parent l b = sought_next l (rw (ne_eqb (row_at i).parent p b))

  -- where no row is left, the look-up finds none
  pub sought_end : 26 ≤ i → none ≡ row_of p t table
  sought_end l = let e : i ≡ 26 = omega (arith, h.inside) in sym (row_end p t) ∙ (rw e at h.same)

-- it is one of the 26, or the end
pub start_small : (p : ℕ) → start p ≤ 26
start_small p = (sought_start p 0).inside

-- the rows from there to the last of the 26 are all that are left
pub rows_left : (p : ℕ) → take (26 - start p) (drop (start p) table) ≡ drop (start p) table
rows_left p = take_all (26 - start p) (drop (start p) table) (omega (arith, length-drop (start p) table, table_length))

-- a test that holds of every row
unfoldable pub each_row : (Row → Bool) → List Row → Bool
each_row f [] = true
each_row f (r ∷ l) = f r && each_row f l

-- what holds of none and of every row holds of the row that is found
pub row_each : (f : Row → Bool) (p t : ℕ) (l : List Row) → f none ≡ true → each_row f l ≡ true → f (row_of p t l) ≡ true
unfolding row_of each_row
row_each f p t [] n e = n
row_each f p t (r ∷ l) n e =
    let b = and_both (f r) (each_row f l) e in
    pick_ind (λ (x : Row). f x ≡ true) (hit p t r) _ _ (λ _. b.0) (λ _. row_each f p t l n b.1)

-- orders are at most 10
pub row_small : (p t : ℕ) → (row_of p t table).order < 11
row_small p t =
    ltb-true (row_of p t table).order 11
    (row_each (λ (r : Row). ltb r.order 11) p t table refl (unfold table each_row in refl))

-- what holds of every row holds of those behind some
each_drop : (f : Row → Bool) (i : ℕ) (l : List Row) → each_row f l ≡ true → each_row f (drop i l) ≡ true
unfolding each_row
each_drop f zero l e = e
each_drop f (suc i) [] e = e
each_drop f (suc i) (r ∷ l) e = each_drop f i l (and_both (f r) (each_row f l) e).1

-- a row of order 1 or more is known
row_known : (r : Row) → ltb 0 r.order ≡ true → known_row r ≡ Some r
unfolding known_row pick
row_known r e = rw (ne_eqb r.order 0 (λ z. omega (arith, ltb-true 0 r.order e)))

-- in rows that all have an order of 1 or more, a look-up answers the first that is sought
find_known : (p t : ℕ) (l : List Row) → each_row (λ (r : Row). ltb 0 r.order) l ≡ true → known_row (row_of p t l) ≡ find (hit p t) l
unfolding row_of each_row known_row pick
find_known p t [] e = refl
find_known p t (r ∷ l) e =
    let b = and_both (ltb 0 r.order) (each_row (λ (x : Row). ltb 0 x.order) l) e in
    elim (hit p t r) as (λ h. known_row (pick h r (row_of p t l)) ≡ cond h (Some r) (find (hit p t) l)) [
      | true ↦ row_known r b.0
      | false ↦ find_known p t l b.1
    ]

-- the row of a type in a parent is the first that is sought from the parent's first on
pub look_up : (p t : ℕ) → find (hit p t) (drop (start p) table) ≡ known_row (row_of p t table)
look_up p t =
    rw (← (sought_start p t).same)
    (sym (find_known p t (drop (start p) table)
    (each_drop (λ (r : Row). ltb 0 r.order) (start p) table (unfold table each_row in refl))))

-- a look-up that answers none found a row of order 0
pub known_none : (x : Row) → known_row x ≡ None → x.order ≡ 0
unfolding known_row pick
known_none x = go (eqb x.order 0) refl
  where
    go : (b : Bool) → eqb x.order 0 ≡ b → pick b None (Some x) ≡ None → x.order ≡ 0
    go true e h = eqb-true x.order 0 e
    go false e h = cc

-- and one that answers a row found it, with an order of 1 or more
pub known_some : (x : Row) {r : Row} → known_row x ≡ Some r → (x ≡ r) × (r.order ≢ 0)
unfolding known_row pick
known_some x {r} = go (eqb x.order 0) refl
  where
    apart : false ≡ true → ⊥
    apart e = cc

    go : (b : Bool) → eqb x.order 0 ≡ b → pick b None (Some x) ≡ Some r → (x ≡ r) × (r.order ≢ 0)
    go true e h = cc
    go false e h = let i : x ≡ r = cc in (i, rw (← i) (λ z. apart (sym e ∙ eq-eqb x.order 0 z)))
