-- Canonical order is a total order: compared the other way round, before and after change places (`flip`); the same are the equal
-- alone (`refl`, `same`); and what is before one that is before a third is before the third (`trans`). Each law is proved of bytes, of
-- components, of lists of components and then of names. At the end stand the laws by which `compare` and what it calls meet the order.
-- Assumes nothing.
use Rattle.std.specs.declared.cmp.Ordering.{Ordering}
use Rattle.std.specs.Prelude.{◌≡◌, ℕ, ◌+◌, ◌<◌, ◌≤◌, Bool, true, false, ◌⊎◌, ◌≢◌, List, [], ◌∷◌, length, take, drop, nat_lt, slice_index, slice_index_or, refl, None, Some}
use Rattle.std.specs.Cmp.Lexicographic.{slice_cmp}
use Rattle.std.specs.Ordering.{MatchOrdering, nat_cmp, ordering_then}
use Rattle.std.proofs.Math.Path.{sym, ap}
use borrow.Author.Tests.{eq-eqb, ne_eqb}
use Rattle.std.proofs.Common.{◌∙◌, inl, inr, drop_of_length-le, lt-ltb, le-ltb, ltb-true, ltb-false, arith}
use Rattle.std.proofs.Math.ListN.{length-drop}
use Rattle.std.proofs.Math.Seq.{drop-cons, length-take-le}
use Rattle.std.proofs.Math.Numerals.{add-one}
use Rattle.laws.specs.Pick.{pick}
use Rattle.wire.specs.declared.read.Cursor.{Cursor}
use Rattle.wire.specs.declared.read.Element.{Element}
use Rattle.wire.specs.Element.{Split, ended}
use Rattle.wire.specs.Bytes.{Bytes}
use Rattle.wire.specs.Places.Place.{element_at}
use Rattle.wire.specs.Laws.Walk.{walk_bad, walk_more}
use Rattle.names.specs.Name.{Component, component, components, prefix_of}
use Rattle.names.specs.Order.{by_number, lexical, component_order, and_then, canonical, canonical_order}
use Rattle.names.specs.Places.Order.{component_at}
use Rattle.names.specs.Laws.Same.{both, component_is, same_component, component_equal, begins_with, begins_shorter, name_one, prefix_begins}

-- the order, compared the other way round
unfoldable pub flipped : Ordering → Ordering
flipped Ordering.Less = Ordering.Greater
flipped Ordering.Equal = Ordering.Equal
flipped Ordering.Greater = Ordering.Less

-- ---- numbers

-- the smaller number is before
number_less : (a b : ℕ) (o : Ordering) → a < b → by_number a b o ≡ Ordering.Less
unfolding by_number pick
number_less a b o h = rw (lt-ltb a b h)

-- the larger number is after
number_more : (a b : ℕ) (o : Ordering) → b < a → by_number a b o ≡ Ordering.Greater
unfolding by_number pick
number_more a b o h = rw (le-ltb a b (omega arith), lt-ltb b a h)

-- equal numbers leave it to what follows
number_equal : (a b : ℕ) (o : Ordering) → a ≡ b → by_number a b o ≡ o
unfolding by_number pick
number_equal a b o q = rw (le-ltb a b (omega arith), le-ltb b a (omega arith))

-- what holds where the first number is smaller, larger and equal holds
by_cases : (P : Type 0) (a b : ℕ) → (a < b → P) → (b < a → P) → (a ≡ b → P) → P
by_cases P a b less more equal = go (nat_lt a b) (nat_lt b a) refl refl
  where
    go : (x y : Bool) → nat_lt a b ≡ x → nat_lt b a ≡ y → P
    go true y p q = less (ltb-true a b p)
    go false true p q = more (ltb-true b a q)
    go false false p q = equal (omega (arith, ltb-false a b p, ltb-false b a q))

-- numbers, compared the other way round
number_flip : (a b : ℕ) (o u : Ordering) → u ≡ flipped o → by_number b a u ≡ flipped (by_number a b o)
unfolding flipped
number_flip a b o u e =
    by_cases (by_number b a u ≡ flipped (by_number a b o)) a b
    (λ h. rw (number_less a b o h, number_more b a u h))
    (λ h. rw (number_more a b o h, number_less b a u h))
    (λ q. rw (number_equal a b o q, number_equal b a u (sym q)) e)

-- the same means equal numbers, and the same in what follows
number_same : (a b : ℕ) (o : Ordering) → by_number a b o ≡ Ordering.Equal → (a ≡ b) × (o ≡ Ordering.Equal)
number_same a b o e =
    by_cases ((a ≡ b) × (o ≡ Ordering.Equal)) a b
    (λ h. absurd (let z : ◌≡◌ {A = ℕ} 0 1 = cc (number_less a b o h) in omega arith))
    (λ h. absurd (let z : ◌≡◌ {A = ℕ} 0 1 = cc (number_more a b o h) in omega arith))
    (λ q. (q, sym (number_equal a b o q) ∙ e))

-- before means a smaller number, or equal numbers and before in what follows
number_before : (a b : ℕ) (o : Ordering) → by_number a b o ≡ Ordering.Less → (a < b) ⊎ ((a ≡ b) × (o ≡ Ordering.Less))
number_before a b o e =
    by_cases ((a < b) ⊎ ((a ≡ b) × (o ≡ Ordering.Less))) a b
    (λ h. inl h)
    (λ h. absurd (let z : ◌≡◌ {A = ℕ} 0 1 = cc (number_more a b o h) in omega arith))
    (λ q. inr (q, sym (number_equal a b o q) ∙ e))

-- a number before one that is before a third is before the third
number_trans : (a b c : ℕ) (o u w : Ordering) → (o ≡ Ordering.Less → u ≡ Ordering.Less → w ≡ Ordering.Less)
    → by_number a b o ≡ Ordering.Less → by_number b c u ≡ Ordering.Less → by_number a c w ≡ Ordering.Less
number_trans a b c o u w next p q = go (number_before a b o p) (number_before b c u q)
  where
    go : (a < b) ⊎ ((a ≡ b) × (o ≡ Ordering.Less)) → (b < c) ⊎ ((b ≡ c) × (u ≡ Ordering.Less)) → by_number a c w ≡ Ordering.Less
    go (inl h) (inl k) = number_less a c w (omega arith)
    go (inl h) (inr k) = number_less a c w (omega arith)
    go (inr h) (inl k) = number_less a c w (omega arith)
    go (inr h) (inr k) = number_equal a c w (h.0 ∙ k.0) ∙ next h.1 k.1

-- the library's order of numbers, and what follows where they are equal
number_is : (a b : ℕ) (o : Ordering) → ordering_then (nat_cmp a b) o ≡ by_number a b o
number_is a b o =
    by_cases (ordering_then (nat_cmp a b) o ≡ by_number a b o) a b
    (λ h. rw (number_less a b o h, lt-ltb a b h))
    (λ h. rw (number_more a b o h, le-ltb a b (omega arith), ne_eqb a b (λ q. omega arith)))
    (λ q. rw (number_equal a b o q, le-ltb a b (omega arith), eq-eqb a b q))

-- an order that is told by cases: the first, and the second where that says the same
then_is : (o u r : Ordering) → MatchOrdering o (r ≡ Ordering.Less) (r ≡ u) (r ≡ Ordering.Greater) → r ≡ ordering_then o u
then_is Ordering.Less u r h = h
then_is Ordering.Equal u r h = h
then_is Ordering.Greater u r h = h

-- three orders in turn
then_then : (o u w : Ordering) → ordering_then (ordering_then o u) w ≡ ordering_then o (ordering_then u w)
then_then Ordering.Less u w = refl
then_then Ordering.Equal u w = refl
then_then Ordering.Greater u w = refl

-- ---- bytes

-- the library's order of lists of bytes
pub lexical_is : (a b : List ℕ) → slice_cmp nat_cmp a b ≡ lexical a b
unfolding lexical
lexical_is [] [] = refl
lexical_is [] (b ∷ l) = refl
lexical_is (a ∷ k) [] = refl
lexical_is (a ∷ k) (b ∷ l) = rw (lexical_is k l) (number_is a b (lexical k l))

-- bytes, compared the other way round
pub lexical_flip : (a b : List ℕ) → lexical b a ≡ flipped (lexical a b)
unfolding lexical flipped
lexical_flip [] [] = refl
lexical_flip [] (b ∷ l) = refl
lexical_flip (a ∷ k) [] = refl
lexical_flip (a ∷ k) (b ∷ l) = number_flip a b (lexical k l) (lexical l k) (lexical_flip k l)

-- bytes are the same as themselves
pub lexical_refl : (a : List ℕ) → lexical a a ≡ Ordering.Equal
unfolding lexical
lexical_refl [] = refl
lexical_refl (a ∷ k) = number_equal a a (lexical k k) refl ∙ lexical_refl k

-- the same bytes are equal
pub lexical_same : (a b : List ℕ) → lexical a b ≡ Ordering.Equal → a ≡ b
unfolding lexical
lexical_same [] [] e = refl
lexical_same [] (b ∷ l) e = cc
lexical_same (a ∷ k) [] e = cc
lexical_same (a ∷ k) (b ∷ l) e = let h = number_same a b (lexical k l) e in rw (h.0, lexical_same k l h.1)

-- bytes before others that are before a third list are before that
pub lexical_trans : (a b c : List ℕ) → lexical a b ≡ Ordering.Less → lexical b c ≡ Ordering.Less → lexical a c ≡ Ordering.Less
unfolding lexical
lexical_trans a [] [] p q = cc
lexical_trans a (b ∷ l) [] p q = cc
lexical_trans [] b (c ∷ m) p q = refl
lexical_trans (a ∷ k) [] (c ∷ m) p q = cc
lexical_trans (a ∷ k) (b ∷ l) (c ∷ m) p q = number_trans a b c (lexical k l) (lexical l m) (lexical k m) (lexical_trans k l m) p q

-- ---- components

-- components, compared the other way round
pub component_flip : (c d : Component) → component_order d c ≡ flipped (component_order c d)
unfolding component_order
component_flip c d =
    number_flip c.typ d.typ _ _ (number_flip (length c.value) (length d.value) _ _ (lexical_flip c.value d.value))

-- a component is the same as itself
pub component_refl : (c : Component) → component_order c c ≡ Ordering.Equal
unfolding component_order
component_refl c = number_equal c.typ c.typ _ refl ∙ number_equal (length c.value) (length c.value) _ refl ∙ lexical_refl c.value

-- the same components are equal
pub component_same : (c d : Component) → component_order c d ≡ Ordering.Equal → c ≡ d
unfolding component_order
component_same c d e =
    let h = number_same c.typ d.typ _ e in
    let k = number_same (length c.value) (length d.value) _ h.1 in
    component_is c d h.0 (lexical_same c.value d.value k.1)

-- a component before one that is before a third is before the third
pub component_trans : (c d e : Component) → component_order c d ≡ Ordering.Less → component_order d e ≡ Ordering.Less → component_order c e ≡ Ordering.Less
unfolding component_order
component_trans c d e =
    number_trans c.typ d.typ e.typ _ _ _
    (number_trans (length c.value) (length d.value) (length e.value) _ _ _ (lexical_trans c.value d.value e.value))

-- ---- lists of components

-- two orders in turn, compared the other way round
then_flip : (o u : Ordering) → and_then (flipped o) (flipped u) ≡ flipped (and_then o u)
unfolding and_then flipped
then_flip Ordering.Less u = refl
then_flip Ordering.Equal u = refl
then_flip Ordering.Greater u = refl

-- the same means the same in both
then_same : (o u : Ordering) → and_then o u ≡ Ordering.Equal → (o ≡ Ordering.Equal) × (u ≡ Ordering.Equal)
unfolding and_then
then_same Ordering.Less u e = (e, cc)
then_same Ordering.Equal u e = (refl, e)
then_same Ordering.Greater u e = (e, cc)

-- before means before in the first, or the same in it and before in the second
then_before : (o u : Ordering) → and_then o u ≡ Ordering.Less → (o ≡ Ordering.Less) ⊎ ((o ≡ Ordering.Equal) × (u ≡ Ordering.Less))
unfolding and_then
then_before Ordering.Less u e = inl refl
then_before Ordering.Equal u e = inr (refl, e)
then_before Ordering.Greater u e = inl e

-- the same of a component with what follows it
then_trans : (c d e : Component) (o u w : Ordering) → (o ≡ Ordering.Less → u ≡ Ordering.Less → w ≡ Ordering.Less)
    → and_then (component_order c d) o ≡ Ordering.Less → and_then (component_order d e) u ≡ Ordering.Less → and_then (component_order c e) w ≡ Ordering.Less
unfolding and_then
then_trans c d e o u w next p q = go (then_before (component_order c d) o p) (then_before (component_order d e) u q)
  where
    go : (component_order c d ≡ Ordering.Less) ⊎ ((component_order c d ≡ Ordering.Equal) × (o ≡ Ordering.Less))
        → (component_order d e ≡ Ordering.Less) ⊎ ((component_order d e ≡ Ordering.Equal) × (u ≡ Ordering.Less))
        → and_then (component_order c e) w ≡ Ordering.Less
    go (inl h) (inl k) = rw (component_trans c d e h k)
    go (inl h) (inr k) = rw (← component_same d e k.0, h)
    go (inr h) (inl k) = rw (component_same c d h.0, k)
    go (inr h) (inr k) = rw (component_same c d h.0, k.0) (next h.1 k.1)

-- where the first decides, it is the answer
pub then_decided : (o u : Ordering) → (o ≢ Ordering.Equal) → and_then o u ≡ o
unfolding and_then
then_decided Ordering.Less u n = refl
then_decided Ordering.Equal u n = absurd (n refl)
then_decided Ordering.Greater u n = refl

-- lists of components, compared the other way round
pub canonical_flip : (cs ds : List Component) → canonical ds cs ≡ flipped (canonical cs ds)
unfolding canonical flipped
canonical_flip [] [] = refl
canonical_flip [] (d ∷ ds) = refl
canonical_flip (c ∷ cs) [] = refl
canonical_flip (c ∷ cs) (d ∷ ds) = rw (component_flip c d, canonical_flip cs ds) (then_flip (component_order c d) (canonical cs ds))

-- components are the same as themselves
pub canonical_refl : (cs : List Component) → canonical cs cs ≡ Ordering.Equal
unfolding canonical and_then
canonical_refl [] = refl
canonical_refl (c ∷ cs) = rw (component_refl c) (canonical_refl cs)

-- the same components are equal
pub canonical_same : (cs ds : List Component) → canonical cs ds ≡ Ordering.Equal → cs ≡ ds
unfolding canonical
canonical_same [] [] e = refl
canonical_same [] (d ∷ ds) e = cc
canonical_same (c ∷ cs) [] e = cc
canonical_same (c ∷ cs) (d ∷ ds) e =
    let h = then_same (component_order c d) (canonical cs ds) e in
    rw (component_same c d h.0, canonical_same cs ds h.1)

-- a list before one that is before a third is before the third
pub canonical_trans : (cs ds es : List Component) → canonical cs ds ≡ Ordering.Less → canonical ds es ≡ Ordering.Less → canonical cs es ≡ Ordering.Less
unfolding canonical
canonical_trans cs [] [] p q = cc
canonical_trans cs (d ∷ ds) [] p q = cc
canonical_trans [] ds (e ∷ es) p q = refl
canonical_trans (c ∷ cs) [] (e ∷ es) p q = cc
canonical_trans (c ∷ cs) (d ∷ ds) (e ∷ es) p q =
    then_trans c d e (canonical cs ds) (canonical ds es) (canonical cs es) (canonical_trans cs ds es) p q

-- "a prefix first": what the other list begins with is before it, if it is shorter
pub canonical_prefix : (cs ds : List Component) → begins_with cs ds ≡ true → length cs < length ds → canonical cs ds ≡ Ordering.Less
unfolding canonical and_then begins_with
canonical_prefix cs [] e h = absurd (omega arith)
canonical_prefix [] (d ∷ ds) e h = refl
canonical_prefix (c ∷ cs) (d ∷ ds) e h =
    let k = both (same_component c d) (begins_with cs ds) e in
    rw (component_equal c d k.0, component_refl d) (canonical_prefix cs ds k.1 (omega arith))

-- ---- names

-- names, compared the other way round
pub order_flip : (a b : List ℕ) → canonical_order b a ≡ flipped (canonical_order a b)
unfolding canonical_order
order_flip a b = canonical_flip (components a).items (components b).items

-- a name is the same as itself
pub order_refl : (a : List ℕ) → canonical_order a a ≡ Ordering.Equal
unfolding canonical_order
order_refl a = canonical_refl (components a).items

-- a name before one that is before a third is before the third
pub order_trans : (a b c : List ℕ) → canonical_order a b ≡ Ordering.Less → canonical_order b c ≡ Ordering.Less → canonical_order a c ≡ Ordering.Less
unfolding canonical_order
order_trans a b c = canonical_trans (components a).items (components b).items (components c).items

-- names that end with their last component
module _ (a b : List ℕ) (ba : Bytes a) (bb : Bytes b) (ea : ended (components a) ≡ true) (eb : ended (components b) ≡ true) where
  -- are the same only where they are equal
  pub order_same : canonical_order a b ≡ Ordering.Equal → a ≡ b
  unfolding canonical_order
  order_same e = name_one a b ba bb ea eb (canonical_same (components a).items (components b).items e)

  -- "a prefix first": a prefix of the other name is before it, if it is shorter
  pub order_prefix : prefix_of a b ≡ true → length a < length b → canonical_order a b ≡ Ordering.Less
  unfolding canonical_order
  order_prefix e h =
      let p = sym (prefix_begins a b ba bb ea eb) ∙ e in
      canonical_prefix (components a).items (components b).items p
      (begins_shorter (components a).items (components b).items p (λ q. omega (arith, ap length (name_one a b ba bb ea eb q))))

-- ---- the laws by which the code meets the order

-- bytes of a and b from a place on, at which each has one
module _ (a b : List ℕ) (i : ℕ) (ha : i < length a) (hb : i < length b) where
  -- the smaller byte decides
  pub lexical_less : slice_index_or a i 0 < slice_index b i → lexical (drop i a) (drop i b) ≡ Ordering.Less
  unfolding lexical
  lexical_less h = rw (drop-cons a i 0 ha, drop-cons b i 0 hb) (number_less (slice_index a i) (slice_index b i) _ h)

  -- and the larger
  pub lexical_more : slice_index_or b i 0 < slice_index a i → lexical (drop i a) (drop i b) ≡ Ordering.Greater
  unfolding lexical
  lexical_more h = rw (drop-cons a i 0 ha, drop-cons b i 0 hb) (number_more (slice_index a i) (slice_index b i) _ h)

  -- equal bytes leave it to those that follow
  pub lexical_next : slice_index_or a i 0 ≡ slice_index b i → lexical (drop i a) (drop i b) ≡ lexical (drop (i + 1) a) (drop (i + 1) b)
  unfolding lexical
  lexical_next q = rw (drop-cons a i 0 ha, drop-cons b i 0 hb, add-one i) (number_equal (slice_index a i) (slice_index b i) _ q)

-- where b alone has ended, a is longer
pub lexical_longer : (a b : List ℕ) (i : ℕ) → i < length a → length b ≤ i → lexical (drop i a) (drop i b) ≡ Ordering.Greater
unfolding lexical
lexical_longer a b i h k = rw (drop-cons a i 0 h, drop_of_length-le b k)

-- where a alone has ended, it is shorter
pub lexical_shorter : (a b : List ℕ) (i : ℕ) → length a ≤ i → i < length b → lexical (drop i a) (drop i b) ≡ Ordering.Less
unfolding lexical
lexical_shorter a b i h k = rw (drop_of_length-le a h, drop-cons b i 0 k)

-- where both have ended, they are the same
pub lexical_end : (a b : List ℕ) (i : ℕ) → length a ≤ i → length b ≤ i → lexical (drop i a) (drop i b) ≡ Ordering.Equal
lexical_end a b i h k = rw (drop_of_length-le a h, drop_of_length-le b k) (lexical_refl [])

-- components that stand in a and b
module _ (a b : List ℕ) (x y : Element) (hx : x.at + x.len ≤ length a) (hy : y.at + y.len ≤ length b) where
  -- are compared by the types and the lengths that are told
  placed_order : component_order (component_at a x) (component_at b y)
      ≡ by_number x.typ y.typ (by_number x.len y.len (lexical (take x.len (drop x.at a)) (take y.len (drop y.at b))))
  unfolding component_order
  placed_order =
      rw (
        length-take-le x.len (drop x.at a) (omega (arith, length-drop x.at a)),
        length-take-le y.len (drop y.at b) (omega (arith, length-drop y.at b)),
      )

  -- the smaller type decides
  pub type_less : x.typ < y.typ → component_order (component_at a x) (component_at b y) ≡ Ordering.Less
  type_less h = placed_order ∙ number_less x.typ y.typ _ h

  -- and the larger
  pub type_more : y.typ < x.typ → component_order (component_at a x) (component_at b y) ≡ Ordering.Greater
  type_more h = placed_order ∙ number_more x.typ y.typ _ h

  -- of one type, the smaller length
  pub length_less : x.typ ≡ y.typ → x.len < y.len → component_order (component_at a x) (component_at b y) ≡ Ordering.Less
  length_less t h = placed_order ∙ number_equal x.typ y.typ _ t ∙ number_less x.len y.len _ h

  -- and the larger
  pub length_more : x.typ ≡ y.typ → y.len < x.len → component_order (component_at a x) (component_at b y) ≡ Ordering.Greater
  length_more t h = placed_order ∙ number_equal x.typ y.typ _ t ∙ number_more x.len y.len _ h

  -- of one type and length, the bytes
  pub bytes_decide : x.typ ≡ y.typ → x.len ≡ y.len
      → component_order (component_at a x) (component_at b y) ≡ lexical (take x.len (drop x.at a)) (take y.len (drop y.at b))
  bytes_decide t l = placed_order ∙ number_equal x.typ y.typ _ t ∙ number_equal x.len y.len _ l

  -- and by what the library answers: its order of the two types and then of the two lengths, and where these are the same, of the bytes
  pub components_then : (r : Ordering)
      → MatchOrdering (ordering_then (nat_cmp x.typ y.typ) (nat_cmp x.len y.len)) (r ≡ Ordering.Less)
      (r ≡ lexical (take x.len (drop x.at a)) (take y.len (drop y.at b))) (r ≡ Ordering.Greater)
      → r ≡ component_order (component_at a x) (component_at b y)
  components_then r h =
      then_is (ordering_then (nat_cmp x.typ y.typ) (nat_cmp x.len y.len)) _ r h
      ∙ then_then (nat_cmp x.typ y.typ) (nat_cmp x.len y.len) _
      ∙ ap (ordering_then (nat_cmp x.typ y.typ)) (number_is x.len y.len _)
      ∙ number_is x.typ y.typ _
      ∙ sym placed_order

-- the components of a name from a place on
unfoldable pub components_from : List ℕ → ℕ → List Component
components_from s at = (components (drop at s)).items

-- where no element begins there are none
from_none : (s : List ℕ) (at : ℕ) → element_at s at ≡ None → components_from s at ≡ []
unfolding components_from components
from_none s at e = ap (λ (p : Split Component). p.items) (walk_bad component s at e)

-- an element is the first, before those from the place behind it
from_some : (s : List ℕ) (at : ℕ) (e : Element) (c : Cursor) → element_at s at ≡ Some (e, c)
    → components_from s at ≡ component_at s e ∷ components_from s c.at
unfolding components_from components
from_some s at e c q = ap (λ (p : Split Component). p.items) (walk_more component s at e c q)

-- the components of a and b from a place of each on
module _ (a b : List ℕ) (i j : ℕ) where
  -- where both have ended, they are the same
  pub both_end : element_at a i ≡ None → element_at b j ≡ None → canonical (components_from a i) (components_from b j) ≡ Ordering.Equal
  both_end p q = rw (from_none a i p, from_none b j q) (canonical_refl [])

  -- "a prefix first": where a alone has ended, it is before
  pub first_ends : (y : Element) (d : Cursor) → element_at a i ≡ None → element_at b j ≡ Some (y, d)
      → canonical (components_from a i) (components_from b j) ≡ Ordering.Less
  unfolding canonical
  first_ends y d p q = rw (from_none a i p, from_some b j y d q)

  -- and where b alone has, a is after
  pub second_ends : (x : Element) (c : Cursor) → element_at a i ≡ Some (x, c) → element_at b j ≡ None
      → canonical (components_from a i) (components_from b j) ≡ Ordering.Greater
  unfolding canonical
  second_ends x c p q = rw (from_some a i x c p, from_none b j q)

  -- where both go on, their components decide, and what follows where these are the same
  pub both_go_on : (x y : Element) (c d : Cursor) (o : Ordering) → element_at a i ≡ Some (x, c) → element_at b j ≡ Some (y, d)
      → component_order (component_at a x) (component_at b y) ≡ o
      → canonical (components_from a i) (components_from b j) ≡ and_then o (canonical (components_from a c.at) (components_from b d.at))
  unfolding canonical
  both_go_on x y c d o p q r = rw (from_some a i x c p, from_some b j y d q, r)
