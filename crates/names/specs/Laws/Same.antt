-- Equality and prefix of names: what `same_bytes` and `prefix_of` say of the bytes, the laws by which `same` and `is_prefix` meet them, and
-- what a name's bytes have to do with its components.
-- Assumes nothing.
use Rattle.std.specs.Prelude.{◌≡◌, ℕ, ◌+◌, ◌<◌, ◌≤◌, Bool, true, false, ◌&&◌, ◌≢◌, List, [], ◌∷◌, ◌++◌, map, length, take, drop, ◌==◌, nat_eq, slice_index, slice_index_or, refl}
use Rattle.std.proofs.Common.{sym, ◌∙◌, append_assoc, length-take, drop_of_length-le, take-append-drop, arith}
use Rattle.std.specs.Cmp.Lexicographic.{pointwise}
use Rattle.std.proofs.Math.Path.{ap}
use Rattle.std.proofs.Math.Seq.{drop-cons, take-append_seam}
use borrow.Author.Tests.{eq-eqb, ne_eqb, eqb-true}
use Rattle.std.proofs.Math.Numerals.{add-one}
use Rattle.wire.specs.Element.{Split, ended}
use Rattle.wire.specs.Write.{written}
use Rattle.wire.specs.Bytes.{Bytes}
use Rattle.wire.specs.Laws.Walk.{ended_same, kept}
use Rattle.wire.specs.Laws.Exact.{Item, item, joined, elements_exact}
use Rattle.wire.specs.Laws.Extend.{elements_extend}
use Rattle.names.specs.Name.{Component, component, components, same_bytes, prefix_of}

-- two tests that hold together hold each
pub both : (x y : Bool) → (x && y) ≡ true → (x ≡ true) × (y ≡ true)
both true y e = (refl, e)
both false y e = (e, cc)

-- the same bytes are equal lists
pub same_equal : (a b : List ℕ) → same_bytes a b ≡ true → a ≡ b
unfolding same_bytes
same_equal [] [] e = refl
same_equal [] (b ∷ l) e = cc
same_equal (a ∷ k) [] e = cc
same_equal (a ∷ k) (b ∷ l) e =
    let h = both (a == b) (same_bytes k l) e in
    rw (eqb-true a b h.0, same_equal k l h.1)

-- the library's comparison of two lists of bytes
pub same_is : (a b : List ℕ) → pointwise nat_eq a b ≡ same_bytes a b
unfolding same_bytes
same_is [] [] = refl
same_is [] (b ∷ l) = refl
same_is (a ∷ k) [] = refl
same_is (a ∷ k) (b ∷ l) = ap (λ (t : Bool). (a == b) && t) (same_is k l)

-- a list is the same bytes as itself
pub same_refl : (a : List ℕ) → same_bytes a a ≡ true
unfolding same_bytes
same_refl [] = refl
same_refl (a ∷ k) = rw (eq-eqb a a refl) (same_refl k)

-- bytes that are not the same are not equal lists
pub same_not : (a b : List ℕ) → same_bytes a b ≡ false → a ≢ b
same_not a b e q = let z : ◌≡◌ {A = ℕ} 0 1 = cc (same_refl a) in omega arith

-- two lists that are not equal are not the same bytes
unequal : (a b : List ℕ) → (a ≢ b) → same_bytes a b ≡ false
unequal a b n = go (same_bytes a b) refl
  where
    go : (x : Bool) → same_bytes a b ≡ x → x ≡ false
    go true e = absurd (n (same_equal a b e))
    go false e = refl

-- lists of different lengths are not the same bytes
pub same_lengths : (a b : List ℕ) → length a ≢ length b → same_bytes a b ≡ false
same_lengths a b n = unequal a b (λ q. n (ap length q))

-- what is left of a and b from a place on, at which each has a byte
module _ (a b : List ℕ) (i : ℕ) (ha : i < length a) (hb : i < length b) where
  -- equal bytes there: what follows them decides
  pub same_step : slice_index_or a i 0 ≡ slice_index b i → same_bytes (drop i a) (drop i b) ≡ same_bytes (drop (i + 1) a) (drop (i + 1) b)
  unfolding same_bytes
  same_step q = rw (drop-cons a i 0 ha, drop-cons b i 0 hb, eq-eqb (slice_index a i) (slice_index b i) q, add-one i)

  -- different bytes there: not the same
  pub same_differ : slice_index_or a i 0 ≢ slice_index b i → same_bytes (drop i a) (drop i b) ≡ false
  unfolding same_bytes
  same_differ n = rw (drop-cons a i 0 ha, drop-cons b i 0 hb, ne_eqb (slice_index a i) (slice_index b i) n)

-- at the end of both nothing differs
pub same_end : (a b : List ℕ) (i : ℕ) → length a ≤ i → length b ≤ i → same_bytes (drop i a) (drop i b) ≡ true
same_end a b i h k = rw (drop_of_length-le a h, drop_of_length-le b k) (same_refl [])

-- a list is a prefix of itself with any bytes behind
pub prefix_append : (a b : List ℕ) → prefix_of a (a ++ b) ≡ true
unfolding prefix_of
prefix_append a b = rw (take-append_seam a b) (same_refl a)

-- what has a prefix is the prefix and what follows it
pub prefix_is : (a b : List ℕ) → prefix_of a b ≡ true → b ≡ a ++ drop (length a) b
unfolding prefix_of
prefix_is a b e =
    let q : a ≡ take (length a) b = same_equal a (take (length a) b) e in
    sym (ap (λ (l : List ℕ). l ++ drop (length a) b) q ∙ take-append-drop (length a) b)

-- what is longer is no prefix
pub prefix_longer : (a b : List ℕ) → length b < length a → prefix_of a b ≡ false
unfolding prefix_of
prefix_longer a b h = same_lengths a (take (length a) b) (λ q. omega (arith, length-take (length a) b))

-- ---- names and their components

-- a component as an element that is written
abbrev as_item : Component → Item
as_item c = record { typ = c.typ; value = c.value }

-- components written one after the other
unfoldable pub name_of : List Component → List ℕ
name_of cs = joined (map as_item cs)

-- two lists of components, one after the other
name_of_append : (cs ds : List Component) → name_of (cs ++ ds) ≡ name_of cs ++ name_of ds
unfolding name_of joined
name_of_append [] ds = refl
name_of_append (c ∷ cs) ds = rw (name_of_append cs ds) (sym (append_assoc (written c.typ c.value) (name_of cs) (name_of ds)))

-- a name that ends with its last component is its components written one after the other
pub name_exact : (a : List ℕ) → Bytes a → ended (components a) ≡ true → a ≡ name_of (components a).items
unfolding components name_of item
name_exact a h e =
    elements_exact a h (sym (ended_same component item a) ∙ e) ∙ ap joined (sym (kept component item as_item (λ t v r. refl) a))

-- whether two components have one type and the same bytes
unfoldable pub same_component : Component → Component → Bool
same_component c d = c.typ == d.typ && same_bytes c.value d.value

-- whether the first components are those that the second begin with
unfoldable pub begins_with : List Component → List Component → Bool
unfolding same_component
begins_with [] ds = true
begins_with (c ∷ cs) [] = false
begins_with (c ∷ cs) (d ∷ ds) = same_component c d && begins_with cs ds

-- components of one type and value are equal
pub component_is : (c d : Component) → c.typ ≡ d.typ → c.value ≡ d.value → c ≡ d
component_is c d t v = ap (λ (n : ℕ). component n c.value []) t ∙ ap (λ (l : List ℕ). component d.typ l []) v

-- the same components are equal
pub component_equal : (c d : Component) → same_component c d ≡ true → c ≡ d
unfolding same_component
component_equal c d e =
    let h = both (c.typ == d.typ) (same_bytes c.value d.value) e in
    component_is c d (eqb-true c.typ d.typ h.0) (same_equal c.value d.value h.1)

-- components begin with themselves, whatever follows
pub begins_append : (cs ds : List Component) → begins_with cs (cs ++ ds) ≡ true
unfolding begins_with
begins_append [] ds = refl
begins_append (c ∷ cs) ds = rw (eq-eqb c.typ c.typ refl, same_refl c.value) (begins_append cs ds)

-- components that begin with others are these and what follows them
pub begins_is : (cs ds : List Component) → begins_with cs ds ≡ true → ds ≡ cs ++ drop (length cs) ds
unfolding begins_with
begins_is [] ds e = refl
begins_is (c ∷ cs) [] e = cc
begins_is (c ∷ cs) (d ∷ ds) e =
    let h = both (same_component c d) (begins_with cs ds) e in
    cc (component_equal c d h.0, begins_is cs ds h.1)

-- and are more, unless both are equal
pub begins_shorter : (cs ds : List Component) → begins_with cs ds ≡ true → (cs ≢ ds) → length cs < length ds
unfolding begins_with
begins_shorter [] [] e n = absurd (n refl)
begins_shorter [] (d ∷ ds) e n = omega arith
begins_shorter (c ∷ cs) [] e n = absurd (let z : ◌≡◌ {A = ℕ} 0 1 = cc in omega arith)
begins_shorter (c ∷ cs) (d ∷ ds) e n =
    let h = both (same_component c d) (begins_with cs ds) e in
    let k : length cs < length ds = begins_shorter cs ds h.1 (λ q. n (cc (component_equal c d h.0))) in
    omega arith

-- two tests of which each holds where the other does are equal
equal_tests : (x y : Bool) → (x ≡ true → y ≡ true) → (y ≡ true → x ≡ true) → x ≡ y
equal_tests true y p q = sym (p refl)
equal_tests false true p q = q refl
equal_tests false false p q = refl

-- names that end with their last component
module _ (a b : List ℕ) (ba : Bytes a) (bb : Bytes b) (ea : ended (components a) ≡ true) (eb : ended (components b) ≡ true) where
  -- are fixed by their components
  pub name_one : (components a).items ≡ (components b).items → a ≡ b
  name_one q = name_exact a ba ea ∙ ap name_of q ∙ sym (name_exact b bb eb)

  -- where the bytes begin with others, so do the components
  begins_of : prefix_of a b ≡ true → begins_with (components a).items (components b).items ≡ true
  unfolding components
  begins_of e =
      let x = drop (length a) b in
      ap (λ (l : List ℕ). begins_with (components a).items (components l).items) (prefix_is a b e)
      ∙ ap (λ (p : Split Component). begins_with (components a).items p.items) (elements_extend component (λ t v r s. refl) a x ea)
      ∙ begins_append (components a).items (components x).items

  -- where the components do, so do the bytes
  prefix_of_lem : begins_with (components a).items (components b).items ≡ true → prefix_of a b ≡ true
  prefix_of_lem e =
      let cs = (components a).items in
      let ds = drop (length cs) (components b).items in
      let q : b ≡ a ++ name_of ds = cc (name_exact a ba ea, name_exact b bb eb, begins_is cs (components b).items e, name_of_append cs ds) in
      rw q (prefix_append a (name_of ds))

  -- a prefix by bytes is a prefix by components
  pub prefix_begins : prefix_of a b ≡ begins_with (components a).items (components b).items
  prefix_begins = equal_tests (prefix_of a b) (begins_with (components a).items (components b).items) begins_of prefix_of_lem
