-- One byte within the value of an element is replaced: a walk says the same, and its fields change by that byte alone.
-- Assumes nothing.
use Rattle.std.specs.Prelude.{ℕ, zero, suc, ◌+◌, ◌^◌, ◌≤◌, ◌<◌, ◌≡◌, ◌≢◌, ◌⊎◌, length, get_or, set, replicate}
use Rattle.std.proofs.Math.Path.{refl, sym, ap}
use Rattle.std.proofs.Common.{◌∙◌, inl, inr, arith}
use mathlib.Core.List.{List, [], ◌∷◌, map}
use Rattle.std.proofs.Math.ListN.{get_or-map}
use Rattle.laws.specs.Laws.Pick.{pick_ap}
use Rattle.wire.specs.Bytes.{Bytes}
use Rattle.wire.specs.Element.{elem, element, Split, elements, ended}
use Rattle.wire.specs.Laws.Within.{element_less}
use Rattle.wire.specs.Laws.Walk.{ended_same, kept}
use Rattle.wire.specs.Laws.Change.{changed, length_changed, changed_out, Clear, before, behind, keep_changed, elements_changed}
use Rattle.grammar.specs.Walk.{Item, item, Field, absent, here, Fields, no_fields, broken_fields, met, met_all, walked_from, walked}
use Rattle.grammar.specs.Laws.Walk.{map_set, walked_from_lem, walked_ind}

module _ (j y : ℕ) where
  -- an element with y for the byte that j bytes follow, if it is in its value
  abbrev changed_item : Item → Item
  changed_item i = record { typ = i.typ; value = changed j y i.left i.value; left = i.left }

  -- a field with y for that byte
  abbrev pub changed_field : Field → Field
  changed_field absent = absent
  changed_field (here v k) = here (changed j y k v) k

  -- fields with y for that byte
  abbrev pub changed_fields : Fields → Fields
  changed_fields f = record { said = f.said; last = f.last; vals = map changed_field f.vals }

  -- an element more
  met_changed : (p : ℕ) (f : Fields) (i : Item) → met p (changed_fields f) (changed_item i) ≡ changed_fields (met p f i)
  unfolding met
  met_changed p f i =
      rw (length_changed j y i.left i.value, map_set changed_field f.vals _ (here i.value i.left))

  -- elements one after the other
  met_all_changed : (p : ℕ) (f : Fields) (is : List Item) → met_all p (changed_fields f) (map changed_item is) ≡ changed_fields (met_all p f is)
  unfolding met_all
  met_all_changed p f [] = refl
  met_all_changed p f (i ∷ is) = ap (λ (g : Fields). met_all p g (map changed_item is)) (met_changed p f i) ∙ met_all_changed p (met p f i) is

  -- a walk over the bytes with y for that byte, where it stands in no head
  pub walked_changed : (p : ℕ) (l : List ℕ) → Bytes l → length l < 2 ^ 64 → Clear j l → walked p (changed j y 0 l) ≡ changed_fields (walked p l)
  unfolding walked_from no_fields broken_fields
  walked_changed p l b n c =
      let e : Split Item = elements item l in
      let k : Split Item = elements (keep_changed item j y) l in
      let s : map changed_item e.items ≡ k.items =
      kept item (keep_changed item j y) changed_item (λ t v r. rw (length_changed j y 0 r)) l in
      sym (walked_from_lem p (changed j y 0 l))
      ∙ ap (walked_from p no_fields) (elements_changed item j y l b n c)
      ∙ rw (← ended_same item (keep_changed item j y) l, ← s, met_all_changed p no_fields e.items, ← walked_from_lem p l)
      (sym (pick_ap changed_fields (ended e) (met_all p no_fields e.items) broken_fields))

module _ (j : ℕ) where
  -- the byte that j bytes follow stands in a field's value
  abbrev pub Holds : Field → Type 0
  Holds absent = ⊥
  Holds (here v k) = (k ≤ j) × (j < k + length v)

  -- a field that does not hold the byte stays
  pub changed_apart : (y : ℕ) (x : Field) → (Holds x → ⊥) → changed_field j y x ≡ x
  changed_apart y absent h = refl
  changed_apart y (here v k) h = ap (λ (w : List ℕ). here w k) (changed_out j y k v (λ a b. h (a, b)))

  -- a walk over s, of which l is left: one field at most holds the byte, which then stands before l and in no head
  record Placed (s : List ℕ) (f : Fields) (l : List ℕ) : Type 0 where
    later : j < length l → Clear j l → Clear j s
    found : (o : ℕ) → Holds (get_or f.vals o absent) → (length l ≤ j) × Clear j s
    once : (o q : ℕ) → Holds (get_or f.vals o absent) → Holds (get_or f.vals q absent) → o ≡ q

  -- no absent field holds the byte
  none_holds : (n o : ℕ) → Holds (get_or (replicate n absent) o absent) → ⊥
  none_holds zero o h = h
  none_holds (suc n) zero h = h
  none_holds (suc n) (suc o) h = none_holds n o h

  -- of fields with one replaced, one that holds the byte is that one or was there
  holds_set : (l : List Field) (d o : ℕ) (x : Field) → Holds (get_or (set l d x) o absent) → ((o ≡ d) × Holds x) ⊎ Holds (get_or l o absent)
  holds_set [] d o x h = inr h
  holds_set (y ∷ l) zero zero x h = inl (refl, h)
  holds_set (y ∷ l) zero (suc o) x h = inr h
  holds_set (y ∷ l) (suc d) zero x h = inr h
  holds_set (y ∷ l) (suc d) (suc o) x h = go (holds_set l d o x h)
    where
      go : ((o ≡ d) × Holds x) ⊎ Holds (get_or l o absent) → ((suc o ≡ suc d) × Holds x) ⊎ Holds (get_or l o absent)
      go (inl a) = inl (ap suc a.0, a.1)
      go (inr a) = inr a

  -- an element more
  placed_met : (s : List ℕ) (p : ℕ) (f : Fields) (l : List ℕ) (t : ℕ) (v r : List ℕ) → element l ≡ elem t v r → Placed s f l
      → Placed s (met p f (item t v r)) r
  unfolding met
  placed_met s p f l t v r e h = record {
    later = λ a c. h.later (omega (arith, element_less l e)) (behind e (omega arith) c);
    found = λ o a. one _ o (holds_set f.vals _ o (here v (length r)) a);
    once = λ o q a b. two _ o q (holds_set f.vals _ o (here v (length r)) a) (holds_set f.vals _ q (here v (length r)) b);
  }
    where
      one : (d o : ℕ) → ((o ≡ d) × Holds (here v (length r))) ⊎ Holds (get_or f.vals o absent) → (length r ≤ j) × Clear j s
      one d o (inl a) = (a.1.0, h.later (omega (arith, a.1, element_less l e)) (behind e (omega (arith, a.1)) (before a.1.0)))
      one d o (inr a) = let b = h.found o a in (omega (arith, b.0, element_less l e), b.1)

      two : (d o q : ℕ) → ((o ≡ d) × Holds (here v (length r))) ⊎ Holds (get_or f.vals o absent)
          → ((q ≡ d) × Holds (here v (length r))) ⊎ Holds (get_or f.vals q absent) → o ≡ q
      two d o q (inl a) (inl b) = a.0 ∙ sym b.0
      two d o q (inl a) (inr b) = absurd (omega (arith, a.1, (h.found q b).0, element_less l e))
      two d o q (inr a) (inl b) = absurd (omega (arith, b.1, (h.found o a).0, element_less l e))
      two d o q (inr a) (inr b) = h.once o q a b

  -- at the end of a walk over s
  placed : (p : ℕ) (s : List ℕ) → Placed s (walked p s) []
  unfolding no_fields broken_fields
  placed p s =
      rw (← walked_from_lem p s)
      (walked_ind (Placed s) p
      (record { later = λ a. absurd (omega arith); found = λ o a. absurd (none_holds 11 o a); once = λ o q a. absurd (none_holds 11 o a) })
      (placed_met s p) s no_fields
      (record { later = λ a c. c; found = λ o a. absurd (none_holds 11 o a); once = λ o q a. absurd (none_holds 11 o a) }))

  module _ (p : ℕ) (l : List ℕ) (o : ℕ) (h : Holds (get_or (walked p l).vals o absent)) where
    -- a byte in a field's value stands in no head
    pub holds_clear : Clear j l
    holds_clear = ((placed p l).found o h).1

    -- and in no other field
    pub holds_once : (q : ℕ) → q ≢ o → Holds (get_or (walked p l).vals q absent) → ⊥
    holds_once q n a = n ((placed p l).once q o a h)

-- a walk over l with y for a byte in the value of field o: it says the same, and no other field changes
pub record Changes (p j y : ℕ) (l : List ℕ) (o : ℕ) : Type 0 where
  pub said : (walked p (changed j y 0 l)).said ≡ (walked p l).said
  pub this : get_or (walked p (changed j y 0 l)).vals o absent ≡ changed_field j y (get_or (walked p l).vals o absent)
  pub other : (q : ℕ) → q ≢ o → get_or (walked p (changed j y 0 l)).vals q absent ≡ get_or (walked p l).vals q absent

-- to replace a byte in the value of a field changes that field alone
pub field_changed : (p j y : ℕ) (l : List ℕ) (o : ℕ) → Bytes l → length l < 2 ^ 64 → Holds j (get_or (walked p l).vals o absent) → Changes p j y l o
field_changed p j y l o b n h =
    let e : walked p (changed j y 0 l) ≡ changed_fields j y (walked p l) = walked_changed j y p l b n (holds_clear j p l o h) in
    let at : (q : ℕ) → get_or (changed_fields j y (walked p l)).vals q absent ≡ changed_field j y (get_or (walked p l).vals q absent) =
    (λ q. get_or-map (changed_field j y) (walked p l).vals q absent) in
    record {
      said = ap (λ (f : Fields). f.said) e;
      this = rw e (at o);
      other = λ q m. rw e (at q ∙ changed_apart j y (get_or (walked p l).vals q absent) (holds_once j p l o h q m));
    }
