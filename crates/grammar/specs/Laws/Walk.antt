-- Laws of the walk: the fields an element at a time, the places of the loop, and what holds of every walk: what it says and where each
-- field stands in its parent.
-- Assumes nothing.
use Rattle.std.specs.Prelude.{ℕ, zero, suc, ◌+◌, ◌-◌, ◌^◌, ◌≤◌, ◌<◌, ◌≡◌, List, [], ◌∷◌, ◌++◌, map, take, drop, get_or, set, replicate, leb, eqb, None, Some, Option, ◌↔◌}
use Rattle.std.proofs.Math.Path.{refl, sym, ap}
use Rattle.std.proofs.Common.{◌∙◌, drop-drop, ne_eqb}
use Rattle.std.proofs.Math.ListN.{length, length-drop, get_or-map}
use Rattle.std.proofs.Math.Seq.{drop-length}
use native.Mathlib.Omega.{arith}
use Rattle.laws.specs.Pick.{pick}
use Rattle.laws.specs.Laws.Pick.{pick_ind}
use Rattle.wire.specs.declared.read.Cursor.{Cursor}
use Rattle.wire.specs.declared.read.Element.{Element}
use Rattle.wire.specs.Element.{elem, element, Split, more, stop, elements, ended}
use Rattle.wire.specs.Places.Place.{element_at}
use Rattle.wire.specs.Laws.Within.{Found, read_is, value_length, ElementWithin, element_within}
use Rattle.wire.specs.Laws.Walk.{elements_ind, elements_stop, elements_none, elements_more, walk_end, walk_bad, walk_more}
use Rattle.wire.specs.Bytes.{Bytes}
use Rattle.wire.specs.Laws.Bytes.{bytes_drop, bytes_take}
use Rattle.wire.specs.Write.{written}
use Rattle.wire.specs.Laws.Round.{element_written}
use Rattle.grammar.specs.declared.Place.{Place}
use Rattle.grammar.specs.declared.Row.{Row}
use Rattle.wire.specs.declared.verdict.Verdict.{Verdict}
use Rattle.wire.specs.Verdict.{is_malformed}
use Rattle.grammar.specs.declared.Next.{Next}
use Rattle.grammar.specs.Table.{table, row_of, fits, other}
use Rattle.grammar.specs.Laws.Table.{row_small}
use Rattle.grammar.specs.Walk.{next, said_with, known, judged, Item, item, Field, absent, here, Fields, no_fields, broken_fields, met, met_all, walked_from, walked}
use Rattle.grammar.specs.Places.Walk.{place_in, spot_in, found_in}

-- ---- a walk, an element at a time

-- a walk begins with no field
pub walked_from_lem : (p : ℕ) (l : List ℕ) → walked_from p no_fields (elements item l) ≡ walked p l
unfolding walked
walked_from_lem p l = refl

module _ (p : ℕ) (f : Fields) where
  -- an element in front is met before the others
  pub walked_more : (i : Item) (e : Split Item) → walked_from p f (more i e) ≡ walked_from p (met p f i) e
  unfolding walked_from met_all ended
  walked_more i e = refl

  -- at the last byte the fields are those met
  pub walked_end : walked_from p f (stop []) ≡ f
  unfolding walked_from met_all ended pick
  walked_end = refl

  -- where bytes are left that begin no element, all fields are broken
  pub walked_broken : (l : List ℕ) → 1 ≤ length l → walked_from p f (stop l) ≡ broken_fields
  unfolding walked_from ended pick
  walked_broken l h = rw (ne_eqb (length l) 0 (λ z. omega arith))

  -- a written element in front is met before what follows it
  pub walked_written : (t : ℕ) (v r : List ℕ) → 1 ≤ t → t < 2 ^ 32 → length v < 2 ^ 64
      → walked_from p f (elements item (written t v ++ r)) ≡ walked_from p (met p f (item t v r)) (elements item r)
  walked_written t v r l h k =
      ap (walked_from p f) (elements_more item (written t v ++ r) (element_written t v r l h k)) ∙ walked_more (item t v r) (elements item r)

-- no bytes, no fields
pub walked_none : (p : ℕ) → walked p [] ≡ no_fields
walked_none p = sym (walked_from_lem p []) ∙ rw (elements_none item) (walked_end p no_fields)

-- ---- the loop: the fields by their places

-- a function of each element of a list in which one is replaced
pub map_set : {A B : Type 0} (g : A → B) (l : List A) (i : ℕ) (x : A) → map g (set l i x) ≡ set (map g l) i (g x)
map_set g [] i x = refl
map_set g (y ∷ l) zero x = refl
map_set g (y ∷ l) (suc i) x = ap (λ m. g y ∷ m) (map_set g l i x)

-- the value of an element that is read at a place stands where it is told
found_placed : {s : List ℕ} {at : ℕ} {e : Element} {c : Cursor} → Found s at e c
    → spot_in (length s) (here (take e.len (drop e.at s)) (length (drop c.at s))) ≡ Some (record { at = e.at; len = e.len })
unfolding spot_in place_in
found_placed {s} {at} {e} {c} h =
    let a : length s - length (drop c.at s) - e.len ≡ e.at = omega (arith, length-drop c.at s) in rw (value_length h, a)

-- the loop at place at of s: the fields f are met, whose places are the loop's, and what they and the bytes left say is what all say
pub record Walking (p : ℕ) (s : List ℕ) (at : ℕ) (said : Verdict) (last : ℕ) (places : List (Option Place)) : Type 0 where
  pub f : Fields
  pub said_is : said ≡ f.said
  pub last_is : last ≡ f.last
  pub places_are : places ≡ map (spot_in (length s)) f.vals
  pub same : walked_from p f (elements item (drop at s)) ≡ walked p s

-- the loop starts with no field
pub walking_start : (p : ℕ) (s : List ℕ) → Walking p s 0 Verdict.Fine 0 (replicate 11 None)
unfolding no_fields spot_in
walking_start p s = record { f = no_fields; said_is = refl; last_is = refl; places_are = refl; same = walked_from_lem p s }

module _ {p : ℕ} {s : List ℕ} {at : ℕ} {said : Verdict} {last : ℕ} {places : List (Option Place)} (w : Walking p s at said last places) where
  -- at the end of s the loop has what the walk says
  pub walking_end : length s ≤ at → record { said = said; last = last; places = places } ≡ found_in (length s) (walked p s)
  unfolding found_in
  walking_end h =
      let e : w.f ≡ walked p s = sym (walked_end p w.f) ∙ ap (walked_from p w.f) (sym (walk_end item s at h)) ∙ w.same in
      rw (w.said_is, w.last_is, w.places_are, e)

  -- at a fault the walk says 5, with no field
  pub walking_bad : at < length s → element_at s at ≡ None
      → record { said = Verdict.Malformed; last = 0; places = replicate 11 None } ≡ found_in (length s) (walked p s)
  unfolding found_in broken_fields spot_in
  walking_bad h b =
      let e : broken_fields ≡ walked p s =
      sym (walked_broken p w.f (drop at s) (omega (arith, length-drop at s))) ∙ ap (walked_from p w.f) (sym (walk_bad item s at b)) ∙ w.same in
      rw (← e)

  -- past an element, which v is next, the loop goes on with its field
  pub walking_more : (e : Element) (c : Cursor) (v : Next) → element_at s at ≡ Some (e, c) → v ≡ judged p said last e.typ e.len
      → Walking p s c.at v.said v.last (set places v.order (Some (record { at = e.at; len = e.len })))
  unfolding met
  walking_more e c v i j =
      let h : Found s at e c = read_is s at e c i in
      let n : length (take e.len (drop e.at s)) ≡ e.len = value_length h in
      let k : Item = item e.typ (take e.len (drop e.at s)) (drop c.at s) in
      let d : v ≡ judged p w.f.said w.f.last e.typ (length (take e.len (drop e.at s))) = rw (n, ← w.said_is, ← w.last_is) j in
      let q : spot_in (length s) (here k.value k.left) ≡ Some (record { at = e.at; len = e.len }) = found_placed h in
      record {
        f = met p w.f k;
        said_is = ap (λ (x : Next). x.said) d;
        last_is = ap (λ (x : Next). x.last) d;
        places_are = rw (map_set (spot_in (length s)) w.f.vals _ (here k.value k.left), q, w.places_are, d);
        same = sym (walked_more p w.f k (elements item (drop c.at s))) ∙ ap (walked_from p w.f) (sym (walk_more item s at e c i)) ∙ w.same;
      }

-- ---- what holds of every walk

-- what holds after a fault, after an element that is not known, and after one that is, holds after any
judged_ind : (P : Next → Type 0) (p : ℕ) (said : Verdict) (last t n : ℕ)
    → P (next Verdict.Malformed last 0)
    → P (next (said_with said (other p t last)) last 0)
    → P (next (said_with said (row_of p t table).says) (row_of p t table).order (row_of p t table).order)
    → P (judged p said last t n)
unfolding judged known
judged_ind P p said last t n five says is =
    let r : Row = row_of p t table in
    pick_ind P (is_malformed said) _ _ (λ _. five)
    (λ _. pick_ind P (eqb r.order 0) _ _ (λ _. says)
    (λ _. pick_ind P (leb r.order last) _ _ (λ _. five) (λ _. pick_ind P (fits r.rule n) _ _ (λ _. is) (λ _. five))))

-- an element's order is one of 11, by the table's orders
pub order_small : (p : ℕ) (said : Verdict) (last t n : ℕ) → (judged p said last t n).order < 11
order_small p said last t n =
    judged_ind (λ (v : Next). v.order < 11) p said last t n (omega arith) (omega arith) (row_small p t)

-- what holds of the fields with which a walk begins and of the bytes left, of broken fields, and with an element more, holds where it ends
pub walked_ind : (P : Fields → List ℕ → Type 0) (p : ℕ)
    → P broken_fields []
    → ((f : Fields) (l : List ℕ) (t : ℕ) (v r : List ℕ) → element l ≡ elem t v r → P f l → P (met p f (item t v r)) r)
    → (l : List ℕ) (f : Fields) → P f l → P (walked_from p f (elements item l)) []
walked_ind P p broken step =
    elements_ind (λ l. (f : Fields) → P f l → P (walked_from p f (elements item l)) [])
    (λ l e f h. rw (elements_stop item l e) (stopped l f h))
    (λ l t v r e ih f h. rw (elements_more item l e, walked_more p f (item t v r) (elements item r)) (ih _ (step f l t v r e h)))
  where
    stopped : (l : List ℕ) (f : Fields) → P f l → P (walked_from p f (stop l)) []
    stopped [] f h = rw (walked_end p f) h
    stopped (b ∷ l) f h = rw (walked_broken p f (b ∷ l) (omega arith)) broken

-- ---- where a field stands

-- a field that is there stands within its parent l: behind a head of two bytes or more, and before the k bytes that follow it
pub record FieldIn (l : List ℕ) (x : Field) : Type 0 where
  pub fits : {v : List ℕ} {k : ℕ} → x ≡ here v k → 2 + length v + k ≤ length l
  pub value : {v : List ℕ} {k : ℕ} → x ≡ here v k → v ≡ take (length v) (drop (length l - k - length v) l)

-- an absent field stands nowhere
absent_in : (l : List ℕ) → FieldIn l absent
absent_in l = record { fits = λ e. absurd (let z : ◌≡◌ {A = ℕ} 0 1 = cc in omega arith); value = λ e. cc }

-- the value of an element stands within the parent that it is read from
element_in_lem : (s : List ℕ) (at t : ℕ) (v r : List ℕ) → element (drop at s) ≡ elem t v r → FieldIn s (here v (length r))
element_in_lem s at t v r e =
    let h : ElementWithin (drop at s) t v r = element_within (drop at s) e in
    let d : r ≡ drop (at + (h.head + length v)) s = h.rest ∙ drop-drop (h.head + length v) at s in
    let k : at + (h.head + length v) ≤ length s = omega (arith, h.two, h.fits, length-drop at s) in
    let n : length s - length r - length v ≡ at + h.head = omega (arith, ap length d, length-drop (at + (h.head + length v)) s) in
    let a : v ≡ take (length v) (drop (length s - length r - length v) s) = rw n (h.value ∙ rw (drop-drop h.head at s)) in
    record {
      fits = λ {v = v'} {k = k'} q. let i : length v ≡ length v' = cc in let j : length r ≡ k' = cc in omega (arith, h.two);
      value = λ {v = v'} {k = k'} q. let i : v ≡ v' = cc in let j : length r ≡ k' = cc in rw (← i, ← j) a;
    }

-- the loop of a walk over s, of which l is left: each field stands in s
record Standing (s : List ℕ) (f : Fields) (l : List ℕ) : Type 0 where
  at : ℕ
  left : l ≡ drop at s
  each : (o : ℕ) → FieldIn s (get_or f.vals o absent)

-- each of n absent fields stands nowhere
none_in : (s : List ℕ) (n o : ℕ) → FieldIn s (get_or (replicate n absent) o absent)
none_in s zero o = absent_in s
none_in s (suc n) zero = absent_in s
none_in s (suc n) (suc o) = none_in s n o

-- fields that stand in s, one of them replaced by another that does
set_in : (s : List ℕ) (l : List Field) (i : ℕ) (x : Field) → FieldIn s x → ((o : ℕ) → FieldIn s (get_or l o absent))
    → (o : ℕ) → FieldIn s (get_or (set l i x) o absent)
set_in s [] i x h each o = each o
set_in s (y ∷ l) zero x h each zero = h
set_in s (y ∷ l) zero x h each (suc o) = each (suc o)
set_in s (y ∷ l) (suc i) x h each zero = each 0
set_in s (y ∷ l) (suc i) x h each (suc o) = set_in s l i x h (λ k. each (suc k)) o

-- one element more leaves each field in s
standing_met : (s : List ℕ) (p : ℕ) (f : Fields) (l : List ℕ) (t : ℕ) (v r : List ℕ) → element l ≡ elem t v r → Standing s f l
    → Standing s (met p f (item t v r)) r
unfolding met
standing_met s p f l t v r e h =
    let d : element (drop h.at s) ≡ elem t v r = rw h.left at e in
    let w : ElementWithin l t v r = element_within l e in
    record {
      at = h.at + (w.head + length v);
      left = w.rest ∙ ap (drop (w.head + length v)) h.left ∙ drop-drop (w.head + length v) h.at s;
      each = set_in s f.vals _ (here v (length r)) (element_in_lem s h.at t v r d) h.each;
    }

-- each field of a walk stands in the parent
pub walked_in : (p : ℕ) (l : List ℕ) (o : ℕ) → FieldIn l (get_or (walked p l).vals o absent)
unfolding no_fields broken_fields
walked_in p l o =
    rw (← walked_from_lem p l)
    ((walked_ind (Standing l) p (record { at = length l; left = sym (drop-length l); each = none_in l 11 }) (standing_met l p) l no_fields
    (record { at = 0; left = refl; each = none_in l 11 })).each o)

-- the place of each field, by its order
pub place_of_lem : (n : ℕ) (f : Fields) (o : ℕ) → get_or (found_in n f).places o None ≡ spot_in n (get_or f.vals o absent)
unfolding found_in spot_in
place_of_lem n f o = get_or-map (spot_in n) f.vals o absent

module _ {l : List ℕ} {x : Field} (h : FieldIn l x) where
  -- the bytes at a field's place are its value
  pub place_value : {v : List ℕ} {k : ℕ} → x ≡ here v k → take (place_in (length l) x).len (drop (place_in (length l) x).at l) ≡ v
  unfolding place_in
  place_value e = rw e (sym (h.value e))

  -- the place of a field that is there is at two bytes or more
  pub place_here : {v : List ℕ} {k : ℕ} → x ≡ here v k → 2 ≤ (place_in (length l) x).at
  unfolding place_in
  place_here e = rw e (omega (arith, h.fits e))

  -- a place lies within the parent
  pub place_inside : (place_in (length l) x).at + (place_in (length l) x).len ≤ length l
  unfolding place_in
  place_inside = go x refl
    where
      go : (y : Field) → x ≡ y → (place_in (length l) y).at + (place_in (length l) y).len ≤ length l
      go absent e = omega arith
      go (here v k) e = omega (arith, h.fits e)

  -- a place at 0 is that of no field
  pub absent_at : (place_in (length l) x).at ≡ 0 → x ≡ absent
  absent_at z = go x refl
    where
      go : (y : Field) → x ≡ y → x ≡ absent
      go absent e = e
      go (here v k) e = absurd (omega (arith, place_here e))

  -- a field's value is bytes where the parent is
  pub field_bytes : {v : List ℕ} {k : ℕ} → x ≡ here v k → Bytes l → Bytes v
  field_bytes {v} {k} e b = rw (h.value e) (bytes_take (length v) (drop (length l - k - length v) l) (bytes_drop (length l - k - length v) l b))

-- an absent field has its place at 0
pub place_absent : (n : ℕ) {x : Field} → x ≡ absent → (place_in n x).at ≡ 0
unfolding place_in
place_absent n e = rw e

-- a field that is absent has no place, and one that has no place is absent
pub spot_absent : (n : ℕ) (x : Field) → (x ≡ absent) ↔ (spot_in n x ≡ None)
unfolding spot_in
spot_absent n absent = (λ e. refl, λ e. refl)
spot_absent n (here v k) = (λ e. cc, λ e. cc)

-- a field that has a place is there, at that place
pub spot_here : (n : ℕ) (x : Field) {q : Place} → spot_in n x ≡ Some q → q ≡ place_in n x
unfolding spot_in
spot_here n absent e = cc
spot_here n (here v k) e = cc
