-- What is read lies within the bytes that it is read from: numbers and elements over a list, and then at a place of a slice.
-- Assumes nothing.
use Rattle.std.specs.Prelude.{ℕ, ◌+◌, ◌-◌, ◌≤◌, ◌<◌, ◌≡◌, refl, Bool, true, false, List, [], ◌∷◌, length, take, drop, ltb, eqb, None, Some}
use Rattle.std.proofs.Common.{◌∙◌, ap, length-drop, length-take-le, drop-drop, ltb-false, le-ltb, eqb-true, arith}
use Rattle.laws.specs.Laws.Some.{some_pair}
use Rattle.laws.specs.Pick.{pick}
use Rattle.laws.specs.Laws.Pick.{pick_ind}
use Rattle.wire.specs.declared.read.Cursor.{Cursor}
use Rattle.wire.specs.declared.read.Element.{Element}
use Rattle.wire.specs.Bytes.{Bytes}
use Rattle.wire.specs.Laws.Bytes.{bytes_drop, bytes_take}
use Rattle.wire.specs.Number.{Got, nothing, got, wide, long, any_number, width_of, shortest, number}
use Rattle.wire.specs.Element.{Elem, bad, elem, valued, typed, element}
use Rattle.wire.specs.Places.Place.{cursor_at, number_in, element_in, any_number_at, number_at, element_at}

-- a number of w bytes stands at the start of l, and r follows it
pub record NumberWithin (l : List ℕ) (v w : ℕ) (r : List ℕ) : Type 0 where
  pub some : 1 ≤ w
  pub fits : w ≤ length l
  pub rest : r ≡ drop w l

-- what NumberWithin says of a number that is read, if one is
abbrev Any : List ℕ → Got → Type 0
Any l nothing = Unit {0}
Any l (got v w r) = NumberWithin l v w r

-- n bytes after a first one
any_wide : (n b : ℕ) (l : List ℕ) → Any (b ∷ l) (wide n l)
unfolding wide
any_wide n b l = pick_ind (Any (b ∷ l)) (ltb (length l) n) _ _ (λ e. tt) (λ e. record { some = omega arith; fits = omega (arith, ltb-false (length l) n e); rest = refl })

-- the forms of 3, 5 and 9 bytes
any_long : (b : ℕ) (l : List ℕ) → Any (b ∷ l) (long b l)
unfolding long
any_long b l = pick_ind (Any (b ∷ l)) (eqb b 253) _ _ (λ e. any_wide 2 b l) (λ e. pick_ind (Any (b ∷ l)) (eqb b 254) _ _ (λ e. any_wide 4 b l) (λ e. any_wide 8 b l))

-- a number in any form
any_any : (l : List ℕ) → Any l (any_number l)
unfolding any_number
any_any [] = tt
any_any (b ∷ l) = pick_ind (Any (b ∷ l)) (ltb b 253) _ _ (λ e. record { some = omega arith; fits = omega arith; rest = refl }) (λ e. any_long b l)

-- what is read in its shortest form is what is read in any form, or nothing
any_short : (l : List ℕ) (g : Got) → Any l g → Any l (shortest g)
unfolding shortest
any_short l nothing h = tt
any_short l (got v w r) h = pick_ind (Any l) (eqb w (width_of v)) _ _ (λ e. h) (λ e. tt)

-- a number in its shortest form
any_number_lem : (l : List ℕ) → Any l (number l)
unfolding number
any_number_lem l = any_short l (any_number l) (any_any l)

-- what passes as shortest passes unchanged, with the width of its value
short_of : (g : Got) {v w : ℕ} {r : List ℕ} → shortest g ≡ got v w r → (g ≡ got v w r) × (w ≡ width_of v)
unfolding shortest pick
short_of nothing e = absurd (let z : ◌≡◌ {A = ℕ} 0 1 = cc in omega arith)
short_of (got v w r) {v = v'} {w = w'} {r = r'} e = go (eqb w (width_of v)) refl e
  where
    go : (b : Bool) → eqb w (width_of v) ≡ b → pick b (got v w r) nothing ≡ got v' w' r' → (got v w r ≡ got v' w' r') × (w' ≡ width_of v')
    go true t e = (e, let q : w ≡ width_of v = eqb-true w (width_of v) t in cc)
    go false t e = absurd (let z : ◌≡◌ {A = ℕ} 0 1 = cc in omega arith)

-- the number in its shortest form is the number in any form
pub number_any : (l : List ℕ) {v w : ℕ} {r : List ℕ} → number l ≡ got v w r → any_number l ≡ got v w r
unfolding number
number_any l e = (short_of (any_number l) e).0

-- it takes as many bytes as the shortest form of its value
pub number_width : (l : List ℕ) {v w : ℕ} {r : List ℕ} → number l ≡ got v w r → w ≡ width_of v
unfolding number
number_width l e = (short_of (any_number l) e).1

-- it lies within the bytes
pub number_within : (l : List ℕ) {v w : ℕ} {r : List ℕ} → number l ≡ got v w r → NumberWithin l v w r
number_within l e = rw e at (any_number_lem l)

-- an element and its parts: two numbers, its type and the length of its value, and then the value
pub record Parts (l : List ℕ) (t : ℕ) (v r : List ℕ) : Type 0 where
  pub first : ℕ
  pub after : List ℕ
  pub typ : number l ≡ got t first after
  pub low : 1 ≤ t
  pub high : t ≤ 4294967295
  pub second : ℕ
  pub body : List ℕ
  pub len : number after ≡ got (length v) second body
  pub fits : length v ≤ length body
  pub value : v ≡ take (length v) body
  pub rest : r ≡ drop (length v) body

-- what Parts says of an element that is read, if one is
abbrev Holds : List ℕ → Elem → Type 0
Holds l bad = Unit {0}
Holds l (elem t v r) = Parts l t v r

-- the value, once type and length are read
some_valued : (l : List ℕ) (t w : ℕ) (l' : List ℕ) → number l ≡ got t w l' → 1 ≤ t → t ≤ 4294967295
    → (g : Got) → number l' ≡ g → Holds l (valued t g)
unfolding valued
some_valued l t w l' p lo hi nothing q = tt
some_valued l t w l' p lo hi (got n w' m) q =
    pick_ind (Holds l) (ltb (length m) n) _ _ (λ k. tt)
    (λ k.
    let h : n ≤ length m = ltb-false (length m) n k in
    let z : length (take n m) ≡ n = length-take-le n m h in
    record {
      first = w;
      after = l';
      typ = p;
      low = lo;
      high = hi;
      second = w';
      body = m;
      len = rw z q;
      fits = rw z h;
      value = rw z;
      rest = rw z;
    })

-- the type, and what follows it
some_typed : (l : List ℕ) (g : Got) → number l ≡ g → Holds l (typed number g)
unfolding typed
some_typed l nothing p = tt
some_typed l (got t w l') p =
    pick_ind (Holds l) (ltb t 1) _ _ (λ k. tt)
    (λ k. pick_ind (Holds l) (ltb 4294967295 t) _ _ (λ j. tt)
    (λ j. some_valued l t w l' p (ltb-false t 1 k) (ltb-false 4294967295 t j) (number l') refl))

-- an element
some_element : (l : List ℕ) → Holds l (element l)
unfolding element
some_element l = some_typed l (number l) refl

-- the parts of an element that is read
pub element_parts : (l : List ℕ) {t : ℕ} {v r : List ℕ} → element l ≡ elem t v r → Parts l t v r
element_parts l e = rw e at (some_element l)

-- an element is read where its parts stand
pub element_of : {l : List ℕ} {t : ℕ} {v r : List ℕ} → Parts l t v r → element l ≡ elem t v r
unfolding element
element_of {l} {t} {v} {r} p =
    rw (p.typ, le-ltb t 1 p.low, le-ltb 4294967295 t p.high, p.len, le-ltb (length p.body) (length v) p.fits, ← p.value, ← p.rest)

-- an element's value stands behind its head, at two bytes or more, and what follows it behind its value
pub record ElementWithin (l : List ℕ) (t : ℕ) (v r : List ℕ) : Type 0 where
  pub head : ℕ
  pub two : 2 ≤ head
  pub fits : head + length v ≤ length l
  pub value : v ≡ take (length v) (drop head l)
  pub rest : r ≡ drop (head + length v) l
  pub low : 1 ≤ t
  pub high : t ≤ 4294967295

-- an element lies within the bytes
pub element_within : (l : List ℕ) {t : ℕ} {v r : List ℕ} → element l ≡ elem t v r → ElementWithin l t v r
element_within l {t} {v} {r} e =
    let p : Parts l t v r = element_parts l e in
    let a = number_within l p.typ in
    let b = number_within p.after p.len in
    let d : p.body ≡ drop (p.first + p.second) l = b.rest ∙ rw a.rest (drop-drop p.second p.first l) in
    record {
      head = p.first + p.second;
      two = omega arith;
      fits = omega (arith, ap length d, length-drop (p.first + p.second) l, ap length a.rest, length-drop p.first l);
      value = p.value ∙ rw d refl;
      rest = p.rest ∙ rw d (drop-drop (length v) (p.first + p.second) l);
      low = p.low;
      high = p.high;
    }

-- an element takes two bytes and its value from the bytes, at least
pub element_less : (l : List ℕ) {t : ℕ} {v r : List ℕ} → element l ≡ elem t v r → 2 + length v + length r ≤ length l
element_less l {t} {v} {r} e =
    let h : ElementWithin l t v r = element_within l e in
    omega (arith, ap length h.rest, length-drop (h.head + length v) l)

-- an element's value is bytes
pub value_bytes : (l : List ℕ) {t : ℕ} {v r : List ℕ} → Bytes l → element l ≡ elem t v r → Bytes v
value_bytes l {t} {v} {r} h e =
    let w : ElementWithin l t v r = element_within l e in
    rw w.value (bytes_take (length v) (drop w.head l) (bytes_drop w.head l h))

-- what follows an element is bytes
pub rest_bytes : (l : List ℕ) {t : ℕ} {v r : List ℕ} → Bytes l → element l ≡ elem t v r → Bytes r
rest_bytes l {t} {v} {r} h e =
    let w : ElementWithin l t v r = element_within l e in
    rw w.rest (bytes_drop (w.head + length v) l h)

-- no bytes are no element
pub element_none : element [] ≡ bad
unfolding element number
element_none = refl

-- ---- at a place of a slice

-- a number that is read at a place: it is that of the bytes from there on, and the cursor stands behind it
pub record NumberFound (num : List ℕ → Got) (s : List ℕ) (at v : ℕ) (c : Cursor) : Type 0 where
  pub same : num (drop at s) ≡ got v (c.at - at) (drop c.at s)
  pub early : at < c.at
  pub inside : c.at ≤ length s

-- an element that is read at a place: it is that of the bytes from there on, and the cursor stands behind its value
pub record Found (s : List ℕ) (at : ℕ) (e : Element) (c : Cursor) : Type 0 where
  pub same : element (drop at s) ≡ elem e.typ (take e.len (drop e.at s)) (drop c.at s)
  pub early : at + 2 ≤ e.at
  pub value : e.at + e.len ≡ c.at
  pub inside : c.at ≤ length s
  pub low : 1 ≤ e.typ
  pub high : e.typ ≤ 4294967295

-- a fault at a place is a fault over the list
number_in_bad : (s : List ℕ) (g : Got) → number_in s g ≡ None → g ≡ nothing
unfolding number_in
number_in_bad s nothing e = refl
number_in_bad s (got v w r) e = cc

-- a number at a place is one over the list, and its cursor stands behind it
number_in_is : (num : List ℕ → Got) (s : List ℕ) (at v : ℕ) (c : Cursor) (g : Got)
    → num (drop at s) ≡ g → Any (drop at s) g → number_in s g ≡ Some (v, c) → NumberFound num s at v c
unfolding number_in cursor_at
number_in_is num s at v c nothing q i e = absurd (let z : ◌≡◌ {A = ℕ} 0 1 = cc in omega arith)
number_in_is num s at v c (got v' w r) q i e =
    let d : r ≡ drop (at + w) s = i.rest ∙ drop-drop w at s in
    let k : at + w ≤ length s = omega (arith, i.some, i.fits, length-drop at s) in
    let m : length s - length r ≡ at + w = omega (arith, ap length d, length-drop (at + w) s) in
    let p = some_pair e in
    let x : c.at ≡ at + w = cc in
    let y : v' ≡ v = p.0 in
    let z : w ≡ c.at - at = omega arith in
    record { same = cc; early = omega (arith, i.some); inside = omega arith }

-- no number in any form at a place
pub any_number_bad : (s : List ℕ) (at : ℕ) → any_number_at s at ≡ None → any_number (drop at s) ≡ nothing
unfolding any_number_at
any_number_bad s at e = number_in_bad s (any_number (drop at s)) e

-- a number in any form at a place
pub any_number_is : (s : List ℕ) (at v : ℕ) (c : Cursor) → any_number_at s at ≡ Some (v, c) → NumberFound any_number s at v c
unfolding any_number_at
any_number_is s at v c e = number_in_is any_number s at v c (any_number (drop at s)) refl (any_any (drop at s)) e

-- no number in its shortest form at a place
pub number_bad : (s : List ℕ) (at : ℕ) → number_at s at ≡ None → number (drop at s) ≡ nothing
unfolding number_at
number_bad s at e = number_in_bad s (number (drop at s)) e

-- a number in its shortest form at a place
pub number_is : (s : List ℕ) (at v : ℕ) (c : Cursor) → number_at s at ≡ Some (v, c) → NumberFound number s at v c
unfolding number_at
number_is s at v c e = number_in_is number s at v c (number (drop at s)) refl (any_number_lem (drop at s)) e

-- a fault at a place is a fault over the list
element_in_bad : (s : List ℕ) (x : Elem) → element_in s x ≡ None → x ≡ bad
unfolding element_in
element_in_bad s bad e = refl
element_in_bad s (elem t v r) e = cc

-- an element at a place is one over the list, with the places of its value and of what follows it
element_in_is : (s : List ℕ) (at : ℕ) (e : Element) (c : Cursor) (x : Elem)
    → element (drop at s) ≡ x → element_in s x ≡ Some (e, c) → Found s at e c
unfolding element_in cursor_at
element_in_is s at e c bad q i = absurd (let z : ◌≡◌ {A = ℕ} 0 1 = cc in omega arith)
element_in_is s at e c (elem t v r) q i =
    let h : ElementWithin (drop at s) t v r = element_within (drop at s) q in
    let d : r ≡ drop (at + (h.head + length v)) s = h.rest ∙ drop-drop (h.head + length v) at s in
    let a : v ≡ take (length v) (drop (at + h.head) s) = h.value ∙ rw (drop-drop h.head at s) in
    let k : at + (h.head + length v) ≤ length s = omega (arith, h.two, h.fits, length-drop at s) in
    let m : length s - length r ≡ at + (h.head + length v) = omega (arith, ap length d, length-drop (at + (h.head + length v)) s) in
    let n : length s - length r - length v ≡ at + h.head = omega arith in
    let p = some_pair i in
    let f = p.0 in
    let g = p.1 in
    let w : t ≡ e.typ = cc in
    let x : at + h.head ≡ e.at = cc in
    let y : length v ≡ e.len = cc in
    let z : at + (h.head + length v) ≡ c.at = cc in
    record {
      same = cc;
      early = omega (arith, h.two);
      value = omega arith;
      inside = omega arith;
      low = omega (arith, h.low);
      high = omega (arith, h.high);
    }

-- no element at a place
pub read_bad : (s : List ℕ) (at : ℕ) → element_at s at ≡ None → element (drop at s) ≡ bad
unfolding element_at
read_bad s at e = element_in_bad s (element (drop at s)) e

-- an element at a place
pub read_is : (s : List ℕ) (at : ℕ) (e : Element) (c : Cursor) → element_at s at ≡ Some (e, c) → Found s at e c
unfolding element_at
read_is s at e c i = element_in_is s at e c (element (drop at s)) refl i

-- the value of an element at a place has the length that is told
pub value_length : {s : List ℕ} {at : ℕ} {e : Element} {c : Cursor} → Found s at e c → length (take e.len (drop e.at s)) ≡ e.len
value_length {s} {at} {e} {c} h = length-take-le e.len (drop e.at s) (omega (arith, length-drop e.at s))
