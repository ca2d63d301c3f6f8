-- The bytes at a field's place are the field's; what a walk found; and the number that fills an element.
-- Assumes nothing.
use Rattle.std.specs.Prelude.{ℕ, ◌+◌, ◌≤◌, ◌<◌, ◌≡◌, Bool, List, [], length, get_or, take, drop, None, Some, Option, Result, Err}
use Rattle.std.specs.Option.{unwrap_or, ok_or}
use Rattle.std.proofs.Math.Path.{refl, sym}
use Rattle.std.proofs.Common.{◌∙◌, ap, le-leb}
use Rattle.std.proofs.Math.Bool.{true, false}
use Rattle.std.proofs.lemmas.Bool.{lt-leb}
use Rattle.laws.specs.Pick.{pick}
use Rattle.laws.specs.Laws.Pick.{pick_ap}
use Rattle.wire.specs.Number.{big, is_whole}
use Rattle.wire.specs.Places.Place.{whole_of}
use Rattle.grammar.specs.declared.Place.{Place}
use Rattle.grammar.specs.declared.Found as places
use Rattle.grammar.specs.Walk.{Field, absent, here, walked}
use Rattle.grammar.specs.Places.Walk.{place_in, spot_in, found_in}
use Rattle.grammar.specs.Laws.Walk.{FieldIn, walked_in, place_of_lem, place_value, place_inside, spot_here}
use Rattle.packethead.specs.Header.{val, bytes_in, whole_number}
use Rattle.packethead.specs.Places.Header.{part_at, bytes_at}

module _ (l : List ℕ) (p : Place) where
  -- the part at a place that lies within l
  pub part_is : p.at + p.len ≤ length l → part_at l p ≡ take p.len (drop p.at l)
  unfolding part_at pick
  part_is h = rw (le-leb (p.at + p.len) (length l) h)

  -- the part at a place that does not
  pub part_none : length l < p.at + p.len → part_at l p ≡ []
  unfolding part_at pick
  part_none h = rw (lt-leb (p.at + p.len) (length l) h)

-- the bytes at the place of a field that stands in l are the field's
pub part_field : {l : List ℕ} {x : Field} → FieldIn l x → part_at l (place_in (length l) x) ≡ bytes_in x
part_field {l} {x} h = part_is l _ (place_inside h) ∙ go x refl
  where
    go : (y : Field) → x ≡ y → take (place_in (length l) y).len (drop (place_in (length l) y).at l) ≡ bytes_in y
    go absent e = unfold place_in in refl
    go (here v k) e = rw (← e) (place_value h e)

-- the bytes at the place of a walk's field are the field's bytes, none for an absent one
pub walked_part : (p : ℕ) (l : List ℕ) (o : ℕ) {x : Field} → x ≡ val (walked p l) o → part_at l (place_in (length l) x) ≡ bytes_in x
walked_part p l o {x} e = let h : FieldIn l x = rw e (walked_in p l o) in part_field h

-- and so are those of a field that was looked for
pub part_spot : {l : List ℕ} {x : Field} → FieldIn l x → bytes_at l (spot_in (length l) x) ≡ bytes_in x
unfolding bytes_at spot_in
part_spot {l} {x} h = go x refl
  where
    go : (y : Field) → x ≡ y → bytes_at l (spot_in (length l) y) ≡ bytes_in y
    go absent e = refl
    go (here v k) e = rw e at (part_field h)

-- ---- the places that a walk found

-- the place of an order among those that are found, or none
abbrev pub place_of : places.Found → ℕ → Option Place
place_of f o = get_or f.places o None

module _ (p : ℕ) (s : List ℕ) {f : places.Found} (is : f ≡ found_in (length s) (walked p s)) where
  -- what a walk says is found
  pub found_said : (walked p s).said ≡ f.said
  unfolding found_in
  found_said = sym (ap (λ (g : places.Found). g.said) is)

  -- the place of each of its fields is found
  pub found_place : (o : ℕ) → place_of f o ≡ spot_in (length s) (val (walked p s) o)
  found_place o = ap (λ (g : places.Found). place_of g o) is ∙ place_of_lem (length s) (walked p s) o

  -- at the place are its bytes
  pub found_part : (o : ℕ) → bytes_at s (place_of f o) ≡ bytes_in (val (walked p s) o)
  found_part o = rw (found_place o) (part_spot (walked_in p s o))

  -- a place that is found is that of the field
  pub found_here : (o : ℕ) {q : Place} → place_of f o ≡ Some q → q ≡ place_in (length s) (val (walked p s) o)
  found_here o e = spot_here (length s) (val (walked p s) o) (sym (found_place o) ∙ e)

  -- it lies within the parent
  pub found_inside : (o : ℕ) {q : Place} → place_of f o ≡ Some q → q.at + q.len ≤ length s
  found_inside o e = rw (found_here o e) (place_inside (walked_in p s o))

-- the whole number that fills l, or 0 where none does
pub whole_or : (l : List ℕ) → unwrap_or (whole_of l) 0 ≡ whole_number l
unfolding whole_of whole_number
whole_or l = pick_ap (λ (o : Option ℕ). unwrap_or o 0) (is_whole (length l)) (Some (big 0 l)) None

module _ (l : List ℕ) where
  -- no whole number fills l, and it counts as 0
  pub whole_bad : whole_of l ≡ None → whole_number l ≡ 0
  unfolding whole_of whole_number pick
  whole_bad = go (is_whole (length l))
    where
      go : (b : Bool) → pick b (Some (big 0 l)) None ≡ None → pick b (big 0 l) 0 ≡ 0
      go true e = cc
      go false e = refl

  -- the whole number that fills l
  pub whole_is : {n : ℕ} → whole_of l ≡ Some n → whole_number l ≡ n
  unfolding whole_of whole_number pick
  whole_is {n} = go (is_whole (length l))
    where
      go : (b : Bool) → pick b (Some (big 0 l)) None ≡ Some n → pick b (big 0 l) 0 ≡ n
      go true e = cc
      go false e = cc

-- ---- what a `?` answers

-- where nothing is there, the error that stands beside it
pub exit_is : {X T E : Type 0} {r y : Result X E} {o : Option T} {x d e : E} → r ≡ Err x → x ≡ d → Err d ≡ ok_or o e → o ≡ None → Err e ≡ y → r ≡ y
exit_is {T} {E} {d = d} {e = e} a b v n h =
    let w : ◌≡◌ {A = Result T E} (Err d) (Err e) = v ∙ ap (λ (o : Option T). ok_or o e) n in
    let i : d ≡ e = cc in
    a ∙ ap Err (b ∙ i) ∙ h
