-- Laws of the header: the bytes at a place of what came, and one law for each outcome of an LpPacket and of a packet as it came.
-- Assumes nothing.
use Prim.Native.Nat.{ℕ, ◌+◌, ◌-◌, ◌≤◌, ◌<◌}
use Rattle.std.specs.Prelude.{◌≡◌, refl, Bool, true, false, ◌≢◌, drop, Err, None, Ok, Option, Some}
use Rattle.std.proofs.Common.{sym, ◌∙◌}
use Rattle.std.proofs.Math.Path.{ap}
use mathlib.Core.List.{List}
use Rattle.std.proofs.Math.ListN.{length, take, length-drop}
use borrow.Author.Tests.{lt-ltb, le-ltb, ne_eqb}
use native.Mathlib.Omega.{arith}
use Rattle.laws.specs.Pick.{pick}
use Rattle.laws.specs.Laws.Pick.{pick_ind}
use Rattle.wire.specs.declared.read.Cursor.{Cursor}
use Rattle.wire.specs.declared.read.Element.{Element}
use Rattle.wire.specs.Element.{onward}
use Rattle.wire.specs.Places.Place.{element_at}
use Rattle.wire.specs.Laws.Within.{Found, read_is, read_bad, value_length}
use Rattle.wire.specs.Verdict.{is_malformed, is_unsupported}
use Rattle.answers.specs.declared.Answer.{Answer}
use Rattle.grammar.specs.declared.Row.{Row}
use Rattle.grammar.specs.declared.Place.{Place}
use Rattle.grammar.specs.declared.Found as places
use Rattle.grammar.specs.Types.{lp_packet as lp, nack}
use Rattle.grammar.specs.Table.{table, row_of, outer}
use Rattle.grammar.specs.Walk.{Field, absent, here, walked}
use Rattle.grammar.specs.Places.Table.{known_row}
use Rattle.grammar.specs.Laws.Table.{known_none, known_some}
use Rattle.grammar.specs.Places.Walk.{place_in, spot_in, found_in}
use Rattle.grammar.specs.Laws.Walk.{FieldIn, walked_in, spot_absent}
use Rattle.packethead.specs.Laws.Part.{place_of, found_said, found_place, found_part}
use Rattle.packethead.specs.Header.{val, bytes_in, whole_number, Came, refused, bare, nacked_by, fragment_read, lp_fields, lp_read, outer_read, header_read}
use Rattle.packethead.specs.Places.Header.{bytes_at, header_from, header_in, nack_at}

-- ---- an LpPacket

-- a field's place tells of the Nack that the field does
nack_at_lem : (n : ℕ) (x r : Field) → nack_at (spot_in n x) (whole_number (bytes_in r)) ≡ nacked_by x r
unfolding nack_at nacked_by spot_in
nack_at_lem n absent r = refl
nack_at_lem n (here v k) r = refl

-- a Fragment that is there is the bare packet, at its place
fragment_at : (l : ℕ) (x : Field) (base : ℕ) (n : Option ℕ) (m : Bool) {q : Place} → spot_in l x ≡ Some q
    → Ok (record { from = base + q.at; len = q.len; nack = n; marked = m }) ≡ header_from base l (fragment_read x n m)
unfolding fragment_read header_from spot_in place_in
fragment_at l absent base n m e = cc
fragment_at l (here v k) base n m {q} e = let h : q ≡ place_in l (here v k) = cc in rw h

-- the value s of an LpPacket, of which a walk found f; it stands at base in the packet that came
module _ (s : List ℕ) (base : ℕ) {f : places.Found} (is : f ≡ found_in (length s) (walked lp s)) where
  -- an element of it is 5
  pub lp_bad : is_malformed f.said ≡ true → Err Answer.Malformed ≡ header_from base (length s) (lp_read s)
  unfolding lp_read header_from pick
  lp_bad e = rw (found_said lp s is, e)

  -- the bytes held at the place of its Nack, of which a walk found k
  module _ (fine : is_malformed f.said ≡ false) {held : List ℕ} (part : held ≡ bytes_at s (place_of f 1)) {k : places.Found} (inner : k ≡ found_in (length held) (walked nack held)) where
    -- the bytes of its Nack
    held_is : bytes_in (val (walked lp s) 1) ≡ held
    held_is = sym (part ∙ found_part lp s is 1)

    -- an element of its Nack is 5
    pub lp_nack_bad : is_malformed k.said ≡ true → Err Answer.Malformed ≡ header_from base (length s) (lp_read s)
    unfolding lp_read header_from pick
    lp_nack_bad e =
        rw (found_said lp s is, fine, held_is, found_said nack held inner, e)

    module _ (good : is_malformed k.said ≡ false) where
      -- no element is 5: the Fragment decides
      lp_fragment : lp_read s ≡ fragment_read (val (walked lp s) 2) (nacked_by (val (walked lp s) 1) (val (walked nack held) 1)) (is_unsupported f.said)
      unfolding lp_read lp_fields pick
      lp_fragment =
          rw (found_said lp s is, fine, held_is, found_said nack held inner, good)

      -- it has no Fragment
      pub lp_none : place_of f 2 ≡ None → Err Answer.Unsupported ≡ header_from base (length s) (lp_read s)
      unfolding fragment_read header_from
      lp_none e =
          rw (lp_fragment, (spot_absent (length s) (val (walked lp s) 2)).1 (sym (found_place lp s is 2) ∙ e))

      -- it has a Fragment, at q
      pub lp_bare : {q : Place} → place_of f 2 ≡ Some q
          → Ok (record {
            from = base + q.at;
            len = q.len;
            nack = nack_at (place_of f 1) (whole_number (bytes_at held (place_of k 1)));
            marked = is_unsupported f.said;
          })
          ≡ header_from base (length s) (lp_read s)
      lp_bare e =
          rw (found_part nack held inner 1, found_place lp s is 1, nack_at_lem (length s) (val (walked lp s) 1) (val (walked nack held) 1), lp_fragment)
          (fragment_at (length s) _ base _ _ (sym (found_place lp s is 2) ∙ e))

-- ---- a packet as it came

-- a bare packet stands within n bytes, before those that follow it
abbrev Inside : ℕ → Came → Type 0
Inside n (refused a) = Unit {0}
Inside n (bare b) = length b.bytes + b.left ≤ n

-- a Fragment stands within the LpPacket's value
lp_inside : (v : List ℕ) → Inside (length v) (lp_read v)
unfolding lp_read lp_fields fragment_read
lp_inside v =
    pick_ind (Inside (length v)) (is_malformed (walked lp v).said) _ _ (λ _. tt)
    (λ _. pick_ind (Inside (length v)) (is_malformed (walked nack (bytes_in (val (walked lp v) 1))).said) _ _ (λ _. tt)
    (λ _. go (val (walked lp v) 2) _ _ (walked_in lp v 2)))
  where
    go : (x : Field) (n : Option ℕ) (m : Bool) → FieldIn v x → Inside (length v) (fragment_read x n m)
    go absent n m h = tt
    go (here w k) n m h = omega (arith, h.fits refl)

-- what stands in n bytes at base stands in base + n bytes, which end where they do
from_base : (base n : ℕ) (c : Came) → Inside n c → header_from base n c ≡ header_in (base + n) c
unfolding header_from header_in
from_base base n (refused a) h = refl
from_base base n (bare b) h =
    let e : base + (n - b.left - length b.bytes) ≡ 0 + (base + n - b.left - length b.bytes) = omega arith in
    rw e

module _ (s : List ℕ) where
  -- it is over 1,500 bytes
  pub header_long : 1500 < length s → Err Answer.TooLong ≡ header_in (length s) (header_read s)
  unfolding header_read header_in pick
  header_long h = rw (lt-ltb 1500 (length s) h)

  module _ (short : length s ≤ 1500) where
    -- it begins no element
    pub header_bad : element_at s 0 ≡ None → Err Answer.Malformed ≡ header_in (length s) (header_read s)
    unfolding header_read header_in pick
    header_bad i = rw (le-ltb 1500 (length s) short, read_bad s 0 i)

    module _ (e : Element) (c : Cursor) (i : element_at s 0 ≡ Some (e, c)) where
      -- bytes follow its element
      pub header_more : c.at < length s → Err Answer.Malformed ≡ header_in (length s) (header_read s)
      unfolding header_read header_in pick
      header_more h =
          rw (le-ltb 1500 (length s) short, (read_is s 0 e c i).same, lt-ltb 0 (length (drop c.at s)) (omega (arith, length-drop c.at s)))

      module _ (last : length s ≤ c.at) where
        -- its element reaches to the last byte: the type decides
        header_outer : header_read s ≡ outer_read e.typ (take e.len (drop e.at s)) s
        unfolding header_read outer_read pick onward
        header_outer =
            rw (le-ltb 1500 (length s) short, (read_is s 0 e c i).same, le-ltb 0 (length (drop c.at s)) (omega (arith, length-drop c.at s)))

        -- of a type that is not known
        pub header_unknown : known_row (row_of outer e.typ table) ≡ None → Err Answer.Malformed ≡ header_in (length s) (header_read s)
        unfolding outer_read header_in pick
        header_unknown z = rw (header_outer, known_none _ z)

        module _ {r : Row} (is : known_row (row_of outer e.typ table) ≡ Some r) where
          -- an LpPacket, whose value stands at a place of what came
          pub header_lp_read : r.order ≡ 3
              → header_from e.at (length (take e.len (drop e.at s))) (lp_read (take e.len (drop e.at s))) ≡ header_in (length s) (header_read s)
          unfolding outer_read pick
          header_lp_read z =
              let v : List ℕ = take e.len (drop e.at s) in
              let h : Found s 0 e c = read_is s 0 e c i in
              let n : e.at + length v ≡ length s = omega (arith, h.value, h.inside, value_length h) in
              rw (header_outer, (known_some _ is).0, z) (from_base e.at (length v) (lp_read v) (lp_inside v) ∙ ap (λ (k : ℕ). header_in k (lp_read v)) n)

          -- an Interest or a Data
          pub header_bare : r.order ≢ 3
              → Ok (record { from = 0; len = length s; nack = None; marked = false }) ≡ header_in (length s) (header_read s)
          unfolding outer_read header_in pick
          header_bare z =
              let q : length s - 0 - length s ≡ 0 = omega arith in
              let k : (row_of outer e.typ table ≡ r) × (r.order ≢ 0) = known_some _ is in
              rw (header_outer, k.0, ne_eqb r.order 0 k.1, ne_eqb r.order 3 z, q)
