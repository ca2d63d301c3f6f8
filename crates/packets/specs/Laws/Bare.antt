-- What the code makes of the places that a walk found, and that it is what the definitions make of the fields.
-- Assumes nothing.
use Rattle.std.specs.Prelude.{ℕ, ◌+◌, ◌-◌, ◌^◌, ◌≤◌, ◌<◌, ◌≡◌, refl, Bool, true, false, ◌||◌, ◌≢◌, List, length, take, drop, min, ltb, eqb, Result, Err, None, Ok, Option, Some}
use Rattle.std.specs.Option.{is_some}
use Rattle.std.proofs.Common.{not, ap, eq-eqb, ne_eqb, sym, ◌∙◌, ltb-true, ltb-false, arith}
use Rattle.std.proofs.Math.ListN.{length-drop}
use borrow.Author.Tests.{lt-ltb, le-ltb}
use Rattle.laws.specs.Pick.{pick}
use Rattle.laws.specs.Laws.Pick.{pick_ind, pick_yes, pick_no}
use Rattle.wire.specs.Verdict.{is_malformed, is_unsupported}
use Rattle.sizes.specs.Sizes.{most_components, most_name}
use Rattle.wire.specs.declared.read.Cursor.{Cursor}
use Rattle.wire.specs.declared.read.Element.{Element}
use Rattle.wire.specs.Places.Place.{element_at}
use Rattle.wire.specs.Laws.Within.{read_is, read_bad, value_length}
use Rattle.answers.specs.declared.Answer.{Answer}
use Rattle.grammar.specs.declared.Row.{Row}
use Rattle.grammar.specs.Table.{table, row_of}
use Rattle.grammar.specs.Places.Table.{known_row}
use Rattle.grammar.specs.Laws.Table.{known_none, known_some}
use Rattle.grammar.specs.declared.Found.{Found}
use Rattle.grammar.specs.declared.Place.{Place}
use Rattle.grammar.specs.Types.{interest, dat, meta_info, fragment}
use Rattle.grammar.specs.Walk.{Field, absent, here, Fields, walked}
use Rattle.grammar.specs.Places.Walk.{place_in, spot_in, found_in}
use Rattle.grammar.specs.Laws.Walk.{FieldIn, walked_in, place_inside, spot_absent}
use Rattle.packets.specs.declared.bare.Packet.{Packet}
use Rattle.names.specs.declared.component.Counted.{Counted}
use Rattle.names.specs.Name.{counted}
use Rattle.packethead.specs.Header.{val, bytes_in, missing, present, whole_number}
use Rattle.packethead.specs.Places.Header.{part_at, bytes_at}
use Rattle.packets.specs.Bare.{Reading, refused, brings, sized, named_interest, interest_read, named_data, data_read, data_value, asked_by, data_unless, kind_read, bare_read, capped, lifetime_of, freshness_of}
use Rattle.packets.specs.Places.Bare.{hop_in, interest_in, packet_in, moved_by, lifetime_at, freshness_at, hop_at, nacked_packet, name_says, name_checked, interest_from, data_from, HopFits, IsFound}
use Rattle.packethead.specs.Laws.Part as part
use Rattle.packethead.specs.Laws.Part.{part_field, place_of}

-- ---- a field by its place

-- it is missing where it has no place
missing_field : (n : ℕ) (x : Field) → missing x ≡ not (is_some (spot_in n x))
unfolding spot_in
missing_field n absent = refl
missing_field n (here v k) = refl

-- whether it is there
there_field : (n : ℕ) (x : Field) → is_some (spot_in n x) ≡ present x
unfolding spot_in
there_field n absent = refl
there_field n (here v k) = refl

-- a number above the limit counts as the limit
pub capped_min : (m n : ℕ) → min n m ≡ capped m n
unfolding capped pick
capped_min m n = pick_ind (λ (k : ℕ). min n m ≡ k) (ltb m n) m n (λ e. omega (arith, ltb-true m n e)) (λ e. omega (arith, ltb-false m n e))

-- where it stands in the whole, if l stands at base
moved_at : (l v : List ℕ) (k base : ℕ) → FieldIn l (here v k) → base + (length l - k - length v) ≡ base + length l - k - length v
moved_at l v k base h = omega (arith, h.fits refl)

-- its place in the whole
moved_field : {l : List ℕ} (x : Field) → FieldIn l x → (base : ℕ) {q : Place} → spot_in (length l) x ≡ Some q → moved_by base q ≡ place_in (base + length l) x
unfolding moved_by place_in spot_in
moved_field absent h base e = cc
moved_field {l} (here v k) h base {q} e =
    let d : q ≡ record { at = length l - k - length v; len = length v } = cc in rw (d, moved_at l v k base h)

-- the lifetime
lifetime_field : {l : List ℕ} (x : Field) → FieldIn l x → lifetime_at l (spot_in (length l) x) ≡ lifetime_of x
unfolding lifetime_at lifetime_of spot_in
lifetime_field absent h = refl
lifetime_field (here v k) h = rw (part_field h)

-- the HopLimit
hop_field : {l : List ℕ} (x : Field) → FieldIn l x → (base : ℕ) → hop_at base l (spot_in (length l) x) ≡ hop_in (base + length l) x
unfolding hop_at hop_in spot_in place_in
hop_field absent h base = refl
hop_field {l} (here v k) h base = rw (part_field h, moved_at l v k base h)

-- the length of its value
length_field : (n : ℕ) (x : Field) → (place_in n x).len ≡ length (bytes_in x)
unfolding place_in
length_field n absent = refl
length_field n (here v k) = refl

-- where it has a place, it fits a word in the whole
fits_field : {l : List ℕ} (x : Field) → FieldIn l x → (base : ℕ) → base + length l < 2 ^ 64 → HopFits base (spot_in (length l) x)
unfolding spot_in
fits_field absent h base b = tt
fits_field {l} (here v k) h base b = omega (arith, place_inside h, b)

-- ---- a field by what a walk found

module _ (p : ℕ) (v : List ℕ) {f : Found} (h : f ≡ found_in (length v) (walked p v)) where
  -- whether a field is missing
  pub found_missing : (o : ℕ) → missing (val (walked p v) o) ≡ not (is_some (place_of f o))
  found_missing o = rw (part.found_place p v h o) (missing_field (length v) (val (walked p v) o))

  module _ (o : ℕ) {q : Place} (e : place_of f o ≡ Some q) where
    -- the bytes of a field that has a place
    pub found_bytes : bytes_in (val (walked p v) o) ≡ part_at v q
    unfolding bytes_at
    found_bytes = sym (part.found_part p v h o) ∙ rw e

    -- how many they are
    pub found_length : length (bytes_in (val (walked p v) o)) ≡ q.len
    found_length = rw (part.found_here p v h o e) (sym (length_field (length v) (val (walked p v) o)))

    -- its place in the whole, if v stands at base
    pub found_moved : (base : ℕ) → place_in (base + length v) (val (walked p v) o) ≡ moved_by base q
    found_moved base = sym (moved_field _ (walked_in p v o) base (sym (part.found_place p v h o) ∙ e))

    -- which fits a word
    pub found_fits : (base : ℕ) → base + length v < 2 ^ 64 → base + q.at < 2 ^ 64
    found_fits base b = omega (arith, b, part.found_inside p v h o e)

  -- a field that has no place stands nowhere in the whole
  pub found_nowhere : (n o : ℕ) → place_of f o ≡ None → place_in n (val (walked p v) o) ≡ record { at = 0; len = 0 }
  unfolding place_in
  found_nowhere n o e = rw ((spot_absent (length v) (val (walked p v) o)).1 (sym (part.found_place p v h o) ∙ e))

  -- what its Name says, whose place is q
  pub found_says : {q : Place} {name : List ℕ} {c : Counted} → place_of f 1 ≡ Some q → name ≡ part_at v q → c ≡ counted name → name_says p v ≡ c
  found_says e a b = rw (found_bytes 1 e, ← a, ← b)

module _ {p : ℕ} {v : List ℕ} {base : ℕ} {f : Found} {name : Place} (h : IsFound p v base f name) where
  -- the place of its Name fits a word in the whole
  pub name_fits : base + name.at < 2 ^ 64
  name_fits = found_fits p v h.found 1 h.named base h.fits

  -- so does the place of any other
  pub found_hop_fits : (o : ℕ) → HopFits base (place_of f o)
  found_hop_fits o = rw (part.found_place p v h.found o) (fits_field _ (walked_in p v o) base h.fits)

-- the freshness that a place tells
pub found_freshness : (p : ℕ) (v : List ℕ) {f : Found} → f ≡ found_in (length v) (walked p v) → (o : ℕ)
    → freshness_at v (place_of f o) ≡ freshness_of (val (walked p v) o)
unfolding freshness_at freshness_of
found_freshness p v h o = rw (part.found_part p v h o)

-- the Interest of the fields by the places that a walk found, wherever its Name stands
pub interest_places : (v : List ℕ) (base : ℕ) {f : Found} → f ≡ found_in (length v) (walked interest v)
    → interest_in (base + length v) (walked interest v) ≡ record {
      name = place_in (base + length v) (val (walked interest v) 1);
      can_be_prefix = is_some (place_of f 2);
      must_be_fresh = is_some (place_of f 3);
      nonce = whole_number (bytes_at v (place_of f 5));
      lifetime = lifetime_at v (place_of f 6);
      hop = hop_at base v (place_of f 7);
    }
unfolding interest_in
interest_places v base {f} h =
    let at : (o : ℕ) → place_of f o ≡ spot_in (length v) (val (walked interest v) o) = part.found_place interest v h in
    rw (
      part.found_part interest v h 5,
      at 2,
      at 3,
      at 6,
      at 7,
      there_field (length v) (val (walked interest v) 2),
      there_field (length v) (val (walked interest v) 3),
      lifetime_field _ (walked_in interest v 6),
      hop_field _ (walked_in interest v 7) base,
    )

-- the Interest that the code makes of the places is that of the fields
pub interest_found : {v : List ℕ} {base : ℕ} {f : Found} {name : Place} → IsFound interest v base f name
    → interest_in (base + length v) (walked interest v) ≡ record {
      name = moved_by base name;
      can_be_prefix = is_some (place_of f 2);
      must_be_fresh = is_some (place_of f 3);
      nonce = whole_number (bytes_at v (place_of f 5));
      lifetime = lifetime_at v (place_of f 6);
      hop = hop_at base v (place_of f 7);
    }
interest_found {v} {base} h = rw (← (found_moved interest v h.found 1 h.named base)) (interest_places v base h.found)

-- an Interest, or the Nack that brought it, by the Interest's places
pub nacked_found : (k : Option ℕ) (n : ℕ) (f : Fields) → packet_in n (asked_by k f) ≡ Ok (nacked_packet k (interest_in n f))
unfolding packet_in asked_by nacked_packet
nacked_found None n f = refl
nacked_found (Some r) n f = refl

-- ---- what a name refuses

-- a packet, or what its name refuses
abbrev unless : Reading → Result (Unit {0}) Answer → Reading
unless r (Err a) = refused a
unless r (Ok u) = r

-- a choice whose arms are both x
pick_both : {A : Type 0} (b : Bool) {x y : A} → y ≡ x → pick b x y ≡ x
unfolding pick
pick_both true e = refl
pick_both false e = e

-- the tests of a name, one by one and as the name is checked
tests : (r : Reading) (a b d e g h : Bool)
    → pick a (refused Answer.Malformed)
    (pick b (refused Answer.Unsupported)
    (pick d (refused Answer.Unsupported)
    (pick e (refused Answer.Unsupported) (pick g (refused Answer.TooLong) (pick h (refused Answer.TooLong) r)))))
    ≡ unless r (pick a (Err Answer.Malformed) (pick ((b || d) || e) (Err Answer.Unsupported) (pick (g || h) (Err Answer.TooLong) (Ok tt))))
unfolding pick
tests r true b d e g h = refl
tests r false true d e g h = refl
tests r false false true e g h = refl
tests r false false false true g h = refl
tests r false false false false true h = refl
tests r false false false false false true = refl
tests r false false false false false false = refl

-- the value v of an Interest, of which a walk found f; it stands at base
module _ (k : Option ℕ) (m : Bool) (base : ℕ) (v : List ℕ) {f : Found} (is : f ≡ found_in (length v) (walked interest v)) where
  -- an element of it is 5
  pub interest_bad : is_malformed f.said ≡ true → Err Answer.Malformed ≡ interest_from k m base v
  unfolding interest_read packet_in pick
  interest_bad e = rw (part.found_said interest v is, e)

  -- it has no Nonce
  pub interest_no_nonce : is_some (place_of f 5) ≡ false → Err Answer.Malformed ≡ interest_from k m base v
  unfolding interest_read packet_in
  interest_no_nonce e =
      ap (packet_in (base + length v)) (sym (pick_both _ (pick_both _ (pick_yes _ _ _ (found_missing interest v is 5 ∙ ap not e)))))

  -- it has no Name
  pub interest_unnamed : place_of f 1 ≡ None → Err Answer.Malformed ≡ interest_from k m base v
  unfolding interest_read packet_in
  interest_unnamed e =
      ap (packet_in (base + length v)) (sym (pick_both _ (pick_yes _ _ _ (found_missing interest v is 1 ∙ ap (λ o. not (is_some o)) e))))

  -- no element is 5, Nonce and Name are there, and the Name, at q, says c
  module _ (fine : is_malformed f.said ≡ false) (nonce : is_some (place_of f 5) ≡ true) {q : Place} (at : place_of f 1 ≡ Some q) {name : List ℕ} (part-is : name ≡ part_at v q) {c : Counted} (says : c ≡ counted name) where
    -- then the Name decides
    interest_named : interest_read k m (walked interest v) ≡ named_interest k m (walked interest v) c
    unfolding interest_read pick
    interest_named =
        rw (part.found_said interest v is, fine, found_missing interest v is 1 ∙ ap (λ o. not (is_some o)) at, found_missing interest v is 5 ∙ ap not nonce, found_says interest v is at part-is says)

    -- it has no component
    pub interest_empty : c.count ≡ 0 → Err Answer.Malformed ≡ interest_from k m base v
    unfolding named_interest packet_in
    interest_empty z =
        rw interest_named (ap (packet_in (base + length v)) (sym (pick_both _ (pick_yes _ _ _ (eq-eqb c.count 0 z)))))

    module _ (some : c.count ≢ 0) where
      -- it has one or more: it is what it asks, or what its Name refuses
      interest_checked : interest_read k m (walked interest v) ≡ unless (asked_by k (walked interest v)) (name_checked q.len c (m || is_unsupported f.said))
      unfolding named_interest name_checked sized pick
      interest_checked =
          rw (interest_named, ne_eqb c.count 0 some, ← part.found_said interest v is, found_length interest v is 1 at)
          (tests (asked_by k (walked interest v)) (is_malformed c.said) m (is_unsupported (walked interest v).said) (is_unsupported c.said) (ltb most_name q.len) (ltb most_components c.count))

      -- its Name refuses it
      pub interest_refused : {a : Answer} → name_checked q.len c (m || is_unsupported f.said) ≡ Err a → Err a ≡ interest_from k m base v
      unfolding packet_in
      interest_refused e = rw (interest_checked, e)

      -- it is an Interest, or the Nack that brought it
      pub interest_asked : name_checked q.len c (m || is_unsupported f.said) ≡ Ok tt → Ok (nacked_packet k (interest_in (base + length v) (walked interest v))) ≡ interest_from k m base v
      interest_asked e = rw (interest_checked, e) (sym (nacked_found k (base + length v) (walked interest v)))

-- the tests of a Data's name
data_tests : (r : Reading) (a b e g h : Bool)
    → pick a (refused Answer.Malformed)
    (pick b (refused Answer.Unsupported)
    (pick e (refused Answer.Unsupported) (pick g (refused Answer.TooLong) (pick h (refused Answer.TooLong) r))))
    ≡ unless r (pick a (Err Answer.Malformed) (pick (b || e) (Err Answer.Unsupported) (pick (g || h) (Err Answer.TooLong) (Ok tt))))
unfolding pick
data_tests r true b e g h = refl
data_tests r false true e g h = refl
data_tests r false false true g h = refl
data_tests r false false false true h = refl
data_tests r false false false false true = refl
data_tests r false false false false false = refl

-- the value v of a Data, of which a walk found f; it stands at base
module _ (m : Bool) (base : ℕ) (v : List ℕ) {f : Found} (is : f ≡ found_in (length v) (walked dat v)) where
  -- an element of it is 5
  pub data_bad : is_malformed f.said ≡ true → Err Answer.Malformed ≡ data_from m base v
  unfolding data_value data_read packet_in pick
  data_bad e = rw (part.found_said dat v is, e)

  -- it has no Name
  pub data_unnamed : place_of f 1 ≡ None → Err Answer.Malformed ≡ data_from m base v
  unfolding data_value data_read packet_in
  data_unnamed e =
      ap (packet_in (base + length v)) (sym (pick_both _ (pick_yes _ _ _ (found_missing dat v is 1 ∙ ap (λ o. not (is_some o)) e))))

  -- it has no SignatureInfo
  pub data_no_info : is_some (place_of f 4) ≡ false → Err Answer.Malformed ≡ data_from m base v
  unfolding data_value data_read packet_in
  data_no_info e =
      ap (packet_in (base + length v)) (sym (pick_both _ (pick_both _ (pick_yes _ _ _ (found_missing dat v is 4 ∙ ap not e)))))

  -- it has no SignatureValue
  pub data_no_value : is_some (place_of f 5) ≡ false → Err Answer.Malformed ≡ data_from m base v
  unfolding data_value data_read packet_in
  data_no_value e =
      ap (packet_in (base + length v)) (sym (pick_both _ (pick_both _ (pick_both _ (pick_yes _ _ _ (found_missing dat v is 5 ∙ ap not e))))))

  -- the bytes of its MetaInfo are those held, of which a walk found g
  module _ {held : List ℕ} (meta : held ≡ bytes_at v (place_of f 2)) {g : Found} (inner : g ≡ found_in (length held) (walked meta_info held)) where
    -- the bytes of its MetaInfo
    meta_is : bytes_in (val (walked dat v) 2) ≡ held
    meta_is = sym (meta ∙ part.found_part dat v is 2)

    -- an element of its MetaInfo is 5
    pub data_meta_bad : is_malformed g.said ≡ true → Err Answer.Malformed ≡ data_from m base v
    unfolding data_value data_read packet_in
    data_meta_bad e =
        rw meta_is
        (ap (packet_in (base + length v))
        (sym (pick_both _ (pick_both _ (pick_both _ (pick_both _ (pick_yes _ _ _ (ap is_malformed (part.found_said meta_info held inner) ∙ e))))))))

    -- no element is 5, all that are required are there, and the Name, at q, says c
    module _ (fine : is_malformed f.said ≡ false) (info : is_some (place_of f 4) ≡ true) (value : is_some (place_of f 5) ≡ true)
        (good : is_malformed g.said ≡ false) {q : Place} (at : place_of f 1 ≡ Some q)
        {name : List ℕ} (part-is : name ≡ part_at v q) {c : Counted} (says : c ≡ counted name) where
      -- it is what it brings, or what its Name refuses
      data_checked : data_value m v ≡ unless (brings (walked dat v) (walked meta_info held)) (name_checked q.len c m)
      unfolding data_value data_read named_data name_checked sized pick
      data_checked =
          rw (
            meta_is,
            ap is_malformed (part.found_said dat v is) ∙ fine,
            found_missing dat v is 1 ∙ ap (λ o. not (is_some o)) at,
            found_missing dat v is 4 ∙ ap not info,
            found_missing dat v is 5 ∙ ap not value,
            ap is_malformed (part.found_said meta_info held inner) ∙ good,
            found_length dat v is 1 at,
            found_says dat v is at part-is says,
          )
          (data_tests (brings (walked dat v) (walked meta_info held)) (is_malformed c.said) m (is_unsupported c.said) (ltb most_name q.len) (ltb most_components c.count))

      -- its Name refuses it
      pub data_refused : {a : Answer} → name_checked q.len c m ≡ Err a → Err a ≡ data_from m base v
      unfolding packet_in
      data_refused e = rw (data_checked, e)

      -- it is a Data
      pub data_brought : name_checked q.len c m ≡ Ok tt → base + length v < 2 ^ 64
          → Ok (Packet.Data (record { name = moved_by base q; freshness = freshness_at held (place_of g 2) })) ≡ data_from m base v
      unfolding packet_in
      data_brought e b =
          rw (data_checked, e, found_moved dat v is 1 at base, found_freshness meta_info held inner 2)

-- ---- the one element of a bare packet

-- an element that reaches to the last byte has a value that does
pub bare_ends : (s : List ℕ) (e : Element) (c : Cursor) → element_at s 0 ≡ Some (e, c) → length s ≤ c.at
    → e.at + length (take e.len (drop e.at s)) ≡ length s
bare_ends s e c i h = let q = read_is s 0 e c i in omega (arith, value_length q, q.value, q.inside)

-- a Data with no Nack
data_plain : (k : Option ℕ) → is_some k ≡ false → (r : Reading) → data_unless k r ≡ r
unfolding data_unless
data_plain None n r = refl
data_plain (Some x) n r = cc

-- a Data with a Nack
data_nacked : (k : Option ℕ) → is_some k ≡ true → (r : Reading) → data_unless k r ≡ refused Answer.Malformed
unfolding data_unless
data_nacked None n r = cc
data_nacked (Some x) n r = refl

module _ (k : Option ℕ) (m : Bool) (s : List ℕ) where
  -- there is none
  pub bare_bad : element_at s 0 ≡ None → bare_read k m s ≡ refused Answer.Malformed
  unfolding bare_read
  bare_bad i = rw (read_bad s 0 i)

  module _ (e : Element) (c : Cursor) (i : element_at s 0 ≡ Some (e, c)) where
    -- bytes follow it
    pub bare_longer : c.at < length s → bare_read k m s ≡ refused Answer.Malformed
    unfolding bare_read
    bare_longer h = rw ((read_is s 0 e c i).same, lt-ltb 0 (length (drop c.at s)) (omega (arith, length-drop c.at s)))

    module _ (last : length s ≤ c.at) where
      -- it is the whole packet, which is what its value says
      pub bare_kind : bare_read k m s ≡ kind_read k m e.typ (take e.len (drop e.at s))
      unfolding bare_read
      bare_kind = rw ((read_is s 0 e c i).same, le-ltb 0 (length (drop c.at s)) (omega (arith, length-drop c.at s)))

      -- of a type that is not known
      pub bare_unknown : known_row (row_of fragment e.typ table) ≡ None → Err Answer.Malformed ≡ packet_in (length s) (bare_read k m s)
      unfolding kind_read packet_in pick
      bare_unknown z = rw (bare_kind, known_none _ z)

      module _ {r : Row} (is : known_row (row_of fragment e.typ table) ≡ Some r) where
        -- an Interest
        pub bare_interest : r.order ≡ 1 → interest_from k m e.at (take e.len (drop e.at s)) ≡ packet_in (length s) (bare_read k m s)
        unfolding kind_read pick
        bare_interest o = rw (bare_kind, (known_some _ is).0, eq-eqb r.order 1 o, ← bare_ends s e c i last)

        -- a Data, with no Nack
        pub bare_data : r.order ≡ 2 → is_some k ≡ false → data_from m e.at (take e.len (drop e.at s)) ≡ packet_in (length s) (bare_read k m s)
        unfolding kind_read pick data_unless
        bare_data o n =
            rw (bare_kind, (known_some _ is).0, o, ← bare_ends s e c i last)
            (ap (packet_in (e.at + length (take e.len (drop e.at s)))) (sym (data_plain k n (data_value m (take e.len (drop e.at s))))))

        -- no Interest, with a Nack
        pub bare_nacked : r.order ≢ 1 → is_some k ≡ true → Err Answer.Malformed ≡ packet_in (length s) (bare_read k m s)
        unfolding kind_read packet_in
        bare_nacked o n =
            rw (bare_kind, (known_some _ is).0, ne_eqb r.order 1 o, data_nacked k n (data_value m (take e.len (drop e.at s))))
            (ap (packet_in (length s)) (sym (pick_no _ _ _ refl ∙ pick_both (eqb r.order 2) refl)))

        -- neither an Interest nor a Data
        pub bare_other : r.order ≢ 1 → r.order ≢ 2 → Err Answer.Malformed ≡ packet_in (length s) (bare_read k m s)
        unfolding kind_read packet_in pick
        bare_other o q = rw (bare_kind, (known_some _ is).0, ne_eqb r.order 1 o, ne_eqb r.order 2 q)
