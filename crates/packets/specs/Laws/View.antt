-- What the code's places point at is what the packet means: the bytes at a name's place are the name, and the byte at a HopLimit's place is
-- the limit.
-- Assumes nothing.
use Rattle.std.specs.Prelude.{ℕ, ◌+◌, ◌-◌, ◌≤◌, ◌<◌, Bool, List, [], ◌∷◌, drop, Option, Some}
use Rattle.std.proofs.Math.Path.{◌≡◌, refl, sym, ap}
use Rattle.std.proofs.Common.{◌∙◌, get_or-take, get_or-drop, eqb-true, zero-add, add-zero, arith}
use Rattle.std.proofs.Math.Option.{some}
use Rattle.std.proofs.Math.ListN.{length, get_or}
use Rattle.laws.specs.Pick.{pick}
use Rattle.wire.specs.Number.{big, is_whole}
use Rattle.grammar.specs.declared.Place.{Place}
use Rattle.grammar.specs.Types.{interest, dat}
use Rattle.grammar.specs.declared.Rule.{Rule}
use Rattle.grammar.specs.Table.{table, fits}
use Rattle.grammar.specs.Laws.Table.{each_row}
use Rattle.grammar.specs.Laws.Fits.{Fitting, Fit, walked_fits, ruled, fitting_rule}
use Rattle.grammar.specs.Walk.{Field, absent, here, Fields}
use Rattle.grammar.specs.Places.Walk.{place_in}
use Rattle.grammar.specs.Laws.Walk.{FieldIn, walked_in, place_inside}
use Rattle.packets.specs.declared.bare.HopLimit.{HopLimit}
use Rattle.packethead.specs.Header.{val, bytes_in, whole_number}
use Rattle.packethead.specs.Places.Header.{part_at}
use Rattle.packets.specs.Bare.{Reading, bare_read}
use Rattle.packets.specs.Places.Bare.{hop_in, interest_in, packet_in}
use Rattle.packets.specs.Bare as bare
use Rattle.packets.specs.Meaning.{nacks, hop_of, ask_of, offer_of, leaving, meant, heard_bare}
use Rattle.packethead.specs.Laws.Part.{part_field}
use Rattle.packets.specs.Laws.Shape.{IsInterest, IsData, last_in, asks_made, brings_made, nacks_made}
use Rattle.packets.specs.Places.View.{hop_seen, ask_seen, lowered, seen}

-- ---- a field in the whole packet

-- b are the bytes at a place of l, which lies within l
pub record BytesAt (l : List ℕ) (p : Place) (b : List ℕ) : Type 0 where
  pub inside : p.at + p.len ≤ length l
  pub bytes : part_at l p ≡ b

-- a field's bytes are those at its place
field_at : {l : List ℕ} {x : Field} → FieldIn l x → BytesAt l (place_in (length l) x) (bytes_in x)
field_at h = record { inside = place_inside h; bytes = part_field h }

-- a whole number of one byte is the byte
whole_one : (w : List ℕ) → length w ≡ 1 → whole_number w ≡ get_or w 0 0
unfolding whole_number is_whole big pick
whole_one [] n = absurd (omega arith)
whole_one (b ∷ []) n = zero-add b
whole_one (b ∷ c ∷ w) n = absurd (omega arith)

-- a HopLimit is one byte
hop_one : (w : List ℕ) → Fitting interest 7 w → length w ≡ 1
unfolding fits pick
hop_one w f = eqb-true (length w) 1 (fitting_rule interest 7 Rule.One w (unfold table each_row ruled in refl) (omega arith) f)

-- n is the byte at a place of l, which lies within l
pub record ByteAt (l : List ℕ) (at n : ℕ) : Type 0 where
  pub inside : at < length l
  pub byte : get_or l at 0 ≡ n

-- the first byte of a field that has one stands at its place
first_byte : (l w : List ℕ) (k : ℕ) → FieldIn l (here w k) → 0 < length w → ByteAt l (length l - k - length w) (get_or w 0 0)
first_byte l w k h n =
    let at : ℕ = length l - k - length w in
    record {
      inside = omega (arith, h.fits refl);
      byte = sym
          (ap (λ (z : List ℕ). get_or z 0 0) (h.value refl)
          ∙ get_or-take (length w) (drop at l) 0 0 n
          ∙ get_or-drop at l 0 0
          ∙ ap (λ (i : ℕ). get_or l i 0) (add-zero at));
    }

module _ (l : List ℕ) where
  -- the limit of a HopLimit is the byte at its place
  hop_byte : (x : Field) → FieldIn l x → Fit interest 7 x → {q : HopLimit} → hop_in (length l) x ≡ Some q → ByteAt l q.at q.limit
  unfolding hop_in
  hop_byte absent h f e = cc
  hop_byte (here w k) h f {q} e =
      let o : length w ≡ 1 = hop_one w f in
      let d : q ≡ record { limit = whole_number w; at = length l - k - length w } = cc in
      rw (d, whole_one w o) (first_byte l w k h (omega arith))

  -- so that what is seen at its place is the HopLimit
  hop_seen_lem : (x : Field) → FieldIn l x → Fit interest 7 x → hop_seen l (hop_in (length l) x) ≡ hop_of x
  unfolding hop_seen hop_in hop_of
  hop_seen_lem absent h f = refl
  hop_seen_lem (here w k) h f = ap some (hop_byte (here w k) h f refl).byte

module _ {m : Bool} {l : List ℕ} {f : Fields} (i : IsInterest m l f) where
  -- each field of an Interest stands in the whole
  interest_in_lem : (o : ℕ) → FieldIn l (val f o)
  interest_in_lem o = rw i.fields (last_in l i.is (walked_in interest i.value o))

  -- the length of its HopLimit fits
  interest_fits : Fit interest 7 (val f 7)
  interest_fits = rw i.fields (walked_fits interest i.value 7 (omega arith))

  -- the bytes at its name's place are its name
  interest_name_at : BytesAt l (interest_in (length l) f).name (ask_of f).name
  unfolding interest_in ask_of
  interest_name_at = field_at (interest_in_lem 1)

  -- the byte at its HopLimit's place is the limit
  interest_hop_at : {q : HopLimit} → (interest_in (length l) f).hop ≡ Some q → ByteAt l q.at q.limit
  unfolding interest_in
  interest_hop_at e = hop_byte l (val f 7) (interest_in_lem 7) interest_fits e

  -- what is seen of it is what it means
  interest_seen : ask_seen l (interest_in (length l) f) ≡ ask_of f
  unfolding ask_seen interest_in ask_of
  interest_seen = rw (interest_name_at.bytes, hop_seen_lem l (val f 7) (interest_in_lem 7) interest_fits)

-- the bytes at a Data's name's place are its name
data_name_at : {m : Bool} {l : List ℕ} {f : Fields} → IsData m l f → BytesAt l (place_in (length l) (val f 1)) (bytes_in (val f 1))
data_name_at {m} {l} i = rw i.fields (field_at (last_in l i.is (walked_in dat i.value 1)))

-- ---- what the code's answer means

-- an Interest leaves as its HopLimit's place says
pub lowered_leaves : (l : List ℕ) (x : Field) → lowered l (hop_in (length l) x) ≡ leaving l x
unfolding lowered hop_in leaving
lowered_leaves l absent = refl
lowered_leaves l (here v k) = refl

module _ (k : Option ℕ) (m : Bool) (l : List ℕ) where
  -- the bytes at the place of the name of an Interest that is read are its name
  pub asks_name_at : {f : Fields} → bare_read k m l ≡ bare.asks f → BytesAt l (interest_in (length l) f).name (ask_of f).name
  asks_name_at e = interest_name_at (asks_made k m l e).1

  -- those of one that a Nack brings
  pub nacks_name_at : {r : ℕ} {f : Fields} → bare_read k m l ≡ bare.nacks r f → BytesAt l (interest_in (length l) f).name (ask_of f).name
  nacks_name_at e = interest_name_at (nacks_made k m l e).1

  -- and those of a Data
  pub brings_name_at : {f g : Fields} → bare_read k m l ≡ bare.brings f g → BytesAt l (place_in (length l) (val f 1)) (offer_of f g).name
  unfolding offer_of
  brings_name_at e = data_name_at (brings_made k m l e).1

  -- the byte at the place of the HopLimit of an Interest that is read is the limit
  pub asks_hop_at : {f : Fields} {q : HopLimit} → bare_read k m l ≡ bare.asks f
      → (interest_in (length l) f).hop ≡ Some q → ByteAt l q.at q.limit
  asks_hop_at e = interest_hop_at (asks_made k m l e).1

  -- and that of one that a Nack brings
  pub nacks_hop_at : {r : ℕ} {f : Fields} {q : HopLimit} → bare_read k m l ≡ bare.nacks r f
      → (interest_in (length l) f).hop ≡ Some q → ByteAt l q.at q.limit
  nacks_hop_at e = interest_hop_at (nacks_made k m l e).1

  -- what is seen of the code's answer is what the packet means
  pub seen_meant : seen l (packet_in (length l) (bare_read k m l)) ≡ heard_bare k m l
  unfolding seen packet_in interest_in heard_bare meant offer_of
  seen_meant = go (bare_read k m l) refl
    where
      go : (r : Reading) → bare_read k m l ≡ r → seen l (packet_in (length l) r) ≡ meant l r
      go (bare.refused a) e = refl
      go (bare.asks f) e = rw (interest_seen (asks_made k m l e).1, lowered_leaves l (val f 7))
      go (bare.brings f g) e = rw (data_name_at (brings_made k m l e).1).bytes
      go (bare.nacks n f) e = ap (nacks n) (interest_seen (nacks_made k m l e).1)
