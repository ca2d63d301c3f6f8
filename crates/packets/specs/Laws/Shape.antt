-- What is read of a packet's elements, and the other way round what a packet that is read is made of: an Interest, a Data, and the header
-- that it came with.
-- Assumes nothing.
use Rattle.std.specs.Prelude.{ℕ, ◌+◌, ◌-◌, ◌^◌, ◌≤◌, ◌<◌, ◌≡◌, refl, Bool, false, ◌≢◌, List, [], ◌∷◌, length, take, drop, ltb, eqb, None, Option, Some}
use Rattle.std.proofs.Common.{sym, ◌∙◌, ap, length-drop, take_all, drop-drop}
use borrow.Author.Tests.{le-ltb, ne_eqb, ltb-false, eqb-true, eqb-false}
use native.Mathlib.Omega.{arith}
use Rattle.laws.specs.Pick.{pick}
use Rattle.laws.specs.Laws.Pick.{pick_ind}
use Rattle.wire.specs.Element.{Elem, bad, elem, element, onward}
use Rattle.wire.specs.Laws.Within.{ElementWithin, element_within, value_bytes}
use Rattle.wire.specs.Bytes.{Bytes}
use Rattle.wire.specs.Laws.Bytes.{big_below, bytes_take, bytes_drop}
use Rattle.wire.specs.Number.{is_whole}
use Rattle.wire.specs.Verdict.{is_malformed, is_unsupported}
use Rattle.wire.specs.Laws.Verdict.{said_fine}
use Rattle.answers.specs.declared.Answer.{Answer}
use Rattle.names.specs.declared.component.Counted.{Counted}
use Rattle.names.specs.Name.{counted}
use Rattle.grammar.specs.Types.{interest, dat, meta_info as meta, fragment, lp_packet as lp, nack}
use Rattle.grammar.specs.declared.Rule.{Rule}
use Rattle.grammar.specs.Table.{table, row_of, fits, outer}
use Rattle.grammar.specs.declared.Row.{Row}
use Rattle.grammar.specs.Walk.{Field, absent, here, Fields, walked}
use Rattle.grammar.specs.Laws.Walk.{FieldIn, walked_in, field_bytes}
use Rattle.grammar.specs.Laws.Table.{each_row}
use Rattle.grammar.specs.Laws.Fits.{Fitting, Fit, walked_fits, ruled, fitting_rule}
use Rattle.packethead.specs.Header.{val, bytes_in, missing, whole_number, Bare, Came, bare, nacked_by, fragment_read, lp_fields, lp_read, outer_read, header_read}
use Rattle.packethead.specs.Header as header
use Rattle.packets.specs.Bare.{Reading, refused, asks, brings, nacks, asked_by, sized, named_interest, interest_read, named_data, data_read, data_value, data_unless, kind_read, bare_read}
use Rattle.packets.specs.Meaning.{ask_of, leaving, meant, heard_bare, came_means, heard}
use Rattle.packets.specs.Meaning as said
use Rattle.packets.specs.Well.{Well}

-- ---- what is read of a packet's elements

-- a bare Interest is read by its elements
pub bare_interest : (k : Option ℕ) (m : Bool) (l : List ℕ) {v : List ℕ} → element l ≡ elem 0x05 v [] → bare_read k m l ≡ interest_read k m (walked interest v)
unfolding bare_read
bare_interest k m l e = rw e

module _ (l : List ℕ) {v : List ℕ} (short : length l ≤ 1500) where
  -- an Interest is its own bare packet
  pub header_interest : element l ≡ elem 0x05 v [] → header_read l ≡ bare (record { nack = None; marked = false; bytes = l; left = 0 })
  unfolding header_read
  header_interest e = rw (le-ltb 1500 (length l) short, e)

  -- a Data is its own bare packet
  pub header_data : element l ≡ elem 0x06 v [] → header_read l ≡ bare (record { nack = None; marked = false; bytes = l; left = 0 })
  unfolding header_read
  header_data e = rw (le-ltb 1500 (length l) short, e)

  -- an LpPacket is read by its elements
  pub header_lp : element l ≡ elem 0x64 v [] → header_read l ≡ lp_read v
  unfolding header_read
  header_lp e = rw (le-ltb 1500 (length l) short, e)

-- the elements of an Interest that is not refused: none is 5 or 6, Name and Nonce are there, and the name is one that an Interest may have
pub record Asking (f : Fields) : Type 0 where
  pub fine : is_malformed f.said ≡ false
  pub known : is_unsupported f.said ≡ false
  pub name : missing (val f 1) ≡ false
  pub nonce : missing (val f 5) ≡ false
  pub well : Well (bytes_in (val f 1))

-- an Interest of such elements is read, with the Nack that brought it, if one did
pub asking_read : (k : Option ℕ) (f : Fields) → Asking f → interest_read k false f ≡ asked_by k f
unfolding interest_read named_interest sized pick
asking_read k f a =
    let w = a.well in
    let z : (counted (bytes_in (val f 1))).count ≢ 0 = λ e. omega (arith, w.some) in
    rw (
      a.fine,
      a.name,
      a.nonce,
      w.fine,
      ne_eqb (counted (bytes_in (val f 1))).count 0 z,
      a.known,
      le-ltb 255 (length (bytes_in (val f 1))) w.short,
      le-ltb 16 (counted (bytes_in (val f 1))).count w.few,
    )

-- ---- what a packet that is read is made of

-- l is an Interest with the elements f
pub record IsInterest (m : Bool) (l : List ℕ) (f : Fields) : Type 0 where
  pub value : List ℕ
  pub is : element l ≡ elem 0x05 value []
  pub fields : f ≡ walked interest value
  pub unmarked : m ≡ false
  pub asking : Asking f

-- l is a Data with the elements f
pub record IsData (m : Bool) (l : List ℕ) (f : Fields) : Type 0 where
  pub value : List ℕ
  pub is : element l ≡ elem 0x06 value []
  pub fields : f ≡ walked dat value
  pub unmarked : m ≡ false
  pub fine : is_malformed f.said ≡ false
  pub name : missing (val f 1) ≡ false
  pub short : length (bytes_in (val f 1)) ≤ 255

-- what each reading says of the bytes, of the Nack that they came with, and of whether their header has an element that is 6
abbrev Made : Option ℕ → Bool → List ℕ → Reading → Type 0
Made k m l (refused a) = Unit {0}
Made k m l (asks f) = (k ≡ None) × IsInterest m l f
Made k m l (brings f g) = (k ≡ None) × IsData m l f
Made k m l (nacks n f) = (k ≡ Some n) × IsInterest m l f

module _ (k : Option ℕ) (m : Bool) (l v : List ℕ) (f : Fields) where
  -- of an Interest whose elements are there, by what its name says
  named_interest_made : element l ≡ elem 0x05 v [] → f ≡ walked interest v
      → is_malformed f.said ≡ false → missing (val f 1) ≡ false → missing (val f 5) ≡ false
      → Made k m l (named_interest k m f (counted (bytes_in (val f 1))))
  unfolding named_interest sized
  named_interest_made i w a b d =
      let c : Counted = counted (bytes_in (val f 1)) in
      pick_ind (Made k m l) (is_malformed c.said) _ _ (λ _. tt)
      (λ p. pick_ind (Made k m l) (eqb c.count 0) _ _ (λ _. tt)
      (λ g. pick_ind (Made k m l) m _ _ (λ _. tt)
      (λ u. pick_ind (Made k m l) (is_unsupported f.said) _ _ (λ _. tt)
      (λ h. pick_ind (Made k m l) (is_unsupported c.said) _ _ (λ _. tt)
      (λ q. pick_ind (Made k m l) (ltb 255 (length (bytes_in (val f 1)))) _ _ (λ _. tt)
      (λ x. pick_ind (Made k m l) (ltb 16 c.count) _ _ (λ _. tt)
      (λ y. by k (record {
        value = v;
        is = i;
        fields = w;
        unmarked = u;
        asking = record {
          fine = a;
          known = h;
          name = b;
          nonce = d;
          well = record {
            fine = said_fine c.said p q;
            some = omega (arith, eqb-false c.count 0 g);
            few = ltb-false 16 c.count y;
            short = ltb-false 255 (length (bytes_in (val f 1))) x;
          };
        };
      }))))))))
    where
      by : (k : Option ℕ) → IsInterest m l f → Made k m l (asked_by k f)
      by None a = unfold asked_by in (refl, a)
      by (Some n) a = unfold asked_by in (refl, a)

  -- of an Interest
  interest_made : element l ≡ elem 0x05 v [] → f ≡ walked interest v → Made k m l (interest_read k m f)
  unfolding interest_read
  interest_made i w =
      pick_ind (Made k m l) (is_malformed f.said) _ _ (λ _. tt)
      (λ a. pick_ind (Made k m l) (missing (val f 1)) _ _ (λ _. tt)
      (λ b. pick_ind (Made k m l) (missing (val f 5)) _ _ (λ _. tt)
      (λ c. named_interest_made i w a b c)))

  -- of a Data whose elements are there, by what its name says
  named_data_made : k ≡ None → element l ≡ elem 0x06 v [] → f ≡ walked dat v → is_malformed f.said ≡ false → missing (val f 1) ≡ false
      → (g : Fields) (c : Counted) → Made k m l (named_data m f g c)
  unfolding named_data sized
  named_data_made z i w a b g c =
      pick_ind (Made k m l) (is_malformed c.said) _ _ (λ _. tt)
      (λ _. pick_ind (Made k m l) m _ _ (λ _. tt)
      (λ u. pick_ind (Made k m l) (is_unsupported c.said) _ _ (λ _. tt)
      (λ _. pick_ind (Made k m l) (ltb 255 (length (bytes_in (val f 1)))) _ _ (λ _. tt)
      (λ x. pick_ind (Made k m l) (ltb 16 c.count) _ _ (λ _. tt)
      (λ y. (z, record { value = v; is = i; fields = w; unmarked = u; fine = a; name = b; short = ltb-false 255 (length (bytes_in (val f 1))) x }))))))

  -- of a Data
  data_made : k ≡ None → element l ≡ elem 0x06 v [] → f ≡ walked dat v → (g : Fields) → Made k m l (data_read m f g)
  unfolding data_read
  data_made z i w g =
      pick_ind (Made k m l) (is_malformed f.said) _ _ (λ _. tt)
      (λ a. pick_ind (Made k m l) (missing (val f 1)) _ _ (λ _. tt)
      (λ b. pick_ind (Made k m l) (missing (val f 4)) _ _ (λ _. tt)
      (λ c. pick_ind (Made k m l) (missing (val f 5)) _ _ (λ _. tt)
      (λ d. pick_ind (Made k m l) (is_malformed g.said) _ _ (λ _. tt)
      (λ e. named_data_made z i w a b g (counted (bytes_in (val f 1))))))))

-- of a Data, which comes with no Nack
unless_made : (k : Option ℕ) (m : Bool) (l v : List ℕ) → element l ≡ elem 0x06 v [] → Made k m l (data_unless k (data_value m v))
unfolding data_unless data_value
unless_made None m l v i = data_made None m l v (walked dat v) refl i refl (walked meta (bytes_in (val (walked dat v) 2)))
unless_made (Some n) m l v i = tt

-- of the types that stand in a Fragment, 5 has order 1 and 6 has order 2
fragment_type : (t : ℕ) → ((row_of fragment t table).order ≡ 1 → t ≡ 0x05) × ((row_of fragment t table).order ≡ 2 → t ≡ 0x06)
unfolding table row_of pick
fragment_type t =
    pick_ind Type_of (eqb 0x05 t) _ _ (λ e. ((λ _. sym (eqb-true 0x05 t e)), (λ z. absurd (omega arith))))
    (λ _. pick_ind Type_of (eqb 0x06 t) _ _ (λ e. ((λ z. absurd (omega arith)), (λ _. sym (eqb-true 0x06 t e))))
    (λ _. ((λ z. absurd (omega arith)), (λ z. absurd (omega arith)))))
  where
    Type_of : Row → Type 0
    Type_of r = (r.order ≡ 1 → t ≡ 0x05) × (r.order ≡ 2 → t ≡ 0x06)

-- no bytes are left
none_left : (l : List ℕ) → length l ≤ 0 → l ≡ []
none_left [] h = refl
none_left (b ∷ l) h = absurd (omega arith)

-- of the one element of a bare packet
kind_made : (k : Option ℕ) (m : Bool) (l : List ℕ) (t : ℕ) (v : List ℕ) → element l ≡ elem t v [] → Made k m l (kind_read k m t v)
unfolding kind_read
kind_made k m l t v e =
    let o : ℕ = (row_of fragment t table).order in
    pick_ind (Made k m l) (eqb o 1) _ _
    (λ a. let q : t ≡ 0x05 = (fragment_type t).0 (eqb-true o 1 a) in interest_made k m l v (walked interest v) (rw q at e) refl)
    (λ _. pick_ind (Made k m l) (eqb o 2) _ _
    (λ b. let q : t ≡ 0x06 = (fragment_type t).1 (eqb-true o 2 b) in unless_made k m l v (rw q at e))
    (λ _. tt))

-- of any bytes
made : (k : Option ℕ) (m : Bool) (l : List ℕ) → Made k m l (bare_read k m l)
unfolding bare_read
made k m l = go (element l) refl
  where
    go : (e : Elem) → element l ≡ e
        → Made k m l (onward e (refused Answer.Malformed) (λ t v r. pick (ltb 0 (length r)) (refused Answer.Malformed) (kind_read k m t v)))
    go bad e = tt
    go (elem t v r) e =
        pick_ind (Made k m l) (ltb 0 (length r)) _ _ (λ _. tt)
        (λ h. let z : r ≡ [] = none_left r (ltb-false 0 (length r) h) in kind_made k m l t v (rw z at e))

module _ (k : Option ℕ) (m : Bool) (l : List ℕ) where
  -- what is read as an Interest is one, and came with no Nack
  pub asks_made : {f : Fields} → bare_read k m l ≡ asks f → (k ≡ None) × IsInterest m l f
  asks_made e = rw e at (made k m l)

  -- what is read as a Data is one, and came with no Nack
  pub brings_made : {f g : Fields} → bare_read k m l ≡ brings f g → (k ≡ None) × IsData m l f
  brings_made e = rw e at (made k m l)

  -- what is read as a Nack is an Interest that came with one
  pub nacks_made : {n : ℕ} {f : Fields} → bare_read k m l ≡ nacks n f → (k ≡ Some n) × IsInterest m l f
  nacks_made e = rw e at (made k m l)

-- ---- the header

-- a field that stands in the value of the last element stands in the whole
pub last_in : (l : List ℕ) {t : ℕ} {v : List ℕ} {x : Field} → element l ≡ elem t v [] → FieldIn v x → FieldIn l x
last_in l {t} {v} {x} e h =
    let w : ElementWithin l t v [] = element_within l e in
    let n : length l ≡ w.head + length v = omega (arith, w.fits, ap length w.rest, length-drop (w.head + length v) l) in
    let d : v ≡ drop w.head l = w.value ∙ take_all (length v) (drop w.head l) (omega (arith, length-drop w.head l)) in
    record {
      fits = λ q. omega (arith, h.fits q);
      value = λ {v = u} {k = k} q.
          let a : w.head + (length v - k - length u) ≡ length l - k - length u = omega (arith, h.fits q) in
          h.value q ∙ ap (λ (z : List ℕ). take (length u) (drop (length v - k - length u) z)) d
          ∙ rw (drop-drop (length v - k - length u) w.head l, a);
    }

-- where a bare packet stands in the packet l that it came in, which has 1,500 bytes at most
pub record BareIn (l : List ℕ) (b : Bare) : Type 0 where
  pub short : length l ≤ 1500
  pub fits : length b.bytes + b.left ≤ length l
  pub value : b.bytes ≡ take (length b.bytes) (drop (length l - b.left - length b.bytes) l)

-- so it stands, if it is not refused
abbrev Stands : List ℕ → Came → Type 0
Stands l (header.refused a) = Unit {0}
Stands l (bare b) = BareIn l b

-- that of a Fragment
fragment_in : (l : List ℕ) (x : Field) (k : Option ℕ) (m : Bool) → length l ≤ 1500 → FieldIn l x → Stands l (fragment_read x k m)
unfolding fragment_read
fragment_in l absent k m s h = tt
fragment_in l (here w j) k m s h = record { short = s; fits = omega (arith, h.fits refl); value = h.value refl }

-- of an LpPacket's elements
fields_in : (l : List ℕ) (f g : Fields) → length l ≤ 1500 → FieldIn l (val f 2) → Stands l (lp_fields f g)
unfolding lp_fields
fields_in l f g s h =
    pick_ind (Stands l) (is_malformed f.said) _ _ (λ _. tt)
    (λ _. pick_ind (Stands l) (is_malformed g.said) _ _ (λ _. tt)
    (λ _. fragment_in l (val f 2) (nacked_by (val f 1) (val g 1)) (is_unsupported f.said) s h))

-- of an LpPacket that is a packet's one element
lp_in : (l : List ℕ) (t : ℕ) (v : List ℕ) → length l ≤ 1500 → element l ≡ elem t v [] → Stands l (lp_read v)
unfolding lp_read
lp_in l t v s e =
    fields_in l (walked lp v) (walked nack (bytes_in (val (walked lp v) 1))) s (last_in l e (walked_in lp v 2))

-- of a packet that is bare
whole_in : (l : List ℕ) → length l ≤ 1500 → Stands l (bare (record { nack = None; marked = false; bytes = l; left = 0 }))
whole_in l s =
    let z : length l - 0 - length l ≡ 0 = omega arith in
    record { short = s; fits = omega arith; value = rw z (sym (take_all (length l) l (omega arith))) }

-- of a packet as it came
header_in_lem : (l : List ℕ) → Stands l (header_read l)
unfolding header_read outer_read
header_in_lem l = pick_ind (Stands l) (ltb 1500 (length l)) _ _ (λ _. tt) (λ h. go (ltb-false 1500 (length l) h) (element l) refl)
  where
    go : length l ≤ 1500 → (e : Elem) → element l ≡ e
        → Stands l (onward e (header.refused Answer.Malformed)
        (λ t v r. pick (ltb 0 (length r)) (header.refused Answer.Malformed) (outer_read t v l)))
    go s bad e = tt
    go s (elem t v r) e =
        pick_ind (Stands l) (ltb 0 (length r)) _ _ (λ _. tt)
        (λ h. pick_ind (Stands l) (eqb (row_of outer t table).order 0) _ _ (λ _. tt)
        (λ _. pick_ind (Stands l) (eqb (row_of outer t table).order 3) _ _
        (λ _. let z : r ≡ [] = none_left r (ltb-false 0 (length r) h) in lp_in l t v s (rw z at e))
        (λ _. whole_in l s)))

-- a bare packet stands in the packet that it came in
pub bare_in : (l : List ℕ) {b : Bare} → header_read l ≡ bare b → BareIn l b
bare_in l {b} e = let h : Stands l (bare b) = rw e at (header_in_lem l) in h

-- so it has 1,500 bytes at most
pub bare_short : (l : List ℕ) {b : Bare} → header_read l ≡ bare b → length b.bytes ≤ 1500
bare_short l e = let h = bare_in l e in omega (arith, h.short, h.fits)

-- and is bytes where that is
pub bare_bytes : (l : List ℕ) → Bytes l → {b : Bare} → header_read l ≡ bare b → Bytes b.bytes
bare_bytes l h {b} e =
    rw (bare_in l e).value
    (bytes_take (length b.bytes) (drop (length l - b.left - length b.bytes) l)
    (bytes_drop (length l - b.left - length b.bytes) l h))

-- what a packet means is what its header says
pub heard_is : (l : List ℕ) → heard l ≡ came_means (header_read l)
unfolding heard
heard_is l = refl

-- and so what the bare packet means that stands in it
pub heard_bare_lem : (l : List ℕ) {b : Bare} → header_read l ≡ bare b → heard l ≡ heard_bare b.nack b.marked b.bytes
unfolding came_means
heard_bare_lem l e = heard_is l ∙ ap came_means e

-- what a bare packet means, by its elements
pub bare_means : (k : Option ℕ) (m : Bool) (l : List ℕ) → heard_bare k m l ≡ meant l (bare_read k m l)
unfolding heard_bare
bare_means k m l = refl

-- an Interest alone, of elements that are not refused, asks what they mean
pub asking_heard : (l v : List ℕ) → length l ≤ 1500 → element l ≡ elem 0x05 v [] → Asking (walked interest v)
    → heard l ≡ said.asks (ask_of (walked interest v)) (leaving l (val (walked interest v) 7))
unfolding asked_by meant
asking_heard l v h e a =
    heard_bare_lem l (header_interest l h e)
    ∙ bare_means None false l
    ∙ ap (meant l) (bare_interest None false l e ∙ asking_read None (walked interest v) a)

-- ---- the nonce

-- a Nonce is four bytes
nonce_four : (v : List ℕ) → Fitting interest 5 v → length v ≡ 4
unfolding fits pick
nonce_four v f = eqb-true (length v) 4 (fitting_rule interest 5 Rule.Four v (unfold table each_row ruled in refl) (omega arith) f)

-- four bytes make a number below 2 ^ 32
whole_four : (v : List ℕ) → Bytes v → length v ≡ 4 → whole_number v < 2 ^ 32
unfolding whole_number is_whole pick
whole_four v b n = rw n (rw n at (big_below v b))

-- the nonce of an Interest that is read is below 2 ^ 32
pub nonce_below : (m : Bool) (l : List ℕ) (f : Fields) → Bytes l → IsInterest m l f → whole_number (bytes_in (val f 5)) < 2 ^ 32
nonce_below m l f b i = rw i.fields (go (val (walked interest i.value) 5) refl (walked_fits interest i.value 5 (omega arith)))
  where
    go : (x : Field) → val (walked interest i.value) 5 ≡ x → Fit interest 5 x → whole_number (bytes_in x) < 2 ^ 32
    go absent e h = unfold whole_number is_whole pick in omega arith
    go (here v k) e h = whole_four v (field_bytes (walked_in interest i.value 5) e (value_bytes l b i.is)) (nonce_four v h)
