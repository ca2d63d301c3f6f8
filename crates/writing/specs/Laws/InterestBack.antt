-- A forwarded Interest is read back: it asks the same with a HopLimit one lower, if it has one.
-- Assumes nothing.
use Rattle.std.specs.Prelude.{ℕ, ◌+◌, ◌-◌, ◌%◌, ◌^◌, ◌≤◌, ◌<◌, ◌≡◌, Bool, ◌≢◌, List, [], ◌∷◌, set, Ok}
use Rattle.std.proofs.Math.Path.{refl, ap}
use Rattle.std.proofs.Common.{sym, ◌∙◌, eqb-true, eq-eqb}
use Rattle.std.proofs.Math.Option.{some}
use Rattle.std.proofs.Math.ListN.{length}
use native.Mathlib.Omega.{arith}
use Rattle.laws.specs.Pick.{pick}
use Rattle.wire.specs.Bytes.{Bytes}
use Rattle.wire.specs.Laws.Bytes.{big_below}
use Rattle.wire.specs.Number.{big, is_whole}
use Rattle.wire.specs.Element.{elem, element}
use Rattle.wire.specs.Laws.Within.{element_less, value_bytes}
use Rattle.wire.specs.Laws.Change.{changed, length_changed, changed_set, element_changed}
use Rattle.grammar.specs.Types.{interest}
use Rattle.grammar.specs.declared.Rule.{Rule}
use Rattle.grammar.specs.Table.{table, fits}
use Rattle.grammar.specs.Laws.Table.{each_row}
use Rattle.grammar.specs.Laws.Fits.{Fitting, walked_fits, ruled, fitting_rule}
use Rattle.grammar.specs.Walk.{Field, absent, here, Fields, walked}
use Rattle.grammar.specs.Laws.Walk.{walked_in, field_bytes}
use Rattle.grammar.specs.Laws.Change.{changed_field, Changes, field_changed}
use Rattle.packets.specs.declared.bare.Interest.{Interest}
use Rattle.packets.specs.declared.bare.Packet.{Packet}
use Rattle.packethead.specs.Header.{val, whole_number, Bare, bare, header_read}
use Rattle.packets.specs.Bare.{bare_read}
use Rattle.packets.specs.Places.Bare.{packet_in}
use Rattle.packets.specs.Places.View.{lowered, seen}
use Rattle.packets.specs.Meaning.{Ask, asks, hop_of, ask_of, leaving, heard}
use Rattle.packets.specs.Laws.Shape.{Asking, IsInterest, asks_made, bare_short, bare_bytes, heard_bare_lem, asking_heard}
use Rattle.packets.specs.Laws.Heard.{asks_holds}
use Rattle.packets.specs.Laws.View.{seen_meant}
use Rattle.writing.specs.Back.{lower_hop, lower, Asks}

-- a HopLimit is one byte
hop_one : (v : List ℕ) → Fitting interest 7 v → length v ≡ 1
unfolding fits pick
hop_one v f = eqb-true (length v) 1 (fitting_rule interest 7 Rule.One v (unfold table each_row ruled in refl) (omega arith) f)

-- the number in one byte
whole_one : (b : ℕ) → whole_number (b ∷ []) ≡ b
unfolding whole_number is_whole big pick
whole_one b = omega arith

-- the number in one byte is below 256
hop_below : (v : List ℕ) → length v ≡ 1 → Bytes v → whole_number v < 256
unfolding whole_number is_whole pick
hop_below v n b = rw n (rw n at (big_below v b))

-- one byte that k bytes follow, one lower
byte_lower : (k : ℕ) (v : List ℕ) → length v ≡ 1 → whole_number (changed k (whole_number v - 1) k v) ≡ whole_number v - 1
unfolding changed pick
byte_lower k [] h = absurd (omega arith)
byte_lower k (b ∷ []) h = rw (eq-eqb (k + 0) k (omega arith)) (whole_one (whole_number (b ∷ []) - 1))
byte_lower k (b ∷ c ∷ v) h = absurd (omega arith)

-- so a HopLimit
hop_lower : (k : ℕ) (v : List ℕ) → length v ≡ 1 → hop_of (changed_field k (whole_number v - 1) (here v k)) ≡ lower_hop (hop_of (here v k))
unfolding hop_of
hop_lower k v h = ap some (byte_lower k v h)

-- an element alone, with a byte of its value replaced
alone_changed : (k y : ℕ) (l : List ℕ) {t : ℕ} {v : List ℕ} → Bytes l → length l < 2 ^ 64 → element l ≡ elem t v [] → k < length v
    → element (changed k y 0 l) ≡ elem t (changed k y 0 v) []
unfolding changed
alone_changed k y l b n e h = element_changed k y l b n e (omega arith)

-- fields f, and fields g of which the HopLimit alone may differ
module _ (f g : Fields) (said : g.said ≡ f.said) (same : (o : ℕ) → o ≢ 7 → val g o ≡ val f o) where
  -- g is not refused where f is not
  lower_asking : Asking f → Asking g
  lower_asking a =
      let n : val g 1 ≡ val f 1 = same 1 (λ e. omega arith) in
      let k : val g 5 ≡ val f 5 = same 5 (λ e. omega arith) in
      record {
        fine = rw said a.fine;
        known = rw said a.known;
        name = rw n a.name;
        nonce = rw k a.nonce;
        well = rw n a.well;
      }

  -- g asks what f asks, with a HopLimit one lower, where that is so of the field
  lower_asks : hop_of (val g 7) ≡ lower_hop (hop_of (val f 7)) → ask_of g ≡ lower (ask_of f)
  unfolding ask_of
  lower_asks h =
      rw (
        same 1 (λ e. omega arith),
        same 2 (λ e. omega arith),
        same 3 (λ e. omega arith),
        same 5 (λ e. omega arith),
        same 6 (λ e. omega arith),
        h,
      )

module _ (l v : List ℕ) (bytes : Bytes l) (short : length l ≤ 1500) (is : element l ≡ elem 0x05 v [])
    (asking : Asking (walked interest v)) where
  -- an Interest without a HopLimit leaves as it is
  back_absent : val (walked interest v) 7 ≡ absent → Asks l (lower (ask_of (walked interest v)))
  back_absent e =
      let f : Fields = walked interest v in
      let h : hop_of (val f 7) ≡ lower_hop (hop_of (val f 7)) = rw e (unfold hop_of in refl) in
      record {
        bytes = leaving l (val f 7);
        means = asking_heard l v short is asking ∙ ap (λ (a : Ask). asks a (leaving l (val f 7))) (lower_asks f f refl (λ o n. refl) h);
      }

  -- an Interest with a HopLimit w, which k bytes follow, leaves with one that is one lower
  back_here : (w : List ℕ) (k : ℕ) → val (walked interest v) 7 ≡ here w k
      → Asks (set l (length l - k - length w) (whole_number w - 1)) (lower (ask_of (walked interest v)))
  back_here w k e =
      let f : Fields = walked interest v in
      let y : ℕ = whole_number w - 1 in
      let n : length w ≡ 1 = hop_one w (rw e at (walked_fits interest v 7 (omega arith))) in
      let i : 2 + length w + k ≤ length v = (walked_in interest v 7).fits e in
      let s : length v ≤ length l = omega (arith, element_less l is) in
      let q : changed k y 0 l ≡ set l (length l - k - length w) y = rw n (changed_set k y l (omega arith)) in
      let c : Changes interest k y v 7 = field_changed interest k y v 7 (value_bytes l bytes is) (omega arith) (rw e (omega arith, omega arith)) in
      let g : Fields = walked interest (changed k y 0 v) in
      let d = alone_changed k y l bytes (omega arith) is (omega arith) in
      let a : Asking g = lower_asking f g c.said c.other asking in
      let h : hop_of (val g 7) ≡ lower_hop (hop_of (val f 7)) = rw (c.this, e) (hop_lower k w n) in
      let b : List ℕ = leaving (changed k y 0 l) (val g 7) in
      rw (← q)
      (record {
        bytes = b;
        means = asking_heard (changed k y 0 l) (changed k y 0 v) (omega (arith, length_changed k y 0 l)) d a
            ∙ ap (λ (x : Ask). asks x b) (lower_asks f g c.said c.other h);
      })

  -- as it leaves, with its HopLimit one lower if it has one
  back : (x : Field) → val (walked interest v) 7 ≡ x → Asks (leaving l x) (lower (ask_of (walked interest v)))
  unfolding leaving
  back absent e = back_absent e
  back (here w k) e =
      let n : length w ≡ 1 = hop_one w (rw e at (walked_fits interest v 7 (omega arith))) in
      let b : whole_number w < 256 = hop_below w n (field_bytes (walked_in interest v 7) e (value_bytes l bytes is)) in
      let y : (whole_number w - 1) % 256 ≡ whole_number w - 1 = omega arith in
      rw y (back_here w k e)

-- an Interest as it leaves asks what it asked, with a HopLimit one lower
interest_back : (m : Bool) (l : List ℕ) (f : Fields) → IsInterest m l f → Bytes l → length l ≤ 1500
    → Asks (leaving l (val f 7)) (lower (ask_of f))
interest_back m l f i b n =
    let w = i.fields in
    rw w (back l i.value b n i.is (rw w at i.asking) (val (walked interest i.value) 7) refl)

-- an Interest that came in any header and leaves without it asks what it asked, with a HopLimit one lower
pub forward_back : (l : List ℕ) {i : Ask} {b : List ℕ} → Bytes l → heard l ≡ asks i b → Asks b (lower i)
forward_back l bytes e =
    let q = asks_holds l e in
    let x = q.part in
    let r = interest_back x.marked x.bytes q.fields (asks_made x.nack x.marked x.bytes q.reads).1
    (bare_bytes l bytes q.comes) (bare_short l q.comes) in
    rw (q.ask, q.leaves) at r

-- what is written of an Interest that the reader answers is what leaves
pub forward_leaves : (s : List ℕ) (b : Bare) (i : Interest) {a : Ask} {c : List ℕ} → header_read s ≡ bare b
    → packet_in (length b.bytes) (bare_read b.nack b.marked b.bytes) ≡ Ok (Packet.Interest i) → heard s ≡ asks a c
    → lowered b.bytes i.hop ≡ c
unfolding seen
forward_leaves s b i came p h =
    let q = rw p at (seen_meant b.nack b.marked b.bytes) in
    cc (q ∙ sym (heard_bare_lem s came) ∙ h)
