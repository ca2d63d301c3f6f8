-- A Nack that is written is read back: its reason, and the name, the flags and the nonce of the Interest in it.
-- Assumes nothing.
use Prim.Native.Nat.{ℕ, ◌^◌, ◌≤◌, ◌<◌}
use Rattle.std.specs.Prelude.{◌≡◌, Bool, true, eqb, Option, Some}
use Rattle.std.proofs.Math.Path.{refl, sym, ap}
use Rattle.std.proofs.Common.{◌∙◌, arith}
use Rattle.std.proofs.Math.Bool.{false}
use mathlib.Core.List.{List, [], ◌∷◌, ◌++◌, append-nil}
use Rattle.std.proofs.Math.ListN.{length, length-append}
use borrow.Author.Tests.{lt-leb, eqb-true}
use Rattle.laws.specs.Pick.{pick}
use Rattle.laws.specs.Laws.Pick.{pick_ind}
use Rattle.wire.specs.Number.{big, is_whole}
use Rattle.wire.specs.Element.{elem, element, elements}
use Rattle.wire.specs.Write.{bytes_of, written}
use Rattle.wire.specs.Bytes.{Bytes}
use Rattle.wire.specs.Laws.Walk.{elements_none}
use Rattle.wire.specs.Laws.Write.{length_bytes_of}
use Rattle.wire.specs.Laws.Round.{big_bytes_of, element_written}
use Rattle.wire.specs.declared.verdict.Verdict.{Verdict}
use Rattle.wire.specs.Verdict.{is_malformed}
use Rattle.grammar.specs.Types.{interest, lp_packet as lp, nack}
use Rattle.grammar.specs.Table.{table, row_of, fits, other}
use Rattle.grammar.specs.Walk.{said_with, known, judged, item, Field, absent, here, Fields, no_fields, met, walked_from, walked}
use Rattle.grammar.specs.Laws.Walk.{walked_from_lem, walked_none, walked_end, walked_written}
use Rattle.packethead.specs.Header.{val, bytes_in, present, whole_number, bare, lp_read, header_read}
use Rattle.packets.specs.Bare.{bare_read, asked_by, lifetime_of}
use Rattle.packets.specs.Laws.Shape.{bare_interest, Asking, asking_read, header_lp, heard_bare_lem, bare_means}
use Rattle.packets.specs.Well.{Well}
use Rattle.packets.specs.Laws.Heard.{asks_well, asks_nonce}
use Rattle.packets.specs.Meaning.{Ask, hop_of, ask_of, asks, nacks, meant, heard}
use Rattle.writing.specs.Written.{flag, request_value, request_bytes, reason_bytes, nack_value, nack_bytes}
use Rattle.writing.specs.Laws.Size.{length_written, pick_most, nack_is, nack_size, request_size}
use Rattle.writing.specs.Back.{request}

-- the field of a flag, with n bytes behind it
abbrev flag_field : Bool → ℕ → Field
flag_field true n = here [] n
flag_field false n = absent

-- what the elements of an Interest say up to order o, with Name, flags and Nonce
abbrev asked : ℕ → Field → Field → Field → Field → Fields
asked o x y z w = record {
  said = Verdict.Fine;
  last = o;
  vals = absent ∷ x ∷ y ∷ z ∷ absent ∷ w ∷ absent ∷ absent ∷ absent ∷ absent ∷ absent ∷ [];
}

-- a flag's element is met where it is there
flag_met : (t : ℕ) (b : Bool) (r : List ℕ) (f g : Fields) → 1 ≤ t → t < 2 ^ 32
    → (b ≡ true → met interest f (item t [] r) ≡ g) → (b ≡ false → f ≡ g)
    → walked_from interest f (elements item (flag t b ++ r)) ≡ walked_from interest g (elements item r)
unfolding flag pick
flag_met t true r f g l h on off = walked_written interest f t [] r l h (omega arith) ∙ rw (on refl)
flag_met t false r f g l h on off = rw (off refl)

module _ (x : Field) (r : List ℕ) where
  -- CanBePrefix after a Name
  prefix_met : (p : Bool) → walked_from interest (asked 1 x absent absent absent) (elements item (flag 0x21 p ++ r))
      ≡ walked_from interest (asked (pick p 2 1) x (flag_field p (length r)) absent absent) (elements item r)
  unfolding pick met judged known said_with row_of table fits other
  prefix_met p = flag_met 0x21 p r _ _ (omega arith) (omega arith) (λ e. rw e) (λ e. rw e)

  -- MustBeFresh after them
  fresh_met : (m : Bool) (o : ℕ) (y : Field) → o ≤ 2
      → walked_from interest (asked o x y absent absent) (elements item (flag 0x12 m ++ r))
      ≡ walked_from interest (asked (pick m 3 o) x y (flag_field m (length r)) absent) (elements item r)
  unfolding pick met judged known said_with row_of table fits other
  fresh_met m o y h = flag_met 0x12 m r _ _ (omega arith) (omega arith) (λ e. rw (e, lt-leb 3 o (omega arith))) (λ e. rw e)

-- one element alone is met
one_met : (p t : ℕ) (v : List ℕ) (f : Fields) → 1 ≤ t → t < 2 ^ 32 → length v < 2 ^ 64
    → walked_from p f (elements item (written t v)) ≡ met p f (item t v [])
one_met p t v f l h k =
    rw append-nil at (walked_written p f t v [] l h k) ∙ rw (elements_none item) (walked_end p (met p f (item t v [])))

-- Nonce after the others
nonce_met : (x y z : Field) (o : ℕ) (w : List ℕ) → o ≤ 4 → length w ≡ 4
    → walked_from interest (asked o x y z absent) (elements item (written 0x0A w)) ≡ asked 5 x y z (here w 0)
nonce_met x y z o w h l =
    one_met interest 0x0A w (asked o x y z absent) (omega arith) (omega arith) (omega arith)
    ∙ unfold pick met judged known said_with row_of table fits other in rw (l, lt-leb 5 o (omega arith))

-- f is what the elements of an Interest of a name, flags and the bytes w of a nonce say, with numbers of bytes that follow them
record Asked (name : List ℕ) (p m : Bool) (w : List ℕ) (f : Fields) : Type 0 where
  a : ℕ
  b : ℕ
  c : ℕ
  is : f ≡ asked 5 (here name a) (flag_field p b) (flag_field m c) (here w 0)

-- the elements of the Interest in a Nack
request_fields : (name : List ℕ) (p m : Bool) (nonce : ℕ) → length name ≤ 255
    → Asked name p m (bytes_of 4 nonce) (walked interest (request_value name p m nonce))
unfolding request_value
request_fields name p m nonce h =
    let k : List ℕ = written 0x0A (bytes_of 4 nonce) in
    let s : List ℕ = flag 0x12 m ++ k in
    let r : List ℕ = flag 0x21 p ++ s in
    let x : Field = here name (length r) in
    let o : ℕ = pick p 2 1 in
    let i : o ≤ 2 = (pick_most p 1 2 (omega arith)).1 in
    let j : pick m 3 o ≤ 3 = (pick_most m o 3 (omega arith)).1 in
    let one : met interest no_fields (item 0x07 name r) ≡ asked 1 x absent absent absent =
    unfold no_fields pick met judged known said_with row_of table fits other in refl in
    record {
      a = length r;
      b = length s;
      c = length k;
      is = sym (walked_from_lem interest (request_value name p m nonce))
          ∙ walked_written interest no_fields 0x07 name r (omega arith) (omega arith) (omega arith)
          ∙ ap (λ (f : Fields). walked_from interest f (elements item r)) one
          ∙ prefix_met x s p
          ∙ fresh_met x k m o _ i
          ∙ nonce_met x _ _ (pick m 3 o) (bytes_of 4 nonce) (omega arith) (length_bytes_of 4 nonce);
    }

-- a nonce's bytes make the nonce
whole_nonce : (n : ℕ) → n < 2 ^ 32 → whole_number (bytes_of 4 n) ≡ n
unfolding whole_number pick is_whole
whole_nonce n h = rw (length_bytes_of 4 n) (big_bytes_of 4 n (omega arith))

-- a flag is there where it is set
flag_there : (b : Bool) (n : ℕ) → present (flag_field b n) ≡ b
flag_there true n = refl
flag_there false n = refl

-- f is what the elements of an Interest say that is not refused
asked_asking : {name : List ℕ} {p m : Bool} {w : List ℕ} {f : Fields} → Well name → Asked name p m w f → Asking f
asked_asking h a = rw a.is (record { fine = refl; known = refl; name = refl; nonce = refl; well = h })

-- what it asks
asked_means : {name : List ℕ} {p m : Bool} {nonce : ℕ} {f : Fields} → nonce < 2 ^ 32 → Asked name p m (bytes_of 4 nonce) f
    → ask_of f ≡ request name p m nonce
unfolding ask_of lifetime_of hop_of
asked_means {name} {p} {m} {nonce} {f} h a = rw (a.is, flag_there p a.b, flag_there m a.c, whole_nonce nonce h)

-- an element alone is read back
element_alone : (t : ℕ) (v : List ℕ) → 1 ≤ t → t < 2 ^ 32 → length v < 2 ^ 64 → element (written t v) ≡ elem t v []
element_alone t v l h k = rw append-nil at (element_written t v [] l h k)

-- an Interest of Name, flags and Nonce that is written is read back, with the Nack that brings it
request_back : (k : Option ℕ) (name : List ℕ) (p m : Bool) (nonce : ℕ) → Well name
    → bare_read k false (request_bytes name p m nonce) ≡ asked_by k (walked interest (request_value name p m nonce))
unfolding request_bytes
request_back k name p m nonce h =
    let v : List ℕ = request_value name p m nonce in
    let n : length v < 2 ^ 64 = omega (arith, h.short, request_size name p m nonce h.short, length_written 0x05 v) in
    bare_interest k false (written 0x05 v) (element_alone 0x05 v (omega arith) (omega arith) n)
    ∙ asking_read k (walked interest v) (asked_asking h (request_fields name p m nonce h.short))

-- the elements of a Nack say its reason
record Says (f : Fields) (n : ℕ) : Type 0 where
  fine : is_malformed f.said ≡ false
  reason : whole_number (bytes_in (val f 1)) ≡ n

-- no element says 0
says_none : Says no_fields 0
unfolding no_fields whole_number is_whole pick
says_none = record { fine = refl; reason = refl }

-- a NackReason says its number
says_one : (n : ℕ) → Says (met nack no_fields (item 0x0321 (n ∷ []) [])) n
unfolding no_fields whole_number is_whole big pick met judged known said_with row_of table fits other
says_one n = record { fine = refl; reason = omega arith }

-- the elements of the Nack that is written
reason_says : (n : ℕ) → Says (walked nack (reason_bytes n)) n
unfolding reason_bytes
reason_says n =
    pick_ind (λ (l : List ℕ). Says (walked nack l) n) (eqb n 0) _ _
    (λ e. let z : n ≡ 0 = eqb-true n 0 e in rw (walked_none nack, z) says_none)
    (λ _.
    let q = one_met nack 0x0321 (n ∷ []) no_fields (omega arith) (omega arith) (omega arith) in
    rw (← walked_from_lem nack (written 0x0321 (n ∷ [])), q) (says_one n))

-- the elements of an LpPacket of a Nack and a Fragment
lp_fields_lem : (r v : List ℕ) → length r < 2 ^ 64 → length v < 2 ^ 64
    → walked lp (written 0x0320 r ++ written 0x50 v)
    ≡ record {
      said = Verdict.Fine;
      last = 2;
      vals = absent ∷ here r (length (written 0x50 v)) ∷ here v 0 ∷ absent ∷ absent ∷ absent ∷ absent ∷ absent ∷ absent ∷ absent ∷ absent ∷ [];
    }
lp_fields_lem r v h k =
    let w : List ℕ = written 0x50 v in
    sym (walked_from_lem lp (written 0x0320 r ++ w))
    ∙ walked_written lp no_fields 0x0320 r w (omega arith) (omega arith) h
    ∙ one_met lp 0x50 v (met lp no_fields (item 0x0320 r w)) (omega arith) (omega arith) k
    ∙ unfold no_fields pick met judged known said_with row_of table fits other in refl

-- an LpPacket of a Nack and a Fragment is read as these
lp_back : (r v : List ℕ) (n : ℕ) → length r < 2 ^ 64 → length v < 2 ^ 64 → Says (walked nack r) n
    → lp_read (written 0x0320 r ++ written 0x50 v) ≡ bare (record { nack = Some n; marked = false; bytes = v; left = 0 })
unfolding lp_read
lp_back r v n h k s = rw (lp_fields_lem r v h k, s.fine, s.reason)

module _ (reason : ℕ) (name : List ℕ) (p m : Bool) (nonce : ℕ) where
  -- the header of a Nack that is written is read back
  nack_header : length name ≤ 255
      → header_read (nack_bytes reason name p m nonce)
      ≡ bare (record { nack = Some reason; marked = false; bytes = request_bytes name p m nonce; left = 0 })
  unfolding nack_value
  nack_header h =
      let r : List ℕ = reason_bytes reason in
      let i : List ℕ = request_bytes name p m nonce in
      let v : List ℕ = nack_value reason name p m nonce in
      let q : nack_bytes reason name p m nonce ≡ written 0x64 v = nack_is reason name p m nonce in
      let a : length (written 0x64 v) ≤ 1500 = omega (arith, rw q at (nack_size reason name p m nonce h)) in
      let b : length v ≤ 1500 = omega (arith, length_written 0x64 v) in
      let c : length r ≤ 1500 = omega (arith, length_written 0x0320 r, length-append (written 0x0320 r) (written 0x50 i)) in
      let d : length i ≤ 1500 = omega (arith, request_size name p m nonce h) in
      rw q
      (header_lp (written 0x64 v) a (element_alone 0x64 v (omega arith) (omega arith) (omega arith))
      ∙ lp_back r i reason (omega arith) (omega arith) (reason_says reason))

  -- a Nack that is written is read back: its reason, and its Interest's name, flags and nonce
  pub nack_back : Well name → nonce < 2 ^ 32 → heard (nack_bytes reason name p m nonce) ≡ nacks reason (request name p m nonce)
  unfolding meant asked_by
  nack_back well h =
      let b : List ℕ = request_bytes name p m nonce in
      heard_bare_lem (nack_bytes reason name p m nonce) (nack_header well.short)
      ∙ bare_means (Some reason) false b
      ∙ ap (meant b) (request_back (Some reason) name p m nonce well)
      ∙ ap (nacks reason) (asked_means h (request_fields name p m nonce well.short))

-- so a Nack for an Interest that was read is read back
pub answer_back : (reason : ℕ) (l : List ℕ) {a : Ask} {b : List ℕ} → Bytes l → heard l ≡ asks a b
    → heard (nack_bytes reason a.name a.can_be_prefix a.must_be_fresh a.nonce)
    ≡ nacks reason (request a.name a.can_be_prefix a.must_be_fresh a.nonce)
answer_back reason l h e = nack_back reason _ _ _ _ (asks_well l e) (asks_nonce l e h)
