-- The finder agrees with the reader: the first element of type 7 is the Name of a packet that is read. In an Interest and in a Data a
-- Name has order 1, so that one after any other known element says 5.
-- Assumes nothing.
use Prim.Native.Nat.{ℕ, zero, suc, ◌≤◌, ◌<◌}
use Rattle.std.proofs.Math.Path.{◌≡◌, refl, sym}
use Rattle.std.proofs.Common.{◌∙◌, ap, get_or-set_same, eqb-true}
use Rattle.std.specs.Prelude.{Bool, true, ◌&&◌, ◌||◌, ◌≢◌, length, eqb, Option}
use Rattle.std.proofs.Math.Bool.{false}
use mathlib.Core.List.{List, [], ◌∷◌}
use Rattle.std.proofs.Math.ListN.{length-set}
use Rattle.std.proofs.Math.Seq.{get_or-set_other}
use Rattle.std.proofs.lemmas.Bool.{eqb-false}
use native.Mathlib.Omega.{arith}
use Rattle.laws.specs.Pick.{pick}
use Rattle.laws.specs.Laws.Pick.{pick_ind}
use Rattle.wire.specs.Element.{elem, element, elements, ended}
use Rattle.grammar.specs.declared.Row.{Row}
use Rattle.wire.specs.declared.verdict.Verdict.{Verdict}
use Rattle.wire.specs.Verdict.{is_malformed}
use Rattle.grammar.specs.declared.Next.{Next}
use Rattle.grammar.specs.Types.{interest, dat}
use Rattle.grammar.specs.declared.Rule.{Rule}
use Rattle.grammar.specs.Table.{row, table, row_of, fits}
use Rattle.grammar.specs.Laws.Table.{each_row, row_each}
use Rattle.grammar.specs.Laws.Fits.{row_found, judged_met}
use Rattle.grammar.specs.Walk.{said_with, known, judged, Item, item, absent, here, Fields, no_fields, broken_fields, met, met_all, walked_from, walked}
use Rattle.grammar.specs.Laws.Walk.{walked_from_lem}
use Rattle.packethead.specs.Header.{val, bytes_in, missing}
use Rattle.packets.specs.Bare.{asks, brings, nacks, bare_read}
use Rattle.packethead.specs.Name.{first_name, name_in, name_of}
use Rattle.packets.specs.Laws.Shape.{IsInterest, IsData, asks_made, brings_made, nacks_made}

-- a parent in which order 1 is that of a Name alone, of any length
record Naming (p : ℕ) : Type 0 where
  name : row_of p 0x07 table ≡ row 0x07 p 1 Rule.Any Verdict.Fine
  only : (t : ℕ) → (row_of p t table).order ≡ 1 → t ≡ 0x07

-- whether a row of order 1 in an Interest or in a Data is that of a Name
name_row : Row → Bool
name_row r = pick (eqb r.order 1 && (eqb r.parent interest || eqb r.parent dat)) (eqb r.typ 0x07) true

-- each row is
name_row_lem : (p t : ℕ) → name_row (row_of p t table) ≡ true
unfolding name_row
name_row_lem p t = row_each name_row p t table (unfold pick in refl) (unfold table each_row pick in refl)

-- so that in these parents it is that of a Name alone
name_only : (p t : ℕ) → (eqb p interest || eqb p dat) ≡ true → (row_of p t table).order ≡ 1 → t ≡ 0x07
unfolding name_row pick
name_only p t h o =
    let r = row_found p t table (λ z. omega arith) in
    let e : eqb t 0x07 ≡ true = rw (o, r.0, r.1, h) at (name_row_lem p t) in
    eqb-true t 0x07 e

-- an Interest
interest_naming : Naming interest
interest_naming = record { name = unfold table row_of pick in refl; only = λ t. name_only interest t refl }

-- a Data
data_naming : Naming dat
data_naming = record { name = unfold table row_of pick in refl; only = λ t. name_only dat t refl }

module _ (p : ℕ) where
  -- once 5 is said it stays
  five_stays : (f : Fields) (is : List Item) → is_malformed f.said ≡ true → is_malformed (met_all p f is).said ≡ true
  unfolding met_all met judged pick
  five_stays f [] e = e
  five_stays f (i ∷ is) e = five_stays (met p f i) is (rw e)

  -- what is not malformed at the end was not before
  fine_before : (f : Fields) (is : List Item) → is_malformed (met_all p f is).said ≡ false → is_malformed f.said ≡ false
  fine_before f is n = go (is_malformed f.said) refl
    where
      go : (b : Bool) → is_malformed f.said ≡ b → is_malformed f.said ≡ false
      go false e = e
      go true e = absurd (let q = five_stays f is e in let z : ◌≡◌ {A = ℕ} 0 1 = cc in omega arith)

  -- an element of another order leaves the Name
  met_other : (f : Fields) (i : Item) → (judged p f.said f.last i.typ (length i.value)).order ≢ 1 → val (met p f i) 1 ≡ val f 1
  unfolding met
  met_other f i n = get_or-set_other f.vals _ 1 (here i.value i.left) absent (λ e. n (sym e))

  -- an element more makes no more places
  met_length : (f : Fields) (i : Item) → length (met p f i).vals ≡ length f.vals
  unfolding met
  met_length f i = length-set f.vals _ (here i.value i.left)

  -- after an element of order 1 or more a Name stays
  name_stays : (f : Fields) (is : List Item) → 1 ≤ f.last → val (met_all p f is) 1 ≡ val f 1
  unfolding met_all met
  name_stays f [] h = refl
  name_stays f (i ∷ is) h =
      let j = judged_met (λ (d : Next). (1 ≤ d.last) × (d.order ≢ 1)) p f.said f.last i.typ (length i.value)
      (λ m. (h, λ z. omega arith)) (λ k _. (omega arith, λ z. omega arith)) in
      name_stays (met p f i) is j.0 ∙ met_other f i j.1

  module _ (naming : Naming p) where
    -- before any other known element an element of type 7 is the Name
    met_name : (f : Fields) (i : Item) → i.typ ≡ 0x07 → is_malformed f.said ≡ false → f.last ≡ 0 → 1 < length f.vals
        → (val (met p f i) 1 ≡ here i.value i.left) × ((met p f i).last ≡ 1)
    unfolding met judged known said_with fits pick
    met_name f i t n z h =
        rw (t, n, naming.name, z) (get_or-set_same f.vals 1 (here i.value i.left) absent h, refl)

    -- an element of another type is not the Name
    met_no_name : (f : Fields) (i : Item) → i.typ ≢ 0x07 → val (met p f i) 1 ≡ val f 1
    met_no_name f i t =
        met_other f i
        (judged_met (λ (d : Next). d.order ≢ 1) p f.said f.last i.typ (length i.value)
        (λ m e. omega arith) (λ _ _ e. t (naming.only i.typ e)))

    -- the first element of type 7 is the Name, where there is a Name and nothing is 5
    name_first : (f : Fields) (is : List Item) → f.last ≡ 0 → val f 1 ≡ absent → 1 < length f.vals
        → is_malformed (met_all p f is).said ≡ false → missing (val (met_all p f is) 1) ≡ false → first_name is ≡ bytes_in (val (met_all p f is) 1)
    unfolding met_all first_name
    name_first f [] z a h n m = absurd (let q : missing absent ≡ false = rw a at m in let r : ◌≡◌ {A = ℕ} 0 1 = cc in omega arith)
    name_first f (i ∷ is) z a h n m =
        let g : Fields = met p f i in
        pick_ind (λ (x : List ℕ). x ≡ bytes_in (val (met_all p g is) 1)) (eqb i.typ 0x07) _ _
        (λ e.
        let q = met_name f i (eqb-true i.typ 0x07 e) (fine_before f (i ∷ is) n) z h in
        sym (ap bytes_in (name_stays g is (omega (arith, q.1)) ∙ q.0)))
        (λ e.
        let b : val g 1 ≡ absent = met_no_name f i (eqb-false i.typ 0x07 e) ∙ a in
        later g is b g.last refl m (λ k. name_first g is k b (omega (arith, met_length f i)) n m))
      where
        later : (g : Fields) (is : List Item) → val g 1 ≡ absent → (o : ℕ) → g.last ≡ o → missing (val (met_all p g is) 1) ≡ false
            → (g.last ≡ 0 → first_name is ≡ bytes_in (val (met_all p g is) 1)) → first_name is ≡ bytes_in (val (met_all p g is) 1)
        later g is b zero k m ih = ih k
        later g is b (suc o) k m ih =
            absurd (let q : missing absent ≡ false = rw (name_stays g is (omega arith), b) at m in let r : ◌≡◌ {A = ℕ} 0 1 = cc in omega arith)

    -- the finder finds the Name of a value that is not 5
    name_agrees : (v : List ℕ) → is_malformed (walked p v).said ≡ false → missing (val (walked p v) 1) ≡ false → name_in v ≡ bytes_in (val (walked p v) 1)
    unfolding name_in walked_from no_fields broken_fields
    name_agrees v =
        rw (← walked_from_lem p v)
        (pick_ind (λ (f : Fields). is_malformed f.said ≡ false → missing (val f 1) ≡ false → first_name (elements item v).items ≡ bytes_in (val f 1))
        (ended (elements item v)) _ _
        (λ _. name_first no_fields (elements item v).items refl refl (omega arith))
        (λ _ n. absurd (let z : ◌≡◌ {A = ℕ} 0 1 = cc in omega arith)))

-- that of an Interest's value
pub interest_finds : (v : List ℕ) → is_malformed (walked interest v).said ≡ false → missing (val (walked interest v) 1) ≡ false
    → name_in v ≡ bytes_in (val (walked interest v) 1)
interest_finds v = name_agrees interest interest_naming v

-- that of a Data's value
pub data_finds : (v : List ℕ) → is_malformed (walked dat v).said ≡ false → missing (val (walked dat v) 1) ≡ false → name_in v ≡ bytes_in (val (walked dat v) 1)
data_finds v = name_agrees dat data_naming v

-- the Name of a packet of one element is that in its value
pub name_of_lem : (l : List ℕ) {t : ℕ} {v r : List ℕ} → element l ≡ elem t v r → name_of l ≡ name_in v
unfolding name_of
name_of_lem l e = rw e

-- the finder finds the Name of an Interest
interest_name : (m : Bool) (l : List ℕ) (f : Fields) → IsInterest m l f → name_of l ≡ bytes_in (val f 1)
interest_name m l f i =
    let w = i.fields in
    name_of_lem l i.is ∙ rw w (interest_finds i.value (rw w at i.asking.fine) (rw w at i.asking.name))

-- and that of a Data
data_name : (m : Bool) (l : List ℕ) (f : Fields) → IsData m l f → name_of l ≡ bytes_in (val f 1)
data_name m l f i =
    let w = i.fields in
    name_of_lem l i.is ∙ rw w (data_finds i.value (rw w at i.fine) (rw w at i.name))

module _ (k : Option ℕ) (m : Bool) (l : List ℕ) where
  -- the finder finds the Name of an Interest that is read
  pub asks_name : {f : Fields} → bare_read k m l ≡ asks f → name_of l ≡ bytes_in (val f 1)
  asks_name {f} e = interest_name m l f (asks_made k m l e).1

  -- that of an Interest that a Nack brings
  pub nacks_name : {n : ℕ} {f : Fields} → bare_read k m l ≡ nacks n f → name_of l ≡ bytes_in (val f 1)
  nacks_name {n} {f} e = interest_name m l f (nacks_made k m l e).1

  -- and that of a Data
  pub brings_name_lem : {f g : Fields} → bare_read k m l ≡ brings f g → name_of l ≡ bytes_in (val f 1)
  brings_name_lem {f} {g} e = data_name m l f (brings_made k m l e).1
