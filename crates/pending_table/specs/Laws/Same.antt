-- What the contracts of the table leave open: nothing that the entries tell. Two outcomes, of one memory or of two with the same
-- entries, have the same answers, entries, places and marks.
-- Assumes nothing.
use Rattle.std.specs.Prelude.{ℕ, ◌<◌, ◌≡◌, Bool, List, length, ltb}
use Rattle.std.proofs.Common.{sym, refl, ◌∙◌}
use Rattle.laws.specs.Lists.{index_of}
use Rattle.records.specs.Class.{class_of}
use Rattle.records.specs.Slots.{given, at_place}
use Rattle.records.specs.Entry.{Entry, is_known}
use Rattle.pending_entry.specs.Operations.{bare_entry}
use Rattle.pending_table.specs.declared.Handle.{Handle}
use Rattle.pending_table.specs.declared.Chosen.{Chosen}
use Rattle.pending_table.specs.declared.Pending.{Pending}
use Rattle.pending_table.specs.Places.View.{place_of, Stands}
use Rattle.pending_table.specs.Places.Parts.{table}
use Rattle.pending_table.specs.Operations.{Finds, Opens, TakesOut}

-- two handles that are found are the same
pub found_one : {place : Handle → ℕ} {handle : ℕ → Handle} {i : ℕ} {x y : Handle} → Finds place handle i x → Finds place handle i y → x ≡ y
found_one p q = p.own ∙ sym q.own

module _ {e : Entry} {before : List Entry} {was : Handle → ℕ} {marked : Chosen → List Bool} where
  -- two outcomes of opening an entry
  pub opened_one : {x y : Handle} {after other : List Entry} {stands moved : Handle → ℕ} {marks signs : Chosen → List Bool}
      → Opens x e before after was stands marked marks → Opens y e before other was moved marked signs
      → (ltb (stands x) (length after) ≡ ltb (moved y) (length other)) × (after ≡ other) × (stands x ≡ moved y)
      × ((h : Handle) → was h < length before → stands h ≡ moved h)
  opened_one p q =
      (p.said ∙ sym q.said, p.left ∙ sym q.left, p.last ∙ sym q.last, λ h l. p.others h l ∙ sym (q.others h l))

-- two outcomes of taking an entry out
pub taken_one : {h : Handle} {before after other : List Entry} {was stands moved : Handle → ℕ} {marked marks signs : Chosen → List Bool}
    → TakesOut h before after was stands marked marks → TakesOut h before other was moved marked signs
    → (after ≡ other) × ((g : Handle) → stands g ≡ moved g) × ((c : Chosen) → marks c ≡ signs c)
taken_one p q =
    let e = p.left ∙ sym q.left in
    (e, λ g. p.others g ∙ rw e (sym (q.others g)), λ c. p.chosen c ∙ sym (q.chosen c))

-- a function of two
pub ap2 : {A B C : Type 0} (f : A → B → C) {x y : A} {u v : B} → x ≡ y → u ≡ v → f x u ≡ f y v
ap2 f e q = rw (e, q)

-- what is said of the entry at a place is told by the place and the entries
pub said_same : {B : Type 0} (d : B) (g : Entry → B) {i j : ℕ} {v w : List Entry} → i ≡ j → v ≡ w
    → given d g (at_place i v) ≡ given d g (at_place j w)
said_same d g e q = rw (e, q)

-- and so is a search
pub known_same : {name other : List ℕ} {p q m k : Bool} {v w : List Entry} → name ≡ other → p ≡ q → m ≡ k → v ≡ w
    → index_of (is_known name p m) v ≡ index_of (is_known other q k) w
known_same a b c d = rw (a, b, c, d)

-- what is found in two memories stands at the same place
pub found_same : {place place' : Handle → ℕ} {handle handle' : ℕ → Handle} {i j : ℕ} {x y : Handle} → i ≡ j → Finds place handle i x
    → Finds place' handle' j y → place x ≡ place' y
found_same e p q = p.at ∙ e ∙ sym q.at

-- an entry without records, by what it is made of
pub bare_same : (n : ℕ) {name other : List ℕ} {p q m k : Bool} {c d : ℕ} → name ≡ other → p ≡ q → m ≡ k → c ≡ d
    → bare_entry n name p m (class_of c) ≡ bare_entry n other q k (class_of d)
bare_same n a b c d = rw (a, b, c, d)

-- two outcomes of opening the same entry in two memories
pub opened_same : {x y : Handle} {e e' : Entry} {before before' after after' : List Entry} {was was' stands stands' : Handle → ℕ}
    {marked marked' marks marks' : Chosen → List Bool} → e ≡ e' → before ≡ before' → Opens x e before after was stands marked marks
    → Opens y e' before' after' was' stands' marked' marks'
    → (ltb (stands x) (length after) ≡ ltb (stands' y) (length after')) × (after ≡ after') × (stands x ≡ stands' y)
opened_same a b p q =
    (p.said ∙ rw (a, b) (sym q.said), p.left ∙ rw (a, b) (sym q.left), p.last ∙ rw b (sym q.last))

-- two outcomes of taking the entry at one place out of two memories
pub taken_same : {h h' : Handle} {before before' after after' : List Entry} {was was' stands stands' : Handle → ℕ}
    {marked marked' marks marks' : Chosen → List Bool} → was h ≡ was' h' → before ≡ before'
    → TakesOut h before after was stands marked marks
    → TakesOut h' before' after' was' stands' marked' marks' → after ≡ after'
taken_same a b p q = p.left ∙ rw (a, b) (sym q.left)

-- two tables whose handles and choices stand for the same entries as those of one
pub stands_one : {p q r : Pending} → Stands p q → Stands p r → Stands q r
stands_one a b = record {
  places = λ h. b.places h ∙ sym (a.places h);
  handles = λ i. b.handles i ∙ sym (a.handles i);
  choices = λ c. b.choices c ∙ sym (a.choices c);
  rows = λ h. b.rows h ∙ sym (a.rows h);
}

-- two tables with the same numbers and the same used rows
pub stands_parts : (n m hs gs : List (List ℕ)) (u v : List (List (List ℕ))) (k : List ℕ) (s : ℕ)
    → Stands (table n hs u k s) (table m gs v k s)
stands_parts n m hs gs u v k s = record {
  places = λ h. refl;
  handles = λ i. refl;
  choices = λ c. refl;
  rows = λ h. refl;
}

-- two tables changed in the entries alone, and two handles that stood at one place
pub stands_alike : {p q p' q' : Pending} (h h' : Handle) → place_of p h ≡ place_of p' h' → Stands p q → Stands p' q'
    → place_of q h ≡ place_of q' h'
stands_alike h h' e a b = a.places h ∙ e ∙ sym (b.places h')
