-- What a lookup in the store takes, as the element of the store at a place.
-- Assumes nothing.
use Rattle.std.specs.Prelude.{ℕ, zero, suc, ◌≡◌, refl, Bool, true, List, [], ◌∷◌}
use Rattle.std.proofs.Common.{◌∙◌}
use Rattle.std.proofs.Math.Option.{some}
use Rattle.std.proofs.Math.ListN.{get_elem?}
use Rattle.records.specs.Slots.{at_place}
use Rattle.records.specs.Stored.{Stored, serves, Hit, lookup}
use Rattle.records.specs.Laws.Lookup as records

-- the element at a place is the one that the library gives
pub element_at_lem : {A : Type 0} (i : ℕ) (l : List A) → get_elem? l i ≡ at_place i l
unfolding at_place
element_at_lem zero [] = refl
element_at_lem (suc i) [] = refl
element_at_lem zero (a ∷ l) = refl
element_at_lem (suc i) (a ∷ l) = element_at_lem i l

-- a lookup takes a Data of the store that serves the Interest, from the place that it says
pub lookup_takes : (now : ℕ) (name : List ℕ) (p m : Bool) (ds : List Stored) (h : Hit) → lookup now name p m ds ≡ some h
    → (get_elem? ds h.place ≡ some h.what) × (serves now name p m h.what ≡ true)
lookup_takes now name p m ds h e =
    let f = records.lookup_takes now name p m ds h e in (element_at_lem h.place ds ∙ f.0, f.1)
