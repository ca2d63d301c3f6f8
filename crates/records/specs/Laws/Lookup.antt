-- What a lookup in the store takes: a Data that stands there at the place it says, and that passes the test.
-- Assumes nothing.
use Rattle.std.specs.Prelude.{ℕ, suc, ◌-◌, ◌≤◌, ◌≡◌, Bool, true, List, [], ◌∷◌}
use Rattle.std.proofs.Math.Option.{Option, none, some}
use Rattle.std.proofs.Common.{arith}
use Rattle.laws.specs.Laws.Pick.{pick_ind}
use Rattle.records.specs.Slots.{at_place}
use Rattle.records.specs.Stored.{Stored, serves, Hit, earlier, lookup_from, lookup}

-- h stands in ds, whose first place is i, and passes the test p
record Found (p : Stored → Bool) (i : ℕ) (ds : List Stored) (h : Hit) : Type 0 where
  pub low : i ≤ h.place
  pub there : at_place (h.place - i) ds ≡ some h.what
  pub passes : p h.what ≡ true

-- what is found at the first place
found_first : (p : Stored → Bool) (i : ℕ) (d : Stored) (ds : List Stored) → p d ≡ true → Found p i (d ∷ ds) (record { place = i; what = d })
unfolding at_place
found_first p i d ds y = let z : i - i ≡ 0 = omega arith in record { low = omega arith; there = rw z; passes = y }

-- what is found further on
found_later : (p : Stored → Bool) (i : ℕ) (d : Stored) (ds : List Stored) (h : Hit) → Found p (suc i) ds h → Found p i (d ∷ ds) h
unfolding at_place
found_later p i d ds h f =
    let q : h.place - i ≡ suc (h.place - suc i) = omega (arith, f.low) in
    record { low = omega (arith, f.low); there = rw q f.there; passes = f.passes }

-- every hit that an option holds is found in ds
abbrev AllFound : (Stored → Bool) → ℕ → List Stored → Option Hit → Type 0
AllFound p i ds o = (h : Hit) → o ≡ some h → Found p i ds h

-- the earlier of two that are found in ds is found there
found_earlier : (p : Stored → Bool) (i : ℕ) (ds : List Stored) (g : Hit) (o : Option Hit) → Found p i ds g → AllFound p i ds o
    → AllFound p i ds (earlier g o)
unfolding earlier
found_earlier p i ds g none a b = λ h e. let q : g ≡ h = cc in rw (← q) a
found_earlier p i ds g (some k) a b =
    pick_ind (AllFound p i ds) _ (some k) (some g) (λ _. b) (λ _ h e. let q : g ≡ h = cc in rw (← q) a)

-- what a lookup takes from a place on
lookup_found : (p : Stored → Bool) (i : ℕ) (ds : List Stored) → AllFound p i ds (lookup_from p i ds)
unfolding lookup_from
lookup_found p i [] = λ h e. absurd (let z : ◌≡◌ {A = ℕ} 0 1 = cc in omega arith)
lookup_found p i (d ∷ ds) =
    let later : AllFound p i (d ∷ ds) (lookup_from p (suc i) ds) = (λ h e. found_later p i d ds h (lookup_found p (suc i) ds h e)) in
    pick_ind (AllFound p i (d ∷ ds)) (p d) _ _
    (λ y. found_earlier p i (d ∷ ds) (record { place = i; what = d }) (lookup_from p (suc i) ds) (found_first p i d ds y) later)
    (λ _. later)

-- a lookup takes a Data of the store that serves the Interest, from the place that it says
pub lookup_takes : (now : ℕ) (name : List ℕ) (p m : Bool) (ds : List Stored) (h : Hit) → lookup now name p m ds ≡ some h
    → (at_place h.place ds ≡ some h.what) × (serves now name p m h.what ≡ true)
unfolding lookup
lookup_takes now name p m ds h e =
    let f = lookup_found (serves now name p m) 0 ds h e in
    let q : h.place - 0 ≡ h.place = omega arith in
    (rw q at f.there, f.passes)
