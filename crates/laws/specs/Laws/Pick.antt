-- A choice by a test, and what holds of it.
-- Assumes nothing.
use Rattle.std.specs.Prelude.{◌≡◌, refl, Bool, true, false}
use Rattle.laws.specs.Pick.{pick}

-- what holds of each choice under its test holds of the choice
pub pick_ind : {A : Type 0} (P : A → Type 0) (b : Bool) (x y : A) → (b ≡ true → P x) → (b ≡ false → P y) → P (pick b x y)
unfolding pick
pick_ind P true x y hx hy = hx refl
pick_ind P false x y hx hy = hy refl

-- a function of a choice is the choice of its values
pub pick_ap : {A B : Type 0} (f : A → B) (b : Bool) (x y : A) → f (pick b x y) ≡ pick b (f x) (f y)
unfolding pick
pick_ap f true x y = refl
pick_ap f false x y = refl

-- two choices by one test are equal where their arms are equal under it
pub pick_eq : {A : Type 0} (b : Bool) (x y u v : A) → (b ≡ true → x ≡ u) → (b ≡ false → y ≡ v) → pick b x y ≡ pick b u v
unfolding pick
pick_eq true x y u v hx hy = hx refl
pick_eq false x y u v hx hy = hy refl

-- the choice where the test is known to hold
pub pick_yes : {A : Type 0} (b : Bool) (x y : A) → b ≡ true → pick b x y ≡ x
unfolding pick
pick_yes b x y e = rw e

-- the choice where the test is known to fail
pub pick_no : {A : Type 0} (b : Bool) (x y : A) → b ≡ false → pick b x y ≡ y
unfolding pick
pick_no b x y e = rw e
