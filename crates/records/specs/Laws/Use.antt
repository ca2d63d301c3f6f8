-- How many entries each class has: an entry more is one more for its class, and each entry counts once.
-- Assumes nothing.
use Rattle.std.specs.Prelude.{ℕ, ◌+◌, ◌≤◌, ◌≡◌, refl, Bool, not}
use Rattle.std.proofs.Common.{◌∙◌}
use Rattle.std.proofs.Math.Bool.{true, false}
use mathlib.Core.List.{List, [], ◌∷◌, ◌++◌}
use Rattle.std.proofs.Math.ListN.{length}
use native.Mathlib.Omega.{arith}
use Rattle.laws.specs.Pick.{pick}
use Rattle.records.specs.Class.{Class, alarm, monitoring, bulk, no_class, class_number, is_class, is_of}
use Rattle.records.specs.Slots.{only}
use Rattle.records.specs.Entry.{Entry, used_by, taken_by, room_taken}

module _ (p : Class → Bool) where
  -- an entry more is one more for what holds of its class
  used_more : (e : Entry) (es : List Entry) → used_by p (e ∷ es) ≡ used_by p es + pick (p e.cls) 1 0
  unfolding used_by only pick
  used_more e es = go (p e.cls) (only (λ x. p x.cls) es)
    where
      go : (b : Bool) (l : List Entry) → length (pick b (e ∷ l) l) ≡ length l + pick b 1 0
      go true l = omega arith
      go false l = omega arith

  -- at the end as well
  pub used_last : (e : Entry) (es : List Entry) → used_by p (es ++ (e ∷ [])) ≡ pick (p e.cls) (used_by p es + 1) (used_by p es)
  unfolding pick
  used_last e es = last es ∙ go (used_by p es) (p e.cls)
    where
      last : (l : List Entry) → used_by p (l ++ (e ∷ [])) ≡ used_by p l + pick (p e.cls) 1 0
      last [] = used_more e []
      last (a ∷ l) = omega (arith, used_more a (l ++ (e ∷ [])), used_more a l, last l)

      go : (k : ℕ) (b : Bool) → k + pick b 1 0 ≡ pick b (k + 1) k
      go k true = refl
      go k false = omega arith

-- whether it is none of the three
abbrev pub none_of : Class → Bool
none_of c = not (is_class c)

-- a class is one of the three, or none
class_one : (c : Class) → pick (is_of alarm c) 1 0 + pick (is_of monitoring c) 1 0 + pick (is_of bulk c) 1 0 + pick (none_of c) 1 0 ≡ 1
unfolding is_of is_class class_number pick
class_one alarm = refl
class_one monitoring = refl
class_one bulk = refl
class_one (no_class n) = refl

-- each entry has one of the three classes, or none
pub used_all : (es : List Entry)
    → used_by (is_of alarm) es + used_by (is_of monitoring) es + used_by (is_of bulk) es + used_by none_of es ≡ length es
unfolding used_by only
used_all [] = refl
used_all (e ∷ es) =
    omega (
      arith,
      used_more (is_of alarm) e es,
      used_more (is_of monitoring) e es,
      used_more (is_of bulk) e es,
      used_more none_of e es,
      class_one e.cls,
      used_all es,
    )

-- there are no more entries than the room that they take
pub entries_most : (es : List Entry) → length es ≤ room_taken es
unfolding room_taken taken_by
entries_most es = omega (arith, used_all es)
