-- Equality by tests: of classes, and of the keys of happenings.
-- Assumes nothing.
use Rattle.std.specs.Prelude.{◌≡◌, refl, Bool, true, ◌&&◌, eqb}
use Rattle.std.proofs.Common.{ap, eqb-true, eq-eqb}
use Rattle.std.specs.Bool.{beq}
use Rattle.std.proofs.lemmas.Bool.{false≢true}
use Rattle.names.specs.Name.{same_bytes}
use Rattle.names.specs.Laws.Same.{both, same_equal, same_refl}
use Rattle.records.specs.Class.{Class, alarm, monitoring, bulk, no_class, class_number, is_class}
use Rattle.history.specs.Laws.Known.{flag_equal, flag_refl}
use Rattle.history.specs.Key.{key_of, like}
use Rattle.records.specs.Happening.{Happening}

-- whether two classes are the same
unfoldable pub same_class : Class → Class → Bool
same_class c d = beq (is_class c) (is_class d) && eqb (class_number c) (class_number d)

-- a class is the same as itself
pub class_refl : (c : Class) → same_class c c ≡ true
unfolding same_class
class_refl c = rw (flag_refl (is_class c), eq-eqb (class_number c) (class_number c) refl)

-- classes that are the same are equal
class_equal : (c d : Class) → same_class c d ≡ true → c ≡ d
unfolding same_class class_number is_class
class_equal alarm alarm h = refl
class_equal alarm monitoring h = absurd (false≢true h)
class_equal alarm bulk h = absurd (false≢true h)
class_equal alarm (no_class n) h = absurd (false≢true h)
class_equal monitoring alarm h = absurd (false≢true h)
class_equal monitoring monitoring h = refl
class_equal monitoring bulk h = absurd (false≢true h)
class_equal monitoring (no_class n) h = absurd (false≢true h)
class_equal bulk alarm h = absurd (false≢true h)
class_equal bulk monitoring h = absurd (false≢true h)
class_equal bulk bulk h = refl
class_equal bulk (no_class n) h = absurd (false≢true h)
class_equal (no_class n) alarm h = absurd (false≢true h)
class_equal (no_class n) monitoring h = absurd (false≢true h)
class_equal (no_class n) bulk h = absurd (false≢true h)
class_equal (no_class n) (no_class m) h = ap no_class (eqb-true n m h)

-- a happening has its own face, name and flags
pub like_refl : (h : Happening) → like h (key_of h) ≡ true
unfolding like key_of
like_refl h = rw (eq-eqb h.face h.face refl, same_refl h.name, flag_refl h.can_be_prefix, flag_refl h.must_be_fresh)

-- happenings of one face, name, flags and class have one key
pub like_equal : (h x : Happening) → like h (key_of x) ≡ true → same_class x.cls h.cls ≡ true → key_of x ≡ key_of h
unfolding like key_of
like_equal h x a b =
    let (f, k) = both (eqb x.face h.face) _ a in
    let (k', m) = both (same_bytes h.name x.name && beq h.can_be_prefix x.can_be_prefix) _ k in
    let (n, p) = both (same_bytes h.name x.name) _ k' in
    rw (
      eqb-true x.face h.face f,
      same_equal h.name x.name n,
      flag_equal h.can_be_prefix x.can_be_prefix p,
      flag_equal h.must_be_fresh x.must_be_fresh m,
      class_equal x.cls h.cls b,
    )
