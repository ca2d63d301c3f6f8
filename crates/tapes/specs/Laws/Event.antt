-- The laws by which the reader of an event meets its definition.
-- Assumes nothing.
use Rattle.std.specs.Prelude.{ℕ, zero, suc, ◌+◌, ◌-◌, ◌≤◌, ◌<◌, ◌≡◌, ◌≢◌, Bool, List, length, None, Option, Some, Result, Ok, Err}
use Rattle.std.proofs.Common.{sym, ◌∙◌, ap, refl, arith}
use Rattle.std.specs.Result.{result_ok}
use borrow.Author.Tests.{lt-ltb, le-ltb}
use Rattle.laws.specs.Pick.{pick}
use Rattle.tape.specs.Number.{tape_number_at}
use Rattle.tapes.specs.declared.Kind.{Kind}
use Rattle.tapes.specs.declared.Kind.TheVariants.{Packet, Clock, OpenFace, CloseFace, SetRoute, DropRoute, AddHop, DropHop}
use Rattle.tapes.specs.declared.Taken.{Taken}
use Rattle.tapes.specs.declared.UnknownKind.{UnknownKind}
use Rattle.tapes.specs.Places.Event.{kind_numbered, may_at, numbered, end_at, face_at, time_at, kinded, kind_at}

module _ (n : Option (ℕ × ℕ)) (go : ℕ → ℕ → Option Taken) where
  -- no number, no event
  pub numbered_bad : n ≡ None → numbered n go ≡ None
  unfolding numbered
  numbered_bad e = rw e

  -- a number, and the event goes on past it
  pub numbered_is : (v a : ℕ) → n ≡ Some (v, a) → numbered n go ≡ go v a
  unfolding numbered
  numbered_is v a e = rw e

module _ (s : List ℕ) (at : ℕ) {b has : Bool} {r : Option (ℕ × ℕ)} (go : ℕ → ℕ → Option Taken) (k : b ≡ has) (m : r ≡ may_at s b at) where
  -- no number where there is to be one, no event
  pub may_bad : r ≡ None → numbered (may_at s has at) go ≡ None
  may_bad e = numbered_bad _ go (rw (← k) (sym m ∙ e))

  -- a number, or none that is to be there, and the event goes on
  pub may_is : {v a : ℕ} → r ≡ Some (v, a) → numbered (may_at s has at) go ≡ go v a
  may_is e = numbered_is _ go _ _ (rw (← k) (sym m ∙ e))

-- no kind, no event
pub kinded_bad : (r : Result Kind UnknownKind) (go : Kind → Option Taken) → result_ok r ≡ None → kinded r go ≡ None
unfolding kinded
kinded_bad (Ok k) go e = let z : ◌≡◌ {A = ℕ} 0 1 = cc in absurd (omega arith)
kinded_bad (Err x) go e = refl

-- a kind, and the event goes on past it
pub kinded_is : (r : Result Kind UnknownKind) (go : Kind → Option Taken) (kind : Kind) → result_ok r ≡ Some kind → kinded r go ≡ go kind
unfolding kinded
kinded_is (Ok k) go kind e = let q : k ≡ kind = cc in ap go q
kinded_is (Err x) go kind e = let z : ◌≡◌ {A = ℕ} 0 1 = cc in absurd (omega arith)

-- a number that is that of a kind
pub record HasKind (number : ℕ) : Type 0 where
  pub kind : Kind
  pub is : kind_numbered number ≡ Ok kind

-- 1 to 8 are
pub kind_few : (number : ℕ) → number ≢ 0 → number ≤ 8 → HasKind number
unfolding kind_numbered pick
kind_few zero some few = absurd (some refl)
kind_few (suc zero) some few = record { kind = Packet; is = refl }
kind_few (suc (suc zero)) some few = record { kind = Clock; is = refl }
kind_few (suc (suc (suc zero))) some few = record { kind = OpenFace; is = refl }
kind_few (suc (suc (suc (suc zero)))) some few = record { kind = CloseFace; is = refl }
kind_few (suc (suc (suc (suc (suc zero))))) some few = record { kind = SetRoute; is = refl }
kind_few (suc (suc (suc (suc (suc (suc zero)))))) some few = record { kind = DropRoute; is = refl }
kind_few (suc (suc (suc (suc (suc (suc (suc zero))))))) some few = record { kind = AddHop; is = refl }
kind_few (suc (suc (suc (suc (suc (suc (suc (suc zero)))))))) some few = record { kind = DropHop; is = refl }
kind_few (suc (suc (suc (suc (suc (suc (suc (suc (suc n))))))))) some few = absurd (omega (arith, few))

module _ (s : List ℕ) (number at : ℕ) (some : number ≢ 0) (few : number ≤ 8) where
  -- a kind of the eight without a time is no event
  pub kind_bad : tape_number_at s at ≡ None → kind_at s number at ≡ None
  unfolding kind_at kinded time_at
  kind_bad e = rw ((kind_few number some few).is) (numbered_bad _ _ e)

  -- with a time it goes on past it
  pub kind_is : {time a : ℕ} → tape_number_at s at ≡ Some (time, a) → kind_at s number at ≡ face_at s (kind_few number some few).kind time a
  unfolding kind_at kinded time_at
  kind_is e = rw ((kind_few number some few).is) (numbered_is _ _ _ _ e)

module _ (s : List ℕ) (kind : Kind) (time face first second len at : ℕ) where
  -- bytes that the tape has not, no event
  pub end_bad : length s - at < len → end_at s kind time face first second len at ≡ None
  unfolding end_at pick
  end_bad h = rw (lt-ltb (length s - at) len h)

  -- bytes that it has, and the event ends with them
  pub end_is : len ≤ length s - at
      → end_at s kind time face first second len at
      ≡ Some
      (record {
        kind = kind;
        time = time;
        face = face;
        first = first;
        second = second;
        from = at;
        len = len;
        next = at + len;
      })
  unfolding end_at pick
  end_is h = rw (le-ltb (length s - at) len h)
