-- Where an event that is read lies: its bytes end it, inside the tape, two bytes at least past where it begins.
-- Assumes nothing.
use Rattle.std.specs.Prelude.{ℕ, ◌+◌, ◌-◌, ◌≤◌, ◌<◌, ◌≡◌, Bool, List, length, ltb, None, Option, Some, Result, Ok, Err}
use Rattle.std.proofs.Math.Path.{refl}
use Rattle.std.proofs.Math.Bool.{true, false}
use borrow.Author.Tests.{ltb-false}
use native.Mathlib.Omega.{arith}
use Rattle.laws.specs.Pick.{pick}
use Rattle.laws.specs.Laws.Pick.{pick_ind}
use Rattle.tape.specs.Number.{tape_number_at}
use Rattle.tape.specs.Laws.Number.{number_is}
use Rattle.tapes.specs.declared.Kind.{Kind}
use Rattle.tapes.specs.declared.Taken.{Taken}
use Rattle.tapes.specs.declared.UnknownKind.{UnknownKind}
use Rattle.tapes.specs.Places.Event.{has_face, has_first, has_second, has_bytes, kind_numbered, may_at, numbered, kinded}
use Rattle.tapes.specs.Places.Event.{end_at, bytes_at, second_at, first_at, face_at, time_at, kind_at, taken_at}

-- an event lies inside a tape of n bytes, its end at low or past it
pub record Inside (n low : ℕ) (e : Taken) : Type 0 where
  pub past : low ≤ e.next
  pub ends : e.from + e.len ≡ e.next
  pub inside : e.next ≤ n

-- so does any that is read
abbrev Lies : ℕ → ℕ → Option Taken → Type 0
Lies n low x = (e : Taken) → x ≡ Some e → Inside n low e

-- nothing is read
lies_bad : (n low : ℕ) → Lies n low None
lies_bad n low e q = let z : ◌≡◌ {A = ℕ} 0 1 = cc in absurd (omega arith)

module _ (s : List ℕ) (low : ℕ) where
  -- past a number that is there
  number_lies : (at : ℕ) (go : ℕ → ℕ → Option Taken) → ((v a : ℕ) → at < a → a ≤ length s → Lies (length s) low (go v a))
      → Lies (length s) low (numbered (tape_number_at s at) go)
  unfolding numbered
  number_lies at go h = at_number (tape_number_at s at) refl
    where
      at_number : (x : Option (ℕ × ℕ)) → tape_number_at s at ≡ x → Lies (length s) low (numbered x go)
      at_number None q = lies_bad (length s) low
      at_number (Some (v, a)) q = let k = number_is s at v a q in h v a k.early k.inside

  -- past a number that may be there
  may_lies : (b : Bool) (at : ℕ) (go : ℕ → ℕ → Option Taken) → at ≤ length s
      → ((v a : ℕ) → at ≤ a → a ≤ length s → Lies (length s) low (go v a)) → Lies (length s) low (numbered (may_at s b at) go)
  unfolding may_at pick numbered
  may_lies true at go i h = number_lies at go (λ v a e j. h v a (omega arith) j)
  may_lies false at go i h = h 0 at (omega arith) i

  module _ (kind : Kind) (time : ℕ) where
    -- the bytes at the end
    end_lies : (face first second len at : ℕ) → low ≤ at → at ≤ length s
        → Lies (length s) low (end_at s kind time face first second len at)
    unfolding end_at
    end_lies face first second len at f i =
        pick_ind (λ (x : Option Taken). Lies (length s) low x) (ltb (length s - at) len) _ _
        (λ _. lies_bad (length s) low)
        (λ h e q.
        let k = ltb-false (length s - at) len h in
        let a : at ≡ e.from = cc in
        let b : len ≡ e.len = cc in
        let c : at + len ≡ e.next = cc in
        record { past = omega arith; ends = rw (← a, ← b) c; inside = omega arith })

    -- past the numbers
    bytes_lies : (face first second at : ℕ) → low ≤ at → at ≤ length s → Lies (length s) low (bytes_at s kind time face first second at)
    unfolding bytes_at
    bytes_lies face first second at f i =
        may_lies (has_bytes kind) at _ i (λ v a g j. end_lies face first second v a (omega arith) j)

    -- past the first number
    second_lies : (face first at : ℕ) → low ≤ at → at ≤ length s → Lies (length s) low (second_at s kind time face first at)
    unfolding second_at
    second_lies face first at f i = may_lies (has_second kind) at _ i (λ v a g j. bytes_lies face first v a (omega arith) j)

    -- past the face
    first_lies : (face at : ℕ) → low ≤ at → at ≤ length s → Lies (length s) low (first_at s kind time face at)
    unfolding first_at
    first_lies face at f i = may_lies (has_first kind) at _ i (λ v a g j. second_lies face v a (omega arith) j)

    -- past the time
    face_lies : (at : ℕ) → low ≤ at → at ≤ length s → Lies (length s) low (face_at s kind time at)
    unfolding face_at
    face_lies at f i = may_lies (has_face kind) at _ i (λ v a g j. first_lies v a (omega arith) j)

  -- past the kind
  time_lies : (kind : Kind) (at : ℕ) → low ≤ 1 + at → Lies (length s) low (time_at s kind at)
  unfolding time_at
  time_lies kind at f = number_lies at _ (λ v a g j. face_lies kind v a (omega arith) j)

  -- past the kind's number
  kind_lies : (number at : ℕ) → low ≤ 1 + at → Lies (length s) low (kind_at s number at)
  unfolding kind_at kinded
  kind_lies number at f = at_kind (kind_numbered number)
    where
      at_kind : (r : Result Kind UnknownKind) → Lies (length s) low (kinded r (λ kind. time_at s kind at))
      at_kind (Err e) = lies_bad (length s) low
      at_kind (Ok kind) = time_lies kind at f

-- an event that is read lies inside the tape, and ends two bytes at least past where it begins
pub taken_inside : (s : List ℕ) (at : ℕ) (e : Taken) → taken_at s at ≡ Some e → Inside (length s) (2 + at) e
unfolding taken_at
taken_inside s at = number_lies s (2 + at) at _ (λ v a g j. kind_lies s (2 + at) v a (omega arith))
