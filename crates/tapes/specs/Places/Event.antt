-- What the reader of an event answers: its numbers, and where its bytes stand.
-- Assumes nothing.
use Rattle.std.specs.Prelude.{ℕ, ◌+◌, ◌-◌, Bool, true, false, List, length, ltb, eqb, None, Option, Some, Result, Ok, Err}
use Rattle.laws.specs.Pick.{pick}
use Rattle.tape.specs.Number.{tape_number_at}
use Rattle.tapes.specs.declared.Kind.{Kind}
use Rattle.tapes.specs.declared.Kind.TheVariants.{Packet, Clock, OpenFace, CloseFace, SetRoute, DropRoute, AddHop, DropHop}
use Rattle.tapes.specs.declared.Taken.{Taken}
use Rattle.tapes.specs.declared.UnknownKind.{UnknownKind}

-- the kind that has a number, if one has
unfoldable pub kind_numbered : ℕ → Result Kind UnknownKind
kind_numbered n =
    pick (eqb n 1) (Ok Packet)
    (pick (eqb n 2) (Ok Clock)
    (pick (eqb n 3) (Ok OpenFace)
    (pick (eqb n 4) (Ok CloseFace)
    (pick (eqb n 5) (Ok SetRoute)
    (pick (eqb n 6) (Ok DropRoute)
    (pick (eqb n 7) (Ok AddHop)
    (pick (eqb n 8) (Ok DropHop) (Err (record { 0 = n })))))))))

-- whether a kind of event names a face
abbrev pub has_face : Kind → Bool
has_face Packet = true
has_face Clock = false
has_face OpenFace = true
has_face CloseFace = true
has_face SetRoute = false
has_face DropRoute = false
has_face AddHop = true
has_face DropHop = true

-- whether it has a number after that: scope, class or cost
abbrev pub has_first : Kind → Bool
has_first Packet = false
has_first Clock = false
has_first OpenFace = true
has_first CloseFace = false
has_first SetRoute = true
has_first DropRoute = false
has_first AddHop = true
has_first DropHop = false

-- whether it has a second: the link
abbrev pub has_second : Kind → Bool
has_second Packet = false
has_second Clock = false
has_second OpenFace = true
has_second CloseFace = false
has_second SetRoute = false
has_second DropRoute = false
has_second AddHop = false
has_second DropHop = false

-- whether it ends in bytes after their length
abbrev pub has_bytes : Kind → Bool
has_bytes Packet = true
has_bytes Clock = false
has_bytes OpenFace = false
has_bytes CloseFace = false
has_bytes SetRoute = true
has_bytes DropRoute = true
has_bytes AddHop = true
has_bytes DropHop = true

-- a number at a place, if there is to be one, else 0 there
unfoldable pub may_at : List ℕ → Bool → ℕ → Option (ℕ × ℕ)
may_at s b at = pick b (tape_number_at s at) (Some (0, at))

-- what is made of a number and of the place past it
unfoldable pub numbered : Option (ℕ × ℕ) → (ℕ → ℕ → Option Taken) → Option Taken
numbered None go = None
numbered (Some (v, n)) go = go v n

module _ (s : List ℕ) (kind : Kind) (time : ℕ) where
  -- the event whose len bytes stand at a place, if the tape has them
  unfoldable pub end_at : ℕ → ℕ → ℕ → ℕ → ℕ → Option Taken
  end_at face first second len at =
      pick (ltb (length s - at) len) None
      (Some
      (record {
        kind = kind;
        time = time;
        face = face;
        first = first;
        second = second;
        from = at;
        len = len;
        next = at + len;
      }))

  -- past its numbers
  unfoldable pub bytes_at : ℕ → ℕ → ℕ → ℕ → Option Taken
  bytes_at face first second at = numbered (may_at s (has_bytes kind) at) (λ len a. end_at face first second len a)

  -- past its first number
  unfoldable pub second_at : ℕ → ℕ → ℕ → Option Taken
  second_at face first at = numbered (may_at s (has_second kind) at) (λ second a. bytes_at face first second a)

  -- past its face
  unfoldable pub first_at : ℕ → ℕ → Option Taken
  first_at face at = numbered (may_at s (has_first kind) at) (λ first a. second_at face first a)

  -- past its time
  unfoldable pub face_at : ℕ → Option Taken
  face_at at = numbered (may_at s (has_face kind) at) (λ face a. first_at face a)

-- past its kind
unfoldable pub time_at : List ℕ → Kind → ℕ → Option Taken
time_at s kind at = numbered (tape_number_at s at) (λ time a. face_at s kind time a)

-- what is made of a kind that a number may have
unfoldable pub kinded : Result Kind UnknownKind → (Kind → Option Taken) → Option Taken
kinded (Err e) go = None
kinded (Ok kind) go = go kind

-- past the number of its kind, which is 1 to 8
unfoldable pub kind_at : List ℕ → ℕ → ℕ → Option Taken
kind_at s number at = kinded (kind_numbered number) (λ kind. time_at s kind at)

-- the event at a place
unfoldable pub taken_at : List ℕ → ℕ → Option Taken
taken_at s at = numbered (tape_number_at s at) (λ number a. kind_at s number a)
