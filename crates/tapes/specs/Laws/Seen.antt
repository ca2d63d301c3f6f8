-- What is seen of the event that the reader finds at a place is the event that the tape has there.
-- Assumes nothing.
use Rattle.std.specs.Prelude.{ℕ, ◌-◌, ◌≡◌, Bool, true, false, List, [], length, drop, ltb, eqb, None, Option, Some, Result, Ok}
use Rattle.std.proofs.Math.Path.{refl}
use Rattle.std.proofs.Common.{ap, ◌∙◌, length-drop, arith}
use Rattle.std.proofs.Math.Seq.{drop-drop}
use borrow.Author.Tests.{le-ltb}
use Rattle.laws.specs.Pick.{pick}
use Rattle.laws.specs.Laws.Pick.{pick_ap, pick_yes}
use Rattle.tape.specs.Number.{Groups, cut, groups, sevens, regular, number_in, tape_number_at}
use Rattle.tape.specs.Laws.Number.{number_is}
use Rattle.tapes.specs.declared.Kind.{Kind}
use Rattle.tapes.specs.declared.Kind.TheVariants.{Packet, Clock, OpenFace, CloseFace, SetRoute, DropRoute, AddHop, DropHop}
use Rattle.tapes.specs.declared.Taken.{Taken}
use Rattle.tapes.specs.declared.UnknownKind.{UnknownKind}
use Rattle.tapes.specs.Tape.{Reading, unreadable, event, onward, reads, takes, counted, of_kind, event_at}
use Rattle.tapes.specs.Tape.{arrival, ticking, opening, closing, setting, dropping, adding, leaving}
use Rattle.tapes.specs.Seen.{what_of, seen}
use Rattle.tapes.specs.Places.Event.{has_face, has_first, has_second, has_bytes, kind_numbered, may_at, numbered, kinded}
use Rattle.tapes.specs.Places.Event.{end_at, bytes_at, second_at, first_at, face_at, time_at, kind_at, taken_at}

-- a number in its form or none, and what is made of it
form_seen : (s l : List ℕ) (v a : ℕ) (go : ℕ → ℕ → Option Taken) (on : ℕ → List ℕ → Reading) (b : Bool)
    → (b ≡ true → seen s (go v a) ≡ on v l)
    → seen s (numbered (pick b (Some (v, a)) None) go) ≡ pick b (on v l) unreadable
unfolding seen numbered pick
form_seen s l v a go on true h = h refl
form_seen s l v a go on false h = refl

-- a number at a place is the number at the front of what stands there, and the event goes on alike past it
pub reads_seen : (s : List ℕ) (at : ℕ) (go : ℕ → ℕ → Option Taken) (on : ℕ → List ℕ → Reading)
    → ((v n : ℕ) → seen s (go v n) ≡ on v (drop n s))
    → seen s (numbered (tape_number_at s at) go) ≡ reads (drop at s) on
unfolding reads tape_number_at number_in onward numbered seen
reads_seen s at go on same = at_groups (sevens (drop at s)) refl
  where
    at_groups : (g : Groups) → sevens (drop at s) ≡ g → seen s (numbered (number_in s g) go) ≡ onward g on
    at_groups cut q = refl
    at_groups (groups v n l) q =
        form_seen s l v (length s - length l) go on (regular v n)
        (λ f.
        let e : tape_number_at s at ≡ Some (v, (length s - length l)) = rw q (pick_yes _ _ _ f) in
        let k = (number_is s at v (length s - length l) e).same in
        let r : drop (length s - length l) s ≡ l = cc in
        same v (length s - length l) ∙ ap (on v) r)

module _ (s : List ℕ) (kind : Kind) (time face first second : ℕ) where
  -- what an event of these numbers is, with its bytes and what follows them
  abbrev made : List ℕ → List ℕ → Reading
  made p r = event time (what_of kind face first second p) r

  -- the bytes at a place are so many at the front of what stands there
  end_seen : (len at : ℕ) → seen s (end_at s kind time face first second len at) ≡ takes len (drop at s) made
  unfolding end_at takes seen
  end_seen len at = rw (length-drop at s, drop-drop len at s) (pick_ap (seen s) (ltb (length s - at) len) _ _)

  -- the length and the bytes at a place
  counted_seen : (at : ℕ) → has_bytes kind ≡ true → seen s (bytes_at s kind time face first second at) ≡ counted (drop at s) made
  unfolding bytes_at may_at pick counted
  counted_seen at h = rw h (reads_seen s at _ _ (λ v n. end_seen v n))

  -- no bytes
  plain_seen : (at : ℕ) → has_bytes kind ≡ false → seen s (bytes_at s kind time face first second at) ≡ made [] (drop at s)
  unfolding bytes_at may_at pick numbered takes
  plain_seen at h = rw h (end_seen 0 at ∙ rw (le-ltb (length (drop at s)) 0 (omega arith)))

module _ (s : List ℕ) (kind : Kind) (time face first : ℕ) where
  -- a second number
  second_seen : (at : ℕ) (on : ℕ → List ℕ → Reading) → has_second kind ≡ true
      → ((v n : ℕ) → seen s (bytes_at s kind time face first v n) ≡ on v (drop n s))
      → seen s (second_at s kind time face first at) ≡ reads (drop at s) on
  unfolding second_at may_at pick
  second_seen at on h go = rw h (reads_seen s at _ on go)

  -- no second number
  second_none : (at : ℕ) → has_second kind ≡ false → second_at s kind time face first at ≡ bytes_at s kind time face first 0 at
  unfolding second_at may_at pick numbered
  second_none at h = rw h

module _ (s : List ℕ) (kind : Kind) (time face : ℕ) where
  -- a first number
  first_seen : (at : ℕ) (on : ℕ → List ℕ → Reading) → has_first kind ≡ true
      → ((v n : ℕ) → seen s (second_at s kind time face v n) ≡ on v (drop n s))
      → seen s (first_at s kind time face at) ≡ reads (drop at s) on
  unfolding first_at may_at pick
  first_seen at on h go = rw h (reads_seen s at _ on go)

  -- no first number
  first_none : (at : ℕ) → has_first kind ≡ false → first_at s kind time face at ≡ second_at s kind time face 0 at
  unfolding first_at may_at pick numbered
  first_none at h = rw h

module _ (s : List ℕ) (kind : Kind) (time : ℕ) where
  -- a face
  face_seen : (at : ℕ) (on : ℕ → List ℕ → Reading) → has_face kind ≡ true
      → ((v n : ℕ) → seen s (first_at s kind time v n) ≡ on v (drop n s)) → seen s (face_at s kind time at) ≡ reads (drop at s) on
  unfolding face_at may_at pick
  face_seen at on h go = rw h (reads_seen s at _ on go)

  -- no face
  face_none : (at : ℕ) → has_face kind ≡ false → face_at s kind time at ≡ first_at s kind time 0 at
  unfolding face_at may_at pick numbered
  face_none at h = rw h

module _ (s : List ℕ) (kind : Kind) where
  -- an event of a kind begins with its time
  time_seen : (at : ℕ) (on : ℕ → List ℕ → Reading) → ((v n : ℕ) → seen s (face_at s kind v n) ≡ on v (drop n s))
      → seen s (time_at s kind at) ≡ reads (drop at s) on
  unfolding time_at
  time_seen at on go = reads_seen s at _ on go

module _ (s : List ℕ) (at : ℕ) where
  -- "1 time face length packet"
  arrival_seen : seen s (time_at s Packet at) ≡ arrival (drop at s)
  unfolding arrival what_of
  arrival_seen =
      time_seen s Packet at _
      (λ t a. face_seen s Packet t a _ refl
      (λ f b. rw (first_none s Packet t f b refl, second_none s Packet t f 0 b refl) (counted_seen s Packet t f 0 0 b refl)))

  -- "2 time"
  ticking_seen : seen s (time_at s Clock at) ≡ ticking (drop at s)
  unfolding ticking what_of
  ticking_seen =
      time_seen s Clock at _
      (λ t a. rw (face_none s Clock t a refl, first_none s Clock t 0 a refl, second_none s Clock t 0 0 a refl) (plain_seen s Clock t 0 0 0 a refl))

  -- "3 time face scope(0 local, 1 not) link(0, 1, 2 as above)"
  opening_seen : seen s (time_at s OpenFace at) ≡ opening (drop at s)
  unfolding opening what_of
  opening_seen =
      time_seen s OpenFace at _
      (λ t a. face_seen s OpenFace t a _ refl
      (λ f b. first_seen s OpenFace t f b _ refl
      (λ x c. second_seen s OpenFace t f x c _ refl (λ y d. plain_seen s OpenFace t f x y d refl))))

  -- "4 time face (close)"
  closing_seen : seen s (time_at s CloseFace at) ≡ closing (drop at s)
  unfolding closing what_of
  closing_seen =
      time_seen s CloseFace at _
      (λ t a. face_seen s CloseFace t a _ refl
      (λ f b. rw (first_none s CloseFace t f b refl, second_none s CloseFace t f 0 b refl) (plain_seen s CloseFace t f 0 0 b refl)))

  -- "5 time class length prefix"
  setting_seen : seen s (time_at s SetRoute at) ≡ setting (drop at s)
  unfolding setting what_of
  setting_seen =
      time_seen s SetRoute at _
      (λ t a. rw (face_none s SetRoute t a refl)
      (first_seen s SetRoute t 0 a _ refl (λ x b. rw (second_none s SetRoute t 0 x b refl) (counted_seen s SetRoute t 0 x 0 b refl))))

  -- "6 time length prefix (drop)"
  dropping_seen : seen s (time_at s DropRoute at) ≡ dropping (drop at s)
  unfolding dropping what_of
  dropping_seen =
      time_seen s DropRoute at _
      (λ t a. rw (face_none s DropRoute t a refl, first_none s DropRoute t 0 a refl, second_none s DropRoute t 0 0 a refl) (counted_seen s DropRoute t 0 0 0 a refl))

  -- "7 time face cost length prefix"
  adding_seen : seen s (time_at s AddHop at) ≡ adding (drop at s)
  unfolding adding what_of
  adding_seen =
      time_seen s AddHop at _
      (λ t a. face_seen s AddHop t a _ refl
      (λ f b. first_seen s AddHop t f b _ refl
      (λ x c. rw (second_none s AddHop t f x c refl) (counted_seen s AddHop t f x 0 c refl))))

  -- "8 time face length prefix (drop hop)"
  leaving_seen : seen s (time_at s DropHop at) ≡ leaving (drop at s)
  unfolding leaving what_of
  leaving_seen =
      time_seen s DropHop at _
      (λ t a. face_seen s DropHop t a _ refl
      (λ f b. rw (first_none s DropHop t f b refl, second_none s DropHop t f 0 b refl) (counted_seen s DropHop t f 0 0 b refl)))

-- a kind under its test, or another
kind_or : (s : List ℕ) (go : Kind → Option Taken) (kind : Kind) (other : Result Kind UnknownKind) (y z : Reading) (b : Bool)
    → seen s (go kind) ≡ y → seen s (kinded other go) ≡ z → seen s (kinded (pick b (Ok kind) other) go) ≡ pick b y z
unfolding kinded pick
kind_or s go kind other y z true f g = f
kind_or s go kind other y z false f g = g

-- an event of any kind, past the kind
kind_seen : (s : List ℕ) (k at : ℕ) → seen s (kind_at s k at) ≡ of_kind k (drop at s)
unfolding kind_at kind_numbered kinded seen of_kind
kind_seen s k at =
    or Packet 1 _ _ _ (arrival_seen s at)
    (or Clock 2 _ _ _ (ticking_seen s at)
    (or OpenFace 3 _ _ _ (opening_seen s at)
    (or CloseFace 4 _ _ _ (closing_seen s at)
    (or SetRoute 5 _ _ _ (setting_seen s at)
    (or DropRoute 6 _ _ _ (dropping_seen s at)
    (or AddHop 7 _ _ _ (adding_seen s at)
    (or DropHop 8 _ _ _ (leaving_seen s at) refl)))))))
  where
    or : (kind : Kind) (n : ℕ) (other : Result Kind UnknownKind) (y z : Reading) → seen s (time_at s kind at) ≡ y
        → seen s (kinded other (λ x. time_at s x at)) ≡ z
        → seen s (kinded (pick (eqb k n) (Ok kind) other) (λ x. time_at s x at)) ≡ pick (eqb k n) y z
    or kind n other y z f g = kind_or s (λ x. time_at s x at) kind other y z (eqb k n) f g

-- the event that the reader finds at a place is the one at the front of what stands there
pub event_seen : (s : List ℕ) (at : ℕ) → seen s (taken_at s at) ≡ event_at (drop at s)
unfolding taken_at event_at
event_seen s at = reads_seen s at _ _ (λ k a. kind_seen s k a)
