-- What is asked again of a last time, a buffer, a packet and a name, as the code asks it.
-- Assumes nothing.
use Rattle.std.specs.Prelude.{ℕ, ◌≡◌, ◌≢◌, Result, Ok, Err}
use Rattle.std.proofs.Math.Path.{refl}
use Rattle.std.proofs.Common.{sym, ◌∙◌, ap}
use Rattle.answers.specs.declared.Answer.{Answer}
use Rattle.answers.specs.Number.{number_of}
use Rattle.rules.specs.Node.{Node}
use Rattle.rules.specs.Outcome.{Outcome}
use Rattle.event.specs.declared.Came.{Came}
use Rattle.event.specs.declared.Memory.{Memory}
use Rattle.event.specs.Memory.{Output, node_of}
use Rattle.event.specs.Places.Begins.{allowed}
use Rattle.event.specs.Laws.Allowed.{allowed_err, allowed_refuses, allowed_zero}
use Rattle.coming.specs.Goes.{Goes, guard_says, guarded}
use Rattle.coming.specs.Laws.Guard.{guard_time, guard_room, guard_packet, guard_name, guard_stops, guard_goes, guard_within}
use Rattle.coming.specs.Laws.Goes.{goes_by, goes_quiet}
use Rattle.opening.specs.Places.Asked.{came}
use Rattle.opening.specs.Places.Sized.{Sized}

-- where the guard has nothing against them, the code past it may rely on their sizes
pub sized_holds : (t room packet name : ℕ) (y : Answer) → y ≡ guard_says t room packet name → number_of y ≡ 0 → Sized t room packet name
sized_holds t room packet name y e z = record {
  timely = guard_time t room packet name y e z;
  roomy = guard_room t room packet name y e z;
  small = guard_packet t room packet name y e z;
  short = guard_name t room packet name y e z;
}

-- the same of what the guard passes on
pub sized_passed : (t room packet name : ℕ) (g : Result (Unit {0}) Answer) (u : Unit {0}) → g ≡ allowed (guard_says t room packet name)
    → g ≡ Ok u → Sized t room packet name
sized_passed t room packet name g u e q =
    sized_holds t room packet name (guard_says t room packet name) refl (allowed_zero _ u (sym e ∙ q))

module _ (m : Memory) (room packet name k : ℕ) (x : Outcome) where
  module _ (y : Answer) (ey : y ≡ guard_says m.time room packet name) where
    -- where nothing is against it the outcome goes on
    pub guard_on : (r : Came) (n : Node) (o o' : Output) → number_of y ≡ 0 → Goes k x r n o o'
        → Goes k (guarded room packet name (node_of m) x) r n o o'
    unfolding node_of
    guard_on r n o o' z h = goes_by k _ x r n o o' (guard_goes (node_of m) x room packet name y ey z) h

    -- else it is the guard's answer
    pub guard_off : (o : Output) → number_of y ≢ 0 → Goes k (guarded room packet name (node_of m) x) (came y 0 k) (node_of m) o o
    unfolding node_of
    guard_off o z =
        goes_by k _ _ _ _ o o (guard_stops (node_of m) x room packet name y ey z)
        (goes_quiet k y (came y 0 k) (node_of m) o refl refl refl)

  module _ (g : Result (Unit {0}) Answer) (eg : g ≡ allowed (guard_says m.time room packet name)) where
    -- where the guard passes the outcome goes on
    pub guard_passes : (u : Unit {0}) (r : Came) (n : Node) (o o' : Output) → g ≡ Ok u → Goes k x r n o o'
        → Goes k (guarded room packet name (node_of m) x) r n o o'
    guard_passes u r n o o' q h = guard_on (guard_says m.time room packet name) refl r n o o' (allowed_zero _ u (sym eg ∙ q)) h

    -- the answer that it refuses with is the outcome's
    pub guard_refuses : (a : Answer) (o : Output) → g ≡ Err a
        → Goes k (guarded room packet name (node_of m) x) (came a 0 k) (node_of m) o o
    guard_refuses a o q =
        let e : a ≡ guard_says m.time room packet name = allowed_err _ a (sym eg ∙ q) in
        guard_off a e o (λ z. allowed_refuses _ a (sym eg ∙ q) (ap number_of (sym e) ∙ z))

-- what is guarded goes on where all are within their sizes
pub guard_sized : (m : Memory) (room packet name k : ℕ) (x : Outcome) (r : Came) (n : Node) (o o' : Output)
    → Sized m.time room packet name → Goes k (guarded room packet name (node_of m) x) r n o o' → Goes k x r n o o'
unfolding node_of
guard_sized m room packet name k x r n o o' g h =
    goes_by k _ _ r n o o' (sym (guard_within (node_of m) x room packet name g.timely g.roomy g.small g.short)) h
