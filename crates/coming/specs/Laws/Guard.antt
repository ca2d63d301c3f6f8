-- What the guard's answer says: it is the outcome's, or the event goes on with a time, a buffer, a packet and a name of their sizes.
-- Assumes nothing.
use Rattle.std.specs.Prelude.{ℕ, ◌≤◌, ◌≡◌, refl, Bool, true, false, List, ◌≢◌, length, ltb}
use Rattle.std.proofs.Common.{sym, ◌∙◌, arith, ltb-false, le-ltb}
use Rattle.std.proofs.Math.Path.{ap}
use Rattle.answers.specs.declared.Answer.{Answer}
use Rattle.answers.specs.Number.{number_of}
use Rattle.laws.specs.Pick.{pick}
use Rattle.laws.specs.Laws.Pick.{pick_no}
use Rattle.sizes.specs.Sizes.{most_time, most_packet, most_name, least_buffer}
use Rattle.packethead.specs.Name.{name_of}
use Rattle.rules.specs.Node.{Node}
use Rattle.rules.specs.Outcome.{Outcome, quiet}
use Rattle.coming.specs.Goes.{guard_says, guarded}
use Rattle.coming.specs.Places.Guarded.{Guarded}

-- the answer of four tests
abbrev says : Bool → Bool → Bool → Bool → Answer
says a b c d = pick a Answer.Clock (pick b Answer.SmallBuffer (pick c Answer.TooLong (pick d Answer.TooLong Answer.Done)))

-- the outcome by them
abbrev stops : Node → Bool → Bool → Bool → Bool → Outcome → Outcome
stops n a b c d x =
    pick a (quiet Answer.Clock n)
    (pick b (quiet Answer.SmallBuffer n) (pick c (quiet Answer.TooLong n) (pick d (quiet Answer.TooLong n) x)))

-- the answer 0 says that none of them holds
tests_off : (a b c d : Bool) → number_of (says a b c d) ≡ 0 → (a ≡ false) × (b ≡ false) × (c ≡ false) × (d ≡ false)
unfolding pick
tests_off true b c d h = absurd (omega (arith, h))
tests_off false true c d h = absurd (omega (arith, h))
tests_off false false true d h = absurd (omega (arith, h))
tests_off false false false true h = absurd (omega (arith, h))
tests_off false false false false h = (refl, refl, refl, refl)

-- any other is the whole outcome
tests_on : (n : Node) (x : Outcome) (a b c d : Bool) → number_of (says a b c d) ≢ 0 → stops n a b c d x ≡ quiet (says a b c d) n
unfolding pick
tests_on n x true b c d h = refl
tests_on n x false true c d h = refl
tests_on n x false false true d h = refl
tests_on n x false false false true h = refl
tests_on n x false false false false h = absurd (h refl)

module _ (time room packet name : ℕ) (y : Answer) (e : y ≡ guard_says time room packet name) (d : number_of y ≡ 0) where
  -- none of the four tests holds
  all_off : (ltb most_time time ≡ false) × (ltb room least_buffer ≡ false) × (ltb most_packet packet ≡ false) × (ltb most_name name ≡ false)
  unfolding guard_says
  all_off = tests_off _ _ _ _ (ap number_of (sym e) ∙ d)

  -- the buffer is as long as an event asks for
  pub guard_room : least_buffer ≤ room
  guard_room = ltb-false room least_buffer all_off.1

  -- the packet is not over its size
  pub guard_packet : packet ≤ most_packet
  guard_packet = ltb-false most_packet packet all_off.2

  -- nor is the name
  pub guard_name : name ≤ most_name
  guard_name = ltb-false most_name name all_off.3

  -- nor is the last time
  pub guard_time : time ≤ most_time
  guard_time = ltb-false most_time time all_off.0

module _ (n : Node) (x : Outcome) (room packet name : ℕ) where
  module _ (y : Answer) (e : y ≡ guard_says n.time room packet name) where
    -- an answer that is not 0 is the outcome's, and the node is as it was
    pub guard_stops : number_of y ≢ 0 → guarded room packet name n x ≡ quiet y n
    unfolding guarded guard_says
    guard_stops d =
        tests_on n x (ltb most_time n.time) (ltb room least_buffer) (ltb most_packet packet) (ltb most_name name)
        (λ z. d (ap number_of e ∙ z))
        ∙ ap (λ (a : Answer). quiet a n) (sym e)

    -- where it is 0, the outcome is what follows
    pub guard_goes : number_of y ≡ 0 → guarded room packet name n x ≡ x
    unfolding guarded
    guard_goes d =
        let t = all_off n.time room packet name y e d in
        pick_no _ _ _ t.0 ∙ pick_no _ _ _ t.1 ∙ pick_no _ _ _ t.2 ∙ pick_no _ _ _ t.3

  -- so it is where all are within their sizes
  pub guard_within : n.time ≤ most_time → least_buffer ≤ room → packet ≤ most_packet → name ≤ most_name → guarded room packet name n x ≡ x
  unfolding guarded
  guard_within a b c d =
      pick_no _ _ _ (le-ltb _ _ a) ∙ pick_no _ _ _ (le-ltb _ _ b) ∙ pick_no _ _ _ (le-ltb _ _ c) ∙ pick_no _ _ _ (le-ltb _ _ d)

-- where the guard has nothing against a packet and its name, the code past it may rely on their sizes
pub guard_holds : (t room : ℕ) (bare name : List ℕ) → name ≡ name_of bare → (y : Answer)
    → y ≡ guard_says t room (length bare) (length name) → number_of y ≡ 0 → Guarded t room bare name
guard_holds t room bare name own y e d = record {
  timely = guard_time t room (length bare) (length name) y e d;
  roomy = guard_room t room (length bare) (length name) y e d;
  small = guard_packet t room (length bare) (length name) y e d;
  short = guard_name t room (length bare) (length name) y e d;
  own = own;
}
