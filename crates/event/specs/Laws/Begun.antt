-- Every event begins as `begun` says, and goes on from there or is refused.
-- Assumes nothing.
use Rattle.std.specs.Prelude.{ℕ, suc, ◌≤◌, ◌≡◌, refl, Bool, true, false, ◌||◌, List, [], ◌≢◌}
use Rattle.std.proofs.Common.{sym, ap, ◌∙◌, append-nil, arith}
use Rattle.std.proofs.Math.Dec.{ltb}
use borrow.Author.Tests.{ltb-false}
use Rattle.answers.specs.declared.Answer.{Answer}
use Rattle.answers.specs.Number.{number_of}
use Rattle.laws.specs.Pick.{pick}
use Rattle.sizes.specs.Sizes.{most_time}
use Rattle.records.specs.Slots.{holds}
use Rattle.records.specs.Happening.{Happening}
use Rattle.rules.specs.Node.{Node, face_in, clock, Event}
use Rattle.rules.specs.Outcome.{Outcome, quiet}
use Rattle.rules.specs.Ageing.{aged, ageing}
use Rattle.rules.specs.Step.{what_step, bad_face, after_ageing, bad_time, step}
use Rattle.event.specs.Begun.{begun}
use Rattle.event.specs.Places.Begins.{refusal}

-- what an event s is by how it begins, x, and how it would go on: it is refused as it begins, or goes on from the node then, its
-- happenings after those; nothing is sent where it begins
pub record Begins (s : Outcome) (on : Node → Outcome) (x : Outcome) : Type 0 where
  pub refused : number_of x.answer ≢ 0 → s ≡ x
  pub goes : number_of x.answer ≡ 0 → s ≡ after_ageing x.happenings (on x.node)
  pub silent : x.sends ≡ []

-- so it is for any tests
tests_begin : (n m : Node) (hs : List Happening) (on : Node → Outcome) (a b c : Bool)
    → Begins
    (pick a (quiet Answer.Clock n) (pick b (quiet Answer.SmallBuffer n) (pick c (quiet Answer.BadFace n) (after_ageing hs (on m))))) on
    (pick a (quiet Answer.Clock n)
    (pick b (quiet Answer.SmallBuffer n) (pick c (quiet Answer.BadFace n) (after_ageing hs (quiet Answer.Done m)))))
unfolding pick quiet after_ageing
tests_begin n m hs on true b c = record { refused = λ _. refl; goes = λ e. absurd (omega arith); silent = refl }
tests_begin n m hs on false true c = record { refused = λ _. refl; goes = λ e. absurd (omega arith); silent = refl }
tests_begin n m hs on false false true = record { refused = λ _. refl; goes = λ e. absurd (omega arith); silent = refl }
tests_begin n m hs on false false false = record { refused = λ h. absurd (h refl); goes = λ _. rw (append-nil hs); silent = refl }

-- every event begins so
pub begins_by : (faces least : ℕ) (e : Event) (n : Node)
    → Begins (step faces least e n) (λ m. what_step faces e.time m e.what)
    (begun least e.time e.room (bad_face faces n e.what) n)
unfolding begun step
begins_by faces least e n =
    tests_begin n (aged e.time n) (ageing e.time n) (λ m. what_step faces e.time m e.what) (bad_time n e.time)
    (ltb e.room least) (bad_face faces n e.what)

-- the clock only begins
pub clock_begins : (faces least time room : ℕ) (n : Node)
    → step faces least (record { time = time; room = room; what = clock }) n ≡ begun least time room false n
unfolding begun step what_step bad_face face_in holds
clock_begins faces least time room n = refl

-- a number past 0 is not 0
not_zero : {k : ℕ} → suc k ≡ 0 → ⊥
not_zero e = absurd (omega arith)

-- by the answer of tests an event is refused or goes on
tests_answer : (n : Node) (x : Outcome) (a b c : Bool) (y : Answer)
    → y ≡ pick a Answer.Clock (pick b Answer.SmallBuffer (pick c Answer.BadFace Answer.Done))
    → (number_of y ≢ 0
    → pick a (quiet Answer.Clock n) (pick b (quiet Answer.SmallBuffer n) (pick c (quiet Answer.BadFace n) x)) ≡ quiet y n)
    × (number_of y ≡ 0 → pick a (quiet Answer.Clock n) (pick b (quiet Answer.SmallBuffer n) (pick c (quiet Answer.BadFace n) x)) ≡ x)
unfolding pick
tests_answer n x true b c y e = ((λ _. rw e), (λ d. absurd (not_zero (sym (ap number_of e) ∙ d))))
tests_answer n x false true c y e = ((λ _. rw e), (λ d. absurd (not_zero (sym (ap number_of e) ∙ d))))
tests_answer n x false false true y e = ((λ _. rw e), (λ d. absurd (not_zero (sym (ap number_of e) ∙ d))))
tests_answer n x false false false y e = ((λ d. absurd (d (ap number_of e))), (λ _. refl))

module _ (least time room : ℕ) (bad : Bool) (n : Node) (y : Answer) (e : y ≡ refusal least time room bad n.time) where
  -- an answer of checks 1, 2 and 3 that is not 0 is the event's, and the node is as it was
  pub begun_refused : number_of y ≢ 0 → begun least time room bad n ≡ quiet y n
  unfolding begun bad_time refusal
  begun_refused d = (tests_answer n _ (ltb time n.time || ltb most_time time) (ltb room least) bad y e).0 d

  -- where it is 0 the node is aged
  pub begun_aged : number_of y ≡ 0 → begun least time room bad n ≡ after_ageing (ageing time n) (quiet Answer.Done (aged time n))
  unfolding begun bad_time refusal
  begun_aged d = (tests_answer n _ (ltb time n.time || ltb most_time time) (ltb room least) bad y e).1 d

-- by tests an outcome with answer 0 has passed them all
tests_past : (n : Node) (x : Outcome) (a b c : Bool)
    → number_of (pick a (quiet Answer.Clock n) (pick b (quiet Answer.SmallBuffer n) (pick c (quiet Answer.BadFace n) x))).answer ≡ 0
    → (a ≡ false) × (b ≡ false) × (c ≡ false)
    × (pick a (quiet Answer.Clock n) (pick b (quiet Answer.SmallBuffer n) (pick c (quiet Answer.BadFace n) x)) ≡ x)
unfolding pick quiet
tests_past n x true b c e = absurd (omega arith)
tests_past n x false true c e = absurd (omega arith)
tests_past n x false false true e = absurd (omega arith)
tests_past n x false false false e = (refl, refl, refl, refl)

-- where neither of two tests holds, the second does not
neither : (a b : Bool) → a || b ≡ false → b ≡ false
neither true b e = let z : ◌≡◌ {A = ℕ} 0 1 = cc in absurd (omega arith)
neither false b e = e

module _ (least time room : ℕ) (bad : Bool) (n : Node) (e : number_of (begun least time room bad n).answer ≡ 0) where
  -- an event that goes on has a time that is not above 2^53
  pub begun_timely : time ≤ most_time
  unfolding begun bad_time
  begun_timely =
      ltb-false most_time time
      (neither (ltb time n.time) (ltb most_time time) (tests_past n _ (bad_time n time) (ltb room least) bad e).0)

  -- a buffer that is long enough
  pub begun_roomy : least ≤ room
  unfolding begun
  begun_roomy = ltb-false room least (tests_past n _ (bad_time n time) (ltb room least) bad e).1

  -- and a face that is not refused
  pub begun_face : bad ≡ false
  unfolding begun
  begun_face = (tests_past n _ (bad_time n time) (ltb room least) bad e).2

  -- it goes on from the aged node
  pub begun_on : begun least time room bad n ≡ after_ageing (ageing time n) (quiet Answer.Done (aged time n))
  unfolding begun
  begun_on = (tests_past n _ (bad_time n time) (ltb room least) bad e).3
