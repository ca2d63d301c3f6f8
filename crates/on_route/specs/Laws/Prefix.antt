-- What a prefix is answered, by the code's tests; and a command by its prefix, which is refused so or goes on.
-- Assumes nothing.
use Rattle.std.specs.Prelude.{ℕ, ◌≤◌, ◌<◌, ◌≡◌, refl, Bool, true, false, List, ◌≢◌, length, ltb, Result, Ok, Err, IsErrAnd}
use Rattle.std.proofs.Common.{sym, ◌∙◌, arith}
use Rattle.std.proofs.Math.Path.{ap}
use borrow.Author.Tests.{lt-ltb, le-ltb, ltb-false}
use Rattle.answers.specs.declared.Answer.{Answer}
use Rattle.answers.specs.Number.{number_of}
use Rattle.laws.specs.Pick.{pick}
use Rattle.sizes.specs.Sizes.{most_name, most_components}
use Rattle.wire.specs.Verdict.{is_malformed, is_unsupported}
use Rattle.names.specs.declared.component.Counted.{Counted}
use Rattle.names.specs.Name.{counted}
use Rattle.rules.specs.Node.{Node}
use Rattle.rules.specs.Outcome.{Outcome, quiet}
use Rattle.rules.specs.Command.{by_prefix}
use Rattle.event.specs.Places.Begins.{allowed, answer_of}
use Rattle.event.specs.Laws.Allowed.{allowed_refuses, allowed_done, allowed_passes}
use Rattle.on_route.specs.Turns.{prefix_says}

module _ (p : List ℕ) (c : Counted) (e : c ≡ counted p) (m : Bool) (em : m ≡ is_malformed c.said) where
  -- the test for 5
  malformed_is : is_malformed (counted p).said ≡ m
  malformed_is = ap (λ (x : Counted). is_malformed x.said) (sym e) ∙ sym em

  -- 5
  pub says_malformed : m ≡ true → Err Answer.Malformed ≡ allowed (prefix_says p)
  unfolding prefix_says allowed pick
  says_malformed t = rw (malformed_is ∙ t)

  module _ (tm : m ≡ false) (u : Bool) (eu : u ≡ is_unsupported c.said) where
    -- the test for 6
    unsupported_is : is_unsupported (counted p).said ≡ u
    unsupported_is = ap (λ (x : Counted). is_unsupported x.said) (sym e) ∙ sym eu

    -- 6
    pub says_unsupported : u ≡ true → Err Answer.Unsupported ≡ allowed (prefix_says p)
    unfolding prefix_says allowed pick
    says_unsupported t = rw (malformed_is ∙ tm, unsupported_is ∙ t)

    module _ (tu : u ≡ false) where
      -- 4, by its bytes
      pub says_long : most_name < length p → Err Answer.TooLong ≡ allowed (prefix_says p)
      unfolding prefix_says allowed pick
      says_long h = rw (malformed_is ∙ tm, unsupported_is ∙ tu, lt-ltb most_name (length p) h)

      -- 4, by its components
      pub says_many : length p ≤ most_name → most_components < c.count → Err Answer.TooLong ≡ allowed (prefix_says p)
      unfolding prefix_says allowed pick
      says_many h k =
          let z : (counted p).count ≡ c.count = ap (λ (x : Counted). x.count) (sym e) in
          rw (malformed_is ∙ tm, unsupported_is ∙ tu, le-ltb most_name (length p) h, z, lt-ltb most_components c.count k)

      -- nothing against it
      pub says_done : length p ≤ most_name → c.count ≤ most_components → Ok tt ≡ allowed (prefix_says p)
      unfolding prefix_says allowed pick
      says_done h k =
          let z : (counted p).count ≡ c.count = ap (λ (x : Counted). x.count) (sym e) in
          rw (malformed_is ∙ tm, unsupported_is ∙ tu, le-ltb most_name (length p) h, z, le-ltb most_components c.count k)

-- by an answer of the tests other than 0 a command is refused
tests_refuse : (n : Node) (x : Outcome) (a b c d : Bool)
    → number_of (pick a Answer.Malformed (pick b Answer.Unsupported (pick c Answer.TooLong (pick d Answer.TooLong Answer.Done)))) ≢ 0
    → pick a (quiet Answer.Malformed n)
    (pick b (quiet Answer.Unsupported n) (pick c (quiet Answer.TooLong n) (pick d (quiet Answer.TooLong n) x)))
    ≡ quiet (pick a Answer.Malformed (pick b Answer.Unsupported (pick c Answer.TooLong (pick d Answer.TooLong Answer.Done)))) n
unfolding pick
tests_refuse n x true b c d h = refl
tests_refuse n x false true c d h = refl
tests_refuse n x false false true d h = refl
tests_refuse n x false false false true h = refl
tests_refuse n x false false false false h = absurd (h refl)

-- where they have nothing against it, it goes on, and the third test fails
tests_pass : (n : Node) (x : Outcome) (a b c d : Bool)
    → pick a Answer.Malformed (pick b Answer.Unsupported (pick c Answer.TooLong (pick d Answer.TooLong Answer.Done))) ≡ Answer.Done
    → (pick a (quiet Answer.Malformed n)
    (pick b (quiet Answer.Unsupported n) (pick c (quiet Answer.TooLong n) (pick d (quiet Answer.TooLong n) x)))
    ≡ x)
    × (c ≡ false)
unfolding pick
tests_pass n x true b c d h = absurd (omega (arith, ap number_of h))
tests_pass n x false true c d h = absurd (omega (arith, ap number_of h))
tests_pass n x false false true d h = absurd (omega (arith, ap number_of h))
tests_pass n x false false false true h = (absurd (omega (arith, ap number_of h)), refl)
tests_pass n x false false false false h = (refl, refl)

module _ (p : List ℕ) where
  -- a command is refused by its prefix
  pub prefix_refused : (n : Node) (x : Outcome) (y : Answer) → allowed (prefix_says p) ≡ Err y
      → by_prefix n p x ≡ quiet (prefix_says p) n
  unfolding by_prefix prefix_says
  prefix_refused n x y e =
      tests_refuse n x (is_malformed (counted p).said) (is_unsupported (counted p).said) (ltb most_name (length p))
      (ltb most_components (counted p).count) (allowed_refuses _ y e)

  -- and the refusal is what is answered
  pub prefix_answered : (r : Result (Unit {0}) Answer) (y : Answer) → IsErrAnd r (λ a. a ≡ y) → allowed (prefix_says p) ≡ Err y
      → answer_of r ≡ prefix_says p
  unfolding answer_of
  prefix_answered r y h e = rw (allowed_passes r _ y h e)

  module _ (u : Unit {0}) (e : allowed (prefix_says p) ≡ Ok u) where
    -- what the tests say where they allow it
    passes : (n : Node) (x : Outcome) → (by_prefix n p x ≡ x) × (ltb most_name (length p) ≡ false)
    unfolding by_prefix prefix_says
    passes n x =
        tests_pass n x (is_malformed (counted p).said) (is_unsupported (counted p).said) (ltb most_name (length p))
        (ltb most_components (counted p).count) (allowed_done _ u e)

    -- or goes on
    pub prefix_on : (n : Node) (x : Outcome) → by_prefix n p x ≡ x
    prefix_on n x = (passes n x).0

    -- and then the prefix fits a row
    pub prefix_fits : Node → length p ≤ most_name
    prefix_fits n = ltb-false most_name (length p) (passes n (quiet Answer.Done n)).1
