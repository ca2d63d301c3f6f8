-- The parts of how an event begins, as the code has them.
-- Assumes nothing.
use Rattle.std.specs.Prelude.{ℕ, Bool, ◌||◌, Result, Ok, Err, ltb, eqb}
use Rattle.answers.specs.declared.Answer.{Answer}
use Rattle.answers.specs.Number.{number_of}
use Rattle.laws.specs.Pick.{pick}
use Rattle.sizes.specs.Sizes.{most_time}
use Rattle.event.specs.declared.Came.{Came}

-- the answer of checks 1, 2 and 3, in this order, where the last accepted time is `last`
unfoldable pub refusal : ℕ → ℕ → ℕ → Bool → ℕ → Answer
refusal least time room bad last =
    pick (ltb time last || ltb most_time time) Answer.Clock (pick (ltb room least) Answer.SmallBuffer (pick bad Answer.BadFace Answer.Done))

-- an answer as code passes it on: 0 allows, any other refuses
unfoldable pub allowed : Answer → Result (Unit {0}) Answer
allowed a = pick (eqb (number_of a) 0) (Ok tt) (Err a)

-- what an event comes to that only begins: refused, or aged with so many happenings
unfoldable pub began : Result ℕ Answer → Came
began (Ok made) = record { answer = Answer.Done; sent = 0; made = made }
began (Err a) = record { answer = a; sent = 0; made = 0 }

-- the answer that a result without a value gives
unfoldable pub answer_of : Result (Unit {0}) Answer → Answer
answer_of (Ok u) = Answer.Done
answer_of (Err a) = a
