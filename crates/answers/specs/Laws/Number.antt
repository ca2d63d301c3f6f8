-- No two answers have the same number.
-- Assumes nothing.
use Rattle.std.specs.Prelude.{ℕ, ◌≡◌, refl, List, [], ◌∷◌, get_or}
use Rattle.std.proofs.Common.{sym, ◌∙◌, ap}
use Rattle.answers.specs.declared.Answer.{Answer}
use Rattle.answers.specs.declared.Answer.TheVariants.{Done, Clock, SmallBuffer, BadFace, TooLong, Malformed, Unsupported, HopLimit, Scope, Loop, NoRoute, NoRoom, Unsolicited, StaleNack, FaceOpen, BadSetting, TableFull}
use Rattle.answers.specs.Number.{number_of}

-- the answers in the order of their numbers
all : List Answer
all = Done ∷ Clock ∷ SmallBuffer ∷ BadFace ∷ TooLong ∷ Malformed ∷ Unsupported ∷ HopLimit ∷ Scope ∷ Loop ∷ NoRoute ∷ NoRoom ∷ Unsolicited ∷ StaleNack ∷ FaceOpen ∷ BadSetting ∷ TableFull ∷ []

-- each answer stands in that order at its number
at_number : (a : Answer) → get_or all (number_of a) Done ≡ a
unfolding all
at_number Done = refl
at_number Clock = refl
at_number SmallBuffer = refl
at_number BadFace = refl
at_number TooLong = refl
at_number Malformed = refl
at_number Unsupported = refl
at_number HopLimit = refl
at_number Scope = refl
at_number Loop = refl
at_number NoRoute = refl
at_number NoRoom = refl
at_number Unsolicited = refl
at_number StaleNack = refl
at_number FaceOpen = refl
at_number BadSetting = refl
at_number TableFull = refl

-- no two answers have one number
pub number_distinct : (a b : Answer) → number_of a ≡ number_of b → a ≡ b
number_distinct a b e = sym (at_number a) ∙ ap (λ (n : ℕ). get_or all n Done) e ∙ at_number b
