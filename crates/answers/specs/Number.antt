-- Document 01, "Answer numbers": the number of each answer.
-- Assumes nothing.
use Rattle.std.specs.Prelude.{ℕ}
use Rattle.answers.specs.declared.Answer.{Answer}
use Rattle.answers.specs.declared.Answer.TheVariants.{Done, Clock, SmallBuffer, BadFace, TooLong, Malformed, Unsupported, HopLimit, Scope, Loop, NoRoute, NoRoom, Unsolicited, StaleNack, FaceOpen, BadSetting, TableFull}

-- "No": the number that the table gives
abbrev pub number_of : Answer → ℕ
number_of Done = 0
number_of Clock = 1
number_of SmallBuffer = 2
number_of BadFace = 3
number_of TooLong = 4
number_of Malformed = 5
number_of Unsupported = 6
number_of HopLimit = 7
number_of Scope = 8
number_of Loop = 9
number_of NoRoute = 10
number_of NoRoom = 11
number_of Unsolicited = 12
number_of StaleNack = 13
number_of FaceOpen = 14
number_of BadSetting = 15
number_of TableFull = 16
