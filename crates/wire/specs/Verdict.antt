-- What the grammar says of bytes: fine, malformed (5) or unsupported (6).
-- Assumes nothing.
use Rattle.std.specs.Prelude.{Bool, true, false}
use Rattle.wire.specs.declared.verdict.Verdict.{Verdict}

-- "bytes break the grammar"
abbrev pub is_malformed : Verdict → Bool
is_malformed Verdict.Fine = false
is_malformed Verdict.Malformed = true
is_malformed Verdict.Unsupported = false

-- "marked so"
abbrev pub is_unsupported : Verdict → Bool
is_unsupported Verdict.Fine = false
is_unsupported Verdict.Malformed = false
is_unsupported Verdict.Unsupported = true
