-- A face as code gives it, or none.
-- Assumes nothing.
use Rattle.std.specs.Prelude.{ℕ, Some, None}
use Rattle.std.specs.declared.option.Option as code
use Rattle.std.proofs.Math.Option.{Option, none, some}

-- a face, if code gives one
unfoldable pub face_in : code.Option ℕ → Option ℕ
face_in None = none
face_in (Some f) = some f
