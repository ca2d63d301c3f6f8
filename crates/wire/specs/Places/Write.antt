-- What a writer answers, and the buffer that it leaves.
-- Assumes nothing.
use Rattle.std.specs.Prelude.{ℕ, ◌+◌, List, length, leb, None, Option, Some}
use Rattle.std.proofs.lemmas.List.Edits.{sets}
use Rattle.laws.specs.Pick.{pick}

-- a writer's answer, and the buffer that it leaves
pub record Outcome : Type 0 where
  pub next : Option ℕ
  pub buffer : List ℕ

abbrev pub outcome : Option ℕ → List ℕ → Outcome
outcome r b = record { next = r; buffer = b }

-- bytes written from a place on, the rest of the buffer unchanged; where they do not fit, the buffer as it was
unfoldable pub wrote : List ℕ → ℕ → List ℕ → Outcome
wrote b at vs = pick (leb (at + length vs) (length b)) (outcome (Some (at + length vs)) (sets b at vs)) (outcome None b)
