-- A row below the last is stored; past the last a store would change nothing.
use Rattle.std.proofs.Common.{refl, sym, arith}
use lib.Seq.{set_out}
use Rattle.happenings.proofs.note.Goals as goal

pub returns-then-at-lt-ROWS : goal.returns-then-at-lt-ROWS
returns-then-at-lt-ROWS c = record { rows = refl; made = λ l. refl; full = λ l. absurd (omega arith) }

pub returns-else-at-lt-ROWS : goal.returns-else-at-lt-ROWS
returns-else-at-lt-ROWS c =
    record { rows = sym (set_out _ _ _ (omega arith)); made = λ l. absurd (omega arith); full = λ l. omega arith }
