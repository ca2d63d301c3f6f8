-- Lists of bytes.
-- Assumes nothing.
use Rattle.std.specs.Prelude.{ℕ, ◌<◌, List, get_or}

-- each element is a byte; past the end stands 0, which is one
abbrev pub Bytes : List ℕ → Type 0
Bytes l = (k : ℕ) → get_or l k 0 < 256
