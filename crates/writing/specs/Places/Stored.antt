-- What a writer that has room leaves: bytes stored from a place on, and the place behind them.
-- Assumes nothing.
use Rattle.std.specs.Prelude.{ℕ, ◌+◌, ◌≤◌, ◌≡◌, List, length}
use Rattle.std.proofs.lemmas.List.Edits.{sets}

-- b has room for vs from `at` on
pub record Room (b : List ℕ) (at : ℕ) (vs : List ℕ) : Type 0 where
  pub fits : at + length vs ≤ length b

-- c is b after vs was stored in it from `at` on, and r is the place behind
pub record Stored (b : List ℕ) (at : ℕ) (vs c : List ℕ) (r : ℕ) : Type 0 where
  pub buffer : c ≡ sets b at vs
  pub next : r ≡ at + length vs
