-- What contracts that speak of sends leave open: nothing.
-- Assumes nothing.
use Rattle.std.specs.Prelude.{ℕ, ◌≡◌, List}
use Rattle.std.proofs.Common.{sym, ap, ◌∙◌}
use Rattle.rules.specs.Outcome.{Send}
use Rattle.sending.specs.declared.Sent.{Sent}
use Rattle.sending.specs.Rows.{Packs, Sheet}

-- two outcomes of the same sends are as many, and leave the same rows and the same buffer
pub packs_same : {ss : List Send} {k m : ℕ} {rows after after' : List (List ℕ)} {b left left' : List ℕ} → Packs ss k rows after b left
    → Packs ss m rows after' b left' → (k ≡ m) × (after ≡ after') × (left ≡ left')
packs_same p q = (p.sent ∙ sym q.sent, p.noted ∙ sym q.noted, p.buffer ∙ sym q.buffer)

-- two values that make the same sheet are the same, and so are the rows and the buffers
pub sheet_same : {x y : Sent} {rows rows' : List (List ℕ)} {b b' : List ℕ} {z : Sheet}
    → record { count = x.count; at = x.at; rows = rows; buffer = b } ≡ z
    → record { count = y.count; at = y.at; rows = rows'; buffer = b' } ≡ z → (x ≡ y) × (rows ≡ rows') × (b ≡ b')
sheet_same p q =
    let e = p ∙ sym q in (
      ap (λ (z : Sheet). record { count = z.count; at = z.at }) e,
      ap (λ (z : Sheet). z.rows) e,
      ap (λ (z : Sheet). z.buffer) e,
    )
