-- Two memories with the same entries, lines and rows give the same outcome of each pass.
-- Assumes nothing.
use Rattle.std.specs.Prelude.{ℕ, ◌≡◌, Bool, List}
use Rattle.std.proofs.Common.{sym, ◌∙◌}
use Rattle.names.specs.Fingerprint.{fingerprint}
use Rattle.records.specs.Entry.{Entry}
use Rattle.records.specs.Line.{Line}
use Rattle.happenings.specs.Noted.{most_rows}
use Rattle.happenings.specs.Laws.Noted.{notes_one}
use Rattle.pending_pass.specs.Ages.{Ages}
use Rattle.pending_pass.specs.Satisfies.{Satisfies}
use Rattle.pending_pass.specs.Closes.{Closes}
use Rattle.pending_pass.specs.Places.Pass.{Leaves}

module _ {st st₂ now now₂ : ℕ} {es es₂ es' es₂' : List Entry} {ls ls₂ ls' ls₂' : List Line} {rs rs₂ rs' rs₂' : List (List ℕ)}
    {made' made₂' : ℕ} (start : st ≡ st₂) (time : now ≡ now₂) (entries : es ≡ es₂) (lines : ls ≡ ls₂) (rows : rs ≡ rs₂) where
  -- ageing
  pub ages_same : Ages (fingerprint st) now es ls rs es' ls' rs' made' → Ages (fingerprint st₂) now₂ es₂ ls₂ rs₂ es₂' ls₂' rs₂' made₂'
      → (es' ≡ es₂') × (ls' ≡ ls₂') × (made' ≡ made₂') × (rs' ≡ rs₂')
  ages_same p q =
      let o : Ages (fingerprint st₂) now₂ es₂ ls₂ rs₂ es' ls' rs' made' = rw (start, time, entries, lines, rows) at p in
      (o.entries ∙ sym q.entries, o.lines ∙ sym q.lines, o.noted ∙ sym q.noted, o.rows ∙ sym q.rows)

  module _ {made made₂ f f₂ : ℕ} (count : made ≡ made₂) (face : f ≡ f₂) where
    -- closing a face
    pub closes_same : Closes (fingerprint st) now f es ls rs made es' ls' rs' made'
        → Closes (fingerprint st₂) now₂ f₂ es₂ ls₂ rs₂ made₂ es₂' ls₂' rs₂' made₂'
        → (es' ≡ es₂') × (ls' ≡ ls₂') × (made' ≡ made₂') × (rs' ≡ rs₂')
    closes_same p q =
        let o : Closes (fingerprint st₂) now₂ f₂ es₂ ls₂ rs₂ made₂ es' ls' rs' made' =
        rw (start, time, entries, lines, rows, count, face) at p in
        let n = notes_one most_rows o.rows q.rows in
        (o.entries ∙ sym q.entries, o.lines ∙ sym q.lines, n.0, n.1)

    -- Data
    pub satisfies_same : {ad_hoc ad_hoc₂ : Bool} {name name₂ ws ws₂ : List ℕ} {copies copies₂ : ℕ} → ad_hoc ≡ ad_hoc₂ → name ≡ name₂
        → Satisfies (fingerprint st) now f ad_hoc name es ls rs made es' ls' rs' made' ws copies
        → Satisfies (fingerprint st₂) now₂ f₂ ad_hoc₂ name₂ es₂ ls₂ rs₂ made₂ es₂' ls₂' rs₂' made₂' ws₂ copies₂
        → (es' ≡ es₂') × (ls' ≡ ls₂') × (made' ≡ made₂') × (rs' ≡ rs₂') × (ws ≡ ws₂) × (copies ≡ copies₂)
    satisfies_same {ad_hoc} {ad_hoc₂} {name} {name₂} {ws} {ws₂} {copies} {copies₂} d m p q =
        let o : Satisfies (fingerprint st₂) now₂ f₂ ad_hoc₂ name₂ es₂ ls₂ rs₂ made₂ es' ls' rs' made' ws copies =
        rw (start, time, entries, lines, rows, count, face, d, m) at p in
        let n = notes_one most_rows o.rows q.rows in
        (o.entries ∙ sym q.entries, o.lines ∙ sym q.lines, n.0, n.1, o.classes ∙ sym q.classes, o.copies ∙ sym q.copies)

-- an entry without requests leaves, from tables where it stands at the same place and choices are the same
pub leaves_same : {C : Type 0} {st st₂ now now₂ k k₂ : ℕ} {e : Entry} {es es₂ es' es₂' : List Entry} {ms ms₂ ms' ms₂' : C → List Bool}
    {ls ls₂ ls' ls₂' : List Line} → st ≡ st₂ → now ≡ now₂ → k ≡ k₂ → es ≡ es₂ → ((c : C) → ms c ≡ ms₂ c) → ls ≡ ls₂
    → Leaves (fingerprint st) now k e es ms ls es' ms' ls' → Leaves (fingerprint st₂) now₂ k₂ e es₂ ms₂ ls₂ es₂' ms₂' ls₂'
    → (es' ≡ es₂') × ((c : C) → ms' c ≡ ms₂' c) × (ls' ≡ ls₂')
leaves_same start time at entries marks lines p q = (
  p.entries ∙ rw (at, entries) (sym q.entries),
  λ c. p.marks c ∙ rw (at, marks c) (sym (q.marks c)),
  p.lines ∙ rw (start, time, lines) (sym q.lines),
)
