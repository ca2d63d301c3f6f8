-- A Data is read by itself to the same meaning: it may leave without the header that it came with.
-- Assumes nothing.
use Rattle.std.specs.Prelude.{ℕ, ◌≡◌, List}
use Rattle.std.proofs.Common.{sym, ◌∙◌}
use Rattle.packets.specs.Meaning.{Offer, brings, heard}
use Rattle.packets.specs.Laws.Shape.{header_data, brings_made, bare_short, heard_bare_lem}
use Rattle.packets.specs.Laws.Heard.{brings_holds}

-- a Data leaves as it came: by itself it brings what it brought in its header, and leaves once more as it is
pub data_back : (l : List ℕ) {d : Offer} {b : List ℕ} → heard l ≡ brings d b → heard b ≡ brings d b
data_back l {d} {b} e =
    let q = brings_holds l e in
    let x = q.part in
    let i = brings_made x.nack x.marked x.bytes q.reads in
    let h : heard x.bytes ≡ heard l =
    heard_bare_lem x.bytes (header_data x.bytes (bare_short l q.comes) i.1.is)
    ∙ rw (← i.0, ← i.1.unmarked) (sym (heard_bare_lem l q.comes)) in
    rw q.leaves at (h ∙ e)
