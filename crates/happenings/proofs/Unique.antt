-- One outcome for each input of each public function: any two that its contract admits are equal, and leave the same rows.
-- Assumes nothing.
use mathlib.Core.Path.{◌≡◌, sym, ◌∙◌}
use contract.Lifetimes.{Lfts}
use denote.Triple.Clauses.{AtExit}
use borrow.Fn.Kinds.{Dens, ended_of, res_t}
use Rattle.happenings.specs.Noted.{most_rows}
use Rattle.happenings.specs.Laws.Noted.{notes_one}
use Rattle.happenings.proofs.U64FromFate.from.Kinds as number-kinds
use Rattle.happenings.proofs.U64FromFate.from.Reads as number-reads
use Rattle.happenings.proofs.note.Kinds as note-kinds
use Rattle.happenings.proofs.note.Reads as note-reads
use Rattle.happenings.proofs.note_fate.Kinds as fate-kinds
use Rattle.happenings.proofs.note_fate.Reads as fate-reads

-- the number of a fate
pub number_one : (κs : Lfts 0) (a : Dens κs number-kinds.ps) (x y : (res_t number-kinds.r κs).Denot)
    (s t : AtExit (ended_of 0 number-kinds.ps number-kinds.r) κs)
    → number-reads.Post κs a x s → number-reads.Post κs a y t → x ≡ y
number_one κs a x y s t p q = p ∙ sym q

-- a happening noted
pub note_fate_one : (κs : Lfts 1) (a : Dens κs fate-kinds.ps) (x y : (res_t fate-kinds.r κs).Denot)
    (s t : AtExit (ended_of 1 fate-kinds.ps fate-kinds.r) κs)
    → fate-reads.Post κs a x s → fate-reads.Post κs a y t → (x ≡ y) × (s.0.now ≡ t.0.now)
note_fate_one κs a x y s t p q = notes_one most_rows p q

-- a row noted with the word of a fate
pub note_one : (κs : Lfts 1) (a : Dens κs note-kinds.ps) (x y : (res_t note-kinds.r κs).Denot)
    (s t : AtExit (ended_of 1 note-kinds.ps note-kinds.r) κs)
    → note-reads.Post κs a x s → note-reads.Post κs a y t → (x ≡ y) × (s.0.now ≡ t.0.now)
note_one κs a x y s t p q = notes_one most_rows p q
