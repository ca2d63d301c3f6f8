-- "Sends are packed from the buffer's start in ascending face order; a Data is written once for all its faces. The rest of the buffer is
-- unchanged."
-- Assumes nothing.
use Rattle.std.specs.Prelude.{ℕ, ◌+◌, List, [], ◌∷◌, length}
use Rattle.std.proofs.Math.Option.{Option, none, some}
use Rattle.std.proofs.lemmas.List.Edits.{sets}
use Rattle.records.specs.Class.{Class}
use Rattle.rules.specs.Outcome.{Kind, interest, dat, nack, Send}

-- a send's place in the buffer
pub record Placed : Type 0 where
  pub face : ℕ
  pub kind : Kind
  pub cls : Class
  pub from : ℕ
  pub len : ℕ

-- the sends' places, and the buffer
pub record Packed : Type 0 where
  pub places : List Placed
  pub buffer : List ℕ

-- a send that stands at a place
abbrev place : Send → ℕ → Placed
place s at = record { face = s.face; kind = s.kind; cls = s.cls; from = at; len = length s.bytes }

-- a place before others
abbrev first : Placed → Packed → Packed
first p r = record { places = p ∷ r.places; buffer = r.buffer }

-- one more send: a Data that was written already stands where it was written, any other packet is written at the next place
unfoldable pub packs : Send → Kind → ℕ → Option ℕ → List ℕ → (ℕ → Option ℕ → List ℕ → Packed) → Packed
packs s interest at d b go = first (place s at) (go (at + length s.bytes) d (sets b at s.bytes))
packs s nack at d b go = first (place s at) (go (at + length s.bytes) d (sets b at s.bytes))
packs s dat at none b go = first (place s at) (go (at + length s.bytes) (some at) (sets b at s.bytes))
packs s dat at (some k) b go = first (place s k) (go at (some k) b)

-- sends from a place on, where the event's Data was written, or not yet
unfoldable pub packed_from : List Send → ℕ → Option ℕ → List ℕ → Packed
packed_from [] at d b = record { places = []; buffer = b }
packed_from (s ∷ ss) at d b = packs s s.kind at d b (packed_from ss)

-- an event's sends in the output buffer
unfoldable pub packed : List Send → List ℕ → Packed
packed ss b = packed_from ss 0 none b
