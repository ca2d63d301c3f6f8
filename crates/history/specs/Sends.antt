-- The sends of an event: by ascending face, and in the output buffer.
-- Assumes nothing.
use Rattle.std.specs.Prelude.{ℕ, ◌+◌, ◌≤◌, suc, max, ◌≡◌, List, [], ◌∷◌, length, take, drop, eqb}
use Rattle.answers.specs.declared.Answer.{Answer}
use Rattle.rules.specs.Outcome.{Kind, Send}
use Rattle.history.specs.Lists.{Some, Pairs}
use Rattle.rules.specs.Packed.{Placed, Packed}
use Rattle.records.specs.Slots.{only}

-- "Nack 100", "Nack 150, for an Interest", "Nack 50": the answers to an Interest that send a Nack, each with its reason
pub data NackedFor : Answer → ℕ → Type 0 where
  loop : NackedFor Answer.Loop 100
  no_route : NackedFor Answer.NoRoute 150
  no_room : NackedFor Answer.NoRoom 50

-- a packet of a kind leaves on a face, with these bytes
abbrev pub Leaves : ℕ → Kind → List ℕ → List Send → Type 0
Leaves f k bytes ss = Some (λ s. (s.face ≡ f) × ((s.kind ≡ k) × (s.bytes ≡ bytes))) ss

-- a send's place in a buffer: it names the send's face, kind and class, and the send's bytes stand there
pub record Stands (buffer : List ℕ) (s : Send) (p : Placed) : Type 0 where
  pub face : p.face ≡ s.face
  pub kind : p.kind ≡ s.kind
  pub cls : p.cls ≡ s.cls
  pub bytes : take p.len (drop p.from buffer) ≡ s.bytes

-- the faces of sends ascend strictly, from k on
pub data Rising : ℕ → List Send → Type 0 where
  done : {k : ℕ} → Rising k []
  next : {k : ℕ} {s : Send} {ss : List Send} → k ≤ s.face → Rising (suc s.face) ss → Rising k (s ∷ ss)

-- how many sends go to a face
unfoldable pub sent_to : ℕ → List Send → ℕ
sent_to f ss = length (only (λ (s : Send). eqb s.face f) ss)

-- a place ends before a limit
abbrev pub Before : ℕ → Placed → Type 0
Before room p = p.from + p.len ≤ room

-- where the last of what was written ends
unfoldable pub filled_to : List Placed → ℕ
filled_to [] = 0
filled_to (p ∷ ps) = max (p.from + p.len) (filled_to ps)

-- the buffer b, filled with sends, is x: each send's bytes stand at its place, the length is b's, and what lies behind the sends is b's
pub record Filled (ss : List Send) (b : List ℕ) (x : Packed) : Type 0 where
  pub stand : Pairs (Stands x.buffer) ss x.places
  pub size : length x.buffer ≡ length b
  pub within : filled_to x.places ≤ length b
  pub rest : drop (filled_to x.places) x.buffer ≡ drop (filled_to x.places) b
