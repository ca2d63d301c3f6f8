-- What is taken in is accounted for: an Interest that is answered 0 stands in the pending table, or was served.
-- Assumes nothing.
use Rattle.std.specs.Prelude.{ℕ, ◌+◌, ◌≡◌, List, ◌⊎◌}
use Rattle.std.proofs.Math.Option.{some}
use Rattle.answers.specs.declared.Answer.{Answer}
use Rattle.packets.specs.Meaning.{Ask, asks}
use Rattle.records.specs.Slots.{slot}
use Rattle.records.specs.Entry.{Entry, Request}
use Rattle.records.specs.Stored.{Stored}
use Rattle.rules.specs.Outcome.{interest, dat}
use Rattle.refusals.specs.Refusals.{Known, Serves}
use Rattle.history.specs.Lists.{In}
use Rattle.history.specs.Moments.{Moment, now, met, after, Arrives}
use Rattle.history.specs.Sends.{Leaves}

-- the request that an Interest makes at a time
abbrev pub request_at : ℕ → Ask → Request
request_at t i = record { nonce = i.nonce; expiry = t + i.lifetime }

-- the Interest's request stands in the pending table afterwards, as that of face f; and where no entry of it stood before, the Interest
-- left on some face
pub record Pending (m : Moment) (f : ℕ) (i : Ask) (bytes : List ℕ) : Type 0 where
  pub entry : Entry
  pub pending : In entry (after m).pending
  pub known : Known i entry
  pub held : slot f entry.requests ≡ some (request_at (now m) i)
  pub left : ((x : Entry) → In x (met m).pending → Known i x → ⊥) → (h : ℕ) × Leaves h interest bytes m.outcome.sends

-- the Interest is served: a stored Data that serves it leaves on face f
pub record Served (m : Moment) (f : ℕ) (i : Ask) : Type 0 where
  pub what : Stored
  pub stored : In what m.before.store
  pub serving : Serves (now m) i what
  pub leaves : Leaves f dat what.bytes m.outcome.sends

-- an Interest that is answered 0 stands in the table afterwards as that face's request, or is served from the store in that event
abbrev pub TakenIn : Moment → Type 0
TakenIn m =
    (f : ℕ) (i : Ask) (bytes : List ℕ) → Arrives m f (asks i bytes) → m.outcome.answer ≡ Answer.Done
    → Pending m f i bytes ⊎ Served m f i
