-- What must end, ends, and what need not, stays: after Data, after ageing, after the closing of a face, and after a Nack.
-- Assumes nothing.
use Rattle.std.specs.Prelude.{ℕ, ◌<◌, ◌≡◌, List, ◌⊎◌, ◌≢◌}
use Rattle.std.proofs.Math.Option.{none, some}
use Rattle.packets.specs.Meaning.{Ask, Offer, asks}
use Rattle.records.specs.Slots.{slot}
use Rattle.records.specs.Entry.{Request, Sent, Entry, reason_of}
use Rattle.records.specs.Happening.{Fate, answered, nacked, closed, self_met, happens}
use Rattle.refusals.specs.Refusals.{PointToPoint, Known, OutRecord}
use Rattle.history.specs.Lists.{All, Some, In}
use Rattle.history.specs.Moments.{Moment, now, met, after, Arrives}
use Rattle.history.specs.Ends.{EndedBy, OthersNacked}
use Rattle.history.specs.TakenIn.{request_at}

-- two entries are of one name and both flags
pub record SameName (x y : Entry) : Type 0 where
  pub name : y.name ≡ x.name
  pub prefix : y.can_be_prefix ≡ x.can_be_prefix
  pub fresh : y.must_be_fresh ≡ x.must_be_fresh

-- face g's request r of the entry x still stands in a table: an entry of its name, flags and class has it
abbrev pub Stays : List Entry → Entry → ℕ → Request → Type 0
Stays es x g r = Some (λ y. SameName x y × (y.cls ≡ x.cls) × (slot g y.requests ≡ some r)) es

-- no request of face g stands in an entry of the name and flags of x
abbrev pub Gone : List Entry → Entry → ℕ → Type 0
Gone es x g = All (λ y. SameName x y → slot g y.requests ≡ none) es

-- in this event face g's request r of the entry x came to an end
abbrev pub Ended : Moment → Fate → Entry → ℕ → Request → Type 0
Ended m y x g r = In (happens y (now m) x (record { face = g; what = r })) m.outcome.happenings

-- after a Data from face f: it is stored, now; no entry that it ends stands; each of its requests ended, as answered or self-met; every
-- other entry is as it was
pub record Satisfied (m : Moment) (f : ℕ) (d : Offer) (bytes : List ℕ) : Type 0 where
  pub stored : In (record { name = d.name; bytes = bytes; time = now m; freshness = d.freshness }) (after m).store
  pub gone : All (λ x. EndedBy f d x → ⊥) (after m).pending
  pub ended : (x : Entry) → In x (met m).pending → EndedBy f d x → (g : ℕ) (r : Request) → slot g x.requests ≡ some r
      → Ended m answered x g r ⊎ Ended m self_met x g r
  pub others : (x : Entry) → In x (met m).pending → (EndedBy f d x → ⊥) → In x (after m).pending

-- after ageing: each request that stands is live, or is the one that an Interest made in this event
abbrev pub Live : Moment → Type 0
Live m =
    All (λ x. (g : ℕ) (r : Request) → slot g x.requests ≡ some r
    → (now m < r.expiry)
    ⊎ ((i : Ask) × (bytes : List ℕ) × Arrives m g (asks i bytes) × Known i x × (r ≡ request_at (now m) i)))
    (after m).pending

-- after the closing of face f: nothing of it stands anywhere; each of its requests ended, as closed; every other request stands
pub record Closed (m : Moment) (f : ℕ) : Type 0 where
  pub face : slot f (after m).faces ≡ none
  pub requests : All (λ x. slot f x.requests ≡ none) (after m).pending
  pub outs : All (λ x. slot f x.sent ≡ none) (after m).pending
  pub hops : All (λ r. slot f r.hops ≡ none) (after m).routes
  pub ended : (x : Entry) → In x (met m).pending → (r : Request) → slot f x.requests ≡ some r → Ended m closed x f r
  pub others : (x : Entry) → In x (met m).pending → (g : ℕ) → g ≢ f → (r : Request) → slot g x.requests ≡ some r
      → Stays (after m).pending x g r

-- the entry x as a Nack for a cause from face f leaves it: its out-record of f has the Nack's reason, and no other changed
pub record Noted (x y : Entry) (f cause : ℕ) : Type 0 where
  pub out : Sent
  pub there : slot f y.sent ≡ some out
  pub reason : out.nacked ≡ some (reason_of cause)
  pub others : (g : ℕ) → g ≢ f → slot g y.sent ≡ slot g x.sent

-- after a Nack for a cause from face f: its entry had an out-record of f with its nonce, and has the reason noted. If all others were
-- Nacked, each point-to-point request of the entry ended, as Nacked, and none stands; each other one stands. Else every request stands.
-- Every other entry is as it was
pub record Nacked (m : Moment) (f cause : ℕ) (i : Ask) : Type 0 where
  pub entry : Entry
  pub stood : In entry (met m).pending
  pub known : Known i entry
  pub out : OutRecord entry f i.nonce
  pub ended : OthersNacked entry f → (g : ℕ) (r : Request) → slot g entry.requests ≡ some r → PointToPoint (met m) g
      → Ended m nacked entry g r × Gone (after m).pending entry g
  pub stays : OthersNacked entry f → (g : ℕ) (r : Request) → slot g entry.requests ≡ some r → (PointToPoint (met m) g → ⊥)
      → Stays (after m).pending entry g r
  pub waits : (OthersNacked entry f → ⊥) → (g : ℕ) (r : Request) → slot g entry.requests ≡ some r → Stays (after m).pending entry g r
  pub noted : All (λ y. SameName entry y → Noted entry y f cause) (after m).pending
  pub others : (x : Entry) → In x (met m).pending → (SameName entry x → ⊥) → In x (after m).pending
