-- Pending entries: "An entry is known by name and both flags. It keeps, per face, an in-record (the request: nonce, expiry) and an
-- out-record (nonce, send time, Nack reason)."
-- Assumes nothing.
use Rattle.std.specs.Prelude.{ℕ, ◌+◌, ◌-◌, max, Bool, ◌&&◌, ◌||◌, not, List, [], ◌∷◌, map, length, ltb, eqb}
use Rattle.std.specs.Bool.{beq}
use Rattle.std.proofs.Math.Option.{Option, none, some}
use Rattle.laws.specs.Pick.{pick}
use Rattle.sizes.specs.Sizes.{resend_time}
use Rattle.names.specs.Name.{same_bytes, prefix_of}
use Rattle.records.specs.Class.{Class, alarm, monitoring, bulk, is_class, reserve, is_of, lower}
use Rattle.records.specs.Slots.{slot, set_slot, emptied, is_some, holds, Held, held, any_of, only, least_face, is_empty, given}

-- a request, the in-record
pub record Request : Type 0 where
  pub nonce : ℕ
  pub expiry : ℕ

-- an out-record: the Nack's reason, if it was Nacked
pub record Sent : Type 0 where
  pub nonce : ℕ
  pub time : ℕ
  pub nacked : Option ℕ

-- a pending entry: what it is known by, its class, and for each face the request and the out-record, if there is one
pub record Entry : Type 0 where
  pub name : List ℕ
  pub can_be_prefix : Bool
  pub must_be_fresh : Bool
  pub cls : Class
  pub requests : List (Option Request)
  pub sent : List (Option Sent)

-- whether an entry is that of a name and both flags
unfoldable pub is_known : List ℕ → Bool → Bool → Entry → Bool
is_known name p m e = same_bytes name e.name && beq p e.can_be_prefix && beq m e.must_be_fresh

-- the entry with other requests
unfoldable pub with_requests : List (Option Request) → Entry → Entry
with_requests rs e =
    record { name = e.name; can_be_prefix = e.can_be_prefix; must_be_fresh = e.must_be_fresh; cls = e.cls; requests = rs; sent = e.sent }

-- the entry with other out-records
unfoldable pub with_sent : List (Option Sent) → Entry → Entry
with_sent ss e =
    record { name = e.name; can_be_prefix = e.can_be_prefix; must_be_fresh = e.must_be_fresh; cls = e.cls; requests = e.requests; sent = ss }

-- "open this face's request, or renew it with the new nonce and expiry"
unfoldable pub asking : ℕ → Request → Entry → Entry
asking f r e = with_requests (set_slot f (some r) e.requests) e

-- the entry without a face's request
unfoldable pub not_asking : ℕ → Entry → Entry
not_asking f e = with_requests (set_slot f none e.requests) e

-- the entry without the requests of the faces that p holds of
unfoldable pub ending : (ℕ → Bool) → Entry → Entry
ending p e = with_requests (emptied p e.requests) e

-- "A send sets the out-record anew"
unfoldable pub sending : ℕ → Sent → Entry → Entry
sending f s e = with_sent (set_slot f (some s) e.sent) e

-- the entry without a face's out-record
unfoldable pub not_sent : ℕ → Entry → Entry
not_sent f e = with_sent (set_slot f none e.sent) e

-- "the earliest one, ties to the lower face": of the out-records, the earliest of the faces that p holds of
unfoldable pub earliest_of : (ℕ → Bool) → Entry → Option ℕ
earliest_of p e = least_face (λ s. s.time) p e.sent

-- whether an entry has no requests
unfoldable pub is_idle : Entry → Bool
is_idle e = is_empty (held e.requests)

-- "A request lives while time < arrival + lifetime"
unfoldable pub is_live : ℕ → Request → Bool
is_live now r = ltb now r.expiry

-- a slot with its request, if that lives
unfoldable pub if_live : ℕ → Option Request → Option Request
if_live now none = none
if_live now (some r) = pick (is_live now r) (some r) none

-- the entry with the requests that live
unfoldable pub aged_entry : ℕ → Entry → Entry
aged_entry now e = with_requests (map (if_live now) e.requests) e

-- whether a nonce stands in some in-record or out-record
unfoldable pub has_nonce : ℕ → Entry → Bool
has_nonce n e = any_of (holds (λ r. eqb r.nonce n)) e.requests || any_of (holds (λ s. eqb s.nonce n)) e.sent

-- whether a face's own in-record has a nonce
unfoldable pub own_nonce : ℕ → ℕ → Entry → Bool
own_nonce f n e = holds (λ r. eqb r.nonce n) (slot f e.requests)

-- the time of the newest out-record, if there is one
unfoldable pub newest_of : List (Held Sent) → Option ℕ
newest_of [] = none
newest_of (h ∷ hs) = some (given h.what.time (max h.what.time) (newest_of hs))

-- "If the newest out-record was sent under 100 ms ago, send nothing."
unfoldable pub is_suppressed : ℕ → Entry → Bool
is_suppressed now e = holds (λ t. ltb (now - t) resend_time) (newest_of (held e.sent))

-- "Data matches an entry of equal name, or with CanBePrefix and a name that is its prefix."
unfoldable pub matches : List ℕ → Entry → Bool
matches name e = same_bytes e.name name || (e.can_be_prefix && prefix_of e.name name)

-- "Reasons other than 50, 100, 150 become 0"
unfoldable pub reason_of : ℕ → ℕ
reason_of n = pick (eqb n 50 || eqb n 100 || eqb n 150) n 0

-- whether an out-record was Nacked
unfoldable pub was_nacked : Held Sent → Bool
was_nacked h = is_some h.what.nacked

-- the smaller of two reasons that is not 0, or 0
unfoldable pub lesser_reason : ℕ → ℕ → ℕ
lesser_reason a b = pick (eqb a 0) b (pick (eqb b 0) a (pick (ltb b a) b a))

-- "the smallest nonzero reason, or 0"
unfoldable pub smallest_reason : List (Held Sent) → ℕ
smallest_reason [] = 0
smallest_reason (h ∷ hs) = lesser_reason (given 0 (λ n. n) h.what.nacked) (smallest_reason hs)

-- the out-record with a Nack's reason
unfoldable pub mark_nacked : ℕ → Option Sent → Option Sent
mark_nacked reason none = none
mark_nacked reason (some s) = some (record { nonce = s.nonce; time = s.time; nacked = some (reason_of reason) })

-- the entry with a face's out-record Nacked
unfoldable pub with_nack : ℕ → ℕ → Entry → Entry
with_nack f reason e = with_sent (set_slot f (mark_nacked reason (slot f e.sent)) e.sent) e

-- whether all out-records are Nacked
unfoldable pub all_nacked : Entry → Bool
all_nacked e = not (any_of (λ h. not (was_nacked h)) (held e.sent))

-- whether a face has an out-record with a nonce in an entry
unfoldable pub sent_nonce : ℕ → ℕ → Entry → Bool
sent_nonce f nonce e = holds (λ s. eqb s.nonce nonce) (slot f e.sent)

-- how many entries have a class that p holds of
unfoldable pub used_by : (Class → Bool) → List Entry → ℕ
used_by p es = length (only (λ e. p e.cls) es)

-- the larger of a class's reserve and use
unfoldable pub taken_by : Class → List Entry → ℕ
taken_by c es = max (reserve c) (used_by (is_of c) es)

-- "the sum over the classes of the larger of reserve and use"; an entry whose class word is no class counts in full
unfoldable pub room_taken : List Entry → ℕ
room_taken es = taken_by alarm es + taken_by monitoring es + taken_by bulk es + used_by (λ c. not (is_class c)) es

-- the lowest class of the entries that have a request on a face, if there are any
unfoldable pub class_on : ℕ → List Entry → Option Class
class_on h [] = none
class_on h (e ∷ es) = pick (is_some (slot h e.requests)) (some (given e.cls (lower e.cls) (class_on h es))) (class_on h es)
