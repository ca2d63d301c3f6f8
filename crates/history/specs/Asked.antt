-- What stands was asked for: what the events that were accepted, one after the other, make of a request, of an out-record, and of an
-- entry's class. Each is told from what came in, from the answers and the sends, and not from the records of the pending table; of
-- it is asked only whether an entry stands already.
-- Assumes nothing.
use Rattle.std.specs.Prelude.{ℕ, ◌≡◌, Bool, false, ◌&&◌, not, List, eqb}
use Rattle.std.specs.Bool.{beq}
use Rattle.std.proofs.Math.Option.{Option, none, some}
use Rattle.laws.specs.Pick.{pick}
use Rattle.names.specs.Name.{same_bytes}
use Rattle.packets.specs.Meaning.{Ask, Heard, refused, asks, brings, nacks}
use Rattle.records.specs.Class.{Class}
use Rattle.records.specs.Slots.{slot, given, Held, any_of}
use Rattle.records.specs.Route.{longest}
use Rattle.records.specs.Entry.{Request, Sent, Entry, is_known, mark_nacked}
use Rattle.rules.specs.Node.{What, packet, clock, open_face, close_face, set_route, drop_route, add_hop, drop_hop, Event, empty_node}
use Rattle.rules.specs.Outcome.{interest, Send, kind_number}
use Rattle.rules.specs.Step.{Book}
use Rattle.incoming.specs.Incoming.{heard_in}
use Rattle.history.specs.Lists.{All}
use Rattle.history.specs.Moments.{Moment, now, met, last_of, reached}
use Rattle.history.specs.TakenIn.{request_at}

-- "An entry is known by name and both flags."
pub record Want : Type 0 where
  pub name : List ℕ
  pub can_be_prefix : Bool
  pub must_be_fresh : Bool

-- what an entry is known by
abbrev pub want_of : Entry → Want
want_of e = record { name = e.name; can_be_prefix = e.can_be_prefix; must_be_fresh = e.must_be_fresh }

-- whether an Interest is for it
unfoldable pub is_for : Want → Ask → Bool
is_for k i = same_bytes k.name i.name && beq k.can_be_prefix i.can_be_prefix && beq k.must_be_fresh i.must_be_fresh

-- what a packet that came in makes of a thing: s says it, by its face and what it means
abbrev pub by_packet : {A : Type 0} → (Moment → ℕ → Heard → Option A → Option A) → Moment → Option A → Option A
by_packet s m x = given x (λ (h : Held Heard). s m h.face h.what x) (heard_in (met m) m.event.what)

-- face f's request: an Interest for it on that face makes it anew, with its nonce and its lifetime from now on
unfoldable pub asked_by : ℕ → Want → Moment → ℕ → Heard → Option Request → Option Request
asked_by f k m g (asks i bytes) x = pick (eqb g f && is_for k i) (some (request_at (now m) i)) x
asked_by f k m g (refused a) x = x
asked_by f k m g (brings d bytes) x = x
asked_by f k m g (nacks reason i) x = x

-- whether an Interest is sent on a face
unfoldable pub sends_on : ℕ → List Send → Bool
sends_on f ss = any_of (λ s. eqb s.face f && eqb (kind_number s.kind) (kind_number interest)) ss

-- whether the entry stands when the event meets the node
unfoldable pub is_pending : Want → Moment → Bool
is_pending k m = any_of (is_known k.name k.can_be_prefix k.must_be_fresh) (met m).pending

-- face f's out-record: an Interest for it that leaves there makes it anew; one that finds no entry begins without any; a Nack for it that
-- comes from there is noted
unfoldable pub sent_by : ℕ → Want → Moment → ℕ → Heard → Option Sent → Option Sent
sent_by f k m g (asks i bytes) x =
    pick (is_for k i)
    (pick (sends_on f m.outcome.sends) (some (record { nonce = i.nonce; time = now m; nacked = none })) (pick (is_pending k m) x none)) x
sent_by f k m g (nacks reason i) x = pick (eqb g f && is_for k i) (mark_nacked reason x) x
sent_by f k m g (refused a) x = x
sent_by f k m g (brings d bytes) x = x

-- whether an event closes face f
unfoldable pub closes_face : ℕ → What → Bool
closes_face f (packet g l) = false
closes_face f clock = false
closes_face f (open_face g scope link) = false
closes_face f (close_face g) = eqb g f
closes_face f (set_route c p) = false
closes_face f (drop_route p) = false
closes_face f (add_hop g cost p) = false
closes_face f (drop_hop g p) = false

-- face f's out-record, which goes when the face closes
unfoldable pub out_by : ℕ → Want → Moment → Option Sent → Option Sent
out_by f k m x = pick (closes_face f m.event.what) none (by_packet (sent_by f k) m x)

-- the entry's class: an Interest for it that finds no entry gives it that of the longest route for its name
unfoldable pub classed_by : Want → Moment → ℕ → Heard → Option Class → Option Class
classed_by k m g (asks i bytes) x =
    pick (is_for k i && not (is_pending k m))
    (given none (λ r. some r.cls) (longest i.name (met m).routes)) x
classed_by k m g (refused a) x = x
classed_by k m g (brings d bytes) x = x
classed_by k m g (nacks reason i) x = x

-- each request that stands and each class is what the events made of it last; and so is each out-record, none of which is lost
pub record AskedFor (faces : ℕ) (b : Book) (es : List Event) (x : Entry) : Type 0 where
  pub requests : (f : ℕ) (r : Request) → slot f x.requests ≡ some r
      → last_of (by_packet (asked_by f (want_of x))) b es (empty_node faces) none ≡ some r
  pub outs : (f : ℕ) → slot f x.sent ≡ last_of (out_by f (want_of x)) b es (empty_node faces) none
  pub cls : last_of (by_packet (classed_by (want_of x))) b es (empty_node faces) none ≡ some x.cls

-- so with each entry that stands after events
abbrev pub WasAsked : ℕ → Book → List Event → Type 0
WasAsked faces b es = All (AskedFor faces b es) (reached faces b es).pending
