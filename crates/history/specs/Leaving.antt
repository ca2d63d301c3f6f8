-- What leaves is allowed to, and carries the class that document 02, request 4 gives it: each packet that an event sends, by its kind.
-- Assumes nothing.
use Rattle.std.specs.Prelude.{ℕ, ◌-◌, ◌<◌, ◌≤◌, ◌≡◌, true, List, ◌⊎◌}
use Rattle.std.proofs.Math.Option.{none, some}
use Rattle.answers.specs.declared.Answer.{Answer}
use Rattle.names.specs.Name.{under_localhost, under_localhop}
use Rattle.packets.specs.Meaning.{Ask, Offer, asks, brings}
use Rattle.writing.specs.Written.{nack_bytes}
use Rattle.records.specs.Class.{class_number}
use Rattle.records.specs.Slots.{slot}
use Rattle.records.specs.Route.{Route}
use Rattle.records.specs.Entry.{Request, Entry}
use Rattle.records.specs.Stored.{Stored}
use Rattle.records.specs.Happening.{answered, nacked, Happening, happens}
use Rattle.rules.specs.Node.{Node}
use Rattle.rules.specs.Ageing.{ageing}
use Rattle.rules.specs.Outcome.{Kind, interest, dat, nack, Send, name_class}
use Rattle.refusals.specs.Refusals.{Open, Local, PointToPoint, AdHoc, Known, RouteOf, NextHop, Serves}
use Rattle.history.specs.Lists.{In}
use Rattle.history.specs.Moments.{Moment, now, met, after, Arrives}
use Rattle.history.specs.Sends.{NackedFor}
use Rattle.history.specs.Ends.{EndedBy}

-- "Eligible": an Interest that came on face f, and whose entry is x with its request, may leave on face h
pub record MayLeave (n : Node) (f : ℕ) (i : Ask) (x : Entry) (h : ℕ) : Type 0 where
  pub there : Open n h
  pub other : h ≡ f → AdHoc n f
  pub spent : (k : ℕ) → i.hop ≡ some k → k - 1 ≡ 0 → Local n h
  pub localhost : under_localhost i.name ≡ true → Local n h
  pub localhop : under_localhop i.name ≡ true → ((g : ℕ) (r : Request) → slot g x.requests ≡ some r → Local n g → ⊥) → Local n h

-- an Interest leaves as it came, never for a refusal, on an eligible next hop of the longest route for its name; its entry, with this send
-- as its out-record there, stands in the table, and its class is the send's
pub record Forwarding (m : Moment) (s : Send) : Type 0 where
  pub from : ℕ
  pub ask : Ask
  pub came : Arrives m from (asks ask s.bytes)
  pub done : m.outcome.answer ≡ Answer.Done
  pub entry : Entry
  pub pending : In entry (after m).pending
  pub known : Known ask entry
  pub sent : slot s.face entry.sent ≡ some (record { nonce = ask.nonce; time = now m; nacked = none })
  pub cls : s.cls ≡ entry.cls
  pub route : Route
  pub longest : RouteOf (met m) ask.name route
  pub hop : NextHop route s.face
  pub may : MayLeave (met m) from ask entry s.face

-- a Data serves the Interest that came on its face: nothing happens but expiries, and the bytes are those of a stored Data that serves
-- that Interest now; its class is that of its own name's longest route
pub record FromStore (m : Moment) (s : Send) : Type 0 where
  pub ask : Ask
  pub bytes : List ℕ
  pub came : Arrives m s.face (asks ask bytes)
  pub done : m.outcome.answer ≡ Answer.Done
  pub still : m.outcome.happenings ≡ ageing (now m) m.before
  pub what : Stored
  pub stored : In what m.before.store
  pub serving : Serves (now m) ask what
  pub same : s.bytes ≡ what.bytes
  pub cls : s.cls ≡ name_class (met m) what.name

-- a Data came with these bytes; an entry that it ends has a request on the face of the send, which lives, and ends as answered in this
-- event; its class is the send's, and no entry that the Data ends with a request on that face has a lower one
pub record EndsRequest (m : Moment) (s : Send) : Type 0 where
  pub from : ℕ
  pub offer : Offer
  pub came : Arrives m from (brings offer s.bytes)
  pub entry : Entry
  pub request : Request
  pub pending : In entry (met m).pending
  pub ends : EndedBy from offer entry
  pub standing : slot s.face entry.requests ≡ some request
  pub live : now m < request.expiry
  pub ended : In (happens answered (now m) entry (record { face = s.face; what = request })) m.outcome.happenings
  pub cls : s.cls ≡ entry.cls
  pub lowest : (x : Entry) → In x (met m).pending → EndedBy from offer x → (r : Request) → slot s.face x.requests ≡ some r
      → class_number s.cls ≤ class_number x.cls

-- a Nack refuses the Interest that came on its face, with 9, 10 or 11: it says that answer's reason and that Interest's name, flags and
-- nonce; the face is point-to-point; its class is that of the name's longest route
pub record Refusing (m : Moment) (s : Send) : Type 0 where
  pub ask : Ask
  pub bytes : List ℕ
  pub came : Arrives m s.face (asks ask bytes)
  pub reason : ℕ
  pub why : NackedFor m.outcome.answer reason
  pub peer : PointToPoint (met m) s.face
  pub same : s.bytes ≡ nack_bytes reason ask.name ask.can_be_prefix ask.must_be_fresh ask.nonce
  pub cls : s.cls ≡ name_class (met m) ask.name

-- or it tells a request of its face that it ends as Nacked in this event: it says that request's name, flags and nonce, and has its class
pub record Ending (m : Moment) (s : Send) : Type 0 where
  pub end : Happening
  pub ended : In end m.outcome.happenings
  pub fate : end.fate ≡ nacked
  pub face : end.face ≡ s.face
  pub reason : ℕ
  pub same : s.bytes ≡ nack_bytes reason end.name end.can_be_prefix end.must_be_fresh end.nonce
  pub cls : s.cls ≡ end.cls

-- why a packet may leave, by its kind
abbrev pub Leaving : Moment → Send → Kind → Type 0
Leaving m s interest = Forwarding m s
Leaving m s dat = FromStore m s ⊎ EndsRequest m s
Leaving m s nack = Refusing m s ⊎ Ending m s
