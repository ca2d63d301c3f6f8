-- What each fate of a request says of the event in which it opens or ends: an end ends something that stood there.
-- Assumes nothing.
use Rattle.std.specs.Prelude.{ℕ, ◌+◌, ◌≤◌, ◌<◌, ◌≡◌, List, ◌⊎◌, ◌≢◌}
use Rattle.std.proofs.Math.Option.{some, none}
use Rattle.answers.specs.declared.Answer.{Answer}
use Rattle.packets.specs.Meaning.{Ask, Offer, asks, brings, nacks}
use Rattle.writing.specs.Written.{nack_bytes}
use Rattle.records.specs.Slots.{slot}
use Rattle.records.specs.Entry.{Request, Sent, Entry, reason_of}
use Rattle.records.specs.Happening.{Fate, opened, answered, nacked, expired, closed, self_met, Happening}
use Rattle.rules.specs.Node.{close_face}
use Rattle.rules.specs.Outcome.{dat, nack}
use Rattle.refusals.specs.Refusals.{PointToPoint, AdHoc, Known, OutRecord, Matches}
use Rattle.history.specs.Lists.{In}
use Rattle.history.specs.Moments.{Moment, now, met, after, Arrives}
use Rattle.history.specs.Sends.{Leaves}

-- the request that a happening is about stands in a pending table: an entry of its name, flags and class has on its face a request of its
-- nonce and expiry
pub record Stood (es : List Entry) (h : Happening) : Type 0 where
  pub entry : Entry
  pub request : Request
  pub pending : In entry es
  pub held : slot h.face entry.requests ≡ some request
  pub name : h.name ≡ entry.name
  pub prefix : h.can_be_prefix ≡ entry.can_be_prefix
  pub fresh : h.must_be_fresh ≡ entry.must_be_fresh
  pub cls : h.cls ≡ entry.cls
  pub nonce : h.nonce ≡ request.nonce
  pub expiry : h.expiry ≡ request.expiry

-- which entries a Data that came on face f ends: each that it matches. Document 02, request 6 will ask for an out-record of f besides
abbrev pub EndedBy : ℕ → Offer → Entry → Type 0
EndedBy f d x = Matches d x

-- each out-record of an entry but that of face f was Nacked before
abbrev pub OthersNacked : Entry → ℕ → Type 0
OthersNacked x f = (g : ℕ) (s : Sent) → g ≢ f → slot g x.sent ≡ some s → s.nacked ≢ none

-- the reasons of an entry's out-records when a Nack came on face f: that of the Nack, and those that other faces' Nacks had
pub data Reason (x : Entry) (f cause : ℕ) : ℕ → Type 0 where
  own : Reason x f cause (reason_of cause)
  noted : (g : ℕ) (s : Sent) (r : ℕ) → g ≢ f → slot g x.sent ≡ some s → s.nacked ≡ some r → Reason x f cause r

-- "the smallest nonzero reason, or 0"
pub data Smallest (R : ℕ → Type 0) : ℕ → Type 0 where
  zero_only : ((r : ℕ) → R r → r ≡ 0) → Smallest R 0
  nonzero : (k : ℕ) → k ≢ 0 → R k → ((r : ℕ) → R r → (r ≡ 0) ⊎ (k ≤ r)) → Smallest R k

-- opened: an Interest came on the face, with this name, these flags and this nonce, and was answered 0; the request lives for the
-- Interest's lifetime, stands in the table afterwards, and the face had none in that entry before
pub record Opening (m : Moment) (h : Happening) : Type 0 where
  pub ask : Ask
  pub bytes : List ℕ
  pub came : Arrives m h.face (asks ask bytes)
  pub name : h.name ≡ ask.name
  pub prefix : h.can_be_prefix ≡ ask.can_be_prefix
  pub fresh : h.must_be_fresh ≡ ask.must_be_fresh
  pub nonce : h.nonce ≡ ask.nonce
  pub expiry : h.expiry ≡ now m + ask.lifetime
  pub done : m.outcome.answer ≡ Answer.Done
  pub stands : Stood (after m).pending h
  pub new : (x : Entry) → In x (met m).pending → Known ask x → slot h.face x.requests ≡ none

-- answered: the request stood and was live; a Data came that ends its entry, and leaves on the request's face; that is the face on which
-- the Data came only if it is ad hoc
pub record Answering (m : Moment) (h : Happening) : Type 0 where
  pub stood : Stood (met m).pending h
  pub live : now m < h.expiry
  pub from : ℕ
  pub offer : Offer
  pub bytes : List ℕ
  pub came : Arrives m from (brings offer bytes)
  pub ends : EndedBy from offer stood.entry
  pub copy : Leaves h.face dat bytes m.outcome.sends
  pub own : h.face ≡ from → AdHoc (met m) from

-- self-met: the request stood and was live; a Data came on its own face that ends its entry; and that face is not ad hoc
pub record SelfMeeting (m : Moment) (h : Happening) : Type 0 where
  pub stood : Stood (met m).pending h
  pub live : now m < h.expiry
  pub offer : Offer
  pub bytes : List ℕ
  pub came : Arrives m h.face (brings offer bytes)
  pub ends : EndedBy h.face offer stood.entry
  pub link : AdHoc (met m) h.face → ⊥

-- Nacked: the request stood, was live, and is a point-to-point face's; a Nack came for its entry, on a face with an out-record of the Nack's
-- nonce, when all others were Nacked; and a Nack leaves on the request's face, with its own nonce and the smallest nonzero reason, or 0
pub record Nacking (m : Moment) (h : Happening) : Type 0 where
  pub stood : Stood (met m).pending h
  pub live : now m < h.expiry
  pub peer : PointToPoint (met m) h.face
  pub from : ℕ
  pub cause : ℕ
  pub ask : Ask
  pub came : Arrives m from (nacks cause ask)
  pub known : Known ask stood.entry
  pub out : OutRecord stood.entry from ask.nonce
  pub last : OthersNacked stood.entry from
  pub reason : ℕ
  pub smallest : Smallest (Reason stood.entry from cause) reason
  pub copy : Leaves h.face nack (nack_bytes reason h.name h.can_be_prefix h.must_be_fresh h.nonce) m.outcome.sends

-- closed: the request stood and was live, and the event closes its face
pub record Closing (m : Moment) (h : Happening) : Type 0 where
  pub stood : Stood (met m).pending h
  pub live : now m < h.expiry
  pub what : m.event.what ≡ close_face h.face

-- expired: the request stood before the event, and its time had come
pub record Expiring (m : Moment) (h : Happening) : Type 0 where
  pub stood : Stood m.before.pending h
  pub over : h.expiry ≤ now m

-- what a fate says
abbrev pub Says : Moment → Happening → Fate → Type 0
Says m h opened = Opening m h
Says m h answered = Answering m h
Says m h nacked = Nacking m h
Says m h expired = Expiring m h
Says m h closed = Closing m h
Says m h self_met = SelfMeeting m h

-- a happening is what it is called, and has the event's time
pub record Honest (m : Moment) (h : Happening) : Type 0 where
  pub when : h.time ≡ now m
  pub says : Says m h h.fate
