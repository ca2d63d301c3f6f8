-- Document 01, "Data, store, Nack": Nack.
-- Assumes nothing.
use Rattle.std.specs.Prelude.{ℕ, List, map}
use Rattle.answers.specs.declared.Answer.{Answer}
use Rattle.laws.specs.Pick.{pick}
use Rattle.laws.specs.Lists.{on_at}
use Rattle.packets.specs.Meaning.{Ask}
use Rattle.writing.specs.Written.{nack_bytes}
use Rattle.records.specs.Slots.{given, Held, held, only, at_place}
use Rattle.records.specs.Face.{is_peer}
use Rattle.records.specs.Entry.{Request, Entry, ending, smallest_reason, with_nack, all_nacked, sent_nonce}
use Rattle.records.specs.Ageing.{becoming, leaving}
use Rattle.rules.specs.Node.{Node, print_of, with_pending, burying}
use Rattle.rules.specs.Outcome.{nack, Send, Outcome, quiet, done}
use Rattle.rules.specs.Interest.{entry_of, out_of_scope}
use Rattle.records.specs.Happening.{nacked, happens}

-- the requests that end by Nack: "each point-to-point request", by face
unfoldable pub peers_of : Node → Entry → List (Held Request)
peers_of n e = only (λ h. is_peer n.faces h.face) (held e.requests)

-- the Nack of a request, "with its own nonce and the smallest nonzero reason, or 0"
unfoldable pub nack_of : Entry → Held Request → Send
nack_of e h =
    let bytes = nack_bytes (smallest_reason (held e.sent)) e.name e.can_be_prefix e.must_be_fresh h.what.nonce in
    record { face = h.face; kind = nack; cls = e.cls; bytes = bytes }

-- the node when the entry at place i is now e: "An entry without requests leaves."
unfoldable pub settled : ℕ → Node → ℕ → Entry → Node
settled now n i e = burying (with_pending n (becoming i e n.pending)) (leaving print_of now e)

-- "If a Nack leaves all out-records Nacked, each point-to-point request ends by a Nack .. Others stay open."
unfoldable pub ends_by_nack : ℕ → Node → ℕ → Entry → Outcome
ends_by_nack now n i e =
    done (settled now n i (ending (is_peer n.faces) e)) (map (nack_of e) (peers_of n e)) (map (happens nacked now e) (peers_of n e))

-- a Nack for an out-record of the entry at place i, which it leaves as e
unfoldable pub nacked_entry : ℕ → Node → ℕ → Entry → Outcome
nacked_entry now n i e =
    pick (all_nacked e) (ends_by_nack now n i e) (quiet Answer.Done (with_pending n (on_at i (λ _. e) n.pending)))

-- a Nack on a face for the entry e, which is 13 where that face has "no out-record with this nonce in that entry"
unfoldable pub sent_back : ℕ → Node → ℕ → ℕ → Ask → Entry → Outcome
sent_back now n f reason i e =
    pick (sent_nonce f i.nonce e) (nacked_entry now n (entry_of n i) (with_nack f reason e)) (quiet Answer.StaleNack n)

-- "STALE_NACK exactly when the face is not point-to-point, or has no out-record with this nonce in that entry."
unfoldable pub nack_step : ℕ → Node → ℕ → ℕ → Ask → Outcome
nack_step now n f reason i =
    pick (out_of_scope n f i.name) (quiet Answer.Scope n)
    (pick (is_peer n.faces f) (given (quiet Answer.StaleNack n) (sent_back now n f reason i) (at_place (entry_of n i) n.pending))
    (quiet Answer.StaleNack n))
