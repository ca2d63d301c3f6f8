-- Document 01, "Interest" and "Classes".
-- Assumes nothing.
use Rattle.std.specs.Prelude.{ℕ, ◌+◌, ◌-◌, Bool, ◌&&◌, ◌||◌, not, List, [], ◌∷◌, ◌++◌, length, ltb, eqb}
use Rattle.std.proofs.Math.Option.{Option, none, some}
use Rattle.answers.specs.declared.Answer.{Answer}
use Rattle.laws.specs.Pick.{pick}
use Rattle.laws.specs.Lists.{index_of, on_at}
use Rattle.sizes.specs.Sizes.{most_entries}
use Rattle.names.specs.Name.{under_localhost, under_localhop}
use Rattle.packets.specs.Meaning.{Ask}
use Rattle.records.specs.Class.{Class}
use Rattle.records.specs.Slots.{at_place, no_slots, slot, set_slot, is_some, holds, or_else, given, held, any_of}
use Rattle.records.specs.Face.{is_open, is_local_face, is_peer, is_ad_hoc_face}
use Rattle.records.specs.Route.{Route, longest, cheapest_of}
use Rattle.records.specs.Entry.{Request, Sent, Entry, is_known, asking, sending, earliest_of, has_nonce, own_nonce, is_suppressed, room_taken}
use Rattle.records.specs.Stored.{Hit, lookup, touched}
use Rattle.records.specs.Line.{is_dead}
use Rattle.rules.specs.Node.{Node, print_of, with_pending, with_store}
use Rattle.rules.specs.Outcome.{interest, dat, Send, Outcome, quiet, done, name_class, nack_for}
use Rattle.records.specs.Happening.{opened, Happening, happens}

-- an Interest that arrived: its face, what it means, and its bytes as it leaves
pub record Arrival : Type 0 where
  pub face : ℕ
  pub ask : Ask
  pub bytes : List ℕ

-- "local if HopLimit is present and is 0 after lowering"
unfoldable pub spent : Option ℕ → Bool
spent hop = holds (λ k. eqb (k - 1) 0) hop

-- "Eligible": whether the Interest may leave on a face h, where some request is from a local face or not
unfoldable pub eligible : Node → Arrival → Bool → ℕ → Bool
eligible n a from_local h =
    is_open n.faces h && (not (eqb h a.face) || is_ad_hoc_face n.faces a.face)
    && (is_local_face n.faces h
    || not (spent a.ask.hop || under_localhost a.ask.name || (under_localhop a.ask.name && not from_local)))

-- the request that the Interest makes
unfoldable pub request_of : ℕ → Arrival → Request
request_of now a = record { nonce = a.ask.nonce; expiry = now + a.ask.lifetime }

-- the out-record that sending it makes, "its Nack reason cleared"
unfoldable pub sent_of : ℕ → Arrival → Sent
sent_of now a = record { nonce = a.ask.nonce; time = now; nacked = none }

-- the place of the Interest's entry, or the number of entries
unfoldable pub entry_of : Node → Ask → ℕ
entry_of n i = index_of (is_known i.name i.can_be_prefix i.must_be_fresh) n.pending

-- "The entry does not count if the face is point-to-point and its own in-record has this nonce."
unfoldable pub entry_loops : Node → Arrival → Entry → Bool
entry_loops n a e = not (is_peer n.faces a.face && own_nonce a.face a.ask.nonce e) && has_nonce a.ask.nonce e

-- "LOOP: a live fingerprint equals this one; or the entry has the nonce .."
unfoldable pub loops : ℕ → Node → Arrival → Bool
loops now n a =
    is_dead now (print_of a.ask.name a.ask.nonce) n.dead || holds (entry_loops n a) (at_place (entry_of n a.ask) n.pending)

-- the send of an Interest
unfoldable pub forwards : Arrival → Class → ℕ → Send
forwards a c h = record { face = h; kind = interest; cls = c; bytes = a.bytes }

-- a new entry, with this request, sent to a hop
unfoldable pub new_entry : ℕ → Node → Arrival → Class → ℕ → Entry
new_entry now n a c h = record {
  name = a.ask.name;
  can_be_prefix = a.ask.can_be_prefix;
  must_be_fresh = a.ask.must_be_fresh;
  cls = c;
  requests = set_slot a.face (some (request_of now a)) (no_slots (length n.faces));
  sent = set_slot h (some (sent_of now a)) (no_slots (length n.faces));
}

-- the request that opens in an entry
unfoldable pub opens : ℕ → Arrival → Entry → Happening
opens now a e = happens opened now e (record { face = a.face; what = request_of now a })

-- "Else open, and send to the cheapest eligible hop"
unfoldable pub opens_entry : ℕ → Node → Arrival → Class → ℕ → Outcome
opens_entry now n a c h =
    done (with_pending n (n.pending ++ (new_entry now n a c h ∷ []))) (forwards a c h ∷ []) (opens now a (new_entry now n a c h) ∷ [])

-- "NO_ROOM exactly when the sum over the classes of the larger of reserve and use, counting the new entry, exceeds 64."
unfoldable pub no_room : Node → Entry → Bool
no_room n e = ltb most_entries (room_taken (n.pending ++ (e ∷ [])))

-- an Interest that may open, for which a route of a class has a hop
unfoldable pub may_open : ℕ → Node → Arrival → Class → ℕ → Outcome
may_open now n a c h = pick (no_room n (new_entry now n a c h)) (nack_for Answer.NoRoom 50 n a.face a.ask) (opens_entry now n a c h)

-- "NO_ROUTE exactly when there is none or no next hop of it is eligible."
unfoldable pub routed : ℕ → Node → Arrival → Option Route → Outcome
routed now n a none = nack_for Answer.NoRoute 150 n a.face a.ask
routed now n a (some r) =
    given (nack_for Answer.NoRoute 150 n a.face a.ask) (may_open now n a r.cls)
    (cheapest_of (eligible n a (is_local_face n.faces a.face)) r)

-- "a hit sends that Data back and opens nothing"; its class is that of its own name
unfoldable pub served : Node → Arrival → Hit → Outcome
served n a h =
    done (with_store n (touched h n.store))
    (record { face = a.face; kind = dat; cls = name_class n h.what.name; bytes = h.what.bytes } ∷ []) []

-- "No entry: look in the store .. Otherwise take the longest matching route."
unfoldable pub asks_anew : ℕ → Node → Arrival → Option Hit → Outcome
asks_anew now n a none = routed now n a (longest a.ask.name n.routes)
asks_anew now n a (some h) = served n a h

-- whether a request of an entry is from a local face
unfoldable pub from_local_face : Node → Entry → Bool
from_local_face n e = any_of (λ h. is_local_face n.faces h.face) (held e.requests)

-- "the cheapest eligible hop without an out-record; failing that, the eligible hop with the earliest one, ties to the lower face"
unfoldable pub next_hop : (ℕ → Bool) → Entry → Route → Option ℕ
next_hop may e r =
    or_else (cheapest_of (λ f. may f && not (is_some (slot f e.sent))) r) (earliest_of (λ f. may f && is_some (slot f r.hops)) e)

-- the hop "in the longest matching route" that a further Interest of an entry takes, if any
unfoldable pub resends : ℕ → Node → Arrival → Entry → Option ℕ
resends now n a e =
    pick (is_suppressed now e) none (given none (next_hop (eligible n a (from_local_face n e)) e) (longest a.ask.name n.routes))

-- the entry at place i, which is now e, is sent to a hop, if there is one: "A send sets the out-record anew"
unfoldable pub sends_on : ℕ → Node → Arrival → ℕ → Entry → Option ℕ → List Happening → Outcome
sends_on now n a i e hop hs =
    done (with_pending n (on_at i (λ _. given e (λ h. sending h (sent_of now a) e) hop) n.pending))
    (given [] (λ h. forwards a e.cls h ∷ []) hop) hs

-- "Entry present": x stands at place i, and is e with this request; "a renewal is the same request"
unfoldable pub renews : ℕ → Node → Arrival → ℕ → Entry → Entry → Outcome
renews now n a i x e = sends_on now n a i e (resends now n a e) (pick (is_some (slot a.face x.requests)) [] (opens now a x ∷ []))

-- "open this face's request, or renew it with the new nonce and expiry": of the entry x at place i
unfoldable pub asks_again : ℕ → Node → Arrival → ℕ → Entry → Outcome
asks_again now n a i x = renews now n a i x (asking a.face (request_of now a) x)

-- an Interest past the checks: by its entry, or without one
unfoldable pub asks_entry : ℕ → Node → Arrival → Option Entry → Outcome
asks_entry now n a none = asks_anew now n a (lookup now a.ask.name a.ask.can_be_prefix a.ask.must_be_fresh n.store)
asks_entry now n a (some e) = asks_again now n a (entry_of n a.ask) e

-- "Interest with HopLimit 0"
unfoldable pub hop_is_zero : Option ℕ → Bool
hop_is_zero hop = holds (λ k. eqb k 0) hop

-- "under /localhost from a non-local face"
unfoldable pub out_of_scope : Node → ℕ → List ℕ → Bool
out_of_scope n f name = under_localhost name && not (is_local_face n.faces f)

-- an Interest: "7 to 13 .. as listed"
unfoldable pub interest_step : ℕ → Node → Arrival → Outcome
interest_step now n a =
    pick (hop_is_zero a.ask.hop) (quiet Answer.HopLimit n)
    (pick (out_of_scope n a.face a.ask.name) (quiet Answer.Scope n)
    (pick (loops now n a) (nack_for Answer.Loop 100 n a.face a.ask) (asks_entry now n a (at_place (entry_of n a.ask) n.pending))))
