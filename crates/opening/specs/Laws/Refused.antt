-- A refusal with its Nack, as the code makes it.
-- Assumes nothing.
use Rattle.std.specs.Prelude.{ℕ, ◌≤◌, ◌≡◌, refl, List, length}
use Rattle.std.proofs.Common.{arith}
use Rattle.answers.specs.declared.Answer.{Answer}
use Rattle.sizes.specs.Sizes.{most_name, least_buffer}
use Rattle.packets.specs.declared.bare.Interest.{Interest}
use Rattle.faces.specs.Places.View as faces
use Rattle.routes.specs.Places.View as routes
use Rattle.writing.specs.Written.{nack_bytes}
use Rattle.rules.specs.Outcome.{nack_for}
use Rattle.sending.specs.Rows.{Packs, if_room}
use Rattle.sending.specs.Places.Sheet.{nack_sends}
use Rattle.sending.specs.Laws.Refusal.{refusal_packs}
use Rattle.event.specs.declared.Came.{Came}
use Rattle.event.specs.declared.Memory.{Memory}
use Rattle.event.specs.Memory.{Table, node_of}
use Rattle.coming.specs.Goes.{Goes}
use Rattle.coming.specs.Places.Found.{ask_named}
use Rattle.coming.specs.Laws.Goes.{goes_is, goes_sends}
use Rattle.opening.specs.Places.Asked.{came}

-- the Nack that was packed is that of the refusal
pub refused_goes : (m : Memory) (k : ℕ) (a : Answer) (reason f : ℕ) (name : List ℕ) (i : Interest) (r : Came) (rows rows' : Table)
    (b b' : List ℕ) (hs : Table) → length name ≤ most_name → least_buffer ≤ length b → r ≡ came a r.sent k
    → Packs (if_room (nack_bytes reason name i.can_be_prefix i.must_be_fresh i.nonce) b
    (nack_sends (faces.view m.faces) (routes.view m.routes) f reason name
    i.can_be_prefix i.must_be_fresh i.nonce)) r.sent rows rows' b b'
    → Goes k (nack_for a reason (node_of m) f (ask_named name i)) r (node_of m)
    (record { sends = rows; buffer = b; rows = hs }) (record { sends = rows'; buffer = b'; rows = hs })
unfolding nack_for node_of
refused_goes m k a reason f name i r rows rows' b b' hs short room e p =
    goes_is k _ r _ _ _ _ e
    (goes_sends k a _ _ _ r.sent rows rows' b b' hs refl
    (refusal_packs _ _ _ f reason _ r.sent rows rows' b b' refl refl short (omega (arith, room)) p))
