-- A bare packet that came in, by what the code asks: the guard, and what the reader found.
-- Assumes nothing.
use Rattle.std.specs.Prelude.{ℕ, ◌≤◌, ◌≡◌, Bool, List, ◌≢◌, length, Option, Result, Ok, Err}
use Rattle.std.proofs.Math.Path.{sym, ap}
use Rattle.std.proofs.Common.{◌∙◌}
use Rattle.answers.specs.declared.Answer.{Answer}
use Rattle.answers.specs.Number.{number_of}
use Rattle.sizes.specs.Sizes.{most_name}
use Rattle.packethead.specs.Name.{name_of}
use Rattle.packets.specs.declared.bare.Interest.{Interest}
use Rattle.packets.specs.declared.bare.Data.{Data}
use Rattle.packets.specs.declared.bare.Packet.{Packet}
use Rattle.packets.specs.Bare.{bare_read}
use Rattle.packets.specs.Meaning.{Heard, heard_bare}
use Rattle.packets.specs.Places.Bare.{packet_in}
use Rattle.rules.specs.Node.{Node}
use Rattle.rules.specs.Outcome.{Outcome, quiet}
use Rattle.rules.specs.Interest.{interest_step}
use Rattle.rules.specs.Data.{data_step}
use Rattle.rules.specs.Nack.{nack_step}
use Rattle.rules.specs.Step.{arrives}
use Rattle.event.specs.declared.Came.{Came}
use Rattle.event.specs.Memory.{Output}
use Rattle.coming.specs.Goes.{Goes, guard_says, guarded}
use Rattle.coming.specs.Places.Found.{ask_found, arrival_found, offer_found}
use Rattle.coming.specs.Laws.Guard.{guard_time, guard_room, guard_packet, guard_stops, guard_goes, guard_within}
use Rattle.coming.specs.Laws.Goes.{goes_by, goes_quiet}
use Rattle.arriving.specs.Coming.{comes_in}
use Rattle.arriving.specs.Laws.Found.{refused_found, asks_found, brings_found, nacks_found}

module _ (n : Node) (k room f : ℕ) (nack : Option ℕ) (mark : Bool) (l : List ℕ) (y : Answer)
    (asked : y ≡ guard_says n.time room (length l) 0) where
  -- what the guard refuses
  pub arrive_stops : (r : Came) (o : Output) → number_of y ≢ 0 → r.answer ≡ y → r.sent ≡ 0 → r.made ≡ k
      → Goes k (comes_in room nack mark l f n) r n o o
  unfolding comes_in
  arrive_stops r o d ea es em =
      goes_by k _ (quiet y n) r n o o (guard_stops n _ room (length l) 0 y asked d) (goes_quiet k y r n o ea es em)

  module _ (d : number_of y ≡ 0) (p : Result Packet Answer) (said : p ≡ packet_in (length l) (bare_read nack mark l)) where
    -- past the guard it is what arrives
    past : (h : Heard) → heard_bare nack mark l ≡ h → comes_in room nack mark l f n ≡ arrives n.time n f h
    unfolding comes_in
    past h e = guard_goes n _ room (length l) 0 y asked d ∙ ap (arrives n.time n f) e

    -- what asks again, of its name too, comes to the same
    again : (x : Outcome) → length (name_of l) ≤ most_name → guarded room (length l) (length (name_of l)) n x ≡ x
    again x short =
        guard_within n x room (length l) (length (name_of l)) (guard_time n.time room (length l) 0 y asked d)
        (guard_room n.time room (length l) 0 y asked d) (guard_packet n.time room (length l) 0 y asked d) short

    -- what the reader refuses
    pub arrive_refused : (a : Answer) → p ≡ Err a → (r : Came) (o : Output) → r.answer ≡ a → r.sent ≡ 0 → r.made ≡ k
        → Goes k (comes_in room nack mark l f n) r n o o
    unfolding arrives
    arrive_refused a e r o ea es em =
        goes_by k _ (quiet a n) r n o o (past _ (refused_found nack mark l p said a e)) (goes_quiet k a r n o ea es em)

    module _ (r : Came) (n' : Node) (o o' : Output) where
      -- an Interest
      pub arrive_asks : (i : Interest) → p ≡ Ok (Packet.Interest i)
          → Goes k (guarded room (length l) (length (name_of l)) n (interest_step n.time n (arrival_found f l i))) r n' o o'
          → Goes k (comes_in room nack mark l f n) r n' o o'
      unfolding arrives arrival_found
      arrive_asks i e g =
          let h = asks_found nack mark l p said i e in
          goes_by k _ _ r n' o o' (past _ h.0 ∙ sym (again _ h.1)) g

      -- a Data
      pub arrive_brings : (d : Data) → p ≡ Ok (Packet.Data d)
          → Goes k (guarded room (length l) (length (name_of l)) n (data_step n.time n f (offer_found l d) l)) r n' o o'
          → Goes k (comes_in room nack mark l f n) r n' o o'
      unfolding arrives
      arrive_brings d e g =
          let h = brings_found nack mark l p said d e in
          goes_by k _ _ r n' o o' (past _ h.0 ∙ sym (again _ h.1)) g

      -- a Nack
      pub arrive_nacks : (reason : ℕ) (i : Interest) → p ≡ Ok (Packet.Nack reason i)
          → Goes k (guarded room (length l) (length (name_of l)) n (nack_step n.time n f reason (ask_found l i))) r n' o o'
          → Goes k (comes_in room nack mark l f n) r n' o o'
      unfolding arrives
      arrive_nacks reason i e g =
          let h = nacks_found nack mark l p said reason i e in
          goes_by k _ _ r n' o o' (past _ h.0 ∙ sym (again _ h.1)) g
