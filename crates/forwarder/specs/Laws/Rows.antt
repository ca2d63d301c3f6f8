-- A packet that arrives notes one opening, or an end for each request of some entries, or for requests of one entry: where these have
-- their rows, it has.
-- Assumes nothing.
use Rattle.std.specs.Prelude.{ℕ, ◌+◌, ◌≤◌, ◌≡◌, refl}
use Rattle.std.proofs.Math.Bool.{Bool}
use mathlib.Core.List.{List, [], ◌∷◌}
use Rattle.std.proofs.Math.Option.{Option, none, some}
use native.Mathlib.Omega.{arith}
use Rattle.std.proofs.Math.ListN.{length, length-map}
use Rattle.laws.specs.Laws.Pick.{pick_ind}
use Rattle.packets.specs.Meaning.{Ask, Offer, Heard, refused, asks, brings, nacks}
use Rattle.records.specs.Face.{is_peer}
use Rattle.records.specs.Slots.{at_place, slot, is_some, given, Held, held, only, each}
use Rattle.records.specs.Laws.Each.{only_length}
use Rattle.records.specs.Entry.{Request, Entry, with_nack, with_sent}
use Rattle.records.specs.Route.{Route}
use Rattle.records.specs.Stored.{Hit, lookup}
use Rattle.records.specs.Happening.{Fate, Happening, nacked, happens}
use Rattle.happenings.specs.Noted.{most_rows}
use Rattle.pending_pass.specs.Satisfies.{ends_by}
use Rattle.rules.specs.Node.{Node}
use Rattle.rules.specs.Outcome.{Outcome, quiet, nack_for}
use Rattle.rules.specs.Interest.{
  Arrival,
  opens_entry,
  may_open,
  routed,
  served,
  asks_anew,
  opens,
  sends_on,
  renews,
  asks_again,
  asks_entry,
  interest_step,
}
use Rattle.rules.specs.Data.{fate_of, data_ends, satisfies, data_step}
use Rattle.rules.specs.Nack.{peers_of, ends_by_nack, nacked_entry, sent_back, nack_step}
use Rattle.rules.specs.Step.{arrives}

-- by what is there or not
given_ind : {A : Type 0} (P : Outcome → Type 0) (x : Outcome) (g : A → Outcome) (o : Option A) → P x → ((a : A) → o ≡ some a → P (g a))
    → P (given x g o)
unfolding given
given_ind P x g none a b = a
given_ind P x g (some z) a b = b z refl

module _ (k now : ℕ) (n : Node) (one : k + 1 ≤ most_rows)
    (met : (fate : ℕ → Fate) (p : Entry → Bool) → k + length (each (ends_by fate now) (only p n.pending)) ≤ most_rows)
    (own : (i : ℕ) (e : Entry) → at_place i n.pending ≡ some e → k + length (held e.requests) ≤ most_rows) where
  -- an outcome whose happenings have rows
  abbrev Fits : Outcome → Type 0
  Fits x = k + length x.happenings ≤ most_rows

  -- an Interest that takes the longest route
  routed_fits : (a : Arrival) (r : Option Route) → Fits (routed now n a r)
  unfolding routed may_open opens_entry nack_for
  routed_fits a none = omega (arith, one)
  routed_fits a (some r) =
      given_ind Fits _ _ _ (omega (arith, one))
      (λ h _. pick_ind Fits _ _ _ (λ _. omega (arith, one)) (λ _. omega (arith, one)))

  -- an Interest past the checks
  entry_fits : (a : Arrival) (e : Option Entry) → Fits (asks_entry now n a e)
  unfolding asks_entry asks_anew served asks_again renews sends_on
  entry_fits a none = go (lookup now a.ask.name a.ask.can_be_prefix a.ask.must_be_fresh n.store)
    where
      go : (h : Option Hit) → Fits (asks_anew now n a h)
      go none = routed_fits a _
      go (some h) = omega (arith, one)
  entry_fits a (some e) =
      pick_ind (λ (hs : List Happening). k + length hs ≤ most_rows) (is_some (slot a.face e.requests)) [] (opens now a e ∷ [])
      (λ _. omega (arith, one)) (λ _. omega (arith, one))

  -- an Interest
  interest_fits : (a : Arrival) → Fits (interest_step now n a)
  unfolding interest_step quiet nack_for
  interest_fits a =
      pick_ind Fits _ _ _ (λ _. omega (arith, one))
      (λ _. pick_ind Fits _ _ _ (λ _. omega (arith, one))
      (λ _. pick_ind Fits _ _ _ (λ _. omega (arith, one)) (λ _. entry_fits a _)))

  -- a Data
  data_fits : (f : ℕ) (d : Offer) (bytes : List ℕ) → Fits (data_step now n f d bytes)
  unfolding data_step quiet satisfies data_ends each ends_by
  data_fits f d bytes =
      pick_ind Fits _ _ _ (λ _. omega (arith, one))
      (λ _. pick_ind Fits _ _ _ (λ _. omega (arith, one)) (λ _. met (fate_of n f) _))

  -- the requests of an entry that end by Nack
  ends_fits : (i f reason : ℕ) (e : Entry) → at_place i n.pending ≡ some e → Fits (ends_by_nack now n i (with_nack f reason e))
  unfolding ends_by_nack peers_of with_nack with_sent
  ends_fits i f reason e q =
      let p : Held Request → Bool = λ h. is_peer n.faces h.face in
      omega (
        arith,
        own i e q,
        only_length p (held e.requests),
        length-map (only p (held e.requests)) (happens nacked now (with_nack f reason e)),
      )

  -- a Nack
  nack_fits : (f reason : ℕ) (i : Ask) → Fits (nack_step now n f reason i)
  unfolding nack_step sent_back nacked_entry quiet
  nack_fits f reason i =
      pick_ind Fits _ _ _ (λ _. omega (arith, one))
      (λ _. pick_ind Fits _ _ _
      (λ _. given_ind Fits _ _ _ (omega (arith, one))
      (λ e q. pick_ind Fits _ _ _
      (λ _. pick_ind Fits _ _ _ (λ _. ends_fits _ f reason e q) (λ _. omega (arith, one)))
      (λ _. omega (arith, one))))
      (λ _. omega (arith, one)))

  -- whatever it means
  pub arrives_fits : (f : ℕ) (h : Heard) → Fits (arrives now n f h)
  unfolding arrives quiet
  arrives_fits f (refused a) = omega (arith, one)
  arrives_fits f (asks i bytes) = interest_fits _
  arrives_fits f (brings d bytes) = data_fits f d bytes
  arrives_fits f (nacks reason i) = nack_fits f reason i
