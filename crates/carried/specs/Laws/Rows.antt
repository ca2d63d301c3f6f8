-- In any memory there is a row for each happening of any event (`step_rows`).
-- Assumes nothing.
use Rattle.std.specs.Prelude.{ℕ, ◌+◌, ◌≤◌, ◌≡◌, length}
use Rattle.std.proofs.Math.Path.{sym}
use Rattle.std.proofs.Common.{length-append}
use Rattle.std.proofs.Math.Bool.{Bool}
use mathlib.Core.List.{List, [], ◌∷◌, map}
use Rattle.std.proofs.Math.Option.{some}
use native.Mathlib.Omega.{arith}
use Rattle.std.proofs.Math.ListN.{length-map}
use Rattle.laws.specs.Laws.Pick.{pick_ind}
use Rattle.sizes.specs.Sizes.{most_faces, most_entries, least_buffer}
use Rattle.records.specs.Face.{is_peer}
use Rattle.records.specs.Slots.{at_place, slot, is_some, Held, held, only, each}
use Rattle.records.specs.Entry.{Request, Entry, matches, with_nack, with_sent}
use Rattle.records.specs.Happening.{Happening, nacked, happens}
use Rattle.records.specs.Rows.{row_of}
use Rattle.records.specs.Ageing.{expiries, aged_pending}
use Rattle.records.specs.Closing.{closing_ends}
use Rattle.records.specs.Laws.Each.{only_length}
use Rattle.happenings.specs.Noted.{most_rows}
use Rattle.pending_table.specs.Places.View.{view_few, view_faces}
use Rattle.pending_pass.specs.Ages.{aged_rows}
use Rattle.pending_pass.specs.Satisfies.{ends_by}
use Rattle.pending_pass.specs.Laws.Asked.{rows_few, opening_room, data_room, closing_room, entry_room}
use Rattle.rules.specs.Node.{Node, What, Event}
use Rattle.rules.specs.Outcome.{Outcome, quiet, nack_for}
use Rattle.rules.specs.Ageing.{aged, ageing}
use Rattle.rules.specs.Interest.{opens, opens_entry, served, sends_on, renews, asks_again}
use Rattle.rules.specs.Data.{fate_of, data_ends, satisfies}
use Rattle.rules.specs.Nack.{peers_of, ends_by_nack}
use Rattle.rules.specs.Command.{close_step}
use Rattle.rules.specs.Step.{after_ageing, paper_step}
use Rattle.event.specs.declared.Memory.{Memory}
use Rattle.event.specs.Memory.{node_of}
use Rattle.history.specs.Laws.Becomes.{Past, Becomes, arrival, brought, ignored, taken, becomes}
use Rattle.history.specs.Laws.Becomes as case

-- as many rows as happenings
row_each : (hs : List Happening) → length (map row_of hs) ≡ length hs
row_each hs = length-map hs row_of

module _ (now : ℕ) (n : Node) (wide : (i : ℕ) (e : Entry) → at_place i n.pending ≡ some e → length e.requests ≡ most_faces)
    (few : length n.pending ≤ most_entries) where
  -- happenings after ageing's that have rows
  abbrev Fits : List Happening → Type 0
  Fits hs = length (ageing now n) + length hs ≤ most_rows

  -- as many rows as requests expired
  aged_rows_lem : length (ageing now n) ≡ length (aged_rows now n.pending)
  unfolding ageing aged_rows
  aged_rows_lem = sym (length-map (each (expiries now) n.pending) row_of)

  -- none
  none_fits : Fits []
  none_fits = omega (arith, aged_rows_lem, rows_few now n.pending wide few)

  -- one
  one_row : length (ageing now n) + 1 ≤ most_rows
  one_row = omega (arith, aged_rows_lem, opening_room now n.pending wide few)

  -- whatever an event comes to past ageing
  past_fits : (w : What) (o : Outcome) → Past most_faces now (aged now n) w o → Fits o.happenings
  unfolding quiet nack_for served opens_entry asks_again renews sends_on satisfies data_ends each ends_by ends_by_nack peers_of with_nack
      with_sent close_step aged
  past_fits w o (case.unread f a h) = none_fits
  past_fits w o (case.refused f a d) = none_fits
  past_fits w o (case.turned_away v a d) = none_fits
  past_fits w o case.ticked = none_fits
  past_fits w o (case.nacked_back f q a reason h) = none_fits
  past_fits w o (case.served_from f q h found absent) = none_fits
  past_fits w o (case.opened f q r h a b c d) = omega (arith, one_row)
  past_fits w o (case.joined f q x a) =
      pick_ind Fits (is_some (slot f x.requests)) [] (opens now (arrival f q) x ∷ []) (λ _. none_fits) (λ _. omega (arith, one_row))
  past_fits w o (case.satisfied f q a) =
      omega (
        arith,
        aged_rows_lem,
        data_room now n.pending wide few (fate_of (aged now n) f) (matches (brought q).name),
        row_each (each (ends_by (fate_of (aged now n) f) now) (only (matches (brought q).name) (aged_pending now n.pending))),
      )
  past_fits w o (case.marked f q x a h z) = none_fits
  past_fits w o (case.nacked_on f q x a h z) =
      let p : Held Request → Bool = λ h. is_peer n.faces h.face in
      omega (
        arith,
        aged_rows_lem,
        entry_room now n.pending wide few _ x a,
        only_length p (held x.requests),
        length-map (only p (held x.requests)) (happens nacked now (with_nack f q.reason x)),
      )
  past_fits w o (case.opens_face f scope link a) = none_fits
  past_fits w o (case.closes_face f) =
      omega (arith, aged_rows_lem, closing_room now n.pending wide few f, row_each (each (closing_ends now f) (aged_pending now n.pending)))
  past_fits w o (case.sets_class c p x y) = none_fits
  past_fits w o (case.adds_route c p h x y d) = none_fits
  past_fits w o (case.drops_route p a) = none_fits
  past_fits w o (case.adds_hop f cost p x y) = none_fits
  past_fits w o (case.drops_hop f p a) = none_fits

-- whatever an event comes to
becomes_rows : (e : Event) (n : Node)
    → ((i : ℕ) (x : Entry) → at_place i n.pending ≡ some x → length x.requests ≡ most_faces) → length n.pending ≤ most_entries
    → (o : Outcome) → Becomes most_faces least_buffer e n o → length o.happenings ≤ most_rows
unfolding quiet after_ageing
becomes_rows e n wide few o (ignored a d) = omega arith
becomes_rows e n wide few o (taken p t f b) =
    omega (arith, past_fits e.time n wide few e.what p b, length-append (ageing e.time n) p.happenings)

-- of any memory: there is a row for each happening of an event
pub step_rows : (m : Memory) (e : Event) → length (paper_step e (node_of m)).happenings ≤ most_rows
unfolding node_of
step_rows m e =
    becomes_rows e (node_of m) (λ i x p. (view_faces m.pending i x p).0)
    (view_few m.pending) _ (becomes most_faces least_buffer e (node_of m))
