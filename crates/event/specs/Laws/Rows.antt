-- Past ageing there is a row for the end of every request that is left, and one for an opening: what an event notes then is noted whole.
-- Assumes nothing.
use Rattle.std.specs.Prelude.{ℕ, ◌+◌, ◌≤◌, ◌≡◌, Bool}
use Rattle.std.proofs.Common.{sym, ◌∙◌}
use Rattle.std.proofs.Math.Path.{ap}
use mathlib.Core.List.{List, map, append-nil}
use Rattle.std.proofs.Math.Option.{some}
use denote.Triple.Both.{Both}
use native.Mathlib.Omega.{arith}
use Rattle.std.proofs.Math.Nat.{zero-add}
use Rattle.std.proofs.Math.ListN.{length, length-map}
use Rattle.std.proofs.lemmas.List.Edits.{sets}
use Rattle.answers.specs.declared.Answer.{Answer}
use Rattle.answers.specs.Number.{number_of}
use Rattle.sizes.specs.Sizes.{most_faces, most_entries, most_time, least_buffer}
use Rattle.records.specs.Slots.{at_place, held, only, each}
use Rattle.records.specs.Entry.{Entry}
use Rattle.records.specs.Happening.{Fate, Happening}
use Rattle.records.specs.Rows.{row_of}
use Rattle.records.specs.Ageing.{expiries, aged_pending}
use Rattle.records.specs.Closing.{closing_ends}
use Rattle.happenings.specs.Noted.{most_rows, Notes}
use Rattle.pending_table.specs.Places.View.{view_few, view_faces}
use Rattle.pending_pass.specs.Ages.{aged_rows}
use Rattle.pending_pass.specs.Asked.{asked}
use Rattle.pending_pass.specs.Satisfies.{ends_by}
use Rattle.pending_pass.specs.Laws.Asked as pass
use Rattle.rules.specs.Node.{Node}
use Rattle.rules.specs.Outcome.{Outcome, quiet}
use Rattle.rules.specs.Packed.{packed, packed_from}
use Rattle.rules.specs.Ageing.{aged, ageing}
use Rattle.rules.specs.Step.{after_ageing}
use Rattle.event.specs.declared.Came.{Came}
use Rattle.event.specs.declared.Memory.{Memory}
use Rattle.event.specs.Memory.{Table, Output, node_of}
use Rattle.sending.specs.Rows.{send_row}
use Rattle.event.specs.Begun.{begun}
use Rattle.event.specs.Comes.{Comes, Begun}
use Rattle.event.specs.Laws.Begun.{begun_on, begun_timely, begun_roomy}

-- happenings that have their rows are noted whole
pub notes_whole : (r k : ℕ) (after before : Table) (hs : List Happening) → k + length hs ≤ most_rows
    → Notes most_rows r after before k (map row_of hs) → (r ≡ k + length hs) × (after ≡ sets before k (map row_of hs))
notes_whole r k after before hs room a =
    let l : length (map row_of hs) ≡ length hs = length-map hs row_of in
    (a.made (omega (arith, l, room)) ∙ omega (arith, l), a.rows)

-- an outcome whose sends are packed and whose happenings, which have their rows, are noted after the first k
pub comes_noted : (k : ℕ) (x : Outcome) (r : Came) (n : Node) (o o' : Output) → r.answer ≡ x.answer → n ≡ x.node
    → r.sent ≡ length x.sends → o'.sends ≡ sets o.sends 0 (map send_row (packed x.sends o.buffer).places)
    → o'.buffer ≡ (packed x.sends o.buffer).buffer → k + length x.happenings ≤ most_rows
    → Notes most_rows r.made o'.rows o.rows k (map row_of x.happenings) → Comes k x r n o o'
comes_noted k x r n o o' ea en et es eb room a =
    let w = notes_whole r.made k o'.rows o.rows x.happenings room a in
    record { answer = ea; node = en; sent = et; sends = es; buffer = eb; made = w.0; rows = w.1 }

module _ (m : Memory) where
  -- in any memory an entry has a slot for each face
  entries_wide : (i : ℕ) (e : Entry) → at_place i (node_of m).pending ≡ some e → length e.requests ≡ most_faces
  unfolding node_of
  entries_wide i e p = (view_faces m.pending i e p).0

  -- and there are no more entries than the table has rows
  entries_few : length (node_of m).pending ≤ most_entries
  unfolding node_of
  entries_few = view_few m.pending

  -- of any memory: past ageing there is a row for the end of every request that is left, and one for an opening
  pub rows_left : (now : ℕ) → length (ageing now (node_of m)) + asked (aged now (node_of m)).pending + 1 ≤ most_rows
  unfolding ageing aged aged_rows
  rows_left now =
      omega (
        arith,
        pass.rows_left now (node_of m).pending entries_wide entries_few,
        length-map (each (expiries now) (node_of m).pending) row_of,
      )

module _ (time : ℕ) (bad : Bool) (b : Came) (m : Both Memory Memory) (o : Both Output Output) (h : Begun time bad b m o)
    (d : number_of b.answer ≡ 0) where
  -- the entries before the event
  abbrev es : List Entry
  es = (node_of m.entry).pending

  -- the entries past ageing
  abbrev es' : List Entry
  es' = (node_of m.exit).pending

  -- where an event goes on, its outcome so far is ageing's
  on : begun least_buffer time (length o.entry.buffer) bad (node_of m.entry)
      ≡ after_ageing (ageing time (node_of m.entry)) (quiet Answer.Done (aged time (node_of m.entry)))
  on = begun_on least_buffer time (length o.entry.buffer) bad (node_of m.entry) (ap number_of (sym h.answer) ∙ d)

  -- the last time is the event's
  pub begun_now : (node_of m.exit).time ≡ time
  unfolding after_ageing quiet aged
  begun_now = ap (λ n. n.time) h.node ∙ ap (λ x. x.node.time) on

  -- it is not above 2^53
  pub begun_in_time : time ≤ most_time
  begun_in_time = begun_timely least_buffer time (length o.entry.buffer) bad (node_of m.entry) (ap number_of (sym h.answer) ∙ d)

  -- the buffer is as it was
  pub begun_buffer : o.exit.buffer ≡ o.entry.buffer
  unfolding after_ageing quiet packed packed_from
  begun_buffer = h.buffer ∙ ap (λ x. (packed x.sends o.entry.buffer).buffer) on

  -- and long enough
  pub begun_long : least_buffer ≤ length o.exit.buffer
  begun_long =
      rw begun_buffer
      (begun_roomy least_buffer time (length o.entry.buffer) bad (node_of m.entry) (ap number_of (sym h.answer) ∙ d))

  -- there are as many rows as requests expired
  pub begun_made : b.made ≡ length (aged_rows time es)
  unfolding after_ageing quiet ageing aged_rows
  begun_made =
      h.made ∙ zero-add _ ∙ ap (λ x. length x.happenings) on
      ∙ rw append-nil (sym (length-map (each (expiries time) es) row_of))

  -- the entries are aged
  pub begun_pending : es' ≡ aged_pending time es
  unfolding after_ageing quiet aged
  begun_pending = ap (λ n. n.pending) h.node ∙ ap (λ x. x.node.pending) on

  -- so there is a row for the end of every request that is left, and one for an opening
  pub begun_left : b.made + asked es' + 1 ≤ most_rows
  begun_left = rw (begun_made, begun_pending) (pass.rows_left time es (entries_wide m.entry) (entries_few m.entry))

  -- for an opening
  pub begun_opening : b.made + 1 ≤ most_rows
  begun_opening = omega (arith, begun_left)

  -- for each end by Data
  pub begun_data : (fate : ℕ → Fate) (p : Entry → Bool) → b.made + length (each (ends_by fate time) (only p es')) ≤ most_rows
  begun_data fate p =
      rw (begun_made, begun_pending)
      (omega (
        arith,
        pass.data_room time es (entries_wide m.entry) (entries_few m.entry) fate p,
        length-map (each (ends_by fate time) (only p (aged_pending time es))) row_of,
      ))

  -- for each end by closing a face
  pub begun_closing : (f : ℕ) → b.made + length (each (closing_ends time f) es') ≤ most_rows
  begun_closing f =
      rw (begun_made, begun_pending)
      (omega (
        arith,
        pass.closing_room time es (entries_wide m.entry) (entries_few m.entry) f,
        length-map (each (closing_ends time f) (aged_pending time es)) row_of,
      ))

  -- and for each request of one entry
  pub begun_entry : (i : ℕ) (e : Entry) → at_place i es' ≡ some e → b.made + length (held e.requests) ≤ most_rows
  begun_entry i e p =
      rw begun_made
      (pass.entry_room time es (entries_wide m.entry) (entries_few m.entry) i e (ap (at_place i) (sym begun_pending) ∙ p))
