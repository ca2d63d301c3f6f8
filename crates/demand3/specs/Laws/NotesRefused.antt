-- Rule books that note what did not happen, or do not note what did, and a filling of the output buffer that spoils what lies behind the
-- sends, do not meet demand 3.
-- Assumes nothing.
use Rattle.std.specs.Prelude.{ℕ, ◌+◌, ◌≡◌, refl, false, [], ◌∷◌, ◌++◌, length, get_or, replicate}
use Rattle.std.proofs.Common.{ap, arith}
use Rattle.std.proofs.Math.Option.{some-injective}
use Rattle.std.proofs.lemmas.List.{length-replicate}
use Rattle.sizes.specs.Sizes.{most_faces, least_buffer, most_time}
use Rattle.records.specs.Entry.{Sent}
use Rattle.records.specs.Rows.{fate_number}
use Rattle.rules.specs.Node.{packet, clock}
use Rattle.rules.specs.Outcome.{Outcome, kind_number}
use Rattle.rules.specs.Packed.{packed, packed_from}
use Rattle.rules.specs.Step.{paper_step}
use Rattle.rules.specs.Laws.Compute.{computed}
use Rattle.incoming.specs.Incoming.{came_in, heard_in}
use Rattle.history.specs.Key.{counted, open_in, open_now, is_fate, is_end, key_of, key_at, of_face, is_of, stands}
use Rattle.history.specs.Lists.{how_many}
use Rattle.history.specs.Turns.{turns}
use Rattle.history.specs.Moments.{last_of, moments}
use Rattle.history.specs.Sends.{filled_to}
use Rattle.history.specs.Asked.{is_for, sends_on, is_pending, sent_by, closes_face, out_by}
use Rattle.history.specs.Laws.Every.{not_none}
use Rattle.history.specs.Laws.Runs.{at, a, asks_a, asked, asked_twice}
use Rattle.demand3.specs.Demand3.{Demand3}
use Rattle.demand3.specs.Laws.Books.{notes_renewal, hides_expiries, records_unsent, forgets_sent, stops_clock, ages_refused, zeroing}
use Rattle.demand3.specs.Laws.Looking.{last_event, all_at, refused_same, timed_after}

-- `turns`: the request opens twice
pub notes_renewal_refused : Demand3 most_faces least_buffer notes_renewal packed → ⊥
unfolding computed notes_renewal turns is_of is_end is_fate fate_number key_of key_at stands
notes_renewal_refused d = not_none (d.turns 1 a false false (asked ++ (at 200 (packet 1 (asks_a 5)) ∷ [])))

-- `accounted`: the request opened, and neither ended nor stands
pub hides_expiries_refused : Demand3 most_faces least_buffer hides_expiries packed → ⊥
unfolding computed hides_expiries counted how_many is_fate fate_number key_of key_at of_face open_now open_in
hides_expiries_refused d =
    let k : ◌≡◌ {A = ℕ} 1 0 = d.accounted (of_face 1) (asked ++ (at 4100 clock ∷ [])) in
    omega arith

-- `asked`, `outs`: the out-record is not that of the Interest that was sent
pub records_unsent_refused : Demand3 most_faces least_buffer records_unsent packed → ⊥
unfolding computed records_unsent last_of out_by closes_face sent_by is_for sends_on is_pending kind_number heard_in came_in
records_unsent_refused d =
    let s = some-injective _ _ ((all_at 0 (d.asked (asked ++ (at 150 (packet 1 (asks_a 5)) ∷ [])))).outs 2) in
    let k : ◌≡◌ {A = ℕ} 150 100 = ap (λ (x : Sent). x.time) s in
    omega arith

-- `asked`, `outs`: an out-record is lost
pub forgets_sent_refused : Demand3 most_faces least_buffer forgets_sent packed → ⊥
unfolding computed forgets_sent last_of out_by closes_face sent_by is_for sends_on is_pending kind_number heard_in came_in
forgets_sent_refused d = not_none ((all_at 0 (d.asked asked_twice)).outs 2)

-- `timed`: the last time is not that of the clock reading
pub stops_clock_refused : Demand3 most_faces least_buffer stops_clock packed → ⊥
unfolding computed stops_clock
stops_clock_refused d =
    let m = last_event d asked (at 200 clock) in
    let k : ◌≡◌ {A = ℕ} 100 200 = timed_after m refl in
    omega arith

-- `refuses`: what the clock refuses changes nothing
pub ages_refused_refused : Demand3 most_faces least_buffer ages_refused packed → ⊥
unfolding computed ages_refused
ages_refused_refused d =
    let m = last_event d asked (at (most_time + 1) clock) in
    let k : ◌≡◌ {A = ℕ} 1 0 = ap (λ (o : Outcome). length o.happenings) (refused_same m refl) in
    omega arith

-- `filled`, `rest`: behind the sends the buffer is not what it was
pub zeroing_refused : Demand3 most_faces least_buffer paper_step zeroing → ⊥
unfolding computed zeroing packed packed_from filled_to moments
zeroing_refused d =
    let f = all_at 0 (d.filled (at 0 clock ∷ [])) (replicate least_buffer 1) (omega (arith, length-replicate {A = ℕ} least_buffer 1)) in
    let k : ◌≡◌ {A = ℕ} 0 1 = ap (λ l. get_or l 0 9) f.rest in
    omega arith
