-- Rule books that guess or change a class, or that share room other than by the classes, do not meet demand 3.
-- Assumes nothing.
use Rattle.std.specs.Prelude.{ℕ, ◌≤◌, ◌≡◌, refl, [], ◌∷◌, ◌++◌}
use Rattle.std.proofs.Common.{◌∙◌, ap, ⊎_elim, arith}
use Rattle.std.proofs.Math.Option.{some-injective}
use Rattle.answers.specs.Number.{number_of}
use Rattle.sizes.specs.Sizes.{most_faces, least_buffer}
use Rattle.records.specs.Class.{bulk, class_number}
use Rattle.records.specs.Route.{Route}
use Rattle.rules.specs.Node.{Node, packet, set_route}
use Rattle.rules.specs.Packed.{packed}
use Rattle.rules.specs.Laws.Compute.{computed}
use Rattle.incoming.specs.Laws.Incoming.{bytes_hears}
use Rattle.history.specs.Moments.{last_of}
use Rattle.history.specs.Classes.{class_at, given_by}
use Rattle.history.specs.Asked.{is_for, is_pending, classed_by}
use Rattle.history.specs.Laws.Runs.{at, a, asks_a, asks_for, ready, asked, openings}
use Rattle.demand3.specs.Demand3.{Demand3}
use Rattle.demand3.specs.Laws.Books.{lowers_monitoring, lowers_all, guesses_class, keeps_word, refuses_alarm, refuses_bulk, room_by_places}
use Rattle.demand3.specs.Laws.Looking.{no, last_event, all_at, done_same, routed_is}

-- `room`, `grows`: the use of bulk grows by an Interest whose longest route is monitoring
pub lowers_monitoring_refused : Demand3 most_faces least_buffer lowers_monitoring packed → ⊥
unfolding computed lowers_monitoring
lowers_monitoring_refused d =
    let m = last_event d (ready 2 a) (at 100 (packet 1 (asks_a 4))) in
    ⊎_elim (λ h. let k : ◌≡◌ {A = ℕ} 100 0 = ap (λ (n : Node). n.time) h in omega arith)
    (⊎_elim (λ h. let k : 1 ≤ 0 = h in omega arith)
    (λ x.
    let q = routed_is x.1 (bytes_hears _ 1 (asks_a 4)) _ refl in
    let k : ◌≡◌ {A = ℕ} 2 3 = ap (λ (r : Route). class_number r.cls) q ∙ ap class_number x.2 in
    omega arith))
    (m.room.grows bulk refl)

-- `asked`, `cls`: the entry's class is not that of the longest route for its name
pub lowers_all_refused : Demand3 most_faces least_buffer lowers_all packed → ⊥
unfolding computed lowers_all last_of classed_by is_for is_pending
lowers_all_refused d =
    let k : ◌≡◌ {A = ℕ} 1 3 = ap class_number (some-injective _ _ (all_at 0 (d.asked asked)).cls) in
    omega arith

-- `set_up`, `classes`: the route has not the class that was given
pub guesses_class_refused : Demand3 most_faces least_buffer guesses_class packed → ⊥
unfolding computed guesses_class class_at given_by last_of
guesses_class_refused d =
    let k : ◌≡◌ {A = ℕ} 3 0 = ap class_number (some-injective _ _ ((d.set_up (at 0 (set_route 0 a) ∷ [])).classes a)) in
    omega arith

-- `classes`: a route has none of the three
pub keeps_word_refused : Demand3 most_faces least_buffer keeps_word packed → ⊥
unfolding computed keeps_word
keeps_word_refused d = no (all_at 0 (d.classes (at 0 (set_route 0 a) ∷ [])).routes)

-- `room`, `full`: the alarm class has not used its reserve
pub refuses_alarm_refused : Demand3 most_faces least_buffer refuses_alarm packed → ⊥
unfolding computed refuses_alarm
refuses_alarm_refused d =
    let m = last_event d (ready 1 a) (at 100 (packet 1 (asks_a 4))) in
    let x = m.room.full refl in
    let q = routed_is x.1 (bytes_hears _ 1 (asks_a 4)) _ refl in
    let k : 24 ≤ 0 = rw (← q) at x.2 in
    omega arith

-- `room`, `most`: the sum over the classes exceeds 64
pub room_by_places_refused : Demand3 most_faces least_buffer room_by_places packed → ⊥
unfolding computed room_by_places openings
room_by_places_refused d =
    let m = last_event d (ready 3 [] ++ openings 24) (at 100 (packet 1 (asks_for 24))) in
    let k : 65 ≤ 64 = m.room.most in
    omega arith

-- `done`: no check applies, and the answer is not 0
pub refuses_bulk_refused : Demand3 most_faces least_buffer refuses_bulk packed → ⊥
unfolding computed refuses_bulk
refuses_bulk_refused d =
    let m = last_event d (ready 3 a) (at 100 (packet 1 (asks_a 4))) in
    let k : ◌≡◌ {A = ℕ} 10 0 = ap number_of (done_same m refl) in
    omega arith
