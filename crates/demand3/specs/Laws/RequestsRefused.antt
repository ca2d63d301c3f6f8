-- Rule books that lose requests, or let them live on, do not meet demand 3.
-- Assumes nothing.
use Rattle.std.specs.Prelude.{ℕ, ◌<◌, ◌≡◌, refl, [], ◌∷◌, ◌++◌}
use Rattle.std.proofs.Common.{ap, ⊎_elim, arith}
use Rattle.std.proofs.Math.Option.{some-injective}
use Rattle.sizes.specs.Sizes.{most_faces, least_buffer, most_time}
use Rattle.records.specs.Entry.{Request}
use Rattle.rules.specs.Node.{packet, clock}
use Rattle.rules.specs.Packed.{packed}
use Rattle.rules.specs.Laws.Compute.{computed}
use Rattle.incoming.specs.Incoming.{came_in, heard_in}
use Rattle.incoming.specs.Laws.Incoming.{bytes_hears}
use Rattle.history.specs.Moments.{last_of}
use Rattle.history.specs.Asked.{is_for, asked_by}
use Rattle.history.specs.Laws.Every.{not_none}
use Rattle.history.specs.Laws.Runs.{at, a, asks_a, asks_for, ready, asked, openings}
use Rattle.demand3.specs.Demand3.{Demand3}
use Rattle.demand3.specs.Laws.Books.{throws_out, keeps_expiry, renews_forever, drops_monitoring, keeps_expired, opens_unsent}
use Rattle.demand3.specs.Laws.Looking.{no, last_event, all_at, stood_found, taken_found, taken_left, live_after}

-- `honest`: what is noted as expired did not stand with that expiry
pub throws_out_refused : Demand3 most_faces least_buffer (throws_out 30) packed → ⊥
unfolding computed throws_out openings
throws_out_refused d =
    let m = last_event d (ready 1 [] ++ openings 30) (at 100 (packet 1 (asks_for 31))) in
    no (stood_found (all_at 1 m.honest).says.stood)

-- `taken`: the request does not stand with the expiry that the Interest gives it
pub keeps_expiry_refused : Demand3 most_faces least_buffer keeps_expiry packed → ⊥
unfolding computed keeps_expiry
keeps_expiry_refused d =
    let m = last_event d asked (at 200 (packet 1 (asks_a 5))) in
    no (taken_found (m.taken 1 _ _ (bytes_hears _ 1 (asks_a 5)) refl) refl)

-- `asked`, `requests`: the request that stands is not the one that the Interest made
pub renews_forever_refused : Demand3 most_faces least_buffer renews_forever packed → ⊥
unfolding computed renews_forever last_of asked_by is_for heard_in came_in
renews_forever_refused d =
    let r = some-injective _ _ ((all_at 0 (d.asked (asked ++ (at 200 (packet 1 (asks_a 5)) ∷ [])))).requests 1 _ refl) in
    let k : ◌≡◌ {A = ℕ} 4200 most_time = ap (λ (x : Request). x.expiry) r in
    omega arith

-- `taken`: the Interest stands nowhere
pub drops_monitoring_refused : Demand3 most_faces least_buffer drops_monitoring packed → ⊥
unfolding computed drops_monitoring
drops_monitoring_refused d =
    let m = last_event d (ready 2 a) (at 100 (packet 1 (asks_a 4))) in
    no (taken_found (m.taken 1 _ _ (bytes_hears _ 1 (asks_a 4)) refl) refl)

-- `live`: a request that is over stands after a clock reading
pub keeps_expired_refused : Demand3 most_faces least_buffer keeps_expired packed → ⊥
unfolding computed keeps_expired came_in
keeps_expired_refused d =
    let m = last_event d asked (at 5000 clock) in
    ⊎_elim (λ h. let k : 5000 < 4100 = h in omega arith) (λ x. not_none x.2.comes)
    (all_at 0 (live_after m refl) 1 _ refl)

-- `taken`: where no entry stood, the Interest left on no face
pub opens_unsent_refused : Demand3 most_faces least_buffer opens_unsent packed → ⊥
unfolding computed opens_unsent
opens_unsent_refused d =
    let m = last_event d (ready 1 a) (at 100 (packet 1 (asks_a 4))) in
    taken_left (m.taken 1 _ _ (bytes_hears _ 1 (asks_a 4)) refl) refl refl refl
