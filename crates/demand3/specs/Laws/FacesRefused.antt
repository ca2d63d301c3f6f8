-- Rule books that do not open or close faces as they are told, or that send an Interest where it may not go, do not meet demand 3.
-- Assumes nothing.
use Rattle.std.specs.Prelude.{ℕ, ◌≡◌, refl, [], ◌∷◌, ◌++◌}
use Rattle.std.proofs.Common.{sym, ◌∙◌, ap, arith}
use Rattle.std.proofs.lemmas.Bool.{false≢true}
use Rattle.sizes.specs.Sizes.{most_faces, least_buffer}
use Rattle.names.specs.Name.{under_localhost}
use Rattle.packets.specs.Meaning.{Ask}
use Rattle.records.specs.Face.{link_number}
use Rattle.rules.specs.Node.{packet, open_face, close_face, set_route, add_hop}
use Rattle.rules.specs.Packed.{packed}
use Rattle.rules.specs.Laws.Compute.{computed}
use Rattle.incoming.specs.Laws.Incoming.{bytes_hears}
use Rattle.history.specs.Moments.{last_of}
use Rattle.history.specs.SetUp.{face_by, hop_by}
use Rattle.history.specs.Laws.Every.{not_none}
use Rattle.history.specs.Laws.Runs.{at, a, asks_a, asks_localhost, ready, asked}
use Rattle.demand3.specs.Demand3.{Demand3}
use Rattle.demand3.specs.Laws.Books.{opens_nothing, closes_nothing, leaves_hops, keeps_idle, leaks_localhost, sends_back}
use Rattle.demand3.specs.Laws.Looking.{no, last_event, all_at, ask_one, one_link, one_scope}

-- `set_up`, `opened`: the face that was opened is not open
pub opens_nothing_refused : Demand3 most_faces least_buffer opens_nothing packed → ⊥
unfolding computed opens_nothing face_by last_of
opens_nothing_refused d = not_none ((d.set_up (at 0 (open_face 1 1 0) ∷ [])).opened 1)

-- `closed`: the face that was closed is open
pub closes_nothing_refused : Demand3 most_faces least_buffer closes_nothing packed → ⊥
unfolding computed closes_nothing
closes_nothing_refused d =
    let m = last_event d (at 0 (open_face 1 1 0) ∷ []) (at 0 (close_face 1)) in
    not_none (sym (m.closed 1 refl refl).face)

-- `set_up`, `hops`: a hop stands on a face that was closed
pub leaves_hops_refused : Demand3 most_faces least_buffer leaves_hops packed → ⊥
unfolding computed leaves_hops hop_by last_of
leaves_hops_refused d = not_none (sym ((d.set_up (ready 1 a ++ (at 1 (close_face 2) ∷ []))).hops 2 a))

-- `shaped`: an entry without requests stands
pub keeps_idle_refused : Demand3 most_faces least_buffer keeps_idle packed → ⊥
unfolding computed keeps_idle
keeps_idle_refused d = false≢true (sym (all_at 0 (d.shaped (asked ++ (at 200 (close_face 1) ∷ []))).pending.each).busy)

-- `leaving`: the hop is not local
pub leaks_localhost_refused : Demand3 most_faces least_buffer leaks_localhost packed → ⊥
unfolding computed leaks_localhost
leaks_localhost_refused d =
    let m = last_event d (at 0 (open_face 1 0 0) ∷ at 0 (open_face 2 1 0) ∷ at 0 (set_route 1 []) ∷ at 0 (add_hop 2 10 []) ∷ [])
    (at 100 (packet 1 asks_localhost)) in
    let s = all_at 0 m.leaving in
    let q = (ask_one (bytes_hears _ 1 asks_localhost) s.came).1 in
    let h = s.may.localhost (sym (ap (λ (i : Ask). under_localhost i.name) q)) in
    no (one_scope h.1 ∙ h.2)

-- `leaving`: the hop is the face on which the Interest came, which is not ad hoc
pub sends_back_refused : Demand3 most_faces least_buffer sends_back packed → ⊥
unfolding computed sends_back
sends_back_refused d =
    let m = last_event d (at 0 (open_face 1 1 0) ∷ at 0 (set_route 1 a) ∷ at 0 (add_hop 1 10 a) ∷ []) (at 100 (packet 1 (asks_a 4))) in
    let s = all_at 0 m.leaving in
    let q = (ask_one (bytes_hears _ 1 (asks_a 4)) s.came).0 in
    let h = rw (← q) at (s.may.other q) in
    let k : ◌≡◌ {A = ℕ} 0 2 = one_link h.1 ∙ ap link_number h.2 in
    omega arith
