-- A Data from the store sent back, as the code does it.
-- Assumes nothing.
use Rattle.std.specs.Prelude.{ℕ, ◌≤◌, ◌≡◌, List, [], ◌∷◌, length}
use Rattle.std.proofs.Math.Path.{refl, sym, ap}
use Rattle.std.proofs.Common.{◌∙◌}
use Rattle.std.proofs.Math.Option.{some}
use Rattle.answers.specs.declared.Answer.{Answer}
use Rattle.sizes.specs.Sizes.{most_packet, least_buffer}
use Rattle.packethead.specs.Name.{name_of}
use Rattle.records.specs.Class.{class_of, class_number}
use Rattle.records.specs.Slots.{given, at_place}
use Rattle.records.specs.Route.{longest}
use Rattle.records.specs.Stored.{Hit, touched}
use Rattle.routes.specs.Places.View as routes
use Rattle.store.specs.declared.Store.{Store}
use Rattle.store.specs.Operations.{recent}
use Rattle.store.specs.Places.View.{view, view_name}
use Rattle.rules.specs.Outcome.{dat, route_class, name_class}
use Rattle.rules.specs.Interest.{Arrival, served}
use Rattle.sending.specs.Rows.{Packs, if_room}
use Rattle.sending.specs.Laws.One.{packet_fits}
use Rattle.sending.specs.Laws.Refusal.{class_said}
use Rattle.event.specs.declared.Memory.{Memory}
use Rattle.event.specs.Memory.{Table, node_of}
use Rattle.coming.specs.Goes.{Goes}
use Rattle.coming.specs.Laws.Goes.{goes_sends}
use Rattle.opening.specs.Places.Asked.{came}

-- the Data that was packed is that of the hit, which is the most recent then
pub served_goes : (m : Memory) (k f : ℕ) (a : Arrival) (h : Hit) (j : ℕ) (bytes name : List ℕ) (w t : ℕ) (s : Store)
    (rows rows' : Table) (b b' : List ℕ) (hs : Table) → a.face ≡ f → h.place ≡ j
    → at_place j (view m.store) ≡ some h.what
    → length bytes ≤ most_packet → least_buffer ≤ length b
    → bytes ≡ given [] (λ d. d.bytes) (at_place j (view m.store)) → name ≡ name_of bytes
    → w ≡ class_number (route_class (longest name (routes.view m.routes)))
    → Packs (if_room bytes b (record { face = f; kind = dat; cls = class_of w; bytes = bytes } ∷ [])) t rows rows' b b'
    → view s ≡ recent j (view m.store)
    → Goes k (served (node_of m) a h)
    (came Answer.Done t k) (node_of (record m { store = s }))
    (record { sends = rows; buffer = b; rows = hs }) (record { sends = rows'; buffer = b'; rows = hs })
unfolding served node_of name_class
served_goes m k f a h j bytes name w t s rows rows' b b' hs ef ej e fits room eb en ew p es =
    let own : bytes ≡ h.what.bytes = eb ∙ ap (given [] (λ d. d.bytes)) e ∙ unfold given in refl in
    let called : name ≡ h.what.name = en ∙ ap name_of own ∙ sym (view_name _ j h.what e) in
    let made : view s ≡ touched h (view m.store) =
    es ∙ unfold recent touched given in rw (e, ej) in
    let c : class_of w ≡ route_class (longest h.what.name (routes.view m.routes)) =
    rw (ew, called) (class_said _ _) in
    let q : Packs (record { face = f; kind = dat; cls = class_of w; bytes = bytes } ∷ []) t rows rows' b b' =
    rw (packet_fits bytes b (record { face = f; kind = dat; cls = class_of w; bytes = bytes } ∷ []) fits room) at p in
    goes_sends k Answer.Done _ _ _ t rows rows' b b' hs (rw made) (rw (c, own, ← ef) at q)
