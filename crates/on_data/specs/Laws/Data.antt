-- A Data over all tables: each way that the code takes comes to what the rules say of the node that the memory means.
-- Assumes nothing.
use Rattle.std.specs.Prelude.{ℕ, ◌≤◌, min, ◌≡◌, Bool, true, false, List, length, Ok, Err}
use Rattle.std.proofs.Math.Path.{refl, sym}
use Rattle.std.proofs.Common.{◌∙◌}
use Rattle.answers.specs.declared.Answer.{Answer}
use Rattle.laws.specs.Laws.Pick.{pick_yes, pick_no}
use Rattle.sizes.specs.Sizes.{most_faces, most_packet, most_freshness, least_buffer}
use Rattle.names.specs.Fingerprint.{fnv_start, fingerprint}
use Rattle.packethead.specs.Name.{name_of}
use Rattle.packets.specs.declared.bare.Data.{Data}
use Rattle.records.specs.Face.{is_ad_hoc_face}
use Rattle.faces.specs.Set.{has_face}
use Rattle.faces.specs.Places.View as faces
use Rattle.pending_table.specs.Places.View as pending
use Rattle.pending_table.specs.declared.Pending.{Pending}
use Rattle.pending_pass.specs.Satisfies.{Satisfies}
use Rattle.store.specs.declared.Store.{Store}
use Rattle.store.specs.Places.View as store
use Rattle.store.specs.Operations.{Puts}
use Rattle.dead.specs.Places.View as dead
use Rattle.dead.specs.declared.Dead.{Dead}
use Rattle.rules.specs.Node.{Node}
use Rattle.rules.specs.Interest.{out_of_scope}
use Rattle.rules.specs.Data.{data_step}
use Rattle.sending.specs.Rows.{Packs, if_room, copies_from}
use Rattle.sending.specs.Laws.One.{packet_fits}
use Rattle.event.specs.declared.Memory.{Memory}
use Rattle.event.specs.declared.Came.{Came}
use Rattle.event.specs.Memory.{Table, Output, node_of}
use Rattle.event.specs.Places.Begins.{allowed}
use Rattle.event.specs.Laws.Allowed.{allowed_err, allowed_refuses, allowed_zero}
use Rattle.coming.specs.Goes.{Goes, guard_says}
use Rattle.coming.specs.Places.Found.{offer_found}
use Rattle.on_data.specs.Places.Brings.{data_on, brings}
use Rattle.coming.specs.Laws.Guard.{guard_stops, guard_goes}
use Rattle.coming.specs.Laws.Goes.{goes_by, goes_quiet}
use Rattle.on_data.specs.Laws.Brings.{pending_said, puts_stored, goes_unsolicited, goes_satisfies}

module _ (m : Memory) (face made : ℕ) (bare : List ℕ) (d : Data) where
  module _ (p : Pending) (lines : Dead) (made' copies : ℕ) (adhoc : Bool) (words name : List ℕ) (rs rs' : Table) (en : name ≡ name_of bare)
      (a : Satisfies (fingerprint fnv_start) m.time face adhoc name (pending.view m.pending) (dead.view m.dead) rs made
      (pending.view p) (dead.view lines) rs' made' words copies)
      (x y : ℕ) (ex : x ≡ length (pending.view p)) (ey : y ≡ length (pending.view m.pending)) where
    -- a Data that matches no entry
    pub brings_none : (r : Came) (ss : Table) (b : List ℕ) → x ≡ y → r ≡ record { answer = Answer.Unsolicited; sent = 0; made = made' }
        → Goes made (brings face (offer_found bare d) bare (node_of m)) r
        (node_of (record { time = m.time; faces = m.faces; routes = m.routes; pending = p; store = m.store; dead = lines }))
        (record { sends = ss; buffer = b; rows = rs }) (record { sends = ss; buffer = b; rows = rs' })
    unfolding node_of offer_found
    brings_none r ss b z w =
        rw w
        (goes_unsolicited (node_of m) face (offer_found bare d) bare adhoc made _ _ rs rs' made' words copies (rw en at a) _ ss
        b (sym ex ∙ z ∙ ey) refl refl refl)

    -- a Data that is stored and ends requests
    pub brings_some : (r : Came) (fits : Bool) (s : Store) (fresh sent : ℕ) (ss ss' : Table) (b b' : List ℕ) → (x ≡ y → ⊥)
        → adhoc ≡ is_ad_hoc_face (faces.view m.faces) face → length bare ≤ most_packet → least_buffer ≤ length b
        → fresh ≡ min d.freshness most_freshness
        → Puts fits (store.view s) (store.data_of bare m.time fresh) (store.view m.store)
        → Packs (if_room bare b (copies_from (has_face most_faces copies) words bare 1 most_faces)) sent ss ss' b b'
        → r ≡ record { answer = Answer.Done; sent = sent; made = made' }
        → Goes made (brings face (offer_found bare d) bare (node_of m)) r
        (node_of (record { time = m.time; faces = m.faces; routes = m.routes; pending = p; store = s; dead = lines }))
        (record { sends = ss; buffer = b; rows = rs }) (record { sends = ss'; buffer = b'; rows = rs' })
    unfolding node_of offer_found
    brings_some r fits s fresh sent ss ss' b b' z eh few room ef put t w =
        rw w
        (goes_satisfies (node_of m) face (offer_found bare d) bare adhoc made _ _ rs rs' made' words copies (rw en at a) _
        ss ss' b b' _ (λ v. z (ex ∙ v ∙ sym ey)) eh (faces.view_length most_faces m.faces) (pending_said m.pending)
        (puts_stored fits _ _ bare m.time fresh (min d.freshness most_freshness) few ef put)
        (rw (packet_fits bare b _ few room) at t) refl refl)

  module _ (name : List ℕ) (o : Output) (en : name ≡ name_of bare) where
    -- what is asked again of the name that is found
    abbrev says : Answer
    says = guard_says m.time (length o.buffer) (length bare) (length name)

    -- what is asked again, of the name that the packet has
    asks : says ≡ guard_says m.time (length o.buffer) (length bare) (length (name_of bare))
    asks = rw en

    -- what is asked again is against it
    pub data_stops : (r : Came) (y : Answer) → allowed says ≡ Err y → r ≡ record { answer = y; sent = 0; made = made }
        → Goes made (data_on face bare d o (node_of m)) r (node_of m) o o
    unfolding node_of
    data_stops r y e w =
        rw (w, allowed_err says y e)
        (goes_by _ _ _ _ _ _ _
        (guard_stops (node_of m) _ (length o.buffer) (length bare) (length (name_of bare)) says asks (allowed_refuses says y e))
        (goes_quiet made says (record { answer = says; sent = 0; made = made }) (node_of m) o refl refl refl))

    module _ (u : Unit {0}) (e : allowed says ≡ Ok u) (b : Bool)
        (scope : (x : Node) → x.faces ≡ faces.view m.faces → b ≡ out_of_scope x face name) where
      -- what is asked again is not
      goes : data_on face bare d o (node_of m) ≡ data_step m.time (node_of m) face (offer_found bare d) bare
      unfolding node_of
      goes =
          guard_goes (node_of m) _ (length o.buffer) (length bare) (length (name_of bare)) says asks (allowed_zero says u e)

      -- whether it is out of scope
      out : b ≡ out_of_scope (node_of m) face (name_of bare)
      unfolding node_of
      out = rw en at (scope (node_of m) refl)

      -- "under /localhost from a non-local face"
      pub data_scope : (r : Came) → b ≡ true → r ≡ record { answer = Answer.Scope; sent = 0; made = made }
          → Goes made (data_on face bare d o (node_of m)) r (node_of m) o o
      unfolding data_step offer_found
      data_scope r v w =
          rw w
          (goes_by _ _ _ _ _ _ _ (goes ∙ pick_yes _ _ _ (sym out ∙ v))
          (goes_quiet made Answer.Scope (record { answer = Answer.Scope; sent = 0; made = made }) (node_of m) o refl refl refl))

      -- in scope it is brought
      pub data_brings : (r : Came) (n' : Node) (o' : Output) → b ≡ false
          → Goes made (brings face (offer_found bare d) bare (node_of m)) r n' o o'
          → Goes made (data_on face bare d o (node_of m)) r n' o o'
      unfolding data_step offer_found brings node_of
      data_brings r n' o' v x = goes_by _ _ _ _ _ _ _ (goes ∙ pick_no _ _ _ (sym out ∙ v)) x
