-- A request that opens in a new entry, as the code stores it, notes it and sends it.
-- Assumes nothing.
use Rattle.std.specs.Prelude.{ℕ, ◌+◌, ◌≤◌, ◌<◌, min, ◌≡◌, Bool, true, ◌&&◌, length, ltb, leb}
use Rattle.std.proofs.Math.Path.{refl, ap}
use Rattle.std.proofs.Common.{◌∙◌, arith, lt-ltb, le-leb}
use mathlib.Core.List.{List, [], ◌∷◌, ◌++◌}
use Rattle.answers.specs.declared.Answer.{Answer}
use Rattle.laws.specs.Laws.Pick.{pick_yes}
use Rattle.laws.specs.Lists.{on_at}
use Rattle.sizes.specs.Sizes.{most_faces, most_entries, most_name, most_time, most_lifetime}
use Rattle.packets.specs.declared.bare.Interest.{Interest}
use Rattle.packets.specs.Places.View.{lowered}
use Rattle.records.specs.Class.{class_of}
use Rattle.records.specs.Entry.{Entry, asking, sending}
use Rattle.records.specs.Happening.{happens}
use Rattle.records.specs.Rows.{fate_number, row_of}
use Rattle.records.specs.Laws.Class.{class_number_lem}
use Rattle.faces.specs.Places.View as faces
use Rattle.happenings.specs.declared.Fate.{Fate}
use Rattle.happenings.specs.Noted.{most_rows, fate_in, note_of, Notes}
use Rattle.pending_entry.specs.Operations.{bare_entry, request_with, sent_with}
use Rattle.pending_entry.specs.Laws.Bridge.{new_entry_lem}
use Rattle.pending_table.specs.declared.Handle.{Handle}
use Rattle.pending_table.specs.declared.Chosen.{Chosen}
use Rattle.pending_table.specs.declared.Pending.{Pending}
use Rattle.pending_table.specs.Operations.{Opens, fits_table}
use Rattle.pending_table.specs.Places.View.{view, place_of, marks_of, Stands}
use Rattle.rules.specs.Outcome.{interest}
use Rattle.rules.specs.Interest.{request_of, sent_of, forwards, new_entry, opens, opens_entry}
use Rattle.sending.specs.Rows.{Packs, if_room}
use Rattle.sending.specs.Laws.One.{interest_fits}
use Rattle.event.specs.declared.Memory.{Memory}
use Rattle.event.specs.Memory.{Table, node_of}
use Rattle.coming.specs.Goes.{Goes}
use Rattle.coming.specs.Places.Found.{arrival_named}
use Rattle.opening.specs.Places.Asked.{came}
use Rattle.opening.specs.Places.Sized.{Sized}

module _ {A : Type 0} where
  -- the last of a list changed
  on_last : (f : A → A) (l : List A) (a : A) → on_at (length l) f (l ++ (a ∷ [])) ≡ l ++ (f a ∷ [])
  unfolding on_at
  on_last f [] a = refl
  on_last f (x ∷ l) a = ap (λ (k : List A). x ∷ k) (on_last f l a)

-- an entry that fits, opened and changed twice
opened_twice : {h : Handle} {e : Entry} {es es' : List Entry} {was stands : Handle → ℕ} {marked marks : Chosen → List Bool}
    → Opens h e es es' was stands marked marks → length e.name ≤ most_name → length es < most_entries
    → (f g : Entry → Entry) (mid last : List Entry) → mid ≡ on_at (stands h) f es' → last ≡ on_at (stands h) g mid
    → last ≡ es ++ (g (f e) ∷ [])
unfolding fits_table
opened_twice {h} {e} {es} {es'} o short room f g mid last em el =
    let yes : leb (length e.name) most_name && ltb (length es) most_entries ≡ true =
    rw (le-leb (length e.name) most_name short, lt-ltb (length es) most_entries room) in
    let left : es' ≡ es ++ (e ∷ []) = o.left ∙ pick_yes _ _ _ yes in
    let m : mid ≡ es ++ (f e ∷ []) = em ∙ rw (o.last, left) (on_last f es e) in
    el ∙ rw (o.last, m) (on_last g es (f e))

-- the expiry of a request that is made at a time within its size
pub expiry_is : {t room packet name : ℕ} (e l : ℕ) → Sized t room packet name → e ≡ min t most_time + min l most_lifetime
    → e ≡ t + min l most_lifetime
expiry_is e l g q = omega (arith, g.timely, q)

-- an entry opened with its request, noted and sent
pub opens_goes : (m : Memory) (k f : ℕ) (bare name : List ℕ) (i : Interest) (w to expiry : ℕ) (h : Handle) (opened asked left : Pending)
    (t made : ℕ) (rows rows' : Table) (b b' : List ℕ) (hs hs' : Table)
    → Sized m.time (length b) (length bare) (length name) → expiry ≡ m.time + min i.lifetime most_lifetime
    → length (view m.pending) < most_entries
    → Opens h (bare_entry most_faces name i.can_be_prefix i.must_be_fresh (class_of w)) (view m.pending) (view opened)
    (place_of m.pending) (place_of opened) (marks_of m.pending) (marks_of opened)
    → view asked ≡ on_at (place_of opened h) (asking f (request_with i.nonce expiry)) (view opened) → Stands opened asked
    → view left ≡ on_at (place_of asked h) (sending to (sent_with i.nonce m.time)) (view asked)
    → Notes most_rows made hs' hs k (note_of f w (fate_number (fate_in Fate.Opened)) i.nonce expiry ∷ [])
    → Packs (if_room (lowered bare i.hop) b (record { face = to; kind = interest; cls = class_of w; bytes = lowered bare i.hop } ∷ []))
    t rows rows' b b'
    → Goes k (opens_entry (node_of m).time (node_of m) (arrival_named f name bare i) (class_of w) to) (came Answer.Done t made)
    (node_of (record m { pending = left }))
    (record { sends = rows; buffer = b; rows = hs }) (record { sends = rows'; buffer = b'; rows = hs' })
unfolding opens_entry new_entry request_of sent_of forwards opens node_of arrival_named fate_in row_of happens bare_entry
opens_goes m k f bare name i w to expiry h opened asked left t made rows rows' b b' hs hs' g ee room o e₁ s e₂ q p =
    let c = class_of w in
    let new = new_entry_lem most_faces name i.can_be_prefix i.must_be_fresh c f to (request_with i.nonce expiry)
    (sent_with i.nonce m.time) in
    let entries = opened_twice o g.short room _ _ (view asked) _ e₁ (rw (s.places h) at e₂) in
    let sent : Packs (record { face = to; kind = interest; cls = c; bytes = lowered bare i.hop } ∷ []) t rows rows' b b' =
    rw (interest_fits bare i.hop b (record { face = to; kind = interest; cls = c; bytes = lowered bare i.hop } ∷ []) g.small
    g.roomy) at p in
    record {
      answer = refl;
      node = rw (entries, new, faces.view_length most_faces m.faces, ← ee);
      sent = sent.sent;
      sends = sent.noted;
      buffer = sent.buffer;
      noted = rw (class_number_lem w, ← ee) q;
    }
