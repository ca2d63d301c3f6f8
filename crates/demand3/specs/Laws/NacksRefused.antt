-- Rule books that misuse Nacks do not meet demand 3.
-- Assumes nothing.
use Rattle.std.specs.Prelude.{ℕ, ◌<◌, ◌^◌, ◌≡◌, refl, true, false, List, [], ◌∷◌, ◌++◌, ◌≢◌, ltb, eqb}
use Rattle.std.proofs.Common.{sym, ◌∙◌, ap, ⊎_elim, arith}
use Rattle.std.proofs.Math.Option.{none, some}
use Rattle.std.proofs.lemmas.Bool.{eqb-false}
use Rattle.answers.specs.declared.Answer.{Answer}
use Rattle.answers.specs.Number.{number_of}
use Rattle.sizes.specs.Sizes.{most_faces, least_buffer}
use Rattle.packets.specs.Meaning.{Ask, Heard, refused, asks, brings, nacks, heard}
use Rattle.packets.specs.Well.{Well}
use Rattle.writing.specs.Written.{nack_bytes}
use Rattle.writing.specs.Laws.NackBack.{nack_back}
use Rattle.records.specs.Face.{link_number}
use Rattle.records.specs.Slots.{slot, holds, is_some}
use Rattle.records.specs.Entry.{Sent, Entry}
use Rattle.records.specs.Happening.{Happening}
use Rattle.rules.specs.Node.{packet, open_face}
use Rattle.rules.specs.Packed.{packed}
use Rattle.rules.specs.Laws.Compute.{computed}
use Rattle.incoming.specs.Laws.Incoming.{bytes_hears, hears_one}
use Rattle.history.specs.Moments.{Moment, met, Arrives}
use Rattle.history.specs.Sends.{NackedFor, loop, no_route, no_room}
use Rattle.history.specs.Ends.{Nacking}
use Rattle.history.specs.MustEnd.{SameName, Noted}
use Rattle.history.specs.Laws.Runs.{at, a, asks_a, nacks_a, asked, asked_twice}
use Rattle.demand3.specs.Demand3.{Demand3}
use Rattle.demand3.specs.Laws.Books.{ignores_nack, ends_early, nacks_early, nacks_any_link, nacks_other, loop_ends}
use Rattle.demand3.specs.Laws.Looking.{no, last_event, all_at, some_none, in_one, one_link, one_sort}

-- an answer that sends a Nack is not 0
nacked_for : {x : Answer} {reason : ℕ} → NackedFor x reason → ltb 0 (number_of x) ≡ true
nacked_for loop = refl
nacked_for no_route = refl
nacked_for no_room = refl

-- an entry is of its own name and flags
same_name : {x y : Entry} → y ≡ x → SameName x y
same_name e = record {
  name = ap (λ (x : Entry). x.name) e;
  prefix = ap (λ (x : Entry). x.can_be_prefix) e;
  fresh = ap (λ (x : Entry). x.must_be_fresh) e;
}

-- an out-record of which a Nack was noted is Nacked
noted_found : {x y : Entry} {f cause : ℕ} → Noted x y f cause → holds (λ (s : Sent). is_some s.nacked) (slot f y.sent) ≡ true
unfolding holds is_some
noted_found n = ap (holds (λ (s : Sent). is_some s.nacked)) n.there ∙ ap is_some n.reason

-- `nacked`, `noted`: no reason was noted
pub ignores_nack_refused : Demand3 most_faces least_buffer ignores_nack packed → ⊥
unfolding computed ignores_nack
ignores_nack_refused d =
    let m = last_event d asked (at 101 (packet 2 (nacks_a 4))) in
    let n = m.nacked 2 150 _ (bytes_hears _ 2 (nacks_a 4)) refl in
    no (noted_found (all_at 0 n.noted (same_name (in_one n.stood refl))))

-- a Nack that ends a request came last: every other out-record of its entry, which stands alone, was Nacked
nacked_last : {m : Moment} {h : Happening} → Nacking m h → (f : ℕ) {cause : ℕ} {i : Ask} → Arrives m f (nacks cause i)
    → (x : Entry) → (met m).pending ≡ x ∷ [] → (g : ℕ) → eqb g f ≡ false → (s : Sent) → slot g x.sent ≡ some s → s.nacked ≢ none
nacked_last {m} w f {cause} {i} y x e g k s q =
    let c : w.from ≡ f = (hears_one (met m) m.event.what w.from f _ _ w.came y).0 in
    let z : x ≡ w.stood.entry = in_one w.stood.pending e in
    w.last g s (λ r. eqb-false g f k (r ∙ c)) (ap (λ (x : Entry). slot g x.sent) (sym z) ∙ q)

-- `honest`: the out-record of face 3 was not Nacked
pub ends_early_refused : Demand3 most_faces least_buffer ends_early packed → ⊥
unfolding computed ends_early
ends_early_refused d =
    let m = last_event d asked_twice (at 301 (packet 2 (nacks_a 4))) in
    nacked_last (all_at 0 m.honest).says 2 (bytes_hears _ 2 (nacks_a 4)) _ refl 3 refl _ refl refl

-- `leaving`: the Nack refuses no Interest, and no request ends
pub nacks_early_refused : Demand3 most_faces least_buffer nacks_early packed → ⊥
unfolding computed nacks_early
nacks_early_refused d =
    let m = last_event d asked_twice (at 301 (packet 2 (nacks_a 4))) in
    ⊎_elim (λ r. no (nacked_for r.why)) (λ x. some_none x.ended refl) (all_at 0 m.leaving)

-- `leaving`: the face is not point-to-point
pub nacks_any_link_refused : Demand3 most_faces least_buffer nacks_any_link packed → ⊥
unfolding computed nacks_any_link
nacks_any_link_refused d =
    let m = last_event d (at 0 (open_face 1 1 1) ∷ []) (at 100 (packet 1 (asks_a 4))) in
    ⊎_elim (λ r. let k : ◌≡◌ {A = ℕ} 1 0 = one_link r.peer.1 ∙ ap link_number r.peer.2 in omega arith)
    (λ x. some_none x.ended refl) (all_at 0 m.leaving)

-- the nonce of a Nack that was heard
unfoldable nonce_of : Heard → ℕ
nonce_of (refused x) = 0
nonce_of (asks i bytes) = 0
nonce_of (brings d bytes) = 0
nonce_of (nacks reason i) = i.nonce

-- /a is a name that an Interest may have
well_a : Well a
unfolding computed
well_a = record { fine = refl; some = omega arith; few = omega arith; short = omega arith }

-- a Nack for /a says its nonce
nonce_said : (l : List ℕ) (reason nonce : ℕ) → nonce < 2 ^ 32 → l ≡ nack_bytes reason a false false nonce → nonce_of (heard l) ≡ nonce
unfolding nonce_of
nonce_said l reason nonce h e = ap (λ l. nonce_of (heard l)) e ∙ ap nonce_of (nack_back reason a false false nonce well_a h)

-- `leaving`: the Nack does not say the nonce of the request that it ends
pub nacks_other_refused : Demand3 most_faces least_buffer nacks_other packed → ⊥
unfolding computed nacks_other nonce_of
nacks_other_refused d =
    let m = last_event d asked (at 101 (packet 2 (nacks_a 4))) in
    ⊎_elim (λ r. no (nacked_for r.why)) (λ x.
    let q = in_one x.ended refl in
    let k : ◌≡◌ {A = ℕ} 0x01020305 0x01020304 = nonce_said _ x.reason 0x01020304 (omega arith) (rw (← q) at x.same) in
    omega arith)
    (all_at 0 m.leaving)

-- `honest`: no Nack came
pub loop_ends_refused : Demand3 most_faces least_buffer loop_ends packed → ⊥
unfolding computed loop_ends
loop_ends_refused d =
    let m = last_event d (asked ++ (at 150 (open_face 3 1 0) ∷ at 150 (packet 3 (asks_a 5)) ∷ [])) (at 160 (packet 3 (asks_a 4))) in
    let k : ◌≡◌ {A = ℕ} 1 3 = one_sort (bytes_hears _ 3 (asks_a 4)) (all_at 0 m.honest).says.came in
    omega arith
