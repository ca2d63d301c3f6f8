-- Rule books that misuse Data or the store do not meet demand 3.
-- Assumes nothing.
use Rattle.std.specs.Prelude.{ℕ, suc, ◌≤◌, ◌≡◌, refl, Bool, true, false, List, [], ◌∷◌, ◌++◌}
use Rattle.std.proofs.Common.{sym, ◌∙◌, ap, ⊎_elim, inl, inr, arith}
use Rattle.sizes.specs.Sizes.{most_faces, least_buffer}
use Rattle.names.specs.Name.{same_bytes}
use Rattle.names.specs.Laws.Same.{same_refl}
use Rattle.packets.specs.Meaning.{Heard, refused, asks, brings, nacks}
use Rattle.records.specs.Slots.{holds, Held, any_of}
use Rattle.records.specs.Stored.{Stored}
use Rattle.rules.specs.Node.{packet, open_face, set_route, add_hop}
use Rattle.rules.specs.Outcome.{Send}
use Rattle.rules.specs.Packed.{packed}
use Rattle.rules.specs.Laws.Compute.{computed}
use Rattle.incoming.specs.Incoming.{came_in, heard_in}
use Rattle.incoming.specs.Laws.Incoming.{bytes_hears, hears_in}
use Rattle.history.specs.Lists.{Some, here}
use Rattle.history.specs.Moments.{Moment, met, moments}
use Rattle.history.specs.Sends.{Rising, next}
use Rattle.history.specs.ReadBack.{BroughtBy}
use Rattle.history.specs.Laws.Runs.{at, a, asks_a, asks_under_a, brings_a, brings_ax, ready, asked}
use Rattle.demand3.specs.Demand3.{Demand3}
use Rattle.demand3.specs.Laws.Books.{answers_lowest, forgets_prefix, meets_ad_hoc, sends_twice, stores_other, stores_nothing, serves_elsewhere}
use Rattle.demand3.specs.Laws.Looking.{no, last_event, all_at, some_found, some_none, ask_one, one_sort}

-- `satisfied`, `gone`: an entry that the Data ends stands
pub answers_lowest_refused : Demand3 most_faces least_buffer answers_lowest packed → ⊥
unfolding computed answers_lowest
answers_lowest_refused d =
    let m = last_event d (asked ++ (at 101 (open_face 3 1 0) ∷ at 101 (packet 3 (asks_a 5)) ∷ [])) (at 102 (packet 2 brings_a)) in
    all_at 0 (m.satisfied 2 _ _ (bytes_hears _ 2 brings_a) refl).gone (inl refl)

-- `satisfied`, `ended`: a request of an entry that the Data ends did not end
pub forgets_prefix_refused : Demand3 most_faces least_buffer forgets_prefix packed → ⊥
unfolding computed forgets_prefix
forgets_prefix_refused d =
    let m = last_event d (ready 1 a ++ (at 100 (packet 1 (asks_under_a 4)) ∷ [])) (at 101 (packet 2 brings_ax)) in
    let s = m.satisfied 2 _ _ (bytes_hears _ 2 brings_ax) refl in
    ⊎_elim (λ i. some_none i refl) (λ i. some_none i refl)
    (s.ended _ (here refl) (inr (refl, (8 ∷ 1 ∷ 120 ∷ [], refl))) 1 _ refl)

-- `honest`: the face is ad hoc
pub meets_ad_hoc_refused : Demand3 most_faces least_buffer meets_ad_hoc packed → ⊥
unfolding computed meets_ad_hoc
meets_ad_hoc_refused d =
    let m = last_event d
    (at 0 (open_face 1 1 2) ∷ at 0 (open_face 2 1 0) ∷ at 0 (set_route 1 a) ∷ at 0 (add_hop 2 10 a) ∷ at 100 (packet 1 (asks_a 4)) ∷ [])
    (at 101 (packet 1 brings_a)) in
    (all_at 0 m.honest).says.link (_, refl, refl)

-- sends that rise: the second stands on a higher face than the first
second_rises : {k : ℕ} {s t : Send} {ss : List Send} → Rising k (s ∷ t ∷ ss) → suc s.face ≤ t.face
second_rises (next p (next q r)) = q

-- `rising`: two packets leave on one face
pub sends_twice_refused : Demand3 most_faces least_buffer sends_twice packed → ⊥
unfolding computed sends_twice
sends_twice_refused d =
    let m = last_event d asked (at 101 (packet 2 brings_a)) in
    let k : 2 ≤ 1 = second_rises m.rising in
    omega arith

-- whether a Data of a name was heard
unfoldable brings_name : List ℕ → Heard → Bool
brings_name name (brings d bytes) = same_bytes name d.name
brings_name name (refused x) = false
brings_name name (asks i bytes) = false
brings_name name (nacks reason i) = false

-- whether it came at a moment
abbrev came_named : List ℕ → Moment → Bool
came_named name m = holds (λ (h : Held Heard). brings_name name h.what) (heard_in (met m) m.event.what)

-- what was brought came at some moment under its name
brought_found : {d : Stored} {ms : List Moment} → Some (BroughtBy d) ms → any_of (came_named d.name) ms ≡ true
unfolding holds brings_name
brought_found {d} s =
    some_found (came_named d.name) (λ m b.
    ap (holds (λ (h : Held Heard). brings_name d.name h.what))
    (hears_in (met m) m.event.what b.from (brings b.offer d.bytes) b.came)
    ∙ ap (same_bytes d.name) (sym b.name) ∙ same_refl d.name) s

-- `brought`: no Data of that name came
pub stores_other_refused : Demand3 most_faces least_buffer stores_other packed → ⊥
unfolding computed stores_other moments came_in heard_in brings_name
stores_other_refused d = no (brought_found (all_at 0 (d.brought (asked ++ (at 101 (packet 2 brings_a) ∷ [])))))

-- `satisfied`, `stored`: nothing is stored
pub stores_nothing_refused : Demand3 most_faces least_buffer stores_nothing packed → ⊥
unfolding computed stores_nothing
stores_nothing_refused d =
    let m = last_event d asked (at 101 (packet 2 brings_a)) in
    some_none (m.satisfied 2 _ _ (bytes_hears _ 2 brings_a) refl).stored refl

-- `leaving`: the Interest that the store serves did not come on that face
pub serves_elsewhere_refused : Demand3 most_faces least_buffer serves_elsewhere packed → ⊥
unfolding computed serves_elsewhere
serves_elsewhere_refused d =
    let m = last_event d (asked ++ (at 101 (packet 2 brings_a) ∷ [])) (at 200 (packet 1 (asks_a 5))) in
    ⊎_elim (λ s. let k : ◌≡◌ {A = ℕ} 1 2 = (ask_one (bytes_hears _ 1 (asks_a 5)) s.came).0 in omega arith)
    (λ s. let k : ◌≡◌ {A = ℕ} 1 2 = one_sort (bytes_hears _ 1 (asks_a 5)) s.came in omega arith)
    (all_at 0 m.leaving)
