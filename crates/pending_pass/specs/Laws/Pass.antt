-- A pass over chosen entries: its start, a turn at the first marked entry, and its end.
-- Assumes nothing.
use Rattle.std.specs.Prelude.{ℕ, zero, suc, ◌+◌, ◌≤◌, ◌<◌, Bool, true, false}
use Rattle.std.proofs.Math.Path.{◌≡◌, refl, sym, ap}
use Rattle.std.proofs.Common.{◌∙◌, arith}
use mathlib.Core.List.{List, [], ◌∷◌, ◌++◌}
use Rattle.std.proofs.Math.Option.{some}
use Rattle.std.proofs.Math.ListN.{length}
use Rattle.laws.specs.Pick.{pick}
use Rattle.laws.specs.Laws.Pick.{pick_yes, pick_no}
use Rattle.laws.specs.Lists.{on_at, without, index_of}
use Rattle.laws.specs.Laws.Tab.{length_on_at}
use Rattle.sizes.specs.Sizes.{most_dead}
use Rattle.records.specs.Slots.{at_place, each}
use Rattle.records.specs.Laws.Place.{place_some}
use Rattle.records.specs.Entry.{Entry}
use Rattle.records.specs.Line.{Line, joined, joined_all}
use Rattle.happenings.specs.Noted.{most_rows, Notes}
use Rattle.happenings.specs.Laws.Noted.{notes_none, notes_length, notes_then}
use Rattle.pending_pass.specs.Places.Pass.{Work, notes, marked, after, passed, Turned, Passes, Passing}

-- lines of two lists join one after the other
pub joined_append : (size : ℕ) (ls xs ys : List Line) → joined_all size ls (xs ++ ys) ≡ joined_all size (joined_all size ls xs) ys
unfolding joined_all
joined_append size ls [] ys = refl
joined_append size ls (x ∷ xs) ys = joined_append size (joined size ls x) xs ys

-- the place of the first mark
abbrev pub first_mark : List Bool → ℕ
first_mark ms = index_of (λ b. b) ms

-- the marks after a turn at the first: gone from it, or gone with it
abbrev pub kept : List Bool → List Bool
kept ms = on_at (first_mark ms) (λ _. false) ms

abbrev pub left : List Bool → List Bool
left ms = without (first_mark ms) (kept ms)

module _ {A : Type 0} where
  -- the first marked one, and then the others, where it is changed
  marked_kept : (f : A → A) (ms : List Bool) (es : List A) (e : A) → at_place (first_mark ms) es ≡ some e → first_mark ms < length ms
      → marked ms es ≡ e ∷ marked (kept ms) (on_at (first_mark ms) f es)
  unfolding marked index_of pick at_place on_at
  marked_kept f [] es e p h = absurd (omega arith)
  marked_kept f (m ∷ ms) [] e p h = let z : ◌≡◌ {A = ℕ} 0 1 = cc in absurd (omega arith)
  marked_kept f (true ∷ ms) (a ∷ es) e p h = let z : a ≡ e = cc in rw z
  marked_kept f (false ∷ ms) (a ∷ es) e p h = marked_kept f ms es e p (omega arith)

  -- or where it leaves
  marked_left : (ms : List Bool) (es : List A) (e : A) → at_place (first_mark ms) es ≡ some e → first_mark ms < length ms
      → marked ms es ≡ e ∷ marked (left ms) (without (first_mark ms) es)
  unfolding marked index_of pick at_place on_at without
  marked_left [] es e p h = absurd (omega arith)
  marked_left (m ∷ ms) [] e p h = let z : ◌≡◌ {A = ℕ} 0 1 = cc in absurd (omega arith)
  marked_left (true ∷ ms) (a ∷ es) e p h = let z : a ≡ e = cc in rw z
  marked_left (false ∷ ms) (a ∷ es) e p h = marked_left ms es e p (omega arith)

  -- or where it is as it was
  pub marked_next : (ms : List Bool) (es : List A) (e : A) → at_place (first_mark ms) es ≡ some e → first_mark ms < length ms
      → marked ms es ≡ e ∷ marked (kept ms) es
  unfolding marked index_of pick at_place on_at
  marked_next [] es e p h = absurd (omega arith)
  marked_next (m ∷ ms) [] e p h = let z : ◌≡◌ {A = ℕ} 0 1 = cc in absurd (omega arith)
  marked_next (true ∷ ms) (a ∷ es) e p h = let z : a ≡ e = cc in rw z
  marked_next (false ∷ ms) (a ∷ es) e p h = marked_next ms es e p (omega arith)

  -- where there is no mark none is marked
  pub marked_none : (ms : List Bool) (es : List A) → length ms ≤ first_mark ms → marked ms es ≡ []
  unfolding marked index_of pick
  marked_none [] es h = refl
  marked_none (m ∷ ms) [] h = refl
  marked_none (true ∷ ms) (a ∷ es) h = absurd (omega arith)
  marked_none (false ∷ ms) (a ∷ es) h = marked_none ms es (omega arith)

module _ (w : Work) where
  -- an entry that stays is changed in its place
  passed_kept : (ms : List Bool) (es : List Entry) (e : Entry) → at_place (first_mark ms) es ≡ some e → first_mark ms < length ms
      → w.stays e ≡ true
      → passed w ms es ≡ passed w (kept ms) (on_at (first_mark ms) w.change es)
  unfolding passed after index_of pick at_place on_at
  passed_kept [] es e p h s = absurd (omega arith)
  passed_kept (m ∷ ms) [] e p h s = let z : ◌≡◌ {A = ℕ} 0 1 = cc in absurd (omega arith)
  passed_kept (true ∷ ms) (a ∷ es) e p h s = let z : a ≡ e = cc in rw (z, s)
  passed_kept (false ∷ ms) (a ∷ es) e p h s = ap (λ (x : List Entry). a ∷ x) (passed_kept ms es e p (omega arith) s)

  -- one that leaves is taken out
  passed_left : (ms : List Bool) (es : List Entry) (e : Entry) → at_place (first_mark ms) es ≡ some e → first_mark ms < length ms
      → w.stays e ≡ false
      → passed w ms es ≡ passed w (left ms) (without (first_mark ms) es)
  unfolding passed after index_of pick at_place on_at without
  passed_left [] es e p h s = absurd (omega arith)
  passed_left (m ∷ ms) [] e p h s = let z : ◌≡◌ {A = ℕ} 0 1 = cc in absurd (omega arith)
  passed_left (true ∷ ms) (a ∷ es) e p h s = let z : a ≡ e = cc in rw (z, s)
  passed_left (false ∷ ms) (a ∷ es) e p h s = ap (λ (x : List Entry). a ∷ x) (passed_left ms es e p (omega arith) s)

  -- where there is no mark all is as it was
  passed_none : (ms : List Bool) (es : List Entry) → length ms ≤ first_mark ms → passed w ms es ≡ es
  unfolding passed index_of pick
  passed_none [] es h = refl
  passed_none (m ∷ ms) [] h = refl
  passed_none (true ∷ ms) (a ∷ es) h = absurd (omega arith)
  passed_none (false ∷ ms) (a ∷ es) h = ap (λ (x : List Entry). a ∷ x) (passed_none ms es (omega arith))

-- how many marks there are
unfoldable pub mark_count : List Bool → ℕ
mark_count [] = 0
mark_count (m ∷ ms) = pick m 1 0 + mark_count ms

-- at the first mark there is one
pub first_there : (ms : List Bool) → first_mark ms < length ms → at_place (first_mark ms) ms ≡ some true
unfolding index_of pick at_place
first_there [] h = absurd (omega arith)
first_there (true ∷ ms) h = refl
first_there (false ∷ ms) h = first_there ms (omega arith)

-- a mark less, where there is one
pub count_less : (k : ℕ) (ms : List Bool) → at_place k ms ≡ some true → mark_count (on_at k (λ _. false) ms) < mark_count ms
unfolding mark_count at_place on_at pick
count_less k [] e = let z : ◌≡◌ {A = ℕ} 0 1 = cc in absurd (omega arith)
count_less zero (m ∷ ms) e = let z : m ≡ true = cc in rw z (omega arith)
count_less (suc k) (m ∷ ms) e = omega (arith, count_less k ms e)

-- taking one out leaves no more marks
count_without : (k : ℕ) (ms : List Bool) → mark_count (without k ms) ≤ mark_count ms
unfolding mark_count without
count_without k [] = omega arith
count_without zero (m ∷ ms) = omega arith
count_without (suc k) (m ∷ ms) = omega (arith, count_without k ms)

-- taking out one of each of two lists that are as long keeps them so
without_long : {A B : Type 0} (k : ℕ) (l : List A) (m : List B) → length l ≡ length m → length (without k l) ≡ length (without k m)
unfolding without
without_long k [] [] h = refl
without_long k [] (b ∷ m) h = absurd (omega arith)
without_long k (a ∷ l) [] h = absurd (omega arith)
without_long zero (a ∷ l) (b ∷ m) h = omega arith
without_long (suc k) (a ∷ l) (b ∷ m) h = omega (arith, without_long k l m (omega arith))

-- the rows of two parts of a pass
each_more : {A B : Type 0} (f : A → List B) (e : A) (l m : List A) → l ≡ e ∷ m → each f l ≡ f e ++ each f m
unfolding each
each_more f e l m h = rw h

module _ (w : Work) (ms : List Bool) (es : List Entry) (ls : List Line) (rs : List (List ℕ)) (made : ℕ) where
  -- at the start all marks are to go
  pub pass_start : length ms ≡ length es → length rs ≡ most_rows → Passing w ms es ls rs made ms es ls rs made
  pass_start l a = record { long = l; entries = refl; lines = refl; all = a; rows = λ r end h. h }

  module _ (ms' : List Bool) (es' : List Entry) (ls' : List Line) (rs' : List (List ℕ)) (made' : ℕ)
      (h : Passing w ms es ls rs made ms' es' ls' rs' made') where
    -- at the end none is left
    pub pass_end : (k : ℕ) → k ≡ first_mark ms' → length es' ≤ k → Passes w ms es ls rs made es' ls' rs' made'
    unfolding each joined_all
    pass_end k at l =
        let past : length ms' ≤ first_mark ms' = omega (arith, h.long, at, l) in
        let n = marked_none ms' es' past in
        record {
          entries = sym (passed_none w ms' es' past) ∙ h.entries;
          lines = (rw n at h.lines);
          rows = h.rows made' rs' (rw n (notes_none most_rows made' rs'));
        }

    -- a turn at the first mark
    module _ (e : Entry) (p : at_place (first_mark ms') es' ≡ some e) (here : first_mark ms' < length ms')
        (es'' : List Entry) (ms'' : List Bool) (ls'' : List Line) (rs'' : List (List ℕ)) (made'' : ℕ)
        (lines : ls'' ≡ joined_all most_dead ls' (w.buries e)) (rows : Notes most_rows made'' rs'' rs' made' (notes w e)) where
      -- it comes to the same pass, where the marked entries are this one and those that are left
      turn_same : length ms'' ≡ length es'' → marked ms' es' ≡ e ∷ marked ms'' es'' → passed w ms' es' ≡ passed w ms'' es''
          → Passing w ms es ls rs made ms'' es'' ls'' rs'' made''
      turn_same l m q =
          let b = each_more w.buries e (marked ms' es') (marked ms'' es'') m in
          let n = each_more (notes w) e (marked ms' es') (marked ms'' es'') m in
          record {
            long = l;
            entries = sym q ∙ h.entries;
            lines = ap (λ (x : List Line). joined_all most_dead x (each w.buries (marked ms'' es''))) lines
                ∙ sym (joined_append most_dead ls' (w.buries e) (each w.buries (marked ms'' es'')))
                ∙ ap (joined_all most_dead ls') (sym b) ∙ h.lines;
            all = notes_length most_rows made'' made' rs'' rs' (notes w e) rows ∙ h.all;
            rows = λ r end t. h.rows r end
                (rw n (notes_then most_rows made'' r made' rs' rs'' end (notes w e) (each (notes w) (marked ms'' es'')) h.all rows t));
          }

      -- the entry is kept
      turn_kept : w.stays e ≡ true → es'' ≡ on_at (first_mark ms') w.change es' → ms'' ≡ kept ms'
          → Passing w ms es ls rs made ms'' es'' ls'' rs'' made''
      turn_kept s x y =
          turn_same
          (rw (x, y) (length_on_at (first_mark ms') (λ _. false) ms' ∙ h.long ∙ sym (length_on_at (first_mark ms') w.change es')))
          (rw (x, y) (marked_kept w.change ms' es' e p here))
          (rw (x, y) (passed_kept w ms' es' e p here s))

      -- the entry leaves
      turn_left : w.stays e ≡ false → es'' ≡ without (first_mark ms') es' → ms'' ≡ left ms'
          → Passing w ms es ls rs made ms'' es'' ls'' rs'' made''
      turn_left s x y =
          turn_same
          (rw (x, y) (without_long (first_mark ms') (kept ms') es' (length_on_at (first_mark ms') (λ _. false) ms' ∙ h.long)))
          (rw (x, y) (marked_left ms' es' e p here))
          (rw (x, y) (passed_left w ms' es' e p here s))

    module _ {C : Type 0} (k : ℕ) (at : k ≡ first_mark ms') (here : k < length es') (mark mark' : C → List Bool) (c : C)
        (rest : mark c ≡ on_at k (λ _. false) ms')
        (es'' : List Entry) (ls'' : List Line) (rs'' : List (List ℕ)) (made'' : ℕ)
        (turn : (e : Entry) → at_place k es' ≡ some e → Turned w k e es' mark ls' rs' made' es'' mark' ls'' rs'' made'') where
      -- the first mark is within the marks
      turn_here : first_mark ms' < length ms'
      turn_here = omega (arith, at, here, h.long)

      -- a turn of the pass
      pub pass_turn : Passing w ms es ls rs made (mark' c) es'' ls'' rs'' made''
      pass_turn =
          let x = place_some k es' here in
          let e = x.0 in
          let p : at_place (first_mark ms') es' ≡ some e = ap (λ (i : ℕ). at_place i es') (sym at) ∙ x.1 in
          let t = turn e x.1 in
          go e p t (w.stays e) refl
        where
          go : (e : Entry) → at_place (first_mark ms') es' ≡ some e → Turned w k e es' mark ls' rs' made' es'' mark' ls'' rs'' made''
              → (b : Bool) → w.stays e ≡ b
              → Passing w ms es ls rs made (mark' c) es'' ls'' rs'' made''
          go e p t true s =
              turn_kept e p turn_here es'' (mark' c) ls'' rs'' made'' t.lines t.rows s
              (t.entries ∙ pick_yes _ _ _ s ∙ ap (λ (i : ℕ). on_at i w.change es') at)
              (t.marks c ∙ pick_yes _ _ _ s ∙ rest ∙ ap (λ (i : ℕ). on_at i (λ _. false) ms') at)
          go e p t false s =
              turn_left e p turn_here es'' (mark' c) ls'' rs'' made'' t.lines t.rows s
              (t.entries ∙ pick_no _ _ _ s ∙ ap (λ (i : ℕ). without i es') at)
              (t.marks c ∙ pick_no _ _ _ s ∙ rw (rest, at))

      -- each turn leaves fewer marks
      pub pass_less : mark_count (mark' c) < mark_count ms'
      pass_less =
          let x = place_some k es' here in
          let t = turn x.0 x.1 in
          let l : mark_count (on_at k (λ _. false) ms') < mark_count ms' =
          rw at (count_less (first_mark ms') ms' (first_there ms' turn_here)) in
          go x.0 t l (w.stays x.0) refl
        where
          go : (e : Entry) → Turned w k e es' mark ls' rs' made' es'' mark' ls'' rs'' made''
              → mark_count (on_at k (λ _. false) ms') < mark_count ms'
              → (b : Bool) → w.stays e ≡ b → mark_count (mark' c) < mark_count ms'
          go e t l true s = rw (t.marks c ∙ pick_yes _ _ _ s ∙ rest) l
          go e t l false s = rw (t.marks c ∙ pick_no _ _ _ s ∙ ap (without k) rest)
              (omega (arith, l, count_without k (on_at k (λ _. false) ms')))
