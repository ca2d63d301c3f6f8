-- Room in the table: it depends on the number of entries of each class alone, and where there is room a row is free.
-- Assumes nothing.
use Rattle.std.specs.Prelude.{ℕ, zero, suc, ◌+◌, ◌≤◌, ◌<◌, ◌≡◌, Bool, true, List, [], ◌∷◌, ◌++◌, length, get_or}
use Rattle.std.proofs.Math.Path.{refl, sym, ap}
use Rattle.std.proofs.Common.{◌∙◌, length-append, add-zero, zero-add}
use Rattle.std.proofs.Math.Bool.{false}
use Rattle.std.proofs.Math.Option.{some}
use native.Mathlib.Omega.{arith}
use Rattle.laws.specs.Pick.{pick}
use Rattle.laws.specs.Laws.Pick.{pick_ap}
use Rattle.laws.specs.Lists.{without}
use Rattle.laws.specs.Digits.{removed}
use Rattle.laws.specs.Laws.Digits.{Lowest, member_no}
use Rattle.sizes.specs.Sizes.{most_entries}
use Rattle.records.specs.Class.{Class, alarm, monitoring, bulk, no_class, class_of, class_number, is_class, is_of}
use Rattle.records.specs.Slots.{at_place, only}
use Rattle.records.specs.Entry.{Entry, used_by, taken_by, room_taken}
use Rattle.records.specs.Laws.Use.{used_last, used_all, none_of, entries_most}
use Rattle.pending_entry.specs.Places.View as entry
use Rattle.pending_entry.specs.Operations.{bare_entry}
use Rattle.pending_order.specs.Laws.Walk.{digit_here}
use Rattle.pending_table.specs.declared.Uses.{Uses}
use Rattle.pending_table.specs.Places.View.{State}
use Rattle.pending_table.specs.Places.View.{view_for, row_at, view_most, place_row, view_taken, view_none}
use Rattle.pending_table.specs.Places.Room.{counting, both, all_of, room_of}
use Rattle.pending_table.specs.Operations.{uses_of}

-- each class with one more, if it is that of an entry
counted : (c : Class) (k l m n : ℕ)
    → ◌≡◌ {A = Uses} (record {
      alarm = pick (is_of alarm c) (k + 1) k;
      monitoring = pick (is_of monitoring c) (l + 1) l;
      bulk = pick (is_of bulk c) (m + 1) m;
      other = pick (none_of c) (n + 1) n;
    })
    (counting c (record { alarm = k; monitoring = l; bulk = m; other = n }))
unfolding counting pick is_of is_class class_number
counted alarm k l m n = refl
counted monitoring k l m n = refl
counted bulk k l m n = refl
counted (no_class w) k l m n = refl

-- the uses with an entry more, at the end
pub uses_last : (e : Entry) (es : List Entry) → uses_of (es ++ (e ∷ [])) ≡ counting e.cls (uses_of es)
unfolding uses_of
uses_last e es =
    rw (used_last (is_of alarm) e es, used_last (is_of monitoring) e es, used_last (is_of bulk) e es, used_last none_of e es)
    (counted e.cls (used_by (is_of alarm) es) (used_by (is_of monitoring) es) (used_by (is_of bulk) es) (used_by none_of es))

-- one more at the start
used_first : (p : Class → Bool) (e : Entry) (es : List Entry) → used_by p (e ∷ es) ≡ used_by p es + pick (p e.cls) 1 0
unfolding used_by only
used_first p e es = pick_ap length (p e.cls) _ _ ∙ go (p e.cls) (length (only (λ x. p x.cls) es))
  where
    go : (b : Bool) (k : ℕ) → pick b (suc k) k ≡ k + pick b 1 0
    go true k = unfold pick in omega arith
    go false k = unfold pick in omega arith

-- with an entry taken out it is one less for its class
used_without : (p : Class → Bool) (i : ℕ) (es : List Entry) (e : Entry) → at_place i es ≡ some e
    → used_by p es ≡ used_by p (without i es) + pick (p e.cls) 1 0
unfolding at_place without
used_without p i [] e h = let z : ◌≡◌ {A = ℕ} 0 1 = cc in absurd (omega arith)
used_without p zero (x ∷ es) e h = let z : x ≡ e = cc in rw z (used_first p e es)
used_without p (suc i) (x ∷ es) e h = omega (arith, used_first p x es, used_first p x (without i es), used_without p i es e h)

-- the uses with an entry that is taken out counted again
pub uses_without : (i : ℕ) (es : List Entry) (e : Entry) → at_place i es ≡ some e → uses_of es ≡ counting e.cls (uses_of (without i es))
unfolding uses_of
uses_without i es e h =
    rw (one (is_of alarm), one (is_of monitoring), one (is_of bulk), one none_of)
    (counted e.cls (used_by (is_of alarm) (without i es)) (used_by (is_of monitoring) (without i es)) (used_by (is_of bulk) (without i es))
    (used_by none_of (without i es)))
  where
    go : (b : Bool) (k : ℕ) → k + pick b 1 0 ≡ pick b (k + 1) k
    go true k = unfold pick in refl
    go false k = unfold pick in omega arith

    one : (p : Class → Bool) → used_by p es ≡ pick (p e.cls) (used_by p (without i es) + 1) (used_by p (without i es))
    one p = used_without p i es e h ∙ go (p e.cls) (used_by p (without i es))

-- a table has at most 64 entries to count
pub uses_most : (n : ℕ) (names heads : List (List ℕ)) (recs : List (List (List ℕ))) (numbers : List ℕ) (s : State)
    → all_of (uses_of (view_for n names heads recs numbers s)) ≤ most_entries
unfolding uses_of
uses_most n names heads recs numbers s =
    omega (arith, used_all (view_for n names heads recs numbers s), view_most n names heads recs numbers s)

-- one more is counted
pub counting_all : (c : Class) (u : Uses) → all_of (counting c u) ≡ all_of u + 1
unfolding counting
counting_all alarm u = omega arith
counting_all monitoring u = omega arith
counting_all bulk u = omega arith
counting_all (no_class n) u = omega arith

-- one more in the second is one more in the first
both_counting : (c : Class) (u v : Uses) → both u (counting c v) ≡ both (counting c u) v
unfolding both counting
both_counting alarm u v = let e : u.alarm + (v.alarm + 1) ≡ u.alarm + 1 + v.alarm = omega arith in rw e
both_counting monitoring u v = let e : u.monitoring + (v.monitoring + 1) ≡ u.monitoring + 1 + v.monitoring = omega arith in rw e
both_counting bulk u v = let e : u.bulk + (v.bulk + 1) ≡ u.bulk + 1 + v.bulk = omega arith in rw e
both_counting (no_class n) u v = let e : u.other + (v.other + 1) ≡ u.other + 1 + v.other = omega arith in rw e

-- nothing was counted
abbrev pub no_uses : Uses
no_uses = record { alarm = 0; monitoring = 0; bulk = 0; other = 0 }

-- no entries, no uses
both_none : (u : Uses) → both u (uses_of []) ≡ u
unfolding both uses_of used_by only
both_none u = rw (add-zero u.alarm, add-zero u.monitoring, add-zero u.bulk, add-zero u.other)

-- and before any entry
none_both : (u : Uses) → both no_uses u ≡ u
unfolding both
none_both u = rw (zero-add u.alarm, zero-add u.monitoring, zero-add u.bulk, zero-add u.other)

-- what was counted, and what is left to be counted: the entries of the rows `left`, of which `row` is the lowest
pub record Counting (n : ℕ) (names heads : List (List ℕ)) (recs : List (List (List ℕ))) (numbers : List ℕ) (s : State) (u : Uses)
    (left row : ℕ) : Type 0 where
  pub at : Lowest most_entries left row
  pub same : both u (uses_of (view_for n names heads recs numbers (record { used = left })))
      ≡ uses_of (view_for n names heads recs numbers s)

module _ (n : ℕ) (names heads : List (List ℕ)) (recs : List (List (List ℕ))) (numbers : List ℕ) (s : State) where
  -- at the start all are left
  pub counting_start : (row : ℕ) → Lowest most_entries s.used row → Counting n names heads recs numbers s no_uses s.used row
  counting_start row e = record { at = e; same = none_both _ }

  module _ (u : Uses) (left row : ℕ) (a : Counting n names heads recs numbers s u left row) where
    -- no more than 64 are counted
    pub counting_room : all_of u ≤ most_entries
    unfolding both
    counting_room = omega (arith, uses_most n names heads recs numbers s, ap all_of a.same)

    -- a turn
    pub counting_turn : (next : ℕ) → row < most_entries → Lowest most_entries (removed row left) next
        → Counting n names heads recs numbers s (counting (class_of (get_or (get_or heads row []) 3 0)) u) (removed row left) next
    unfolding row_at
    counting_turn next h e =
        let c = class_of (get_or (get_or heads row []) 3 0) in
        let t = (view_taken n names heads recs numbers (record { used = left }) (record { row = row }) (removed row left) refl).left in
        let r = place_row n names heads recs numbers (record { used = left }) (record { row = row }) h
        (digit_here most_entries left row a.at h) in
        let v = view_for n names heads recs numbers (record { used = left }) in
        let one : uses_of v ≡ counting c (uses_of (view_for n names heads recs numbers (record { used = removed row left }))) =
        uses_without _ v _ r ∙ rw (t, entry.view_class n (get_or names row []) (get_or heads row []) (get_or recs row [])) in
        record { at = e; same = sym (both_counting c u _) ∙ ap (both u) (sym one) ∙ a.same }

    -- at the end
    pub counting_end : most_entries ≤ row → u ≡ uses_of (view_for n names heads recs numbers s)
    counting_end h =
        sym (both_none u)
        ∙ ap (λ (es : List Entry). both u (uses_of es))
        (sym (view_none n names heads recs numbers left (λ t l. (member_no t left).1 (a.at.below t (omega arith)))))
        ∙ a.same

-- the places that entries take, from their uses
pub room_uses : (es : List Entry) → room_taken es ≡ room_of (uses_of es)
unfolding room_taken taken_by room_of uses_of
room_uses es = refl

-- the places with an entry without records more
pub room_more : (n : ℕ) (name : List ℕ) (p m : Bool) (c : Class) (es : List Entry)
    → room_taken (es ++ (bare_entry n name p m c ∷ [])) ≡ room_of (counting c (uses_of es))
unfolding bare_entry
room_more n name p m c es = let e = bare_entry n name p m c in room_uses (es ++ (e ∷ [])) ∙ ap room_of (uses_last e es)

-- room for an entry more implies a free row
pub room_free : (es : List Entry) (e : Entry) → room_taken (es ++ (e ∷ [])) ≤ most_entries → length es < most_entries
room_free es e h = omega (arith, entries_most (es ++ (e ∷ [])), length-append es (e ∷ []))

-- room for an entry more depends on its class alone
pub room_class : (es : List Entry) (x y : Entry) → x.cls ≡ y.cls → room_taken (es ++ (x ∷ [])) ≡ room_taken (es ++ (y ∷ []))
room_class es x y e =
    room_uses (es ++ (x ∷ [])) ∙ ap room_of (uses_last x es ∙ ap (λ (c : Class). counting c (uses_of es)) e ∙ sym (uses_last y es))
    ∙ sym (room_uses (es ++ (y ∷ [])))
