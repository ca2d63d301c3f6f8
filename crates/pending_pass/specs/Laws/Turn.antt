-- A turn of each kind of pass, from what its steps say of the entry at place k: a question is told by `given`, a change by `on_at`.
-- Assumes nothing.
use Rattle.std.specs.Prelude.{ℕ, zero, suc, ◌≡◌, Bool, length}
use Rattle.std.proofs.Math.Path.{refl, sym, ap}
use Rattle.std.proofs.Common.{◌∙◌, arith}
use Rattle.std.proofs.Math.Bool.{true, false, not}
use mathlib.Core.List.{List, [], ◌∷◌, ◌++◌, map}
use Rattle.std.proofs.Math.Option.{Option, none, some}
use Rattle.laws.specs.Pick.{pick}
use Rattle.laws.specs.Laws.Pick.{pick_yes, pick_no}
use Rattle.laws.specs.Lists.{on_at, without}
use Rattle.sizes.specs.Sizes.{most_dead}
use Rattle.faces.specs.Set.{has_face, with_face, faces_where}
use Rattle.faces.specs.Laws.Set.{where_ext}
use Rattle.records.specs.Slots.{at_place, given, slot, is_some, holds, held, only}
use Rattle.records.specs.Face.{is_face}
use Rattle.records.specs.Laws.Place.{place_on_at}
use Rattle.records.specs.Entry.{Request, Entry, is_idle, is_live, aged_entry, ending, not_sent, with_sent}
use Rattle.records.specs.Line.{Line, joined_all}
use Rattle.records.specs.Happening.{Fate, answered, self_met, expired, closed, happens}
use Rattle.records.specs.Rows.{row_of}
use Rattle.records.specs.Ageing.{buried_by, expiries, leaving}
use Rattle.happenings.specs.Noted.{most_rows, Notes}
use Rattle.pending_entry.specs.Operations.{asking_faces}
use Rattle.pending_records.specs.Operations.{overdue_faces, noted, noted_by, noted_one}
use Rattle.records.specs.Closing.{own_line_by}
use Rattle.pending_records.specs.Laws.Held.{only_where}
use Rattle.pending_pass.specs.Lowest.{meets_own}
use Rattle.pending_pass.specs.Satisfies.{data_fate, ends_by}
use Rattle.records.specs.Closing.{without_face, closing_lines_by, closing_ends}
use Rattle.pending_table.specs.declared.Pending.{Pending}
use Rattle.pending_table.specs.declared.Handle.{Handle}
use Rattle.pending_table.specs.declared.Chosen.{Chosen}
use Rattle.pending_table.specs.Places.View.{Stands, place_of, marks_of}
use Rattle.pending_pass.specs.Places.Pass.{Work, notes, Turned, Leaves}
use Rattle.pending_pass.specs.Places.Works.{ageing_work, satisfying_work, closing_work}
use Rattle.pending_pass.specs.Laws.Pass.{joined_append}
use Rattle.pending_pass.specs.Laws.Faces.{only_all, some_holds, map_face, ending_one}

-- taking out what was changed is taking it out
without_on : {A : Type 0} (k : ℕ) (f : A → A) (l : List A) → without k (on_at k f l) ≡ without k l
unfolding without on_at
without_on k f [] = refl
without_on zero f (a ∷ l) = refl
without_on {A} (suc k) f (a ∷ l) = ap (λ (x : List A). a ∷ x) (without_on k f l)

module _ (n now : ℕ) (e : Entry) (wide : length e.requests ≡ n) where
  -- the rows noted for the overdue faces are those of the requests that expire
  rows_over : noted expired now (has_face n (overdue_faces n now e)) e ≡ map row_of (expiries now e)
  unfolding noted noted_by overdue_faces expiries
  rows_over = rw (only_where (λ (r : Request). not (is_live now r)) n e.requests (omega (arith, wide)))

  -- the requests of the asking faces are all
  only_asking : only (λ h. has_face n (asking_faces n e) h.face) (held e.requests) ≡ held e.requests
  unfolding asking_faces
  only_asking =
      let s : faces_where n (λ f. is_some (slot f e.requests)) ≡ faces_where n (λ f. holds (λ _. true) (slot f e.requests)) =
      where_ext n _ _ (λ f _. some_holds (slot f e.requests)) in
      rw (s, only_where (λ (r : Request). true) n e.requests (omega (arith, wide))) (only_all (held e.requests))

  -- the rows noted by face for the asking faces are those of the ends by Data
  rows_met : (x fate : ℕ → Fate) → ((f : ℕ) → is_face n f ≡ true → x f ≡ fate f)
      → noted_by x now (has_face n (asking_faces n e)) e ≡ map row_of (ends_by fate now e)
  unfolding noted_by ends_by held
  rows_met x fate same =
      rw (only_asking)
      (ap (map row_of) (map_face (λ h. happens (x h.face) now e h) (λ h. happens (fate h.face) now e h) n 1 e.requests
      (omega arith) (omega arith)
      (λ h y. rw (same h.face y))))

-- the row noted for a face is that of its request
rows_closed : (now f : ℕ) (e : Entry) → noted_one closed now f e ≡ map row_of (closing_ends now f e)
unfolding noted_one closing_ends given
rows_closed now f e = go (slot f e.requests)
  where
    go : (x : Option Request) → given [] (λ (r : Request). row_of (happens closed now e (record { face = f; what = r })) ∷ []) x
        ≡ map row_of (given [] (λ (r : Request). happens closed now e (record { face = f; what = r }) ∷ []) x)
    go none = refl
    go (some r) = refl

-- ending a face's record and then its request, at a place
on_closed : (n f k : ℕ) (l : List Entry) (e : Entry) → at_place k l ≡ some e → length e.requests ≡ n
    → on_at k (ending (has_face n (with_face n 0 f))) (on_at k (not_sent f) l) ≡ on_at k (without_face f) l
unfolding at_place on_at not_sent with_sent
on_closed n f k [] e p w = refl
on_closed n f zero (a ∷ l) e p w =
    let z : a ≡ e = cc in
    let v : length a.requests ≡ n = rw z w in
    rw (ending_one n f (not_sent f a) v)
on_closed n f (suc k) (a ∷ l) e p w = rw (on_closed n f k l e p w)

-- two choices by a test and by its contrary
pick_not : {A : Type 0} (b : Bool) (x y : A) → pick b x y ≡ pick (not b) y x
unfolding pick
pick_not true x y = refl
pick_not false x y = refl

module _ {C : Type 0} (print : List ℕ → ℕ → ℕ) (now k : ℕ) (es : List Entry) (marks : C → List Bool) (ls : List Line)
    (e : Entry) (p : at_place k es ≡ some e) (idle : Bool) (said : idle ≡ given true is_idle (at_place k es)) where
  -- whether it has no requests
  idle_is : is_idle e ≡ idle
  unfolding given
  idle_is = sym (said ∙ rw p)

  -- an entry with requests stays
  pub leaves_not : idle ≡ false → Leaves print now k e es marks ls es marks ls
  unfolding leaving joined_all
  leaves_not y =
      let i : is_idle e ≡ false = idle_is ∙ y in
      record {
        entries = sym (pick_no _ _ _ i);
        marks = λ c. sym (pick_no _ _ _ i);
        lines = sym (ap (joined_all most_dead ls) (pick_no _ _ _ i));
      }

  -- one without is buried and taken out
  pub leaves_out : idle ≡ true → (ls' : List Line) → ls' ≡ joined_all most_dead ls (given [] (buried_by print now) (at_place k es))
      → (es' : List Entry) → es' ≡ without k es → (marks' : C → List Bool) → ((c : C) → marks' c ≡ without k (marks c))
      → Leaves print now k e es marks ls es' marks' ls'
  unfolding leaving given
  leaves_out y ls' b es' out marks' m =
      let i : is_idle e ≡ true = idle_is ∙ y in
      record {
        entries = out ∙ sym (pick_yes _ _ _ i);
        marks = λ c. m c ∙ sym (pick_yes _ _ _ i);
        lines = b ∙ ap (joined_all most_dead ls) ((rw p) ∙ sym (pick_yes _ _ _ i));
      }

-- an entry stays or leaves the same in a table whose handles and choices stand for the same
pub leaves_stood : (print : List ℕ → ℕ → ℕ) (now : ℕ) (e : Entry) (es es' : List Entry) (ls ls' : List Line) (marks : Chosen → List Bool)
    (p q : Pending) (h : Handle) → Stands p q → Leaves print now (place_of q h) e es (marks_of q) ls es' marks ls'
    → Leaves print now (place_of p h) e es (marks_of p) ls es' marks ls'
leaves_stood print now e es es' ls ls' marks p q h s l =
    let at = s.places h in
    record {
      entries = rw at at l.entries;
      marks = λ c. l.marks c ∙ rw (at, s.choices c);
      lines = l.lines;
    }

module _ {C : Type 0} (n : ℕ) (print : List ℕ → ℕ → ℕ) (now k : ℕ) (es : List Entry) (marks : C → List Bool) (ls : List Line)
    (rs rs' : List (List ℕ)) (made made' : ℕ)
    (e : Entry) (p : at_place k es ≡ some e) (wide : length e.requests ≡ n) where
  -- a turn of Data: the requests end, by a fate for each face, and the entry is buried and taken out
  pub turn_met : (asked : ℕ) → asked ≡ given 0 (asking_faces n) (at_place k es) → (f : ℕ) (ad_hoc : Bool) (met : ℕ)
      → ((g : ℕ) → is_face n g ≡ true → has_face n met g ≡ meets_own f ad_hoc g)
      → Notes most_rows made' rs' rs made
      (given [] (noted_by (λ g. pick (has_face n met g) self_met answered) now (has_face n asked)) (at_place k es))
      → (ls' : List Line) → ls' ≡ joined_all most_dead ls (given [] (buried_by print now) (at_place k es))
      → (es' : List Entry) → es' ≡ without k es → (marks' : C → List Bool) → ((c : C) → marks' c ≡ without k (marks c))
      → Turned (satisfying_work print now (data_fate f ad_hoc)) k e es marks ls rs made es' marks' ls' rs' made'
  unfolding satisfying_work notes given data_fate
  turn_met asked a f ad_hoc met same rows ls' b es' out marks' m =
      let s : asked ≡ asking_faces n e = a ∙ rw p in
      let x : (ℕ → Fate) = (λ g. pick (has_face n met g) self_met answered) in
      let q : given [] (noted_by x now (has_face n asked)) (at_place k es) ≡ map row_of (ends_by (data_fate f ad_hoc) now e) =
      rw (p, s) (rows_met n now e wide x (data_fate f ad_hoc) (λ g y. rw (same g y))) in
      record {
        entries = out ∙ sym (pick_no _ _ _ refl);
        marks = λ c. m c ∙ sym (pick_no _ _ _ refl);
        lines = b ∙ rw p;
        rows = rw q at rows;
      }

  module _ (es₁ : List Entry) (ls₁ : List Line) (es' : List Entry) (marks' : C → List Bool) (ls' : List Line)
      (leave : (x : Entry) → at_place k es₁ ≡ some x → Leaves print now k x es₁ marks ls₁ es' marks' ls') where
    -- a turn of a pass that changes an entry, buries some lines of its own, and lets it leave where it has no requests then
    turn_leaves : (w : Work) (own : List Line) → w.stays e ≡ not (is_idle (w.change e))
        → w.buries e ≡ own ++ leaving print now (w.change e)
        → es₁ ≡ on_at k w.change es → ls₁ ≡ joined_all most_dead ls own → Notes most_rows made' rs' rs made (notes w e)
        → Turned w k e es marks ls rs made es' marks' ls' rs' made'
    turn_leaves w own s b x y rows =
        let g = leave (w.change e) (rw x (place_on_at k w.change es e p)) in
        let i = is_idle (w.change e) in
        let es₂ = on_at k w.change es in
        let a : pick i (without k es₁) es₁ ≡ pick i (without k es) es₂ = rw (x, without_on k w.change es) in
        let d : joined_all most_dead ls₁ (leaving print now (w.change e))
        ≡ joined_all most_dead ls (own ++ leaving print now (w.change e)) =
        rw y (sym (joined_append most_dead ls own (leaving print now (w.change e)))) in
        record {
          entries = g.entries ∙ a ∙ pick_not i (without k es) es₂ ∙ ap (λ (z : Bool). pick z es₂ (without k es)) (sym s);
          marks = λ c. g.marks c ∙ pick_not i (without k (marks c)) (marks c)
              ∙ ap (λ (z : Bool). pick z (marks c) (without k (marks c))) (sym s);
          lines = g.lines ∙ d ∙ ap (joined_all most_dead ls) (sym b);
          rows = rows;
        }

    -- a turn of ageing
    pub turn_aged : (over : ℕ) → over ≡ given 0 (overdue_faces n now) (at_place k es)
        → Notes most_rows made' rs' rs made (given [] (noted expired now (has_face n over)) (at_place k es))
        → es₁ ≡ on_at k (aged_entry now) es → ls₁ ≡ ls → Turned (ageing_work print now) k e es marks ls rs made es' marks' ls' rs' made'
    unfolding ageing_work notes given joined_all
    turn_aged over a rows x y =
        let o : over ≡ overdue_faces n now e = a ∙ rw p in
        let b : given [] (noted expired now (has_face n over)) (at_place k es) ≡ map row_of (expiries now e) =
        rw (p, o) (rows_over n now e wide) in
        turn_leaves (ageing_work print now) [] refl refl x y (rw b at rows)

    -- a turn of closing a face
    pub turn_closed : (f : ℕ) → ls₁ ≡ joined_all most_dead ls (given [] (own_line_by print now f) (at_place k es))
        → Notes most_rows made' rs' rs made (given [] (noted_one closed now f) (at_place k es)) → (es₀ : List Entry)
        → es₀ ≡ on_at k (not_sent f) es
        → es₁ ≡ on_at k (ending (has_face n (with_face n 0 f))) es₀
        → Turned (closing_work print now f) k e es marks ls rs made es' marks' ls' rs' made'
    unfolding closing_work notes given closing_lines_by
    turn_closed f own rows es₀ x y =
        let b : given [] (noted_one closed now f) (at_place k es) ≡ map row_of (closing_ends now f e) = rw p (rows_closed now f e) in
        let z : es₁ ≡ on_at k (without_face f) es =
        y ∙ ap (on_at k (ending (has_face n (with_face n 0 f)))) x ∙ on_closed n f k es e p wide in
        turn_leaves (closing_work print now f) (own_line_by print now f e) refl refl z (own ∙ rw p) (rw b at rows)
