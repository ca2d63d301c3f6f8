-- A pass of each kind over the entries that it chooses is what the rules say of all entries.
-- Assumes nothing.
use Rattle.std.specs.Prelude.{ℕ, suc, ◌≤◌, ◌≡◌, Bool, ◌||◌, not, length}
use Rattle.std.proofs.Math.Path.{refl, ap}
use Rattle.std.proofs.Common.{sym, ◌∙◌, true≢false, arith}
use Rattle.std.proofs.Math.Bool.{true, false}
use mathlib.Core.List.{List, [], ◌∷◌, ◌++◌, map}
use Rattle.std.proofs.Math.Option.{Option, none, some}
use Rattle.laws.specs.Pick.{pick}
use Rattle.sizes.specs.Sizes.{most_faces, most_dead}
use Rattle.faces.specs.Set.{faces_where}
use Rattle.records.specs.Slots.{Held, held, held_from, any_of, only, each}
use Rattle.records.specs.Laws.Each.{map_append}
use Rattle.records.specs.Entry.{Request, Entry, with_requests, is_idle, is_live, if_live, aged_entry, matches}
use Rattle.records.specs.Line.{Line, joined_all}
use Rattle.records.specs.Rows.{row_of}
use Rattle.records.specs.Ageing.{buried_by, expiries, staying, leaving, aged_pending, aged_lines_by}
use Rattle.happenings.specs.Noted.{most_rows, Notes}
use Rattle.pending_handle.specs.Operations.{is_due}
use Rattle.pending_pass.specs.Ages.{aged_rows, Ages}
use Rattle.pending_pass.specs.Lowest.{class_words, is_owed}
use Rattle.pending_pass.specs.Satisfies.{data_fate, ends_by, Satisfies}
use Rattle.pending_pass.specs.Closes.{Closes}
use Rattle.records.specs.Closing.{closing_lines_by, closing_ends}
use Rattle.pending_pass.specs.Places.Pass.{Work, notes, marked, after, passed, Passes}
use Rattle.pending_pass.specs.Places.Works.{ageing_work, satisfying_work, closing_work}

-- those that a test marks are those that it holds of
marked_only : {A : Type 0} (p : A → Bool) (l : List A) → marked (map p l) l ≡ only p l
unfolding marked only
marked_only p [] = refl
marked_only p (a ∷ l) = rw (marked_only p l)

-- where all are marked these are all
marked_all : {A : Type 0} (l : List A) → marked (map (λ _. true) l) l ≡ l
unfolding marked pick
marked_all [] = refl
marked_all {A} (a ∷ l) = ap (λ (x : List A). a ∷ x) (marked_all l)

-- the lists that f makes of the elements that p holds of are those of all, where f makes none of the others
each_only : {A B : Type 0} (f : A → List B) (p : A → Bool) → ((a : A) → p a ≡ false → f a ≡ []) → (l : List A)
    → each f (only p l) ≡ each f l
unfolding each only pick
each_only f p h [] = refl
each_only {A} {B} f p h (a ∷ l) = go (p a) refl (each_only f p h l)
  where
    go : (b : Bool) → p a ≡ b → each f (only p l) ≡ each f l → each f (pick b (a ∷ only p l) (only p l)) ≡ f a ++ each f l
    go true q r = ap (λ (x : List B). f a ++ x) r
    go false q r = rw (h a q) r

-- the rows of all ends
each_notes : (w : Work) (l : List Entry) → each (notes w) l ≡ map row_of (each w.ends l)
unfolding each notes
each_notes w [] = refl
each_notes w (e ∷ l) = rw (each_notes w l) (sym (map_append row_of (w.ends e) (each w.ends l)))

-- a pass that keeps those with requests, over the entries that p chooses, where it leaves the others as they are
passed_staying : (w : Work) (p : Entry → Bool) → ((e : Entry) → w.stays e ≡ not (is_idle (w.change e)))
    → ((e : Entry) → p e ≡ false → w.change e ≡ e) → ((e : Entry) → p e ≡ false → is_idle e ≡ false)
    → (es : List Entry) → passed w (map p es) es ≡ staying (map w.change es)
unfolding passed staying only after pick
passed_staying w p s c i [] = refl
passed_staying w p s c i (e ∷ es) = go (p e) refl (passed_staying w p s c i es)
  where
    go : (b : Bool) → p e ≡ b → passed w (map p es) es ≡ staying (map w.change es)
        → pick b (pick (w.stays e) (w.change e ∷ passed w (map p es) es) (passed w (map p es) es)) (e ∷ passed w (map p es) es)
        ≡ pick (not (is_idle (w.change e))) (w.change e ∷ staying (map w.change es)) (staying (map w.change es))
    go true q r = rw (s e, r)
    go false q r = rw (c e q, i e q, r)

-- a pass that keeps none is over those that p does not choose
passed_leaving : (w : Work) (p : Entry → Bool) → ((e : Entry) → w.stays e ≡ false) → (es : List Entry)
    → passed w (map p es) es ≡ only (λ e. not (p e)) es
unfolding passed only after pick
passed_leaving w p s [] = refl
passed_leaving w p s (e ∷ es) = go (p e) (passed_leaving w p s es)
  where
    go : (b : Bool) → passed w (map p es) es ≡ only (λ x. not (p x)) es
        → pick b (pick (w.stays e) (w.change e ∷ passed w (map p es) es) (passed w (map p es) es)) (e ∷ passed w (map p es) es)
        ≡ pick (not b) (e ∷ only (λ x. not (p x)) es) (only (λ x. not (p x)) es)
    go true r = rw (s e, r)
    go false r = rw r

module _ (now : ℕ) where
  -- whether a request is over
  abbrev over : Held Request → Bool
  over h = not (is_live now h.what)

  -- where no request is over all live
  all_live : (f : ℕ) (l : List (Option Request)) → any_of over (held_from f l) ≡ false → map (if_live now) l ≡ l
  unfolding any_of held_from if_live pick
  all_live f [] h = refl
  all_live f (none ∷ l) h = ap (λ (x : List (Option Request)). none ∷ x) (all_live (suc f) l h)
  all_live f (some r ∷ l) h = go (is_live now r) refl h (all_live (suc f) l)
    where
      go : (b : Bool) → is_live now r ≡ b → (not b || any_of over (held_from (suc f) l)) ≡ false
          → (any_of over (held_from (suc f) l) ≡ false → map (if_live now) l ≡ l)
          → pick b (some r) none ∷ map (if_live now) l ≡ some r ∷ l
      go true q k m = ap (λ (x : List (Option Request)). some r ∷ x) (m k)
      go false q k m = let z : true ≡ false = k in absurd (true≢false z)

  -- and none is among those that expire
  none_over : (l : List (Held Request)) → any_of over l ≡ false → only over l ≡ []
  unfolding any_of only pick
  none_over [] h = refl
  none_over (x ∷ l) h = go (over x) h (none_over l)
    where
      go : (b : Bool) → (b || any_of over l) ≡ false → (any_of over l ≡ false → only over l ≡ [])
          → pick b (x ∷ only over l) (only over l) ≡ []
      go true k m = absurd (true≢false k)
      go false k m = m k

  module _ (e : Entry) (h : is_due now e ≡ false) where
    -- an entry that ageing does not concern has a request
    due_idle : is_idle e ≡ false
    unfolding is_due
    due_idle = go (is_idle e) h
      where
        go : (b : Bool) → (b || any_of over (held e.requests)) ≡ false → b ≡ false
        go true k = k
        go false k = refl

    -- and none that is over
    due_live : any_of over (held e.requests) ≡ false
    unfolding is_due
    due_live = rw due_idle at h

    -- so it is as it was
    due_same : aged_entry now e ≡ e
    unfolding aged_entry with_requests held
    due_same = ap (λ (x : List (Option Request)). with_requests x e) (all_live 1 e.requests due_live)

    -- nothing expires
    due_expiries : expiries now e ≡ []
    unfolding expiries
    due_expiries = rw (none_over (held e.requests) due_live)

    -- and it buries nothing
    due_buries : (print : List ℕ → ℕ → ℕ) → leaving print now (aged_entry now e) ≡ []
    unfolding leaving pick
    due_buries print = rw (due_same, due_idle)

module _ (print : List ℕ → ℕ → ℕ) (now : ℕ) (es : List Entry) (ls : List Line) (rs : List (List ℕ)) (made : ℕ) (ms : List Bool)
    (es' : List Entry) (ls' : List Line) (rs' : List (List ℕ)) (made' : ℕ) where
  -- the pass of ageing over the entries that it concerns, where there is a row for each request that expires
  pub pass_ages : ms ≡ map (is_due now) es → Passes (ageing_work print now) ms es ls rs 0 es' ls' rs' made'
      → length (aged_rows now es) ≤ most_rows
      → Ages print now es ls rs es' ls' rs' made'
  unfolding ageing_work aged_pending aged_lines_by aged_rows
  pass_ages which q few =
      let w = ageing_work print now in
      let p : Passes w (map (is_due now) es) es ls rs 0 es' ls' rs' made' = rw which at q in
      let m = marked_only (is_due now) es in
      let n : each (notes w) (marked (map (is_due now) es) es) ≡ map row_of (each (expiries now) es) =
      each_notes w (marked (map (is_due now) es) es)
      ∙ ap (map row_of) (ap (each (expiries now)) m ∙ each_only (expiries now) (is_due now) (λ e h. due_expiries now e h) es) in
      let b : each (λ e. leaving print now (aged_entry now e)) (marked (map (is_due now) es) es) ≡ each
      (λ e. leaving print now (aged_entry now e)) es =
      ap (each (λ e. leaving print now (aged_entry now e))) m
      ∙ each_only (λ e. leaving print now (aged_entry now e)) (is_due now) (λ e h. due_buries now e h print) es in
      let k : Notes most_rows made' rs' rs 0 (map row_of (each (expiries now) es)) = rw n at p.rows in
      record {
        entries = p.entries ∙ passed_staying w (is_due now) (λ e. refl) (λ e h. due_same now e h) (λ e h. due_idle now e h) es;
        lines = p.lines ∙ ap (joined_all most_dead ls) b;
        rows = k.rows;
        noted = k.made (omega (arith, few)) ∙ omega arith;
      }

  -- the pass of Data over the entries that it matches, with their lowest classes and the faces of its copies
  pub pass_satisfies : (f : ℕ) (ad_hoc : Bool) (name : List ℕ) → ms ≡ map (matches name) es
      → Passes (satisfying_work print now (data_fate f ad_hoc)) ms es ls rs made es' ls' rs' made'
      → (ws : List ℕ) → ws ≡ class_words most_faces (marked ms es) → (copies : ℕ)
      → copies ≡ faces_where most_faces (is_owed f ad_hoc (marked ms es))
      → Satisfies print now f ad_hoc name es ls rs made es' ls' rs' made' ws copies
  unfolding satisfying_work
  pass_satisfies f ad_hoc name which q ws v copies u =
      let w = satisfying_work print now (data_fate f ad_hoc) in
      let p : Passes w (map (matches name) es) es ls rs made es' ls' rs' made' = rw which at q in
      let m = marked_only (matches name) es in
      let n : each (notes w) (marked (map (matches name) es) es) ≡ map row_of
      (each (ends_by (data_fate f ad_hoc) now) (only (matches name) es)) =
      each_notes w (marked (map (matches name) es) es)
      ∙ ap (λ (x : List Entry). map row_of (each (ends_by (data_fate f ad_hoc) now) x)) m in
      let chosen : marked ms es ≡ only (matches name) es = ap (λ (x : List Bool). marked x es) which ∙ m in
      record {
        entries = p.entries ∙ passed_leaving w (matches name) (λ e. refl) es;
        lines = p.lines ∙ ap (λ (x : List Entry). joined_all most_dead ls (each (buried_by print now) x)) m;
        rows = rw n at p.rows;
        classes = v ∙ ap (class_words most_faces) chosen;
        copies = u ∙ ap (λ (x : List Entry). faces_where most_faces (is_owed f ad_hoc x)) chosen;
      }

  -- the pass of closing a face, over all entries
  pub pass_closes : (f : ℕ) → ms ≡ map (λ _. true) es → Passes (closing_work print now f) ms es ls rs made es' ls' rs' made'
      → Closes print now f es ls rs made es' ls' rs' made'
  unfolding closing_work
  pass_closes f which q =
      let w = closing_work print now f in
      let p : Passes w (map (λ _. true) es) es ls rs made es' ls' rs' made' = rw which at q in
      let m = marked_all es in
      let n : each (notes w) (marked (map (λ _. true) es) es) ≡ map row_of (each (closing_ends now f) es) =
      each_notes w (marked (map (λ _. true) es) es) ∙ ap (λ (x : List Entry). map row_of (each (closing_ends now f) x)) m in
      record {
        entries = p.entries ∙ passed_staying w (λ _. true) (λ e. refl) (λ e h. absurd (true≢false h)) (λ e h. absurd (true≢false h)) es;
        lines = p.lines ∙ ap (λ (x : List Entry). joined_all most_dead ls (each (closing_lines_by print now f) x)) m;
        rows = rw n at p.rows;
      }
