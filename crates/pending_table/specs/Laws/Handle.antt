-- What a handle means while other entries are changed, taken out or opened: its own entry stays its own.
-- Assumes nothing.
use Prim.Native.Nat.{ℕ, zero, suc, ◌<◌}
use Rattle.std.specs.Prelude.{◌≡◌, Bool, true, false, ◌≢◌, length, ltb}
use Rattle.std.proofs.Math.Path.{refl}
use Rattle.std.proofs.Common.{sym, ap, ◌∙◌, arith}
use mathlib.Core.List.{List, [], ◌∷◌, ◌++◌}
use Rattle.std.proofs.Math.Option.{some}
use Rattle.laws.specs.Laws.Pick.{pick_yes, pick_no}
use Rattle.laws.specs.Pick.{pick}
use Rattle.laws.specs.Lists.{on_at}
use Rattle.records.specs.Slots.{at_place}
use Rattle.records.specs.Entry.{Entry}
use Rattle.pending_order.specs.Laws.Moved.{without_there}
use Rattle.pending_table.specs.declared.Handle.{Handle}
use Rattle.pending_table.specs.declared.Chosen.{Chosen}
use Rattle.pending_table.specs.Operations.{Opens, TakesOut, fits_table}

module _ {A : Type 0} where
  -- a change at another place
  pub there_changed : (i j : ℕ) (f : A → A) (l : List A) → j ≢ i → at_place j (on_at i f l) ≡ at_place j l
  unfolding at_place on_at
  there_changed i j f [] d = refl
  there_changed zero zero f (a ∷ l) d = absurd (d refl)
  there_changed zero (suc j) f (a ∷ l) d = refl
  there_changed (suc i) zero f (a ∷ l) d = refl
  there_changed (suc i) (suc j) f (a ∷ l) d = there_changed i j f l (λ e. d (ap suc e))

  -- an element more at the end
  there_more : (j : ℕ) (l m : List A) → j < length l → at_place j (l ++ m) ≡ at_place j l
  unfolding at_place
  there_more j [] m h = absurd (omega arith)
  there_more zero (a ∷ l) m h = refl
  there_more (suc j) (a ∷ l) m h = there_more j l m (omega arith)

  -- which stands there
  there_last : (l : List A) (a : A) → at_place (length l) (l ++ (a ∷ [])) ≡ some a
  unfolding at_place
  there_last [] a = refl
  there_last (x ∷ l) a = there_last l a

-- an entry taken out: any other handle keeps its entry
pub taken_others : {h : Handle} {before after : List Entry} {was stands : Handle → ℕ} {marked marks : Chosen → List Bool}
    → TakesOut h before after was stands marked marks → (g : Handle) → was g ≢ was h → at_place (stands g) after ≡ at_place (was g) before
taken_others {h} {before} {after} {was} t g d =
    rw (t.others g) (ap (at_place _) t.left ∙ without_there (was h) (was g) (length after) before (λ e. d (sym e)))

module _ {r : Handle} {e : Entry} {before after : List Entry} {was stands : Handle → ℕ} {marked marks : Chosen → List Bool}
    (o : Opens r e before after was stands marked marks) where
  -- an entry opened: any handle that had an entry keeps it
  pub opened_others : (g : Handle) → was g < length before → at_place (stands g) after ≡ at_place (was g) before
  opened_others g l = rw (o.others g l, o.left) (go (fits_table e before))
    where
      go : (b : Bool) → at_place (was g) (pick b (before ++ (e ∷ [])) before) ≡ at_place (was g) before
      go true = ap (at_place (was g)) (pick_yes _ _ _ refl) ∙ there_more (was g) before (e ∷ []) l
      go false = ap (at_place (was g)) (pick_no _ _ _ refl)

  -- and the new handle, where it has an entry, has the new one
  pub opened_own : ltb (stands r) (length after) ≡ true → at_place (stands r) after ≡ some e
  opened_own y = rw (o.last, o.left, sym o.said ∙ y, pick_yes) (there_last before e)
