-- What one row says to a search: whether its entry is that of a name and both flags, and whether a Data's name matches it.
-- Assumes nothing.
use Rattle.std.specs.Option.{is_some}
use Rattle.std.specs.Prelude.{ℕ, ◌+◌, ◌<◌, ◌≤◌, ◌≡◌, Bool, ◌&&◌, ◌||◌, List, length, get_or, take, eqb, Option, Some, None}
use Rattle.std.proofs.Math.Path.{refl}
use Rattle.std.proofs.Math.Bool.{true, false, true≢false}
use Rattle.std.proofs.Common.{sym, arith}
use Rattle.std.specs.Bool.{beq}
use Rattle.std.proofs.lemmas.List.Edits.{sets}
use Rattle.laws.specs.Laws.Writes.{sets_back}
use Rattle.wire.specs.Places.Write.{outcome, wrote}
use Rattle.wire.specs.Laws.Write.{answer_next, answer_full}
use Rattle.names.specs.Name.{same_bytes, prefix_of}
use Rattle.records.specs.Laws.Class.{class_number_lem}
use Rattle.records.specs.Entry.{is_known, matches}
use Rattle.pending_entry.specs.Places.View as entry
use Rattle.pending_table.specs.Operations.{facts_of}

module _ (n : ℕ) (row head : List ℕ) (recs : List (List ℕ)) where
  -- what a row is known by, the flags first
  pub row_known : (name : List ℕ) (p m : Bool)
      → is_known name p m (entry.view_for n row head recs)
      ≡ (beq p (eqb (get_or head 1 0) 1) && (beq m (eqb (get_or head 2 0) 1) && same_bytes name (take (get_or head 0 0) row)))
  unfolding is_known
  row_known name p m =
      rw (entry.view_name n row head recs, entry.view_prefix n row head recs, entry.view_fresh n row head recs)
      (turned (same_bytes name (take (get_or head 0 0) row)) (beq p (eqb (get_or head 1 0) 1)) (beq m (eqb (get_or head 2 0) 1)))
    where
      turned : (a b c : Bool) → (a && b && c) ≡ (b && (c && a))
      turned true true true = refl
      turned true true false = refl
      turned true false c = refl
      turned false true true = refl
      turned false true false = refl
      turned false false c = refl

  -- what a Data's name is compared with
  pub row_matches : (name : List ℕ) → matches name (entry.view_for n row head recs)
      ≡ (same_bytes (take (get_or head 0 0) row) name || (eqb (get_or head 1 0) 1 && prefix_of (take (get_or head 0 0) row) name))
  unfolding matches
  row_matches name = rw (entry.view_name n row head recs, entry.view_prefix n row head recs)

  -- the flags and the class word of a row
  pub row_facts : facts_of (entry.view_for n row head recs)
      ≡ record { prefix = eqb (get_or head 1 0) 1; fresh = eqb (get_or head 2 0) 1; class = get_or head 3 0 }
  unfolding facts_of
  row_facts =
      rw (
        entry.view_prefix n row head recs,
        entry.view_fresh n row head recs,
        entry.view_class n row head recs,
        class_number_lem (get_or head 3 0),
      )

-- bytes stored at the start of a row are read back
pub row_back : (row vs c : List ℕ) → 0 + length vs ≤ length row → c ≡ sets row 0 vs → take (length vs) c ≡ vs
row_back row vs c h e = rw e (sets_back vs row 0 h)

-- what a writer's answer and the row that it leaves tell, where it writes at the row's start
module _ (row vs c : List ℕ) {r : Option ℕ} (w : outcome r c ≡ wrote row 0 vs) where
  -- where it answers a place the bytes fit, and are read back
  pub row_stored : is_some r ≡ true → (length vs ≤ length row) × (take (length vs) c ≡ vs)
  row_stored y = go r refl
    where
      go : (o : Option ℕ) → r ≡ o → (length vs ≤ length row) × (take (length vs) c ≡ vs)
      go (Some t) e = let k = answer_next row 0 vs c w e in (omega (arith, k.0), row_back row vs c k.0 k.1)
      go None e = absurd (true≢false (rw e at (sym y)))

  -- where it answers none the bytes do not fit, and the row is as it was
  pub row_full : is_some r ≡ false → (length row < length vs) × (c ≡ row)
  row_full y = go r refl
    where
      go : (o : Option ℕ) → r ≡ o → (length row < length vs) × (c ≡ row)
      go (Some t) e = absurd (true≢false (rw e at y))
      go None e = let k = answer_full row 0 vs c w e in (omega (arith, k.0), k.1)
