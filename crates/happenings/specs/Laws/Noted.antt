-- Rows noted in two parts, how many rows there are then, and a happening's row.
-- Assumes nothing.
use Rattle.std.specs.Prelude.{ℕ, ◌+◌, max, ◌≡◌, refl, List, [], ◌++◌, Bool, true, false, leb, length}
use Rattle.std.proofs.Common.{sym, ap, ◌∙◌, arith, leb-true, leb-false, length-append}
use Rattle.std.proofs.Math.Seq.{length-sets}
use Rattle.laws.specs.Pick.{pick}
use Rattle.laws.specs.Laws.Pick.{pick_ind}
use Rattle.laws.specs.Laws.Writes.{sets_append, sets_out}
use Rattle.records.specs.Class.{class_number}
use Rattle.records.specs.Slots.{Held}
use Rattle.records.specs.Entry.{Request, Entry}
use Rattle.records.specs.Happening.{Fate, happens}
use Rattle.records.specs.Rows.{fate_number, row_of}
use Rattle.happenings.specs.Noted.{note_of, Notes}

-- the row of a happening
pub row_is : (x : Fate) (now : ℕ) (e : Entry) (h : Held Request)
    → row_of (happens x now e h) ≡ note_of h.face (class_number e.cls) (fate_number x) h.what.nonce h.what.expiry
unfolding row_of happens
row_is x now e h = refl

module _ (most : ℕ) where
  -- no rows noted
  pub notes_none : (at : ℕ) (rows : List (List ℕ)) → Notes most at rows rows at []
  notes_none at rows = record { rows = refl; made = λ l. omega arith; full = λ l. omega arith }

  -- noting keeps how many rows the array has
  pub notes_length : (r at : ℕ) (after before news : List (List ℕ)) → Notes most r after before at news → length after ≡ length before
  notes_length r at after before news h = ap length h.rows ∙ length-sets before at news

  -- so many rows there are then: more by those noted, or all
  notes_count : {at : ℕ} {before news : List (List ℕ)} {r : ℕ} {after : List (List ℕ)} → Notes most r after before at news
      → r ≡ pick (leb (at + length news) most) (at + length news) (max at most)
  notes_count {r = r} a = pick_ind (λ (x : ℕ). r ≡ x) _ _ _ (λ e. a.made (leb-true _ _ e)) (λ e. a.full (leb-false _ _ e))

  -- there is one outcome of noting rows
  pub notes_one : {at : ℕ} {before news : List (List ℕ)} {r s : ℕ} {after after' : List (List ℕ)} → Notes most r after before at news
      → Notes most s after' before at news → (r ≡ s) × (after ≡ after')
  notes_one a b = (notes_count a ∙ sym (notes_count b), a.rows ∙ sym b.rows)

  -- rows noted and then others are all of them noted; past the array's end nothing is noted
  pub notes_then : (r s at : ℕ) (before mid after news more : List (List ℕ)) → length before ≡ most
      → Notes most r mid before at news → Notes most s after mid r more → Notes most s after before at (news ++ more)
  notes_then r s at before mid after news more all a b = go (leb (at + length news) most) refl
    where
      n : length mid ≡ most
      n = notes_length r at mid before news a ∙ all

      sum : length (news ++ more) ≡ length news + length more
      sum = length-append news more

      over : r ≡ max at most → (c : Bool) → leb (r + length more) most ≡ c → s ≡ max at most
      over e true h = b.made (leb-true _ _ h) ∙ omega (arith, leb-true (r + length more) most h)
      over e false h = b.full (leb-false _ _ h) ∙ omega (arith, leb-false (r + length more) most h)

      go : (c : Bool) → leb (at + length news) most ≡ c → Notes most s after before at (news ++ more)
      go true h =
          let e : r ≡ at + length news = a.made (leb-true _ _ h) in
          record {
            rows = b.rows ∙ rw (e, a.rows) (sym (sets_append news more before at));
            made = λ l. b.made (omega (arith, e, sum)) ∙ omega (arith, e, sum);
            full = λ l. b.full (omega (arith, e, sum)) ∙ omega (arith, e, sum, leb-true (at + length news) most h);
          }
      go false h =
          let k = at + length news in
          let l = leb-false k most h in
          let e : r ≡ max at most = a.full l in
          record {
            rows =
                b.rows ∙ sets_out more mid r (omega (arith, e, n)) ∙ sym (sets_out more mid k (omega (arith, n, l)))
                ∙ rw a.rows (sym (sets_append news more before at));
            made = λ q. absurd (omega (arith, sum, l));
            full = λ q. over e (leb (r + length more) most) refl;
          }
