-- The reason that goes on for an entry of the table is at most 150: a byte holds it.
-- Assumes nothing.
use Rattle.std.specs.Prelude.{ℕ, zero, suc, ◌≤◌, ◌≡◌, Bool, true, false, List, [], ◌∷◌, eqb, get_or}
use Rattle.std.proofs.Math.Option.{Option, none, some}
use Rattle.std.proofs.Common.{arith}
use Rattle.laws.specs.Pick.{pick}
use Rattle.laws.specs.Laws.Pick.{pick_ind}
use Rattle.laws.specs.Digits.{member}
use Rattle.laws.specs.Places.Tab.{tab}
use Rattle.records.specs.Slots.{at_place, given, held, held_from}
use Rattle.records.specs.Entry.{Sent, Entry, lesser_reason, smallest_reason}
use Rattle.faces.specs.Slots.{slots_of}
use Rattle.pending_entry.specs.Places.View as entry
use Rattle.pending_entry.specs.Places.View.{nack_word, sent_at}
use Rattle.pending_entry.specs.Laws.Change.{reason_most}
use Rattle.pending_table.specs.Places.View.{State}
use Rattle.pending_table.specs.Places.View.{view_for, row_at, view_each}

-- what a Nack word says is at most 150
word_most : (w : ℕ) → given 0 (λ k. k) (nack_word w) ≤ 150
unfolding nack_word given
word_most w = pick_ind (λ (x : Option ℕ). given 0 (λ k. k) x ≤ 150) (eqb w 0) none _ (λ _. omega arith) (λ _. reason_most _)

-- so is the lesser of two such reasons
lesser_most : (a b : ℕ) → a ≤ 150 → b ≤ 150 → lesser_reason a b ≤ 150
unfolding lesser_reason
lesser_most a b x y =
    pick_ind (λ (k : ℕ). k ≤ 150) (eqb a 0) b _ (λ _. y)
    (λ _. pick_ind (λ (k : ℕ). k ≤ 150) (eqb b 0) a _ (λ _. x) (λ _. pick_ind (λ (k : ℕ). k ≤ 150) _ b a (λ _. y) (λ _. x)))

-- and the smallest of out-records with such reasons
smallest_most : (r : ℕ → Bool) (v : ℕ → Sent) → ((i : ℕ) → given 0 (λ k. k) (v i).nacked ≤ 150) → (f i m : ℕ)
    → smallest_reason (held_from f (tab (λ k. pick (r k) (some (v k)) none) i m)) ≤ 150
unfolding smallest_reason held_from tab pick
smallest_most r v h f i zero = omega arith
smallest_most r v h f i (suc m) = go (r i) (smallest_most r v h (suc f) (suc i) m)
  where
    go : (b : Bool) → smallest_reason (held_from (suc f) (tab (λ k. pick (r k) (some (v k)) none) (suc i) m)) ≤ 150
        → smallest_reason (held_from f (pick b (some (v i)) none ∷ tab (λ k. pick (r k) (some (v k)) none) (suc i) m)) ≤ 150
    go true y = lesser_most _ _ (h i) y
    go false y = y

-- the reason that goes on for an entry is at most 150
pub view_reason : (n : ℕ) (names heads : List (List ℕ)) (recs : List (List (List ℕ))) (numbers : List ℕ) (s : State) (i : ℕ) (e : Entry)
    → at_place i (view_for n names heads recs numbers s) ≡ some e → smallest_reason (held e.sent) ≤ 150
unfolding row_at held slots_of sent_at
view_reason n names heads recs numbers s =
    view_each n names heads recs numbers s (λ (x : Entry). smallest_reason (held x.sent) ≤ 150)
    (λ t. rw (entry.view_sent n (get_or names t []) (get_or heads t []) (get_or recs t []))
    (smallest_most (λ k. member k (get_or (get_or heads t []) 5 0)) (sent_at (get_or recs t [])) (λ k. word_most _) 1 0 n))
