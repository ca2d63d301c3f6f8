-- The lines that out-records bury, one after the other.
-- Assumes nothing.
use Rattle.std.specs.Prelude.{ℕ, ◌≤◌, ◌<◌, ◌≡◌, true, false, List, [], ◌∷◌, get_or, take}
use Rattle.laws.specs.Laws.Pick.{pick_yes, pick_no}
use Rattle.records.specs.Slots.{given}
use Rattle.records.specs.Line.{Line, joined, joined_all}
use Rattle.records.specs.Ageing.{buried_by}
use Rattle.faces.specs.Set.{has_face, minus_face}
use Rattle.faces.specs.Laws.Walk.{Walks, walk_more, walk_end}
use Rattle.pending_entry.specs.Places.View.{sent_at, view_for, view_name, view_sent}
use Rattle.pending_entry.specs.Laws.Change.{view_sent_slot}
use Rattle.records.specs.Closing.{own_line_by}
use Rattle.pending_records.specs.Places.Walk.{word, sent_in, lines_of}

module _ {n s f : ℕ} (a : Walks n s f) (recs : List (List ℕ)) (size now : ℕ) (print : ℕ → ℕ) (x : List Line) where
  -- a turn that buries one out-record
  pub lines_turn : f ≤ n → {t : ℕ} → t ≡ minus_face n s f → {y : List Line}
      → y ≡ joined size x (record { print = print (word recs f 2); time = now })
      → joined_all size x (lines_of print now (sent_in n s recs)) ≡ joined_all size y (lines_of print now (sent_in n t recs))
  unfolding joined_all lines_of sent_at
  lines_turn l e q = rw (walk_more a l e (sent_at recs), q)

  -- at the end no line is left to join
  pub lines_end : n < f → joined_all size x (lines_of print now (sent_in n s recs)) ≡ x
  unfolding joined_all lines_of
  lines_end l = rw (walk_end a l (sent_at recs))

module _ (n : ℕ) (name head : List ℕ) (recs : List (List ℕ)) (print : List ℕ → ℕ → ℕ) (now : ℕ) where
  -- the lines that an entry buries
  pub view_lines : buried_by print now (view_for n name head recs)
      ≡ lines_of (print (take (get_or head 0 0) name)) now (sent_in n (get_or head 5 0) recs)
  unfolding buried_by lines_of
  view_lines = rw (view_sent n name head recs, view_name n name head recs)

  -- the line of a face's out-record
  pub view_own_line : (f : ℕ) → has_face n (get_or head 5 0) f ≡ true
      → own_line_by print now f (view_for n name head recs)
      ≡ record { print = print (take (get_or head 0 0) name) (word recs f 2); time = now } ∷ []
  unfolding own_line_by given sent_at
  view_own_line f h = rw (view_sent_slot n name head recs f, h, pick_yes, view_name n name head recs)

  -- without an out-record there is none
  pub view_no_line : (f : ℕ) → has_face n (get_or head 5 0) f ≡ false → own_line_by print now f (view_for n name head recs) ≡ []
  unfolding own_line_by given
  view_no_line f h = rw (view_sent_slot n name head recs f, h, pick_no)
