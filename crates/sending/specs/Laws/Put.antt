-- One packet more: what a writer's answer and the row that is stored come to.
-- Assumes nothing.
use Rattle.std.specs.Prelude.{ℕ, ◌+◌, ◌-◌, ◌≤◌, ◌<◌, ◌≡◌, List, set, ltb}
use Rattle.std.proofs.Math.Path.{sym}
use Rattle.std.proofs.Math.Bool.{and-false}
use Rattle.std.proofs.Common.{arith}
use Rattle.std.proofs.Math.ListN.{length}
use Rattle.std.proofs.lemmas.List.Edits.{sets}
use borrow.Author.Tests.{lt-ltb, le-ltb, le-leb, lt-leb}
use Rattle.laws.specs.Laws.Pick.{pick_yes, pick_no}
use Rattle.sizes.specs.Sizes.{most_faces}
use Rattle.records.specs.Class.{class_of}
use Rattle.records.specs.Laws.Class.{class_number_lem}
use Rattle.rules.specs.Outcome.{Kind, kind_number, Send}
use Rattle.sending.specs.Rows.{send_row, placed, Sheet, put}
use Rattle.sending.specs.Places.Sheet.{note_of}

-- a row's numbers are those of a send that stands at a place: of the class only the word is stored
pub row_of : (f : ℕ) (k : Kind) (w : ℕ) (bytes : List ℕ) (at len : ℕ) → len ≡ length bytes
    → note_of f (kind_number k) w at len ≡ send_row (placed (record { face = f; kind = k; cls = class_of w; bytes = bytes }) at)
unfolding send_row
row_of f k w bytes at len e = rw (e, class_number_lem w)

module _ (s : Send) (x : Sheet) where
  -- where there is a row and room, the packet is taken
  pub put_takes : x.count < most_faces → x.at + length s.bytes ≤ length x.buffer
      → put s x
      ≡ record {
        count = x.count + 1;
        at = x.at + length s.bytes;
        rows = set x.rows x.count (send_row (placed s x.at));
        buffer = sets x.buffer x.at s.bytes;
      }
  unfolding put
  put_takes l r = pick_yes _ _ _ (rw (lt-ltb x.count most_faces l, le-leb (x.at + length s.bytes) (length x.buffer) r))

  -- where there is no row, nothing changes
  pub put_no_row : most_faces ≤ x.count → x ≡ put s x
  unfolding put
  put_no_row l = sym (pick_no _ _ _ (rw (le-ltb x.count most_faces l)))

  -- where there is no room, nothing changes
  pub put_no_room : length x.buffer < x.at + length s.bytes → x ≡ put s x
  unfolding put
  put_no_room l =
      sym (pick_no _ _ _ (rw (lt-leb (x.at + length s.bytes) (length x.buffer) l) (and-false (ltb x.count most_faces))))

  -- where a writer found no room and left the buffer, nothing changes
  pub put_full : (b : List ℕ) → length x.buffer < x.at + length s.bytes → b ≡ x.buffer
      → record { count = x.count; at = x.at; rows = x.rows; buffer = b } ≡ put s x
  put_full b l e = rw e (put_no_room l)

-- a packet's bytes in the buffer and its row, as the code stores them
pub put_stored : (f : ℕ) (k : Kind) (w : ℕ) (bytes : List ℕ) (x : Sheet) (rows : List (List ℕ)) (b : List ℕ) (end : ℕ)
    → x.count < most_faces
    → (x.at + length bytes ≤ length x.buffer) × (b ≡ sets x.buffer x.at bytes) × (end ≡ x.at + length bytes)
    → rows ≡ set x.rows x.count (note_of f (kind_number k) w x.at (end - x.at))
    → record { count = x.count + 1; at = end; rows = rows; buffer = b }
    ≡ put (record { face = f; kind = k; cls = class_of w; bytes = bytes }) x
put_stored f k w bytes x rows b end l (r, e, q) t =
    let n : end - x.at ≡ length bytes = omega arith in
    rw (put_takes (record { face = f; kind = k; cls = class_of w; bytes = bytes }) x l r, e, q, t, row_of f k w bytes x.at _ n)
