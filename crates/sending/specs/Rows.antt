-- An event's sends, as rows and in the output buffer.
-- Assumes nothing.
use Rattle.std.specs.Prelude.{ℕ, ◌+◌, ◌-◌, zero, suc, ◌≡◌, Bool, ◌&&◌, List, [], ◌∷◌, map, length, set, get_or, ltb, leb}
use Rattle.std.proofs.lemmas.List.Edits.{sets}
use Rattle.laws.specs.Pick.{pick}
use Rattle.sizes.specs.Sizes.{most_faces}
use Rattle.records.specs.Class.{class_of, class_number}
use Rattle.rules.specs.Outcome.{dat, kind_number, Send}
use Rattle.rules.specs.Packed.{Placed, packed}

-- a send as the event notes it: face, kind, class, place and length
unfoldable pub send_row : Placed → List ℕ
send_row p = p.face ∷ kind_number p.kind ∷ class_number p.cls ∷ p.from ∷ p.len ∷ []

-- a send that stands at a place
abbrev pub placed : Send → ℕ → Placed
placed s at = record { face = s.face; kind = s.kind; cls = s.cls; from = at; len = length s.bytes }

-- sends that are packed: how many there are, their rows and the buffer; every other row and byte is as it was
pub record Packs (ss : List Send) (k : ℕ) (rows rows' : List (List ℕ)) (b b' : List ℕ) : Type 0 where
  pub sent : k ≡ length ss
  pub noted : rows' ≡ sets rows 0 (map send_row (packed ss b).places)
  pub buffer : b' ≡ (packed ss b).buffer

-- sends of one packet, where the buffer has room for it; else none
unfoldable pub if_room : List ℕ → List ℕ → List Send → List Send
if_room bytes b ss = pick (leb (length bytes) (length b)) ss []

-- sends under way: how many there are, where the next packet is written, the rows, and the buffer
pub record Sheet : Type 0 where
  pub count : ℕ
  pub at : ℕ
  pub rows : List (List ℕ)
  pub buffer : List ℕ

-- one packet more, where there is a row and room for it; else nothing changes
unfoldable pub put : Send → Sheet → Sheet
put s x =
    pick (ltb x.count most_faces && leb (x.at + length s.bytes) (length x.buffer))
    (record {
      count = x.count + 1;
      at = x.at + length s.bytes;
      rows = set x.rows x.count (send_row (placed s x.at));
      buffer = sets x.buffer x.at s.bytes;
    }) x

-- the copies of a Data for k faces from h on, where p holds of the face: each has the class that the face's word gives
unfoldable pub copies_from : (ℕ → Bool) → List ℕ → List ℕ → ℕ → ℕ → List Send
copies_from p words bytes h zero = []
copies_from p words bytes h (suc k) =
    pick (p h)
    (record { face = h; kind = dat; cls = class_of (get_or words (h - 1) 0); bytes = bytes } ∷ copies_from p words bytes (suc h) k)
    (copies_from p words bytes (suc h) k)
