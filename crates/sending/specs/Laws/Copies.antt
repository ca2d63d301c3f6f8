-- The copies of a Data: by ascending face, the Data written once, and a walk that notes their rows.
-- Assumes nothing.
use Prim.Native.Nat.{ℕ, zero, suc, ◌+◌, ◌-◌, ◌≤◌, ◌<◌}
use Rattle.std.specs.Prelude.{◌≡◌, Bool, true, false}
use Rattle.std.proofs.Math.Path.{refl, ap}
use Rattle.std.proofs.Common.{sym, ◌∙◌, arith, add-one}
use mathlib.Core.List.{List, [], ◌∷◌, map}
use Rattle.std.proofs.Math.Option.{Option, none, some}
use Rattle.std.proofs.Math.ListN.{length, get_or}
use Rattle.std.proofs.lemmas.List.{length-map}
use Rattle.std.proofs.Math.ListN as ListN
use Rattle.std.proofs.lemmas.List.Edits.{sets}
use Rattle.laws.specs.Pick.{pick}
use Rattle.laws.specs.Digits.{member}
use Rattle.laws.specs.Places.Tab.{tab}
use Rattle.records.specs.Class.{class_of}
use Rattle.records.specs.Slots.{Held, held, held_from}
use Rattle.records.specs.Laws.Each.{held_length}
use Rattle.faces.specs.Set.{has_face, minus_face}
use Rattle.faces.specs.Slots.{slots_of}
use Rattle.faces.specs.Laws.Set.{has_after}
use Rattle.faces.specs.Laws.Slot.{slots_length}
use Rattle.faces.specs.Laws.Walk.{Walks, walk_more, walk_end}
use Rattle.rules.specs.Outcome.{dat, kind_number, Send}
use Rattle.rules.specs.Packed.{packs, packed_from, packed}
use Rattle.sending.specs.Rows.{send_row, placed, Packs, if_room, copies_from}
use Rattle.sending.specs.Places.Sheet.{note_of}
use Rattle.sending.specs.Places.Copies.{owed, copy_row, Owes, NotesCopies}
use Rattle.sending.specs.Laws.Put.{row_of}
use Rattle.sending.specs.Laws.One.{room_yes, room_none, packs_none}

-- the copy for a face with its class word
unfoldable copy_of : List ℕ → Held ℕ → Send
copy_of bytes h = record { face = h.face; kind = dat; cls = class_of h.what; bytes = bytes }

-- the copies from face i + 1 on are those of what is held there, where p holds of a face exactly where q holds of its digit
copies_held : (p q : ℕ → Bool) (words bytes : List ℕ) (i m : ℕ) → ((j : ℕ) → i ≤ j → j < i + m → p (suc j) ≡ q j)
    → copies_from p words bytes (suc i) m
    ≡ map (copy_of bytes) (held_from (suc i) (tab (λ j. pick (q j) (some (get_or words j 0)) none) i m))
unfolding copies_from copy_of held_from tab pick
copies_held p q words bytes i zero e = refl
copies_held p q words bytes i (suc m) e =
    let z : suc i - 1 ≡ i = omega arith in
    rw (z, e i (omega arith) (omega arith), copies_held p q words bytes (suc i) m (λ j a b. e j (omega arith) (omega arith)))
    (go (q i) (tab (λ j. pick (q j) (some (get_or words j 0)) none) (suc i) m))
  where
    go : (b : Bool) (l : List (Option ℕ))
        → pick b
        (record { face = suc i; kind = dat; cls = class_of (get_or words i 0); bytes = bytes }
        ∷ map (copy_of bytes) (held_from (suc (suc i)) l))
        (map (copy_of bytes) (held_from (suc (suc i)) l))
        ≡ map (copy_of bytes) (held_from (suc i) (pick b (some (get_or words i 0)) none ∷ l))
    go true l = refl
    go false l = refl

-- the copies for the faces of a set are those of the faces with their class words
copies_owed : (n s : ℕ) (words bytes : List ℕ) → copies_from (has_face n s) words bytes 1 n ≡ map (copy_of bytes) (owed n s words)
unfolding owed held slots_of
copies_owed n s words bytes =
    copies_held (has_face n s) (λ j. member j s) words bytes 0 n
    (λ j a b. ap (has_face n s) (sym (add-one j)) ∙ has_after n s j (omega arith))

-- once the Data is written its other copies stand where it stands, and the buffer stays
packed_after : (bytes b : List ℕ) (at k : ℕ) (hs : List (Held ℕ))
    → packed_from (map (copy_of bytes) hs) at (some k) b ≡ record { places = map (λ h. placed (copy_of bytes h) k) hs; buffer = b }
unfolding packed_from packs copy_of
packed_after bytes b at k [] = refl
packed_after bytes b at k (h ∷ hs) = rw (packed_after bytes b at k hs)

-- the Data is written once, at the buffer's start, where each of its copies stands
packed_copies : (bytes b : List ℕ) (h : Held ℕ) (hs : List (Held ℕ))
    → packed (map (copy_of bytes) (h ∷ hs)) b
    ≡ record { places = map (λ h. placed (copy_of bytes h) 0) (h ∷ hs); buffer = sets b 0 bytes }
unfolding packed packed_from packs copy_of
packed_copies bytes b h hs = rw (packed_after bytes (sets b 0 bytes) (0 + length bytes) 0 hs)

-- the rows of copies that stand at the buffer's start
rows_copies : (bytes : List ℕ) (len : ℕ) (hs : List (Held ℕ)) → len ≡ length bytes
    → map (copy_row len) hs ≡ map send_row (map (λ h. placed (copy_of bytes h) 0) hs)
unfolding copy_row copy_of
rows_copies bytes len [] e = refl
rows_copies bytes len (h ∷ hs) e = rw (row_of h.face dat h.what bytes 0 len e, rows_copies bytes len hs e)

-- copies of which there is one at least, their rows noted and the Data written
packs_copies : (bytes b b' : List ℕ) (len k : ℕ) (rows rows' : List (List ℕ)) (h : Held ℕ) (hs : List (Held ℕ)) → len ≡ length bytes
    → k ≡ length (h ∷ hs) → rows' ≡ sets rows 0 (map (copy_row len) (h ∷ hs)) → b' ≡ sets b 0 bytes
    → Packs (map (copy_of bytes) (h ∷ hs)) k rows rows' b b'
packs_copies bytes b b' len k rows rows' h hs l c t e = record {
  sent = c ∙ sym (length-map (h ∷ hs) (copy_of bytes));
  noted = t ∙ rw (packed_copies bytes b h hs, rows_copies bytes len (h ∷ hs) l);
  buffer = e ∙ rw (packed_copies bytes b h hs);
}

module _ (n s f : ℕ) (words bytes : List ℕ) (a : Walks n s f) where
  -- a set without faces has no copies: nothing is sent
  pub copies_none : n < f → (rows : List (List ℕ)) (b : List ℕ)
      → Packs (if_room bytes b (copies_from (has_face n s) words bytes 1 n)) 0 rows rows b b
  unfolding owed
  copies_none l rows b =
      let none : copies_from (has_face n s) words bytes 1 n ≡ [] =
      copies_owed n s words bytes ∙ ap (map (copy_of bytes)) (walk_end a l (λ i. get_or words i 0)) in
      rw (none, room_none bytes b) (packs_none rows b)

  -- a set with a face: the Data is written, and the rows of its copies are noted
  pub copies_sent : f ≤ n → (len k : ℕ) (rows rows' : List (List ℕ)) (b b' : List ℕ)
      → (0 + length bytes ≤ length b) × (b' ≡ sets b 0 bytes) × (len ≡ 0 + length bytes) → NotesCopies n s len words rows rows' k
      → Packs (if_room bytes b (copies_from (has_face n s) words bytes 1 n)) k rows rows' b b'
  unfolding owed
  copies_sent l len k rows rows' b b' (r, e, q) (c, t) =
      let g : ℕ → ℕ = λ i. get_or words i 0 in
      let some_owed = walk_more a l refl g in
      rw (room_yes bytes b _ (omega arith), copies_owed n s words bytes, some_owed)
      (packs_copies bytes b b' len k rows rows' _ (held (slots_of n (minus_face n s f) g)) (omega arith) (rw some_owed at c)
      (rw some_owed at t) e)

-- a walk over the faces of a set, with those of `left` still owed
module _ (n set len : ℕ) (words : List ℕ) (rows : List (List ℕ)) where
  -- at the start all are owed
  pub owes_start : Owes len rows (owed n set words) (owed n set words) 0 rows
  owes_start = record { count = omega arith; noted = refl }

  module _ {left f k : ℕ} {rows' : List (List ℕ)} (a : Walks n left f)
      (o : Owes len rows (owed n set words) (owed n left words) k rows') where
    -- there is a row for the next copy
    pub owes_row : f ≤ n → k < n
    unfolding owed held
    owes_row l =
        let more = walk_more a l refl (λ i. get_or words i 0) in
        let most = held_length 1 (slots_of n set (λ i. get_or words i 0)) in
        omega (arith, o.count, ap length more, most, slots_length n set (λ i. get_or words i 0))

    -- a turn notes the copy for the lowest face
    pub owes_turn : f ≤ n → {left' : ℕ} {rows'' : List (List ℕ)} → left' ≡ minus_face n left f
        → rows'' ≡ ListN.set rows' k (note_of f (kind_number dat) (get_or words (f - 1) 0) 0 len)
        → Owes len rows (owed n set words) (owed n left' words) (k + 1) rows''
    unfolding owed copy_row
    owes_turn l m t =
        let more = walk_more a l m (λ i. get_or words i 0) in
        record { count = omega (arith, o.count, ap length more); noted = rw (add-one k, t) (rw more at o.noted) }

    -- at the end all are noted
    pub owes_end : n < f → NotesCopies n set len words rows rows' k
    unfolding owed
    owes_end l =
        let none = walk_end a l (λ i. get_or words i 0) in
        (omega (arith, o.count, ap length none), rw none at o.noted)
