-- No send, and one send: it is packed at the buffer's start.
-- Assumes nothing.
use Rattle.std.specs.Prelude.{ℕ, ◌+◌, ◌≤◌, ◌<◌, ◌≡◌, refl, Bool, true, false, List, [], ◌∷◌, length, set, leb, Option}
use Rattle.std.proofs.Common.{sym, ap, ◌∙◌, arith, le-leb, leb-true, leb-false}
use Rattle.std.proofs.Math.Option.{none}
use Rattle.std.proofs.lemmas.List.Edits.{sets}
use Rattle.std.proofs.lemmas.Bool.{lt-leb}
use Rattle.laws.specs.Laws.Pick.{pick_ind, pick_yes, pick_no}
use Rattle.sizes.specs.Sizes.{most_packet, least_buffer}
use Rattle.records.specs.Class.{class_of}
use Rattle.packets.specs.declared.bare.HopLimit.{HopLimit}
use Rattle.packets.specs.Places.View.{lowered}
use Rattle.writing.specs.Laws.Written.{length_lowered}
use Rattle.rules.specs.Outcome.{Kind, interest, dat, nack, kind_number, Send}
use Rattle.rules.specs.Packed.{packs, packed_from, packed}
use Rattle.sending.specs.Rows.{send_row, placed, Packs, if_room, Sheet, put}
use Rattle.sending.specs.Places.Sheet.{note_of}
use Rattle.sending.specs.Laws.Put.{row_of, put_takes, put_no_room}

-- where there is room, the sends are all of them
pub room_yes : (bytes b : List ℕ) (ss : List Send) → length bytes ≤ length b → if_room bytes b ss ≡ ss
unfolding if_room
room_yes bytes b ss h = pick_yes _ _ _ (le-leb (length bytes) (length b) h)

-- where there is none, there are no sends
pub room_no : (bytes b : List ℕ) (ss : List Send) → length b < length bytes → if_room bytes b ss ≡ []
unfolding if_room
room_no bytes b ss h = pick_no _ _ _ (lt-leb (length bytes) (length b) h)

-- no sends are none with room or without
pub room_none : (bytes b : List ℕ) → if_room bytes b [] ≡ []
unfolding if_room
room_none bytes b = pick_ind (λ (ss : List Send). ss ≡ []) _ _ _ (λ _. refl) (λ _. refl)

-- a packet of at most 1,500 bytes has room in a buffer that an event takes
pub packet_fits : (bytes b : List ℕ) (ss : List Send) → length bytes ≤ most_packet → least_buffer ≤ length b → if_room bytes b ss ≡ ss
packet_fits bytes b ss h l = room_yes bytes b ss (omega arith)

-- and so has an Interest of at most 1,500 bytes, which keeps its length
pub interest_fits : (bare : List ℕ) (hop : Option HopLimit) (b : List ℕ) (ss : List Send) → length bare ≤ most_packet
    → least_buffer ≤ length b → if_room (lowered bare hop) b ss ≡ ss
interest_fits bare hop b ss h l = packet_fits (lowered bare hop) b ss (rw (length_lowered bare hop) h) l

-- nothing is sent
pub packs_none : (rows : List (List ℕ)) (b : List ℕ) → Packs [] 0 rows rows b b
unfolding packed packed_from
packs_none rows b = record { sent = refl; noted = refl; buffer = refl }

-- the packing of one send
packed_one : (s : Send) (b : List ℕ) → packed (s ∷ []) b ≡ record { places = placed s 0 ∷ []; buffer = sets b 0 s.bytes }
unfolding packed packed_from packs
packed_one s b = go s.kind
  where
    go : (k : Kind) → packs s k 0 none b (packed_from []) ≡ record { places = placed s 0 ∷ []; buffer = sets b 0 s.bytes }
    go interest = refl
    go dat = refl
    go nack = refl

-- one send whose bytes stand in the buffer, with its row
pub packs_one : (s : Send) (rows rows' : List (List ℕ)) (b b' : List ℕ) → rows' ≡ set rows 0 (send_row (placed s 0))
    → b' ≡ sets b 0 s.bytes
    → Packs (s ∷ []) 1 rows rows' b b'
packs_one s rows rows' b b' t e = record { sent = refl; noted = rw (packed_one s b) t; buffer = rw (packed_one s b) e }

-- where a writer found no room and left the buffer, nothing is sent
pub packs_full : (bytes b b' : List ℕ) (ss : List Send) (rows : List (List ℕ)) → (length b < 0 + length bytes) × (b' ≡ b)
    → Packs (if_room bytes b ss) 0 rows rows b b'
packs_full bytes b b' ss rows (l, e) = rw (room_no bytes b ss (omega arith), e) (packs_none rows b)

-- one send, its bytes in the buffer and its row as the code stores them
pub packs_stored : (f : ℕ) (k : Kind) (w : ℕ) (bytes b b' : List ℕ) (rows rows' : List (List ℕ)) (len : ℕ)
    → (0 + length bytes ≤ length b) × (b' ≡ sets b 0 bytes) × (len ≡ 0 + length bytes)
    → rows' ≡ set rows 0 (note_of f (kind_number k) w 0 len)
    → Packs (if_room bytes b (record { face = f; kind = k; cls = class_of w; bytes = bytes } ∷ [])) 1 rows rows' b b'
packs_stored f k w bytes b b' rows rows' len (l, e, q) t =
    rw (room_yes bytes b _ (omega arith)) (packs_one _ rows rows' b b' (t ∙ rw (row_of f k w bytes 0 len (omega arith))) e)

-- one packet put on an empty sheet
pub packs_put : (s : Send) (k at : ℕ) (rows rows' : List (List ℕ)) (b b' : List ℕ)
    → record { count = k; at = at; rows = rows'; buffer = b' } ≡ put s (record { count = 0; at = 0; rows = rows; buffer = b })
    → Packs (if_room s.bytes b (s ∷ [])) k rows rows' b b'
packs_put s k at rows rows' b b' e = go (leb (length s.bytes) (length b)) refl
  where
    x : Sheet
    x = record { count = 0; at = 0; rows = rows; buffer = b }

    go : (c : Bool) → leb (length s.bytes) (length b) ≡ c → Packs (if_room s.bytes b (s ∷ [])) k rows rows' b b'
    go true t =
        let l = leb-true (length s.bytes) (length b) t in
        let is = e ∙ put_takes s x (omega arith) (omega arith) in
        let one : k ≡ 1 = ap (λ (y : Sheet). y.count) is in
        rw (room_yes s.bytes b (s ∷ []) l, one)
        (packs_one s rows rows' b b' (ap (λ (y : Sheet). y.rows) is) (ap (λ (y : Sheet). y.buffer) is))
    go false t =
        let l = leb-false (length s.bytes) (length b) t in
        let is = e ∙ sym (put_no_room s x (omega arith)) in
        let none : k ≡ 0 = ap (λ (y : Sheet). y.count) is in
        let same : rows' ≡ rows = ap (λ (y : Sheet). y.rows) is in
        let left : b' ≡ b = ap (λ (y : Sheet). y.buffer) is in
        rw (room_no s.bytes b (s ∷ []) l, none, same, left) (packs_none rows b)
