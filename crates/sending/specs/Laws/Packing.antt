-- Nacks put one after the other, where all fit, are the packing of an event: the state in which a loop holds them.
-- Assumes nothing.
use Rattle.std.specs.Prelude.{ℕ, suc, ◌+◌, ◌*◌, ◌≤◌, ◌≡◌}
use Rattle.std.proofs.Math.Path.{refl}
use Rattle.std.proofs.Common.{◌∙◌, suc-mul, add-one}
use mathlib.Core.List.{List, [], ◌∷◌, map}
use Rattle.std.proofs.Math.Option.{none, some}
use native.Mathlib.Omega.{arith}
use Rattle.std.proofs.Math.ListN.{length}
use Rattle.std.proofs.lemmas.List.{length-map}
use Rattle.std.proofs.lemmas.List.Edits.{sets}
use Rattle.std.proofs.Math.Seq.{length-sets}
use Rattle.sizes.specs.Sizes.{most_faces, least_buffer}
use Rattle.records.specs.Slots.{at_place}
use Rattle.rules.specs.Outcome.{nack, Send}
use Rattle.rules.specs.Packed.{packs, packed_from, packed}
use Rattle.sending.specs.Rows.{send_row, placed, Packs, Sheet, put}
use Rattle.writing.specs.Most.{most_nack}
use Rattle.sending.specs.Laws.Put.{put_takes}

-- how many bytes packets have in all
unfoldable pub bytes_in : List Send → ℕ
bytes_in [] = 0
bytes_in (s ∷ ss) = length s.bytes + bytes_in ss

-- the sheet before the first send
abbrev pub clear : List (List ℕ) → List ℕ → Sheet
clear rows b = record { count = 0; at = 0; rows = rows; buffer = b }

-- sends under way from the rows and the buffer that an event began with, `left` being those of all that are not put yet: once they are
-- packed behind the others, all are packed; for each of them there is a row and room
pub record Sending (rows : List (List ℕ)) (b : List ℕ) (all left : List Send) (x : Sheet) : Type 0 where
  pub few : length all ≤ most_faces
  pub many : x.count + length left ≡ length all
  pub room : x.at + bytes_in left ≤ length x.buffer
  pub noted : sets x.rows x.count (map send_row (packed_from left x.at none x.buffer).places)
      ≡ sets rows 0 (map send_row (packed all b).places)
  pub written : (packed_from left x.at none x.buffer).buffer ≡ (packed all b).buffer

-- a Nack and what is packed behind it
packed_nack : (s : Send) (at : ℕ) (b : List ℕ) (more : List Send) → s.kind ≡ nack
    → packed_from (s ∷ more) at none b
    ≡ record {
      places = placed s at ∷ (packed_from more (at + length s.bytes) none (sets b at s.bytes)).places;
      buffer = (packed_from more (at + length s.bytes) none (sets b at s.bytes)).buffer;
    }
unfolding packed_from packs
packed_nack s at b more e = rw e

module _ (rows : List (List ℕ)) (b : List ℕ) (all : List Send) where
  -- at the start all are left
  pub sending_start : length all ≤ most_faces → bytes_in all ≤ length b → Sending rows b all all (clear rows b)
  unfolding packed
  sending_start l r = record { few = l; many = omega arith; room = omega arith; noted = refl; written = refl }

  -- one more put keeps it
  pub sending_put : {s : Send} {left : List Send} {x y : Sheet} → s.kind ≡ nack → Sending rows b all (s ∷ left) x → y ≡ put s x
      → Sending rows b all left y
  unfolding bytes_in
  sending_put {s} {left} {x} {y} k h e =
      let q = packed_nack s x.at x.buffer left k in
      let fits : x.at + (length s.bytes + bytes_in left) ≤ length x.buffer = h.room in
      rw (e ∙ put_takes s x (omega (arith, h.few, h.many)) (omega arith)) (record {
        few = h.few;
        many = omega (arith, h.many);
        room = omega (arith, length-sets x.buffer x.at s.bytes);
        noted = rw (add-one x.count) (rw q at h.noted);
        written = rw q at h.written;
      })

  -- where none is left all are packed
  pub sending_end : {x : Sheet} → Sending rows b all [] x → Packs all x.count rows x.rows b x.buffer
  unfolding packed_from
  sending_end h = record { sent = omega (arith, h.many); noted = h.noted; buffer = h.written }

-- packets put in order
unfoldable pub puts : List Send → Sheet → Sheet
puts [] x = x
puts (s ∷ ss) x = puts ss (put s x)

-- all sends are Nacks
abbrev pub AllNacks : List Send → Type 0
AllNacks ss = (i : ℕ) (s : Send) → at_place i ss ≡ some s → s.kind ≡ nack

-- from any state on, Nacks put in order leave none
puts_keep : (rows : List (List ℕ)) (b : List ℕ) (all left : List Send) (x : Sheet) → AllNacks left → Sending rows b all left x
    → Sending rows b all [] (puts left x)
unfolding puts at_place
puts_keep rows b all [] x k h = h
puts_keep rows b all (s ∷ left) x k h =
    puts_keep rows b all left (put s x) (λ i t q. k (suc i) t q) (sending_put rows b all (k 0 s refl) h refl)

-- Nacks put in order from the empty sheet, at most one for each face and all with room, are packed
pub puts_packed : (rows : List (List ℕ)) (b : List ℕ) (ss : List Send) → AllNacks ss → length ss ≤ most_faces → bytes_in ss ≤ length b
    → Packs ss (puts ss (clear rows b)).count rows (puts ss (clear rows b)).rows b (puts ss (clear rows b)).buffer
puts_packed rows b ss k few room =
    sending_end rows b ss (puts_keep rows b ss ss (clear rows b) k (sending_start rows b ss few room))

module _ {A : Type 0} (g : A → Send) where
  -- packets that each have so many bytes at most have as many times that in all, at most
  bytes_most : (most : ℕ) → ((a : A) → length (g a).bytes ≤ most) → (l : List A) → bytes_in (map g l) ≤ length l * most
  unfolding bytes_in
  bytes_most most h [] = omega arith
  bytes_most most h (a ∷ l) = rw (suc-mul (length l) most) (omega (arith, h a, bytes_most most h l))

  -- there is a row and room for a Nack for each face in a buffer that an event takes
  pub sending_nacks : (rows : List (List ℕ)) (b : List ℕ) (l : List A) → ((a : A) → length (g a).bytes ≤ most_nack) → length l ≤ most_faces
      → least_buffer ≤ length b → Sending rows b (map g l) (map g l) (clear rows b)
  sending_nacks rows b l h few room =
      sending_start rows b (map g l) (rw (length-map l g) few) (omega (arith, bytes_most most_nack h l))
