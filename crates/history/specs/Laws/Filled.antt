-- What stands in the output buffer (`sends_filled`, `packed_filled`): at each send's place its bytes, also where a Data is written once
-- for several faces; the buffer is as long as it was, and what lies behind the sends is as it was.
-- Assumes nothing.
use Rattle.std.specs.Prelude.{ℕ, suc, ◌+◌, ◌*◌, ◌≤◌, max, ◌≡◌, refl, List, [], ◌∷◌, ◌++◌, length, take, drop, set}
use Rattle.std.proofs.Common.{sym, ◌∙◌, ap, length-append, drop-set-lt, take_at, take-take, take-add, length-take-le, arith}
use Rattle.std.proofs.lemmas.List.{append_cancel_left}
use Rattle.std.proofs.Math.Option.{Option, none, some}
use Rattle.std.proofs.lemmas.List.Edits.{sets, sets-eq}
use Rattle.std.proofs.Math.Seq.{length-sets}
use Rattle.sizes.specs.Sizes.{most_faces, most_packet, least_buffer}
use Rattle.writing.specs.Most.{most_nack}
use Rattle.history.specs.Moments.{paper_run}
use Rattle.rules.specs.Node.{Node, Event}
use Rattle.rules.specs.Outcome.{Kind, interest, dat, nack, Send}
use Rattle.rules.specs.Step.{paper_step, step}
use Rattle.rules.specs.Packed.{Placed, Packed, packs, packed_from, packed}
use Rattle.history.specs.Lists.{All, nothing, both, Pairs, done, next}
use Rattle.history.specs.Laws.Every.{all_mono}
use Rattle.history.specs.Shape.{Shaped}
use Rattle.history.specs.Laws.ShapeKept.{run_shaped}
use Rattle.history.specs.Laws.Buffer.{Batch, empty, single, copied, refusals, step_batch, sends_fit}
use Rattle.history.specs.Sends.{Stands, Before, filled_to, Filled}

-- ---- writing at a place

module _ (b : List ℕ) (at : ℕ) (v : List ℕ) (fits : at + length v ≤ length b) where
  -- up to the end of what was written stands what was there before, and what was written
  written_up_to : take (at + length v) (sets b at v) ≡ take at b ++ v
  written_up_to =
      let n : length (take at b ++ v) ≡ at + length v = length-append (take at b) v ∙ rw (length-take-le at b (omega arith)) in
      rw (sets-eq v b at fits) (take_at (take at b ++ v) (drop (at + length v) b) (at + length v) n)

  -- a buffer that agrees so far has what was there before, and what was written in its place
  agrees : (c : List ℕ) → take (at + length v) c ≡ take (at + length v) (sets b at v)
      → (take at c ≡ take at b) × (take (length v) (drop at c) ≡ v)
  agrees c e =
      let w : take (at + length v) c ≡ take at b ++ v = e ∙ written_up_to in
      let k : take at c ≡ take at b =
      sym (take-take at (at + length v) c (omega arith)) ∙ ap (take at) w
      ∙ take_at (take at b) v at (length-take-le at b (omega arith)) in (
        k,
        append_cancel_left (take at b) (take (length v) (drop at c)) v
            (ap (λ (x : List ℕ). x ++ take (length v) (drop at c)) (sym k) ∙ sym (take-add at (length v) c) ∙ w),
      )

-- ---- packing

-- one packet
single_stands : (s : Send) (b : List ℕ) → length s.bytes ≤ length b
    → Pairs (Stands (packed (s ∷ []) b).buffer) (s ∷ []) (packed (s ∷ []) b).places
unfolding packed packed_from packs
single_stands s b h = go s.kind
  where
    here : Stands (sets b 0 s.bytes) s (record { face = s.face; kind = s.kind; cls = s.cls; from = 0; len = length s.bytes })
    here = record { face = refl; kind = refl; cls = refl; bytes = (agrees b 0 s.bytes (omega arith) (sets b 0 s.bytes) refl).1 }

    go : (k : Kind) → Pairs (Stands (packs s k 0 none b (packed_from [])).buffer) (s ∷ []) (packs s k 0 none b (packed_from [])).places
    go interest = next here done
    go dat = next here done
    go nack = next here done

-- further copies of a Data that stands at k: nothing more is written
copies_later : (k at : ℕ) (bytes : List ℕ) {ss : List Send} (b : List ℕ) → take (length bytes) (drop k b) ≡ bytes
    → All (λ s. (s.kind ≡ dat) × (s.bytes ≡ bytes)) ss
    → ((packed_from ss at (some k) b).buffer ≡ b) × Pairs (Stands b) ss (packed_from ss at (some k) b).places
unfolding packed_from packs
copies_later k at bytes b h nothing = (refl, done)
copies_later k at bytes b h (both {a = s} p r) =
    let rest = copies_later k at bytes b h r in
    let one : Stands b s (record { face = s.face; kind = s.kind; cls = s.cls; from = k; len = length s.bytes }) =
    record { face = refl; kind = refl; cls = refl; bytes = rw p.1 h } in
    rw p.0 (rest.0, next (rw p.0 at one) rest.1)

-- copies of one Data
copies_stand : (bytes : List ℕ) {ss : List Send} (b : List ℕ) → length bytes ≤ length b → All (λ s. (s.kind ≡ dat) × (s.bytes ≡ bytes)) ss
    → Pairs (Stands (packed ss b).buffer) ss (packed ss b).places
unfolding packed packed_from packs
copies_stand bytes b h nothing = done
copies_stand bytes b h (both {a = s} p r) =
    let n : 0 + length s.bytes ≤ length b = rw p.1 (omega arith) in
    let w = (agrees b 0 s.bytes n (sets b 0 s.bytes) refl).1 in
    let rest = copies_later 0 (0 + length s.bytes) s.bytes (sets b 0 s.bytes) w (all_mono (λ x k. (k.0, k.1 ∙ sym p.1)) r) in
    let one : Stands (sets b 0 s.bytes) s (record { face = s.face; kind = s.kind; cls = s.cls; from = 0; len = length s.bytes }) =
    record { face = refl; kind = refl; cls = refl; bytes = w } in
    rw (p.0, rest.0) (next (rw p.0 at one) rest.1)

-- Nacks from a place on: they stand there, and what stood before them stays
record Rest (at : ℕ) (b : List ℕ) (ss : List Send) (r : Packed) : Type 0 where
  pub kept : take at r.buffer ≡ take at b
  pub stand : Pairs (Stands r.buffer) ss r.places

-- so it is with Nacks
nacks_stand : (at : ℕ) {ss : List Send} (b : List ℕ) → at + most_nack * length ss ≤ length b
    → All (λ s. (s.kind ≡ nack) × (length s.bytes ≤ most_nack)) ss
    → Rest at b ss (packed_from ss at none b)
unfolding packed_from packs
nacks_stand at b h nothing = record { kept = refl; stand = done }
nacks_stand at b h (both {a = s} {l = ss} p r) =
    let n : at + length s.bytes ≤ length b = omega (arith, p.1) in
    let rest = nacks_stand (at + length s.bytes) (sets b at s.bytes) (rw (length-sets b at s.bytes) (omega (arith, p.1))) r in
    let c = (packed_from ss (at + length s.bytes) none (sets b at s.bytes)).buffer in
    let a = agrees b at s.bytes n c rest.kept in
    let one : Stands c s (record { face = s.face; kind = s.kind; cls = s.cls; from = at; len = length s.bytes }) =
    record { face = refl; kind = refl; cls = refl; bytes = a.1 } in
    rw p.0 (record { kept = a.0; stand = next (rw p.0 at one) rest.stand })

-- any of them
batch_stands : (faces : ℕ) {ss : List Send} (b : List ℕ) → most_packet ≤ length b → faces * most_nack ≤ length b → Batch faces ss
    → Pairs (Stands (packed ss b).buffer) ss (packed ss b).places
batch_stands faces b h k empty = unfold packed packed_from in done
batch_stands faces b h k (single s n) = single_stands s b (omega arith)
batch_stands faces b h k (copied bytes n a) = copies_stand bytes b (omega arith) a
batch_stands faces b h k (refusals n a) = unfold packed in (nacks_stand 0 b (omega arith) a).stand

-- ---- what lies behind

-- places that end before a limit are filled no further
filled_before : (room : ℕ) {ps : List Placed} → All (Before room) ps → filled_to ps ≤ room
unfolding filled_to
filled_before room nothing = omega arith
filled_before room (both p r) = let q = filled_before room r in omega arith

-- what lies behind what is written stays
sets_behind : (vs l : List ℕ) (at k : ℕ) → at + length vs ≤ k → drop k (sets l at vs) ≡ drop k l
sets_behind [] l at k h = refl
sets_behind (v ∷ vs) l at k h = sets_behind vs (set l at v) (suc at) k (omega arith) ∙ drop-set-lt k l at v (omega arith)

-- a buffer of the same length, which is the same from a place on
record Behind (k : ℕ) (b c : List ℕ) : Type 0 where
  pub size : length c ≡ length b
  pub rest : drop k c ≡ drop k b

-- sends from any place on leave what lies behind them
abbrev Spares : List Send → ℕ → Type 0
Spares ss k = (at : ℕ) (d : Option ℕ) (b : List ℕ) → filled_to (packed_from ss at d b).places ≤ k → Behind k b (packed_from ss at d b).buffer

-- so do any sends
sends_behind : (ss : List Send) (k : ℕ) → Spares ss k
unfolding packed_from packs filled_to
sends_behind [] k at d b h = record { size = refl; rest = refl }
sends_behind (s ∷ ss) k at d b h = go s.kind d h (sends_behind ss k)
  where
    written : (y : Option ℕ)
        → max (at + length s.bytes) (filled_to (packed_from ss (at + length s.bytes) y (sets b at s.bytes)).places) ≤ k
        → Spares ss k → Behind k b (packed_from ss (at + length s.bytes) y (sets b at s.bytes)).buffer
    written y h more =
        let r = more (at + length s.bytes) y (sets b at s.bytes) (omega arith) in
        record {
          size = r.size ∙ length-sets b at s.bytes;
          rest = r.rest ∙ sets_behind s.bytes b at k (omega arith);
        }

    go : (x : Kind) (y : Option ℕ) → filled_to (packs s x at y b (packed_from ss)).places ≤ k
        → Spares ss k → Behind k b (packs s x at y b (packed_from ss)).buffer
    go interest y h more = written y h more
    go nack y h more = written y h more
    go dat none h more = written (some at) h more
    go dat (some i) h more = more at (some i) b (omega arith)

-- ---- the buffer

-- in any event, from any node of the shape that events lead to, with a buffer of enough room: each send's bytes stand at its place, the
-- buffer is as long as it was, and behind the sends it is as it was
pub sends_filled : (faces least : ℕ) (e : Event) (n : Node) (b : List ℕ) → most_packet ≤ length b → faces * most_nack ≤ length b
    → Shaped faces n → Filled (step faces least e n).sends b (packed (step faces least e n).sends b)
unfolding packed
sends_filled faces least e n b h k s =
    let ss = (step faces least e n).sends in
    let r = sends_behind ss (filled_to (packed ss b).places) 0 none b (omega arith) in
    record {
      stand = batch_stands faces b h k (step_batch faces least e n s);
      size = r.size;
      within = filled_before (length b) (sends_fit faces least (length b) h k e n b s);
      rest = r.rest;
    }

-- start from an empty node of 16 faces and take any events, with a buffer of 8,192 bytes: so it is with the sends of the next one
pub packed_filled : (es : List Event) (e : Event) (b : List ℕ) → least_buffer ≤ length b
    → let ss = (paper_step e (paper_run es)).sends in
    Filled ss b (packed ss b)
packed_filled es e b h =
    sends_filled most_faces least_buffer e (paper_run es) b (omega arith) (omega arith) (run_shaped most_faces least_buffer es)
