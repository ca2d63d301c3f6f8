-- What a writer that has room leaves: bytes stored from a place on, and the place behind them.
-- Assumes nothing.
use Rattle.std.specs.Prelude.{ℕ, zero, suc, ◌+◌, ◌-◌, ◌≤◌, ◌<◌, ◌≡◌, refl, Bool, true, false, List, [], ◌∷◌, ◌++◌, length, set, leb, ltb, None, Option, Some}
use Rattle.std.proofs.Common.{sym, ◌∙◌, ap, append-nil, length-set, length-append, set-set, le-leb, leb-true, leb-false, ltb-true, ltb-false, add-zero, arith}
use Rattle.std.proofs.lemmas.List.Edits.{sets}
use Rattle.std.proofs.Math.Seq.{length-sets, set_out}
use Rattle.std.proofs.lemmas.List.{set_comm}
use Rattle.std.proofs.lemmas.Bool.{lt-leb}
use Rattle.laws.specs.Pick.{pick}
use Rattle.laws.specs.Laws.Pick.{pick_ind}
use Rattle.laws.specs.Laws.Writes.{sets_append}
use Rattle.wire.specs.Laws.Write.{wrote_fits, wrote_full, answer_next, answer_full}
use Rattle.wire.specs.Write.{head_of, written}
use Rattle.wire.specs.Places.Write.{Outcome, outcome, wrote}
use Rattle.std.specs.Option.{unwrap_or}
use Rattle.writing.specs.Places.Stored.{Room, Stored}

-- the buffer keeps its length
pub stored_length : {b vs c : List ℕ} {at r : ℕ} → Stored b at vs c r → length c ≡ length b
stored_length {b} {vs} {c} {at} s = ap length s.buffer ∙ length-sets b at vs

-- nothing stored
pub stored_none : (b : List ℕ) (at : ℕ) → Stored b at [] b at
stored_none b at = record { buffer = refl; next = omega arith }

-- two things, one stored behind the other
module _ (vs ws : List ℕ) where
  -- what is stored, and then what is stored behind it
  pub stored_then : {b c d : List ℕ} {at m r : ℕ} → Stored b at vs c m → Stored c m ws d r → Stored b at (vs ++ ws) d r
  stored_then {b} {c} {d} {at} p q = record {
    buffer = rw (q.buffer, p.buffer, p.next) (sym (sets_append vs ws b at));
    next = q.next ∙ omega (arith, p.next, length-append vs ws);
  }

  -- where there is room for both there is room for the first
  pub room_first : {b : List ℕ} {at : ℕ} → Room b at (vs ++ ws) → Room b at vs
  room_first h = record { fits = omega (arith, h.fits, length-append vs ws) }

  -- and once the first is stored there is room for the second
  pub room_then : {b c : List ℕ} {at m : ℕ} → Stored b at vs c m → Room b at (vs ++ ws) → Room c m ws
  room_then s h = record { fits = omega (arith, h.fits, length-append vs ws, stored_length s, s.next) }

-- an element of type t whose value v has n bytes
module _ (t n : ℕ) (v : List ℕ) (size : length v ≡ n) where
  -- its head, and then its value
  pub stored_element : {b c d : List ℕ} {at m r : ℕ} → Stored b at (head_of t n) c m → Stored c m v d r → Stored b at (written t v) d r
  unfolding written
  stored_element p q = rw size (stored_then (head_of t n) v p q)

  -- where there is room for it there is room for its head
  pub room_head : {b : List ℕ} {at : ℕ} → Room b at (written t v) → Room b at (head_of t n)
  unfolding written
  room_head h = room_first (head_of t n) v (rw size at h)

  -- and once its head is stored there is room for its value
  pub room_value : {b c : List ℕ} {at m : ℕ} → Stored b at (head_of t n) c m → Room b at (written t v) → Room c m v
  unfolding written
  room_value s h = room_then (head_of t n) v s (rw size at h)

-- a head that announces no value is an element
pub head_alone : (t : ℕ) → head_of t 0 ≡ written t []
unfolding written
head_alone t = sym (append-nil (head_of t 0))

-- a writer that looks for room, its answer p and the buffer c that it leaves
module _ (b : List ℕ) (at : ℕ) (vs c : List ℕ) {p : Option ℕ} (is : outcome p c ≡ wrote b at vs) where
  -- where it answers a place it found room, and stored vs
  pub put_next : {r : ℕ} → p ≡ Some r → Room b at vs × Stored b at vs c r
  put_next n = let a = answer_next b at vs c is n in (record { fits = a.0 }, record { buffer = a.1; next = a.2 })

  -- where it answers that it is full it found no room, and left b as it was
  pub put_full : p ≡ None → (length b < at + length vs) × (c ≡ b)
  put_full n = answer_full b at vs c is n

  -- where there is room it stored vs, whatever it is to answer where there is none
  pub put_stored : {r : ℕ} → r ≡ unwrap_or p at → Room b at vs → Stored b at vs c r
  unfolding wrote pick
  put_stored e h =
      let w : outcome p c ≡ outcome (Some (at + length vs)) (sets b at vs) = rw (le-leb _ _ h.fits) at is in
      let n : p ≡ Some (at + length vs) = ap (λ (o : Outcome). o.next) w in
      record { buffer = ap (λ (o : Outcome). o.buffer) w; next = e ∙ ap (λ (o : Option ℕ). unwrap_or o at) n }

module _ (b : List ℕ) (at : ℕ) (vs c : List ℕ) where
  -- where there is room, to store vs is to write it
  pub next_put : {r : ℕ} → Room b at vs → Stored b at vs c r → outcome (Some r) c ≡ wrote b at vs
  next_put h s = rw s.next (wrote_fits b at _ vs c refl refl (le-leb _ _ h.fits) s.buffer)

  -- where there is no room, to leave b as it was is to write it
  pub full_put : length b < at + length vs → c ≡ b → outcome None c ≡ wrote b at vs
  full_put h e = rw e (wrote_full b at _ vs refl refl (lt-leb _ _ h))

-- vs, of m bytes, and a place within b
module _ (b : List ℕ) (at : ℕ) (vs : List ℕ) {m : ℕ} (size : length vs ≡ m) where
  -- there is room for vs where the rest of b has m bytes
  pub rest_fits : at ≤ length b → m ≤ length b - at → Room b at vs
  rest_fits h k = record { fits = omega arith }

  -- and there is none, so that b is to stay as it was, where it has fewer
  pub rest_short : length b - at < m → outcome None b ≡ wrote b at vs
  rest_short h = full_put b at vs b (omega arith) refl

-- vs, of m bytes, and whether they fit
module _ (b : List ℕ) (at : ℕ) (vs : List ℕ) {m : ℕ} {f : Bool} (size : length vs ≡ m) (is : f ≡ leb (at + m) (length b)) where
  -- there is room for vs where they do
  pub room_fits : f ≡ true → Room b at vs
  room_fits t = record { fits = omega (arith, leb-true (at + m) (length b) (sym is ∙ t)) }

  -- and there is none, so that b is to stay as it was, where they do not
  pub room_short : f ≡ false → outcome None b ≡ wrote b at vs
  room_short t = full_put b at vs b (omega (arith, leb-false (at + m) (length b) (sym is ∙ t))) refl

-- a store in front of a run of stores may come after it
set_before : (vs b : List ℕ) (at j x : ℕ) → j < at → set (sets b at vs) j x ≡ sets (set b j x) at vs
set_before [] b at j x h = refl
set_before (y ∷ vs) b at j x h = rw (set_before vs (set b at y) (suc at) j x (omega arith), set_comm b at j y x (λ e. omega arith))

-- to replace one of the bytes that were stored is to store the other in its place
set_stored : (vs b : List ℕ) (at k x : ℕ) → k < length vs → set (sets b at vs) (at + k) x ≡ sets b at (set vs k x)
set_stored [] b at k x h = absurd (omega arith)
set_stored (y ∷ vs) b at zero x h = rw (add-zero at, set_before vs (set b at y) (suc at) at x (omega arith), set-set b at y x)
set_stored (y ∷ vs) b at (suc k) x h =
    let e : at + suc k ≡ suc at + k = omega arith in
    rw e (set_stored vs (set b at y) (suc at) k x (omega arith))

-- the byte at k of what was stored is replaced, if there is one
pub stored_set : (b : List ℕ) (at : ℕ) (vs c d : List ℕ) (r k x : ℕ) → Stored b at vs c r
    → d ≡ pick (ltb k (length vs)) (set c (at + k) x) c → Stored b at (set vs k x) d r
stored_set b at vs c d r k x s e = record {
  buffer = e
      ∙ pick_ind (λ (l : List ℕ). l ≡ sets b at (set vs k x)) (ltb k (length vs)) _ _
      (λ t. rw s.buffer (set_stored vs b at k x (ltb-true k (length vs) t)))
      (λ f. rw (set_out vs k x (ltb-false k (length vs) f)) s.buffer);
  next = rw (length-set vs k x) s.next;
}
