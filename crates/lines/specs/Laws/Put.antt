-- Laws of writing lines: the two outcomes of a writer, stores one after the other, and digits stored from the last to the first.
-- Assumes nothing.
use Rattle.std.specs.Prelude.{ℕ, zero, suc, ◌+◌, ◌-◌, ◌/◌, ◌%◌, ◌≤◌, ◌<◌, ◌≡◌, refl, Bool, true, false, List, [], ◌∷◌, ◌++◌, length, get_or, set, drop, leb}
use Rattle.std.proofs.Common.{sym, ap, ◌∙◌, subst, add-one, append-nil, append_assoc, length-set, length-append, drop-cons, arith}
use Rattle.std.proofs.Math.ListN.{drop_of_length-le}
use Rattle.std.proofs.Math.Seq.{length-sets}
use Rattle.std.proofs.lemmas.List.Edits.{sets}
use Rattle.std.proofs.lemmas.List.{set_comm}
use Rattle.laws.specs.Laws.Writes.{sets_append, sets_snoc}
use Rattle.laws.specs.Pick.{pick}
use Rattle.lines.specs.Decimal.{decimal}
use Rattle.lines.specs.Lines.{spaced, newline}
use Rattle.lines.specs.Places.Put.{placed, put, Stored, lowest, all_spaced, line_of}
use Rattle.lines.specs.Laws.Decimal.{lowest_all}

-- the outcome where vs, of m bytes, is found to fit and is stored
pub put_fits : {r : Bool} (b : List ℕ) (at m : ℕ) (vs c : List ℕ) (e : ℕ) → length vs ≡ m → r ≡ leb (at + m) (length b) → r ≡ true
    → Stored b at vs c e → placed e c ≡ put b at vs
unfolding put pick
put_fits b at m vs c e l p t s = rw (l, sym p ∙ t, ← l, s.past, s.same)

-- the outcome where vs, of m bytes, is found not to fit
pub put_full : {r : Bool} (b : List ℕ) (at m : ℕ) (vs : List ℕ) → length vs ≡ m → r ≡ leb (at + m) (length b) → r ≡ false
    → placed at b ≡ put b at vs
unfolding put pick
put_full b at m vs l p t = rw (l, sym p ∙ t)

-- bytes stored after others
pub stored_on : (b : List ℕ) (at : ℕ) (xs c : List ℕ) (e : ℕ) (ys d : List ℕ) (r : ℕ) → Stored b at xs c e → Stored c e ys d r
    → Stored b at (xs ++ ys) d r
stored_on b at xs c e ys d r p q =
    let s : sets b at (xs ++ ys) ≡ sets (sets b at xs) (at + length xs) ys = sets_append xs ys b at in
    let l : length (xs ++ ys) ≡ length xs + length ys = length-append xs ys in
    let u : d ≡ sets (sets b at xs) (at + length xs) ys = q.same ∙ rw (p.same, p.past) in
    let v = p.past in
    let w = q.past in
    record { same = u ∙ sym s; past = omega arith }

-- a store past the run may as well come first
sets_set : (vs l : List ℕ) (i j a : ℕ) → i + length vs ≤ j → set (sets l i vs) j a ≡ sets (set l j a) i vs
sets_set [] l i j a h = refl
sets_set (v ∷ vs) l i j a h =
    sets_set vs (set l i v) (suc i) j a (omega arith)
    ∙ ap (λ (t : List ℕ). sets t (suc i) vs) (set_comm l i j v a (λ e. absurd (omega arith)))

-- i digits are i bytes
length_lowest : (i m : ℕ) → length (lowest i m) ≡ i
unfolding lowest
length_lowest zero m = refl
length_lowest (suc i) m = length-append (lowest i (m / 10)) _ ∙ omega (arith, length_lowest i (m / 10))

-- c is b in which all digits of n but the i highest, which are those of m, are stored
pub record Filling (b : List ℕ) (at n : ℕ) (c : List ℕ) (i m : ℕ) : Type 0 where
  pub few : i ≤ length (decimal n)
  pub same : sets c at (lowest i m) ≡ sets b at (decimal n)
  pub long : length c ≡ length b

-- at the start no digit is stored
pub filling_none : (b : List ℕ) (at n w : ℕ) → w ≡ length (decimal n) → Filling b at n b w n
filling_none b at n w e =
    record { few = omega arith; same = rw e (ap (sets b at) (lowest_all n)); long = refl }

-- a turn stores the last digit left
filling_suc : (b : List ℕ) (at n : ℕ) (c : List ℕ) (j m : ℕ) → Filling b at n c (suc j) m
    → Filling b at n (set c (at + j) (48 + m % 10)) j (m / 10)
unfolding lowest
filling_suc b at n c j m h =
    let vs = lowest j (m / 10) in
    let d = 48 + m % 10 in
    let e : set (sets c at vs) (at + length vs) d ≡ sets c at (vs ++ (d ∷ [])) = sets_snoc vs c at d in
    let l : length vs ≡ j = length_lowest j (m / 10) in
    let f : set (sets c at vs) (at + j) d ≡ sets c at (vs ++ (d ∷ [])) = rw l at e in
    record {
      few = omega (arith, h.few);
      same = sym (sets_set vs c at (at + j) d (omega arith)) ∙ f ∙ h.same;
      long = length-set c (at + j) d ∙ h.long;
    }

-- a turn, as code counts
pub filling_more : (b : List ℕ) (at n : ℕ) (c : List ℕ) (i m : ℕ) → Filling b at n c i m → 0 < i
    → Filling b at n (set c (at + (i - 1)) (48 + m % 10)) (i - 1) (m / 10)
filling_more b at n c i m h g =
    let e : i ≡ suc (i - 1) = omega arith in
    filling_suc b at n c (i - 1) m (subst (λ (k : ℕ). Filling b at n c k m) e h)

-- at the end all digits are stored
pub filling_all : (b : List ℕ) (at n : ℕ) (c : List ℕ) (i m w : ℕ) → Filling b at n c i m → i ≤ 0 → w ≡ length (decimal n)
    → Stored b at (decimal n) c (at + w)
unfolding lowest
filling_all b at n c i m w h g e =
    let z : i ≡ 0 = omega arith in
    let s : sets c at (lowest i m) ≡ sets b at (decimal n) = h.same in
    record { same = rw z at s; past = rw e }

-- one byte stored
pub stored_byte : (b : List ℕ) (at v : ℕ) → Stored b at (v ∷ []) (set b at v) (at + 1)
stored_byte b at v = record { same = refl; past = refl }

-- a space stored, and then the digits of a number
pub stored_spaced : (b : List ℕ) (at n : ℕ) (c : List ℕ) (r : ℕ) → Stored (set b at 32) (at + 1) (decimal n) c r
    → Stored b at (spaced n) c r
unfolding spaced
stored_spaced b at n c r h = stored_on b at (32 ∷ []) (set b at 32) (at + 1) (decimal n) c r (stored_byte b at 32) h

-- the place past a number that stands after a space
pub past_spaced : (b : List ℕ) (at n : ℕ) (c : List ℕ) (r : ℕ) → Stored b at (spaced n) c r → r ≡ at + length (decimal n) + 1
unfolding spaced
past_spaced b at n c r h = omega (arith, h.past)

-- what stores, one after the other, leave of b from place `at` on
unfoldable pub stores : List ℕ → ℕ → ℕ → List ℕ → List ℕ
stores b at k [] = b
stores b at k (v ∷ vs) = stores (set b (at + k) v) at (suc k) vs

-- they are one run
stores_run : (vs b : List ℕ) (at k : ℕ) → stores b at k vs ≡ sets b (at + k) vs
unfolding stores
stores_run [] b at k = refl
stores_run (v ∷ vs) b at k =
    let e : at + suc k ≡ suc (at + k) = omega arith in
    stores_run vs (set b (at + k) v) at (suc k) ∙ rw e

-- from the place itself on
stores_all : (vs b : List ℕ) (at v : ℕ) → stores (set b at v) at 1 vs ≡ sets b at (v ∷ vs)
stores_all vs b at v = let e : at + 1 ≡ suc at = omega arith in stores_run vs (set b at v) at 1 ∙ rw e

-- the stores of `bad`
pub stored_bad : (b : List ℕ) (at : ℕ) → Stored b at (98 ∷ 97 ∷ 100 ∷ []) (set (set (set b at 98) (at + 1) 97) (at + 2) 100) (at + 3)
unfolding stores
stored_bad b at = record { same = stores_all (97 ∷ 100 ∷ []) b at 98; past = refl }

-- the stores of `total`
pub stored_total : (b : List ℕ) (at : ℕ)
    → Stored b at (116 ∷ 111 ∷ 116 ∷ 97 ∷ 108 ∷ [])
    (set (set (set (set (set b at 116) (at + 1) 111) (at + 2) 116) (at + 3) 97) (at + 4) 108) (at + 5)
unfolding stores
stored_total b at = record { same = stores_all (111 ∷ 116 ∷ 97 ∷ 108 ∷ []) b at 116; past = refl }

-- the stores of `too long`
pub stored_too_long : (b : List ℕ) (at : ℕ)
    → Stored b at (116 ∷ 111 ∷ 111 ∷ 32 ∷ 108 ∷ 111 ∷ 110 ∷ 103 ∷ 10 ∷ [])
    (set (set (set (set (set (set (set (set (set b at 116) (at + 1) 111) (at + 2) 111) (at + 3) 32) (at + 4) 108) (at + 5) 111)
    (at + 6) 110) (at + 7) 103) (at + 8) 10) (at + 9)
unfolding stores
stored_too_long b at = record { same = stores_all (111 ∷ 111 ∷ 32 ∷ 108 ∷ 111 ∷ 110 ∷ 103 ∷ 10 ∷ []) b at 116; past = refl }

-- c is b after the word of a line and its first i numbers were stored from place `at` on, and x is the place past them
pub record Storing (b : List ℕ) (at : ℕ) (word ns c : List ℕ) (x i : ℕ) : Type 0 where
  pub done : List ℕ
  pub stored : Stored b at (word ++ done) c x
  pub rest : done ++ all_spaced (drop i ns) ≡ all_spaced ns

module _ {b : List ℕ} {at : ℕ} {word c : List ℕ} {x : ℕ} (ns : List ℕ) where
  -- at the start the word is stored
  pub storing_none : Stored b at word c x → Storing b at word ns c x 0
  storing_none s = record { done = []; stored = rw append-nil s; rest = refl }

-- the numbers from the one at i on
next_spaced : (ns : List ℕ) (i : ℕ) → i < length ns → all_spaced (drop i ns) ≡ spaced (get_or ns i 0) ++ all_spaced (drop (i + 1) ns)
unfolding all_spaced
next_spaced ns i h = rw (add-one i, drop-cons ns i 0 h)

-- how long they are
pub length_next : (ns : List ℕ) (i : ℕ) → i < length ns
    → length (all_spaced (drop i ns)) ≡ 1 + length (decimal (get_or ns i 0)) + length (all_spaced (drop (i + 1) ns))
unfolding spaced
length_next ns i h =
    omega (arith, ap length (next_spaced ns i h), length-append (spaced (get_or ns i 0)) (all_spaced (drop (i + 1) ns)))

-- past the last there is none
no_spaced : (ns : List ℕ) (i : ℕ) → length ns ≤ i → all_spaced (drop i ns) ≡ []
unfolding all_spaced
no_spaced ns i h = rw drop_of_length-le

-- of no length
pub length_none : (ns : List ℕ) (i : ℕ) → length ns ≤ i → length (all_spaced (drop i ns)) ≡ 0
length_none ns i h = ap length (no_spaced ns i h)

-- how long a line is
pub length_line : (word ns : List ℕ) → length (line_of word ns) ≡ length word + length (all_spaced ns) + 1
unfolding line_of newline
length_line word ns = omega (arith, length-append word (all_spaced ns), length-append (word ++ all_spaced ns) (10 ∷ []))

module _ {b : List ℕ} {at : ℕ} {word ns c : List ℕ} {x i : ℕ} (s : Storing b at word ns c x i) where
  -- a store keeps the length of the buffer
  length_same : length c ≡ length b
  length_same = ap length s.stored.same ∙ length-sets b at (word ++ s.done)

  -- how long what is left is
  length_left : length (line_of word ns) ≡ length word + length s.done + length (all_spaced (drop i ns)) + 1
  length_left = omega (arith, length_line word ns, ap length s.rest, length-append s.done (all_spaced (drop i ns)))

  -- a number more
  pub storing_more : (d : List ℕ) (y : ℕ) → i < length ns → Stored c x (spaced (get_or ns i 0)) d y → Storing b at word ns d y (i + 1)
  storing_more d y h t =
      let n = spaced (get_or ns i 0) in
      record {
        done = s.done ++ n;
        stored = rw (← (append_assoc word s.done n)) (stored_on _ _ _ _ _ _ _ _ s.stored t);
        rest = rw (append_assoc s.done n (all_spaced (drop (i + 1) ns)), ← (next_spaced ns i h)) s.rest;
      }

  -- which has room
  pub room_more : i < length ns → at + length (line_of word ns) ≤ length b → x + length (spaced (get_or ns i 0)) ≤ length c
  unfolding spaced
  room_more h r = omega (arith, s.stored.past, length_same, length_left, length-append word s.done, length_next ns i h)

  -- the end of the line has room
  pub room_end : at + length (line_of word ns) ≤ length b → x + 1 ≤ length c
  room_end r = omega (arith, s.stored.past, length_same, length_left, length-append word s.done)

  -- and then the line is stored
  pub storing_all : (d : List ℕ) (y : ℕ) → length ns ≤ i → Stored c x newline d y → Stored b at (line_of word ns) d y
  unfolding line_of
  storing_all d y h t =
      let e : s.done ≡ all_spaced ns = sym (append-nil s.done) ∙ rw (no_spaced ns i h) at s.rest in
      rw (← e) (stored_on _ _ _ _ _ _ _ _ s.stored t)
