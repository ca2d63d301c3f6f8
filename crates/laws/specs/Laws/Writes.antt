-- A run of stores (`sets` of lib.Seq): one run after another, what can be read back, and a loop that copies.
-- Assumes nothing.
use Rattle.std.specs.Prelude.{ℕ, suc, ◌+◌, ◌≤◌, ◌<◌, ◌≡◌, refl, List, [], ◌∷◌, ◌++◌, length, get_or, set, take, drop}
use Rattle.std.proofs.Common.{sym, ap, ◌∙◌, append_assoc, arith, add-zero, add-one, take-suc, take_all, take_at, drop_at, length-take-le}
use Rattle.std.proofs.lemmas.List.Edits.{sets, sets-eq}
use Rattle.std.proofs.Math.Seq.{length-sets, set_out}

module _ {A : Type 0} where
  -- a run of two parts is the run of the first, and the run of the second from where the first ended
  pub sets_append : (a b l : List A) (i : ℕ) → sets l i (a ++ b) ≡ sets (sets l i a) (i + length a) b
  sets_append [] b l i = rw add-zero
  sets_append (x ∷ a) b l i = let e : i + suc (length a) ≡ suc i + length a = omega arith in rw e (sets_append a b (set l i x) (suc i))

  -- a run and one store after it are a run that is one longer
  pub sets_snoc : (vs l : List A) (i : ℕ) (a : A) → set (sets l i vs) (i + length vs) a ≡ sets l i (vs ++ (a ∷ []))
  sets_snoc vs l i a = sym (sets_append vs (a ∷ []) l i)

  -- what a run stored is read back
  pub sets_back : (vs l : List A) (i : ℕ) → i + length vs ≤ length l → take (length vs) (drop i (sets l i vs)) ≡ vs
  sets_back vs l i h =
      let r = drop (i + length vs) l in
      let e : sets l i vs ≡ take i l ++ (vs ++ r) = sets-eq vs l i h ∙ append_assoc (take i l) vs r in
      rw (e, drop_at (take i l) (vs ++ r) i (length-take-le i l (omega arith))) (take_at vs r (length vs) refl)

  -- a run that starts past the end stores nothing
  pub sets_out : (vs l : List A) (i : ℕ) → length l ≤ i → sets l i vs ≡ l
  sets_out [] l i h = refl
  sets_out (v ∷ vs) l i h = rw (set_out l i v h) (sets_out vs l (suc i) (omega arith))

-- c is b after the first i elements of s were copied into it from place `at` on
pub record Copied {A : Type 0} (b : List A) (at : ℕ) (s c : List A) (i : ℕ) : Type 0 where
  pub inside : i ≤ length s
  pub same : c ≡ sets b at (take i s)

module _ {A : Type 0} (b : List A) (at : ℕ) (s : List A) where
  -- at the start nothing is copied
  pub copied_none : Copied b at s b 0
  copied_none = record { inside = omega arith; same = refl }

  -- a turn copies one element
  pub copied_more : (c : List A) (i : ℕ) (d : A) → Copied b at s c i → i < length s → Copied b at s (set c (at + i) (get_or s i d)) (i + 1)
  copied_more c i d h l =
      let n : length (take i s) ≡ i = length-take-le i s h.inside in
      let e = rw n at (sets_snoc (take i s) b at (get_or s i d)) in
      record { inside = omega arith; same = rw (h.same, e, add-one i, take-suc s i d l) }

  -- at the end all of s is copied
  pub copied_all : (c : List A) (i : ℕ) → Copied b at s c i → length s ≤ i → c ≡ sets b at s
  copied_all c i h l = h.same ∙ ap (sets b at) (take_all i s l)

  -- a copy keeps the length of b
  pub copied_length : (c : List A) (i : ℕ) → Copied b at s c i → length c ≡ length b
  copied_length c i h = ap length h.same ∙ length-sets b at (take i s)
