-- Openings and ends of a request that take turns, an opening finding it not open and an end finding it open: what this is in a list of
-- happenings, that it goes on from one list to the next, and what follows for the counts.
-- Assumes nothing.
use Rattle.std.specs.Prelude.{◌+◌, ◌≡◌, Bool, ◌&&◌, not}
use Rattle.std.proofs.Math.Path.{refl, ap}
use Rattle.std.proofs.Math.Bool.{true, false}
use Rattle.std.specs.Bool.{beq}
use mathlib.Core.List.{List, [], ◌∷◌, ◌++◌}
use Rattle.std.proofs.Math.Option.{none, some, none-ne-some}
use Rattle.std.proofs.Common.{arith}
use Rattle.laws.specs.Pick.{pick}
use Rattle.history.specs.Lists.{one, how_many}
use Rattle.history.specs.Laws.Count.{one_le}
use Rattle.history.specs.Key.{Key, key_of, is_fate, is_end, counted, ended}
use Rattle.records.specs.Happening.{opened, Happening}
use Rattle.history.specs.Turns.{turns, Legal}

module _ (q : Key → Bool) where
  -- one after the other
  pub legal_then : (b c d : Bool) (s t : List Happening) → Legal q b s c → Legal q c t d → Legal q b (s ++ t) d
  unfolding turns
  legal_then b c d [] t x y = let z : b ≡ c = cc in rw z y
  legal_then b c d (h ∷ s) t x y = go (q (key_of h)) (beq b (is_end h.fate)) x (λ b'. legal_then b' c d s t)
    where
      go : (u v : Bool) → pick u (pick v (turns q (not b) s) none) (turns q b s) ≡ some c
          → ((b' : Bool) → Legal q b' s c → Legal q c t d → Legal q b' (s ++ t) d)
          → pick u (pick v (turns q (not b) (s ++ t)) none) (turns q b (s ++ t)) ≡ some d
      go true true k ih = unfold pick in ih (not b) k y
      go true false k ih = unfold pick in absurd (none-ne-some c k)
      go false v k ih = unfold pick in ih b k y

  -- tests that count the same are the same
  one_same : (b c : Bool) → one b ≡ one c → b ≡ c
  one_same true true h = refl
  one_same true false h = absurd (omega arith)
  one_same false true h = absurd (omega arith)
  one_same false false h = refl

  -- ends alone, of as many requests as there were more before than after
  pub legal_ends : (hs : List Happening) (b c : Bool) → counted opened q hs ≡ 0 → one b ≡ ended q hs + one c → Legal q b hs c
  unfolding turns counted ended how_many is_end
  legal_ends [] b c z k = ap some (one_same b c (omega arith))
  legal_ends (h ∷ hs) b c z k = go (q (key_of h)) (is_fate opened h.fate) b z k (λ b'. legal_ends hs b' c)
    where
      go : (x y b : Bool) → one (y && x) + counted opened q hs ≡ 0 → one b ≡ one (not y && x) + ended q hs + one c
          → ((b' : Bool) → counted opened q hs ≡ 0 → one b' ≡ ended q hs + one c → Legal q b' hs c)
          → pick x (pick (beq b (not y)) (turns q (not b) hs) none) (turns q b hs) ≡ some c
      go true true b z k ih = absurd (omega arith)
      go true false true z k ih = unfold pick in ih false (omega arith) (omega arith)
      go true false false z k ih = absurd (omega arith)
      go false true b z k ih = unfold pick in ih b (omega arith) (omega arith)
      go false false b z k ih = unfold pick in ih b (omega arith) (omega arith)

  -- one opening
  pub legal_begins : (h : Happening) (b c : Bool) → is_fate opened h.fate ≡ true → one b + one (q (key_of h)) ≡ one c
      → Legal q b (h ∷ []) c
  unfolding turns is_end
  legal_begins h b c z k = rw z (go (q (key_of h)) b k)
    where
      go : (x b : Bool) → one b + one x ≡ one c → pick x (pick (beq b false) (some (not b)) none) (some b) ≡ some c
      go true true k = absurd (omega (arith, one_le c))
      go true false k = unfold pick in ap some (one_same true c (omega arith))
      go false b k = unfold pick in ap some (one_same b c (omega arith))

  -- parted anywhere, both parts take turns
  pub legal_split : (b d : Bool) (s t : List Happening) → Legal q b (s ++ t) d → (c : Bool) × Legal q b s c × Legal q c t d
  unfolding turns
  legal_split b d [] t x = (b, refl, x)
  legal_split b d (h ∷ s) t x = go (q (key_of h)) (beq b (is_end h.fate)) x (λ b'. legal_split b' d s t)
    where
      go : (u v : Bool) → pick u (pick v (turns q (not b) (s ++ t)) none) (turns q b (s ++ t)) ≡ some d
          → ((b' : Bool) → Legal q b' (s ++ t) d → (c : Bool) × Legal q b' s c × Legal q c t d)
          → (c : Bool) × (pick u (pick v (turns q (not b) s) none) (turns q b s) ≡ some c) × Legal q c t d
      go true true k ih = unfold pick in ih (not b) k
      go true false k ih = unfold pick in absurd (none-ne-some d k)
      go false v k ih = unfold pick in ih b k

  -- a happening of the request: an end finds it open, an opening does not
  legal_head : (b d : Bool) (h : Happening) (t : List Happening) → q (key_of h) ≡ true → Legal q b (h ∷ t) d
      → (b ≡ is_end h.fate) × Legal q (not b) t d
  unfolding turns
  legal_head b d h t w x = go b (is_end h.fate) (rw w at x)
    where
      go : (b v : Bool) → pick true (pick (beq b v) (turns q (not b) t) none) (turns q b t) ≡ some d → (b ≡ v) × Legal q (not b) t d
      go true true k = unfold pick in (refl, k)
      go true false k = unfold pick in absurd (none-ne-some d k)
      go false true k = unfold pick in absurd (none-ne-some d k)
      go false false k = unfold pick in (refl, k)

  -- what comes before a happening of the request ends in what the happening has to find, and what comes after begins with the other
  pub legal_at : (b d : Bool) (s t : List Happening) (h : Happening) → q (key_of h) ≡ true → Legal q b (s ++ (h ∷ t)) d
      → Legal q b s (is_end h.fate) × Legal q (not (is_end h.fate)) t d
  legal_at b d s t h w x = let (c, y, z) = legal_split b d s (h ∷ t) x in go c y (legal_head c d h t w z)
    where
      go : (c : Bool) → Legal q b s c → (c ≡ is_end h.fate) × Legal q (not c) t d
          → Legal q b s (is_end h.fate) × Legal q (not (is_end h.fate)) t d
      go c y k = (rw (← k.0) y, rw (← k.0) k.1)

  -- openings and ends that take turns differ by one at most
  pub legal_counts : (b c : Bool) (s : List Happening) → Legal q b s c → one b + counted opened q s ≡ ended q s + one c
  unfolding turns counted ended how_many is_end
  legal_counts b c [] x = let z : b ≡ c = cc in rw z (omega arith)
  legal_counts b c (h ∷ s) x = go b (q (key_of h)) (is_fate opened h.fate) x (λ b'. legal_counts b' c s)
    where
      go : (b u y : Bool) → pick u (pick (beq b (not y)) (turns q (not b) s) none) (turns q b s) ≡ some c
          → ((b' : Bool) → Legal q b' s c → one b' + counted opened q s ≡ ended q s + one c)
          → one b + (one (y && u) + counted opened q s) ≡ one (not y && u) + ended q s + one c
      go true true true k ih = unfold pick in absurd (none-ne-some c k)
      go true true false k ih = unfold pick in omega (arith, ih false k)
      go false true true k ih = unfold pick in omega (arith, ih true k)
      go false true false k ih = unfold pick in absurd (none-ne-some c k)
      go b false true k ih = unfold pick in omega (arith, ih b k)
      go b false false k ih = unfold pick in omega (arith, ih b k)
