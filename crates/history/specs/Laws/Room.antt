-- The room that entries take: fewer entries take no more.
-- Assumes nothing.
use Prim.Native.Nat.{ℕ, zero, suc, ◌≤◌}
use Rattle.std.specs.Prelude.{◌≡◌, Bool, not}
use Rattle.std.proofs.Math.Path.{refl}
use Rattle.std.proofs.Math.Bool.{true, false}
use mathlib.Core.List.{List, [], ◌∷◌, map}
use Rattle.std.proofs.Math.ListN.{length}
use native.Mathlib.Omega.{arith}
use Rattle.laws.specs.Pick.{pick}
use Rattle.laws.specs.Laws.Pick.{pick_ind}
use Rattle.laws.specs.Lists.{on_at, without}
use Rattle.records.specs.Class.{Class, alarm, monitoring, bulk, is_class, is_of}
use Rattle.records.specs.Slots.{only}
use Rattle.records.specs.Entry.{Entry, used_by, taken_by, room_taken}

module _ {A : Type 0} where
  -- an element more in front of the longer list as in front of the shorter
  pick_both : (b : Bool) (a : A) (x y : List A) → length x ≤ length y → length (pick b (a ∷ x) x) ≤ length (pick b (a ∷ y) y)
  unfolding pick
  pick_both true a x y h = omega arith
  pick_both false a x y h = h

  -- an element more in front of the longer list
  pick_one : (b : Bool) (a : A) (x y : List A) → length x ≤ length y → length x ≤ length (pick b (a ∷ y) y)
  unfolding pick
  pick_one true a x y h = omega arith
  pick_one false a x y h = h

  -- a test holds of no more elements where some are left out
  pub only_fewer : (p q : A → Bool) (l : List A) → length (only p (only q l)) ≤ length (only p l)
  unfolding only
  only_fewer p q [] = omega arith
  only_fewer p q (a ∷ l) =
      let rest = only_fewer p q l in
      pick_ind (λ (m : List A). length (only p m) ≤ length (pick (p a) (a ∷ only p l) (only p l))) (q a) _ _
      (λ _. pick_both (p a) a (only p (only q l)) (only p l) rest) (λ _. pick_one (p a) a (only p (only q l)) (only p l) rest)

  -- a test holds of no more elements where one is taken out
  pub without_fewer : (p : A → Bool) (i : ℕ) (l : List A) → length (only p (without i l)) ≤ length (only p l)
  unfolding only without
  without_fewer p i [] = omega arith
  without_fewer p zero (a ∷ l) = pick_one (p a) a (only p l) (only p l) (omega arith)
  without_fewer p (suc i) (a ∷ l) = pick_both (p a) a (only p (without i l)) (only p l) (without_fewer p i l)

  -- a test holds of as many elements where each is changed in a way that the test does not see
  pub map_as_many : (p : A → Bool) (f : A → A) → ((a : A) → p (f a) ≡ p a) → (l : List A) → length (only p (map f l)) ≡ length (only p l)
  unfolding only
  map_as_many p f k [] = refl
  map_as_many p f k (a ∷ l) = rw (k a) (go (map_as_many p f k l) (p a))
    where
      go : length (only p (map f l)) ≡ length (only p l) → (b : Bool)
          → length (pick b (f a ∷ only p (map f l)) (only p (map f l))) ≡ length (pick b (a ∷ only p l) (only p l))
      go e true = unfold pick in omega arith
      go e false = unfold pick in e

  -- and where one is changed so
  pub on_at_as_many : (p : A → Bool) (i : ℕ) (f : A → A) → ((a : A) → p (f a) ≡ p a) → (l : List A)
      → length (only p (on_at i f l)) ≡ length (only p l)
  unfolding only on_at
  on_at_as_many p i f k [] = refl
  on_at_as_many p zero f k (a ∷ l) = rw (k a) (go (p a))
    where
      go : (b : Bool) → length (pick b (f a ∷ only p l) (only p l)) ≡ length (pick b (a ∷ only p l) (only p l))
      go true = unfold pick in refl
      go false = unfold pick in refl
  on_at_as_many p (suc i) f k (a ∷ l) = go (on_at_as_many p i f k l) (p a)
    where
      go : length (only p (on_at i f l)) ≡ length (only p l) → (b : Bool)
          → length (pick b (a ∷ only p (on_at i f l)) (only p (on_at i f l))) ≡ length (pick b (a ∷ only p l) (only p l))
      go e true = unfold pick in omega arith
      go e false = unfold pick in e

-- where no class is used more, no more room is taken
pub room_less : (es fs : List Entry) → ((p : Class → Bool) → used_by p es ≤ used_by p fs) → room_taken es ≤ room_taken fs
unfolding room_taken taken_by
room_less es fs h = omega (arith, h (is_of alarm), h (is_of monitoring), h (is_of bulk), h (λ c. not (is_class c)))

module _ (es : List Entry) where
  -- some entries left out
  pub room_only : (q : Entry → Bool) → room_taken (only q es) ≤ room_taken es
  unfolding used_by
  room_only q = room_less (only q es) es (λ p. only_fewer (λ e. p e.cls) q es)

  -- one entry taken out
  pub room_without : (i : ℕ) → room_taken (without i es) ≤ room_taken es
  unfolding used_by
  room_without i = room_less (without i es) es (λ p. without_fewer (λ e. p e.cls) i es)

  -- each entry changed, but for its class
  pub room_map : (f : Entry → Entry) → ((e : Entry) → (f e).cls ≡ e.cls) → room_taken (map f es) ≤ room_taken es
  unfolding used_by
  room_map f k = room_less (map f es) es (λ p. omega (arith, map_as_many (λ e. p e.cls) f (λ e. rw (k e)) es))

  -- one entry changed, but for its class
  pub room_on_at : (i : ℕ) (f : Entry → Entry) → ((e : Entry) → (f e).cls ≡ e.cls) → room_taken (on_at i f es) ≤ room_taken es
  unfolding used_by
  room_on_at i f k = room_less (on_at i f es) es (λ p. omega (arith, on_at_as_many (λ e. p e.cls) i f (λ e. rw (k e)) es))
