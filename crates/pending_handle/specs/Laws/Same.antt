-- What is said of, or done to, the entry at a place is told by the place and the entries.
-- Assumes nothing.
use Rattle.std.specs.Prelude.{ℕ, ◌≡◌, List}
use Rattle.laws.specs.Lists.{on_at}
use Rattle.records.specs.Slots.{given, at_place}
use Rattle.records.specs.Entry.{Entry}
use Rattle.happenings.specs.Noted.{Notes}
use Rattle.happenings.specs.Laws.Noted.{notes_one}

-- what is said
pub said_alike : {B : Type 0} (d : B) {g h : Entry → B} {i j : ℕ} {v w : List Entry} → g ≡ h → i ≡ j → v ≡ w
    → given d g (at_place i v) ≡ given d h (at_place j w)
said_alike d a b c = rw (a, b, c)

-- what is changed
pub changed_alike : {g h : Entry → Entry} {i j : ℕ} {v w : List Entry} → g ≡ h → i ≡ j → v ≡ w → on_at i g v ≡ on_at j h w
changed_alike a b c = rw (a, b, c)

-- a function of three, and of four
pub ap3 : {A B C D : Type 0} (f : A → B → C → D) {x y : A} {u v : B} {k l : C} → x ≡ y → u ≡ v → k ≡ l → f x u k ≡ f y v l
ap3 f e q r = rw (e, q, r)

pub ap4 : {A B C D E : Type 0} (f : A → B → C → D → E) {x y : A} {u v : B} {k l : C} {m n : D} → x ≡ y → u ≡ v → k ≡ l → m ≡ n
    → f x u k m ≡ f y v l n
ap4 f e q r t = rw (e, q, r, t)

-- what is noted
pub noted_alike : (most : ℕ) {r s at to : ℕ} {after other before was news more : List (List ℕ)} → was ≡ before → to ≡ at → more ≡ news
    → Notes most r after before at news → Notes most s other was to more → (r ≡ s) × (after ≡ other)
noted_alike most {s = s} {other = other} a b c p q = notes_one most p (moved a b c q)
  where
    moved : {at to : ℕ} {before was news more : List (List ℕ)} → was ≡ before → to ≡ at → more ≡ news
        → Notes most s other was to more → Notes most s other before at news
    moved a b c q = rw (← a, ← b, ← c) q
