-- The laws by which names are judged from a place on, and by which a first component is known.
-- Assumes nothing.
use Rattle.std.specs.Prelude.{◌≡◌, ℕ, suc, ◌+◌, ◌-◌, ◌<◌, ◌≤◌, Bool, false, ◌||◌, ◌≢◌, List, length, take, drop, nat_lt, refl, None, Some}
use Rattle.std.proofs.Math.Bool.{or-false, or_assoc}
use Rattle.std.proofs.Math.ListN.{length-drop}
use borrow.Author.Tests.{lt-ltb, le-ltb, eq-eqb, ne_eqb}
use native.Mathlib.Omega.{arith}
use Rattle.laws.specs.Pick.{pick}
use Rattle.laws.specs.Laws.Pick.{pick_ind}
use Rattle.wire.specs.declared.read.Cursor.{Cursor}
use Rattle.wire.specs.declared.read.Element.{Element}
use Rattle.wire.specs.declared.verdict.Verdict.{Verdict}
use Rattle.wire.specs.Element.{Split, ended}
use Rattle.wire.specs.Places.Place.{element_at}
use Rattle.wire.specs.Laws.Within.{read_bad, read_is}
use Rattle.wire.specs.Laws.Walk.{walk_end, walk_bad, walk_more}
use Rattle.names.specs.declared.component.Counted.{Counted}
use Rattle.laws.specs.Lists.{any_of}
use Rattle.names.specs.Name.{Component, counts, too_high, marked, component, components, counted, same_bytes, first_is}

-- what components say behind n others: `judged`, with whether a marked one was met among those, and their count
unfoldable pub judged_from : Bool → ℕ → Split Component → Counted
judged_from met n p =
    pick (ended p)
    (pick (any_of too_high p.items) (counts Verdict.Malformed 0)
    (counts (pick (met || any_of marked p.items) Verdict.Unsupported Verdict.Fine) (n + length p.items)))
    (counts Verdict.Malformed 0)

-- from the first component on
pub judged_first : (s : List ℕ) → judged_from false 0 (components s) ≡ counted s
unfolding judged_from counted
judged_first s = let z : 0 + length (components s).items ≡ length (components s).items = omega arith in rw z

module _ (met : Bool) (n : ℕ) (s : List ℕ) (at : ℕ) where
  -- behind the last component
  pub judged_end : length s ≤ at → judged_from met n (components (drop at s)) ≡ counts (pick met Verdict.Unsupported Verdict.Fine) n
  unfolding components judged_from pick ended any_of
  judged_end h = let z : n + 0 ≡ n = omega arith in rw (walk_end component s at h, or-false met, z)

  -- bytes are left that are no component
  pub judged_fault : at < length s → element_at s at ≡ None → judged_from met n (components (drop at s)) ≡ counts Verdict.Malformed 0
  unfolding components judged_from pick ended
  judged_fault h e = rw (walk_bad component s at e, length-drop at s, ne_eqb (length s - at) 0 (λ q. omega arith))

  module _ (e : Element) (c : Cursor) (i : element_at s at ≡ Some (e, c)) where
    -- a component whose type is too high
    pub judged_high : 65535 < e.typ → judged_from met n (components (drop at s)) ≡ counts Verdict.Malformed 0
    unfolding components judged_from any_of too_high ended pick
    judged_high h =
        rw (walk_more component s at e c i, lt-ltb 65535 e.typ h)
        (pick_ind (λ r. r ≡ counts Verdict.Malformed 0) (ended (components (drop c.at s))) _ _ (λ q. refl) (λ q. refl))

    -- any other component is noted and counted
    pub judged_more : e.typ ≤ 65535
        → judged_from met n (components (drop at s)) ≡ judged_from (met || nat_lt e.typ 3) (n + 1) (components (drop c.at s))
    unfolding components judged_from any_of too_high marked ended
    judged_more h =
        let p : Split Component = components (drop c.at s) in
        let z : n + suc (length p.items) ≡ n + 1 + length p.items = omega arith in
        rw (walk_more component s at e c i, le-ltb 65535 e.typ h, ← or_assoc met (nat_lt e.typ 3) (any_of marked p.items), z)

module _ (w s : List ℕ) where
  -- no component is no word
  pub first_none : element_at s 0 ≡ None → first_is w s ≡ false
  unfolding first_is
  first_none e = let b = read_bad s 0 e in rw b

  -- a first component of another type
  pub first_other : (e : Element) (c : Cursor) → element_at s 0 ≡ Some (e, c) → e.typ ≢ 8 → first_is w s ≡ false
  unfolding first_is
  first_other e c i n = let b = (read_is s 0 e c i).same in rw (b, ne_eqb e.typ 8 n)

  -- a first component of type 8 is compared with the word
  pub first_word : (e : Element) (c : Cursor) → element_at s 0 ≡ Some (e, c) → e.typ ≡ 8
      → first_is w s ≡ same_bytes (take e.len (drop e.at s)) w
  unfolding first_is
  first_word e c i q = let b = (read_is s 0 e c i).same in rw (b, eq-eqb e.typ 8 q)
