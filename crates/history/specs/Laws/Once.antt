-- "An entry is known by name and both flags": of entries apart, as those of a node that events lead to, at most one is.
-- Assumes nothing.
use Rattle.std.specs.Prelude.{ℕ, ◌+◌, ◌≤◌, ◌≡◌, Bool, List}
use Rattle.std.proofs.Math.Path.{refl}
use Rattle.std.proofs.Common.{sym, ◌∙◌}
use Rattle.std.proofs.Math.Bool.{true, false}
use native.Mathlib.Omega.{arith}
use Rattle.records.specs.Entry.{Entry, is_known}
use Rattle.history.specs.Lists.{one, how_many, All, nothing, both, Apart, alone, among}
use Rattle.history.specs.Laws.Known.{known_is}
use Rattle.history.specs.Shape.{OtherEntry}

module _ (name : List ℕ) (p m : Bool) where
  -- two entries of one name and flags are not apart
  known_both : (e x : Entry) → OtherEntry e x → is_known name p m e ≡ true → is_known name p m x ≡ true → ⊥
  known_both e x d a b =
      let h = known_is name p m e a in
      let k = known_is name p m x b in
      d (h.0 ∙ sym k.0) (h.1.0 ∙ sym k.1.0) (h.1.1 ∙ sym k.1.1)

  -- after an entry of the name and flags there is none
  none_after : (e : Entry) → is_known name p m e ≡ true → {es : List Entry} → All (OtherEntry e) es → how_many (is_known name p m) es ≡ 0
  unfolding how_many
  none_after e k nothing = refl
  none_after e k (both {a = x} {l = es} d h) = go (is_known name p m x) refl (none_after e k h)
    where
      go : (b : Bool) → is_known name p m x ≡ b → how_many (is_known name p m) es ≡ 0 → one b + how_many (is_known name p m) es ≡ 0
      go true q rest = absurd (known_both e x d k q)
      go false q rest = omega arith

  -- so there is at most one
  pub known_once : {es : List Entry} → Apart OtherEntry es → how_many (is_known name p m) es ≤ 1
  unfolding how_many
  known_once alone = omega arith
  known_once (among {a = e} {l = es} d h) = go (is_known name p m e) refl (known_once h)
    where
      go : (b : Bool) → is_known name p m e ≡ b → how_many (is_known name p m) es ≤ 1 → one b + how_many (is_known name p m) es ≤ 1
      go true q rest = omega (arith, none_after e q d)
      go false q rest = omega arith
