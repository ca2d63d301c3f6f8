-- The entry that a search by name and both flags finds: its name and flags are those.
-- Assumes nothing.
use Rattle.std.specs.Prelude.{ℕ, ◌≡◌, refl, Bool, true, false, List, [], ◌∷◌}
use Rattle.std.proofs.Common.{sym, arith}
use Rattle.std.specs.Bool.{beq}
use Rattle.std.proofs.Math.Option.{some}
use Rattle.laws.specs.Lists.{index_of}
use Rattle.laws.specs.Laws.Pick.{pick_ind}
use Rattle.names.specs.Name.{same_bytes}
use Rattle.names.specs.Laws.Same.{both, same_equal}
use Rattle.records.specs.Slots.{at_place}
use Rattle.records.specs.Entry.{Entry, is_known}

-- two flags that agree are one
flag_equal : (a b : Bool) → beq a b ≡ true → a ≡ b
flag_equal true true e = refl
flag_equal true false e = sym e
flag_equal false true e = e
flag_equal false false e = refl

-- an entry that passes the test has that name and both flags
pub known_is : (name : List ℕ) (p m : Bool) (e : Entry) → is_known name p m e ≡ true
    → (name ≡ e.name) × ((p ≡ e.can_be_prefix) × (m ≡ e.must_be_fresh))
unfolding is_known
known_is name p m e q =
    let a = both _ (beq m e.must_be_fresh) q in
    let b = both (same_bytes name e.name) (beq p e.can_be_prefix) a.0 in
    (same_equal name e.name b.0, (flag_equal p e.can_be_prefix b.1, flag_equal m e.must_be_fresh a.1))

-- the test holds of the entry that a search finds
pub found_passes : (p : Entry → Bool) (es : List Entry) (e : Entry) → at_place (index_of p es) es ≡ some e → p e ≡ true
unfolding index_of at_place
found_passes p [] e q = let z : ◌≡◌ {A = ℕ} 0 1 = cc in absurd (omega arith)
found_passes p (x ∷ es) e q =
    let rest = found_passes p es e in
    pick_ind (λ (i : ℕ). at_place i (x ∷ es) ≡ some e → p e ≡ true) (p x) _ _ (λ y r. let s : x ≡ e = cc in rw s at y) (λ _. rest) q
