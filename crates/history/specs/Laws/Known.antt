-- The entry at a place, and the entry that is known by a name and both flags.
-- Assumes nothing.
use Rattle.std.specs.Prelude.{ℕ, zero, suc, ◌≤◌, ◌≡◌, refl, Bool, true, false, List, [], ◌∷◌, length}
use Rattle.std.proofs.Common.{sym, arith}
use Rattle.std.specs.Bool.{beq}
use Rattle.std.proofs.Math.Option.{Option, none, some}
use Rattle.laws.specs.Laws.Pick.{pick_ind}
use Rattle.laws.specs.Lists.{on_at, index_of}
use Rattle.names.specs.Name.{same_bytes}
use Rattle.names.specs.Laws.Same.{both, same_refl, same_equal}
use Rattle.packets.specs.Meaning.{Ask}
use Rattle.records.specs.Class.{Class}
use Rattle.records.specs.Face.{is_peer}
use Rattle.records.specs.Entry.{Entry, is_known, asking, sending, ending}
use Rattle.rules.specs.Node.{Node}
use Rattle.rules.specs.Outcome.{Send}
use Rattle.rules.specs.Interest.{Arrival, request_of, sent_of, forwards, entry_of}
use Rattle.history.specs.Laws.Every.{not_none}
use Rattle.history.specs.Lists.{In, here, there}
use Rattle.records.specs.Slots.{at_place, given}

-- names that are not equal are not the same bytes
pub differs : (a b : List ℕ) → (a ≡ b → ⊥) → same_bytes a b ≡ false
differs a b d = go (same_bytes a b) refl
  where
    go : (x : Bool) → same_bytes a b ≡ x → x ≡ false
    go true e = absurd (d (same_equal a b e))
    go false e = refl

-- an entry at a place is one of them
pub entry_in : (i : ℕ) (es : List Entry) (e : Entry) → at_place i es ≡ some e → In e es
unfolding at_place
entry_in i [] e q = not_none q
entry_in zero (x ∷ es) e q = let p : x ≡ e = cc in here p
entry_in (suc i) (x ∷ es) e q = there (entry_in i es e q)

-- where no entry stands, the list has ended
pub entry_none : (i : ℕ) (es : List Entry) → at_place i es ≡ none → length es ≤ i
unfolding at_place
entry_none i [] q = omega arith
entry_none zero (x ∷ es) q = not_none (sym q)
entry_none (suc i) (x ∷ es) q = omega (arith, entry_none i es q)

-- the entry at a place replaced by what g makes of it is that entry changed by g
pub entry_changed : (i : ℕ) (es : List Entry) (e : Entry) (g : Entry → Entry) → at_place i es ≡ some e → on_at i (λ _. g e) es ≡ on_at i g es
unfolding at_place on_at
entry_changed i [] e g q = refl
entry_changed zero (x ∷ es) e g q = let p : e ≡ x = cc in rw p
entry_changed (suc i) (x ∷ es) e g q = rw (entry_changed i es e g q)

-- a flag is itself
pub flag_refl : (b : Bool) → beq b b ≡ true
flag_refl true = refl
flag_refl false = refl

-- an entry of a name and both flags is known by them
pub known_same : (name : List ℕ) (p m : Bool) (e : Entry) → e.name ≡ name → e.can_be_prefix ≡ p → e.must_be_fresh ≡ m
    → is_known name p m e ≡ true
unfolding is_known
known_same name p m e a b c = rw (a, b, c, same_refl name, flag_refl p, flag_refl m)

-- two flags that agree are one
pub flag_equal : (a b : Bool) → beq a b ≡ true → a ≡ b
flag_equal true true e = refl
flag_equal true false e = sym e
flag_equal false true e = e
flag_equal false false e = refl

-- an entry that passes the test has that name and both flags
pub known_is : (name : List ℕ) (p m : Bool) (e : Entry) → is_known name p m e ≡ true
    → (e.name ≡ name) × ((e.can_be_prefix ≡ p) × (e.must_be_fresh ≡ m))
unfolding is_known
known_is name p m e q =
    let a = both _ (beq m e.must_be_fresh) q in
    let b = both (same_bytes name e.name) (beq p e.can_be_prefix) a.0 in
    (sym (same_equal name e.name b.0), (sym (flag_equal p e.can_be_prefix b.1), sym (flag_equal m e.must_be_fresh a.1)))

-- the test holds of the entry that a search finds
found_passes : (p : Entry → Bool) (es : List Entry) (e : Entry) → at_place (index_of p es) es ≡ some e → p e ≡ true
unfolding index_of at_place
found_passes p [] e q = not_none q
found_passes p (x ∷ es) e q =
    let rest = found_passes p es e in
    pick_ind (λ (i : ℕ). at_place i (x ∷ es) ≡ some e → p e ≡ true) (p x) _ _ (λ y r. let s : x ≡ e = cc in rw s at y) (λ _. rest) q

-- an entry has the name and flags of an Interest
pub record KnownBy (i : Ask) (e : Entry) : Type 0 where
  pub name : e.name ≡ i.name
  pub prefix : e.can_be_prefix ≡ i.can_be_prefix
  pub fresh : e.must_be_fresh ≡ i.must_be_fresh

-- the entry of an Interest has its name and flags
pub entry_known : (n : Node) (i : Ask) (e : Entry) → at_place (entry_of n i) n.pending ≡ some e → KnownBy i e
unfolding entry_of
entry_known n i e q =
    let p = is_known i.name i.can_be_prefix i.must_be_fresh in
    let k = known_is i.name i.can_be_prefix i.must_be_fresh e (found_passes p n.pending e q) in
    record { name = k.0; prefix = k.1.0; fresh = k.1.1 }

-- the entry with an Interest's request
abbrev pub with_request : ℕ → Arrival → Entry → Entry
with_request now a e = asking a.face (request_of now a) e

-- the entry as a send leaves it, if there is one
abbrev pub sent_on : ℕ → Arrival → Option ℕ → Entry → Entry
sent_on now a x e = given e (λ h. sending h (sent_of now a) e) x

-- what is sent
abbrev pub onward : Arrival → Class → Option ℕ → List Send
onward a c x = given [] (λ h. forwards a c h ∷ []) x

-- the entry without its point-to-point requests
abbrev pub without_peer : Node → Entry → Entry
without_peer n e = ending (is_peer n.faces) e
