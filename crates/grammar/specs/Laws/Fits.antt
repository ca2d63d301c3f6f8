-- A row that is found is that of its parent and its type; an element is put nowhere, or in the order of its row, after the last one
-- and with a length that fits; so a field of a walk has a length that fits the rule of its order.
-- Assumes nothing.
use Rattle.std.specs.Prelude.{ℕ, zero, suc, ◌≤◌, ◌<◌, ◌≡◌, refl, Bool, true, ◌&&◌, ◌≢◌, List, [], ◌∷◌, length, get_or, set, replicate, leb, eqb}
use Rattle.std.proofs.Common.{sym, ◌∙◌, ap, eqb-true, eq-eqb, ne_eqb, leb-false, arith}
use Rattle.laws.specs.Pick.{pick}
use Rattle.laws.specs.Laws.Pick.{pick_ind}
use Rattle.laws.specs.Laws.Loop.{and_both}
use Rattle.grammar.specs.declared.Row.{Row}
use Rattle.grammar.specs.declared.Rule.{Rule}
use Rattle.wire.specs.declared.verdict.Verdict.{Verdict}
use Rattle.wire.specs.Verdict.{is_malformed}
use Rattle.grammar.specs.declared.Next.{Next}
use Rattle.grammar.specs.Table.{table, none, hit, row_of, fits, other}
use Rattle.grammar.specs.Laws.Table.{each_row, row_each}
use Rattle.grammar.specs.Walk.{next, said_with, known, judged, Field, absent, here, Fields, no_fields, broken_fields, met, walked}
use Rattle.grammar.specs.Laws.Walk.{walked_from_lem, walked_ind}

-- a row that is found is that of the type and the parent
pub row_found : (p t : ℕ) (l : List Row) → (row_of p t l).order ≢ 0 → ((row_of p t l).parent ≡ p) × ((row_of p t l).typ ≡ t)
unfolding row_of
row_found p t [] = λ n. absurd (n refl)
row_found p t (r ∷ l) =
    pick_ind (λ (x : Row). x.order ≢ 0 → (x.parent ≡ p) × (x.typ ≡ t)) (hit p t r) _ _
    (λ e _. let b = and_both (eqb r.parent p) (eqb r.typ t) e in (eqb-true r.parent p b.0, eqb-true r.typ t b.1))
    (λ _. row_found p t l)

-- what holds where an element is put nowhere, and where it is put in the order of its row, after the last one and with a length that
-- fits, holds after any element
pub judged_met : (P : Next → Type 0) (p : ℕ) (said : Verdict) (last t n : ℕ) → ((m : Verdict) → P (next m last 0))
    → (last < (row_of p t table).order → fits (row_of p t table).rule n ≡ true
    → P (next (said_with said (row_of p t table).says) (row_of p t table).order (row_of p t table).order))
    → P (judged p said last t n)
unfolding judged known
judged_met P p said last t n nowhere later =
    let r : Row = row_of p t table in
    pick_ind P (is_malformed said) _ _ (λ _. nowhere Verdict.Malformed)
    (λ _. pick_ind P (eqb r.order 0) _ _ (λ _. nowhere (said_with said (other p t last)))
    (λ _. pick_ind P (leb r.order last) _ _ (λ _. nowhere Verdict.Malformed)
    (λ e. pick_ind P (fits r.rule n) _ _ (λ f. later (leb-false r.order last e) f) (λ _. nowhere Verdict.Malformed))))

-- a value has a length that fits the rule of order o in parent p
pub record Fitting (p o : ℕ) (v : List ℕ) : Type 0 where
  pub typ : ℕ
  pub order : (row_of p typ table).order ≡ o
  pub fit : fits (row_of p typ table).rule (length v) ≡ true

-- so does a field of that order, if it is there
abbrev pub Fit : ℕ → ℕ → Field → Type 0
Fit p o absent = Unit {0}
Fit p o (here v k) = Fitting p o v

-- what holds of each field holds of each with one replaced of which it holds
set_each : (P : ℕ → Field → Type 0) (l : List Field) (d : ℕ) (x : Field) → P d x → ((o : ℕ) → P o (get_or l o absent))
    → (o : ℕ) → P o (get_or (set l d x) o absent)
set_each P [] d x h each o = each o
set_each P (y ∷ l) zero x h each zero = h
set_each P (y ∷ l) zero x h each (suc o) = each (suc o)
set_each P (y ∷ l) (suc d) x h each zero = each 0
set_each P (y ∷ l) (suc d) x h each (suc o) = set_each (λ i. P (suc i)) l d x h (λ i. each (suc i)) o

-- absent fields fit
none_fits : (p n o q : ℕ) → Fit p q (get_or (replicate n absent) o absent)
none_fits p zero o q = tt
none_fits p (suc n) zero q = tt
none_fits p (suc n) (suc o) q = none_fits p n o q

-- each field of a walk has a length that fits the rule of its order; those of order 0 are skipped
pub walked_fits : (p : ℕ) (l : List ℕ) (o : ℕ) → 1 ≤ o → Fit p o (get_or (walked p l).vals o absent)
unfolding met no_fields broken_fields
walked_fits p l o =
    rw (← walked_from_lem p l)
    (walked_ind (λ (f : Fields) (r : List ℕ). (o : ℕ) → 1 ≤ o → Fit p o (get_or f.vals o absent)) p (λ o _. none_fits p 11 o o)
    (λ f l t v r e h.
    set_each (λ (o : ℕ) (x : Field). 1 ≤ o → Fit p o x) f.vals _ (here v (length r))
    (judged_met (λ (d : Next). 1 ≤ d.order → Fitting p d.order v) p f.said f.last t (length v) (λ m a. absurd (omega arith))
    (λ _ a _. record { typ = t; order = refl; fit = a }))
    h)
    l no_fields (λ o _. none_fits p 11 o o) o)

-- the number of a rule
abbrev number_of : Rule → ℕ
number_of Rule.Any = 0
number_of Rule.Empty = 1
number_of Rule.One = 2
number_of Rule.Four = 3
number_of Rule.Whole = 4

-- the rule of a number
rule_of : ℕ → Rule
rule_of n = pick (eqb n 0) Rule.Any (pick (eqb n 1) Rule.Empty (pick (eqb n 2) Rule.One (pick (eqb n 3) Rule.Four Rule.Whole)))

-- a rule is that of its number
rule_back : (u : Rule) → rule_of (number_of u) ≡ u
unfolding rule_of pick
rule_back Rule.Any = refl
rule_back Rule.Empty = refl
rule_back Rule.One = refl
rule_back Rule.Four = refl
rule_back Rule.Whole = refl

-- whether two rules are one
abbrev same_rule : Rule → Rule → Bool
same_rule a b = eqb (number_of a) (number_of b)

-- two rules with one number are one
same_rule_lem : (a b : Rule) → same_rule a b ≡ true → a ≡ b
same_rule_lem a b e = sym (rule_back a) ∙ ap rule_of (eqb-true (number_of a) (number_of b) e) ∙ rule_back b

-- whether a row of order o in parent p has the rule u
unfoldable pub ruled : ℕ → ℕ → Rule → Row → Bool
ruled p o u r = pick (eqb r.order o && eqb r.parent p) (same_rule r.rule u) true

-- where that is the rule of each such row, a value of that order has a length that fits it
pub fitting_rule : (p o : ℕ) (u : Rule) (v : List ℕ) → each_row (ruled p o u) table ≡ true → 1 ≤ o → Fitting p o v → fits u (length v) ≡ true
unfolding ruled pick
fitting_rule p o u v each h f =
    let r : Row = row_of p f.typ table in
    let none-ruled : ruled p o u none ≡ true = rw (ne_eqb 0 o (λ z. omega arith)) in
    let q : ruled p o u r ≡ true = row_each (ruled p o u) p f.typ table none-ruled each in
    let b : r.parent ≡ p = (row_found p f.typ table (λ z. omega (arith, f.order))).0 in
    let e : same_rule r.rule u ≡ true = rw (eq-eqb r.order o f.order, eq-eqb r.parent p b) at q in
    rw (same_rule_lem r.rule u e) at f.fit
