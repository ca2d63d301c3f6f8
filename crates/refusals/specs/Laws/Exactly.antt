-- Document 01, "Answer numbers": each answer is given exactly when its check applies and no check before it in the order does; 0 where none
-- applies.
-- Assumes nothing.
use Rattle.std.specs.Prelude.{ℕ, suc, ◌<◌, ◌≡◌, refl, ◌↔◌, ◌⊎◌, Bool, true, List, [], ◌∷◌, get_or, ltb, eqb}
use Rattle.std.proofs.Common.{sym, ◌∙◌, ap, ltb-true, ltb-false, eqb-true, arith}
use Rattle.std.proofs.Math.Logic.{inl, inr, ⊎_elim}
use Rattle.std.proofs.Math.Bool.{false}
use Rattle.std.proofs.Math.ListN.{get_or-eq_default}
use Rattle.std.proofs.lemmas.Bool.{eqb-false}
use Rattle.answers.specs.declared.Answer.{Answer}
use Rattle.laws.specs.Pick.{pick}
use Rattle.laws.specs.Laws.Pick.{pick_yes, pick_no}
use Rattle.rules.specs.Node.{Node, Event}
use Rattle.rules.specs.Step.{step}
use Rattle.refusals.specs.Refusals.{Check, Clock, SmallBuffer, BadFace, FaceOpen, PacketSize, Malformed, Unsupported, NameSize, BadSetting, HopLimit, Scope, Loop, NoRoute, NoRoom, Unsolicited, StaleNack, TableFull, place, answer_of, Applies, Decides, Given}
use Rattle.refusals.specs.Laws.Tells.{not_both}
use Rattle.refusals.specs.Laws.Tests.{test, tells}
use Rattle.refusals.specs.Laws.Answers.{order, first_answer, step_answer}

-- ---- the order

-- each check stands in the order at its place
at_place : (c : Check) → get_or order (place c) Clock ≡ c
unfolding order
at_place Clock = refl
at_place SmallBuffer = refl
at_place BadFace = refl
at_place FaceOpen = refl
at_place PacketSize = refl
at_place Malformed = refl
at_place Unsupported = refl
at_place NameSize = refl
at_place BadSetting = refl
at_place HopLimit = refl
at_place Scope = refl
at_place Loop = refl
at_place NoRoute = refl
at_place NoRoom = refl
at_place Unsolicited = refl
at_place StaleNack = refl
at_place TableFull = refl

-- no two checks have one place
pub place_distinct : (c d : Check) → place c ≡ place d → c ≡ d
place_distinct c d e = sym (at_place c) ∙ ap (λ (k : ℕ). get_or order k Clock) e ∙ at_place d

-- there are 17 places
place_below : (c : Check) → place c < 17
unfolding order
place_below c = go (ltb (place c) 17) refl
  where
    go : (b : Bool) → ltb (place c) 17 ≡ b → place c < 17
    go true e = ltb-true (place c) 17 e
    go false e =
        let q : c ≡ Clock = sym (at_place c) ∙ get_or-eq_default order Clock (ltb-false (place c) 17 e) in
        absurd (omega (arith, ap place q, ltb-false (place c) 17 e))

-- checks one after the other from a place to the last
abbrev Run : ℕ → List Check → Type 0
Run k [] = k ≡ 17
Run k (c ∷ cs) = (place c ≡ k) × Run (suc k) cs

-- the order is such
order_runs : Run 0 order
unfolding order
order_runs =
    (refl, (refl, (refl, (refl, (refl, (refl, (refl, (refl, (refl, (refl, (refl, (refl, (refl, (refl, (refl, (refl, (refl, refl)))))))))))))))))

-- no check before a place
abbrev Early : (Check → Bool) → ℕ → Type 0
Early t k = (d : Check) → place d < k → t d ≡ false

-- an answer is that of a check whose test holds and none before it does, or it is 0 and no test holds
Chosen : (Check → Bool) → Answer → Type 0
Chosen t a = ((c : Check) × (t c ≡ true) × Early t (place c) × (a ≡ answer_of c)) ⊎ (((d : Check) → t d ≡ false) × (a ≡ Answer.Done))

-- the first answer is chosen so
first_chosen : (t : Check → Bool) (k : ℕ) (cs : List Check) → Run k cs → Early t k → Chosen t (first_answer t cs)
unfolding Chosen first_answer
first_chosen t k [] r h = inr (λ d. h d (omega (arith, place_below d)), refl)
first_chosen t k (c ∷ cs) r h = go (t c) refl (λ h'. first_chosen t (suc k) cs r.1 h')
  where
    beside : (d : Check) → t c ≡ false → place d < suc k → (b : Bool) → eqb (place d) (place c) ≡ b → t d ≡ false
    beside d e p true q = let s : d ≡ c = place_distinct d c (eqb-true (place d) (place c) q) in rw s e
    beside d e p false q = h d (omega (arith, eqb-false (place d) (place c) q, r.0))

    later : t c ≡ false → Early t (suc k)
    later e d p = beside d e p (eqb (place d) (place c)) refl

    go : (b : Bool) → t c ≡ b → (Early t (suc k) → Chosen t (first_answer t cs)) → Chosen t (pick (t c) (answer_of c) (first_answer t cs))
    go true e ih = inl (c, e, λ d p. h d (omega arith), pick_yes (t c) _ _ e)
    go false e ih = rw (pick_no (t c) (answer_of c) (first_answer t cs) e) (ih (later e))

-- ---- the theorem

module _ (faces least : ℕ) (e : Event) (n : Node) where
  -- a check decides and its answer is given, or no check applies and 0 is given
  decided : ((c : Check) × Decides faces least e n c × ((step faces least e n).answer ≡ answer_of c))
      ⊎ (((d : Check) → ¬ Applies faces least e n d) × ((step faces least e n).answer ≡ Answer.Done))
  unfolding Chosen
  decided =
      let s = step_answer faces least e n in
      ⊎_elim (λ x. inl (x.0, record { applies = (tells faces least e n x.0).0 x.1; earlier = λ d p. never d (x.2 d p) }, s ∙ x.3))
      (λ x. inr (λ d. never d (x.0 d), s ∙ x.1))
      (first_chosen (test faces least e n) 0 order order_runs (λ d p. absurd (omega arith)))
    where
      never : (d : Check) → test faces least e n d ≡ false → ¬ Applies faces least e n d
      never d q x = not_both (sym q ∙ (tells faces least e n d).1 x)

  -- no two checks decide one event
  decides_one : (c d : Check) → Decides faces least e n c → Decides faces least e n d → c ≡ d
  decides_one c d x y = go (ltb (place c) (place d)) refl (ltb (place d) (place c)) refl
    where
      go : (b : Bool) → ltb (place c) (place d) ≡ b → (b' : Bool) → ltb (place d) (place c) ≡ b' → c ≡ d
      go true p b' q = absurd (y.earlier c (ltb-true (place c) (place d) p) x.applies)
      go false p true q = absurd (x.earlier d (ltb-true (place d) (place c) q) y.applies)
      go false p false q = place_distinct c d (omega (arith, ltb-false (place c) (place d) p, ltb-false (place d) (place c) q))

  -- a check that decides gives its answer
  pub decides_answer : (c : Check) → Decides faces least e n c → (step faces least e n).answer ≡ answer_of c
  decides_answer c x =
      ⊎_elim (λ y. y.2 ∙ ap answer_of (decides_one y.0 c y.1 x)) (λ y. absurd (y.0 c x.applies)) decided

  -- where no check applies, 0 is given
  none_answer : ((d : Check) → ¬ Applies faces least e n d) → (step faces least e n).answer ≡ Answer.Done
  none_answer h = ⊎_elim (λ x. absurd (h x.0 x.1.applies)) (λ x. x.1) decided

  -- Document 01, "Answer numbers": each answer is given exactly when
  pub exactly : (a : Answer) → ((step faces least e n).answer ≡ a) ↔ Given faces least e n a
  exactly a = (
    λ q. ⊎_elim (λ x. inl (x.0, sym x.2 ∙ q, x.1)) (λ x. inr (sym q ∙ x.1, x.0)) decided,
    ⊎_elim (λ x. decides_answer x.0 x.2 ∙ x.1) (λ x. none_answer x.1 ∙ sym x.0),
  )

  -- every event is answered: some row of the table applies
  pub given_some : (a : Answer) × Given faces least e n a
  given_some = ((step faces least e n).answer, (exactly (step faces least e n).answer).0 refl)

  -- and by one answer: no two rows apply together
  pub given_one : (a b : Answer) → Given faces least e n a → Given faces least e n b → a ≡ b
  given_one a b x y = sym ((exactly a).1 x) ∙ (exactly b).1 y
