-- An answer as code passes it on: the error is the answer itself and no 0, and only the answer 0 is passed on as none.
-- Assumes nothing.
use Rattle.std.specs.Option.{unwrap_or}
use Rattle.std.specs.Result.{result_err}
use Rattle.std.specs.Prelude.{ℕ, ◌≡◌, refl, ◌≢◌, Bool, true, false, Result, Ok, Err, IsErrAnd, eqb}
use Rattle.std.proofs.Common.{sym, ap, ◌∙◌, arith, eqb-true, eq-eqb}
use Rattle.std.proofs.Math.Bool.{true≢false}
use Rattle.std.proofs.lemmas.Result.{err_from_is_err_and}
use Rattle.answers.specs.declared.Answer.{Answer}
use Rattle.answers.specs.Number.{number_of}
use Rattle.answers.specs.Laws.Number.{number_distinct}
use Rattle.laws.specs.Pick.{pick}
use Rattle.event.specs.Places.Begins.{allowed, answer_of}

-- a choice that refuses is by a test that does not hold, and refuses with its answer
picked_err : (t : Bool) (a b : Answer) → pick {A = Result (Unit {0}) Answer} t (Ok tt) (Err a) ≡ Err b → (b ≡ a) × (t ≡ false)
unfolding pick
picked_err true a b h = let z : ◌≡◌ {A = ℕ} 0 1 = cc in absurd (omega (arith, z))
picked_err false a b h = (cc, refl)

-- a choice that allows is by a test that holds
picked_ok : (t : Bool) (a : Answer) (u : Unit {0}) → pick {A = Result (Unit {0}) Answer} t (Ok tt) (Err a) ≡ Ok u → t ≡ true
unfolding pick
picked_ok true a u h = refl
picked_ok false a u h = let z : ◌≡◌ {A = ℕ} 0 1 = cc in absurd (omega (arith, z))

-- the error is the answer
pub allowed_err : (a b : Answer) → allowed a ≡ Err b → b ≡ a
unfolding allowed
allowed_err a b h = (picked_err (eqb (number_of a) 0) a b h).0

-- its number is not 0
pub allowed_refuses : (a b : Answer) → allowed a ≡ Err b → number_of a ≢ 0
unfolding allowed
allowed_refuses a b h z = true≢false (sym (eq-eqb (number_of a) 0 z) ∙ (picked_err (eqb (number_of a) 0) a b h).1)

-- what is allowed has the number 0
pub allowed_zero : (a : Answer) (u : Unit {0}) → allowed a ≡ Ok u → number_of a ≡ 0
unfolding allowed
allowed_zero a u h = eqb-true (number_of a) 0 (picked_ok (eqb (number_of a) 0) a u h)

-- so it is done
pub allowed_done : (a : Answer) (u : Unit {0}) → allowed a ≡ Ok u → a ≡ Answer.Done
allowed_done a u h = number_distinct a Answer.Done (allowed_zero a u h)

-- where the error is passed on, as by `?`, the result is the answer
pub allowed_passes : {T : Type 0} (r : Result T Answer) (a b : Answer) → IsErrAnd r (λ e. e ≡ b) → allowed a ≡ Err b → r ≡ Err a
allowed_passes r a b h e =
    let p = err_from_is_err_and r h in
    p.1 ∙ ap (λ (y : Answer). Err y) (p.2 ∙ allowed_err a b e)

-- the answer that code takes of such a result: its error, or else `Done`
pub answer_by : (r : Result (Unit {0}) Answer) (a : Answer) → a ≡ unwrap_or (result_err r) Answer.Done → a ≡ answer_of r
unfolding answer_of
answer_by (Ok u) a e = e
answer_by (Err b) a e = e
