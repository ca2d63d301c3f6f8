-- What is asked again, HopLimit and scope, as the code asks them.
-- Assumes nothing.
use Rattle.std.specs.Prelude.{ℕ, ◌≡◌, Bool, List, ◌≢◌, length, eqb, Result, Ok, Err, IsErrAnd}
use Rattle.std.proofs.Math.Path.{refl, sym, ap}
use Rattle.std.proofs.Common.{◌∙◌, arith, eqb-true, eq-eqb, ne_eqb}
use Rattle.std.proofs.Math.Bool.{true, false}
use Rattle.std.proofs.lemmas.Bool.{eqb-false}
use Rattle.answers.specs.declared.Answer.{Answer}
use Rattle.answers.specs.Number.{number_of}
use Rattle.laws.specs.Pick.{pick}
use Rattle.laws.specs.Laws.Pick.{pick_yes, pick_no}
use Rattle.packethead.specs.Name.{name_of}
use Rattle.packets.specs.declared.bare.Interest.{Interest}
use Rattle.faces.specs.Places.View as faces
use Rattle.rules.specs.Node.{Node}
use Rattle.rules.specs.Outcome.{Outcome, quiet}
use Rattle.rules.specs.Interest.{hop_is_zero, out_of_scope, interest_step}
use Rattle.event.specs.declared.Came.{Came}
use Rattle.event.specs.declared.Memory.{Memory}
use Rattle.event.specs.Memory.{Output, node_of}
use Rattle.event.specs.Places.Begins.{allowed}
use Rattle.event.specs.Laws.Allowed.{allowed_err, allowed_refuses, allowed_zero, allowed_passes}
use Rattle.coming.specs.Goes.{Goes, guard_says, guarded}
use Rattle.coming.specs.Places.Found.{limit_of, ask_found, arrival_found}
use Rattle.coming.specs.Places.Guarded.{Guarded}
use Rattle.coming.specs.Laws.Guard.{guard_stops, guard_goes, guard_holds}
use Rattle.coming.specs.Laws.Goes.{goes_by, goes_quiet}
use Rattle.opening.specs.Places.Asked.{came}
use Rattle.on_interest.specs.Places.Sought.{checked, sought}

-- the answer for HopLimit 0 refuses
refuses_zero : ◌≡◌ {A = Result (Unit {0}) Answer} (Err Answer.HopLimit) (allowed Answer.HopLimit)
unfolding allowed pick
refuses_zero = refl

-- the answer for scope refuses
refuses_scope : ◌≡◌ {A = Result (Unit {0}) Answer} (Err Answer.Scope) (allowed Answer.Scope)
unfolding allowed pick
refuses_scope = refl

-- the answer `Done` allows
allows_done : ◌≡◌ {A = Result (Unit {0}) Answer} (Ok tt) (allowed Answer.Done)
unfolding allowed pick
allows_done = refl

-- the answer of the two checks
abbrev two_say : Bool → Bool → Answer
two_say z s = pick z Answer.HopLimit (pick s Answer.Scope Answer.Done)

module _ (g : Answer) (z s : Bool) (r : Result (Unit {0}) Answer) (er : r ≡ allowed g) where
  -- an answer that refuses stands, passed on as by `?`
  pub check_stops : (q : Result (Unit {0}) Answer) (y : Answer) → r ≡ Err y → IsErrAnd q (λ a. a ≡ y) → q ≡ allowed (checked g z s)
  unfolding checked
  check_stops q y d h =
      let e : allowed g ≡ Err y = sym er ∙ d in
      allowed_passes q g y h e ∙ ap (λ (a : Answer). Err a) (sym (allowed_err g y e)) ∙ sym e
      ∙ ap allowed (sym (pick_no _ _ _ (ne_eqb (number_of g) 0 (allowed_refuses g y e))))

  module _ (u : Unit {0}) (d : r ≡ Ok u) where
    -- else the two checks say it
    check_past : checked g z s ≡ two_say z s
    unfolding checked
    check_past = pick_yes _ _ _ (eq-eqb (number_of g) 0 (allowed_zero g u (sym er ∙ d)))

    module _ (a : Bool) (ea : a ≡ z) where
      -- "Interest with HopLimit 0"
      pub check_zero : a ≡ true → Err Answer.HopLimit ≡ allowed (checked g z s)
      check_zero t = refuses_zero ∙ ap allowed (sym (check_past ∙ pick_yes _ _ _ (sym ea ∙ t)))

      module _ (t : a ≡ false) (b : Bool) (eb : b ≡ s) where
        -- "under /localhost from a non-local face"
        pub check_scope : b ≡ true → Err Answer.Scope ≡ allowed (checked g z s)
        check_scope v = refuses_scope ∙ ap allowed (sym (check_past ∙ pick_no _ _ _ (sym ea ∙ t) ∙ pick_yes _ _ _ (sym eb ∙ v)))

        -- else nothing is against it
        pub check_none : b ≡ false → Ok tt ≡ allowed (checked g z s)
        check_none v = allows_done ∙ ap allowed (sym (check_past ∙ pick_no _ _ _ (sym ea ∙ t) ∙ pick_no _ _ _ (sym eb ∙ v)))

-- the answer 0 of the two checks says that neither holds
two_off : (z s : Bool) → number_of (two_say z s) ≡ 0 → (z ≡ false) × (s ≡ false)
unfolding pick
two_off true s h = absurd (omega (arith, h))
two_off false true h = absurd (omega (arith, h))
two_off false false h = (refl, refl)

-- any other is the whole outcome
two_on : (n : Node) (x : Outcome) (z s : Bool) → number_of (two_say z s) ≢ 0
    → pick z (quiet Answer.HopLimit n) (pick s (quiet Answer.Scope n) x) ≡ quiet (two_say z s) n
unfolding pick
two_on n x true s h = refl
two_on n x false true h = refl
two_on n x false false h = absurd (h refl)

-- the answer 0 says that nothing is against an Interest
all_off : (g : Answer) (z s : Bool) → number_of (checked g z s) ≡ 0 → (number_of g ≡ 0) × (z ≡ false) × (s ≡ false)
unfolding checked
all_off g z s h = go (eqb (number_of g) 0) refl
  where
    go : (b : Bool) → eqb (number_of g) 0 ≡ b → (number_of g ≡ 0) × (z ≡ false) × (s ≡ false)
    go true q =
        let two = two_off z s (ap number_of (sym (pick_yes _ (two_say z s) g q)) ∙ h) in
        (eqb-true _ _ q, two.0, two.1)
    go false q = absurd (eqb-false _ _ q (ap number_of (sym (pick_no _ (two_say z s) g q)) ∙ h))

module _ (m : Memory) (k room f : ℕ) (bare name : List ℕ) (i : Interest) (own : name ≡ name_of bare) (q : Result (Unit {0}) Answer)
    (eq : (n : Node) → n.faces ≡ faces.view m.faces
    → q ≡ allowed (checked (guard_says m.time room (length bare) (length name)) (hop_is_zero (limit_of i.hop))
    (out_of_scope n f name))) where
  -- what is asked again
  abbrev g : Answer
  g = guard_says m.time room (length bare) (length name)

  -- the answer, in the node
  said : q ≡ allowed (checked g (hop_is_zero (limit_of i.hop)) (out_of_scope (node_of m) f name))
  unfolding node_of
  said = eq (node_of m) refl

  -- the whole outcome
  abbrev x : Outcome
  x = interest_step (node_of m).time (node_of m) (arrival_found f bare i)

  -- what follows the guard, by the name as it is found
  step_is : (z : Outcome) → pick (hop_is_zero (limit_of i.hop)) (quiet Answer.HopLimit (node_of m))
      (pick (out_of_scope (node_of m) f name) (quiet Answer.Scope (node_of m))
      (sought (node_of m).time (node_of m) (arrival_found f bare i)))
      ≡ z → x ≡ z
  unfolding interest_step sought arrival_found ask_found
  step_is z e = rw own at e

  -- an answer that refuses is the outcome's
  stops : (y : Answer) → y ≡ checked g (hop_is_zero (limit_of i.hop)) (out_of_scope (node_of m) f name) → number_of y ≢ 0
      → (b : Bool) → eqb (number_of g) 0 ≡ b → guarded room (length bare) (length name) (node_of m) x ≡ quiet y (node_of m)
  unfolding checked node_of
  stops y is d true t =
      let two : y ≡ two_say (hop_is_zero (limit_of i.hop)) (out_of_scope (node_of m) f name) = is ∙ pick_yes _ _ _ t in
      guard_goes (node_of m) x room (length bare) (length name) g refl (eqb-true _ _ t)
      ∙ step_is _ (two_on (node_of m) _ _ _ (λ e. d (ap number_of two ∙ e)))
      ∙ ap (λ (a : Answer). quiet a (node_of m)) (sym two)
  stops y is d false t =
      guard_stops (node_of m) x room (length bare) (length name) g refl (eqb-false _ _ t)
      ∙ ap (λ (a : Answer). quiet a (node_of m)) (sym (is ∙ pick_no _ _ _ t))

  -- such an answer is given with nothing sent
  pub checks_off : (y : Answer) (o : Output) → q ≡ Err y
      → Goes k (guarded room (length bare) (length (name_of bare)) (node_of m)
      (interest_step (node_of m).time (node_of m) (arrival_found f bare i))) (came y 0 k) (node_of m) o o
  checks_off y o d =
      let e = sym said ∙ d in
      let is = allowed_err _ y e in
      rw own at
      (goes_by k _ _ _ _ o o (stops y is (λ z. allowed_refuses _ y e (ap number_of (sym is) ∙ z)) (eqb (number_of g) 0) refl)
      (goes_quiet k y (came y 0 k) (node_of m) o refl refl refl))

  module _ (u : Unit {0}) (d : q ≡ Ok u) where
    -- nothing is against it
    off : (number_of g ≡ 0) × (hop_is_zero (limit_of i.hop) ≡ false) × (out_of_scope (node_of m) f name ≡ false)
    off = all_off g _ _ (allowed_zero _ u (sym said ∙ d))

    -- the code past the checks may rely on the sizes
    pub checks_hold : Guarded m.time room bare name
    checks_hold = guard_holds m.time room bare name own g refl off.0

    -- and it is sought
    pub checks_on : (r : Came) (n : Node) (o o' : Output) → Goes k (sought (node_of m).time (node_of m) (arrival_found f bare i)) r n o o'
        → Goes k (guarded room (length bare) (length (name_of bare)) (node_of m)
        (interest_step (node_of m).time (node_of m) (arrival_found f bare i))) r n o o'
    unfolding node_of
    checks_on r n o o' h =
        rw own at
        (goes_by k _ _ r n o o'
        (guard_goes (node_of m) x room (length bare) (length name) g refl off.0
        ∙ step_is _ (pick_no _ _ _ off.1 ∙ pick_no _ _ _ off.2))
        h)
