-- By what is asked again; what goes on is what taking the Nack ensures.
use mathlib.Core.Path.{refl, sym, ap, ◌∙◌}
use mathlib.Core.List.{List}
use Prim.Native.Nat.{ℕ}
use lib.ListN.{length}
use Rattle.pending_pass.specs.Lent.{marked_table}
use Rattle.event.specs.declared.Memory.{Memory}
use Rattle.event.specs.Memory.{node_of}
use Rattle.event.specs.Laws.Allowed.{allowed_err, allowed_refuses, allowed_zero}
use Rattle.coming.specs.Goes.{guard_says}
use Rattle.coming.specs.Places.Found.{ask_found}
use Rattle.coming.specs.Laws.Guard.{guard_holds}
use Rattle.on_nack.specs.Laws.Goes.{goes_refused, goes_turns}
use Rattle.on_nack.proofs.nack.Goals as goal

pub returns-in-Err : goal.returns-in-Err
unfolding node_of
returns-in-Err c =
    let a = c.args in
    λ r s.
    let m : Memory = record { time = a.time; faces = a.faces; routes = r; pending = marked_table a.p; store = s; dead = a.nonces.now } in
    let n = node_of m in
    let e = sym c.guard.ensures ∙ c.in-Err.is in
    let y = allowed_err _ _ e in
    goes_refused _ a.made _ _ _ _ _ n _
    (y ∙ ap (λ (l : List ℕ). guard_says a.time (length a.out.now) (length a.bare.now) (length l)) c.find_name-name.ensures)
    (rw y (allowed_refuses _ _ e)) c.quiet.ensures

pub take-requires : goal.take-requires
take-requires c =
    let g = guard_holds _ _ _ _ c.find_name-name.ensures _ refl (allowed_zero _ _ (sym c.guard.ensures ∙ c.in_default.is)) in
    record { name_fits = g.short; buffer_fits = g.roomy }

pub returns : goal.returns
unfolding node_of ask_found
returns c =
    let a = c.args in
    λ r s.
    let m : Memory = record { time = a.time; faces = a.faces; routes = r; pending = marked_table a.p; store = s; dead = a.nonces.now } in
    goes_turns _ a.made _ _ _ _ _ (node_of m) _
    (ap (λ (l : List ℕ). guard_says a.time (length a.out.now) (length a.bare.now) (length l)) c.find_name-name.ensures)
    _ _ (allowed_zero _ _ (sym c.guard.ensures ∙ c.in_default.is))
    (c.take.ensures r s (ask_found a.bare.now a.i) (sym c.find_name-name.ensures) refl refl refl)
