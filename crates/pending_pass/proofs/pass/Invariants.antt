-- The loop's invariant is `Passing`, with the handle at the first mark: one law for the start, one for a turn, one for the end.
use Prim.Native.Nat.{ℕ}
use mathlib.Core.List.{List, []}
use mathlib.Core.Path.{◌≡◌}
use Rattle.dead.specs.Places.View as dead
use Rattle.pending_table.specs.Places.View.{view, place_of, marks_of}
use Rattle.pending_table.specs.Places.Parts.{table}
use Rattle.pending_table.specs.declared.Pending.{Pending}
use Rattle.pending_pass.specs.Places.Pass.{Work, Passing}
use Rattle.pending_pass.specs.Places.Turns.{Turns}
use Rattle.pending_pass.specs.Laws.Pass.{first_mark, mark_count}
use Rattle.pending_pass.proofs.pass.Given as goal

-- a table of these numbers and used rows: a handle's place and the marks of a choice depend on no more of it
abbrev ordered : List ℕ → ℕ → Pending
ordered k u = table [] [] [] k u

abbrev pub invariant-loop-left : goal.invariant-loop-left
invariant-loop-left g l =
    let k = l.fn.numbers in
    (place_of (ordered k l.used) l.h ≡ first_mark (marks_of (ordered k l.used) l.left))
    × ((w : Work) (n : List (List ℕ)) (hs : g.row.S.Denot → List (List ℕ)) (r : List (List (List ℕ)))
    → Turns (goal.F-post g l.fn.turn) (λ x u. table n (hs x) r k u) w
    → Passing w (marks_of (table n (hs l.initial.s) r k l.initial.used) l.initial.left)
    (view (table n (hs l.initial.s) r k l.initial.used)) (dead.view l.initial.nonces) l.initial.rows l.initial.noted
    (marks_of (table n (hs l.s) r k l.used) l.left) (view (table n (hs l.s) r k l.used)) (dead.view l.nonces) l.rows l.noted)

abbrev pub decreases-loop-left : goal.decreases-loop-left
decreases-loop-left g l = mark_count (marks_of (ordered l.fn.numbers l.used) l.left)
