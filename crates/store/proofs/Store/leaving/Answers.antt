-- The place of the equal name, else the first of a full store.
use Rattle.std.proofs.Common.{arith, sym, ◌∙◌, lt-ltb, le-ltb}
use Rattle.laws.specs.Laws.Pick.{pick_yes, pick_no}
use Rattle.store.specs.Places.View.{view_length}
use Rattle.store.specs.Places.Put.{leaver}
use Rattle.store.proofs.Store.leaving.Goals as goal

pub returns-in-Some : goal.returns-in-Some
unfolding leaver
returns-in-Some c =
    let e = c.in-Some.ensures in
    (e.0, e.1 ∙ sym (pick_yes _ _ _ (lt-ltb _ _ (omega (arith, e.0, e.1, view_length c.args.self.now)))))

pub returns-in-None : goal.returns-in-None
unfolding leaver
returns-in-None c =
    let e = c.in-None.ensures in
    let l = view_length c.args.self.now in
    (omega (arith, l), pick_yes _ _ _ (lt-ltb _ _ (omega (arith, e, l))) ∙ e)

pub returns-in-None-2 : goal.returns-in-None-2
unfolding leaver
returns-in-None-2 c =
    let e = c.in-None.ensures in
    let l = view_length c.args.self.now in
    (omega (arith, l), sym (pick_no _ _ _ (le-ltb _ _ (omega (arith, e, l)))))
