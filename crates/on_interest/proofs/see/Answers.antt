-- By the entry that was found.
use mathlib.Core.Path.{◌∙◌}
use Rattle.ways.specs.Laws.Own.{loops_own}
use Rattle.on_interest.specs.Laws.Sought.{met_by}
use Rattle.on_interest.proofs.see.Goals as goal

pub returns : goal.returns
returns c =
    let p = c.args.p in
    record {
      looping = λ n a x q d y w z v. loops_own _ _ _ _ _ _ _ _ _ c.loops-looped.ensures n a x q d y w z
          ((c.find-handle.ensures p.recs.now).at ∙ v);
      met = rw c.then_some.ensures (met_by _ _ _ _ _ (c.find-handle.ensures p.recs.now).at (c.is_there.ensures p.names.now p.heads.now
          p.recs.now p.numbers.now));
    }
