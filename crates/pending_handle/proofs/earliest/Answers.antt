-- What the row says is said of the entry, whatever its name.
use Rattle.faces.specs.Found.{face_in}
use Rattle.pending_table.specs.Laws.Parts.{seen_tells, part_none_says}
use Rattle.records.specs.Entry.{earliest_of}
use Rattle.pending_handle.proofs.earliest.Goals as goal

pub returns-in-Some : goal.returns-in-Some
returns-in-Some c = seen_tells c.args.t c.args.h c.row_of.ensures.row c.in-Some.is _ _ c.earliest.ensures

pub returns-in-None : goal.returns-in-None
unfolding face_in
returns-in-None c = part_none_says (c.args.t.names.now) (c.args.t.heads.now) (c.args.t.recs.now) (c.args.t.numbers.now)
    (c.args.t.used) c.args.h c.row_of.ensures.row c.in-None.is _ (earliest_of _)
