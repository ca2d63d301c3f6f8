-- A handle stands for a Data where its place is before the last.
use Rattle.std.proofs.Common.{sym}
use Rattle.store.specs.Places.View.{place_is, view_there}
use Rattle.store.proofs.Store.is_there.Goals as goal

pub returns : goal.returns
returns c = rw (c.len.ensures, place_is) (sym (view_there c.args.self.now c.args.taken.at))
