-- The newest time is the largest of those of the faces.
use borrow.Author.Rules.{rules}
use borrow.Author.Tests.{tests}
use Rattle.std.proofs.lemmas.Iterator.{YieldsList-from_map}
use Rattle.std.proofs.lemmas.Iterator.Consumers.{YieldsList-at, max_from_yields_List}
use Rattle.faces.specs.Laws.Gives.{walk_lists}
use Rattle.pending_entry.specs.Places.View.{sent_at}
use Rattle.pending_records.specs.Places.Walk.{time_of}
use Rattle.pending_records.specs.Laws.Newest.{newest_all}
use Rattle.pending_records.proofs.newest_time.Goals as goal

pub returns : goal.returns
unfolding sent_at
returns c =
    let held = YieldsList-at c.map.ensures.source (walk_lists (sent_at c.args.recs.now) c.of.result) in
    let top =
    max_from_yields_List c.map.result c.max.result c.max.ensures.ran
    (YieldsList-from_map _ time_of held c.map.ensures.closure (λ f r q k. search (rules, tests))) in
    rw (← c.of.ensures) (newest_all c.max.result _ top)
