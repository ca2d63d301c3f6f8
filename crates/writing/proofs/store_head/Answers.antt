-- There is room, so that `put_head` finds it.
use Rattle.writing.specs.Laws.Stored.{put_stored}
use Rattle.writing.proofs.store_head.Goals as goal

pub returns : goal.returns
returns c = put_stored _ _ _ _ c.put_head.ensures c.unwrap_or.ensures c.requires
