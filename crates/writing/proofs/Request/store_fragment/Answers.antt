-- The head and then the Interest are the Fragment.
use Rattle.writing.specs.Laws.Stored.{room_head, room_value, stored_element}
use Rattle.writing.proofs.Request.store_fragment.Goals as goal

pub store_head-from-requires : goal.store_head-from-requires
store_head-from-requires c = room_head 0x50 _ _ c.len.ensures c.requires

pub store-requires : goal.store-requires
store-requires c = room_value 0x50 _ _ c.len.ensures c.store_head-from.ensures c.requires

pub returns : goal.returns
returns c = stored_element 0x50 _ _ c.len.ensures c.store_head-from.ensures c.store.ensures
