-- The head and then the value are the Interest.
use Rattle.writing.specs.Laws.Stored.{room_head, room_value, stored_element}
use Rattle.writing.specs.Written.{request_bytes}
use Rattle.writing.proofs.Request.store.Goals as goal

pub store_head-from-requires : goal.store_head-from-requires
unfolding request_bytes
store_head-from-requires c = room_head 0x05 _ _ c.value_len.ensures c.requires

pub store_value-requires : goal.store_value-requires
unfolding request_bytes
store_value-requires c = room_value 0x05 _ _ c.value_len.ensures c.store_head-from.ensures c.requires

pub returns : goal.returns
unfolding request_bytes
returns c = stored_element 0x05 _ _ c.value_len.ensures c.store_head-from.ensures c.store_value.ensures
