-- `store_cause` meets its contract: the head and then the NackReason are the Nack.
use Rattle.writing.specs.Laws.Stored.{room_head, room_value, stored_element}
use Rattle.writing.proofs.store_cause.Goals as goal

pub store_head-from-requires : goal.store_head-from-requires
store_head-from-requires c = room_head 0x0320 _ _ c.reason_len.ensures c.requires

pub store_reason-requires : goal.store_reason-requires
store_reason-requires c = room_value 0x0320 _ _ c.reason_len.ensures c.store_head-from.ensures c.requires

pub returns : goal.returns
returns c = stored_element 0x0320 _ _ c.reason_len.ensures c.store_head-from.ensures c.store_reason.ensures
