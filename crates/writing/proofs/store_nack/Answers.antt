-- The head, the element Nack and the Fragment are the LpPacket.
use Rattle.writing.specs.Written.{nack_value}
use Rattle.writing.specs.Laws.Size.{nack_is}
use Rattle.writing.specs.Laws.Stored.{room_head, room_value, room_first, room_then, stored_element, stored_then}
use Rattle.writing.proofs.store_nack.Goals as goal

pub store_head-from-requires : goal.store_head-from-requires
store_head-from-requires c = room_head 0x64 _ _ c.nack_len.ensures (rw nack_is at c.requires)

pub store_cause-fragment-requires : goal.store_cause-fragment-requires
unfolding nack_value
store_cause-fragment-requires c =
    room_first _ _ (room_value 0x64 _ _ c.nack_len.ensures c.store_head-from.ensures (rw nack_is at c.requires))

pub store_fragment-requires : goal.store_fragment-requires
unfolding nack_value
store_fragment-requires c =
    room_then _ _ c.store_cause-fragment.ensures
    (room_value 0x64 _ _ c.nack_len.ensures c.store_head-from.ensures (rw nack_is at c.requires))

pub returns : goal.returns
unfolding nack_value
returns c =
    let value = stored_then _ _ c.store_cause-fragment.ensures c.store_fragment.ensures in
    rw nack_is (stored_element 0x64 _ _ c.nack_len.ensures c.store_head-from.ensures value)
