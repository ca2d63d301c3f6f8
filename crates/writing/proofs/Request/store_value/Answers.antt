-- The value is its four parts, one after the other.
use Rattle.writing.specs.Laws.Stored.{room_first, room_then, stored_then}
use Rattle.writing.specs.Written.{request_value}
use Rattle.writing.proofs.Request.store_value.Goals as goal

pub store_element-first-requires : goal.store_element-first-requires
unfolding request_value
store_element-first-requires c = room_first _ _ c.requires

pub store_flag-second-requires : goal.store_flag-second-requires
unfolding request_value
store_flag-second-requires c = room_first _ _ (room_then _ _ c.store_element-first.ensures c.requires)

pub store_flag-third-requires : goal.store_flag-third-requires
unfolding request_value
store_flag-third-requires c =
    let room = room_then _ _ c.store_element-first.ensures c.requires in
    room_first _ _ (room_then _ _ c.store_flag-second.ensures room)

pub store_nonce-requires : goal.store_nonce-requires
unfolding request_value
store_nonce-requires c =
    let room = room_then _ _ c.store_element-first.ensures c.requires in
    room_then _ _ c.store_flag-third.ensures (room_then _ _ c.store_flag-second.ensures room)

pub returns : goal.returns
unfolding request_value
returns c =
    let flags = stored_then _ _ c.store_flag-second.ensures (stored_then _ _ c.store_flag-third.ensures c.store_nonce.ensures) in
    stored_then _ _ c.store_element-first.ensures flags
