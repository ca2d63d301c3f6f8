-- `store_element` meets its contract: the head and then the value are the element.
use mathlib.Core.Path.{refl}
use Rattle.writing.specs.Laws.Stored.{room_head, room_value, stored_element}
use Rattle.writing.proofs.store_element.Goals as goal

pub store_head-from-requires : goal.store_head-from-requires
store_head-from-requires c = room_head _ _ _ refl c.requires

pub store_bytes-requires : goal.store_bytes-requires
store_bytes-requires c = room_value _ _ _ refl c.store_head-from.ensures c.requires

pub returns : goal.returns
returns c = stored_element _ _ _ refl c.store_head-from.ensures c.store_bytes.ensures
