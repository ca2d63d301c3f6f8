-- Bytes that are too long change nothing. Else the row after those that are left is written.
use Rattle.std.proofs.Common.{rules, arith, ◌≡◌, length}
use Rattle.sizes.specs.Sizes.{most_stored}
use Rattle.store.specs.Places.View.{count_all, count_is}
use Rattle.store.specs.Laws.Put.{put_long, put_short}
use Rattle.store.proofs.Store.put.Goals as goal

pub returns-then-bytes-gt-PACKET-clause-puts : goal.returns-then-bytes-gt-PACKET-clause-puts
returns-then-bytes-gt-PACKET-clause-puts c =
    let a = c.args in
    put_long a.bytes.now a.time a.freshness a.self.now c.len-self.result c.len-self.ensures (omega arith)

pub returns-then-bytes-gt-PACKET-clause-counted : goal.returns-then-bytes-gt-PACKET-clause-counted
returns-then-bytes-gt-PACKET-clause-counted c = count_all _ (omega arith)

pub offset_bounds-self-self : goal.offset_bounds-self-self
offset_bounds-self-self c = omega (arith, c.make_room.ensures.room, c.make_room.ensures.counted, count_is c.make_room.new.self)

pub bounds-self-self : goal.bounds-self-self
bounds-self-self c = omega (arith, c.make_room.ensures.room, c.make_room.ensures.counted, count_is c.make_room.new.self)

pub offset_bounds-self-self-2 : goal.offset_bounds-self-self-2
offset_bounds-self-self-2 c = omega (arith, c.make_room.ensures.room, c.make_room.ensures.counted, count_is c.make_room.new.self)

pub bounds-self-self-2 : goal.bounds-self-self-2
bounds-self-self-2 c = omega (arith, c.make_room.ensures.room, c.make_room.ensures.counted, count_is c.make_room.new.self)

pub overflow_add-self : goal.overflow_add-self
overflow_add-self c = omega (arith, c.make_room.ensures.room, c.make_room.ensures.counted, count_is c.make_room.new.self)

pub returns-clause-puts : goal.returns-clause-puts
returns-clause-puts c =
    let a = c.args in
    let e = c.make_room.ensures in
    let s = c.make_room.new.self in
    let l : length s.packets ≡ most_stored = search rules in
    let n : length s.rows ≡ most_stored = search rules in
    put_short a.bytes.now a.time a.freshness a.self.now s.packets s.rows s.count _ _ (omega arith)
    (omega (arith, e.room, e.counted, count_is s)) l n (rw c.find_name.ensures at e.gone) c.fill.ensures

pub returns-clause-counted : goal.returns-clause-counted
returns-clause-counted c =
    count_all _ (omega (arith, c.make_room.ensures.room, c.make_room.ensures.counted, count_is c.make_room.new.self))
