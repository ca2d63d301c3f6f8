-- The uses with the new entry counted are those of the entries with it.
use native.Mathlib.Omega.{arith}
use Rattle.std.specs.Prelude.{[]}
use Rattle.sizes.specs.Sizes.{most_faces}
use Rattle.pending_table.specs.Laws.Room.{uses_most, counting_all, room_more}
use Rattle.pending_table.proofs.has_room.Goals as goal

pub counted-requires : goal.counted-requires
counted-requires c =
    let a = c.args in
    rw (c.use_by_class.ensures [] [] []) (uses_most most_faces [] a.heads.now [] [] (record { used = a.used }))

pub room_taken-requires : goal.room_taken-requires
room_taken-requires c =
    let a = c.args in
    rw (c.counted.ensures, counting_all, c.use_by_class.ensures [] [] [])
    (omega (arith, uses_most most_faces [] a.heads.now [] [] (record { used = a.used })))

pub returns : goal.returns
returns c = λ n r k. rw (c.room_taken.ensures, c.counted.ensures, c.use_by_class.ensures n r k, room_more)
