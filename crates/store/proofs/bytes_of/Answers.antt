-- A place below the number of Data has its Data; any other has none.
use Rattle.std.proofs.Common.{arith, rules, sym, ◌≡◌, ◌<◌, length, min, get_or, length-take, ltb-true, ltb-false}
use Rattle.std.proofs.lemmas.List.{get_or-take, get_or_default}
use Rattle.sizes.specs.Sizes.{most_stored}
use Rattle.records.specs.Slots.{given}
use Rattle.store.specs.declared.Store.{Store}
use Rattle.store.specs.Places.Parts.{table}
use Rattle.store.specs.Places.View.{no_row, stored_at, place_is, view_at, view_past}
use Rattle.store.proofs.bytes_of.Goals as goal

pub returns-in-Some-clause-bytes : goal.returns-in-Some-clause-bytes
unfolding given stored_at
returns-in-Some-clause-bytes c =
    let s : Store = table c.args.packets.now c.args.rows.now c.args.count in
    let i = c.args.taken.at in
    let n : length c.args.rows.now ≡ most_stored = search rules in
    let k = rw (c.counted.ensures, length-take (min s.count most_stored) s.rows, n) at c.in-Some.ensures.lookup.0 in
    let l : i < min s.count most_stored = omega (arith, ltb-true _ _ (sym k)) in
    let r : c.in-Some.row.now ≡ get_or s.rows i no_row =
    rw (c.counted.ensures, get_or-take (min s.count most_stored) s.rows i _ l, get_or_default s.rows i _ no_row (omega arith)) at
    c.in-Some.ensures.lookup.1 in
    rw (place_is, view_at s i l, ← r) c.bytes.ensures.bytes

pub returns-in-None-clause-bytes : goal.returns-in-None-clause-bytes
unfolding given
returns-in-None-clause-bytes c =
    let s : Store = table c.args.packets.now c.args.rows.now c.args.count in
    let i = c.args.taken.at in
    let n : length c.args.rows.now ≡ most_stored = search rules in
    let k = rw (c.counted.ensures, length-take (min s.count most_stored) s.rows, n) at c.in-None.ensures.lookup.0 in
    rw (place_is, view_past s i (omega (arith, ltb-false _ _ (sym k))))
