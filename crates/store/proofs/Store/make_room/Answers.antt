-- What gives way was made the most recent, and the most recent counts no more.
use Rattle.std.proofs.Common.{arith, sym, ◌∙◌, ◌≡◌, ◌-◌}
use Rattle.laws.specs.Laws.Tab.{without_out}
use Rattle.store.specs.declared.Store.{Store}
use Rattle.store.specs.Places.View.{view, view_length, view_count, count_all, place_is}
use Rattle.store.specs.Laws.Put.{recent_count, recent_gone}
use Rattle.store.proofs.Store.make_room.Goals as goal

pub overflow_sub-self : goal.overflow_sub-self
overflow_sub-self c =
    let s : Store = record c.args.self.now { count = c.len-self.result } in
    let t = rw place_is at c.touch.ensures.touched in
    omega (arith, c.in-Some.ensures.0, recent_count s c.touch.new.self c.in-Some.at c.in-Some.ensures.0 t c.touch.ensures.counted)

pub returns-in-Some-clause-gone : goal.returns-in-Some-clause-gone
returns-in-Some-clause-gone c =
    let s : Store = record c.args.self.now { count = c.len-self.result } in
    let v : view s ≡ view c.args.self.now = view_count c.args.self.now.packets c.args.self.now.rows _ _ (omega arith) in
    let t = rw place_is at c.touch.ensures.touched in
    recent_gone s c.touch.new.self c.in-Some.at c.in-Some.ensures.0 t c.touch.ensures.counted
    ∙ rw (c.in-Some.ensures.1, v)

pub returns-in-Some-clause-room : goal.returns-in-Some-clause-room
returns-in-Some-clause-room c =
    let s : Store = record c.args.self.now { count = c.len-self.result } in
    let t = rw place_is at c.touch.ensures.touched in
    let n = recent_count s c.touch.new.self c.in-Some.at c.in-Some.ensures.0 t c.touch.ensures.counted in
    omega (arith, n, c.in-Some.ensures.0, view_length s, view_length (record c.touch.new.self { count = c.touch.new.self.count - 1 }))

pub returns-in-Some-clause-counted : goal.returns-in-Some-clause-counted
returns-in-Some-clause-counted c =
    let s : Store = record c.args.self.now { count = c.len-self.result } in
    let t = rw place_is at c.touch.ensures.touched in
    let n = recent_count s c.touch.new.self c.in-Some.at c.in-Some.ensures.0 t c.touch.ensures.counted in
    count_all _ (omega (arith, n, view_length s))

pub returns-in_default-clause-gone : goal.returns-in_default-clause-gone
returns-in_default-clause-gone c =
    let s : Store = record c.args.self.now { count = c.len-self.result } in
    let v : view s ≡ view c.args.self.now = view_count c.args.self.now.packets c.args.self.now.rows _ _ (omega arith) in
    let e = rw v at c.in_default.ensures in
    v ∙ sym (without_out _ _ (omega (arith, e.1)))

pub returns-in_default-clause-counted : goal.returns-in_default-clause-counted
returns-in_default-clause-counted c = count_all _ (omega arith)
