-- The loop goes from the last Data to the first. Its invariant: `best` is what a lookup takes of the Data from place i on.
use Rattle.std.proofs.Common.{rules, arith, sym, ap, ◌∙◌, ◌≡◌, ◌-◌}
use Rattle.records.specs.Stored.{serves, earlier}
use Rattle.store.specs.Places.View.{stored_at}
use Rattle.store.specs.Laws.Look.{hit_out, hit_in, best_end, best_taken, best_passed, best_all}
use Rattle.store.specs.Laws.Hits.{looks_at}
use Rattle.store.specs.Places.Look.{hit_at, best_from}
use Rattle.store.proofs.Store.look.Goals as goal

pub loop-i-init : goal.loop-i-init
loop-i-init c =
    let a = c.args in
    (tt, best_end (serves a.time a.name.now a.prefix a.fresh) a.self.now c.len-i.result c.len-i.ensures ∙ sym (hit_out a.self.now))

pub loop-i-preserved-then-is_served : goal.loop-i-preserved-then-is_served
unfolding stored_at
loop-i-preserved-then-is_served c =
    let a = c.args in
    let s = a.self.now in
    let p = serves a.time a.name.now a.prefix a.fresh in (
      c.earlier_of.ensures.within,
      best_taken p s (c.loop-i.i - 1) c.loop-i.i (omega arith) (omega arith) (sym c.is_served.ensures ∙ c.if-is_served.true)
          ∙ ap (earlier _) c.loop-i.invariant.1
          ∙ sym c.earlier_of.ensures.earlier
          ∙ sym (hit_in s c.earlier_of.result),
    )

pub loop-i-preserved : goal.loop-i-preserved
unfolding stored_at
loop-i-preserved c =
    let a = c.args in
    let s = a.self.now in
    let p = serves a.time a.name.now a.prefix a.fresh in (
      c.loop-i.invariant.0,
      best_passed p s (c.loop-i.i - 1) c.loop-i.i (omega arith) (omega arith) (sym c.is_served.ensures ∙ c.if-is_served.false)
          ∙ c.loop-i.invariant.1,
    )

pub returns : goal.returns
returns c =
    let a = c.args in
    let s = a.self.now in
    let p = serves a.time a.name.now a.prefix a.fresh in
    let z : c.loop-i.i ≡ 0 = omega arith in
    let e : best_from p s 0 ≡ hit_at s c.loop-i.best = rw z at c.loop-i.invariant.1 in
    looks_at a.time a.name.now a.prefix a.fresh s _ c.loop-i.best _ (sym (best_all a.time a.name.now a.prefix a.fresh s) ∙ e)
    (λ i h k. search rules) c.map.ensures.cases
