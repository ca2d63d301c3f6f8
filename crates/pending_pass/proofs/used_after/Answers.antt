-- Each return is one law over what the calls before it ensure: the entry is buried and taken out, or it stays. A handle that has an entry
-- has a place among them, and a handle that has none has not.
use mathlib.Core.Path.{sym, ◌∙◌}
use Rattle.std.proofs.Common.{ltb-true, lt-ltb}
use Rattle.std.proofs.Math.Option.{none-ne-some}
use Rattle.std.proofs.Math.Bool.{true≢false}
use Rattle.names.specs.Fingerprint.{fingerprint}
use Rattle.records.specs.Laws.Place.{place_some, place_lt}
use Rattle.pending_pass.specs.Laws.Turn.{leaves_not, leaves_out}
use Rattle.pending_pass.proofs.used_after.Goals as goal

pub returns-then-not-is_there-clause-leaves : goal.returns-then-not-is_there-clause-leaves
returns-then-not-is_there-clause-leaves c =
    let t = c.args.t in
    λ e p. absurd (true≢false (sym (lt-ltb _ _ (place_lt _ _ e p))
    ∙ sym (c.is_there.ensures t.names.now t.heads.now t.recs.now t.numbers.now) ∙ c.if-not-is_there.true))

pub returns-then-not-is_idle-clause-leaves : goal.returns-then-not-is_idle-clause-leaves
returns-then-not-is_idle-clause-leaves c =
    let a = c.args in
    λ e p. leaves_not (fingerprint a.start) a.time _ _ _ _ e p _ c.is_idle.ensures c.if-not-is_idle.true

pub returns-clause-leaves : goal.returns-clause-leaves
returns-clause-leaves c =
    let a = c.args in
    let t = a.t in
    let out = c.take_out.ensures t.names.now t.heads.now t.recs.now t.numbers.now in
    λ e p.
    leaves_out (fingerprint a.start) a.time _ _ _ _ e p _ c.is_idle.ensures c.if-not-is_idle.false
    _ c.bury.ensures _ out.left _ out.chosen

pub returns-clause-absent : goal.returns-clause-absent
returns-clause-absent c =
    let t = c.args.t in
    let there = place_some _ _
    (ltb-true _ _ (sym (c.is_there.ensures t.names.now t.heads.now t.recs.now t.numbers.now) ∙ c.if-not-is_there.false)) in
    λ q. absurd (none-ne-some there.0 (sym q ∙ there.1))
