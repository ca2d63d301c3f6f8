-- By how many entries stand after the pass: as many as before, and the Data is unsolicited; else it is stored and its copies are sent.
use mathlib.Core.Path.{refl}
use Rattle.on_data.specs.Laws.Data.{brings_none, brings_some}
use Rattle.on_data.proofs.bring.Goals as goal

pub returns-then-size-stood : goal.returns-then-size-stood
returns-then-size-stood c =
    λ r.
    brings_none _ _ _ _ _ _ _ _ _ _ _ _ _ _
    c.requires.name_is
    c.satisfy-met.ensures _ _
    (c.size.ensures _ _ _ _) (c.size-stood.ensures _ _ _ _) _ _ _ c.if-size-stood.true c.quiet.ensures

pub returns : goal.returns
returns c =
    λ r.
    brings_some _ _ _ _ _ _ _ _ _ _ _ _ _ _
    c.requires.name_is
    c.satisfy-met.ensures _ _
    (c.size.ensures _ _ _ _) (c.size-stood.ensures _ _ _ _) _ _ _ _ _ _ _ _ _
    c.if-size-stood.false
    c.is_ad_hoc-adhoc.ensures
    c.requires.packet
    c.requires.room
    c.freshness_of.ensures
    c.put.ensures.puts
    c.send_copies.ensures refl
