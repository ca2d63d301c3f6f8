-- A memory whose tables count nothing is that of an empty node.
use mathlib.Core.Path.{◌∙◌, ap}
use Rattle.faces.specs.Places.View.{view}
use Rattle.pending_table.specs.Places.View as entries
use Rattle.pending_table.specs.Places.Parts.{table}
use Rattle.event.specs.declared.Small.{Small}
use Rattle.event.specs.Laws.Begins.{clear_node}
use Rattle.event.proofs.Small.none.Goals as goal

pub returns : goal.returns
returns c =
    λ m e.
    let p = m.pending in
    clear_node m (ap (λ (s : Small). s.time) e)
    (ap (λ (s : Small). view s.faces) e ∙ c.none.ensures)
    (c.none-2.ensures.no_routes m.routes (ap (λ (s : Small). s.routes) e))
    (ap (λ (s : Small). entries.view (table p.names p.heads p.recs p.numbers s.pending)) e
    ∙ c.none-3.ensures p.names p.heads p.recs p.numbers)
    (c.none-4.ensures.no_data m.store (ap (λ (s : Small). s.store) e))
    (c.none-5.ensures.no_lines m.dead (ap (λ (s : Small). s.dead) e))
