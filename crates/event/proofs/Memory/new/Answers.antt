-- Each table is empty.
use mathlib.Core.Path.{refl}
use Rattle.event.specs.Laws.Begins.{clear_node}
use Rattle.event.proofs.Memory.new.Goals as goal

pub returns : goal.returns
returns c = clear_node _ refl c.none.ensures c.new.ensures.no_routes c.new-2.ensures c.new-3.ensures.no_data c.new-4.ensures.no_lines
