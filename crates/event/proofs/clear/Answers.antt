-- Each table is cleared, whatever its rows hold.
use mathlib.Core.Path.{refl}
use Rattle.event.specs.Laws.Begins.{clear_node}
use Rattle.event.proofs.clear.Goals as goal

pub returns : goal.returns
returns c = record {
  cleared = clear_node _ refl c.none-m.ensures c.clear.ensures.no_routes c.clear-2.ensures.empty c.clear-3.ensures.no_data
      c.clear-4.ensures.no_lines;
  rows = record {
    routes = c.clear.ensures.rows;
    pending = c.clear-2.ensures.rows;
    store = c.clear-3.ensures.rows;
    dead = c.clear-4.ensures.lines;
  };
}
