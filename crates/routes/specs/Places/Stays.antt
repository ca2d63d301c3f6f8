-- What clearing leaves as it was of a table: its prefixes, rows and costs.
-- Assumes nothing.
use Rattle.std.specs.Prelude.{◌≡◌}
use Rattle.routes.specs.declared.Routes.{Routes}

-- the prefixes, rows and costs stay
pub record RowsStay (r s : Routes) : Type 0 where
  pub prefixes : s.prefixes ≡ r.prefixes
  pub rows : s.rows ≡ r.rows
  pub costs : s.costs ≡ r.costs
