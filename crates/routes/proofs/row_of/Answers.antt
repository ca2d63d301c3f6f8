-- The row of a place before the last is what its route means; past the last there is none.
use native.Mathlib.Omega.{arith}
use Rattle.std.proofs.Common.{rules, length, ◌≡◌, take, min}
use Rattle.std.specs.Slice.{IsItemAt}
use Rattle.sizes.specs.Sizes.{most_routes}
use Rattle.routes.specs.Places.Parts.{table}
use Rattle.routes.proofs.Found.{row_found}
use Rattle.routes.proofs.row_of.Goals as goal

pub returns : goal.returns
returns c =
    let a = c.args in
    let k = c.cut.ensures in
    let n : length a.rows.now ≡ most_routes = search rules in
    let i : IsItemAt (take (min a.count.count most_routes) a.rows.now) a.route.at c.get.result = search rules in
    λ p q. row_found (table p a.rows.now q a.count) a.route c.get.result (omega arith) i
