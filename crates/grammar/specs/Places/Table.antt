-- Where the look-up in the table begins, and what it answers.
-- Assumes nothing.
use Rattle.std.specs.Prelude.{ℕ, eqb, Option, None, Some}
use Rattle.laws.specs.Pick.{pick}
use Rattle.grammar.specs.declared.Row.{Row}
use Rattle.grammar.specs.Types as types

-- a row from which on all rows of a parent stand
unfoldable pub start : ℕ → ℕ
start p =
    pick (eqb p types.interest) 3
    (pick (eqb p types.dat) 13
    (pick (eqb p types.meta_info) 18 (pick (eqb p types.fragment) 21 (pick (eqb p types.lp_packet) 23 (pick (eqb p types.nack) 25 0)))))

-- the row that a look-up found; none where its order is 0, that of a type which is not known
unfoldable pub known_row : Row → Option Row
known_row r = pick (eqb r.order 0) None (Some r)
