-- The facts of the table, and that each order's name is that of its type.
-- Assumes nothing.
use Rattle.std.specs.Prelude.{ℕ, ◌+◌, ◌≡◌, refl, Bool, true, ◌&&◌, not, List, [], ◌∷◌, map, ltb, leb, eqb}
use Rattle.laws.specs.Pick.{pick}
use Rattle.grammar.specs.declared.Row.{Row}
use Rattle.wire.specs.Verdict.{is_malformed}
use Rattle.grammar.specs.Types as types
use Rattle.grammar.specs.Orders as order
use Rattle.grammar.specs.Table.{outer, table, row_of}

-- the facts of a row: its type is 1 to 2^32-1, and it says that a packet is fine or unsupported
unfoldable pub sound : Row → Bool
sound r = leb 1 r.typ && leb r.typ 4294967295 && not (is_malformed r.says)

-- orders run 1, 2, 3 .. within a parent, whose rows stand together: p and o are parent and order of the row before
unfoldable pub ordered : ℕ → ℕ → List Row → Bool
ordered p o [] = true
ordered p o (r ∷ rs) =
    pick (eqb r.parent p) (eqb r.order (o + 1)) (ltb p r.parent && eqb r.order 1) && ordered r.parent r.order rs

-- each type stands once in a parent
unfoldable pub once : List Row → Bool
once [] = true
once (r ∷ rs) = eqb (row_of r.parent r.typ rs).order 0 && once rs

-- every row is sound
unfoldable pub all_sound : List Row → Bool
all_sound [] = true
all_sound (r ∷ rs) = sound r && all_sound rs

-- the table's facts, as one test over the whole of it
pub facts : (all_sound table && ordered outer 0 table && once table) ≡ true
unfolding table sound all_sound ordered once row_of pick
facts = refl

-- the orders of types in a parent
abbrev orders_of : ℕ → List ℕ → List ℕ
orders_of p ts = map (λ (t : ℕ). (row_of p t table).order) ts

-- the element that has an order's name has that order
pub named :
    orders_of outer (types.interest ∷ types.dat ∷ types.lp_packet ∷ [])
    ∷ orders_of types.interest (0x07 ∷ 0x21 ∷ 0x12 ∷ 0x1E ∷ 0x0A ∷ 0x0C ∷ 0x22 ∷ 0x24 ∷ 0x2C ∷ 0x2E ∷ [])
    ∷ orders_of types.dat (0x07 ∷ types.meta_info ∷ 0x15 ∷ 0x16 ∷ 0x17 ∷ [])
    ∷ orders_of types.meta_info (0x18 ∷ 0x19 ∷ 0x1A ∷ [])
    ∷ orders_of types.fragment (types.interest ∷ types.dat ∷ [])
    ∷ orders_of types.lp_packet (types.nack ∷ types.fragment ∷ [])
    ∷ orders_of types.nack (0x0321 ∷ [])
    ∷ []
    ≡ (order.interest ∷ order.dat ∷ order.lp_packet ∷ [])
    ∷ (order.name ∷ order.can_be_prefix ∷ order.must_be_fresh ∷ 4 ∷ order.nonce ∷ order.lifetime ∷ order.hop_limit ∷ 8 ∷ 9 ∷ 10 ∷ [])
    ∷ (order.name ∷ order.meta_info ∷ 3 ∷ order.signature_info ∷ order.signature_value ∷ [])
    ∷ (1 ∷ order.freshness ∷ 3 ∷ [])
    ∷ (order.interest ∷ order.dat ∷ [])
    ∷ (order.nack ∷ order.fragment ∷ [])
    ∷ (order.nack_reason ∷ [])
    ∷ []
unfolding table row_of pick
named = refl
