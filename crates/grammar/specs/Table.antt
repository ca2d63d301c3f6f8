-- Document 01, "Reading packets": which types are known, in which parent, in which order and with which length; and what a type that
-- is not known says.
-- Assumes nothing.
use Rattle.std.specs.Prelude.{ℕ, ◌%◌, Bool, true, ◌&&◌, ◌||◌, List, [], ◌∷◌, leb, eqb}
use Rattle.laws.specs.Pick.{pick}
use Rattle.wire.specs.Number.{is_whole}
use Rattle.wire.specs.declared.verdict.Verdict.{Verdict}
use Rattle.grammar.specs.declared.Row.{Row}
use Rattle.grammar.specs.declared.Rule.{Rule}
use Rattle.grammar.specs.Types as types
use Rattle.grammar.specs.Orders as order

-- a row of the table: an element's type, the parent that it stands in, its order there, the rule of its length, and what it says
abbrev pub row : ℕ → ℕ → ℕ → Rule → Verdict → Row
row t p o u v = record { typ = t; parent = p; order = o; rule = u; says = v }

-- the parent of a packet as it came; the other parents are elements, by their types
abbrev pub outer : ℕ
outer = 0

-- type, parent, order, rule of length, and whether a packet that holds it is fine or unsupported
unfoldable pub table : List Row
table =
    row types.interest outer order.interest Rule.Any Verdict.Fine
    ∷ row types.dat outer order.dat Rule.Any Verdict.Fine
    ∷ row types.lp_packet outer order.lp_packet Rule.Any Verdict.Fine
    ∷ row 0x07 types.interest order.name Rule.Any Verdict.Fine
    ∷ row 0x21 types.interest order.can_be_prefix Rule.Empty Verdict.Fine
    ∷ row 0x12 types.interest order.must_be_fresh Rule.Empty Verdict.Fine
    -- ForwardingHint
    ∷ row 0x1E types.interest 4 Rule.Any Verdict.Unsupported
    ∷ row 0x0A types.interest order.nonce Rule.Four Verdict.Fine
    ∷ row 0x0C types.interest order.lifetime Rule.Whole Verdict.Fine
    ∷ row 0x22 types.interest order.hop_limit Rule.One Verdict.Fine
    -- ApplicationParameters, InterestSignatureInfo, InterestSignatureValue
    ∷ row 0x24 types.interest 8 Rule.Any Verdict.Unsupported
    ∷ row 0x2C types.interest 9 Rule.Any Verdict.Unsupported
    ∷ row 0x2E types.interest 10 Rule.Any Verdict.Unsupported
    ∷ row 0x07 types.dat order.name Rule.Any Verdict.Fine
    ∷ row types.meta_info types.dat order.meta_info Rule.Any Verdict.Fine
    -- Content
    ∷ row 0x15 types.dat 3 Rule.Any Verdict.Fine
    ∷ row 0x16 types.dat order.signature_info Rule.Any Verdict.Fine
    ∷ row 0x17 types.dat order.signature_value Rule.Any Verdict.Fine
    -- ContentType
    ∷ row 0x18 types.meta_info 1 Rule.Any Verdict.Fine
    ∷ row 0x19 types.meta_info order.freshness Rule.Whole Verdict.Fine
    -- FinalBlockId
    ∷ row 0x1A types.meta_info 3 Rule.Any Verdict.Fine
    ∷ row types.interest types.fragment order.interest Rule.Any Verdict.Fine
    ∷ row types.dat types.fragment order.dat Rule.Any Verdict.Fine
    ∷ row types.nack types.lp_packet order.nack Rule.Any Verdict.Fine
    ∷ row types.fragment types.lp_packet order.fragment Rule.Any Verdict.Fine
    ∷ row 0x0321 types.nack order.nack_reason Rule.Whole Verdict.Fine
    ∷ []

-- the row of a type that is not known
abbrev pub none : Row
none = row 0 outer 0 Rule.Any Verdict.Fine

-- whether a row is that of a type in a parent
abbrev pub hit : ℕ → ℕ → Row → Bool
hit p t r = eqb r.parent p && eqb r.typ t

-- the row of a type in a parent, or none, whose order is 0
unfoldable pub row_of : ℕ → ℕ → List Row → Row
row_of p t [] = none
row_of p t (r ∷ rs) = pick (hit p t r) r (row_of p t rs)

-- whether a value's length fits a rule
unfoldable pub fits : Rule → ℕ → Bool
fits Rule.Any n = true
fits Rule.Empty n = eqb n 0
fits Rule.One n = eqb n 1
fits Rule.Four n = eqb n 4
fits Rule.Whole n = is_whole n

-- "A type that is at most 31 or odd is critical"
unfoldable pub critical : ℕ → Bool
critical t = leb t 31 || eqb (t % 2) 1

-- "Types 800 to 959 divisible by 4 are otherwise skipped"
unfoldable pub skipped_lp : ℕ → Bool
skipped_lp t = leb 800 t && leb t 959 && eqb (t % 4) 0

-- what a type that is not known in its parent says: fine where it is skipped. In a Nack it is 5, "skippable or not". In an LpPacket
-- "anything after the Fragment is 5", and before it "any other type, critical or not, .. is 6". Elsewhere "unknown and critical is 5,
-- unknown and not critical is skipped"
unfoldable pub other : ℕ → ℕ → ℕ → Verdict
other p t last =
    pick (eqb p types.nack) Verdict.Malformed
    (pick (eqb p types.lp_packet) (pick (eqb last order.fragment) Verdict.Malformed (pick (skipped_lp t) Verdict.Fine Verdict.Unsupported))
    (pick (critical t) Verdict.Malformed Verdict.Fine))
