-- Document 01, "Reading packets": the bare Interest or Data, over a list of bytes.
-- Assumes nothing.
use Rattle.std.specs.Prelude.{ℕ, Bool, List, length, ltb, eqb, None, Option, Some}
use Rattle.laws.specs.Pick.{pick}
use Rattle.wire.specs.Element.{element, onward}
use Rattle.wire.specs.Verdict.{is_malformed, is_unsupported}
use Rattle.sizes.specs.Sizes.{most_components, most_name, most_lifetime, usual_lifetime, most_freshness}
use Rattle.answers.specs.declared.Answer.{Answer}
use Rattle.names.specs.declared.component.Counted.{Counted}
use Rattle.names.specs.Name.{counted}
use Rattle.grammar.specs.Types as types
use Rattle.grammar.specs.Orders as order
use Rattle.grammar.specs.Table.{table, row_of}
use Rattle.grammar.specs.Walk.{Field, absent, here, Fields, walked}
use Rattle.packethead.specs.Header.{val, bytes_in, missing, whole_number}

-- what a bare packet is: a refusal; an Interest's elements; a Data's elements and those of its MetaInfo; or a Nack's reason and Interest
pub data Reading : Type 0 where
  refused : Answer → Reading
  asks : Fields → Reading
  brings : Fields → Fields → Reading
  nacks : ℕ → Fields → Reading

-- the Interest itself, or the Nack that brought it
unfoldable pub asked_by : Option ℕ → Fields → Reading
asked_by None f = asks f
asked_by (Some n) f = nacks n f

-- "Name at most 16 components and 255 bytes"
unfoldable pub sized : List ℕ → ℕ → Reading → Reading
sized name n r = pick (ltb most_name (length name)) (refused Answer.TooLong) (pick (ltb most_components n) (refused Answer.TooLong) r)

-- an Interest whose elements are there, by what its name says: "one component or more"; 6 in the header, in the Interest or in the
-- name; then the name's size
unfoldable pub named_interest : Option ℕ → Bool → Fields → Counted → Reading
named_interest k m f c =
    pick (is_malformed c.said) (refused Answer.Malformed)
    (pick (eqb c.count 0) (refused Answer.Malformed)
    (pick m (refused Answer.Unsupported)
    (pick (is_unsupported f.said) (refused Answer.Unsupported)
    (pick (is_unsupported c.said) (refused Answer.Unsupported) (sized (bytes_in (val f order.name)) c.count (asked_by k f))))))

-- an Interest by its elements: Name and Nonce are required
unfoldable pub interest_read : Option ℕ → Bool → Fields → Reading
interest_read k m f =
    pick (is_malformed f.said) (refused Answer.Malformed)
    (pick (missing (val f order.name)) (refused Answer.Malformed)
    (pick (missing (val f order.nonce)) (refused Answer.Malformed) (named_interest k m f (counted (bytes_in (val f order.name))))))

-- a Data whose elements are there, by what its name says
unfoldable pub named_data : Bool → Fields → Fields → Counted → Reading
named_data m f g c =
    pick (is_malformed c.said) (refused Answer.Malformed)
    (pick m (refused Answer.Unsupported)
    (pick (is_unsupported c.said) (refused Answer.Unsupported) (sized (bytes_in (val f order.name)) c.count (brings f g))))

-- a Data by its elements and those of its MetaInfo: "Name and the last two are required"
unfoldable pub data_read : Bool → Fields → Fields → Reading
data_read m f g =
    pick (is_malformed f.said) (refused Answer.Malformed)
    (pick (missing (val f order.name)) (refused Answer.Malformed)
    (pick (missing (val f order.signature_info)) (refused Answer.Malformed)
    (pick (missing (val f order.signature_value)) (refused Answer.Malformed)
    (pick (is_malformed g.said) (refused Answer.Malformed) (named_data m f g (counted (bytes_in (val f order.name))))))))

-- a Data's value; without MetaInfo, nothing is found in it
unfoldable pub data_value : Bool → List ℕ → Reading
data_value m v = data_read m (walked types.dat v) (walked types.meta_info (bytes_in (val (walked types.dat v) order.meta_info)))

-- "with Nack an Interest; else 5"
unfoldable pub data_unless : Option ℕ → Reading → Reading
data_unless None r = r
data_unless (Some n) r = refused Answer.Malformed

-- the one element of a bare packet, of type t and value v: an Interest or a Data
unfoldable pub kind_read : Option ℕ → Bool → ℕ → List ℕ → Reading
kind_read k m t v =
    pick (eqb (row_of types.fragment t table).order order.interest) (interest_read k m (walked types.interest v))
    (pick (eqb (row_of types.fragment t table).order order.dat) (data_unless k (data_value m v)) (refused Answer.Malformed))

-- a bare packet, with the Nack that it came with and whether its header has an element that is 6
unfoldable pub bare_read : Option ℕ → Bool → List ℕ → Reading
unfolding pick onward table row_of walked counted whole_number asked_by sized named_interest interest_read named_data data_read data_value data_unless
    kind_read
bare_read k m l =
    onward (element l) (refused Answer.Malformed) (λ t v r. pick (ltb 0 (length r)) (refused Answer.Malformed) (kind_read k m t v))

-- a number above the limit counts as the limit
unfoldable pub capped : ℕ → ℕ → ℕ
capped m n = pick (ltb m n) m n

-- "An InterestLifetime above 60,000 counts as 60,000, absent as 4,000."
unfoldable pub lifetime_of : Field → ℕ
lifetime_of absent = usual_lifetime
lifetime_of (here v k) = capped most_lifetime (whole_number v)

-- "A FreshnessPeriod above 86,400,000 counts as that, absent as 0."
unfoldable pub freshness_of : Field → ℕ
freshness_of x = capped most_freshness (whole_number (bytes_in x))
