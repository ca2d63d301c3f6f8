-- What one element says, and the walk over all elements of a parent, over a list of bytes.
-- Assumes nothing.
use Rattle.std.specs.Prelude.{ℕ, List, [], ◌∷◌, length, set, replicate, leb, eqb}
use Rattle.laws.specs.Pick.{pick}
use Rattle.wire.specs.declared.verdict.Verdict.{Verdict}
use Rattle.wire.specs.Verdict.{is_malformed}
use Rattle.wire.specs.Element.{Split, elements, ended}
use Rattle.grammar.specs.declared.Row.{Row}
use Rattle.grammar.specs.declared.Next.{Next}
use Rattle.grammar.specs.Table.{table, row_of, fits, other}

-- what is said after an element, the order of the last known one, and the element's own order, 0 where it has no place
abbrev pub next : Verdict → ℕ → ℕ → Next
next v o k = record { said = v; last = o; order = k }

-- what was said, with what one more element says
unfoldable pub said_with : Verdict → Verdict → Verdict
said_with said Verdict.Fine = said
said_with said Verdict.Malformed = Verdict.Malformed
said_with said Verdict.Unsupported = Verdict.Unsupported

-- an element of a row: "repeated or out of order is 5", and so is a length that does not fit
unfoldable pub known : Verdict → ℕ → ℕ → Row → Next
known said last n r =
    pick (leb r.order last) (next Verdict.Malformed last 0)
    (pick (fits r.rule n) (next (said_with said r.says) r.order r.order) (next Verdict.Malformed last 0))

-- one more element of a parent p, of type t and a value of n bytes: once 5 is said it stays, and 6 stays unless 5 follows
unfoldable pub judged : ℕ → Verdict → ℕ → ℕ → ℕ → Next
judged p said last t n =
    pick (is_malformed said) (next Verdict.Malformed last 0)
    (pick (eqb (row_of p t table).order 0) (next (said_with said (other p t last)) last 0) (known said last n (row_of p t table)))

-- an element of a parent: its type, its value, and how many bytes of the parent follow it
pub record Item : Type 0 where
  pub typ : ℕ
  pub value : List ℕ
  pub left : ℕ

abbrev pub item : ℕ → List ℕ → List ℕ → Item
item t v r = record { typ = t; value = v; left = length r }

-- a known element's value, and how many bytes of the parent follow it: that tells where it stands, so that a HopLimit can be lowered in
-- its place and the reader can answer with places
pub data Field : Type 0 where
  absent : Field
  here : List ℕ → ℕ → Field

-- what the elements of a parent said; the order of the last known one; and their values, by order (0 takes those that are skipped)
pub record Fields : Type 0 where
  pub said : Verdict
  pub last : ℕ
  pub vals : List Field

-- no element yet
unfoldable pub no_fields : Fields
no_fields = record { said = Verdict.Fine; last = 0; vals = replicate 11 absent }

-- the parent's bytes are not elements to the last one
unfoldable pub broken_fields : Fields
broken_fields = record { said = Verdict.Malformed; last = 0; vals = replicate 11 absent }

-- a value in its place
abbrev pub put : Fields → Item → Next → Fields
put f i d = record { said = d.said; last = d.last; vals = set f.vals d.order (here i.value i.left) }

-- one more element
unfoldable pub met : ℕ → Fields → Item → Fields
met p f i = put f i (judged p f.said f.last i.typ (length i.value))

-- elements one after the other
unfoldable pub met_all : ℕ → Fields → List Item → Fields
met_all p f [] = f
met_all p f (i ∷ is) = met_all p (met p f i) is

-- what the elements of a parent say, from f on
unfoldable pub walked_from : ℕ → Fields → Split Item → Fields
walked_from p f e = pick (ended e) (met_all p f e.items) broken_fields

-- what the elements of a parent say, whose value is l
unfoldable pub walked : ℕ → List ℕ → Fields
unfolding pick table row_of fits other said_with known judged met met_all walked_from no_fields broken_fields ended elements
walked p l = walked_from p no_fields (elements item l)
