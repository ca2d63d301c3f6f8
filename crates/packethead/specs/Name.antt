-- The Name of a packet by itself, without the rest of it.
-- Assumes nothing.
use Rattle.std.specs.Prelude.{ℕ, List, [], ◌∷◌, eqb}
use Rattle.laws.specs.Pick.{pick}
use Rattle.wire.specs.Element.{element, elements, onward}
use Rattle.grammar.specs.Walk.{Item, item}
use Rattle.packethead.specs.Header.{Came, refused, bare, header_read}

-- the value of the first Name, or nothing
unfoldable pub first_name : List Item → List ℕ
first_name [] = []
first_name (i ∷ is) = pick (eqb i.typ 0x07) i.value (first_name is)

-- the first Name among the elements of a packet's value
unfoldable pub name_in : List ℕ → List ℕ
name_in v = first_name (elements item v).items

-- the Name's value in a bare packet
unfoldable pub name_of : List ℕ → List ℕ
unfolding pick onward elements first_name name_in
name_of l = onward (element l) [] (λ t v r. name_in v)

-- the bytes of the bare packet that came; none where its header is refused
unfoldable pub bare_of : Came → List ℕ
bare_of (refused a) = []
bare_of (bare b) = b.bytes

-- the Name's value in a packet as it came
unfoldable pub name_came : List ℕ → List ℕ
name_came l = name_of (bare_of (header_read l))
