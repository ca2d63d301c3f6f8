-- Names over the bytes of a Name's value: components, equality, prefix and scope.
-- Assumes nothing.
use Rattle.std.specs.Prelude.{ℕ, Bool, true, false, ◌&&◌, List, [], ◌∷◌, length, take, ◌==◌, nat_lt}
use Rattle.laws.specs.Lists.{any_of}
use Rattle.laws.specs.Pick.{pick}
use Rattle.wire.specs.declared.verdict.Verdict.{Verdict}
use Rattle.wire.specs.Element.{element, onward, Split, elements, ended}
use Rattle.names.specs.declared.component.Counted.{Counted}

-- a component: its type and its value
pub record Component : Type 0 where
  pub typ : ℕ
  pub value : List ℕ

-- of an element of a Name, type and value are kept
abbrev pub component : ℕ → List ℕ → List ℕ → Component
component t v r = record { typ = t; value = v }

-- the components that a Name's value begins with, and what is left after them
unfoldable pub components : List ℕ → Split Component
unfolding elements
components l = elements component l

-- "Component types are 1 to 65,535"
unfoldable pub too_high : Component → Bool
too_high c = nat_lt 65535 c.typ

-- "types 1 and 2 are 6"
unfoldable pub marked : Component → Bool
marked c = nat_lt c.typ 3

-- what a Name's bytes say, and how many components they are
abbrev pub counts : Verdict → ℕ → Counted
counts v n = record { said = v; count = n }

-- malformed, with no component, where the bytes are not components to the last one or a type is too high; else unsupported where a type
-- is marked
unfoldable pub judged : Split Component → Counted
judged p =
    pick (ended p)
    (pick (any_of too_high p.items) (counts Verdict.Malformed 0)
    (counts (pick (any_of marked p.items) Verdict.Unsupported Verdict.Fine) (length p.items)))
    (counts Verdict.Malformed 0)

-- what a Name's value says
unfoldable pub counted : List ℕ → Counted
unfolding pick any_of too_high marked judged components ended
counted l = judged (components l)

-- whether two lists are the same bytes
unfoldable pub same_bytes : List ℕ → List ℕ → Bool
same_bytes [] [] = true
same_bytes [] (b ∷ l) = false
same_bytes (a ∷ k) [] = false
same_bytes (a ∷ k) (b ∷ l) = a == b && same_bytes k l

-- whether a is what b begins with
unfoldable pub prefix_of : List ℕ → List ℕ → Bool
unfolding same_bytes
prefix_of a b = same_bytes a (take (length a) b)

-- "whole first components of type 8": whether the first component is the word
unfoldable pub first_is : List ℕ → List ℕ → Bool
unfolding onward same_bytes
first_is w l = onward (element l) false (λ t v r. (t == 8) && same_bytes v w)

-- the bytes of "localhost"
abbrev pub localhost : List ℕ
localhost = 108 ∷ 111 ∷ 99 ∷ 97 ∷ 108 ∷ 104 ∷ 111 ∷ 115 ∷ 116 ∷ []

-- the bytes of "localhop"
abbrev pub localhop : List ℕ
localhop = 108 ∷ 111 ∷ 99 ∷ 97 ∷ 108 ∷ 104 ∷ 111 ∷ 112 ∷ []

-- whether a name stands under /localhost
unfoldable pub under_localhost : List ℕ → Bool
unfolding first_is
under_localhost l = first_is localhost l

-- whether a name stands under /localhop
unfoldable pub under_localhop : List ℕ → Bool
unfolding first_is
under_localhop l = first_is localhop l
