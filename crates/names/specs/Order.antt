-- Document 01, "Data, store, Nack": "canonical order (component type, length, bytes; a prefix first)".
-- Assumes nothing.
use Rattle.std.specs.declared.cmp.Ordering.{Ordering}
use Rattle.std.specs.Prelude.{ℕ, List, [], ◌∷◌, length, nat_lt}
use Rattle.laws.specs.Pick.{pick}
use Rattle.names.specs.Name.{Component, components}

-- the smaller number first, and by o where they are equal
unfoldable pub by_number : ℕ → ℕ → Ordering → Ordering
by_number a b o = pick (nat_lt a b) Ordering.Less (pick (nat_lt b a) Ordering.Greater o)

-- bytes in order, a beginning before what it begins
unfoldable pub lexical : List ℕ → List ℕ → Ordering
lexical [] [] = Ordering.Equal
lexical [] (b ∷ l) = Ordering.Less
lexical (a ∷ k) [] = Ordering.Greater
lexical (a ∷ k) (b ∷ l) = by_number a b (lexical k l)

-- "component type, length, bytes"
unfoldable pub component_order : Component → Component → Ordering
unfolding by_number lexical
component_order c d =
    by_number c.typ d.typ (by_number (length c.value) (length d.value) (lexical c.value d.value))

-- the first order, and the second where that says the same
unfoldable pub and_then : Ordering → Ordering → Ordering
and_then Ordering.Less o = Ordering.Less
and_then Ordering.Equal o = o
and_then Ordering.Greater o = Ordering.Greater

-- components in order, "a prefix first"
unfoldable pub canonical : List Component → List Component → Ordering
canonical [] [] = Ordering.Equal
canonical [] (d ∷ ds) = Ordering.Less
canonical (c ∷ cs) [] = Ordering.Greater
canonical (c ∷ cs) (d ∷ ds) = and_then (component_order c d) (canonical cs ds)

-- two names in canonical order, by the components that each begins with
unfoldable pub canonical_order : List ℕ → List ℕ → Ordering
unfolding components component_order and_then canonical
canonical_order a b = canonical (components a).items (components b).items
