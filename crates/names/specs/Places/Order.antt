-- Document 01, "Data, store, Nack": "canonical order (component type, length, bytes; a prefix first)".
-- Assumes nothing.
use Rattle.std.specs.Prelude.{ℕ, List, [], take, drop}
use Rattle.wire.specs.declared.read.Element.{Element}
use Rattle.names.specs.Name.{Component, component}

-- the component that stands at a place of a name
abbrev pub component_at : List ℕ → Element → Component
component_at s e = component e.typ (take e.len (drop e.at s)) []
