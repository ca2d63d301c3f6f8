-- "under /localhost from a non-local face", as the code asks it.
-- Assumes nothing.
use Rattle.std.specs.Prelude.{ℕ, ◌≡◌, refl, Bool, true, false, not, List}
use Rattle.std.proofs.Math.Path.{sym}
use Rattle.std.proofs.Common.{◌∙◌}
use Rattle.std.proofs.Math.Option.{Option}
use Rattle.names.specs.Name.{under_localhost}
use Rattle.records.specs.Face.{Face, is_local_face}
use Rattle.rules.specs.Node.{Node}
use Rattle.rules.specs.Interest.{out_of_scope}

module _ (n : Node) (fs : List (Option Face)) (f : ℕ) (name : List ℕ) (u : Bool) (e : n.faces ≡ fs) (a : u ≡ under_localhost name) where
  -- a name elsewhere is in scope
  pub scope_elsewhere : u ≡ false → u ≡ out_of_scope n f name
  unfolding out_of_scope
  scope_elsewhere q = q ∙ rw (sym a ∙ q)

  module _ (l : Bool) (q : u ≡ true) (b : l ≡ is_local_face fs f) where
    -- so is one from a local face
    pub scope_local : l ≡ true → false ≡ out_of_scope n f name
    unfolding out_of_scope
    scope_local r = rw (sym a ∙ q, e, sym b ∙ r)

    -- from another it is not
    pub scope_other : l ≡ false → true ≡ out_of_scope n f name
    unfolding out_of_scope
    scope_other r = rw (sym a ∙ q, e, sym b ∙ r)

  -- so that a name under /localhost is out of scope where the face is not local
  pub scope_asked : (l : Bool) → u ≡ true → l ≡ is_local_face fs f → not l ≡ out_of_scope n f name
  scope_asked true q b = scope_local true q b refl
  scope_asked false q b = scope_other false q b refl
