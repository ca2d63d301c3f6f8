-- Which face is refused where an event about routes begins.
-- Assumes nothing.
use Rattle.std.specs.Prelude.{ℕ, ◌≡◌, Bool, false, not, List}
use Rattle.std.proofs.Math.Path.{refl, sym}
use Rattle.std.proofs.Common.{◌∙◌}
use Rattle.sizes.specs.Sizes.{most_faces}
use Rattle.records.specs.Face.{is_open}
use Rattle.rules.specs.Node.{set_route, drop_route, add_hop, drop_hop, face_in, opens_face}
use Rattle.rules.specs.Step.{bad_face}
use Rattle.event.specs.declared.Memory.{Memory}
use Rattle.event.specs.Memory.{node_of}
use Rattle.event.specs.Laws.Faces.{bad_none, bad_named}

module _ (m : Memory) where
  -- a route that is dropped names no face
  pub drop_bad : (p : List ℕ) → false ≡ bad_face most_faces (node_of m) (drop_route p)
  unfolding face_in
  drop_bad p = sym (bad_none m (drop_route p) refl)

  -- nor one that is set
  pub set_bad : (c : ℕ) (p : List ℕ) → false ≡ bad_face most_faces (node_of m) (set_route c p)
  unfolding face_in
  set_bad c p = sym (bad_none m (set_route c p) refl)

  module _ (f : ℕ) (b : Bool) (e : b ≡ not (is_open (node_of m).faces f)) where
    -- adding a hop is refused where the face is not open
    pub add_bad : (cost : ℕ) (p : List ℕ) → b ≡ bad_face most_faces (node_of m) (add_hop f cost p)
    unfolding face_in opens_face
    add_bad cost p = e ∙ sym (bad_named m (add_hop f cost p) f refl refl)

    -- so is dropping one
    pub hop_bad : (p : List ℕ) → b ≡ bad_face most_faces (node_of m) (drop_hop f p)
    unfolding face_in opens_face
    hop_bad p = e ∙ sym (bad_named m (drop_hop f p) f refl refl)
