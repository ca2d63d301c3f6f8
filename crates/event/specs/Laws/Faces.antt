-- Check 3, of the node that a memory means: which face is refused, by the kind of event.
-- Assumes nothing.
use Rattle.std.specs.Prelude.{ℕ, ◌≡◌, refl, Bool, true, false, ◌&&◌}
use Rattle.std.proofs.Common.{ap}
use Rattle.std.proofs.Math.Bool.{not}
use Rattle.std.proofs.Math.Option.{none, some}
use Rattle.sizes.specs.Sizes.{most_faces}
use Rattle.records.specs.Slots.{holds}
use Rattle.records.specs.Face.{is_face, is_open}
use Rattle.faces.specs.Set.{has_face}
use Rattle.faces.specs.Laws.View.{open_is}
use Rattle.rules.specs.Node.{What, face_in, opens_face}
use Rattle.rules.specs.Step.{bad_face}
use Rattle.event.specs.declared.Memory.{Memory}
use Rattle.event.specs.Memory.{node_of}

-- a test that holds changes nothing
and_true : (a : Bool) → a && true ≡ a
and_true true = refl
and_true false = refl

-- a test said twice is said once
and_again : (a b : Bool) → a && (a && b) ≡ a && b
and_again true b = refl
and_again false b = refl

-- in any memory an open face is a face
open_face_lem : (m : Memory) (f : ℕ) → is_face most_faces f && is_open (node_of m).faces f ≡ is_open (node_of m).faces f
unfolding node_of has_face
open_face_lem m f = rw (open_is most_faces f m.faces) (and_again (is_face most_faces f) _)

module _ (m : Memory) (w : What) where
  -- an event that names no face is not refused by check 3
  pub bad_none : face_in w ≡ none → bad_face most_faces (node_of m) w ≡ false
  unfolding bad_face holds
  bad_none e = rw e

  module _ (f : ℕ) (named : face_in w ≡ some f) where
    -- an event that opens its face is, where the number is no face
    pub bad_opening : opens_face w ≡ true → bad_face most_faces (node_of m) w ≡ not (is_face most_faces f)
    unfolding bad_face holds
    bad_opening e = rw (named, e, and_true (is_face most_faces f))

    -- any other that names a face is, where it is not open
    pub bad_named : opens_face w ≡ false → bad_face most_faces (node_of m) w ≡ not (is_open (node_of m).faces f)
    unfolding bad_face holds
    bad_named e = rw (named, e) (ap not (open_face_lem m f))
