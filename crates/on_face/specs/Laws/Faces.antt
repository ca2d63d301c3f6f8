-- Opening a face, past ageing: one law for each arm; and which face is refused where an event begins.
-- Assumes nothing.
use Rattle.std.specs.Prelude.{ℕ, ◌<◌, ◌≤◌, ◌≡◌, Bool, true, false, not, List, eqb}
use Rattle.std.specs.Prelude.{Some, None, Result, Ok, Err, IsErrAnd}
use Rattle.std.specs.declared.option.Option as code
use Rattle.std.specs.Option.{ok_or}
use Rattle.std.proofs.Math.Path.{refl, sym}
use Rattle.std.proofs.Common.{◌∙◌, arith}
use Rattle.std.proofs.Math.Option.{Option, some}
use borrow.Author.Tests.{lt-ltb, le-ltb}
use Rattle.answers.specs.declared.Answer.{Answer}
use Rattle.laws.specs.Pick.{pick}
use Rattle.sizes.specs.Sizes.{most_faces}
use Rattle.records.specs.Slots.{set_slot}
use Rattle.records.specs.Face.{Face, is_face, is_open}
use Rattle.faces.specs.declared.Link.{Link}
use Rattle.faces.specs.Link.{link_type, face_with}
use Rattle.rules.specs.Node.{open_face, close_face, face_in, opens_face}
use Rattle.rules.specs.Command.{link_of, face_of, open_step}
use Rattle.rules.specs.Step.{what_step, bad_face}
use Rattle.event.specs.declared.Memory.{Memory}
use Rattle.event.specs.Memory.{node_of}
use Rattle.event.specs.Places.Begins.{answer_of}
use Rattle.event.specs.Laws.Faces.{bad_opening, bad_named}
use Rattle.on_face.specs.Turns.{FacesBy, LinkFor}

module _ (m : Memory) where
  -- opening is refused where the number is no face
  pub open_bad : (f scope link : ℕ) (b : Bool) → b ≡ not (is_face most_faces f)
      → b ≡ bad_face most_faces (node_of m) (open_face f scope link)
  unfolding face_in opens_face
  open_bad f scope link b e = e ∙ sym (bad_opening m (open_face f scope link) f refl refl)

  -- closing is refused where the face is not open
  pub close_bad : (f : ℕ) (b : Bool) → b ≡ not (is_open (node_of m).faces f) → b ≡ bad_face most_faces (node_of m) (close_face f)
  unfolding face_in opens_face
  close_bad f b e = e ∙ sym (bad_named m (close_face f) f refl refl)

-- an error that is passed on, as by `?`, is the answer
passed : (r : Result (Unit {0}) Answer) (y : Answer) → IsErrAnd r (λ a. a ≡ y) → answer_of r ≡ y
unfolding answer_of
passed (Ok u) y h = absurd h
passed (Err a) y h = h

module _ (k : ℕ) where
  -- a number that says no link type is above 2, and refused as 15
  no_link : (o : code.Option Link) → LinkFor k o → (y : Answer) → ok_or o Answer.BadSetting ≡ Err y → (2 < k) × (y ≡ Answer.BadSetting)
  no_link (Some l) h y q = let z : ◌≡◌ {A = ℕ} 0 1 = cc in absurd (omega (arith, z))
  no_link None h y q = (h, cc)

  -- one that says a link type is at most 2
  a_link : (o : code.Option Link) → LinkFor k o → (l : Link) → ok_or o Answer.BadSetting ≡ Ok l → (k ≤ 2) × (link_type l ≡ link_of k)
  a_link (Some j) h l q = let z : j ≡ l = cc in rw z at h
  a_link None h l q = let z : ◌≡◌ {A = ℕ} 0 1 = cc in absurd (omega (arith, z))

module _ (f scope link : ℕ) (fs : List (Option Face)) (b : Bool) (e : b ≡ is_open fs f) where
  -- 14
  pub opens_taken : b ≡ true → FacesBy (open_face f scope link) fs Answer.FaceOpen fs
  unfolding what_step open_step pick
  opens_taken t time n = rw (sym e ∙ t)

  module _ (shut : b ≡ false) where
    -- 15, by the scope
    pub opens_scope : 1 < scope → FacesBy (open_face f scope link) fs Answer.BadSetting fs
    unfolding what_step open_step pick
    opens_scope h time n = rw (sym e ∙ shut, lt-ltb _ _ h)

    module _ (h1 : scope ≤ 1) where
      -- 15, by the link type
      pub opens_link : (o : code.Option Link) → LinkFor link o → (y : Answer) → ok_or o Answer.BadSetting ≡ Err y
          → (r : Result (Unit {0}) Answer) → IsErrAnd r (λ a. a ≡ y) → FacesBy (open_face f scope link) fs (answer_of r) fs
      unfolding what_step open_step pick answer_of
      opens_link o h y q r a time n =
          let no = no_link link o h y q in
          rw (passed r y a ∙ no.1) (rw (sym e ∙ shut, le-ltb _ _ h1, lt-ltb _ _ no.0))

      -- the face is open
      pub opens_done : (o : code.Option Link) → LinkFor link o → (l : Link) → ok_or o Answer.BadSetting ≡ Ok l
          → (fs' : List (Option Face)) → fs' ≡ set_slot f (some (face_with (eqb scope 0) l)) fs
          → FacesBy (open_face f scope link) fs Answer.Done fs'
      unfolding what_step open_step face_of face_with pick
      opens_done o h l q fs' ef time n =
          let is = a_link link o h l q in
          rw (sym e ∙ shut, le-ltb _ _ h1, le-ltb _ _ is.0, ef, is.1)
