-- Sets of the faces that tests hold of, put together: what a test of both, of one and not the other, and without one face comes to, for any
-- number n of faces.
-- Assumes nothing.
use Rattle.std.specs.Prelude.{ℕ, ◌≤◌, ◌≡◌, refl, Bool, true, false, ◌&&◌, not, eqb}
use Rattle.std.proofs.Common.{sym, ◌∙◌, arith, eqb-true}
use Rattle.std.proofs.lemmas.Bool.{eqb-false}
use Rattle.records.specs.Face.{is_face}
use Rattle.faces.specs.Set.{has_face, minus_face, faces_where}
use Rattle.faces.specs.Laws.Set.{where_has, where_ext, where_is, where_lt, without_absent, has_removed_same, has_removed_other}
use Rattle.faces.specs.Laws.Slot.{without_less}

module _ (n : ℕ) (p : ℕ → Bool) where
  -- the faces that are in both sets
  pub where_both : (q : ℕ → Bool)
      → faces_where n (λ f. has_face n (faces_where n p) f && has_face n (faces_where n q) f) ≡ faces_where n (λ f. p f && q f)
  where_both q = where_ext n _ _ (λ f e. rw (where_has n f p e, where_has n f q e))

  -- those of the first set that are not in the second
  pub where_but : (q : ℕ → Bool)
      → faces_where n (λ f. has_face n (faces_where n p) f && not (has_face n (faces_where n q) f)) ≡ faces_where n (λ f. p f && not (q f))
  where_but q = where_ext n _ _ (λ f e. rw (where_has n f p e, where_has n f q e))

  -- a set without one face is no larger
  minus_le : (s f : ℕ) → minus_face n s f ≤ s
  minus_le s f = go (has_face n s f) refl
    where
      go : (b : Bool) → has_face n s f ≡ b → minus_face n s f ≤ s
      go true e = omega (arith, without_less n s f e)
      go false e = omega (arith, without_absent n s f e)

  -- those of the set but for one face
  pub where_minus : (f : ℕ) → minus_face n (faces_where n p) f ≡ faces_where n (λ g. p g && not (eqb g f))
  where_minus f =
      where_is n (minus_face n (faces_where n p) f) _ (omega (arith, minus_le (faces_where n p) f, where_lt n p))
      (λ g e. go g e (eqb g f) refl)
    where
      go : (g : ℕ) → is_face n g ≡ true → (b : Bool) → eqb g f ≡ b → has_face n (minus_face n (faces_where n p) f) g ≡ p g && not b
      go g e true q = rw (eqb-true g f q, has_removed_same) (sym (none (p f)))
        where
          none : (b : Bool) → b && false ≡ false
          none true = refl
          none false = refl
      go g e false q = has_removed_other n (faces_where n p) f g (eqb-false g f q) ∙ where_has n g p e ∙ same (p g)
        where
          same : (b : Bool) → b ≡ b && true
          same true = refl
          same false = refl
