-- "Eligible": the faces on which an Interest may leave, as the code gathers them.
-- Assumes nothing.
use Rattle.std.specs.Prelude.{ℕ, ◌≡◌, Bool, true, false, ◌&&◌, ◌||◌, not, List, eqb}
use Rattle.std.proofs.Math.Path.{sym}
use Rattle.std.proofs.Common.{◌∙◌}
use Rattle.std.proofs.Math.Bool.{and-true, and-false, or-true, or-false}
use Rattle.std.proofs.Math.Option.{Option}
use Rattle.names.specs.Name.{under_localhost, under_localhop}
use Rattle.records.specs.Face.{Face, is_open, is_local_face, is_ad_hoc_face}
use Rattle.faces.specs.Set.{has_face, minus_face, faces_where}
use Rattle.faces.specs.Laws.Set.{where_ext}
use Rattle.faces.specs.Laws.Where.{where_both, where_minus}
use Rattle.rules.specs.Node.{Node}
use Rattle.rules.specs.Interest.{Arrival, spent, eligible}
use Rattle.ways.specs.Places.Stays.{stays_local}

module _ (hop : Option ℕ) (name : List ℕ) (l p : Bool) (a : p ≡ spent hop) where
  -- what is used up stays on local faces
  pub stays_spent : p ≡ true → true ≡ stays_local hop name l
  unfolding stays_local
  stays_spent q = rw (sym a ∙ q)

  module _ (w : Bool) (q : p ≡ false) (b : w ≡ under_localhost name) where
    -- so does a name under /localhost
    pub stays_host : w ≡ true → true ≡ stays_local hop name l
    unfolding stays_local
    stays_host r = rw (sym a ∙ q, sym b ∙ r)

    -- a name elsewhere does not, where some request is from a local face
    pub stays_not : w ≡ false → l ≡ true → false ≡ stays_local hop name l
    unfolding stays_local
    stays_not r e = rw (sym a ∙ q, sym b ∙ r, e) (sym (and-false (under_localhop name)))

    -- else one under /localhop does
    pub stays_hop : (x : Bool) → w ≡ false → l ≡ false → x ≡ under_localhop name → x ≡ stays_local hop name l
    unfolding stays_local
    stays_hop x r e d = rw (sym a ∙ q, sym b ∙ r, e) (d ∙ sym (and-true (under_localhop name)))

module _ (m : ℕ) (fs : List (Option Face)) (f : ℕ) (d : Bool) (s : ℕ) (a : d ≡ is_ad_hoc_face fs f)
    (b : s ≡ faces_where m (is_open fs)) where
  -- of an ad hoc face all the open faces are left
  pub others_all : d ≡ true → s ≡ faces_where m (λ h. is_open fs h && (not (eqb h f) || is_ad_hoc_face fs f))
  others_all e = b ∙ where_ext m _ _ (λ h _. rw (sym a ∙ e, or-true (not (eqb h f))) (sym (and-true (is_open fs h))))

  -- of any other, all but itself
  pub others_less : (r : ℕ) → d ≡ false → r ≡ minus_face m s f
      → r ≡ faces_where m (λ h. is_open fs h && (not (eqb h f) || is_ad_hoc_face fs f))
  others_less r e q =
      q ∙ rw b (where_minus m (is_open fs) f ∙ where_ext m _ _ (λ h _. rw (sym a ∙ e, or-false (not (eqb h f)))))

module _ (m : ℕ) (n : Node) (a : Arrival) (l : Bool) (fs : List (Option Face)) (f : ℕ) (hop : Option ℕ) (name : List ℕ)
    (x : n.faces ≡ fs) (y : a.face ≡ f) (z : a.ask.hop ≡ hop) (w : a.ask.name ≡ name) where
  -- what is eligible, by what is found of the Interest
  eligible_is : (h : ℕ)
      → eligible n a l h
      ≡ is_open fs h && (not (eqb h f) || is_ad_hoc_face fs f)
      && (is_local_face fs h || not (stays_local hop name l))
  unfolding eligible stays_local
  eligible_is h = rw (x, y, z, w)

  module _ (s : ℕ) (t : Bool) (b : s ≡ faces_where m (λ h. is_open fs h && (not (eqb h f) || is_ad_hoc_face fs f)))
      (c : t ≡ stays_local hop name l) where
    -- what stays on local faces may leave on those
    pub eligible_local : (k r : ℕ) → t ≡ true → k ≡ faces_where m (is_local_face fs)
        → r ≡ faces_where m (λ h. has_face m s h && has_face m k h) → r ≡ faces_where m (eligible n a l)
    eligible_local k r e q p =
        p ∙ rw (b, q)
        (where_both m _ (is_local_face fs)
        ∙ where_ext m _ _ (λ h _. sym (eligible_is h ∙ rw (sym c ∙ e, or-false (is_local_face fs h)))))

    -- what does not may leave on all
    pub eligible_all : t ≡ false → s ≡ faces_where m (eligible n a l)
    eligible_all e =
        b ∙ where_ext m _ _ (λ h _.
        sym
        (eligible_is h
        ∙ rw (sym c ∙ e, or-true (is_local_face fs h)) (and-true (is_open fs h && (not (eqb h f) || is_ad_hoc_face fs f)))))
