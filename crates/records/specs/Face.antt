-- Document 01, "Faces and routes": "Opening gives scope and link type (point-to-point, multi-access, ad hoc)."
-- Assumes nothing.
use Rattle.std.specs.Prelude.{ℕ, Bool, ◌&&◌, List, leb, eqb}
use Rattle.std.proofs.Math.Option.{Option}
use Rattle.records.specs.Slots.{slot, is_some, holds}

-- the link types
pub data Link : Type 0 where
  point_to_point : Link
  multi_access : Link
  ad_hoc : Link

-- an open face: whether it is local, and its link type
pub record Face : Type 0 where
  pub is_local : Bool
  pub link : Link

-- the number of a link type, "link(0, 1, 2 as above)"
abbrev pub link_number : Link → ℕ
link_number point_to_point = 0
link_number multi_access = 1
link_number ad_hoc = 2

-- whether a face is point-to-point
unfoldable pub is_point_to_point : Face → Bool
is_point_to_point f = eqb (link_number f.link) 0

-- whether a face is ad hoc
unfoldable pub is_ad_hoc : Face → Bool
is_ad_hoc f = eqb (link_number f.link) 2

-- "number not 1..16": whether f is a face of n
unfoldable pub is_face : ℕ → ℕ → Bool
is_face n f = leb 1 f && leb f n

-- whether a face is open
unfoldable pub is_open : List (Option Face) → ℕ → Bool
is_open fs f = is_some (slot f fs)

-- whether a face is open and local
unfoldable pub is_local_face : List (Option Face) → ℕ → Bool
is_local_face fs f = holds (λ x. x.is_local) (slot f fs)

-- whether a face is open and point-to-point
unfoldable pub is_peer : List (Option Face) → ℕ → Bool
is_peer fs f = holds is_point_to_point (slot f fs)

-- whether a face is open and ad hoc
unfoldable pub is_ad_hoc_face : List (Option Face) → ℕ → Bool
is_ad_hoc_face fs f = holds is_ad_hoc (slot f fs)
