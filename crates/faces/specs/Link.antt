-- Document 01, "Faces and routes": "Opening gives scope and link type (point-to-point, multi-access, ad hoc)."
-- Assumes nothing.
use Rattle.std.specs.Prelude.{Bool}
use Rattle.records.specs.Face as node
use Rattle.records.specs.Face.{Face, point_to_point, multi_access, ad_hoc}
use Rattle.faces.specs.declared.Link.{Link}

-- the link type as a node's records name it
unfoldable pub link_type : Link → node.Link
link_type Link.PointToPoint = point_to_point
link_type Link.MultiAccess = multi_access
link_type Link.AdHoc = ad_hoc

-- an open face of a scope and a link type
unfoldable pub face_with : Bool → Link → Face
face_with l k = record { is_local = l; link = link_type k }
