-- Document 01, "Faces and routes".
-- Assumes nothing.
use Rattle.std.specs.Prelude.{ℕ, ◌||◌, not, List, [], ◌∷◌, ◌++◌, map, length, ltb, leb, eqb}
use Rattle.std.proofs.Math.Option.{none, some}
use Rattle.answers.specs.declared.Answer.{Answer}
use Rattle.laws.specs.Pick.{pick}
use Rattle.laws.specs.Lists.{on_at, without}
use Rattle.sizes.specs.Sizes.{most_name, most_components, most_routes, most_cost}
use Rattle.wire.specs.Verdict.{is_malformed, is_unsupported}
use Rattle.names.specs.Name.{counted}
use Rattle.records.specs.Class.{class_of, is_class}
use Rattle.records.specs.Slots.{set_slot, is_some, each}
use Rattle.records.specs.Face.{Link, point_to_point, multi_access, ad_hoc, Face, is_open}
use Rattle.records.specs.Route.{route_of, with_class, new_route, with_hop, hop_at}
use Rattle.records.specs.Ageing.{staying}
use Rattle.records.specs.Closing.{without_face, closing_lines_by, closing_ends}
use Rattle.rules.specs.Node.{Node, print_of, with_faces, with_routes, with_pending, burying}
use Rattle.rules.specs.Outcome.{Outcome, quiet, done}

-- "5, 6, name size (4)": a command by its prefix, which may be empty
unfoldable pub by_prefix : Node → List ℕ → Outcome → Outcome
by_prefix n p o =
    pick (is_malformed (counted p).said) (quiet Answer.Malformed n)
    (pick (is_unsupported (counted p).said) (quiet Answer.Unsupported n)
    (pick (ltb most_name (length p)) (quiet Answer.TooLong n)
    (pick (ltb most_components (counted p).count) (quiet Answer.TooLong n) o)))

-- "link(0, 1, 2 as above)"
unfoldable pub link_of : ℕ → Link
link_of k = pick (eqb k 0) point_to_point (pick (eqb k 1) multi_access ad_hoc)

-- "scope(0 local, 1 not)"
unfoldable pub face_of : ℕ → ℕ → Face
face_of scope link = record { is_local = eqb scope 0; link = link_of link }

-- opening: 14, then 15
unfoldable pub open_step : Node → ℕ → ℕ → ℕ → Outcome
open_step n f scope link =
    pick (is_open n.faces f) (quiet Answer.FaceOpen n)
    (pick (ltb 1 scope || ltb 2 link) (quiet Answer.BadSetting n)
    (quiet Answer.Done (with_faces n (set_slot f (some (face_of scope link)) n.faces))))

-- "Closing goes by entry, oldest opening first .. Its next hops go too; a route without hops stays, class and all."
unfoldable pub close_step : ℕ → Node → ℕ → Outcome
close_step now n f =
    done
    (burying
    (with_pending (with_routes (with_faces n (set_slot f none n.faces)) (map (with_hop f none) n.routes))
    (staying (map (without_face f) n.pending)))
    (each (closing_lines_by print_of now f) n.pending))
    [] (each (closing_ends now f) n.pending)

-- setting a route: 15, then a known prefix, then 16
unfoldable pub set_route_step : ℕ → Node → ℕ → List ℕ → Outcome
set_route_step faces n c p =
    by_prefix n p
    (pick (not (is_class (class_of c))) (quiet Answer.BadSetting n)
    (pick (ltb (route_of p n.routes) (length n.routes))
    (quiet Answer.Done (with_routes n (on_at (route_of p n.routes) (with_class (class_of c)) n.routes)))
    (pick (leb most_routes (length n.routes)) (quiet Answer.TableFull n)
    (quiet Answer.Done (with_routes n (n.routes ++ (new_route faces p (class_of c) ∷ [])))))))

-- "A hop or drop on something absent is 10."
unfoldable pub on_route : Node → List ℕ → (ℕ → Outcome) → Outcome
on_route n p o = pick (ltb (route_of p n.routes) (length n.routes)) (o (route_of p n.routes)) (quiet Answer.NoRoute n)

-- dropping a route
unfoldable pub drop_route_step : Node → List ℕ → Outcome
drop_route_step n p = by_prefix n p (on_route n p (λ i. quiet Answer.Done (with_routes n (without i n.routes))))

-- adding a hop: "Route cost 0 to 65,535"; "Adding a known hop changes its cost."
unfoldable pub add_hop_step : Node → ℕ → ℕ → List ℕ → Outcome
add_hop_step n f cost p =
    by_prefix n p
    (pick (ltb most_cost cost) (quiet Answer.BadSetting n)
    (on_route n p (λ i. quiet Answer.Done (with_routes n (on_at i (with_hop f (some cost)) n.routes)))))

-- dropping a hop
unfoldable pub drop_hop_step : Node → ℕ → List ℕ → Outcome
drop_hop_step n f p =
    by_prefix n p
    (on_route n p (λ i.
    pick (is_some (hop_at f i n.routes)) (quiet Answer.Done (with_routes n (on_at i (with_hop f none) n.routes)))
    (quiet Answer.NoRoute n)))
