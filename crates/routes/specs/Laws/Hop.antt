-- The hops of a route: set, dropped, asked for, and the cheapest of them.
-- Assumes nothing.
use Prim.Native.Nat.{ℕ, zero, suc, ◌+◌, ◌-◌, ◌≤◌, ◌<◌}
use Rattle.std.specs.Prelude.{◌≡◌, Bool, ◌&&◌, ◌≢◌}
use Rattle.std.proofs.Math.Path.{refl, sym}
use Rattle.std.proofs.Common.{◌∙◌, arith, add-one}
use Rattle.std.proofs.Math.Bool.{true, false}
use mathlib.Core.List.{List, ◌∷◌}
use Rattle.std.proofs.Math.Option.{Option, none, some}
use Rattle.std.proofs.Math.ListN.{get_or}
use Rattle.laws.specs.Pick.{pick}
use Rattle.laws.specs.Places.Tab.{tab}
use Rattle.laws.specs.Digits.{member}
use Rattle.faces.specs.Set.{has_face, with_face, minus_face, faces_where}
use Rattle.faces.specs.Laws.Set.{where_mod, where_has, has_after}
use Rattle.records.specs.Laws.Face.{face_yes}
use Rattle.faces.specs.Slots.{slots_of}
use Rattle.faces.specs.Laws.Slot.{slots_put, slots_minus, slots_past, slots_has, slots_set}
use Rattle.records.specs.Face.{is_face}
use Rattle.records.specs.Slots.{given, slot, is_some, held, held_from, only, least_face}
use Rattle.records.specs.Route.{with_hop, cheapest_of}
use Rattle.routes.specs.declared.Row.{Row}
use Rattle.routes.specs.declared.Routes.{Routes}
use Rattle.routes.specs.Places.View.{route_row, route_at}
use Rattle.routes.specs.Operations.{hops_of}
use Rattle.routes.specs.Places.Hop.{least_of}

module _ (n f : ℕ) (name : List ℕ) (r : Row) (old : List ℕ) where
  -- a hop put in, or its cost changed
  pub row_put : (cost : ℕ) (costs : List ℕ) → is_face n f ≡ true → get_or costs (f - 1) 0 ≡ cost
      → ((i : ℕ) → i ≢ f - 1 → get_or costs i 0 ≡ get_or old i 0)
      → route_row n name (record r { hops = with_face n r.hops f }) costs ≡ with_hop f (some cost) (route_row n name r old)
  unfolding route_row with_hop
  row_put cost costs q e o = rw (slots_put n r.hops (λ i. get_or old i 0) f cost (λ i. get_or costs i 0) q e o)

  -- a hop taken out; a number that is no face takes none out
  pub row_take : route_row n name (record r { hops = minus_face n r.hops f }) old ≡ with_hop f none (route_row n name r old)
  unfolding route_row with_hop
  row_take = rw (slots_minus n r.hops (λ i. get_or old i 0) f)

  -- whether a face is in the set of hops
  pub row_has : has_face n r.hops f ≡ is_some (slot f (route_row n name r old).hops)
  unfolding route_row
  row_has = sym (slots_has n r.hops (λ i. get_or old i 0) f)

  -- a number that is no face sets no hop
  pub row_past : (x : Option ℕ) → is_face n f ≡ false → route_row n name r old ≡ with_hop f x (route_row n name r old)
  unfolding route_row with_hop
  row_past x e = rw (slots_past n r.hops (λ i. get_or old i 0) f x e)

-- it sets none of the route at a place
pub past_hop : (n f : ℕ) (t : Routes) (x : Option ℕ) (i : ℕ) → is_face n f ≡ false → route_at n t i ≡ with_hop f x (route_at n t i)
unfolding route_at
past_hop n f t x i e = row_past n f _ _ _ x e

-- the set of the hops is what the faces of the row's set are
pub row_hops : (n : ℕ) (name : List ℕ) (r : Row) (costs : List ℕ)
    → hops_of n (route_row n name r costs) ≡ faces_where n (has_face n r.hops)
unfolding route_row hops_of
row_hops n name r costs = slots_set n r.hops (λ i. get_or costs i 0) ∙ sym (where_mod n r.hops)

module _ (g : ℕ → ℕ) (s t : ℕ) (q : ℕ → Bool) where
  -- those held that q holds of, from place i on, are held by the set of them
  only_from : (i m : ℕ) → ((k : ℕ) → i ≤ k → k < i + m → member k t ≡ member k s && q (suc k))
      → only (λ h. q h.face) (held_from (suc i) (tab (λ k. pick (member k s) (some (g k)) none) i m))
      ≡ held_from (suc i) (tab (λ k. pick (member k t) (some (g k)) none) i m)
  unfolding only held_from tab pick
  only_from i zero e = refl
  only_from i (suc m) e =
      let slots : (ℕ → List (Option ℕ)) = (λ s. tab (λ k. pick (member k s) (some (g k)) none) (suc i) m) in
      rw (e i (omega arith) (omega arith))
      (go (member i s) (q (suc i)) (slots s) (slots t) refl (only_from (suc i) m (λ k a b. e k (omega arith) (omega arith))))
    where
      go : (a b : Bool) (l k : List (Option ℕ)) → q (suc i) ≡ b → only (λ h. q h.face) (held_from (suc (suc i)) l)
          ≡ held_from (suc (suc i)) k
          → only (λ h. q h.face) (held_from (suc i) (pick a (some (g i)) none ∷ l))
          ≡ held_from (suc i) (pick (a && b) (some (g i)) none ∷ k)
      go true true l k f r = rw (f, r)
      go true false l k f r = rw (f, r)
      go false b l k f r = r

-- the cheapest hop in a set is the least of the faces in both sets
pub row_cheapest : (n set : ℕ) (name : List ℕ) (r : Row) (costs : List ℕ)
    → cheapest_of (has_face n set) (route_row n name r costs)
    ≡ given none (λ h. some h.face) (least_of n (λ i. get_or costs i 0) (faces_where n (λ f. has_face n r.hops f && has_face n set f)))
unfolding cheapest_of least_face route_row least_of held slots_of
row_cheapest n set name r costs =
    let both : (ℕ → Bool) = (λ f. has_face n r.hops f && has_face n set f) in
    rw (only_from (λ i. get_or costs i 0) r.hops (faces_where n both) (has_face n set) 0 n
    (λ k _ l.
    sym (has_after n (faces_where n both) k (omega arith))
    ∙ where_has n (k + 1) both ((face_yes n (k + 1)).1 (omega arith, omega arith))
    ∙ rw (has_after n r.hops k (omega arith), add-one k)))
