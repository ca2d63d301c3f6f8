-- The least that is kept for the faces of a set, as `min_by_key` over the walk finds it: "ties to the lower face".
-- Assumes nothing.
use Prim.Native.Nat.{ℕ}
use Rattle.std.specs.Prelude.{◌≡◌, ◌<◌, Option, Some, None, refl, List, [], ◌∷◌, map}
use Rattle.std.specs.Borrow.{Bor}
use Rattle.std.specs.Fn.{Mut, CalledAt}
use Rattle.std.specs.List.{FoldsTo}
use Rattle.std.specs.Ordering.{nat_cmp, min_by_ordering, MatchOrdering}
use Rattle.std.specs.declared.cmp.Ordering.{Ordering}
use Rattle.std.specs.Iterator.{KeyTurn, PicksMinByKey}
use Rattle.std.proofs.Common.{ap, sym, ◌∙◌, arith, Less, Equal, Greater}
use Rattle.std.proofs.Math.Option as math
use Rattle.std.proofs.lemmas.Cmp.{ranked}
use Rattle.std.proofs.iter.Yields.{gives_Drains}
use Rattle.records.specs.Slots.{Held, held, given, less_by, least_by}
use Rattle.records.specs.Laws.Least.{less_next, less_stays}
use Rattle.faces.specs.Slots.{slots_of}
use Rattle.faces.specs.Places.Gives.{Gives}
use Rattle.faces.specs.Found.{face_in}
use Rattle.faces.specs.Laws.Gives.{held_at, walk_lists}
use Rattle.faces.specs.declared.Walk.{Walk}

module _ {A F : Type 0} (g : ℕ → A) (by : Held A → ℕ) (call : Mut F (Bor ℕ × Unit {0}) ℕ) (f : F)
    (known : (x k : ℕ) (h : F) → CalledAt call f x k h → (h ≡ f) × (k ≡ by (held_at g x))) where
  -- a turn keeps the lesser of two
  turn_least : {x z k l u w : ℕ} (o : Ordering) → MatchOrdering o (k < l) (k ≡ l) (l < k) → u ≡ min_by_ordering o k l
      → w ≡ min_by_ordering o x z → k ≡ by (held_at g x) → l ≡ by (held_at g z)
      → (u ≡ by (held_at g w))
      × ((r : math.Option (Held A)) → less_by by (held_at g x) (less_by by (held_at g z) r) ≡ less_by by (held_at g w) r)
  turn_least {x} {z} Less m p q b c = (
    p ∙ b ∙ ap (λ i. by (held_at g i)) (sym q),
    λ r. less_stays by (held_at g x) (held_at g z) r (omega (arith, m, b, c)) ∙ ap (λ i. less_by by (held_at g i) r) (sym q),
  )
  turn_least {x} {z} Equal m p q b c = (
    p ∙ b ∙ ap (λ i. by (held_at g i)) (sym q),
    λ r. less_stays by (held_at g x) (held_at g z) r (omega (arith, m, b, c)) ∙ ap (λ i. less_by by (held_at g i) r) (sym q),
  )
  turn_least {x} {z} Greater m p q b c = (
    p ∙ c ∙ ap (λ i. by (held_at g i)) (sym q),
    λ r. less_next by (held_at g x) (held_at g z) r (omega (arith, m, b, c)) ∙ ap (λ i. less_by by (held_at g i) r) (sym q),
  )

  -- the turns over the other faces find the least
  least_found : (xs : List ℕ) (x k : ℕ) (e : F) (q : F × ℕ) (y : ℕ) → e ≡ f → k ≡ by (held_at g x)
      → FoldsTo (KeyTurn min_by_ordering min_by_ordering call nat_cmp) ((e, k), x) xs (q, y)
      → math.some (held_at g y) ≡ less_by by (held_at g x) (least_by by (map (held_at g) xs))
  unfolding less_by least_by
  least_found [] x k e q y a b h = ap (λ p. math.some (held_at g p.1)) (sym h)
  least_found (z ∷ xs) x k e q y a b (j, t, rest) =
      let c = known z t.0 j.0.0 (rw a at t.2) in
      let i = turn_least t.1 (ranked k t.0 t.1 (sym t.3)) t.4 t.5 b c.1 in
      least_found xs j.1 j.0.1 j.0.0 q y c.0 i.0 rest ∙ sym (i.1 (least_by by (map (held_at g) xs)))

  -- the face that is found is that of the least of all
  pub walk_least : (n : ℕ) (s : Walk) (r : Option ℕ) → PicksMinByKey (Gives n) call nat_cmp s f r
      → face_in r ≡ given math.none (λ h. math.some h.face) (least_by by (held (slots_of n s.left g)))
  unfolding given least_by face_in
  walk_least n s None d = rw (← gives_Drains (Gives n) (held_at g) [] _ s (walk_lists g s).runs d) refl
  walk_least n s (Some y) (x, xs, k, e, q, d, t, fold) =
      let c = known x k e t in
      rw (← gives_Drains (Gives n) (held_at g) (x ∷ xs) _ s (walk_lists g s).runs d)
      (ap (given math.none (λ h. math.some h.face)) (least_found xs x k e q y c.0 c.1 fold))
