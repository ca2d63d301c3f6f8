-- Laws of a walk over the faces of a set: its steps, that they are known by the set, and what it lists.
-- Assumes nothing.
use Rattle.std.specs.Prelude.{ℕ, ◌-◌, ◌≡◌, ◌<◌, ◌≤◌, refl, Option, Some, None}
use Rattle.std.proofs.Common.{arith, ap, sym, ◌∙◌}
use Rattle.std.proofs.lemmas.Iterator.{YieldsList}
use Rattle.std.proofs.lemmas.Iterator.Consumers.{YieldsList-from_shown}
use Rattle.records.specs.Slots.{Held, held}
use Rattle.faces.specs.Set.{lowest_face, minus_face}
use Rattle.faces.specs.Slots.{slots_of}
use Rattle.faces.specs.Laws.Walk.{walks, walk_has, walk_more, walk_end}
use Rattle.faces.specs.Places.Gives.{Gave, Ended, Gives}
use Rattle.faces.specs.declared.Walk.{Walk}

-- the lowest face is given, where there is one
pub gave : {n s f t : ℕ} → n ≤ 64 → f ≡ lowest_face n s → f ≤ n → t ≡ minus_face n s f → Gave n s f t
gave m e l r = let w = walks m e in record { walk = w; first = w.first; within = l; has = walk_has w l; rest = r }

-- where the lowest face would be past the last the walk is at its end
pub ended : {n s f : ℕ} → n ≤ 64 → f ≡ lowest_face n s → n < f → Ended n s s
ended m e l = record { walk = walks m refl; past = omega (arith, e, l); rest = refl }

-- what a step gives and what it leaves are known by the set
pub gives_one : (n : ℕ) (s : Walk) {t u : Walk} (x y : Option ℕ) → Gives n s x t → Gives n s y u → (x ≡ y) × (t.left ≡ u.left)
gives_one n s None None p q = (refl, p.rest ∙ sym q.rest)
gives_one n s None (Some g) p q = absurd (omega (arith, p.past, q.walk.lowest, q.within))
gives_one n s (Some f) None p q = absurd (omega (arith, q.past, p.walk.lowest, p.within))
gives_one n s (Some f) (Some g) p q =
    let e : f ≡ g = p.walk.lowest ∙ sym q.walk.lowest in
    (ap Some e, p.rest ∙ ap (minus_face n s.left) e ∙ sym q.rest)

-- a loop over the walk of a set starts with that set left
pub starts : {w v : Walk} {s : ℕ} → w ≡ v → v.left ≡ s → w.left ≡ s
starts e q = ap (λ x. x.left) e ∙ q

module _ {A : Type 0} (g : ℕ → A) where
  -- what is held for a face
  abbrev pub held_at : ℕ → Held A
  held_at f = record { face = f; what = g (f - 1) }

  -- a walk gives the faces that something is held for, one after the other
  pub walk_lists : {n : ℕ} (s : Walk) → YieldsList (Gives n) held_at s (held (slots_of n s.left g))
  walk_lists {n} =
      YieldsList-from_shown (Gives n) held_at (λ s. held (slots_of n s.left g)) (λ s t e. rw (walk_end e.walk e.past g) refl)
      (λ s f t e. walk_more e.walk e.within e.rest g)
