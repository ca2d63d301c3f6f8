-- The copies of the rules are those for the faces of a set, each with the class that the face's word gives.
-- Assumes nothing.
use Prim.Native.Nat.{ℕ, zero, suc, ◌+◌, ◌-◌, ◌≤◌, ◌<◌}
use Rattle.std.specs.Prelude.{◌≡◌, Bool, ◌&&◌, length, get_or, ltb, eqb}
use Rattle.std.proofs.Math.Path.{refl}
use Rattle.std.proofs.Common.{◌∙◌, zero-add}
use Rattle.std.proofs.Math.Bool.{true, false, not}
use mathlib.Core.List.{List, [], ◌∷◌, ◌++◌}
use Rattle.std.proofs.Math.Option.{Option, none, some, some-injective, none-ne-some}
use native.Mathlib.Omega.{arith}
use Rattle.laws.specs.Pick.{pick}
use Rattle.laws.specs.Laws.Pick.{pick_ind}
use Rattle.laws.specs.Places.Tab.{tab}
use Rattle.laws.specs.Laws.Tab.{get_d_tab}
use Rattle.sizes.specs.Sizes.{most_faces}
use Rattle.records.specs.Class.{Class, class_of, class_number, lower}
use Rattle.records.specs.Face.{Face, is_ad_hoc_face}
use Rattle.records.specs.Laws.Face.{face_yes}
use Rattle.records.specs.Slots.{slot, is_some, given, at_place, only}
use Rattle.records.specs.Entry.{Entry, class_on}
use Rattle.faces.specs.Set.{has_face, faces_where}
use Rattle.faces.specs.Laws.Set.{where_has}
use Rattle.rules.specs.Node.{Node}
use Rattle.rules.specs.Outcome.{dat, Send}
use Rattle.rules.specs.Data.{is_self_met, copy_on, copies}
use Rattle.sending.specs.Rows.{copies_from}

-- the number of a class says it: it is one that a class word gives
abbrev pub Said : Class → Type 0
Said c = class_of (class_number c) ≡ c

-- the classes of all entries are said by their numbers
abbrev pub AllSaid : List Entry → Type 0
AllSaid es = (i : ℕ) (e : Entry) → at_place i es ≡ some e → Said e.cls

-- so are those of the entries after the first
said_rest : (e : Entry) (es : List Entry) → AllSaid (e ∷ es) → AllSaid es
unfolding at_place
said_rest e es h i x q = h (suc i) x q

-- and that of the first
said_first : (e : Entry) (es : List Entry) → AllSaid (e ∷ es) → Said e.cls
unfolding at_place
said_first e es h = h 0 e refl

-- one entry before others
said_more : (e : Entry) (es : List Entry) → Said e.cls → AllSaid es → AllSaid (e ∷ es)
unfolding at_place
said_more e es c h zero x q = rw (← (some-injective _ _ q)) c
said_more e es c h (suc i) x q = h i x q

-- and those of the entries that p holds of
pub said_only : (p : Entry → Bool) (es : List Entry) → AllSaid es → AllSaid (only p es)
unfolding only
said_only p [] h = h
said_only p (e ∷ es) h =
    let rest = said_only p es (said_rest e es h) in
    pick_ind AllSaid (p e) (e ∷ only p es) (only p es) (λ _. said_more e (only p es) (said_first e es h) rest) (λ _. rest)

-- the lowest class on a face is that of an entry
said_on : (h : ℕ) (es : List Entry) → AllSaid es → (c : Class) → class_on h es ≡ some c → Said c
unfolding class_on lower given pick
said_on h [] a = (λ c q. absurd (none-ne-some c q))
said_on h (e ∷ es) a = go (is_some (slot h e.requests)) (class_on h es) (said_on h es (said_rest e es a))
  where
    go : (b : Bool) (o : Option Class) → ((c : Class) → o ≡ some c → Said c) → (c : Class)
        → pick b (some (given e.cls (lower e.cls) o)) o ≡ some c → Said c
    go true none y c q = rw (← (some-injective _ _ q)) (said_first e es a)
    go true (some d) y c q =
        rw (← (some-injective _ _ q))
        (pick_ind Said (ltb (class_number d) (class_number e.cls)) d e.cls (λ _. y d refl) (λ _. said_first e es a))
    go false o y c q = y c q

module _ (n : Node) (f : ℕ) (bytes words : List ℕ) (es : List Entry) (a : AllSaid es) where
  -- the copy for a face and those after it
  copy_on_lem : (h : ℕ) (r : List Send)
      → copy_on n f bytes es h ++ r
      ≡ pick (is_some (class_on h es) && not (is_self_met n f h))
      (record { face = h; kind = dat; cls = class_of (given 0 class_number (class_on h es)); bytes = bytes } ∷ r) r
  unfolding copy_on given is_some pick
  copy_on_lem h r = go (is_self_met n f h) (class_on h es) (said_on h es a)
    where
      go : (b : Bool) (o : Option Class) → ((c : Class) → o ≡ some c → Said c)
          → pick b [] (given [] (λ c. record { face = h; kind = dat; cls = c; bytes = bytes } ∷ []) o) ++ r
          ≡ pick (is_some o && not b) (record { face = h; kind = dat; cls = class_of (given 0 class_number o); bytes = bytes } ∷ r) r
      go true none y = refl
      go false none y = refl
      go true (some c) y = refl
      go false (some c) y = rw (y c refl)

  -- the copies for the faces from h on
  copies_from_lem : (p : ℕ → Bool) (h : ℕ) (fs : List (Option Face))
      → ((g : ℕ) → h ≤ g → g < h + length fs → p g ≡ (is_some (class_on g es) && not (is_self_met n f g)))
      → ((g : ℕ) → h ≤ g → g < h + length fs → get_or words (g - 1) 0 ≡ given 0 class_number (class_on g es))
      → copies n f bytes es h fs ≡ copies_from p words bytes h (length fs)
  unfolding copies copies_from
  copies_from_lem p h [] s w = refl
  copies_from_lem p h (x ∷ fs) s w =
      copy_on_lem h (copies n f bytes es (suc h) fs)
      ∙ rw (
        s h (omega arith) (omega arith),
        w h (omega arith) (omega arith),
        copies_from_lem p (suc h) fs (λ g i j. s g (omega arith) (omega arith)) (λ g i j. w g (omega arith) (omega arith)),
      )

  -- where the words are the numbers of the lowest classes, and the set has the faces that a copy is owed to, the copies of the rules are
  -- those for the faces of the set
  pub copies_are : (set : ℕ) → length n.faces ≡ most_faces
      → words ≡ tab (λ i. given 0 class_number (class_on (suc i) es)) 0 most_faces
      → set ≡ faces_where most_faces (λ h. is_some (class_on h es) && not (eqb h f && not (is_ad_hoc_face n.faces f)))
      → copies n f bytes es 1 n.faces ≡ copies_from (has_face most_faces set) words bytes 1 most_faces
  unfolding is_self_met
  copies_are set shape w s = rw shape at
      (copies_from_lem (has_face most_faces set) 1 n.faces
      (λ g i j. rw s (where_has most_faces g _ ((face_yes most_faces g).1 (omega arith, omega arith))))
      (λ g i j.
      let z : suc (g - 1) ≡ g = omega arith in
      rw w (get_d_tab (λ k. given 0 class_number (class_on (suc k) es)) 0 most_faces (g - 1) 0 (omega arith) ∙ rw (zero-add, z))))
