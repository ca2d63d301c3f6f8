-- The copies of a Data: on which faces one leaves, and on which one must.
-- Assumes nothing.
use Rattle.std.specs.Prelude.{ℕ, suc, ◌+◌, ◌≤◌, ◌<◌, ◌≡◌, Bool, true, false, ◌⊎◌, length, ltb}
use Rattle.std.proofs.Math.Path.{refl}
use Rattle.std.proofs.Common.{sym, ◌∙◌, ap, inl, inr, ltb-true, ltb-false, arith, eq-or-lt_of_le}
use Rattle.std.proofs.lemmas.Bool.{false≢true}
use mathlib.Core.List.{List, [], ◌∷◌, ◌++◌}
use Rattle.std.proofs.Math.Option.{Option, none, some, some-injective}
use Rattle.laws.specs.Pick.{pick}
use Rattle.laws.specs.Laws.Pick.{pick_ind}
use Rattle.records.specs.Class.{Class, class_number, lower}
use Rattle.records.specs.Slots.{slot, is_some, given}
use Rattle.records.specs.Face.{Face}
use Rattle.records.specs.Entry.{Request, Entry}
use Rattle.rules.specs.Node.{Node}
use Rattle.rules.specs.Outcome.{dat, Send}
use Rattle.rules.specs.Data.{is_self_met, copy_on, copies}
use Rattle.records.specs.Entry.{class_on}
use Rattle.history.specs.Laws.Every.{not_none, all_append, some_left, some_right}
use Rattle.history.specs.Lists.{All, nothing, both, here, there, In}
use Rattle.history.specs.Laws.Holding.{has_some}
use Rattle.history.specs.Sends.{Leaves}

-- a copy of a Data from face f for one of the entries es: it is a Data with these bytes, and one of the entries has a request on its face
-- that is not self-met; that entry's class is the copy's, and the lowest of those that have a request there
pub record Copied (n : Node) (f : ℕ) (bytes : List ℕ) (es : List Entry) (s : Send) : Type 0 where
  pub face : 1 ≤ s.face
  pub kind : s.kind ≡ dat
  pub same : s.bytes ≡ bytes
  pub away : is_self_met n f s.face ≡ false
  pub entry : Entry
  pub request : Request
  pub one : In entry es
  pub standing : slot s.face entry.requests ≡ some request
  pub cls : s.cls ≡ entry.cls
  pub lowest : (x : Entry) → In x es → is_some (slot s.face x.requests) ≡ true → class_number s.cls ≤ class_number x.cls

-- where an entry has a request on a face, there is a class on it
class_there : (h : ℕ) {x : Entry} {es : List Entry} → In x es → is_some (slot h x.requests) ≡ true → (c : Class) × (class_on h es ≡ some c)
unfolding class_on pick
class_there h (here {a} {l} e) y =
    let z : is_some (slot h a.requests) ≡ true = rw e y in (given a.cls (lower a.cls) (class_on h l), rw z)
class_there h {x} (there {a} {l} i) y = go (is_some (slot h a.requests)) (class_there h i y)
  where
    go : (b : Bool) → (c : Class) × (class_on h l ≡ some c)
        → (c : Class) × (pick b (some (given a.cls (lower a.cls) (class_on h l))) (class_on h l) ≡ some c)
    go true r = (given a.cls (lower a.cls) (class_on h l), refl)
    go false r = r

-- a class on a face is an entry's that has a request there, and the lowest of such
record Lowest (h : ℕ) (c : Class) (es : List Entry) : Type 0 where
  pub entry : Entry
  pub one : In entry es
  pub asks : is_some (slot h entry.requests) ≡ true
  pub own : c ≡ entry.cls
  pub lowest : (x : Entry) → In x es → is_some (slot h x.requests) ≡ true → class_number c ≤ class_number x.cls

-- the first entry's class, where no other has a request there
lowest_alone : (h : ℕ) (e : Entry) (es : List Entry) → is_some (slot h e.requests) ≡ true → class_on h es ≡ none
    → Lowest h e.cls (e ∷ es)
lowest_alone h e es y q = record { entry = e; one = here refl; asks = y; own = refl; lowest = least }
  where
    least : (x : Entry) → In x (e ∷ es) → is_some (slot h x.requests) ≡ true → class_number e.cls ≤ class_number x.cls
    least x (here k) r = rw k (omega arith)
    least x (there i) r = let (c, k) = class_there h i r in not_none (sym q ∙ k)

-- the lower of the first entry's class and the lowest of the others'
lowest_first : (h : ℕ) (e : Entry) (es : List Entry) (c : Class) → is_some (slot h e.requests) ≡ true → Lowest h c es
    → Lowest h (lower e.cls c) (e ∷ es)
unfolding lower
lowest_first h e es c y l =
    pick_ind (λ (x : Class). Lowest h x (e ∷ es)) (ltb (class_number c) (class_number e.cls)) c e.cls
    (λ q. record { entry = l.entry; one = there l.one; asks = l.asks; own = l.own; lowest = later (ltb-true _ _ q) })
    (λ q. record { entry = e; one = here refl; asks = y; own = refl; lowest = first (ltb-false _ _ q) })
  where
    later : class_number c < class_number e.cls → (x : Entry) → In x (e ∷ es) → is_some (slot h x.requests) ≡ true
        → class_number c ≤ class_number x.cls
    later q x (here k) r = rw (← k) (omega arith)
    later q x (there i) r = l.lowest x i r

    first : class_number e.cls ≤ class_number c → (x : Entry) → In x (e ∷ es) → is_some (slot h x.requests) ≡ true
        → class_number e.cls ≤ class_number x.cls
    first q x (here k) r = rw k (omega arith)
    first q x (there i) r = let z = l.lowest x i r in omega arith

-- the lowest of the others', where the first entry has no request there
lowest_later : (h : ℕ) (e : Entry) (es : List Entry) (c : Class) → is_some (slot h e.requests) ≡ false → Lowest h c es
    → Lowest h c (e ∷ es)
lowest_later h e es c y l =
    record { entry = l.entry; one = there l.one; asks = l.asks; own = l.own; lowest = least }
  where
    least : (x : Entry) → In x (e ∷ es) → is_some (slot h x.requests) ≡ true → class_number c ≤ class_number x.cls
    least x (here k) r = absurd (false≢true (sym y ∙ ap (λ (z : Entry). is_some (slot h z.requests)) k ∙ r))
    least x (there i) r = l.lowest x i r

-- so it is with the class that is found
class_lowest : (h : ℕ) (c : Class) (es : List Entry) → class_on h es ≡ some c → Lowest h c es
unfolding class_on given
class_lowest h c [] q = not_none q
class_lowest h c (e ∷ es) q =
    pick_ind (λ (x : Option Class). x ≡ some c → Lowest h c (e ∷ es)) (is_some (slot h e.requests)) _ _
    (λ y k. go (class_on h es) refl (λ d. class_lowest h d es) y k) (λ y k. lowest_later h e es c y (class_lowest h c es k)) q
  where
    go : (x : Option Class) → class_on h es ≡ x → ((d : Class) → class_on h es ≡ some d → Lowest h d es)
        → is_some (slot h e.requests) ≡ true → some (given e.cls (lower e.cls) x) ≡ some c → Lowest h c (e ∷ es)
    go none k rest y z = rw (← some-injective _ _ z) (lowest_alone h e es y k)
    go (some d) k rest y z = rw (← some-injective _ _ z) (lowest_first h e es d y (rest d k))

module _ (n : Node) (f : ℕ) (bytes : List ℕ) (es : List Entry) where
  -- a copy is made where an entry has a request
  copy_copied : (h : ℕ) → 1 ≤ h → All (Copied n f bytes es) (copy_on n f bytes es h)
  unfolding copy_on given
  copy_copied h one = go (class_on h es) refl
    where
      go : (x : Option Class) → class_on h es ≡ x → All (Copied n f bytes es) (copy_on n f bytes es h)
      go none q = rw q (pick_ind (All (Copied n f bytes es)) (is_self_met n f h) _ _ (λ _. nothing) (λ _. nothing))
      go (some c) q =
          let l = class_lowest h c es q in
          let r = has_some (slot h l.entry.requests) l.asks in
          rw q (pick_ind (All (Copied n f bytes es)) (is_self_met n f h) _ _ (λ _. nothing)
          (λ a. both (record {
            face = one;
            kind = refl;
            same = refl;
            away = a;
            entry = l.entry;
            request = r.0;
            one = l.one;
            standing = r.1;
            cls = l.own;
            lowest = l.lowest;
          }) nothing))

  -- all copies, for the faces from h on
  copied_from : (h : ℕ) → 1 ≤ h → (fs : List (Option Face)) → All (Copied n f bytes es) (copies n f bytes es h fs)
  unfolding copies
  copied_from h one [] = nothing
  copied_from h one (x ∷ fs) = all_append (copy_copied h one) (copied_from (suc h) (omega arith) fs)

  -- all copies
  pub copies_copied : All (Copied n f bytes es) (copies n f bytes es 1 n.faces)
  copies_copied = copied_from 1 (omega arith) n.faces

  -- a copy for a face is made where an entry has a request there that is not self-met
  copy_made : (x : Entry) (h : ℕ) → In x es → is_some (slot h x.requests) ≡ true → is_self_met n f h ≡ false
      → Leaves h dat bytes (copy_on n f bytes es h)
  unfolding copy_on pick given
  copy_made x h i r a = let (c, q) = class_there h i r in rw (a, q) (here (refl, (refl, refl)))

  -- it is among the copies for the faces from k on, where its face is one of them
  made_from : (h k : ℕ) (fs : List (Option Face)) → k ≤ h → h < k + length fs → Leaves h dat bytes (copy_on n f bytes es h)
      → Leaves h dat bytes (copies n f bytes es k fs)
  unfolding copies
  made_from h k [] a b c = absurd (omega arith)
  made_from h k (x ∷ fs) a b c = go (eq-or-lt_of_le a) (λ l. made_from h (suc k) fs l (omega arith) c)
    where
      go : (k ≡ h) ⊎ (k < h) → (suc k ≤ h → Leaves h dat bytes (copies n f bytes es (suc k) fs))
          → Leaves h dat bytes (copy_on n f bytes es k ++ copies n f bytes es (suc k) fs)
      go (inl e) rest = some_left {l = copy_on n f bytes es k} _ (rw e c)
      go (inr l) rest = some_right (copy_on n f bytes es k) (rest l)

  -- and so among all copies, where the face is one of the node's
  pub copies_made : (x : Entry) (h : ℕ) → 1 ≤ h → h ≤ length n.faces → In x es → is_some (slot h x.requests) ≡ true
      → is_self_met n f h ≡ false → Leaves h dat bytes (copies n f bytes es 1 n.faces)
  copies_made x h l u i r a = made_from h 1 n.faces l (omega arith) (copy_made x h i r a)
