-- NO REQUEST ENDS TWICE. A request is known by its face and by the name and both flags of its entry. Through any events from an empty
-- node, refused ones included, with any number of faces and any least buffer length:
--     legal                its openings and ends take turns, an opening first, and it is open at the end where it stands in the table
--     open-or-ended        it opened as often as it ended, and once more where it stands in the table
--     end-finds-one        before each end it opened once more than it ended; before each opening as often (opening-finds-none)
--     opening-between      between two ends it opens
--     each-end             each end has its opening, the last happening of the request before it, of the same key, class included
-- Nothing is said here of which end a request comes to, or when: that is for the rules.
-- Assumes nothing.
use Rattle.std.specs.Prelude.{ℕ, ◌+◌, ◌≤◌, ◌≡◌, ◌||◌}
use Rattle.std.proofs.Math.Path.{refl}
use Rattle.std.proofs.Common.{sym, ◌∙◌}
use Rattle.std.proofs.Math.Bool.{Bool, true, false, not}
use Rattle.std.proofs.lemmas.Bool.{false≢true}
use mathlib.Core.List.{List, [], ◌∷◌, ◌++◌}
use native.Mathlib.Omega.{arith}
use Rattle.std.proofs.Math.Dec.{eqb}
use Rattle.names.specs.Laws.Same.{both}
use Rattle.records.specs.Slots.{Held, held, any_of}
use Rattle.records.specs.Entry.{Request, Entry, is_known}
use Rattle.rules.specs.Node.{Node, Event, empty_node}
use Rattle.rules.specs.Outcome.{quiet}
use Rattle.rules.specs.Ageing.{aged, ageing}
use Rattle.rules.specs.Step.{after_ageing, step, run, history}
use Rattle.history.specs.Lists.{one, how_many, Apart}
use Rattle.history.specs.Laws.Count.{how_many_le, how_many_none, how_many_any, on_faces, on_faces_one}
use Rattle.history.specs.Key.{Key, key_of, key_at, is_end, counted, ended, open_in, open_now, stands, is_of, like}
use Rattle.history.specs.Laws.Same.{same_class, class_refl, like_refl, like_equal}
use Rattle.history.specs.Laws.ByRule.{by_rule}
use Rattle.history.specs.Shape.{Shaped, OtherEntry}
use Rattle.history.specs.Laws.ShapeKept.{empty_shaped, aged_shaped, step_shaped}
use Rattle.history.specs.Laws.Once.{known_once}
use Rattle.history.specs.Turns.{turns, Legal, Opening}
use Rattle.history.specs.Laws.Turns.{legal_then, legal_ends, legal_begins, legal_at, legal_counts}
use Rattle.history.specs.Laws.Opening.{its_opening, those, rest, same_kind}
use Rattle.history.specs.Laws.Moves.{Moves, ends, begins, ageing_moves, rules_moves}
use Rattle.records.specs.Happening.{opened, Happening}

module _ (q : Key → Bool) where
  -- at most one request counts: 1 where it stands
  stands_one : (es : List Entry) → open_now q es ≤ 1 → open_now q es ≡ one (stands q es)
  unfolding open_now stands any_of open_in
  stands_one [] h = refl
  stands_one (e ∷ es) h =
      go (how_many_any (λ x. q (key_at e x.face)) (held e.requests) (omega arith)) (stands_one es (omega arith))
    where
      a : Bool
      a = any_of (λ x. q (key_at e x.face)) (held e.requests)

      sum : (a b : Bool) → one a + one b ≤ 1 → one a + one b ≡ one (a || b)
      sum true true k = absurd (omega arith)
      sum true false k = omega arith
      sum false b k = omega arith

      go : open_in q e ≡ one a → open_now q es ≡ one (stands q es) → open_in q e + open_now q es ≡ one (a || stands q es)
      go x y = rw (x, y) (sum a (stands q es) (omega arith))

  -- a rule that ends requests or opens one, where at most one counts before and after
  legal_moves : (es es' : List Entry) (hs : List Happening) → Moves q es hs es' → open_now q es ≤ 1 → open_now q es' ≤ 1
      → Legal q (stands q es) hs (stands q es')
  legal_moves es es' hs (ends z k) a b =
      legal_ends q hs (stands q es) (stands q es') z (omega (arith, stands_one es a, stands_one es' b))
  legal_moves es es' hs (begins {h} z k) a b =
      legal_begins q h (stands q es) (stands q es') z (omega (arith, stands_one es a, stands_one es' b))

-- a test of keys that holds of the requests of one face, name and flags alone; it may ask the class besides
pub record OfOne (q : Key → Bool) : Type 0 where
  pub face : ℕ
  pub name : List ℕ
  pub can_be_prefix : Bool
  pub must_be_fresh : Bool
  pub only : (k : Key) → q k ≡ true → is_of face name can_be_prefix must_be_fresh k ≡ true

module _ (q : Key → Bool) (o : OfOne q) where
  -- such a request is one of its entry's, and of no other entry
  open_in_known : (e : Entry) → open_in q e ≤ one (is_known o.name o.can_be_prefix o.must_be_fresh e)
  unfolding open_in
  open_in_known e = go (is_known o.name o.can_be_prefix o.must_be_fresh e) refl
    where
      asks : (g : ℕ) → q (key_at e g) ≡ true → (eqb g o.face ≡ true) × (is_known o.name o.can_be_prefix o.must_be_fresh e ≡ true)
      asks g h = unfold is_of key_at is_known in both _ _ (o.only (key_at e g) h)

      none_of : is_known o.name o.can_be_prefix o.must_be_fresh e ≡ false → (b : Bool) (g : ℕ) → q (key_at e g) ≡ b
          → q (key_at e g) ≡ false
      none_of w true g h = absurd (false≢true (sym w ∙ (asks g h).1))
      none_of w false g h = h

      go : (b : Bool) → is_known o.name o.can_be_prefix o.must_be_fresh e ≡ b
          → how_many (λ h. q (key_at e h.face)) (held e.requests) ≤ one b
      go true w =
          let l : how_many (λ (h : Held Request). eqb h.face o.face) (held e.requests) ≤ 1 = unfold on_faces held in on_faces_one
          o.face 1 e.requests in
          omega (
            arith,
            how_many_le (λ h. q (key_at e h.face)) (λ h. eqb h.face o.face) (λ h k. (asks h.face k).0)
                (held e.requests),
          )
      go false w =
          omega (
            arith,
            how_many_none (λ h. q (key_at e h.face)) (λ h. none_of w (q (key_at e h.face)) h.face refl)
                (held e.requests),
          )

  -- so there are no more such requests than entries of its name and flags
  open_now_known : (es : List Entry) → open_now q es ≤ how_many (is_known o.name o.can_be_prefix o.must_be_fresh) es
  unfolding open_now how_many
  open_now_known [] = omega arith
  open_now_known (e ∷ es) = omega (arith, open_in_known e, open_now_known es)

  -- at most one such request stands
  few : (es : List Entry) → Apart OtherEntry es → open_now q es ≤ 1
  few es a = omega (arith, open_now_known es, known_once o.name o.can_be_prefix o.must_be_fresh a)

  -- every step takes turns
  pub step_legal : (faces least : ℕ) (e : Event) (n : Node) → Shaped faces n
      → Legal q (stands q n.pending) (step faces least e n).happenings (stands q (step faces least e n).node.pending)
  unfolding quiet after_ageing
  step_legal faces least e n s =
      let t = e.time in
      by_rule faces least e n
      (λ x. open_now q x.node.pending ≤ 1 → Legal q (stands q n.pending) x.happenings (stands q x.node.pending))
      (λ x. Moves q (aged t n).pending x.happenings x.node.pending)
      (λ x _. unfold turns in refl)
      (rules_moves q faces t (aged t n) (aged_shaped faces t n s))
      (λ x m l.
      let k = few (aged t n).pending (aged_shaped faces t n s).pending.apart in
      legal_then q _ (stands q (aged t n).pending) _ (ageing t n) _
      (legal_moves q _ _ _ (ageing_moves q t n) (few n.pending s.pending.apart) k)
      (legal_moves q _ _ _ m k l))
      (few (step faces least e n).node.pending (step_shaped faces least e n s).pending.apart)

  -- every run takes turns
  pub run_legal : (faces least : ℕ) (es : List Event) (n : Node) → Shaped faces n
      → Legal q (stands q n.pending) (history (step faces least) es n) (stands q (run (step faces least) es n).pending)
  unfolding history run
  run_legal faces least [] n s = unfold turns in refl
  run_legal faces least (e ∷ es) n s =
      let x = step faces least e n in
      legal_then q (stands q n.pending) (stands q x.node.pending) _ x.happenings _ (step_legal faces least e n s)
      (run_legal faces least es x.node (step_shaped faces least e n s))

  -- from the empty node, where it is not open
  pub legal_of : (faces least : ℕ) (es : List Event)
      → Legal q false (history (step faces least) es (empty_node faces)) (stands q (run (step faces least) es (empty_node faces)).pending)
  legal_of faces least es =
      let z : stands q (empty_node faces).pending ≡ false = unfold empty_node stands any_of in refl in
      rw z at (run_legal faces least es (empty_node faces) (empty_shaped faces))

-- a face, a name and both flags are one request's
of_one : (f : ℕ) (name : List ℕ) (p m : Bool) → OfOne (is_of f name p m)
of_one f name p m = record { face = f; name = name; can_be_prefix = p; must_be_fresh = m; only = λ k w. w }

-- and so are those of a happening
like_one : (h : Happening) → OfOne (like h)
unfolding like
like_one h = of_one h.face h.name h.can_be_prefix h.must_be_fresh

-- a further test leaves it one request's
narrow : (q r : Key → Bool) → OfOne q → OfOne (those q r)
narrow q r o = record {
  face = o.face;
  name = o.name;
  can_be_prefix = o.can_be_prefix;
  must_be_fresh = o.must_be_fresh;
  only = λ k w. o.only k (both (q k) (r k) w).0;
}

module _ (faces least : ℕ) (es : List Event) where
  -- TAKING TURNS: an opening finds the request not open, an end finds it open, and at the end it is open where it stands in the table
  pub legal : (f : ℕ) (name : List ℕ) (p m : Bool)
      → Legal (is_of f name p m) false (history (step faces least) es (empty_node faces))
      (stands (is_of f name p m) (run (step faces least) es (empty_node faces)).pending)
  legal f name p m = legal_of (is_of f name p m) (of_one f name p m) faces least es

  -- AT MOST ONE OPEN: it opened as often as it ended, and once more where it stands in the table
  pub open_or_ended : (f : ℕ) (name : List ℕ) (p m : Bool)
      → counted opened (is_of f name p m) (history (step faces least) es (empty_node faces))
      ≡ ended (is_of f name p m) (history (step faces least) es (empty_node faces))
      + one (stands (is_of f name p m) (run (step faces least) es (empty_node faces)).pending)
  open_or_ended f name p m = omega (arith, legal_counts (is_of f name p m) _ _ _ (legal f name p m))

  -- before a happening, its request is as the happening has to find it
  found : (s t : List Happening) (h : Happening) → history (step faces least) es (empty_node faces) ≡ s ++ (h ∷ t)
      → Legal (like h) false s (is_end h.fate)
  found s t h w = (legal_at (like h) false _ s t h (like_refl h) (rw w at (legal_of (like h) (like_one h) faces least es))).0

  -- AN END FINDS ITS REQUEST OPEN: before it, the request opened once more than it ended
  pub end_finds_one : (s t : List Happening) (h : Happening) → history (step faces least) es (empty_node faces) ≡ s ++ (h ∷ t)
      → is_end h.fate ≡ true
      → counted opened (like h) s ≡ ended (like h) s + 1
  end_finds_one s t h w e = omega (arith, legal_counts (like h) false true s (rw e at (found s t h w)))

  -- AN OPENING FINDS ITS REQUEST NOT OPEN: before it, the request opened as often as it ended
  pub opening_finds_none : (s t : List Happening) (h : Happening) → history (step faces least) es (empty_node faces) ≡ s ++ (h ∷ t)
      → is_end h.fate ≡ false
      → counted opened (like h) s ≡ ended (like h) s
  opening_finds_none s t h w e = omega (arith, legal_counts (like h) false false s (rw e at (found s t h w)))

  -- BETWEEN TWO ENDS OF A REQUEST IT OPENS: y is of the face, name and flags of x
  pub opening_between : (s t u : List Happening) (x y : Happening) → history (step faces least) es (empty_node faces) ≡ s ++ (x ∷ (t ++ (y ∷ u)))
      → is_end x.fate ≡ true → is_end y.fate ≡ true → like x (key_of y) ≡ true → 1 ≤ counted opened (like x) t
  opening_between s t u x y w e f k =
      let a = (legal_at (like x) false _ s (t ++ (y ∷ u)) x (like_refl x) (rw w at (legal_of (like x) (like_one x) faces least es))).1 in
      let b : Legal (like x) false t true = rw (e, f) at (legal_at (like x) _ _ t u y k a).0 in
      omega (arith, legal_counts (like x) false true t b)

  -- EACH END HAS ITS OPENING: the last happening of its request before it is an opening, of the same face, name, flags and class
  pub each_end : (s t : List Happening) (h : Happening) → history (step faces least) es (empty_node faces) ≡ s ++ (h ∷ t) → is_end h.fate ≡ true
      → (o : Opening (like h) s) × (key_of o.opening ≡ key_of h)
  each_end s t h w e = (o, like_equal h o.opening o.own kind)
    where
      q : Key → Bool
      q = like h

      open_now_lem : Legal q false s true
      open_now_lem = rw e at (found s t h w)

      o : Opening q s
      o = its_opening q s open_now_lem

      r : Key → Bool
      r k = same_class o.opening.cls k.cls

      kind : same_class o.opening.cls h.cls ≡ true
      kind =
          unfold key_of in same_kind q r s t h o _ _ open_now_lem (rw w at (legal_of (those q r) (narrow q r (like_one h)) faces least es))
          (rw w at (legal_of (rest q r) (narrow q (λ k. not (r k)) (like_one h)) faces least es))
          e (like_refl h) (class_refl o.opening.cls)
