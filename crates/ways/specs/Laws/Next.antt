-- The hop that a further Interest of an entry takes, as the code finds it: "the cheapest eligible hop without an out-record; failing that,
-- the eligible hop with the earliest one".
-- Assumes nothing.
use Rattle.std.specs.Prelude.{ℕ, ◌≡◌, Bool, ◌&&◌, not, length}
use Rattle.std.proofs.Math.Path.{refl, sym, ap}
use Rattle.std.proofs.Common.{◌∙◌, arith}
use Rattle.std.proofs.Math.Bool.{true, false, and_comm}
use mathlib.Core.List.{List, [], ◌∷◌}
use Rattle.std.proofs.Math.Option.{Option, none, some, none-ne-some}
use Rattle.laws.specs.Pick.{pick}
use Rattle.records.specs.Slots.{slot, is_some, given, holds, or_else, at_place, held, only, least_by, least_face}
use Rattle.records.specs.Route.{Route, longest, cheapest_of}
use Rattle.records.specs.Entry.{Entry, earliest_of, is_suppressed}
use Rattle.faces.specs.Set.{has_face, faces_where}
use Rattle.faces.specs.Laws.Set.{where_has, where_ext}
use Rattle.faces.specs.Laws.Where.{where_both}
use Rattle.routes.specs.declared.Routes.{Routes}
use Rattle.routes.specs.Places.View.{view_for, view_length, view_none}
use Rattle.routes.specs.Operations.{longest_at, hops_of}
use Rattle.routes.specs.Laws.Longest.{longest_place}
use Rattle.routes.specs.Laws.Bridge.{longest_cheapest}
use Rattle.pending_entry.specs.Operations.{unsent_of}
use Rattle.pending_entry.specs.Laws.Bridge.{earliest_where}
use Rattle.rules.specs.Node.{Node}
use Rattle.rules.specs.Interest.{Arrival, eligible, from_local_face, next_hop, resends}
use Rattle.ways.specs.Ways.{resends_by}
use Rattle.ways.specs.Places.Next.{next_of}
use Rattle.ways.specs.Laws.Local.{has_zero, where_nothing}

-- of no faces none is kept
only_none : {A : Type 0} (l : List A) → only (λ _. false) l ≡ []
unfolding only pick
only_none [] = refl
only_none (a ∷ l) = only_none l

-- so none has the earliest out-record
earliest_none : (e : Entry) → earliest_of (λ _. false) e ≡ none
unfolding earliest_of least_face least_by given
earliest_none e = rw (only_none (held e.sent))

-- nor is one the cheapest hop
cheapest_none : (o : Option Route) → given none (cheapest_of (λ _. false)) o ≡ none
unfolding given cheapest_of least_face least_by
cheapest_none none = refl
cheapest_none (some r) = rw (only_none (held r.hops))

module _ (m : ℕ) (p : ℕ → Bool) (e : Entry) (may : ℕ) (y : may ≡ faces_where m p) where
  -- whether p holds of a face without an out-record
  abbrev fresh : ℕ → Bool
  fresh f = p f && not (is_some (slot f e.sent))

  -- the faces of the set without one
  unsent_is : (x : Option Entry) (u : ℕ) → x ≡ some e → u ≡ given 0 (unsent_of m may) x → u ≡ faces_where m fresh
  unfolding unsent_of given
  unsent_is x u z q = q ∙ rw (z, y) (where_ext m _ _ (λ f k. rw (where_has m f p k)))

  -- a hop without an out-record is taken
  first_taken : (o : Option Route) (f : ℕ) → given none (cheapest_of fresh) o ≡ some f → some f ≡ given none (next_hop p e) o
  unfolding given next_hop or_else
  first_taken none f w = absurd (none-ne-some f w)
  first_taken (some r) f w = rw w

  -- without one, the earliest among the hops
  last_taken : (o : Option Route) (h c : ℕ) (t : Option ℕ) → length e.sent ≡ m → given none (cheapest_of fresh) o ≡ none
      → h ≡ given 0 (hops_of m) o → c ≡ faces_where m (λ g. has_face m h g && has_face m may g)
      → t ≡ earliest_of (has_face m c) e → t ≡ given none (next_hop p e) o
  unfolding given next_hop or_else hops_of
  last_taken none h c t l w a b d =
      let k : c ≡ faces_where m (λ _. false) = b ∙ where_ext m _ _ (λ g _. rw (a, has_zero m g)) in
      d ∙ rw (k, earliest_where m (λ _. false) e l, earliest_none e)
  last_taken (some r) h c t l w a b d =
      let k : c ≡ faces_where m (λ g. p g && is_some (slot g r.hops)) =
      b ∙ rw (a, y)
      (where_both m (λ g. is_some (slot g r.hops)) p ∙ where_ext m _ _ (λ g _. and_comm (is_some (slot g r.hops)) (p g))) in
      d ∙ rw (k, earliest_where m (λ g. p g && is_some (slot g r.hops)) e l, w)

  module _ (x : Option Entry) (z : x ≡ some e) (s : Routes) (name : List ℕ) (i u : ℕ) (f : Option ℕ)
      (l : i ≡ longest_at name (view_for m s)) (q : u ≡ given 0 (unsent_of m may) x)
      (w : given none (cheapest_of (has_face m u)) (at_place i (view_for m s)) ≡ f) where
    -- the cheapest hop without an out-record, of the longest matching route
    first_is_lem : given none (cheapest_of fresh) (longest name (view_for m s)) ≡ f
    first_is_lem = sym (longest_cheapest m fresh s name) ∙ rw (unsent_is x u z q, l) at w

    -- "the cheapest eligible hop without an out-record"
    there_first : (g : ℕ) → f ≡ some g → some g ≡ given none (next_hop p e) (longest name (view_for m s))
    there_first g k = first_taken _ g (first_is_lem ∙ k)

    -- "failing that, the eligible hop with the earliest one"
    there_last : (h c : ℕ) (t : Option ℕ) → length e.sent ≡ m → f ≡ none
        → h ≡ given 0 (hops_of m) (at_place i (view_for m s))
        → c ≡ faces_where m (λ g. has_face m h g && has_face m may g)
        → t ≡ given none (earliest_of (has_face m c)) x
        → t ≡ given none (next_hop p e) (longest name (view_for m s))
    unfolding given
    there_last h c t a k b d v =
        last_taken (longest name (view_for m s)) h c t a (first_is_lem ∙ k)
        (b ∙ ap (given 0 (hops_of m)) (ap (λ (j : ℕ). at_place j (view_for m s)) l ∙ longest_place name _)) d
        (v ∙ rw z)

module _ (m : ℕ) (p : ℕ → Bool) (may : ℕ) (y : may ≡ faces_where m p) (s : Routes) (name : List ℕ) where
  -- without a route no hop is taken, of an entry or none
  pub chosen_not : (x : Option Entry) → longest_at name (view_for m s) ≡ length (view_for m s)
      → none ≡ next_of p (longest name (view_for m s)) x
  unfolding next_of given
  chosen_not x e =
      let i = longest_at name (view_for m s) in
      let no : longest name (view_for m s) ≡ none =
      sym (longest_place name (view_for m s)) ∙ view_none m s i (omega (arith, view_length m s, e)) in
      rw no (go x)
    where
      go : (x : Option Entry) → none ≡ given none (λ e. given none (next_hop p e) none) x
      go none = refl
      go (some e) = refl

  module _ (i u : ℕ) (l : i ≡ longest_at name (view_for m s)) where
    -- of no faces the cheapest hop is none
    none_first : u ≡ 0 → given none (cheapest_of (has_face m u)) (at_place i (view_for m s)) ≡ none
    unfolding given
    none_first q = rw (q ∙ where_nothing m, l) (longest_cheapest m (λ _. false) s name ∙ cheapest_none (longest name _))

    -- the cheapest hop without an out-record, of an entry or none
    pub chosen_first : (x : Option Entry) (f : ℕ) → u ≡ given 0 (unsent_of m may) x
        → some f ≡ given none (cheapest_of (has_face m u)) (at_place i (view_for m s))
        → some f ≡ next_of p (longest name (view_for m s)) x
    unfolding next_of given
    chosen_first none f q w = absurd (none-ne-some f (sym (w ∙ none_first q)))
    chosen_first (some e) f q w = there_first m p e may y (some e) refl s name i u (some f) l q (sym w) f refl

    -- failing that, the hop with the earliest one, of an entry or none
    pub chosen_last : (x : Option Entry) → u ≡ given 0 (unsent_of m may) x
        → none ≡ given none (cheapest_of (has_face m u)) (at_place i (view_for m s)) → (h c : ℕ) (t : Option ℕ)
        → ((e : Entry) → x ≡ some e → length e.sent ≡ m)
        → h ≡ given 0 (hops_of m) (at_place i (view_for m s))
        → c ≡ faces_where m (λ g. has_face m h g && has_face m may g)
        → t ≡ given none (earliest_of (has_face m c)) x
        → t ≡ next_of p (longest name (view_for m s)) x
    unfolding next_of given
    chosen_last none q w h c t a b d v = v
    chosen_last (some e) q w h c t a b d v =
        there_last m p e may y (some e) refl s name i u none l q (sym w) h c t (a e refl) refl b d v

module _ (t : ℕ) (n : Node) (a : Arrival) (b : Bool) where
  -- "If the newest out-record was sent under 100 ms ago, send nothing."
  pub resends_none : (o : Option Entry) → b ≡ given false (is_suppressed t) o → b ≡ true → none ≡ resends_by t n a o
  unfolding resends_by resends given pick
  resends_none none y q = refl
  resends_none (some e) y q =
      let z : is_suppressed t e ≡ true = sym y ∙ q in
      rw z

  -- "Otherwise, in the longest matching route"
  pub resends_next : (o : Option Entry) → b ≡ given false (is_suppressed t) o → (l : Bool) (r : Option ℕ) (rs : List Route) (name : List ℕ)
      → n.routes ≡ rs → a.ask.name ≡ name → b ≡ false → l ≡ holds (from_local_face n) o
      → r ≡ next_of (eligible n a l) (longest name rs) o → r ≡ resends_by t n a o
  unfolding resends_by next_of resends given holds pick
  resends_next none y l r rs name u v q w d = d
  resends_next (some e) y l r rs name u v q w d =
      let z : is_suppressed t e ≡ false = sym y ∙ q in
      let same : longest name rs ≡ longest a.ask.name n.routes =
      ap (λ (k : List ℕ). longest k rs) (sym v) ∙ ap (longest a.ask.name) (sym u) in
      rw z
      (d ∙ ap (λ (k : Bool). given none (next_hop (eligible n a k) e) (longest name rs)) w
      ∙ ap (λ (k : Option Route). given none (next_hop (eligible n a (from_local_face n e)) e) k) same)
