-- Each end has its opening: where happenings take turns, the last one of the same request before an end is an opening, and whatever is
-- the same for one request, as its class, is the same for both.
-- Assumes nothing.
use Rattle.std.specs.Prelude.{◌+◌, ◌≡◌, Bool, ◌&&◌, not, ◌⊎◌}
use Rattle.std.proofs.Math.Path.{refl}
use Rattle.std.proofs.Common.{ap}
use Rattle.std.proofs.Math.Bool.{true, false}
use Rattle.std.specs.Bool.{beq}
use Rattle.std.proofs.lemmas.Bool.{false≢true}
use mathlib.Core.List.{List, [], ◌∷◌, ◌++◌}
use Rattle.std.proofs.Math.Logic.{inl, inr, ⊎_elim}
use Rattle.std.proofs.Math.Option.{none, some, none-ne-some}
use native.Mathlib.Omega.{arith}
use Rattle.laws.specs.Pick.{pick}
use Rattle.history.specs.Lists.{one, how_many}
use Rattle.history.specs.Laws.Count.{how_many_le, how_many_sum}
use Rattle.history.specs.Key.{Key, key_of, is_fate, is_end, counted, ended}
use Rattle.history.specs.Turns.{turns, Legal, Opening}
use Rattle.history.specs.Laws.Turns.{legal_split, legal_at, legal_counts}
use Rattle.records.specs.Happening.{opened, Happening}

module _ (q : Key → Bool) where
  -- with one more happening in front
  opening_after : (h : Happening) (s : List Happening) → Opening q s → Opening q (h ∷ s)
  opening_after h s o = record {
    before = h ∷ o.before;
    opening = o.opening;
    since = o.since;
    parts = ap (λ (l : List Happening). h ∷ l) o.parts;
    opens = o.opens;
    own = o.own;
    none_since = o.none_since;
  }

  -- a request that is open after happenings was opened by the last of them that is its own, or was open before and has none
  last_opening : (s : List Happening) (b : Bool) → Legal q b s true → ((b ≡ true) × (how_many (λ h. q (key_of h)) s ≡ 0)) ⊎ Opening q s
  unfolding turns how_many
  last_opening [] b x = let z : b ≡ true = cc in inl (z, refl)
  last_opening (h ∷ s) b x = go (q (key_of h)) refl b (is_end h.fate) refl x (λ b'. last_opening s b')
    where
      go : (u : Bool) → q (key_of h) ≡ u → (b v : Bool) → is_end h.fate ≡ v
          → pick u (pick (beq b v) (turns q (not b) s) none) (turns q b s) ≡ some true
          → ((b' : Bool) → Legal q b' s true → ((b' ≡ true) × (how_many (λ h. q (key_of h)) s ≡ 0)) ⊎ Opening q s)
          → ((b ≡ true) × (one u + how_many (λ h. q (key_of h)) s ≡ 0)) ⊎ Opening q (h ∷ s)
      go true w true true e k ih = unfold pick in ⊎_elim (λ a. absurd (false≢true a.0)) (λ o. inr (opening_after h s o)) (ih false k)
      go true w true false e k ih = unfold pick in absurd (none-ne-some true k)
      go true w false true e k ih = unfold pick in absurd (none-ne-some true k)
      go true w false false e k ih =
          unfold pick in ⊎_elim
          (λ a. inr (record { before = []; opening = h; since = s; parts = refl; opens = e; own = w; none_since = a.1 }))
          (λ o. inr (opening_after h s o)) (ih true k)
      go false w b v e k ih =
          unfold pick in ⊎_elim (λ a. inl (a.0, omega (arith, a.1))) (λ o. inr (opening_after h s o)) (ih b k)

  -- a request that was not open before
  pub its_opening : (s : List Happening) → Legal q false s true → Opening q s
  its_opening s x = ⊎_elim (λ a. absurd (false≢true a.0)) (λ o. o) (last_opening s false x)

module _ (q r : Key → Bool) where
  -- the keys of q that r holds of
  abbrev pub those : Key → Bool
  those k = q k && r k

  -- those that it does not hold of
  abbrev pub rest : Key → Bool
  rest k = q k && not (r k)

  -- both parts count as the whole
  parted : (a b c : Bool) → one (a && b) ≡ one (a && (b && c)) + one (a && (b && not c))
  parted true true true = refl
  parted true true false = refl
  parted true false c = refl
  parted false b c = refl

  -- so with openings
  counted_parts : (s : List Happening) → counted opened q s ≡ counted opened those s + counted opened rest s
  unfolding counted
  counted_parts s = how_many_sum _ _ _ (λ h. parted (is_fate opened h.fate) (q (key_of h)) (r (key_of h))) s

  -- and with ends
  ended_parts : (s : List Happening) → ended q s ≡ ended those s + ended rest s
  unfolding ended
  ended_parts s = how_many_sum _ _ _ (λ h. parted (is_end h.fate) (q (key_of h)) (r (key_of h))) s

  -- the middle of three tests that hold together
  inner : (a b c : Bool) → (a && (b && c)) ≡ true → b ≡ true
  inner true true c h = refl
  inner true false c h = absurd (false≢true h)
  inner false b c h = absurd (false≢true h)

  -- where no happening is the request's, none counts
  none_counted : (s : List Happening) → how_many (λ h. q (key_of h)) s ≡ 0 → (counted opened those s ≡ 0) × (ended those s ≡ 0)
  unfolding counted ended
  none_counted s z = (
    omega (
      arith,
      how_many_le (λ h. is_fate opened h.fate && those (key_of h)) (λ h. q (key_of h))
          (λ h. inner (is_fate opened h.fate) (q (key_of h)) (r (key_of h))) s,
    ),
    omega (
      arith,
      how_many_le (λ h. is_end h.fate && those (key_of h)) (λ h. q (key_of h))
          (λ h. inner (is_end h.fate) (q (key_of h)) (r (key_of h))) s,
    ),
  )

  -- after its opening, those of r are open
  open_those : (s : List Happening) (o : Opening q s) (u : Bool) → r (key_of o.opening) ≡ true → Legal those false s u → one u ≡ 1
  open_those s o u k x =
      let own : those (key_of o.opening) ≡ true = rw (o.own, k) in
      let z = (legal_at those false u o.before o.since o.opening own (rw o.parts at x)).1 in
      let z' : Legal those true o.since u = rw o.opens at z in
      let n = none_counted o.since o.none_since in
      omega (arith, legal_counts those true u o.since z')

  -- where a request takes turns up to an end, and so do its keys that r holds of and those that it does not, r says of the end what it
  -- says of the opening
  pub same_kind : (s t : List Happening) (h : Happening) (o : Opening q s) (d d' : Bool) → Legal q false s true
      → Legal those false (s ++ (h ∷ t)) d
      → Legal rest false (s ++ (h ∷ t)) d' → is_end h.fate ≡ true → q (key_of h) ≡ true → r (key_of o.opening) ≡ true
      → r (key_of h) ≡ true
  same_kind s t h o d d' x y z e k w = let (u, y', _) = legal_split those false d s (h ∷ t) y in go u y' (r (key_of h)) refl
    where
      go : (u : Bool) → Legal those false s u → (b : Bool) → r (key_of h) ≡ b → r (key_of h) ≡ true
      go u y' true v = v
      go u y' false v =
          let own : rest (key_of h) ≡ true = rw (k, v) in
          let z' : Legal rest false s true = rw e at (legal_at rest false d' s t h own z).0 in
          absurd
          (omega (
            arith,
            open_those s o u w y',
            legal_counts q false true s x,
            legal_counts those false u s y',
            legal_counts rest false true s z',
            counted_parts s,
            ended_parts s,
          ))
