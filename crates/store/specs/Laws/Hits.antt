-- What the events need of the store: what a lookup takes stands at the place that it says, what its answer means, and a Data that fits.
-- Assumes nothing.
use Rattle.std.specs.Prelude.{ℕ, ◌≤◌, ◌≡◌, Bool, List}
use Rattle.std.specs.declared.option.Option as code
use Rattle.std.specs.Option.{MatchOption, IsSomeAnd, option_map}
use Rattle.std.proofs.lemmas.Option.{MatchOption-at_some, MatchOption-at_none, none-some, same_Some}
use Rattle.std.proofs.Math.Path.{refl, sym, ap}
use Rattle.std.proofs.Common.{◌∙◌, arith, le-leb}
use Rattle.std.proofs.Math.Option.{Option, none, some, none-ne-some, some-injective}
use Rattle.std.proofs.Math.ListN.{length}
use Rattle.sizes.specs.Sizes.{most_packet, most_stored}
use Rattle.laws.specs.Laws.Pick.{pick_yes}
use Rattle.records.specs.Slots.{given, at_place}
use Rattle.records.specs.Stored.{Stored, Hit, stored, lookup, touched}
use Rattle.store.specs.declared.Store.{Store}
use Rattle.store.specs.declared.Handle.{Handle}
use Rattle.store.specs.Operations.{fits_row, kept, recent, Took, Looks, place_or}
use Rattle.store.specs.Places.View.{view, placed, place_is, place_one}
use Rattle.store.specs.Places.Look.{hit, hit_at}
use Rattle.records.specs.Laws.Place.{place_past}
use Rattle.records.specs.Laws.Lookup.{lookup_takes}

module _ (now : ℕ) (name : List ℕ) (p m : Bool) (ds : List Stored) (h : Hit) (e : lookup now name p m ds ≡ some h) where
  -- what a lookup takes stands at the place that it says
  pub hit_at_lem : at_place h.place ds ≡ some h.what
  hit_at_lem = (lookup_takes now name p m ds h e).0

  -- to make the Data at that place the most recent is to make the hit the most recent
  pub recent_hit : recent h.place ds ≡ touched h ds
  unfolding recent touched given
  recent_hit = rw hit_at_lem

-- a handle of the place where a search of the rows found what a lookup takes, if it found it, is a lookup's answer
pub looks_at : (now : ℕ) (name : List ℕ) (p m : Bool) (s : Store) (made : ℕ → Handle → Type 0) (best : code.Option ℕ)
    (r : code.Option Handle) → lookup now name p m (view s) ≡ hit_at s best → ((i : ℕ) (h : Handle) → made i h → h.at ≡ i)
    → MatchOption best (r ≡ code.Option.None) (λ i. IsSomeAnd r (made i))
    → Looks r (placed s) (view s) (lookup now name p m (view s))
unfolding hit_at hit
looks_at now name p m s made code.Option.None r e f q = rw q e
looks_at now name p m s made (code.Option.Some i) code.Option.None e f q = absurd q
looks_at now name p m s made (code.Option.Some i) (code.Option.Some h) e f q =
    let at : placed s h ≡ i = place_is s h ∙ f i h q in
    record { hit = hit s i; took = e; at = sym at; there = rw at (hit_at_lem now name p m (view s) (hit s i) e) }

module _ (ds : List Stored) (o : Option Hit) (place : Handle → ℕ) (r : code.Option Handle) (e : Looks r place ds o) where
  -- a lookup answers the place of what it takes, and none where it takes none
  pub look_place : place_or (length ds) place r ≡ given (length ds) (λ h. h.place) o
  unfolding given
  look_place = go r e
    where
      go : (r : code.Option Handle) → Looks r place ds o → place_or (length ds) place r ≡ given (length ds) (λ h. h.place) o
      go code.Option.None q = rw q
      go (code.Option.Some h) q = rw q.took (sym q.at)

  -- at the place that a lookup answers stands what it takes, and nothing where it takes none
  pub look_found : at_place (place_or (length ds) place r) ds ≡ given none (λ h. some h.what) o
  unfolding given
  look_found = go r e
    where
      go : (r : code.Option Handle) → Looks r place ds o → at_place (place_or (length ds) place r) ds ≡ given none (λ h. some h.what) o
      go code.Option.None q = rw q (place_past ds (length ds) (omega arith))
      go (code.Option.Some h) q = rw q.took q.there

  -- where it answers a handle, that stands for the Data that it takes
  pub look_some : (h : Handle) → r ≡ code.Option.Some h → Took ds o (place h)
  look_some h q = MatchOption-at_some (o ≡ none) (λ h. Took ds o (place h)) h q e

  -- where it answers none, it takes none
  pub look_none : r ≡ code.Option.None → o ≡ none
  look_none q = MatchOption-at_none (o ≡ none) (λ h. Took ds o (place h)) q e

-- two answers of a lookup are both none, or say one place
pub looks_same : (ds : List Stored) (o : Option Hit) (place other : Handle → ℕ) (r q : code.Option Handle) → Looks r place ds o
    → Looks q other ds o → option_map place r ≡ option_map other q
looks_same ds o place other code.Option.None code.Option.None a b = refl
looks_same ds o place other code.Option.None (code.Option.Some k) a b = absurd (none-ne-some b.hit (sym a ∙ b.took))
looks_same ds o place other (code.Option.Some h) code.Option.None a b = absurd (none-ne-some a.hit (sym b ∙ a.took))
looks_same ds o place other (code.Option.Some h) (code.Option.Some k) a b =
    let hits : a.hit ≡ b.hit = some-injective _ _ (sym a.took ∙ b.took) in
    ap (λ (i : ℕ). code.Option.Some i) (sym a.at ∙ ap (λ (x : Hit). x.place) hits ∙ b.at)

-- answers of one store that are both none, or say one place, are one answer
pub looks_one : (s : Store) (r q : code.Option Handle) → option_map (placed s) r ≡ option_map (placed s) q → r ≡ q
looks_one s code.Option.None code.Option.None e = refl
looks_one s code.Option.None (code.Option.Some k) e = absurd (none-some _ e)
looks_one s (code.Option.Some h) code.Option.None e = absurd (none-some _ (sym e))
looks_one s (code.Option.Some h) (code.Option.Some k) e = ap (λ (x : Handle). code.Option.Some x) (place_one s h k (same_Some _ _ e))

-- a Data of a packet's size is stored as the rules store it
pub kept_fits : (d : Stored) (ds : List Stored) → length d.bytes ≤ most_packet → kept d ds ≡ stored most_stored d ds
unfolding kept fits_row
kept_fits d ds h = pick_yes _ _ _ (le-leb (length d.bytes) most_packet h)
