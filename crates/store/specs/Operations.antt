-- What each operation makes of the store, and what it says.
-- Assumes nothing.
use Rattle.std.specs.Option.{MatchOption, option_map_or}
use Rattle.std.specs.Prelude.{ℕ, ◌≡◌, Bool, List, [], ◌∷◌, ◌++◌, length, leb}
use Rattle.std.specs.declared.option.Option as code
use Rattle.std.proofs.Math.Option.{Option, none, some}
use Rattle.sizes.specs.Sizes.{most_packet, most_stored}
use Rattle.laws.specs.Pick.{pick}
use Rattle.laws.specs.Lists.{without}
use Rattle.records.specs.Slots.{given, at_place}
use Rattle.records.specs.Stored.{Stored, Hit, stored}
use Rattle.store.specs.declared.Handle.{Handle}

-- whether a Data fits a row
unfoldable pub fits_row : Stored → Bool
fits_row d = leb (length d.bytes) most_packet

-- the store with a Data more, if that fits a row
unfoldable pub kept : Stored → List Stored → List Stored
kept d ds = pick (fits_row d) (stored most_stored d ds) ds

-- what storing a Data comes to: whether it fits, and the store then
pub record Puts (r : Bool) (after : List Stored) (d : Stored) (before : List Stored) : Type 0 where
  pub said : r ≡ fits_row d
  pub left : after ≡ kept d before

-- the store with the Data at a place made the most recent
unfoldable pub recent : ℕ → List Stored → List Stored
recent i ds = given ds (λ d. without i ds ++ (d ∷ [])) (at_place i ds)

-- what a lookup takes is the Data at place i, which stands there
pub record Took (ds : List Stored) (o : Option Hit) (i : ℕ) : Type 0 where
  pub hit : Hit
  pub took : o ≡ some hit
  pub at : hit.place ≡ i
  pub there : at_place i ds ≡ some hit.what

-- what the answer of a lookup says of what is taken: nothing, or the Data at the place that the handle stands for
abbrev pub Looks : code.Option Handle → (Handle → ℕ) → List Stored → Option Hit → Type 0
Looks r place ds o = MatchOption r (o ≡ none) (λ h. Took ds o (place h))

-- the place that the answer of a lookup says, or n where it says none
abbrev pub place_or : ℕ → (Handle → ℕ) → code.Option Handle → ℕ
place_or n place r = option_map_or place r n
