-- What the readers found in a bare packet is what the rules are told of it, and its name is within its size.
-- Assumes nothing.
use Rattle.std.specs.Prelude.{ℕ, ◌≤◌, min, Bool, List, length, ltb, Option, Result, Ok, Err}
use Rattle.std.proofs.Math.Path.{◌≡◌, refl}
use Rattle.std.proofs.Common.{sym, ◌∙◌, arith, ltb-false}
use Rattle.answers.specs.declared.Answer.{Answer}
use Rattle.laws.specs.Laws.Pick.{pick_ind}
use Rattle.sizes.specs.Sizes.{most_name, most_lifetime, most_freshness}
use Rattle.grammar.specs.Walk.{Field, absent, here, Fields}
use Rattle.packethead.specs.Header.{val, bytes_in, whole_number}
use Rattle.packethead.specs.Name.{name_of}
use Rattle.packets.specs.declared.bare.Interest.{Interest}
use Rattle.packets.specs.declared.bare.Data.{Data}
use Rattle.packets.specs.declared.bare.Packet.{Packet}
use Rattle.packets.specs.Bare.{Reading, capped, lifetime_of, freshness_of, bare_read}
use Rattle.packets.specs.Bare as bare
use Rattle.packets.specs.Meaning.{refused, asks, brings, nacks, hop_of, ask_of, offer_of, meant, heard_bare}
use Rattle.packets.specs.Places.Bare.{hop_in, interest_in, packet_in}
use Rattle.packets.specs.Places.View.{lowered}
use Rattle.packets.specs.Laws.Shape.{asks_made, brings_made, nacks_made, bare_means}
use Rattle.packets.specs.Laws.Name.{asks_name, brings_name_lem, nacks_name}
use Rattle.packets.specs.Laws.View.{lowered_leaves}
use Rattle.coming.specs.Places.Found.{limit_of, ask_found, offer_found}

-- a number that is capped is within its limit
capped_within : (m n : ℕ) → capped m n ≤ m
unfolding capped
capped_within m n = pick_ind (λ (x : ℕ). x ≤ m) (ltb m n) m n (λ _. omega arith) (λ e. ltb-false m n e)

-- a number within its limit is the smaller of the two
min_within : (m n : ℕ) → n ≤ m → min n m ≡ n
min_within m n h = omega arith

-- a lifetime counts as it is
lifetime_counts : (x : Field) → min (lifetime_of x) most_lifetime ≡ lifetime_of x
unfolding lifetime_of
lifetime_counts absent = omega arith
lifetime_counts (here v k) = min_within most_lifetime (capped most_lifetime (whole_number v)) (capped_within most_lifetime (whole_number v))

-- so does a freshness
freshness_counts : (x : Field) → min (freshness_of x) most_freshness ≡ freshness_of x
unfolding freshness_of
freshness_counts x =
    min_within most_freshness (capped most_freshness (whole_number (bytes_in x))) (capped_within most_freshness (whole_number (bytes_in x)))

-- the HopLimit that was found is that of the packet
limit_found : (n : ℕ) (x : Field) → limit_of (hop_in n x) ≡ hop_of x
unfolding limit_of hop_in hop_of
limit_found n absent = refl
limit_found n (here v k) = refl

-- an Interest that was found, with its own name, is what its elements mean
ask_found_lem : (l : List ℕ) (f : Fields) → name_of l ≡ bytes_in (val f 1) → ask_found l (interest_in (length l) f) ≡ ask_of f
unfolding ask_found interest_in ask_of
ask_found_lem l f e = rw (e, lifetime_counts (val f 6), limit_found (length l) (val f 7))

-- so is a Data
offer_found_lem : (l : List ℕ) (f g : Fields) (d : Data) → name_of l ≡ bytes_in (val f 1) → d.freshness ≡ freshness_of (val g 2)
    → offer_found l d ≡ offer_of f g
unfolding offer_found offer_of
offer_found_lem l f g d e h = rw (e, h, freshness_counts (val g 2))

module _ (k : Option ℕ) (m : Bool) (l : List ℕ) (p : Result Packet Answer) (said : p ≡ packet_in (length l) (bare_read k m l)) where
  -- what is refused is refused
  pub refused_found : (a : Answer) → p ≡ Err a → heard_bare k m l ≡ refused a
  unfolding packet_in meant
  refused_found a e = bare_means k m l ∙ go (bare_read k m l) (sym said ∙ e)
    where
      go : (r : Reading) → packet_in (length l) r ≡ Err a → meant l r ≡ refused a
      go (bare.refused b) w = cc
      go (bare.asks f) w = absurd (let z : ◌≡◌ {A = ℕ} 0 1 = cc in omega arith)
      go (bare.brings f g) w = absurd (let z : ◌≡◌ {A = ℕ} 0 1 = cc in omega arith)
      go (bare.nacks n f) w = absurd (let z : ◌≡◌ {A = ℕ} 0 1 = cc in omega arith)

  -- an Interest
  pub asks_found : (i : Interest) → p ≡ Ok (Packet.Interest i)
      → (heard_bare k m l ≡ asks (ask_found l i) (lowered l i.hop)) × (length (name_of l) ≤ most_name)
  unfolding packet_in meant interest_in
  asks_found i e = go (bare_read k m l) refl (sym said ∙ e)
    where
      go : (r : Reading) → bare_read k m l ≡ r → packet_in (length l) r ≡ Ok (Packet.Interest i)
          → (heard_bare k m l ≡ asks (ask_found l i) (lowered l i.hop)) × (length (name_of l) ≤ most_name)
      go (bare.refused b) q w = absurd (let z : ◌≡◌ {A = ℕ} 0 1 = cc in omega arith)
      go (bare.brings f g) q w = absurd (let z : ◌≡◌ {A = ℕ} 0 1 = cc in omega arith)
      go (bare.nacks n f) q w = absurd (let z : ◌≡◌ {A = ℕ} 0 1 = cc in omega arith)
      go (bare.asks f) q w =
          let own : interest_in (length l) f ≡ i = cc in
          let name = asks_name k m l q in (
            bare_means k m l ∙ rw (q, ← own, ask_found_lem l f name, lowered_leaves l (val f 7)),
            rw name (asks_made k m l q).1.asking.well.short,
          )

  -- a Data
  pub brings_found : (d : Data) → p ≡ Ok (Packet.Data d)
      → (heard_bare k m l ≡ brings (offer_found l d) l) × (length (name_of l) ≤ most_name)
  unfolding packet_in meant
  brings_found d e = go (bare_read k m l) refl (sym said ∙ e)
    where
      go : (r : Reading) → bare_read k m l ≡ r → packet_in (length l) r ≡ Ok (Packet.Data d)
          → (heard_bare k m l ≡ brings (offer_found l d) l) × (length (name_of l) ≤ most_name)
      go (bare.refused b) q w = absurd (let z : ◌≡◌ {A = ℕ} 0 1 = cc in omega arith)
      go (bare.asks f) q w = absurd (let z : ◌≡◌ {A = ℕ} 0 1 = cc in omega arith)
      go (bare.nacks n f) q w = absurd (let z : ◌≡◌ {A = ℕ} 0 1 = cc in omega arith)
      go (bare.brings f g) q w =
          let own : d.freshness ≡ freshness_of (val g 2) = cc in
          let name = brings_name_lem k m l q in (
            bare_means k m l ∙ rw (q, offer_found_lem l f g d name own),
            rw name (brings_made k m l q).1.short,
          )

  -- a Nack
  pub nacks_found : (reason : ℕ) (i : Interest) → p ≡ Ok (Packet.Nack reason i)
      → (heard_bare k m l ≡ nacks reason (ask_found l i)) × (length (name_of l) ≤ most_name)
  unfolding packet_in meant
  nacks_found reason i e = go (bare_read k m l) refl (sym said ∙ e)
    where
      go : (r : Reading) → bare_read k m l ≡ r → packet_in (length l) r ≡ Ok (Packet.Nack reason i)
          → (heard_bare k m l ≡ nacks reason (ask_found l i)) × (length (name_of l) ≤ most_name)
      go (bare.refused b) q w = absurd (let z : ◌≡◌ {A = ℕ} 0 1 = cc in omega arith)
      go (bare.asks f) q w = absurd (let z : ◌≡◌ {A = ℕ} 0 1 = cc in omega arith)
      go (bare.brings f g) q w = absurd (let z : ◌≡◌ {A = ℕ} 0 1 = cc in omega arith)
      go (bare.nacks n f) q w =
          let own : interest_in (length l) f ≡ i = cc in
          let same : n ≡ reason = cc in
          let name = nacks_name k m l q in (
            bare_means k m l ∙ rw (q, ← own, same, ask_found_lem l f name),
            rw name (nacks_made k m l q).1.asking.well.short,
          )
