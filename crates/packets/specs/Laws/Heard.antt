-- What a packet is made of that is read as an Interest or as a Data.
-- Assumes nothing.
use Rattle.std.specs.Prelude.{ℕ, ◌-◌, ◌%◌, ◌^◌, ◌≤◌, ◌<◌, List}
use Rattle.std.proofs.Math.Path.{◌≡◌, refl}
use Rattle.std.proofs.Common.{sym, ◌∙◌, arith}
use Rattle.std.proofs.Math.ListN.{length, length-set}
use Rattle.wire.specs.Bytes.{Bytes}
use Rattle.grammar.specs.Walk.{Field, absent, here, Fields}
use Rattle.packethead.specs.Header.{val, whole_number, Bare, Came, bare, header_read}
use Rattle.packethead.specs.Header as header
use Rattle.packets.specs.Bare.{Reading, bare_read}
use Rattle.packets.specs.Bare as read
use Rattle.packets.specs.Meaning.{Ask, Offer, asks, brings, ask_of, offer_of, leaving, meant, came_means, heard}
use Rattle.packets.specs.Well.{Well}
use Rattle.packets.specs.Laws.Shape.{IsInterest, asks_made, brings_made, nonce_below, bare_short, bare_bytes, heard_is, bare_means}

-- a packet that asks i, and leaves as b: its bare packet, and the elements of that
pub record HoldsInterest (l : List ℕ) (i : Ask) (b : List ℕ) : Type 0 where
  pub part : Bare
  pub fields : Fields
  pub comes : header_read l ≡ bare part
  pub reads : bare_read part.nack part.marked part.bytes ≡ read.asks fields
  pub ask : ask_of fields ≡ i
  pub leaves : leaving part.bytes (val fields 7) ≡ b

-- a packet that brings d, and leaves as b: its bare packet, the elements of that, and those of its MetaInfo
pub record HoldsData (l : List ℕ) (d : Offer) (b : List ℕ) : Type 0 where
  pub part : Bare
  pub fields : Fields
  pub meta : Fields
  pub comes : header_read l ≡ bare part
  pub reads : bare_read part.nack part.marked part.bytes ≡ read.brings fields meta
  pub offer : offer_of fields meta ≡ d
  pub leaves : part.bytes ≡ b

module _ (l : List ℕ) {i : Ask} {b : List ℕ} (e : heard l ≡ asks i b) where
  -- what asks is made so
  pub asks_holds : HoldsInterest l i b
  unfolding meant came_means
  asks_holds = came (header_read l) refl (sym (heard_is l) ∙ e)
    where
      by : (x : Bare) → header_read l ≡ bare x → (r : Reading) → bare_read x.nack x.marked x.bytes ≡ r
          → meant x.bytes r ≡ asks i b → HoldsInterest l i b
      by x q (read.refused a) p h = absurd (let z : ◌≡◌ {A = ℕ} 0 1 = cc in omega arith)
      by x q (read.brings f g) p h = absurd (let z : ◌≡◌ {A = ℕ} 0 1 = cc in omega arith)
      by x q (read.nacks n f) p h = absurd (let z : ◌≡◌ {A = ℕ} 0 1 = cc in omega arith)
      by x q (read.asks f) p h = record { part = x; fields = f; comes = q; reads = p; ask = cc; leaves = cc }

      came : (c : Came) → header_read l ≡ c → came_means c ≡ asks i b → HoldsInterest l i b
      came (header.refused a) q h = absurd (let z : ◌≡◌ {A = ℕ} 0 1 = cc in omega arith)
      came (bare x) q h = by x q (bare_read x.nack x.marked x.bytes) refl (sym (bare_means x.nack x.marked x.bytes) ∙ h)

  -- its elements
  asks_is : IsInterest asks_holds.part.marked asks_holds.part.bytes asks_holds.fields
  asks_is = let q = asks_holds in (asks_made q.part.nack q.part.marked q.part.bytes q.reads).1

  -- its name is one that an Interest may have
  pub asks_well : Well i.name
  unfolding ask_of
  asks_well = rw (← asks_holds.ask) asks_is.asking.well

  -- it leaves in 1,500 bytes at most
  pub asks_short : length b ≤ 1500
  asks_short = let q = asks_holds in rw (← q.leaves, leaving_length q.part.bytes (val q.fields 7)) (bare_short l q.comes)
    where
      leaving_length : (s : List ℕ) (x : Field) → length (leaving s x) ≡ length s
      leaving_length s absent = unfold leaving in refl
      leaving_length s (here v k) = unfold leaving in length-set s (length s - k - length v) ((whole_number v - 1) % 256)

  -- the nonce of an Interest in bytes is below 2 ^ 32
  pub asks_nonce : Bytes l → i.nonce < 2 ^ 32
  unfolding ask_of
  asks_nonce h =
      let q = asks_holds in
      rw (← q.ask) (nonce_below q.part.marked q.part.bytes q.fields (bare_bytes l h q.comes) asks_is)

module _ (l : List ℕ) {d : Offer} {b : List ℕ} (e : heard l ≡ brings d b) where
  -- what brings is made so
  pub brings_holds : HoldsData l d b
  unfolding meant came_means
  brings_holds = came (header_read l) refl (sym (heard_is l) ∙ e)
    where
      by : (x : Bare) → header_read l ≡ bare x → (r : Reading) → bare_read x.nack x.marked x.bytes ≡ r
          → meant x.bytes r ≡ brings d b → HoldsData l d b
      by x q (read.refused a) p h = absurd (let z : ◌≡◌ {A = ℕ} 0 1 = cc in omega arith)
      by x q (read.asks f) p h = absurd (let z : ◌≡◌ {A = ℕ} 0 1 = cc in omega arith)
      by x q (read.nacks n f) p h = absurd (let z : ◌≡◌ {A = ℕ} 0 1 = cc in omega arith)
      by x q (read.brings f g) p h = record { part = x; fields = f; meta = g; comes = q; reads = p; offer = cc; leaves = cc }

      came : (c : Came) → header_read l ≡ c → came_means c ≡ brings d b → HoldsData l d b
      came (header.refused a) q h = absurd (let z : ◌≡◌ {A = ℕ} 0 1 = cc in omega arith)
      came (bare x) q h = by x q (bare_read x.nack x.marked x.bytes) refl (sym (bare_means x.nack x.marked x.bytes) ∙ h)

  -- its name has 255 bytes at most
  pub brings_name_short : length d.name ≤ 255
  unfolding offer_of
  brings_name_short =
      let q = brings_holds in
      rw (← q.offer) (brings_made q.part.nack q.part.marked q.part.bytes q.reads).1.short

  -- it leaves in 1,500 bytes at most
  pub brings_short : length b ≤ 1500
  brings_short = let q = brings_holds in rw (← q.leaves) (bare_short l q.comes)
