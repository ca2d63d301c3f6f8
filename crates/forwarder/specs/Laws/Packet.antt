-- A packet past ageing: its header is refused, or what stands in it comes in.
-- Assumes nothing.
use Rattle.std.specs.Prelude.{ℕ, ◌+◌, ◌-◌, ◌^◌, ◌≤◌, ◌<◌, Bool, not, List, take, drop, Err, Ok, Result}
use Rattle.std.proofs.Math.Path.{◌≡◌, refl, ap}
use Rattle.std.proofs.Common.{sym, ◌∙◌, arith, zero-add}
use denote.Triple.Both.{Both}
use Rattle.std.proofs.Math.ListN.{length}
use Rattle.answers.specs.declared.Answer.{Answer}
use Rattle.answers.specs.Number.{number_of}
use Rattle.sizes.specs.Sizes.{most_faces}
use Rattle.records.specs.Face.{is_open}
use Rattle.packethead.specs.declared.header.Part.{Part}
use Rattle.packethead.specs.Header.{Came, header_read}
use Rattle.packethead.specs.Header as header
use Rattle.packethead.specs.Places.Header.{header_from, header_in}
use Rattle.packets.specs.Meaning.{heard_bare, came_means, heard}
use Rattle.packets.specs.Laws.Shape.{bare_in, bare_short, heard_is}
use Rattle.rules.specs.Node.{Node, packet, face_in, opens_face}
use Rattle.rules.specs.Step.{arrives, what_step, bad_face}
use Rattle.event.specs.declared.Came as event
use Rattle.event.specs.declared.Memory.{Memory}
use Rattle.event.specs.Memory.{Output, node_of}
use Rattle.event.specs.Comes.{Comes, Begun}
use Rattle.event.specs.Laws.Faces.{bad_named}
use Rattle.event.specs.Laws.Rows.{comes_noted, begun_now, begun_in_time, begun_long, begun_opening, begun_data, begun_entry}
use Rattle.coming.specs.Goes.{Goes}
use Rattle.coming.specs.Laws.Guard.{guard_within}
use Rattle.coming.specs.Laws.Goes.{goes_by, goes_quiet}
use Rattle.arriving.specs.Coming.{comes_in}
use Rattle.forwarder.specs.Places.Read.{read_by, read_in}
use Rattle.forwarder.specs.Laws.Rows.{arrives_fits}

-- a packet is refused where the face is not open
pub packet_bad : (m : Memory) (f : ℕ) (l : List ℕ) (b : Bool) → b ≡ not (is_open (node_of m).faces f)
    → b ≡ bad_face most_faces (node_of m) (packet f l)
unfolding face_in opens_face
packet_bad m f l b e = e ∙ sym (bad_named m (packet f l) f refl refl)

module _ (l : List ℕ) (h : Result Part Answer) (said : h ≡ header_in (length l) (header_read l)) where
  -- a header that is refused
  pub read_refused : (a : Answer) → h ≡ Err a → (k room f : ℕ) (r : event.Came) (n : Node) (o : Output)
      → r.answer ≡ a → r.sent ≡ 0 → r.made ≡ k → Goes k (read_in room f l n) r n o o
  unfolding header_in header_from read_in read_by
  read_refused a e k room f r n o ea es em = go (header_read l) (sym said ∙ e)
    where
      go : (c : Came) → header_in (length l) c ≡ Err a → Goes k (read_by room f n c) r n o o
      go (header.refused b) w = let q : b ≡ a = cc in rw q (goes_quiet k a r n o ea es em)
      go (header.bare b) w = absurd (let z : ◌≡◌ {A = ℕ} 0 1 = cc in omega arith)

  -- the bare packet stands at its place, which lies within the packet
  pub record Found (p : Part) : Type 0 where
    pub word : p.from + p.len < 2 ^ 64
    pub inside : p.from + p.len ≤ length l
    pub means : (room f : ℕ) (n : Node)
        → read_in room f l n ≡ comes_in room p.nack p.marked (take p.len (drop p.from l)) f n

  -- what the header holds
  pub read_found : (p : Part) → h ≡ Ok p → Found p
  unfolding header_in header_from read_in read_by
  read_found p e = go (header_read l) refl (sym said ∙ e)
    where
      go : (c : Came) → header_read l ≡ c → header_in (length l) c ≡ Ok p → Found p
      go (header.refused b) q w = absurd (let z : ◌≡◌ {A = ℕ} 0 1 = cc in omega arith)
      go (header.bare b) q w =
          let x = bare_in l q in
          let own : record {
            from = 0 + (length l - b.left - length b.bytes);
            len = length b.bytes;
            nack = b.nack;
            marked = b.marked;
          } ≡ p = cc in
          rw (← own)
          (record {
            word = omega (arith, x.short, x.fits);
            inside = omega (arith, x.fits);
            means = λ room f n. ap (read_by room f n) q ∙ rw (zero-add, ← x.value);
          })

  -- so it comes in
  pub read_comes : (p : Part) → h ≡ Ok p → (k room f : ℕ) (r : event.Came) (n n' : Node) (o o' : Output)
      → Goes k (comes_in room p.nack p.marked (take p.len (drop p.from l)) f n) r n' o o' → Goes k (read_in room f l n) r n' o o'
  read_comes p e k room f r n n' o o' g = goes_by k _ _ r n' o o' ((read_found p e).means room f n) g

module _ (time f : ℕ) (l : List ℕ) (bad : Bool) (b : event.Came) (m : Both Memory Memory) (o : Both Output Output)
    (g : Begun time bad b m o) (d : number_of b.answer ≡ 0) where
  -- what is read is what arrives
  read_arrives : read_in (length o.exit.buffer) f l (node_of m.exit) ≡ arrives time (node_of m.exit) f (heard l)
  unfolding read_in read_by comes_in arrives came_means
  read_arrives = go (header_read l) refl ∙ ap (arrives time (node_of m.exit) f) (sym (heard_is l))
    where
      go : (c : Came) → header_read l ≡ c
          → read_by (length o.exit.buffer) f (node_of m.exit) c ≡ arrives time (node_of m.exit) f (came_means c)
      go (header.refused a) q = refl
      go (header.bare x) q =
          let n = node_of m.exit in
          let now : n.time ≡ time = begun_now time bad b m o g d in
          guard_within n _ (length o.exit.buffer) (length x.bytes) 0 (omega (arith, now, begun_in_time time bad b m o g d))
          (begun_long time bad b m o g d) (bare_short l q) (omega arith)
          ∙ ap (λ (t : ℕ). arrives t n f (heard_bare x.nack x.marked x.bytes)) now

  -- so the packet comes to that
  pub packet_comes : (r : event.Came) (n' : Node) (o' : Output)
      → Goes b.made (read_in (length o.exit.buffer) f l (node_of m.exit)) r n' o.exit o'
      → Comes b.made (what_step most_faces time (node_of m.exit) (packet f l)) r n' o.exit o'
  unfolding what_step
  packet_comes r n' o' x =
      let n = node_of m.exit in
      let y = goes_by b.made _ _ r n' o.exit o' (sym read_arrives) x in
      comes_noted b.made (arrives time n f (heard l)) r n' o.exit o' y.answer y.node y.sent y.sends y.buffer
      (arrives_fits b.made time n (begun_opening time bad b m o g d) (begun_data time bad b m o g d) (begun_entry time bad b m o g d) f
      (heard l)) y.noted
