-- An event's sends fit the output buffer (`sends_fit`, `packed_fits`): they are one packet, the copies of one Data, or a Nack of 290
-- bytes at most for each face at most (`step_batch`). What stands in the buffer is in `Filled`.
-- Assumes nothing.
use Rattle.std.specs.Prelude.{ℕ, ◌+◌, ◌*◌, ◌≤◌, ◌≡◌, refl, List, [], ◌∷◌, map, length}
use Rattle.std.proofs.Math.Option.{Option, none, some}
use Rattle.std.proofs.lemmas.List.{length-map}
use Rattle.std.proofs.Common.{arith}
use Rattle.answers.specs.declared.Answer.{Answer}
use Rattle.laws.specs.Laws.Pick.{pick_ind}
use Rattle.packets.specs.Meaning.{Ask}
use Rattle.writing.specs.Laws.Size.{nack_size}
use Rattle.records.specs.Class.{Class}
use Rattle.records.specs.Slots.{given, Held, held}
use Rattle.records.specs.Laws.Each.{only_length, held_length}
use Rattle.records.specs.Face.{is_peer}
use Rattle.records.specs.Entry.{Request, Entry, with_sent, with_nack}
use Rattle.sizes.specs.Sizes.{most_faces, most_packet, most_name, least_buffer}
use Rattle.writing.specs.Most.{most_nack}
use Rattle.history.specs.Moments.{paper_run}
use Rattle.rules.specs.Node.{Node, What, Event}
use Rattle.rules.specs.Outcome.{Kind, interest, dat, nack, Send, Outcome, quiet, nacks_to, nack_for}
use Rattle.rules.specs.Ageing.{aged}
use Rattle.rules.specs.Interest.{Arrival, sends_on, renews, forwards, opens_entry, asks_again, served}
use Rattle.rules.specs.Data.{satisfies}
use Rattle.rules.specs.Nack.{peers_of, nack_of, ends_by_nack}
use Rattle.rules.specs.Command.{close_step}
use Rattle.rules.specs.Step.{paper_step, after_ageing, step}
use Rattle.rules.specs.Packed.{packs, packed_from, packed}
use Rattle.history.specs.Lists.{All, nothing, both}
use Rattle.history.specs.Laws.Every.{all_mono, all_any, all_map, all_in, at_in}
use Rattle.history.specs.Laws.Lookup.{lookup_takes}
use Rattle.history.specs.Laws.Known.{entry_in, onward}
use Rattle.history.specs.Laws.Becomes.{HoldsInterest, arrival, Past, Becomes, ignored, taken, becomes, asked}
use Rattle.history.specs.Laws.Becomes as case
use Rattle.history.specs.Laws.Names.{interest_name, interest_size, data_size}
use Rattle.history.specs.Shape.{Shaped}
use Rattle.history.specs.Laws.ShapeKept.{aged_shaped, run_shaped}
use Rattle.history.specs.Laws.Copies.{copies_copied}
use Rattle.history.specs.Sends.{Before}

-- what the sends of an event are, where there are so many faces
pub data Batch (faces : ℕ) : List Send → Type 0 where
  -- nothing
  empty : Batch faces []
  -- one packet
  single : (s : Send) → length s.bytes ≤ most_packet → Batch faces (s ∷ [])
  -- copies of one Data
  copied : (bytes : List ℕ) {ss : List Send} → length bytes ≤ most_packet → All (λ s. (s.kind ≡ dat) × (s.bytes ≡ bytes)) ss
      → Batch faces ss
  -- Nacks, no more than there are faces
  refusals : {ss : List Send} → length ss ≤ faces → All (λ s. (s.kind ≡ nack) × (length s.bytes ≤ most_nack)) ss → Batch faces ss

-- ---- packing

-- one packet
single_fits : (room : ℕ) (s : Send) (b : List ℕ) → length s.bytes ≤ room → All (Before room) (packed (s ∷ []) b).places
unfolding packed packed_from packs
single_fits room s b h = go s.kind
  where
    go : (k : Kind) → All (Before room) (packs s k 0 none b (packed_from [])).places
    go interest = let p : 0 + length s.bytes ≤ room = omega arith in both p nothing
    go dat = let p : 0 + length s.bytes ≤ room = omega arith in both p nothing
    go nack = let p : 0 + length s.bytes ≤ room = omega arith in both p nothing

-- further copies of a Data that was written at k
copies_later : (room k at : ℕ) (bytes : List ℕ) {ss : List Send} (b : List ℕ) → k + length bytes ≤ room
    → All (λ s. (s.kind ≡ dat) × (s.bytes ≡ bytes)) ss
    → All (Before room) (packed_from ss at (some k) b).places
unfolding packed_from packs
copies_later room k at bytes b h nothing = nothing
copies_later room k at bytes b h (both {a = s} p r) =
    let q : k + length s.bytes ≤ room = rw p.1 h in
    rw p.0 (both q (copies_later room k at bytes b h r))

-- copies of one Data
copies_fit : (room : ℕ) (bytes : List ℕ) {ss : List Send} (b : List ℕ) → length bytes ≤ room
    → All (λ s. (s.kind ≡ dat) × (s.bytes ≡ bytes)) ss
    → All (Before room) (packed ss b).places
unfolding packed packed_from packs
copies_fit room bytes b h nothing = nothing
copies_fit room bytes b h (both {a = s} p r) =
    let q : 0 + length s.bytes ≤ room = rw p.1 (omega arith) in
    rw p.0 (both q (copies_later room 0 _ bytes _ (omega arith) r))

-- Nacks from a place on
nacks_from_lem : (room at : ℕ) {ss : List Send} (b : List ℕ) → at + most_nack * length ss ≤ room
    → All (λ s. (s.kind ≡ nack) × (length s.bytes ≤ most_nack)) ss
    → All (Before room) (packed_from ss at none b).places
unfolding packed_from packs
nacks_from_lem room at b h nothing = nothing
nacks_from_lem room at b h (both {a = s} p r) =
    let q : at + length s.bytes ≤ room = omega (arith, p.1) in
    rw p.0 (both q (nacks_from_lem room (at + length s.bytes) _ (omega (arith, p.1)) r))

-- any of them
batch_fits : (faces room : ℕ) {ss : List Send} (b : List ℕ) → most_packet ≤ room → faces * most_nack ≤ room → Batch faces ss
    → All (Before room) (packed ss b).places
batch_fits faces room b h k empty = unfold packed packed_from in nothing
batch_fits faces room b h k (single s n) = single_fits room s b (omega arith)
batch_fits faces room b h k (copied bytes n a) = copies_fit room bytes b (omega arith) a
batch_fits faces room b h k (refusals n a) = unfold packed in nacks_from_lem room 0 b (omega arith) a

-- ---- what an event sends

-- an Interest that is sent on
forwards_short : {n : Node} {w : What} (f : ℕ) (q : HoldsInterest n w f) → length (arrival f q).bytes ≤ most_packet
forwards_short f q = interest_size q

-- an Interest whose entry is there
again_batch : (faces : ℕ) (a : Arrival) (c : Class) (x : Option ℕ) → length a.bytes ≤ most_packet → Batch faces (onward a c x)
unfolding given forwards
again_batch faces a c none h = empty
again_batch faces a c (some k) h = single (forwards a c k) h

-- a refusal's Nack
refusal_batch : (faces : ℕ) (a : Answer) (reason : ℕ) (n : Node) (f : ℕ) (i : Ask) → length i.name ≤ most_name
    → Batch faces (nack_for a reason n f i).sends
unfolding nack_for nacks_to
refusal_batch faces a reason n f i h =
    pick_ind (Batch faces) _ _ _ (λ _. single _ (omega (arith, nack_size reason i.name i.can_be_prefix i.must_be_fresh i.nonce h)))
    (λ _. empty)

-- the Nacks that end requests
nacks_batch : (faces now : ℕ) (n : Node) (i f r : ℕ) (x : Entry) → length x.name ≤ most_name → length x.requests ≡ faces
    → Batch faces (ends_by_nack now n i (with_nack f r x)).sends
unfolding ends_by_nack with_nack with_sent nack_of peers_of held
nacks_batch faces now n i f r x h q =
    refusals {ss = map (nack_of y) (peers_of n y)}
    (omega (
      arith,
      length-map (peers_of n y) (nack_of y),
      only_length (λ (k : Held Request). is_peer n.faces k.face)
          (held x.requests),
      held_length 1 x.requests,
    ))
    (all_map (nack_of y) (all_any (λ k. (refl, nack_size _ x.name x.can_be_prefix x.must_be_fresh k.what.nonce h)) (peers_of n y)))
  where
    y : Entry
    y = with_nack f r x

module _ (faces : ℕ) (e : Event) (n : Node) (s : Shaped faces n) where
  -- whatever an event comes to past the first three checks
  past_batch : (w : What) (o : Outcome) → Past faces e.time n w o → Batch faces o.sends
  unfolding quiet opens_entry forwards asks_again renews sends_on served satisfies close_step
  past_batch w o (case.unread f a k) = empty
  past_batch w o (case.refused f a d) = empty
  past_batch w o (case.turned_away v a d) = empty
  past_batch w o case.ticked = empty
  past_batch w o (case.nacked_back f q a reason k) = refusal_batch faces a reason n f (asked q) (interest_name q).short
  past_batch w o (case.served_from f q h found absent) =
      single _ (all_in s.store.each (at_in h.place h.what n.store (lookup_takes e.time _ _ _ n.store h found).0)).bytes
  past_batch w o (case.opened f q r h a b c d) = single _ (forwards_short f q)
  past_batch w o (case.joined f q x a) = again_batch faces (arrival f q) _ _ (forwards_short f q)
  past_batch w o (case.satisfied f q a) =
      copied q.bytes (data_size q) (all_mono (λ x c. (c.kind, c.same)) (copies_copied n f q.bytes _))
  past_batch w o (case.marked f q x a k z) = empty
  past_batch w o (case.nacked_on f q x a k z) =
      let k = all_in s.pending.each (entry_in _ n.pending x a) in
      nacks_batch faces e.time n _ f q.reason x k.name.short k.requests
  past_batch w o (case.opens_face f scope link a) = empty
  past_batch w o (case.closes_face f) = empty
  past_batch w o (case.sets_class c p a b) = empty
  past_batch w o (case.adds_route c p h a b d) = empty
  past_batch w o (case.drops_route p a) = empty
  past_batch w o (case.adds_hop f cost p a b) = empty
  past_batch w o (case.drops_hop f p a) = empty

module _ (faces least : ℕ) where
  -- whatever an event comes to
  by_case : (e : Event) (n : Node) (o : Outcome) → Becomes faces least e n o → Shaped faces n → Batch faces o.sends
  unfolding quiet after_ageing
  by_case e n o (ignored a d) s = empty
  by_case e n o (taken p t f k) s = past_batch faces e (aged e.time n) (aged_shaped faces e.time n s) e.what p k

  -- in any event, from any node of the shape that events lead to: the sends are one packet, the copies of one Data, or a Nack for each
  -- face at most
  pub step_batch : (e : Event) (n : Node) → Shaped faces n → Batch faces (step faces least e n).sends
  step_batch e n s = by_case e n (step faces least e n) (becomes faces least e n) s

  -- so they fit a buffer that has room for 1,500 bytes and for 290 for each face
  pub sends_fit : (room : ℕ) → most_packet ≤ room → faces * most_nack ≤ room → (e : Event) (n : Node) (b : List ℕ) → Shaped faces n
      → All (Before room) (packed (step faces least e n).sends b).places
  sends_fit room h k e n b s = batch_fits faces room b h k (step_batch e n s)

-- start from an empty node of 16 faces and take any events: each send of the next one ends before byte 8,192 of the output buffer
pub packed_fits : (es : List Event) (e : Event) (b : List ℕ)
    → All (Before least_buffer) (packed (paper_step e (paper_run es)).sends b).places
packed_fits es e b =
    sends_fit most_faces least_buffer least_buffer (omega arith) (omega arith) e (paper_run es) b (run_shaped most_faces least_buffer es)
