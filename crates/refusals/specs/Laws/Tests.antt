-- The checks as tests that compute, and that each tells the words of its check.
-- Assumes nothing.
use Rattle.std.specs.Prelude.{ℕ, suc, ◌+◌, ◌-◌, ◌≤◌, ◌<◌, ◌≡◌, refl, ◌⊎◌, Bool, true, false, ◌&&◌, ◌||◌, not, ltb, leb, eqb}
use Rattle.std.proofs.Common.{sym, ◌∙◌, ap, lt-ltb, ltb-true, ltb-false, eqb-true, arith}
use mathlib.Core.Logic.Iff
use Rattle.std.proofs.Math.Logic.{inl, inr, ⊎_elim}
use Rattle.std.proofs.lemmas.Bool.{false≢true, eqb-false}
use Rattle.std.proofs.Math.Bool.{or_assoc, or_comm}
use mathlib.Core.List.{List, [], ◌∷◌, ◌++◌}
use Rattle.std.proofs.Math.Option.{Option, none, some}
use Rattle.std.proofs.Math.ListN.{length}
use Rattle.std.proofs.Math.Dec.{leb-suc-suc}
use Rattle.answers.specs.declared.Answer.{Answer}
use Rattle.answers.specs.Number.{number_of}
use Rattle.answers.specs.Laws.Number.{number_distinct}
use Rattle.laws.specs.Pick.{pick}
use Rattle.laws.specs.Laws.Pick.{pick_ind}
use Rattle.laws.specs.Lists.{index_of}
use Rattle.sizes.specs.Sizes.{most_packet, most_components, most_name}
use Rattle.wire.specs.declared.verdict.Verdict.{Verdict}
use Rattle.wire.specs.Verdict.{is_malformed, is_unsupported}
use Rattle.names.specs.Order.{canonical_order}
use Rattle.names.specs.Name.{counted, same_bytes}
use Rattle.packethead.specs.Name.{name_came}
use Rattle.packets.specs.Meaning.{Ask, Offer, Heard, refused, asks, brings, nacks, heard}
use Rattle.sizes.specs.Sizes.{most_routes, most_entries, most_packet, most_name, most_components, most_cost, most_time, dead_time}
use Rattle.records.specs.Class.{Class, alarm, monitoring, bulk, no_class, class_of, is_class, is_of}
use Rattle.records.specs.Slots.{slot, is_some, holds, Held, held, any_of, only, is_empty, at_place, given}
use Rattle.records.specs.Face.{Link, point_to_point, multi_access, ad_hoc, Face, is_point_to_point, is_ad_hoc, is_face, is_open, is_local_face, is_peer, is_ad_hoc_face}
use Rattle.records.specs.Route.{Route, route_of, longest, hop_at}
use Rattle.records.specs.Entry.{Entry, is_known, has_nonce, own_nonce, matches, used_by, taken_by, room_taken, sent_nonce}
use Rattle.records.specs.Stored.{Stored, Hit, serves, is_before, earlier, lookup_from, lookup}
use Rattle.records.specs.Line.{Line, counts, is_dead}
use Rattle.rules.specs.Node.{face_in, opens_face, Node, What, Event, print_of}
use Rattle.rules.specs.Interest.{Arrival, spent, eligible, entry_of, entry_loops, loops, hop_is_zero, out_of_scope}
use Rattle.rules.specs.Step.{bad_face, bad_time}
use Rattle.rules.specs.Ageing.{aged}
use Rattle.refusals.specs.Laws.Tells.{Tells, not_both, tells_or, tells_and, tells_if, tells_as, tells_not, tells_lt, tells_le, tells_eq, tells_flag, tells_bytes, tells_prefix, tells_some, tells_holds, tells_any, tells_no, only_none, tells_first, tells_no_first, tells_held, tells_slots}
use Rattle.incoming.specs.Laws.Incoming.{comes_in_lem, hears_bytes}
use Rattle.refusals.specs.Laws.Events.{test_of, Told, of_packet, of_opening, of_setting, of_dropping, of_adding, of_drop_hop, tells_event, no₁, no₂, no₃, never₁, never₂, never₃, on_packet, tells_packet, means_of, on_ask, tells_ask, tells_interest, on_offer, tells_data, on_nack, tells_nack}
use Rattle.refusals.specs.Laws.Reading.{if_fine, over_size, is_long}
use Rattle.refusals.specs.Laws.Longest.{longest_is, longest_none}
use Rattle.refusals.specs.Refusals.{Check, Clock, SmallBuffer, BadFace, FaceOpen, PacketSize, Malformed, Unsupported, NameSize, BadSetting, HopLimit, Scope, Loop, NoRoute, NoRoom, Unsolicited, StaleNack, TableFull, NoneOf, Open, Local, PointToPoint, AdHoc, prefix_in, name_in, Known, EntryOf, InRecord, OutRecord, NoPrefix, NoHop, NextHop, DeadNonce, HasNonce, EntryLoops, Serves, AsksAnew, Eligible, NoWay, use_with, room_with, Full, Matches, WrongFace, OpensOpen, LongPacket, Unread, BrokenBytes, MarkedBytes, OverSize, LongName, WrongSetting, NoHopsLeft, OutOfScope, Loops, Unrouted, Absent, Crowded, Unasked, Stale, NoPlace, Applies}

-- ---- faces

-- a face's link
tells_link : (x : Face) → Tells (is_point_to_point x) (x.link ≡ point_to_point) × Tells (is_ad_hoc x) (x.link ≡ ad_hoc)
unfolding is_point_to_point is_ad_hoc
tells_link x = go x.link refl
  where
    go : (k : Link) → x.link ≡ k → Tells (is_point_to_point x) (x.link ≡ point_to_point) × Tells (is_ad_hoc x) (x.link ≡ ad_hoc)
    go point_to_point e = rw e ((λ _. refl, λ _. refl), (not_both, λ q. cc))
    go multi_access e = rw e ((not_both, λ q. cc), (not_both, λ q. cc))
    go ad_hoc e = rw e ((not_both, λ q. cc), (λ _. refl, λ _. refl))

module _ (n : Node) (f : ℕ) where
  -- whether it is open
  pub tells_open : Tells (is_open n.faces f) (Open n f)
  unfolding is_open
  tells_open = tells_some (slot f n.faces)

  -- whether it is local
  pub tells_local : Tells (is_local_face n.faces f) (Local n f)
  unfolding is_local_face
  tells_local = tells_holds (λ x. Iff.rfl) (slot f n.faces)

  -- whether it is point-to-point
  pub tells_peer : Tells (is_peer n.faces f) (PointToPoint n f)
  unfolding is_peer
  tells_peer = tells_holds (λ x. (tells_link x).0) (slot f n.faces)

  -- whether it is ad hoc
  pub tells_ad_hoc : Tells (is_ad_hoc_face n.faces f) (AdHoc n f)
  unfolding is_ad_hoc_face
  tells_ad_hoc = tells_holds (λ x. (tells_link x).1) (slot f n.faces)

-- a test of two, of which not both hold
not_and : (a b : Bool) → not (a && b) ≡ (not a || not b)
not_and true b = refl
not_and false b = refl

-- a test of two, of which neither holds
not_or : (a b : Bool) → not (a || b) ≡ (not a && not b)
not_or true b = refl
not_or false b = refl

-- a test that fails
tells_false : (b : Bool) → Tells (not b) (b ≡ false)
tells_false true = (not_both, λ e. sym e)
tells_false false = (λ e. refl, λ e. refl)

-- 3: the face that the event names
tells_face : (faces : ℕ) (n : Node) (w : What) → Tells (bad_face faces n w) (WrongFace faces n w)
unfolding bad_face is_face
tells_face faces n w = tells_holds (tells_wrong w) (face_in w)
  where
    wrong : What → ℕ → Bool
    wrong w f = not (is_face faces f && (opens_face w || is_open n.faces f))

    tells_wrong : (w : What) (f : ℕ) → Tells (wrong w f) ((f < 1) ⊎ (faces < f) ⊎ ((opens_face w ≡ false) × (¬ Open n f)))
    tells_wrong w f =
        rw (not_and, not_and, not_or, or_assoc)
        (tells_or (tells_as (tells_not (tells_le 1 f)) (λ h. omega arith, λ h k. omega arith))
        (tells_or (tells_as (tells_not (tells_le f faces)) (λ h. omega arith, λ h k. omega arith))
        (tells_and (tells_false (opens_face w)) (tells_not (tells_open n f)))))

-- ---- bytes

-- whether reading refuses a packet by an answer
unfoldable pub refused_by : Answer → Heard → Bool
unfolding means_of
refused_by a h = means_of (λ b. eqb (number_of b) (number_of a)) no₁ no₁ no₁ h

-- what it tells
tells_refused : (a : Answer) (h : Heard) → Tells (refused_by a h) (h ≡ refused a)
unfolding refused_by
tells_refused a (refused b) =
    let t = tells_eq (number_of b) (number_of a) in
    (λ e. ap refused (number_distinct b a (t.0 e)), λ q. t.1 (cc))
tells_refused a (asks i bytes) = (not_both, λ q. cc)
tells_refused a (brings d bytes) = (not_both, λ q. cc)
tells_refused a (nacks r i) = (not_both, λ q. cc)

-- the reading of a packet refuses it
tells_unread : (n : Node) (a : Answer) (w : What) → Tells (on_packet (λ f l. refused_by a (heard l)) w) (Unread n a w)
tells_unread n a w =
    tells_as (tells_packet (λ f l. tells_refused a (heard l)) w) (
      λ x. (x.0, comes_in_lem n x.0 _ w x.1 x.2 x.3),
      λ x. let y = hears_bytes n x.0 _ w x.1 in (x.0, y.0, y.1, y.2),
    )

-- that bytes break the grammar
tells_malformed : (v : Verdict) → Tells (is_malformed v) (v ≡ Verdict.Malformed)
tells_malformed Verdict.Fine = (not_both, λ q. cc)
tells_malformed Verdict.Malformed = (λ e. refl, λ q. refl)
tells_malformed Verdict.Unsupported = (not_both, λ q. cc)

-- that they are marked
tells_unsupported : (v : Verdict) → Tells (is_unsupported v) (v ≡ Verdict.Unsupported)
tells_unsupported Verdict.Fine = (not_both, λ q. cc)
tells_unsupported Verdict.Malformed = (not_both, λ q. cc)
tells_unsupported Verdict.Unsupported = (λ e. refl, λ q. refl)

-- a name is over its size
tells_long : (name : List ℕ) → Tells (is_long name) (OverSize name)
unfolding is_long over_size
tells_long name = go (counted name).said
  where
    n : ℕ
    n = (counted name).count

    go : (v : Verdict)
        → Tells (if_fine v (ltb most_name (length name) || ltb most_components n)) ((v ≡ Verdict.Fine) × ((most_name < length name) ⊎ (most_components < n)))
    go Verdict.Fine = tells_as (tells_or (tells_lt most_name (length name)) (tells_lt most_components n)) (λ x. (refl, x), λ x. x.1)
    go Verdict.Malformed = (not_both, λ x. let q = x.0 in cc)
    go Verdict.Unsupported = (not_both, λ x. let q = x.0 in cc)

module _ (w : What) where
  -- 4: whether a packet is over its size
  unfoldable pub long_packet : Bool
  long_packet = on_packet (λ f l. ltb most_packet (length l)) w

  -- 5: whether the bytes of a packet or of a prefix break the grammar
  unfoldable pub broken_bytes : Bool
  broken_bytes = on_packet (λ f l. refused_by Answer.Malformed (heard l)) w || holds (λ p. is_malformed (counted p).said) (prefix_in w)

  -- 6: whether they are marked
  unfoldable pub marked_bytes : Bool
  marked_bytes = on_packet (λ f l. refused_by Answer.Unsupported (heard l)) w || holds (λ p. is_unsupported (counted p).said) (prefix_in w)

  -- 4: whether the name of a packet or a prefix is over its size
  unfoldable pub long_name : Bool
  long_name = on_packet (λ f l. is_long (name_came l)) w || holds is_long (prefix_in w)

  -- what they tell: 4, a packet
  tells_long_packet : Tells long_packet (LongPacket w)
  unfolding long_packet
  tells_long_packet = tells_packet (λ f l. tells_lt most_packet (length l)) w

  -- 5
  tells_broken : (n : Node) → Tells broken_bytes (BrokenBytes n w)
  unfolding broken_bytes
  tells_broken n =
      tells_or
      (tells_unread n Answer.Malformed w)
      (tells_holds (λ p. tells_malformed (counted p).said) (prefix_in w))

  -- 6
  tells_marked : (n : Node) → Tells marked_bytes (MarkedBytes n w)
  unfolding marked_bytes
  tells_marked n =
      tells_or
      (tells_unread n Answer.Unsupported w)
      (tells_holds (λ p. tells_unsupported (counted p).said) (prefix_in w))

  -- 4, a name
  tells_long_name : Tells long_name (LongName w)
  unfolding long_name
  tells_long_name =
      tells_or
      (tells_packet (λ f l. tells_long (name_came l)) w)
      (tells_holds tells_long (prefix_in w))

-- ---- settings

-- a number of no class
tells_class : (c : ℕ) → Tells (not (is_class (class_of c))) ((c < 1) ⊎ (3 < c))
unfolding is_class class_of pick
tells_class c = go (eqb c 1) (eqb c 2) (eqb c 3) (tells_eq c 1) (tells_eq c 2) (tells_eq c 3)
  where
    out : (b : Bool) → ltb c 1 ≡ b → ¬ (c ≡ 1) → ¬ (c ≡ 2) → ¬ (c ≡ 3) → (c < 1) ⊎ (3 < c)
    out true e x y z = inl (ltb-true c 1 e)
    out false e x y z = inr (omega (arith, ltb-false c 1 e))

    go : (x y z : Bool) → Tells x (c ≡ 1) → Tells y (c ≡ 2) → Tells z (c ≡ 3)
        → Tells (not (is_class (pick x alarm (pick y monitoring (pick z bulk (no_class c)))))) ((c < 1) ⊎ (3 < c))
    go true y z p q r = (not_both, ⊎_elim (λ h. absurd (omega (arith, p.0 refl))) (λ h. absurd (omega (arith, p.0 refl))))
    go false true z p q r = (not_both, ⊎_elim (λ h. absurd (omega (arith, q.0 refl))) (λ h. absurd (omega (arith, q.0 refl))))
    go false false true p q r = (not_both, ⊎_elim (λ h. absurd (omega (arith, r.0 refl))) (λ h. absurd (omega (arith, r.0 refl))))
    go false false false p q r =
        (λ e. out (ltb c 1) refl (λ h. false≢true (p.1 h)) (λ h. false≢true (q.1 h)) (λ h. false≢true (r.1 h)), λ x. refl)

-- 14: whether an opening is of an open face
unfoldable pub opens_open : Node → What → Bool
opens_open n w = test_of no₂ (λ f k j. is_open n.faces f) no₂ no₁ no₃ no₂ w

-- what it tells
tells_opens : (n : Node) (w : What) → Tells (opens_open n w) (OpensOpen n w)
unfolding opens_open
tells_opens n w =
    tells_as (tells_event never₂ (λ f scope link. tells_open n f) never₂ never₁ never₃ never₂ w)
    (told, λ x. of_opening x.0 x.1 x.2 x.3 x.4)
  where
    told : Told (λ f l. ⊥) (λ f scope link. Open n f) (λ c q. ⊥) (λ q. ⊥) (λ f k q. ⊥) (λ f q. ⊥) w → OpensOpen n w
    told (of_packet f l e x) = absurd x
    told (of_opening f scope link e x) = (f, scope, link, e, x)
    told (of_setting c q e x) = absurd x
    told (of_dropping q e x) = absurd x
    told (of_adding f cost q e x) = absurd x
    told (of_drop_hop f q e x) = absurd x

-- 15: whether a setting is out of range
unfoldable pub wrong_setting : What → Bool
wrong_setting w = test_of no₂ (λ f k j. ltb 1 k || ltb 2 j) (λ c q. not (is_class (class_of c))) no₁ (λ f k q. ltb most_cost k) no₂ w

-- what it tells
tells_setting : (w : What) → Tells (wrong_setting w) (WrongSetting w)
unfolding wrong_setting
tells_setting w =
    tells_as
    (tells_event never₂ (λ f scope link. tells_or (tells_lt 1 scope) (tells_lt 2 link)) (λ c q. tells_class c) never₁
    (λ f cost q. tells_lt most_cost cost) never₂ w)
    (told, holding)
  where
    told : Told (λ f l. ⊥) (λ f scope link. (1 < scope) ⊎ (2 < link)) (λ c q. (c < 1) ⊎ (3 < c)) (λ q. ⊥) (λ f cost q. most_cost < cost)
        (λ f q. ⊥) w → WrongSetting w
    told (of_packet f l e x) = absurd x
    told (of_opening f scope link e x) = inl (f, scope, link, e, x)
    told (of_setting c q e x) = inr (inl (c, q, e, x))
    told (of_dropping q e x) = absurd x
    told (of_adding f cost q e x) = inr (inr (f, cost, q, e, x))
    told (of_drop_hop f q e x) = absurd x

    holding : WrongSetting w
        → Told (λ f l. ⊥) (λ f scope link. (1 < scope) ⊎ (2 < link)) (λ c q. (c < 1) ⊎ (3 < c)) (λ q. ⊥) (λ f cost q. most_cost < cost)
        (λ f q. ⊥) w
    holding (inl x) = of_opening x.0 x.1 x.2 x.3 x.4
    holding (inr (inl x)) = of_setting x.0 x.1 x.2 x.3
    holding (inr (inr x)) = of_adding x.0 x.1 x.2 x.3 x.4

-- ---- HopLimit and scope

-- 7: whether an Interest has HopLimit 0
unfoldable pub no_hops_left : What → Bool
no_hops_left w = on_packet (λ f l. on_ask (λ i. hop_is_zero i.hop) (heard l)) w

-- a HopLimit of 0
tells_hop : (o : Option ℕ) → Tells (hop_is_zero o) (o ≡ some 0)
unfolding hop_is_zero holds
tells_hop none = (not_both, λ q. cc)
tells_hop (some k) = (λ e. ap some ((tells_eq k 0).0 e), λ q. (tells_eq k 0).1 (cc))

-- what it tells
tells_hops : (n : Node) (w : What) → Tells (no_hops_left w) (NoHopsLeft n w)
unfolding no_hops_left
tells_hops n w = tells_interest n (λ f i. tells_hop i.hop) w

-- 8: whether an Interest, Data or Nack is out of scope
unfoldable pub out_of_reach : Node → What → Bool
out_of_reach n w = on_packet (λ f l. holds (out_of_scope n f) (name_in (heard l))) w

-- what it tells
tells_scope : (n : Node) (w : What) → Tells (out_of_reach n w) (OutOfScope n w)
unfolding out_of_reach out_of_scope
tells_scope n w =
    tells_as
    (tells_packet
    (λ f l. tells_holds
    (λ name. tells_and Iff.rfl (tells_not (tells_local n f))) (name_in (heard l))) w) (
      λ x. (x.0, heard x.1, comes_in_lem n x.0 _ w x.1 x.2 refl, (x.3.0, x.3.1, x.3.2.0), x.3.2.1),
      λ x. let y = hears_bytes n x.0 _ w x.2 in (x.0, y.0, y.1, (x.3.0, rw y.2 x.3.1, (x.3.2, x.4))),
    )

-- ---- entries

-- "An entry is known by name and both flags."
pub tells_known : (i : Ask) (x : Entry) → Tells (is_known i.name i.can_be_prefix i.must_be_fresh x) (Known i x)
unfolding is_known
tells_known i x =
    tells_as
    (tells_and (tells_and (tells_bytes i.name x.name) (tells_flag i.can_be_prefix x.can_be_prefix))
    (tells_flag i.must_be_fresh x.must_be_fresh))
    (λ k. record { name = k.0.0; prefix = k.0.1; fresh = k.1 }, λ k. ((k.name, k.prefix), k.fresh))

module _ (n : Node) (i : Ask) where
  -- a test of an Interest's entry
  tells_entry : {q : Entry → Bool} {Q : Entry → Type 0} → ((x : Entry) → Tells (q x) (Q x))
      → Tells (holds q (at_place (entry_of n i) n.pending)) ((x : Entry) × EntryOf n i x × Q x)
  unfolding entry_of
  tells_entry t =
      tells_first (tells_known i) t n.pending

  -- an Interest without an entry
  tells_no_entry : Tells (not (is_some (at_place (entry_of n i) n.pending))) (NoneOf (Known i) n.pending)
  unfolding entry_of
  tells_no_entry =
      tells_no_first (tells_known i) n.pending

-- a face's own in-record
tells_own : (f k : ℕ) (x : Entry) → Tells (own_nonce f k x) (InRecord x f k)
unfolding own_nonce
tells_own f k x = tells_holds (λ r. tells_eq r.nonce k) (slot f x.requests)

-- a face's own out-record
pub tells_sent : (f k : ℕ) (x : Entry) → Tells (sent_nonce f k x) (OutRecord x f k)
unfolding sent_nonce
tells_sent f k x = tells_holds (λ s. tells_eq s.nonce k) (slot f x.sent)

-- "in another face's in-record, in any out-record, or in this face's in-record"
tells_nonce : (f : ℕ) (i : Ask) (x : Entry) → Tells (has_nonce i.nonce x) (HasNonce f i x)
unfolding has_nonce
tells_nonce f i x =
    tells_as
    (tells_or (tells_slots (λ r. tells_eq r.nonce i.nonce) x.requests)
    (tells_slots (λ s. tells_eq s.nonce i.nonce) x.sent)) (
      ⊎_elim (λ y. whose (eqb y.0 f) y.0 refl y.1) (λ y. inr (inl y)),
      ⊎_elim (λ y. inl (y.0, y.2)) (⊎_elim inr (λ y. inl (f, y))),
    )
  where
    whose : (b : Bool) (g : ℕ) → eqb g f ≡ b → InRecord x g i.nonce → HasNonce f i x
    whose true g e r = inr (inr (rw (eqb-true g f e) at r))
    whose false g e r = inl (g, eqb-false g f e, r)

-- an Interest that arrived on a face: its bytes decide no answer
abbrev pub asked : ℕ → Ask → Arrival
asked f i = record { face = f; ask = i; bytes = [] }

-- 9: LOOP
module _ (now : ℕ) (n : Node) where
  -- "a live fingerprint equals this one"
  tells_dead : (i : Ask) → Tells (is_dead now (print_of i.name i.nonce) n.dead) (DeadNonce now n i)
  unfolding is_dead counts
  tells_dead i =
      tells_as
      (tells_any (λ (d : Line). tells_and (tells_eq d.print (print_of i.name i.nonce)) (tells_lt (now - d.time) dead_time))
      n.dead)
      (λ x. (x.0, x.1, x.2.0, x.2.1), λ x. (x.0, x.1, (x.2, x.3)))

  -- and "the entry has the nonce"
  tells_loop : (f : ℕ) (i : Ask) → Tells (loops now n (asked f i)) (DeadNonce now n i ⊎ EntryLoops n f i)
  unfolding loops entry_loops
  tells_loop f i =
      tells_or (tells_dead i)
      (tells_as
      (tells_entry n i (λ x. tells_and (tells_not (tells_and (tells_peer n f) (tells_own f i.nonce x))) (tells_nonce f i x)))
      (λ x. (x.0, x.1, x.2.1, x.2.0), λ x. (x.0, x.1, (x.3, x.2))))

  -- whether an event is an Interest that loops
  unfoldable pub is_loop : What → Bool
  is_loop w = on_packet (λ f l. on_ask (λ i. loops now n (asked f i)) (heard l)) w

  -- what it tells
  tells_loops : (w : What) → Tells (is_loop w) (Loops now n w)
  unfolding is_loop
  tells_loops w = tells_interest n tells_loop w

-- ---- the store

-- "A lookup may take ..": a Data that serves an Interest
pub tells_serves : (now : ℕ) (i : Ask) (d : Stored) → Tells (serves now i.name i.can_be_prefix i.must_be_fresh d) (Serves now i d)
unfolding serves
tells_serves now i d =
    tells_and
    (tells_or (tells_bytes i.name d.name) (tells_and Iff.rfl (tells_prefix i.name d.name)))
    (tells_if Iff.rfl (tells_lt now (d.time + d.freshness)))

-- a lookup finds something where something serves
lookup_any : (p : Stored → Bool) (k : ℕ) (ds : List Stored) → is_some (lookup_from p k ds) ≡ any_of p ds
unfolding lookup_from any_of earlier is_some pick
lookup_any p k [] = refl
lookup_any p k (d ∷ ds) = go (p d) (lookup_any p (suc k) ds)
  where
    found : (h : Hit) (o : Option Hit) → is_some (earlier h o) ≡ true
    found h none = refl
    found h (some j) =
        pick_ind (λ (o : Option Hit). is_some o ≡ true) (is_before (canonical_order j.what.name h.what.name)) (some j) (some h)
        (λ _. refl) (λ _. refl)

    go : (b : Bool) → is_some (lookup_from p (suc k) ds) ≡ any_of p ds
        → is_some (pick b (earlier (record { place = k; what = d }) (lookup_from p (suc k) ds)) (lookup_from p (suc k) ds)) ≡ (b || any_of p ds)
    go true ih = found (record { place = k; what = d }) (lookup_from p (suc k) ds)
    go false ih = ih

-- "No entry: look in the store"
module _ (now : ℕ) (n : Node) (i : Ask) where
  -- whether there is neither an entry nor a hit
  unfoldable pub asks_new : Bool
  asks_new =
      not (is_some (at_place (entry_of n i) n.pending))
      && not (is_some (lookup now i.name i.can_be_prefix i.must_be_fresh n.store))

  -- what it tells
  tells_new : Tells asks_new (AsksAnew now n i)
  unfolding asks_new lookup
  tells_new =
      tells_and (tells_no_entry n i)
      (rw (lookup_any (serves now i.name i.can_be_prefix i.must_be_fresh) 0 n.store) (tells_no (tells_serves now i) n.store))

-- ---- routes

-- "HopLimit is present and is 0 after lowering"
pub tells_spent : (o : Option ℕ) → Tells (spent o) ((k : ℕ) × (o ≡ some k) × (k - 1 ≡ 0))
unfolding spent holds
tells_spent none = (not_both, λ x. cc)
tells_spent (some k) = (λ e. (k, refl, (tells_eq (k - 1) 0).0 e), λ x. (tells_eq (k - 1) 0).1 (let q : x.0 ≡ k = cc in rw q at x.2))

-- "Eligible"
tells_eligible : (n : Node) (f : ℕ) (i : Ask) (h : ℕ) → Tells (eligible n (asked f i) (is_local_face n.faces f) h) (Eligible n f i h)
unfolding eligible
tells_eligible n f i h =
    rw (or_comm (is_local_face n.faces h))
    (tells_as
    (tells_and (tells_and (tells_open n h) (tells_if (tells_eq h f) (tells_ad_hoc n f)))
    (tells_if (tells_or (tells_or (tells_spent i.hop) Iff.rfl) (tells_and Iff.rfl (tells_not (tells_local n f)))) (tells_local n h))) (
      λ k. record {
        there = k.0.0;
        other = k.0.1;
        spent = λ j p q. k.1 (inl (inl (j, p, q)));
        localhost = λ p. k.1 (inl (inr p));
        localhop = λ p q. k.1 (inr (p, q));
      },
      λ k. ((k.there, k.other), ⊎_elim (⊎_elim (λ v. k.spent v.0 v.1 v.2) k.localhost) (λ v. k.localhop v.0 v.1)),
    ))

-- whether an Interest may leave on some hop of a route
unfoldable pub has_hop : Node → ℕ → Ask → Route → Bool
has_hop n f i r = any_of (λ (h : Held ℕ). eligible n (asked f i) (is_local_face n.faces f) h.face) (held r.hops)

-- "there is none or no next hop of it is eligible": whether a route, if any, has no way for an Interest
unfoldable pub no_way : Node → ℕ → Ask → Option Route → Bool
no_way n f i o = not (holds (has_hop n f i) o)

-- what it tells
tells_way : (n : Node) (f : ℕ) (i : Ask) (o : Option Route)
    → Tells (no_way n f i o) ((o ≡ none) ⊎ ((r : Route) × (o ≡ some r) × ((h : ℕ) → NextHop r h → ¬ Eligible n f i h)))
unfolding no_way has_hop holds
tells_way n f i none = (λ e. inl refl, λ x. refl)
tells_way n f i (some r) =
    let p : Held ℕ → Bool = λ h. eligible n (asked f i) (is_local_face n.faces f) h.face in
    tells_as (tells_not (tells_held p {P = λ h c. Eligible n f i h} (λ h c. tells_eligible n f i h) r.hops))
    (λ k. inr (r, refl, λ h x y. k (h, x.0, x.1, y)), holding)
  where
    holding : (some r ≡ none) ⊎ ((s : Route) × (some r ≡ some s) × ((h : ℕ) → NextHop s h → ¬ Eligible n f i h))
        → ¬ ((h : ℕ) × (c : ℕ) × (slot h r.hops ≡ some c) × Eligible n f i h)
    holding (inl e) k = let z : ◌≡◌ {A = ℕ} 0 1 = cc in omega arith
    holding (inr x) k = let q : x.0 ≡ r = cc in (rw q at x.2) k.0 (k.1, k.2) k.3

-- the use of a class with one entry more
used_with : (p : Class → Bool) (es : List Entry) (e : Entry) → used_by p (es ++ (e ∷ [])) ≡ use_with p e.cls es
unfolding used_by only pick
used_with p [] e = go (p e.cls)
  where
    go : (b : Bool) → length (pick b (e ∷ []) []) ≡ 0 + pick b 1 0
    go true = refl
    go false = refl
used_with p (x ∷ es) e = go (p x.cls) (used_with p es e)
  where
    go : (b : Bool) → length (only (λ (y : Entry). p y.cls) (es ++ (e ∷ []))) ≡ use_with p e.cls es
        → length (pick b (x ∷ only (λ (y : Entry). p y.cls) (es ++ (e ∷ []))) (only (λ (y : Entry). p y.cls) (es ++ (e ∷ []))))
        ≡ length (pick b (x ∷ only (λ (y : Entry). p y.cls) es) (only (λ (y : Entry). p y.cls) es)) + pick (p e.cls) 1 0
    go true ih = omega arith
    go false ih = ih

-- "counting the new entry"
pub room_with_lem : (es : List Entry) (e : Entry) → room_taken (es ++ (e ∷ [])) ≡ room_with e.cls es
unfolding room_taken taken_by
room_with_lem es e =
    rw (used_with (is_of alarm) es e, used_with (is_of monitoring) es e, used_with (is_of bulk) es e, used_with (λ d. not (is_class d)) es e)

-- whether a new entry of a route's class finds no room
unfoldable pub is_full : Node → Route → Bool
is_full n r = ltb most_entries (room_with r.cls n.pending)

-- 10 and 11, for an Interest
module _ (now : ℕ) (n : Node) where
  -- whether an Interest finds no route
  unfoldable pub is_unrouted : ℕ → Ask → Bool
  is_unrouted f i = asks_new now n i && no_way n f i (longest i.name n.routes)

  -- what it tells
  tells_unrouted : (f : ℕ) (i : Ask) → Tells (is_unrouted f i) (AsksAnew now n i × NoWay n f i)
  unfolding is_unrouted
  tells_unrouted f i =
      let o = longest i.name n.routes in
      tells_and (tells_new now n i)
      (tells_as (tells_way n f i o) (
        ⊎_elim (λ q. inl ((longest_none i.name n.routes).0 q))
            (λ x. inr (x.0, (longest_is i.name n.routes x.0).0 x.1, x.2)),
        ⊎_elim (λ h. inl ((longest_none i.name n.routes).1 h))
            (λ x. inr (x.0, (longest_is i.name n.routes x.0).1 x.1, x.2)),
      ))

  -- whether an Interest finds no room
  unfoldable pub is_crowded : Ask → Bool
  is_crowded i = asks_new now n i && holds (is_full n) (longest i.name n.routes)

  -- what it tells
  tells_crowd : (i : Ask) → Tells (is_crowded i) (AsksAnew now n i × Full n i)
  unfolding is_crowded is_full
  tells_crowd i =
      let o = longest i.name n.routes in
      tells_and (tells_new now n i)
      (tells_as (tells_holds (λ (r : Route). tells_lt most_entries (room_with r.cls n.pending)) o) (
        λ x. (x.0, (longest_is i.name n.routes x.0).0 x.1, x.2),
        λ x. (x.0, (longest_is i.name n.routes x.0).1 x.1, x.2),
      ))

  -- 11: whether an event is such an Interest
  unfoldable pub crowded : What → Bool
  crowded w = on_packet (λ f l. on_ask is_crowded (heard l)) w

  -- what it tells
  tells_crowded : (w : What) → Tells (crowded w) (Crowded now n w)
  unfolding crowded
  tells_crowded w =
      tells_as (tells_interest n (λ f i. tells_crowd i) w)
      (λ x. (x.0, x.1, x.2, x.3.0, x.3.1), λ x. (x.0, x.1, x.2, (x.3, x.4)))

-- ---- Data and Nacks

-- "Data matches an entry of equal name, or with CanBePrefix and a name that is its prefix."
pub tells_matches : (d : Offer) (x : Entry) → Tells (matches d.name x) (Matches d x)
unfolding matches
tells_matches d x =
    tells_or (tells_bytes x.name d.name) (tells_and Iff.rfl (tells_prefix x.name d.name))

-- 12: whether a Data matches no entry
unfoldable pub is_unasked : Node → Offer → Bool
is_unasked n d = is_empty (only (matches d.name) n.pending)

-- whether an event is such a Data
unfoldable pub unasked : Node → What → Bool
unasked n w = on_packet (λ f l. on_offer (is_unasked n) (heard l)) w

-- what it tells
tells_unasked : (n : Node) (w : What) → Tells (unasked n w) (Unasked n w)
unfolding unasked is_unasked
tells_unasked n w =
    tells_data n (λ f d. rw (only_none (matches d.name) n.pending) (tells_no (tells_matches d) n.pending)) w

-- 13: whether a Nack is stale
unfoldable pub is_stale : Node → ℕ → Ask → Bool
is_stale n f i = not (is_peer n.faces f) || not (holds (sent_nonce f i.nonce) (at_place (entry_of n i) n.pending))

-- whether an event is such a Nack
unfoldable pub stale : Node → What → Bool
stale n w = on_packet (λ f l. on_nack (is_stale n f) (heard l)) w

-- what it tells
tells_stale : (n : Node) (w : What) → Tells (stale n w) (Stale n w)
unfolding stale is_stale
tells_stale n w = tells_nack n told w
  where
    told : (f : ℕ) (i : Ask) → Tells (is_stale n f i) ((¬ PointToPoint n f) ⊎ ((x : Entry) → EntryOf n i x → ¬ OutRecord x f i.nonce))
    told f i =
        tells_or (tells_not (tells_peer n f))
        (tells_as (tells_not (tells_entry n i (tells_sent f i.nonce))) (λ h x e o. h (x, e, o), λ h x. h x.0 x.1 x.2))

-- ---- commands

-- an element of a kind is there where its place is one of the list's
found_nth : {A : Type 0} (p : A → Bool) (l : List A) → ltb (index_of p l) (length l) ≡ is_some (at_place (index_of p l) l)
unfolding index_of at_place is_some pick
found_nth p [] = refl
found_nth p (a ∷ l) = go (p a) (found_nth p l)
  where
    go : (b : Bool) → ltb (index_of p l) (length l) ≡ is_some (at_place (index_of p l) l)
        → ltb (pick b 0 (suc (index_of p l))) (suc (length l)) ≡ is_some (at_place (pick b 0 (suc (index_of p l))) (a ∷ l))
    go true ih = lt-ltb 0 (suc (length l)) (omega arith)
    go false ih = leb-suc-suc (suc (index_of p l)) (length l) ∙ ih

module _ (n : Node) (q : List ℕ) where
  -- whether a prefix is known
  unfoldable pub is_route : Bool
  is_route = ltb (route_of q n.routes) (length n.routes)

  -- that it is not
  tells_prefixes : Tells (not is_route) (NoPrefix n q)
  unfolding is_route route_of
  tells_prefixes =
      rw (found_nth (λ (r : Route). same_bytes q r.name) n.routes)
      (tells_no_first (λ r. tells_bytes q r.name) n.routes)

  -- whether a prefix has a hop
  unfoldable pub is_hop : ℕ → Bool
  is_hop f = is_some (hop_at f (route_of q n.routes) n.routes)

-- the hop at a place
hop_nth : (f k : ℕ) (rs : List Route) → is_some (hop_at f k rs) ≡ holds (λ (r : Route). is_some (slot f r.hops)) (at_place k rs)
unfolding hop_at given holds is_some
hop_nth f k rs = go (at_place k rs)
  where
    go : (o : Option Route) → is_some (given none (λ (r : Route). slot f r.hops) o) ≡ holds (λ (r : Route). is_some (slot f r.hops)) o
    go none = refl
    go (some r) = refl

-- a prefix that is not known has no hop
pub no_route_no_hop : (n : Node) (f : ℕ) (q : List ℕ) → is_route n q ≡ false → is_hop n q f ≡ false
unfolding is_route is_hop route_of is_some holds
no_route_no_hop n f q e =
    let p : Route → Bool = λ r. same_bytes q r.name in
    let k = index_of p n.routes in
    hop_nth f k n.routes ∙ go (at_place k n.routes) (sym (found_nth p n.routes) ∙ e)
  where
    go : (o : Option Route) → is_some o ≡ false → holds (λ (r : Route). is_some (slot f r.hops)) o ≡ false
    go none e = refl
    go (some r) e = not_both (sym e)

-- a prefix without a hop
tells_hop_absent : (n : Node) (f : ℕ) (q : List ℕ)
    → Tells (not (is_hop n q f)) (NoHop n f q)
unfolding is_hop route_of
tells_hop_absent n f q =
    rw (hop_nth f (index_of (λ (r : Route). same_bytes q r.name) n.routes) n.routes)
    (tells_as (tells_not (tells_first (λ r. tells_bytes q r.name) (λ r. tells_some (slot f r.hops)) n.routes)) (
      λ h r x. nothing (slot f r.hops) (λ k e. h (r, x, (k, e))),
      λ h x. let y = h x.0 x.1 in let z : ◌≡◌ {A = ℕ} 0 1 = cc in omega arith,
    ))
  where
    nothing : (o : Option ℕ) → ((k : ℕ) → ¬ (o ≡ some k)) → o ≡ none
    nothing none h = refl
    nothing (some k) h = absurd (h k refl)

-- 10
module _ (now : ℕ) (n : Node) (w : What) where
  -- whether an Interest has no way, or a command is on something absent
  unfoldable pub no_route_for : Bool
  no_route_for =
      test_of (λ f l. on_ask (is_unrouted now n f) (heard l)) no₃ no₂ (λ q. not (is_route n q)) (λ f k q. not (is_route n q))
      (λ f q. not (is_hop n q f)) w

  -- what it tells
  tells_no_route : Tells no_route_for (Unrouted now n w ⊎ Absent n w)
  unfolding no_route_for
  tells_no_route =
      tells_as
      (tells_event (λ f l. tells_ask (tells_unrouted now n f) (heard l)) never₃ never₂ (tells_prefixes n) (λ f cost q. tells_prefixes n q)
      (tells_hop_absent n) w)
      (told, holding)
    where
      Cases : What → Type 0
      Cases =
          Told (λ f l. (i : Ask) × ((bytes : List ℕ) × (heard l ≡ asks i bytes)) × (AsksAnew now n i × NoWay n f i)) (λ f k j. ⊥) (λ c q. ⊥)
          (NoPrefix n) (λ f cost q. NoPrefix n q) (NoHop n)

      told : Cases w → Unrouted now n w ⊎ Absent n w
      told (of_packet f l e x) = inl (f, x.0, (x.1.0, comes_in_lem n f _ w l e x.1.1), x.2.0, x.2.1)
      told (of_opening f scope link e x) = absurd x
      told (of_setting c q e x) = absurd x
      told (of_dropping q e x) = inr (inl (q, e, x))
      told (of_adding f cost q e x) = inr (inr (inl (f, cost, q, e, x)))
      told (of_drop_hop f q e x) = inr (inr (inr (f, q, e, x)))

      holding : Unrouted now n w ⊎ Absent n w → Cases w
      holding (inl x) =
          let y = hears_bytes n x.0 _ w x.2.1 in of_packet x.0 y.0 y.1 (x.1, (x.2.0, y.2), (x.3, x.4))
      holding (inr (inl x)) = of_dropping x.0 x.1 x.2
      holding (inr (inr (inl x))) = of_adding x.0 x.1 x.2 x.3 x.4
      holding (inr (inr (inr x))) = of_drop_hop x.0 x.1 x.2 x.3

-- 16
module _ (n : Node) (w : What) where
  -- whether a prefix is not known and there is no place for it
  unfoldable pub no_place : Bool
  no_place = test_of no₂ no₃ (λ c q. not (is_route n q) && leb most_routes (length n.routes)) no₁ no₃ no₂ w

  -- what it tells
  tells_no_place : Tells no_place (NoPlace n w)
  unfolding no_place
  tells_no_place =
      tells_as
      (tells_event never₂ never₃ (λ c q. tells_and (tells_prefixes n q) (tells_le most_routes (length n.routes))) never₁ never₃ never₂ w)
      (told, λ x. of_setting x.0 x.1 x.2 (x.3, x.4))
    where
      told : Told (λ f l. ⊥) (λ f k j. ⊥) (λ c q. NoPrefix n q × (most_routes ≤ length n.routes)) (λ q. ⊥) (λ f k q. ⊥) (λ f q. ⊥) w
          → NoPlace n w
      told (of_packet f l e x) = absurd x
      told (of_opening f scope link e x) = absurd x
      told (of_setting c q e x) = (c, q, e, x.0, x.1)
      told (of_dropping q e x) = absurd x
      told (of_adding f cost q e x) = absurd x
      told (of_drop_hop f q e x) = absurd x

-- ---- all checks

module _ (faces least : ℕ) (e : Event) (n : Node) where
  -- the test of each check
  unfoldable pub test : Check → Bool
  test Clock = bad_time n e.time
  test SmallBuffer = ltb e.room least
  test BadFace = bad_face faces n e.what
  test FaceOpen = opens_open (aged e.time n) e.what
  test PacketSize = long_packet e.what
  test Malformed = broken_bytes e.what
  test Unsupported = marked_bytes e.what
  test NameSize = long_name e.what
  test BadSetting = wrong_setting e.what
  test HopLimit = no_hops_left e.what
  test Scope = out_of_reach (aged e.time n) e.what
  test Loop = is_loop e.time (aged e.time n) e.what
  test NoRoute = no_route_for e.time (aged e.time n) e.what
  test NoRoom = crowded e.time (aged e.time n) e.what
  test Unsolicited = unasked (aged e.time n) e.what
  test StaleNack = stale (aged e.time n) e.what
  test TableFull = no_place (aged e.time n) e.what

  -- tells when it applies
  pub tells : (c : Check) → Tells (test c) (Applies faces least e n c)
  unfolding test bad_time
  tells Clock = tells_or (tells_lt e.time n.time) (tells_lt most_time e.time)
  tells SmallBuffer = tells_lt e.room least
  tells BadFace = tells_face faces n e.what
  tells FaceOpen = tells_opens (aged e.time n) e.what
  tells PacketSize = tells_long_packet e.what
  tells Malformed = tells_broken e.what (aged e.time n)
  tells Unsupported = tells_marked e.what (aged e.time n)
  tells NameSize = tells_long_name e.what
  tells BadSetting = tells_setting e.what
  tells HopLimit = tells_hops (aged e.time n) e.what
  tells Scope = tells_scope (aged e.time n) e.what
  tells Loop = tells_loops e.time (aged e.time n) e.what
  tells NoRoute = tells_no_route e.time (aged e.time n) e.what
  tells NoRoom = tells_crowded e.time (aged e.time n) e.what
  tells Unsolicited = tells_unasked (aged e.time n) e.what
  tells StaleNack = tells_stale (aged e.time n) e.what
  tells TableFull = tells_no_place (aged e.time n) e.what
