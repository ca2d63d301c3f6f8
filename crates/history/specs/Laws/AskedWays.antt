-- The ways in which a pending entry comes to stand after an event, and for which of them an Interest is: it stood before with the same
-- out-records and the same requests or more, and the event made nothing of it; an Interest for it opened it or joined it; a Nack for it
-- was noted; or a face was closed.
-- Assumes nothing.
use Prim.Native.Nat.{ℕ, zero, suc, ◌≤◌}
use Rattle.std.specs.Prelude.{◌≡◌, refl, Bool, true, false, List, [], ◌∷◌, get_or, set, eqb}
use Rattle.std.proofs.Math.Path.{sym}
use Rattle.std.proofs.Common.{◌∙◌, arith}
use Rattle.std.specs.Bool.{beq}
use Rattle.std.proofs.Math.Option.{Option, none, some}
use Rattle.std.proofs.Math.ListN.{length}
use borrow.Author.Tests.{eqb-true, eqb-false}
use Rattle.laws.specs.Pick.{pick}
use Rattle.laws.specs.Laws.Pick.{pick_ind}
use Rattle.laws.specs.Lists.{on_at, without, index_of}
use Rattle.names.specs.Name.{same_bytes}
use Rattle.names.specs.Laws.Same.{same_refl, same_equal, same_not}
use Rattle.packets.specs.Meaning.{Ask, Heard, refused, asks, brings, nacks}
use Rattle.records.specs.Slots.{no_slots, slot, set_slot, given, Held, any_of, at_place}
use Rattle.records.specs.Laws.Slot.{slot_set_same, slot_set_other, set_slot_keeps}
use Rattle.records.specs.Face.{Face, is_open}
use Rattle.records.specs.Route.{Route, longest}
use Rattle.records.specs.Entry.{Request, Sent, Entry, is_known, with_requests, with_sent, not_asking, not_sent, if_live, aged_entry, mark_nacked}
use Rattle.records.specs.Closing.{without_face}
use Rattle.rules.specs.Node.{Node, What, packet, clock, open_face, close_face, set_route, drop_route, add_hop, drop_hop}
use Rattle.incoming.specs.Incoming.{came_in, heard_in}
use Rattle.history.specs.Lists.{All, nothing, both, In, Apart}
use Rattle.history.specs.Moments.{Moment, now, met, is_done}
use Rattle.history.specs.Shape.{OtherEntry}
use Rattle.history.specs.TakenIn.{request_at}
use Rattle.history.specs.Asked.{Want, want_of, is_for, sends_on, is_pending, closes_face}
use Rattle.history.specs.Laws.Every.{not_none, all_mono}
use Rattle.history.specs.Laws.Apart.{none_found, others_fail}
use Rattle.history.specs.Laws.Known.{differs, entry_none, known_is, known_same}
use Rattle.history.specs.Laws.Holding.{has_some, slot_low, slot_within}
use Rattle.history.specs.Laws.Tables.{slot_live}

-- ---- the ways

-- what came in with an event
abbrev pub came : Moment → Option (Held Heard)
came m = heard_in (met m) m.event.what

-- whether a packet is for an entry that is known so
unfoldable pub concerns : Want → Heard → Bool
concerns k (asks i bytes) = is_for k i
concerns k (nacks reason i) = is_for k i
concerns k (refused a) = false
concerns k (brings d bytes) = false

-- an event makes nothing of an entry: it is refused, or brings no packet and closes no face, or brings a packet that is not for it
pub data Silent (m : Moment) (k : Want) : Type 0 where
  refuses : is_done m.outcome.answer ≡ false → Silent m k
  no_packet : came m ≡ none → ((f : ℕ) → closes_face f m.event.what ≡ false) → Silent m k
  another : (g : ℕ) (h : Heard) → came m ≡ some (record { face = g; what = h }) → concerns k h ≡ false → Silent m k

-- an entry of the same name, flags, class and out-records as another, with its requests or fewer
pub record Within (y x : Entry) : Type 0 where
  pub want : want_of y ≡ want_of x
  pub cls : y.cls ≡ x.cls
  pub requests : (f : ℕ) (r : Request) → slot f y.requests ≡ some r → slot f x.requests ≡ some r
  pub outs : (f : ℕ) → slot f y.sent ≡ slot f x.sent

-- an Interest for an entry is accepted: each request is the new one, on its face, or one of rs; the face where it leaves has the new
-- out-record, and each other face has what it has in ss
pub record ByInterest (m : Moment) (y : Entry) (rs : List (Option Request)) (ss : List (Option Sent)) : Type 0 where
  pub face : ℕ
  pub ask : Ask
  pub bytes : List ℕ
  pub comes : came m ≡ some (record { face = face; what = asks ask bytes })
  pub fits : is_for (want_of y) ask ≡ true
  pub done : is_done m.outcome.answer ≡ true
  pub requests : (f : ℕ) (r : Request) → slot f y.requests ≡ some r
      → pick (eqb face f) (some (request_at (now m) ask)) (slot f rs) ≡ some r
  pub outs : (f : ℕ) → slot f y.sent
      ≡ pick (sends_on f m.outcome.sends) (some (record { nonce = ask.nonce; time = now m; nacked = none })) (slot f ss)

-- a Nack for the entry x is accepted: its face's out-record is marked, all others are as they were, and requests may have ended
pub record ByNack (m : Moment) (y x : Entry) : Type 0 where
  pub face : ℕ
  pub reason : ℕ
  pub ask : Ask
  pub comes : came m ≡ some (record { face = face; what = nacks reason ask })
  pub fits : is_for (want_of y) ask ≡ true
  pub done : is_done m.outcome.answer ≡ true
  pub want : want_of y ≡ want_of x
  pub cls : y.cls ≡ x.cls
  pub requests : (f : ℕ) (r : Request) → slot f y.requests ≡ some r → slot f x.requests ≡ some r
  pub outs : (f : ℕ) → slot f y.sent ≡ pick (eqb face f) (mark_nacked reason (slot f x.sent)) (slot f x.sent)

-- a face is closed: of the entry x its out-record is gone, all others are as they were, and a request may have ended
pub record ByClosing (m : Moment) (y x : Entry) : Type 0 where
  pub face : ℕ
  pub comes : came m ≡ none
  pub closes : (f : ℕ) → closes_face f m.event.what ≡ eqb face f
  pub done : is_done m.outcome.answer ≡ true
  pub want : want_of y ≡ want_of x
  pub cls : y.cls ≡ x.cls
  pub requests : (f : ℕ) (r : Request) → slot f y.requests ≡ some r → slot f x.requests ≡ some r
  pub outs : (f : ℕ) → slot f y.sent ≡ pick (eqb face f) none (slot f x.sent)

-- where an entry comes from that stands after an event
pub data From (m : Moment) (y : Entry) : Type 0 where
  -- it stood, and the event makes nothing of it
  stood : (x : Entry) → In x (met m).pending → Within y x → Silent m (want_of y) → From m y
  -- no entry was known so, and an Interest opened it by the longest route
  opened : (n : ℕ) (q : ByInterest m y (no_slots n) (no_slots n)) (r : Route)
      → is_pending (want_of y) m ≡ false
      → longest q.ask.name (met m).routes ≡ some r → r.cls ≡ y.cls → From m y
  -- it stood, and an Interest joined it
  joined : (x : Entry) → In x (met m).pending → want_of y ≡ want_of x → y.cls ≡ x.cls → ByInterest m y x.requests x.sent
      → From m y
  -- it stood, and a Nack was noted
  marked : (x : Entry) → In x (met m).pending → ByNack m y x → From m y
  -- it stood, and a face was closed
  shut : (x : Entry) → In x (met m).pending → ByClosing m y x → From m y

-- an event that brings a packet closes no face
pub packet_closes : (f : ℕ) (n : Node) (w : What) (h : Held Heard) → heard_in n w ≡ some h → closes_face f w ≡ false
unfolding closes_face heard_in came_in given
packet_closes f n (packet g l) h e = refl
packet_closes f n clock h e = refl
packet_closes f n (open_face g scope link) h e = refl
packet_closes f n (close_face g) h e = not_none e
packet_closes f n (set_route c p) h e = refl
packet_closes f n (drop_route p) h e = refl
packet_closes f n (add_hop g cost p) h e = refl
packet_closes f n (drop_hop g p) h e = refl

-- ---- what an Interest is for

-- the same bytes either way round
same_sym : (a b : List ℕ) → same_bytes a b ≡ same_bytes b a
same_sym a b = go (same_bytes b a) refl
  where
    go : (x : Bool) → same_bytes b a ≡ x → same_bytes a b ≡ x
    go true e = rw (same_equal b a e) (same_refl a)
    go false e = differs a b (λ q. same_not b a e (sym q))

-- the same flags either way round
flag_sym : (a b : Bool) → beq a b ≡ beq b a
flag_sym true true = refl
flag_sym true false = refl
flag_sym false true = refl
flag_sym false false = refl

-- an Interest is for the entry exactly if the entry is known by its name and flags
for_known : (i : Ask) (y : Entry) → is_for (want_of y) i ≡ is_known i.name i.can_be_prefix i.must_be_fresh y
unfolding is_for is_known
for_known i y =
    rw (same_sym y.name i.name, flag_sym y.can_be_prefix i.can_be_prefix, flag_sym y.must_be_fresh i.must_be_fresh)

-- an Interest is for an entry of its name and flags
pub is_for_lem : (i : Ask) (y : Entry) → y.name ≡ i.name → y.can_be_prefix ≡ i.can_be_prefix → y.must_be_fresh ≡ i.must_be_fresh
    → is_for (want_of y) i ≡ true
is_for_lem i y a b c = for_known i y ∙ known_same i.name i.can_be_prefix i.must_be_fresh y a b c

-- where no entry is known by an Interest's name and flags, it is for none of them
pub none_for : (i : Ask) (es : List Entry) → at_place (index_of (is_known i.name i.can_be_prefix i.must_be_fresh) es) es ≡ none
    → All (λ y. is_for (want_of y) i ≡ false) es
none_for i es e =
    all_mono (λ y k. for_known i y ∙ k) (none_found (is_known i.name i.can_be_prefix i.must_be_fresh) es (entry_none _ es e))

-- an entry other than the one that is known so is not known so
not_other : (i : Ask) (a b : Entry) → is_known i.name i.can_be_prefix i.must_be_fresh a ≡ true → OtherEntry a b
    → is_known i.name i.can_be_prefix i.must_be_fresh b ≡ false
not_other i a b k d = go (is_known i.name i.can_be_prefix i.must_be_fresh b) refl
  where
    go : (x : Bool) → is_known i.name i.can_be_prefix i.must_be_fresh b ≡ x → x ≡ false
    go true e =
        let u = known_is i.name i.can_be_prefix i.must_be_fresh a k in
        let v = known_is i.name i.can_be_prefix i.must_be_fresh b e in
        absurd (d (u.0 ∙ sym v.0) (u.1.0 ∙ sym v.1.0) (u.1.1 ∙ sym v.1.1))
    go false e = refl

-- of entries apart, an Interest is for none but the one at its place
pub others_for : (i : Ask) (es : List Entry) → Apart OtherEntry es
    → All (λ y. is_for (want_of y) i ≡ false) (without (index_of (is_known i.name i.can_be_prefix i.must_be_fresh) es) es)
others_for i es s =
    all_mono (λ y k. for_known i y ∙ k) (others_fail (is_known i.name i.can_be_prefix i.must_be_fresh) (not_other i) s)

-- a test that fails of each element holds of none
pub any_none : {A : Type 0} (p : A → Bool) {l : List A} → All (λ a. p a ≡ false) l → any_of p l ≡ false
unfolding any_of
any_none p nothing = refl
any_none p (both e h) = rw (e, any_none p h)

-- what holds of an element and of those beside a place holds of the list with that element at the place
pub all_put : {A : Type 0} {P : A → Type 0} (i : ℕ) (z : A) (l : List A) → P z → All P (without i l) → All P (on_at i (λ _. z) l)
unfolding without on_at
all_put i z [] p h = nothing
all_put zero z (a ∷ l) p h = both p h
all_put (suc i) z (a ∷ l) p (both q h) = both q (all_put i z l p h)

-- ---- slots

module _ {A : Type 0} where
  -- what stands in the slot that was set is what it was set to
  own_place : (i : ℕ) (x : Option A) (l : List (Option A)) (a : A) → get_or (set l i x) i none ≡ some a → x ≡ some a
  own_place i x [] a e = not_none e
  own_place zero x (y ∷ l) a e = e
  own_place (suc i) x (y ∷ l) a e = own_place i x l a e

  -- so with a face
  own_slot : (f : ℕ) (x : Option A) (l : List (Option A)) (a : A) → slot f (set_slot f x l) ≡ some a → x ≡ some a
  unfolding slot set_slot
  own_slot zero x l a e = not_none e
  own_slot (suc i) x l a e = own_place i x l a e

  -- what stands in a slot after one was set is what was set, or stood there
  pub slot_set : (g f : ℕ) (x : Option A) (l : List (Option A)) (a : A) → slot f (set_slot g x l) ≡ some a
      → pick (eqb g f) x (slot f l) ≡ some a
  slot_set g f x l a e =
      pick_ind (λ (y : Option A). y ≡ some a) (eqb g f) x (slot f l)
      (λ q. own_slot f x l a (rw (eqb-true g f q) at e))
      (λ q. sym (slot_set_other g f x l (λ z. eqb-false g f q (sym z))) ∙ e)

  -- what stands in a slot after one was emptied stood there
  slot_left : (g f : ℕ) (l : List (Option A)) (a : A) → slot f (set_slot g none l) ≡ some a → slot f l ≡ some a
  slot_left g f l a e = set_slot_keeps (λ (y : Option A). y ≡ some a → slot f l ≡ some a) g f none l (λ q. not_none q) (λ q. q) e

  -- a slot after that of an open face was set is what was set, or as it was
  pub slot_open : (fs : List (Option Face)) (g f : ℕ) (x : Option A) (l : List (Option A)) → is_open fs g ≡ true → length l ≡ length fs
      → slot f (set_slot g x l) ≡ pick (eqb g f) x (slot f l)
  unfolding is_open
  slot_open fs g f x l o e =
      let k = has_some (slot g fs) o in
      let high : g ≤ length fs = slot_within g fs k.0 k.1 in
      pick_ind (λ (y : Option A). slot f (set_slot g x l) ≡ y) (eqb g f) x (slot f l)
      (λ q. rw (← eqb-true g f q) (slot_set_same g x l (slot_low g fs k.0 k.1) (omega (arith, e))))
      (λ q. slot_set_other g f x l (λ z. eqb-false g f q (sym z)))

  module _ (h : Option A → Option A) (n : h none ≡ none) where
    -- a place that was changed by what leaves an empty one empty is changed so
    place_changed : (i : ℕ) (l : List (Option A)) → get_or (set l i (h (get_or l i none))) i none ≡ h (get_or l i none)
    place_changed i [] = sym n
    place_changed zero (y ∷ l) = refl
    place_changed (suc i) (y ∷ l) = place_changed i l

    -- so with a face
    own_changed : (g : ℕ) (l : List (Option A)) → slot g (set_slot g (h (slot g l)) l) ≡ h (slot g l)
    unfolding slot set_slot
    own_changed zero l = sym n
    own_changed (suc i) l = place_changed i l

    -- where a slot was changed so, any other is as it was
    pub slot_changed : (g f : ℕ) (l : List (Option A)) → slot f (set_slot g (h (slot g l)) l) ≡ pick (eqb g f) (h (slot f l)) (slot f l)
    slot_changed g f l =
        pick_ind (λ (y : Option A). slot f (set_slot g (h (slot g l)) l) ≡ y) (eqb g f) (h (slot f l)) (slot f l)
        (λ q. rw (← eqb-true g f q) (own_changed g l))
        (λ q. slot_set_other g f (h (slot g l)) l (λ z. eqb-false g f q (sym z)))

-- ---- entries

-- an entry is within itself
pub within_self : (x : Entry) → Within x x
within_self x = record { want = refl; cls = refl; requests = λ f r e. e; outs = λ f. refl }

-- a request that lives after ageing stood
live_stood : (now : ℕ) (x : Option Request) (r : Request) → if_live now x ≡ some r → x ≡ some r
unfolding if_live
live_stood now none r e = e
live_stood now (some q) r e =
    pick_ind (λ (y : Option Request). y ≡ some r → some q ≡ some r) _ (some q) none (λ _ k. k) (λ _ k. not_none k) e

-- an aged entry is within what it was
pub within_aged : (now : ℕ) (x : Entry) → Within (aged_entry now x) x
unfolding aged_entry with_requests
within_aged now x = record {
  want = refl;
  cls = refl;
  requests = λ f r e. live_stood now (slot f x.requests) r (sym (slot_live now f x.requests) ∙ e);
  outs = λ f. refl;
}

-- an entry without a face's records, where that face is closed
pub by_closing : (m : Moment) (g : ℕ) (x : Entry) → m.event.what ≡ close_face g → is_done m.outcome.answer ≡ true
    → ByClosing m (without_face g x) x
unfolding not_asking not_sent with_requests with_sent heard_in came_in given closes_face
by_closing m g x e d = record {
  face = g;
  comes = rw e;
  closes = λ f. rw e;
  done = d;
  want = refl;
  cls = refl;
  requests = λ f r k. slot_left g f x.requests r k;
  outs = λ f. slot_changed (λ _. none) refl g f x.sent;
}
