-- What is owed to a class, of each event: NO_ROOM is given only where the class of the Interest's longest route has used its reserve
-- (`room_full`); ageing makes no class used more (`room_ages`); the use of a class grows only by an Interest whose longest route has that
-- class, by one at most (`room_grows`); the room taken stays within 64 (`room_most`), and so no class uses the reserves of the others
-- (`most_uses`).
-- Assumes nothing.
use Rattle.std.specs.Prelude.{ℕ, ◌+◌, ◌-◌, ◌≤◌, ◌<◌, ◌≡◌, Bool, true, false, not, ◌⊎◌, eqb}
use Rattle.std.proofs.Math.Path.{refl}
use Rattle.std.proofs.Common.{sym, ◌∙◌, ap, eqb-true, arith}
use mathlib.Core.List.{List, map}
use Rattle.std.proofs.Math.Logic.{inl, inr, ⊎_elim}
use Rattle.std.proofs.Math.Option.{Option, none, some}
use Rattle.answers.specs.declared.Answer.{Answer}
use Rattle.laws.specs.Pick.{pick}
use Rattle.laws.specs.Laws.Pick.{pick_ind, pick_yes, pick_no}
use Rattle.laws.specs.Lists.{on_at, without}
use Rattle.names.specs.Laws.Same.{both}
use Rattle.sizes.specs.Sizes.{most_entries}
use Rattle.records.specs.Class.{Class, alarm, monitoring, bulk, no_class, class_of, class_number, is_class, reserve, is_of}
use Rattle.records.specs.Slots.{given, only, at_place}
use Rattle.records.specs.Route.{Route, longest}
use Rattle.records.specs.Entry.{Entry, with_requests, with_sent, asking, not_asking, ending, sending, not_sent, is_idle, aged_entry, with_nack, used_by, taken_by, room_taken}
use Rattle.records.specs.Ageing.{staying, becoming, aged_pending}
use Rattle.records.specs.Closing.{without_face}
use Rattle.records.specs.Laws.Use.{used_last}
use Rattle.rules.specs.Node.{Node, What, Event}
use Rattle.rules.specs.Outcome.{Outcome, quiet, nack_for}
use Rattle.rules.specs.Ageing.{aged}
use Rattle.rules.specs.Interest.{Arrival, new_entry, opens_entry, resends, sends_on, renews, asks_again, served}
use Rattle.rules.specs.Data.{satisfies}
use Rattle.rules.specs.Nack.{settled, ends_by_nack}
use Rattle.rules.specs.Command.{close_step}
use Rattle.rules.specs.Step.{after_ageing, step}
use Rattle.refusals.specs.Refusals.{Check, Clock, SmallBuffer, BadFace, FaceOpen, PacketSize, Malformed, Unsupported, NameSize, BadSetting, HopLimit, Scope, Loop, NoRoute, NoRoom, Unsolicited, StaleNack, TableFull, answer_of, Crowded, room_with}
use Rattle.refusals.specs.Laws.Longest.{longest_is}
use Rattle.refusals.specs.Laws.Exactly.{exactly}
use Rattle.history.specs.Moments.{moment}
use Rattle.history.specs.Room.{uses, Routed, RoomOwed}
use Rattle.history.specs.Shape.{Shaped}
use Rattle.history.specs.Laws.Becomes.{HoldsInterest, arrival, asked, Past, Becomes, ignored, taken, becomes}
use Rattle.history.specs.Laws.Becomes as case
use Rattle.history.specs.Laws.Known.{entry_changed, with_request, sent_on, without_peer}
use Rattle.history.specs.Laws.Room.{only_fewer, without_fewer, map_as_many, on_at_as_many}
use Rattle.history.specs.Laws.ShapeKept.{aged_shaped, step_shaped}

-- ---- what a class can use

-- where the room taken is within 64, a class is used by no more entries than 64 less the reserves of the other two
pub most_uses : (es : List Entry) → room_taken es ≤ most_entries
    → (used_by (is_of alarm) es ≤ most_entries - reserve monitoring - reserve bulk)
    × (used_by (is_of monitoring) es ≤ most_entries - reserve alarm - reserve bulk)
    × (used_by (is_of bulk) es ≤ most_entries - reserve alarm - reserve monitoring)
unfolding room_taken taken_by reserve
most_uses es h = (omega arith, omega arith, omega arith)

-- where an entry more of a class goes past 64 and those that stand do not, they use the reserve of that class; what is no class has none
reserve_used : (c : Class) (es : List Entry) → room_taken es ≤ most_entries → most_entries < room_with c es → reserve c ≤ used_by (is_of c) es
unfolding room_taken taken_by reserve is_of is_class class_number pick
reserve_used alarm es a b = omega arith
reserve_used monitoring es a b = omega arith
reserve_used bulk es a b = omega arith
reserve_used (no_class k) es a b = omega arith

-- each of the three is the class of its number
class_of_number : (c : Class) → is_class c ≡ true → class_of (class_number c) ≡ c
unfolding class_of class_number is_class pick
class_of_number alarm t = refl
class_of_number monitoring t = refl
class_of_number bulk t = refl
class_of_number (no_class k) t = absurd (let z : ◌≡◌ {A = ℕ} 0 1 = cc in omega arith)

-- what counts as of one of the three is of it
of_class : (c d : Class) → is_class c ≡ true → is_of c d ≡ true → d ≡ c
unfolding is_of
of_class c d t e =
    let b = both (is_class d) (eqb (class_number d) (class_number c)) e in
    sym (class_of_number d b.0) ∙ ap class_of (eqb-true (class_number d) (class_number c) b.1) ∙ class_of_number c t

-- ---- the uses after a change

module _ (p : Class → Bool) (es : List Entry) where
  -- some entries left out
  used_only : (q : Entry → Bool) → used_by p (only q es) ≤ used_by p es
  unfolding used_by
  used_only q = only_fewer (λ e. p e.cls) q es

  -- one entry taken out
  used_without : (i : ℕ) → used_by p (without i es) ≤ used_by p es
  unfolding used_by
  used_without i = without_fewer (λ e. p e.cls) i es

  -- each entry changed, but for its class
  used_map : (g : Entry → Entry) → ((e : Entry) → (g e).cls ≡ e.cls) → used_by p (map g es) ≡ used_by p es
  unfolding used_by
  used_map g k = map_as_many (λ e. p e.cls) g (λ e. rw (k e)) es

  -- one entry changed, but for its class
  used_on_at : (i : ℕ) (x : Entry) (g : Entry → Entry) → ((e : Entry) → (g e).cls ≡ e.cls) → at_place i es ≡ some x
      → used_by p (on_at i (λ _. g x) es) ≡ used_by p es
  unfolding used_by
  used_on_at i x g k q = rw (entry_changed i es x g q) (on_at_as_many (λ e. p e.cls) i g (λ e. rw (k e)) es)

-- the entries that have requests, each changed, but for its class
used_staying : (p : Class → Bool) (es : List Entry) (g : Entry → Entry) → ((e : Entry) → (g e).cls ≡ e.cls)
    → used_by p (staying (map g es)) ≤ used_by p es
unfolding staying
used_staying p es g k = omega (arith, used_only p (map g es) (λ e. not (is_idle e)), used_map p es g k)

-- ageing makes no class used more
used_aged : (p : Class → Bool) (now : ℕ) (n : Node) → used_by p (aged now n).pending ≤ used_by p n.pending
unfolding aged aged_pending aged_entry with_requests
used_aged p now n = used_staying p n.pending (aged_entry now) (λ e. refl)

module _ (p : Class → Bool) (now : ℕ) (n : Node) where
  -- an Interest whose entry is there
  used_again : (a : Arrival) (i : ℕ) (x : Entry) → at_place i n.pending ≡ some x
      → used_by p (asks_again now n a i x).node.pending ≤ used_by p n.pending
  unfolding asks_again renews sends_on
  used_again a i x q = go (resends now n a (with_request now a x))
    where
      go : (h : Option ℕ) → used_by p (on_at i (λ _. sent_on now a h (with_request now a x)) n.pending) ≤ used_by p n.pending
      go none = unfold given asking with_requests in omega (arith, used_on_at p n.pending i x (λ y. with_request now a y) (λ y. refl) q)
      go (some h) =
          unfold given asking sending with_requests with_sent in
          omega (arith, used_on_at p n.pending i x (λ y. sent_on now a (some h) (with_request now a y)) (λ y. refl) q)

  -- a Nack
  used_marked : (i f r : ℕ) (x : Entry) → at_place i n.pending ≡ some x
      → used_by p (on_at i (λ _. with_nack f r x) n.pending) ≤ used_by p n.pending
  unfolding with_nack with_sent
  used_marked i f r x q = omega (arith, used_on_at p n.pending i x (with_nack f r) (λ y. refl) q)

  -- a Nack that ends requests
  used_nacked : (i f r : ℕ) (x : Entry) → at_place i n.pending ≡ some x
      → used_by p (ends_by_nack now n i (with_nack f r x)).node.pending ≤ used_by p n.pending
  unfolding ends_by_nack settled becoming ending with_requests with_nack with_sent
  used_nacked i f r x q =
      pick_ind (λ (l : List Entry). used_by p l ≤ used_by p n.pending) _ _ _ (λ _. used_without p n.pending i)
      (λ _. omega (arith, used_on_at p n.pending i x (λ y. without_peer n (with_nack f r y)) (λ y. refl) q))

  -- a face closed
  used_closed : (f : ℕ) → used_by p (close_step now n f).node.pending ≤ used_by p n.pending
  unfolding close_step not_asking not_sent with_requests with_sent
  used_closed f = used_staying p n.pending (without_face f) (λ e. refl)

-- ---- an event

-- an Interest came in that is answered 0, the class of its longest route counts as c, and there is one entry more of c
record OneMore (n : Node) (w : What) (o : Outcome) (c : Class) : Type 0 where
  from : ℕ
  interest : HoldsInterest n w from
  route : Route
  best : longest (asked interest).name n.routes ≡ some route
  cls : is_of c route.cls ≡ true
  done : o.answer ≡ Answer.Done
  one : uses c o.node ≡ uses c n + 1

-- an Interest that opens an entry: the class of its route is used once more, no other is
opened_uses : (now : ℕ) (n : Node) (w : What) (c : Class) (f : ℕ) (q : HoldsInterest n w f) (r : Route) (h : ℕ)
    → longest (asked q).name n.routes ≡ some r
    → (uses c (opens_entry now n (arrival f q) r.cls h).node ≤ uses c n) ⊎ OneMore n w (opens_entry now n (arrival f q) r.cls h) c
unfolding opens_entry new_entry
opened_uses now n w c f q r h b = go (is_of c r.cls) refl
  where
    used : uses c (opens_entry now n (arrival f q) r.cls h).node ≡ pick (is_of c r.cls) (uses c n + 1) (uses c n)
    used = used_last (is_of c) (new_entry now n (arrival f q) r.cls h) n.pending

    go : (y : Bool) → is_of c r.cls ≡ y
        → (uses c (opens_entry now n (arrival f q) r.cls h).node ≤ uses c n) ⊎ OneMore n w (opens_entry now n (arrival f q) r.cls h) c
    go true e = inr (record {
      from = f;
      interest = q;
      route = r;
      best = b;
      cls = e;
      done = refl;
      one = used ∙ pick_yes (is_of c r.cls) (uses c n + 1) (uses c n) e;
    })
    go false e = inl (omega (arith, used ∙ pick_no (is_of c r.cls) (uses c n + 1) (uses c n) e))

-- whatever an event comes to past the first three checks: no class is used more, but by an Interest that opens in it
past_uses : (faces now : ℕ) (n : Node) (c : Class) (w : What) (o : Outcome) → Past faces now n w o
    → (uses c o.node ≤ uses c n) ⊎ OneMore n w o c
unfolding quiet nack_for served satisfies
past_uses faces now n c w o (case.unread f a k) = inl (omega arith)
past_uses faces now n c w o (case.refused f a d) = inl (omega arith)
past_uses faces now n c w o (case.turned_away v a d) = inl (omega arith)
past_uses faces now n c w o case.ticked = inl (omega arith)
past_uses faces now n c w o (case.nacked_back f q a reason k) = inl (omega arith)
past_uses faces now n c w o (case.served_from f q h found absent) = inl (omega arith)
past_uses faces now n c w o (case.opened f q r h a b e d) = opened_uses now n w c f q r h b
past_uses faces now n c w o (case.joined f q x a) = inl (used_again (is_of c) now n (arrival f q) _ x a)
past_uses faces now n c w o (case.satisfied f q a) = inl (used_only (is_of c) n.pending _)
past_uses faces now n c w o (case.marked f q x a k z) = inl (used_marked (is_of c) now n _ f q.reason x a)
past_uses faces now n c w o (case.nacked_on f q x a k z) = inl (used_nacked (is_of c) now n _ f q.reason x a)
past_uses faces now n c w o (case.opens_face f scope link a) = inl (omega arith)
past_uses faces now n c w o (case.closes_face f) = inl (used_closed (is_of c) now n f)
past_uses faces now n c w o (case.sets_class k p a b) = inl (omega arith)
past_uses faces now n c w o (case.adds_route k p h a b d) = inl (omega arith)
past_uses faces now n c w o (case.drops_route p a) = inl (omega arith)
past_uses faces now n c w o (case.adds_hop f cost p a b) = inl (omega arith)
past_uses faces now n c w o (case.drops_hop f p a) = inl (omega arith)

-- NO_ROOM is the answer of one check
room_check : (c : Check) → answer_of c ≡ Answer.NoRoom → c ≡ NoRoom
room_check Clock e = cc
room_check SmallBuffer e = cc
room_check BadFace e = cc
room_check FaceOpen e = cc
room_check PacketSize e = cc
room_check Malformed e = cc
room_check Unsupported e = cc
room_check NameSize e = cc
room_check BadSetting e = cc
room_check HopLimit e = cc
room_check Scope e = cc
room_check Loop e = cc
room_check NoRoute e = cc
room_check NoRoom e = refl
room_check Unsolicited e = cc
room_check StaleNack e = cc
room_check TableFull e = cc

module _ (faces least : ℕ) (e : Event) (n : Node) where
  -- NO_ROOM is given only where the class of the Interest's longest route has used its reserve
  pub room_full : Shaped faces n → (step faces least e n).answer ≡ Answer.NoRoom
      → (r : Route) × Routed (moment (step faces least) e n) r × (reserve r.cls ≤ uses r.cls (aged e.time n))
  room_full s a =
      ⊎_elim (λ x. crowded (rw (room_check x.0 x.1) at x.2.applies))
      (λ x. absurd (let q = x.0 in let z : ◌≡◌ {A = ℕ} 0 1 = cc in omega arith))
      ((exactly faces least e n Answer.NoRoom).0 a)
    where
      crowded : Crowded e.time (aged e.time n) e.what
          → (r : Route) × Routed (moment (step faces least) e n) r × (reserve r.cls ≤ uses r.cls (aged e.time n))
      crowded (f, i, (bytes, k), new, (r, best, over)) = (
        r,
        record { from = f; ask = i; bytes = bytes; came = k; longest = best },
        reserve_used r.cls (aged e.time n).pending (aged_shaped faces e.time n s).pending.room over,
      )

  -- whatever an event comes to, the use of a class grows only by an Interest whose longest route counts as of that class
  case_grows : (c : Class) (o : Outcome) → Becomes faces least e n o
      → (o.node ≡ n) ⊎ (uses c o.node ≤ uses c (aged e.time n))
      ⊎ ((r : Route) × Routed (record { event = e; before = n; outcome = o }) r × (is_of c r.cls ≡ true) × (o.answer ≡ Answer.Done)
      × (uses c o.node ≡ uses c (aged e.time n) + 1))
  unfolding quiet after_ageing
  case_grows c o (ignored a d) = inl refl
  case_grows c o (taken x u f k) =
      ⊎_elim (λ l. inr (inl l))
      (λ m. inr (inr (
        m.route,
        record {
          from = m.from;
          ask = m.interest.ask;
          bytes = m.interest.bytes;
          came = m.interest.comes;
          longest = (longest_is m.interest.ask.name (aged e.time n).routes m.route).0 m.best;
        },
        m.cls,
        m.done,
        m.one,
      )))
      (past_uses faces e.time (aged e.time n) c e.what x k)

  -- the use of one of the three classes grows only by an Interest whose longest route has that class and which is answered 0, by one
  pub room_grows : (c : Class) → is_class c ≡ true
      → ((step faces least e n).node ≡ n) ⊎ (uses c (step faces least e n).node ≤ uses c (aged e.time n))
      ⊎ ((r : Route) × Routed (moment (step faces least) e n) r × (r.cls ≡ c) × ((step faces least e n).answer ≡ Answer.Done)
      × (uses c (step faces least e n).node ≡ uses c (aged e.time n) + 1))
  room_grows c t =
      ⊎_elim inl (⊎_elim (λ l. inr (inl l)) (λ x. inr (inr (x.0, x.1, of_class c x.0.cls t x.2, x.3, x.4))))
      (case_grows c (step faces least e n) (becomes faces least e n))

  -- ageing makes no class used more
  pub room_ages : (c : Class) → uses c (aged e.time n) ≤ uses c n
  room_ages c = used_aged (is_of c) e.time n

  -- the room taken stays within 64
  pub room_most : Shaped faces n → room_taken (step faces least e n).node.pending ≤ most_entries
  room_most s = (step_shaped faces least e n s).pending.room

-- what is owed to a class, of each event
pub room_owed : (faces least : ℕ) (e : Event) (n : Node) → Shaped faces n → RoomOwed (moment (step faces least) e n)
room_owed faces least e n s = record {
  full = room_full faces least e n s;
  ages = room_ages faces least e n;
  grows = room_grows faces least e n;
  most = room_most faces least e n s;
}
