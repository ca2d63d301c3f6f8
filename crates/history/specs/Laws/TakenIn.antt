-- What is taken in is accounted for (`step_taken`): an Interest that is answered 0 stands in the pending table afterwards as its face's
-- request, or a stored Data that serves it leaves.
-- Assumes nothing.
use Rattle.std.specs.Prelude.{ℕ, ◌≤◌, ◌≡◌, List, ◌⊎◌}
use Rattle.std.proofs.Math.Path.{refl}
use Rattle.std.proofs.Common.{sym, inl, inr, arith}
use Rattle.std.proofs.Math.Option.{Option, none, some}
use Rattle.std.proofs.Math.ListN.{length}
use Rattle.packets.specs.Meaning.{Ask, asks}
use Rattle.records.specs.Class.{Class}
use Rattle.records.specs.Slots.{no_slots, slot, given, at_place}
use Rattle.records.specs.Entry.{Request, Entry, with_requests, with_sent, asking, sending}
use Rattle.records.specs.Stored.{Hit, lookup}
use Rattle.records.specs.Laws.Place.{place_on_at}
use Rattle.records.specs.Laws.Slot.{slot_set_same}
use Rattle.rules.specs.Node.{Node, Event}
use Rattle.rules.specs.Outcome.{Outcome}
use Rattle.rules.specs.Ageing.{aged, ageing}
use Rattle.rules.specs.Interest.{Arrival, request_of, entry_of, forwards, new_entry, opens_entry, served, resends, sends_on, renews, asks_again}
use Rattle.rules.specs.Step.{arrives, after_ageing, step}
use Rattle.refusals.specs.Refusals.{Known}
use Rattle.refusals.specs.Laws.Tests.{tells_serves}
use Rattle.history.specs.Lists.{here}
use Rattle.history.specs.Moments.{Moment, moment}
use Rattle.history.specs.TakenIn.{request_at, Pending, Served, TakenIn}
use Rattle.history.specs.Shape.{Shaped}
use Rattle.history.specs.Laws.Every.{at_in, all_in, some_right}
use Rattle.history.specs.Laws.Holding.{length_no_slots}
use Rattle.history.specs.Laws.Known.{entry_in, entry_known, with_request, sent_on}
use Rattle.history.specs.Laws.Lookup.{lookup_takes}
use Rattle.history.specs.Laws.Becomes.{GoodFace}
use Rattle.history.specs.Laws.ShapeKept.{aged_shaped}
use Rattle.history.specs.Laws.Accepted.{by_arrival, interest_done}

-- the entry of an Interest is known by it
pub entry_fits : (n : Node) (i : Ask) (x : Entry) → at_place (entry_of n i) n.pending ≡ some x → Known i x
entry_fits n i x q = let k = entry_known n i x q in record { name = sym k.name; prefix = sym k.prefix; fresh = sym k.fresh }

-- a send changes no request, nor what the entry is known by
sent_keeps : (now : ℕ) (a : Arrival) (x : Option ℕ) (i : Ask) (y : Entry) → Known i y → (r : Request)
    → slot a.face y.requests ≡ some r
    → Known i (sent_on now a x y) × (slot a.face (sent_on now a x y).requests ≡ some r)
unfolding given sending with_sent
sent_keeps now a none i y k r s = (k, s)
sent_keeps now a (some h) i y k r s = (record { name = k.name; prefix = k.prefix; fresh = k.fresh }, s)

module _ (faces : ℕ) (e : Event) (n : Node) (s : Shaped faces n) (f : ℕ) (i : Ask) (bytes : List ℕ)
    (good : GoodFace faces (aged e.time n) f) where
  -- the Interest as the rules are told of it
  abbrev told : Arrival
  told = record { face = f; ask = i; bytes = bytes }

  -- the event, if it comes to an outcome after ageing
  abbrev coming : Outcome → Moment
  coming o = record { event = e; before = n; outcome = after_ageing (ageing e.time n) o }

  -- the store serves it
  served_in : (h : Hit) → lookup e.time i.name i.can_be_prefix i.must_be_fresh (aged e.time n).store ≡ some h
      → Served (coming (served (aged e.time n) told h)) f i
  unfolding served after_ageing aged
  served_in h q =
      let hit = lookup_takes e.time i.name i.can_be_prefix i.must_be_fresh n.store h q in
      record {
        what = h.what;
        stored = at_in h.place h.what n.store hit.0;
        serving = (tells_serves e.time i h.what).0 hit.1;
        leaves = here (refl, (refl, refl));
      }

  -- it opens an entry
  opened_in : (c : Class) (h : ℕ) → Pending (coming (opens_entry e.time (aged e.time n) told c h)) f i bytes
  unfolding opens_entry after_ageing new_entry request_of forwards
  opened_in c h =
      let m = aged e.time n in
      let size : f ≤ length (no_slots {A = Request} (length m.faces)) =
      omega (arith, good.high, (aged_shaped faces e.time n s).size, length_no_slots Request (length m.faces)) in
      record {
        entry = new_entry e.time m told c h;
        pending = some_right m.pending (here refl);
        known = record { name = refl; prefix = refl; fresh = refl };
        held = slot_set_same f (some (request_at e.time i)) (no_slots (length m.faces)) good.low size;
        left = λ _. (h, here (refl, (refl, refl)));
      }

  -- it finds its entry
  joined_in : (x : Entry) → at_place (entry_of (aged e.time n) i) (aged e.time n).pending ≡ some x
      → Pending (coming (asks_again e.time (aged e.time n) told (entry_of (aged e.time n) i) x)) f i bytes
  unfolding asks_again renews sends_on after_ageing asking with_requests request_of
  joined_in x q =
      let m = aged e.time n in
      let t = aged_shaped faces e.time n s in
      let there = entry_in (entry_of m i) m.pending x q in
      let fits = entry_fits m i x q in
      let y = with_request e.time told x in
      let z = sent_on e.time told (resends e.time m told y) y in
      let long : f ≤ length x.requests = omega (arith, good.high, (all_in t.pending.each there).requests) in
      let k = sent_keeps e.time told (resends e.time m told y) i y
      (record { name = fits.name; prefix = fits.prefix; fresh = fits.fresh }) (request_at e.time i)
      (slot_set_same f (some (request_at e.time i)) x.requests good.low long) in
      record {
        entry = z;
        pending = entry_in (entry_of m i) _ z (place_on_at (entry_of m i) (λ _. z) m.pending x q);
        known = k.0;
        held = k.1;
        left = λ no. absurd (no x there fits);
      }

-- in any event, from any node of the shape: an Interest that is answered 0 stands in the table afterwards, or is served
pub step_taken : (faces least : ℕ) (e : Event) (n : Node) → Shaped faces n → TakenIn (moment (step faces least) e n)
unfolding arrives
step_taken faces least e n s f i bytes k =
    by_arrival faces least e n Taken f (asks i bytes) k
    (λ good. interest_done (λ o. Taken (after_ageing (ageing e.time n) o)) e.time (aged e.time n)
    (record { face = f; ask = i; bytes = bytes })
    (λ h q. inr (served_in faces e n s f i bytes good h q))
    (λ c h. inl (opened_in faces e n s f i bytes good c h))
    (λ x q. inl (joined_in faces e n s f i bytes good x q)))
  where
    Taken : Outcome → Type 0
    Taken o = Pending (record { event = e; before = n; outcome = o }) f i bytes ⊎ Served (record { event = e; before = n; outcome = o }) f i
