-- A further Interest of an entry, as the code stores it, notes it and sends it on.
-- Assumes nothing.
use Prim.Native.Nat.{ℕ, zero, suc, ◌+◌, min}
use Rattle.std.specs.Prelude.{◌≡◌, length}
use Rattle.std.proofs.Math.Path.{refl, ap}
use Rattle.std.proofs.Common.{sym, ◌∙◌, arith}
use mathlib.Core.List.{List, [], ◌∷◌, map}
use Rattle.std.proofs.Math.Option.{Option, none, some, none-ne-some, some-injective}
use Rattle.answers.specs.declared.Answer.{Answer}
use Rattle.laws.specs.Pick.{pick}
use Rattle.laws.specs.Lists.{on_at}
use Rattle.sizes.specs.Sizes.{most_faces, most_time, most_lifetime}
use Rattle.packets.specs.declared.bare.Interest.{Interest}
use Rattle.packets.specs.Places.View.{lowered}
use Rattle.records.specs.Class.{class_of, class_number}
use Rattle.records.specs.Slots.{slot, is_some, given, at_place}
use Rattle.records.specs.Entry.{Entry, with_requests, asking, sending}
use Rattle.records.specs.Happening.{opened, happens}
use Rattle.records.specs.Rows.{row_of}
use Rattle.faces.specs.Places.View as faces
use Rattle.routes.specs.Places.View as routes
use Rattle.happenings.specs.Noted.{most_rows, Notes}
use Rattle.pending_entry.specs.Operations.{request_with, sent_with}
use Rattle.pending_table.specs.declared.Facts.{Facts}
use Rattle.pending_table.specs.declared.Pending.{Pending}
use Rattle.pending_table.specs.Operations.{nothing, facts_of}
use Rattle.pending_table.specs.Places.View.{view, view_said}
use Rattle.rules.specs.Node.{Node}
use Rattle.rules.specs.Outcome.{interest}
use Rattle.rules.specs.Packed.{packed, packed_from}
use Rattle.rules.specs.Interest.{Arrival, request_of, sent_of, forwards, opens, resends, sends_on, renews, asks_again}
use Rattle.sending.specs.Rows.{Packs, if_room}
use Rattle.sending.specs.Laws.One.{interest_fits}
use Rattle.event.specs.declared.Memory.{Memory}
use Rattle.event.specs.Memory.{Table, node_of}
use Rattle.coming.specs.Goes.{Goes}
use Rattle.coming.specs.Places.Found.{limit_of, ask_found, arrival_found}
use Rattle.coming.specs.Places.Guarded.{Guarded}
use Rattle.opening.specs.Places.Asked.{came}

module _ {A : Type 0} where
  -- what stands at a place that was changed
  pub at_changed : (j : ℕ) (f : A → A) (l : List A) (a : A) → at_place j l ≡ some a → at_place j (on_at j f l) ≡ some (f a)
  unfolding at_place on_at
  at_changed j f [] a e = absurd (none-ne-some a e)
  at_changed zero f (x ∷ l) a e = ap (λ (y : A). some (f y)) (some-injective _ _ e)
  at_changed (suc j) f (x ∷ l) a e = at_changed j f l a e

  -- a change of what stands there is its change to what it becomes
  on_known : (j : ℕ) (f : A → A) (l : List A) (a : A) → at_place j l ≡ some a → on_at j f l ≡ on_at j (λ _. f a) l
  unfolding at_place on_at
  on_known j f [] a e = refl
  on_known zero f (x ∷ l) a e = ap (λ (y : A). f y ∷ l) (some-injective _ _ e)
  on_known (suc j) f (x ∷ l) a e = ap (λ (k : List A). x ∷ k) (on_known j f l a e)

  -- two changes are one
  on_twice : (j : ℕ) (f g : A → A) (l : List A) → on_at j g (on_at j f l) ≡ on_at j (λ a. g (f a)) l
  unfolding on_at
  on_twice j f g [] = refl
  on_twice zero f g (x ∷ l) = refl
  on_twice (suc j) f g (x ∷ l) = ap (λ (k : List A). x ∷ k) (on_twice j f g l)

-- the class word that was found is the entry's
pub facts_class : (o : Option Entry) (x : Entry) (r : Facts) → o ≡ some x → r ≡ given nothing facts_of o → r.class ≡ class_number x.cls
unfolding given facts_of
facts_class o x r e q = let z : given nothing facts_of o ≡ facts_of x = rw e in ap (λ (y : Facts). y.class) (q ∙ z)

module _ (m : Memory) (k f : ℕ) (bare name : List ℕ) (i : Interest) (j j' : ℕ) (x : Entry) (expiry : ℕ) (to : Option ℕ) (made : ℕ) (asked : Pending)
    (hs hs' : Table) (b : List ℕ) (g : Guarded m.time (length b) bare name) (at : at_place j (view m.pending) ≡ some x)
    (ee : expiry ≡ min m.time most_time + min i.lifetime most_lifetime)
    (er : view asked ≡ on_at j (asking f (request_with i.nonce expiry)) (view m.pending)) (same : j' ≡ j)
    (next : (n : Node) (a : Arrival) (e : Entry) → n.faces ≡ faces.view m.faces → n.routes ≡ routes.view m.routes → a.face ≡ f
    → a.ask.name ≡ name → a.ask.hop ≡ limit_of i.hop → at_place j' (view asked) ≡ some e → to ≡ resends m.time n a e)
    (noted : Notes most_rows made hs' hs k
    (map row_of (pick (is_some (slot f x.requests)) []
    (happens opened m.time x (record { face = f; what = request_with i.nonce expiry }) ∷ [])))) where
  -- the entries before
  abbrev es : List Entry
  es = view m.pending

  -- the entry with the request
  abbrev e' : Entry
  e' = asking f (request_with i.nonce expiry) x

  -- the expiry that the rules give
  expires : expiry ≡ m.time + min i.lifetime most_lifetime
  expires = omega (arith, g.timely, ee)

  -- the face where it came
  faced : (arrival_found f bare i).face ≡ f
  unfolding arrival_found
  faced = refl

  -- the request that the rules make
  request : request_of (node_of m).time (arrival_found f bare i) ≡ request_with i.nonce expiry
  unfolding request_of arrival_found ask_found node_of
  request = rw expires

  -- the hop that the code found is that of the rules
  hop : to ≡ resends (node_of m).time (node_of m) (arrival_found f bare i) e'
  unfolding node_of arrival_found ask_found
  hop = next _ _ e' refl refl refl (sym g.own) refl
      (ap (λ (z : ℕ). at_place z (view asked)) same ∙ ap (at_place j) er ∙ at_changed j _ es x at)

  -- the outcome, by the request that was made
  again : asks_again (node_of m).time (node_of m) (arrival_found f bare i) j x
      ≡ sends_on (node_of m).time (node_of m) (arrival_found f bare i) j e'
      (resends (node_of m).time (node_of m) (arrival_found f bare i) e')
      (pick (is_some (slot f x.requests)) []
      (happens opened (node_of m).time x (record { face = f; what = request_with i.nonce expiry }) ∷ []))
  unfolding asks_again renews opens
  again = rw (request, faced)

  -- where there is no hop, nothing is sent
  pub again_quiet : (ss : Table) → to ≡ none
      → Goes k (asks_again (node_of m).time (node_of m) (arrival_found f bare i) j x) (came Answer.Done 0 made)
      (node_of (record m { pending = asked }))
      (record { sends = ss; buffer = b; rows = hs }) (record { sends = ss; buffer = b; rows = hs' })
  unfolding sends_on node_of given packed packed_from
  again_quiet ss z =
      rw (again, sym hop ∙ z)
      (record {
        answer = refl;
        node = rw (er, on_known j (asking f (request_with i.nonce expiry)) es x at);
        sent = refl;
        sends = refl;
        buffer = refl;
        noted = noted;
      })

  -- where there is one, it is sent there
  pub again_sends : (u w : ℕ) (left : Pending) (t : ℕ) (ss ss' : Table) (b' : List ℕ) → to ≡ some u
      → w ≡ class_number x.cls
      → view left ≡ on_at j' (sending u (sent_with i.nonce m.time)) (view asked)
      → Packs (if_room (lowered bare i.hop) b
      (record { face = u; kind = interest; cls = class_of w; bytes = lowered bare i.hop } ∷ []))
      t ss ss' b b'
      → Goes k (asks_again (node_of m).time (node_of m) (arrival_found f bare i) j x) (came Answer.Done t made)
      (node_of (record m { pending = left }))
      (record { sends = ss; buffer = b; rows = hs }) (record { sends = ss'; buffer = b'; rows = hs' })
  unfolding sends_on node_of given forwards arrival_found ask_found sent_of asking with_requests
  again_sends u w left t ss ss' b' z ew es' p =
      let c : class_of w ≡ x.cls = rw ew (view_said most_faces _ _ _ _ _ j x at) in
      let sent : Packs (record { face = u; kind = interest; cls = class_of w; bytes = lowered bare i.hop } ∷ []) t ss ss' b b' =
      rw (interest_fits bare i.hop b (record { face = u; kind = interest; cls = class_of w; bytes = lowered bare i.hop } ∷ [])
      g.small g.roomy) at p in
      let own = rw c at sent in
      let both = es' ∙ ap (λ (q : ℕ). on_at q (sending u (sent_with i.nonce m.time)) (view asked)) same
      ∙ ap (on_at j (sending u (sent_with i.nonce m.time))) er
      ∙ on_twice j _ _ es ∙ on_known j _ es x at in
      rw (again, sym hop ∙ z)
      (record { answer = refl; node = rw both; sent = own.sent; sends = own.noted; buffer = own.buffer; noted = noted })
