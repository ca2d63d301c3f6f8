-- What each rule does to requests: it ends some, or it opens one, and the pending table changes by just these.
-- Assumes nothing.
use Prim.Native.Nat.{ℕ, zero, suc, ◌+◌, ◌≤◌}
use Rattle.std.specs.Prelude.{◌≡◌, Bool, ◌&&◌, eqb}
use Rattle.std.proofs.Math.Path.{refl, ap, sym}
use Rattle.std.proofs.Common.{◌∙◌, add-zero}
use Rattle.std.proofs.Math.Bool.{true, false, not}
use mathlib.Core.List.{List, [], ◌∷◌, ◌++◌, map}
use Rattle.std.proofs.Math.Option.{Option, none, some, none-ne-some}
use native.Mathlib.Omega.{arith}
use Rattle.std.proofs.Math.ListN.{length}
use Rattle.std.proofs.lemmas.Bool.{not-true}
use Rattle.laws.specs.Pick.{pick}
use Rattle.laws.specs.Laws.Pick.{pick_ind}
use Rattle.laws.specs.Lists.{on_at, without}
use Rattle.packets.specs.Meaning.{Offer}
use Rattle.records.specs.Class.{Class}
use Rattle.records.specs.Slots.{slot, set_slot, emptied_from, emptied, given, is_some, Held, held_from, held, only, each, at_place}
use Rattle.records.specs.Face.{is_peer}
use Rattle.records.specs.Entry.{Request, Entry, with_requests, with_sent, asking, not_asking, ending, sending, not_sent, is_idle, is_live, if_live, aged_entry, matches, with_nack}
use Rattle.rules.specs.Node.{Node}
use Rattle.rules.specs.Outcome.{quiet, nack_for}
use Rattle.rules.specs.Ageing.{aged, ageing}
use Rattle.rules.specs.Interest.{Arrival, request_of, entry_of, new_entry, opens, opens_entry, served, resends, sends_on, renews, asks_again}
use Rattle.rules.specs.Data.{is_self_met, fate_of, data_ends, satisfies}
use Rattle.rules.specs.Nack.{peers_of, settled, ends_by_nack}
use Rattle.rules.specs.Command.{close_step}
use Rattle.records.specs.Closing.{without_face, closing_ends}
use Rattle.history.specs.Lists.{one, how_many}
use Rattle.history.specs.Laws.Count.{how_many_append, how_many_same, how_many_none, how_many_map, on_faces, on_faces_set_slot, on_faces_no_slot, on_faces_new, on_faces_empty, on_faces_live, on_faces_ending}
use Rattle.history.specs.Key.{Key, key_of, key_at, is_fate, is_end, counted, ended, open_in, open_now}
use Rattle.history.specs.Laws.ByRule.{Rules}
use Rattle.history.specs.Laws.Becomes.{GoodFace}
use Rattle.history.specs.Laws.Every.{all_in}
use Rattle.history.specs.Laws.Known.{entry_in, with_request, sent_on, without_peer}
use Rattle.history.specs.Shape.{Shaped}
use Rattle.records.specs.Happening.{Fate, opened, nacked, expired, Happening, happens}
use Rattle.records.specs.Rows.{fate_number}
use Rattle.records.specs.Ageing.{expiries, staying, becoming, aged_pending}

-- through happenings, one pending table becomes another: all of them are ends, of requests that it loses, or one is an opening, of a
-- request that it gains; counted over the keys that p holds of
pub data Moves (p : Key → Bool) (es : List Entry) : List Happening → List Entry → Type 0 where
  ends : {hs : List Happening} {es' : List Entry} → counted opened p hs ≡ 0 → open_now p es ≡ ended p hs + open_now p es' → Moves p es hs es'
  begins : {h : Happening} {es' : List Entry} → is_fate opened h.fate ≡ true → open_now p es + one (p (key_of h)) ≡ open_now p es'
      → Moves p es (h ∷ []) es'

-- to expire is an end
expired_ends : is_end expired ≡ true
unfolding is_end is_fate fate_number
expired_ends = refl

-- and so is a Nack
nacked_ends : is_end nacked ≡ true
unfolding is_end is_fate fate_number
nacked_ends = refl

-- and so is what Data makes of a request
fate_ends : (n : Node) (f h : ℕ) → is_end (fate_of n f h) ≡ true
unfolding fate_of is_end is_fate fate_number
fate_ends n f h = pick_ind (λ x. not (eqb 1 (fate_number x)) ≡ true) (is_self_met n f h) _ _ (λ _. refl) (λ _. refl)

module _ (p : Key → Bool) where
  -- nothing happens, and as many requests stand
  moves_none : (es es' : List Entry) → open_now p es ≡ open_now p es' → Moves p es [] es'
  unfolding counted ended how_many
  moves_none es es' h = let z : open_now p es ≡ 0 + open_now p es' = omega arith in ends refl z

  -- happenings one after the other
  pub counted_append : (x : Fate) (s t : List Happening) → counted x p (s ++ t) ≡ counted x p s + counted x p t
  unfolding counted
  counted_append x s t = how_many_append _ s t

  -- so with ends
  pub ended_append : (s t : List Happening) → ended p (s ++ t) ≡ ended p s + ended p t
  unfolding ended
  ended_append s t = how_many_append _ s t

  -- the ends of requests of an entry count as these requests do
  ended_map : (now : ℕ) (e : Entry) (x : Held Request → Fate) → ((h : Held Request) → is_end (x h) ≡ true) → (hs : List (Held Request))
      → ended p (map (λ h. happens (x h) now e h) hs) ≡ how_many (λ h. p (key_at e h.face)) hs
  unfolding ended key_of key_at happens
  ended_map now e x k hs =
      how_many_map _ _ hs ∙ how_many_same _ _ (λ h. ap (λ (b : Bool). b && p (key_at e h.face)) (k h)) hs

  -- and none of them is an opening
  opened_map : (now : ℕ) (e : Entry) (x : Held Request → Fate) → ((h : Held Request) → is_end (x h) ≡ true) → (hs : List (Held Request))
      → counted opened p (map (λ h. happens (x h) now e h) hs) ≡ 0
  unfolding counted key_of key_at happens is_end
  opened_map now e x k hs =
      how_many_map _ _ hs ∙ how_many_none _ (λ h. ap (λ (b : Bool). b && p (key_at e h.face)) (not-true (is_fate opened (x h)) (k h))) hs

  -- requests of an entry, by face
  open_in_faces : (e : Entry) → open_in p e ≡ on_faces (λ f. p (key_at e f)) 1 e.requests
  unfolding open_in on_faces held
  open_in_faces e = refl

  -- and those of an entry with other requests
  open_in_with : (rs : List (Option Request)) (e : Entry) → open_in p (with_requests rs e) ≡ on_faces (λ f. p (key_at e f)) 1 rs
  unfolding open_in on_faces held with_requests key_at
  open_in_with rs e = refl

  -- an entry without requests has none
  open_in_idle : (e : Entry) → is_idle e ≡ true → open_in p e ≡ 0
  unfolding is_idle held
  open_in_idle e h = open_in_faces e ∙ on_faces_empty (λ f. p (key_at e f)) 1 e.requests h

  -- an out-record more changes no request
  open_in_sent_on : (now : ℕ) (a : Arrival) (h : Option ℕ) (e : Entry) → open_in p (sent_on now a h e) ≡ open_in p e
  unfolding given sending with_sent open_in key_at
  open_in_sent_on now a none e = refl
  open_in_sent_on now a (some h) e = refl

  -- a Nack noted changes none either
  open_in_with_nack : (f reason : ℕ) (e : Entry) → open_in p (with_nack f reason e) ≡ open_in p e
  unfolding with_nack with_sent open_in key_at
  open_in_with_nack f reason e = refl

  -- ageing ends the requests of an entry that do not live
  aged_ends : (now : ℕ) (e : Entry) → open_in p e ≡ ended p (expiries now e) + open_in p (aged_entry now e)
  unfolding expiries aged_entry held
  aged_ends now e =
      let hs = only (λ (h : Held Request). not (is_live now h.what)) (held_from 1 e.requests) in
      omega (
        arith,
        open_in_faces e,
        open_in_with (map (if_live now) e.requests) e,
        ended_map now e (λ _. expired) (λ _. expired_ends) hs,
        on_faces_live (λ f. p (key_at e f)) now 1 e.requests,
      )

  -- and opens none
  aged_opens : (now : ℕ) (e : Entry) → counted opened p (expiries now e) ≡ 0
  unfolding expiries
  aged_opens now e =
      opened_map now e (λ _. expired) (λ _. expired_ends) (only (λ (h : Held Request). not (is_live now h.what)) (held e.requests))

  -- a Nack ends the requests of an entry on point-to-point faces
  nacks_ends : (now : ℕ) (n : Node) (e : Entry)
      → open_in p e ≡ ended p (map (happens nacked now e) (peers_of n e)) + open_in p (without_peer n e)
  unfolding peers_of ending emptied held
  nacks_ends now n e =
      let hs = only (λ (h : Held Request). is_peer n.faces h.face) (held_from 1 e.requests) in
      omega (
        arith,
        open_in_faces e,
        open_in_with (emptied_from (is_peer n.faces) 1 e.requests) e,
        ended_map now e (λ _. nacked) (λ _. nacked_ends) hs,
        on_faces_ending (λ f. p (key_at e f)) (is_peer n.faces) 1 e.requests,
      )

  -- Data ends all requests of an entry
  data_ends_lem : (now : ℕ) (n : Node) (f : ℕ) (e : Entry) → open_in p e ≡ ended p (data_ends now n f e)
  unfolding data_ends open_in
  data_ends_lem now n f e = sym (ended_map now e (λ h. fate_of n f h.face) (λ h. fate_ends n f h.face) (held e.requests))

  -- and opens none
  data_opens : (now : ℕ) (n : Node) (f : ℕ) (e : Entry) → counted opened p (data_ends now n f e) ≡ 0
  unfolding data_ends
  data_opens now n f e = opened_map now e (λ h. fate_of n f h.face) (λ h. fate_ends n f h.face) (held e.requests)

  -- closing a face ends its request of an entry
  closing_ended : (now f : ℕ) (e : Entry) → ended p (closing_ends now f e) ≡ one (is_some (slot f e.requests) && p (key_at e f))
  unfolding closing_ends given is_some ended how_many happens key_of key_at is_end is_fate fate_number
  closing_ended now f e = go (slot f e.requests) refl
    where
      go : (x : Option Request) → slot f e.requests ≡ x
          → ended p (closing_ends now f e) ≡ one (is_some (slot f e.requests) && p (key_at e f))
      go none w = rw w
      go (some r) w = rw (w, add-zero)

  -- and opens none
  closing_opens : (now f : ℕ) (e : Entry) → counted opened p (closing_ends now f e) ≡ 0
  unfolding closing_ends given counted how_many happens is_fate fate_number
  closing_opens now f e = go (slot f e.requests) refl
    where
      go : (x : Option Request) → slot f e.requests ≡ x → counted opened p (closing_ends now f e) ≡ 0
      go none w = rw w
      go (some r) w = rw w

  -- so it ends those of the entry that the entry loses
  closing_ends_lem : (now f : ℕ) (e : Entry) → open_in p e ≡ ended p (closing_ends now f e) + open_in p (without_face f e)
  closing_ends_lem now f e =
      let b : open_in p (without_face f e) ≡ on_faces (λ g. p (key_at e g)) 1
      (set_slot f none e.requests) = unfold not_asking not_sent with_sent key_at in open_in_with _ _ in
      omega (arith, open_in_faces e, closing_ended now f e, on_faces_no_slot (λ g. p (key_at e g)) f e.requests)

  -- a request of an entry, opened or renewed
  open_in_asked : (now : ℕ) (a : Arrival) (e : Entry) → 1 ≤ a.face → a.face ≤ length e.requests
      → open_in p (with_request now a e) + one (is_some (slot a.face e.requests) && p (key_at e a.face)) ≡ open_in p e
      + one (p (key_at e a.face))
  unfolding asking is_some
  open_in_asked now a e k l =
      omega (
        arith,
        open_in_faces e,
        open_in_with (set_slot a.face (some (request_of now a)) e.requests) e,
        on_faces_set_slot (λ f. p (key_at e f)) a.face (some (request_of now a)) e.requests k l,
      )

  -- a new entry holds one request
  open_in_new : (now : ℕ) (n : Node) (a : Arrival) (c : Class) (h : ℕ) → 1 ≤ a.face → a.face ≤ length n.faces
      → open_in p (new_entry now n a c h) ≡ one (p (key_at (new_entry now n a c h) a.face))
  unfolding new_entry
  open_in_new now n a c h k l =
      open_in_faces (new_entry now n a c h) ∙ on_faces_new (λ f. p (key_at (new_entry now n a c h) f)) a.face (length n.faces)
      (request_of now a) k l

  -- tables: one more at the end
  open_now_snoc : (es : List Entry) (x : Entry) → open_now p (es ++ (x ∷ [])) ≡ open_now p es + open_in p x
  unfolding open_now
  open_now_snoc [] x = omega arith
  open_now_snoc (e ∷ es) x = omega (arith, open_now_snoc es x)

  -- one changed
  open_now_on_at : (i : ℕ) (g : Entry → Entry) (es : List Entry) (e : Entry) → at_place i es ≡ some e
      → open_now p (on_at i g es) + open_in p e ≡ open_now p es + open_in p (g e)
  unfolding open_now on_at at_place
  open_now_on_at i g [] e w = absurd (none-ne-some e w)
  open_now_on_at zero g (x ∷ es) e w = let z : x ≡ e = cc in rw z (omega arith)
  open_now_on_at (suc i) g (x ∷ es) e w = omega (arith, open_now_on_at i g es e w)

  -- one taken out
  open_now_without : (i : ℕ) (es : List Entry) (e : Entry) → at_place i es ≡ some e → open_now p (without i es) + open_in p e ≡ open_now p es
  unfolding open_now without at_place
  open_now_without i [] e w = absurd (none-ne-some e w)
  open_now_without zero (x ∷ es) e w = let z : x ≡ e = cc in rw z (omega arith)
  open_now_without (suc i) (x ∷ es) e w = omega (arith, open_now_without i es e w)

  -- entries without requests may leave
  open_now_staying : (es : List Entry) → open_now p (staying es) ≡ open_now p es
  unfolding staying open_now only
  open_now_staying [] = refl
  open_now_staying (e ∷ es) = go (is_idle e) refl (open_now_staying es)
    where
      go : (b : Bool) → is_idle e ≡ b → open_now p (only (λ e. not (is_idle e)) es) ≡ open_now p es
          → open_now p (pick (not b) (e ∷ only (λ e. not (is_idle e)) es) (only (λ e. not (is_idle e)) es)) ≡ open_in p e + open_now p es
      go true w h = unfold pick in omega (arith, open_in_idle e w)
      go false w h = unfold pick in omega arith

  -- the entries of a test, and the others, are all
  open_now_parts : (q : Entry → Bool) (es : List Entry) → open_now p es ≡ open_now p (only q es) + open_now p (only (λ e. not (q e)) es)
  unfolding open_now only
  open_now_parts q [] = refl
  open_now_parts q (e ∷ es) = go (q e) (open_now_parts q es)
    where
      go : (b : Bool) → open_now p es ≡ open_now p (only q es) + open_now p (only (λ e. not (q e)) es)
          → open_in p e + open_now p es ≡ open_now p (pick b (e ∷ only q es) (only q es))
          + open_now p (pick (not b) (e ∷ only (λ e. not (q e)) es) (only (λ e. not (q e)) es))
      go true h = unfold pick in omega arith
      go false h = unfold pick in omega arith

  -- ends entry by entry, each entry changed
  each_ends : (f : Entry → List Happening) (g : Entry → Entry) → ((e : Entry) → open_in p e ≡ ended p (f e) + open_in p (g e))
      → (es : List Entry)
      → open_now p es ≡ ended p (each f es) + open_now p (map g es)
  unfolding open_now each
  each_ends f g k [] = unfold ended how_many in refl
  each_ends f g k (e ∷ es) = omega (arith, k e, each_ends f g k es, ended_append (f e) (each f es))

  -- ends entry by entry, each entry leaving
  each_ended : (f : Entry → List Happening) → ((e : Entry) → open_in p e ≡ ended p (f e)) → (es : List Entry)
      → open_now p es ≡ ended p (each f es)
  unfolding open_now each
  each_ended f k [] = unfold ended how_many in refl
  each_ended f k (e ∷ es) = omega (arith, k e, each_ended f k es, ended_append (f e) (each f es))

  -- where no entry opens any, none opens
  each_opens : (f : Entry → List Happening) → ((e : Entry) → counted opened p (f e) ≡ 0) → (es : List Entry)
      → counted opened p (each f es) ≡ 0
  unfolding each
  each_opens f k [] = unfold counted how_many in refl
  each_opens f k (e ∷ es) = omega (arith, k e, each_opens f k es, counted_append opened (f e) (each f es))

  -- ageing ends requests
  pub ageing_moves : (now : ℕ) (n : Node) → Moves p n.pending (ageing now n) (aged now n).pending
  unfolding ageing aged
  ageing_moves now n =
      let k : open_now p n.pending ≡ ended p (each (expiries now) n.pending) + open_now p (aged_pending now n.pending) =
      unfold aged_pending in
      omega (
        arith,
        open_now_staying (map (aged_entry now) n.pending),
        each_ends (expiries now) (aged_entry now) (aged_ends now) n.pending,
      ) in
      ends (each_opens (expiries now) (aged_opens now) n.pending) k

  -- the request that an Interest opens
  opens_begins : (now : ℕ) (a : Arrival) (e : Entry) (es es' : List Entry) → open_now p es + one (p (key_at e a.face)) ≡ open_now p es'
      → Moves p es (opens now a e ∷ []) es'
  unfolding opens happens key_of key_at is_fate fate_number
  opens_begins now a e es es' k = begins refl k

  module _ (faces now : ℕ) (n : Node) (s : Shaped faces n) where
    -- an Interest that opens an entry begins a request
    opens_moves : (a : Arrival) (c : Class) (h : ℕ) → GoodFace faces n a.face
        → Moves p n.pending (opens_entry now n a c h).happenings (opens_entry now n a c h).node.pending
    unfolding opens_entry
    opens_moves a c h g =
        let l : a.face ≤ length n.faces = omega (arith, s.size, g.high) in
        opens_begins now a (new_entry now n a c h) _ _
        (omega (arith, open_now_snoc n.pending (new_entry now n a c h), open_in_new now n a c h g.low l))

    -- an Interest that finds its entry begins a request, or renews one
    joins_moves : (a : Arrival) (e : Entry) → GoodFace faces n a.face → at_place (entry_of n a.ask) n.pending ≡ some e
        → Moves p n.pending (asks_again now n a (entry_of n a.ask) e).happenings
        (asks_again now n a (entry_of n a.ask) e).node.pending
    unfolding asks_again renews sends_on
    joins_moves a e g w = go (is_some (slot a.face e.requests)) refl
      where
        i : ℕ
        i = entry_of n a.ask

        change : Entry → Entry
        change _ = sent_on now a (resends now n a (with_request now a e)) (with_request now a e)

        k : open_now p (on_at i change n.pending) + one (is_some (slot a.face e.requests) && p (key_at e a.face))
            ≡ open_now p n.pending + one (p (key_at e a.face))
        k =
            let l : a.face ≤ length e.requests = omega (
              arith,
              g.high,
              (all_in s.pending.each (entry_in i n.pending e w)).requests,
            ) in
            omega (
              arith,
              open_now_on_at i change n.pending e w,
              open_in_sent_on now a (resends now n a (with_request now a e)) (with_request now a e),
              open_in_asked now a e g.low l,
            )

        go : (b : Bool) → is_some (slot a.face e.requests) ≡ b
            → Moves p n.pending (pick b [] (opens now a e ∷ [])) (on_at i change n.pending)
        go true v = unfold pick in moves_none n.pending (on_at i change n.pending) (let z = rw v at k in omega arith)
        go false v = unfold pick in opens_begins now a e n.pending (on_at i change n.pending) (let z = rw v at k in omega arith)

    -- Data ends requests
    satisfied_moves : (f : ℕ) (d : Offer) (bytes : List ℕ)
        → Moves p n.pending (satisfies now n f d bytes).happenings (satisfies now n f d bytes).node.pending
    unfolding satisfies
    satisfied_moves f d bytes =
        let m = matches d.name in
        let k : open_now p n.pending ≡ ended p (each (data_ends now n f) (only m n.pending))
        + open_now p (only (λ e. not (m e)) n.pending) =
        omega (arith, open_now_parts m n.pending, each_ended (data_ends now n f) (data_ends_lem now n f) (only m n.pending)) in
        ends (each_opens (data_ends now n f) (data_opens now n f) (only m n.pending)) k

    -- a Nack that is noted does nothing to requests
    marks_moves : (i f reason : ℕ) (e : Entry) → at_place i n.pending ≡ some e
        → Moves p n.pending [] (on_at i (λ _. with_nack f reason e) n.pending)
    marks_moves i f reason e w =
        moves_none _ _ (omega (arith, open_now_on_at i (λ _. with_nack f reason e) n.pending e w, open_in_with_nack f reason e))

    -- a Nack that leaves all out-records Nacked ends requests
    nacks_moves : (i f reason : ℕ) (e : Entry) → at_place i n.pending ≡ some e
        → Moves p n.pending (ends_by_nack now n i (with_nack f reason e)).happenings
        (ends_by_nack now n i (with_nack f reason e)).node.pending
    unfolding ends_by_nack settled becoming
    nacks_moves i f reason e w = ends (opened_map now x (λ _. nacked) (λ _. nacked_ends) (peers_of n x)) (go (is_idle (without_peer n x)) refl)
      where
        x : Entry
        x = with_nack f reason e

        es : List Entry
        es = n.pending

        go : (b : Bool) → is_idle (without_peer n x) ≡ b
            → open_now p es ≡ ended p (map (happens nacked now x) (peers_of n x))
            + open_now p (pick b (without i es) (on_at i (λ _. without_peer n x) es))
        go true v =
            unfold pick in omega
            (arith, nacks_ends now n x, open_in_with_nack f reason e, open_in_idle (without_peer n x) v, open_now_without i es e w)
        go false v =
            unfold pick in omega
            (arith, nacks_ends now n x, open_in_with_nack f reason e, open_now_on_at i (λ _. without_peer n x) es e w)

    -- closing a face ends requests
    closes_moves : (f : ℕ) → GoodFace faces n f → Moves p n.pending (close_step now n f).happenings (close_step now n f).node.pending
    unfolding close_step
    closes_moves f g =
        let k : open_now p n.pending ≡ ended p (each (closing_ends now f) n.pending)
        + open_now p (staying (map (without_face f) n.pending)) =
        omega (
          arith,
          open_now_staying (map (without_face f) n.pending),
          each_ends (closing_ends now f) (without_face f) (closing_ends_lem now f) n.pending,
        ) in
        ends (each_opens (closing_ends now f) (closing_opens now f) n.pending) k

    -- every rule of an event past ageing
    pub rules_moves : Rules faces now n (λ o. Moves p n.pending o.happenings o.node.pending)
    unfolding quiet nack_for served
    rules_moves = record {
      quiets = λ x. moves_none _ _ refl;
      refuses = λ x reason f i. moves_none _ _ refl;
      serves = λ a h. moves_none _ _ refl;
      opens = λ a c h g w. opens_moves a c h g;
      joins = joins_moves;
      satisfied = satisfied_moves;
      marks = marks_moves;
      nacks = nacks_moves;
      opens_face = λ f x. moves_none _ _ refl;
      closes_face = closes_moves;
      sets_class = λ i c. moves_none _ _ refl;
      adds_route = λ q c. moves_none _ _ refl;
      drops_route = λ i. moves_none _ _ refl;
      sets_hop = λ i f x. moves_none _ _ refl;
    }
