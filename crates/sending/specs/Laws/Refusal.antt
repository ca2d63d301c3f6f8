-- The Nack of a refusal: its class, and that it is the Nack of the rules.
-- Assumes nothing.
use Rattle.std.specs.Prelude.{ℕ, ◌≤◌, ◌<◌, ◌≡◌, Bool, List, [], ◌∷◌, length, ltb}
use Rattle.std.proofs.Math.Path.{refl}
use Rattle.std.proofs.Math.Bool.{true, false}
use Rattle.std.proofs.Common.{true≢false, arith, lt-ltb, le-ltb, ◌∙◌}
use Rattle.std.proofs.lemmas.Bool.{false≢true}
use Rattle.std.proofs.Math.Option.{Option, none, some}
use Rattle.laws.specs.Pick.{pick}
use Rattle.laws.specs.Laws.Pick.{pick_yes, pick_no}
use Rattle.sizes.specs.Sizes.{most_faces, most_name}
use Rattle.packets.specs.Meaning.{Ask}
use Rattle.records.specs.Class.{bulk, class_of, class_number}
use Rattle.records.specs.Face.{Face, is_peer}
use Rattle.records.specs.Route.{Route, longest}
use Rattle.records.specs.Slots.{at_place, is_some, given}
use Rattle.routes.specs.declared.Routes.{Routes}
use Rattle.routes.specs.Places.View.{view}
use Rattle.routes.specs.Operations.{longest_at, class_word}
use Rattle.routes.specs.Laws.Longest.{longest_place}
use Rattle.routes.specs.Laws.Bridge.{longest_class, there_less}
use Rattle.rules.specs.Node.{Node}
use Rattle.rules.specs.Outcome.{nack, route_class, name_class, nacks_to}
use Rattle.writing.specs.Written.{nack_bytes}
use Rattle.writing.specs.Laws.Size.{nack_size}
use Rattle.sending.specs.Rows.{Packs, if_room}
use Rattle.writing.specs.Most.{most_nack}
use Rattle.sending.specs.Places.Sheet.{nack_sends}
use Rattle.sending.specs.Laws.One.{room_yes, room_none, packs_none}

module _ (name : List ℕ) (rs : List Route) where
  -- a route is found exactly where there is a longest
  found_longest : is_some (longest name rs) ≡ ltb (longest_at name rs) (length rs)
  found_longest = rw (← (longest_place name rs)) (there_less (longest_at name rs) rs)

  -- where a route is found its class word is that of the longest
  pub class_in : (i : ℕ) → i ≡ longest_at name rs → i < length rs → (w : ℕ) → w ≡ given 0 class_word (at_place i rs)
      → w ≡ class_number (route_class (longest name rs))
  unfolding is_some given class_word route_class
  class_in i e h w q =
      go (longest name rs) (found_longest ∙ lt-ltb _ _ (omega (arith, h, e))) (rw (e, longest_place name rs) at q)
    where
      go : (o : Option Route) → is_some o ≡ true → w ≡ given 0 class_word o → w ≡ class_number (route_class o)
      go none t q = absurd (false≢true t)
      go (some r) t q = q

  -- where none is found the class is bulk
  pub class_none : longest_at name rs ≡ length rs → class_number bulk ≡ class_number (route_class (longest name rs))
  unfolding is_some route_class
  class_none t = go (longest name rs) (found_longest ∙ le-ltb _ _ (omega (arith, t)))
    where
      go : (o : Option Route) → is_some o ≡ false → class_number bulk ≡ class_number (route_class o)
      go none t = refl
      go (some r) t = absurd (true≢false t)

-- the class word of the longest route for a name says its class
pub class_said : (t : Routes) (name : List ℕ)
    → class_of (class_number (route_class (longest name (view t)))) ≡ route_class (longest name (view t))
unfolding route_class class_word
class_said t name = go (longest name (view t)) refl
  where
    go : (o : Option Route) → longest name (view t) ≡ o → class_of (class_number (route_class o)) ≡ route_class o
    go none e = unfold class_of class_number pick in refl
    go (some r) e = longest_class most_faces t name r e

-- the sends of a refusal, by the faces and the routes of a node
module _ (fs : List (Option Face)) (rs : List Route) (f reason : ℕ) (name : List ℕ) (p m : Bool) (nonce : ℕ) (rows : List (List ℕ))
    (b : List ℕ) where
  -- a face that is not point-to-point gets no Nack
  pub refuses_none : is_peer fs f ≡ false
      → Packs (if_room (nack_bytes reason name p m nonce) b (nack_sends fs rs f reason name p m nonce)) 0 rows rows b b
  unfolding nack_sends
  refuses_none e = rw (pick_no _ _ _ e, room_none _ b) (packs_none rows b)

  -- a point-to-point face gets it, with the word of its class
  pub refuses_one : (rows' : List (List ℕ)) (b' : List ℕ) (k w : ℕ) → is_peer fs f ≡ true → w ≡ class_number (route_class (longest name rs))
      → class_of (class_number (route_class (longest name rs))) ≡ route_class (longest name rs)
      → Packs (if_room (nack_bytes reason name p m nonce) b
      (record { face = f; kind = nack; cls = class_of w; bytes = nack_bytes reason name p m nonce } ∷ [])) k rows rows' b b'
      → Packs (if_room (nack_bytes reason name p m nonce) b (nack_sends fs rs f reason name p m nonce)) k rows rows' b b'
  unfolding nack_sends
  refuses_one rows' b' k w e q y h = rw (pick_yes _ _ _ e, ← y, ← q) h

-- they are those of the rules, for any node of these faces and routes
pub nacks_are : (fs : List (Option Face)) (rs : List Route) (n : Node) (f reason : ℕ) (i : Ask) → fs ≡ n.faces → rs ≡ n.routes
    → nack_sends fs rs f reason i.name i.can_be_prefix i.must_be_fresh i.nonce ≡ nacks_to n f i reason
unfolding nack_sends nacks_to name_class
nacks_are fs rs n f reason i a b = rw (a, b)

-- for a name of at most 255 bytes, in a buffer with room for the largest Nack, a refusal packs what the rules send
pub refusal_packs : (fs : List (Option Face)) (rs : List Route) (n : Node) (f reason : ℕ) (i : Ask) (k : ℕ) (rows rows' : List (List ℕ))
    (b b' : List ℕ) → fs ≡ n.faces → rs ≡ n.routes → length i.name ≤ most_name → most_nack ≤ length b
    → Packs (if_room (nack_bytes reason i.name i.can_be_prefix i.must_be_fresh i.nonce) b
    (nack_sends fs rs f reason i.name i.can_be_prefix i.must_be_fresh i.nonce)) k rows rows' b b'
    → Packs (nacks_to n f i reason) k rows rows' b b'
refusal_packs fs rs n f reason i k rows rows' b b' ef er few room h =
    let bytes = nack_bytes reason i.name i.can_be_prefix i.must_be_fresh i.nonce in
    let fits : length bytes ≤ length b = omega (arith, nack_size reason i.name i.can_be_prefix i.must_be_fresh i.nonce few) in
    rw (room_yes bytes b _ fits, nacks_are fs rs n f reason i ef er) at h
