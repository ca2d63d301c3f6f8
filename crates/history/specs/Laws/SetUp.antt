-- What stands was set up (`set_up_lem`): the open faces, the classes of the routes and their hops are what the accepted commands made of
-- them.
-- Assumes nothing.
use Prim.Native.Nat.{ℕ, zero, suc, ◌≤◌, ◌<◌}
use Rattle.std.proofs.Math.Path.{◌≡◌, refl, sym}
use Rattle.std.proofs.Common.{◌∙◌, leb-true, eqb-true, arith}
use Rattle.std.specs.Prelude.{Bool, ◌&&◌, not, length, leb, eqb}
use Rattle.std.proofs.Math.Bool.{true, false}
use mathlib.Core.List.{List, [], ◌∷◌, ◌++◌, map}
use Rattle.std.proofs.Math.Option.{Option, none, some}
use Rattle.std.proofs.lemmas.Bool.{eqb-false, not-false}
use Rattle.laws.specs.Pick.{pick}
use Rattle.laws.specs.Laws.Pick.{pick_ind, pick_ap}
use Rattle.laws.specs.Lists.{index_of, on_at, without}
use Rattle.names.specs.Name.{same_bytes}
use Rattle.names.specs.Laws.Same.{same_equal}
use Rattle.names.specs.Laws.Same as names
use Rattle.packets.specs.Meaning.{Heard}
use Rattle.records.specs.Class.{Class, class_of}
use Rattle.records.specs.Slots.{slot, set_slot, given, holds, at_place}
use Rattle.records.specs.Face.{Face, is_face}
use Rattle.records.specs.Route.{Route, route_of, with_class, new_route, with_hop, hop_at}
use Rattle.records.specs.Laws.Slot.{slot_set_same, slot_set_other, slot_unset, slot_no_slots}
use Rattle.rules.specs.Node.{Node, empty_node, What, packet, clock, open_face, close_face, set_route, drop_route, add_hop, drop_hop, face_in, opens_face, Event}
use Rattle.rules.specs.Outcome.{Outcome, quiet, nack_for}
use Rattle.rules.specs.Ageing.{aged}
use Rattle.rules.specs.Interest.{opens_entry, sends_on, renews, asks_again, served}
use Rattle.rules.specs.Data.{satisfies}
use Rattle.rules.specs.Nack.{settled, ends_by_nack}
use Rattle.rules.specs.Command.{face_of, close_step}
use Rattle.rules.specs.Step.{bad_face, after_ageing, step, run}
use Rattle.incoming.specs.Incoming.{Hears}
use Rattle.incoming.specs.Laws.Incoming.{hears_bytes}
use Rattle.history.specs.Lists.{All, nothing, both, Apart, alone, among}
use Rattle.history.specs.Moments.{is_done, last_of}
use Rattle.history.specs.Classes.{class_at, given_by}
use Rattle.history.specs.SetUp.{face_by, hop_by, SetUp}
use Rattle.history.specs.Shape.{Shaped, OtherRoute}
use Rattle.history.specs.Laws.Every.{all_mono, all_any}
use Rattle.history.specs.Laws.Apart.{none_found}
use Rattle.history.specs.Laws.Known.{differs}
use Rattle.history.specs.Laws.Becomes.{Past, Becomes, ignored, taken, becomes, good_face, aged_face}
use Rattle.history.specs.Laws.Becomes as case
use Rattle.history.specs.Laws.ShapeKept.{step_shaped, empty_shaped}

-- ---- choices

module _ {A : Type 0} where
  -- of two tests that do not both hold, either may be asked first
  swap : (b s : Bool) (x y z : A) → (b ≡ true → s ≡ false) → pick s y (pick b x z) ≡ pick b x (pick s y z)
  unfolding pick
  swap true true x y z h = absurd (let q = h refl in let w : ◌≡◌ {A = ℕ} 0 1 = cc in omega arith)
  swap true false x y z h = refl
  swap false true x y z h = refl
  swap false false x y z h = refl

  -- one test asked twice
  twice : (b : Bool) (x y z : A) → pick b x z ≡ pick b x (pick b y z)
  unfolding pick
  twice true x y z = refl
  twice false x y z = refl

  -- a choice of one thing
  pick_same : (b : Bool) (x : A) → pick b x x ≡ x
  unfolding pick
  pick_same true x = refl
  pick_same false x = refl

-- ---- what the routes have for a prefix

-- a prefix that is that of a command, which a route's is not, is not the route's
apart_from : (p q name : List ℕ) → same_bytes q name ≡ false → same_bytes p q ≡ true → same_bytes p name ≡ false
apart_from p q name f e = rw (same_equal p q e) f

-- a change of routes keeps their prefixes
abbrev Named : (Route → Route) → Type 0
Named h = (r : Route) → (h r).name ≡ r.name

-- what g makes of the route of a prefix, if there is one
unfoldable of_prefix : {A : Type 0} → (Route → Option A) → List ℕ → List Route → Option A
of_prefix g p [] = none
of_prefix g p (r ∷ rs) = pick (same_bytes p r.name) (g r) (of_prefix g p rs)

module _ {A : Type 0} (g : Route → Option A) (p : List ℕ) where
  -- where no route has the prefix, there is none
  prefix_none : {rs : List Route} → All (λ r. same_bytes p r.name ≡ false) rs → of_prefix g p rs ≡ none
  unfolding of_prefix pick
  prefix_none nothing = refl
  prefix_none (both e h) = rw e (prefix_none h)

  -- each route changed: if each changed route has what k makes of what it had, so has the prefix
  prefix_map : (h : Route → Route) (k : Option A → Option A) → Named h → k none ≡ none → ((r : Route) → g (h r) ≡ k (g r))
      → (rs : List Route) → of_prefix g p (map h rs) ≡ k (of_prefix g p rs)
  unfolding of_prefix
  prefix_map h k m z c [] = sym z
  prefix_map h k m z c (r ∷ rs) = rw (c r, m r, prefix_map h k m z c rs) (sym (pick_ap k (same_bytes p r.name) (g r) (of_prefix g p rs)))

  -- one route changed, but not in what g makes of it
  prefix_kept : (h : Route → Route) → Named h → ((r : Route) → g (h r) ≡ g r) → (i : ℕ) (rs : List Route)
      → of_prefix g p (on_at i h rs) ≡ of_prefix g p rs
  unfolding of_prefix on_at
  prefix_kept h m c i [] = refl
  prefix_kept h m c zero (r ∷ rs) = rw (c r, m r)
  prefix_kept h m c (suc i) (r ∷ rs) = rw (prefix_kept h m c i rs)

  module _ (q : List ℕ) where
    -- the route of q changed, so that g makes y of it
    prefix_set : (h : Route → Route) (y : Option A) → Named h → {rs : List Route} → All (λ r. g (h r) ≡ y) rs → route_of q rs < length rs
        → of_prefix g p (on_at (route_of q rs) h rs) ≡ pick (same_bytes p q) y (of_prefix g p rs)
    unfolding route_of index_of on_at of_prefix
    prefix_set h y m nothing = λ l. absurd (omega arith)
    prefix_set h y m (both {a = r} {l = rs} e es) =
        let rest = prefix_set h y m es in
        pick_ind
        (λ (i : ℕ). i < suc (length rs) → of_prefix g p (on_at i h (r ∷ rs)) ≡ pick (same_bytes p q) y (of_prefix g p (r ∷ rs)))
        (same_bytes q r.name) _ _
        (λ s k. rw (e, m r, same_equal q r.name s) (twice (same_bytes p r.name) y (g r) (of_prefix g p rs)))
        (λ s k. rw (rest (omega arith))
        (swap (same_bytes p q) (same_bytes p r.name) y (g r) (of_prefix g p rs) (apart_from p q r.name s)))

    -- a route added for q, which no route had
    prefix_added : (x : Route) → x.name ≡ q → {rs : List Route} → All (λ r. same_bytes q r.name ≡ false) rs
        → of_prefix g p (rs ++ (x ∷ [])) ≡ pick (same_bytes p q) (g x) (of_prefix g p rs)
    unfolding of_prefix
    prefix_added x s nothing = rw s
    prefix_added x s (both {a = r} {l = rs} f h) =
        rw (prefix_added x s h) (swap (same_bytes p q) (same_bytes p r.name) (g x) (g r) (of_prefix g p rs) (apart_from p q r.name f))

    -- the route of q dropped from the front, where no other has that prefix
    prefix_gone : (r : Route) (rs : List Route) → All (OtherRoute r) rs → q ≡ r.name
        → of_prefix g p rs ≡ pick (same_bytes p q) none (of_prefix g p (r ∷ rs))
    unfolding of_prefix pick
    prefix_gone r rs d e = go (same_bytes p q) refl
      where
        go : (b : Bool) → same_bytes p q ≡ b
            → of_prefix g p rs ≡ pick (same_bytes p q) none (pick (same_bytes p r.name) (g r) (of_prefix g p rs))
        go true a =
            let same : p ≡ r.name = same_equal p q a ∙ e in
            rw a (prefix_none (all_mono (λ x k. differs p x.name (λ z. k (sym same ∙ z))) d))
        go false a = let b : same_bytes p r.name ≡ false = rw (← e) a in rw (a, b)

    -- the route of q dropped
    prefix_dropped : {rs : List Route} → Apart OtherRoute rs
        → of_prefix g p (without (route_of q rs) rs) ≡ pick (same_bytes p q) none (of_prefix g p rs)
    unfolding route_of index_of without of_prefix
    prefix_dropped alone = sym (pick_same (same_bytes p q) none)
    prefix_dropped (among {a = r} {l = rs} d h) =
        let rest = prefix_dropped h in
        pick_ind (λ (i : ℕ). of_prefix g p (without i (r ∷ rs)) ≡ pick (same_bytes p q) none (of_prefix g p (r ∷ rs)))
        (same_bytes q r.name) _ _
        (λ e. prefix_gone r rs d (same_equal q r.name e))
        (λ e. rw rest (swap (same_bytes p q) (same_bytes p r.name) none (g r) (of_prefix g p rs) (apart_from p q r.name e)))

-- the class of a prefix
class_is : (p : List ℕ) (rs : List Route) → of_prefix (λ r. some r.cls) p rs ≡ class_at p rs
unfolding of_prefix class_at
class_is p [] = refl
class_is p (r ∷ rs) = rw (class_is p rs)

-- the hop on a face of a route
abbrev hop_on : ℕ → Route → Option ℕ
hop_on f r = slot f r.hops

-- the hop on a face of the route of a prefix
hop_is : (f : ℕ) (p : List ℕ) (rs : List Route) → of_prefix (hop_on f) p rs ≡ hop_at f (route_of p rs) rs
unfolding of_prefix hop_at route_of index_of at_place given
hop_is f p [] = refl
hop_is f p (r ∷ rs) =
    rw (hop_is f p rs) (sym (pick_ap (λ (i : ℕ). hop_at f i (r ∷ rs)) (same_bytes p r.name) 0 (suc (route_of p rs))))

-- a slot after that of a face was set to x
slot_set : {A : Type 0} (g f : ℕ) (x : Option A) (l : List (Option A)) → slot g (set_slot g x l) ≡ x
    → slot f (set_slot g x l) ≡ pick (eqb g f) x (slot f l)
slot_set g f x l s =
    pick_ind (λ y. slot f (set_slot g x l) ≡ y) (eqb g f) x (slot f l) (λ e. rw (← (eqb-true g f e)) s)
    (λ e. slot_set_other g f x l (λ q. eqb-false g f e (sym q)))

-- the hop on face g of the route of q set or dropped
hop_set : (f g : ℕ) (p q : List ℕ) (x : Option ℕ) {rs : List Route} → All (λ r. slot g (set_slot g x r.hops) ≡ x) rs
    → route_of q rs < length rs
    → of_prefix (hop_on f) p (on_at (route_of q rs) (with_hop g x) rs)
    ≡ pick (eqb g f && same_bytes p q) x (of_prefix (hop_on f) p rs)
unfolding with_hop pick
hop_set f g p q x {rs} a l = go (eqb g f) refl
  where
    go : (b : Bool) → eqb g f ≡ b
        → of_prefix (hop_on f) p (on_at (route_of q rs) (with_hop g x) rs)
        ≡ pick (b && same_bytes p q) x (of_prefix (hop_on f) p rs)
    go true e = prefix_set (hop_on f) p q (with_hop g x) x (λ r. refl)
        (all_mono (λ r k. rw (← (eqb-true g f e)) k) a) l
    go false e =
        prefix_kept (hop_on f) p (with_hop g x) (λ r. refl)
        (λ r. slot_set_other g f x r.hops (λ z. eqb-false g f e (sym z))) (route_of q rs) rs

-- a route added for q, which no route had: it has no hops, and no other has other hops
hop_added : (faces f : ℕ) (p q : List ℕ) (c : Class) {rs : List Route} → All (λ r. same_bytes q r.name ≡ false) rs
    → of_prefix (hop_on f) p (rs ++ (new_route faces q c ∷ [])) ≡ of_prefix (hop_on f) p rs
unfolding new_route
hop_added faces f p q c {rs} a =
    prefix_added (hop_on f) p q (new_route faces q c) refl a
    ∙ pick_ind (λ y. y ≡ of_prefix (hop_on f) p rs) (same_bytes p q) _ _
    (λ e. slot_no_slots f faces ∙ sym (prefix_none (hop_on f) p (all_mono (λ r k. rw (same_equal p q e) k) a)))
    (λ _. refl)

-- ---- what each command makes of something

-- what commands make of what `look` finds in the faces and the routes of a node is what `by` says
record Follows {A : Type 0} (faces : ℕ) (look : List (Option Face) → List Route → Option A) (by : What → Option A → Option A)
    (fs : List (Option Face)) (rs : List Route) : Type 0 where
  -- a packet, and a clock reading: nothing
  packets : (f : ℕ) (l : List ℕ) → look fs rs ≡ by (packet f l) (look fs rs)
  ticks : look fs rs ≡ by clock (look fs rs)
  -- a face opened, a face closed
  opens : (f scope link : ℕ) → 1 ≤ f → f ≤ faces
      → look (set_slot f (some (face_of scope link)) fs) rs ≡ by (open_face f scope link) (look fs rs)
  closes : (f : ℕ) → look (set_slot f none fs) (map (with_hop f none) rs) ≡ by (close_face f) (look fs rs)
  -- a known prefix given a class, a new one given a class, a route dropped
  sets : (c : ℕ) (p : List ℕ) → route_of p rs < length rs
      → look fs (on_at (route_of p rs) (with_class (class_of c)) rs) ≡ by (set_route c p) (look fs rs)
  adds : (c : ℕ) (p : List ℕ) → All (λ r. same_bytes p r.name ≡ false) rs
      → look fs (rs ++ (new_route faces p (class_of c) ∷ [])) ≡ by (set_route c p) (look fs rs)
  drops : (p : List ℕ) → look fs (without (route_of p rs) rs) ≡ by (drop_route p) (look fs rs)
  -- a hop added, a hop dropped
  hops : (f cost : ℕ) (p : List ℕ) → 1 ≤ f → f ≤ faces → route_of p rs < length rs
      → look fs (on_at (route_of p rs) (with_hop f (some cost)) rs) ≡ by (add_hop f cost p) (look fs rs)
  unhops : (f : ℕ) (p : List ℕ) → route_of p rs < length rs
      → look fs (on_at (route_of p rs) (with_hop f none) rs) ≡ by (drop_hop f p) (look fs rs)

-- a face that may be opened is one of the faces
open_face_lem : (faces : ℕ) (f : ℕ) → not (is_face faces f && true) ≡ false → (1 ≤ f) × (f ≤ faces)
unfolding is_face
open_face_lem faces f e =
    let a = names.both (is_face faces f) true (not-false (is_face faces f && true) e) in
    let b = names.both (leb 1 f) (leb f faces) a.0 in
    (leb-true 1 f b.0, leb-true f faces b.1)

module _ {A : Type 0} (faces : ℕ) (look : List (Option Face) → List Route → Option A) (by : What → Option A → Option A) where
  -- a packet that came in makes nothing of it
  heard_follows : (n : Node) → Follows faces look by n.faces n.routes → (w : What) (f : ℕ) (h : Heard) → Hears n w f h
      → look n.faces n.routes ≡ by w (look n.faces n.routes)
  heard_follows n k w f h j = let b = hears_bytes n f h w j in rw b.1 (k.packets f b.0)

  -- what it is after an event past the first three checks
  past_follows : (now : ℕ) (n : Node) → Follows faces look by n.faces n.routes → (w : What) (o : Outcome) → bad_face faces n w ≡ false
      → Past faces now n w o
      → look o.node.faces o.node.routes
      ≡ pick (is_done o.answer) (by w (look n.faces n.routes)) (look n.faces n.routes)
  unfolding quiet nack_for served asks_again renews sends_on satisfies opens_entry ends_by_nack settled close_step pick bad_face holds face_in
      opens_face
  past_follows now n k w o fine (case.unread f a j) =
      pick_ind (λ y. look n.faces n.routes ≡ y) (is_done a) _ _ (λ _. heard_follows n k w f _ j) (λ _. refl)
  past_follows now n k w o fine (case.refused f a d) = rw d
  past_follows now n k w o fine (case.turned_away v a d) = rw d
  past_follows now n k w o fine case.ticked = k.ticks
  past_follows now n k w o fine (case.nacked_back f q a reason j) =
      pick_ind (λ y. look n.faces n.routes ≡ y) (is_done a) _ _ (λ _. heard_follows n k w f _ q.comes) (λ _. refl)
  past_follows now n k w o fine (case.served_from f q h found absent) = heard_follows n k w f _ q.comes
  past_follows now n k w o fine (case.opened f q r h a b c d) = heard_follows n k w f _ q.comes
  past_follows now n k w o fine (case.joined f q x a) = heard_follows n k w f _ q.comes
  past_follows now n k w o fine (case.satisfied f q a) = heard_follows n k w f _ q.comes
  past_follows now n k w o fine (case.marked f q x a j z) = heard_follows n k w f _ q.comes
  past_follows now n k w o fine (case.nacked_on f q x a j z) = heard_follows n k w f _ q.comes
  past_follows now n k w o fine (case.opens_face f scope link a) = let g = open_face_lem faces f fine in k.opens f scope link g.0 g.1
  past_follows now n k w o fine (case.closes_face f) = k.closes f
  past_follows now n k w o fine (case.sets_class c p a b) = k.sets c p b
  past_follows now n k w o fine (case.adds_route c p h a b d) =
      k.adds c p (none_found (λ r. same_bytes p r.name) n.routes (unfold route_of in b))
  past_follows now n k w o fine (case.drops_route p a) = k.drops p
  past_follows now n k w o fine (case.adds_hop f cost p a b) =
      let g = good_face faces n f fine in k.hops f cost p g.low g.high b
  past_follows now n k w o fine (case.drops_hop f p a) = k.unhops f p a

  module _ (least : ℕ) (k : (n : Node) → Shaped faces n → Follows faces look by n.faces n.routes) where
    -- what it is after any event
    case_follows : (e : Event) (n : Node) (o : Outcome) → Becomes faces least e n o → Shaped faces n
        → look o.node.faces o.node.routes
        ≡ pick (is_done o.answer) (by e.what (look n.faces n.routes)) (look n.faces n.routes)
    unfolding quiet after_ageing pick aged
    case_follows e n o (ignored a d) s = rw d
    case_follows e n o (taken x t f b) s =
        past_follows e.time (aged e.time n) (k n s) e.what x (aged_face faces e.time n e.what f) b

    -- what it is after events, one after the other
    run_follows : (es : List Event) (n : Node) (x : Option A) → Shaped faces n → look n.faces n.routes ≡ x
        → look (run (step faces least) es n).faces (run (step faces least) es n).routes
        ≡ last_of (λ m. by m.event.what) (step faces least) es n x
    unfolding run last_of
    run_follows [] n x s e = e
    run_follows (v ∷ es) n x s e =
        run_follows es (step faces least v n).node _ (step_shaped faces least v n s)
        (rw e at (case_follows v n (step faces least v n) (becomes faces least v n) s))

-- ---- faces, classes and hops

module _ (faces : ℕ) (n : Node) (s : Shaped faces n) where
  -- a face
  face_follows : (f : ℕ) → Follows faces (λ fs rs. slot f fs) (face_by f) n.faces n.routes
  unfolding face_by
  face_follows f = record {
    packets = λ g l. refl;
    ticks = refl;
    opens = λ g scope link a b.
        slot_set g f (some (face_of scope link)) n.faces
        (slot_set_same g (some (face_of scope link)) n.faces a (omega (arith, s.size)));
    closes = λ g. slot_set g f none n.faces (slot_unset g n.faces);
    sets = λ c p a. refl;
    adds = λ c p a. refl;
    drops = λ p. refl;
    hops = λ g cost p a b c. refl;
    unhops = λ g p a. refl;
  }

  -- the class of a prefix
  class_follows : (p : List ℕ) → Follows faces (λ fs rs. of_prefix (λ r. some r.cls) p rs) (given_by p) n.faces n.routes
  unfolding given_by with_class with_hop new_route
  class_follows p = record {
    packets = λ g l. refl;
    ticks = refl;
    opens = λ g scope link a b. refl;
    closes = λ g. prefix_map _ p (with_hop g none) (λ x. x) (λ r. refl) refl (λ r. refl) n.routes;
    sets = λ c q a. prefix_set _ p q (with_class (class_of c)) (some (class_of c)) (λ r. refl) (all_any (λ r. refl) n.routes) a;
    adds = λ c q a. prefix_added _ p q (new_route faces q (class_of c)) refl a;
    drops = λ q. prefix_dropped _ p q s.routes.apart;
    hops = λ g cost q a b c. prefix_kept _ p (with_hop g (some cost)) (λ r. refl) (λ r. refl) _ n.routes;
    unhops = λ g q a. prefix_kept _ p (with_hop g none) (λ r. refl) (λ r. refl) _ n.routes;
  }

  -- the hop on a face of the route of a prefix
  hop_follows : (f : ℕ) (p : List ℕ) → Follows faces (λ fs rs. of_prefix (hop_on f) p rs) (hop_by f p) n.faces n.routes
  unfolding hop_by with_class with_hop new_route
  hop_follows f p = record {
    packets = λ g l. refl;
    ticks = refl;
    opens = λ g scope link a b. refl;
    closes = λ g.
        prefix_map _ p (with_hop g none) (λ x. pick (eqb g f) none x) (λ r. refl) (pick_same (eqb g f) none)
        (λ r. slot_set g f none r.hops (slot_unset g r.hops)) n.routes;
    sets = λ c q a. prefix_kept _ p (with_class (class_of c)) (λ r. refl) (λ r. refl) _ n.routes;
    adds = λ c q a. hop_added faces f p q (class_of c) a;
    drops = λ q. prefix_dropped _ p q s.routes.apart;
    hops = λ g cost q a b c.
        hop_set f g p q (some cost)
        (all_mono (λ r k. slot_set_same g (some cost) r.hops a (omega (arith, k.hops))) s.routes.each) c;
    unhops = λ g q a. hop_set f g p q none (all_any (λ r. slot_unset g r.hops) n.routes) a;
  }

-- what stands after events was set up by them
pub set_up_lem : (faces least : ℕ) (es : List Event) → SetUp faces (step faces least) es
unfolding empty_node
set_up_lem faces least es = record {
  opened = λ f.
      run_follows faces _ (face_by f) least (λ n s. face_follows faces n s f) es (empty_node faces) none (empty_shaped faces)
      (slot_no_slots f faces);
  classes = λ p.
      sym (class_is p _)
      ∙ run_follows faces _ (given_by p) least (λ n s. class_follows faces n s p) es (empty_node faces) none (empty_shaped faces)
      (prefix_none _ p nothing);
  hops = λ f p.
      sym (hop_is f p _)
      ∙ run_follows faces _ (hop_by f p) least (λ n s. hop_follows faces n s f p) es (empty_node faces) none (empty_shaped faces)
      (prefix_none _ p nothing);
}
