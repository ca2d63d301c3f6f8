-- How a wrong rule book is refused: what the demand asks is looked at in one event of a run, or in one element of a list that computes;
-- what it says there is a test that computes to false.
-- Assumes nothing.
use Prim.Native.Nat.{ℕ, zero, suc, ◌+◌}
use Rattle.std.specs.Prelude.{◌≡◌, Bool, ◌||◌, List, [], ◌∷◌, ◌++◌, ◌⊎◌, ltb, eqb}
use Rattle.std.proofs.Math.Path.{refl}
use Rattle.std.proofs.Common.{sym, ◌∙◌, ap, inl, inr, ⊎_elim, eq-eqb, arith}
use Rattle.std.proofs.Math.Bool.{true, false}
use Rattle.std.proofs.Math.Option.{Option, none, some, some-injective}
use Rattle.answers.specs.declared.Answer.{Answer}
use Rattle.answers.specs.Number.{number_of}
use Rattle.sizes.specs.Sizes.{most_faces, least_buffer}
use Rattle.packets.specs.Meaning.{Ask, Heard, refused, asks, brings, nacks}
use Rattle.records.specs.Slots.{at_place, slot, holds, any_of}
use Rattle.records.specs.Face.{Face, link_number}
use Rattle.records.specs.Route.{Route, longest}
use Rattle.records.specs.Entry.{Request, Entry}
use Rattle.records.specs.Happening.{Happening}
use Rattle.rules.specs.Node.{Node, What, Event, empty_node}
use Rattle.rules.specs.Outcome.{Send}
use Rattle.rules.specs.Packed.{Packed}
use Rattle.rules.specs.Step.{Book, paper_step}
use Rattle.refusals.specs.Refusals.{Check, Clock, SmallBuffer, BadFace, FaceOpen, PacketSize, Malformed, Unsupported, NameSize, BadSetting, HopLimit, Scope, Loop, NoRoute, NoRoom, Unsolicited, StaleNack, TableFull, answer_of, Applies}
use Rattle.refusals.specs.Laws.Exactly.{exactly}
use Rattle.refusals.specs.Laws.Leaves.{refusal_leaves}
use Rattle.refusals.specs.Laws.Longest.{longest_is}
use Rattle.incoming.specs.Incoming.{Hears}
use Rattle.incoming.specs.Laws.Incoming.{hears_one}
use Rattle.history.specs.Lists.{All, nothing, both, Some, here, there, In}
use Rattle.history.specs.Moments.{Moment, now, met, after, Arrives, moment, reached}
use Rattle.history.specs.Ends.{Stood}
use Rattle.history.specs.TakenIn.{request_at, Pending, Served}
use Rattle.history.specs.MustEnd.{Live}
use Rattle.history.specs.Room.{Routed}
use Rattle.history.specs.Laws.Runs.{last_moment}
use Rattle.demand3.specs.Demand3.{Accounts, Demand3}

-- false is not true
pub no : {A : Type 0} → false ≡ true → A
no e = absurd (let z : ◌≡◌ {A = ℕ} 0 1 = cc in omega arith)

-- what is asked of each event is asked of the last of some
pub last_event : {b : Book} {fill : List Send → List ℕ → Packed} → Demand3 most_faces least_buffer b fill → (es : List Event) (e : Event)
    → Accounts most_faces least_buffer (moment b e (reached most_faces b es))
last_event {b} d es e = last_moment (Accounts most_faces least_buffer) b es e (empty_node most_faces) (d.events (es ++ (e ∷ [])))

-- P holds of what is there, if something is
abbrev pub IfThere : {A : Type 0} → (A → Type 0) → Option A → Type 0
IfThere P none = Unit {0}
IfThere P (some x) = P x

module _ {A : Type 0} {P : A → Type 0} where
  -- what holds of each element holds of that at a place, if there is one
  pub all_at : (k : ℕ) {l : List A} → All P l → IfThere P (at_place k l)
  unfolding at_place
  all_at k nothing = tt
  all_at zero (both p h) = p
  all_at (suc k) (both p h) = all_at k h

  -- where P holds of some element, a test that holds wherever P does finds one
  pub some_found : (t : A → Bool) → ((y : A) → P y → t y ≡ true) → {l : List A} → Some P l → any_of t l ≡ true
  unfolding any_of
  some_found t k (here {a} p) = rw (k a p)
  some_found t k (there {a} s) = or_true (t a) (some_found t k s)
    where
      or_true : (b : Bool) {c : Bool} → c ≡ true → (b || c) ≡ true
      or_true true e = refl
      or_true false e = e

  -- a list that is empty has no element
  pub some_none : {l : List A} → Some P l → l ≡ [] → ⊥
  some_none (here p) e = let z : ◌≡◌ {A = ℕ} 0 1 = cc in omega arith
  some_none (there s) e = let z : ◌≡◌ {A = ℕ} 0 1 = cc in omega arith

-- whether an entry has on a face a request of an expiry
abbrev pub has_expiry : ℕ → ℕ → Entry → Bool
has_expiry f t x = holds (λ (r : Request). eqb r.expiry t) (slot f x.requests)

-- it has, where it stands there
has_expiry_lem : (f t : ℕ) (x : Entry) (r : Request) → slot f x.requests ≡ some r → r.expiry ≡ t → has_expiry f t x ≡ true
unfolding holds
has_expiry_lem f t x r e q = ap (holds (λ (r : Request). eqb r.expiry t)) e ∙ eq-eqb r.expiry t q

-- a request that stands is found by its face and its expiry
pub stood_found : {es : List Entry} {h : Happening} → Stood es h → any_of (has_expiry h.face h.expiry) es ≡ true
stood_found {es} {h} s =
    some_found (has_expiry h.face h.expiry)
    (λ y q. ap (has_expiry h.face h.expiry) q ∙ has_expiry_lem h.face h.expiry s.entry s.request s.held (sym s.expiry))
    s.pending

-- so is that of an Interest that is taken in, where the store is empty
pub taken_found : {m : Moment} {f : ℕ} {i : Ask} {bytes : List ℕ} → Pending m f i bytes ⊎ Served m f i → m.before.store ≡ []
    → any_of (has_expiry f (now m + i.lifetime)) (after m).pending ≡ true
taken_found {m} {f} {i} (inl p) e =
    some_found (has_expiry f (now m + i.lifetime))
    (λ y q. ap (has_expiry f (now m + i.lifetime)) q
    ∙ has_expiry_lem f (now m + i.lifetime) p.entry (request_at (now m) i) p.held refl) p.pending
taken_found (inr s) e = absurd (some_none s.stored e)

-- such an Interest left, where no entry stood before
pub taken_left : {m : Moment} {f : ℕ} {i : Ask} {bytes : List ℕ} → Pending m f i bytes ⊎ Served m f i → m.before.store ≡ []
    → (met m).pending ≡ [] → m.outcome.sends ≡ [] → ⊥
taken_left (inl p) e q n = some_none (p.left (λ x i k. some_none i q)).1 n
taken_left (inr s) e q n = some_none s.stored e

-- no check's answer is 0
refuses : (c : Check) → ltb 0 (number_of (answer_of c)) ≡ true
refuses Clock = refl
refuses SmallBuffer = refl
refuses BadFace = refl
refuses FaceOpen = refl
refuses PacketSize = refl
refuses Malformed = refl
refuses Unsupported = refl
refuses NameSize = refl
refuses BadSetting = refl
refuses HopLimit = refl
refuses Scope = refl
refuses Loop = refl
refuses NoRoute = refl
refuses NoRoom = refl
refuses Unsolicited = refl
refuses StaleNack = refl
refuses TableFull = refl

-- where the rules answer 0, no check applies
pub none_applies : (e : Event) (n : Node) → (paper_step e n).answer ≡ Answer.Done → (c : Check) → ¬ Applies most_faces least_buffer e n c
none_applies e n q =
    ⊎_elim (λ x. no (sym (ap (λ (a : Answer). ltb 0 (number_of a)) x.1) ∙ refuses x.0)) (λ x. x.1)
    ((exactly most_faces least_buffer e n Answer.Done).0 q)

-- where the rules refuse, what the demand asks is their outcome
pub refused_same : {m : Moment} → Accounts most_faces least_buffer m → ltb 0 (number_of (paper_step m.event m.before).answer) ≡ true
    → m.outcome ≡ paper_step m.event m.before
refused_same {m} k q =
    ⊎_elim (λ x. k.refuses x.0 x.2 ∙ sym (refusal_leaves most_faces least_buffer m.event m.before x.0 x.2))
    (λ x. no (sym (ap (λ (a : Answer). ltb 0 (number_of a)) x.0) ∙ q))
    ((exactly most_faces least_buffer m.event m.before (paper_step m.event m.before).answer).0 refl)

-- where they answer 0, no request that is over stands
pub live_after : {m : Moment} → Accounts most_faces least_buffer m → (paper_step m.event m.before).answer ≡ Answer.Done → Live m
live_after {m} k q = k.live (λ c _. none_applies m.event m.before q c)

-- the last time is the event's
pub timed_after : {m : Moment} → Accounts most_faces least_buffer m → (paper_step m.event m.before).answer ≡ Answer.Done
    → (after m).time ≡ now m
timed_after {m} k q = k.timed (λ c _. none_applies m.event m.before q c)

-- and the answer is 0
pub done_same : {m : Moment} → Accounts most_faces least_buffer m → (paper_step m.event m.before).answer ≡ Answer.Done
    → m.outcome.answer ≡ Answer.Done
done_same {m} k q = k.done (none_applies m.event m.before q)

-- two Interests that arrive are one
pub ask_one : {n : Node} {w : What} {f g : ℕ} {i j : Ask} {b c : List ℕ} → Hears n w f (asks i b) → Hears n w g (asks j c)
    → (f ≡ g) × (i ≡ j)
ask_one {n} {w} {f} {g} {i} {j} {b} {c} x y =
    let q = hears_one n w f g (asks i b) (asks j c) x y in
    let e : asks i b ≡ asks j c = q.1 in
    (q.0, cc)

-- the longest route for an Interest's name, as a look-up finds it
pub routed_is : {m : Moment} {r : Route} → Routed m r → {f : ℕ} {i : Ask} {bytes : List ℕ} → Arrives m f (asks i bytes)
    → (x : Route) → longest i.name (met m).routes ≡ some x → x ≡ r
routed_is {m} {r} h {i = i} y x e =
    let q : h.ask ≡ i = (ask_one h.came y).1 in
    some-injective _ _ (sym e ∙ (longest_is i.name (met m).routes r).1 (rw q at h.longest))

-- one face stands in a slot: its link
pub one_link : {x y : Face} → some x ≡ some y → link_number x.link ≡ link_number y.link
one_link e = ap (λ (x : Face). link_number x.link) (some-injective _ _ e)

-- and its scope
pub one_scope : {x y : Face} → some x ≡ some y → x.is_local ≡ y.is_local
one_scope e = ap (λ (x : Face). x.is_local) (some-injective _ _ e)

-- the one element of a list
pub in_one : {A : Type 0} {x y : A} {l : List A} → In x l → l ≡ y ∷ [] → y ≡ x
in_one (here p) e = cc
in_one (there {a} s) e = absurd (some_none s (cc))

-- whether an Interest was heard, a Data or a Nack
abbrev sort : Heard → ℕ
sort (refused a) = 0
sort (asks i bytes) = 1
sort (brings d bytes) = 2
sort (nacks reason i) = 3

-- what came in is of one sort
pub one_sort : {n : Node} {w : What} {f g : ℕ} {h k : Heard} → Hears n w f h → Hears n w g k → sort h ≡ sort k
one_sort {n} {w} {f} {g} {h} {k} x y = ap sort (hears_one n w f g h k x y).1
