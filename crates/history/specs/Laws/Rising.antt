-- "Sends are packed .. in ascending face order": the faces of an event's sends ascend strictly (`sends_rise`), so at most one packet leaves
-- on a face (`one_each`).
-- Assumes nothing.
use Rattle.std.specs.Prelude.{ℕ, suc, ◌≤◌, ◌<◌, ◌≡◌, refl, Bool, false, List, [], ◌∷◌, ◌++◌, map, length, eqb}
use Rattle.std.proofs.Math.Option.{Option, none, some}
use Rattle.std.proofs.Common.{eqb-true, ne_eqb, arith}
use Rattle.answers.specs.declared.Answer.{Answer}
use Rattle.laws.specs.Pick.{pick}
use Rattle.laws.specs.Laws.Pick.{pick_ind}
use Rattle.packets.specs.Meaning.{Ask}
use Rattle.records.specs.Class.{Class}
use Rattle.records.specs.Slots.{holds, given, Held, held_from, held, only}
use Rattle.records.specs.Face.{Face, is_peer}
use Rattle.records.specs.Entry.{Request, Entry}
use Rattle.rules.specs.Node.{face_in, opens_face, Node, What, Event}
use Rattle.rules.specs.Outcome.{Send, Outcome, quiet, nacks_to, nack_for}
use Rattle.rules.specs.Ageing.{aged}
use Rattle.rules.specs.Interest.{Arrival, forwards, sends_on, renews, opens_entry, asks_again, served}
use Rattle.rules.specs.Data.{is_self_met, copy_on, copies, satisfies}
use Rattle.records.specs.Entry.{class_on}
use Rattle.rules.specs.Nack.{peers_of, nack_of, ends_by_nack}
use Rattle.rules.specs.Command.{close_step}
use Rattle.rules.specs.Step.{bad_face, after_ageing, step}
use Rattle.history.specs.Laws.Hops.{cheapest_may, resends_may}
use Rattle.history.specs.Laws.Known.{with_request, onward}
use Rattle.history.specs.Laws.Becomes.{aged_face, arrival, came_face, Past, Becomes, ignored, taken, becomes, asked}
use Rattle.history.specs.Laws.Becomes as case
use Rattle.history.specs.Sends.{Rising, done, next, sent_to}

-- what ascends from k on ascends from any lower number on
rising_from : {j k : ℕ} {ss : List Send} → j ≤ k → Rising k ss → Rising j ss
rising_from h done = done
rising_from {j} h (next {s = s} p r) = let q : j ≤ s.face = omega arith in next q r

-- none goes to a face below k
below : {k : ℕ} {ss : List Send} (f : ℕ) → Rising k ss → f < k → sent_to f ss ≡ 0
unfolding sent_to only pick
below f done h = refl
below f (next {s = s} p r) h = let q : eqb s.face f ≡ false = ne_eqb s.face f (λ e. omega arith) in rw q (below f r (omega arith))

-- where the faces ascend, at most one send goes to each
pub rising_one : {k : ℕ} {ss : List Send} (f : ℕ) → Rising k ss → sent_to f ss ≤ 1
unfolding sent_to only
rising_one f done = omega arith
rising_one f (next {s = s} {ss = ss} p r) =
    let rest = rising_one f r in
    pick_ind (λ (l : List Send). length l ≤ 1) (eqb s.face f) _ _
    (λ e. let z = below f r (omega (arith, eqb-true s.face f e)) in omega arith) (λ _. rest)

-- the copies of a Data, for the faces from k on
copies_rise : (n : Node) (f : ℕ) (bytes : List ℕ) (es : List Entry) (k : ℕ) (l : List (Option Face)) → Rising k (copies n f bytes es k l)
unfolding copies copy_on given
copies_rise n f bytes es k [] = done
copies_rise n f bytes es k (a ∷ l) = go (copies_rise n f bytes es (suc k) l) (class_on k es) refl
  where
    later : List Send
    later = copies n f bytes es (suc k) l

    go : Rising (suc k) (copies n f bytes es (suc k) l) → (x : Option Class) → class_on k es ≡ x
        → Rising k (copy_on n f bytes es k ++ copies n f bytes es (suc k) l)
    go rest none q =
        rw q (pick_ind (λ (ss : List Send). Rising k (ss ++ later)) (is_self_met n f k) _ _ (λ _. rising_from (omega arith) rest)
        (λ _. rising_from (omega arith) rest))
    go rest (some c) q =
        let here : k ≤ k = omega arith in
        rw q (pick_ind (λ (ss : List Send). Rising k (ss ++ later)) (is_self_met n f k) _ _ (λ _. rising_from (omega arith) rest)
        (λ _. next here rest))

-- the Nacks of an entry's requests, for the faces from k on
nacks_rise : (e : Entry) (p : Held Request → Bool) (k : ℕ) (l : List (Option Request)) → Rising k (map (nack_of e) (only p (held_from k l)))
unfolding held_from only nack_of
nacks_rise e p k [] = done
nacks_rise e p k (none ∷ l) = rising_from (omega arith) (nacks_rise e p (suc k) l)
nacks_rise e p k (some r ∷ l) =
    let rest = nacks_rise e p (suc k) l in
    let here : k ≤ k = omega arith in
    pick_ind (λ (hs : List (Held Request)). Rising k (map (nack_of e) hs)) (p (record { face = k; what = r })) _ _ (λ _. next here rest)
    (λ _. rising_from (omega arith) rest)

-- a send by itself
one_rises : (s : Send) → 1 ≤ s.face → Rising 1 (s ∷ [])
one_rises s h = next h done

-- a refusal's Nack
refusal_rises : (a : Answer) (reason : ℕ) (n : Node) (f : ℕ) (i : Ask) → 1 ≤ f → Rising 1 (nack_for a reason n f i).sends
unfolding nack_for nacks_to
refusal_rises a reason n f i h = pick_ind (Rising 1) (is_peer n.faces f) _ _ (λ _. one_rises _ h) (λ _. done)

-- a further Interest
again_rises : (a : Arrival) (c : Class) (x : Option ℕ) → ((h : ℕ) → x ≡ some h → 1 ≤ h) → Rising 1 (onward a c x)
unfolding given forwards
again_rises a c none k = done
again_rises a c (some h) k = one_rises _ (k h refl)

module _ (faces now : ℕ) (m : Node) where
  -- whatever an event comes to past the first three checks
  past_rises : (w : What) (o : Outcome) → bad_face faces m w ≡ false → Past faces now m w o → Rising 1 o.sends
  unfolding quiet opens_entry forwards asks_again renews sends_on satisfies served bad_face holds face_in opens_face close_step ends_by_nack
      peers_of held
  past_rises w o fine (case.unread f a k) = done
  past_rises w o fine (case.refused f a d) = done
  past_rises w o fine (case.turned_away v a d) = done
  past_rises w o fine case.ticked = done
  past_rises w o fine (case.nacked_back f q a reason k) = refusal_rises a reason m f (asked q) (came_face faces m w f _ q.comes fine).low
  past_rises w o fine (case.served_from f q h found absent) = one_rises _ (came_face faces m w f _ q.comes fine).low
  past_rises w o fine (case.opened f q r h a b c d) = one_rises _ (cheapest_may m (arrival f q) _ r h c).face
  past_rises w o fine (case.joined f q x a) =
      again_rises (arrival f q) _ _ (λ h k. (resends_may now m (arrival f q) (with_request now (arrival f q) x) h k).face)
  past_rises w o fine (case.satisfied f q a) = copies_rise m f q.bytes _ 1 m.faces
  past_rises w o fine (case.marked f q x a k z) = done
  past_rises w o fine (case.nacked_on f q x a k z) = nacks_rise _ _ 1 _
  past_rises w o fine (case.opens_face f scope link a) = done
  past_rises w o fine (case.closes_face f) = done
  past_rises w o fine (case.sets_class c p a b) = done
  past_rises w o fine (case.adds_route c p s a b d) = done
  past_rises w o fine (case.drops_route p a) = done
  past_rises w o fine (case.adds_hop f cost p a b) = done
  past_rises w o fine (case.drops_hop f p a) = done

module _ (faces least : ℕ) (e : Event) (n : Node) where
  -- whatever an event comes to
  by_case : (o : Outcome) → Becomes faces least e n o → Rising 1 o.sends
  unfolding quiet after_ageing
  by_case o (ignored a d) = done
  by_case o (taken p t f k) = past_rises faces e.time (aged e.time n) e.what p (aged_face faces e.time n e.what f) k

  -- in any event, from any node: the faces of what is sent ascend strictly, from 1 on
  pub sends_rise : Rising 1 (step faces least e n).sends
  sends_rise = by_case (step faces least e n) (becomes faces least e n)

  -- so at most one packet leaves on a face, "one copy per face however many requests it ends". This says nothing of two events: an Interest
  -- that comes again may be served again
  pub one_each : (f : ℕ) → sent_to f (step faces least e n).sends ≤ 1
  one_each f = rising_one f sends_rise
