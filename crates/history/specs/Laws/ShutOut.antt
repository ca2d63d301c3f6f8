-- What the statements shut out, as document 01 asks under "How strong the statements are": a node that only refuses, one with a constant
-- answer, one that never touches one of its tables, one that works on the first event and pretends later, and one that reports invented
-- totals, of any column.
-- Assumes nothing.
use Rattle.std.specs.Prelude.{ℕ, ◌+◌, ◌≡◌, refl, List, [], ◌∷◌, length}
use Rattle.std.proofs.Common.{sym, ◌∙◌, ap, arith}
use Rattle.answers.specs.declared.Answer.{Answer}
use Rattle.answers.specs.Number.{number_of}
use Rattle.sizes.specs.Sizes.{most_time}
use Rattle.records.specs.Slots.{slot}
use Rattle.records.specs.Happening.{Fate}
use Rattle.rules.specs.Node.{Node, packet, clock, open_face, set_route, Event}
use Rattle.rules.specs.Outcome.{Outcome, quiet}
use Rattle.rules.specs.Step.{history, paper_node, paper_step}
use Rattle.rules.specs.Laws.Compute.{computed}
use Rattle.history.specs.Key.{counted, open_in, open_now, of_face, key_at}
use Rattle.history.specs.Lists.{how_many}
use Rattle.history.specs.Moments.{moments, paper_run, paper_outcomes, paper_history}
use Rattle.history.specs.ShutOut.{Meets}
use Rattle.history.specs.Laws.Every.{not_none}
use Rattle.history.specs.Laws.Runs.{at, a, asks_a, brings_a, ready, asked, run_of, run_has}

-- a clock reading is done
tick : (paper_step (at 1 clock) paper_node).answer ≡ Answer.Done
unfolding computed
tick = refl

-- a clock reading past all times is refused
late : (paper_step (at (most_time + 1) clock) paper_node).answer ≡ Answer.Clock
unfolding computed
late = refl

-- done is not refused by the clock
apart : Answer.Done ≡ Answer.Clock → ⊥
apart e = let z : ◌≡◌ {A = ℕ} 0 1 = ap number_of e in omega arith

-- a node that only refuses
pub only_refuses : (f : Event → Node → Outcome) → Meets f → ((e : Event) (n : Node) → (f e n).answer ≡ Answer.Done → ⊥) → ⊥
only_refuses f m r = r (at 1 clock) paper_node (ap (λ (o : Outcome). o.answer) (m (at 1 clock) paper_node) ∙ tick)

-- a node with a constant answer
pub constant_answer : (f : Event → Node → Outcome) (a : Answer) → Meets f → ((e : Event) (n : Node) → (f e n).answer ≡ a) → ⊥
constant_answer f a m c =
    let p : Answer.Done ≡ a = sym tick ∙ sym (ap (λ (o : Outcome). o.answer) (m (at 1 clock) paper_node)) ∙ c (at 1 clock) paper_node in
    let q : Answer.Clock ≡ a =
    sym late ∙ sym (ap (λ (o : Outcome). o.answer) (m (at (most_time + 1) clock) paper_node)) ∙ c (at (most_time + 1) clock) paper_node in
    apart (p ∙ sym q)

-- a node that never touches a table t, which an event changes
untouched_of : {A : Type 0} (t : Node → A) (e : Event) (n : Node) → (t (paper_step e n).node ≡ t n → ⊥)
    → (f : Event → Node → Outcome) → Meets f → ((e : Event) (n : Node) → t (f e n).node ≡ t n) → ⊥
untouched_of t e n c f m u = c (sym (ap (λ (o : Outcome). t o.node) (m e n)) ∙ u e n)

-- a clock reading moves the last time
moved : (paper_step (at 1 clock) paper_node).node.time ≡ paper_node.time → ⊥
unfolding computed
moved e = let z : ◌≡◌ {A = ℕ} 1 0 = e in omega arith

-- opening a face changes the faces
opened_face : (paper_step (at 0 (open_face 1 1 0)) paper_node).node.faces ≡ paper_node.faces → ⊥
unfolding computed
opened_face e = not_none (sym (ap (slot 1) e))

-- setting a route changes the routes
routed : (paper_step (at 0 (set_route 1 a)) paper_node).node.routes ≡ paper_node.routes → ⊥
unfolding computed
routed e = let z : ◌≡◌ {A = ℕ} 1 0 = ap length e in omega arith

-- an Interest that opens changes the pending table
pended : (paper_step (at 100 (packet 1 (asks_a 4))) (paper_run (ready 1 a))).node.pending ≡ (paper_run (ready 1 a)).pending → ⊥
unfolding computed
pended e = let z : ◌≡◌ {A = ℕ} 1 0 = ap length e in omega arith

-- a Data that was asked for changes the store
brought : (paper_step (at 101 (packet 2 brings_a)) (paper_run asked)).node.store ≡ (paper_run asked).store → ⊥
unfolding computed
brought e = let z : ◌≡◌ {A = ℕ} 1 0 = ap length e in omega arith

-- an entry that leaves changes the dead nonces
buried : (paper_step (at 4100 clock) (paper_run asked)).node.dead ≡ (paper_run asked).dead → ⊥
unfolding computed
buried e = let z : ◌≡◌ {A = ℕ} 1 0 = ap length e in omega arith

module _ (f : Event → Node → Outcome) (m : Meets f) where
  -- a node that never touches its last time
  pub untouched_time : ((e : Event) (n : Node) → (f e n).node.time ≡ n.time) → ⊥
  untouched_time u = untouched_of (λ n. n.time) (at 1 clock) paper_node moved f m u

  -- its faces
  pub untouched_faces : ((e : Event) (n : Node) → (f e n).node.faces ≡ n.faces) → ⊥
  untouched_faces u = untouched_of (λ n. n.faces) (at 0 (open_face 1 1 0)) paper_node opened_face f m u

  -- its routes
  pub untouched_routes : ((e : Event) (n : Node) → (f e n).node.routes ≡ n.routes) → ⊥
  untouched_routes u = untouched_of (λ n. n.routes) (at 0 (set_route 1 a)) paper_node routed f m u

  -- its pending table
  pub untouched_pending : ((e : Event) (n : Node) → (f e n).node.pending ≡ n.pending) → ⊥
  untouched_pending u = untouched_of (λ n. n.pending) (at 100 (packet 1 (asks_a 4))) (paper_run (ready 1 a)) pended f m u

  -- its store
  pub untouched_store : ((e : Event) (n : Node) → (f e n).node.store ≡ n.store) → ⊥
  untouched_store u = untouched_of (λ n. n.store) (at 101 (packet 2 brings_a)) (paper_run asked) brought f m u

  -- its dead nonces
  pub untouched_dead : ((e : Event) (n : Node) → (f e n).node.dead ≡ n.dead) → ⊥
  untouched_dead u = untouched_of (λ n. n.dead) (at 4100 clock) (paper_run asked) buried f m u

  -- none of its tables
  pub untouched : ((e : Event) (n : Node) → (f e n).node ≡ n) → ⊥
  untouched u = untouched_time (λ e n. ap (λ (x : Node). x.time) (u e n))

-- the answer of the last of two outcomes
second : List Outcome → Answer
second [] = Answer.Done
second (o ∷ []) = Answer.Done
second (o ∷ p ∷ os) = p.answer

-- opening a face twice is refused the second time
twice : second (paper_outcomes (at 0 (open_face 1 1 0) ∷ at 0 (open_face 1 1 0) ∷ [])) ≡ Answer.FaceOpen
unfolding computed second moments
twice = refl

-- done is not an open face
unlike : Answer.Done ≡ Answer.FaceOpen → ⊥
unlike e = let z : ◌≡◌ {A = ℕ} 0 14 = ap number_of e in omega arith

-- a node that works on the first event and pretends later: every further event is done and changes nothing
pub pretends_later : (g : List Event → List Outcome) → ((es : List Event) → g es ≡ paper_outcomes es)
    → ((d e : Event) → g (d ∷ e ∷ []) ≡ paper_step d paper_node ∷ quiet Answer.Done (paper_step d paper_node).node ∷ []) → ⊥
unfolding second quiet
pretends_later g m p =
    let d = at 0 (open_face 1 1 0) in
    unlike (sym (ap second (p d d)) ∙ ap second (m (d ∷ d ∷ [])) ∙ twice)

-- a total that is the same whatever happened is not a column of which one run has 1 and no events have 0
invented : (column : List Event → ℕ) (es : List Event) → column es ≡ 1 → column [] ≡ 0 → (total : List Event → ℕ)
    → ((es : List Event) → total es ≡ column es) → (k : ℕ) → ((es : List Event) → total es ≡ k) → ⊥
invented column es one none total m k c =
    let p : 1 ≡ k = sym one ∙ sym (m es) ∙ c es in
    let q : 0 ≡ k = sym none ∙ sym (m []) ∙ c [] in
    omega arith

-- no events bring no request to a fate
none_counted : (x : Fate) → counted x (of_face 1) (paper_history []) ≡ 0
unfolding history counted how_many
none_counted x = refl

-- a node that reports an invented total, the same whatever happened: of the requests opened, answered, Nacked, expired, closed or self-met
pub invented_total : (x : Fate) (total : List Event → ℕ) → ((es : List Event) → total es ≡ counted x (of_face 1) (paper_history es))
    → (k : ℕ) → ((es : List Event) → total es ≡ k) → ⊥
invented_total x = invented (λ es. counted x (of_face 1) (paper_history es)) (run_of x) (run_has x) (none_counted x)

-- a request stands after an Interest that opens
one_stands : open_now (of_face 1) (paper_run asked).pending ≡ 1
unfolding computed open_now open_in how_many key_at of_face
one_stands = refl

-- none stands after no events
none_stands : open_now (of_face 1) (paper_run []).pending ≡ 0
unfolding computed open_now
none_stands = refl

-- or of those open now
pub invented_open : (total : List Event → ℕ) → ((es : List Event) → total es ≡ open_now (of_face 1) (paper_run es).pending)
    → (k : ℕ) → ((es : List Event) → total es ≡ k) → ⊥
invented_open = invented (λ es. open_now (of_face 1) (paper_run es).pending) asked one_stands none_stands

-- two reports that agree with the history agree with each other, so that no total is left to invent
pub totals_one : (x : Fate) (f : ℕ) (a b : List Event → ℕ) → ((es : List Event) → a es ≡ counted x (of_face f) (paper_history es))
    → ((es : List Event) → b es ≡ counted x (of_face f) (paper_history es)) → (es : List Event) → a es ≡ b es
totals_one x f a b p q es = p es ∙ sym (q es)
