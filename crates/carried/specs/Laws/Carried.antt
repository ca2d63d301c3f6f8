-- DEMANDS 1, 2 AND 3 OF THE CODE (`carried`): any calls, from cleared tables, with any buffers, show the rules' moments.
-- Assumes nothing.
use Rattle.std.specs.Prelude.{ℕ, ◌+◌, ◌≤◌, ◌<◌, ◌≡◌, refl, Bool, true, false, ◌&&◌, List, [], ◌∷◌, ◌++◌, map, ltb, leb, length, take}
use Rattle.std.proofs.Common.{sym, ap, ◌∙◌, arith, zero-add, lt-ltb, leb-true, leb-false}
use Rattle.std.proofs.lemmas.List.{length-map}
use Rattle.laws.specs.Laws.Pick.{pick_ind, pick_yes}
use Rattle.laws.specs.Laws.Writes.{sets_back}
use Rattle.sizes.specs.Sizes.{most_faces, least_buffer}
use Rattle.records.specs.Happening.{Fate, Happening, opened, answered, nacked, expired, closed, self_met}
use Rattle.records.specs.Rows.{row_of}
use Rattle.records.specs.Laws.Each.{map_append}
use Rattle.rules.specs.Node.{Node, empty_node, Event}
use Rattle.rules.specs.Outcome.{Outcome, quiet}
use Rattle.rules.specs.Packed.{packed, packed_from}
use Rattle.rules.specs.Step.{bad_time, step, run, history, paper_step}
use Rattle.event.specs.declared.Memory.{Memory}
use Rattle.event.specs.Memory.{node_of}
use Rattle.event.specs.Comes.{Comes}
use Rattle.history.specs.Lists.{All, nothing, both, one, how_many, Pairs}
use Rattle.history.specs.Lists as lists
use Rattle.history.specs.Key.{key_of, is_fate, of_face, counted, Accounted}
use Rattle.history.specs.Moments.{moment, moments, told}
use Rattle.history.specs.Sends.{filled_to, Filled}
use Rattle.history.specs.Shape.{Shaped}
use Rattle.history.specs.Laws.Filled.{sends_filled}
use Rattle.history.specs.Laws.ShapeKept.{empty_shaped, step_shaped}
use Rattle.demand3.specs.Demand3.{Accounts}
use Rattle.demand3.specs.Laws.Meets.{accounts, paper_meets}
use Rattle.carried.specs.Calls.{Call, event_of, Made, Calls, Cleared}
use Rattle.carried.specs.Calls as calls
use Rattle.carried.specs.Carried.{Shows, written, written_by, rows_of, Balanced, Rowed, Carried}
use Rattle.carried.specs.Laws.Rows.{step_rows}

-- a call keeps the promise of an event: one step of the rules
abbrev Keeps : Call → Type 0
Keeps c =
    Comes 0 (paper_step (event_of c) (node_of c.memory.entry)) c.came (node_of c.memory.exit) c.output.entry c.output.exit

-- so does every call of one of the eight functions
made_keeps : (c : Call) → Made c → Keeps c
made_keeps c (calls.packet κs a x s p) = p
made_keeps c (calls.clock f r d κs a x s p) = p f r d
made_keeps c (calls.open_face r d κs a x s p) = p r d
made_keeps c (calls.close_face d κs a x s p) = p d
made_keeps c (calls.set_route f d κs a x s p) = p f d
made_keeps c (calls.drop_route f d κs a x s p) = p f d
made_keeps c (calls.add_hop d κs a x s p) = p d
made_keeps c (calls.drop_hop d κs a x s p) = p d

-- with a buffer that is too short nothing is sent
short_silent : (e : Event) (n : Node) → e.room < least_buffer → (paper_step e n).sends ≡ []
unfolding step quiet
short_silent e n h =
    pick_ind (λ (x : Outcome). x.sends ≡ []) (bad_time n e.time) _ _ (λ _. refl)
    (λ _. ap (λ (x : Outcome). x.sends) (pick_yes (ltb e.room least_buffer) _ _ (lt-ltb _ _ h)))

-- nothing fills nothing
none_filled : (b : List ℕ) → Filled [] b (packed [] b)
unfolding packed packed_from filled_to
none_filled b = record { stand = lists.done; size = refl; within = omega arith; rest = refl }

-- the sends of any event fill its buffer
step_filled : (e : Event) (n : Node) (b : List ℕ) → e.room ≡ length b → Shaped most_faces n
    → Filled (paper_step e n).sends b (packed (paper_step e n).sends b)
step_filled e n b r s = go (leb least_buffer (length b)) refl
  where
    go : (t : Bool) → leb least_buffer (length b) ≡ t → Filled (paper_step e n).sends b (packed (paper_step e n).sends b)
    go true q =
        let h : least_buffer ≤ length b = leb-true least_buffer (length b) q in
        sends_filled most_faces least_buffer e n b (omega (arith, h)) (omega (arith, h)) s
    go false q = rw (short_silent e n (omega (arith, leb-false least_buffer (length b) q))) (none_filled b)

-- a call in a node of the shape that events lead to shows the moment of its event
call_shows : (c : Call) → Keeps c → Shaped most_faces (node_of c.memory.entry)
    → Shows c (moment paper_step (event_of c) (node_of c.memory.entry))
call_shows c k s =
    let n = node_of c.memory.entry in
    let b = c.output.entry.buffer in
    let ss = (paper_step (event_of c) n).sends in
    record {
      event = refl;
      before = refl;
      after = sym k.node;
      answer = sym k.answer;
      sent = sym k.sent;
      places = (packed ss b).places;
      sends = k.sends;
      filled = rw k.buffer (step_filled (event_of c) n b refl s);
      made = sym (k.made ∙ zero-add _);
      rows = k.rows;
    }

-- calls from a memory that means a node of that shape
carry : (m : Memory) (cs : List Call) (m' : Memory) → Shaped most_faces (node_of m) → Calls m cs m'
    → Pairs (λ c x. Shows c x × Accounts most_faces least_buffer x) cs (moments paper_step (map event_of cs) (node_of m))
    × (node_of m' ≡ run paper_step (map event_of cs) (node_of m))
unfolding moments run
carry m [] m' s calls.done = (lists.done, refl)
carry m (c ∷ cs) m' s (calls.next made from rest) =
    let k = made_keeps c made in
    let z : Shaped most_faces (node_of c.memory.entry) = rw (← from) at s in
    let then : Shaped most_faces (node_of c.memory.exit) =
    rw k.node (step_shaped most_faces least_buffer (event_of c) (node_of c.memory.entry) z) in
    let w = rw k.node at (carry c.memory.exit cs m' then rest) in
    rw (← from)
    (lists.next (call_shows c k z, accounts most_faces least_buffer (event_of c) (node_of c.memory.entry) z) w.0, w.1)

-- the rows that a call wrote are those of the happenings
call_written : (c : Call) → Keeps c → Rowed c → written c ≡ map row_of (paper_step (event_of c) (node_of c.memory.entry)).happenings
call_written c k r =
    let hs = (paper_step (event_of c) (node_of c.memory.entry)).happenings in
    let n : c.came.made ≡ length (map row_of hs) = k.made ∙ zero-add _ ∙ sym (length-map hs row_of) in
    ap (λ (i : ℕ). take i c.output.exit.rows) n ∙ ap (take (length (map row_of hs))) k.rows
    ∙ sets_back (map row_of hs) c.output.entry.rows 0 (omega (arith, r, step_rows c.memory.entry (event_of c), length-map hs row_of))

-- so those of calls are those of their history
calls_written : (m : Memory) (cs : List Call) (m' : Memory) → All Rowed cs → Calls m cs m'
    → written_by cs ≡ map row_of (history paper_step (map event_of cs) (node_of m))
unfolding written_by history
calls_written m [] m' r calls.done = refl
calls_written m (c ∷ cs) m' (both r rs) (calls.next made from rest) =
    let k = made_keeps c made in
    let o = paper_step (event_of c) (node_of c.memory.entry) in
    let y : written_by cs ≡ map row_of (history paper_step (map event_of cs) o.node) = rw k.node at (calls_written _ cs m' rs rest) in
    rw (← from)
    (ap (λ (x : List (List ℕ)). x ++ written_by cs) (call_written c k r)
    ∙ ap (λ (x : List (List ℕ)). map row_of o.happenings ++ x) y
    ∙ sym (map_append row_of o.happenings (history paper_step (map event_of cs) o.node)))

-- as many rows with a fate and a face as happenings
rows_count : (x : Fate) (f : ℕ) (hs : List Happening) → rows_of x f (map row_of hs) ≡ counted x (of_face f) hs
unfolding rows_of counted how_many row_of is_fate of_face key_of
rows_count x f [] = refl
rows_count x f (h ∷ hs) = ap (λ (k : ℕ). one (is_fate x h.fate && of_face f (key_of h)) + k) (rows_count x f hs)

-- rows of happenings that are accounted for balance
rows_balance : (f : ℕ) (hs : List Happening) (m : Memory) → Accounted (of_face f) hs (node_of m).pending → Balanced f (map row_of hs) m
rows_balance f hs m a =
    rw (
      rows_count opened f hs,
      rows_count answered f hs,
      rows_count nacked f hs,
      rows_count expired f hs,
      rows_count closed f hs,
      rows_count self_met f hs,
    ) a

-- ANY CALLS, FROM CLEARED TABLES, SHOW WHAT DEMAND 3 ASKS
pub carried : (m : Memory) (cs : List Call) (m' : Memory) → Cleared m → Calls m cs m' → Carried cs m'
carried m cs m' cleared made =
    let e : node_of m ≡ empty_node most_faces = ap node_of cleared.left ∙ cleared.kept.0 in
    let y = rw e at (carry m cs m' (rw e (empty_shaped most_faces)) made) in
    record {
      events = y.0;
      node = y.1;
      balance = λ r f.
          let w = rw e at (calls_written m cs m' r made) in
          rw w
          (rows_balance f (told most_faces paper_step (map event_of cs)) m'
          (rw y.1 (paper_meets.accounted (of_face f) (map event_of cs))));
      accounted = λ p. rw y.1 (paper_meets.accounted p (map event_of cs));
      turns = λ f name p q. rw y.1 (paper_meets.turns f name p q (map event_of cs));
      asked = paper_meets.asked (map event_of cs);
      brought = rw y.1 (paper_meets.brought (map event_of cs));
      set_up = paper_meets.set_up (map event_of cs);
      classes = rw y.1 (paper_meets.classes (map event_of cs));
      shaped = rw y.1 (paper_meets.shaped (map event_of cs));
    }
