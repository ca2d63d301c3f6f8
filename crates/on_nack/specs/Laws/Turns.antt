-- The parts of a Nack's outcome: requests that end by Nack, and an out-record that is marked.
-- Assumes nothing.
use Prim.Native.Nat.{ℕ, zero, suc, ◌%◌, ◌≤◌}
use Rattle.std.specs.declared.option.Option as code
use Rattle.std.specs.Prelude.{◌≡◌, Bool, ◌&&◌, length, None, Some}
use Rattle.std.proofs.Math.Path.{refl, ap}
use Rattle.std.proofs.Common.{sym, ◌∙◌, mod-eq_of_lt, arith}
use Rattle.std.proofs.Math.Bool.{true, false}
use mathlib.Core.List.{List, [], ◌∷◌, map}
use Rattle.std.proofs.Math.Option.{none, some, some-injective, none-ne-some}
use Rattle.answers.specs.declared.Answer.{Answer}
use Rattle.laws.specs.Pick.{pick}
use Rattle.laws.specs.Lists.{on_at, without}
use Rattle.laws.specs.Laws.Pick.{pick_yes, pick_no}
use Rattle.sizes.specs.Sizes.{most_faces}
use Rattle.names.specs.Fingerprint.{fnv_start, fingerprint}
use Rattle.records.specs.Class.{class_of, class_number}
use Rattle.records.specs.Face.{is_peer}
use Rattle.records.specs.Slots.{at_place, slot, is_some, given, held, only}
use Rattle.records.specs.Entry.{Entry, is_known, is_idle, ending, smallest_reason, all_nacked, with_nack, with_sent}
use Rattle.records.specs.Ageing.{becoming}
use Rattle.records.specs.Line.{Line}
use Rattle.records.specs.Happening.{nacked, happens}
use Rattle.records.specs.Rows.{row_of}
use Rattle.records.specs.Laws.Place.{place_on_at}
use Rattle.faces.specs.Set.{has_face, faces_where}
use Rattle.faces.specs.Laws.Where.{where_both}
use Rattle.happenings.specs.Noted.{most_rows, Notes}
use Rattle.pending_entry.specs.Operations.{asking_faces}
use Rattle.pending_records.specs.Operations.{noted, noted_by, nacks_in, nacks_of}
use Rattle.pending_table.specs.declared.Facts.{Facts}
use Rattle.pending_table.specs.Operations.{nothing, facts_of}
use Rattle.pending_pass.specs.Places.Pass.{Leaves}
use Rattle.rules.specs.Node.{Node, print_of}
use Rattle.rules.specs.Outcome.{Outcome, quiet}
use Rattle.rules.specs.Nack.{peers_of, nack_of, settled, ends_by_nack, nacked_entry}
use Rattle.sending.specs.Rows.{Packs}
use Rattle.event.specs.declared.Came.{Came}
use Rattle.event.specs.Memory.{Output}
use Rattle.coming.specs.Goes.{Goes}
use Rattle.coming.specs.Laws.Goes.{goes_by, goes_quiet}
use Rattle.on_nack.specs.Places.Nacks.{nacks_on}
use Rattle.on_nack.specs.Places.Turns.{left_with}
use Rattle.on_nack.specs.Laws.Peers.{only_peers, ending_peers}
use Rattle.on_nack.specs.Laws.Nacks.{nacks_are}

module _ {A : Type 0} where
  -- taking out what was changed is taking it out
  without_on : (k : ℕ) (f : A → A) (l : List A) → without k (on_at k f l) ≡ without k l
  unfolding without on_at
  without_on k f [] = refl
  without_on zero f (a ∷ l) = refl
  without_on (suc k) f (a ∷ l) = ap (λ (x : List A). a ∷ x) (without_on k f l)

  -- putting something in the place of what was changed is putting it there
  on_again : (k : ℕ) (f : A → A) (b : A) (l : List A) → on_at k (λ _. b) (on_at k f l) ≡ on_at k (λ _. b) l
  unfolding on_at
  on_again k f b [] = refl
  on_again zero f b (a ∷ l) = refl
  on_again (suc k) f b (a ∷ l) = ap (λ (x : List A). a ∷ x) (on_again k f b l)

  -- changing what stands at a place is putting the changed there
  on_there : (k : ℕ) (f : A → A) (l : List A) (a : A) → at_place k l ≡ some a → on_at k f l ≡ on_at k (λ _. f a) l
  unfolding at_place on_at
  on_there k f [] a q = refl
  on_there zero f (x ∷ l) a q = let p : x ≡ a = cc in rw p
  on_there (suc k) f (x ∷ l) a q = ap (λ (y : List A). x ∷ y) (on_there k f l a q)

-- the entries when that at place k, changed before, is now x
becoming_again : (k : ℕ) (f : Entry → Entry) (x : Entry) (es : List Entry) → becoming k x (on_at k f es) ≡ becoming k x es
unfolding becoming
becoming_again k f x es = rw (without_on k f es, on_again k f x es)

-- the entries after that at place k, e, is changed and leaves where it has no requests then
becoming_there : (k : ℕ) (f : Entry → Entry) (es : List Entry) (e : Entry) → at_place k es ≡ some e
    → pick (is_idle (f e)) (without k (on_at k f es)) (on_at k f es) ≡ becoming k (f e) es
unfolding becoming
becoming_there k f es e p = rw (without_on k f es, on_there k f es e p)

module _ {C : Type 0} (n : Node) (made k : ℕ) (e : Entry) (p : at_place k n.pending ≡ some e) (wide : length e.requests ≡ most_faces)
    (said : class_of (class_number e.cls) ≡ e.cls) (reason : ℕ) (name : List ℕ) (b m : Bool)
    (least : reason ≡ smallest_reason (held e.sent)) (known : is_known name b m e ≡ true) where
  -- each point-to-point request ends by a Nack: Nacks sent for the faces of the set, the requests noted and ended, and the entry left
  -- where it has none then
  pub turn_ends : (asking all set class : ℕ) → asking ≡ given 0 (asking_faces most_faces) (at_place k n.pending)
      → all ≡ faces_where most_faces (is_peer n.faces)
      → set ≡ faces_where most_faces (λ f. has_face most_faces asking f && has_face most_faces all f)
      → class ≡ class_number e.cls
      → (o o' : Output) (sent : ℕ)
      → Packs (nacks_on (at_place k n.pending) set reason name b m class) sent o.sends o'.sends o.buffer o'.buffer
      → (made' : ℕ)
      → Notes most_rows made' o'.rows o.rows made (given [] (noted nacked n.time (has_face most_faces set)) (at_place k n.pending))
      → (es₁ es' : List Entry) → es₁ ≡ on_at k (ending (has_face most_faces set)) n.pending
      → (ms ms' : C → List Bool) (ls' : List Line)
      → ((x : Entry) → at_place k es₁ ≡ some x → Leaves (fingerprint fnv_start) n.time k x es₁ ms n.dead es' ms' ls')
      → Goes made (ends_by_nack n.time n k e) (record { answer = Answer.Done; sent = sent; made = made' }) (left_with n es' ls') o o'
  unfolding given ends_by_nack settled peers_of noted noted_by print_of
  turn_ends asking all set class ea eb es-set ec o o' sent packs made' notes es₁ es' ends ms ms' ls' leave =
      let peer : (ℕ → Bool) = is_peer n.faces in
      let is : set ≡ faces_where most_faces (λ f. is_some (slot f e.requests) && peer f) = set_is in
      let x : Entry = ending peer e in
      let same : ending (has_face most_faces set) e ≡ x = ending_peers most_faces peer e wide set is in
      let there : at_place k es₁ ≡ some x = rw ends (place_on_at k (ending (has_face most_faces set)) n.pending e p ∙ ap some same) in
      let l = leave x there in
      let nacks : nacks_on (at_place k n.pending) set reason name b m class ≡ map (nack_of e) (only (λ h. peer h.face) (held e.requests)) =
      rw p (nacks_are peer e wide set is reason name b m class least known ec said) in
      let w : Packs (map (nack_of e) (only (λ h. peer h.face) (held e.requests))) sent o.sends o'.sends o.buffer
      o'.buffer = rw nacks at packs in
      let rows : given [] (noted nacked n.time (has_face most_faces set)) (at_place k n.pending)
      ≡ map row_of (map (happens nacked n.time e) (only (λ h. peer h.face) (held e.requests))) =
      rw (p, only_peers most_faces peer e wide set is) in
      let entries : es' ≡ becoming k x n.pending =
      l.entries ∙ rw (ends, ← same) (becoming_there k (ending (has_face most_faces set)) n.pending e p) in
      record {
        answer = refl;
        node = rw (entries, l.lines);
        sent = w.sent;
        sends = w.noted;
        buffer = w.buffer;
        noted = rw rows at notes;
      }
    where
      set_is : set ≡ faces_where most_faces (λ f. is_some (slot f e.requests) && is_peer n.faces f)
      set_is = unfold asking_faces in
          es-set ∙ rw (ea, eb, p) (where_both most_faces (λ f. is_some (slot f e.requests)) (is_peer n.faces))

-- no choice of a reason: the test fails
not_all : (b : Bool) (k : ℕ) → none ≡ pick b (some k) none → b ≡ false
unfolding pick
not_all true k q = absurd (none-ne-some k q)
not_all false k q = refl

-- a choice of a reason: the test holds, and it is that reason
is_all : (b : Bool) (j k : ℕ) → some j ≡ pick b (some k) none → (b ≡ true) × (j ≡ k)
unfolding pick
is_all true j k q = (refl, some-injective _ _ q)
is_all false j k q = absurd (none-ne-some j (sym q))

-- an answer alone leaves everything as it was
pub turn_quiet : (x : Outcome) (y : Answer) (k : ℕ) (r : Came) (n : Node) (o : Output) → x ≡ quiet y n
    → r ≡ record { answer = y; sent = 0; made = k } → Goes k x r n o o
turn_quiet x y k r n o h e = rw (h, e) (goes_quiet k y _ n o refl refl refl)

module _ (n : Node) (made k : ℕ) (es₁ : List Entry) (e : Entry) (p : at_place k n.pending ≡ some e) (f reason : ℕ)
    (marked : es₁ ≡ on_at k (with_nack f reason) n.pending) (a : code.Option ℕ)
    (told : nacks_in a ≡ given none nacks_of (at_place k es₁)) where
  -- the entry with its out-record marked
  abbrev x : Entry
  x = with_nack f reason e

  -- it stands where the entry stood
  pub marked_there : at_place k es₁ ≡ some x
  marked_there = rw marked (place_on_at k (with_nack f reason) n.pending e p)

  -- what is told of it
  told_is : nacks_in a ≡ pick (all_nacked x) (some (smallest_reason (held x.sent))) none
  unfolding given nacks_of
  told_is = told ∙ rw marked_there

  -- where not all out-records are Nacked, it stays
  pub turn_open : a ≡ None → (r : Came) (o : Output) → r ≡ record { answer = Answer.Done; sent = 0; made = made }
      → Goes made (nacked_entry n.time n k x) r (left_with n es₁ n.dead) o o
  unfolding nacked_entry nacks_in
  turn_open w r o q =
      let no : all_nacked x ≡ false = not_all _ _ (ap nacks_in (sym w) ∙ told_is) in
      let stays : es₁ ≡ on_at k (λ _. x) n.pending = marked ∙ on_there k (with_nack f reason) n.pending e p in
      turn_quiet _ Answer.Done made r (left_with n es₁ n.dead) o (rw (no, pick_no, stays)) q

  -- requests that end by Nack from there on are those that end by this Nack
  ends_again : all_nacked x ≡ true → nacked_entry n.time n k x ≡ ends_by_nack n.time (left_with n es₁ n.dead) k x
  unfolding nacked_entry ends_by_nack settled peers_of
  ends_again all =
      pick_yes _ _ _ all
      ∙ rw (marked, becoming_again k (with_nack f reason) (ending (is_peer n.faces) x) n.pending)

  module _ (least : ℕ) (w : a ≡ Some least) where
    -- where all are Nacked, the least reason is told
    pub least_is : least ≡ smallest_reason (held x.sent)
    unfolding nacks_in
    least_is = (is_all _ _ _ (ap nacks_in (sym w) ∙ told_is)).1

    -- and the requests end by Nack
    pub turn_nacked : (r : Came) (n' : Node) (o o' : Output)
        → Goes made (ends_by_nack n.time (left_with n es₁ n.dead) k x) r n' o o' → Goes made (nacked_entry n.time n k x) r n' o o'
    unfolding nacks_in
    turn_nacked r n' o o' t =
        let all : all_nacked x ≡ true = (is_all _ _ _ (ap nacks_in (sym w) ∙ told_is)).0 in
        goes_by made _ _ r n' o o' (ends_again all) t

-- the class word that is told of an entry is its class's number
pub facts_class : (x : Facts) (k : ℕ) (es : List Entry) (e : Entry) → x ≡ given nothing facts_of (at_place k es) → at_place k es ≡ some e
    → x.class ≡ class_number e.cls
unfolding given facts_of
facts_class x k es e w p = rw (w, p)

-- marking an out-record leaves what an entry is known by
pub known_marked : (name : List ℕ) (b m : Bool) (f reason : ℕ) (e : Entry) → is_known name b m e ≡ true
    → is_known name b m (with_nack f reason e) ≡ true
unfolding is_known with_nack with_sent
known_marked name b m f reason e y = y

-- a reason of at most 150 is one byte
pub reason_byte : (least reason : ℕ) → least ≡ reason → reason ≤ 150 → least % 256 ≡ reason
reason_byte least reason e l = rw e (mod-eq_of_lt (omega arith))
