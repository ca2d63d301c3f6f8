-- Every event of a tape takes two bytes at least, so that a tape has at most half as many events as bytes.
-- Assumes nothing.
use Rattle.std.specs.Prelude.{ℕ, zero, suc, ◌+◌, ◌*◌, ◌-◌, ◌≤◌, ◌<◌, ◌≡◌, refl, Bool, List, length, take, drop, ltb, eqb}
use Rattle.std.proofs.Common.{ap, length-drop, arith}
use Rattle.laws.specs.Pick.{pick}
use Rattle.laws.specs.Laws.Pick.{pick_ind}
use Rattle.rules.specs.Node.{What}
use Rattle.tape.specs.Number.{Groups, cut, groups, sevens, regular}
use Rattle.tape.specs.Laws.Number.{sevens_counted}
use Rattle.tapes.specs.Tape.{Reading, unreadable, event, onward, reads, takes, counted, of_kind, event_at}
use Rattle.tapes.specs.Tape.{arrival, ticking, opening, closing, setting, dropping, adding, leaving}
use Rattle.tapes.specs.Tape.{Tape, next, at_most, tape_of}

-- two bytes and what an event leaves
unfoldable span : Reading → ℕ
span unreadable = 0
span (event t w r) = 2 + length r

-- what follows a number is shorter
reads_span : (l : List ℕ) (on : ℕ → List ℕ → Reading) (m : ℕ) → ((v : ℕ) (r : List ℕ) → length r < length l → span (on v r) ≤ m)
    → span (reads l on) ≤ m
unfolding reads onward span
reads_span l on m h = at_groups (sevens l) refl
  where
    at_groups : (g : Groups) → sevens l ≡ g → span (onward g on) ≤ m
    at_groups cut q = omega arith
    at_groups (groups v n r) q =
        pick_ind (λ (x : Reading). span x ≤ m) (regular v n) (on v r) unreadable
        (λ _.
        let c = sevens_counted l r v n q in
        let k : length (drop n l) ≡ length r = ap length c.rest in
        h v r (omega (arith, c.some, c.inside, length-drop n l)))
        (λ _. omega arith)

-- what follows a length and bytes is shorter
counted_span : (l : List ℕ) (on : List ℕ → List ℕ → Reading) (m : ℕ) → ((p r : List ℕ) → length r < length l → span (on p r) ≤ m)
    → span (counted l on) ≤ m
unfolding counted takes span
counted_span l on m h =
    reads_span l _ m
    (λ n r k.
    pick_ind (λ (x : Reading). span x ≤ m) (ltb (length r) n) unreadable (on (take n r) (drop n r))
    (λ _. omega arith)
    (λ _. h (take n r) (drop n r) (omega (arith, length-drop n r))))

-- an event that leaves two bytes less
last_span : (t : ℕ) (w : What) (r : List ℕ) (m : ℕ) → 2 + length r ≤ m → span (event t w r) ≤ m
unfolding span
last_span t w r m h = h

-- a choice of two
or_span : (b : Bool) (x y : Reading) (m : ℕ) → span x ≤ m → span y ≤ m → span (pick b x y) ≤ m
or_span b x y m f g = pick_ind (λ (e : Reading). span e ≤ m) b x y (λ _. f) (λ _. g)

-- nothing readable
bad_span : (m : ℕ) → span unreadable ≤ m
unfolding span
bad_span m = omega arith

module _ (l : List ℕ) where
  -- "1 time face length packet"
  arrival_span : span (arrival l) ≤ suc (length l)
  unfolding arrival
  arrival_span = reads_span l _ _ (λ t a h. reads_span a _ _ (λ f b i. counted_span b _ _ (λ p r j. last_span t _ r _ (omega arith))))

  -- "2 time"
  ticking_span : span (ticking l) ≤ suc (length l)
  unfolding ticking
  ticking_span = reads_span l _ _ (λ t r h. last_span t _ r _ (omega arith))

  -- "3 time face scope(0 local, 1 not) link(0, 1, 2 as above)"
  opening_span : span (opening l) ≤ suc (length l)
  unfolding opening
  opening_span =
      reads_span l _ _
      (λ t a h. reads_span a _ _ (λ f b i. reads_span b _ _ (λ x c j. reads_span c _ _ (λ y r q. last_span t _ r _ (omega arith)))))

  -- "4 time face (close)"
  closing_span : span (closing l) ≤ suc (length l)
  unfolding closing
  closing_span = reads_span l _ _ (λ t a h. reads_span a _ _ (λ f r i. last_span t _ r _ (omega arith)))

  -- "5 time class length prefix"
  setting_span : span (setting l) ≤ suc (length l)
  unfolding setting
  setting_span = reads_span l _ _ (λ t a h. reads_span a _ _ (λ x b i. counted_span b _ _ (λ p r j. last_span t _ r _ (omega arith))))

  -- "6 time length prefix (drop)"
  dropping_span : span (dropping l) ≤ suc (length l)
  unfolding dropping
  dropping_span = reads_span l _ _ (λ t a h. counted_span a _ _ (λ p r i. last_span t _ r _ (omega arith)))

  -- "7 time face cost length prefix"
  adding_span : span (adding l) ≤ suc (length l)
  unfolding adding
  adding_span =
      reads_span l _ _
      (λ t a h. reads_span a _ _ (λ f b i. reads_span b _ _ (λ x c j. counted_span c _ _ (λ p r q. last_span t _ r _ (omega arith)))))

  -- "8 time face length prefix (drop hop)"
  leaving_span : span (leaving l) ≤ suc (length l)
  unfolding leaving
  leaving_span = reads_span l _ _ (λ t a h. reads_span a _ _ (λ f b i. counted_span b _ _ (λ p r j. last_span t _ r _ (omega arith))))

  -- an event past its kind
  kind_span : (k : ℕ) → span (of_kind k l) ≤ suc (length l)
  unfolding of_kind
  kind_span k =
      or_span (eqb k 1) _ _ _ arrival_span
      (or_span (eqb k 2) _ _ _ ticking_span
      (or_span (eqb k 3) _ _ _ opening_span
      (or_span (eqb k 4) _ _ _ closing_span
      (or_span (eqb k 5) _ _ _ setting_span
      (or_span (eqb k 6) _ _ _ dropping_span
      (or_span (eqb k 7) _ _ _ adding_span
      (or_span (eqb k 8) _ _ _ leaving_span (bad_span _))))))))

-- an event takes two bytes at least
pub event_long : (l r : List ℕ) (t : ℕ) (w : What) → event_at l ≡ event t w r → 2 + length r ≤ length l
unfolding event_at span
event_long l r t w e =
    let h : span (event_at l) ≤ length l = reads_span l of_kind (length l) (λ k a h. omega (arith, kind_span a k)) in
    rw e at h

-- at most k events, at the end of a tape
most_half : (k n : ℕ) (l : List ℕ) → 2 * length (at_most k n l).events ≤ length l
unfolding at_most next
most_half zero n l = omega arith
most_half (suc k) n l =
    pick_ind (λ (t : Tape). 2 * length t.events ≤ length l) (eqb (length l) 0) _ _
    (λ _. omega arith)
    (λ _. at_front (event_at l) refl (λ r. most_half k n r))
  where
    at_front : (x : Reading) → event_at l ≡ x → ((r : List ℕ) → 2 * length (at_most k n r).events ≤ length r)
        → 2 * length (next (n - length l) x (λ r. at_most k n r)).events ≤ length l
    at_front unreadable q ih = omega arith
    at_front (event t w r) q ih = omega (arith, ih r, event_long l r t w q)

-- a tape has at most half as many events as bytes
pub tape_half : (l : List ℕ) → 2 * length (tape_of l).events ≤ length l
unfolding tape_of
tape_half l = most_half (length l) (length l) l
