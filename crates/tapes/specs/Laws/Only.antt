-- The other way round: an event that is read from bytes stands there in the form that is written, so that there is no other form of it.
-- Assumes nothing.
use Rattle.std.specs.Prelude.{ℕ, zero, suc, ◌+◌, ◌-◌, ◌^◌, ◌≤◌, ◌≡◌, Bool, true, ◌||◌, List, [], ◌∷◌, ◌++◌, length, take, drop, ltb, leb, eqb, Some}
use Rattle.std.proofs.Math.Path.{refl}
use Rattle.std.proofs.Common.{sym, ap, ◌∙◌, append_assoc, length-take, take-append-drop, get_or-drop, ltb-false, eqb-true, arith}
use Rattle.std.proofs.Math.Option.{none}
use Rattle.std.proofs.Math.Seq.{drop-append_seam}
use Rattle.laws.specs.Pick.{pick}
use Rattle.laws.specs.Laws.Pick.{pick_ind, pick_yes}
use Rattle.laws.specs.Laws.Loop.{and_both}
use Rattle.wire.specs.Bytes.{Bytes}
use Rattle.rules.specs.Node.{What, packet, clock, open_face, close_face, set_route, drop_route, add_hop, drop_hop}
use Rattle.tape.specs.Number.{Groups, cut, groups, sevens, regular, number_in, tape_number_at}
use Rattle.tape.specs.Laws.Number.{number_is}
use Rattle.tape.specs.Laws.NumberRound.{tape_form, number_shortest}
use Rattle.tapes.specs.Tape.{Reading, unreadable, event, onward, reads, takes, counted, of_kind, event_at}
use Rattle.tapes.specs.Tape.{arrival, ticking, opening, closing, setting, dropping, adding, leaving}
use Rattle.tapes.specs.Tape.{Tape, next, at_most, tape_of}
use Rattle.tapes.specs.Laws.Length.{event_long}
use Rattle.tapes.specs.Laws.Form.{with_length, kind_of, parts_of, written, all_written, fits, fitting, writable}

-- the tape as an event would be written, with what follows it
unfoldable form_of : List ℕ → Reading → List ℕ
form_of full unreadable = full
form_of full (event t w r) = written (record { time = t; what = w }) ++ r

-- whether it can be written
unfoldable can_be : Reading → Bool
can_be unreadable = true
can_be (event t w r) = writable (record { time = t; what = w })

-- what is read stands in its form
record Formed (full : List ℕ) (x : Reading) : Type 0 where
  form : form_of full x ≡ full
  can : can_be x ≡ true

-- nothing readable
formed_bad : (full : List ℕ) → Formed full unreadable
unfolding form_of can_be
formed_bad full = record { form = refl; can = refl }

-- a number in its form stands at the front
number_form : (l r : List ℕ) (v n : ℕ) → Bytes l → sevens l ≡ groups v n r → regular v n ≡ true
    → (tape_form v ++ r ≡ l) × (fits v ≡ true) × Bytes r
unfolding tape_number_at number_in regular fits
number_form l r v n b q f =
    let a = length l - length r in
    let e : tape_number_at l 0 ≡ Some (v, a) = rw q (pick_yes _ _ _ f) in
    let k = (number_is l 0 v a e).same in
    let d : drop a l ≡ r = cc in
    let w : l ≡ tape_form v ++ drop a l = number_shortest l 0 v a b e in
    let g = (and_both (eqb n 1 || leb (128 ^ (n - 1)) v) (ltb v (2 ^ 64)) f).1 in
    (ap (λ (u : List ℕ). tape_form v ++ u) (sym d) ∙ sym w, g, (λ i. rw (← d, get_or-drop) (b (a + i))))

-- a number at the front stands in its form
reads_form : (full l : List ℕ) (on : ℕ → List ℕ → Reading) → Bytes l
    → ((v : ℕ) (r : List ℕ) → tape_form v ++ r ≡ l → fits v ≡ true → Bytes r → Formed full (on v r)) → Formed full (reads l on)
unfolding reads onward
reads_form full l on b h = at_groups (sevens l) refl
  where
    at_groups : (g : Groups) → sevens l ≡ g → Formed full (onward g on)
    at_groups cut q = formed_bad full
    at_groups (groups v n r) q =
        pick_ind (λ (x : Reading). Formed full x) (regular v n) (on v r) unreadable
        (λ f. let k = number_form l r v n b q f in h v r k.0 k.1 k.2)
        (λ _. formed_bad full)

-- bytes after their length stand in their form
counted_form : (full l : List ℕ) (on : List ℕ → List ℕ → Reading) → Bytes l
    → ((p r : List ℕ) → with_length p ++ r ≡ l → fits (length p) ≡ true → Formed full (on p r)) → Formed full (counted l on)
unfolding counted takes with_length
counted_form full l on b h =
    reads_form full l _ b
    (λ n a e f c.
    pick_ind (λ (x : Reading). Formed full x) (ltb (length a) n) unreadable (on (take n a) (drop n a))
    (λ _. formed_bad full)
    (λ m.
    let k : length (take n a) ≡ n = omega (arith, length-take n a, ltb-false (length a) n m) in
    h (take n a) (drop n a)
    (rw (k, append_assoc (tape_form n) (take n a) (drop n a), take-append-drop n a) e)
    (rw k f)))

-- a part in front of parts that stand in their form
glue : (x y z r : List ℕ) → y ++ r ≡ z → (x ++ y) ++ r ≡ x ++ z
glue x y z r e = append_assoc x y r ∙ ap (λ (u : List ℕ). x ++ u) e

module _ (full l : List ℕ) (t : ℕ) (w : What) (r a : List ℕ) where
  -- an event whose parts stand in their form
  event_form : tape_form (kind_of w) ++ l ≡ full → tape_form t ++ a ≡ l → parts_of w ++ r ≡ a → fits t ≡ true → fitting w ≡ true
      → Formed full (event t w r)
  unfolding form_of can_be written writable
  event_form e f g h i =
      record {
        form = glue (tape_form (kind_of w)) (tape_form t ++ parts_of w) l r (glue (tape_form t) (parts_of w) a r g ∙ f) ∙ e;
        can = rw (h, i);
      }

module _ (full l : List ℕ) (bytes : Bytes l) where
  -- "1 time face length packet"
  arrival_form : tape_form 1 ++ l ≡ full → Formed full (arrival l)
  unfolding arrival kind_of parts_of fitting
  arrival_form e =
      reads_form full l _ bytes
      (λ t a et ft ba. reads_form full a _ ba
      (λ f b ef ff bb. counted_form full b _ bb
      (λ p r ep fp. event_form full l t (packet f p) r a e et (glue (tape_form f) (with_length p) b r ep ∙ ef) ft (rw (ff, fp)))))

  -- "2 time"
  ticking_form : tape_form 2 ++ l ≡ full → Formed full (ticking l)
  unfolding ticking kind_of parts_of fitting
  ticking_form e = reads_form full l _ bytes (λ t r et ft br. event_form full l t clock r r e et refl ft refl)

  -- "3 time face scope(0 local, 1 not) link(0, 1, 2 as above)"
  opening_form : tape_form 3 ++ l ≡ full → Formed full (opening l)
  unfolding opening kind_of parts_of fitting
  opening_form e =
      reads_form full l _ bytes
      (λ t a et ft ba. reads_form full a _ ba
      (λ f b ef ff bb. reads_form full b _ bb
      (λ x c ex fx bc. reads_form full c _ bc
      (λ y r ey fy br.
      let k = glue (tape_form f) (tape_form x ++ tape_form y) b r (glue (tape_form x) (tape_form y) c r ey ∙ ex) ∙ ef in
      event_form full l t (open_face f x y) r a e et k ft (rw (ff, fx, fy))))))

  -- "4 time face (close)"
  closing_form : tape_form 4 ++ l ≡ full → Formed full (closing l)
  unfolding closing kind_of parts_of fitting
  closing_form e =
      reads_form full l _ bytes
      (λ t a et ft ba. reads_form full a _ ba (λ f r ef ff br. event_form full l t (close_face f) r a e et ef ft ff))

  -- "5 time class length prefix"
  setting_form : tape_form 5 ++ l ≡ full → Formed full (setting l)
  unfolding setting kind_of parts_of fitting
  setting_form e =
      reads_form full l _ bytes
      (λ t a et ft ba. reads_form full a _ ba
      (λ x b ex fx bb. counted_form full b _ bb
      (λ p r ep fp. event_form full l t (set_route x p) r a e et (glue (tape_form x) (with_length p) b r ep ∙ ex) ft (rw (fx, fp)))))

  -- "6 time length prefix (drop)"
  dropping_form : tape_form 6 ++ l ≡ full → Formed full (dropping l)
  unfolding dropping kind_of parts_of fitting
  dropping_form e =
      reads_form full l _ bytes
      (λ t a et ft ba. counted_form full a _ ba (λ p r ep fp. event_form full l t (drop_route p) r a e et ep ft fp))

  -- "7 time face cost length prefix"
  adding_form : tape_form 7 ++ l ≡ full → Formed full (adding l)
  unfolding adding kind_of parts_of fitting
  adding_form e =
      reads_form full l _ bytes
      (λ t a et ft ba. reads_form full a _ ba
      (λ f b ef ff bb. reads_form full b _ bb
      (λ x c ex fx bc. counted_form full c _ bc
      (λ p r ep fp.
      let k = glue (tape_form f) (tape_form x ++ with_length p) b r (glue (tape_form x) (with_length p) c r ep ∙ ex) ∙ ef in
      event_form full l t (add_hop f x p) r a e et k ft (rw (ff, fx, fp))))))

  -- "8 time face length prefix (drop hop)"
  leaving_form : tape_form 8 ++ l ≡ full → Formed full (leaving l)
  unfolding leaving kind_of parts_of fitting
  leaving_form e =
      reads_form full l _ bytes
      (λ t a et ft ba. reads_form full a _ ba
      (λ f b ef ff bb. counted_form full b _ bb
      (λ p r ep fp. event_form full l t (drop_hop f p) r a e et (glue (tape_form f) (with_length p) b r ep ∙ ef) ft (rw (ff, fp)))))

  -- a kind of event or another
  or_form : (k n : ℕ) (x y : Reading) → tape_form k ++ l ≡ full → (tape_form n ++ l ≡ full → Formed full x) → Formed full y
      → Formed full (pick (eqb k n) x y)
  or_form k n x y e f g = pick_ind (λ (z : Reading). Formed full z) (eqb k n) x y (λ q. f (rw (eqb-true k n q) at e)) (λ _. g)

  -- an event of any kind
  kind_form : (k : ℕ) → tape_form k ++ l ≡ full → Formed full (of_kind k l)
  unfolding of_kind
  kind_form k e =
      or_form k 1 _ _ e arrival_form
      (or_form k 2 _ _ e ticking_form
      (or_form k 3 _ _ e opening_form
      (or_form k 4 _ _ e closing_form
      (or_form k 5 _ _ e setting_form
      (or_form k 6 _ _ e dropping_form
      (or_form k 7 _ _ e adding_form
      (or_form k 8 _ _ e leaving_form (formed_bad full))))))))

-- what is read at the front of a tape stands there in its form
front_form : (l : List ℕ) → Bytes l → Formed l (event_at l)
unfolding event_at
front_form l b = reads_form l l of_kind b (λ k a e f c. kind_form l a c k e)

-- an event that is read from bytes is what stands there as it would be written
pub event_only : (l r : List ℕ) (t : ℕ) (w : What) → Bytes l → event_at l ≡ event t w r → l ≡ written (record { time = t; what = w }) ++ r
unfolding form_of
event_only l r t w b e = sym (front_form l b).form ∙ rw e

-- and can be written
pub event_writable : (l r : List ℕ) (t : ℕ) (w : What) → Bytes l → event_at l ≡ event t w r
    → writable (record { time = t; what = w }) ≡ true
unfolding can_be
event_writable l r t w b e = rw e at (front_form l b).can

-- what follows bytes among bytes is bytes
bytes_rest : (l r : List ℕ) → Bytes (l ++ r) → Bytes r
bytes_rest l r b i = rw (← (drop-append_seam l r), get_or-drop (length l) (l ++ r) i 0) (b (length l + i))

-- a list of no length
no_length : (l : List ℕ) → length l ≡ 0 → [] ≡ l
no_length [] h = refl
no_length (x ∷ l) h = absurd (omega arith)

-- events at the end of a tape, none of them unreadable, are what stands there
most_only : (k n : ℕ) (l : List ℕ) → length l ≤ k → Bytes l → (at_most k n l).bad ≡ none → all_written (at_most k n l).events ≡ l
unfolding at_most all_written next
most_only zero n l h b = λ _. no_length l (omega arith)
most_only (suc k) n l h b =
    pick_ind (λ (t : Tape). t.bad ≡ none → all_written t.events ≡ l) (eqb (length l) 0) _ _
    (λ e _. no_length l (eqb-true (length l) 0 e))
    (λ _. at_front (event_at l) refl (λ r. most_only k n r))
  where
    at_front : (x : Reading) → event_at l ≡ x
        → ((r : List ℕ) → length r ≤ k → Bytes r → (at_most k n r).bad ≡ none → all_written (at_most k n r).events ≡ r)
        → (next (n - length l) x (λ r. at_most k n r)).bad ≡ none → all_written (next (n - length l) x (λ r. at_most k n r)).events ≡ l
    at_front unreadable q ih = λ e. let z : ◌≡◌ {A = ℕ} 0 1 = cc in absurd (omega arith)
    at_front (event t w r) q ih =
        let f = event_only l r t w b q in
        let m = event_long l r t w q in
        let c = bytes_rest (written (record { time = t; what = w })) r (rw f at b) in
        λ e. ap (λ (u : List ℕ). written (record { time = t; what = w }) ++ u) (ih r (omega (arith, m)) c e) ∙ sym f

-- a tape of bytes without an unreadable event is its events as they would be written
pub tape_only : (l : List ℕ) → Bytes l → (tape_of l).bad ≡ none → all_written (tape_of l).events ≡ l
unfolding tape_of
tape_only l b e = most_only (length l) (length l) l (omega arith) b e
