-- The round trip: an event written as a tape has it is read back, whatever follows it.
-- Assumes nothing.
use Rattle.std.specs.Prelude.{ℕ, zero, suc, ◌+◌, ◌^◌, ◌≤◌, ◌≡◌, refl, true, ◌&&◌, length}
use Rattle.std.proofs.Common.{◌∙◌, length-append, le-ltb, ne_eqb, ltb-true, arith}
use mathlib.Core.List.{List, [], ◌∷◌, ◌++◌, append_assoc}
use Rattle.std.proofs.Math.Option.{none}
use Rattle.std.proofs.Math.Seq.{take-append_seam, drop-append_seam}
use Rattle.laws.specs.Pick.{pick}
use Rattle.laws.specs.Laws.Loop.{and_both}
use Rattle.rules.specs.Node.{What, packet, clock, open_face, close_face, set_route, drop_route, add_hop, drop_hop}
use Rattle.tape.specs.Laws.Number.{number_is}
use Rattle.tape.specs.Laws.NumberRound.{tape_form, number_written}
use Rattle.tapes.specs.Tape.{Reading, event, onward, reads, takes, counted, of_kind, event_at}
use Rattle.tapes.specs.Tape.{arrival, ticking, opening, closing, setting, dropping, adding, leaving}
use Rattle.tapes.specs.Tape.{Given, ends, next, at_most, tape_of}
use Rattle.tapes.specs.Laws.Length.{event_long}
use Rattle.tapes.specs.Laws.Form.{with_length, kind_of, parts_of, written, all_written, fits, fitting, writable, all_writable}

-- a number that is written is read back
number_back : (v : ℕ) (rest : List ℕ) (on : ℕ → List ℕ → Reading) → fits v ≡ true → reads (tape_form v ++ rest) on ≡ on v rest
unfolding reads fits onward pick
number_back v rest on h =
    let s = tape_form v ++ rest in
    let n = length (tape_form v) in
    let z : length {A = ℕ} [] + n ≡ n = omega arith in
    let k = number_is s 0 v n (number_written v [] rest (ltb-true v (2 ^ 64) h) ∙ rw z) in
    rw (k.same, k.form, drop-append_seam (tape_form v) rest)

-- a number in front of what is written further
front : (v : ℕ) (l rest : List ℕ) (on : ℕ → List ℕ → Reading) → fits v ≡ true → reads ((tape_form v ++ l) ++ rest) on ≡ on v (l ++ rest)
front v l rest on h = rw (append_assoc (tape_form v) l rest) (number_back v (l ++ rest) on h)

-- bytes after their length
counted_back : (p rest : List ℕ) (on : List ℕ → List ℕ → Reading) → fits (length p) ≡ true → counted (with_length p ++ rest) on ≡ on p rest
unfolding counted with_length takes pick
counted_back p rest on h =
    front (length p) p rest _ h
    ∙ rw (le-ltb (length (p ++ rest)) (length p) (omega (arith, length-append p rest)), take-append_seam p rest, drop-append_seam p rest)

module _ (t : ℕ) (rest : List ℕ) (h : fits t ≡ true) where
  -- an event of each kind that is written, past its kind
  past_kind : (w : What) → fitting w ≡ true → of_kind (kind_of w) ((tape_form t ++ parts_of w) ++ rest) ≡ event t w rest
  unfolding of_kind kind_of parts_of fitting pick arrival ticking opening closing setting dropping adding leaving
  past_kind (packet f p) e =
      let k = and_both (fits f) (fits (length p)) e in
      front t _ rest _ h ∙ front f _ rest _ k.0 ∙ counted_back p rest _ k.1
  past_kind clock e = front t [] rest _ h
  past_kind (open_face f scope link) e =
      let k = and_both (fits f) (fits scope && fits link) e in
      let m = and_both (fits scope) (fits link) k.1 in
      front t _ rest _ h ∙ front f _ rest _ k.0 ∙ front scope _ rest _ m.0 ∙ number_back link rest _ m.1
  past_kind (close_face f) e = front t _ rest _ h ∙ number_back f rest _ e
  past_kind (set_route class p) e =
      let k = and_both (fits class) (fits (length p)) e in
      front t _ rest _ h ∙ front class _ rest _ k.0 ∙ counted_back p rest _ k.1
  past_kind (drop_route p) e = front t _ rest _ h ∙ counted_back p rest _ e
  past_kind (add_hop f cost p) e =
      let k = and_both (fits f) (fits cost && fits (length p)) e in
      let m = and_both (fits cost) (fits (length p)) k.1 in
      front t _ rest _ h ∙ front f _ rest _ k.0 ∙ front cost _ rest _ m.0 ∙ counted_back p rest _ m.1
  past_kind (drop_hop f p) e =
      let k = and_both (fits f) (fits (length p)) e in
      front t _ rest _ h ∙ front f _ rest _ k.0 ∙ counted_back p rest _ k.1

-- each kind fits
kind_fits : (w : What) → fits (kind_of w) ≡ true
unfolding fits kind_of
kind_fits (packet f p) = refl
kind_fits clock = refl
kind_fits (open_face f scope link) = refl
kind_fits (close_face f) = refl
kind_fits (set_route class p) = refl
kind_fits (drop_route p) = refl
kind_fits (add_hop f cost p) = refl
kind_fits (drop_hop f p) = refl

-- an event that is written is read back, whatever follows it
pub event_back : (g : Given) (rest : List ℕ) → writable g ≡ true → event_at (written g ++ rest) ≡ event g.time g.what rest
unfolding event_at written writable
event_back g rest e =
    let k = and_both (fits g.time) (fitting g.what) e in
    front (kind_of g.what) _ rest of_kind (kind_fits g.what) ∙ past_kind g.time rest k.0 g.what k.1

-- events that are written are read back one after the other
most_back : (k n : ℕ) (gs : List Given) → all_writable gs ≡ true → length (all_written gs) ≤ k
    → at_most k n (all_written gs) ≡ record { events = gs; bad = none }
unfolding at_most all_written all_writable next pick
most_back zero n [] e h = refl
most_back (suc k) n [] e h = refl
most_back zero n (g ∷ gs) e h =
    let w = and_both (writable g) (all_writable gs) e in
    absurd (omega (arith, event_long _ _ _ _ (event_back g (all_written gs) w.0)))
most_back (suc k) n (g ∷ gs) e h =
    let w = and_both (writable g) (all_writable gs) e in
    let b = event_back g (all_written gs) w.0 in
    let m = event_long _ _ _ _ b in
    rw (ne_eqb (length (written g ++ all_written gs)) 0 (λ z. omega (arith, m)), b, most_back k n gs w.1 (omega (arith, m)))

-- a tape of events that are written has these events, and nothing bad
pub tape_back : (gs : List Given) → all_writable gs ≡ true → tape_of (all_written gs) ≡ record { events = gs; bad = none }
unfolding tape_of
tape_back gs e = most_back (length (all_written gs)) (length (all_written gs)) gs e (omega arith)

-- a tape of nothing has no event
pub tape_none : tape_of [] ≡ ends
unfolding tape_of at_most
tape_none = refl
