-- One outcome for each input of a writer of lines: any two that its contract admits are equal in the place and in the buffer at exit.
-- Assumes nothing.
use mathlib.Core.Path.{◌≡◌, sym, ◌∙◌, ap}
use mathlib.Core.List.{List}
use Prim.Native.Nat.{ℕ}
use contract.Lifetimes.{Lfts}
use denote.Triple.Clauses.{AtExit}
use borrow.Fn.Kinds.{Dens, ended_of, res_t}
use Rattle.lines.specs.Decimal.{decimal}
use Rattle.lines.specs.Lines.{event_line, send_line, bad_line, total_line, too_long}
use Rattle.lines.specs.Places.Put.{Placed, placed, put}
use Rattle.lines.proofs.put_decimal.Kinds as decimal-kinds
use Rattle.lines.proofs.put_decimal.Reads as decimal-reads
use Rattle.lines.proofs.put_event_line.Kinds as event-kinds
use Rattle.lines.proofs.put_event_line.Reads as event-reads
use Rattle.lines.proofs.put_send_line.Kinds as send-kinds
use Rattle.lines.proofs.put_send_line.Reads as send-reads
use Rattle.lines.proofs.put_bad_line.Kinds as bad-kinds
use Rattle.lines.proofs.put_bad_line.Reads as bad-reads
use Rattle.lines.proofs.put_total_line.Kinds as total-kinds
use Rattle.lines.proofs.put_total_line.Reads as total-reads
use Rattle.lines.proofs.put_too_long.Kinds as long-kinds
use Rattle.lines.proofs.put_too_long.Reads as long-reads

-- two places with their buffers that are the same outcome
pub one_placed : {x y : ℕ} {b c : List ℕ} {o : Placed} → placed x b ≡ o → placed y c ≡ o → (x ≡ y) × (b ≡ c)
one_placed p q = (ap (λ (o : Placed). o.next) (p ∙ sym q), ap (λ (o : Placed). o.buffer) (p ∙ sym q))

-- `put_decimal` has one outcome
pub put_decimal_one : (κs : Lfts 1) (a : Dens κs decimal-kinds.ps) (x y : (res_t decimal-kinds.r κs).Denot)
    (s t : AtExit (ended_of 1 decimal-kinds.ps decimal-kinds.r) κs)
    → decimal-reads.Post κs a x s → decimal-reads.Post κs a y t → (x ≡ y) × (s.0.now ≡ t.0.now)
put_decimal_one κs a x y s t p q = one_placed p q

-- `put_event_line` has one outcome
pub put_event_line_one : (κs : Lfts 1) (a : Dens κs event-kinds.ps) (x y : (res_t event-kinds.r κs).Denot)
    (s t : AtExit (ended_of 1 event-kinds.ps event-kinds.r) κs)
    → event-reads.Post κs a x s → event-reads.Post κs a y t → (x ≡ y) × (s.0.now ≡ t.0.now)
put_event_line_one κs a x y s t p q = one_placed p q

-- `put_send_line` has one outcome
pub put_send_line_one : (κs : Lfts 1) (a : Dens κs send-kinds.ps) (x y : (res_t send-kinds.r κs).Denot)
    (s t : AtExit (ended_of 1 send-kinds.ps send-kinds.r) κs)
    → send-reads.Post κs a x s → send-reads.Post κs a y t → (x ≡ y) × (s.0.now ≡ t.0.now)
put_send_line_one κs a x y s t p q = one_placed p q

-- `put_bad_line` has one outcome
pub put_bad_line_one : (κs : Lfts 1) (a : Dens κs bad-kinds.ps) (x y : (res_t bad-kinds.r κs).Denot)
    (s t : AtExit (ended_of 1 bad-kinds.ps bad-kinds.r) κs)
    → bad-reads.Post κs a x s → bad-reads.Post κs a y t → (x ≡ y) × (s.0.now ≡ t.0.now)
put_bad_line_one κs a x y s t p q = one_placed p q

-- `put_total_line` has one outcome
pub put_total_line_one : (κs : Lfts 1) (a : Dens κs total-kinds.ps) (x y : (res_t total-kinds.r κs).Denot)
    (s t : AtExit (ended_of 1 total-kinds.ps total-kinds.r) κs)
    → total-reads.Post κs a x s → total-reads.Post κs a y t → (x ≡ y) × (s.0.now ≡ t.0.now)
put_total_line_one κs a x y s t p q = one_placed p q

-- `put_too_long` has one outcome
pub put_too_long_one : (κs : Lfts 1) (a : Dens κs long-kinds.ps) (x y : (res_t long-kinds.r κs).Denot)
    (s t : AtExit (ended_of 1 long-kinds.ps long-kinds.r) κs)
    → long-reads.Post κs a x s → long-reads.Post κs a y t → (x ≡ y) × (s.0.now ≡ t.0.now)
put_too_long_one κs a x y s t p q = one_placed p q

-- `put_decimal` has the same outcome from the same bytes, place and numbers
pub put_decimal_same : (κs : Lfts 1) (a b : Dens κs decimal-kinds.ps) (x y : (res_t decimal-kinds.r κs).Denot)
    (s t : AtExit (ended_of 1 decimal-kinds.ps decimal-kinds.r) κs)
    → a.0.now ≡ b.0.now → a.1.0 ≡ b.1.0 → a.1.1.0 ≡ b.1.1.0
    → decimal-reads.Post κs a x s → decimal-reads.Post κs b y t → (x ≡ y) × (s.0.now ≡ t.0.now)
put_decimal_same κs a b x y s t e f h0 p q =
    let same : put b.0.now b.1.0 (decimal b.1.1.0)
    ≡ put a.0.now a.1.0 (decimal a.1.1.0) = cc in
    one_placed p (q ∙ same)

-- `put_event_line` has the same outcome from the same bytes, place and numbers
pub put_event_line_same : (κs : Lfts 1) (a b : Dens κs event-kinds.ps) (x y : (res_t event-kinds.r κs).Denot)
    (s t : AtExit (ended_of 1 event-kinds.ps event-kinds.r) κs)
    → a.0.now ≡ b.0.now → a.1.0 ≡ b.1.0
    → a.1.1.0 ≡ b.1.1.0 → a.1.1.1.0 ≡ b.1.1.1.0 → a.1.1.1.1.0 ≡ b.1.1.1.1.0
    → event-reads.Post κs a x s → event-reads.Post κs b y t → (x ≡ y) × (s.0.now ≡ t.0.now)
put_event_line_same κs a b x y s t e f h0 h1 h2 p q =
    let u = a.1.1 in
    let v = b.1.1 in
    let same : put b.0.now b.1.0 (event_line v.0 v.1.0 v.1.1.0)
    ≡ put a.0.now a.1.0 (event_line u.0 u.1.0 u.1.1.0) = cc in
    one_placed p (q ∙ same)

-- `put_send_line` has the same outcome from the same bytes, place and numbers
pub put_send_line_same : (κs : Lfts 1) (a b : Dens κs send-kinds.ps) (x y : (res_t send-kinds.r κs).Denot)
    (s t : AtExit (ended_of 1 send-kinds.ps send-kinds.r) κs)
    → a.0.now ≡ b.0.now → a.1.0 ≡ b.1.0
    → a.1.1.0 ≡ b.1.1.0 → a.1.1.1.0 ≡ b.1.1.1.0 → a.1.1.1.1.0 ≡ b.1.1.1.1.0
    → send-reads.Post κs a x s → send-reads.Post κs b y t → (x ≡ y) × (s.0.now ≡ t.0.now)
put_send_line_same κs a b x y s t e f h0 h1 h2 p q =
    let u = a.1.1 in
    let v = b.1.1 in
    let same : put b.0.now b.1.0 (send_line v.0 v.1.0 v.1.1.0)
    ≡ put a.0.now a.1.0 (send_line u.0 u.1.0 u.1.1.0) = cc in
    one_placed p (q ∙ same)

-- `put_bad_line` has the same outcome from the same bytes, place and numbers
pub put_bad_line_same : (κs : Lfts 1) (a b : Dens κs bad-kinds.ps) (x y : (res_t bad-kinds.r κs).Denot)
    (s t : AtExit (ended_of 1 bad-kinds.ps bad-kinds.r) κs)
    → a.0.now ≡ b.0.now → a.1.0 ≡ b.1.0 → a.1.1.0 ≡ b.1.1.0
    → bad-reads.Post κs a x s → bad-reads.Post κs b y t → (x ≡ y) × (s.0.now ≡ t.0.now)
put_bad_line_same κs a b x y s t e f h0 p q =
    let same : put b.0.now b.1.0 (bad_line b.1.1.0)
    ≡ put a.0.now a.1.0 (bad_line a.1.1.0) = cc in
    one_placed p (q ∙ same)

-- `put_total_line` has the same outcome from the same bytes, place and numbers
pub put_total_line_same : (κs : Lfts 1) (a b : Dens κs total-kinds.ps) (x y : (res_t total-kinds.r κs).Denot)
    (s t : AtExit (ended_of 1 total-kinds.ps total-kinds.r) κs)
    → a.0.now ≡ b.0.now → a.1.0 ≡ b.1.0 → a.1.1.0 ≡ b.1.1.0
    → total-reads.Post κs a x s → total-reads.Post κs b y t → (x ≡ y) × (s.0.now ≡ t.0.now)
put_total_line_same κs a b x y s t e f h0 p q =
    let same : put b.0.now b.1.0 (total_line b.1.1.0)
    ≡ put a.0.now a.1.0 (total_line a.1.1.0) = cc in
    one_placed p (q ∙ same)

-- `put_too_long` has the same outcome from the same bytes and place
pub put_too_long_same : (κs : Lfts 1) (a b : Dens κs long-kinds.ps) (x y : (res_t long-kinds.r κs).Denot)
    (s t : AtExit (ended_of 1 long-kinds.ps long-kinds.r) κs)
    → a.0.now ≡ b.0.now → a.1.0 ≡ b.1.0
    → long-reads.Post κs a x s → long-reads.Post κs b y t → (x ≡ y) × (s.0.now ≡ t.0.now)
put_too_long_same κs a b x y s t e f p q =
    let same : put b.0.now b.1.0 too_long
    ≡ put a.0.now a.1.0 too_long = cc in
    one_placed p (q ∙ same)
