-- How outcomes as code gives them are made and joined: how an event begins, and how it goes on.
-- Assumes nothing.
use Rattle.std.specs.Prelude.{ℕ, ◌≡◌, refl, Bool, false, List, map, ◌≢◌}
use Rattle.std.proofs.Math.Path.{sym}
use Rattle.std.proofs.Common.{ap, ◌∙◌, append-nil, arith}
use Rattle.std.proofs.Math.Nat.{zero-add}
use Rattle.std.proofs.Math.ListN.{length, length-append}
use Rattle.std.proofs.lemmas.List.{length-map}
use Rattle.answers.specs.declared.Answer.{Answer}
use Rattle.answers.specs.Number.{number_of}
use Rattle.laws.specs.Laws.Writes.{sets_append}
use Rattle.names.specs.Fingerprint.{fnv_start, fingerprint}
use Rattle.records.specs.Slots.{each}
use Rattle.records.specs.Entry.{Entry}
use Rattle.records.specs.Line.{Line}
use Rattle.records.specs.Rows.{row_of}
use Rattle.records.specs.Ageing.{expiries}
use Rattle.records.specs.Laws.Each.{map_append}
use Rattle.pending_pass.specs.Ages.{aged_rows, Ages}
use Rattle.rules.specs.Node.{Node, What, print_of}
use Rattle.rules.specs.Outcome.{Outcome, quiet}
use Rattle.rules.specs.Packed.{packed, packed_from}
use Rattle.rules.specs.Ageing.{aged, ageing}
use Rattle.rules.specs.Step.{what_step, bad_face, after_ageing, step}
use Rattle.event.specs.declared.Came.{Came}
use Rattle.event.specs.Memory.{Table, Output}
use Rattle.event.specs.Begun.{begun}
use Rattle.event.specs.Comes.{Comes}
use Rattle.event.specs.Laws.Begun.{Begins, begins_by, begun_face}

-- an outcome that is another
pub comes_by : (k : ℕ) (x y : Outcome) (r : Came) (n : Node) (o o' : Output) → x ≡ y → Comes k y r n o o' → Comes k x r n o o'
comes_by k x y r n o o' e h = rw e h

-- a result that is told by an equation
pub comes_is : (k : ℕ) (x : Outcome) (r v : Came) (n : Node) (o o' : Output) → r ≡ v → Comes k x v n o o' → Comes k x r n o o'
comes_is k x r v n o o' i a = rw i a

-- an answer alone, with a node: nothing is sent, and nothing more is noted
pub comes_quiet : (k : ℕ) (a : Answer) (r : Came) (n : Node) (o : Output) → r.answer ≡ a → r.sent ≡ 0 → r.made ≡ k
    → Comes k (quiet a n) r n o o
unfolding quiet packed packed_from
comes_quiet k a r n o ea es em = record {
  answer = ea;
  node = refl;
  sent = es;
  sends = refl;
  buffer = refl;
  made = omega arith;
  rows = refl;
}

-- ageing alone
pub comes_aged : (t : ℕ) (n : Node) (es : List Entry) (ls : List Line) (r : Came) (s : Table) (b : List ℕ) (rs rs' : Table)
    → r.answer ≡ Answer.Done → r.sent ≡ 0
    → Ages (fingerprint fnv_start) t n.pending n.dead rs es ls rs' r.made
    → Comes 0 (after_ageing (ageing t n) (quiet Answer.Done (aged t n))) r
    (record { time = t; faces = n.faces; routes = n.routes; pending = es; store = n.store; dead = ls })
    (record { sends = s; buffer = b; rows = rs }) (record { sends = s; buffer = b; rows = rs' })
unfolding after_ageing quiet aged ageing aged_rows packed packed_from print_of
comes_aged t n es ls r s b rs rs' ea et a = record {
  answer = ea;
  node = rw (a.entries, a.lines);
  sent = et;
  sends = refl;
  buffer = refl;
  made = rw (append-nil, zero-add) (a.noted ∙ length-map (each (expiries t) n.pending) row_of);
  rows = rw append-nil a.rows;
}

module _ (s x : Outcome) (on : Node → Outcome) (b : Came) (n₁ : Node) (o o₁ : Output) (g : Begins s on x) (h : Comes 0 x b n₁ o o₁) where
  -- an event that is refused where it begins
  pub comes_refused : number_of b.answer ≢ 0 → Comes 0 s b n₁ o o₁
  comes_refused d = comes_by 0 s x b n₁ o o₁ (g.refused (λ e. d (ap number_of h.answer ∙ e))) h

  -- an event that goes on from the node then, and from the rows noted
  pub comes_on : (r : Came) (n₂ : Node) (o₂ : Output) → number_of b.answer ≡ 0 → Comes b.made (on n₁) r n₂ o₁ o₂ → Comes 0 s r n₂ o o₂
  unfolding after_ageing packed packed_from
  comes_on r n₂ o₂ d q =
      let e : s ≡ after_ageing x.happenings (on n₁) = g.goes (ap number_of (sym h.answer) ∙ d) ∙ rw h.node in
      let es : o₁.sends ≡ o.sends = h.sends ∙ rw g.silent in
      let eb : o₁.buffer ≡ o.buffer = h.buffer ∙ rw g.silent in
      let xs = x.happenings in
      let ys = (on n₁).happenings in
      let m : b.made ≡ length (map row_of xs) = h.made ∙ zero-add _ ∙ sym (length-map xs row_of) in
      comes_by 0 s (after_ageing xs (on n₁)) r n₂ o o₂ e (record {
        answer = q.answer;
        node = q.node;
        sent = q.sent;
        sends = q.sends ∙ rw (es, eb);
        buffer = q.buffer ∙ rw eb;
        made = omega (arith, q.made, h.made, length-append xs ys);
        rows =
            q.rows ∙ rw (h.rows, m, map_append row_of xs ys, sets_append (map row_of xs) (map row_of ys) o.rows 0, zero-add);
      })

-- how every event goes: refused where it begins, or on from the aged node
module _ (faces least time : ℕ) (w : What) (bad : Bool) (n n₁ : Node) (b : Came) (o o₁ : Output) (e : bad ≡ bad_face faces n w)
    (h : Comes 0 (begun least time (length o.buffer) bad n) b n₁ o o₁) where
  -- the event is by its beginning
  by : Begins (step faces least (record { time = time; room = length o.buffer; what = w }) n) (λ m. what_step faces time m w)
      (begun least time (length o.buffer) bad n)
  by = rw e (begins_by faces least (record { time = time; room = length o.buffer; what = w }) n)

  -- refused where it begins
  pub step_refused : number_of b.answer ≢ 0
      → Comes 0 (step faces least (record { time = time; room = length o.buffer; what = w }) n) b n₁ o o₁
  step_refused d = comes_refused _ _ _ b n₁ o o₁ by h d

  -- on from the aged node, with a face that is not refused
  pub step_on : (r : Came) (n₂ : Node) (o₂ : Output) → number_of b.answer ≡ 0
      → (bad_face faces n w ≡ false → Comes b.made (what_step faces time n₁ w) r n₂ o₁ o₂)
      → Comes 0 (step faces least (record { time = time; room = length o.buffer; what = w }) n) r n₂ o o₂
  step_on r n₂ o₂ d q =
      comes_on _ _ _ b n₁ o o₁ by h r n₂ o₂ d
      (q (sym e ∙ begun_face least time (length o.buffer) bad n (ap number_of (sym h.answer) ∙ d)))
