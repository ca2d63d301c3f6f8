-- How outcomes past ageing are made of the parts that the code gives, and that the code gives each in one way.
-- Assumes nothing.
use Rattle.std.specs.Prelude.{ℕ, ◌≡◌, refl, List, [], map}
use Rattle.std.proofs.Common.{sym, ◌∙◌}
use denote.Triple.Both.{Both}
use Rattle.answers.specs.declared.Answer.{Answer}
use Rattle.records.specs.Rows.{row_of}
use Rattle.happenings.specs.Noted.{most_rows, Notes}
use Rattle.happenings.specs.Laws.Noted.{notes_none, notes_one}
use Rattle.rules.specs.Node.{Node}
use Rattle.rules.specs.Outcome.{Send, Outcome, quiet}
use Rattle.rules.specs.Packed.{packed, packed_from}
use Rattle.sending.specs.Rows.{Packs}
use Rattle.event.specs.declared.Came.{Came}
use Rattle.event.specs.declared.Memory.{Memory}
use Rattle.event.specs.Memory.{Table, Output, node_of}
use Rattle.event.specs.Laws.Same.{Same}
use Rattle.coming.specs.Goes.{Goes, After}

-- an outcome that is another
pub goes_by : (k : ℕ) (x y : Outcome) (r : Came) (n : Node) (o o' : Output) → x ≡ y → Goes k y r n o o' → Goes k x r n o o'
goes_by k x y r n o o' e h = rw e h

-- a node that is another
pub goes_at : (k : ℕ) (x : Outcome) (r : Came) (n m : Node) (o o' : Output) → n ≡ m → Goes k x r m o o' → Goes k x r n o o'
goes_at k x r n m o o' e h = rw e h

-- a result that is told by an equation
pub goes_is : (k : ℕ) (x : Outcome) (r v : Came) (n : Node) (o o' : Output) → r ≡ v → Goes k x v n o o' → Goes k x r n o o'
goes_is k x r v n o o' i a = rw i a

-- an answer alone: nothing is sent, and nothing more is noted
pub goes_quiet : (k : ℕ) (a : Answer) (r : Came) (n : Node) (o : Output) → r.answer ≡ a → r.sent ≡ 0 → r.made ≡ k
    → Goes k (quiet a n) r n o o
unfolding quiet packed packed_from
goes_quiet k a r n o ea es em = record {
  answer = ea;
  node = refl;
  sent = es;
  sends = refl;
  buffer = refl;
  noted = rw em (notes_none most_rows k o.rows);
}

-- an outcome by its parts: sends that are packed, and happenings that are noted
pub goes_packed : (k : ℕ) (x : Outcome) (r : Came) (n : Node) (ss ss' : Table) (b b' : List ℕ) (rs rs' : Table)
    → r.answer ≡ x.answer → n ≡ x.node → Packs x.sends r.sent ss ss' b b'
    → Notes most_rows r.made rs' rs k (map row_of x.happenings)
    → Goes k x r n (record { sends = ss; buffer = b; rows = rs }) (record { sends = ss'; buffer = b'; rows = rs' })
goes_packed k x r n ss ss' b b' rs rs' ea en p q = record {
  answer = ea;
  node = en;
  sent = p.sent;
  sends = p.noted;
  buffer = p.buffer;
  noted = q;
}

-- an outcome of which only something is sent
pub goes_sends : (k : ℕ) (a : Answer) (n n' : Node) (ss : List Send) (t : ℕ) (rows rows' : Table) (b b' : List ℕ) (hs : Table)
    → n ≡ n' → Packs ss t rows rows' b b'
    → Goes k (record { answer = a; node = n'; sends = ss; happenings = [] }) (record { answer = a; sent = t; made = k }) n
    (record { sends = rows; buffer = b; rows = hs }) (record { sends = rows'; buffer = b'; rows = hs })
goes_sends k a n n' ss t rows rows' b b' hs e p =
    goes_packed k (record { answer = a; node = n'; sends = ss; happenings = [] }) (record { answer = a; sent = t; made = k }) n
    rows rows' b b' hs hs refl e p (notes_none most_rows k hs)

-- an outcome past ageing is given by code in one way
pub goes_one : (k : ℕ) (x : Outcome) (r s : Came) (n m : Node) (o p q : Output) → Goes k x r n o p → Goes k x s m o q
    → Same r s n m p q
goes_one k x r s n m o p q a b =
    let rows = notes_one most_rows a.noted b.noted in
    record {
      answer = a.answer ∙ sym b.answer;
      node = a.node ∙ sym b.node;
      sent = a.sent ∙ sym b.sent;
      sends = a.sends ∙ sym b.sends;
      buffer = a.buffer ∙ sym b.buffer;
      made = rows.0;
      rows = rows.1;
    }

-- from two memories that mean the same node, with the same output and as many rows, the same comes to the same
pub after_same : (r s : Came) (m p : Both Memory Memory) (o q : Both Output Output) → node_of m.entry ≡ node_of p.entry
    → o.entry ≡ q.entry → (x z : Node → Outcome) (k j : ℕ) → x ≡ z → k ≡ j → After x k r m o → After z j s p q
    → Same r s (node_of m.exit) (node_of p.exit) o.exit q.exit
after_same r s m p o q node output x z k j ex ek a b = goes_one _ _ _ _ _ _ _ _ _ a (rw (ex, ek, node, output) b)
