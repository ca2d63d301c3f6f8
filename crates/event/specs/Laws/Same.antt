-- The contract of an event leaves one outcome: everything that it speaks of is fixed by the node that the memory means, the event and the
-- output.
-- Assumes nothing.
use Rattle.std.specs.Prelude.{ℕ, ◌≡◌, Bool}
use Rattle.std.proofs.Common.{sym, ◌∙◌}
use denote.Triple.Both.{Both}
use Rattle.rules.specs.Node.{Node, What}
use Rattle.rules.specs.Outcome.{Outcome}
use Rattle.event.specs.declared.Came.{Came}
use Rattle.event.specs.declared.Memory.{Memory}
use Rattle.event.specs.Memory.{Output, node_of}
use Rattle.event.specs.Comes.{Comes, Stepped, Begun}

-- what two outcomes that a contract admits have in common: everything that it speaks of
pub record Same (r s : Came) (n m : Node) (o p : Output) : Type 0 where
  pub answer : r.answer ≡ s.answer
  pub node : n ≡ m
  pub sent : r.sent ≡ s.sent
  pub sends : o.sends ≡ p.sends
  pub buffer : o.buffer ≡ p.buffer
  pub made : r.made ≡ s.made
  pub rows : o.rows ≡ p.rows

-- an outcome of the rules is given by code in one way
pub comes_one : (k : ℕ) (x : Outcome) (r s : Came) (n m : Node) (o p q : Output) → Comes k x r n o p → Comes k x s m o q
    → Same r s n m p q
comes_one k x r s n m o p q a b = record {
  answer = a.answer ∙ sym b.answer;
  node = a.node ∙ sym b.node;
  sent = a.sent ∙ sym b.sent;
  sends = a.sends ∙ sym b.sends;
  buffer = a.buffer ∙ sym b.buffer;
  made = a.made ∙ sym b.made;
  rows = a.rows ∙ sym b.rows;
}

module _ (r s : Came) (m p : Both Memory Memory) (o q : Both Output Output) (node : node_of m.entry ≡ node_of p.entry)
    (output : o.entry ≡ q.entry) where
  -- from two memories that mean the same node, with the same output, an event comes to the same
  pub stepped_same : (t u : ℕ) (w v : What) → t ≡ u → w ≡ v → Stepped t w r m o → Stepped u v s p q
      → Same r s (node_of m.exit) (node_of p.exit) o.exit q.exit
  stepped_same t u w v et ew a b = comes_one _ _ _ _ _ _ _ _ _ a (rw (et, ew, node, output) b)

  -- and begins the same
  pub begun_same : (t u : ℕ) (c d : Bool) → t ≡ u → c ≡ d → Begun t c r m o → Begun u d s p q
      → Same r s (node_of m.exit) (node_of p.exit) o.exit q.exit
  begun_same t u c d et ec a b = comes_one _ _ _ _ _ _ _ _ _ a (rw (et, ec, node, output) b)
