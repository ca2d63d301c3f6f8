-- NO REQUEST IS LOST. Through any events from an empty node, refused ones included, with any number of faces and any least buffer length:
-- the requests opened are those answered, those ended by Nack, those expired, those ended by closing their face, those self-met, and those
-- that stand in the pending table now. So for the requests of every face (conserved-face), and of any set of keys: faces, names, flags and
-- classes (conserved). All but the last are counted in the history, which the rules give; no sum is stored.
-- It does not say that an end is the end of that very opening: that is Legal.
-- Assumes nothing.
use Rattle.std.specs.Prelude.{ℕ, ◌+◌, ◌≡◌, Bool}
use Rattle.std.proofs.Math.Path.{refl}
use mathlib.Core.List.{List, [], ◌∷◌, ◌++◌}
use native.Mathlib.Omega.{arith}
use Rattle.records.specs.Entry.{Entry}
use Rattle.rules.specs.Node.{Node, Event, empty_node}
use Rattle.rules.specs.Outcome.{quiet}
use Rattle.rules.specs.Ageing.{aged, ageing}
use Rattle.rules.specs.Step.{after_ageing, step, run, history}
use Rattle.history.specs.Lists.{how_many}
use Rattle.history.specs.Key.{Key, is_fate, is_end, counted, ended, open_now, of_face, Accounted}
use Rattle.history.specs.Laws.ByRule.{by_rule}
use Rattle.history.specs.Shape.{Shaped}
use Rattle.history.specs.Laws.ShapeKept.{empty_shaped, aged_shaped, step_shaped}
use Rattle.history.specs.Laws.Moves.{Moves, ends, begins, counted_append, ended_append, ageing_moves, rules_moves}
use Rattle.records.specs.Happening.{Fate, opened, answered, nacked, expired, closed, self_met, Happening}
use Rattle.records.specs.Rows.{fate_number}

-- of the keys that p holds of: those that stood and those that opened are those that ended and those that stand
abbrev pub Balanced : (Key → Bool) → List Entry → List Happening → List Entry → Type 0
Balanced p es hs es' = open_now p es + counted opened p hs ≡ ended p hs + open_now p es'

module _ (p : Key → Bool) where
  -- the ends by fate are the ends
  ended_sum : (hs : List Happening)
      → ended p hs ≡ counted answered p hs + counted nacked p hs + counted expired p hs + counted closed p hs + counted self_met p hs
  unfolding ended counted how_many is_end is_fate
  ended_sum [] = refl
  ended_sum (h ∷ hs) = go h.fate refl (ended_sum hs)
    where
      go : (x : Fate) → h.fate ≡ x
          → ended p hs ≡ counted answered p hs + counted nacked p hs + counted expired p hs + counted closed p hs + counted self_met p hs
          → ended p (h ∷ hs) ≡ counted answered p (h ∷ hs) + counted nacked p (h ∷ hs) + counted expired p (h ∷ hs)
          + counted closed p (h ∷ hs) + counted self_met p (h ∷ hs)
      go opened w s = unfold fate_number in rw w (omega arith)
      go answered w s = unfold fate_number in rw w (omega arith)
      go nacked w s = unfold fate_number in rw w (omega arith)
      go expired w s = unfold fate_number in rw w (omega arith)
      go closed w s = unfold fate_number in rw w (omega arith)
      go self_met w s = unfold fate_number in rw w (omega arith)

  -- where nothing happens, as many stand
  balanced_none : (es : List Entry) → Balanced p es [] es
  unfolding counted ended how_many
  balanced_none es = omega arith

  -- one after the other balance together
  balanced_then : (es es' es'' : List Entry) (hs ks : List Happening) → Balanced p es hs es' → Balanced p es' ks es''
      → Balanced p es (hs ++ ks) es''
  balanced_then es es' es'' hs ks a b = omega (arith, counted_append p opened hs ks, ended_append p hs ks)

  -- a rule that ends requests or opens one balances
  balanced_moves : (es es' : List Entry) (hs : List Happening) → Moves p es hs es' → Balanced p es hs es'
  unfolding counted ended how_many is_end
  balanced_moves es es' hs (ends z k) = omega arith
  balanced_moves es es' hs (begins z k) = rw z (omega arith)

  -- every step balances, from any node of the shape that the empty node has and every step keeps
  pub step_balanced : (faces least : ℕ) (e : Event) (n : Node) → Shaped faces n
      → Balanced p n.pending (step faces least e n).happenings (step faces least e n).node.pending
  unfolding quiet after_ageing
  step_balanced faces least e n s =
      let t = e.time in
      by_rule faces least e n (λ o. Balanced p n.pending o.happenings o.node.pending)
      (λ o. Moves p (aged t n).pending o.happenings o.node.pending) (λ x. balanced_none n.pending)
      (rules_moves p faces t (aged t n) (aged_shaped faces t n s))
      (λ o m. balanced_then _ (aged t n).pending _ (ageing t n) _ (balanced_moves _ _ _ (ageing_moves p t n)) (balanced_moves _ _ _ m))

  -- every run balances
  pub run_balanced : (faces least : ℕ) (es : List Event) (n : Node) → Shaped faces n
      → Balanced p n.pending (history (step faces least) es n) (run (step faces least) es n).pending
  unfolding history run
  run_balanced faces least [] n s = balanced_none n.pending
  run_balanced faces least (e ∷ es) n s =
      let o = step faces least e n in
      balanced_then n.pending o.node.pending _ o.happenings _ (step_balanced faces least e n s)
      (run_balanced faces least es o.node (step_shaped faces least e n s))

  -- FROM THE EMPTY NODE, THROUGH ANY EVENTS
  pub conserved : (faces least : ℕ) (es : List Event)
      → Accounted p (history (step faces least) es (empty_node faces)) (run (step faces least) es (empty_node faces)).pending
  unfolding empty_node open_now
  conserved faces least es =
      omega (
        arith,
        run_balanced faces least es (empty_node faces) (empty_shaped faces),
        ended_sum (history (step faces least) es (empty_node faces)),
      )

-- FOR EVERY FACE
pub conserved_face : (f faces least : ℕ) (es : List Event)
    → Accounted (of_face f) (history (step faces least) es (empty_node faces)) (run (step faces least) es (empty_node faces)).pending
unfolding empty_node open_now
conserved_face f faces least es =
    omega (
      arith,
      run_balanced (of_face f) faces least es (empty_node faces) (empty_shaped faces),
      ended_sum (of_face f) (history (step faces least) es (empty_node faces)),
    )
