-- Our rules meet demand 3 (`meets`), with any number of faces and any buffer that has room for one packet and for a Nack for each face;
-- document 01's node has 16 faces and 8,192 bytes (`paper_meets`).
-- Assumes nothing.
use Rattle.std.specs.Prelude.{ℕ, ◌*◌, ◌≤◌, refl}
use Rattle.std.proofs.Common.{inr, arith}
use Rattle.answers.specs.declared.Answer.{Answer}
use Rattle.sizes.specs.Sizes.{most_faces, most_packet, least_buffer}
use Rattle.rules.specs.Node.{Node, Event}
use Rattle.rules.specs.Packed.{packed}
use Rattle.rules.specs.Step.{step, paper_step}
use Rattle.refusals.specs.Laws.Exactly.{exactly}
use Rattle.refusals.specs.Laws.Leaves.{refusal_leaves}
use Rattle.history.specs.Moments.{moment}
use Rattle.writing.specs.Most.{most_nack}
use Rattle.history.specs.Shape.{Shaped}
use Rattle.history.specs.Laws.ShapeKept.{run_shaped}
use Rattle.history.specs.Laws.Moments.{all_lived}
use Rattle.history.specs.Laws.Conserved.{conserved}
use Rattle.history.specs.Laws.Legal.{legal}
use Rattle.history.specs.Laws.Ends.{step_honest}
use Rattle.history.specs.Laws.TakenIn.{step_taken}
use Rattle.history.specs.Laws.Satisfied.{step_satisfied}
use Rattle.history.specs.Laws.Closed.{step_closed}
use Rattle.history.specs.Laws.Nacked.{step_nacked}
use Rattle.history.specs.Laws.Aged.{step_live, step_timed}
use Rattle.history.specs.Laws.Leaving.{step_leaving}
use Rattle.history.specs.Laws.Rising.{sends_rise}
use Rattle.history.specs.Laws.RoomOwed.{room_owed}
use Rattle.history.specs.Laws.Asked.{was_asked}
use Rattle.history.specs.Laws.ReadBack.{store_brought}
use Rattle.history.specs.Laws.SetUp.{set_up_lem}
use Rattle.history.specs.Laws.Classes.{run_classed}
use Rattle.history.specs.Laws.Filled.{sends_filled}
use Rattle.demand3.specs.Demand3.{Accounts, Demand3}

-- each event, in any node of the shape that events lead to
pub accounts : (faces least : ℕ) (e : Event) (n : Node) → Shaped faces n → Accounts faces least (moment (step faces least) e n)
accounts faces least e n s = record {
  done = λ h. (exactly faces least e n Answer.Done).1 (inr (refl, h));
  refuses = refusal_leaves faces least e n;
  honest = step_honest faces least e n s;
  taken = step_taken faces least e n s;
  live = step_live faces least e n;
  timed = step_timed faces least e n;
  satisfied = step_satisfied faces least e n;
  nacked = step_nacked faces least e n s;
  closed = step_closed faces least e n;
  leaving = step_leaving faces least e n s;
  rising = sends_rise faces least e n;
  room = room_owed faces least e n s;
}

-- OUR RULES MEET DEMAND 3
pub meets : (faces least : ℕ) → most_packet ≤ least → faces * most_nack ≤ least → Demand3 faces least (step faces least) packed
meets faces least h k = record {
  accounted = λ p es. conserved p faces least es;
  turns = λ f name p q es. legal faces least es f name p q;
  events = all_lived faces least _ (accounts faces least);
  asked = was_asked faces least;
  brought = store_brought faces least;
  set_up = set_up_lem faces least;
  classes = run_classed faces least;
  shaped = run_shaped faces least;
  filled =
      all_lived faces least _ (λ e n s x l. sends_filled faces least e n x (omega arith) (omega arith) s);
}

-- and so does document 01's node
pub paper_meets : Demand3 most_faces least_buffer paper_step packed
paper_meets = meets most_faces least_buffer (omega arith) (omega arith)
