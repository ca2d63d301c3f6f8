-- Demand 3, of any rule book and any way to fill the output buffer: what the customer asks, and what stands beside it so that no wrong
-- rule book passes. From the empty node, any events.
-- Assumes nothing.
use Rattle.std.specs.Prelude.{ℕ, ◌≤◌, ◌≡◌, Bool, true, false, List, length}
use Rattle.answers.specs.declared.Answer.{Answer}
use Rattle.packets.specs.Meaning.{Ask, Offer, brings, nacks}
use Rattle.rules.specs.Node.{close_face, Event}
use Rattle.rules.specs.Outcome.{Send}
use Rattle.rules.specs.Packed.{Packed}
use Rattle.rules.specs.Step.{Book}
use Rattle.refusals.specs.Refusals.{Check, Applies, Decides}
use Rattle.refusals.specs.Refused.{is_early, refusal}
use Rattle.history.specs.Lists.{All, Some}
use Rattle.history.specs.Key.{Key, Accounted, is_of, stands}
use Rattle.history.specs.Turns.{Legal}
use Rattle.history.specs.Moments.{Moment, Arrives, reached, told, lived}
use Rattle.history.specs.Sends.{Rising, Filled}
use Rattle.history.specs.Ends.{Honest}
use Rattle.history.specs.TakenIn.{TakenIn}
use Rattle.history.specs.MustEnd.{Satisfied, Live, Closed, Nacked}
use Rattle.history.specs.Leaving.{Leaving}
use Rattle.history.specs.ReadBack.{BroughtBy}
use Rattle.history.specs.Classes.{Classed}
use Rattle.history.specs.SetUp.{SetUp}
use Rattle.history.specs.Asked.{WasAsked}
use Rattle.history.specs.Shape.{Shaped}
use Rattle.history.specs.Room.{RoomOwed}

-- what is asked of each event, in a node of so many faces that wants so long a buffer
pub record Accounts (faces least : ℕ) (m : Moment) : Type 0 where
  -- where no check applies the answer is 0
  pub done : ((c : Check) → ¬ Applies faces least m.event m.before c) → m.outcome.answer ≡ Answer.Done
  -- a refusal leaves what the check that decides says, and nothing else: in particular it opens no request, and ends none but by ageing
  pub refuses : (c : Check) → Decides faces least m.event m.before c → m.outcome ≡ refusal m.event m.before c
  -- each request that opens or ends is what its fate says: an end ends something that stood there
  pub honest : All (Honest m) m.outcome.happenings
  -- an Interest that is answered 0 stands in the table afterwards, or is served
  pub taken : TakenIn m
  -- past the checks before ageing, no request that is over stands
  pub live : ((c : Check) → is_early c ≡ true → ¬ Applies faces least m.event m.before c) → Live m
  -- and the last time is the event's
  pub timed : ((c : Check) → is_early c ≡ true → ¬ Applies faces least m.event m.before c) → m.outcome.node.time ≡ m.event.time
  -- what a Data, a Nack and the closing of a face must end, ends, and what they need not, stays
  pub satisfied : (f : ℕ) (d : Offer) (bytes : List ℕ) → Arrives m f (brings d bytes) → m.outcome.answer ≡ Answer.Done
      → Satisfied m f d bytes
  pub nacked : (f cause : ℕ) (i : Ask) → Arrives m f (nacks cause i) → m.outcome.answer ≡ Answer.Done → Nacked m f cause i
  pub closed : (f : ℕ) → m.event.what ≡ close_face f → m.outcome.answer ≡ Answer.Done → Closed m f
  -- each packet that leaves may leave; at most one leaves on a face
  pub leaving : All (λ s. Leaving m s s.kind) m.outcome.sends
  pub rising : Rising 1 m.outcome.sends
  -- what the event does to the uses by class
  pub room : RoomOwed m

-- the demand
pub record Demand3 (faces least : ℕ) (b : Book) (fill : List Send → List ℕ → Packed) : Type 0 where
  -- "For every face, the requests opened equal those answered, those ended by Nack, those expired, those ended by closing the face, those
  -- met by the asker's own face, plus those open now.": so for any set of faces, names, flags and classes
  pub accounted : (p : Key → Bool) (es : List Event) → Accounted p (told faces b es) (reached faces b es).pending
  -- "No request ends twice."
  pub turns : (f : ℕ) (name : List ℕ) (p q : Bool) (es : List Event)
      → Legal (is_of f name p q) false (told faces b es) (stands (is_of f name p q) (reached faces b es).pending)
  -- each event
  pub events : (es : List Event) → All (Accounts faces least) (lived faces b es)
  -- what stands was asked for: each request, each out-record, and each entry's class
  pub asked : (es : List Event) → WasAsked faces b es
  -- what is stored was brought
  pub brought : (es : List Event) → All (λ d. Some (BroughtBy d) (lived faces b es)) (reached faces b es).store
  -- "A route always has a class that somebody gave it.": faces, routes and hops are those that commands set up, with those classes, and
  -- no class is other than the three
  pub set_up : (es : List Event) → SetUp faces b es
  pub classes : (es : List Event) → Classed (reached faces b es)
  -- the node keeps its shape: within its sizes, no entry without a request, no entry, route or stored Data twice, nothing for a closed face
  pub shaped : (es : List Event) → Shaped faces (reached faces b es)
  -- the output buffer: each send stands at its place, and what lies behind the sends is unchanged
  pub filled : (es : List Event)
      → All (λ m. (x : List ℕ) → least ≤ length x → Filled m.outcome.sends x (fill m.outcome.sends x)) (lived faces b es)
