-- Every fate occurs, and in every class an Interest is answered NO_ROOM: runs from document 01's empty node, by computation. So no part of
-- demand 3 is about what never happens.
-- Assumes nothing.
use Rattle.std.specs.Prelude.{ℕ, ◌≡◌, refl, true, false, List, [], ◌∷◌, ◌++◌, map}
use Rattle.std.proofs.Math.Option.{none, some}
use Rattle.answers.specs.declared.Answer.{Answer}
use Rattle.sizes.specs.Sizes.{most_faces}
use Rattle.packets.specs.Meaning.{Ask, asks, heard}
use Rattle.records.specs.Class.{Class, alarm, monitoring, bulk, no_class, is_class}
use Rattle.records.specs.Route.{Route, new_route, with_hop, longest}
use Rattle.records.specs.Happening.{Fate, opened, answered, nacked, expired, closed, self_met}
use Rattle.records.specs.Rows.{fate_number, row_of}
use Rattle.rules.specs.Node.{packet, Event}
use Rattle.rules.specs.Ageing.{aged}
use Rattle.rules.specs.Step.{paper_step}
use Rattle.rules.specs.Laws.Compute.{computed}
use Rattle.incoming.specs.Laws.Incoming.{comes_in_lem}
use Rattle.refusals.specs.Laws.Longest.{longest_is}
use Rattle.history.specs.Key.{counted, of_face}
use Rattle.history.specs.Moments.{moment, met, paper_run, paper_history}
use Rattle.history.specs.Room.{Routed}
use Rattle.history.specs.Laws.Runs.{at, asks_for, ready, openings, run_of, run_has}
use Rattle.demand3.specs.Laws.Looking.{no}

-- the fates
abbrev fates : List Fate
fates = opened ∷ answered ∷ nacked ∷ expired ∷ closed ∷ self_met ∷ []

-- the request of these runs opens on face 1 in class 1, with document 01's nonce, and lives until 4,100
abbrev row : ℕ → List ℕ
row fate = 1 ∷ 1 ∷ fate ∷ 0x01020304 ∷ 4100 ∷ []

-- the histories of the runs, as events note them: face, class, fate, nonce and expiry of each request that opens or ends
pub histories : map (λ x. map row_of (paper_history (run_of x))) fates
    ≡ (row 1 ∷ []) ∷ (row 1 ∷ row 2 ∷ []) ∷ (row 1 ∷ row 3 ∷ []) ∷ (row 1 ∷ row 4 ∷ []) ∷ (row 1 ∷ row 5 ∷ []) ∷ (row 1 ∷ row 6 ∷ []) ∷ []
unfolding computed run_of row_of fate_number
histories = refl

-- every fate occurs
pub each_fate : (x : Fate) → (es : List Event) × (counted x (of_face 1) (paper_history es) ≡ 1)
each_fate x = (run_of x, run_has x)

-- after events, an Interest whose longest route has class c is answered NO_ROOM
pub record TurnedAway (c : Class) : Type 0 where
  pub events : List Event
  pub event : Event
  pub route : Route
  pub routed : Routed (moment paper_step event (paper_run events)) route
  pub cls : route.cls ≡ c
  pub answer : (paper_step event (paper_run events)).answer ≡ Answer.NoRoom

-- the Interest for the name of 40, which comes on face 1
abbrev further : Ask
further = record { name = 8 ∷ 1 ∷ 40 ∷ []; can_be_prefix = false; must_be_fresh = false; nonce = 40; lifetime = 4000; hop = none }

-- it reads so
further_heard : heard (asks_for 40) ≡ asks further (asks_for 40)
unfolding computed
further_heard = refl

-- the route for all names to face 2, of a class
abbrev to_two : Class → Route
to_two c = with_hop 2 (some 10) (new_route most_faces [] c)

-- it is turned away after events by which that is its longest route
turned : (c : Class) (es : List Event) → longest further.name (aged 100 (paper_run es)).routes ≡ some (to_two c)
    → (paper_step (at 100 (packet 1 (asks_for 40))) (paper_run es)).answer ≡ Answer.NoRoom → TurnedAway c
unfolding with_hop new_route
turned c es r q =
    let e = at 100 (packet 1 (asks_for 40)) in
    let m = moment paper_step e (paper_run es) in
    record {
      events = es;
      event = e;
      route = to_two c;
      routed = record {
        from = 1;
        ask = further;
        bytes = asks_for 40;
        came = comes_in_lem (met m) 1 (asks further (asks_for 40)) (packet 1 (asks_for 40)) (asks_for 40) refl further_heard;
        longest = (longest_is further.name (met m).routes (to_two c)).0 r;
      };
      cls = refl;
      answer = q;
    }

-- "alone opens": as many entries as fit beside the reserves of the other classes; one more is turned away
pub each_class : (c : Class) → is_class c ≡ true → TurnedAway c
unfolding computed openings
each_class alarm q = turned alarm (ready 1 [] ++ openings 40) refl refl
each_class monitoring q = turned monitoring (ready 2 [] ++ openings 32) refl refl
each_class bulk q = turned bulk (ready 3 [] ++ openings 24) refl refl
each_class (no_class k) q = no q
