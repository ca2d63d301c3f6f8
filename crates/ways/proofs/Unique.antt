-- One outcome for each input of each public function: any two that its contract admits are equal.
-- Assumes nothing.
use mathlib.Core.Path.{◌≡◌, refl, sym, ◌∙◌}
use mathlib.Core.Bool.{false}
use mathlib.Core.List.{[]}
use mathlib.Core.Option.{none}
use contract.Lifetimes.{Lfts}
use denote.Triple.Clauses.{AtExit}
use borrow.Fn.Kinds.{Dens, ended_of, res_t}
use Rattle.faces.specs.Laws.Found.{face_one}
use Rattle.faces.specs.Places.View as faces
use Rattle.dead.specs.Places.View as dead
use Rattle.routes.specs.Places.View as routes
use Rattle.routes.specs.Places.Parts.{known_routes}
use Rattle.coming.specs.Places.Found.{limit_of}
use Rattle.rules.specs.Node.{Node}
use Rattle.rules.specs.Interest.{Arrival}
use Rattle.ways.proofs.is_zero.Kinds as is-zero-kinds
use Rattle.ways.proofs.is_zero.Reads as is-zero-reads
use Rattle.ways.proofs.eligible.Kinds as eligible-kinds
use Rattle.ways.proofs.eligible.Reads as eligible-reads
use Rattle.ways.proofs.expiry_of.Kinds as expiry-of-kinds
use Rattle.ways.proofs.expiry_of.Reads as expiry-of-reads
use Rattle.ways.proofs.loops.Kinds as loops-kinds
use Rattle.ways.proofs.loops.Reads as loops-reads
use Rattle.ways.proofs.next_hop.Kinds as next-hop-kinds
use Rattle.ways.proofs.next_hop.Reads as next-hop-reads

-- two answers whether a HopLimit is 0
pub is_zero_one : (κs : Lfts 0) (a : Dens κs is-zero-kinds.ps) (x y : (res_t is-zero-kinds.r κs).Denot)
    (s t : AtExit (ended_of 0 is-zero-kinds.ps is-zero-kinds.r) κs) → is-zero-reads.Post κs a x s → is-zero-reads.Post κs a y t → x ≡ y
is_zero_one κs a x y s t p q = p ∙ sym q

-- two sets of eligible faces
pub eligible_one : (κs : Lfts 1) (a : Dens κs eligible-kinds.ps) (x y : (res_t eligible-kinds.r κs).Denot)
    (s t : AtExit (ended_of 1 eligible-kinds.ps eligible-kinds.r) κs) → eligible-reads.Post κs a x s → eligible-reads.Post κs a y t
    → x ≡ y
eligible_one κs a x y s t p q =
    let n : Node = record { time = 0; faces = faces.view a.0; routes = []; pending = []; store = []; dead = [] } in
    let i : Arrival = record {
      face = a.1.0;
      ask = record {
        name = a.1.1.1.0.now;
        can_be_prefix = false;
        must_be_fresh = false;
        nonce = 0;
        lifetime = 0;
        hop = limit_of a.1.1.0;
      };
      bytes = [];
    } in
    p n i refl refl refl refl ∙ sym (q n i refl refl refl refl)

-- two expiries
pub expiry_of_one : (κs : Lfts 0) (a : Dens κs expiry-of-kinds.ps) (x y : (res_t expiry-of-kinds.r κs).Denot)
    (s t : AtExit (ended_of 0 expiry-of-kinds.ps expiry-of-kinds.r) κs) → expiry-of-reads.Post κs a x s → expiry-of-reads.Post κs a y t
    → x ≡ y
expiry_of_one κs a x y s t p q = p ∙ sym q

-- two answers whether an Interest loops
pub loops_one : (κs : Lfts 3) (a : Dens κs loops-kinds.ps) (x y : (res_t loops-kinds.r κs).Denot)
    (s t : AtExit (ended_of 3 loops-kinds.ps loops-kinds.r) κs) → loops-reads.Post κs a x s → loops-reads.Post κs a y t → x ≡ y
loops_one κs a x y s t p q =
    let n : Node = record {
      time = 0;
      faces = faces.view a.1.0;
      routes = [];
      pending = [];
      store = [];
      dead = dead.view a.1.1.1.0.now;
    } in
    let i : Arrival = record {
      face = a.1.1.1.1.1.1.0;
      ask = record {
        name = a.1.1.1.1.1.1.1.0.now;
        can_be_prefix = false;
        must_be_fresh = false;
        nonce = a.1.1.1.1.1.1.1.1.0;
        lifetime = 0;
        hop = none;
      };
      bytes = [];
    } in
    p n i refl refl refl refl refl ∙ sym (q n i refl refl refl refl refl)

-- two next hops
pub next_hop_one : (κs : Lfts 3) (a : Dens κs next-hop-kinds.ps) (x y : (res_t next-hop-kinds.r κs).Denot)
    (s t : AtExit (ended_of 3 next-hop-kinds.ps next-hop-kinds.r) κs) → next-hop-reads.Post κs a x s → next-hop-reads.Post κs a y t
    → x ≡ y
next_hop_one κs a x y s t p q =
    let n : Node = record {
      time = 0;
      faces = faces.view a.1.0;
      routes = routes.view (known_routes a.1.1.0);
      pending = [];
      store = [];
      dead = [];
    } in
    let i : Arrival = record {
      face = a.1.1.1.1.1.0;
      ask = record {
        name = a.1.1.1.1.1.1.0.now;
        can_be_prefix = false;
        must_be_fresh = false;
        nonce = 0;
        lifetime = 0;
        hop = limit_of a.1.1.1.1.1.1.1.0;
      };
      bytes = [];
    } in
    face_one x y (p n i refl refl refl refl refl ∙ sym (q n i refl refl refl refl refl))
