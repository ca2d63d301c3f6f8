-- What the answers say where the handle's entry is known: by the Interest's own entry it loops as the rules say, and by an entry the next
-- hop is the rules'.
-- Assumes nothing.
use Rattle.std.specs.Prelude.{ℕ, ◌≡◌, refl, Bool, List}
use Rattle.std.proofs.Common.{sym, ap, ◌∙◌}
use Rattle.std.proofs.Math.Option.{Option, some}
use Rattle.names.specs.Fingerprint.{fnv_start}
use Rattle.records.specs.Slots.{at_place, given}
use Rattle.records.specs.Face.{Face}
use Rattle.records.specs.Route.{Route}
use Rattle.records.specs.Entry.{Entry}
use Rattle.records.specs.Line.{Line}
use Rattle.rules.specs.Node.{Node, print_of}
use Rattle.rules.specs.Interest.{Arrival, entry_of, loops, resends}
use Rattle.ways.specs.Ways.{loops_by, resends_by}

-- by its own entry an Interest loops as the rules say
pub loops_by_lem : (t : ℕ) (n : Node) (a : Arrival) → loops_by fnv_start t n a (at_place (entry_of n a.ask) n.pending) ≡ loops t n a
unfolding loops_by loops print_of
loops_by_lem t n a = refl

-- by an entry the hop is the rules'
pub resends_by_lem : (t : ℕ) (n : Node) (a : Arrival) (e : Entry) → resends_by t n a (some e) ≡ resends t n a e
unfolding resends_by given
resends_by_lem t n a e = refl

-- an answer by the entry at a place is the rules' where that is the place of the Interest's own entry
pub loops_own : (t : ℕ) (fs : List (Option Face)) (es : List Entry) (ls : List Line) (f : ℕ) (name : List ℕ) (k i : ℕ) (r : Bool)
    → ((n : Node) (a : Arrival) → n.faces ≡ fs → n.dead ≡ ls → a.face ≡ f → a.ask.name ≡ name → a.ask.nonce ≡ k
    → r ≡ loops_by fnv_start t n a (at_place i es))
    → (n : Node) (a : Arrival) → n.faces ≡ fs → n.pending ≡ es → n.dead ≡ ls → a.face ≡ f → a.ask.name ≡ name → a.ask.nonce ≡ k
    → i ≡ entry_of n a.ask → r ≡ loops t n a
loops_own t fs es ls f name k i r h n a x p d y w z v =
    let same : at_place i es ≡ at_place (entry_of n a.ask) n.pending =
    ap (λ (j : ℕ). at_place j es) v ∙ ap (at_place (entry_of n a.ask)) (sym p) in
    h n a x d y w z ∙ ap (loops_by fnv_start t n a) same ∙ loops_by_lem t n a

-- an answer by an entry or none is the rules' where there is the entry
pub next_hop_own : (t : ℕ) (fs : List (Option Face)) (rs : List Route) (f : ℕ) (name : List ℕ) (hop : Option ℕ) (o : Option Entry) (r : Option ℕ)
    → ((n : Node) (a : Arrival) → n.faces ≡ fs → n.routes ≡ rs → a.face ≡ f → a.ask.name ≡ name → a.ask.hop ≡ hop
    → r ≡ resends_by t n a o)
    → (n : Node) (a : Arrival) (e : Entry) → n.faces ≡ fs → n.routes ≡ rs → a.face ≡ f → a.ask.name ≡ name → a.ask.hop ≡ hop
    → o ≡ some e → r ≡ resends t n a e
next_hop_own t fs rs f name hop o r h n a e x u y v z w =
    h n a x u y v z ∙ ap (resends_by t n a) w ∙ resends_by_lem t n a e
