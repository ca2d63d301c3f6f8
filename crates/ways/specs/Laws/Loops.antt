-- "LOOP: a live fingerprint equals this one; or the entry has the nonce", as the code asks it.
-- Assumes nothing.
use Rattle.std.specs.Prelude.{ℕ, ◌≡◌, Bool, true, ◌&&◌, List}
use Rattle.std.proofs.Math.Path.{refl, sym}
use Rattle.std.proofs.Common.{◌∙◌}
use Rattle.std.proofs.Math.Bool.{false}
use Rattle.std.proofs.Math.Option.{Option, none, some}
use Rattle.names.specs.Fingerprint.{fingerprint}
use Rattle.records.specs.Slots.{holds, given}
use Rattle.records.specs.Face.{Face, is_peer}
use Rattle.records.specs.Entry.{Entry, has_nonce, own_nonce}
use Rattle.records.specs.Line.{Line, is_dead}
use Rattle.rules.specs.Node.{Node}
use Rattle.rules.specs.Interest.{Arrival, entry_loops}
use Rattle.ways.specs.Ways.{loops_by}

module _ (fs : List (Option Face)) (f k : ℕ) (o : Option Entry) (p : Bool) (a : p ≡ is_peer fs f) where
  -- the own nonce on a face that is not point-to-point
  pub own_other : p ≡ false → false ≡ given false (λ e. is_peer fs f && own_nonce f k e) o
  unfolding given
  own_other q = go o
    where
      go : (o : Option Entry) → false ≡ given false (λ e. is_peer fs f && own_nonce f k e) o
      go none = refl
      go (some e) = rw (sym a ∙ q)

  -- and on one that is
  pub own_peer : (r : Bool) → p ≡ true → r ≡ given false (own_nonce f k) o → r ≡ given false (λ e. is_peer fs f && own_nonce f k e) o
  unfolding given
  own_peer r q = go o
    where
      go : (o : Option Entry) → r ≡ given false (own_nonce f k) o → r ≡ given false (λ e. is_peer fs f && own_nonce f k e) o
      go none b = b
      go (some e) b = rw (sym a ∙ q) b

module _ (n : Node) (a : Arrival) (fs : List (Option Face)) (f k : ℕ) (o : Option Entry) (x : n.faces ≡ fs) (y : a.face ≡ f)
    (z : a.ask.nonce ≡ k) (s : Bool) (w : s ≡ given false (λ e. is_peer fs f && own_nonce f k e) o) where
  -- an entry with the own nonce does not count
  pub entry_own : s ≡ true → false ≡ holds (entry_loops n a) o
  unfolding given holds entry_loops
  entry_own q = go o w
    where
      go : (o : Option Entry) → s ≡ given false (λ e. is_peer fs f && own_nonce f k e) o → false ≡ holds (entry_loops n a) o
      go none b = refl
      go (some e) b = rw (x, y, z, sym b ∙ q)

  -- any other does where it has the nonce
  pub entry_other : (r : Bool) → s ≡ false → r ≡ given false (has_nonce k) o → r ≡ holds (entry_loops n a) o
  unfolding given holds entry_loops
  entry_other r q = go o w
    where
      go : (o : Option Entry) → s ≡ given false (λ e. is_peer fs f && own_nonce f k e) o → r ≡ given false (has_nonce k) o
          → r ≡ holds (entry_loops n a) o
      go none b d = d
      go (some e) b d = rw (x, y, z, sym b ∙ q) d

module _ (start t : ℕ) (n : Node) (a : Arrival) (ls : List Line) (name : List ℕ) (k print : ℕ) (x : n.dead ≡ ls) (y : a.ask.name ≡ name)
    (z : a.ask.nonce ≡ k) (w : print ≡ fingerprint start name k) (d : Bool) (b : d ≡ is_dead t print ls) (o : Option Entry) where
  -- whether a live fingerprint is that of the Interest
  dead_is : is_dead t (fingerprint start a.ask.name a.ask.nonce) n.dead ≡ d
  dead_is = rw (x, y, z, sym w) (sym b)

  -- one that is makes it loop
  pub loops_dead : d ≡ true → true ≡ loops_by start t n a o
  unfolding loops_by
  loops_dead q = rw (dead_is ∙ q)

  -- without one it loops by its entry
  pub loops_entry : (r : Bool) → d ≡ false → r ≡ holds (entry_loops n a) o → r ≡ loops_by start t n a o
  unfolding loops_by
  loops_entry r q v = rw (dead_is ∙ q) v
