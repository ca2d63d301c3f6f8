-- Laws of the name finder: what it finds from a place on, at the end, at a fault and at an element.
-- Assumes nothing.
use Rattle.std.specs.Prelude.{ℕ, ◌≤◌, ◌≡◌, refl, ◌≢◌, List, [], length, take, drop, None, Some}
use borrow.Author.Tests.{eq-eqb, ne_eqb}
use Rattle.laws.specs.Pick.{pick}
use Rattle.wire.specs.declared.read.Cursor.{Cursor}
use Rattle.wire.specs.declared.read.Element.{Element}
use Rattle.wire.specs.Element.{elements}
use Rattle.wire.specs.Places.Place.{element_at}
use Rattle.wire.specs.Laws.Within.{read_is, read_bad}
use Rattle.wire.specs.Laws.Walk.{walk_end, walk_bad, walk_more}
use Rattle.grammar.specs.Walk.{item}
use Rattle.packethead.specs.Name.{first_name, name_in, name_of}

-- the loop at place at of v: the first Name from there on is the first of all
abbrev pub Finding : List ℕ → ℕ → Type 0
Finding v at = first_name (elements item (drop at v)).items ≡ name_in v

-- at the start
pub finding_start : (v : List ℕ) → Finding v 0
unfolding name_in
finding_start v = refl

module _ (v : List ℕ) (at : ℕ) (f : Finding v at) where
  -- at the end there is no Name
  pub finding_end : length v ≤ at → [] ≡ name_in v
  unfolding first_name
  finding_end h = rw (walk_end item v at h) at f

  -- at a fault there is none
  pub finding_bad : element_at v at ≡ None → [] ≡ name_in v
  unfolding first_name
  finding_bad i = rw (walk_bad item v at i) at f

  module _ (e : Element) (c : Cursor) (i : element_at v at ≡ Some (e, c)) where
    -- an element of type 7 is the Name
    pub finding_name : e.typ ≡ 7 → take e.len (drop e.at v) ≡ name_in v
    unfolding first_name pick
    finding_name t = rw (walk_more item v at e c i, eq-eqb e.typ 7 t) at f

    -- an element of another type is passed
    pub finding_more : e.typ ≢ 7 → Finding v c.at
    unfolding first_name pick
    finding_more t = rw (walk_more item v at e c i, ne_eqb e.typ 7 t) at f

module _ (s : List ℕ) where
  -- bytes that begin no element have no Name
  pub name_none : element_at s 0 ≡ None → [] ≡ name_of s
  unfolding name_of
  name_none i = rw (read_bad s 0 i)

  -- the Name of a packet is that in its element's value
  pub name_at : (e : Element) (c : Cursor) → element_at s 0 ≡ Some (e, c) → name_in (take e.len (drop e.at s)) ≡ name_of s
  unfolding name_of
  name_at e c i = rw (read_is s 0 e c i).same
