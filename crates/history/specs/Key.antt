-- "For every face, the requests opened equal those answered ..": what a request is known by, and how happenings and standing requests are
-- counted.
-- Assumes nothing.
use Rattle.std.specs.Prelude.{ℕ, ◌+◌, Bool, ◌&&◌, not, List, [], ◌∷◌, eqb, ◌≡◌}
use Rattle.std.specs.Bool.{beq}
use Rattle.names.specs.Name.{same_bytes}
use Rattle.records.specs.Class.{Class}
use Rattle.records.specs.Slots.{held, any_of}
use Rattle.records.specs.Entry.{Entry}
use Rattle.history.specs.Lists.{how_many}
use Rattle.records.specs.Happening.{Fate, opened, Happening, answered, nacked, expired, closed, self_met}
use Rattle.records.specs.Rows.{fate_number}

-- whose request it is: its face, and the name, flags and class of its entry
pub record Key : Type 0 where
  pub face : ℕ
  pub name : List ℕ
  pub can_be_prefix : Bool
  pub must_be_fresh : Bool
  pub cls : Class

-- the key of the request that a happening is about
unfoldable pub key_of : Happening → Key
key_of h = record { face = h.face; name = h.name; can_be_prefix = h.can_be_prefix; must_be_fresh = h.must_be_fresh; cls = h.cls }

-- the key of the request that an entry holds for a face
unfoldable pub key_at : Entry → ℕ → Key
key_at e f = record { face = f; name = e.name; can_be_prefix = e.can_be_prefix; must_be_fresh = e.must_be_fresh; cls = e.cls }

-- whether two fates are the same
unfoldable pub is_fate : Fate → Fate → Bool
is_fate x y = eqb (fate_number x) (fate_number y)

-- whether a fate is an end
unfoldable pub is_end : Fate → Bool
is_end x = not (is_fate opened x)

-- the number of happenings of a fate whose key p holds of
unfoldable pub counted : Fate → (Key → Bool) → List Happening → ℕ
counted x p hs = how_many (λ h. is_fate x h.fate && p (key_of h)) hs

-- the number of ends whose key p holds of
unfoldable pub ended : (Key → Bool) → List Happening → ℕ
ended p hs = how_many (λ h. is_end h.fate && p (key_of h)) hs

-- the number of requests of an entry whose key p holds of
unfoldable pub open_in : (Key → Bool) → Entry → ℕ
open_in p e = how_many (λ h. p (key_at e h.face)) (held e.requests)

-- the number of requests that stand in a pending table whose key p holds of
unfoldable pub open_now : (Key → Bool) → List Entry → ℕ
open_now p [] = 0
open_now p (e ∷ es) = open_in p e + open_now p es

-- whether a request whose key p holds of stands in a pending table
unfoldable pub stands : (Key → Bool) → List Entry → Bool
stands p es = any_of (λ e. any_of (λ h. p (key_at e h.face)) (held e.requests)) es

-- whether a key has a face
unfoldable pub of_face : ℕ → Key → Bool
of_face f k = eqb k.face f

-- whether a key has a face, a name and both flags, which is what a request is known by; its class is not asked
unfoldable pub is_of : ℕ → List ℕ → Bool → Bool → Key → Bool
is_of f name p m k = eqb k.face f && (same_bytes name k.name && beq p k.can_be_prefix && beq m k.must_be_fresh)

-- whether a key has the face, name and flags of a happening
unfoldable pub like : Happening → Key → Bool
unfolding is_of
like h k = is_of h.face h.name h.can_be_prefix h.must_be_fresh k

-- of the keys that p holds of: opened = answered + ended by Nack + expired + ended by closing + self-met + standing in the table
abbrev pub Accounted : (Key → Bool) → List Happening → List Entry → Type 0
Accounted p hs es =
    counted opened p hs
    ≡ counted answered p hs + counted nacked p hs + counted expired p hs + counted closed p hs + counted self_met p hs + open_now p es
