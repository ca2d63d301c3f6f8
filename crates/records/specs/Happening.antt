-- What happens to requests: each one that opens or ends.
-- Assumes nothing.
use Rattle.std.specs.Prelude.{ℕ, Bool, List}
use Rattle.records.specs.Class.{Class}
use Rattle.records.specs.Slots.{Held}
use Rattle.records.specs.Entry.{Request, Entry}

-- what becomes of a request
pub data Fate : Type 0 where
  opened : Fate
  answered : Fate
  nacked : Fate
  expired : Fate
  closed : Fate
  self_met : Fate

-- a request that opened or ended: how, when, on which face, of which entry, with which nonce and expiry
pub record Happening : Type 0 where
  pub fate : Fate
  pub time : ℕ
  pub face : ℕ
  pub name : List ℕ
  pub can_be_prefix : Bool
  pub must_be_fresh : Bool
  pub cls : Class
  pub nonce : ℕ
  pub expiry : ℕ

-- a request of an entry, and what became of it
unfoldable pub happens : Fate → ℕ → Entry → Held Request → Happening
happens x now e h = record {
  fate = x;
  time = now;
  face = h.face;
  name = e.name;
  can_be_prefix = e.can_be_prefix;
  must_be_fresh = e.must_be_fresh;
  cls = e.cls;
  nonce = h.what.nonce;
  expiry = h.what.expiry;
}
