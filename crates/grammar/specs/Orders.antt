-- The orders of those known elements that are asked for, in their parents, by name. Order 0 is that of an element which is not known.
-- Assumes nothing.
use Rattle.std.specs.Prelude.{ℕ}

-- in an Interest and in a Data
abbrev pub name : ℕ
name = 1

-- in an Interest
abbrev pub can_be_prefix : ℕ
can_be_prefix = 2

abbrev pub must_be_fresh : ℕ
must_be_fresh = 3

abbrev pub nonce : ℕ
nonce = 5

abbrev pub lifetime : ℕ
lifetime = 6

abbrev pub hop_limit : ℕ
hop_limit = 7

-- in a Data
abbrev pub meta_info : ℕ
meta_info = 2

abbrev pub signature_info : ℕ
signature_info = 4

abbrev pub signature_value : ℕ
signature_value = 5

-- in a MetaInfo
abbrev pub freshness : ℕ
freshness = 2

-- in a packet as it came, and in a Fragment
abbrev pub interest : ℕ
interest = 1

abbrev pub dat : ℕ
dat = 2

abbrev pub lp_packet : ℕ
lp_packet = 3

-- in an LpPacket
abbrev pub nack : ℕ
nack = 1

abbrev pub fragment : ℕ
fragment = 2

-- in a Nack
abbrev pub nack_reason : ℕ
nack_reason = 1
