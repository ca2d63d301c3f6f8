-- The elements that hold others, by their names: the parents of the fixed table.
-- Assumes nothing.
use Rattle.std.specs.Prelude.{ℕ}

abbrev pub interest : ℕ
interest = 0x05

abbrev pub dat : ℕ
dat = 0x06

abbrev pub meta_info : ℕ
meta_info = 0x14

abbrev pub fragment : ℕ
fragment = 0x50

abbrev pub lp_packet : ℕ
lp_packet = 0x64

abbrev pub nack : ℕ
nack = 0x0320
