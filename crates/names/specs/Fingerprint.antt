-- Document 01, "Ageing": "The fingerprint is 64-bit FNV-1a over the name's value bytes, then the nonce".
-- Assumes nothing.
use Rattle.std.specs.Prelude.{ℕ, ◌+◌, ◌*◌, ◌/◌, ◌%◌, ◌^◌, List, [], ◌∷◌, bit_xor}
use Rattle.wire.specs.Write.{bytes_of}

-- h xor a byte, in a form that computes: a byte changes the lowest eight digits alone (`xor_low_lem`)
unfoldable pub xor_low : ℕ → ℕ → ℕ
xor_low h b = h / 256 * 256 + bit_xor (h % 256) b

-- "for each byte xor, then multiply by 1099511628211 modulo 2^64"
unfoldable pub stepped : ℕ → ℕ → ℕ
stepped h b = (xor_low h b * 1099511628211) % 2 ^ 64

-- FNV-1a over bytes, from a value on
unfoldable pub fnv : ℕ → List ℕ → ℕ
fnv h [] = h
fnv h (b ∷ l) = fnv (stepped h b) l

-- "start at 14695981039346656037"
abbrev pub fnv_start : ℕ
fnv_start = 14695981039346656037

-- the name's value bytes, then the nonce's four
unfoldable pub fingerprint : ℕ → List ℕ → ℕ → ℕ
unfolding xor_low stepped fnv bytes_of
fingerprint start name nonce = fnv (fnv start name) (bytes_of 4 nonce)
