-- Worked cases of the definitions, each table by computation.
-- Assumes nothing.
use Rattle.std.specs.Prelude.{◌≡◌, ℕ, Bool, true, false, List, [], ◌∷◌, ◌++◌, map, replicate, refl}
use Rattle.wire.specs.Number.{number}
use Rattle.wire.specs.Element.{element}
use Rattle.wire.specs.declared.verdict.Verdict.{Verdict}
use Rattle.names.specs.declared.component.Counted.{Counted}
use Rattle.names.specs.Name.{counts as tells, counted, localhost, localhop, under_localhost, under_localhop}
use Rattle.names.specs.Fingerprint.{fnv, fnv_start, fingerprint}

-- FNV-1a of "", "a" and "foobar" as published, and the fingerprint of the name /a with the nonce 0x01020304
pub hashes :
    fnv fnv_start []
    ∷ fnv fnv_start (0x61 ∷ [])
    ∷ fnv fnv_start (0x66 ∷ 0x6F ∷ 0x6F ∷ 0x62 ∷ 0x61 ∷ 0x72 ∷ [])
    ∷ fingerprint fnv_start (0x08 ∷ 0x01 ∷ 0x61 ∷ []) 0x01020304
    ∷ []
    ≡ 0xCBF29CE484222325 ∷ 0xAF63DC4C8601EC8C ∷ 0x85944171F73967E8 ∷ 0x0521854585E2E199 ∷ []
unfolding fnv fingerprint
hashes = refl

-- a Name's value, and what it says
pub record Case : Type 0 where
  pub bytes : List ℕ
  pub says : Counted

abbrev case : List ℕ → Counted → Case
case b w = record { bytes = b; says = w }

-- by components
pub cases : List Case
cases =
    -- no component, one, one without bytes, two
    case [] (tells Verdict.Fine 0)
    ∷ case (0x08 ∷ 0x01 ∷ 0x61 ∷ []) (tells Verdict.Fine 1)
    ∷ case (0x08 ∷ 0x00 ∷ []) (tells Verdict.Fine 1)
    ∷ case (0x08 ∷ 0x01 ∷ 0x61 ∷ 0x08 ∷ 0x01 ∷ 0x62 ∷ []) (tells Verdict.Fine 2)
    -- types 0, 1, 2, 3, 65535 and 65536
    ∷ case (0x00 ∷ 0x00 ∷ []) (tells Verdict.Malformed 0)
    ∷ case (0x01 ∷ 0x00 ∷ []) (tells Verdict.Unsupported 1)
    ∷ case (0x01 ∷ 0x20 ∷ replicate 32 0x61) (tells Verdict.Unsupported 1)
    ∷ case (0x02 ∷ 0x00 ∷ []) (tells Verdict.Unsupported 1)
    ∷ case (0x02 ∷ 0x03 ∷ replicate 3 0x61) (tells Verdict.Unsupported 1)
    ∷ case (0x03 ∷ 0x00 ∷ []) (tells Verdict.Fine 1)
    ∷ case (0xFD ∷ 0xFF ∷ 0xFF ∷ 0x00 ∷ []) (tells Verdict.Fine 1)
    ∷ case (0xFE ∷ 0x00 ∷ 0x01 ∷ 0x00 ∷ 0x00 ∷ 0x00 ∷ []) (tells Verdict.Malformed 0)
    -- 5 before 6: behind a marked component stands a cut one, or one whose type is too high
    ∷ case (0x01 ∷ 0x00 ∷ 0x08 ∷ 0x02 ∷ 0x61 ∷ []) (tells Verdict.Malformed 0)
    ∷ case (0x01 ∷ 0x00 ∷ 0xFE ∷ 0x00 ∷ 0x01 ∷ 0x00 ∷ 0x00 ∷ 0x00 ∷ []) (tells Verdict.Malformed 0)
    ∷ case (0x08 ∷ 0x01 ∷ 0x61 ∷ 0x02 ∷ 0x00 ∷ []) (tells Verdict.Unsupported 2)
    -- a component that is cut, one without a length, and a type that is not in its shortest form
    ∷ case (0x08 ∷ 0x02 ∷ 0x61 ∷ []) (tells Verdict.Malformed 0)
    ∷ case (0x08 ∷ []) (tells Verdict.Malformed 0)
    ∷ case (0xFD ∷ 0x00 ∷ 0x08 ∷ 0x00 ∷ []) (tells Verdict.Malformed 0)
    ∷ []

pub counts : map (λ (c : Case). counted c.bytes) cases ≡ map (λ (c : Case). c.says) cases
unfolding cases counted element number
counts = refl

-- a Name's value, and whether it stands under /localhost and under /localhop
pub record Scope : Type 0 where
  pub bytes : List ℕ
  pub host : Bool
  pub hop : Bool

abbrev scope : List ℕ → Bool → Bool → Scope
scope b h p = record { bytes = b; host = h; hop = p }

-- by the first component
pub scopes : List Scope
scopes =
    -- the words themselves, alone and before another component
    scope (0x08 ∷ 0x09 ∷ localhost) true false
    ∷ scope (0x08 ∷ 0x08 ∷ localhop) false true
    ∷ scope (0x08 ∷ 0x09 ∷ localhost ++ (0x08 ∷ 0x01 ∷ 0x61 ∷ [])) true false
    ∷ scope (0x08 ∷ 0x08 ∷ localhop ++ (0x08 ∷ 0x01 ∷ 0x61 ∷ [])) false true
    -- one byte more, one byte less
    ∷ scope (0x08 ∷ 0x0A ∷ localhost ++ (0x61 ∷ [])) false false
    ∷ scope (0x08 ∷ 0x09 ∷ localhop ++ (0x61 ∷ [])) false false
    ∷ scope (0x08 ∷ 0x08 ∷ localhost) false false
    ∷ scope (0x08 ∷ 0x07 ∷ localhop) false false
    -- type 9 instead of 8
    ∷ scope (0x09 ∷ 0x09 ∷ localhost) false false
    ∷ scope (0x09 ∷ 0x08 ∷ localhop) false false
    -- behind another component, cut, and no component at all
    ∷ scope (0x08 ∷ 0x01 ∷ 0x61 ∷ 0x08 ∷ 0x09 ∷ localhost) false false
    ∷ scope (0x08 ∷ 0x0A ∷ localhost) false false
    ∷ scope [] false false
    ∷ []

pub under :
    (map (λ (c : Scope). under_localhost c.bytes) scopes ≡ map (λ (c : Scope). c.host) scopes)
    × (map (λ (c : Scope). under_localhop c.bytes) scopes ≡ map (λ (c : Scope). c.hop) scopes)
unfolding scopes under_localhost under_localhop element number
under = (refl, refl)
