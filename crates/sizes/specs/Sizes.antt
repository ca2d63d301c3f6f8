-- Document 01, "Sizes", and its other limits: each number once, by name.
-- Assumes nothing.
use Rattle.std.specs.Prelude.{ℕ, ◌^◌}

-- "Faces 1 to 16.": the one place that the promises take their number of faces from
abbrev pub most_faces : ℕ
most_faces = 16

-- "Routes 32"
abbrev pub most_routes : ℕ
most_routes = 32

-- "pending entries 64"
abbrev pub most_entries : ℕ
most_entries = 64

-- "stored Data 8"
abbrev pub most_stored : ℕ
most_stored = 8

-- "dead nonces 256"
abbrev pub most_dead : ℕ
most_dead = 256

-- "Packet at most 1,500 bytes."
abbrev pub most_packet : ℕ
most_packet = 1500

-- "Name at most 16 components"
abbrev pub most_components : ℕ
most_components = 16

-- ".. and 255 bytes (the Name's value)."
abbrev pub most_name : ℕ
most_name = 255

-- "Times are milliseconds up to 2^53."
abbrev pub most_time : ℕ
most_time = 2 ^ 53

-- "An InterestLifetime above 60,000 counts as 60,000"
abbrev pub most_lifetime : ℕ
most_lifetime = 60000

-- ".. absent as 4,000."
abbrev pub usual_lifetime : ℕ
usual_lifetime = 4000

-- "A FreshnessPeriod above 86,400,000 counts as that"
abbrev pub most_freshness : ℕ
most_freshness = 86400000

-- "Route cost 0 to 65,535."
abbrev pub most_cost : ℕ
most_cost = 65535

-- "output buffer under 8,192"
abbrev pub least_buffer : ℕ
least_buffer = 8192

-- "sent under 100 ms ago"
abbrev pub resend_time : ℕ
resend_time = 100

-- "A line counts while now minus its time is under 6,000."
abbrev pub dead_time : ℕ
dead_time = 6000
