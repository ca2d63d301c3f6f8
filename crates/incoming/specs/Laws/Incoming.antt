-- What came in with an event: that the rules are told just that, and that it is one thing.
-- Assumes nothing.
use Rattle.std.specs.Prelude.{ℕ, ◌≡◌, refl, Bool, false, List}
use Rattle.std.proofs.Common.{sym, ◌∙◌, arith}
use Rattle.std.proofs.Math.Path.{ap}
use Rattle.std.proofs.Math.Option.{none, some, some-injective}
use Rattle.packethead.specs.Header.{Came, header_read}
use Rattle.packets.specs.Meaning.{Heard, heard, came_means}
use Rattle.records.specs.Slots.{given, Held}
use Rattle.rules.specs.Node.{Node, What, packet, clock, open_face, close_face, set_route, drop_route, add_hop, drop_hop, face_in, opens_face}
use Rattle.rules.specs.Step.{arrives, what_step}
use Rattle.incoming.specs.Incoming.{came_in, heard_in, Hears}

-- nothing is no thing
not_none : {A B : Type 0} {a : A} → none ≡ some a → B
not_none e = absurd (let z : ◌≡◌ {A = ℕ} 0 1 = cc in omega arith)

-- what an event's bytes hold comes in
pub bytes_hears : (n : Node) (f : ℕ) (l : List ℕ) → Hears n (packet f l) f (heard l)
unfolding came_in heard
bytes_hears n f l = record { came = header_read l; comes = refl; means = refl }

module _ (n : Node) (f : ℕ) (h : Heard) where
  -- so it is with an event that is that packet
  pub comes_in_lem : (w : What) (l : List ℕ) → w ≡ packet f l → heard l ≡ h → Hears n w f h
  comes_in_lem w l a b = rw (a, ← b) (bytes_hears n f l)

  -- what came in is what the event's bytes hold. It is not so for a packet that comes in pieces: what is proved by this law is proved
  -- anew for those
  pub hears_bytes : (w : What) → Hears n w f h → (l : List ℕ) × (w ≡ packet f l) × (heard l ≡ h)
  unfolding came_in heard
  hears_bytes (packet g l) q =
      let s = some-injective _ _ q.comes in
      let a : g ≡ f = ap (λ (x : Held Came). x.face) s in
      let b : header_read l ≡ q.came = ap (λ (x : Held Came). x.what) s in
      (l, ap (λ (k : ℕ). packet k l) a, ap came_means b ∙ q.means)
  hears_bytes clock q = not_none q.comes
  hears_bytes (open_face g scope link) q = not_none q.comes
  hears_bytes (close_face g) q = not_none q.comes
  hears_bytes (set_route c p) q = not_none q.comes
  hears_bytes (drop_route p) q = not_none q.comes
  hears_bytes (add_hop g cost p) q = not_none q.comes
  hears_bytes (drop_hop g p) q = not_none q.comes

  -- the rules are told of what came in
  pub hears_step : (faces now : ℕ) (w : What) → Hears n w f h → what_step faces now n w ≡ arrives now n f h
  unfolding what_step
  hears_step faces now w q = let x = hears_bytes w q in rw (x.1, x.2)

  -- the event names its face
  pub hears_face : (w : What) → Hears n w f h → face_in w ≡ some f
  unfolding face_in
  hears_face w q = let x = hears_bytes w q in rw x.1

  -- and opens none
  pub hears_opens : (w : What) → Hears n w f h → opens_face w ≡ false
  unfolding opens_face
  hears_opens w q = let x = hears_bytes w q in rw x.1

-- one thing comes in with an event
pub hears_one : (n : Node) (w : What) (f g : ℕ) (h k : Heard) → Hears n w f h → Hears n w g k → (f ≡ g) × (h ≡ k)
hears_one n w f g h k a b =
    let s = some-injective _ _ (sym a.comes ∙ b.comes) in
    (ap (λ (x : Held Came). x.face) s, sym a.means ∙ ap (λ (x : Held Came). came_means x.what) s ∙ b.means)

-- what came in, as a test
pub hears_in : (n : Node) (w : What) (f : ℕ) (h : Heard) → Hears n w f h → heard_in n w ≡ some (record { face = f; what = h })
unfolding heard_in given
hears_in n w f h q = rw (q.comes, q.means)
