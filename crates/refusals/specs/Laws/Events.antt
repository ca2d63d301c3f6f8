-- Tests of events: of a packet by its face and bytes or by what it means, of a command by what it names; and what they tell.
-- Assumes nothing.
use Rattle.std.specs.Prelude.{ℕ, ◌↔◌, ◌≡◌, Bool, false, List}
use Rattle.std.proofs.Math.Path.{refl}
use Rattle.std.proofs.Math.Bool.{true}
use Rattle.std.proofs.lemmas.Bool.{false≢true}
use Rattle.answers.specs.declared.Answer.{Answer}
use Rattle.packets.specs.Meaning.{Ask, Offer, Heard, refused, asks, brings, nacks, heard}
use Rattle.rules.specs.Node.{Node, What, packet, open_face, close_face, set_route, drop_route, add_hop, drop_hop}
use Rattle.refusals.specs.Laws.Tells.{Tells, not_both, tells_as}
use Rattle.incoming.specs.Incoming.{Hears}
use Rattle.incoming.specs.Laws.Incoming.{comes_in_lem, hears_bytes}
use Rattle.refusals.specs.Refusals.{Asks, Brings}

-- a test that never holds, of one thing
abbrev pub no₁ : {A : Type 0} → A → Bool
no₁ a = false

-- of two things
abbrev pub no₂ : {A B : Type 0} → A → B → Bool
no₂ a b = false

-- of three things
abbrev pub no₃ : {A B C : Type 0} → A → B → C → Bool
no₃ a b c = false

-- which tells nothing that could be true, of one thing
pub never₁ : {A : Type 0} (a : A) → Tells false ⊥
never₁ a = (false≢true, λ x. absurd x)

-- of two things
pub never₂ : {A B : Type 0} (a : A) (b : B) → Tells false ⊥
never₂ a b = never₁ a

-- of three things
pub never₃ : {A B C : Type 0} (a : A) (b : B) (c : C) → Tells false ⊥
never₃ a b c = never₁ a

-- ---- events

-- a test for each kind of event that a check looks into: a packet's face and bytes; an opening's face, scope and link; a setting's class
-- and prefix; a dropped route's prefix; an added hop's face, cost and prefix; a dropped hop's face and prefix
module _
    (p : ℕ → List ℕ → Bool)
    (o : ℕ → ℕ → ℕ → Bool)
    (s : ℕ → List ℕ → Bool)
    (d : List ℕ → Bool)
    (a : ℕ → ℕ → List ℕ → Bool)
    (h : ℕ → List ℕ → Bool)
  where
    unfoldable pub test_of : What → Bool
    test_of (packet f l) = p f l
    test_of What.clock = false
    test_of (open_face f scope link) = o f scope link
    test_of (close_face f) = false
    test_of (set_route c q) = s c q
    test_of (drop_route q) = d q
    test_of (add_hop f cost q) = a f cost q
    test_of (drop_hop f q) = h f q

-- what is told of an event, by its kind
pub data Told
    (P : ℕ → List ℕ → Type 0)
    (O : ℕ → ℕ → ℕ → Type 0)
    (S : ℕ → List ℕ → Type 0)
    (D : List ℕ → Type 0)
    (A : ℕ → ℕ → List ℕ → Type 0)
    (H : ℕ → List ℕ → Type 0)
    (w : What)
    : Type 0 where
  of_packet : (f : ℕ) (l : List ℕ) → w ≡ packet f l → P f l → Told P O S D A H w
  of_opening : (f scope link : ℕ) → w ≡ open_face f scope link → O f scope link → Told P O S D A H w
  of_setting : (c : ℕ) (q : List ℕ) → w ≡ set_route c q → S c q → Told P O S D A H w
  of_dropping : (q : List ℕ) → w ≡ drop_route q → D q → Told P O S D A H w
  of_adding : (f cost : ℕ) (q : List ℕ) → w ≡ add_hop f cost q → A f cost q → Told P O S D A H w
  of_drop_hop : (f : ℕ) (q : List ℕ) → w ≡ drop_hop f q → H f q → Told P O S D A H w

-- where each test tells something, so do all together
module _
    {p : ℕ → List ℕ → Bool}
    {o : ℕ → ℕ → ℕ → Bool}
    {s : ℕ → List ℕ → Bool}
    {d : List ℕ → Bool}
    {a : ℕ → ℕ → List ℕ → Bool}
    {h : ℕ → List ℕ → Bool}
    {P : ℕ → List ℕ → Type 0}
    {O : ℕ → ℕ → ℕ → Type 0}
    {S : ℕ → List ℕ → Type 0}
    {D : List ℕ → Type 0}
    {A : ℕ → ℕ → List ℕ → Type 0}
    {H : ℕ → List ℕ → Type 0}
    (tp : (f : ℕ) (l : List ℕ) → Tells (p f l) (P f l))
    (to : (f scope link : ℕ) → Tells (o f scope link) (O f scope link))
    (ts : (c : ℕ) (q : List ℕ) → Tells (s c q) (S c q))
    (td : (q : List ℕ) → Tells (d q) (D q))
    (ta : (f cost : ℕ) (q : List ℕ) → Tells (a f cost q) (A f cost q))
    (th : (f : ℕ) (q : List ℕ) → Tells (h f q) (H f q))
  where
    pub tells_event : (w : What) → Tells (test_of p o s d a h w) (Told P O S D A H w)
    unfolding test_of
    tells_event w = (told w, holding)
      where
        told : (w : What) → test_of p o s d a h w ≡ true → Told P O S D A H w
        told (packet f l) e = of_packet f l refl ((tp f l).0 e)
        told What.clock e = not_both e
        told (open_face f scope link) e = of_opening f scope link refl ((to f scope link).0 e)
        told (close_face f) e = not_both e
        told (set_route c q) e = of_setting c q refl ((ts c q).0 e)
        told (drop_route q) e = of_dropping q refl ((td q).0 e)
        told (add_hop f cost q) e = of_adding f cost q refl ((ta f cost q).0 e)
        told (drop_hop f q) e = of_drop_hop f q refl ((th f q).0 e)

        holding : Told P O S D A H w → test_of p o s d a h w ≡ true
        holding (of_packet f l e x) = rw e ((tp f l).1 x)
        holding (of_opening f scope link e x) = rw e ((to f scope link).1 x)
        holding (of_setting c q e x) = rw e ((ts c q).1 x)
        holding (of_dropping q e x) = rw e ((td q).1 x)
        holding (of_adding f cost q e x) = rw e ((ta f cost q).1 x)
        holding (of_drop_hop f q e x) = rw e ((th f q).1 x)

-- a test of packets alone
unfoldable pub on_packet : (ℕ → List ℕ → Bool) → What → Bool
unfolding test_of
on_packet p w = test_of p no₃ no₂ no₁ no₃ no₂ w

-- what it tells
pub tells_packet : {p : ℕ → List ℕ → Bool} {P : ℕ → List ℕ → Type 0} → ((f : ℕ) (l : List ℕ) → Tells (p f l) (P f l)) → (w : What)
    → Tells (on_packet p w) ((f : ℕ) × (l : List ℕ) × (w ≡ packet f l) × P f l)
unfolding on_packet
tells_packet {p} {P} t w =
    tells_as (tells_event t never₃ never₂ never₁ never₃ never₂ w) (told, λ x. of_packet x.0 x.1 x.2 x.3)
  where
    told : Told P (λ f k j. ⊥) (λ c q. ⊥) (λ q. ⊥) (λ f k q. ⊥) (λ f q. ⊥) w → (f : ℕ) × (l : List ℕ) × (w ≡ packet f l) × P f l
    told (of_packet f l e x) = (f, l, e, x)
    told (of_opening f scope link e x) = absurd x
    told (of_setting c q e x) = absurd x
    told (of_dropping q e x) = absurd x
    told (of_adding f cost q e x) = absurd x
    told (of_drop_hop f q e x) = absurd x

-- ---- what a packet means

-- a test for each thing that a packet may mean: a refusal, an Interest, a Data, a Nack
unfoldable pub means_of : (Answer → Bool) → (Ask → Bool) → (Offer → Bool) → (Ask → Bool) → Heard → Bool
means_of r a d k (refused x) = r x
means_of r a d k (asks i bytes) = a i
means_of r a d k (brings o bytes) = d o
means_of r a d k (nacks reason i) = k i

-- a test of Interests alone
unfoldable pub on_ask : (Ask → Bool) → Heard → Bool
unfolding means_of
on_ask p h = means_of no₁ p no₁ no₁ h

-- a test of Data alone
unfoldable pub on_offer : (Offer → Bool) → Heard → Bool
unfolding means_of
on_offer p h = means_of no₁ no₁ p no₁ h

-- a test of Nacks alone
unfoldable pub on_nack : (Ask → Bool) → Heard → Bool
unfolding means_of
on_nack p h = means_of no₁ no₁ no₁ p h

-- what a test of Interests tells of a packet
pub tells_ask : {p : Ask → Bool} {P : Ask → Type 0} → ((i : Ask) → Tells (p i) (P i)) → (h : Heard)
    → Tells (on_ask p h) ((i : Ask) × ((bytes : List ℕ) × (h ≡ asks i bytes)) × P i)
unfolding on_ask
tells_ask {p} {P} t h = (told h, λ x. rw x.1.1 ((t x.0).1 x.2))
  where
    told : (h : Heard) → on_ask p h ≡ true → (i : Ask) × ((bytes : List ℕ) × (h ≡ asks i bytes)) × P i
    told (refused a) e = not_both e
    told (asks i bytes) e = (i, (bytes, refl), (t i).0 e)
    told (brings d bytes) e = not_both e
    told (nacks reason i) e = not_both e

-- what a test of Data tells of a packet
tells_offer : {p : Offer → Bool} {P : Offer → Type 0} → ((d : Offer) → Tells (p d) (P d)) → (h : Heard)
    → Tells (on_offer p h) ((d : Offer) × ((bytes : List ℕ) × (h ≡ brings d bytes)) × P d)
unfolding on_offer
tells_offer {p} {P} t h = (told h, λ x. rw x.1.1 ((t x.0).1 x.2))
  where
    told : (h : Heard) → on_offer p h ≡ true → (d : Offer) × ((bytes : List ℕ) × (h ≡ brings d bytes)) × P d
    told (refused a) e = not_both e
    told (asks i bytes) e = not_both e
    told (brings d bytes) e = (d, (bytes, refl), (t d).0 e)
    told (nacks reason i) e = not_both e

-- what a test of Nacks tells of a packet
tells_nacked : {p : Ask → Bool} {P : Ask → Type 0} → ((i : Ask) → Tells (p i) (P i)) → (h : Heard)
    → Tells (on_nack p h) ((reason : ℕ) × (i : Ask) × (h ≡ nacks reason i) × P i)
unfolding on_nack
tells_nacked {p} {P} t h = (told h, λ x. rw x.2 ((t x.1).1 x.3))
  where
    told : (h : Heard) → on_nack p h ≡ true → (reason : ℕ) × (i : Ask) × (h ≡ nacks reason i) × P i
    told (refused a) e = not_both e
    told (asks i bytes) e = not_both e
    told (brings d bytes) e = not_both e
    told (nacks reason i) e = (reason, i, refl, (t i).0 e)

module _ (n : Node) where
  -- a packet that came in is one that the event's bytes hold
  tells_hears : (w : What) (f : ℕ) (h : Heard) → ((l : List ℕ) × (w ≡ packet f l) × (heard l ≡ h)) ↔ Hears n w f h
  tells_hears w f h = (λ x. comes_in_lem n f h w x.0 x.1 x.2, hears_bytes n f h w)

  -- what a test of Interests tells of an event
  pub tells_interest : {p : ℕ → Ask → Bool} {P : ℕ → Ask → Type 0} → ((f : ℕ) (i : Ask) → Tells (p f i) (P f i)) → (w : What)
      → Tells (on_packet (λ f l. on_ask (p f) (heard l)) w) ((f : ℕ) × (i : Ask) × Asks n w f i × P f i)
  tells_interest t w =
      tells_as (tells_packet (λ f l. tells_ask (t f) (heard l)) w) (
        λ x. (x.0, x.3.0, (x.3.1.0, (tells_hears w x.0 _).0 (x.1, x.2, x.3.1.1)), x.3.2),
        λ x. let y = (tells_hears w x.0 _).1 x.2.1 in (x.0, y.0, y.1, (x.1, (x.2.0, y.2), x.3)),
      )

  -- what a test of Data tells of an event
  pub tells_data : {p : ℕ → Offer → Bool} {P : ℕ → Offer → Type 0} → ((f : ℕ) (d : Offer) → Tells (p f d) (P f d)) → (w : What)
      → Tells (on_packet (λ f l. on_offer (p f) (heard l)) w) ((f : ℕ) × (d : Offer) × Brings n w f d × P f d)
  tells_data t w =
      tells_as (tells_packet (λ f l. tells_offer (t f) (heard l)) w) (
        λ x. (x.0, x.3.0, (x.3.1.0, (tells_hears w x.0 _).0 (x.1, x.2, x.3.1.1)), x.3.2),
        λ x. let y = (tells_hears w x.0 _).1 x.2.1 in (x.0, y.0, y.1, (x.1, (x.2.0, y.2), x.3)),
      )

  -- what a test of Nacks tells of an event
  pub tells_nack : {p : ℕ → Ask → Bool} {P : ℕ → Ask → Type 0} → ((f : ℕ) (i : Ask) → Tells (p f i) (P f i)) → (w : What)
      → Tells (on_packet (λ f l. on_nack (p f) (heard l)) w) ((f : ℕ) × (reason : ℕ) × (i : Ask) × Hears n w f (nacks reason i) × P f i)
  tells_nack t w =
      tells_as (tells_packet (λ f l. tells_nacked (t f) (heard l)) w) (
        λ x. (x.0, x.3.0, x.3.1, (tells_hears w x.0 _).0 (x.1, x.2, x.3.2), x.3.3),
        λ x. let y = (tells_hears w x.0 _).1 x.3 in (x.0, y.0, y.1, (x.1, x.2, y.2, x.4)),
      )
