-- One entry as the rules have it. No other file can open `view_for`, so its laws stand here.
-- Assumes nothing.
use Rattle.std.specs.Prelude.{ℕ, ◌-◌, ◌≡◌, List, [], get_or, take, eqb}
use Rattle.std.proofs.Math.Path.{refl}
use Rattle.std.proofs.Math.Option.{Option, none, some}
use Rattle.rows.specs.Lent.{Lent}
use Rattle.laws.specs.Pick.{pick}
use Rattle.sizes.specs.Sizes.{most_faces}
use Rattle.faces.specs.Slots.{slots_of}
use Rattle.records.specs.Class.{class_of}
use Rattle.records.specs.Entry.{Request, Sent, Entry, reason_of}

-- the in-record of the face with digit i
unfoldable pub request_at : List (List ℕ) → ℕ → Request
request_at recs i = record { nonce = get_or (get_or recs i []) 0 0; expiry = get_or (get_or recs i []) 1 0 }

-- what a Nack word says: 0, or the reason and 1
unfoldable pub nack_word : ℕ → Option ℕ
nack_word w = pick (eqb w 0) none (some (reason_of (w - 1)))

-- the out-record of the face with digit i
unfoldable pub sent_at : List (List ℕ) → ℕ → Sent
sent_at recs i = record {
  nonce = get_or (get_or recs i []) 2 0;
  time = get_or (get_or recs i []) 3 0;
  nacked = nack_word (get_or (get_or recs i []) 4 0);
}

-- the entry that a name's row, a head and records mean, for n faces
pub view_for : ℕ → List ℕ → List ℕ → List (List ℕ) → Entry
view_for n name head recs = record {
  name = take (get_or head 0 0) name;
  can_be_prefix = eqb (get_or head 1 0) 1;
  must_be_fresh = eqb (get_or head 2 0) 1;
  cls = class_of (get_or head 3 0);
  requests = slots_of n (get_or head 4 0) (request_at recs);
  sent = slots_of n (get_or head 5 0) (sent_at recs);
}

-- for the product's faces
abbrev pub view : List ℕ → List ℕ → List (List ℕ) → Entry
view = view_for most_faces

-- the entry that a function was lent, with any name
abbrev pub before : List ℕ → Lent (List ℕ) → Lent (List (List ℕ)) → Entry
before name head recs = view name head.entry recs.entry

-- and the entry as it leaves it
abbrev pub after : List ℕ → Lent (List ℕ) → Lent (List (List ℕ)) → Entry
after name head recs = view name head.exit recs.exit

module _ (n : ℕ) (name head : List ℕ) (recs : List (List ℕ)) where
  -- the name of an entry
  pub view_name : (view_for n name head recs).name ≡ take (get_or head 0 0) name
  unfolding view_for
  view_name = refl

  -- whether it has CanBePrefix
  pub view_prefix : (view_for n name head recs).can_be_prefix ≡ eqb (get_or head 1 0) 1
  unfolding view_for
  view_prefix = refl

  -- whether it has MustBeFresh
  pub view_fresh : (view_for n name head recs).must_be_fresh ≡ eqb (get_or head 2 0) 1
  unfolding view_for
  view_fresh = refl

  -- its class
  pub view_class : (view_for n name head recs).cls ≡ class_of (get_or head 3 0)
  unfolding view_for
  view_class = refl

  -- its requests
  pub view_requests : (view_for n name head recs).requests ≡ slots_of n (get_or head 4 0) (request_at recs)
  unfolding view_for
  view_requests = refl

  -- its out-records
  pub view_sent : (view_for n name head recs).sent ≡ slots_of n (get_or head 5 0) (sent_at recs)
  unfolding view_for
  view_sent = refl
