-- What the events need of one entry: the earliest out-record by any test, and a new entry as its parts.
-- Assumes nothing.
use Rattle.std.specs.Prelude.{ℕ, ◌≡◌, refl, Bool, List, length}
use Rattle.std.proofs.Math.Option.{some}
use Rattle.faces.specs.Set.{has_face, faces_where}
use Rattle.faces.specs.Laws.Least.{least_where}
use Rattle.records.specs.Class.{Class}
use Rattle.records.specs.Slots.{no_slots, set_slot}
use Rattle.records.specs.Entry.{Request, Sent, Entry, with_requests, with_sent, asking, sending, earliest_of}
use Rattle.pending_entry.specs.Operations.{bare_entry}

-- "the eligible hop with the earliest one": the earliest in the set of the faces that p holds of is the earliest that p holds of
pub earliest_where : (n : ℕ) (p : ℕ → Bool) (e : Entry) → length e.sent ≡ n
    → earliest_of (has_face n (faces_where n p)) e ≡ earliest_of p e
unfolding earliest_of
earliest_where n p e q = least_where n p (λ (s : Sent). s.time) e.sent q

-- an entry without records, with one request and sent to one face, is a new entry as the rules have it
pub new_entry_lem : (n : ℕ) (name : List ℕ) (p m : Bool) (c : Class) (f h : ℕ) (r : Request) (s : Sent)
    → sending h s (asking f r (bare_entry n name p m c))
    ≡ record {
      name = name;
      can_be_prefix = p;
      must_be_fresh = m;
      cls = c;
      requests = set_slot f (some r) (no_slots n);
      sent = set_slot h (some s) (no_slots n);
    }
unfolding sending asking with_sent with_requests bare_entry
new_entry_lem n name p m c f h r s = refl
