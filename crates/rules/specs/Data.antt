-- Document 01, "Data, store, Nack": Data.
-- Assumes nothing.
use Rattle.std.specs.Prelude.{ℕ, suc, Bool, ◌&&◌, not, List, [], ◌∷◌, ◌++◌, map, eqb}
use Rattle.std.proofs.Math.Option.{Option}
use Rattle.answers.specs.declared.Answer.{Answer}
use Rattle.laws.specs.Pick.{pick}
use Rattle.sizes.specs.Sizes.{most_stored}
use Rattle.packets.specs.Meaning.{Offer}
use Rattle.records.specs.Slots.{given, held, only, each, is_empty}
use Rattle.records.specs.Face.{Face, is_ad_hoc_face}
use Rattle.records.specs.Entry.{Entry, matches, class_on}
use Rattle.records.specs.Stored.{Stored, stored}
use Rattle.records.specs.Ageing.{buried_by}
use Rattle.rules.specs.Node.{Node, print_of, with_pending, with_store, burying}
use Rattle.rules.specs.Outcome.{dat, Send, Outcome, quiet, done}
use Rattle.rules.specs.Interest.{out_of_scope}
use Rattle.records.specs.Happening.{Fate, answered, self_met, Happening, happens}

-- the Data as it is stored
unfoldable pub stored_as : ℕ → Offer → List ℕ → Stored
stored_as now d bytes = record { name = d.name; bytes = bytes; time = now; freshness = d.freshness }

-- whether a request on a face is self-met by Data from f: "those on the arrival face as self-met, unless that face is ad hoc"
unfoldable pub is_self_met : Node → ℕ → ℕ → Bool
is_self_met n f h = eqb h f && not (is_ad_hoc_face n.faces f)

-- how a request on a face ends
unfoldable pub fate_of : Node → ℕ → ℕ → Fate
fate_of n f h = pick (is_self_met n f h) self_met answered

-- the ends of an entry's requests, by face
unfoldable pub data_ends : ℕ → Node → ℕ → Entry → List Happening
data_ends now n f e = map (λ h. happens (fate_of n f h.face) now e h) (held e.requests)

-- "one copy per face however many requests it ends": the copy for a face, if one is owed there
unfoldable pub copy_on : Node → ℕ → List ℕ → List Entry → ℕ → List Send
copy_on n f bytes es h =
    pick (is_self_met n f h) [] (given [] (λ c. record { face = h; kind = dat; cls = c; bytes = bytes } ∷ []) (class_on h es))

-- the copies for the faces from h on, of which these are the slots
unfoldable pub copies : Node → ℕ → List ℕ → List Entry → ℕ → List (Option Face) → List Send
copies n f bytes es h [] = []
copies n f bytes es h (x ∷ fs) = copy_on n f bytes es h ++ copies n f bytes es (suc h) fs

-- "Store it, then end every request of the matched entries .. The entries leave."
unfoldable pub satisfies : ℕ → Node → ℕ → Offer → List ℕ → Outcome
satisfies now n f d bytes =
    done
    (burying
    (with_store (with_pending n (only (λ e. not (matches d.name e)) n.pending)) (stored most_stored (stored_as now d bytes) n.store))
    (each (buried_by print_of now) (only (matches d.name) n.pending)))
    (copies n f bytes (only (matches d.name) n.pending) 1 n.faces)
    (each (data_ends now n f) (only (matches d.name) n.pending))

-- Data: 8, then "Data matching no entry" is 12
unfoldable pub data_step : ℕ → Node → ℕ → Offer → List ℕ → Outcome
data_step now n f d bytes =
    pick (out_of_scope n f d.name) (quiet Answer.Scope n)
    (pick (is_empty (only (matches d.name) n.pending)) (quiet Answer.Unsolicited n) (satisfies now n f d bytes))
