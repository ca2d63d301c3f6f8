-- Ageing leaves live requests only (`aged_live`).
-- Assumes nothing.
use Rattle.std.specs.Prelude.{ℕ, suc, ◌<◌, List, [], ◌∷◌, map, ltb}
use Rattle.std.proofs.Math.Option.{Option, none, some}
use Rattle.std.proofs.Common.{ltb-true}
use Rattle.laws.specs.Laws.Pick.{pick_ind}
use Rattle.records.specs.Slots.{held_from, held}
use Rattle.records.specs.Entry.{Request, with_requests, is_live, if_live, aged_entry}
use Rattle.records.specs.Ageing.{staying, aged_pending}
use Rattle.rules.specs.Node.{Node}
use Rattle.rules.specs.Ageing.{aged}
use Rattle.history.specs.Lists.{All, nothing, both}
use Rattle.history.specs.Laws.Every.{all_only, all_any, all_map}

-- of the slots from face k on, with the requests that live, each request lives
live_from : (now k : ℕ) (l : List (Option Request)) → All (λ h. now < h.what.expiry) (held_from k (map (if_live now) l))
unfolding held_from if_live is_live
live_from now k [] = nothing
live_from now k (none ∷ l) = live_from now (suc k) l
live_from now k (some r ∷ l) =
    let rest = live_from now (suc k) l in
    pick_ind (λ (x : Option Request). All (λ h. now < h.what.expiry) (held_from k (x ∷ map (if_live now) l))) (ltb now r.expiry)
    (some r) none
    (λ e. both {a = record { face = k; what = r }} (ltb-true now r.expiry e) rest)
    (λ _. rest)

-- each request that stands after ageing lives
pub aged_live : (now : ℕ) (n : Node) → All (λ e. All (λ h. now < h.what.expiry) (held e.requests)) (aged now n).pending
unfolding aged aged_pending staying aged_entry with_requests held
aged_live now n = all_only _ (all_map (aged_entry now) (all_any (λ e. live_from now 1 e.requests) n.pending))
