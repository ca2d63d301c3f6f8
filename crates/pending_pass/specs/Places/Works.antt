-- What each kind of pass does to a chosen entry.
-- Assumes nothing.
use Rattle.std.specs.Prelude.{ℕ, false, not, List}
use Rattle.records.specs.Entry.{is_idle, aged_entry}
use Rattle.records.specs.Happening.{Fate}
use Rattle.records.specs.Ageing.{buried_by, expiries, leaving}
use Rattle.pending_pass.specs.Satisfies.{ends_by}
use Rattle.records.specs.Closing.{without_face, closing_lines_by, closing_ends}
use Rattle.pending_pass.specs.Places.Pass.{Work}

-- ageing: the requests that are over end, an entry without requests leaves
unfoldable pub ageing_work : (List ℕ → ℕ → ℕ) → ℕ → Work
ageing_work print now = record {
  change = aged_entry now;
  stays = λ e. not (is_idle (aged_entry now e));
  buries = λ e. leaving print now (aged_entry now e);
  ends = expiries now;
}

-- Data: all requests end, the entry leaves
unfoldable pub satisfying_work : (List ℕ → ℕ → ℕ) → ℕ → (ℕ → Fate) → Work
satisfying_work print now fate = record { change = λ e. e; stays = λ e. false; buries = buried_by print now; ends = ends_by fate now }

-- closing a face: its out-record and its request go, an entry without requests leaves
unfoldable pub closing_work : (List ℕ → ℕ → ℕ) → ℕ → ℕ → Work
closing_work print now f = record {
  change = without_face f;
  stays = λ e. not (is_idle (without_face f e));
  buries = closing_lines_by print now f;
  ends = closing_ends now f;
}
