-- The routes that are lent in parts, at entry and at exit.
-- Assumes nothing.
use Rattle.std.specs.Prelude.{ℕ, List, ⊤}
use Rattle.std.specs.Borrow.{Bor, MutBor}
use denote.Triple.Both.{Both}
use Rattle.rows.specs.Lent.{Lent}
use Rattle.routes.specs.declared.Row.{Row}
use Rattle.routes.specs.declared.Count.{Count}
use Rattle.routes.specs.declared.Routes.{Routes}
use Rattle.routes.specs.Places.Parts.{table}
use Rattle.routes.specs.declared.Setting.{Setting}
use Rattle.routes.specs.declared.Hopping.{Hopping}
use Rattle.routes.specs.declared.Dropping.{Dropping}

-- what is left at exit of a value that lends: prefixes, rows and costs, and what comes after them
abbrev pub Left : Type 0 → Type 0 → Type 0 → Type 0
Left P C X = P × (MutBor (List Row) × (C × X))

-- what is left of routes that were lent for one to be set
abbrev pub SettingLeft : Type 0
SettingLeft = Left (MutBor (List (List ℕ))) (Bor (List (List ℕ))) (MutBor Count × ⊤)

-- they, as they are now
abbrev pub setting_now : Setting → Routes
setting_now e = table e.prefixes.now e.rows.now e.costs.now e.count.now

-- at entry
abbrev pub setting_in : Both Setting SettingLeft → Routes
setting_in t = setting_now t.entry

-- and at exit
abbrev pub setting_out : Both Setting SettingLeft → Routes
setting_out t = let x = t.exit in table x.0.now x.1.0.now t.entry.costs.now x.1.1.1.0.now

-- at both
abbrev pub setting_lent : Both Setting SettingLeft → Lent Routes
setting_lent t = record { entry = setting_in t; exit = setting_out t }

-- what is left of routes that were lent for a hop to be added
abbrev pub HoppingLeft : Type 0
HoppingLeft = Left (Bor (List (List ℕ))) (MutBor (List (List ℕ))) ((ℕ × ⊤) × ⊤)

-- they, as they are now
abbrev pub hopping_now : Hopping → Routes
hopping_now e = table e.prefixes.now e.rows.now e.costs.now e.count

-- at entry
abbrev pub hopping_in : Both Hopping HoppingLeft → Routes
hopping_in t = hopping_now t.entry

-- and at exit
abbrev pub hopping_out : Both Hopping HoppingLeft → Routes
hopping_out t = let e = t.entry in table e.prefixes.now t.exit.1.0.now t.exit.1.1.0.now e.count

-- at both
abbrev pub hopping_lent : Both Hopping HoppingLeft → Lent Routes
hopping_lent t = record { entry = hopping_in t; exit = hopping_out t }

-- what is left of routes that were lent for hops to be dropped
abbrev pub DroppingLeft : Type 0
DroppingLeft = Left (Bor (List (List ℕ))) (Bor (List (List ℕ))) ((ℕ × ⊤) × ⊤)

-- they, as they are now
abbrev pub dropping_now : Dropping → Routes
dropping_now e = table e.prefixes.now e.rows.now e.costs.now e.count

-- at entry
abbrev pub dropping_in : Both Dropping DroppingLeft → Routes
dropping_in t = dropping_now t.entry

-- and at exit
abbrev pub dropping_out : Both Dropping DroppingLeft → Routes
dropping_out t = let e = t.entry in table e.prefixes.now t.exit.1.0.now e.costs.now e.count

-- at both
abbrev pub dropping_lent : Both Dropping DroppingLeft → Lent Routes
dropping_lent t = record { entry = dropping_in t; exit = dropping_out t }
