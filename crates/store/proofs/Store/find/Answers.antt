-- The place of the first packet and row with the name is that of the first Data.
use Rattle.std.proofs.Common.{rules, ◌≡◌, length}
use Rattle.std.proofs.lemmas.Iterator.{YieldsList-from_slice, YieldsList-from_zip}
use Rattle.std.proofs.lemmas.Iterator.Search.{position_from_yields_List}
use Rattle.std.specs.List.{zip}
use borrow.Author.Tests.{tests}
use Rattle.sizes.specs.Sizes.{most_stored}
use Rattle.names.specs.Name.{same_bytes}
use Rattle.store.specs.Places.View.{stored_both, view_position}
use Rattle.store.specs.Places.Put.{is_named}
use Rattle.store.proofs.Store.find.Goals as goal

pub returns : goal.returns
returns c =
    let s = c.args.self.now in
    let l : length s.packets ≡ most_stored = search rules in
    let n : length s.rows ≡ most_stored = search rules in
    view_position (is_named c.args.name.now) s c.position.result (zip s.packets c.data.result.now) l n (search (rules, c.data.ensures))
    (position_from_yields_List (λ x. same_bytes c.args.name.now (stored_both x).name) c.position.new.self _ c.position.result
    c.position.ensures.ran
    (YieldsList-from_zip (YieldsList-from_slice s.packets (search rules)) (YieldsList-from_slice c.data.result.now (search rules)))
    (λ x b q k. search (rules, tests)))
