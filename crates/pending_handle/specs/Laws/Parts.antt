-- The laws on a handle's row in a table that is lent in parts, which the check uses.
-- Assumes nothing.
use Rattle.pending_table.specs.Laws.Parts.{part_entry, part_changed, part_head, part_records, part_no_entry, part_none_changed}

pub ruleset parts = (part_entry, part_changed, part_head, part_records, part_no_entry, part_none_changed)
