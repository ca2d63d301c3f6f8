-- What a Data comes to past the checks of size and scope: it matches no entry, or it is stored and ends requests.
-- Assumes nothing.
use Rattle.std.specs.Prelude.{ℕ, ◌≤◌, ◌≡◌, Bool, false, length}
use Rattle.std.proofs.Common.{ap, ◌∙◌, arith, le-leb}
use mathlib.Core.List.{List, [], map}
use Rattle.answers.specs.declared.Answer.{Answer}
use Rattle.laws.specs.Laws.Pick.{pick_yes, pick_no}
use Rattle.sizes.specs.Sizes.{most_faces, most_packet, most_stored}
use Rattle.names.specs.Fingerprint.{fnv_start, fingerprint}
use Rattle.packethead.specs.Name.{name_of}
use Rattle.packets.specs.Meaning.{Offer}
use Rattle.records.specs.Slots.{only, each, is_empty}
use Rattle.records.specs.Entry.{Entry, matches}
use Rattle.records.specs.Face.{is_ad_hoc_face}
use Rattle.records.specs.Line.{Line, joined_all}
use Rattle.records.specs.Rows.{row_of}
use Rattle.records.specs.Stored.{Stored, stored}
use Rattle.faces.specs.Set.{has_face}
use Rattle.pending_table.specs.Places.View as pending
use Rattle.pending_table.specs.declared.Pending.{Pending}
use Rattle.pending_pass.specs.Lowest.{class_word, class_words, is_asked, meets_own, is_owed}
use Rattle.pending_pass.specs.Satisfies.{data_fate, ends_by, Satisfies}
use Rattle.store.specs.Places.View as store
use Rattle.store.specs.Operations.{fits_row, kept, Puts}
use Rattle.happenings.specs.Noted.{most_rows, Notes}
use Rattle.rules.specs.Node.{Node, print_of}
use Rattle.rules.specs.Outcome.{quiet}
use Rattle.rules.specs.Data.{stored_as, is_self_met, fate_of, data_ends, satisfies}
use Rattle.sending.specs.Rows.{Packs, copies_from}
use Rattle.sending.specs.Laws.One.{packs_none}
use Rattle.sending.specs.Laws.Owed.{AllSaid, said_only, copies_are}
use Rattle.event.specs.declared.Came.{Came}
use Rattle.event.specs.Memory.{Table}
use Rattle.coming.specs.Goes.{Goes}
use Rattle.on_data.specs.Places.Brings.{brings}
use Rattle.on_data.specs.Laws.Only.{none_in, some_in, only_both, only_all}
use Rattle.coming.specs.Laws.Goes.{goes_by, goes_packed}

-- the classes of pending entries are said by their numbers, whatever the tables hold
pub pending_said : (p : Pending) → AllSaid (pending.view p)
pending_said p = pending.view_classes p

-- a Data that fits a row is stored as the rules say
pub puts_stored : (r : Bool) (ds ds' : List Stored) (bytes : List ℕ) (time fresh freshness : ℕ) → length bytes ≤ most_packet
    → fresh ≡ freshness → Puts r ds' (store.data_of bytes time fresh) ds
    → ds' ≡ stored most_stored (stored_as time (record { name = name_of bytes; freshness = freshness }) bytes) ds
unfolding kept fits_row store.data_of stored_as
puts_stored r ds ds' bytes time fresh freshness few e p =
    p.left ∙ pick_yes _ _ _ (le-leb (length bytes) most_packet few)
    ∙ ap (λ (x : ℕ). stored most_stored (record { name = name_of bytes; bytes = bytes; time = time; freshness = x }) ds) e

module _ (n : Node) (f : ℕ) (d : Offer) (bytes : List ℕ) (adhoc : Bool) (k : ℕ) (es : List Entry) (ls : List Line) (rs rs' : Table)
    (made : ℕ) (words : List ℕ) (copies : ℕ)
    (a : Satisfies (fingerprint fnv_start) n.time f adhoc d.name n.pending n.dead rs k es ls rs' made words copies) where
  -- the entries that the Data matches
  abbrev met : List Entry
  met = only (matches d.name) n.pending

  -- where as many entries stand as before, none is matched
  none_met : length es ≡ length n.pending → met ≡ []
  none_met e =
      none_in met (omega (arith, e, ap length a.entries, only_both (matches d.name) n.pending))

  -- else some are
  some_met : (length es ≡ length n.pending → ⊥) → is_empty met ≡ false
  some_met h =
      some_in met (λ z. h (omega (arith, z, ap length a.entries, only_both (matches d.name) n.pending)))

  -- a Data that matches no entry: everything is as it was
  pub goes_unsolicited : (r : Came) (ss : Table) (b : List ℕ) → length es ≡ length n.pending → r.answer ≡ Answer.Unsolicited
      → r.sent ≡ 0 → r.made ≡ made
      → Goes k (brings f d bytes n) r
      (record { time = n.time; faces = n.faces; routes = n.routes; pending = es; store = n.store; dead = ls })
      (record { sends = ss; buffer = b; rows = rs }) (record { sends = ss; buffer = b; rows = rs' })
  unfolding brings quiet is_empty each joined_all
  goes_unsolicited r ss b e ea es' em =
      let z = none_met e in
      let is : brings f d bytes n ≡ quiet Answer.Unsolicited n = pick_yes _ _ _ (ap is_empty z) in
      let ep : es ≡ n.pending = a.entries ∙ only_all (matches d.name) n.pending z in
      let ed : ls ≡ n.dead = a.lines ∙ rw z in
      let en : Notes most_rows made rs' rs k [] = rw z at a.rows in
      goes_by _ _ _ _ _ _ _ is
      (goes_packed k (quiet Answer.Unsolicited n) r _ ss ss b b rs rs' ea (rw (ep, ed)) (rw es' (packs_none ss b)) (rw em en))

  -- a Data that is stored and ends the requests of the entries that it matches
  pub goes_satisfies : (r : Came) (ss ss' : Table) (b b' : List ℕ) (ds : List Stored) → (length es ≡ length n.pending → ⊥)
      → adhoc ≡ is_ad_hoc_face n.faces f → length n.faces ≡ most_faces → AllSaid n.pending
      → ds ≡ stored most_stored (stored_as n.time d bytes) n.store
      → Packs (copies_from (has_face most_faces copies) words bytes 1 most_faces) r.sent ss ss' b b'
      → r.answer ≡ Answer.Done → r.made ≡ made
      → Goes k (brings f d bytes n) r
      (record { time = n.time; faces = n.faces; routes = n.routes; pending = es; store = ds; dead = ls })
      (record { sends = ss; buffer = b; rows = rs }) (record { sends = ss'; buffer = b'; rows = rs' })
  unfolding brings satisfies print_of class_words class_word is_asked meets_own is_owed data_fate ends_by fate_of is_self_met data_ends
  goes_satisfies r ss ss' b b' ds h eh shape said ed p ea em =
      let is : brings f d bytes n ≡ satisfies n.time n f d bytes = pick_no _ _ _ (some_met h) in
      let en : Notes most_rows made rs' rs k (map row_of (each (data_ends n.time n f) met)) = rw eh at a.rows in
      let ec = copies_are n f bytes words met (said_only (matches d.name) n.pending said) copies shape a.classes
      (rw eh at a.copies) in
      goes_by _ _ _ _ _ _ _ is
      (goes_packed k (satisfies n.time n f d bytes) r _ ss ss' b b' rs rs' ea (rw (a.entries, a.lines, ed)) (rw ec p) (rw em en))
