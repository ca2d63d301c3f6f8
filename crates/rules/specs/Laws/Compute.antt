-- The rules, opened for computation: the answer, the sends and the happenings of each event of a run.
-- Assumes nothing.
use Rattle.std.specs.Prelude.{ℕ, List, [], ◌∷◌}
use Rattle.laws.specs.Pick.{pick}
use Rattle.laws.specs.Lists.{index_of, on_at, without}
use Rattle.wire.specs.Number.{number}
use Rattle.wire.specs.Element.{element}
use Rattle.names.specs.Name.{components, counted, same_bytes, prefix_of, under_localhost, under_localhop}
use Rattle.names.specs.Order.{canonical_order}
use Rattle.names.specs.Fingerprint.{fingerprint}
use Rattle.packets.specs.Meaning.{heard}
use Rattle.writing.specs.Written.{nack_bytes}
use Rattle.records.specs.Class.{class_of, class_number, is_class, reserve, is_of, lower}
use Rattle.records.specs.Entry.{is_known, with_requests, with_sent, asking, not_asking, ending, sending, not_sent, earliest_of, is_idle, is_live, if_live, aged_entry, has_nonce, own_nonce, newest_of, is_suppressed, matches, reason_of, was_nacked, lesser_reason, smallest_reason, used_by, taken_by, room_taken, mark_nacked, with_nack, all_nacked, sent_nonce}
use Rattle.records.specs.Face.{is_point_to_point, is_ad_hoc, is_face, is_open, is_local_face, is_peer, is_ad_hoc_face}
use Rattle.records.specs.Line.{joined, joined_all, counts, is_dead}
use Rattle.records.specs.Route.{route_of, with_class, new_route, with_hop, longer, longest, hop_at, cheapest_of}
use Rattle.records.specs.Slots.{given, no_slots, slot, set_slot, emptied_from, emptied, is_some, holds, or_else, held_from, held, any_of, only, each, is_empty, at_place, less_by, least_by, least_face}
use Rattle.records.specs.Stored.{others, room_for, stored, serves, is_before, earlier, lookup_from, lookup, touched}
use Rattle.records.specs.Happening.{happens}
use Rattle.records.specs.Ageing.{buried_by, aged_lines_by, expiries, staying, becoming, leaving, aged_pending}
use Rattle.rules.specs.Ageing.{aged, ageing}
use Rattle.rules.specs.Command.{by_prefix, link_of, face_of, open_step, close_step, set_route_step, on_route, drop_route_step, add_hop_step, drop_hop_step}
use Rattle.records.specs.Closing.{own_line_by, closing_lines_by, closing_ends}
use Rattle.rules.specs.Data.{stored_as, is_self_met, fate_of, data_ends, copy_on, copies, satisfies, data_step}
use Rattle.records.specs.Entry.{class_on}
use Rattle.rules.specs.Interest.{spent, eligible, request_of, sent_of, entry_of, entry_loops, loops, forwards, new_entry, opens, opens_entry, no_room, may_open, routed, served, asks_anew, from_local_face, next_hop, resends, sends_on, renews, asks_again, asks_entry, hop_is_zero, out_of_scope, interest_step}
use Rattle.rules.specs.Nack.{peers_of, nack_of, settled, ends_by_nack, nacked_entry, sent_back, nack_step}
use Rattle.rules.specs.Node.{empty_node, face_in, opens_face, print_of, Node, Event}
use Rattle.rules.specs.Outcome.{quiet, route_class, name_class, nacks_to, nack_for, Outcome}
use Rattle.rules.specs.Step.{arrives, what_step, bad_face, after_ageing, bad_time, step, Book, run, history}

-- the outcomes of events, one after the other, by a rule book
unfoldable pub outcomes : Book → List Event → Node → List Outcome
outcomes b [] n = []
outcomes b (e ∷ es) n = b e n ∷ outcomes b es (b e n).node

-- the outcomes of a run, as they compute
unfoldable pub computed : ℕ → ℕ → List Event → Node → List Outcome
unfolding pick index_of on_at without number element components counted same_bytes prefix_of under_localhost under_localhop canonical_order
    fingerprint heard nack_bytes class_of class_number is_class lower is_known with_requests with_sent is_idle is_live if_live aged_entry has_nonce
    own_nonce newest_of is_suppressed matches reason_of was_nacked lesser_reason smallest_reason used_by reserve is_of taken_by room_taken
    is_point_to_point is_ad_hoc is_face is_open is_local_face is_peer is_ad_hoc_face joined joined_all counts is_dead route_of with_class new_route with_hop
    longer longest less_by least_by least_face cheapest_of earliest_of or_else emptied_from emptied asking not_asking ending sending not_sent
    no_slots slot set_slot is_some holds given held_from held any_of only each is_empty others room_for stored serves is_before earlier lookup_from
    lookup touched buried_by aged_lines_by staying leaving becoming expiries aged_pending aged ageing by_prefix link_of face_of open_step own_line_by
    closing_lines_by closing_ends close_step set_route_step on_route drop_route_step add_hop_step hop_at drop_hop_step stored_as is_self_met fate_of data_ends
    class_on copy_on copies satisfies data_step spent eligible request_of sent_of entry_of entry_loops at_place loops forwards new_entry opens
    opens_entry no_room may_open routed served asks_anew from_local_face next_hop resends sends_on renews asks_again asks_entry hop_is_zero out_of_scope
    interest_step mark_nacked with_nack all_nacked peers_of nack_of settled ends_by_nack nacked_entry sent_nonce sent_back nack_step empty_node face_in
    opens_face print_of happens quiet route_class name_class nacks_to nack_for arrives what_step bad_face after_ageing bad_time step run outcomes history
computed faces least es n = outcomes (step faces least) es n
