-- The wrong rule books, all in one list: none meets demand 3 (`none_passes`). Ours does (`ours_passes`).
-- Assumes nothing.
use Rattle.std.specs.Prelude.{List, [], ◌∷◌}
use Rattle.sizes.specs.Sizes.{most_faces, least_buffer}
use Rattle.rules.specs.Packed.{packed}
use Rattle.rules.specs.Step.{Book, paper_step}
use Rattle.history.specs.Lists.{All, nothing, both}
use Rattle.demand3.specs.Demand3.{Demand3}
use Rattle.demand3.specs.Laws.Meets.{paper_meets}
use Rattle.demand3.specs.Laws.Books.{throws_out, keeps_expiry, renews_forever, drops_monitoring, keeps_expired, opens_unsent, lowers_monitoring, lowers_all, guesses_class, keeps_word, refuses_alarm, room_by_places, refuses_bulk, opens_nothing, closes_nothing, leaves_hops, keeps_idle, leaks_localhost, sends_back, ignores_nack, ends_early, nacks_early, nacks_any_link, nacks_other, loop_ends, answers_lowest, forgets_prefix, meets_ad_hoc, sends_twice, stores_other, stores_nothing, serves_elsewhere, notes_renewal, hides_expiries, records_unsent, forgets_sent, stops_clock, ages_refused}
use Rattle.demand3.specs.Laws.RequestsRefused.{throws_out_refused, keeps_expiry_refused, renews_forever_refused, drops_monitoring_refused, keeps_expired_refused, opens_unsent_refused}
use Rattle.demand3.specs.Laws.ClassesRefused.{lowers_monitoring_refused, lowers_all_refused, guesses_class_refused, keeps_word_refused, refuses_alarm_refused, room_by_places_refused, refuses_bulk_refused}
use Rattle.demand3.specs.Laws.FacesRefused.{opens_nothing_refused, closes_nothing_refused, leaves_hops_refused, keeps_idle_refused, leaks_localhost_refused, sends_back_refused}
use Rattle.demand3.specs.Laws.NacksRefused.{ignores_nack_refused, ends_early_refused, nacks_early_refused, nacks_any_link_refused, nacks_other_refused, loop_ends_refused}
use Rattle.demand3.specs.Laws.DataRefused.{answers_lowest_refused, forgets_prefix_refused, meets_ad_hoc_refused, sends_twice_refused, stores_other_refused, stores_nothing_refused, serves_elsewhere_refused}
use Rattle.demand3.specs.Laws.NotesRefused.{notes_renewal_refused, hides_expiries_refused, records_unsent_refused, forgets_sent_refused, stops_clock_refused, ages_refused_refused}

-- the wrong rule books
abbrev pub books : List Book
books =
    throws_out 30 ∷ keeps_expiry ∷ renews_forever ∷ drops_monitoring ∷ keeps_expired ∷ opens_unsent ∷ lowers_monitoring ∷ lowers_all
    ∷ guesses_class ∷ keeps_word ∷ refuses_alarm ∷ room_by_places ∷ refuses_bulk ∷ opens_nothing ∷ closes_nothing ∷ leaves_hops ∷ keeps_idle
    ∷ leaks_localhost ∷ sends_back ∷ ignores_nack ∷ ends_early ∷ nacks_early ∷ nacks_any_link ∷ nacks_other ∷ loop_ends ∷ answers_lowest
    ∷ forgets_prefix ∷ meets_ad_hoc ∷ sends_twice ∷ stores_other ∷ stores_nothing ∷ serves_elsewhere ∷ notes_renewal ∷ hides_expiries ∷ records_unsent
    ∷ forgets_sent ∷ stops_clock ∷ ages_refused ∷ []

-- none meets demand 3
pub none_passes : All (λ (b : Book). Demand3 most_faces least_buffer b packed → ⊥) books
none_passes =
    both throws_out_refused (both keeps_expiry_refused (both renews_forever_refused (both drops_monitoring_refused (
    both keeps_expired_refused (both opens_unsent_refused (both lowers_monitoring_refused (both lowers_all_refused (
    both guesses_class_refused (both keeps_word_refused (both refuses_alarm_refused (both room_by_places_refused (both refuses_bulk_refused (
    both opens_nothing_refused (both closes_nothing_refused (both leaves_hops_refused (both keeps_idle_refused (
    both leaks_localhost_refused (both sends_back_refused (both ignores_nack_refused (both ends_early_refused (
    both nacks_early_refused (both nacks_any_link_refused (both nacks_other_refused (
    both loop_ends_refused (both answers_lowest_refused (both forgets_prefix_refused (both meets_ad_hoc_refused (both sends_twice_refused (
    both stores_other_refused (both stores_nothing_refused (both serves_elsewhere_refused (both notes_renewal_refused (
    both hides_expiries_refused (both records_unsent_refused (both forgets_sent_refused (both stops_clock_refused (
    both ages_refused_refused nothing)))))))))))))))))))))))))))))))))))))

-- ours does
pub ours_passes : Demand3 most_faces least_buffer paper_step packed
ours_passes = paper_meets
