-- Every row of the table of cases by hand holds. The checker computes each answer from the definitions that the contracts cite, so it unfolds them all.
-- Assumes nothing.
use mathlib.Core.Path.{◌≡◌, refl}
use mathlib.Core.Bool.{true}
use mathlib.Core.List.{List, [], ◌∷◌, ◌++◌}
use lib.Ieee.{of_bits, of_int, add, mul}
use Rattle.ground.specs.Below.{all_below, any_below, listed}
use Rattle.ground.proofs.Flags.{and_left, and_right}
use Rattle.calendar.specs.Calendar.{leap_year, days_in, days_of, first_day, midnight, last_begun, calendar_month, month_of}
use Rattle.spelling.specs.Spelling.{same_b, glyph, digits, digit_of, spelled}
use Rattle.message.specs.Message.{cubic_metres, line, body, xor_of, check, message}
use Rattle.reader.specs.Reader.{decimal_in, litres_on, values_on, of_form, answer_by, parsed}
use Rattle.units.specs.Units.{litres_shown, base_shown, plus_litres, plus_base, pulse_litres, converted_of, amounts_of}
use Rattle.settings.specs.Settings.{locks, lock_row_of, rows, row_of, is_finite, within_b, fits_range, fits_row, fits_b, factory_of, factory_settings, opens_b, right_b, fits_at, settings_fit_b, in_order, pairs, pair_of, pair_in_order, ordered_at, ordered_b}
use Rattle.factor.specs.Factor.{nearest_fraction, factor_of}
use Rattle.temperature.specs.Equation.{equation_of}
use Rattle.temperature.specs.Nearest.{nearest_of}
use Rattle.readings.specs.Taken.{taken_within}
use Rattle.readings.specs.Pressure.{pressure_read, pressure_taken}
use Rattle.readings.specs.Compressibility.{k_read, k_taken}
use Rattle.readings.specs.Temperature.{measured_taken, temperature_read, temperature_taken}
use Rattle.readings.specs.Kelvin.{kelvin_of}
use Rattle.outputs.specs.Outputs.{choices, followed, litre_on, litre_in, weight_in, gain_by, rest_of, credited_by, gained_by, ticked_by, same_rule, committed_by, account_b, output_b, account_shown, output_shown}
use Rattle.outputs.specs.Four.{rule_at, all_gained, none_gained, all_ticked, all_committed, outputs_b, fresh_outputs, all_shown}
use Rattle.ring.specs.Ring.{ring_after, book_after, on_from, slot_after, line_number, advanced_ring, advanced_book, ring_b, number_b, book_b}
use Rattle.ring.specs.Store.{stored, written, held_lines}
use Rattle.notes.specs.Notes.{noted, numbered, logged}
use Rattle.state.specs.State.{no_session, no_alarm, nothing_counted, shut_locks, fresh_core, fresh, counters_b, totals_b, latched_b, stores_b, measured_b, cell_b, cells_b, session_b, core_b, whole_b, with_core}
use Rattle.cycle.specs.Cycle.{months_from, months_crossed, archive_line, month_lines, coefficients_in, temperature_for, pressure_for, k_for, alarms_for, factor_for, amounts_for, is_too_large, any_alarm, counted, latches_after, change_notes, loss_notes, changes, outputs_gained, gained_for, cycle_refusal, cycled_core, cycled, cycle_of}
use Rattle.asked.specs.Asked.{line_refusal, line_given, has_code, with_code, newest_of, newest_in, last_refusal, last_given}
use Rattle.panel.specs.Panel.{lock_in, with_lock, right_code, turn_codes, turned_core, turned, open_refusal, open_of, shut_refusal, shut_of, clear_refusal, cleared_latches, cleared, clear_by, tick_refusal, ticked, tick_by, reported, report_refusal, report_by, outputs_of, values_of, readout_refusal, readout_by, readout_leaves}
use Rattle.doors.specs.Doors.{session_at, other_at, placed, with_session, cell_at, with_cell, begun, begin_refusal, begin_by, abandon_refusal, abandon_by, read_refusal, value_read, marked_read, read_after, read_by, write_refusal, staged_cell, write_after, write_by, missing_at, lock_missing, overtaken_at, stale_b, stands_at, as_stand, commit_refusal, changes_among, audited, commit_lines, marked_by, overtaken_by, overtaken_session, committed_core, committed, refused_commit, commit_of}
use Rattle.cases.specs.Cases.{same_whole, same_measured, same_numbers, same_flag, same_alarms, six_of, same_counters, blank, archive_held, months_held, five_of_each, codes_held, three_of_each, outputs_shown, all_emitted, six_litres, all_read, with_logbook, line_said, last_said, last_by, all_last, device_logged, read_to, ran_to, holds, all_hold, started_at, factory_device, with_measured, device_at, device_in, ruled, all_ruled, device_with, device_of, its_message, Row, rows_to_two, rows_of_three, rows_to_six, rows_of_seven, table}

-- one part after another
both_hold : (xs ys : List Row) → all_hold xs ≡ true → all_hold ys ≡ true → all_hold (xs ++ ys) ≡ true
unfolding all_hold
both_hold [] ys e f = f
both_hold (r ∷ xs) ys e f = rw (and_left (holds r.asked) (all_hold xs) e) (both_hold xs ys (and_right (holds r.asked) (all_hold xs) e) f)

-- Part by part: the checker has 50,000,000 steps for one declaration.
to_two : all_hold rows_to_two ≡ true
unfolding of_bits of_int add mul all_below any_below leap_year days_in days_of first_day midnight last_begun calendar_month month_of same_b glyph digits digit_of spelled cubic_metres line body xor_of check message decimal_in litres_on values_on of_form answer_by parsed litres_shown base_shown plus_litres plus_base pulse_litres converted_of amounts_of locks lock_row_of rows row_of is_finite within_b fits_range fits_row fits_b factory_of factory_settings opens_b right_b fits_at settings_fit_b in_order pairs pair_of pair_in_order ordered_at ordered_b nearest_fraction factor_of equation_of nearest_of taken_within pressure_read pressure_taken k_read k_taken measured_taken temperature_read temperature_taken kelvin_of choices followed litre_on litre_in weight_in gain_by rest_of credited_by gained_by ticked_by same_rule committed_by account_b output_b account_shown output_shown rule_at all_gained none_gained all_ticked all_committed outputs_b fresh_outputs all_shown ring_after book_after on_from slot_after line_number advanced_ring advanced_book ring_b number_b book_b listed stored written held_lines noted numbered logged no_session no_alarm nothing_counted shut_locks fresh_core fresh counters_b totals_b latched_b stores_b measured_b cell_b cells_b session_b core_b whole_b with_core months_from months_crossed archive_line month_lines coefficients_in temperature_for pressure_for k_for alarms_for factor_for amounts_for is_too_large any_alarm counted latches_after change_notes loss_notes changes outputs_gained gained_for cycle_refusal cycled_core cycled cycle_of lock_in with_lock right_code turn_codes turned_core turned open_refusal open_of shut_refusal shut_of clear_refusal cleared_latches cleared clear_by tick_refusal ticked tick_by reported report_refusal report_by outputs_of values_of readout_refusal readout_by readout_leaves line_refusal line_given has_code with_code newest_of newest_in last_refusal last_given session_at other_at placed with_session cell_at with_cell begun begin_refusal begin_by abandon_refusal abandon_by read_refusal value_read marked_read read_after read_by write_refusal staged_cell write_after write_by missing_at lock_missing overtaken_at stale_b stands_at as_stand commit_refusal changes_among audited commit_lines marked_by overtaken_by overtaken_session committed_core committed refused_commit commit_of same_whole same_measured same_numbers same_flag same_alarms six_of same_counters blank archive_held months_held five_of_each codes_held three_of_each outputs_shown all_emitted six_litres all_read with_logbook line_said last_said last_by all_last device_logged read_to ran_to holds all_hold started_at factory_device with_measured device_at device_in ruled all_ruled device_with device_of its_message rows_to_two
to_two = refl

of_three : all_hold rows_of_three ≡ true
unfolding of_bits of_int add mul all_below any_below leap_year days_in days_of first_day midnight last_begun calendar_month month_of same_b glyph digits digit_of spelled cubic_metres line body xor_of check message decimal_in litres_on values_on of_form answer_by parsed litres_shown base_shown plus_litres plus_base pulse_litres converted_of amounts_of locks lock_row_of rows row_of is_finite within_b fits_range fits_row fits_b factory_of factory_settings opens_b right_b fits_at settings_fit_b in_order pairs pair_of pair_in_order ordered_at ordered_b nearest_fraction factor_of equation_of nearest_of taken_within pressure_read pressure_taken k_read k_taken measured_taken temperature_read temperature_taken kelvin_of choices followed litre_on litre_in weight_in gain_by rest_of credited_by gained_by ticked_by same_rule committed_by account_b output_b account_shown output_shown rule_at all_gained none_gained all_ticked all_committed outputs_b fresh_outputs all_shown ring_after book_after on_from slot_after line_number advanced_ring advanced_book ring_b number_b book_b listed stored written held_lines noted numbered logged no_session no_alarm nothing_counted shut_locks fresh_core fresh counters_b totals_b latched_b stores_b measured_b cell_b cells_b session_b core_b whole_b with_core months_from months_crossed archive_line month_lines coefficients_in temperature_for pressure_for k_for alarms_for factor_for amounts_for is_too_large any_alarm counted latches_after change_notes loss_notes changes outputs_gained gained_for cycle_refusal cycled_core cycled cycle_of lock_in with_lock right_code turn_codes turned_core turned open_refusal open_of shut_refusal shut_of clear_refusal cleared_latches cleared clear_by tick_refusal ticked tick_by reported report_refusal report_by outputs_of values_of readout_refusal readout_by readout_leaves line_refusal line_given has_code with_code newest_of newest_in last_refusal last_given session_at other_at placed with_session cell_at with_cell begun begin_refusal begin_by abandon_refusal abandon_by read_refusal value_read marked_read read_after read_by write_refusal staged_cell write_after write_by missing_at lock_missing overtaken_at stale_b stands_at as_stand commit_refusal changes_among audited commit_lines marked_by overtaken_by overtaken_session committed_core committed refused_commit commit_of same_whole same_measured same_numbers same_flag same_alarms six_of same_counters blank archive_held months_held five_of_each codes_held three_of_each outputs_shown all_emitted six_litres all_read with_logbook line_said last_said last_by all_last device_logged read_to ran_to holds all_hold started_at factory_device with_measured device_at device_in ruled all_ruled device_with device_of its_message rows_of_three
of_three = refl

to_six : all_hold rows_to_six ≡ true
unfolding of_bits of_int add mul all_below any_below leap_year days_in days_of first_day midnight last_begun calendar_month month_of same_b glyph digits digit_of spelled cubic_metres line body xor_of check message decimal_in litres_on values_on of_form answer_by parsed litres_shown base_shown plus_litres plus_base pulse_litres converted_of amounts_of locks lock_row_of rows row_of is_finite within_b fits_range fits_row fits_b factory_of factory_settings opens_b right_b fits_at settings_fit_b in_order pairs pair_of pair_in_order ordered_at ordered_b nearest_fraction factor_of equation_of nearest_of taken_within pressure_read pressure_taken k_read k_taken measured_taken temperature_read temperature_taken kelvin_of choices followed litre_on litre_in weight_in gain_by rest_of credited_by gained_by ticked_by same_rule committed_by account_b output_b account_shown output_shown rule_at all_gained none_gained all_ticked all_committed outputs_b fresh_outputs all_shown ring_after book_after on_from slot_after line_number advanced_ring advanced_book ring_b number_b book_b listed stored written held_lines noted numbered logged no_session no_alarm nothing_counted shut_locks fresh_core fresh counters_b totals_b latched_b stores_b measured_b cell_b cells_b session_b core_b whole_b with_core months_from months_crossed archive_line month_lines coefficients_in temperature_for pressure_for k_for alarms_for factor_for amounts_for is_too_large any_alarm counted latches_after change_notes loss_notes changes outputs_gained gained_for cycle_refusal cycled_core cycled cycle_of lock_in with_lock right_code turn_codes turned_core turned open_refusal open_of shut_refusal shut_of clear_refusal cleared_latches cleared clear_by tick_refusal ticked tick_by reported report_refusal report_by outputs_of values_of readout_refusal readout_by readout_leaves line_refusal line_given has_code with_code newest_of newest_in last_refusal last_given session_at other_at placed with_session cell_at with_cell begun begin_refusal begin_by abandon_refusal abandon_by read_refusal value_read marked_read read_after read_by write_refusal staged_cell write_after write_by missing_at lock_missing overtaken_at stale_b stands_at as_stand commit_refusal changes_among audited commit_lines marked_by overtaken_by overtaken_session committed_core committed refused_commit commit_of same_whole same_measured same_numbers same_flag same_alarms six_of same_counters blank archive_held months_held five_of_each codes_held three_of_each outputs_shown all_emitted six_litres all_read with_logbook line_said last_said last_by all_last device_logged read_to ran_to holds all_hold started_at factory_device with_measured device_at device_in ruled all_ruled device_with device_of its_message rows_to_six
to_six = refl

of_seven : all_hold rows_of_seven ≡ true
unfolding of_bits of_int add mul all_below any_below leap_year days_in days_of first_day midnight last_begun calendar_month month_of same_b glyph digits digit_of spelled cubic_metres line body xor_of check message decimal_in litres_on values_on of_form answer_by parsed litres_shown base_shown plus_litres plus_base pulse_litres converted_of amounts_of locks lock_row_of rows row_of is_finite within_b fits_range fits_row fits_b factory_of factory_settings opens_b right_b fits_at settings_fit_b in_order pairs pair_of pair_in_order ordered_at ordered_b nearest_fraction factor_of equation_of nearest_of taken_within pressure_read pressure_taken k_read k_taken measured_taken temperature_read temperature_taken kelvin_of choices followed litre_on litre_in weight_in gain_by rest_of credited_by gained_by ticked_by same_rule committed_by account_b output_b account_shown output_shown rule_at all_gained none_gained all_ticked all_committed outputs_b fresh_outputs all_shown ring_after book_after on_from slot_after line_number advanced_ring advanced_book ring_b number_b book_b listed stored written held_lines noted numbered logged no_session no_alarm nothing_counted shut_locks fresh_core fresh counters_b totals_b latched_b stores_b measured_b cell_b cells_b session_b core_b whole_b with_core months_from months_crossed archive_line month_lines coefficients_in temperature_for pressure_for k_for alarms_for factor_for amounts_for is_too_large any_alarm counted latches_after change_notes loss_notes changes outputs_gained gained_for cycle_refusal cycled_core cycled cycle_of lock_in with_lock right_code turn_codes turned_core turned open_refusal open_of shut_refusal shut_of clear_refusal cleared_latches cleared clear_by tick_refusal ticked tick_by reported report_refusal report_by outputs_of values_of readout_refusal readout_by readout_leaves line_refusal line_given has_code with_code newest_of newest_in last_refusal last_given session_at other_at placed with_session cell_at with_cell begun begin_refusal begin_by abandon_refusal abandon_by read_refusal value_read marked_read read_after read_by write_refusal staged_cell write_after write_by missing_at lock_missing overtaken_at stale_b stands_at as_stand commit_refusal changes_among audited commit_lines marked_by overtaken_by overtaken_session committed_core committed refused_commit commit_of same_whole same_measured same_numbers same_flag same_alarms six_of same_counters blank archive_held months_held five_of_each codes_held three_of_each outputs_shown all_emitted six_litres all_read with_logbook line_said last_said last_by all_last device_logged read_to ran_to holds all_hold started_at factory_device with_measured device_at device_in ruled all_ruled device_with device_of its_message rows_of_seven
of_seven = refl

pub every_row_holds : all_hold table ≡ true
unfolding table
every_row_holds =
    both_hold rows_to_two (rows_of_three ++ (rows_to_six ++ rows_of_seven)) to_two
    (both_hold rows_of_three (rows_to_six ++ rows_of_seven) of_three (both_hold rows_to_six rows_of_seven to_six of_seven))
