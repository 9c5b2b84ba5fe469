-- What the theorems of this crate compute.
use Rattle.std.proofs.Common.{◌≡◌, ℕ, zero, suc, Bool, ◌&&◌, List, [], ◌∷◌, reverse, take, Option, None, Some, is_none}
use Rattle.std.specs.Fmt.{digits}
use Rattle.conc_types.specs.declared.event.Event.{Event}
use Rattle.conc_types.specs.declared.event.Event.TheVariants as event
use Rattle.conc_types.specs.declared.plan.Plan.{Plan}
use Rattle.conc_types.specs.declared.script.Reading.{Reading}
use Rattle.conc_types.specs.Plans.{request}
use Rattle.conc_types.specs.Stages.{has_stage, with_stage}
use Rattle.conc_base_law.specs.Exclusion.{is_kin, same_domain, covers, runs_alone, entry_excludes, excludes_from, excludes}
use Rattle.conc_base_law.specs.Managers.{matches, admits, shift_covers, level, covering, strongest, places}
use Rattle.conc_base_law.specs.Places.{place_of, is_usable, count_of_places, all_places}
use Rattle.conc_base_law.specs.Plans.{parent, parent_item, program_at, program_of, set_at, is_enabled, has_restart, is_admitted, are_exclusive, precedes, is_member, members, stages_of}
use Rattle.conc_base_law.specs.Kinds.{act_of}
use Rattle.conc_base_law.specs.Before.{last_life, earlier_lives}
use Rattle.conc_base_law.specs.Facts.{is_entered, is_open, current_stage, stages_begun, running_place, runs, was_started, waits_for_stage, is_idle, cancels, completes, completion, was_completed, holds, unholds, terminates, is_held, unlets, is_let, was_terminated, facts_of}
use Rattle.conc_base_law.specs.State.{now, used, is_done, state, facts_at, is_waiting, has_come, is_not_earlier}
use Rattle.conc_base_law.specs.Stages.{worst, outcome_at, completed_at, has_ended, stage_outcome, next_stage, counts_for_set, critical_stages, set_outcome, set_step}
use Rattle.conc_base_law.specs.Status.{waiting_status, open_status, status_of}
use Rattle.conc_base_law.specs.Events.{event_eq}
use Rattle.conc_base_law.specs.Next.{is_left_running, forced_interrupt, is_due, forced_command, has_step, forced_step, blocks, is_free, can_run, is_ready, may_let, forced_let, forced, runs_at, is_vacant, may_start, is_next_extent, may_end, may_start_somewhere, runs_somewhere, is_at_rest, may_take, may_tick, is_allowed, may_come}
use Rattle.conc_base_law.specs.Readings.{life_readings, ticks, next_reading}
use Rattle.conc_base_law.specs.Law.{may_follow, is_lawful_so_far, is_lawful}
use Rattle.conc_base_law.specs.Numbers.{are_digits, whole_number, total}
use Rattle.conc_base_law.specs.Report.{cell, filter_value, passes_filter, passes, passing, keys, quoted, sum_of, line, header, rows_of, group_lines, full_text, outcome_by, first_bad, report}
use Rattle.conc_base_law.specs.Alone.{report_of, first_end, first_start, next_tick, choice, next_alone}
use Rattle.conc_base_law.specs.Moments.{days_before_year, is_leap, days_before_month, year_of, day_in_year, month_of, day_in_month, date_text, time_text, moment_text}
use Rattle.conc_base_law.specs.Text.{place_word, event_words, item_name, request_line, table_text, events_text, text_of}
use Rattle.conc_base_examples.proofs.Plans.{texts}

-- to unfold this is to unfold all definitions of the law
unfoldable pub the_law : Unit {0}
unfolding is_kin same_domain covers runs_alone entry_excludes excludes_from excludes matches admits shift_covers level covering strongest places place_of is_usable count_of_places all_places parent parent_item program_at program_of set_at is_enabled has_restart is_admitted are_exclusive precedes is_member members stages_of act_of last_life earlier_lives is_entered is_open current_stage stages_begun running_place runs was_started waits_for_stage is_idle cancels completes completion was_completed holds unholds terminates is_held unlets is_let was_terminated facts_of now used is_done state facts_at is_waiting has_come is_not_earlier worst outcome_at completed_at has_ended stage_outcome next_stage counts_for_set critical_stages set_outcome set_step waiting_status open_status status_of event_eq is_left_running forced_interrupt is_due forced_command has_step forced_step blocks is_free can_run is_ready may_let forced_let forced runs_at is_vacant may_start is_next_extent may_end may_start_somewhere runs_somewhere is_at_rest may_take may_tick is_allowed may_come life_readings ticks next_reading may_follow is_lawful_so_far is_lawful are_digits whole_number total cell filter_value passes_filter passes passing keys quoted sum_of line header rows_of group_lines full_text outcome_by first_bad report report_of first_end first_start next_tick choice next_alone days_before_year is_leap days_before_month year_of day_in_year month_of day_in_month date_text time_text moment_text place_word event_words item_name request_line table_text events_text text_of request has_stage with_stage digits texts
the_law = tt

-- ---- runs without workers

abbrev pub added : Option Event → List Event → List Event
added None past = past
added (Some e) past = e ∷ past

-- the events, latest first, after at most this many steps of a run without workers
abbrev pub made : Plan → List Reading → ℕ → List Event → List Event
made plan readings zero past = past
made plan readings (suc n) past = made plan readings n (added (next_alone plan readings past) past)

-- the history is what a run without workers makes
abbrev pub RunsTo : Plan → List Reading → List Event → Type 0
RunsTo plan readings history = made plan readings 40 [] ≡ reverse history

-- the history is what a run without workers makes in a life that begins after these events
abbrev pub GoesOnTo : Plan → List Reading → List Event → List Event → Type 0
GoesOnTo plan readings found history = made plan readings 40 (event.Resume ∷ reverse found) ≡ reverse history

-- ---- histories, whose events are given in order

abbrev pub lawful : Plan → List Reading → List Event → Bool
lawful plan readings history = is_lawful plan readings (reverse history)

abbrev pub finished : Plan → List Reading → List Event → Bool
finished plan readings history =
    is_at_rest plan (state plan (reverse history)) && is_none (next_reading readings (reverse history))

-- the first events of a history and then this one are lawful
abbrev pub lawful_after : Plan → List Reading → ℕ → List Event → Event → Bool
lawful_after plan readings n history e = is_lawful plan readings (e ∷ reverse (take n history))
