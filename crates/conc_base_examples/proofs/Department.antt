-- A setup as a department writes it: its places, what excludes its member, and a run.
use Rattle.std.proofs.Common.{◌≡◌, ℕ, true, false, List, [], ◌∷◌, ◌++◌, map, length, ◌+◌, ◌*◌, lit≤, None, Some, refl, reverse}
use Rattle.std.specs.Prelude.{codes}
use Rattle.conc_types.specs.declared.event.Event.{Event}
use Rattle.conc_types.specs.declared.event.Event.TheVariants as event
use Rattle.conc_types.specs.declared.event.Moment.{Moment}
use Rattle.conc_types.specs.declared.event.Outcome.TheVariants as outcome
use Rattle.conc_types.specs.declared.item.Item.TheVariants as item
use Rattle.conc_types.specs.declared.item.Reach.TheVariants as reach
use Rattle.conc_types.specs.declared.item.Scope.TheVariants as scope
use Rattle.conc_types.specs.declared.manager.Manager.{Manager}
use Rattle.conc_types.specs.declared.plan.Plan.{Plan}
use Rattle.conc_types.specs.declared.program.Program.{Program}
use Rattle.conc_types.specs.declared.script.Act.TheVariants as act
use Rattle.conc_types.specs.declared.script.Order.{Order}
use Rattle.conc_types.specs.declared.set.SetDef.{SetDef}
use Rattle.conc_types.specs.declared.setup.Setup.{Setup}
use Rattle.conc_base_law.specs.Text.{item_name, table_text}
use Rattle.conc_base_examples.proofs.Plans.{moment, texts, nine, id, entry, shift, stage, set, no_links, once, start}
use Rattle.conc_base_examples.proofs.Computed.{the_law, RunsTo, lawful, finished, lawful_after}
use Rattle.conc_types.specs.declared.program.Test.TheVariants as test
use Rattle.conc_types.specs.Expansion.{expansion}
use Rattle.conc_types.specs.Shifts.{most_places}
use Rattle.conc_base_law.specs.Managers.{admits, places}
use Rattle.conc_base_law.specs.Moments.{date_text}
use Rattle.conc_base_law.specs.Plans.{are_exclusive}

-- ---- two programs, a manager and a set

-- the journal lines of the period that the argument names, by account
abbrev summary : Program
unfolding texts
summary = record {
  name = codes "GL Journal Summary";
  request_type = codes "Ledger";
  enabled = true;
  run_alone = false;
  restart = true;
  job = record {
    table = codes "gl.csv";
    filters = record { column = codes "period"; test = test.Is; value = codes "$"; short = refl } ∷ [];
    group = Some (codes "account");
    sum = Some (codes "cents");
    warn_over = None;
    error_over = None;
    few = lit≤ tt;
  };
  post = None;
  short = refl;
  sums = refl;
}

-- the invoices on hold, by supplier, with a warning where there are any
abbrev on_hold : Program
unfolding texts
on_hold = record {
  name = codes "AP Hold Report";
  request_type = codes "Payables";
  enabled = true;
  run_alone = false;
  restart = false;
  job = record {
    table = codes "ap.csv";
    filters = [];
    group = Some (codes "supplier");
    sum = None;
    warn_over = Some 0;
    error_over = None;
    few = lit≤ tt;
  };
  post = None;
  short = refl;
  sums = refl;
}

-- three places on workdays from 08:00 to before 18:00, six on 2025-03-31, and else one. It runs no ledger program of the user batch
abbrev standard : Manager
unfolding texts
standard = record {
  name = codes "Standard Manager";
  include = [];
  exclude = record { program = None; request_type = Some (codes "Ledger"); user = Some (codes "batch"); names = refl } ∷ [];
  shifts =
      shift None 31 (Some (28800, 64800)) 3 refl
      ∷ shift (Some 739340) 0 None 6 refl
      ∷ shift None 0 None 1 refl ∷ [];
  few_rules = lit≤ tt;
  few_shifts = lit≤ tt;
}

abbrev month_end : SetDef
month_end =
    set (codes "Month End")
    (stage (codes "Check") false (Some 1 ∷ Some 1 ∷ None ∷ []) (1 ∷ []) refl refl
    ∷ stage (codes "Summary") true no_links (0 ∷ []) refl refl ∷ [])
    refl refl

abbrev department : Setup
unfolding texts
department = record {
  tables = codes "gl.csv" ∷ codes "ap.csv" ∷ [];
  programs = summary ∷ on_hold ∷ [];
  entries = entry (item.Program 1) (item.Set 0) scope.Set reach.Global ∷ [];
  managers = standard ∷ [];
  sets = month_end ∷ [];
  few_tables = lit≤ tt;
  few_programs = lit≤ tt;
  few_entries = lit≤ tt;
  few_managers = lit≤ tt;
  few_sets = lit≤ tt;
  few_places = lit≤ tt;
  named = refl;
  references = refl;
}

-- ---- its places

-- a day, counted from 0 for 0001-01-01, and a time in seconds
abbrev on : ℕ → ℕ → Moment
on day time = moment (86400 * day + time)

-- the places at 00:00:00, 07:59:59, 08:00:00, 17:59:59, 18:00:00 and 23:59:59 of a day
abbrev places_on : ℕ → List ℕ
places_on day = map (λ time. places standard (on day time)) (0 ∷ 28799 ∷ 28800 ∷ 64799 ∷ 64800 ∷ 86399 ∷ [])

places_in_all : most_places standard.shifts ≡ 6
unfolding the_law
places_in_all = refl

-- Monday 2025-03-31
last_of_march : date_text 739340 ≡ codes "2025-03-31"
unfolding the_law
last_of_march = refl

at_the_end_of_march : places_on 739340 ≡ 6 ∷ 6 ∷ 6 ∷ 6 ∷ 6 ∷ 6 ∷ []
unfolding the_law
at_the_end_of_march = refl

-- Monday 2025-03-24 to Sunday 2025-03-30
in_the_week_before :
    map places_on (739333 ∷ 739334 ∷ 739335 ∷ 739336 ∷ 739337 ∷ 739338 ∷ 739339 ∷ [])
    ≡ (1 ∷ 1 ∷ 3 ∷ 3 ∷ 1 ∷ 1 ∷ []) ∷ (1 ∷ 1 ∷ 3 ∷ 3 ∷ 1 ∷ 1 ∷ []) ∷ (1 ∷ 1 ∷ 3 ∷ 3 ∷ 1 ∷ 1 ∷ [])
    ∷ (1 ∷ 1 ∷ 3 ∷ 3 ∷ 1 ∷ 1 ∷ []) ∷ (1 ∷ 1 ∷ 3 ∷ 3 ∷ 1 ∷ 1 ∷ [])
    ∷ (1 ∷ 1 ∷ 1 ∷ 1 ∷ 1 ∷ 1 ∷ []) ∷ (1 ∷ 1 ∷ 1 ∷ 1 ∷ 1 ∷ 1 ∷ []) ∷ []
unfolding the_law
in_the_week_before = refl

-- the day after, a Tuesday
on_the_first_of_april : places_on 739341 ≡ 1 ∷ 1 ∷ 3 ∷ 3 ∷ 1 ∷ 1 ∷ []
unfolding the_law
on_the_first_of_april = refl

-- ---- the set, submitted by ann and by batch

abbrev month_end_by : List ℕ → Order
month_end_by user = record { at = nine; act = act.Submit (item.Set 0) user 50 nine (codes "Standard") (codes "2025-02") }

abbrev twice_ended : Plan
unfolding texts
twice_ended = record {
  setup = department;
  script = record { commands = month_end_by (codes "ann") ∷ month_end_by (codes "batch") ∷ []; few = lit≤ tt };
  tables =
      record { columns = codes "account" ∷ codes "period" ∷ codes "cents" ∷ []; rows = []; distinct = refl; even = refl; few = lit≤ tt }
      ∷ record { columns = codes "supplier" ∷ []; rows = []; distinct = refl; even = refl; few = lit≤ tt } ∷ [];
  requests = expansion department (month_end_by (codes "ann") ∷ month_end_by (codes "batch") ∷ []);
  stamps = 0 ∷ 0 ∷ [];
  commands = refl;
  reports = refl;
  expanded = refl;
  stamped = refl;
  few = lit≤ tt;
}

month_end_requests :
    map (λ r. item_name twice_ended r.item) twice_ended.requests
    ≡ codes "Month End" ∷ codes "AP Hold Report" ∷ codes "GL Journal Summary"
    ∷ codes "Month End" ∷ codes "AP Hold Report" ∷ codes "GL Journal Summary" ∷ []
unfolding the_law
month_end_requests = refl

-- the member AP Hold Report excludes the other set and all other members of both, and not its own set
month_end_exclusion :
    map (λ x. map (are_exclusive twice_ended x) twice_ended.requests) twice_ended.requests
    ≡ (false ∷ false ∷ false ∷ false ∷ true ∷ false ∷ [])
    ∷ (false ∷ false ∷ true ∷ true ∷ true ∷ true ∷ [])
    ∷ (false ∷ true ∷ false ∷ false ∷ true ∷ false ∷ [])
    ∷ (false ∷ true ∷ false ∷ false ∷ false ∷ false ∷ [])
    ∷ (true ∷ true ∷ true ∷ false ∷ false ∷ true ∷ [])
    ∷ (false ∷ true ∷ false ∷ false ∷ true ∷ false ∷ []) ∷ []
unfolding the_law
month_end_exclusion = refl

-- no manager runs a set, and this one runs no ledger program of batch
month_end_admitted : map (admits standard) twice_ended.requests ≡ false ∷ true ∷ true ∷ false ∷ true ∷ false ∷ []
unfolding the_law
month_end_admitted = refl

abbrev ended : ℕ → ℕ → ℕ → Event
ended r offset length = event.Ended (id r) outcome.Normal (Some (record { offset = offset; length = length }))

-- the second set opens once the member AP Hold Report of the first one has ended, and its own waits until the first one is closed
abbrev month_end_history : List Event
month_end_history =
    event.Tick nine ∷ event.Command 1 ∷ event.Command 2
    ∷ event.OpenSet (id 1) ∷ event.Stage (id 1) 1 ∷ event.LetOut (id 2) ∷ start 2 0 ∷ ended 2 0 18
    ∷ event.Stage (id 1) 2 ∷ event.LetOut (id 3) ∷ event.OpenSet (id 4) ∷ event.Stage (id 4) 1
    ∷ start 3 0 ∷ ended 3 18 24 ∷ event.CloseSet (id 1) outcome.Normal
    ∷ event.LetOut (id 5) ∷ start 5 0 ∷ ended 5 42 18 ∷ event.Stage (id 4) 2 ∷ []

month_end_runs : RunsTo twice_ended (once nine) month_end_history
unfolding the_law
month_end_runs = refl

month_end_is_lawful : lawful twice_ended (once nine) month_end_history ≡ true
unfolding the_law
month_end_is_lawful = refl

month_end_is_finished : finished twice_ended (once nine) month_end_history ≡ true
unfolding the_law
month_end_is_finished = refl

month_end_table :
    table_text twice_ended (reverse month_end_history)
    ≡ codes "1 Completed Normal Month End\n2 Completed Normal AP Hold Report\n3 Completed Normal GL Journal Summary\n"
    ++ codes "4 Running Paused Month End\n5 Completed Normal AP Hold Report\n6 Inactive No Manager GL Journal Summary\n"
unfolding the_law
month_end_table = refl

-- the second set does not open beside the member
month_end_opened_early : lawful_after twice_ended (once nine) 6 month_end_history (event.OpenSet (id 4)) ≡ false
unfolding the_law
month_end_opened_early = refl
