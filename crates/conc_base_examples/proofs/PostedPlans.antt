-- The parts of the plans whose programs post, and what the theorems on them compute.
use Rattle.std.proofs.Common.{◌≡◌, ℕ, zero, suc, ◌≤◌, Bool, ◌&&◌, List, [], ◌∷◌, reverse, length, map, lit≤, Option, None, Some, refl}
use Rattle.std.specs.Prelude.{codes, nat_le, IsTrue}
use Rattle.std.specs.List.{list_all}
use Rattle.std.proofs.lemmas.Bool.{and_parts, leb-true}
use Rattle.std.proofs.lemmas.List.{length-map}
use Rattle.conc_types.specs.declared.event.Event.{Event}
use Rattle.conc_types.specs.declared.event.Event.TheVariants as event
use Rattle.conc_types.specs.declared.event.Outcome.{Outcome}
use Rattle.conc_types.specs.declared.item.Entry.{Entry}
use Rattle.conc_types.specs.declared.item.Item.TheVariants as item
use Rattle.conc_types.specs.declared.item.Reach.TheVariants as reach
use Rattle.conc_types.specs.declared.item.Scope.TheVariants as scope
use Rattle.conc_types.specs.declared.plan.Plan.{Plan}
use Rattle.conc_types.specs.declared.program.Job.{Job}
use Rattle.conc_types.specs.declared.program.Program.{Program}
use Rattle.conc_types.specs.declared.script.Order.{Order}
use Rattle.conc_types.specs.declared.script.Reading.{Reading}
use Rattle.conc_types.specs.declared.set.SetDef.{SetDef}
use Rattle.conc_types.specs.declared.setup.Setup.{Setup}
use Rattle.conc_types.specs.declared.table.Table.{Table}
use Rattle.conc_types.specs.Expansion.{expansion}
use Rattle.conc_types.specs.Faults.{first_fault}
use Rattle.conc_types.specs.Scripts.{are_commands}
use Rattle.conc_types.specs.Setups.{are_named}
use Rattle.conc_types.specs.Tables.{are_tables}
use Rattle.conc_types.specs.Words.{has_length}
use Rattle.conc_base_posts.specs.Alone.{first_end, choice, next_alone}
use Rattle.conc_base_posts.specs.Positions.{target_of, added, book, books_after, posts_after, table_after, report_after, last_report}
use Rattle.conc_base_posts.specs.Posts.{Booked, Cells, group_row, rows_posted, are_even, are_few, with_rows, table_with, is_within, fits, booked_over, booked}
use Rattle.conc_base_posts.specs.Targets.{is_posted_to, touches_posts, is_book_request, meet, names_both, are_kept_apart, has_target, post_kind, posts_fault}
use Rattle.conc_base_examples.proofs.Plans.{entry, few, id, is_setup, plain_manager, program, setup}
use Rattle.conc_base_examples.proofs.Computed as computed

-- to unfold this, beside the law, is to unfold all definitions of posted rows
unfoldable pub the_law_of_posts : Unit {0}
unfolding first_fault first_end choice next_alone target_of added book books_after posts_after table_after report_after last_report group_row rows_posted are_even are_few with_rows table_with is_within fits booked_over booked is_posted_to touches_posts is_book_request meet names_both are_kept_apart has_target post_kind posts_fault
the_law_of_posts = tt

-- ---- tables

abbrev pub row : List ℕ → List ℕ → Cells
row key value = key ∷ value ∷ []

-- a table of the columns k and v
abbrev pub table : (rows : List Cells) → IsTrue (list_all (has_length 2) rows) → IsTrue (nat_le (length rows) 1114112) → Table
table rows even fits = record {
  columns = codes "k" ∷ codes "v" ∷ [];
  rows = rows;
  distinct = refl;
  even = even;
  few = leb-true (length rows) 1114112 fits;
}

abbrev pub no_rows : Table
no_rows = table [] refl refl

-- ---- programs

-- sums of the column v of a table, by the keys in its column k
abbrev pub sums_of : List ℕ → Job
sums_of name = record {
  table = name;
  filters = [];
  group = Some (codes "k");
  sum = Some (codes "v");
  warn_over = None;
  error_over = None;
  few = lit≤ tt;
}

-- a program with this name and job
abbrev pub program_with : List ℕ → Job → Program
program_with name job = record (program name) { job = job; sums = refl }

-- a program with this name that reads a table
abbrev pub reader : List ℕ → List ℕ → Program
reader name table = program_with name (sums_of table)

-- a program with this name that reads a table and posts to another
abbrev pub poster : List ℕ → List ℕ → List ℕ → Program
poster name table target = record (reader name table) { post = Some target; sums = refl }

-- ---- setups and plans

-- an entry of type global of the programs with these places
abbrev pub global_entry : ℕ → ℕ → Entry
global_entry a b = entry (item.Program a) (item.Program b) scope.Program reach.Global

abbrev pub is_setup_over : List (List ℕ) → List Program → List Entry → List SetDef → Bool
is_setup_over tables programs entries sets =
    nat_le (length tables) 64
    && (are_named tables programs (plain_manager ∷ []) sets
    && is_setup programs entries (plain_manager ∷ []) sets)

-- a setup of tables with these names, with one place at every moment
abbrev pub setup_over : (tables : List (List ℕ)) (programs : List Program) (entries : List Entry) (sets : List SetDef) → IsTrue (is_setup_over tables programs entries sets) → Setup
setup_over tables programs entries sets fits =
    record (setup programs entries (plain_manager ∷ []) sets (and_parts _ _ (and_parts _ _ fits).1).1) {
      tables = tables;
      few_tables = few 64 tables (and_parts _ _ fits).0;
      named = (and_parts _ _ (and_parts _ _ fits).1).0;
    }

abbrev pub is_plan_over : Setup → List Table → List Order → Bool
is_plan_over setup tables commands =
    nat_le (length commands) 4096
    && (are_commands setup commands
    && (are_tables setup tables
    && nat_le (length (expansion setup commands)) 16384))

pub fitting :
    (setup : Setup) (tables : List Table) (commands : List Order) → IsTrue (is_plan_over setup tables commands) →
    (length commands ≤ 4096) × IsTrue (are_commands setup commands) × IsTrue (are_tables setup tables)
    × (length (expansion setup commands) ≤ 16384)
fitting setup tables commands fits =
    let a = and_parts _ _ fits in
    let b = and_parts _ _ a.1 in
    let c = and_parts _ _ b.1 in
    (few 4096 commands a.0, b.0, c.0, few 16384 (expansion setup commands) c.1)

abbrev pub plan_over : (setup : Setup) (tables : List Table) (commands : List Order) → IsTrue (is_plan_over setup tables commands) → Plan
plan_over setup tables commands fits = record {
  setup = setup;
  script = record { commands = commands; few = (fitting setup tables commands fits).0 };
  tables = tables;
  requests = expansion setup commands;
  stamps = map (λ (order : Order). 0) commands;
  commands = (fitting setup tables commands fits).1;
  reports = (fitting setup tables commands fits).2;
  expanded = refl;
  few = (fitting setup tables commands fits).3;
  stamped = length-map commands (λ order. 0);
}

-- ---- runs without workers, where programs post

-- the events, latest first, after at most this many steps of such a run
abbrev pub made : Plan → List Reading → ℕ → List Event → List Event
made plan readings zero past = past
made plan readings (suc n) past = made plan readings n (computed.added (next_alone plan readings past) past)

-- the history is what such a run makes
abbrev pub RunsTo : Plan → List Reading → List Event → Type 0
RunsTo plan readings history = made plan readings 40 [] ≡ reverse history

-- the history is what such a run makes in a life that begins after these events
abbrev pub GoesOnTo : Plan → List Reading → List Event → List Event → Type 0
GoesOnTo plan readings found history = made plan readings 40 (event.Resume ∷ reverse found) ≡ reverse history

-- ---- histories, whose events are given in order

-- a request ends with a report of this length, which begins here in the spool
abbrev pub ended : ℕ → Outcome → ℕ → ℕ → Event
ended r outcome offset length = event.Ended (id r) outcome (Some (record { offset = offset; length = length }))

-- a report, and the rows that it posts
abbrev pub booked_report : Outcome → List ℕ → List Cells → Booked
booked_report outcome text rows = record { report = record { outcome = outcome; text = text }; rows = rows }

abbrev pub reported : Outcome → List ℕ → List Cells → Option Booked
reported outcome text rows = Some (booked_report outcome text rows)

-- the report at the last start of a request
abbrev pub report_made_by : Plan → List Event → ℕ → Option Booked
report_made_by plan history r = last_report plan (reverse history) (id r)

-- a table at the end
abbrev pub table_at_end : Plan → List Event → List ℕ → Option Table
table_at_end plan history name = table_after plan (reverse history) name
