-- The parts of the plans and histories that this folder computes with.
use Rattle.std.proofs.Common.{ℕ, ◌+◌, ◌*◌, ◌%◌, ◌<◌, ◌≤◌, Bool, true, false, ◌&&◌, List, [], ◌∷◌, length, map, lit<, lit≤, refl, Option, None, Some, mod-lt}
use Rattle.std.specs.Prelude.{codes, nat_le, IsTrue}
use Rattle.std.specs.List.{sum_by}
use Rattle.std.specs.Str.{is_utf8, chars}
use Rattle.std.proofs.lemmas.Bool.{and_parts, leb-true}
use Rattle.std.proofs.lemmas.List.{length-map}
use Rattle.conc_types.specs.declared.event.Event.{Event}
use Rattle.conc_types.specs.declared.event.Event.TheVariants as event
use Rattle.conc_types.specs.declared.event.Moment.{Moment}
use Rattle.conc_types.specs.declared.event.Outcome.{Outcome}
use Rattle.conc_types.specs.declared.event.RequestId.{RequestId}
use Rattle.conc_types.specs.declared.item.Entry.{Entry}
use Rattle.conc_types.specs.declared.item.Item.{Item}
use Rattle.conc_types.specs.declared.item.Reach.{Reach}
use Rattle.conc_types.specs.declared.item.Scope.{Scope}
use Rattle.conc_types.specs.declared.manager.Manager.{Manager}
use Rattle.conc_types.specs.declared.manager.Rule.{Rule}
use Rattle.conc_types.specs.declared.manager.Shift.{Shift}
use Rattle.conc_types.specs.declared.plan.Plan.{Plan}
use Rattle.conc_types.specs.declared.program.Program.{Program}
use Rattle.conc_types.specs.declared.script.Act.{Act}
use Rattle.conc_types.specs.declared.script.Act.TheVariants as act
use Rattle.conc_types.specs.declared.script.Order.{Order}
use Rattle.conc_types.specs.declared.script.Reading.{Reading}
use Rattle.conc_types.specs.declared.set.SetDef.{SetDef}
use Rattle.conc_types.specs.declared.setup.Setup.{Setup}
use Rattle.conc_types.specs.declared.stage.Stage.{Stage}
use Rattle.conc_types.specs.declared.table.Table.{Table}
use Rattle.conc_types.specs.Expansion.{expansion}
use Rattle.conc_types.specs.Fields.{are_links, is_shift}
use Rattle.conc_types.specs.Scripts.{are_commands}
use Rattle.conc_types.specs.Sets.{are_stages}
use Rattle.conc_types.specs.Setups.{are_named, are_references}
use Rattle.conc_types.specs.Shifts.{most_places}
use Rattle.conc_types.specs.Tables.{are_tables}
use Rattle.conc_types.specs.Texts.{is_text}
use Rattle.conc_types.specs.Words.{is_between}

-- to unfold this is to unfold the test of a text
unfoldable pub texts : Unit {0}
unfolding is_utf8 chars lib.Utf8.encode
texts = tt

-- ---- moments and requests

pub is_civil : (seconds : ℕ) → seconds % 315537897600 < 315537897600
is_civil seconds = mod-lt seconds {m = 315537897600} (lit< tt)

-- so many seconds after 0001-01-01T00:00:00
abbrev pub moment : ℕ → Moment
moment seconds = record { seconds = seconds % 315537897600; civil = is_civil seconds }

-- a time of Monday 2025-03-03
abbrev pub monday : ℕ → ℕ → ℕ → Moment
monday hour minute second = moment (63876556800 + 3600 * hour + 60 * minute + second)

abbrev pub nine : Moment
nine = monday 9 0 0

abbrev pub id : ℕ → RequestId
id n = record { number = n }

-- ---- programs, entries, managers and sets

pub no_type : IsTrue (is_text 80 [])
unfolding texts
no_type = refl

-- it reports on all rows of `t.csv` by their keys, with sums, and has these limits
abbrev pub program_over : Option ℕ → Option ℕ → List ℕ → Program
program_over warn_over error_over name = record {
  name = name;
  request_type = [];
  enabled = true;
  run_alone = false;
  restart = false;
  job = record {
    table = codes "t.csv";
    filters = [];
    group = Some (codes "k");
    sum = Some (codes "v");
    warn_over = warn_over;
    error_over = error_over;
    few = lit≤ tt;
  };
  post = None;
  short = no_type;
  sums = refl;
}

abbrev pub program : List ℕ → Program
program name = program_over None None name

abbrev pub entry : Item → Item → Scope → Reach → Entry
entry owner other scope reach = record { owner = owner; other = other; scope = scope; reach = reach }

abbrev pub shift : (date : Option ℕ) (days : ℕ) (times : Option (ℕ × ℕ)) (places : ℕ) → IsTrue (is_shift date days times places) → Shift
shift date days times places valid = record { date = date; days = days; times = times; places = places; valid = valid }

-- one place from 09:00 to before 17:00
abbrev pub day_shift : Shift
day_shift = shift None 0 (Some (32400, 61200)) 1 refl

pub few : {X : Type 0} (most : ℕ) (xs : List X) → IsTrue (nat_le (length xs) most) → length xs ≤ most
few most xs fits = leb-true (length xs) most fits

abbrev pub manager : (include exclude : List Rule) (shifts : List Shift) → IsTrue (nat_le (length include + length exclude) 64) → IsTrue (nat_le (length shifts) 64) → Manager
manager include exclude shifts few_rules few_shifts = record {
  name = codes "M";
  include = include;
  exclude = exclude;
  shifts = shifts;
  few_rules = leb-true (length include + length exclude) 64 few_rules;
  few_shifts = few 64 shifts few_shifts;
}

-- one place at every moment
abbrev pub plain_manager : Manager
plain_manager = manager [] [] [] refl refl

abbrev pub stage : (name : List ℕ) (critical : Bool) (links : List (Option ℕ)) (members : List ℕ) → IsTrue (are_links links) → IsTrue (is_between 1 64 (length members)) → Stage
stage name critical links members near some = record { name = name; critical = critical; links = links; members = members; near = near; some = some }

abbrev pub set : (name : List ℕ) (stages : List Stage) → IsTrue (is_between 1 64 (length stages)) → IsTrue (are_stages stages) → SetDef
set name stages some forward = record { name = name; stages = stages; some = some; forward = forward }

-- no link
abbrev pub no_links : List (Option ℕ)
no_links = None ∷ None ∷ None ∷ []

abbrev pub last_stage : (name : List ℕ) (members : List ℕ) → IsTrue (is_between 1 64 (length members)) → Stage
last_stage name members some = stage name false no_links members refl some

-- a set of one stage
abbrev pub one_stage : (name : List ℕ) (members : List ℕ) → IsTrue (is_between 1 64 (length members)) → SetDef
one_stage name members some = set name (last_stage (codes "One") members some ∷ []) refl refl

-- a set of two stages with one member each, of which the success of the first leads to the second
abbrev pub two_stages : (name : List ℕ) (first second : ℕ) → SetDef
two_stages name first second =
    set
    name
    (stage (codes "One") false (Some 1 ∷ None ∷ None ∷ []) (first ∷ []) refl refl ∷ last_stage (codes "Two") (second ∷ []) refl ∷ [])
    refl
    refl

-- ---- setups

abbrev pub is_small : List Program → List Entry → List Manager → List SetDef → Bool
is_small programs entries managers sets =
    nat_le (length programs) 1024
    && (nat_le (length entries) 4096
    && (nat_le (length managers) 64
    && (nat_le (length sets) 256
    && nat_le (sum_by (λ m. most_places m.shifts) managers) 64)))

pub small :
    (programs : List Program) (entries : List Entry) (managers : List Manager) (sets : List SetDef) →
    IsTrue (is_small programs entries managers sets) →
    (length programs ≤ 1024) × (length entries ≤ 4096) × (length managers ≤ 64) × (length sets ≤ 256)
    × (sum_by (λ m. most_places m.shifts) managers ≤ 64)
small programs entries managers sets fits =
    let a = and_parts _ _ fits in
    let b = and_parts _ _ a.1 in
    let c = and_parts _ _ b.1 in
    let d = and_parts _ _ c.1 in
    (few 1024 programs a.0, few 4096 entries b.0, few 64 managers c.0, few 256 sets d.0, leb-true _ _ d.1)

abbrev pub is_setup : List Program → List Entry → List Manager → List SetDef → Bool
is_setup programs entries managers sets =
    is_small programs entries managers sets
    && (are_named (codes "t.csv" ∷ []) programs managers sets
    && are_references programs entries managers sets)

abbrev pub setup : (programs : List Program) (entries : List Entry) (managers : List Manager) (sets : List SetDef) → IsTrue (is_setup programs entries managers sets) → Setup
setup programs entries managers sets fits = record {
  tables = codes "t.csv" ∷ [];
  programs = programs;
  entries = entries;
  managers = managers;
  sets = sets;
  few_tables = lit≤ tt;
  few_programs = (small programs entries managers sets (and_parts _ _ fits).0).0;
  few_entries = (small programs entries managers sets (and_parts _ _ fits).0).1;
  few_managers = (small programs entries managers sets (and_parts _ _ fits).0).2;
  few_sets = (small programs entries managers sets (and_parts _ _ fits).0).3;
  few_places = (small programs entries managers sets (and_parts _ _ fits).0).4;
  named = (and_parts _ _ (and_parts _ _ fits).1).0;
  references = (and_parts _ _ (and_parts _ _ fits).1).1;
}

-- ---- commands and plans

-- ann submits it
abbrev pub submit : Moment → Item → Order
submit t what = record { at = t; act = act.Submit what (codes "ann") 50 t (codes "Standard") [] }

abbrev pub command : Moment → Act → Order
command t what = record { at = t; act = what }

-- the rows a,10 and b,20 and a,5
abbrev pub three_rows : Table
three_rows = record {
  columns = codes "k" ∷ codes "v" ∷ [];
  rows = (codes "a" ∷ codes "10" ∷ []) ∷ (codes "b" ∷ codes "20" ∷ []) ∷ (codes "a" ∷ codes "5" ∷ []) ∷ [];
  distinct = refl;
  even = refl;
  few = lit≤ tt;
}

abbrev pub is_plan : Setup → List Order → Bool
is_plan setup commands =
    nat_le (length commands) 4096
    && (are_commands setup commands
    && (are_tables setup (three_rows ∷ [])
    && nat_le (length (expansion setup commands)) 16384))

pub fitting :
    (setup : Setup) (commands : List Order) → IsTrue (is_plan setup commands) →
    (length commands ≤ 4096) × IsTrue (are_commands setup commands) × IsTrue (are_tables setup (three_rows ∷ []))
    × (length (expansion setup commands) ≤ 16384)
fitting setup commands fits =
    let a = and_parts _ _ fits in
    let b = and_parts _ _ a.1 in
    let c = and_parts _ _ b.1 in
    (few 4096 commands a.0, b.0, c.0, few 16384 (expansion setup commands) c.1)

abbrev pub plan : (setup : Setup) (commands : List Order) → IsTrue (is_plan setup commands) → Plan
plan setup commands fits = record {
  setup = setup;
  script = record { commands = commands; few = (fitting setup commands fits).0 };
  tables = three_rows ∷ [];
  requests = expansion setup commands;
  stamps = map (λ (order : Order). 0) commands;
  commands = (fitting setup commands fits).1;
  reports = (fitting setup commands fits).2;
  expanded = refl;
  few = (fitting setup commands fits).3;
  stamped = length-map commands (λ order. 0);
}

-- ---- readings and histories

abbrev pub reading : Moment → Reading
reading t = record { moment = t; early = false }

abbrev pub once : Moment → List Reading
once t = reading t ∷ []

abbrev pub start : ℕ → ℕ → Event
start r place = event.Started (id r) (record { index = place })

-- it ends with a report of 39 bytes
abbrev pub end : ℕ → Outcome → ℕ → Event
end r outcome offset = event.Ended (id r) outcome (Some (record { offset = offset; length = 39 }))
