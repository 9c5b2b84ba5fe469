-- The third pass: names that are looked up. A name that is not there is `UnknownName`, and a
-- link to its own or an earlier stage `BackLink`.
use Rattle.std.specs.Prelude.{◌≡◌, ℕ, ◌+◌, ◌≤◌, if◌then◌else◌, Bool, true, ◌&&◌, nat_le, nat_lt, List, [], ◌∷◌, map, length, Option, None, Some, Result, Ok, Err}
use Rattle.std.specs.List.{enumerate_from, position, sum_by}
use Rattle.std.specs.Option.{option_map, option_or}
use Rattle.std.specs.Str.{bytes_eq}
use Rattle.std.proofs.lemmas.Bool.{and_parts, leb-true}
use Rattle.conc_types.specs.declared.kind.RefusalKind.{RefusalKind}
use Rattle.conc_types.specs.declared.kind.RefusalKind.TheVariants as refused
use Rattle.conc_types.specs.declared.item.Entry.{Entry}
use Rattle.conc_types.specs.declared.item.Item.{Item}
use Rattle.conc_types.specs.declared.item.Item.TheVariants as item
use Rattle.conc_types.specs.declared.manager.Manager.{Manager}
use Rattle.conc_types.specs.declared.manager.Rule.{Rule}
use Rattle.conc_types.specs.declared.program.Program.{Program}
use Rattle.conc_types.specs.declared.set.SetDef.{SetDef}
use Rattle.conc_types.specs.declared.setup.Setup.{Setup}
use Rattle.conc_types.specs.declared.stage.Stage.{Stage}
use Rattle.conc_types.specs.Faults.{Fault}
use Rattle.conc_types.specs.Fields.{are_links, is_rule}
use Rattle.conc_types.specs.Sets.{are_stages}
use Rattle.conc_types.specs.Shifts.{most_places}
use Rattle.conc_types.specs.Setups.{are_named, are_references}
use Rattle.conc_types.specs.Words.{is_between}
use Rattle.conc_data_fields.specs.Arrays.{all_good, first_wrong, goods, within_most}
use Rattle.conc_data_fields.specs.Kinds.{both, good, judged, or_kind, proven}
use Rattle.conc_data_fields.specs.declared.values.Counted.{Counted}
use Rattle.conc_data_entries.specs.declared.raw.RawEntry.{RawEntry}
use Rattle.conc_data_entries.specs.declared.raw.RawManager.{RawManager}
use Rattle.conc_data_entries.specs.declared.raw.RawRule.{RawRule}
use Rattle.conc_data_entries.specs.declared.raw.RawSet.{RawSet}
use Rattle.conc_data_entries.specs.declared.raw.RawStage.{RawStage}
use Rattle.conc_setup.specs.Lines.{on_line, passed, unless_fault}
use Rattle.conc_setup.specs.declared.raw.RawSetup.{RawSetup}

-- ---- names

-- the place of the program with this name
abbrev pub program_named : List Program → List ℕ → Option ℕ
program_named programs name = position (λ p. bytes_eq name p.name) programs

abbrev pub set_named : List RawSet → List ℕ → Option ℕ
set_named sets name = position (λ s. bytes_eq name s.name) sets

abbrev pub stage_named : List RawStage → List ℕ → Option ℕ
stage_named stages name = position (λ s. bytes_eq name s.name) stages

abbrev pub program_of : List Program → List ℕ → Result ℕ RefusalKind
program_of programs name = or_kind refused.UnknownName Ok (program_named programs name)

-- the program or set with this name
unfoldable pub item_of : List Program → List RawSet → List ℕ → Result Item RefusalKind
item_of programs sets name =
    or_kind refused.UnknownName Ok (option_or (option_map (λ n. item.Program n) (program_named programs name)) (option_map (λ n. item.Set n) (set_named sets name)))

-- what is looked up of a name that may be absent
abbrev pub if_named : {A : Type 0} → (List ℕ → Result A RefusalKind) → Option (List ℕ) → Result (Option A) RefusalKind
if_named look None = Ok None
if_named look (Some name) = good Some (look name)

-- ---- incompatibilities

abbrev pub to_entry : RawEntry → Item × Item → Entry
to_entry raw items = record { owner = items.0; other = items.1; scope = raw.scope; reach = raw.reach }

unfoldable pub resolved_entry : List Program → List RawSet → RawEntry → Result Entry RefusalKind
resolved_entry programs sets raw =
    good (to_entry raw) (both (item_of programs sets raw.owner) (item_of programs sets raw.other))

-- ---- managers

-- a rule names as much as it named before
abbrev pub to_rule : RawRule → Option ℕ → Result Rule RefusalKind
to_rule raw program =
    proven (is_rule program (option_map (λ t. t.text) raw.request_type) raw.user) (λ names. record {
      program = program;
      request_type = option_map (λ t. t.text) raw.request_type;
      user = raw.user;
      names = names;
    }) refused.Missing

unfoldable pub resolved_rule : List Program → RawRule → Result Rule RefusalKind
resolved_rule programs raw = judged (to_rule raw) (if_named (program_of programs) raw.program)

-- there are as many rules as before
abbrev pub to_manager : RawManager → List Rule × List Rule → Result Manager RefusalKind
to_manager raw rules =
    proven (nat_le (length rules.0 + length rules.1) 64) (λ few. record {
      name = raw.name;
      include = rules.0;
      exclude = rules.1;
      shifts = raw.shifts.list;
      few_rules = leb-true _ _ few;
      few_shifts = within_most raw.shifts;
    }) refused.TooMany

unfoldable pub resolved_manager : List Program → RawManager → Result Manager RefusalKind
resolved_manager programs raw =
    judged (to_manager raw) (both (all_good (map (resolved_rule programs) raw.include)) (all_good (map (resolved_rule programs) raw.exclude)))

-- ---- sets

-- a later stage than the one at this place
abbrev pub later : ℕ → ℕ → Result ℕ RefusalKind
later at place = if nat_lt at place then Ok place else Err refused.BackLink

-- the place of the stage with this name, which the stage at the place given leads to
abbrev pub link_of : List RawStage → ℕ → List ℕ → Result ℕ RefusalKind
link_of stages at name = or_kind refused.UnknownName (later at) (stage_named stages name)

abbrev pub StageParts : Type 0
StageParts = Option ℕ × (Option ℕ × (Option ℕ × List ℕ))

-- the links lead to one of 64 stages, and there are as many members as before
abbrev pub stage_with : RawStage → List (Option ℕ) → List ℕ → Result Stage RefusalKind
stage_with raw links members =
    proven (are_links links && is_between 1 64 (length members)) (λ kept. record {
      name = raw.name;
      critical = raw.critical;
      links = links;
      members = members;
      near = (and_parts _ _ kept).0;
      some = (and_parts _ _ kept).1;
    }) refused.BackLink

abbrev pub to_stage : RawStage → StageParts → Result Stage RefusalKind
to_stage raw parts = stage_with raw (parts.0 ∷ parts.1.0 ∷ parts.1.1.0 ∷ []) parts.1.1.1

-- a stage, which is given with its place
unfoldable pub resolved_stage : List Program → List RawStage → ℕ × RawStage → Result Stage RefusalKind
resolved_stage programs stages stage =
    judged (to_stage stage.1) (
    both (if_named (link_of stages stage.0) stage.1.links.success) (
    both (if_named (link_of stages stage.0) stage.1.links.warning) (
    both (if_named (link_of stages stage.0) stage.1.links.error)
    (all_good (map (program_of programs) stage.1.members.list)))))

-- there are as many stages as before, of distinct names, and each link leads on
abbrev pub to_set : List ℕ → List Stage → Result SetDef RefusalKind
to_set name stages =
    proven (is_between 1 64 (length stages) && are_stages stages) (λ kept. record {
      name = name;
      stages = stages;
      some = (and_parts _ _ kept).0;
      forward = (and_parts _ _ kept).1;
    }) refused.BackLink

unfoldable pub resolved_set : List Program → RawSet → Result SetDef RefusalKind
resolved_set programs raw =
    judged (to_set raw.name) (all_good (map (resolved_stage programs raw.stages.list) (enumerate_from 0 raw.stages.list)))

-- ---- the whole

abbrev pub entries_of : RawSetup → List (Result Entry RefusalKind)
entries_of raw = map (resolved_entry raw.programs raw.sets) raw.entries

abbrev pub managers_of : RawSetup → List (Result Manager RefusalKind)
managers_of raw = map (resolved_manager raw.programs) raw.managers

abbrev pub sets_of : RawSetup → List (Result SetDef RefusalKind)
sets_of raw = map (resolved_set raw.programs) raw.sets

-- the first line with a name that is not there, or with a link that does not lead on
unfoldable pub wrong_name : RawSetup → Option Fault
wrong_name raw =
    option_or (first_wrong (1 + length raw.programs) (entries_of raw)) (
    option_or (first_wrong (1 + length raw.programs + length raw.entries) (managers_of raw))
    (first_wrong (1 + length raw.programs + length raw.entries + length raw.managers) (sets_of raw)))

-- numbers and places within the limits
abbrev pub are_few : List Program → List Entry → List Manager → List SetDef → Bool
are_few programs entries managers sets =
    nat_le (length programs) 1024 && (nat_le (length entries) 4096 && (nat_le (length managers) 64
    && (nat_le (length sets) 256 && nat_le (sum_by (λ m. most_places m.shifts) managers) 64)))

pub record AreFew (programs : List Program) (entries : List Entry) (managers : List Manager) (sets : List SetDef) : Type 0 where
  pub programs_few : length programs ≤ 1024
  pub entries_few : length entries ≤ 4096
  pub managers_few : length managers ≤ 64
  pub sets_few : length sets ≤ 256
  pub places_few : sum_by (λ m. most_places m.shifts) managers ≤ 64

-- what this test tells
pub few_parts : (programs : List Program) (entries : List Entry) (managers : List Manager) (sets : List SetDef)
    → (nat_le (length programs) 1024 && (nat_le (length entries) 4096 && (nat_le (length managers) 64
    && (nat_le (length sets) 256 && nat_le (sum_by (λ m. most_places m.shifts) managers) 64)))) ≡ true
    → AreFew programs entries managers sets
few_parts programs entries managers sets few =
    let p = and_parts _ _ few in
    let e = and_parts _ _ p.1 in
    let m = and_parts _ _ e.1 in
    let s = and_parts _ _ m.1 in
    record {
      programs_few = leb-true _ _ p.0;
      entries_few = leb-true _ _ e.0;
      managers_few = leb-true _ _ m.0;
      sets_few = leb-true _ _ s.0;
      places_few = leb-true _ _ s.1;
    }

-- the setup, which is within the limits, and whose names are distinct and refer to something, as the
-- passes have seen
abbrev pub to_setup : Counted (List ℕ) 0 64 → List Program → List Entry → List Manager → List SetDef → Result Setup Fault
to_setup tables programs entries managers sets =
    on_line 0 (proven (are_few programs entries managers sets
    && (are_named tables.list programs managers sets && are_references programs entries managers sets)) (λ kept. record {
      tables = tables.list;
      programs = programs;
      entries = entries;
      managers = managers;
      sets = sets;
      few_tables = within_most tables;
      few_programs = (few_parts programs entries managers sets (and_parts _ _ kept).0).programs_few;
      few_entries = (few_parts programs entries managers sets (and_parts _ _ kept).0).entries_few;
      few_managers = (few_parts programs entries managers sets (and_parts _ _ kept).0).managers_few;
      few_sets = (few_parts programs entries managers sets (and_parts _ _ kept).0).sets_few;
      few_places = (few_parts programs entries managers sets (and_parts _ _ kept).0).places_few;
      named = (and_parts _ _ (and_parts _ _ kept).1).0;
      references = (and_parts _ _ (and_parts _ _ kept).1).1;
    }) refused.UnknownName)

-- the setup with places in its lists in the place of names
abbrev pub resolved : RawSetup → Result Setup Fault
resolved raw = to_setup raw.tables raw.programs (goods (entries_of raw)) (goods (managers_of raw)) (goods (sets_of raw))

unfoldable pub third_pass : RawSetup → Result Setup Fault
third_pass raw = passed resolved (unless_fault (wrong_name raw) raw)
