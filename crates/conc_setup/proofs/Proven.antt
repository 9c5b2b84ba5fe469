-- What is made of facts that hold, whatever shows them.
use Rattle.std.proofs.Common.{◌≡◌, refl, ap, sym, subst, ℕ, ◌≤◌, Bool, true, false, List, length, Option, Result, Ok}
use Rattle.std.specs.Coded.{le_prop}
use Rattle.std.specs.Prelude.{IsTrue, ◌&&◌, ◌+◌}
use Rattle.std.specs.List.{sum_by}
use Rattle.std.specs.Option.{option_map}
use Rattle.std.proofs.lemmas.Bool.{and_from, and_parts, false≢true, le-leb, leb-true}
use mathlib.Core.Bool.{Bool-set}
use Rattle.conc_types.specs.declared.kind.RefusalKind.{RefusalKind}
use Rattle.conc_types.specs.declared.item.Entry.{Entry}
use Rattle.conc_types.specs.declared.manager.Manager.{Manager}
use Rattle.conc_types.specs.declared.manager.Rule.{Rule}
use Rattle.conc_types.specs.declared.manager.Shift.{Shift}
use Rattle.conc_types.specs.declared.program.Program.{Program}
use Rattle.conc_types.specs.declared.set.SetDef.{SetDef}
use Rattle.conc_types.specs.declared.setup.Setup.{Setup}
use Rattle.conc_types.specs.declared.stage.Stage.{Stage}
use Rattle.conc_types.specs.Fields.{are_links, is_rule}
use Rattle.conc_types.specs.Sets.{are_stages}
use Rattle.conc_types.specs.Setups.{are_named, are_references}
use Rattle.conc_types.specs.Shifts.{most_places}
use Rattle.conc_types.specs.Words.{is_between}
use Rattle.conc_data_fields.specs.Arrays.{within_most}
use Rattle.conc_data_fields.specs.Kinds.{proven}
use Rattle.conc_data_fields.specs.declared.values.Counted.{Counted}
use Rattle.conc_data_entries.specs.declared.raw.RawManager.{RawManager}
use Rattle.conc_data_entries.specs.declared.raw.RawRule.{RawRule}
use Rattle.conc_data_entries.specs.declared.raw.RawStage.{RawStage}
use Rattle.conc_setup.specs.Lines.{on_line}
use Rattle.conc_setup.specs.ThirdPass.{are_few, few_parts, stage_with, to_manager, to_rule, to_set, to_setup}

proven-from : {A : Type 0} (test : Bool) (make : IsTrue test → A) (kind : RefusalKind) (a : A) → ((fact : IsTrue test) → make fact ≡ a) → IsTrue test → proven test make kind ≡ Ok a
proven-from true make kind a same fact = ap (λ (x : _). Ok x) (same refl)
proven-from false make kind a same fact = absurd (false≢true fact)

rule-of : (raw : RawRule) (program : Option ℕ) (names : IsTrue (is_rule program (option_map (λ t. t.text) raw.request_type) raw.user))
    → to_rule raw program ≡ Ok (record { program = program; request_type = option_map (λ t. t.text) raw.request_type; user = raw.user; names = names })
rule-of raw program names =
    proven-from _ _ _ _ (λ fact. rw (Bool-set _ _ fact names) refl) names

-- a rule with a copy of the type and of the user
pub rule-made : (raw : RawRule) (program : Option ℕ) (type user : Option (List ℕ)) (names : IsTrue (is_rule program type user))
    → type ≡ option_map (λ t. t.text) raw.request_type → user ≡ raw.user
    → to_rule raw program ≡ Ok (record { program = program; request_type = type; user = user; names = names })
rule-made raw program type user names same_type same_user =
    subst (λ (t : Option (List ℕ)). (names : IsTrue (is_rule program t user)) → to_rule raw program ≡ Ok (record { program = program; request_type = t; user = user; names = names }))
    (sym same_type)
    (subst (λ (u : Option (List ℕ)). (names : IsTrue (is_rule program (option_map (λ t. t.text) raw.request_type) u))
    → to_rule raw program ≡ Ok (record { program = program; request_type = option_map (λ t. t.text) raw.request_type; user = u; names = names }))
    (sym same_user) (rule-of raw program)) names

manager-of : (raw : RawManager) (include exclude : List Rule) (few_rules : length include + length exclude ≤ 64) (few_shifts : length raw.shifts.list ≤ 64)
    → to_manager raw (include, exclude) ≡ Ok (record { name = raw.name; include = include; exclude = exclude; shifts = raw.shifts.list; few_rules = few_rules; few_shifts = few_shifts })
manager-of raw include exclude few_rules few_shifts =
    proven-from _ _ _ _ (λ fact. rw (le_prop (leb-true (length include + length exclude) 64 fact) few_rules, le_prop (within_most raw.shifts) few_shifts) refl) (le-leb _ _ few_rules)

-- a manager with a copy of the name and of the shifts
pub manager-made : (raw : RawManager) (name : List ℕ) (include exclude : List Rule) (shifts : List Shift) (few_rules : length include + length exclude ≤ 64) (few_shifts : length shifts ≤ 64)
    → name ≡ raw.name → shifts ≡ raw.shifts.list
    → to_manager raw (include, exclude) ≡ Ok (record { name = name; include = include; exclude = exclude; shifts = shifts; few_rules = few_rules; few_shifts = few_shifts })
manager-made raw name include exclude shifts few_rules few_shifts same_name same_shifts =
    subst (λ (s : List Shift). (few : length s ≤ 64) → to_manager raw (include, exclude) ≡ Ok (record { name = name; include = include; exclude = exclude; shifts = s; few_rules = few_rules; few_shifts = few }))
    (sym same_shifts) (λ few. rw same_name (manager-of raw include exclude few_rules few)) few_shifts

-- a stage with a copy of the name
pub stage-made : (raw : RawStage) (name : List ℕ) (links : List (Option ℕ)) (members : List ℕ) (near : IsTrue (are_links links)) (some : IsTrue (is_between 1 64 (length members)))
    → name ≡ raw.name → stage_with raw links members ≡ Ok (record { name = name; critical = raw.critical; links = links; members = members; near = near; some = some })
stage-made raw name links members near some same =
    proven-from _ _ _ _ (λ fact.
    let p = and_parts (are_links links) (is_between 1 64 (length members)) fact in
    rw (same, Bool-set _ _ p.0 near, Bool-set _ _ p.1 some) refl) (and_from _ _ near some)

-- a set with a copy of the name
pub set-made : (raw_name name : List ℕ) (stages : List Stage) (some : IsTrue (is_between 1 64 (length stages))) (forward : IsTrue (are_stages stages))
    → name ≡ raw_name → to_set raw_name stages ≡ Ok (record { name = name; stages = stages; some = some; forward = forward })
set-made raw_name name stages some forward same =
    proven-from _ _ _ _ (λ fact.
    let p = and_parts (is_between 1 64 (length stages)) (are_stages stages) fact in
    rw (same, Bool-set _ _ p.0 some, Bool-set _ _ p.1 forward) refl) (and_from _ _ some forward)

module _ (tables : Counted (List ℕ) 0 64) (programs : List Program) (entries : List Entry) (managers : List Manager) (sets : List SetDef) where
  -- the setup, whatever shows what it keeps
  pub setup-made : (few_tables : length tables.list ≤ 64) (few_programs : length programs ≤ 1024) (few_entries : length entries ≤ 4096)
      (few_managers : length managers ≤ 64) (few_sets : length sets ≤ 256) (few_places : sum_by (λ m. most_places m.shifts) managers ≤ 64)
      (named : IsTrue (are_named tables.list programs managers sets)) (references : IsTrue (are_references programs entries managers sets))
      → to_setup tables programs entries managers sets ≡ Ok (record {
        tables = tables.list;
        programs = programs;
        entries = entries;
        managers = managers;
        sets = sets;
        few_tables = few_tables;
        few_programs = few_programs;
        few_entries = few_entries;
        few_managers = few_managers;
        few_sets = few_sets;
        few_places = few_places;
        named = named;
        references = references;
      })
  setup-made few_tables few_programs few_entries few_managers few_sets few_places named references =
      let few : IsTrue (are_few programs entries managers sets) =
      and_from _ _ (le-leb _ _ few_programs) (and_from _ _ (le-leb _ _ few_entries) (and_from _ _ (le-leb _ _ few_managers) (and_from _ _ (le-leb _ _ few_sets) (le-leb _ _ few_places)))) in
      ap (λ (r : Result Setup RefusalKind). on_line 0 r) (proven-from _ _ _ _ (λ fact.
      let p = and_parts (are_few programs entries managers sets) (are_named tables.list programs managers sets && are_references programs entries managers sets) fact in
      let q = and_parts (are_named tables.list programs managers sets) (are_references programs entries managers sets) p.1 in
      let f = few_parts programs entries managers sets p.0 in
      rw (
        le_prop (within_most tables) few_tables,
        le_prop f.programs_few few_programs,
        le_prop f.entries_few few_entries,
        le_prop f.managers_few few_managers,
        le_prop f.sets_few few_sets,
        le_prop f.places_few few_places,
        Bool-set _ _ q.0 named,
        Bool-set _ _ q.1 references,
      ) refl) (and_from _ _ few (and_from _ _ named references)))
