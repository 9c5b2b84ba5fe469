-- A setup in which the passes find nothing keeps what a setup keeps.
use Rattle.std.proofs.Common.{◌≡◌, refl, ap, ℕ, ◌+◌, ◌≤◌, true, List, [], ◌++◌, append-nil, length, map, Option, None, Some, Result, Ok, arith}
use Rattle.std.specs.Prelude.{IsTrue}
use Rattle.std.specs.List.{list_all, sum_by}
use Rattle.std.specs.Option.{option_or}
use Rattle.std.specs.Str.{bytes_eq}
use Rattle.std.proofs.lemmas.Bool.{and_from, le-leb}
use Rattle.conc_types.specs.declared.kind.RefusalKind.{RefusalKind}
use Rattle.conc_types.specs.declared.manager.Manager.{Manager}
use Rattle.conc_types.specs.declared.program.Program.{Program}
use Rattle.conc_types.specs.declared.set.SetDef.{SetDef}
use Rattle.conc_types.specs.Setups.{are_named, are_references, is_entry, is_manager, is_set_of}
use Rattle.conc_types.specs.Shifts.{most_places}
use Rattle.conc_types.specs.Words.{are_distinct}
use Rattle.conc_data_fields.proofs.FirstWrong.{first_wrong-none}
use Rattle.conc_data_fields.specs.Arrays.{first_wrong, goods}
use Rattle.conc_data_entries.specs.declared.raw.RawManager.{RawManager}
use Rattle.conc_data_entries.specs.declared.raw.RawSet.{RawSet}
use Rattle.conc_setup.specs.FirstPass.{IsFew}
use Rattle.conc_setup.specs.SecondPass.{first_again, first_set_again, has_distinct_stages, name_again, table_again}
use Rattle.conc_setup.specs.ThirdPass.{are_few, entries_of, managers_of, resolved_entry, resolved_manager, resolved_set, sets_of, wrong_name}
use Rattle.conc_setup.specs.declared.raw.RawSetup.{RawSetup}
use Rattle.conc_setup.proofs.Distinct.{again-distinct, sets-distinct, tables-distinct}
use Rattle.conc_setup.proofs.Each.{each_count, each_passes, each_same, each_sum}
use Rattle.conc_setup.proofs.Looked.{entry-kept, manager-kept, manager-name, manager-shifts, set-kept, set-name}

neither : {A : Type 0} (o p : Option A) → option_or o p ≡ None → (o ≡ None) × (p ≡ None)
neither None p e = (refl, e)
neither (Some a) p e = absurd (cc)

none_wrong : {A : Type 0} (line : ℕ) (all : List (Result A RefusalKind)) → first_wrong line all ≡ None → all ≡ map Ok (goods all)
none_wrong line all e = first_wrong-none line all (rw e refl)

module _ (raw : RawSetup) (few : IsFew raw) where
  module _ (new : name_again raw ≡ None) where
    abbrev programs : List (List ℕ)
    programs = map (λ p. p.name) raw.programs

    abbrev managers : List (List ℕ)
    managers = map (λ m. m.name) raw.managers

    abbrev first_manager : ℕ
    first_manager = 1 + length raw.programs + length raw.entries

    abbrev first_set : ℕ
    first_set = first_manager + length raw.managers

    none_again : (table_again raw.tables.list ≡ None) × (first_again 1 [] programs ≡ None)
        × (first_again first_manager [] managers ≡ None) × (first_set_again first_set programs [] raw.sets ≡ None)
    unfolding name_again
    none_again =
        let behind_managers = first_set_again first_set programs [] raw.sets in
        let behind_programs = option_or (first_again first_manager [] managers) behind_managers in
        let behind_tables = option_or (first_again 1 [] programs) behind_programs in
        let t = neither (table_again raw.tables.list) behind_tables new in
        let p = neither (first_again 1 [] programs) behind_programs t.1 in
        let m = neither (first_again first_manager [] managers) behind_managers p.1 in
        (t.0, p.0, m.0, m.1)

    distinct-tables : are_distinct bytes_eq raw.tables.list ≡ true
    distinct-tables = tables-distinct raw.tables.list none_again.0

    distinct-managers : are_distinct bytes_eq managers ≡ true
    distinct-managers = again-distinct first_manager [] managers none_again.2 refl

    distinct-programs : are_distinct bytes_eq programs ≡ true
    distinct-programs = again-distinct 1 [] programs none_again.1 refl

    distinct-sets : (are_distinct bytes_eq (programs ++ map (λ s. s.name) raw.sets) ≡ true) × IsTrue (list_all has_distinct_stages raw.sets)
    distinct-sets = sets-distinct first_set programs [] raw.sets none_again.3 (rw append-nil distinct-programs)

  module _ (known : wrong_name raw ≡ None) where
    all-known : (entries_of raw ≡ map Ok (goods (entries_of raw))) × (managers_of raw ≡ map Ok (goods (managers_of raw))) × (sets_of raw ≡ map Ok (goods (sets_of raw)))
    unfolding wrong_name
    all-known =
        let wrong_set = first_wrong (1 + length raw.programs + length raw.entries + length raw.managers) (sets_of raw) in
        let wrong_manager = first_wrong (1 + length raw.programs + length raw.entries) (managers_of raw) in
        let wrong_entry = first_wrong (1 + length raw.programs) (entries_of raw) in
        let e = neither wrong_entry (option_or wrong_manager wrong_set) known in
        let m = neither wrong_manager wrong_set e.1 in (
          none_wrong (1 + length raw.programs) (entries_of raw) e.0,
          none_wrong (1 + length raw.programs + length raw.entries) (managers_of raw) m.0,
          none_wrong (1 + length raw.programs + length raw.entries + length raw.managers) (sets_of raw) m.1,
        )

    all-entries : entries_of raw ≡ map Ok (goods (entries_of raw))
    all-entries = all-known.0

    all-managers : managers_of raw ≡ map Ok (goods (managers_of raw))
    all-managers = all-known.1

    all-sets : sets_of raw ≡ map Ok (goods (sets_of raw))
    all-sets = all-known.2

    set-count : length (goods (sets_of raw)) ≡ length raw.sets
    set-count = each_count (resolved_set raw.programs) raw.sets _ all-sets

    pub references : are_references raw.programs (goods (entries_of raw)) (goods (managers_of raw)) (goods (sets_of raw)) ≡ true
    references =
        and_from _ _ (each_passes (resolved_entry raw.programs raw.sets) (is_entry raw.programs (goods (sets_of raw))) (entry-kept raw.programs raw.sets (goods (sets_of raw)) set-count) raw.entries _ all-entries)
        (and_from _ _ (each_passes (resolved_manager raw.programs) (is_manager raw.programs) (manager-kept raw.programs) raw.managers _ all-managers)
        (each_passes (resolved_set raw.programs) (is_set_of raw.programs) (set-kept raw.programs) raw.sets _ all-sets))

    manager-names : map (λ (m : Manager). m.name) (goods (managers_of raw)) ≡ map (λ (m : RawManager). m.name) raw.managers
    manager-names = each_same (resolved_manager raw.programs) (λ (m : Manager). m.name) (λ (m : RawManager). m.name) (manager-name raw.programs) raw.managers _ all-managers

    set-names : map (λ (s : SetDef). s.name) (goods (sets_of raw)) ≡ map (λ (s : RawSet). s.name) raw.sets
    set-names = each_same (resolved_set raw.programs) (λ (s : SetDef). s.name) (λ (s : RawSet). s.name) (set-name raw.programs) raw.sets _ all-sets

    places : sum_by (λ (m : Manager). most_places m.shifts) (goods (managers_of raw)) ≡ sum_by (λ (m : RawManager). most_places m.shifts.list) raw.managers
    places =
        each_sum (resolved_manager raw.programs) (λ (m : Manager). most_places m.shifts) (λ (m : RawManager). most_places m.shifts.list)
        (λ (x : RawManager) (y : Manager) e. ap most_places (manager-shifts raw.programs x y e)) raw.managers _ all-managers

    pub few_numbers : are_few raw.programs (goods (entries_of raw)) (goods (managers_of raw)) (goods (sets_of raw)) ≡ true
    few_numbers =
        let entries : length (goods (entries_of raw)) ≤ 4096 = omega (arith, each_count (resolved_entry raw.programs raw.sets) raw.entries _ all-entries, few.entries) in
        let managers : length (goods (managers_of raw)) ≤ 64 = omega (arith, each_count (resolved_manager raw.programs) raw.managers _ all-managers, few.managers) in
        let sets : length (goods (sets_of raw)) ≤ 256 = omega (arith, set-count, few.sets) in
        let all_places : sum_by (λ (m : Manager). most_places m.shifts) (goods (managers_of raw)) ≤ 64 = omega (arith, places, few.places) in
        and_from _ _ (le-leb _ _ few.programs) (and_from _ _ (le-leb _ _ entries) (and_from _ _ (le-leb _ _ managers) (and_from _ _ (le-leb _ _ sets) (le-leb _ _ all_places))))

  pub named : name_again raw ≡ None → wrong_name raw ≡ None → are_named raw.tables.list raw.programs (goods (managers_of raw)) (goods (sets_of raw)) ≡ true
  named new known =
      let items : are_distinct bytes_eq (map (λ (p : Program). p.name) raw.programs ++ map (λ (s : SetDef). s.name) (goods (sets_of raw))) ≡ true = rw (set-names known) (distinct-sets new).0 in
      let managers : are_distinct bytes_eq (map (λ (m : Manager). m.name) (goods (managers_of raw))) ≡ true = rw (manager-names known) (distinct-managers new) in
      and_from _ _ (distinct-tables new) (and_from _ _ items managers)

  pub distinct-stages : name_again raw ≡ None → IsTrue (list_all has_distinct_stages raw.sets)
  distinct-stages new = (distinct-sets new).1
