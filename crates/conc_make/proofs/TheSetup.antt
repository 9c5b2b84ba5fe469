-- The setup's text, read by computation.
use Rattle.std.proofs.Common.{◌≡◌, ℕ, true, [], ◌∷◌, length, Result, Ok, Err, None, refl}
use Rattle.std.specs.Prelude.{is_ok}
use Rattle.std.specs.Str.{chars, is_utf8}
use lib.Utf8.{encode}
use Rattle.toml.proofs.OnLiterals.{toml_on_literals}
use Rattle.conc_types.specs.declared.item.Item.TheVariants as item
use Rattle.conc_types.specs.declared.setup.Setup.{Setup}
use Rattle.conc_types.specs.Faults.{Fault, first_fault}
use Rattle.conc_types.specs.Scripts.{count_of}
use Rattle.conc_types.specs.Stages.{has_stage, with_stage}
use Rattle.conc_data_fields.specs.Arrays.{array_in, first_wrong, goods, list_in, read_all, worst}
use Rattle.conc_data_fields.specs.Fields.{only}
use Rattle.conc_data_entries.specs.Entries.{entry_of}
use Rattle.conc_data_entries.specs.Managers.{manager_of}
use Rattle.conc_data_entries.specs.Programs.{filter_of, job_of, program_of}
use Rattle.conc_data_entries.specs.Rules.{rule_of}
use Rattle.conc_data_entries.specs.Sets.{set_of, stage_of}
use Rattle.conc_data_entries.specs.Shifts.{days_in, shift_of}
use Rattle.conc_setup.specs.Documents.{document_in, document_of, entries_in}
use Rattle.conc_setup.specs.FirstPass.{first_pass, wrong_entry}
use Rattle.conc_setup.specs.SecondPass.{first_again, first_set_again, name_again, second_pass}
use Rattle.conc_setup.specs.Setups.{setup_in}
use Rattle.conc_setup.specs.ThirdPass.{item_of, resolved_entry, resolved_manager, resolved_rule, resolved_set, resolved_stage, third_pass, wrong_name}
use Rattle.conc_plan.specs.Faults.{kind_for, program_kind}
use Rattle.conc_make.specs.Files.{setup_text}
use Rattle.conc_make.proofs.TheTable.{the_table}

-- to unfold this is to unfold all that the text is read by
unfoldable pub reading : Unit {0}
unfolding setup_text setup_in document_in document_of entries_in first_pass wrong_entry second_pass first_again first_set_again name_again third_pass item_of resolved_entry resolved_manager resolved_rule resolved_set resolved_stage wrong_name manager_of rule_of shift_of days_in program_of job_of filter_of entry_of set_of stage_of list_in array_in read_all only worst goods first_wrong has_stage with_stage toml_on_literals chars is_utf8 encode
reading = tt

unfoldable pub got : (r : Result Setup Fault) → is_ok r ≡ true → Setup
got (Ok s) e = s
got (Err f) e = absurd (cc e)

got-is : (r : Result Setup Fault) (e : is_ok r ≡ true) → r ≡ Ok (got r e)
unfolding got
got-is (Ok s) e = refl
got-is (Err f) e = absurd (cc e)

pub is_read : is_ok (setup_in setup_text) ≡ true
unfolding reading
is_read = refl

-- the setup that is made
unfoldable pub the_setup : Setup
the_setup = got (setup_in setup_text) is_read

pub setup-is : setup_in setup_text ≡ Ok the_setup
unfolding the_setup
setup-is = got-is (setup_in setup_text) is_read

-- the set and its three members
pub set_count : count_of the_setup (item.Set 0) ≡ 4
unfolding reading the_setup got
set_count = refl

-- each program finds its table there, with the columns that it names
pub programs_pass : (seed : ℕ) → first_fault (program_kind the_setup (the_table seed ∷ [])) 1 (length the_setup.programs) ≡ None
unfolding reading the_setup got the_table first_fault program_kind kind_for
programs_pass seed = refl
