-- Programs and their filters, as the tables of a setup file give them.
use Rattle.std.specs.Prelude.{ℕ, codes, Bool, true, false, List, [], ◌∷◌, Option, None, Result, refl}
use Rattle.toml.specs.Data.{Data, Members, get_member}
use Rattle.conc_types.specs.declared.kind.RefusalKind.{RefusalKind}
use Rattle.conc_types.specs.declared.kind.RefusalKind.TheVariants as refused
use Rattle.conc_types.specs.declared.program.Filter.{Filter}
use Rattle.conc_types.specs.declared.program.Job.{Job}
use Rattle.conc_types.specs.declared.program.Program.{Program}
use Rattle.conc_types.specs.declared.program.Test.{Test}
use Rattle.conc_types.specs.declared.program.Test.TheVariants as test
use Rattle.conc_data_fields.specs.Arrays.{array_in, no_values, within_most}
use Rattle.conc_data_fields.specs.Fields.{default, keys_kind, optional, required}
use Rattle.conc_data_fields.specs.Forms.{name_in, no_text, text_in, truth_in, whole_in}
use Rattle.conc_data_fields.specs.Kinds.{beside, both, good}
use Rattle.conc_data_fields.specs.declared.values.Counted.{Counted}
use Rattle.conc_data_fields.specs.declared.values.ShortText.{ShortText}
use Rattle.conc_data_entries.specs.Tables.{one_of, table_in, word_in}

-- ---- filters

abbrev pub test_of : List ℕ → Option Test
test_of =
    one_of (
    (codes "is", test.Is) ∷ (codes "is_not", test.IsNot) ∷ (codes "starts_with", test.StartsWith)
    ∷ (codes "above", test.Above) ∷ (codes "below", test.Below) ∷ [])

abbrev pub test_in : Data → Result Test RefusalKind
test_in = word_in refused.OutOfRange test_of

abbrev pub filter_keys : List (List ℕ)
filter_keys = codes "column" ∷ codes "test" ∷ codes "value" ∷ []

abbrev pub FilterParts : Type 0
FilterParts = List ℕ × (Test × ShortText 200)

abbrev pub to_filter : FilterParts → Filter
to_filter parts = record { column = parts.0; test = parts.1.0; value = parts.1.1.text; short = parts.1.1.short }

unfoldable pub filter_of : Members → Result Filter RefusalKind
filter_of table = beside (keys_kind filter_keys table) (good to_filter (
    both (required name_in (get_member (codes "column") table)) (
    both (required test_in (get_member (codes "test") table))
    (required (text_in 200) (get_member (codes "value") table)))))

abbrev pub filter_in : Data → Result Filter RefusalKind
filter_in = table_in filter_of

-- ---- programs

abbrev pub JobParts : Type 0
JobParts = List ℕ × (Counted Filter 0 16 × (Option (List ℕ) × (Option (List ℕ) × (Option ℕ × Option ℕ))))

abbrev pub to_job : JobParts → Job
to_job parts = record {
  table = parts.0;
  filters = parts.1.0.list;
  group = parts.1.1.0;
  sum = parts.1.1.1.0;
  warn_over = parts.1.1.1.1.0;
  error_over = parts.1.1.1.1.1;
  few = within_most parts.1.0;
}

-- what the keys of a program say of its report
unfoldable pub job_of : Members → Result Job RefusalKind
job_of table = good to_job (
    both (required name_in (get_member (codes "table") table)) (
    both (default (no_values 16) (array_in 0 16 filter_in) (get_member (codes "filter") table)) (
    both (optional name_in (get_member (codes "group") table)) (
    both (optional name_in (get_member (codes "sum") table)) (
    both (optional whole_in (get_member (codes "warn_over") table))
    (optional whole_in (get_member (codes "error_over") table)))))))

abbrev pub program_keys : List (List ℕ)
program_keys =
    codes "name" ∷ codes "type" ∷ codes "enabled" ∷ codes "run_alone" ∷ codes "restart" ∷ codes "table"
    ∷ codes "filter" ∷ codes "group" ∷ codes "sum" ∷ codes "warn_over" ∷ codes "error_over" ∷ []

abbrev pub ProgramParts : Type 0
ProgramParts = List ℕ × (ShortText 80 × (Bool × (Bool × (Bool × Job))))

abbrev pub to_program : ProgramParts → Program
to_program parts = record {
  name = parts.0;
  request_type = parts.1.0.text;
  enabled = parts.1.1.0;
  run_alone = parts.1.1.1.0;
  restart = parts.1.1.1.1.0;
  job = parts.1.1.1.1.1;
  post = None;
  short = parts.1.0.short;
  sums = refl;
}

unfoldable pub program_of : Members → Result Program RefusalKind
program_of table = beside (keys_kind program_keys table) (good to_program (
    both (required name_in (get_member (codes "name") table)) (
    both (default (no_text 80) (text_in 80) (get_member (codes "type") table)) (
    both (default true truth_in (get_member (codes "enabled") table)) (
    both (default false truth_in (get_member (codes "run_alone") table)) (
    both (default false truth_in (get_member (codes "restart") table))
    (job_of table)))))))

abbrev pub program_in : Data → Result Program RefusalKind
program_in = table_in program_of
