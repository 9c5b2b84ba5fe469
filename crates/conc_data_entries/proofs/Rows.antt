-- Worked tables of setup files, read by computation from their text.
use Rattle.std.proofs.Common.{◌≡◌, ℕ, Bool, true, false, List, [], ◌∷◌, codes, Option, None, Some, Result, Ok, Err, refl}
use Rattle.std.specs.Str.{chars, is_utf8}
use Rattle.toml.specs.Data.{Data, item, Members, get_member, array}
use Rattle.toml.specs.Parse.{parse_document}
use Rattle.toml.proofs.OnLiterals.{toml_on_literals}
use Rattle.conc_types.specs.declared.kind.RefusalKind.{RefusalKind}
use Rattle.conc_types.specs.declared.kind.RefusalKind.TheVariants as refused
use Rattle.conc_types.specs.declared.item.Reach.{Reach}
use Rattle.conc_types.specs.declared.item.Reach.TheVariants as reach
use Rattle.conc_types.specs.declared.item.Scope.{Scope}
use Rattle.conc_types.specs.declared.item.Scope.TheVariants as scope
use Rattle.conc_types.specs.declared.manager.Shift.{Shift}
use Rattle.conc_types.specs.declared.program.Filter.{Filter}
use Rattle.conc_types.specs.declared.program.Program.{Program}
use Rattle.conc_types.specs.declared.program.Test.{Test}
use Rattle.conc_types.specs.declared.program.Test.TheVariants as test
use Rattle.conc_base_law.specs.Calendar.{civil_of, civil_text, days_before, is_civil, is_spelling, moment_at, moment_of, month_lengths, seconds_of}
use Rattle.conc_base_law.specs.Moments.{is_leap}
use Rattle.conc_data_fields.specs.Arrays.{array_in, goods, list_in, read_all, worst}
use Rattle.conc_data_fields.specs.Fields.{only}
use Rattle.conc_data_fields.specs.Kinds.{good}
use Rattle.conc_data_entries.specs.declared.raw.RawEntry.{RawEntry}
use Rattle.conc_data_entries.specs.declared.raw.RawStage.{RawStage}
use Rattle.conc_data_entries.specs.Entries.{entry_in, entry_of}
use Rattle.conc_data_entries.specs.Managers.{manager_in, manager_of}
use Rattle.conc_data_entries.specs.Programs.{filter_in, filter_of, job_of, program_in, program_of}
use Rattle.conc_data_entries.specs.Rules.{rule_in, rule_of}
use Rattle.conc_data_entries.specs.Sets.{set_in, set_of, stage_in, stage_of}
use Rattle.conc_data_entries.specs.Shifts.{days_in, shift_in, shift_of}

-- ---- what the rows compute

-- to unfold this is to unfold all that a form reads by
unfoldable forms : Unit {0}
unfolding manager_in manager_of rule_in rule_of shift_in shift_of days_in program_in program_of job_of filter_in filter_of entry_in entry_of set_in set_of stage_in stage_of list_in array_in read_all only worst goods toml_on_literals chars is_utf8 lib.Utf8.encode civil_of civil_text days_before is_civil is_spelling moment_at moment_of month_lengths seconds_of is_leap
forms = tt

-- the first item of an array of a document, read in a form; where there is none, `NotToml`
abbrev read_first : {A : Type 0} → (Data → Result A RefusalKind) → Option Data → Result A RefusalKind
read_first form (Some (array (item value rest))) = form value
read_first form _ = Err refused.NotToml

abbrev first_in : {A : Type 0} → List ℕ → (Data → Result A RefusalKind) → Option Members → Result A RefusalKind
first_in key form None = Err refused.NotToml
first_in key form (Some document) = read_first form (get_member key document)

abbrev shift_parts : Shift → Option ℕ × (ℕ × (Option (ℕ × ℕ) × ℕ))
shift_parts s = (s.date, (s.days, (s.times, s.places)))

abbrev entry_parts : RawEntry → List ℕ × (List ℕ × (Scope × Reach))
entry_parts e = (e.owner, (e.other, (e.scope, e.reach)))

abbrev filter_parts : Filter → List ℕ × (Test × List ℕ)
filter_parts f = (f.column, (f.test, f.value))

abbrev program_parts : Program → List ℕ × (List ℕ × (Bool × (Bool × Bool)))
program_parts p = (p.name, (p.request_type, (p.enabled, (p.run_alone, p.restart))))

abbrev stage_parts : RawStage → List ℕ × (Option (List ℕ) × List (List ℕ))
stage_parts s = (s.name, (s.links.error, s.members.list))

-- ---- what is read

-- a program with a type and a mark
the_program : good program_parts (first_in (codes "program") program_in (parse_document (codes "[[program]]\nname = \"GL Journal Summary\"\ntype = \"Ledger\"\nrestart = true\ntable = \"gl.csv\"\ngroup = \"account\"\n")))
    ≡ Ok (codes "GL Journal Summary", (codes "Ledger", (true, (false, true))))
unfolding forms
the_program = refl

-- a filter on the argument
the_filter : good filter_parts (first_in (codes "filter") filter_in (parse_document (codes "filter = [{ column = \"period\", test = \"is\", value = \"$\" }]\n")))
    ≡ Ok (codes "period", (test.Is, codes "$"))
unfolding forms
the_filter = refl

-- an entry that covers the members of a set, everywhere
the_entry : good entry_parts (first_in (codes "incompatible") entry_in (parse_document (codes "[[incompatible]]\nprogram = \"AP Hold Report\"\nwith = \"Month End\"\nscope = \"set\"\ntype = \"global\"\n")))
    ≡ Ok (codes "AP Hold Report", (codes "Month End", (scope.Set, reach.Global)))
unfolding forms
the_entry = refl

-- a shift from Monday to Friday
the_shift : good shift_parts (first_in (codes "shift") shift_in (parse_document (codes "shift = [{ days = [\"Mon\", \"Tue\", \"Wed\", \"Thu\", \"Fri\"], from = \"08:00\", to = \"18:00\", places = 3 }]\n")))
    ≡ Ok (None, (31, (Some (28800, 64800), 3)))
unfolding forms
the_shift = refl

-- a shift on one day, up to midnight
the_date : good shift_parts (first_in (codes "shift") shift_in (parse_document (codes "shift = [{ date = \"2025-03-31\", from = \"22:00\", to = \"24:00\", places = 0 }]\n")))
    ≡ Ok (Some 739340, (0, (Some (79200, 86400), 0)))
unfolding forms
the_date = refl

-- a stage with a link and two members
the_stage : good stage_parts (first_in (codes "stage") stage_in (parse_document (codes "stage = [{ name = \"Close\", on_error = \"Report\", members = [\"A\", \"B\"] }]\n")))
    ≡ Ok (codes "Close", (Some (codes "Report"), codes "A" ∷ codes "B" ∷ []))
unfolding forms
the_stage = refl

-- ---- what is refused

-- an unknown key where another one is missing
unknown_key : first_in (codes "program") program_in (parse_document (codes "[[program]]\nname = \"P\"\nowner = \"x\"\n")) ≡ Err refused.UnknownKey
unfolding forms
unknown_key = refl

-- a missing key where another one has the wrong type
missing_key : first_in (codes "program") program_in (parse_document (codes "[[program]]\ntable = 3\n")) ≡ Err refused.Missing
unfolding forms
missing_key = refl

-- a rule that names nothing
nothing_named : first_in (codes "manager") manager_in (parse_document (codes "[[manager]]\nname = \"M\"\ninclude = [{}]\n")) ≡ Err refused.Missing
unfolding forms
nothing_named = refl

-- a date without quotes where a name stands, and a number below 0
wrong_kind : first_in (codes "program") program_in (parse_document (codes "[[program]]\nname = 2025-03-03\ntable = \"t.csv\"\nwarn_over = -1\n")) ≡ Err refused.WrongKind
unfolding forms
wrong_kind = refl

-- an empty name
empty_name : first_in (codes "program") program_in (parse_document (codes "[[program]]\nname = \"\"\ntable = \"t.csv\"\n")) ≡ Err refused.OutOfRange
unfolding forms
empty_name = refl

-- a word outside what is listed
unknown_word : first_in (codes "incompatible") entry_in (parse_document (codes "[[incompatible]]\nprogram = \"P\"\nwith = \"P\"\ntype = \"all\"\n")) ≡ Err refused.OutOfRange
unfolding forms
unknown_word = refl

-- 65 places
many_places : first_in (codes "shift") shift_in (parse_document (codes "shift = [{ places = 65 }]\n")) ≡ Err refused.OutOfRange
unfolding forms
many_places = refl

-- a set without a stage
no_stage : first_in (codes "set") set_in (parse_document (codes "[[set]]\nname = \"S\"\nstage = []\n")) ≡ Err refused.OutOfRange
unfolding forms
no_stage = refl

-- a date beside days
date_and_days : first_in (codes "shift") shift_in (parse_document (codes "shift = [{ date = \"0001-03-01\", days = [\"Mon\"], places = 1 }]\n")) ≡ Err refused.BadShift
unfolding forms
date_and_days = refl

-- a date that the calendar has not
no_date : first_in (codes "shift") shift_in (parse_document (codes "shift = [{ date = \"0001-02-29\", places = 1 }]\n")) ≡ Err refused.BadShift
unfolding forms
no_date = refl

-- no day
no_days : first_in (codes "shift") shift_in (parse_document (codes "shift = [{ days = [], places = 1 }]\n")) ≡ Err refused.BadShift
unfolding forms
no_days = refl

-- a day twice
day_twice : first_in (codes "shift") shift_in (parse_document (codes "shift = [{ days = [\"Mon\", \"Tue\", \"Mon\"], places = 1 }]\n")) ≡ Err refused.BadShift
unfolding forms
day_twice = refl

-- a first time without a last one
one_time : first_in (codes "shift") shift_in (parse_document (codes "shift = [{ from = \"08:00\", places = 1 }]\n")) ≡ Err refused.BadShift
unfolding forms
one_time = refl

-- a first time that is not before the last one
same_times : first_in (codes "shift") shift_in (parse_document (codes "shift = [{ from = \"08:00\", to = \"08:00\", places = 1 }]\n")) ≡ Err refused.BadShift
unfolding forms
same_times = refl

-- 65 members
many_members : first_in (codes "stage") stage_in (parse_document (codes "stage = [{ name = \"A\", members = [\"P\", \"P\", \"P\", \"P\", \"P\", \"P\", \"P\", \"P\", \"P\", \"P\", \"P\", \"P\", \"P\", \"P\", \"P\", \"P\", \"P\", \"P\", \"P\", \"P\", \"P\", \"P\", \"P\", \"P\", \"P\", \"P\", \"P\", \"P\", \"P\", \"P\", \"P\", \"P\", \"P\", \"P\", \"P\", \"P\", \"P\", \"P\", \"P\", \"P\", \"P\", \"P\", \"P\", \"P\", \"P\", \"P\", \"P\", \"P\", \"P\", \"P\", \"P\", \"P\", \"P\", \"P\", \"P\", \"P\", \"P\", \"P\", \"P\", \"P\", \"P\", \"P\", \"P\", \"P\", \"P\"] }]\n")) ≡ Err refused.TooMany
unfolding forms
many_members = refl
