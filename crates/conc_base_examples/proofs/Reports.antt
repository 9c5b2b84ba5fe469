-- Reports: keys, counts and sums, cells that are no whole numbers, and wide sums.
use Rattle.std.proofs.Common.{◌≡◌, ℕ, List, [], ◌∷◌, map, length, pos, neg_ℤ, lit≤, Option, None, Some, refl}
use Rattle.std.specs.Prelude.{codes, nat_le, IsTrue}
use Rattle.conc_types.specs.declared.event.Outcome.TheVariants as outcome
use Rattle.conc_base_examples.proofs.Plans.{texts, few, three_rows, program, program_over}
use Rattle.conc_base_examples.proofs.Computed.{the_law}
use Rattle.std.specs.List.{list_all}
use Rattle.conc_types.specs.declared.table.Table.{Table}
use Rattle.conc_types.specs.declared.program.Job.{Job}
use Rattle.conc_types.specs.Words.{has_length}
use Rattle.conc_base_law.specs.Report.{report}
use Rattle.conc_base_law.specs.Numbers.{whole_number}

abbrev table : (rows : List (List (List ℕ))) → IsTrue (list_all (has_length 2) rows) → IsTrue (nat_le (length rows) 1114112) → Table
table rows even fits = record {
  columns = codes "k" ∷ codes "v" ∷ [];
  rows = rows;
  distinct = refl;
  even = even;
  few = few 1114112 rows fits;
}

abbrev row : List ℕ → List ℕ → List (List ℕ)
row key value = key ∷ value ∷ []

-- sums of the second column, by these keys
abbrev summed : Option (List ℕ) → Job
summed group = record {
  table = codes "t.csv";
  filters = [];
  group = group;
  sum = Some (codes "v");
  warn_over = None;
  error_over = None;
  few = lit≤ tt;
}

-- ---- keys, counts and sums

by_key :
    report (program (codes "P")).job [] three_rows
    ≡ record { outcome = outcome.Normal; text = codes "key,count,sum\na,2,15\nb,1,20\ntotal,3,35\n" }
unfolding the_law
by_key = refl

by_key_length : length (report (program (codes "P")).job [] three_rows).text ≡ 39
unfolding the_law
by_key_length = refl

-- the number of rows is compared with the limits, and an error goes before a warning
by_limits :
    map (λ (limits : Option ℕ × Option ℕ). (report (program_over limits.0 limits.1 (codes "P")).job [] three_rows).outcome)
    ((Some 3, None) ∷ (Some 2, None) ∷ (None, Some 3) ∷ (None, Some 2) ∷ (Some 0, Some 0) ∷ (Some 2, Some 3) ∷ [])
    ≡ outcome.Normal ∷ outcome.Warning ∷ outcome.Normal ∷ outcome.Error ∷ outcome.Error ∷ outcome.Warning ∷ []
unfolding the_law
by_limits = refl

-- ---- cells that are no whole numbers

no_number :
    report (summed (Some (codes "k"))) [] (table (row (codes "a") (codes "1") ∷ row (codes "a") (codes "12x") ∷ []) refl refl)
    ≡ record { outcome = outcome.Error; text = codes "row 2: not a whole number\n" }
unfolding the_law
no_number = refl

no_number_length : length (codes "row 2: not a whole number\n") ≡ 26
no_number_length = refl

too_great :
    report (summed (Some (codes "k"))) [] (table (row (codes "a") (codes "9223372036854775808") ∷ []) refl refl)
    ≡ record { outcome = outcome.Error; text = codes "row 1: not a whole number\n" }
unfolding the_law
too_great = refl

-- ---- a sum wider than 64 bits, without keys

wide_rows : Table
unfolding texts
wide_rows = table (row (codes "a") (codes "9223372036854775807") ∷ row (codes "a") (codes "9223372036854775807") ∷ []) refl refl

wide_sum :
    report (summed None) [] wide_rows
    ≡ record { outcome = outcome.Normal; text = codes "key,count,sum\ntotal,2,18446744073709551614\n" }
unfolding the_law wide_rows
wide_sum = refl

wide_sum_length : length (report (summed None) [] wide_rows).text ≡ 43
unfolding the_law wide_rows
wide_sum_length = refl

-- the least whole number and the greatest one, and the two next to them
borders :
    map whole_number
    (codes "-9223372036854775808" ∷ codes "9223372036854775807" ∷ codes "+9223372036854775807"
    ∷ codes "-9223372036854775809" ∷ codes "9223372036854775808" ∷ codes "+" ∷ codes "00000000000000000001" ∷ [])
    ≡ Some (neg_ℤ (pos 9223372036854775808)) ∷ Some (pos 9223372036854775807) ∷ Some (pos 9223372036854775807)
    ∷ None ∷ None ∷ None ∷ None ∷ []
unfolding the_law
borders = refl
