-- Reports of random jobs over random tables, and whole numbers.
use Rattle.std.proofs.Common.{◌≡◌, true, false, [], ◌∷◌, map, None, Some, refl, lit≤}
use Rattle.std.specs.Prelude.{codes, pos, neg_ℤ}
use Rattle.conc_types.specs.declared.event.Outcome.TheVariants as outcome
use Rattle.conc_types.specs.declared.program.Job.{Job}
use Rattle.conc_types.specs.declared.program.Test.TheVariants as test
use Rattle.conc_types.specs.declared.table.Table.{Table}
use Rattle.conc_base_law.specs.Numbers.{whole_number}
use Rattle.conc_base_law.specs.Report.{less, report}
use Rattle.conc_base_examples.proofs.Computed.{the_law}
use Rattle.conc_base_examples.proofs.Plans.{texts}

abbrev t270 : Table
t270 = record { columns = ((codes "k") ∷ (codes "v") ∷ []); rows = (((codes "x,y") ∷ (codes "5979450135120380791") ∷ []) ∷ ((99 ∷ 114 ∷ 13 ∷ 99 ∷ 114 ∷ []) ∷ (codes "14") ∷ []) ∷ ((195 ∷ 164 ∷ []) ∷ (codes "+0") ∷ []) ∷ ((99 ∷ 114 ∷ 13 ∷ 99 ∷ 114 ∷ []) ∷ (codes "10") ∷ []) ∷ ((0 ∷ []) ∷ (codes "11") ∷ []) ∷ ((codes "a") ∷ (codes "9223372036854775807") ∷ []) ∷ ((0 ∷ []) ∷ (codes "-9223372036854775808") ∷ []) ∷ []); distinct = refl; even = refl; few = lit≤ tt }

abbrev t270_job : Job
unfolding texts
t270_job = record { table = (codes "t"); filters = []; group = (Some (codes "v")); sum = None; warn_over = (Some 9223372036854775807); error_over = None; few = lit≤ tt }

t270_report : report t270_job (195 ∷ 164 ∷ []) t270 ≡ record { outcome = outcome.Normal; text = (codes "key,count\n+0,1\n-9223372036854775808,1\n10,1\n11,1\n14,1\n5979450135120380791,1\n9223372036854775807,1\ntotal,7\n") }
unfolding the_law
t270_report = refl

t270_less : (less (codes "+0") (codes "1.0") ∷ less (codes "1.0") (codes "-5") ∷ less (codes "+9223372036854775807") (codes "+0") ∷ less (codes "+0") (codes "-") ∷ less (217 ∷ 163 ∷ []) (codes "-") ∷ less (codes "5") (codes "9999999999999999999") ∷ less (codes "00000000000000000005") (codes "-9223372036854775809") ∷ less (codes "9999999999999999999") (codes "9999999999999999999") ∷ []) ≡ (false ∷ false ∷ false ∷ false ∷ false ∷ false ∷ false ∷ false ∷ [])
unfolding the_law
t270_less = refl

t270_numbers : map whole_number ((codes "00000000000000000005") ∷ (codes "54") ∷ (codes "9999999999999999999") ∷ [] ∷ (codes "1 ") ∷ (217 ∷ 163 ∷ []) ∷ []) ≡ (None ∷ (Some (pos 54)) ∷ None ∷ None ∷ None ∷ None ∷ [])
unfolding the_law
t270_numbers = refl

abbrev t271 : Table
t271 = record { columns = ((codes "k") ∷ (codes "v") ∷ (codes "w") ∷ []); rows = (((0 ∷ []) ∷ (codes "8355969915356624219") ∷ (codes "-") ∷ []) ∷ ((codes "ab") ∷ (codes "+7") ∷ (codes "1.5") ∷ []) ∷ ((codes "ab") ∷ (codes "007") ∷ (codes "0") ∷ []) ∷ ((codes "ab") ∷ (codes "-9223372036854775808") ∷ (codes "-3825533619743182294") ∷ []) ∷ ((codes "ab") ∷ (codes "19") ∷ (codes "00000000000000000001") ∷ []) ∷ ((codes "ab") ∷ (codes "-3112695025605560814") ∷ (codes "-2662958466709202069") ∷ []) ∷ ((0 ∷ []) ∷ (codes "+7") ∷ (codes "16") ∷ []) ∷ []); distinct = refl; even = refl; few = lit≤ tt }

abbrev t271_job : Job
unfolding texts
t271_job = record { table = (codes "t"); filters = (record { column = (codes "k"); test = test.Below; value = (codes "ab"); short = refl } ∷ record { column = (codes "k"); test = test.Is; value = (codes "ab"); short = refl } ∷ []); group = (Some (codes "w")); sum = None; warn_over = (Some 0); error_over = (Some 4); few = lit≤ tt }

t271_report : report t271_job (codes "007") t271 ≡ record { outcome = outcome.Normal; text = (codes "key,count\ntotal,0\n") }
unfolding the_law
t271_report = refl

t271_less : (less (codes "-0") (codes "1 ") ∷ less (codes "00000000000000000005") (codes "5") ∷ less (codes "1x") (codes "9223372036854775808") ∷ less (codes "5") (codes "9999999999999999999") ∷ less (codes "-") (codes "-5") ∷ less (codes "+0") (codes "9999999999999999999") ∷ less (codes "-") (codes "-0") ∷ less (codes "9999999999999999999") (codes "-5") ∷ []) ≡ (false ∷ false ∷ false ∷ false ∷ false ∷ false ∷ false ∷ false ∷ [])
unfolding the_law
t271_less = refl

t271_numbers : map whole_number ((codes "-50") ∷ (codes "--1") ∷ (codes "00000000000000000005") ∷ [] ∷ (codes "9562671617703246033") ∷ (codes "007") ∷ []) ≡ ((Some (neg_ℤ (pos 50))) ∷ None ∷ None ∷ None ∷ None ∷ (Some (pos 7)) ∷ [])
unfolding the_law
t271_numbers = refl

abbrev t272 : Table
t272 = record { columns = ((codes "w") ∷ (codes "k") ∷ (codes "v") ∷ []); rows = (((codes "-4830935401486408533") ∷ (codes "ab") ∷ (codes "+8") ∷ []) ∷ ((codes "-5790598872455465703") ∷ (codes "aaaaaaaaa") ∷ (codes "-0") ∷ []) ∷ ((codes "007") ∷ (codes "ab") ∷ (codes "78") ∷ []) ∷ ((codes "007") ∷ (codes "ab") ∷ (codes "-0") ∷ []) ∷ ((codes "-74363381835694635") ∷ (codes "ab") ∷ (codes "+0") ∷ []) ∷ ((codes "9223372036854775807") ∷ (codes " a") ∷ (codes "6155891587088319728") ∷ []) ∷ ((codes "6") ∷ (codes "two\nlines") ∷ (codes "18") ∷ []) ∷ []); distinct = refl; even = refl; few = lit≤ tt }

abbrev t272_job : Job
unfolding texts
t272_job = record { table = (codes "t"); filters = []; group = None; sum = (Some (codes "v")); warn_over = None; error_over = (Some 1); few = lit≤ tt }

t272_report : report t272_job (codes "a") t272 ≡ record { outcome = outcome.Error; text = (codes "key,count,sum\ntotal,7,6155891587088319832\n") }
unfolding the_law
t272_report = refl

t272_less : (less (codes "9223372036854775808") (codes "-9223372036854775808") ∷ less (codes "00000000000000000005") [] ∷ less (codes "+9223372036854775807") (codes " 1") ∷ less (codes "007") (codes "1.0") ∷ less (codes "5") (codes "+9223372036854775807") ∷ less (codes "1.0") (codes "0") ∷ less (codes "--1") (codes "-5") ∷ less (217 ∷ 163 ∷ []) (codes "57") ∷ []) ≡ (false ∷ false ∷ false ∷ false ∷ true ∷ false ∷ false ∷ false ∷ [])
unfolding the_law
t272_less = refl

t272_numbers : map whole_number ((codes "1 ") ∷ (codes "--1") ∷ (codes "5") ∷ (codes "007") ∷ (codes "00000000000000000005") ∷ (codes "1x") ∷ []) ≡ (None ∷ None ∷ (Some (pos 5)) ∷ (Some (pos 7)) ∷ None ∷ None ∷ [])
unfolding the_law
t272_numbers = refl

abbrev t273 : Table
t273 = record { columns = ((codes "v") ∷ (codes "k") ∷ []); rows = (((codes "+6") ∷ (99 ∷ 114 ∷ 13 ∷ 99 ∷ 114 ∷ []) ∷ []) ∷ ((codes "007") ∷ (codes "B") ∷ []) ∷ ((codes "-9223372036854775808") ∷ (codes "x,y") ∷ []) ∷ ((codes "-9223372036854775808") ∷ (99 ∷ 114 ∷ 13 ∷ 99 ∷ 114 ∷ []) ∷ []) ∷ ((codes "-9223372036854775808") ∷ (99 ∷ 114 ∷ 13 ∷ 99 ∷ 114 ∷ []) ∷ []) ∷ ((codes "+3") ∷ (codes "b") ∷ []) ∷ ((codes "007") ∷ (codes "b") ∷ []) ∷ []); distinct = refl; even = refl; few = lit≤ tt }

abbrev t273_job : Job
unfolding texts
t273_job = record { table = (codes "t"); filters = (record { column = (codes "k"); test = test.Below; value = (codes "x,y"); short = refl } ∷ record { column = (codes "v"); test = test.StartsWith; value = (codes "+3"); short = refl } ∷ []); group = (Some (codes "v")); sum = (Some (codes "v")); warn_over = None; error_over = (Some 0); few = lit≤ tt }

t273_report : report t273_job (195 ∷ 164 ∷ []) t273 ≡ record { outcome = outcome.Normal; text = (codes "key,count,sum\ntotal,0,0\n") }
unfolding the_law
t273_report = refl

t273_less : (less [] (codes "9223372036854775807") ∷ less [] (codes "9999999999999999999") ∷ less (codes "-9223372036854775809") (codes " 1") ∷ less (codes "+5") (codes "+9223372036854775807") ∷ less (codes "+0") (codes "9223372036854775807") ∷ less (codes "-9223372036854775809") (codes "9999999999999999999") ∷ less (codes "5") (codes "0") ∷ less [] (codes "-") ∷ []) ≡ (false ∷ false ∷ false ∷ true ∷ true ∷ false ∷ false ∷ false ∷ [])
unfolding the_law
t273_less = refl

t273_numbers : map whole_number ([] ∷ (codes "1x") ∷ (codes "+") ∷ (codes "0") ∷ (codes "+5") ∷ (codes "72") ∷ []) ≡ (None ∷ None ∷ None ∷ (Some (pos 0)) ∷ (Some (pos 5)) ∷ (Some (pos 72)) ∷ [])
unfolding the_law
t273_numbers = refl

abbrev t274 : Table
t274 = record { columns = ((codes "k") ∷ (codes "v") ∷ []); rows = []; distinct = refl; even = refl; few = lit≤ tt }

abbrev t274_job : Job
unfolding texts
t274_job = record { table = (codes "t"); filters = (record { column = (codes "k"); test = test.IsNot; value = (codes "x,y"); short = refl } ∷ []); group = (Some (codes "v")); sum = (Some (codes "v")); warn_over = None; error_over = None; few = lit≤ tt }

t274_report : report t274_job (codes "007") t274 ≡ record { outcome = outcome.Normal; text = (codes "key,count,sum\ntotal,0,0\n") }
unfolding the_law
t274_report = refl

t274_less : (less (codes "9999999999999999999") (codes "-") ∷ less (codes "6370612390947014369") (codes "+9223372036854775807") ∷ less (codes "-9223372036854775808") (codes "-0") ∷ less (codes "6370612390947014369") (codes " 1") ∷ less (codes "00000000000000000005") (codes "9223372036854775807") ∷ less (codes "1x") (codes "51") ∷ less (codes "1.0") (codes "-5") ∷ less (codes "--1") (codes "0000000000000000005") ∷ []) ≡ (false ∷ true ∷ true ∷ false ∷ false ∷ false ∷ false ∷ false ∷ [])
unfolding the_law
t274_less = refl

t274_numbers : map whole_number ((codes "00000000000000000005") ∷ (codes "+") ∷ (codes "-5") ∷ (codes "6370612390947014369") ∷ [] ∷ (codes "0") ∷ []) ≡ (None ∷ None ∷ (Some (neg_ℤ (pos 5))) ∷ (Some (pos 6370612390947014369)) ∷ None ∷ (Some (pos 0)) ∷ [])
unfolding the_law
t274_numbers = refl

abbrev t275 : Table
t275 = record { columns = ((codes "k") ∷ (codes "v") ∷ []); rows = (((codes " a") ∷ (codes "-0") ∷ []) ∷ ((codes " a") ∷ (codes "-9223372036854775808") ∷ []) ∷ ((codes "q\"q") ∷ (codes "9223372036854775807") ∷ []) ∷ ((codes "x,y") ∷ (codes "+1") ∷ []) ∷ ((codes "q\"q") ∷ (codes "9223372036854775807") ∷ []) ∷ ((codes " a") ∷ (codes "8") ∷ []) ∷ ((codes " a") ∷ (codes "20") ∷ []) ∷ []); distinct = refl; even = refl; few = lit≤ tt }

abbrev t275_job : Job
unfolding texts
t275_job = record { table = (codes "t"); filters = (record { column = (codes "v"); test = test.Above; value = (codes "20"); short = refl } ∷ []); group = (Some (codes "k")); sum = (Some (codes "v")); warn_over = None; error_over = None; few = lit≤ tt }

t275_report : report t275_job (codes "007") t275 ≡ record { outcome = outcome.Normal; text = (codes "key,count,sum\n\"q\"\"q\",2,18446744073709551614\ntotal,2,18446744073709551614\n") }
unfolding the_law
t275_report = refl

t275_less : (less (codes "1x") (codes "9999999999999999999") ∷ less (codes "1 ") (codes "0000000000000000005") ∷ less (codes "1x") (217 ∷ 163 ∷ []) ∷ less (codes "9223372036854775808") (codes "1x") ∷ less (codes "-0") (codes "-9223372036854775809") ∷ less (codes "1.0") (codes "+5") ∷ less (codes "1 ") (codes "-0") ∷ less (codes "1x") (codes "1.0") ∷ []) ≡ (false ∷ false ∷ false ∷ false ∷ false ∷ false ∷ false ∷ false ∷ [])
unfolding the_law
t275_less = refl

t275_numbers : map whole_number ([] ∷ (codes "-9223372036854775808") ∷ (codes "-5") ∷ (codes "+0") ∷ (codes "+5") ∷ (codes "0") ∷ []) ≡ (None ∷ (Some (neg_ℤ (pos 9223372036854775808))) ∷ (Some (neg_ℤ (pos 5))) ∷ (Some (pos 0)) ∷ (Some (pos 5)) ∷ (Some (pos 0)) ∷ [])
unfolding the_law
t275_numbers = refl

abbrev t276 : Table
t276 = record { columns = ((codes "v") ∷ (codes "w") ∷ (codes "k") ∷ []); rows = (((codes "9223372036854775807") ∷ (codes "-0") ∷ (83 ∷ 116 ∷ 114 ∷ 97 ∷ 195 ∷ 159 ∷ 101 ∷ []) ∷ []) ∷ ((codes "+7") ∷ (codes "a") ∷ (83 ∷ 116 ∷ 114 ∷ 97 ∷ 195 ∷ 159 ∷ 101 ∷ []) ∷ []) ∷ ((codes "-0") ∷ (codes "-9223372036854775808") ∷ (codes "two\nlines") ∷ []) ∷ ((codes "9223372036854775807") ∷ (codes "-9223372036854775808") ∷ (83 ∷ 116 ∷ 114 ∷ 97 ∷ 195 ∷ 159 ∷ 101 ∷ []) ∷ []) ∷ []); distinct = refl; even = refl; few = lit≤ tt }

abbrev t276_job : Job
unfolding texts
t276_job = record { table = (codes "t"); filters = []; group = (Some (codes "k")); sum = (Some (codes "v")); warn_over = None; error_over = None; few = lit≤ tt }

t276_report : report t276_job (codes "5") t276 ≡ record { outcome = outcome.Normal; text = (107 ∷ 101 ∷ 121 ∷ 44 ∷ 99 ∷ 111 ∷ 117 ∷ 110 ∷ 116 ∷ 44 ∷ 115 ∷ 117 ∷ 109 ∷ 10 ∷ 83 ∷ 116 ∷ 114 ∷ 97 ∷ 195 ∷ 159 ∷ 101 ∷ 44 ∷ 51 ∷ 44 ∷ 49 ∷ 56 ∷ 52 ∷ 52 ∷ 54 ∷ 55 ∷ 52 ∷ 52 ∷ 48 ∷ 55 ∷ 51 ∷ 55 ∷ 48 ∷ 57 ∷ 53 ∷ 53 ∷ 49 ∷ 54 ∷ 50 ∷ 49 ∷ 10 ∷ 34 ∷ 116 ∷ 119 ∷ 111 ∷ 10 ∷ 108 ∷ 105 ∷ 110 ∷ 101 ∷ 115 ∷ 34 ∷ 44 ∷ 49 ∷ 44 ∷ 48 ∷ 10 ∷ 116 ∷ 111 ∷ 116 ∷ 97 ∷ 108 ∷ 44 ∷ 52 ∷ 44 ∷ 49 ∷ 56 ∷ 52 ∷ 52 ∷ 54 ∷ 55 ∷ 52 ∷ 52 ∷ 48 ∷ 55 ∷ 51 ∷ 55 ∷ 48 ∷ 57 ∷ 53 ∷ 53 ∷ 49 ∷ 54 ∷ 50 ∷ 49 ∷ 10 ∷ []) }
unfolding the_law
t276_report = refl

t276_less : (less (codes "0000000000000000005") (codes "9223372036854775808") ∷ less (codes "+5") (codes "+5") ∷ less [] (codes "0") ∷ less (codes "00000000000000000005") (codes "+9223372036854775807") ∷ less (codes "+0") (codes " 1") ∷ less (codes " 1") (codes "--1") ∷ less (codes "9223372036854775807") (codes "16") ∷ less (codes "1.0") (codes "9223372036854775808") ∷ []) ≡ (false ∷ false ∷ false ∷ false ∷ false ∷ false ∷ false ∷ false ∷ [])
unfolding the_law
t276_less = refl

t276_numbers : map whole_number ((codes "+0") ∷ (codes "-9223372036854775808") ∷ (codes "007") ∷ (217 ∷ 163 ∷ []) ∷ (codes "-0") ∷ (codes "-6452869043438340371") ∷ []) ≡ ((Some (pos 0)) ∷ (Some (neg_ℤ (pos 9223372036854775808))) ∷ (Some (pos 7)) ∷ None ∷ (Some (pos 0)) ∷ (Some (neg_ℤ (pos 6452869043438340371))) ∷ [])
unfolding the_law
t276_numbers = refl

abbrev t277 : Table
t277 = record { columns = ((codes "v") ∷ (codes "k") ∷ []); rows = (((codes "007") ∷ (codes "q\"q") ∷ []) ∷ ((codes "1.5") ∷ (codes "q\"q") ∷ []) ∷ ((codes "-0") ∷ (codes "q\"q") ∷ []) ∷ ((codes "6") ∷ (codes "q\"q") ∷ []) ∷ []); distinct = refl; even = refl; few = lit≤ tt }

abbrev t277_job : Job
unfolding texts
t277_job = record { table = (codes "t"); filters = (record { column = (codes "v"); test = test.Is; value = (codes "007"); short = refl } ∷ []); group = (Some (codes "v")); sum = (Some (codes "v")); warn_over = (Some 5); error_over = (Some 0); few = lit≤ tt }

t277_report : report t277_job (codes "a") t277 ≡ record { outcome = outcome.Error; text = (codes "key,count,sum\n007,1,7\ntotal,1,7\n") }
unfolding the_law
t277_report = refl

t277_less : (less (codes "+9223372036854775807") (codes "-5081998378202765999") ∷ less (codes " 1") (codes " 1") ∷ less (codes "-5081998378202765999") (codes "9223372036854775807") ∷ less (codes "-9223372036854775809") (217 ∷ 163 ∷ []) ∷ less (codes "0000000000000000005") (codes "007") ∷ less (codes "00000000000000000005") (codes "1.0") ∷ less (codes "-") (codes "1.0") ∷ less (codes "+5") (codes "+9223372036854775807") ∷ []) ≡ (false ∷ false ∷ true ∷ false ∷ true ∷ false ∷ false ∷ true ∷ [])
unfolding the_law
t277_less = refl

t277_numbers : map whole_number ((codes "0000000000000000005") ∷ (codes "-0") ∷ (codes "+9223372036854775807") ∷ (codes "+5") ∷ (codes "-9223372036854775808") ∷ (codes "-") ∷ []) ≡ ((Some (pos 5)) ∷ (Some (pos 0)) ∷ (Some (pos 9223372036854775807)) ∷ (Some (pos 5)) ∷ (Some (neg_ℤ (pos 9223372036854775808))) ∷ None ∷ [])
unfolding the_law
t277_numbers = refl

abbrev t278 : Table
t278 = record { columns = ((codes "k") ∷ (codes "w") ∷ (codes "v") ∷ []); rows = (((195 ∷ 164 ∷ []) ∷ (codes "00000000000000000001") ∷ (codes "2668942861187708923") ∷ []) ∷ ([] ∷ (codes "80") ∷ (codes "-0") ∷ []) ∷ []); distinct = refl; even = refl; few = lit≤ tt }

abbrev t278_job : Job
unfolding texts
t278_job = record { table = (codes "t"); filters = []; group = (Some (codes "k")); sum = (Some (codes "k")); warn_over = None; error_over = None; few = lit≤ tt }

t278_report : report t278_job (codes "a") t278 ≡ record { outcome = outcome.Error; text = (codes "row 1: not a whole number\n") }
unfolding the_law
t278_report = refl

t278_less : (less (codes "-5") (codes "-9223372036854775808") ∷ less (codes "007") (codes " 1") ∷ less (codes "0000000000000000005") (codes "9999999999999999999") ∷ less (codes "9223372036854775807") (codes "-40") ∷ less (codes "-9223372036854775809") (codes "0") ∷ less (codes "-40") (codes "-9223372036854775809") ∷ less (217 ∷ 163 ∷ []) (codes "-9223372036854775809") ∷ less (codes "+0") (codes "+") ∷ []) ≡ (false ∷ false ∷ false ∷ false ∷ false ∷ false ∷ false ∷ false ∷ [])
unfolding the_law
t278_less = refl

t278_numbers : map whole_number ((codes "-") ∷ (codes "-40") ∷ (codes "-5") ∷ (codes "0000000000000000005") ∷ (codes "-0") ∷ (codes "1x") ∷ []) ≡ (None ∷ (Some (neg_ℤ (pos 40))) ∷ (Some (neg_ℤ (pos 5))) ∷ (Some (pos 5)) ∷ (Some (pos 0)) ∷ None ∷ [])
unfolding the_law
t278_numbers = refl

abbrev t279 : Table
t279 = record { columns = ((codes "w") ∷ (codes "k") ∷ (codes "v") ∷ []); rows = (((codes "-6316959371004280476") ∷ (codes " a") ∷ (codes "-1422353727307530464") ∷ []) ∷ ((codes "9223372036854775807") ∷ (codes "c") ∷ (codes "007") ∷ []) ∷ []); distinct = refl; even = refl; few = lit≤ tt }

abbrev t279_job : Job
unfolding texts
t279_job = record { table = (codes "t"); filters = []; group = (Some (codes "w")); sum = (Some (codes "v")); warn_over = None; error_over = None; few = lit≤ tt }

t279_report : report t279_job (codes "007") t279 ≡ record { outcome = outcome.Normal; text = (codes "key,count,sum\n-6316959371004280476,1,-1422353727307530464\n9223372036854775807,1,7\ntotal,2,-1422353727307530457\n") }
unfolding the_law
t279_report = refl

t279_less : (less (codes "-90") (codes "00000000000000000005") ∷ less (codes " 1") (codes "-9223372036854775808") ∷ less (217 ∷ 163 ∷ []) (codes "0000000000000000005") ∷ less (codes "--1") (codes "9223372036854775808") ∷ less (codes "+") (codes "1.0") ∷ less (codes " 1") [] ∷ less (codes "--1") (codes "-5") ∷ less (codes "0") (codes "0000000000000000005") ∷ []) ≡ (false ∷ false ∷ false ∷ false ∷ false ∷ false ∷ false ∷ true ∷ [])
unfolding the_law
t279_less = refl

t279_numbers : map whole_number ((codes "1 ") ∷ (codes "-199346156018413774") ∷ [] ∷ (codes "-9223372036854775809") ∷ (codes "9999999999999999999") ∷ (codes "5") ∷ []) ≡ (None ∷ (Some (neg_ℤ (pos 199346156018413774))) ∷ None ∷ None ∷ None ∷ (Some (pos 5)) ∷ [])
unfolding the_law
t279_numbers = refl

abbrev t280 : Table
t280 = record { columns = ((codes "w") ∷ (codes "k") ∷ (codes "v") ∷ []); rows = (((codes "-0") ∷ (codes "a") ∷ (codes "5519370923357227836") ∷ []) ∷ ((codes "9223372036854775807") ∷ (codes " a") ∷ (codes "-9223372036854775808") ∷ []) ∷ ((codes "-9223372036854775808") ∷ (codes "\"") ∷ (codes "89") ∷ []) ∷ ((codes "5803158586442280741") ∷ (codes " a") ∷ (codes "9223372036854775807") ∷ []) ∷ []); distinct = refl; even = refl; few = lit≤ tt }

abbrev t280_job : Job
unfolding texts
t280_job = record { table = (codes "t"); filters = (record { column = (codes "k"); test = test.Above; value = (codes "\""); short = refl } ∷ []); group = (Some (codes "k")); sum = (Some (codes "v")); warn_over = None; error_over = (Some 0); few = lit≤ tt }

t280_report : report t280_job (codes "x,y") t280 ≡ record { outcome = outcome.Normal; text = (codes "key,count,sum\ntotal,0,0\n") }
unfolding the_law
t280_report = refl

t280_less : (less (217 ∷ 163 ∷ []) (codes "007") ∷ less (codes "0") (codes "44") ∷ less (codes "1 ") (codes " 1") ∷ less (codes "1x") (codes "-9223372036854775808") ∷ less [] (codes "-9223372036854775809") ∷ less (codes "0") (codes "-8290721403549453220") ∷ less (codes "+") (codes "0000000000000000005") ∷ less (codes "-0") (codes "-8290721403549453220") ∷ []) ≡ (false ∷ true ∷ false ∷ false ∷ false ∷ false ∷ false ∷ false ∷ [])
unfolding the_law
t280_less = refl

t280_numbers : map whole_number ((codes "1 ") ∷ (codes "+") ∷ (codes "1.0") ∷ (codes "+5") ∷ (codes "-") ∷ (codes "9223372036854775808") ∷ []) ≡ (None ∷ None ∷ None ∷ (Some (pos 5)) ∷ None ∷ None ∷ [])
unfolding the_law
t280_numbers = refl

abbrev t281 : Table
t281 = record { columns = ((codes "k") ∷ (codes "v") ∷ []); rows = []; distinct = refl; even = refl; few = lit≤ tt }

abbrev t281_job : Job
unfolding texts
t281_job = record { table = (codes "t"); filters = (record { column = (codes "k"); test = test.StartsWith; value = (codes "+7"); short = refl } ∷ record { column = (codes "k"); test = test.Is; value = (codes "5"); short = refl } ∷ []); group = (Some (codes "k")); sum = (Some (codes "v")); warn_over = None; error_over = (Some 6); few = lit≤ tt }

t281_report : report t281_job (codes "$") t281 ≡ record { outcome = outcome.Normal; text = (codes "key,count,sum\ntotal,0,0\n") }
unfolding the_law
t281_report = refl

t281_less : (less (codes "9223372036854775807") (codes "--1") ∷ less (codes "-5") (codes "76") ∷ less (codes " 1") (codes "-") ∷ less (codes "+9223372036854775807") (codes "1 ") ∷ less (codes "-0") (codes "9999999999999999999") ∷ less (codes "1.0") (codes "9223372036854775808") ∷ less (codes "-5") (codes "-9223372036854775808") ∷ less (codes "00000000000000000005") (codes "5") ∷ []) ≡ (false ∷ true ∷ false ∷ false ∷ false ∷ false ∷ false ∷ false ∷ [])
unfolding the_law
t281_less = refl

t281_numbers : map whole_number ((codes "+0") ∷ (codes "1 ") ∷ (codes "-0") ∷ (codes "5") ∷ (codes "+5") ∷ (codes " 1") ∷ []) ≡ ((Some (pos 0)) ∷ None ∷ (Some (pos 0)) ∷ (Some (pos 5)) ∷ (Some (pos 5)) ∷ None ∷ [])
unfolding the_law
t281_numbers = refl

abbrev t282 : Table
t282 = record { columns = ((codes "k") ∷ (codes "v") ∷ []); rows = (((codes "a") ∷ (codes "-9223372036854775808") ∷ []) ∷ ((codes " a") ∷ (codes "9223372036854775807") ∷ []) ∷ []); distinct = refl; even = refl; few = lit≤ tt }

abbrev t282_job : Job
unfolding texts
t282_job = record { table = (codes "t"); filters = (record { column = (codes "k"); test = test.Above; value = (codes " a"); short = refl } ∷ []); group = (Some (codes "v")); sum = None; warn_over = None; error_over = (Some 1); few = lit≤ tt }

t282_report : report t282_job (codes "5") t282 ≡ record { outcome = outcome.Normal; text = (codes "key,count\ntotal,0\n") }
unfolding the_law
t282_report = refl

t282_less : (less (codes "-9223372036854775808") (codes "-5") ∷ less (codes "-8359185067595987253") (codes "--1") ∷ less (codes "9223372036854775807") (codes "1x") ∷ less (codes "1x") (codes "-9223372036854775809") ∷ less (codes "-9223372036854775809") (codes "007") ∷ less (codes "1 ") (codes "9999999999999999999") ∷ less (codes "+9223372036854775807") (codes "9223372036854775807") ∷ less (codes "-5") (codes "-9223372036854775808") ∷ []) ≡ (true ∷ false ∷ false ∷ false ∷ false ∷ false ∷ false ∷ false ∷ [])
unfolding the_law
t282_less = refl

t282_numbers : map whole_number ((codes "-9223372036854775808") ∷ (codes "+5") ∷ (codes "9223372036854775807") ∷ (codes "1.0") ∷ (codes " 1") ∷ (codes "-9223372036854775809") ∷ []) ≡ ((Some (neg_ℤ (pos 9223372036854775808))) ∷ (Some (pos 5)) ∷ (Some (pos 9223372036854775807)) ∷ None ∷ None ∷ None ∷ [])
unfolding the_law
t282_numbers = refl

abbrev t283 : Table
t283 = record { columns = ((codes "v") ∷ (codes "k") ∷ []); rows = (((codes "-5665618927227931305") ∷ (codes "5") ∷ []) ∷ []); distinct = refl; even = refl; few = lit≤ tt }

abbrev t283_job : Job
unfolding texts
t283_job = record { table = (codes "t"); filters = []; group = (Some (codes "v")); sum = (Some (codes "v")); warn_over = (Some 0); error_over = (Some 1); few = lit≤ tt }

t283_report : report t283_job (codes "-3") t283 ≡ record { outcome = outcome.Warning; text = (codes "key,count,sum\n-5665618927227931305,1,-5665618927227931305\ntotal,1,-5665618927227931305\n") }
unfolding the_law
t283_report = refl

t283_less : (less (codes "007") (codes "1.0") ∷ less (codes "-") (codes "-9223372036854775809") ∷ less (codes "9223372036854775807") (codes "-9223372036854775809") ∷ less (codes "25") (codes "0000000000000000005") ∷ less (codes "-5") (codes "0") ∷ less (codes "1.0") (codes "007") ∷ less (217 ∷ 163 ∷ []) (codes "+5") ∷ less (codes "+9223372036854775807") (codes "+9223372036854775807") ∷ []) ≡ (false ∷ false ∷ false ∷ false ∷ true ∷ false ∷ false ∷ false ∷ [])
unfolding the_law
t283_less = refl

t283_numbers : map whole_number ((codes "-9223372036854775808") ∷ (codes "+0") ∷ (codes "007") ∷ (codes "+9223372036854775807") ∷ (codes "25") ∷ (codes "9999999999999999999") ∷ []) ≡ ((Some (neg_ℤ (pos 9223372036854775808))) ∷ (Some (pos 0)) ∷ (Some (pos 7)) ∷ (Some (pos 9223372036854775807)) ∷ (Some (pos 25)) ∷ None ∷ [])
unfolding the_law
t283_numbers = refl

abbrev t284 : Table
t284 = record { columns = ((codes "k") ∷ (codes "v") ∷ []); rows = (((0 ∷ []) ∷ (codes "-0") ∷ []) ∷ []); distinct = refl; even = refl; few = lit≤ tt }

abbrev t284_job : Job
unfolding texts
t284_job = record { table = (codes "t"); filters = []; group = (Some (codes "v")); sum = None; warn_over = (Some 1); error_over = (Some 4); few = lit≤ tt }

t284_report : report t284_job (195 ∷ 164 ∷ []) t284 ≡ record { outcome = outcome.Normal; text = (codes "key,count\n-0,1\ntotal,1\n") }
unfolding the_law
t284_report = refl

t284_less : (less (codes "-9223372036854775808") (codes "-9223372036854775809") ∷ less (codes "--1") (codes "-5") ∷ less (codes "0") [] ∷ less (codes "0") (codes "1 ") ∷ less (codes "5") (codes "007") ∷ less (codes "+5") (codes "1x") ∷ less (codes "-9223372036854775809") (codes "9223372036854775808") ∷ less (codes "1 ") (codes "007") ∷ []) ≡ (false ∷ false ∷ false ∷ false ∷ true ∷ false ∷ false ∷ false ∷ [])
unfolding the_law
t284_less = refl

t284_numbers : map whole_number ((codes "-9223372036854775808") ∷ (codes "--1") ∷ (codes "0000000000000000005") ∷ [] ∷ (codes "1.0") ∷ (codes "-9223372036854775809") ∷ []) ≡ ((Some (neg_ℤ (pos 9223372036854775808))) ∷ None ∷ (Some (pos 5)) ∷ None ∷ None ∷ None ∷ [])
unfolding the_law
t284_numbers = refl

abbrev t285 : Table
t285 = record { columns = ((codes "k") ∷ (codes "w") ∷ (codes "v") ∷ []); rows = (((codes "\"") ∷ (codes "b") ∷ (codes "-9176082995755610158") ∷ []) ∷ ((codes "b") ∷ (codes "\"") ∷ (codes "9223372036854775807") ∷ []) ∷ []); distinct = refl; even = refl; few = lit≤ tt }

abbrev t285_job : Job
unfolding texts
t285_job = record { table = (codes "t"); filters = []; group = (Some (codes "k")); sum = None; warn_over = (Some 1); error_over = None; few = lit≤ tt }

t285_report : report t285_job (195 ∷ 164 ∷ []) t285 ≡ record { outcome = outcome.Warning; text = (codes "key,count\n\"\"\"\",1\nb,1\ntotal,2\n") }
unfolding the_law
t285_report = refl

t285_less : (less (codes "5") (codes "+0") ∷ less (codes "1 ") (codes "+9223372036854775807") ∷ less (codes "1.0") (codes "--1") ∷ less (codes "14") (codes "-9223372036854775808") ∷ less (codes "9223372036854775808") (codes "+") ∷ less (codes "+0") (codes "+9223372036854775807") ∷ less (codes "007") (codes "14") ∷ less (codes "--1") (codes "007") ∷ []) ≡ (false ∷ false ∷ false ∷ false ∷ false ∷ true ∷ true ∷ false ∷ [])
unfolding the_law
t285_less = refl

t285_numbers : map whole_number ((codes "007") ∷ (codes "-9223372036854775808") ∷ (codes "-") ∷ (codes "-9223372036854775809") ∷ (codes "0") ∷ (codes "-3474798656467988141") ∷ []) ≡ ((Some (pos 7)) ∷ (Some (neg_ℤ (pos 9223372036854775808))) ∷ None ∷ None ∷ (Some (pos 0)) ∷ (Some (neg_ℤ (pos 3474798656467988141))) ∷ [])
unfolding the_law
t285_numbers = refl

abbrev t286 : Table
t286 = record { columns = ((codes "w") ∷ (codes "v") ∷ (codes "k") ∷ []); rows = (((codes "4856848999398440033") ∷ (codes "3") ∷ (99 ∷ 114 ∷ 13 ∷ 99 ∷ 114 ∷ []) ∷ []) ∷ ((codes "54") ∷ (codes "9223372036854775807") ∷ (99 ∷ 114 ∷ 13 ∷ 99 ∷ 114 ∷ []) ∷ []) ∷ ((codes "-0") ∷ (codes "96") ∷ (99 ∷ 114 ∷ 13 ∷ 99 ∷ 114 ∷ []) ∷ []) ∷ ((codes "-9223372036854775808") ∷ (codes "+3") ∷ (99 ∷ 114 ∷ 13 ∷ 99 ∷ 114 ∷ []) ∷ []) ∷ []); distinct = refl; even = refl; few = lit≤ tt }

abbrev t286_job : Job
unfolding texts
t286_job = record { table = (codes "t"); filters = (record { column = (codes "w"); test = test.IsNot; value = (codes "4856848999398440033"); short = refl } ∷ record { column = (codes "w"); test = test.Above; value = (codes "54"); short = refl } ∷ []); group = None; sum = (Some (codes "v")); warn_over = None; error_over = None; few = lit≤ tt }

t286_report : report t286_job (codes "x,y") t286 ≡ record { outcome = outcome.Normal; text = (codes "key,count,sum\ntotal,0,0\n") }
unfolding the_law
t286_report = refl

t286_less : (less (codes "-9223372036854775809") (codes "9223372036854775807") ∷ less (codes "-75") (217 ∷ 163 ∷ []) ∷ less (codes "+5") (codes "-5") ∷ less (217 ∷ 163 ∷ []) (codes "+") ∷ less (codes "+") (codes "--1") ∷ less (codes "+0") (codes "9223372036854775807") ∷ less [] (codes "1x") ∷ less (codes "-75") (codes "-75") ∷ []) ≡ (false ∷ false ∷ false ∷ false ∷ false ∷ true ∷ false ∷ false ∷ [])
unfolding the_law
t286_less = refl

t286_numbers : map whole_number ((codes "+5") ∷ (codes "0000000000000000005") ∷ (codes "-0") ∷ (codes "-9223372036854775808") ∷ (codes "007") ∷ (codes "-9223372036854775809") ∷ []) ≡ ((Some (pos 5)) ∷ (Some (pos 5)) ∷ (Some (pos 0)) ∷ (Some (neg_ℤ (pos 9223372036854775808))) ∷ (Some (pos 7)) ∷ None ∷ [])
unfolding the_law
t286_numbers = refl
