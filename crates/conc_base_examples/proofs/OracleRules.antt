-- Places, admission and exclusion of random managers and entries, and texts of moments.
use Rattle.std.proofs.Common.{◌≡◌, true, false, List, [], ◌∷◌, map, Option, None, Some, refl, lit≤}
use Rattle.std.specs.Prelude.{codes}
use Rattle.conc_types.specs.declared.item.Item.{Item}
use Rattle.conc_types.specs.declared.item.Item.TheVariants as item
use Rattle.conc_types.specs.declared.item.Reach.TheVariants as reach
use Rattle.conc_types.specs.declared.item.Scope.TheVariants as scope
use Rattle.conc_types.specs.declared.plan.Req.{Req}
use Rattle.conc_types.specs.declared.setup.Setup.{Setup}
use Rattle.conc_types.specs.Shifts.{most_places}
use Rattle.conc_base_law.specs.Exclusion.{excludes}
use Rattle.conc_base_law.specs.Managers.{admits, places}
use Rattle.conc_base_law.specs.Moments.{moment_text}
use Rattle.conc_base_examples.proofs.Computed.{the_law}
use Rattle.conc_base_examples.proofs.OracleWords.{request_by}
use Rattle.conc_base_examples.proofs.Plans.{texts, id, moment}

abbrev d40_setup : Setup
unfolding texts
d40_setup = record {
  tables = ((codes "t") ∷ []);
  programs = (record { name = (codes "P0"); request_type = (codes "A"); enabled = true; run_alone = false; restart = false; job = record { table = (codes "t"); filters = []; group = None; sum = None; warn_over = None; error_over = None; few = lit≤ tt }; post = None; short = refl; sums = refl } ∷ record { name = (codes "P1"); request_type = (codes "B"); enabled = true; run_alone = true; restart = false; job = record { table = (codes "t"); filters = []; group = None; sum = None; warn_over = None; error_over = None; few = lit≤ tt }; post = None; short = refl; sums = refl } ∷ record { name = (codes "P2"); request_type = (codes "A"); enabled = true; run_alone = false; restart = false; job = record { table = (codes "t"); filters = []; group = None; sum = None; warn_over = None; error_over = None; few = lit≤ tt }; post = None; short = refl; sums = refl } ∷ []);
  entries = (record { owner = (item.Set 1); other = (item.Set 0); scope = scope.Program; reach = reach.Domain } ∷ []);
  managers = (record { name = (codes "M"); include = (record { program = (Some 1); request_type = None; user = (Some (codes "ann")); names = refl } ∷ []); exclude = []; shifts = (record { date = None; days = 0; times = (Some (36000, 68400)); places = 0; valid = refl } ∷ record { date = (Some 739313); days = 0; times = (Some (57600, 75600)); places = 4; valid = refl } ∷ record { date = None; days = 64; times = None; places = 5; valid = refl } ∷ record { date = None; days = 6; times = None; places = 5; valid = refl } ∷ []); few_rules = lit≤ tt; few_shifts = lit≤ tt } ∷ record { name = (codes "N"); include = (record { program = None; request_type = (Some []); user = None; names = refl } ∷ record { program = (Some 2); request_type = None; user = (Some (codes "bob")); names = refl } ∷ []); exclude = (record { program = (Some 0); request_type = None; user = None; names = refl } ∷ []); shifts = []; few_rules = lit≤ tt; few_shifts = lit≤ tt } ∷ []);
  sets = (record { name = (codes "S0"); stages = (record { name = (codes "s"); critical = false; links = (None ∷ None ∷ None ∷ []); members = (0 ∷ []); near = refl; some = refl } ∷ []); some = refl; forward = refl } ∷ record { name = (codes "S1"); stages = (record { name = (codes "s"); critical = false; links = (None ∷ None ∷ None ∷ []); members = (0 ∷ []); near = refl; some = refl } ∷ []); some = refl; forward = refl } ∷ []);
  few_tables = lit≤ tt;
  few_programs = lit≤ tt;
  few_entries = lit≤ tt;
  few_managers = lit≤ tt;
  few_sets = lit≤ tt;
  few_places = lit≤ tt;
  named = refl;
  references = refl;
}

abbrev d40 : List (Req × Option Item)
d40 = ((request_by 1 1 (item.Program 2) (codes "ann") (codes "A") 50 0 (codes "E") [] None 0, None) ∷ (request_by 2 1 (item.Set 1) (codes "ann") [] 50 0 (codes "E") [] None 0, None) ∷ (request_by 3 1 (item.Set 0) (codes "cy") [] 50 0 (codes "E") [] None 0, None) ∷ (request_by 4 1 (item.Program 1) (codes "cy") (codes "B") 50 0 (codes "E") [] None 0, None) ∷ (request_by 5 1 (item.Program 1) (codes "ann") (codes "B") 50 0 (codes "D") [] (Some (id 2)) 1, (Some (item.Set 1))) ∷ (request_by 6 1 (item.Program 1) (codes "ann") (codes "B") 50 0 (codes "D") [] None 0, None) ∷ (request_by 7 1 (item.Program 2) (codes "bob") (codes "A") 50 0 (codes "E") [] (Some (id 2)) 1, (Some (item.Set 1))) ∷ [])

d40_excludes : map (λ x. map (λ y. excludes d40_setup x.0 y.0 x.1 y.1) d40) d40 ≡ ((false ∷ false ∷ false ∷ true ∷ false ∷ false ∷ false ∷ []) ∷ (false ∷ false ∷ true ∷ true ∷ false ∷ false ∷ false ∷ []) ∷ (false ∷ true ∷ false ∷ true ∷ false ∷ false ∷ false ∷ []) ∷ (true ∷ true ∷ true ∷ false ∷ false ∷ false ∷ true ∷ []) ∷ (false ∷ false ∷ false ∷ false ∷ false ∷ true ∷ false ∷ []) ∷ (false ∷ false ∷ false ∷ false ∷ true ∷ false ∷ false ∷ []) ∷ (false ∷ false ∷ false ∷ true ∷ false ∷ false ∷ false ∷ []) ∷ [])
unfolding the_law
d40_excludes = refl

d40_admits : map (λ m. map (λ x. admits m x.0) d40) d40_setup.managers ≡ ((false ∷ false ∷ false ∷ false ∷ true ∷ true ∷ false ∷ []) ∷ (false ∷ false ∷ false ∷ false ∷ false ∷ false ∷ true ∷ []) ∷ [])
unfolding the_law
d40_admits = refl

d40_places : map (λ m. map (places m) ((moment 63877111199) ∷ (moment 63876700799) ∷ (moment 63876700800) ∷ (moment 63876718799) ∷ (moment 63877075199) ∷ (moment 63877161600) ∷ (moment 63876643199) ∷ (moment 63876729600) ∷ [])) d40_setup.managers ≡ ((5 ∷ 5 ∷ 4 ∷ 4 ∷ 0 ∷ 0 ∷ 0 ∷ 5 ∷ []) ∷ (1 ∷ 1 ∷ 1 ∷ 1 ∷ 1 ∷ 1 ∷ 1 ∷ 1 ∷ []) ∷ [])
unfolding the_law
d40_places = refl

d40_in_all : map (λ m. most_places m.shifts) d40_setup.managers ≡ (5 ∷ 1 ∷ [])
unfolding the_law
d40_in_all = refl

d40_moments : map moment_text ((moment 292212652876) ∷ (moment 286126017626) ∷ (moment 139478443162) ∷ (moment 99705600) ∷ (moment 94608000) ∷ (moment 94607999) ∷ []) ≡ ((codes "9260-11-06T21:21:16") ∷ (codes "9067-12-22T17:20:26") ∷ (codes "4420-11-23T19:59:22") ∷ (codes "0004-02-29T00:00:00") ∷ (codes "0004-01-01T00:00:00") ∷ (codes "0003-12-31T23:59:59") ∷ [])
unfolding the_law
d40_moments = refl

abbrev d41_setup : Setup
unfolding texts
d41_setup = record {
  tables = ((codes "t") ∷ []);
  programs = (record { name = (codes "P0"); request_type = (codes "A"); enabled = true; run_alone = false; restart = false; job = record { table = (codes "t"); filters = []; group = None; sum = None; warn_over = None; error_over = None; few = lit≤ tt }; post = None; short = refl; sums = refl } ∷ record { name = (codes "P1"); request_type = []; enabled = true; run_alone = false; restart = false; job = record { table = (codes "t"); filters = []; group = None; sum = None; warn_over = None; error_over = None; few = lit≤ tt }; post = None; short = refl; sums = refl } ∷ record { name = (codes "P2"); request_type = (codes "A"); enabled = true; run_alone = false; restart = false; job = record { table = (codes "t"); filters = []; group = None; sum = None; warn_over = None; error_over = None; few = lit≤ tt }; post = None; short = refl; sums = refl } ∷ []);
  entries = (record { owner = (item.Program 2); other = (item.Set 0); scope = scope.Set; reach = reach.Domain } ∷ []);
  managers = (record { name = (codes "M"); include = []; exclude = (record { program = None; request_type = None; user = (Some (codes "bob")); names = refl } ∷ record { program = None; request_type = (Some (codes "B")); user = (Some (codes "ann")); names = refl } ∷ []); shifts = []; few_rules = lit≤ tt; few_shifts = lit≤ tt } ∷ record { name = (codes "N"); include = []; exclude = []; shifts = (record { date = None; days = 0; times = (Some (25200, 36000)); places = 4; valid = refl } ∷ []); few_rules = lit≤ tt; few_shifts = lit≤ tt } ∷ []);
  sets = (record { name = (codes "S0"); stages = (record { name = (codes "s"); critical = false; links = (None ∷ None ∷ None ∷ []); members = (0 ∷ []); near = refl; some = refl } ∷ []); some = refl; forward = refl } ∷ record { name = (codes "S1"); stages = (record { name = (codes "s"); critical = false; links = (None ∷ None ∷ None ∷ []); members = (0 ∷ []); near = refl; some = refl } ∷ []); some = refl; forward = refl } ∷ []);
  few_tables = lit≤ tt;
  few_programs = lit≤ tt;
  few_entries = lit≤ tt;
  few_managers = lit≤ tt;
  few_sets = lit≤ tt;
  few_places = lit≤ tt;
  named = refl;
  references = refl;
}

abbrev d41 : List (Req × Option Item)
d41 = ((request_by 1 1 (item.Set 0) (codes "bob") [] 50 0 (codes "D") [] None 0, None) ∷ (request_by 2 1 (item.Program 2) (codes "ann") (codes "A") 50 0 (codes "D") [] (Some (id 1)) 1, (Some (item.Set 0))) ∷ (request_by 3 1 (item.Set 0) (codes "ann") [] 50 0 (codes "E") [] None 0, None) ∷ (request_by 4 1 (item.Program 0) (codes "cy") (codes "A") 50 0 (codes "D") [] (Some (id 1)) 1, (Some (item.Set 0))) ∷ (request_by 5 1 (item.Program 2) (codes "ann") (codes "A") 50 0 (codes "E") [] (Some (id 3)) 1, (Some (item.Set 0))) ∷ (request_by 6 1 (item.Program 2) (codes "ann") (codes "A") 50 0 (codes "D") [] None 0, None) ∷ (request_by 7 1 (item.Program 0) (codes "cy") (codes "A") 50 0 (codes "D") [] None 0, None) ∷ [])

d41_excludes : map (λ x. map (λ y. excludes d41_setup x.0 y.0 x.1 y.1) d41) d41 ≡ ((false ∷ false ∷ false ∷ false ∷ false ∷ true ∷ false ∷ []) ∷ (false ∷ false ∷ false ∷ true ∷ false ∷ true ∷ false ∷ []) ∷ (false ∷ false ∷ false ∷ false ∷ false ∷ false ∷ false ∷ []) ∷ (false ∷ true ∷ false ∷ false ∷ false ∷ true ∷ false ∷ []) ∷ (false ∷ false ∷ false ∷ false ∷ false ∷ false ∷ false ∷ []) ∷ (true ∷ true ∷ false ∷ true ∷ false ∷ false ∷ false ∷ []) ∷ (false ∷ false ∷ false ∷ false ∷ false ∷ false ∷ false ∷ []) ∷ [])
unfolding the_law
d41_excludes = refl

d41_admits : map (λ m. map (λ x. admits m x.0) d41) d41_setup.managers ≡ ((false ∷ true ∷ false ∷ true ∷ true ∷ true ∷ true ∷ []) ∷ (false ∷ true ∷ false ∷ true ∷ true ∷ true ∷ true ∷ []) ∷ [])
unfolding the_law
d41_admits = refl

d41_places : map (λ m. map (places m) ((moment 63876621600) ∷ (moment 63876959999) ∷ (moment 63877244401) ∷ (moment 63876571199) ∷ (moment 63877186801) ∷ (moment 63877093200) ∷ (moment 63876963601) ∷ (moment 63877179599) ∷ [])) d41_setup.managers ≡ ((1 ∷ 1 ∷ 1 ∷ 1 ∷ 1 ∷ 1 ∷ 1 ∷ 1 ∷ []) ∷ (0 ∷ 0 ∷ 0 ∷ 0 ∷ 4 ∷ 0 ∷ 0 ∷ 0 ∷ []) ∷ [])
unfolding the_law
d41_places = refl

d41_in_all : map (λ m. most_places m.shifts) d41_setup.managers ≡ (1 ∷ 4 ∷ [])
unfolding the_law
d41_in_all = refl

d41_moments : map moment_text ((moment 199447061663) ∷ (moment 252258123657) ∷ (moment 44882472461) ∷ (moment 315414259200) ∷ (moment 315411667200) ∷ (moment 315537897599) ∷ []) ≡ ((codes "6321-03-25T01:34:23") ∷ (codes "7994-09-29T05:00:57") ∷ (codes "1423-04-10T01:27:41") ∷ (codes "9996-01-31T00:00:00") ∷ (codes "9996-01-01T00:00:00") ∷ (codes "9999-12-31T23:59:59") ∷ [])
unfolding the_law
d41_moments = refl

abbrev d42_setup : Setup
unfolding texts
d42_setup = record {
  tables = ((codes "t") ∷ []);
  programs = (record { name = (codes "P0"); request_type = (codes "B"); enabled = true; run_alone = true; restart = false; job = record { table = (codes "t"); filters = []; group = None; sum = None; warn_over = None; error_over = None; few = lit≤ tt }; post = None; short = refl; sums = refl } ∷ record { name = (codes "P1"); request_type = (codes "B"); enabled = true; run_alone = false; restart = false; job = record { table = (codes "t"); filters = []; group = None; sum = None; warn_over = None; error_over = None; few = lit≤ tt }; post = None; short = refl; sums = refl } ∷ record { name = (codes "P2"); request_type = []; enabled = true; run_alone = true; restart = false; job = record { table = (codes "t"); filters = []; group = None; sum = None; warn_over = None; error_over = None; few = lit≤ tt }; post = None; short = refl; sums = refl } ∷ []);
  entries = (record { owner = (item.Set 1); other = (item.Set 1); scope = scope.Set; reach = reach.Domain } ∷ record { owner = (item.Program 0); other = (item.Set 1); scope = scope.Program; reach = reach.Domain } ∷ record { owner = (item.Set 1); other = (item.Set 0); scope = scope.Program; reach = reach.Global } ∷ []);
  managers = (record { name = (codes "M"); include = []; exclude = []; shifts = (record { date = None; days = 127; times = None; places = 2; valid = refl } ∷ []); few_rules = lit≤ tt; few_shifts = lit≤ tt } ∷ record { name = (codes "N"); include = (record { program = None; request_type = None; user = (Some (codes "ann")); names = refl } ∷ []); exclude = (record { program = (Some 1); request_type = None; user = (Some (codes "bob")); names = refl } ∷ []); shifts = (record { date = (Some 739313); days = 0; times = None; places = 0; valid = refl } ∷ record { date = None; days = 0; times = None; places = 3; valid = refl } ∷ record { date = (Some 739313); days = 0; times = None; places = 4; valid = refl } ∷ []); few_rules = lit≤ tt; few_shifts = lit≤ tt } ∷ []);
  sets = (record { name = (codes "S0"); stages = (record { name = (codes "s"); critical = false; links = (None ∷ None ∷ None ∷ []); members = (0 ∷ []); near = refl; some = refl } ∷ []); some = refl; forward = refl } ∷ record { name = (codes "S1"); stages = (record { name = (codes "s"); critical = false; links = (None ∷ None ∷ None ∷ []); members = (0 ∷ []); near = refl; some = refl } ∷ []); some = refl; forward = refl } ∷ []);
  few_tables = lit≤ tt;
  few_programs = lit≤ tt;
  few_entries = lit≤ tt;
  few_managers = lit≤ tt;
  few_sets = lit≤ tt;
  few_places = lit≤ tt;
  named = refl;
  references = refl;
}

abbrev d42 : List (Req × Option Item)
d42 = ((request_by 1 1 (item.Set 0) (codes "cy") [] 50 0 (codes "D") [] None 0, None) ∷ (request_by 2 1 (item.Program 2) (codes "cy") [] 50 0 (codes "D") [] (Some (id 1)) 1, (Some (item.Set 0))) ∷ (request_by 3 1 (item.Program 2) (codes "bob") [] 50 0 (codes "E") [] None 0, None) ∷ (request_by 4 1 (item.Program 2) (codes "ann") [] 50 0 (codes "D") [] (Some (id 1)) 1, (Some (item.Set 0))) ∷ (request_by 5 1 (item.Program 1) (codes "ann") (codes "B") 50 0 (codes "D") [] (Some (id 1)) 1, (Some (item.Set 0))) ∷ (request_by 6 1 (item.Program 0) (codes "bob") (codes "B") 50 0 (codes "D") [] (Some (id 1)) 1, (Some (item.Set 0))) ∷ (request_by 7 1 (item.Set 0) (codes "bob") [] 50 0 (codes "D") [] None 0, None) ∷ [])

d42_excludes : map (λ x. map (λ y. excludes d42_setup x.0 y.0 x.1 y.1) d42) d42 ≡ ((false ∷ false ∷ false ∷ false ∷ false ∷ false ∷ false ∷ []) ∷ (false ∷ false ∷ false ∷ true ∷ true ∷ true ∷ true ∷ []) ∷ (false ∷ false ∷ false ∷ false ∷ false ∷ false ∷ false ∷ []) ∷ (false ∷ true ∷ false ∷ false ∷ true ∷ true ∷ true ∷ []) ∷ (false ∷ true ∷ false ∷ true ∷ false ∷ true ∷ false ∷ []) ∷ (false ∷ true ∷ false ∷ true ∷ true ∷ false ∷ true ∷ []) ∷ (false ∷ true ∷ false ∷ true ∷ false ∷ true ∷ false ∷ []) ∷ [])
unfolding the_law
d42_excludes = refl

d42_admits : map (λ m. map (λ x. admits m x.0) d42) d42_setup.managers ≡ ((false ∷ true ∷ true ∷ true ∷ true ∷ true ∷ false ∷ []) ∷ (false ∷ false ∷ false ∷ true ∷ true ∷ false ∷ false ∷ []) ∷ [])
unfolding the_law
d42_admits = refl

d42_places : map (λ m. map (places m) ((moment 63876729600) ∷ (moment 63876643200) ∷ (moment 63876729600) ∷ (moment 63876729599) ∷ (moment 63876643199) ∷ (moment 63876643199) ∷ (moment 63876729599) ∷ (moment 63876729599) ∷ [])) d42_setup.managers ≡ ((2 ∷ 2 ∷ 2 ∷ 2 ∷ 2 ∷ 2 ∷ 2 ∷ 2 ∷ []) ∷ (3 ∷ 4 ∷ 3 ∷ 4 ∷ 3 ∷ 3 ∷ 4 ∷ 4 ∷ []) ∷ [])
unfolding the_law
d42_places = refl

d42_in_all : map (λ m. most_places m.shifts) d42_setup.managers ≡ (2 ∷ 4 ∷ [])
unfolding the_law
d42_in_all = refl

d42_moments : map moment_text ((moment 207810993221) ∷ (moment 289773067778) ∷ (moment 8342677039) ∷ (moment 59206031999) ∷ (moment 59200848000) ∷ (moment 59200847999) ∷ []) ≡ ((codes "6586-04-08T19:53:41") ∷ (codes "9183-07-18T22:49:38") ∷ (codes "0265-05-15T18:17:19") ∷ (codes "1877-03-01T23:59:59") ∷ (codes "1877-01-01T00:00:00") ∷ (codes "1876-12-31T23:59:59") ∷ [])
unfolding the_law
d42_moments = refl

abbrev d43_setup : Setup
unfolding texts
d43_setup = record {
  tables = ((codes "t") ∷ []);
  programs = (record { name = (codes "P0"); request_type = []; enabled = true; run_alone = false; restart = false; job = record { table = (codes "t"); filters = []; group = None; sum = None; warn_over = None; error_over = None; few = lit≤ tt }; post = None; short = refl; sums = refl } ∷ record { name = (codes "P1"); request_type = []; enabled = true; run_alone = false; restart = false; job = record { table = (codes "t"); filters = []; group = None; sum = None; warn_over = None; error_over = None; few = lit≤ tt }; post = None; short = refl; sums = refl } ∷ record { name = (codes "P2"); request_type = (codes "A"); enabled = true; run_alone = false; restart = false; job = record { table = (codes "t"); filters = []; group = None; sum = None; warn_over = None; error_over = None; few = lit≤ tt }; post = None; short = refl; sums = refl } ∷ []);
  entries = (record { owner = (item.Set 1); other = (item.Set 0); scope = scope.Program; reach = reach.Global } ∷ record { owner = (item.Set 1); other = (item.Program 1); scope = scope.Set; reach = reach.Global } ∷ []);
  managers = (record { name = (codes "M"); include = []; exclude = []; shifts = (record { date = (Some 739312); days = 0; times = None; places = 3; valid = refl } ∷ []); few_rules = lit≤ tt; few_shifts = lit≤ tt } ∷ record { name = (codes "N"); include = []; exclude = []; shifts = (record { date = None; days = 127; times = (Some (3600, 64800)); places = 1; valid = refl } ∷ []); few_rules = lit≤ tt; few_shifts = lit≤ tt } ∷ []);
  sets = (record { name = (codes "S0"); stages = (record { name = (codes "s"); critical = false; links = (None ∷ None ∷ None ∷ []); members = (0 ∷ []); near = refl; some = refl } ∷ []); some = refl; forward = refl } ∷ record { name = (codes "S1"); stages = (record { name = (codes "s"); critical = false; links = (None ∷ None ∷ None ∷ []); members = (0 ∷ []); near = refl; some = refl } ∷ []); some = refl; forward = refl } ∷ []);
  few_tables = lit≤ tt;
  few_programs = lit≤ tt;
  few_entries = lit≤ tt;
  few_managers = lit≤ tt;
  few_sets = lit≤ tt;
  few_places = lit≤ tt;
  named = refl;
  references = refl;
}

abbrev d43 : List (Req × Option Item)
d43 = ((request_by 1 1 (item.Set 0) (codes "ann") [] 50 0 (codes "E") [] None 0, None) ∷ (request_by 2 1 (item.Program 2) (codes "ann") (codes "A") 50 0 (codes "D") [] None 0, None) ∷ (request_by 3 1 (item.Set 0) (codes "bob") [] 50 0 (codes "E") [] None 0, None) ∷ (request_by 4 1 (item.Set 0) (codes "ann") [] 50 0 (codes "D") [] None 0, None) ∷ (request_by 5 1 (item.Program 2) (codes "cy") (codes "A") 50 0 (codes "D") [] None 0, None) ∷ (request_by 6 1 (item.Program 0) (codes "ann") [] 50 0 (codes "D") [] (Some (id 4)) 1, (Some (item.Set 0))) ∷ (request_by 7 1 (item.Set 1) (codes "bob") [] 50 0 (codes "D") [] None 0, None) ∷ [])

d43_excludes : map (λ x. map (λ y. excludes d43_setup x.0 y.0 x.1 y.1) d43) d43 ≡ ((false ∷ false ∷ false ∷ false ∷ false ∷ false ∷ true ∷ []) ∷ (false ∷ false ∷ false ∷ false ∷ false ∷ false ∷ false ∷ []) ∷ (false ∷ false ∷ false ∷ false ∷ false ∷ false ∷ true ∷ []) ∷ (false ∷ false ∷ false ∷ false ∷ false ∷ false ∷ true ∷ []) ∷ (false ∷ false ∷ false ∷ false ∷ false ∷ false ∷ false ∷ []) ∷ (false ∷ false ∷ false ∷ false ∷ false ∷ false ∷ false ∷ []) ∷ (true ∷ false ∷ true ∷ true ∷ false ∷ false ∷ false ∷ []) ∷ [])
unfolding the_law
d43_excludes = refl

d43_admits : map (λ m. map (λ x. admits m x.0) d43) d43_setup.managers ≡ ((false ∷ true ∷ false ∷ false ∷ true ∷ true ∷ false ∷ []) ∷ (false ∷ true ∷ false ∷ false ∷ true ∷ true ∷ false ∷ []) ∷ [])
unfolding the_law
d43_admits = refl

d43_places : map (λ m. map (places m) ((moment 63876643199) ∷ (moment 63876733199) ∷ (moment 63876621600) ∷ (moment 63876556799) ∷ (moment 63876643200) ∷ (moment 63876556800) ∷ (moment 63877053599) ∷ (moment 63876646800) ∷ [])) d43_setup.managers ≡ ((3 ∷ 0 ∷ 3 ∷ 0 ∷ 0 ∷ 3 ∷ 0 ∷ 0 ∷ []) ∷ (0 ∷ 0 ∷ 0 ∷ 0 ∷ 0 ∷ 0 ∷ 1 ∷ 1 ∷ []) ∷ [])
unfolding the_law
d43_places = refl

d43_in_all : map (λ m. most_places m.shifts) d43_setup.managers ≡ (3 ∷ 1 ∷ [])
unfolding the_law
d43_in_all = refl

d43_moments : map moment_text ((moment 55845395878) ∷ (moment 69253426331) ∷ (moment 11744977718) ∷ (moment 3129407999) ∷ (moment 3124137600) ∷ (moment 315537897599) ∷ []) ≡ ((codes "1770-09-02T17:57:58") ∷ (codes "2195-07-22T06:52:11") ∷ (codes "0373-03-09T05:48:38") ∷ (codes "0100-03-02T23:59:59") ∷ (codes "0100-01-01T00:00:00") ∷ (codes "9999-12-31T23:59:59") ∷ [])
unfolding the_law
d43_moments = refl

abbrev d44_setup : Setup
unfolding texts
d44_setup = record {
  tables = ((codes "t") ∷ []);
  programs = (record { name = (codes "P0"); request_type = (codes "A"); enabled = true; run_alone = false; restart = false; job = record { table = (codes "t"); filters = []; group = None; sum = None; warn_over = None; error_over = None; few = lit≤ tt }; post = None; short = refl; sums = refl } ∷ record { name = (codes "P1"); request_type = (codes "B"); enabled = true; run_alone = false; restart = false; job = record { table = (codes "t"); filters = []; group = None; sum = None; warn_over = None; error_over = None; few = lit≤ tt }; post = None; short = refl; sums = refl } ∷ record { name = (codes "P2"); request_type = []; enabled = true; run_alone = false; restart = false; job = record { table = (codes "t"); filters = []; group = None; sum = None; warn_over = None; error_over = None; few = lit≤ tt }; post = None; short = refl; sums = refl } ∷ []);
  entries = (record { owner = (item.Set 0); other = (item.Program 1); scope = scope.Set; reach = reach.Domain } ∷ record { owner = (item.Program 2); other = (item.Program 0); scope = scope.Program; reach = reach.Domain } ∷ record { owner = (item.Set 1); other = (item.Set 1); scope = scope.Program; reach = reach.Global } ∷ []);
  managers = (record { name = (codes "M"); include = []; exclude = (record { program = None; request_type = None; user = (Some (codes "bob")); names = refl } ∷ []); shifts = (record { date = (Some 739314); days = 0; times = None; places = 2; valid = refl } ∷ record { date = (Some 739313); days = 0; times = (Some (21600, 54000)); places = 1; valid = refl } ∷ []); few_rules = lit≤ tt; few_shifts = lit≤ tt } ∷ record { name = (codes "N"); include = (record { program = (Some 2); request_type = None; user = (Some (codes "bob")); names = refl } ∷ record { program = None; request_type = (Some []); user = (Some (codes "bob")); names = refl } ∷ []); exclude = []; shifts = (record { date = (Some 739314); days = 0; times = None; places = 5; valid = refl } ∷ record { date = None; days = 58; times = (Some (50400, 82800)); places = 5; valid = refl } ∷ record { date = None; days = 0; times = None; places = 5; valid = refl } ∷ record { date = (Some 739312); days = 0; times = (Some (0, 64800)); places = 4; valid = refl } ∷ record { date = None; days = 0; times = None; places = 2; valid = refl } ∷ record { date = None; days = 7; times = None; places = 0; valid = refl } ∷ []); few_rules = lit≤ tt; few_shifts = lit≤ tt } ∷ []);
  sets = (record { name = (codes "S0"); stages = (record { name = (codes "s"); critical = false; links = (None ∷ None ∷ None ∷ []); members = (0 ∷ []); near = refl; some = refl } ∷ []); some = refl; forward = refl } ∷ record { name = (codes "S1"); stages = (record { name = (codes "s"); critical = false; links = (None ∷ None ∷ None ∷ []); members = (0 ∷ []); near = refl; some = refl } ∷ []); some = refl; forward = refl } ∷ []);
  few_tables = lit≤ tt;
  few_programs = lit≤ tt;
  few_entries = lit≤ tt;
  few_managers = lit≤ tt;
  few_sets = lit≤ tt;
  few_places = lit≤ tt;
  named = refl;
  references = refl;
}

abbrev d44 : List (Req × Option Item)
d44 = ((request_by 1 1 (item.Set 1) (codes "ann") [] 50 0 (codes "D") [] None 0, None) ∷ (request_by 2 1 (item.Program 0) (codes "cy") (codes "A") 50 0 (codes "E") [] (Some (id 1)) 1, (Some (item.Set 1))) ∷ (request_by 3 1 (item.Program 2) (codes "bob") [] 50 0 (codes "E") [] None 0, None) ∷ (request_by 4 1 (item.Program 1) (codes "bob") (codes "B") 50 0 (codes "D") [] (Some (id 1)) 1, (Some (item.Set 1))) ∷ (request_by 5 1 (item.Program 0) (codes "ann") (codes "A") 50 0 (codes "D") [] (Some (id 1)) 1, (Some (item.Set 1))) ∷ (request_by 6 1 (item.Set 0) (codes "bob") [] 50 0 (codes "E") [] None 0, None) ∷ (request_by 7 1 (item.Program 1) (codes "ann") (codes "B") 50 0 (codes "E") [] (Some (id 1)) 1, (Some (item.Set 1))) ∷ [])

d44_excludes : map (λ x. map (λ y. excludes d44_setup x.0 y.0 x.1 y.1) d44) d44 ≡ ((false ∷ false ∷ false ∷ false ∷ false ∷ false ∷ false ∷ []) ∷ (false ∷ false ∷ true ∷ false ∷ false ∷ false ∷ false ∷ []) ∷ (false ∷ true ∷ false ∷ false ∷ false ∷ false ∷ false ∷ []) ∷ (false ∷ false ∷ false ∷ false ∷ false ∷ false ∷ false ∷ []) ∷ (false ∷ false ∷ false ∷ false ∷ false ∷ false ∷ false ∷ []) ∷ (false ∷ false ∷ false ∷ false ∷ false ∷ false ∷ true ∷ []) ∷ (false ∷ false ∷ false ∷ false ∷ false ∷ true ∷ false ∷ []) ∷ [])
unfolding the_law
d44_excludes = refl

d44_admits : map (λ m. map (λ x. admits m x.0) d44) d44_setup.managers ≡ ((false ∷ true ∷ false ∷ false ∷ true ∷ false ∷ true ∷ []) ∷ (false ∷ false ∷ true ∷ false ∷ false ∷ false ∷ false ∷ []) ∷ [])
unfolding the_law
d44_admits = refl

d44_places : map (λ m. map (places m) ((moment 63876556800) ∷ (moment 63876643199) ∷ (moment 63876556799) ∷ (moment 63876556800) ∷ (moment 63876621599) ∷ (moment 63876643200) ∷ (moment 63877039199) ∷ (moment 63876815999) ∷ [])) d44_setup.managers ≡ ((0 ∷ 0 ∷ 0 ∷ 0 ∷ 0 ∷ 0 ∷ 0 ∷ 2 ∷ []) ∷ (4 ∷ 0 ∷ 5 ∷ 4 ∷ 4 ∷ 0 ∷ 5 ∷ 5 ∷ []) ∷ [])
unfolding the_law
d44_places = refl

d44_in_all : map (λ m. most_places m.shifts) d44_setup.managers ≡ (2 ∷ 5 ∷ [])
unfolding the_law
d44_in_all = refl

d44_moments : map moment_text ((moment 246993340373) ∷ (moment 121202758167) ∷ (moment 4283479103) ∷ (moment 63082281600) ∷ (moment 63082281600) ∷ (moment 63082281599) ∷ []) ≡ ((codes "7827-11-29T05:12:53") ∷ (codes "3841-10-06T16:49:27") ∷ (codes "0136-09-27T07:18:23") ∷ (codes "2000-01-01T00:00:00") ∷ (codes "2000-01-01T00:00:00") ∷ (codes "1999-12-31T23:59:59") ∷ [])
unfolding the_law
d44_moments = refl

abbrev d45_setup : Setup
unfolding texts
d45_setup = record {
  tables = ((codes "t") ∷ []);
  programs = (record { name = (codes "P0"); request_type = (codes "A"); enabled = true; run_alone = false; restart = false; job = record { table = (codes "t"); filters = []; group = None; sum = None; warn_over = None; error_over = None; few = lit≤ tt }; post = None; short = refl; sums = refl } ∷ record { name = (codes "P1"); request_type = (codes "A"); enabled = true; run_alone = true; restart = false; job = record { table = (codes "t"); filters = []; group = None; sum = None; warn_over = None; error_over = None; few = lit≤ tt }; post = None; short = refl; sums = refl } ∷ record { name = (codes "P2"); request_type = (codes "A"); enabled = true; run_alone = true; restart = false; job = record { table = (codes "t"); filters = []; group = None; sum = None; warn_over = None; error_over = None; few = lit≤ tt }; post = None; short = refl; sums = refl } ∷ []);
  entries = (record { owner = (item.Set 1); other = (item.Program 2); scope = scope.Program; reach = reach.Domain } ∷ []);
  managers = (record { name = (codes "M"); include = []; exclude = (record { program = (Some 2); request_type = None; user = (Some (codes "ann")); names = refl } ∷ []); shifts = []; few_rules = lit≤ tt; few_shifts = lit≤ tt } ∷ record { name = (codes "N"); include = (record { program = (Some 1); request_type = None; user = None; names = refl } ∷ []); exclude = (record { program = None; request_type = (Some (codes "A")); user = None; names = refl } ∷ []); shifts = []; few_rules = lit≤ tt; few_shifts = lit≤ tt } ∷ []);
  sets = (record { name = (codes "S0"); stages = (record { name = (codes "s"); critical = false; links = (None ∷ None ∷ None ∷ []); members = (0 ∷ []); near = refl; some = refl } ∷ []); some = refl; forward = refl } ∷ record { name = (codes "S1"); stages = (record { name = (codes "s"); critical = false; links = (None ∷ None ∷ None ∷ []); members = (0 ∷ []); near = refl; some = refl } ∷ []); some = refl; forward = refl } ∷ []);
  few_tables = lit≤ tt;
  few_programs = lit≤ tt;
  few_entries = lit≤ tt;
  few_managers = lit≤ tt;
  few_sets = lit≤ tt;
  few_places = lit≤ tt;
  named = refl;
  references = refl;
}

abbrev d45 : List (Req × Option Item)
d45 = ((request_by 1 1 (item.Set 0) (codes "cy") [] 50 0 (codes "D") [] None 0, None) ∷ (request_by 2 1 (item.Program 2) (codes "cy") (codes "A") 50 0 (codes "E") [] None 0, None) ∷ (request_by 3 1 (item.Set 0) (codes "bob") [] 50 0 (codes "D") [] None 0, None) ∷ (request_by 4 1 (item.Program 0) (codes "cy") (codes "A") 50 0 (codes "D") [] (Some (id 3)) 1, (Some (item.Set 0))) ∷ (request_by 5 1 (item.Program 0) (codes "cy") (codes "A") 50 0 (codes "D") [] (Some (id 3)) 1, (Some (item.Set 0))) ∷ (request_by 6 1 (item.Set 1) (codes "bob") [] 50 0 (codes "E") [] None 0, None) ∷ (request_by 7 1 (item.Program 0) (codes "ann") (codes "A") 50 0 (codes "D") [] (Some (id 1)) 1, (Some (item.Set 0))) ∷ [])

d45_excludes : map (λ x. map (λ y. excludes d45_setup x.0 y.0 x.1 y.1) d45) d45 ≡ ((false ∷ false ∷ false ∷ false ∷ false ∷ false ∷ false ∷ []) ∷ (false ∷ false ∷ false ∷ false ∷ false ∷ true ∷ false ∷ []) ∷ (false ∷ false ∷ false ∷ false ∷ false ∷ false ∷ false ∷ []) ∷ (false ∷ false ∷ false ∷ false ∷ false ∷ false ∷ false ∷ []) ∷ (false ∷ false ∷ false ∷ false ∷ false ∷ false ∷ false ∷ []) ∷ (false ∷ true ∷ false ∷ false ∷ false ∷ false ∷ false ∷ []) ∷ (false ∷ false ∷ false ∷ false ∷ false ∷ false ∷ false ∷ []) ∷ [])
unfolding the_law
d45_excludes = refl

d45_admits : map (λ m. map (λ x. admits m x.0) d45) d45_setup.managers ≡ ((false ∷ true ∷ false ∷ true ∷ true ∷ false ∷ true ∷ []) ∷ (false ∷ false ∷ false ∷ false ∷ false ∷ false ∷ false ∷ []) ∷ [])
unfolding the_law
d45_admits = refl

d45_places : map (λ m. map (places m) ((moment 63876942001) ∷ (moment 63876592799) ∷ (moment 63876473999) ∷ (moment 63877208399) ∷ (moment 63877150800) ∷ (moment 63876898800) ∷ (moment 63877201200) ∷ (moment 63876801599) ∷ [])) d45_setup.managers ≡ ((1 ∷ 1 ∷ 1 ∷ 1 ∷ 1 ∷ 1 ∷ 1 ∷ 1 ∷ []) ∷ (1 ∷ 1 ∷ 1 ∷ 1 ∷ 1 ∷ 1 ∷ 1 ∷ 1 ∷ []) ∷ [])
unfolding the_law
d45_places = refl

d45_in_all : map (λ m. most_places m.shifts) d45_setup.managers ≡ (1 ∷ 1 ∷ [])
unfolding the_law
d45_in_all = refl

d45_moments : map moment_text ((moment 242472062935) ∷ (moment 181249708645) ∷ (moment 286163194037) ∷ (moment 66238041600) ∷ (moment 66238041600) ∷ (moment 0) ∷ []) ≡ ((codes "7684-08-19T14:48:55") ∷ (codes "5744-07-29T13:17:25") ∷ (codes "9069-02-25T00:07:17") ∷ (codes "2100-01-01T00:00:00") ∷ (codes "2100-01-01T00:00:00") ∷ (codes "0001-01-01T00:00:00") ∷ [])
unfolding the_law
d45_moments = refl

abbrev d46_setup : Setup
unfolding texts
d46_setup = record {
  tables = ((codes "t") ∷ []);
  programs = (record { name = (codes "P0"); request_type = []; enabled = true; run_alone = false; restart = false; job = record { table = (codes "t"); filters = []; group = None; sum = None; warn_over = None; error_over = None; few = lit≤ tt }; post = None; short = refl; sums = refl } ∷ record { name = (codes "P1"); request_type = (codes "B"); enabled = true; run_alone = false; restart = false; job = record { table = (codes "t"); filters = []; group = None; sum = None; warn_over = None; error_over = None; few = lit≤ tt }; post = None; short = refl; sums = refl } ∷ record { name = (codes "P2"); request_type = []; enabled = true; run_alone = false; restart = false; job = record { table = (codes "t"); filters = []; group = None; sum = None; warn_over = None; error_over = None; few = lit≤ tt }; post = None; short = refl; sums = refl } ∷ []);
  entries = (record { owner = (item.Program 2); other = (item.Set 0); scope = scope.Program; reach = reach.Domain } ∷ []);
  managers = (record { name = (codes "M"); include = []; exclude = (record { program = None; request_type = (Some (codes "A")); user = None; names = refl } ∷ []); shifts = (record { date = None; days = 0; times = None; places = 0; valid = refl } ∷ record { date = None; days = 0; times = (Some (50400, 54000)); places = 0; valid = refl } ∷ record { date = None; days = 0; times = None; places = 3; valid = refl } ∷ record { date = (Some 739314); days = 0; times = (Some (28800, 79200)); places = 1; valid = refl } ∷ []); few_rules = lit≤ tt; few_shifts = lit≤ tt } ∷ record { name = (codes "N"); include = (record { program = (Some 1); request_type = None; user = (Some (codes "ann")); names = refl } ∷ []); exclude = (record { program = None; request_type = None; user = (Some (codes "bob")); names = refl } ∷ []); shifts = (record { date = None; days = 0; times = None; places = 5; valid = refl } ∷ []); few_rules = lit≤ tt; few_shifts = lit≤ tt } ∷ []);
  sets = (record { name = (codes "S0"); stages = (record { name = (codes "s"); critical = false; links = (None ∷ None ∷ None ∷ []); members = (0 ∷ []); near = refl; some = refl } ∷ []); some = refl; forward = refl } ∷ record { name = (codes "S1"); stages = (record { name = (codes "s"); critical = false; links = (None ∷ None ∷ None ∷ []); members = (0 ∷ []); near = refl; some = refl } ∷ []); some = refl; forward = refl } ∷ []);
  few_tables = lit≤ tt;
  few_programs = lit≤ tt;
  few_entries = lit≤ tt;
  few_managers = lit≤ tt;
  few_sets = lit≤ tt;
  few_places = lit≤ tt;
  named = refl;
  references = refl;
}

abbrev d46 : List (Req × Option Item)
d46 = ((request_by 1 1 (item.Program 2) (codes "ann") [] 50 0 (codes "E") [] None 0, None) ∷ (request_by 2 1 (item.Set 1) (codes "cy") [] 50 0 (codes "D") [] None 0, None) ∷ (request_by 3 1 (item.Program 2) (codes "bob") [] 50 0 (codes "E") [] None 0, None) ∷ (request_by 4 1 (item.Program 0) (codes "ann") [] 50 0 (codes "D") [] None 0, None) ∷ (request_by 5 1 (item.Program 2) (codes "ann") [] 50 0 (codes "D") [] None 0, None) ∷ (request_by 6 1 (item.Program 0) (codes "cy") [] 50 0 (codes "E") [] (Some (id 2)) 1, (Some (item.Set 1))) ∷ (request_by 7 1 (item.Set 0) (codes "bob") [] 50 0 (codes "D") [] None 0, None) ∷ [])

d46_excludes : map (λ x. map (λ y. excludes d46_setup x.0 y.0 x.1 y.1) d46) d46 ≡ ((false ∷ false ∷ false ∷ false ∷ false ∷ false ∷ false ∷ []) ∷ (false ∷ false ∷ false ∷ false ∷ false ∷ false ∷ false ∷ []) ∷ (false ∷ false ∷ false ∷ false ∷ false ∷ false ∷ false ∷ []) ∷ (false ∷ false ∷ false ∷ false ∷ false ∷ false ∷ false ∷ []) ∷ (false ∷ false ∷ false ∷ false ∷ false ∷ false ∷ true ∷ []) ∷ (false ∷ false ∷ false ∷ false ∷ false ∷ false ∷ false ∷ []) ∷ (false ∷ false ∷ false ∷ false ∷ true ∷ false ∷ false ∷ []) ∷ [])
unfolding the_law
d46_excludes = refl

d46_admits : map (λ m. map (λ x. admits m x.0) d46) d46_setup.managers ≡ ((true ∷ false ∷ true ∷ true ∷ true ∷ true ∷ false ∷ []) ∷ (false ∷ false ∷ false ∷ false ∷ false ∷ false ∷ false ∷ []) ∷ [])
unfolding the_law
d46_admits = refl

d46_places : map (λ m. map (places m) ((moment 63876758399) ∷ (moment 63876808800) ∷ (moment 63877075200) ∷ (moment 63876816000) ∷ (moment 63876556800) ∷ (moment 63877161600) ∷ (moment 63876643199) ∷ (moment 63876556799) ∷ [])) d46_setup.managers ≡ ((3 ∷ 3 ∷ 3 ∷ 3 ∷ 3 ∷ 3 ∷ 3 ∷ 3 ∷ []) ∷ (5 ∷ 5 ∷ 5 ∷ 5 ∷ 5 ∷ 5 ∷ 5 ∷ 5 ∷ []) ∷ [])
unfolding the_law
d46_places = refl

d46_in_all : map (λ m. most_places m.shifts) d46_setup.managers ≡ (3 ∷ 5 ∷ [])
unfolding the_law
d46_in_all = refl

d46_moments : map moment_text ((moment 217587349465) ∷ (moment 291726358471) ∷ (moment 183660075439) ∷ (moment 151825449600) ∷ (moment 151820438400) ∷ (moment 0) ∷ []) ≡ ((codes "6896-01-26T02:24:25") ∷ (codes "9245-06-10T11:34:31") ∷ (codes "5820-12-16T07:37:19") ∷ (codes "4812-02-28T00:00:00") ∷ (codes "4812-01-01T00:00:00") ∷ (codes "0001-01-01T00:00:00") ∷ [])
unfolding the_law
d46_moments = refl

abbrev d47_setup : Setup
unfolding texts
d47_setup = record {
  tables = ((codes "t") ∷ []);
  programs = (record { name = (codes "P0"); request_type = (codes "A"); enabled = true; run_alone = true; restart = false; job = record { table = (codes "t"); filters = []; group = None; sum = None; warn_over = None; error_over = None; few = lit≤ tt }; post = None; short = refl; sums = refl } ∷ record { name = (codes "P1"); request_type = (codes "B"); enabled = true; run_alone = false; restart = false; job = record { table = (codes "t"); filters = []; group = None; sum = None; warn_over = None; error_over = None; few = lit≤ tt }; post = None; short = refl; sums = refl } ∷ record { name = (codes "P2"); request_type = (codes "A"); enabled = true; run_alone = false; restart = false; job = record { table = (codes "t"); filters = []; group = None; sum = None; warn_over = None; error_over = None; few = lit≤ tt }; post = None; short = refl; sums = refl } ∷ []);
  entries = (record { owner = (item.Set 0); other = (item.Set 1); scope = scope.Program; reach = reach.Global } ∷ record { owner = (item.Set 0); other = (item.Set 1); scope = scope.Program; reach = reach.Global } ∷ record { owner = (item.Program 2); other = (item.Program 1); scope = scope.Program; reach = reach.Domain } ∷ []);
  managers = (record { name = (codes "M"); include = []; exclude = (record { program = None; request_type = (Some []); user = None; names = refl } ∷ []); shifts = (record { date = None; days = 21; times = (Some (28800, 61200)); places = 0; valid = refl } ∷ record { date = None; days = 0; times = None; places = 2; valid = refl } ∷ record { date = (Some 739314); days = 0; times = (Some (46800, 68400)); places = 2; valid = refl } ∷ record { date = None; days = 127; times = (Some (43200, 86400)); places = 2; valid = refl } ∷ record { date = None; days = 0; times = (Some (10800, 72000)); places = 1; valid = refl } ∷ record { date = None; days = 91; times = None; places = 0; valid = refl } ∷ []); few_rules = lit≤ tt; few_shifts = lit≤ tt } ∷ record { name = (codes "N"); include = []; exclude = (record { program = (Some 1); request_type = None; user = None; names = refl } ∷ record { program = (Some 0); request_type = (Some []); user = None; names = refl } ∷ []); shifts = (record { date = None; days = 0; times = None; places = 5; valid = refl } ∷ record { date = None; days = 0; times = None; places = 4; valid = refl } ∷ record { date = (Some 739313); days = 0; times = (Some (18000, 79200)); places = 1; valid = refl } ∷ record { date = None; days = 2; times = None; places = 4; valid = refl } ∷ record { date = (Some 739313); days = 0; times = (Some (0, 50400)); places = 5; valid = refl } ∷ record { date = (Some 739312); days = 0; times = (Some (3600, 28800)); places = 1; valid = refl } ∷ []); few_rules = lit≤ tt; few_shifts = lit≤ tt } ∷ []);
  sets = (record { name = (codes "S0"); stages = (record { name = (codes "s"); critical = false; links = (None ∷ None ∷ None ∷ []); members = (0 ∷ []); near = refl; some = refl } ∷ []); some = refl; forward = refl } ∷ record { name = (codes "S1"); stages = (record { name = (codes "s"); critical = false; links = (None ∷ None ∷ None ∷ []); members = (0 ∷ []); near = refl; some = refl } ∷ []); some = refl; forward = refl } ∷ []);
  few_tables = lit≤ tt;
  few_programs = lit≤ tt;
  few_entries = lit≤ tt;
  few_managers = lit≤ tt;
  few_sets = lit≤ tt;
  few_places = lit≤ tt;
  named = refl;
  references = refl;
}

abbrev d47 : List (Req × Option Item)
d47 = ((request_by 1 1 (item.Set 0) (codes "cy") [] 50 0 (codes "D") [] None 0, None) ∷ (request_by 2 1 (item.Program 1) (codes "ann") (codes "B") 50 0 (codes "D") [] (Some (id 1)) 1, (Some (item.Set 0))) ∷ (request_by 3 1 (item.Program 0) (codes "cy") (codes "A") 50 0 (codes "D") [] (Some (id 1)) 1, (Some (item.Set 0))) ∷ (request_by 4 1 (item.Set 1) (codes "cy") [] 50 0 (codes "E") [] None 0, None) ∷ (request_by 5 1 (item.Set 1) (codes "cy") [] 50 0 (codes "D") [] None 0, None) ∷ (request_by 6 1 (item.Program 0) (codes "bob") (codes "A") 50 0 (codes "E") [] (Some (id 5)) 1, (Some (item.Set 1))) ∷ (request_by 7 1 (item.Program 2) (codes "cy") (codes "A") 50 0 (codes "E") [] (Some (id 4)) 1, (Some (item.Set 1))) ∷ [])

d47_excludes : map (λ x. map (λ y. excludes d47_setup x.0 y.0 x.1 y.1) d47) d47 ≡ ((false ∷ false ∷ false ∷ true ∷ true ∷ false ∷ false ∷ []) ∷ (false ∷ false ∷ true ∷ false ∷ false ∷ false ∷ false ∷ []) ∷ (false ∷ true ∷ false ∷ false ∷ true ∷ false ∷ false ∷ []) ∷ (true ∷ false ∷ false ∷ false ∷ false ∷ true ∷ false ∷ []) ∷ (true ∷ false ∷ true ∷ false ∷ false ∷ false ∷ false ∷ []) ∷ (false ∷ false ∷ false ∷ true ∷ false ∷ false ∷ true ∷ []) ∷ (false ∷ false ∷ false ∷ false ∷ false ∷ true ∷ false ∷ []) ∷ [])
unfolding the_law
d47_excludes = refl

d47_admits : map (λ m. map (λ x. admits m x.0) d47) d47_setup.managers ≡ ((false ∷ true ∷ true ∷ false ∷ false ∷ true ∷ true ∷ []) ∷ (false ∷ false ∷ true ∷ false ∷ false ∷ true ∷ true ∷ []) ∷ [])
unfolding the_law
d47_admits = refl

d47_places : map (λ m. map (places m) ((moment 63876560399) ∷ (moment 63877104000) ∷ (moment 63876722400) ∷ (moment 63876772799) ∷ (moment 63876693600) ∷ (moment 63877147199) ∷ (moment 63876963599) ∷ (moment 63876913199) ∷ [])) d47_setup.managers ≡ ((0 ∷ 0 ∷ 2 ∷ 0 ∷ 2 ∷ 2 ∷ 2 ∷ 0 ∷ []) ∷ (5 ∷ 5 ∷ 4 ∷ 5 ∷ 1 ∷ 5 ∷ 5 ∷ 5 ∷ []) ∷ [])
unfolding the_law
d47_places = refl

d47_in_all : map (λ m. most_places m.shifts) d47_setup.managers ≡ (2 ∷ 5 ∷ [])
unfolding the_law
d47_in_all = refl

d47_moments : map moment_text ((moment 264321964016) ∷ (moment 36007731887) ∷ (moment 294107843699) ∷ (moment 315509126399) ∷ (moment 315506361600) ∷ (moment 315506361599) ∷ []) ≡ ((codes "8377-01-11T23:46:56") ∷ (codes "1142-01-16T03:44:47") ∷ (codes "9320-11-27T23:14:59") ∷ (codes "9999-02-01T23:59:59") ∷ (codes "9999-01-01T00:00:00") ∷ (codes "9998-12-31T23:59:59") ∷ [])
unfolding the_law
d47_moments = refl
