-- Runs without workers of random plans, and wrong lists, with the answers of a program that shares nothing with this one.
use Rattle.std.proofs.Common.{◌≡◌, true, false, List, [], ◌∷◌, map, None, Some, refl, lit≤}
use Rattle.std.specs.Prelude.{codes}
use Rattle.conc_types.specs.declared.event.Event.TheVariants as event
use Rattle.conc_types.specs.declared.event.Outcome.TheVariants as outcome
use Rattle.conc_types.specs.declared.event.Phase.TheVariants as phase
use Rattle.conc_types.specs.declared.event.Status.TheVariants as status
use Rattle.conc_types.specs.declared.item.Item.TheVariants as item
use Rattle.conc_types.specs.declared.item.Reach.TheVariants as reach
use Rattle.conc_types.specs.declared.item.Scope.TheVariants as scope
use Rattle.conc_types.specs.declared.plan.Plan.{Plan}
use Rattle.conc_types.specs.declared.script.Act.TheVariants as act
use Rattle.conc_types.specs.declared.script.Order.{Order}
use Rattle.conc_types.specs.declared.script.Reading.{Reading}
use Rattle.conc_types.specs.declared.setup.Setup.{Setup}
use Rattle.conc_types.specs.Expansion.{expansion}
use Rattle.conc_base_law.specs.Law.{is_lawful, is_lawful_so_far}
use Rattle.conc_base_law.specs.Readings.{next_reading}
use Rattle.conc_base_law.specs.Text.{text_of}
use Rattle.conc_base_examples.proofs.Computed.{the_law, made}
use Rattle.conc_base_examples.proofs.OracleWords.{ended, answers, request_by}
use Rattle.conc_base_examples.proofs.Plans.{texts, id, moment, start}

abbrev c83_setup : Setup
unfolding texts
c83_setup = record {
  tables = ((codes "t") ∷ []);
  programs = (record { name = (codes "P0"); request_type = []; enabled = true; run_alone = true; restart = false; job = record { table = (codes "t"); filters = []; group = None; sum = None; warn_over = None; error_over = None; few = lit≤ tt }; post = None; short = refl; sums = refl } ∷ record { name = (codes "P1"); request_type = (codes "A"); enabled = true; run_alone = false; restart = false; job = record { table = (codes "t"); filters = []; group = None; sum = (Some (codes "v")); warn_over = (Some 0); error_over = (Some 1); few = lit≤ tt }; post = None; short = refl; sums = refl } ∷ record { name = (codes "P2"); request_type = []; enabled = false; run_alone = false; restart = true; job = record { table = (codes "t"); filters = []; group = (Some (codes "k")); sum = None; warn_over = (Some 0); error_over = (Some 1); few = lit≤ tt }; post = None; short = refl; sums = refl } ∷ []);
  entries = (record { owner = (item.Set 1); other = (item.Set 0); scope = scope.Set; reach = reach.Domain } ∷ []);
  managers = (record { name = (codes "M0"); include = []; exclude = (record { program = (Some 1); request_type = None; user = None; names = refl } ∷ []); shifts = []; few_rules = lit≤ tt; few_shifts = lit≤ tt } ∷ []);
  sets = (record { name = (codes "S0"); stages = (record { name = (codes "s0"); critical = false; links = ((Some 1) ∷ (Some 1) ∷ (Some 1) ∷ []); members = (0 ∷ []); near = refl; some = refl } ∷ record { name = (codes "s1"); critical = false; links = (None ∷ None ∷ None ∷ []); members = (0 ∷ 2 ∷ []); near = refl; some = refl } ∷ []); some = refl; forward = refl } ∷ record { name = (codes "S1"); stages = (record { name = (codes "s0"); critical = false; links = (None ∷ None ∷ None ∷ []); members = (0 ∷ []); near = refl; some = refl } ∷ record { name = (codes "s1"); critical = false; links = ((Some 2) ∷ (Some 2) ∷ (Some 2) ∷ []); members = (2 ∷ []); near = refl; some = refl } ∷ record { name = (codes "s2"); critical = true; links = (None ∷ None ∷ None ∷ []); members = (1 ∷ []); near = refl; some = refl } ∷ []); some = refl; forward = refl } ∷ []);
  few_tables = lit≤ tt;
  few_programs = lit≤ tt;
  few_entries = lit≤ tt;
  few_managers = lit≤ tt;
  few_sets = lit≤ tt;
  few_places = lit≤ tt;
  named = refl;
  references = refl;
}

abbrev c83_commands : List Order
c83_commands = (record { at = (moment 63876600000); act = act.Submit (item.Set 0) (codes "bob") 90 (moment 63876600000) (codes "Standard") [] } ∷ record { at = (moment 63876600000); act = act.Terminate (id 4) } ∷ record { at = (moment 63876600600); act = act.Cancel (id 1) } ∷ record { at = (moment 63876601200); act = act.Hold (id 3) } ∷ record { at = (moment 63876601800); act = act.Unhold (id 4) } ∷ record { at = (moment 63876601800); act = act.Hold (id 3) } ∷ record { at = (moment 63876603000); act = act.Terminate (id 1) } ∷ record { at = (moment 63876603000); act = act.Terminate (id 3) } ∷ record { at = (moment 63876603000); act = act.Hold (id 1) } ∷ [])

abbrev c83 : Plan
unfolding texts
c83 = record {
  setup = c83_setup;
  script = record { commands = c83_commands; few = lit≤ tt };
  tables = (record { columns = ((codes "k") ∷ (codes "v") ∷ []); rows = []; distinct = refl; even = refl; few = lit≤ tt } ∷ []);
  requests = expansion c83_setup c83_commands;
  stamps = map (λ (order : Order). 0) c83_commands;
  commands = refl;
  reports = refl;
  expanded = refl;
  stamped = refl;
  few = lit≤ tt;
}

c83_requests : c83.requests ≡ (request_by 1 1 (item.Set 0) (codes "bob") [] 90 63876600000 (codes "Standard") [] None 0 ∷ request_by 2 1 (item.Program 0) (codes "bob") [] 90 63876600000 (codes "Standard") [] (Some (id 1)) 1 ∷ request_by 3 1 (item.Program 0) (codes "bob") [] 90 63876600000 (codes "Standard") [] (Some (id 1)) 2 ∷ request_by 4 1 (item.Program 2) (codes "bob") [] 90 63876600000 (codes "Standard") [] (Some (id 1)) 2 ∷ [])
unfolding the_law
c83_requests = refl

abbrev c83_readings : List Reading
c83_readings = (record { moment = (moment 63876600000); early = false } ∷ record { moment = (moment 63876600600); early = true } ∷ record { moment = (moment 63876600600); early = true } ∷ record { moment = (moment 63876601800); early = true } ∷ record { moment = (moment 63876602400); early = true } ∷ record { moment = (moment 63876602400); early = false } ∷ [])

c83_runs : made c83 c83_readings 22 [] ≡ (event.Tick (moment 63876602400) ∷ event.Tick (moment 63876602400) ∷ event.Command 6 ∷ event.Command 5 ∷ event.Command 4 ∷ event.Tick (moment 63876601800) ∷ event.Tick (moment 63876600600) ∷ event.Command 3 ∷ event.Tick (moment 63876600600) ∷ ended 3 outcome.Normal 18 18 ∷ start 3 0 ∷ event.LetOut (id 3) ∷ event.Stage (id 1) 2 ∷ ended 2 outcome.Normal 0 18 ∷ start 2 0 ∷ event.LetOut (id 2) ∷ event.Stage (id 1) 1 ∷ event.OpenSet (id 1) ∷ event.Command 2 ∷ event.Command 1 ∷ event.Tick (moment 63876600000) ∷ [])
unfolding the_law
c83_runs = refl

c83_lawful : is_lawful c83 c83_readings (event.Tick (moment 63876602400) ∷ event.Tick (moment 63876602400) ∷ event.Command 6 ∷ event.Command 5 ∷ event.Command 4 ∷ event.Tick (moment 63876601800) ∷ event.Tick (moment 63876600600) ∷ event.Command 3 ∷ event.Tick (moment 63876600600) ∷ ended 3 outcome.Normal 18 18 ∷ start 3 0 ∷ event.LetOut (id 3) ∷ event.Stage (id 1) 2 ∷ ended 2 outcome.Normal 0 18 ∷ start 2 0 ∷ event.LetOut (id 2) ∷ event.Stage (id 1) 1 ∷ event.OpenSet (id 1) ∷ event.Command 2 ∷ event.Command 1 ∷ event.Tick (moment 63876600000) ∷ []) ≡ true
unfolding the_law
c83_lawful = refl

c83_text : text_of c83 (event.Tick (moment 63876600000) ∷ event.Command 1 ∷ event.Command 2 ∷ event.OpenSet (id 1) ∷ event.Stage (id 1) 1 ∷ event.LetOut (id 2) ∷ start 2 0 ∷ ended 2 outcome.Normal 0 18 ∷ event.Stage (id 1) 2 ∷ event.LetOut (id 3) ∷ start 3 0 ∷ ended 3 outcome.Normal 18 18 ∷ event.Tick (moment 63876600600) ∷ event.Command 3 ∷ event.Tick (moment 63876600600) ∷ event.Tick (moment 63876601800) ∷ event.Command 4 ∷ event.Command 5 ∷ event.Command 6 ∷ event.Tick (moment 63876602400) ∷ event.Tick (moment 63876602400) ∷ []) ≡ (codes "tick 2025-03-03T12:00:00\ndo 1\ndo 2\nopen 1\nstage 1 1\nlet 2\nstart 2 1.1\nend 2 Normal 0 18\nstage 1 2\nlet 3\nstart 3 1.1\nend 3 Normal 18 18\ntick 2025-03-03T12:10:00\ndo 3\ntick 2025-03-03T12:10:00\ntick 2025-03-03T12:30:00\ndo 4\ndo 5\ndo 6\ntick 2025-03-03T12:40:00\ntick 2025-03-03T12:40:00\n--\n1 Running Paused S0\n2 Completed Normal P0\n3 Completed Normal P0\n4 Inactive Disabled P2\n")
unfolding the_law
c83_text = refl

c83_group_0 : map (answers c83) ((event.Command 2 ∷ event.Command 1 ∷ event.Tick (moment 63876600000) ∷ []) ∷ (event.LetOut (id 2) ∷ event.Stage (id 1) 1 ∷ event.OpenSet (id 1) ∷ event.Command 2 ∷ event.Command 1 ∷ event.Tick (moment 63876600000) ∷ []) ∷ (start 3 0 ∷ event.LetOut (id 3) ∷ event.Stage (id 1) 2 ∷ ended 2 outcome.Normal 0 18 ∷ start 2 0 ∷ event.LetOut (id 2) ∷ event.Stage (id 1) 1 ∷ event.OpenSet (id 1) ∷ event.Command 2 ∷ event.Command 1 ∷ event.Tick (moment 63876600000) ∷ []) ∷ []) ≡ (((Some (event.OpenSet (id 1))), (false, ((Some (phase.Pending, status.Standby)) ∷ (Some (phase.Pending, status.Waiting)) ∷ (Some (phase.Pending, status.Waiting)) ∷ (Some (phase.Inactive, status.Disabled)) ∷ []))) ∷ (None, (false, ((Some (phase.Running, status.Paused)) ∷ (Some (phase.Pending, status.Normal)) ∷ (Some (phase.Pending, status.Waiting)) ∷ (Some (phase.Inactive, status.Disabled)) ∷ []))) ∷ (None, (false, ((Some (phase.Running, status.Paused)) ∷ (Some (phase.Completed, status.Normal)) ∷ (Some (phase.Running, status.Normal)) ∷ (Some (phase.Inactive, status.Disabled)) ∷ []))) ∷ [])
unfolding the_law
c83_group_0 = refl

c83_group_1 : map (next_reading c83_readings) ((event.Command 2 ∷ event.Command 1 ∷ event.Tick (moment 63876600000) ∷ []) ∷ (event.LetOut (id 2) ∷ event.Stage (id 1) 1 ∷ event.OpenSet (id 1) ∷ event.Command 2 ∷ event.Command 1 ∷ event.Tick (moment 63876600000) ∷ []) ∷ (start 3 0 ∷ event.LetOut (id 3) ∷ event.Stage (id 1) 2 ∷ ended 2 outcome.Normal 0 18 ∷ start 2 0 ∷ event.LetOut (id 2) ∷ event.Stage (id 1) 1 ∷ event.OpenSet (id 1) ∷ event.Command 2 ∷ event.Command 1 ∷ event.Tick (moment 63876600000) ∷ []) ∷ []) ≡ ((Some (record { moment = (moment 63876600600); early = true })) ∷ (Some (record { moment = (moment 63876600600); early = true })) ∷ (Some (record { moment = (moment 63876600600); early = true })) ∷ [])
unfolding the_law
c83_group_1 = refl

c83_group_2 : map (is_lawful c83 c83_readings) ([] ∷ (event.OpenSet (id 1) ∷ event.Command 2 ∷ event.Command 1 ∷ event.Tick (moment 63876600000) ∷ []) ∷ (ended 3 outcome.Normal 18 18 ∷ start 3 0 ∷ event.LetOut (id 3) ∷ event.Resume ∷ event.Stage (id 1) 2 ∷ ended 2 outcome.Normal 0 18 ∷ start 2 0 ∷ event.LetOut (id 2) ∷ event.Stage (id 1) 1 ∷ event.OpenSet (id 1) ∷ event.Command 2 ∷ event.Command 1 ∷ event.Tick (moment 63876600000) ∷ []) ∷ (ended 3 outcome.Normal 18 18 ∷ start 3 0 ∷ event.LetOut (id 3) ∷ event.Stage (id 1) 2 ∷ ended 2 outcome.Normal 0 18 ∷ start 2 0 ∷ event.LetOut (id 2) ∷ event.Stage (id 1) 1 ∷ event.OpenSet (id 1) ∷ event.Command 2 ∷ event.Command 1 ∷ event.Tick (moment 63876600000) ∷ []) ∷ (event.Stage (id 1) 1 ∷ event.OpenSet (id 1) ∷ event.Command 2 ∷ event.Command 1 ∷ event.Tick (moment 63876600000) ∷ []) ∷ []) ≡ (true ∷ true ∷ true ∷ true ∷ true ∷ [])
unfolding the_law
c83_group_2 = refl

c83_group_3 : map (is_lawful c83 c83_readings) ((event.Command 1 ∷ []) ∷ (event.OpenSet (id 1) ∷ event.OpenSet (id 1) ∷ event.Command 2 ∷ event.Command 1 ∷ event.Tick (moment 63876600000) ∷ []) ∷ (event.Tick (moment 63876600600) ∷ ended 3 outcome.Normal 18 18 ∷ start 3 0 ∷ event.LetOut (id 3) ∷ event.Resume ∷ event.Stage (id 1) 2 ∷ ended 2 outcome.Normal 0 18 ∷ start 2 0 ∷ event.LetOut (id 2) ∷ event.Stage (id 1) 1 ∷ event.OpenSet (id 1) ∷ event.Command 2 ∷ event.Command 1 ∷ event.Tick (moment 63876600000) ∷ []) ∷ (event.Tick (moment 63876600601) ∷ ended 3 outcome.Normal 18 18 ∷ start 3 0 ∷ event.LetOut (id 3) ∷ event.Stage (id 1) 2 ∷ ended 2 outcome.Normal 0 18 ∷ start 2 0 ∷ event.LetOut (id 2) ∷ event.Stage (id 1) 1 ∷ event.OpenSet (id 1) ∷ event.Command 2 ∷ event.Command 1 ∷ event.Tick (moment 63876600000) ∷ []) ∷ (event.LetOut (id 1) ∷ event.Stage (id 1) 1 ∷ event.OpenSet (id 1) ∷ event.Command 2 ∷ event.Command 1 ∷ event.Tick (moment 63876600000) ∷ []) ∷ []) ≡ (false ∷ false ∷ false ∷ false ∷ false ∷ [])
unfolding the_law
c83_group_3 = refl

c83_group_4 : map (is_lawful_so_far c83) ((ended 3 outcome.Normal 18 18 ∷ start 3 0 ∷ event.LetOut (id 3) ∷ event.Resume ∷ event.Stage (id 1) 2 ∷ ended 2 outcome.Normal 0 18 ∷ start 2 0 ∷ event.LetOut (id 2) ∷ event.Stage (id 1) 1 ∷ event.OpenSet (id 1) ∷ event.Command 2 ∷ event.Command 1 ∷ event.Tick (moment 63876600000) ∷ []) ∷ (event.Tick (moment 63876600600) ∷ ended 3 outcome.Normal 18 18 ∷ start 3 0 ∷ event.LetOut (id 3) ∷ event.Resume ∷ event.Stage (id 1) 2 ∷ ended 2 outcome.Normal 0 18 ∷ start 2 0 ∷ event.LetOut (id 2) ∷ event.Stage (id 1) 1 ∷ event.OpenSet (id 1) ∷ event.Command 2 ∷ event.Command 1 ∷ event.Tick (moment 63876600000) ∷ []) ∷ []) ≡ (true ∷ true ∷ [])
unfolding the_law
c83_group_4 = refl

abbrev c57_setup : Setup
unfolding texts
c57_setup = record {
  tables = ((codes "t") ∷ []);
  programs = (record { name = (codes "P0"); request_type = []; enabled = true; run_alone = true; restart = true; job = record { table = (codes "t"); filters = []; group = None; sum = (Some (codes "v")); warn_over = None; error_over = (Some 0); few = lit≤ tt }; post = None; short = refl; sums = refl } ∷ record { name = (codes "P1"); request_type = (codes "A"); enabled = true; run_alone = false; restart = false; job = record { table = (codes "t"); filters = []; group = (Some (codes "k")); sum = None; warn_over = None; error_over = (Some 0); few = lit≤ tt }; post = None; short = refl; sums = refl } ∷ []);
  entries = (record { owner = (item.Program 0); other = (item.Program 1); scope = scope.Program; reach = reach.Global } ∷ record { owner = (item.Set 1); other = (item.Set 1); scope = scope.Set; reach = reach.Domain } ∷ []);
  managers = (record { name = (codes "M0"); include = []; exclude = []; shifts = (record { date = None; days = 0; times = None; places = 2; valid = refl } ∷ record { date = None; days = 1; times = (Some (45000, 46800)); places = 1; valid = refl } ∷ []); few_rules = lit≤ tt; few_shifts = lit≤ tt } ∷ record { name = (codes "M1"); include = []; exclude = (record { program = (Some 1); request_type = None; user = None; names = refl } ∷ []); shifts = []; few_rules = lit≤ tt; few_shifts = lit≤ tt } ∷ []);
  sets = (record { name = (codes "S0"); stages = (record { name = (codes "s0"); critical = false; links = ((Some 2) ∷ (Some 1) ∷ None ∷ []); members = (0 ∷ []); near = refl; some = refl } ∷ record { name = (codes "s1"); critical = false; links = ((Some 2) ∷ (Some 2) ∷ (Some 2) ∷ []); members = (0 ∷ []); near = refl; some = refl } ∷ record { name = (codes "s2"); critical = false; links = (None ∷ None ∷ None ∷ []); members = (0 ∷ []); near = refl; some = refl } ∷ []); some = refl; forward = refl } ∷ record { name = (codes "S1"); stages = (record { name = (codes "s0"); critical = false; links = ((Some 1) ∷ (Some 1) ∷ (Some 1) ∷ []); members = (0 ∷ []); near = refl; some = refl } ∷ record { name = (codes "s1"); critical = true; links = (None ∷ None ∷ None ∷ []); members = (1 ∷ 0 ∷ []); near = refl; some = refl } ∷ []); some = refl; forward = refl } ∷ []);
  few_tables = lit≤ tt;
  few_programs = lit≤ tt;
  few_entries = lit≤ tt;
  few_managers = lit≤ tt;
  few_sets = lit≤ tt;
  few_places = lit≤ tt;
  named = refl;
  references = refl;
}

abbrev c57_commands : List Order
c57_commands = (record { at = (moment 63876600000); act = act.Submit (item.Set 1) (codes "ann") 90 (moment 63876600000) (codes "D") [] } ∷ record { at = (moment 63876600600); act = act.Hold (id 3) } ∷ record { at = (moment 63876601800); act = act.Terminate (id 3) } ∷ record { at = (moment 63876601800); act = act.Unhold (id 1) } ∷ record { at = (moment 63876602400); act = act.Submit (item.Program 0) (codes "ann") 50 (moment 63876602400) (codes "D") [] } ∷ record { at = (moment 63876603000); act = act.Unhold (id 3) } ∷ record { at = (moment 63876603000); act = act.Unhold (id 3) } ∷ [])

abbrev c57 : Plan
unfolding texts
c57 = record {
  setup = c57_setup;
  script = record { commands = c57_commands; few = lit≤ tt };
  tables = (record { columns = ((codes "k") ∷ (codes "v") ∷ []); rows = (((codes "b") ∷ (codes "1") ∷ []) ∷ ((codes "b") ∷ (codes "1") ∷ []) ∷ []); distinct = refl; even = refl; few = lit≤ tt } ∷ []);
  requests = expansion c57_setup c57_commands;
  stamps = map (λ (order : Order). 0) c57_commands;
  commands = refl;
  reports = refl;
  expanded = refl;
  stamped = refl;
  few = lit≤ tt;
}

c57_requests : c57.requests ≡ (request_by 1 1 (item.Set 1) (codes "ann") [] 90 63876600000 (codes "D") [] None 0 ∷ request_by 2 1 (item.Program 0) (codes "ann") [] 90 63876600000 (codes "D") [] (Some (id 1)) 1 ∷ request_by 3 1 (item.Program 1) (codes "ann") (codes "A") 90 63876600000 (codes "D") [] (Some (id 1)) 2 ∷ request_by 4 1 (item.Program 0) (codes "ann") [] 90 63876600000 (codes "D") [] (Some (id 1)) 2 ∷ request_by 5 5 (item.Program 0) (codes "ann") [] 50 63876602400 (codes "D") [] None 0 ∷ [])
unfolding the_law
c57_requests = refl

abbrev c57_readings : List Reading
c57_readings = (record { moment = (moment 63876603000); early = false } ∷ record { moment = (moment 63876603000); early = false } ∷ [])

c57_runs : made c57 c57_readings 26 [] ≡ (event.Tick (moment 63876603000) ∷ event.CloseSet (id 1) outcome.Error ∷ ended 4 outcome.Error 70 24 ∷ start 4 0 ∷ event.LetOut (id 4) ∷ ended 3 outcome.Error 48 22 ∷ start 3 0 ∷ event.LetOut (id 3) ∷ event.Stage (id 1) 2 ∷ ended 2 outcome.Error 24 24 ∷ start 2 0 ∷ event.LetOut (id 2) ∷ event.Stage (id 1) 1 ∷ event.OpenSet (id 1) ∷ ended 5 outcome.Error 0 24 ∷ start 5 0 ∷ event.LetOut (id 5) ∷ event.Command 7 ∷ event.Command 6 ∷ event.Command 5 ∷ event.Command 4 ∷ event.Command 3 ∷ event.Command 2 ∷ event.Command 1 ∷ event.Tick (moment 63876603000) ∷ [])
unfolding the_law
c57_runs = refl

c57_lawful : is_lawful c57 c57_readings (event.Tick (moment 63876603000) ∷ event.CloseSet (id 1) outcome.Error ∷ ended 4 outcome.Error 70 24 ∷ start 4 0 ∷ event.LetOut (id 4) ∷ ended 3 outcome.Error 48 22 ∷ start 3 0 ∷ event.LetOut (id 3) ∷ event.Stage (id 1) 2 ∷ ended 2 outcome.Error 24 24 ∷ start 2 0 ∷ event.LetOut (id 2) ∷ event.Stage (id 1) 1 ∷ event.OpenSet (id 1) ∷ ended 5 outcome.Error 0 24 ∷ start 5 0 ∷ event.LetOut (id 5) ∷ event.Command 7 ∷ event.Command 6 ∷ event.Command 5 ∷ event.Command 4 ∷ event.Command 3 ∷ event.Command 2 ∷ event.Command 1 ∷ event.Tick (moment 63876603000) ∷ []) ≡ true
unfolding the_law
c57_lawful = refl

c57_text : text_of c57 (event.Tick (moment 63876603000) ∷ event.Command 1 ∷ event.Command 2 ∷ event.Command 3 ∷ event.Command 4 ∷ event.Command 5 ∷ event.Command 6 ∷ event.Command 7 ∷ event.LetOut (id 5) ∷ start 5 0 ∷ ended 5 outcome.Error 0 24 ∷ event.OpenSet (id 1) ∷ event.Stage (id 1) 1 ∷ event.LetOut (id 2) ∷ start 2 0 ∷ ended 2 outcome.Error 24 24 ∷ event.Stage (id 1) 2 ∷ event.LetOut (id 3) ∷ start 3 0 ∷ ended 3 outcome.Error 48 22 ∷ event.LetOut (id 4) ∷ start 4 0 ∷ ended 4 outcome.Error 70 24 ∷ event.CloseSet (id 1) outcome.Error ∷ event.Tick (moment 63876603000) ∷ []) ≡ (codes "tick 2025-03-03T12:50:00\ndo 1\ndo 2\ndo 3\ndo 4\ndo 5\ndo 6\ndo 7\nlet 5\nstart 5 1.1\nend 5 Error 0 24\nopen 1\nstage 1 1\nlet 2\nstart 2 1.1\nend 2 Error 24 24\nstage 1 2\nlet 3\nstart 3 1.1\nend 3 Error 48 22\nlet 4\nstart 4 1.1\nend 4 Error 70 24\nclose 1 Error\ntick 2025-03-03T12:50:00\n--\n1 Completed Error S1\n2 Completed Error P0\n3 Completed Error P1\n4 Completed Error P0\n5 Completed Error P0\n")
unfolding the_law
c57_text = refl

c57_group_0 : map (answers c57) ((start 5 0 ∷ event.LetOut (id 5) ∷ event.Command 7 ∷ event.Command 6 ∷ event.Command 5 ∷ event.Command 4 ∷ event.Command 3 ∷ event.Command 2 ∷ event.Command 1 ∷ event.Tick (moment 63876603000) ∷ []) ∷ (event.Stage (id 1) 2 ∷ ended 2 outcome.Error 24 24 ∷ start 2 0 ∷ event.LetOut (id 2) ∷ event.Stage (id 1) 1 ∷ event.OpenSet (id 1) ∷ ended 5 outcome.Error 0 24 ∷ start 5 0 ∷ event.LetOut (id 5) ∷ event.Command 7 ∷ event.Command 6 ∷ event.Command 5 ∷ event.Command 4 ∷ event.Command 3 ∷ event.Command 2 ∷ event.Command 1 ∷ event.Tick (moment 63876603000) ∷ []) ∷ (ended 3 outcome.Error 48 22 ∷ start 3 0 ∷ event.LetOut (id 3) ∷ event.Stage (id 1) 2 ∷ ended 2 outcome.Error 24 24 ∷ start 2 0 ∷ event.LetOut (id 2) ∷ event.Stage (id 1) 1 ∷ event.OpenSet (id 1) ∷ ended 5 outcome.Error 0 24 ∷ start 5 0 ∷ event.LetOut (id 5) ∷ event.Command 7 ∷ event.Command 6 ∷ event.Command 5 ∷ event.Command 4 ∷ event.Command 3 ∷ event.Command 2 ∷ event.Command 1 ∷ event.Tick (moment 63876603000) ∷ []) ∷ []) ≡ ((None, (false, ((Some (phase.Pending, status.Standby)) ∷ (Some (phase.Pending, status.Waiting)) ∷ (Some (phase.Pending, status.Waiting)) ∷ (Some (phase.Pending, status.Waiting)) ∷ (Some (phase.Running, status.Normal)) ∷ []))) ∷ ((Some (event.LetOut (id 3))), (false, ((Some (phase.Running, status.Paused)) ∷ (Some (phase.Completed, status.Error)) ∷ (Some (phase.Pending, status.Standby)) ∷ (Some (phase.Pending, status.Standby)) ∷ (Some (phase.Completed, status.Error)) ∷ []))) ∷ ((Some (event.LetOut (id 4))), (false, ((Some (phase.Running, status.Paused)) ∷ (Some (phase.Completed, status.Error)) ∷ (Some (phase.Completed, status.Error)) ∷ (Some (phase.Pending, status.Standby)) ∷ (Some (phase.Completed, status.Error)) ∷ []))) ∷ [])
unfolding the_law
c57_group_0 = refl

c57_group_1 : map (next_reading c57_readings) ((start 5 0 ∷ event.LetOut (id 5) ∷ event.Command 7 ∷ event.Command 6 ∷ event.Command 5 ∷ event.Command 4 ∷ event.Command 3 ∷ event.Command 2 ∷ event.Command 1 ∷ event.Tick (moment 63876603000) ∷ []) ∷ (event.Stage (id 1) 2 ∷ ended 2 outcome.Error 24 24 ∷ start 2 0 ∷ event.LetOut (id 2) ∷ event.Stage (id 1) 1 ∷ event.OpenSet (id 1) ∷ ended 5 outcome.Error 0 24 ∷ start 5 0 ∷ event.LetOut (id 5) ∷ event.Command 7 ∷ event.Command 6 ∷ event.Command 5 ∷ event.Command 4 ∷ event.Command 3 ∷ event.Command 2 ∷ event.Command 1 ∷ event.Tick (moment 63876603000) ∷ []) ∷ (ended 3 outcome.Error 48 22 ∷ start 3 0 ∷ event.LetOut (id 3) ∷ event.Stage (id 1) 2 ∷ ended 2 outcome.Error 24 24 ∷ start 2 0 ∷ event.LetOut (id 2) ∷ event.Stage (id 1) 1 ∷ event.OpenSet (id 1) ∷ ended 5 outcome.Error 0 24 ∷ start 5 0 ∷ event.LetOut (id 5) ∷ event.Command 7 ∷ event.Command 6 ∷ event.Command 5 ∷ event.Command 4 ∷ event.Command 3 ∷ event.Command 2 ∷ event.Command 1 ∷ event.Tick (moment 63876603000) ∷ []) ∷ []) ≡ ((Some (record { moment = (moment 63876603000); early = false })) ∷ (Some (record { moment = (moment 63876603000); early = false })) ∷ (Some (record { moment = (moment 63876603000); early = false })) ∷ [])
unfolding the_law
c57_group_1 = refl

c57_group_2 : map (is_lawful c57 c57_readings) ((event.Command 3 ∷ event.Command 2 ∷ event.Command 1 ∷ event.Tick (moment 63876603000) ∷ []) ∷ (start 5 0 ∷ event.LetOut (id 5) ∷ event.Command 7 ∷ event.Command 6 ∷ event.Command 5 ∷ event.Command 4 ∷ event.Command 3 ∷ event.Command 2 ∷ event.Command 1 ∷ event.Tick (moment 63876603000) ∷ []) ∷ (event.LetOut (id 4) ∷ ended 3 outcome.Error 48 22 ∷ start 3 0 ∷ event.LetOut (id 3) ∷ event.Stage (id 1) 2 ∷ ended 2 outcome.Error 24 24 ∷ start 2 0 ∷ event.LetOut (id 2) ∷ event.Stage (id 1) 1 ∷ event.OpenSet (id 1) ∷ ended 5 outcome.Error 0 24 ∷ start 5 0 ∷ event.LetOut (id 5) ∷ event.Command 7 ∷ event.Command 6 ∷ event.Command 5 ∷ event.Command 4 ∷ event.Command 3 ∷ event.Command 2 ∷ event.Command 1 ∷ event.Tick (moment 63876603000) ∷ []) ∷ (event.Command 3 ∷ event.Command 2 ∷ event.Command 1 ∷ event.Tick (moment 63876603000) ∷ []) ∷ [] ∷ []) ≡ (true ∷ true ∷ true ∷ true ∷ true ∷ [])
unfolding the_law
c57_group_2 = refl

c57_group_3 : map (is_lawful c57 c57_readings) ((event.OpenSet (id 5) ∷ event.Command 3 ∷ event.Command 2 ∷ event.Command 1 ∷ event.Tick (moment 63876603000) ∷ []) ∷ (event.OpenSet (id 5) ∷ start 5 0 ∷ event.LetOut (id 5) ∷ event.Command 7 ∷ event.Command 6 ∷ event.Command 5 ∷ event.Command 4 ∷ event.Command 3 ∷ event.Command 2 ∷ event.Command 1 ∷ event.Tick (moment 63876603000) ∷ []) ∷ (start 5 0 ∷ event.LetOut (id 4) ∷ ended 3 outcome.Error 48 22 ∷ start 3 0 ∷ event.LetOut (id 3) ∷ event.Stage (id 1) 2 ∷ ended 2 outcome.Error 24 24 ∷ start 2 0 ∷ event.LetOut (id 2) ∷ event.Stage (id 1) 1 ∷ event.OpenSet (id 1) ∷ ended 5 outcome.Error 0 24 ∷ start 5 0 ∷ event.LetOut (id 5) ∷ event.Command 7 ∷ event.Command 6 ∷ event.Command 5 ∷ event.Command 4 ∷ event.Command 3 ∷ event.Command 2 ∷ event.Command 1 ∷ event.Tick (moment 63876603000) ∷ []) ∷ (event.Command 3 ∷ event.Command 3 ∷ event.Command 2 ∷ event.Command 1 ∷ event.Tick (moment 63876603000) ∷ []) ∷ (ended 5 outcome.Normal 0 5 ∷ []) ∷ []) ≡ (false ∷ false ∷ false ∷ false ∷ false ∷ [])
unfolding the_law
c57_group_3 = refl

abbrev c6_setup : Setup
unfolding texts
c6_setup = record {
  tables = ((codes "t") ∷ []);
  programs = (record { name = (codes "P0"); request_type = (codes "A"); enabled = true; run_alone = false; restart = true; job = record { table = (codes "t"); filters = []; group = None; sum = None; warn_over = (Some 0); error_over = (Some 1); few = lit≤ tt }; post = None; short = refl; sums = refl } ∷ record { name = (codes "P1"); request_type = []; enabled = true; run_alone = false; restart = true; job = record { table = (codes "t"); filters = []; group = (Some (codes "k")); sum = (Some (codes "v")); warn_over = None; error_over = None; few = lit≤ tt }; post = None; short = refl; sums = refl } ∷ record { name = (codes "P2"); request_type = (codes "A"); enabled = true; run_alone = false; restart = true; job = record { table = (codes "t"); filters = []; group = None; sum = None; warn_over = (Some 1); error_over = None; few = lit≤ tt }; post = None; short = refl; sums = refl } ∷ record { name = (codes "P3"); request_type = (codes "A"); enabled = false; run_alone = false; restart = false; job = record { table = (codes "t"); filters = []; group = None; sum = None; warn_over = (Some 0); error_over = (Some 1); few = lit≤ tt }; post = None; short = refl; sums = refl } ∷ []);
  entries = (record { owner = (item.Set 0); other = (item.Set 0); scope = scope.Program; reach = reach.Global } ∷ record { owner = (item.Program 3); other = (item.Set 0); scope = scope.Set; reach = reach.Domain } ∷ []);
  managers = (record { name = (codes "M0"); include = []; exclude = []; shifts = []; few_rules = lit≤ tt; few_shifts = lit≤ tt } ∷ []);
  sets = (record { name = (codes "S0"); stages = (record { name = (codes "s0"); critical = true; links = ((Some 1) ∷ (Some 1) ∷ (Some 1) ∷ []); members = (1 ∷ []); near = refl; some = refl } ∷ record { name = (codes "s1"); critical = false; links = (None ∷ None ∷ None ∷ []); members = (2 ∷ []); near = refl; some = refl } ∷ []); some = refl; forward = refl } ∷ []);
  few_tables = lit≤ tt;
  few_programs = lit≤ tt;
  few_entries = lit≤ tt;
  few_managers = lit≤ tt;
  few_sets = lit≤ tt;
  few_places = lit≤ tt;
  named = refl;
  references = refl;
}

abbrev c6_commands : List Order
c6_commands = (record { at = (moment 63876600000); act = act.Submit (item.Program 1) (codes "bob") 90 (moment 63876600000) (codes "Standard") [] } ∷ record { at = (moment 63876600000); act = act.Submit (item.Program 3) (codes "ann") 90 (moment 63876600000) (codes "Standard") [] } ∷ record { at = (moment 63876600600); act = act.Submit (item.Program 0) (codes "ann") 50 (moment 63876600600) (codes "Standard") [] } ∷ record { at = (moment 63876601200); act = act.Submit (item.Set 0) (codes "ann") 90 (moment 63876601800) (codes "D") [] } ∷ record { at = (moment 63876601800); act = act.Submit (item.Set 0) (codes "bob") 20 (moment 63876603600) (codes "Standard") [] } ∷ record { at = (moment 63876602400); act = act.Cancel (id 1) } ∷ [])

abbrev c6 : Plan
unfolding texts
c6 = record {
  setup = c6_setup;
  script = record { commands = c6_commands; few = lit≤ tt };
  tables = (record { columns = ((codes "k") ∷ (codes "v") ∷ []); rows = (((codes "b") ∷ (codes "1") ∷ []) ∷ ((codes "b") ∷ (codes "1") ∷ []) ∷ ((codes "a") ∷ (codes "1") ∷ []) ∷ []); distinct = refl; even = refl; few = lit≤ tt } ∷ []);
  requests = expansion c6_setup c6_commands;
  stamps = map (λ (order : Order). 0) c6_commands;
  commands = refl;
  reports = refl;
  expanded = refl;
  stamped = refl;
  few = lit≤ tt;
}

c6_requests : c6.requests ≡ (request_by 1 1 (item.Program 1) (codes "bob") [] 90 63876600000 (codes "Standard") [] None 0 ∷ request_by 2 2 (item.Program 3) (codes "ann") (codes "A") 90 63876600000 (codes "Standard") [] None 0 ∷ request_by 3 3 (item.Program 0) (codes "ann") (codes "A") 50 63876600600 (codes "Standard") [] None 0 ∷ request_by 4 4 (item.Set 0) (codes "ann") [] 90 63876601800 (codes "D") [] None 0 ∷ request_by 5 4 (item.Program 1) (codes "ann") [] 90 63876601800 (codes "D") [] (Some (id 4)) 1 ∷ request_by 6 4 (item.Program 2) (codes "ann") (codes "A") 90 63876601800 (codes "D") [] (Some (id 4)) 2 ∷ request_by 7 5 (item.Set 0) (codes "bob") [] 20 63876603600 (codes "Standard") [] None 0 ∷ request_by 8 5 (item.Program 1) (codes "bob") [] 20 63876603600 (codes "Standard") [] (Some (id 7)) 1 ∷ request_by 9 5 (item.Program 2) (codes "bob") (codes "A") 20 63876603600 (codes "Standard") [] (Some (id 7)) 2 ∷ [])
unfolding the_law
c6_requests = refl

abbrev c6_readings : List Reading
c6_readings = (record { moment = (moment 63876601800); early = true } ∷ record { moment = (moment 63876601800); early = true } ∷ record { moment = (moment 63876603000); early = true } ∷ record { moment = (moment 63876603600); early = false } ∷ record { moment = (moment 63876604200); early = false } ∷ [])

c6_runs : made c6 c6_readings 38 [] ≡ (event.Tick (moment 63876604200) ∷ event.CloseSet (id 7) outcome.Normal ∷ ended 9 outcome.Warning 144 18 ∷ start 9 0 ∷ event.LetOut (id 9) ∷ event.Stage (id 7) 2 ∷ ended 8 outcome.Normal 108 36 ∷ start 8 0 ∷ event.LetOut (id 8) ∷ event.Stage (id 7) 1 ∷ event.OpenSet (id 7) ∷ event.Tick (moment 63876603600) ∷ event.Command 6 ∷ event.Tick (moment 63876603000) ∷ event.Tick (moment 63876601800) ∷ event.CloseSet (id 4) outcome.Normal ∷ ended 6 outcome.Warning 90 18 ∷ start 6 0 ∷ event.LetOut (id 6) ∷ event.Stage (id 4) 2 ∷ ended 5 outcome.Normal 54 36 ∷ start 5 0 ∷ ended 1 outcome.Normal 18 36 ∷ start 1 0 ∷ ended 3 outcome.Error 0 18 ∷ start 3 0 ∷ event.LetOut (id 5) ∷ event.Stage (id 4) 1 ∷ event.OpenSet (id 4) ∷ event.LetOut (id 1) ∷ event.LetOut (id 3) ∷ event.Command 5 ∷ event.Command 4 ∷ event.Command 3 ∷ event.Command 2 ∷ event.Command 1 ∷ event.Tick (moment 63876601800) ∷ [])
unfolding the_law
c6_runs = refl

c6_lawful : is_lawful c6 c6_readings (event.Tick (moment 63876604200) ∷ event.CloseSet (id 7) outcome.Normal ∷ ended 9 outcome.Warning 144 18 ∷ start 9 0 ∷ event.LetOut (id 9) ∷ event.Stage (id 7) 2 ∷ ended 8 outcome.Normal 108 36 ∷ start 8 0 ∷ event.LetOut (id 8) ∷ event.Stage (id 7) 1 ∷ event.OpenSet (id 7) ∷ event.Tick (moment 63876603600) ∷ event.Command 6 ∷ event.Tick (moment 63876603000) ∷ event.Tick (moment 63876601800) ∷ event.CloseSet (id 4) outcome.Normal ∷ ended 6 outcome.Warning 90 18 ∷ start 6 0 ∷ event.LetOut (id 6) ∷ event.Stage (id 4) 2 ∷ ended 5 outcome.Normal 54 36 ∷ start 5 0 ∷ ended 1 outcome.Normal 18 36 ∷ start 1 0 ∷ ended 3 outcome.Error 0 18 ∷ start 3 0 ∷ event.LetOut (id 5) ∷ event.Stage (id 4) 1 ∷ event.OpenSet (id 4) ∷ event.LetOut (id 1) ∷ event.LetOut (id 3) ∷ event.Command 5 ∷ event.Command 4 ∷ event.Command 3 ∷ event.Command 2 ∷ event.Command 1 ∷ event.Tick (moment 63876601800) ∷ []) ≡ true
unfolding the_law
c6_lawful = refl

c6_text : text_of c6 (event.Tick (moment 63876601800) ∷ event.Command 1 ∷ event.Command 2 ∷ event.Command 3 ∷ event.Command 4 ∷ event.Command 5 ∷ event.LetOut (id 3) ∷ event.LetOut (id 1) ∷ event.OpenSet (id 4) ∷ event.Stage (id 4) 1 ∷ event.LetOut (id 5) ∷ start 3 0 ∷ ended 3 outcome.Error 0 18 ∷ start 1 0 ∷ ended 1 outcome.Normal 18 36 ∷ start 5 0 ∷ ended 5 outcome.Normal 54 36 ∷ event.Stage (id 4) 2 ∷ event.LetOut (id 6) ∷ start 6 0 ∷ ended 6 outcome.Warning 90 18 ∷ event.CloseSet (id 4) outcome.Normal ∷ event.Tick (moment 63876601800) ∷ event.Tick (moment 63876603000) ∷ event.Command 6 ∷ event.Tick (moment 63876603600) ∷ event.OpenSet (id 7) ∷ event.Stage (id 7) 1 ∷ event.LetOut (id 8) ∷ start 8 0 ∷ ended 8 outcome.Normal 108 36 ∷ event.Stage (id 7) 2 ∷ event.LetOut (id 9) ∷ start 9 0 ∷ ended 9 outcome.Warning 144 18 ∷ event.CloseSet (id 7) outcome.Normal ∷ event.Tick (moment 63876604200) ∷ []) ≡ (codes "tick 2025-03-03T12:30:00\ndo 1\ndo 2\ndo 3\ndo 4\ndo 5\nlet 3\nlet 1\nopen 4\nstage 4 1\nlet 5\nstart 3 1.1\nend 3 Error 0 18\nstart 1 1.1\nend 1 Normal 18 36\nstart 5 1.1\nend 5 Normal 54 36\nstage 4 2\nlet 6\nstart 6 1.1\nend 6 Warning 90 18\nclose 4 Normal\ntick 2025-03-03T12:30:00\ntick 2025-03-03T12:50:00\ndo 6\ntick 2025-03-03T13:00:00\nopen 7\nstage 7 1\nlet 8\nstart 8 1.1\nend 8 Normal 108 36\nstage 7 2\nlet 9\nstart 9 1.1\nend 9 Warning 144 18\nclose 7 Normal\ntick 2025-03-03T13:10:00\n--\n1 Completed Normal P1\n2 Inactive Disabled P3\n3 Completed Error P0\n4 Completed Normal S0\n5 Completed Normal P1\n6 Completed Warning P2\n7 Completed Normal S0\n8 Completed Normal P1\n9 Completed Warning P2\n")
unfolding the_law
c6_text = refl

c6_group_0 : map (answers c6) ((ended 9 outcome.Warning 144 18 ∷ start 9 0 ∷ event.LetOut (id 9) ∷ event.Stage (id 7) 2 ∷ ended 8 outcome.Normal 108 36 ∷ start 8 0 ∷ event.LetOut (id 8) ∷ event.Stage (id 7) 1 ∷ event.OpenSet (id 7) ∷ event.Tick (moment 63876603600) ∷ event.Command 6 ∷ event.Tick (moment 63876603000) ∷ event.Tick (moment 63876601800) ∷ event.CloseSet (id 4) outcome.Normal ∷ ended 6 outcome.Warning 90 18 ∷ start 6 0 ∷ event.LetOut (id 6) ∷ event.Stage (id 4) 2 ∷ ended 5 outcome.Normal 54 36 ∷ start 5 0 ∷ ended 1 outcome.Normal 18 36 ∷ start 1 0 ∷ ended 3 outcome.Error 0 18 ∷ start 3 0 ∷ event.LetOut (id 5) ∷ event.Stage (id 4) 1 ∷ event.OpenSet (id 4) ∷ event.LetOut (id 1) ∷ event.LetOut (id 3) ∷ event.Command 5 ∷ event.Command 4 ∷ event.Command 3 ∷ event.Command 2 ∷ event.Command 1 ∷ event.Tick (moment 63876601800) ∷ []) ∷ (event.LetOut (id 8) ∷ event.Stage (id 7) 1 ∷ event.OpenSet (id 7) ∷ event.Tick (moment 63876603600) ∷ event.Command 6 ∷ event.Tick (moment 63876603000) ∷ event.Tick (moment 63876601800) ∷ event.CloseSet (id 4) outcome.Normal ∷ ended 6 outcome.Warning 90 18 ∷ start 6 0 ∷ event.LetOut (id 6) ∷ event.Stage (id 4) 2 ∷ ended 5 outcome.Normal 54 36 ∷ start 5 0 ∷ ended 1 outcome.Normal 18 36 ∷ start 1 0 ∷ ended 3 outcome.Error 0 18 ∷ start 3 0 ∷ event.LetOut (id 5) ∷ event.Stage (id 4) 1 ∷ event.OpenSet (id 4) ∷ event.LetOut (id 1) ∷ event.LetOut (id 3) ∷ event.Command 5 ∷ event.Command 4 ∷ event.Command 3 ∷ event.Command 2 ∷ event.Command 1 ∷ event.Tick (moment 63876601800) ∷ []) ∷ (event.LetOut (id 5) ∷ event.Stage (id 4) 1 ∷ event.OpenSet (id 4) ∷ event.LetOut (id 1) ∷ event.LetOut (id 3) ∷ event.Command 5 ∷ event.Command 4 ∷ event.Command 3 ∷ event.Command 2 ∷ event.Command 1 ∷ event.Tick (moment 63876601800) ∷ []) ∷ []) ≡ (((Some (event.CloseSet (id 7) outcome.Normal)), (false, ((Some (phase.Completed, status.Normal)) ∷ (Some (phase.Inactive, status.Disabled)) ∷ (Some (phase.Completed, status.Error)) ∷ (Some (phase.Completed, status.Normal)) ∷ (Some (phase.Completed, status.Normal)) ∷ (Some (phase.Completed, status.Warning)) ∷ (Some (phase.Running, status.Paused)) ∷ (Some (phase.Completed, status.Normal)) ∷ (Some (phase.Completed, status.Warning)) ∷ []))) ∷ (None, (false, ((Some (phase.Completed, status.Normal)) ∷ (Some (phase.Inactive, status.Disabled)) ∷ (Some (phase.Completed, status.Error)) ∷ (Some (phase.Completed, status.Normal)) ∷ (Some (phase.Completed, status.Normal)) ∷ (Some (phase.Completed, status.Warning)) ∷ (Some (phase.Running, status.Paused)) ∷ (Some (phase.Pending, status.Normal)) ∷ (Some (phase.Pending, status.Waiting)) ∷ []))) ∷ (None, (false, ((Some (phase.Pending, status.Normal)) ∷ (Some (phase.Inactive, status.Disabled)) ∷ (Some (phase.Pending, status.Normal)) ∷ (Some (phase.Running, status.Paused)) ∷ (Some (phase.Pending, status.Normal)) ∷ (Some (phase.Pending, status.Waiting)) ∷ (Some (phase.Pending, status.Scheduled)) ∷ (Some (phase.Pending, status.Waiting)) ∷ (Some (phase.Pending, status.Waiting)) ∷ []))) ∷ [])
unfolding the_law
c6_group_0 = refl

c6_group_1 : map (next_reading c6_readings) ((ended 9 outcome.Warning 144 18 ∷ start 9 0 ∷ event.LetOut (id 9) ∷ event.Stage (id 7) 2 ∷ ended 8 outcome.Normal 108 36 ∷ start 8 0 ∷ event.LetOut (id 8) ∷ event.Stage (id 7) 1 ∷ event.OpenSet (id 7) ∷ event.Tick (moment 63876603600) ∷ event.Command 6 ∷ event.Tick (moment 63876603000) ∷ event.Tick (moment 63876601800) ∷ event.CloseSet (id 4) outcome.Normal ∷ ended 6 outcome.Warning 90 18 ∷ start 6 0 ∷ event.LetOut (id 6) ∷ event.Stage (id 4) 2 ∷ ended 5 outcome.Normal 54 36 ∷ start 5 0 ∷ ended 1 outcome.Normal 18 36 ∷ start 1 0 ∷ ended 3 outcome.Error 0 18 ∷ start 3 0 ∷ event.LetOut (id 5) ∷ event.Stage (id 4) 1 ∷ event.OpenSet (id 4) ∷ event.LetOut (id 1) ∷ event.LetOut (id 3) ∷ event.Command 5 ∷ event.Command 4 ∷ event.Command 3 ∷ event.Command 2 ∷ event.Command 1 ∷ event.Tick (moment 63876601800) ∷ []) ∷ (event.LetOut (id 8) ∷ event.Stage (id 7) 1 ∷ event.OpenSet (id 7) ∷ event.Tick (moment 63876603600) ∷ event.Command 6 ∷ event.Tick (moment 63876603000) ∷ event.Tick (moment 63876601800) ∷ event.CloseSet (id 4) outcome.Normal ∷ ended 6 outcome.Warning 90 18 ∷ start 6 0 ∷ event.LetOut (id 6) ∷ event.Stage (id 4) 2 ∷ ended 5 outcome.Normal 54 36 ∷ start 5 0 ∷ ended 1 outcome.Normal 18 36 ∷ start 1 0 ∷ ended 3 outcome.Error 0 18 ∷ start 3 0 ∷ event.LetOut (id 5) ∷ event.Stage (id 4) 1 ∷ event.OpenSet (id 4) ∷ event.LetOut (id 1) ∷ event.LetOut (id 3) ∷ event.Command 5 ∷ event.Command 4 ∷ event.Command 3 ∷ event.Command 2 ∷ event.Command 1 ∷ event.Tick (moment 63876601800) ∷ []) ∷ (event.LetOut (id 5) ∷ event.Stage (id 4) 1 ∷ event.OpenSet (id 4) ∷ event.LetOut (id 1) ∷ event.LetOut (id 3) ∷ event.Command 5 ∷ event.Command 4 ∷ event.Command 3 ∷ event.Command 2 ∷ event.Command 1 ∷ event.Tick (moment 63876601800) ∷ []) ∷ []) ≡ ((Some (record { moment = (moment 63876604200); early = false })) ∷ (Some (record { moment = (moment 63876604200); early = false })) ∷ (Some (record { moment = (moment 63876601800); early = true })) ∷ [])
unfolding the_law
c6_group_1 = refl

c6_group_2 : map (is_lawful c6 c6_readings) ((ended 9 outcome.Warning 144 18 ∷ start 9 0 ∷ event.LetOut (id 9) ∷ event.Stage (id 7) 2 ∷ ended 8 outcome.Normal 108 36 ∷ start 8 0 ∷ event.LetOut (id 8) ∷ event.Stage (id 7) 1 ∷ event.OpenSet (id 7) ∷ event.Tick (moment 63876603600) ∷ event.Command 6 ∷ event.Tick (moment 63876603000) ∷ event.Tick (moment 63876601800) ∷ event.CloseSet (id 4) outcome.Normal ∷ ended 6 outcome.Warning 90 18 ∷ start 6 0 ∷ event.LetOut (id 6) ∷ event.Stage (id 4) 2 ∷ ended 5 outcome.Normal 54 36 ∷ start 5 0 ∷ ended 1 outcome.Normal 18 36 ∷ start 1 0 ∷ ended 3 outcome.Error 0 18 ∷ start 3 0 ∷ event.LetOut (id 5) ∷ event.Stage (id 4) 1 ∷ event.OpenSet (id 4) ∷ event.LetOut (id 1) ∷ event.LetOut (id 3) ∷ event.Command 5 ∷ event.Command 4 ∷ event.Command 3 ∷ event.Command 2 ∷ event.Command 1 ∷ event.Tick (moment 63876601800) ∷ []) ∷ (event.LetOut (id 6) ∷ event.Stage (id 4) 2 ∷ ended 5 outcome.Normal 54 36 ∷ start 5 0 ∷ ended 1 outcome.Normal 18 36 ∷ start 1 0 ∷ ended 3 outcome.Error 0 18 ∷ start 3 0 ∷ event.LetOut (id 5) ∷ event.Stage (id 4) 1 ∷ event.OpenSet (id 4) ∷ event.LetOut (id 1) ∷ event.LetOut (id 3) ∷ event.Command 5 ∷ event.Command 4 ∷ event.Command 3 ∷ event.Command 2 ∷ event.Command 1 ∷ event.Tick (moment 63876601800) ∷ []) ∷ (ended 3 outcome.Error 0 18 ∷ start 3 0 ∷ event.LetOut (id 5) ∷ event.Stage (id 4) 1 ∷ event.OpenSet (id 4) ∷ event.LetOut (id 1) ∷ event.LetOut (id 3) ∷ event.Command 5 ∷ event.Command 4 ∷ event.Command 3 ∷ event.Command 2 ∷ event.Command 1 ∷ event.Tick (moment 63876601800) ∷ []) ∷ (start 6 0 ∷ event.LetOut (id 6) ∷ event.Stage (id 4) 2 ∷ ended 5 outcome.Normal 54 36 ∷ start 5 0 ∷ ended 1 outcome.Normal 18 36 ∷ start 1 0 ∷ ended 3 outcome.Error 0 18 ∷ start 3 0 ∷ event.LetOut (id 5) ∷ event.Stage (id 4) 1 ∷ event.OpenSet (id 4) ∷ event.LetOut (id 1) ∷ event.LetOut (id 3) ∷ event.Command 5 ∷ event.Command 4 ∷ event.Command 3 ∷ event.Command 2 ∷ event.Command 1 ∷ event.Tick (moment 63876601800) ∷ []) ∷ []) ≡ (true ∷ true ∷ true ∷ true ∷ [])
unfolding the_law
c6_group_2 = refl

c6_group_3 : map (is_lawful c6 c6_readings) ((event.CloseSet (id 7) outcome.Error ∷ ended 9 outcome.Warning 144 18 ∷ start 9 0 ∷ event.LetOut (id 9) ∷ event.Stage (id 7) 2 ∷ ended 8 outcome.Normal 108 36 ∷ start 8 0 ∷ event.LetOut (id 8) ∷ event.Stage (id 7) 1 ∷ event.OpenSet (id 7) ∷ event.Tick (moment 63876603600) ∷ event.Command 6 ∷ event.Tick (moment 63876603000) ∷ event.Tick (moment 63876601800) ∷ event.CloseSet (id 4) outcome.Normal ∷ ended 6 outcome.Warning 90 18 ∷ start 6 0 ∷ event.LetOut (id 6) ∷ event.Stage (id 4) 2 ∷ ended 5 outcome.Normal 54 36 ∷ start 5 0 ∷ ended 1 outcome.Normal 18 36 ∷ start 1 0 ∷ ended 3 outcome.Error 0 18 ∷ start 3 0 ∷ event.LetOut (id 5) ∷ event.Stage (id 4) 1 ∷ event.OpenSet (id 4) ∷ event.LetOut (id 1) ∷ event.LetOut (id 3) ∷ event.Command 5 ∷ event.Command 4 ∷ event.Command 3 ∷ event.Command 2 ∷ event.Command 1 ∷ event.Tick (moment 63876601800) ∷ []) ∷ (ended 6 outcome.Warning 90 18 ∷ event.LetOut (id 6) ∷ event.Stage (id 4) 2 ∷ ended 5 outcome.Normal 54 36 ∷ start 5 0 ∷ ended 1 outcome.Normal 18 36 ∷ start 1 0 ∷ ended 3 outcome.Error 0 18 ∷ start 3 0 ∷ event.LetOut (id 5) ∷ event.Stage (id 4) 1 ∷ event.OpenSet (id 4) ∷ event.LetOut (id 1) ∷ event.LetOut (id 3) ∷ event.Command 5 ∷ event.Command 4 ∷ event.Command 3 ∷ event.Command 2 ∷ event.Command 1 ∷ event.Tick (moment 63876601800) ∷ []) ∷ (start 2 0 ∷ ended 3 outcome.Error 0 18 ∷ start 3 0 ∷ event.LetOut (id 5) ∷ event.Stage (id 4) 1 ∷ event.OpenSet (id 4) ∷ event.LetOut (id 1) ∷ event.LetOut (id 3) ∷ event.Command 5 ∷ event.Command 4 ∷ event.Command 3 ∷ event.Command 2 ∷ event.Command 1 ∷ event.Tick (moment 63876601800) ∷ []) ∷ (ended 6 outcome.Cancelled 90 18 ∷ start 6 0 ∷ event.LetOut (id 6) ∷ event.Stage (id 4) 2 ∷ ended 5 outcome.Normal 54 36 ∷ start 5 0 ∷ ended 1 outcome.Normal 18 36 ∷ start 1 0 ∷ ended 3 outcome.Error 0 18 ∷ start 3 0 ∷ event.LetOut (id 5) ∷ event.Stage (id 4) 1 ∷ event.OpenSet (id 4) ∷ event.LetOut (id 1) ∷ event.LetOut (id 3) ∷ event.Command 5 ∷ event.Command 4 ∷ event.Command 3 ∷ event.Command 2 ∷ event.Command 1 ∷ event.Tick (moment 63876601800) ∷ []) ∷ []) ≡ (false ∷ false ∷ false ∷ false ∷ [])
unfolding the_law
c6_group_3 = refl

abbrev c130_setup : Setup
unfolding texts
c130_setup = record {
  tables = ((codes "t") ∷ []);
  programs = (record { name = (codes "P0"); request_type = (codes "A"); enabled = true; run_alone = false; restart = true; job = record { table = (codes "t"); filters = []; group = None; sum = (Some (codes "v")); warn_over = None; error_over = None; few = lit≤ tt }; post = None; short = refl; sums = refl } ∷ record { name = (codes "P1"); request_type = (codes "A"); enabled = true; run_alone = false; restart = true; job = record { table = (codes "t"); filters = []; group = (Some (codes "k")); sum = None; warn_over = None; error_over = (Some 0); few = lit≤ tt }; post = None; short = refl; sums = refl } ∷ record { name = (codes "P2"); request_type = []; enabled = true; run_alone = true; restart = false; job = record { table = (codes "t"); filters = []; group = None; sum = None; warn_over = None; error_over = (Some 0); few = lit≤ tt }; post = None; short = refl; sums = refl } ∷ record { name = (codes "P3"); request_type = (codes "A"); enabled = true; run_alone = true; restart = false; job = record { table = (codes "t"); filters = []; group = None; sum = None; warn_over = (Some 0); error_over = None; few = lit≤ tt }; post = None; short = refl; sums = refl } ∷ []);
  entries = (record { owner = (item.Program 3); other = (item.Program 0); scope = scope.Set; reach = reach.Domain } ∷ record { owner = (item.Set 1); other = (item.Set 1); scope = scope.Set; reach = reach.Global } ∷ record { owner = (item.Set 1); other = (item.Program 3); scope = scope.Set; reach = reach.Global } ∷ []);
  managers = (record { name = (codes "M0"); include = []; exclude = []; shifts = (record { date = None; days = 0; times = None; places = 2; valid = refl } ∷ []); few_rules = lit≤ tt; few_shifts = lit≤ tt } ∷ []);
  sets = (record { name = (codes "S0"); stages = (record { name = (codes "s0"); critical = false; links = ((Some 2) ∷ (Some 1) ∷ (Some 2) ∷ []); members = (1 ∷ []); near = refl; some = refl } ∷ record { name = (codes "s1"); critical = true; links = ((Some 2) ∷ (Some 2) ∷ (Some 2) ∷ []); members = (3 ∷ []); near = refl; some = refl } ∷ record { name = (codes "s2"); critical = false; links = (None ∷ None ∷ None ∷ []); members = (1 ∷ []); near = refl; some = refl } ∷ []); some = refl; forward = refl } ∷ record { name = (codes "S1"); stages = (record { name = (codes "s0"); critical = true; links = ((Some 1) ∷ None ∷ None ∷ []); members = (3 ∷ []); near = refl; some = refl } ∷ record { name = (codes "s1"); critical = true; links = (None ∷ None ∷ None ∷ []); members = (1 ∷ 0 ∷ []); near = refl; some = refl } ∷ []); some = refl; forward = refl } ∷ []);
  few_tables = lit≤ tt;
  few_programs = lit≤ tt;
  few_entries = lit≤ tt;
  few_managers = lit≤ tt;
  few_sets = lit≤ tt;
  few_places = lit≤ tt;
  named = refl;
  references = refl;
}

abbrev c130_commands : List Order
c130_commands = (record { at = (moment 63876601200); act = act.Submit (item.Set 1) (codes "bob") 20 (moment 63876601800) (codes "Standard") [] } ∷ record { at = (moment 63876601200); act = act.Submit (item.Program 1) (codes "bob") 50 (moment 63876601200) (codes "Standard") [] } ∷ record { at = (moment 63876601200); act = act.Submit (item.Program 2) (codes "ann") 50 (moment 63876603000) (codes "Standard") [] } ∷ record { at = (moment 63876601800); act = act.Hold (id 4) } ∷ record { at = (moment 63876601800); act = act.Terminate (id 4) } ∷ record { at = (moment 63876601800); act = act.Hold (id 5) } ∷ record { at = (moment 63876602400); act = act.Hold (id 3) } ∷ [])

abbrev c130 : Plan
unfolding texts
c130 = record {
  setup = c130_setup;
  script = record { commands = c130_commands; few = lit≤ tt };
  tables = (record { columns = ((codes "k") ∷ (codes "v") ∷ []); rows = (((codes "b") ∷ (codes "3") ∷ []) ∷ ((codes "b") ∷ (codes "3") ∷ []) ∷ []); distinct = refl; even = refl; few = lit≤ tt } ∷ []);
  requests = expansion c130_setup c130_commands;
  stamps = map (λ (order : Order). 0) c130_commands;
  commands = refl;
  reports = refl;
  expanded = refl;
  stamped = refl;
  few = lit≤ tt;
}

c130_requests : c130.requests ≡ (request_by 1 1 (item.Set 1) (codes "bob") [] 20 63876601800 (codes "Standard") [] None 0 ∷ request_by 2 1 (item.Program 3) (codes "bob") (codes "A") 20 63876601800 (codes "Standard") [] (Some (id 1)) 1 ∷ request_by 3 1 (item.Program 1) (codes "bob") (codes "A") 20 63876601800 (codes "Standard") [] (Some (id 1)) 2 ∷ request_by 4 1 (item.Program 0) (codes "bob") (codes "A") 20 63876601800 (codes "Standard") [] (Some (id 1)) 2 ∷ request_by 5 2 (item.Program 1) (codes "bob") (codes "A") 50 63876601200 (codes "Standard") [] None 0 ∷ request_by 6 3 (item.Program 2) (codes "ann") [] 50 63876603000 (codes "Standard") [] None 0 ∷ [])
unfolding the_law
c130_requests = refl

abbrev c130_readings : List Reading
c130_readings = (record { moment = (moment 63876600000); early = false } ∷ record { moment = (moment 63876601800); early = false } ∷ record { moment = (moment 63876603000); early = false } ∷ record { moment = (moment 63876603600); early = true } ∷ [])

c130_runs : made c130 c130_readings 21 [] ≡ (event.Tick (moment 63876603600) ∷ ended 6 outcome.Error 18 18 ∷ start 6 0 ∷ event.LetOut (id 6) ∷ event.Command 7 ∷ event.Tick (moment 63876603000) ∷ event.CloseSet (id 1) outcome.Warning ∷ ended 2 outcome.Warning 0 18 ∷ start 2 0 ∷ event.LetOut (id 2) ∷ event.Stage (id 1) 1 ∷ event.OpenSet (id 1) ∷ event.Command 6 ∷ event.Command 5 ∷ event.Command 4 ∷ event.Command 3 ∷ event.Command 2 ∷ event.Command 1 ∷ event.Tick (moment 63876601800) ∷ event.Tick (moment 63876600000) ∷ [])
unfolding the_law
c130_runs = refl

c130_lawful : is_lawful c130 c130_readings (event.Tick (moment 63876603600) ∷ ended 6 outcome.Error 18 18 ∷ start 6 0 ∷ event.LetOut (id 6) ∷ event.Command 7 ∷ event.Tick (moment 63876603000) ∷ event.CloseSet (id 1) outcome.Warning ∷ ended 2 outcome.Warning 0 18 ∷ start 2 0 ∷ event.LetOut (id 2) ∷ event.Stage (id 1) 1 ∷ event.OpenSet (id 1) ∷ event.Command 6 ∷ event.Command 5 ∷ event.Command 4 ∷ event.Command 3 ∷ event.Command 2 ∷ event.Command 1 ∷ event.Tick (moment 63876601800) ∷ event.Tick (moment 63876600000) ∷ []) ≡ true
unfolding the_law
c130_lawful = refl

c130_text : text_of c130 (event.Tick (moment 63876600000) ∷ event.Tick (moment 63876601800) ∷ event.Command 1 ∷ event.Command 2 ∷ event.Command 3 ∷ event.Command 4 ∷ event.Command 5 ∷ event.Command 6 ∷ event.OpenSet (id 1) ∷ event.Stage (id 1) 1 ∷ event.LetOut (id 2) ∷ start 2 0 ∷ ended 2 outcome.Warning 0 18 ∷ event.CloseSet (id 1) outcome.Warning ∷ event.Tick (moment 63876603000) ∷ event.Command 7 ∷ event.LetOut (id 6) ∷ start 6 0 ∷ ended 6 outcome.Error 18 18 ∷ event.Tick (moment 63876603600) ∷ []) ≡ (codes "tick 2025-03-03T12:00:00\ntick 2025-03-03T12:30:00\ndo 1\ndo 2\ndo 3\ndo 4\ndo 5\ndo 6\nopen 1\nstage 1 1\nlet 2\nstart 2 1.1\nend 2 Warning 0 18\nclose 1 Warning\ntick 2025-03-03T12:50:00\ndo 7\nlet 6\nstart 6 1.1\nend 6 Error 18 18\ntick 2025-03-03T13:00:00\n--\n1 Completed Warning S1\n2 Completed Warning P3\n3 Completed Cancelled P1\n4 Completed Cancelled P0\n5 Inactive On Hold P1\n6 Completed Error P2\n")
unfolding the_law
c130_text = refl

c130_group_0 : map (answers c130) ((start 6 0 ∷ event.LetOut (id 6) ∷ event.Command 7 ∷ event.Tick (moment 63876603000) ∷ event.CloseSet (id 1) outcome.Warning ∷ ended 2 outcome.Warning 0 18 ∷ start 2 0 ∷ event.LetOut (id 2) ∷ event.Stage (id 1) 1 ∷ event.OpenSet (id 1) ∷ event.Command 6 ∷ event.Command 5 ∷ event.Command 4 ∷ event.Command 3 ∷ event.Command 2 ∷ event.Command 1 ∷ event.Tick (moment 63876601800) ∷ event.Tick (moment 63876600000) ∷ []) ∷ (event.CloseSet (id 1) outcome.Warning ∷ ended 2 outcome.Warning 0 18 ∷ start 2 0 ∷ event.LetOut (id 2) ∷ event.Stage (id 1) 1 ∷ event.OpenSet (id 1) ∷ event.Command 6 ∷ event.Command 5 ∷ event.Command 4 ∷ event.Command 3 ∷ event.Command 2 ∷ event.Command 1 ∷ event.Tick (moment 63876601800) ∷ event.Tick (moment 63876600000) ∷ []) ∷ (event.CloseSet (id 1) outcome.Warning ∷ ended 2 outcome.Warning 0 18 ∷ start 2 0 ∷ event.LetOut (id 2) ∷ event.Stage (id 1) 1 ∷ event.OpenSet (id 1) ∷ event.Command 6 ∷ event.Command 5 ∷ event.Command 4 ∷ event.Command 3 ∷ event.Command 2 ∷ event.Command 1 ∷ event.Tick (moment 63876601800) ∷ event.Tick (moment 63876600000) ∷ []) ∷ []) ≡ ((None, (false, ((Some (phase.Completed, status.Warning)) ∷ (Some (phase.Completed, status.Warning)) ∷ (Some (phase.Completed, status.Cancelled)) ∷ (Some (phase.Completed, status.Cancelled)) ∷ (Some (phase.Inactive, status.OnHold)) ∷ (Some (phase.Running, status.Normal)) ∷ []))) ∷ (None, (true, ((Some (phase.Completed, status.Warning)) ∷ (Some (phase.Completed, status.Warning)) ∷ (Some (phase.Completed, status.Cancelled)) ∷ (Some (phase.Completed, status.Cancelled)) ∷ (Some (phase.Inactive, status.OnHold)) ∷ (Some (phase.Pending, status.Scheduled)) ∷ []))) ∷ (None, (true, ((Some (phase.Completed, status.Warning)) ∷ (Some (phase.Completed, status.Warning)) ∷ (Some (phase.Completed, status.Cancelled)) ∷ (Some (phase.Completed, status.Cancelled)) ∷ (Some (phase.Inactive, status.OnHold)) ∷ (Some (phase.Pending, status.Scheduled)) ∷ []))) ∷ [])
unfolding the_law
c130_group_0 = refl

c130_group_1 : map (next_reading c130_readings) ((start 6 0 ∷ event.LetOut (id 6) ∷ event.Command 7 ∷ event.Tick (moment 63876603000) ∷ event.CloseSet (id 1) outcome.Warning ∷ ended 2 outcome.Warning 0 18 ∷ start 2 0 ∷ event.LetOut (id 2) ∷ event.Stage (id 1) 1 ∷ event.OpenSet (id 1) ∷ event.Command 6 ∷ event.Command 5 ∷ event.Command 4 ∷ event.Command 3 ∷ event.Command 2 ∷ event.Command 1 ∷ event.Tick (moment 63876601800) ∷ event.Tick (moment 63876600000) ∷ []) ∷ (event.CloseSet (id 1) outcome.Warning ∷ ended 2 outcome.Warning 0 18 ∷ start 2 0 ∷ event.LetOut (id 2) ∷ event.Stage (id 1) 1 ∷ event.OpenSet (id 1) ∷ event.Command 6 ∷ event.Command 5 ∷ event.Command 4 ∷ event.Command 3 ∷ event.Command 2 ∷ event.Command 1 ∷ event.Tick (moment 63876601800) ∷ event.Tick (moment 63876600000) ∷ []) ∷ (event.CloseSet (id 1) outcome.Warning ∷ ended 2 outcome.Warning 0 18 ∷ start 2 0 ∷ event.LetOut (id 2) ∷ event.Stage (id 1) 1 ∷ event.OpenSet (id 1) ∷ event.Command 6 ∷ event.Command 5 ∷ event.Command 4 ∷ event.Command 3 ∷ event.Command 2 ∷ event.Command 1 ∷ event.Tick (moment 63876601800) ∷ event.Tick (moment 63876600000) ∷ []) ∷ []) ≡ ((Some (record { moment = (moment 63876603600); early = true })) ∷ (Some (record { moment = (moment 63876603000); early = false })) ∷ (Some (record { moment = (moment 63876603000); early = false })) ∷ [])
unfolding the_law
c130_group_1 = refl

c130_group_2 : map (is_lawful c130 c130_readings) ((ended 6 outcome.Error 18 18 ∷ start 6 0 ∷ event.LetOut (id 6) ∷ event.Command 7 ∷ event.Tick (moment 63876603000) ∷ event.CloseSet (id 1) outcome.Warning ∷ ended 2 outcome.Warning 0 18 ∷ start 2 0 ∷ event.LetOut (id 2) ∷ event.Stage (id 1) 1 ∷ event.OpenSet (id 1) ∷ event.Command 6 ∷ event.Command 5 ∷ event.Command 4 ∷ event.Command 3 ∷ event.Command 2 ∷ event.Command 1 ∷ event.Tick (moment 63876601800) ∷ event.Tick (moment 63876600000) ∷ []) ∷ (ended 6 outcome.Error 18 18 ∷ start 6 0 ∷ event.LetOut (id 6) ∷ event.Command 7 ∷ event.Tick (moment 63876603000) ∷ event.CloseSet (id 1) outcome.Warning ∷ ended 2 outcome.Warning 0 18 ∷ start 2 0 ∷ event.LetOut (id 2) ∷ event.Stage (id 1) 1 ∷ event.OpenSet (id 1) ∷ event.Command 6 ∷ event.Command 5 ∷ event.Command 4 ∷ event.Command 3 ∷ event.Command 2 ∷ event.Command 1 ∷ event.Tick (moment 63876601800) ∷ event.Tick (moment 63876600000) ∷ []) ∷ (event.Tick (moment 63876600000) ∷ []) ∷ [] ∷ (event.Command 6 ∷ event.Command 5 ∷ event.Command 4 ∷ event.Command 3 ∷ event.Command 2 ∷ event.Command 1 ∷ event.Tick (moment 63876601800) ∷ event.Tick (moment 63876600000) ∷ []) ∷ []) ≡ (true ∷ true ∷ true ∷ true ∷ true ∷ [])
unfolding the_law
c130_group_2 = refl

c130_group_3 : map (is_lawful c130 c130_readings) ((event.LetOut (id 1) ∷ ended 6 outcome.Error 18 18 ∷ start 6 0 ∷ event.LetOut (id 6) ∷ event.Command 7 ∷ event.Tick (moment 63876603000) ∷ event.CloseSet (id 1) outcome.Warning ∷ ended 2 outcome.Warning 0 18 ∷ start 2 0 ∷ event.LetOut (id 2) ∷ event.Stage (id 1) 1 ∷ event.OpenSet (id 1) ∷ event.Command 6 ∷ event.Command 5 ∷ event.Command 4 ∷ event.Command 3 ∷ event.Command 2 ∷ event.Command 1 ∷ event.Tick (moment 63876601800) ∷ event.Tick (moment 63876600000) ∷ []) ∷ (event.Command 1 ∷ event.Tick (moment 63876600000) ∷ []) ∷ (event.Tick (moment 63876599999) ∷ []) ∷ (event.LetOut (id 1) ∷ event.Command 6 ∷ event.Command 5 ∷ event.Command 4 ∷ event.Command 3 ∷ event.Command 2 ∷ event.Command 1 ∷ event.Tick (moment 63876601800) ∷ event.Tick (moment 63876600000) ∷ []) ∷ []) ≡ (false ∷ false ∷ false ∷ false ∷ [])
unfolding the_law
c130_group_3 = refl

abbrev c84_setup : Setup
unfolding texts
c84_setup = record {
  tables = ((codes "t") ∷ []);
  programs = (record { name = (codes "P0"); request_type = (codes "A"); enabled = true; run_alone = false; restart = true; job = record { table = (codes "t"); filters = []; group = None; sum = (Some (codes "v")); warn_over = None; error_over = None; few = lit≤ tt }; post = None; short = refl; sums = refl } ∷ record { name = (codes "P1"); request_type = []; enabled = true; run_alone = false; restart = true; job = record { table = (codes "t"); filters = []; group = None; sum = None; warn_over = (Some 1); error_over = None; few = lit≤ tt }; post = None; short = refl; sums = refl } ∷ record { name = (codes "P2"); request_type = []; enabled = true; run_alone = false; restart = true; job = record { table = (codes "t"); filters = []; group = (Some (codes "k")); sum = None; warn_over = None; error_over = None; few = lit≤ tt }; post = None; short = refl; sums = refl } ∷ []);
  entries = (record { owner = (item.Program 0); other = (item.Program 2); scope = scope.Set; reach = reach.Domain } ∷ record { owner = (item.Program 0); other = (item.Program 2); scope = scope.Program; reach = reach.Domain } ∷ []);
  managers = (record { name = (codes "M0"); include = []; exclude = []; shifts = (record { date = None; days = 0; times = None; places = 1; valid = refl } ∷ record { date = None; days = 0; times = (Some (45000, 46800)); places = 3; valid = refl } ∷ []); few_rules = lit≤ tt; few_shifts = lit≤ tt } ∷ record { name = (codes "M1"); include = []; exclude = []; shifts = []; few_rules = lit≤ tt; few_shifts = lit≤ tt } ∷ []);
  sets = (record { name = (codes "S0"); stages = (record { name = (codes "s0"); critical = false; links = (None ∷ (Some 1) ∷ (Some 2) ∷ []); members = (1 ∷ []); near = refl; some = refl } ∷ record { name = (codes "s1"); critical = true; links = ((Some 2) ∷ (Some 2) ∷ (Some 2) ∷ []); members = (0 ∷ []); near = refl; some = refl } ∷ record { name = (codes "s2"); critical = false; links = (None ∷ None ∷ None ∷ []); members = (1 ∷ []); near = refl; some = refl } ∷ []); some = refl; forward = refl } ∷ []);
  few_tables = lit≤ tt;
  few_programs = lit≤ tt;
  few_entries = lit≤ tt;
  few_managers = lit≤ tt;
  few_sets = lit≤ tt;
  few_places = lit≤ tt;
  named = refl;
  references = refl;
}

abbrev c84_commands : List Order
c84_commands = (record { at = (moment 63876600000); act = act.Submit (item.Set 0) (codes "bob") 50 (moment 63876600600) (codes "Standard") [] } ∷ record { at = (moment 63876600000); act = act.Cancel (id 4) } ∷ record { at = (moment 63876600000); act = act.Hold (id 1) } ∷ record { at = (moment 63876600000); act = act.Submit (item.Program 1) (codes "bob") 20 (moment 63876600000) (codes "Standard") [] } ∷ record { at = (moment 63876600600); act = act.Submit (item.Set 0) (codes "ann") 50 (moment 63876600600) (codes "D") [] } ∷ record { at = (moment 63876601200); act = act.Submit (item.Program 2) (codes "bob") 50 (moment 63876601200) (codes "D") [] } ∷ [])

abbrev c84 : Plan
unfolding texts
c84 = record {
  setup = c84_setup;
  script = record { commands = c84_commands; few = lit≤ tt };
  tables = (record { columns = ((codes "k") ∷ (codes "v") ∷ []); rows = []; distinct = refl; even = refl; few = lit≤ tt } ∷ []);
  requests = expansion c84_setup c84_commands;
  stamps = map (λ (order : Order). 0) c84_commands;
  commands = refl;
  reports = refl;
  expanded = refl;
  stamped = refl;
  few = lit≤ tt;
}

c84_requests : c84.requests ≡ (request_by 1 1 (item.Set 0) (codes "bob") [] 50 63876600600 (codes "Standard") [] None 0 ∷ request_by 2 1 (item.Program 1) (codes "bob") [] 50 63876600600 (codes "Standard") [] (Some (id 1)) 1 ∷ request_by 3 1 (item.Program 0) (codes "bob") (codes "A") 50 63876600600 (codes "Standard") [] (Some (id 1)) 2 ∷ request_by 4 1 (item.Program 1) (codes "bob") [] 50 63876600600 (codes "Standard") [] (Some (id 1)) 3 ∷ request_by 5 4 (item.Program 1) (codes "bob") [] 20 63876600000 (codes "Standard") [] None 0 ∷ request_by 6 5 (item.Set 0) (codes "ann") [] 50 63876600600 (codes "D") [] None 0 ∷ request_by 7 5 (item.Program 1) (codes "ann") [] 50 63876600600 (codes "D") [] (Some (id 6)) 1 ∷ request_by 8 5 (item.Program 0) (codes "ann") (codes "A") 50 63876600600 (codes "D") [] (Some (id 6)) 2 ∷ request_by 9 5 (item.Program 1) (codes "ann") [] 50 63876600600 (codes "D") [] (Some (id 6)) 3 ∷ request_by 10 6 (item.Program 2) (codes "bob") [] 50 63876601200 (codes "D") [] None 0 ∷ [])
unfolding the_law
c84_requests = refl

abbrev c84_readings : List Reading
c84_readings = (record { moment = (moment 63876600000); early = true } ∷ record { moment = (moment 63876600000); early = false } ∷ record { moment = (moment 63876601800); early = false } ∷ [])

c84_runs : made c84 c84_readings 22 [] ≡ (ended 10 outcome.Normal 36 18 ∷ start 10 0 ∷ event.CloseSet (id 6) outcome.Normal ∷ ended 7 outcome.Normal 18 18 ∷ start 7 0 ∷ event.LetOut (id 10) ∷ event.LetOut (id 7) ∷ event.Stage (id 6) 1 ∷ event.OpenSet (id 6) ∷ event.Command 6 ∷ event.Command 5 ∷ event.Tick (moment 63876601800) ∷ event.Tick (moment 63876600000) ∷ ended 5 outcome.Normal 0 18 ∷ start 5 0 ∷ event.LetOut (id 5) ∷ event.Command 4 ∷ event.Command 3 ∷ event.Command 2 ∷ event.Command 1 ∷ event.Tick (moment 63876600000) ∷ [])
unfolding the_law
c84_runs = refl

c84_lawful : is_lawful c84 c84_readings (ended 10 outcome.Normal 36 18 ∷ start 10 0 ∷ event.CloseSet (id 6) outcome.Normal ∷ ended 7 outcome.Normal 18 18 ∷ start 7 0 ∷ event.LetOut (id 10) ∷ event.LetOut (id 7) ∷ event.Stage (id 6) 1 ∷ event.OpenSet (id 6) ∷ event.Command 6 ∷ event.Command 5 ∷ event.Tick (moment 63876601800) ∷ event.Tick (moment 63876600000) ∷ ended 5 outcome.Normal 0 18 ∷ start 5 0 ∷ event.LetOut (id 5) ∷ event.Command 4 ∷ event.Command 3 ∷ event.Command 2 ∷ event.Command 1 ∷ event.Tick (moment 63876600000) ∷ []) ≡ true
unfolding the_law
c84_lawful = refl

c84_text : text_of c84 (event.Tick (moment 63876600000) ∷ event.Command 1 ∷ event.Command 2 ∷ event.Command 3 ∷ event.Command 4 ∷ event.LetOut (id 5) ∷ start 5 0 ∷ ended 5 outcome.Normal 0 18 ∷ event.Tick (moment 63876600000) ∷ event.Tick (moment 63876601800) ∷ event.Command 5 ∷ event.Command 6 ∷ event.OpenSet (id 6) ∷ event.Stage (id 6) 1 ∷ event.LetOut (id 7) ∷ event.LetOut (id 10) ∷ start 7 0 ∷ ended 7 outcome.Normal 18 18 ∷ event.CloseSet (id 6) outcome.Normal ∷ start 10 0 ∷ ended 10 outcome.Normal 36 18 ∷ []) ≡ (codes "tick 2025-03-03T12:00:00\ndo 1\ndo 2\ndo 3\ndo 4\nlet 5\nstart 5 1.1\nend 5 Normal 0 18\ntick 2025-03-03T12:00:00\ntick 2025-03-03T12:30:00\ndo 5\ndo 6\nopen 6\nstage 6 1\nlet 7\nlet 10\nstart 7 1.1\nend 7 Normal 18 18\nclose 6 Normal\nstart 10 1.1\nend 10 Normal 36 18\n--\n1 Inactive On Hold S0\n2 Pending Waiting P1\n3 Pending Waiting P0\n4 Completed Cancelled P1\n5 Completed Normal P1\n6 Completed Normal S0\n7 Completed Normal P1\n8 Completed Cancelled P0\n9 Completed Cancelled P1\n10 Completed Normal P2\n")
unfolding the_law
c84_text = refl

c84_group_0 : map (answers c84) ((event.OpenSet (id 6) ∷ event.Command 6 ∷ event.Command 5 ∷ event.Tick (moment 63876601800) ∷ event.Tick (moment 63876600000) ∷ ended 5 outcome.Normal 0 18 ∷ start 5 0 ∷ event.LetOut (id 5) ∷ event.Command 4 ∷ event.Command 3 ∷ event.Command 2 ∷ event.Command 1 ∷ event.Tick (moment 63876600000) ∷ []) ∷ (event.Tick (moment 63876600000) ∷ ended 5 outcome.Normal 0 18 ∷ start 5 0 ∷ event.LetOut (id 5) ∷ event.Command 4 ∷ event.Command 3 ∷ event.Command 2 ∷ event.Command 1 ∷ event.Tick (moment 63876600000) ∷ []) ∷ (start 10 0 ∷ event.CloseSet (id 6) outcome.Normal ∷ ended 7 outcome.Normal 18 18 ∷ start 7 0 ∷ event.LetOut (id 10) ∷ event.LetOut (id 7) ∷ event.Stage (id 6) 1 ∷ event.OpenSet (id 6) ∷ event.Command 6 ∷ event.Command 5 ∷ event.Tick (moment 63876601800) ∷ event.Tick (moment 63876600000) ∷ ended 5 outcome.Normal 0 18 ∷ start 5 0 ∷ event.LetOut (id 5) ∷ event.Command 4 ∷ event.Command 3 ∷ event.Command 2 ∷ event.Command 1 ∷ event.Tick (moment 63876600000) ∷ []) ∷ []) ≡ (((Some (event.Stage (id 6) 1)), (false, ((Some (phase.Inactive, status.OnHold)) ∷ (Some (phase.Pending, status.Waiting)) ∷ (Some (phase.Pending, status.Waiting)) ∷ (Some (phase.Completed, status.Cancelled)) ∷ (Some (phase.Completed, status.Normal)) ∷ (Some (phase.Running, status.Normal)) ∷ (Some (phase.Pending, status.Waiting)) ∷ (Some (phase.Pending, status.Waiting)) ∷ (Some (phase.Pending, status.Waiting)) ∷ (Some (phase.Pending, status.Standby)) ∷ []))) ∷ (None, (true, ((Some (phase.Inactive, status.OnHold)) ∷ (Some (phase.Pending, status.Waiting)) ∷ (Some (phase.Pending, status.Waiting)) ∷ (Some (phase.Completed, status.Cancelled)) ∷ (Some (phase.Completed, status.Normal)) ∷ None ∷ None ∷ None ∷ None ∷ None ∷ []))) ∷ (None, (false, ((Some (phase.Inactive, status.OnHold)) ∷ (Some (phase.Pending, status.Waiting)) ∷ (Some (phase.Pending, status.Waiting)) ∷ (Some (phase.Completed, status.Cancelled)) ∷ (Some (phase.Completed, status.Normal)) ∷ (Some (phase.Completed, status.Normal)) ∷ (Some (phase.Completed, status.Normal)) ∷ (Some (phase.Completed, status.Cancelled)) ∷ (Some (phase.Completed, status.Cancelled)) ∷ (Some (phase.Running, status.Normal)) ∷ []))) ∷ [])
unfolding the_law
c84_group_0 = refl

c84_group_1 : map (next_reading c84_readings) ((event.OpenSet (id 6) ∷ event.Command 6 ∷ event.Command 5 ∷ event.Tick (moment 63876601800) ∷ event.Tick (moment 63876600000) ∷ ended 5 outcome.Normal 0 18 ∷ start 5 0 ∷ event.LetOut (id 5) ∷ event.Command 4 ∷ event.Command 3 ∷ event.Command 2 ∷ event.Command 1 ∷ event.Tick (moment 63876600000) ∷ []) ∷ (event.Tick (moment 63876600000) ∷ ended 5 outcome.Normal 0 18 ∷ start 5 0 ∷ event.LetOut (id 5) ∷ event.Command 4 ∷ event.Command 3 ∷ event.Command 2 ∷ event.Command 1 ∷ event.Tick (moment 63876600000) ∷ []) ∷ (start 10 0 ∷ event.CloseSet (id 6) outcome.Normal ∷ ended 7 outcome.Normal 18 18 ∷ start 7 0 ∷ event.LetOut (id 10) ∷ event.LetOut (id 7) ∷ event.Stage (id 6) 1 ∷ event.OpenSet (id 6) ∷ event.Command 6 ∷ event.Command 5 ∷ event.Tick (moment 63876601800) ∷ event.Tick (moment 63876600000) ∷ ended 5 outcome.Normal 0 18 ∷ start 5 0 ∷ event.LetOut (id 5) ∷ event.Command 4 ∷ event.Command 3 ∷ event.Command 2 ∷ event.Command 1 ∷ event.Tick (moment 63876600000) ∷ []) ∷ []) ≡ (None ∷ (Some (record { moment = (moment 63876601800); early = false })) ∷ None ∷ [])
unfolding the_law
c84_group_1 = refl

c84_group_2 : map (is_lawful c84 c84_readings) ((ended 7 outcome.Normal 18 18 ∷ start 7 0 ∷ event.LetOut (id 10) ∷ event.LetOut (id 7) ∷ event.Stage (id 6) 1 ∷ event.OpenSet (id 6) ∷ event.Command 6 ∷ event.Command 5 ∷ event.Tick (moment 63876601800) ∷ event.Tick (moment 63876600000) ∷ ended 5 outcome.Normal 0 18 ∷ start 5 0 ∷ event.LetOut (id 5) ∷ event.Command 4 ∷ event.Command 3 ∷ event.Command 2 ∷ event.Command 1 ∷ event.Tick (moment 63876600000) ∷ []) ∷ (start 10 0 ∷ event.CloseSet (id 6) outcome.Normal ∷ ended 7 outcome.Normal 18 18 ∷ start 7 0 ∷ event.LetOut (id 10) ∷ event.LetOut (id 7) ∷ event.Stage (id 6) 1 ∷ event.OpenSet (id 6) ∷ event.Command 6 ∷ event.Command 5 ∷ event.Tick (moment 63876601800) ∷ event.Tick (moment 63876600000) ∷ ended 5 outcome.Normal 0 18 ∷ start 5 0 ∷ event.LetOut (id 5) ∷ event.Command 4 ∷ event.Command 3 ∷ event.Command 2 ∷ event.Command 1 ∷ event.Tick (moment 63876600000) ∷ []) ∷ (start 7 0 ∷ event.LetOut (id 10) ∷ event.LetOut (id 7) ∷ event.Stage (id 6) 1 ∷ event.OpenSet (id 6) ∷ event.Command 6 ∷ event.Command 5 ∷ event.Tick (moment 63876601800) ∷ event.Tick (moment 63876600000) ∷ ended 5 outcome.Normal 0 18 ∷ start 5 0 ∷ event.LetOut (id 5) ∷ event.Command 4 ∷ event.Command 3 ∷ event.Command 2 ∷ event.Command 1 ∷ event.Tick (moment 63876600000) ∷ []) ∷ (event.Tick (moment 63876600000) ∷ ended 5 outcome.Normal 0 18 ∷ start 5 0 ∷ event.LetOut (id 5) ∷ event.Command 4 ∷ event.Command 3 ∷ event.Command 2 ∷ event.Command 1 ∷ event.Tick (moment 63876600000) ∷ []) ∷ (event.Command 4 ∷ event.Command 3 ∷ event.Command 2 ∷ event.Command 1 ∷ event.Tick (moment 63876600000) ∷ []) ∷ []) ≡ (true ∷ true ∷ true ∷ true ∷ true ∷ [])
unfolding the_law
c84_group_2 = refl

c84_group_3 : map (is_lawful c84 c84_readings) ((start 10 0 ∷ ended 7 outcome.Normal 18 18 ∷ start 7 0 ∷ event.LetOut (id 10) ∷ event.LetOut (id 7) ∷ event.Stage (id 6) 1 ∷ event.OpenSet (id 6) ∷ event.Command 6 ∷ event.Command 5 ∷ event.Tick (moment 63876601800) ∷ event.Tick (moment 63876600000) ∷ ended 5 outcome.Normal 0 18 ∷ start 5 0 ∷ event.LetOut (id 5) ∷ event.Command 4 ∷ event.Command 3 ∷ event.Command 2 ∷ event.Command 1 ∷ event.Tick (moment 63876600000) ∷ []) ∷ (start 10 0 ∷ start 10 0 ∷ event.CloseSet (id 6) outcome.Normal ∷ ended 7 outcome.Normal 18 18 ∷ start 7 0 ∷ event.LetOut (id 10) ∷ event.LetOut (id 7) ∷ event.Stage (id 6) 1 ∷ event.OpenSet (id 6) ∷ event.Command 6 ∷ event.Command 5 ∷ event.Tick (moment 63876601800) ∷ event.Tick (moment 63876600000) ∷ ended 5 outcome.Normal 0 18 ∷ start 5 0 ∷ event.LetOut (id 5) ∷ event.Command 4 ∷ event.Command 3 ∷ event.Command 2 ∷ event.Command 1 ∷ event.Tick (moment 63876600000) ∷ []) ∷ (event.CloseSet (id 6) outcome.Normal ∷ start 7 0 ∷ event.LetOut (id 10) ∷ event.LetOut (id 7) ∷ event.Stage (id 6) 1 ∷ event.OpenSet (id 6) ∷ event.Command 6 ∷ event.Command 5 ∷ event.Tick (moment 63876601800) ∷ event.Tick (moment 63876600000) ∷ ended 5 outcome.Normal 0 18 ∷ start 5 0 ∷ event.LetOut (id 5) ∷ event.Command 4 ∷ event.Command 3 ∷ event.Command 2 ∷ event.Command 1 ∷ event.Tick (moment 63876600000) ∷ []) ∷ (event.Command 5 ∷ event.Tick (moment 63876600000) ∷ ended 5 outcome.Normal 0 18 ∷ start 5 0 ∷ event.LetOut (id 5) ∷ event.Command 4 ∷ event.Command 3 ∷ event.Command 2 ∷ event.Command 1 ∷ event.Tick (moment 63876600000) ∷ []) ∷ (event.OpenSet (id 4) ∷ event.Command 4 ∷ event.Command 3 ∷ event.Command 2 ∷ event.Command 1 ∷ event.Tick (moment 63876600000) ∷ []) ∷ []) ≡ (false ∷ false ∷ false ∷ false ∷ false ∷ [])
unfolding the_law
c84_group_3 = refl
