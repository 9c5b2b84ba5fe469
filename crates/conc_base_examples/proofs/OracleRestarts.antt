-- The same after stops, where the last life has a clock of its own.
use Rattle.std.proofs.Common.{◌≡◌, true, false, List, [], ◌∷◌, map, None, Some, refl, lit≤}
use Rattle.std.specs.Prelude.{codes}
use Rattle.conc_types.specs.declared.event.Event.TheVariants as event
use Rattle.conc_types.specs.declared.event.Outcome.TheVariants as outcome
use Rattle.conc_types.specs.declared.event.Phase.TheVariants as phase
use Rattle.conc_types.specs.declared.event.Status.TheVariants as status
use Rattle.conc_types.specs.declared.item.Item.TheVariants as item
use Rattle.conc_types.specs.declared.item.Reach.TheVariants as reach
use Rattle.conc_types.specs.declared.item.Scope.TheVariants as scope
use Rattle.conc_types.specs.declared.plan.Plan.{Plan}
use Rattle.conc_types.specs.declared.script.Act.TheVariants as act
use Rattle.conc_types.specs.declared.script.Order.{Order}
use Rattle.conc_types.specs.declared.script.Reading.{Reading}
use Rattle.conc_types.specs.declared.setup.Setup.{Setup}
use Rattle.conc_types.specs.Expansion.{expansion}
use Rattle.conc_base_law.specs.Law.{is_lawful, is_lawful_so_far}
use Rattle.conc_base_law.specs.Readings.{next_reading}
use Rattle.conc_base_law.specs.Text.{text_of}
use Rattle.conc_base_examples.proofs.Computed.{the_law, made}
use Rattle.conc_base_examples.proofs.OracleWords.{ended, answers, request_by}
use Rattle.conc_base_examples.proofs.Plans.{texts, id, moment, start}

abbrev r94_setup : Setup
unfolding texts
r94_setup = record {
  tables = ((codes "t") ∷ []);
  programs = (record { name = (codes "P0"); request_type = (codes "A"); enabled = true; run_alone = false; restart = false; job = record { table = (codes "t"); filters = []; group = (Some (codes "k")); sum = None; warn_over = (Some 0); error_over = None; few = lit≤ tt }; post = None; short = refl; sums = refl } ∷ record { name = (codes "P1"); request_type = (codes "A"); enabled = false; run_alone = false; restart = true; job = record { table = (codes "t"); filters = []; group = None; sum = None; warn_over = None; error_over = (Some 0); few = lit≤ tt }; post = None; short = refl; sums = refl } ∷ record { name = (codes "P2"); request_type = (codes "A"); enabled = true; run_alone = false; restart = true; job = record { table = (codes "t"); filters = []; group = None; sum = None; warn_over = (Some 0); error_over = (Some 1); few = lit≤ tt }; post = None; short = refl; sums = refl } ∷ []);
  entries = (record { owner = (item.Program 0); other = (item.Program 0); scope = scope.Set; reach = reach.Global } ∷ record { owner = (item.Program 0); other = (item.Set 0); scope = scope.Set; reach = reach.Domain } ∷ record { owner = (item.Set 0); other = (item.Program 2); scope = scope.Program; reach = reach.Domain } ∷ []);
  managers = (record { name = (codes "M0"); include = []; exclude = []; shifts = (record { date = None; days = 0; times = None; places = 3; valid = refl } ∷ []); few_rules = lit≤ tt; few_shifts = lit≤ tt } ∷ record { name = (codes "M1"); include = []; exclude = (record { program = (Some 2); request_type = None; user = None; names = refl } ∷ []); shifts = (record { date = None; days = 0; times = None; places = 3; valid = refl } ∷ []); few_rules = lit≤ tt; few_shifts = lit≤ tt } ∷ []);
  sets = (record { name = (codes "S0"); stages = (record { name = (codes "s0"); critical = true; links = ((Some 3) ∷ (Some 2) ∷ (Some 2) ∷ []); members = (0 ∷ []); near = refl; some = refl } ∷ record { name = (codes "s1"); critical = true; links = ((Some 3) ∷ (Some 2) ∷ (Some 2) ∷ []); members = (0 ∷ []); near = refl; some = refl } ∷ record { name = (codes "s2"); critical = false; links = ((Some 3) ∷ (Some 3) ∷ None ∷ []); members = (2 ∷ []); near = refl; some = refl } ∷ record { name = (codes "s3"); critical = false; links = (None ∷ None ∷ None ∷ []); members = (1 ∷ 2 ∷ []); near = refl; some = refl } ∷ []); some = refl; forward = refl } ∷ record { name = (codes "S1"); stages = (record { name = (codes "s0"); critical = true; links = ((Some 2) ∷ (Some 2) ∷ None ∷ []); members = (1 ∷ []); near = refl; some = refl } ∷ record { name = (codes "s1"); critical = true; links = ((Some 2) ∷ (Some 2) ∷ (Some 2) ∷ []); members = (0 ∷ []); near = refl; some = refl } ∷ record { name = (codes "s2"); critical = true; links = (None ∷ None ∷ None ∷ []); members = (2 ∷ []); near = refl; some = refl } ∷ []); some = refl; forward = refl } ∷ []);
  few_tables = lit≤ tt;
  few_programs = lit≤ tt;
  few_entries = lit≤ tt;
  few_managers = lit≤ tt;
  few_sets = lit≤ tt;
  few_places = lit≤ tt;
  named = refl;
  references = refl;
}

abbrev r94_commands : List Order
r94_commands = (record { at = (moment 63876600000); act = act.Submit (item.Set 1) (codes "ann") 50 (moment 63876600000) (codes "Standard") [] } ∷ record { at = (moment 63876600000); act = act.Submit (item.Program 2) (codes "bob") 20 (moment 63876600000) (codes "D") [] } ∷ record { at = (moment 63876600000); act = act.Terminate (id 2) } ∷ record { at = (moment 63876600600); act = act.Cancel (id 4) } ∷ record { at = (moment 63876601200); act = act.Hold (id 2) } ∷ record { at = (moment 63876601200); act = act.Hold (id 2) } ∷ record { at = (moment 63876601800); act = act.Unhold (id 1) } ∷ record { at = (moment 63876601800); act = act.Submit (item.Program 2) (codes "ann") 50 (moment 63876602400) (codes "D") [] } ∷ [])

abbrev r94 : Plan
unfolding texts
r94 = record {
  setup = r94_setup;
  script = record { commands = r94_commands; few = lit≤ tt };
  tables = (record { columns = ((codes "k") ∷ (codes "v") ∷ []); rows = (((codes "b") ∷ (codes "3") ∷ []) ∷ []); distinct = refl; even = refl; few = lit≤ tt } ∷ []);
  requests = expansion r94_setup r94_commands;
  stamps = map (λ (order : Order). 0) r94_commands;
  commands = refl;
  reports = refl;
  expanded = refl;
  stamped = refl;
  few = lit≤ tt;
}

r94_requests : r94.requests ≡ (request_by 1 1 (item.Set 1) (codes "ann") [] 50 63876600000 (codes "Standard") [] None 0 ∷ request_by 2 1 (item.Program 1) (codes "ann") (codes "A") 50 63876600000 (codes "Standard") [] (Some (id 1)) 1 ∷ request_by 3 1 (item.Program 0) (codes "ann") (codes "A") 50 63876600000 (codes "Standard") [] (Some (id 1)) 2 ∷ request_by 4 1 (item.Program 2) (codes "ann") (codes "A") 50 63876600000 (codes "Standard") [] (Some (id 1)) 3 ∷ request_by 5 2 (item.Program 2) (codes "bob") (codes "A") 20 63876600000 (codes "D") [] None 0 ∷ request_by 6 8 (item.Program 2) (codes "ann") (codes "A") 50 63876602400 (codes "D") [] None 0 ∷ [])
unfolding the_law
r94_requests = refl

abbrev r94_readings : List Reading
r94_readings = (record { moment = (moment 63876600000); early = true } ∷ record { moment = (moment 63876600000); early = true } ∷ record { moment = (moment 63876600600); early = true } ∷ record { moment = (moment 63876600600); early = true } ∷ record { moment = (moment 63876602400); early = true } ∷ record { moment = (moment 63876604200); early = true } ∷ [])

r94_runs : made r94 r94_readings 17 (event.Resume ∷ (event.Stage (id 1) 1 ∷ event.OpenSet (id 1) ∷ event.LetOut (id 5) ∷ event.Command 3 ∷ event.Command 2 ∷ event.Command 1 ∷ event.Tick (moment 63876600000) ∷ [])) ≡ (event.Tick (moment 63876604200) ∷ ended 6 outcome.Warning 18 18 ∷ start 6 0 ∷ event.LetOut (id 6) ∷ event.Command 8 ∷ event.Command 7 ∷ event.Command 6 ∷ event.Command 5 ∷ event.Tick (moment 63876602400) ∷ event.Tick (moment 63876600600) ∷ event.Command 4 ∷ event.Tick (moment 63876600600) ∷ event.Tick (moment 63876600000) ∷ event.Tick (moment 63876600000) ∷ ended 5 outcome.Warning 0 18 ∷ start 5 0 ∷ event.Resume ∷ event.Stage (id 1) 1 ∷ event.OpenSet (id 1) ∷ event.LetOut (id 5) ∷ event.Command 3 ∷ event.Command 2 ∷ event.Command 1 ∷ event.Tick (moment 63876600000) ∷ [])
unfolding the_law
r94_runs = refl

r94_lawful : (is_lawful r94 r94_readings (event.Tick (moment 63876604200) ∷ ended 6 outcome.Warning 18 18 ∷ start 6 0 ∷ event.LetOut (id 6) ∷ event.Command 8 ∷ event.Command 7 ∷ event.Command 6 ∷ event.Command 5 ∷ event.Tick (moment 63876602400) ∷ event.Tick (moment 63876600600) ∷ event.Command 4 ∷ event.Tick (moment 63876600600) ∷ event.Tick (moment 63876600000) ∷ event.Tick (moment 63876600000) ∷ ended 5 outcome.Warning 0 18 ∷ start 5 0 ∷ event.Resume ∷ event.Stage (id 1) 1 ∷ event.OpenSet (id 1) ∷ event.LetOut (id 5) ∷ event.Command 3 ∷ event.Command 2 ∷ event.Command 1 ∷ event.Tick (moment 63876600000) ∷ []) ∷ is_lawful_so_far r94 (event.Tick (moment 63876604200) ∷ ended 6 outcome.Warning 18 18 ∷ start 6 0 ∷ event.LetOut (id 6) ∷ event.Command 8 ∷ event.Command 7 ∷ event.Command 6 ∷ event.Command 5 ∷ event.Tick (moment 63876602400) ∷ event.Tick (moment 63876600600) ∷ event.Command 4 ∷ event.Tick (moment 63876600600) ∷ event.Tick (moment 63876600000) ∷ event.Tick (moment 63876600000) ∷ ended 5 outcome.Warning 0 18 ∷ start 5 0 ∷ event.Resume ∷ event.Stage (id 1) 1 ∷ event.OpenSet (id 1) ∷ event.LetOut (id 5) ∷ event.Command 3 ∷ event.Command 2 ∷ event.Command 1 ∷ event.Tick (moment 63876600000) ∷ []) ∷ is_lawful_so_far r94 (event.Stage (id 1) 1 ∷ event.OpenSet (id 1) ∷ event.LetOut (id 5) ∷ event.Command 3 ∷ event.Command 2 ∷ event.Command 1 ∷ event.Tick (moment 63876600000) ∷ []) ∷ []) ≡ (true ∷ true ∷ true ∷ [])
unfolding the_law
r94_lawful = refl

r94_text : text_of r94 (event.Tick (moment 63876600000) ∷ event.Command 1 ∷ event.Command 2 ∷ event.Command 3 ∷ event.LetOut (id 5) ∷ event.OpenSet (id 1) ∷ event.Stage (id 1) 1 ∷ event.Resume ∷ start 5 0 ∷ ended 5 outcome.Warning 0 18 ∷ event.Tick (moment 63876600000) ∷ event.Tick (moment 63876600000) ∷ event.Tick (moment 63876600600) ∷ event.Command 4 ∷ event.Tick (moment 63876600600) ∷ event.Tick (moment 63876602400) ∷ event.Command 5 ∷ event.Command 6 ∷ event.Command 7 ∷ event.Command 8 ∷ event.LetOut (id 6) ∷ start 6 0 ∷ ended 6 outcome.Warning 18 18 ∷ event.Tick (moment 63876604200) ∷ []) ≡ (codes "tick 2025-03-03T12:00:00\ndo 1\ndo 2\ndo 3\nlet 5\nopen 1\nstage 1 1\nresume\nstart 5 1.1\nend 5 Warning 0 18\ntick 2025-03-03T12:00:00\ntick 2025-03-03T12:00:00\ntick 2025-03-03T12:10:00\ndo 4\ntick 2025-03-03T12:10:00\ntick 2025-03-03T12:40:00\ndo 5\ndo 6\ndo 7\ndo 8\nlet 6\nstart 6 1.1\nend 6 Warning 18 18\ntick 2025-03-03T13:10:00\n--\n1 Running Paused S1\n2 Inactive On Hold P1\n3 Pending Waiting P0\n4 Completed Cancelled P2\n5 Completed Warning P2\n6 Completed Warning P2\n")
unfolding the_law
r94_text = refl

r94_group_0 : map (answers r94) ((ended 6 outcome.Warning 18 18 ∷ start 6 0 ∷ event.LetOut (id 6) ∷ event.Command 8 ∷ event.Command 7 ∷ event.Command 6 ∷ event.Command 5 ∷ event.Tick (moment 63876602400) ∷ event.Tick (moment 63876600600) ∷ event.Command 4 ∷ event.Tick (moment 63876600600) ∷ event.Tick (moment 63876600000) ∷ event.Tick (moment 63876600000) ∷ ended 5 outcome.Warning 0 18 ∷ start 5 0 ∷ event.Resume ∷ event.Stage (id 1) 1 ∷ event.OpenSet (id 1) ∷ event.LetOut (id 5) ∷ event.Command 3 ∷ event.Command 2 ∷ event.Command 1 ∷ event.Tick (moment 63876600000) ∷ []) ∷ (start 5 0 ∷ event.Resume ∷ event.Stage (id 1) 1 ∷ event.OpenSet (id 1) ∷ event.LetOut (id 5) ∷ event.Command 3 ∷ event.Command 2 ∷ event.Command 1 ∷ event.Tick (moment 63876600000) ∷ []) ∷ (event.Tick (moment 63876604200) ∷ ended 6 outcome.Warning 18 18 ∷ start 6 0 ∷ event.LetOut (id 6) ∷ event.Command 8 ∷ event.Command 7 ∷ event.Command 6 ∷ event.Command 5 ∷ event.Tick (moment 63876602400) ∷ event.Tick (moment 63876600600) ∷ event.Command 4 ∷ event.Tick (moment 63876600600) ∷ event.Tick (moment 63876600000) ∷ event.Tick (moment 63876600000) ∷ ended 5 outcome.Warning 0 18 ∷ start 5 0 ∷ event.Resume ∷ event.Stage (id 1) 1 ∷ event.OpenSet (id 1) ∷ event.LetOut (id 5) ∷ event.Command 3 ∷ event.Command 2 ∷ event.Command 1 ∷ event.Tick (moment 63876600000) ∷ []) ∷ []) ≡ ((None, (true, ((Some (phase.Running, status.Paused)) ∷ (Some (phase.Inactive, status.OnHold)) ∷ (Some (phase.Pending, status.Waiting)) ∷ (Some (phase.Completed, status.Cancelled)) ∷ (Some (phase.Completed, status.Warning)) ∷ (Some (phase.Completed, status.Warning)) ∷ []))) ∷ (None, (false, ((Some (phase.Running, status.Paused)) ∷ (Some (phase.Inactive, status.Disabled)) ∷ (Some (phase.Pending, status.Waiting)) ∷ (Some (phase.Pending, status.Waiting)) ∷ (Some (phase.Running, status.Normal)) ∷ None ∷ []))) ∷ (None, (true, ((Some (phase.Running, status.Paused)) ∷ (Some (phase.Inactive, status.OnHold)) ∷ (Some (phase.Pending, status.Waiting)) ∷ (Some (phase.Completed, status.Cancelled)) ∷ (Some (phase.Completed, status.Warning)) ∷ (Some (phase.Completed, status.Warning)) ∷ []))) ∷ [])
unfolding the_law
r94_group_0 = refl

r94_group_1 : map (next_reading r94_readings) ((ended 6 outcome.Warning 18 18 ∷ start 6 0 ∷ event.LetOut (id 6) ∷ event.Command 8 ∷ event.Command 7 ∷ event.Command 6 ∷ event.Command 5 ∷ event.Tick (moment 63876602400) ∷ event.Tick (moment 63876600600) ∷ event.Command 4 ∷ event.Tick (moment 63876600600) ∷ event.Tick (moment 63876600000) ∷ event.Tick (moment 63876600000) ∷ ended 5 outcome.Warning 0 18 ∷ start 5 0 ∷ event.Resume ∷ event.Stage (id 1) 1 ∷ event.OpenSet (id 1) ∷ event.LetOut (id 5) ∷ event.Command 3 ∷ event.Command 2 ∷ event.Command 1 ∷ event.Tick (moment 63876600000) ∷ []) ∷ (start 5 0 ∷ event.Resume ∷ event.Stage (id 1) 1 ∷ event.OpenSet (id 1) ∷ event.LetOut (id 5) ∷ event.Command 3 ∷ event.Command 2 ∷ event.Command 1 ∷ event.Tick (moment 63876600000) ∷ []) ∷ (event.Tick (moment 63876604200) ∷ ended 6 outcome.Warning 18 18 ∷ start 6 0 ∷ event.LetOut (id 6) ∷ event.Command 8 ∷ event.Command 7 ∷ event.Command 6 ∷ event.Command 5 ∷ event.Tick (moment 63876602400) ∷ event.Tick (moment 63876600600) ∷ event.Command 4 ∷ event.Tick (moment 63876600600) ∷ event.Tick (moment 63876600000) ∷ event.Tick (moment 63876600000) ∷ ended 5 outcome.Warning 0 18 ∷ start 5 0 ∷ event.Resume ∷ event.Stage (id 1) 1 ∷ event.OpenSet (id 1) ∷ event.LetOut (id 5) ∷ event.Command 3 ∷ event.Command 2 ∷ event.Command 1 ∷ event.Tick (moment 63876600000) ∷ []) ∷ []) ≡ ((Some (record { moment = (moment 63876604200); early = true })) ∷ (Some (record { moment = (moment 63876600000); early = true })) ∷ None ∷ [])
unfolding the_law
r94_group_1 = refl

r94_group_2 : map (is_lawful r94 r94_readings) ([] ∷ (event.Command 3 ∷ event.Command 2 ∷ event.Command 1 ∷ event.Tick (moment 63876600000) ∷ []) ∷ (event.OpenSet (id 1) ∷ event.LetOut (id 5) ∷ event.Command 3 ∷ event.Command 2 ∷ event.Command 1 ∷ event.Tick (moment 63876600000) ∷ []) ∷ (event.Tick (moment 63876600600) ∷ event.Command 4 ∷ event.Tick (moment 63876600600) ∷ event.Tick (moment 63876600000) ∷ event.Tick (moment 63876600000) ∷ ended 5 outcome.Warning 0 18 ∷ start 5 0 ∷ event.Resume ∷ event.Stage (id 1) 1 ∷ event.OpenSet (id 1) ∷ event.LetOut (id 5) ∷ event.Command 3 ∷ event.Command 2 ∷ event.Command 1 ∷ event.Tick (moment 63876600000) ∷ []) ∷ (ended 5 outcome.Warning 0 18 ∷ start 5 0 ∷ event.Resume ∷ event.Stage (id 1) 1 ∷ event.OpenSet (id 1) ∷ event.LetOut (id 5) ∷ event.Command 3 ∷ event.Command 2 ∷ event.Command 1 ∷ event.Tick (moment 63876600000) ∷ []) ∷ []) ≡ (true ∷ true ∷ true ∷ true ∷ true ∷ [])
unfolding the_law
r94_group_2 = refl

r94_group_3 : map (is_lawful r94 r94_readings) ((event.Command 8 ∷ []) ∷ (event.OpenSet (id 6) ∷ event.Command 3 ∷ event.Command 2 ∷ event.Command 1 ∷ event.Tick (moment 63876600000) ∷ []) ∷ (event.Stage (id 2) 1 ∷ event.OpenSet (id 1) ∷ event.LetOut (id 5) ∷ event.Command 3 ∷ event.Command 2 ∷ event.Command 1 ∷ event.Tick (moment 63876600000) ∷ []) ∷ (event.Tick (moment 63876606000) ∷ event.Tick (moment 63876600600) ∷ event.Command 4 ∷ event.Tick (moment 63876600600) ∷ event.Tick (moment 63876600000) ∷ event.Tick (moment 63876600000) ∷ ended 5 outcome.Warning 0 18 ∷ start 5 0 ∷ event.Resume ∷ event.Stage (id 1) 1 ∷ event.OpenSet (id 1) ∷ event.LetOut (id 5) ∷ event.Command 3 ∷ event.Command 2 ∷ event.Command 1 ∷ event.Tick (moment 63876600000) ∷ []) ∷ (event.Tick (moment 63876603600) ∷ ended 5 outcome.Warning 0 18 ∷ start 5 0 ∷ event.Resume ∷ event.Stage (id 1) 1 ∷ event.OpenSet (id 1) ∷ event.LetOut (id 5) ∷ event.Command 3 ∷ event.Command 2 ∷ event.Command 1 ∷ event.Tick (moment 63876600000) ∷ []) ∷ []) ≡ (false ∷ false ∷ false ∷ false ∷ false ∷ [])
unfolding the_law
r94_group_3 = refl

r94_group_4 : map (is_lawful_so_far r94) ([] ∷ (event.Command 3 ∷ event.Command 2 ∷ event.Command 1 ∷ event.Tick (moment 63876600000) ∷ []) ∷ (event.OpenSet (id 1) ∷ event.LetOut (id 5) ∷ event.Command 3 ∷ event.Command 2 ∷ event.Command 1 ∷ event.Tick (moment 63876600000) ∷ []) ∷ (event.Tick (moment 63876600600) ∷ event.Command 4 ∷ event.Tick (moment 63876600600) ∷ event.Tick (moment 63876600000) ∷ event.Tick (moment 63876600000) ∷ ended 5 outcome.Warning 0 18 ∷ start 5 0 ∷ event.Resume ∷ event.Stage (id 1) 1 ∷ event.OpenSet (id 1) ∷ event.LetOut (id 5) ∷ event.Command 3 ∷ event.Command 2 ∷ event.Command 1 ∷ event.Tick (moment 63876600000) ∷ []) ∷ (event.Tick (moment 63876606000) ∷ event.Tick (moment 63876600600) ∷ event.Command 4 ∷ event.Tick (moment 63876600600) ∷ event.Tick (moment 63876600000) ∷ event.Tick (moment 63876600000) ∷ ended 5 outcome.Warning 0 18 ∷ start 5 0 ∷ event.Resume ∷ event.Stage (id 1) 1 ∷ event.OpenSet (id 1) ∷ event.LetOut (id 5) ∷ event.Command 3 ∷ event.Command 2 ∷ event.Command 1 ∷ event.Tick (moment 63876600000) ∷ []) ∷ (ended 5 outcome.Warning 0 18 ∷ start 5 0 ∷ event.Resume ∷ event.Stage (id 1) 1 ∷ event.OpenSet (id 1) ∷ event.LetOut (id 5) ∷ event.Command 3 ∷ event.Command 2 ∷ event.Command 1 ∷ event.Tick (moment 63876600000) ∷ []) ∷ (event.Tick (moment 63876603600) ∷ ended 5 outcome.Warning 0 18 ∷ start 5 0 ∷ event.Resume ∷ event.Stage (id 1) 1 ∷ event.OpenSet (id 1) ∷ event.LetOut (id 5) ∷ event.Command 3 ∷ event.Command 2 ∷ event.Command 1 ∷ event.Tick (moment 63876600000) ∷ []) ∷ []) ≡ (true ∷ true ∷ true ∷ true ∷ true ∷ true ∷ true ∷ [])
unfolding the_law
r94_group_4 = refl

r94_group_5 : map (is_lawful_so_far r94) ((event.Command 8 ∷ []) ∷ (event.OpenSet (id 6) ∷ event.Command 3 ∷ event.Command 2 ∷ event.Command 1 ∷ event.Tick (moment 63876600000) ∷ []) ∷ (event.Stage (id 2) 1 ∷ event.OpenSet (id 1) ∷ event.LetOut (id 5) ∷ event.Command 3 ∷ event.Command 2 ∷ event.Command 1 ∷ event.Tick (moment 63876600000) ∷ []) ∷ []) ≡ (false ∷ false ∷ false ∷ [])
unfolding the_law
r94_group_5 = refl

abbrev r107_setup : Setup
unfolding texts
r107_setup = record {
  tables = ((codes "t") ∷ []);
  programs = (record { name = (codes "P0"); request_type = (codes "A"); enabled = true; run_alone = false; restart = true; job = record { table = (codes "t"); filters = []; group = (Some (codes "k")); sum = None; warn_over = None; error_over = (Some 0); few = lit≤ tt }; post = None; short = refl; sums = refl } ∷ record { name = (codes "P1"); request_type = []; enabled = false; run_alone = false; restart = true; job = record { table = (codes "t"); filters = []; group = None; sum = (Some (codes "v")); warn_over = None; error_over = None; few = lit≤ tt }; post = None; short = refl; sums = refl } ∷ record { name = (codes "P2"); request_type = []; enabled = true; run_alone = false; restart = false; job = record { table = (codes "t"); filters = []; group = (Some (codes "k")); sum = None; warn_over = None; error_over = (Some 0); few = lit≤ tt }; post = None; short = refl; sums = refl } ∷ record { name = (codes "P3"); request_type = (codes "A"); enabled = true; run_alone = true; restart = false; job = record { table = (codes "t"); filters = []; group = None; sum = None; warn_over = (Some 0); error_over = (Some 1); few = lit≤ tt }; post = None; short = refl; sums = refl } ∷ []);
  entries = (record { owner = (item.Program 1); other = (item.Set 1); scope = scope.Set; reach = reach.Global } ∷ []);
  managers = (record { name = (codes "M0"); include = []; exclude = []; shifts = (record { date = None; days = 0; times = None; places = 2; valid = refl } ∷ []); few_rules = lit≤ tt; few_shifts = lit≤ tt } ∷ []);
  sets = (record { name = (codes "S0"); stages = (record { name = (codes "s0"); critical = false; links = ((Some 2) ∷ (Some 2) ∷ (Some 2) ∷ []); members = (2 ∷ 3 ∷ []); near = refl; some = refl } ∷ record { name = (codes "s1"); critical = false; links = ((Some 2) ∷ (Some 2) ∷ (Some 2) ∷ []); members = (1 ∷ []); near = refl; some = refl } ∷ record { name = (codes "s2"); critical = false; links = (None ∷ None ∷ None ∷ []); members = (3 ∷ []); near = refl; some = refl } ∷ []); some = refl; forward = refl } ∷ record { name = (codes "S1"); stages = (record { name = (codes "s0"); critical = true; links = ((Some 1) ∷ (Some 2) ∷ (Some 2) ∷ []); members = (3 ∷ []); near = refl; some = refl } ∷ record { name = (codes "s1"); critical = false; links = ((Some 2) ∷ (Some 2) ∷ None ∷ []); members = (3 ∷ []); near = refl; some = refl } ∷ record { name = (codes "s2"); critical = false; links = (None ∷ None ∷ None ∷ []); members = (2 ∷ []); near = refl; some = refl } ∷ []); some = refl; forward = refl } ∷ []);
  few_tables = lit≤ tt;
  few_programs = lit≤ tt;
  few_entries = lit≤ tt;
  few_managers = lit≤ tt;
  few_sets = lit≤ tt;
  few_places = lit≤ tt;
  named = refl;
  references = refl;
}

abbrev r107_commands : List Order
r107_commands = (record { at = (moment 63876600000); act = act.Submit (item.Set 1) (codes "ann") 20 (moment 63876601800) (codes "D") [] } ∷ record { at = (moment 63876600600); act = act.Terminate (id 3) } ∷ record { at = (moment 63876601200); act = act.Cancel (id 4) } ∷ record { at = (moment 63876601800); act = act.Submit (item.Set 0) (codes "ann") 90 (moment 63876601800) (codes "D") [] } ∷ record { at = (moment 63876602400); act = act.Hold (id 1) } ∷ record { at = (moment 63876603000); act = act.Submit (item.Program 2) (codes "bob") 50 (moment 63876603000) (codes "D") [] } ∷ [])

abbrev r107 : Plan
unfolding texts
r107 = record {
  setup = r107_setup;
  script = record { commands = r107_commands; few = lit≤ tt };
  tables = (record { columns = ((codes "k") ∷ (codes "v") ∷ []); rows = []; distinct = refl; even = refl; few = lit≤ tt } ∷ []);
  requests = expansion r107_setup r107_commands;
  stamps = map (λ (order : Order). 0) r107_commands;
  commands = refl;
  reports = refl;
  expanded = refl;
  stamped = refl;
  few = lit≤ tt;
}

r107_requests : r107.requests ≡ (request_by 1 1 (item.Set 1) (codes "ann") [] 20 63876601800 (codes "D") [] None 0 ∷ request_by 2 1 (item.Program 3) (codes "ann") (codes "A") 20 63876601800 (codes "D") [] (Some (id 1)) 1 ∷ request_by 3 1 (item.Program 3) (codes "ann") (codes "A") 20 63876601800 (codes "D") [] (Some (id 1)) 2 ∷ request_by 4 1 (item.Program 2) (codes "ann") [] 20 63876601800 (codes "D") [] (Some (id 1)) 3 ∷ request_by 5 4 (item.Set 0) (codes "ann") [] 90 63876601800 (codes "D") [] None 0 ∷ request_by 6 4 (item.Program 2) (codes "ann") [] 90 63876601800 (codes "D") [] (Some (id 5)) 1 ∷ request_by 7 4 (item.Program 3) (codes "ann") (codes "A") 90 63876601800 (codes "D") [] (Some (id 5)) 1 ∷ request_by 8 4 (item.Program 1) (codes "ann") [] 90 63876601800 (codes "D") [] (Some (id 5)) 2 ∷ request_by 9 4 (item.Program 3) (codes "ann") (codes "A") 90 63876601800 (codes "D") [] (Some (id 5)) 3 ∷ request_by 10 6 (item.Program 2) (codes "bob") [] 50 63876603000 (codes "D") [] None 0 ∷ [])
unfolding the_law
r107_requests = refl

abbrev r107_readings : List Reading
r107_readings = (record { moment = (moment 63876600000); early = false } ∷ record { moment = (moment 63876600600); early = false } ∷ record { moment = (moment 63876603600); early = true } ∷ [])

r107_runs : made r107 r107_readings 8 (event.Resume ∷ (start 7 0 ∷ event.LetOut (id 7) ∷ ended 6 outcome.Normal 18 18 ∷ start 6 0 ∷ ended 10 outcome.Normal 0 18 ∷ start 10 0 ∷ event.LetOut (id 6) ∷ event.Resume ∷ event.Stage (id 5) 1 ∷ event.OpenSet (id 5) ∷ event.LetOut (id 10) ∷ event.Command 6 ∷ event.Command 5 ∷ event.Command 4 ∷ event.Command 3 ∷ event.Tick (moment 63876603600) ∷ event.Command 2 ∷ event.Tick (moment 63876600600) ∷ event.Command 1 ∷ event.Tick (moment 63876600000) ∷ [])) ≡ (event.Tick (moment 63876603600) ∷ event.CloseSet (id 5) outcome.Normal ∷ ended 9 outcome.Normal 36 18 ∷ start 9 0 ∷ event.LetOut (id 9) ∷ event.Stage (id 5) 3 ∷ event.Interrupt (id 7) ∷ event.Resume ∷ start 7 0 ∷ event.LetOut (id 7) ∷ ended 6 outcome.Normal 18 18 ∷ start 6 0 ∷ ended 10 outcome.Normal 0 18 ∷ start 10 0 ∷ event.LetOut (id 6) ∷ event.Resume ∷ event.Stage (id 5) 1 ∷ event.OpenSet (id 5) ∷ event.LetOut (id 10) ∷ event.Command 6 ∷ event.Command 5 ∷ event.Command 4 ∷ event.Command 3 ∷ event.Tick (moment 63876603600) ∷ event.Command 2 ∷ event.Tick (moment 63876600600) ∷ event.Command 1 ∷ event.Tick (moment 63876600000) ∷ [])
unfolding the_law
r107_runs = refl

r107_lawful : (is_lawful r107 r107_readings (event.Tick (moment 63876603600) ∷ event.CloseSet (id 5) outcome.Normal ∷ ended 9 outcome.Normal 36 18 ∷ start 9 0 ∷ event.LetOut (id 9) ∷ event.Stage (id 5) 3 ∷ event.Interrupt (id 7) ∷ event.Resume ∷ start 7 0 ∷ event.LetOut (id 7) ∷ ended 6 outcome.Normal 18 18 ∷ start 6 0 ∷ ended 10 outcome.Normal 0 18 ∷ start 10 0 ∷ event.LetOut (id 6) ∷ event.Resume ∷ event.Stage (id 5) 1 ∷ event.OpenSet (id 5) ∷ event.LetOut (id 10) ∷ event.Command 6 ∷ event.Command 5 ∷ event.Command 4 ∷ event.Command 3 ∷ event.Tick (moment 63876603600) ∷ event.Command 2 ∷ event.Tick (moment 63876600600) ∷ event.Command 1 ∷ event.Tick (moment 63876600000) ∷ []) ∷ is_lawful_so_far r107 (event.Tick (moment 63876603600) ∷ event.CloseSet (id 5) outcome.Normal ∷ ended 9 outcome.Normal 36 18 ∷ start 9 0 ∷ event.LetOut (id 9) ∷ event.Stage (id 5) 3 ∷ event.Interrupt (id 7) ∷ event.Resume ∷ start 7 0 ∷ event.LetOut (id 7) ∷ ended 6 outcome.Normal 18 18 ∷ start 6 0 ∷ ended 10 outcome.Normal 0 18 ∷ start 10 0 ∷ event.LetOut (id 6) ∷ event.Resume ∷ event.Stage (id 5) 1 ∷ event.OpenSet (id 5) ∷ event.LetOut (id 10) ∷ event.Command 6 ∷ event.Command 5 ∷ event.Command 4 ∷ event.Command 3 ∷ event.Tick (moment 63876603600) ∷ event.Command 2 ∷ event.Tick (moment 63876600600) ∷ event.Command 1 ∷ event.Tick (moment 63876600000) ∷ []) ∷ is_lawful_so_far r107 (start 7 0 ∷ event.LetOut (id 7) ∷ ended 6 outcome.Normal 18 18 ∷ start 6 0 ∷ ended 10 outcome.Normal 0 18 ∷ start 10 0 ∷ event.LetOut (id 6) ∷ event.Resume ∷ event.Stage (id 5) 1 ∷ event.OpenSet (id 5) ∷ event.LetOut (id 10) ∷ event.Command 6 ∷ event.Command 5 ∷ event.Command 4 ∷ event.Command 3 ∷ event.Tick (moment 63876603600) ∷ event.Command 2 ∷ event.Tick (moment 63876600600) ∷ event.Command 1 ∷ event.Tick (moment 63876600000) ∷ []) ∷ []) ≡ (true ∷ true ∷ true ∷ [])
unfolding the_law
r107_lawful = refl

r107_text : text_of r107 (event.Tick (moment 63876600000) ∷ event.Command 1 ∷ event.Tick (moment 63876600600) ∷ event.Command 2 ∷ event.Tick (moment 63876603600) ∷ event.Command 3 ∷ event.Command 4 ∷ event.Command 5 ∷ event.Command 6 ∷ event.LetOut (id 10) ∷ event.OpenSet (id 5) ∷ event.Stage (id 5) 1 ∷ event.Resume ∷ event.LetOut (id 6) ∷ start 10 0 ∷ ended 10 outcome.Normal 0 18 ∷ start 6 0 ∷ ended 6 outcome.Normal 18 18 ∷ event.LetOut (id 7) ∷ start 7 0 ∷ event.Resume ∷ event.Interrupt (id 7) ∷ event.Stage (id 5) 3 ∷ event.LetOut (id 9) ∷ start 9 0 ∷ ended 9 outcome.Normal 36 18 ∷ event.CloseSet (id 5) outcome.Normal ∷ event.Tick (moment 63876603600) ∷ []) ≡ (codes "tick 2025-03-03T12:00:00\ndo 1\ntick 2025-03-03T12:10:00\ndo 2\ntick 2025-03-03T13:00:00\ndo 3\ndo 4\ndo 5\ndo 6\nlet 10\nopen 5\nstage 5 1\nresume\nlet 6\nstart 10 1.1\nend 10 Normal 0 18\nstart 6 1.1\nend 6 Normal 18 18\nlet 7\nstart 7 1.1\nresume\ninterrupt 7\nstage 5 3\nlet 9\nstart 9 1.1\nend 9 Normal 36 18\nclose 5 Normal\ntick 2025-03-03T13:00:00\n--\n1 Inactive On Hold S1\n2 Pending Waiting P3\n3 Pending Waiting P3\n4 Completed Cancelled P2\n5 Completed Normal S0\n6 Completed Normal P2\n7 Completed Error P3\n8 Completed Cancelled P1\n9 Completed Normal P3\n10 Completed Normal P2\n")
unfolding the_law
r107_text = refl

r107_group_0 : map (answers r107) ((start 9 0 ∷ event.LetOut (id 9) ∷ event.Stage (id 5) 3 ∷ event.Interrupt (id 7) ∷ event.Resume ∷ start 7 0 ∷ event.LetOut (id 7) ∷ ended 6 outcome.Normal 18 18 ∷ start 6 0 ∷ ended 10 outcome.Normal 0 18 ∷ start 10 0 ∷ event.LetOut (id 6) ∷ event.Resume ∷ event.Stage (id 5) 1 ∷ event.OpenSet (id 5) ∷ event.LetOut (id 10) ∷ event.Command 6 ∷ event.Command 5 ∷ event.Command 4 ∷ event.Command 3 ∷ event.Tick (moment 63876603600) ∷ event.Command 2 ∷ event.Tick (moment 63876600600) ∷ event.Command 1 ∷ event.Tick (moment 63876600000) ∷ []) ∷ (event.Tick (moment 63876603600) ∷ event.CloseSet (id 5) outcome.Normal ∷ ended 9 outcome.Normal 36 18 ∷ start 9 0 ∷ event.LetOut (id 9) ∷ event.Stage (id 5) 3 ∷ event.Interrupt (id 7) ∷ event.Resume ∷ start 7 0 ∷ event.LetOut (id 7) ∷ ended 6 outcome.Normal 18 18 ∷ start 6 0 ∷ ended 10 outcome.Normal 0 18 ∷ start 10 0 ∷ event.LetOut (id 6) ∷ event.Resume ∷ event.Stage (id 5) 1 ∷ event.OpenSet (id 5) ∷ event.LetOut (id 10) ∷ event.Command 6 ∷ event.Command 5 ∷ event.Command 4 ∷ event.Command 3 ∷ event.Tick (moment 63876603600) ∷ event.Command 2 ∷ event.Tick (moment 63876600600) ∷ event.Command 1 ∷ event.Tick (moment 63876600000) ∷ []) ∷ (event.Stage (id 5) 3 ∷ event.Interrupt (id 7) ∷ event.Resume ∷ start 7 0 ∷ event.LetOut (id 7) ∷ ended 6 outcome.Normal 18 18 ∷ start 6 0 ∷ ended 10 outcome.Normal 0 18 ∷ start 10 0 ∷ event.LetOut (id 6) ∷ event.Resume ∷ event.Stage (id 5) 1 ∷ event.OpenSet (id 5) ∷ event.LetOut (id 10) ∷ event.Command 6 ∷ event.Command 5 ∷ event.Command 4 ∷ event.Command 3 ∷ event.Tick (moment 63876603600) ∷ event.Command 2 ∷ event.Tick (moment 63876600600) ∷ event.Command 1 ∷ event.Tick (moment 63876600000) ∷ []) ∷ []) ≡ ((None, (false, ((Some (phase.Inactive, status.OnHold)) ∷ (Some (phase.Pending, status.Waiting)) ∷ (Some (phase.Pending, status.Waiting)) ∷ (Some (phase.Completed, status.Cancelled)) ∷ (Some (phase.Running, status.Paused)) ∷ (Some (phase.Completed, status.Normal)) ∷ (Some (phase.Completed, status.Error)) ∷ (Some (phase.Inactive, status.Disabled)) ∷ (Some (phase.Running, status.Normal)) ∷ (Some (phase.Completed, status.Normal)) ∷ []))) ∷ (None, (true, ((Some (phase.Inactive, status.OnHold)) ∷ (Some (phase.Pending, status.Waiting)) ∷ (Some (phase.Pending, status.Waiting)) ∷ (Some (phase.Completed, status.Cancelled)) ∷ (Some (phase.Completed, status.Normal)) ∷ (Some (phase.Completed, status.Normal)) ∷ (Some (phase.Completed, status.Error)) ∷ (Some (phase.Completed, status.Cancelled)) ∷ (Some (phase.Completed, status.Normal)) ∷ (Some (phase.Completed, status.Normal)) ∷ []))) ∷ ((Some (event.LetOut (id 9))), (false, ((Some (phase.Inactive, status.OnHold)) ∷ (Some (phase.Pending, status.Waiting)) ∷ (Some (phase.Pending, status.Waiting)) ∷ (Some (phase.Completed, status.Cancelled)) ∷ (Some (phase.Running, status.Paused)) ∷ (Some (phase.Completed, status.Normal)) ∷ (Some (phase.Completed, status.Error)) ∷ (Some (phase.Inactive, status.Disabled)) ∷ (Some (phase.Pending, status.Standby)) ∷ (Some (phase.Completed, status.Normal)) ∷ []))) ∷ [])
unfolding the_law
r107_group_0 = refl

r107_group_1 : map (next_reading r107_readings) ((start 9 0 ∷ event.LetOut (id 9) ∷ event.Stage (id 5) 3 ∷ event.Interrupt (id 7) ∷ event.Resume ∷ start 7 0 ∷ event.LetOut (id 7) ∷ ended 6 outcome.Normal 18 18 ∷ start 6 0 ∷ ended 10 outcome.Normal 0 18 ∷ start 10 0 ∷ event.LetOut (id 6) ∷ event.Resume ∷ event.Stage (id 5) 1 ∷ event.OpenSet (id 5) ∷ event.LetOut (id 10) ∷ event.Command 6 ∷ event.Command 5 ∷ event.Command 4 ∷ event.Command 3 ∷ event.Tick (moment 63876603600) ∷ event.Command 2 ∷ event.Tick (moment 63876600600) ∷ event.Command 1 ∷ event.Tick (moment 63876600000) ∷ []) ∷ (event.Tick (moment 63876603600) ∷ event.CloseSet (id 5) outcome.Normal ∷ ended 9 outcome.Normal 36 18 ∷ start 9 0 ∷ event.LetOut (id 9) ∷ event.Stage (id 5) 3 ∷ event.Interrupt (id 7) ∷ event.Resume ∷ start 7 0 ∷ event.LetOut (id 7) ∷ ended 6 outcome.Normal 18 18 ∷ start 6 0 ∷ ended 10 outcome.Normal 0 18 ∷ start 10 0 ∷ event.LetOut (id 6) ∷ event.Resume ∷ event.Stage (id 5) 1 ∷ event.OpenSet (id 5) ∷ event.LetOut (id 10) ∷ event.Command 6 ∷ event.Command 5 ∷ event.Command 4 ∷ event.Command 3 ∷ event.Tick (moment 63876603600) ∷ event.Command 2 ∷ event.Tick (moment 63876600600) ∷ event.Command 1 ∷ event.Tick (moment 63876600000) ∷ []) ∷ (event.Stage (id 5) 3 ∷ event.Interrupt (id 7) ∷ event.Resume ∷ start 7 0 ∷ event.LetOut (id 7) ∷ ended 6 outcome.Normal 18 18 ∷ start 6 0 ∷ ended 10 outcome.Normal 0 18 ∷ start 10 0 ∷ event.LetOut (id 6) ∷ event.Resume ∷ event.Stage (id 5) 1 ∷ event.OpenSet (id 5) ∷ event.LetOut (id 10) ∷ event.Command 6 ∷ event.Command 5 ∷ event.Command 4 ∷ event.Command 3 ∷ event.Tick (moment 63876603600) ∷ event.Command 2 ∷ event.Tick (moment 63876600600) ∷ event.Command 1 ∷ event.Tick (moment 63876600000) ∷ []) ∷ []) ≡ ((Some (record { moment = (moment 63876603600); early = true })) ∷ None ∷ (Some (record { moment = (moment 63876603600); early = true })) ∷ [])
unfolding the_law
r107_group_1 = refl

r107_group_2 : map (is_lawful r107 r107_readings) ((start 10 0 ∷ event.LetOut (id 6) ∷ event.Resume ∷ event.Stage (id 5) 1 ∷ event.OpenSet (id 5) ∷ event.LetOut (id 10) ∷ event.Command 6 ∷ event.Command 5 ∷ event.Command 4 ∷ event.Command 3 ∷ event.Tick (moment 63876603600) ∷ event.Command 2 ∷ event.Tick (moment 63876600600) ∷ event.Command 1 ∷ event.Tick (moment 63876600000) ∷ []) ∷ (event.OpenSet (id 5) ∷ event.LetOut (id 10) ∷ event.Command 6 ∷ event.Command 5 ∷ event.Command 4 ∷ event.Command 3 ∷ event.Tick (moment 63876603600) ∷ event.Command 2 ∷ event.Tick (moment 63876600600) ∷ event.Command 1 ∷ event.Tick (moment 63876600000) ∷ []) ∷ (ended 9 outcome.Normal 36 18 ∷ start 9 0 ∷ event.LetOut (id 9) ∷ event.Stage (id 5) 3 ∷ event.Interrupt (id 7) ∷ event.Resume ∷ start 7 0 ∷ event.LetOut (id 7) ∷ ended 6 outcome.Normal 18 18 ∷ start 6 0 ∷ ended 10 outcome.Normal 0 18 ∷ start 10 0 ∷ event.LetOut (id 6) ∷ event.Resume ∷ event.Stage (id 5) 1 ∷ event.OpenSet (id 5) ∷ event.LetOut (id 10) ∷ event.Command 6 ∷ event.Command 5 ∷ event.Command 4 ∷ event.Command 3 ∷ event.Tick (moment 63876603600) ∷ event.Command 2 ∷ event.Tick (moment 63876600600) ∷ event.Command 1 ∷ event.Tick (moment 63876600000) ∷ []) ∷ (event.Command 3 ∷ event.Tick (moment 63876603600) ∷ event.Command 2 ∷ event.Tick (moment 63876600600) ∷ event.Command 1 ∷ event.Tick (moment 63876600000) ∷ []) ∷ []) ≡ (true ∷ true ∷ true ∷ true ∷ [])
unfolding the_law
r107_group_2 = refl

r107_group_3 : map (is_lawful r107 r107_readings) ((start 6 0 ∷ start 10 0 ∷ event.LetOut (id 6) ∷ event.Resume ∷ event.Stage (id 5) 1 ∷ event.OpenSet (id 5) ∷ event.LetOut (id 10) ∷ event.Command 6 ∷ event.Command 5 ∷ event.Command 4 ∷ event.Command 3 ∷ event.Tick (moment 63876603600) ∷ event.Command 2 ∷ event.Tick (moment 63876600600) ∷ event.Command 1 ∷ event.Tick (moment 63876600000) ∷ []) ∷ (event.Command 2 ∷ event.Tick (moment 63876604200) ∷ event.Command 1 ∷ event.Tick (moment 63876600000) ∷ []) ∷ (event.Tick (moment 63876603600) ∷ event.Command 2 ∷ event.Tick (moment 63876604200) ∷ event.Command 1 ∷ event.Tick (moment 63876600000) ∷ []) ∷ (event.Stage (id 5) 2 ∷ event.OpenSet (id 5) ∷ event.LetOut (id 10) ∷ event.Command 6 ∷ event.Command 5 ∷ event.Command 4 ∷ event.Command 3 ∷ event.Tick (moment 63876603600) ∷ event.Command 2 ∷ event.Tick (moment 63876600600) ∷ event.Command 1 ∷ event.Tick (moment 63876600000) ∷ []) ∷ (event.CloseSet (id 5) outcome.Warning ∷ ended 9 outcome.Normal 36 18 ∷ start 9 0 ∷ event.LetOut (id 9) ∷ event.Stage (id 5) 3 ∷ event.Interrupt (id 7) ∷ event.Resume ∷ start 7 0 ∷ event.LetOut (id 7) ∷ ended 6 outcome.Normal 18 18 ∷ start 6 0 ∷ ended 10 outcome.Normal 0 18 ∷ start 10 0 ∷ event.LetOut (id 6) ∷ event.Resume ∷ event.Stage (id 5) 1 ∷ event.OpenSet (id 5) ∷ event.LetOut (id 10) ∷ event.Command 6 ∷ event.Command 5 ∷ event.Command 4 ∷ event.Command 3 ∷ event.Tick (moment 63876603600) ∷ event.Command 2 ∷ event.Tick (moment 63876600600) ∷ event.Command 1 ∷ event.Tick (moment 63876600000) ∷ []) ∷ (event.Command 3 ∷ event.Command 3 ∷ event.Tick (moment 63876603600) ∷ event.Command 2 ∷ event.Tick (moment 63876600600) ∷ event.Command 1 ∷ event.Tick (moment 63876600000) ∷ []) ∷ []) ≡ (false ∷ false ∷ false ∷ false ∷ false ∷ false ∷ [])
unfolding the_law
r107_group_3 = refl

r107_group_4 : map (is_lawful_so_far r107) ((start 10 0 ∷ event.LetOut (id 6) ∷ event.Resume ∷ event.Stage (id 5) 1 ∷ event.OpenSet (id 5) ∷ event.LetOut (id 10) ∷ event.Command 6 ∷ event.Command 5 ∷ event.Command 4 ∷ event.Command 3 ∷ event.Tick (moment 63876603600) ∷ event.Command 2 ∷ event.Tick (moment 63876600600) ∷ event.Command 1 ∷ event.Tick (moment 63876600000) ∷ []) ∷ (event.Command 2 ∷ event.Tick (moment 63876604200) ∷ event.Command 1 ∷ event.Tick (moment 63876600000) ∷ []) ∷ (event.OpenSet (id 5) ∷ event.LetOut (id 10) ∷ event.Command 6 ∷ event.Command 5 ∷ event.Command 4 ∷ event.Command 3 ∷ event.Tick (moment 63876603600) ∷ event.Command 2 ∷ event.Tick (moment 63876600600) ∷ event.Command 1 ∷ event.Tick (moment 63876600000) ∷ []) ∷ (ended 9 outcome.Normal 36 18 ∷ start 9 0 ∷ event.LetOut (id 9) ∷ event.Stage (id 5) 3 ∷ event.Interrupt (id 7) ∷ event.Resume ∷ start 7 0 ∷ event.LetOut (id 7) ∷ ended 6 outcome.Normal 18 18 ∷ start 6 0 ∷ ended 10 outcome.Normal 0 18 ∷ start 10 0 ∷ event.LetOut (id 6) ∷ event.Resume ∷ event.Stage (id 5) 1 ∷ event.OpenSet (id 5) ∷ event.LetOut (id 10) ∷ event.Command 6 ∷ event.Command 5 ∷ event.Command 4 ∷ event.Command 3 ∷ event.Tick (moment 63876603600) ∷ event.Command 2 ∷ event.Tick (moment 63876600600) ∷ event.Command 1 ∷ event.Tick (moment 63876600000) ∷ []) ∷ (event.Command 3 ∷ event.Tick (moment 63876603600) ∷ event.Command 2 ∷ event.Tick (moment 63876600600) ∷ event.Command 1 ∷ event.Tick (moment 63876600000) ∷ []) ∷ []) ≡ (true ∷ true ∷ true ∷ true ∷ true ∷ [])
unfolding the_law
r107_group_4 = refl

r107_group_5 : map (is_lawful_so_far r107) ((start 6 0 ∷ start 10 0 ∷ event.LetOut (id 6) ∷ event.Resume ∷ event.Stage (id 5) 1 ∷ event.OpenSet (id 5) ∷ event.LetOut (id 10) ∷ event.Command 6 ∷ event.Command 5 ∷ event.Command 4 ∷ event.Command 3 ∷ event.Tick (moment 63876603600) ∷ event.Command 2 ∷ event.Tick (moment 63876600600) ∷ event.Command 1 ∷ event.Tick (moment 63876600000) ∷ []) ∷ (event.Tick (moment 63876603600) ∷ event.Command 2 ∷ event.Tick (moment 63876604200) ∷ event.Command 1 ∷ event.Tick (moment 63876600000) ∷ []) ∷ (event.Stage (id 5) 2 ∷ event.OpenSet (id 5) ∷ event.LetOut (id 10) ∷ event.Command 6 ∷ event.Command 5 ∷ event.Command 4 ∷ event.Command 3 ∷ event.Tick (moment 63876603600) ∷ event.Command 2 ∷ event.Tick (moment 63876600600) ∷ event.Command 1 ∷ event.Tick (moment 63876600000) ∷ []) ∷ (event.CloseSet (id 5) outcome.Warning ∷ ended 9 outcome.Normal 36 18 ∷ start 9 0 ∷ event.LetOut (id 9) ∷ event.Stage (id 5) 3 ∷ event.Interrupt (id 7) ∷ event.Resume ∷ start 7 0 ∷ event.LetOut (id 7) ∷ ended 6 outcome.Normal 18 18 ∷ start 6 0 ∷ ended 10 outcome.Normal 0 18 ∷ start 10 0 ∷ event.LetOut (id 6) ∷ event.Resume ∷ event.Stage (id 5) 1 ∷ event.OpenSet (id 5) ∷ event.LetOut (id 10) ∷ event.Command 6 ∷ event.Command 5 ∷ event.Command 4 ∷ event.Command 3 ∷ event.Tick (moment 63876603600) ∷ event.Command 2 ∷ event.Tick (moment 63876600600) ∷ event.Command 1 ∷ event.Tick (moment 63876600000) ∷ []) ∷ (event.Command 3 ∷ event.Command 3 ∷ event.Tick (moment 63876603600) ∷ event.Command 2 ∷ event.Tick (moment 63876600600) ∷ event.Command 1 ∷ event.Tick (moment 63876600000) ∷ []) ∷ []) ≡ (false ∷ false ∷ false ∷ false ∷ false ∷ [])
unfolding the_law
r107_group_5 = refl

abbrev r57_setup : Setup
unfolding texts
r57_setup = record {
  tables = ((codes "t") ∷ []);
  programs = (record { name = (codes "P0"); request_type = []; enabled = true; run_alone = true; restart = true; job = record { table = (codes "t"); filters = []; group = None; sum = (Some (codes "v")); warn_over = None; error_over = (Some 0); few = lit≤ tt }; post = None; short = refl; sums = refl } ∷ record { name = (codes "P1"); request_type = (codes "A"); enabled = true; run_alone = false; restart = false; job = record { table = (codes "t"); filters = []; group = (Some (codes "k")); sum = None; warn_over = None; error_over = (Some 0); few = lit≤ tt }; post = None; short = refl; sums = refl } ∷ []);
  entries = (record { owner = (item.Program 0); other = (item.Program 1); scope = scope.Program; reach = reach.Global } ∷ record { owner = (item.Set 1); other = (item.Set 1); scope = scope.Set; reach = reach.Domain } ∷ []);
  managers = (record { name = (codes "M0"); include = []; exclude = []; shifts = (record { date = None; days = 0; times = None; places = 2; valid = refl } ∷ record { date = None; days = 1; times = (Some (45000, 46800)); places = 1; valid = refl } ∷ []); few_rules = lit≤ tt; few_shifts = lit≤ tt } ∷ record { name = (codes "M1"); include = []; exclude = (record { program = (Some 1); request_type = None; user = None; names = refl } ∷ []); shifts = []; few_rules = lit≤ tt; few_shifts = lit≤ tt } ∷ []);
  sets = (record { name = (codes "S0"); stages = (record { name = (codes "s0"); critical = false; links = ((Some 2) ∷ (Some 1) ∷ None ∷ []); members = (0 ∷ []); near = refl; some = refl } ∷ record { name = (codes "s1"); critical = false; links = ((Some 2) ∷ (Some 2) ∷ (Some 2) ∷ []); members = (0 ∷ []); near = refl; some = refl } ∷ record { name = (codes "s2"); critical = false; links = (None ∷ None ∷ None ∷ []); members = (0 ∷ []); near = refl; some = refl } ∷ []); some = refl; forward = refl } ∷ record { name = (codes "S1"); stages = (record { name = (codes "s0"); critical = false; links = ((Some 1) ∷ (Some 1) ∷ (Some 1) ∷ []); members = (0 ∷ []); near = refl; some = refl } ∷ record { name = (codes "s1"); critical = true; links = (None ∷ None ∷ None ∷ []); members = (1 ∷ 0 ∷ []); near = refl; some = refl } ∷ []); some = refl; forward = refl } ∷ []);
  few_tables = lit≤ tt;
  few_programs = lit≤ tt;
  few_entries = lit≤ tt;
  few_managers = lit≤ tt;
  few_sets = lit≤ tt;
  few_places = lit≤ tt;
  named = refl;
  references = refl;
}

abbrev r57_commands : List Order
r57_commands = (record { at = (moment 63876600000); act = act.Submit (item.Set 1) (codes "ann") 90 (moment 63876600000) (codes "D") [] } ∷ record { at = (moment 63876600600); act = act.Hold (id 3) } ∷ record { at = (moment 63876601800); act = act.Terminate (id 3) } ∷ record { at = (moment 63876601800); act = act.Unhold (id 1) } ∷ record { at = (moment 63876602400); act = act.Submit (item.Program 0) (codes "ann") 50 (moment 63876602400) (codes "D") [] } ∷ record { at = (moment 63876603000); act = act.Unhold (id 3) } ∷ record { at = (moment 63876603000); act = act.Unhold (id 3) } ∷ [])

abbrev r57 : Plan
unfolding texts
r57 = record {
  setup = r57_setup;
  script = record { commands = r57_commands; few = lit≤ tt };
  tables = (record { columns = ((codes "k") ∷ (codes "v") ∷ []); rows = (((codes "b") ∷ (codes "1") ∷ []) ∷ ((codes "b") ∷ (codes "1") ∷ []) ∷ []); distinct = refl; even = refl; few = lit≤ tt } ∷ []);
  requests = expansion r57_setup r57_commands;
  stamps = map (λ (order : Order). 0) r57_commands;
  commands = refl;
  reports = refl;
  expanded = refl;
  stamped = refl;
  few = lit≤ tt;
}

r57_requests : r57.requests ≡ (request_by 1 1 (item.Set 1) (codes "ann") [] 90 63876600000 (codes "D") [] None 0 ∷ request_by 2 1 (item.Program 0) (codes "ann") [] 90 63876600000 (codes "D") [] (Some (id 1)) 1 ∷ request_by 3 1 (item.Program 1) (codes "ann") (codes "A") 90 63876600000 (codes "D") [] (Some (id 1)) 2 ∷ request_by 4 1 (item.Program 0) (codes "ann") [] 90 63876600000 (codes "D") [] (Some (id 1)) 2 ∷ request_by 5 5 (item.Program 0) (codes "ann") [] 50 63876602400 (codes "D") [] None 0 ∷ [])
unfolding the_law
r57_requests = refl

abbrev r57_readings : List Reading
r57_readings = (record { moment = (moment 63876603000); early = false } ∷ record { moment = (moment 63876603000); early = false } ∷ [])

r57_runs : made r57 r57_readings 19 (event.Resume ∷ (event.Command 7 ∷ event.Command 6 ∷ event.Command 5 ∷ event.Command 4 ∷ event.Command 3 ∷ event.Command 2 ∷ event.Command 1 ∷ event.Tick (moment 63876603000) ∷ [])) ≡ (event.Tick (moment 63876603000) ∷ event.Tick (moment 63876603000) ∷ event.CloseSet (id 1) outcome.Error ∷ ended 4 outcome.Error 70 24 ∷ start 4 0 ∷ event.LetOut (id 4) ∷ ended 3 outcome.Error 48 22 ∷ start 3 0 ∷ event.LetOut (id 3) ∷ event.Stage (id 1) 2 ∷ ended 2 outcome.Error 24 24 ∷ start 2 0 ∷ event.LetOut (id 2) ∷ event.Stage (id 1) 1 ∷ event.OpenSet (id 1) ∷ ended 5 outcome.Error 0 24 ∷ start 5 0 ∷ event.LetOut (id 5) ∷ event.Resume ∷ event.Command 7 ∷ event.Command 6 ∷ event.Command 5 ∷ event.Command 4 ∷ event.Command 3 ∷ event.Command 2 ∷ event.Command 1 ∷ event.Tick (moment 63876603000) ∷ [])
unfolding the_law
r57_runs = refl

r57_lawful : (is_lawful r57 r57_readings (event.Tick (moment 63876603000) ∷ event.Tick (moment 63876603000) ∷ event.CloseSet (id 1) outcome.Error ∷ ended 4 outcome.Error 70 24 ∷ start 4 0 ∷ event.LetOut (id 4) ∷ ended 3 outcome.Error 48 22 ∷ start 3 0 ∷ event.LetOut (id 3) ∷ event.Stage (id 1) 2 ∷ ended 2 outcome.Error 24 24 ∷ start 2 0 ∷ event.LetOut (id 2) ∷ event.Stage (id 1) 1 ∷ event.OpenSet (id 1) ∷ ended 5 outcome.Error 0 24 ∷ start 5 0 ∷ event.LetOut (id 5) ∷ event.Resume ∷ event.Command 7 ∷ event.Command 6 ∷ event.Command 5 ∷ event.Command 4 ∷ event.Command 3 ∷ event.Command 2 ∷ event.Command 1 ∷ event.Tick (moment 63876603000) ∷ []) ∷ is_lawful_so_far r57 (event.Tick (moment 63876603000) ∷ event.Tick (moment 63876603000) ∷ event.CloseSet (id 1) outcome.Error ∷ ended 4 outcome.Error 70 24 ∷ start 4 0 ∷ event.LetOut (id 4) ∷ ended 3 outcome.Error 48 22 ∷ start 3 0 ∷ event.LetOut (id 3) ∷ event.Stage (id 1) 2 ∷ ended 2 outcome.Error 24 24 ∷ start 2 0 ∷ event.LetOut (id 2) ∷ event.Stage (id 1) 1 ∷ event.OpenSet (id 1) ∷ ended 5 outcome.Error 0 24 ∷ start 5 0 ∷ event.LetOut (id 5) ∷ event.Resume ∷ event.Command 7 ∷ event.Command 6 ∷ event.Command 5 ∷ event.Command 4 ∷ event.Command 3 ∷ event.Command 2 ∷ event.Command 1 ∷ event.Tick (moment 63876603000) ∷ []) ∷ is_lawful_so_far r57 (event.Command 7 ∷ event.Command 6 ∷ event.Command 5 ∷ event.Command 4 ∷ event.Command 3 ∷ event.Command 2 ∷ event.Command 1 ∷ event.Tick (moment 63876603000) ∷ []) ∷ []) ≡ (true ∷ true ∷ true ∷ [])
unfolding the_law
r57_lawful = refl

r57_text : text_of r57 (event.Tick (moment 63876603000) ∷ event.Command 1 ∷ event.Command 2 ∷ event.Command 3 ∷ event.Command 4 ∷ event.Command 5 ∷ event.Command 6 ∷ event.Command 7 ∷ event.Resume ∷ event.LetOut (id 5) ∷ start 5 0 ∷ ended 5 outcome.Error 0 24 ∷ event.OpenSet (id 1) ∷ event.Stage (id 1) 1 ∷ event.LetOut (id 2) ∷ start 2 0 ∷ ended 2 outcome.Error 24 24 ∷ event.Stage (id 1) 2 ∷ event.LetOut (id 3) ∷ start 3 0 ∷ ended 3 outcome.Error 48 22 ∷ event.LetOut (id 4) ∷ start 4 0 ∷ ended 4 outcome.Error 70 24 ∷ event.CloseSet (id 1) outcome.Error ∷ event.Tick (moment 63876603000) ∷ event.Tick (moment 63876603000) ∷ []) ≡ (codes "tick 2025-03-03T12:50:00\ndo 1\ndo 2\ndo 3\ndo 4\ndo 5\ndo 6\ndo 7\nresume\nlet 5\nstart 5 1.1\nend 5 Error 0 24\nopen 1\nstage 1 1\nlet 2\nstart 2 1.1\nend 2 Error 24 24\nstage 1 2\nlet 3\nstart 3 1.1\nend 3 Error 48 22\nlet 4\nstart 4 1.1\nend 4 Error 70 24\nclose 1 Error\ntick 2025-03-03T12:50:00\ntick 2025-03-03T12:50:00\n--\n1 Completed Error S1\n2 Completed Error P0\n3 Completed Error P1\n4 Completed Error P0\n5 Completed Error P0\n")
unfolding the_law
r57_text = refl

r57_group_0 : map (answers r57) ((event.CloseSet (id 1) outcome.Error ∷ ended 4 outcome.Error 70 24 ∷ start 4 0 ∷ event.LetOut (id 4) ∷ ended 3 outcome.Error 48 22 ∷ start 3 0 ∷ event.LetOut (id 3) ∷ event.Stage (id 1) 2 ∷ ended 2 outcome.Error 24 24 ∷ start 2 0 ∷ event.LetOut (id 2) ∷ event.Stage (id 1) 1 ∷ event.OpenSet (id 1) ∷ ended 5 outcome.Error 0 24 ∷ start 5 0 ∷ event.LetOut (id 5) ∷ event.Resume ∷ event.Command 7 ∷ event.Command 6 ∷ event.Command 5 ∷ event.Command 4 ∷ event.Command 3 ∷ event.Command 2 ∷ event.Command 1 ∷ event.Tick (moment 63876603000) ∷ []) ∷ (event.LetOut (id 4) ∷ ended 3 outcome.Error 48 22 ∷ start 3 0 ∷ event.LetOut (id 3) ∷ event.Stage (id 1) 2 ∷ ended 2 outcome.Error 24 24 ∷ start 2 0 ∷ event.LetOut (id 2) ∷ event.Stage (id 1) 1 ∷ event.OpenSet (id 1) ∷ ended 5 outcome.Error 0 24 ∷ start 5 0 ∷ event.LetOut (id 5) ∷ event.Resume ∷ event.Command 7 ∷ event.Command 6 ∷ event.Command 5 ∷ event.Command 4 ∷ event.Command 3 ∷ event.Command 2 ∷ event.Command 1 ∷ event.Tick (moment 63876603000) ∷ []) ∷ (event.LetOut (id 2) ∷ event.Stage (id 1) 1 ∷ event.OpenSet (id 1) ∷ ended 5 outcome.Error 0 24 ∷ start 5 0 ∷ event.LetOut (id 5) ∷ event.Resume ∷ event.Command 7 ∷ event.Command 6 ∷ event.Command 5 ∷ event.Command 4 ∷ event.Command 3 ∷ event.Command 2 ∷ event.Command 1 ∷ event.Tick (moment 63876603000) ∷ []) ∷ []) ≡ ((None, (true, ((Some (phase.Completed, status.Error)) ∷ (Some (phase.Completed, status.Error)) ∷ (Some (phase.Completed, status.Error)) ∷ (Some (phase.Completed, status.Error)) ∷ (Some (phase.Completed, status.Error)) ∷ []))) ∷ (None, (false, ((Some (phase.Running, status.Paused)) ∷ (Some (phase.Completed, status.Error)) ∷ (Some (phase.Completed, status.Error)) ∷ (Some (phase.Pending, status.Normal)) ∷ (Some (phase.Completed, status.Error)) ∷ []))) ∷ (None, (false, ((Some (phase.Running, status.Paused)) ∷ (Some (phase.Pending, status.Normal)) ∷ (Some (phase.Pending, status.Waiting)) ∷ (Some (phase.Pending, status.Waiting)) ∷ (Some (phase.Completed, status.Error)) ∷ []))) ∷ [])
unfolding the_law
r57_group_0 = refl

r57_group_1 : map (next_reading r57_readings) ((event.CloseSet (id 1) outcome.Error ∷ ended 4 outcome.Error 70 24 ∷ start 4 0 ∷ event.LetOut (id 4) ∷ ended 3 outcome.Error 48 22 ∷ start 3 0 ∷ event.LetOut (id 3) ∷ event.Stage (id 1) 2 ∷ ended 2 outcome.Error 24 24 ∷ start 2 0 ∷ event.LetOut (id 2) ∷ event.Stage (id 1) 1 ∷ event.OpenSet (id 1) ∷ ended 5 outcome.Error 0 24 ∷ start 5 0 ∷ event.LetOut (id 5) ∷ event.Resume ∷ event.Command 7 ∷ event.Command 6 ∷ event.Command 5 ∷ event.Command 4 ∷ event.Command 3 ∷ event.Command 2 ∷ event.Command 1 ∷ event.Tick (moment 63876603000) ∷ []) ∷ (event.LetOut (id 4) ∷ ended 3 outcome.Error 48 22 ∷ start 3 0 ∷ event.LetOut (id 3) ∷ event.Stage (id 1) 2 ∷ ended 2 outcome.Error 24 24 ∷ start 2 0 ∷ event.LetOut (id 2) ∷ event.Stage (id 1) 1 ∷ event.OpenSet (id 1) ∷ ended 5 outcome.Error 0 24 ∷ start 5 0 ∷ event.LetOut (id 5) ∷ event.Resume ∷ event.Command 7 ∷ event.Command 6 ∷ event.Command 5 ∷ event.Command 4 ∷ event.Command 3 ∷ event.Command 2 ∷ event.Command 1 ∷ event.Tick (moment 63876603000) ∷ []) ∷ (event.LetOut (id 2) ∷ event.Stage (id 1) 1 ∷ event.OpenSet (id 1) ∷ ended 5 outcome.Error 0 24 ∷ start 5 0 ∷ event.LetOut (id 5) ∷ event.Resume ∷ event.Command 7 ∷ event.Command 6 ∷ event.Command 5 ∷ event.Command 4 ∷ event.Command 3 ∷ event.Command 2 ∷ event.Command 1 ∷ event.Tick (moment 63876603000) ∷ []) ∷ []) ≡ ((Some (record { moment = (moment 63876603000); early = false })) ∷ (Some (record { moment = (moment 63876603000); early = false })) ∷ (Some (record { moment = (moment 63876603000); early = false })) ∷ [])
unfolding the_law
r57_group_1 = refl

r57_group_2 : map (is_lawful r57 r57_readings) ((event.LetOut (id 5) ∷ event.Resume ∷ event.Command 7 ∷ event.Command 6 ∷ event.Command 5 ∷ event.Command 4 ∷ event.Command 3 ∷ event.Command 2 ∷ event.Command 1 ∷ event.Tick (moment 63876603000) ∷ []) ∷ (ended 3 outcome.Error 48 22 ∷ start 3 0 ∷ event.LetOut (id 3) ∷ event.Stage (id 1) 2 ∷ ended 2 outcome.Error 24 24 ∷ start 2 0 ∷ event.LetOut (id 2) ∷ event.Stage (id 1) 1 ∷ event.OpenSet (id 1) ∷ ended 5 outcome.Error 0 24 ∷ start 5 0 ∷ event.LetOut (id 5) ∷ event.Resume ∷ event.Command 7 ∷ event.Command 6 ∷ event.Command 5 ∷ event.Command 4 ∷ event.Command 3 ∷ event.Command 2 ∷ event.Command 1 ∷ event.Tick (moment 63876603000) ∷ []) ∷ (event.Command 3 ∷ event.Command 2 ∷ event.Command 1 ∷ event.Tick (moment 63876603000) ∷ []) ∷ [] ∷ (event.Tick (moment 63876603000) ∷ event.Tick (moment 63876603000) ∷ event.CloseSet (id 1) outcome.Error ∷ ended 4 outcome.Error 70 24 ∷ start 4 0 ∷ event.LetOut (id 4) ∷ ended 3 outcome.Error 48 22 ∷ start 3 0 ∷ event.LetOut (id 3) ∷ event.Stage (id 1) 2 ∷ ended 2 outcome.Error 24 24 ∷ start 2 2 ∷ event.LetOut (id 2) ∷ event.Stage (id 1) 1 ∷ event.OpenSet (id 1) ∷ ended 5 outcome.Error 0 24 ∷ start 5 0 ∷ event.LetOut (id 5) ∷ event.Resume ∷ event.Command 7 ∷ event.Command 6 ∷ event.Command 5 ∷ event.Command 4 ∷ event.Command 3 ∷ event.Command 2 ∷ event.Command 1 ∷ event.Tick (moment 63876603000) ∷ []) ∷ []) ≡ (true ∷ true ∷ true ∷ true ∷ true ∷ [])
unfolding the_law
r57_group_2 = refl

r57_group_3 : map (is_lawful r57 r57_readings) ((event.OpenSet (id 5) ∷ event.LetOut (id 5) ∷ event.Resume ∷ event.Command 7 ∷ event.Command 6 ∷ event.Command 5 ∷ event.Command 4 ∷ event.Command 3 ∷ event.Command 2 ∷ event.Command 1 ∷ event.Tick (moment 63876603000) ∷ []) ∷ (event.LetOut (id 5) ∷ ended 3 outcome.Error 48 22 ∷ start 3 0 ∷ event.LetOut (id 3) ∷ event.Stage (id 1) 2 ∷ ended 2 outcome.Error 24 24 ∷ start 2 0 ∷ event.LetOut (id 2) ∷ event.Stage (id 1) 1 ∷ event.OpenSet (id 1) ∷ ended 5 outcome.Error 0 24 ∷ start 5 0 ∷ event.LetOut (id 5) ∷ event.Resume ∷ event.Command 7 ∷ event.Command 6 ∷ event.Command 5 ∷ event.Command 4 ∷ event.Command 3 ∷ event.Command 2 ∷ event.Command 1 ∷ event.Tick (moment 63876603000) ∷ []) ∷ (event.Command 3 ∷ event.Command 3 ∷ event.Command 2 ∷ event.Command 1 ∷ event.Tick (moment 63876603000) ∷ []) ∷ (ended 5 outcome.Normal 0 5 ∷ []) ∷ []) ≡ (false ∷ false ∷ false ∷ false ∷ [])
unfolding the_law
r57_group_3 = refl

r57_group_4 : map (is_lawful_so_far r57) ((event.LetOut (id 5) ∷ event.Resume ∷ event.Command 7 ∷ event.Command 6 ∷ event.Command 5 ∷ event.Command 4 ∷ event.Command 3 ∷ event.Command 2 ∷ event.Command 1 ∷ event.Tick (moment 63876603000) ∷ []) ∷ (ended 3 outcome.Error 48 22 ∷ start 3 0 ∷ event.LetOut (id 3) ∷ event.Stage (id 1) 2 ∷ ended 2 outcome.Error 24 24 ∷ start 2 0 ∷ event.LetOut (id 2) ∷ event.Stage (id 1) 1 ∷ event.OpenSet (id 1) ∷ ended 5 outcome.Error 0 24 ∷ start 5 0 ∷ event.LetOut (id 5) ∷ event.Resume ∷ event.Command 7 ∷ event.Command 6 ∷ event.Command 5 ∷ event.Command 4 ∷ event.Command 3 ∷ event.Command 2 ∷ event.Command 1 ∷ event.Tick (moment 63876603000) ∷ []) ∷ (event.Command 3 ∷ event.Command 2 ∷ event.Command 1 ∷ event.Tick (moment 63876603000) ∷ []) ∷ [] ∷ (event.Tick (moment 63876603000) ∷ event.Tick (moment 63876603000) ∷ event.CloseSet (id 1) outcome.Error ∷ ended 4 outcome.Error 70 24 ∷ start 4 0 ∷ event.LetOut (id 4) ∷ ended 3 outcome.Error 48 22 ∷ start 3 0 ∷ event.LetOut (id 3) ∷ event.Stage (id 1) 2 ∷ ended 2 outcome.Error 24 24 ∷ start 2 2 ∷ event.LetOut (id 2) ∷ event.Stage (id 1) 1 ∷ event.OpenSet (id 1) ∷ ended 5 outcome.Error 0 24 ∷ start 5 0 ∷ event.LetOut (id 5) ∷ event.Resume ∷ event.Command 7 ∷ event.Command 6 ∷ event.Command 5 ∷ event.Command 4 ∷ event.Command 3 ∷ event.Command 2 ∷ event.Command 1 ∷ event.Tick (moment 63876603000) ∷ []) ∷ []) ≡ (true ∷ true ∷ true ∷ true ∷ true ∷ [])
unfolding the_law
r57_group_4 = refl

r57_group_5 : map (is_lawful_so_far r57) ((event.OpenSet (id 5) ∷ event.LetOut (id 5) ∷ event.Resume ∷ event.Command 7 ∷ event.Command 6 ∷ event.Command 5 ∷ event.Command 4 ∷ event.Command 3 ∷ event.Command 2 ∷ event.Command 1 ∷ event.Tick (moment 63876603000) ∷ []) ∷ (event.LetOut (id 5) ∷ ended 3 outcome.Error 48 22 ∷ start 3 0 ∷ event.LetOut (id 3) ∷ event.Stage (id 1) 2 ∷ ended 2 outcome.Error 24 24 ∷ start 2 0 ∷ event.LetOut (id 2) ∷ event.Stage (id 1) 1 ∷ event.OpenSet (id 1) ∷ ended 5 outcome.Error 0 24 ∷ start 5 0 ∷ event.LetOut (id 5) ∷ event.Resume ∷ event.Command 7 ∷ event.Command 6 ∷ event.Command 5 ∷ event.Command 4 ∷ event.Command 3 ∷ event.Command 2 ∷ event.Command 1 ∷ event.Tick (moment 63876603000) ∷ []) ∷ (event.Command 3 ∷ event.Command 3 ∷ event.Command 2 ∷ event.Command 1 ∷ event.Tick (moment 63876603000) ∷ []) ∷ (ended 5 outcome.Normal 0 5 ∷ []) ∷ []) ≡ (false ∷ false ∷ false ∷ false ∷ [])
unfolding the_law
r57_group_5 = refl

abbrev r89_setup : Setup
unfolding texts
r89_setup = record {
  tables = ((codes "t") ∷ []);
  programs = (record { name = (codes "P0"); request_type = (codes "A"); enabled = true; run_alone = false; restart = false; job = record { table = (codes "t"); filters = []; group = None; sum = None; warn_over = None; error_over = None; few = lit≤ tt }; post = None; short = refl; sums = refl } ∷ record { name = (codes "P1"); request_type = []; enabled = true; run_alone = false; restart = true; job = record { table = (codes "t"); filters = []; group = None; sum = None; warn_over = (Some 0); error_over = None; few = lit≤ tt }; post = None; short = refl; sums = refl } ∷ record { name = (codes "P2"); request_type = (codes "A"); enabled = false; run_alone = false; restart = true; job = record { table = (codes "t"); filters = []; group = (Some (codes "k")); sum = None; warn_over = (Some 0); error_over = None; few = lit≤ tt }; post = None; short = refl; sums = refl } ∷ record { name = (codes "P3"); request_type = (codes "A"); enabled = true; run_alone = false; restart = false; job = record { table = (codes "t"); filters = []; group = (Some (codes "k")); sum = None; warn_over = (Some 1); error_over = None; few = lit≤ tt }; post = None; short = refl; sums = refl } ∷ []);
  entries = (record { owner = (item.Set 1); other = (item.Set 0); scope = scope.Set; reach = reach.Global } ∷ []);
  managers = (record { name = (codes "M0"); include = []; exclude = []; shifts = []; few_rules = lit≤ tt; few_shifts = lit≤ tt } ∷ []);
  sets = (record { name = (codes "S0"); stages = (record { name = (codes "s0"); critical = false; links = ((Some 1) ∷ None ∷ (Some 1) ∷ []); members = (1 ∷ []); near = refl; some = refl } ∷ record { name = (codes "s1"); critical = false; links = (None ∷ None ∷ None ∷ []); members = (1 ∷ 0 ∷ []); near = refl; some = refl } ∷ []); some = refl; forward = refl } ∷ record { name = (codes "S1"); stages = (record { name = (codes "s0"); critical = false; links = (None ∷ (Some 2) ∷ (Some 1) ∷ []); members = (3 ∷ []); near = refl; some = refl } ∷ record { name = (codes "s1"); critical = false; links = ((Some 2) ∷ (Some 2) ∷ None ∷ []); members = (3 ∷ 0 ∷ []); near = refl; some = refl } ∷ record { name = (codes "s2"); critical = false; links = (None ∷ None ∷ None ∷ []); members = (3 ∷ []); near = refl; some = refl } ∷ []); some = refl; forward = refl } ∷ []);
  few_tables = lit≤ tt;
  few_programs = lit≤ tt;
  few_entries = lit≤ tt;
  few_managers = lit≤ tt;
  few_sets = lit≤ tt;
  few_places = lit≤ tt;
  named = refl;
  references = refl;
}

abbrev r89_commands : List Order
r89_commands = (record { at = (moment 63876600000); act = act.Submit (item.Program 0) (codes "bob") 20 (moment 63876600600) (codes "Standard") [] } ∷ record { at = (moment 63876600000); act = act.Terminate (id 1) } ∷ record { at = (moment 63876600600); act = act.Submit (item.Set 0) (codes "ann") 50 (moment 63876600600) (codes "Standard") [] } ∷ record { at = (moment 63876601800); act = act.Terminate (id 2) } ∷ record { at = (moment 63876602400); act = act.Hold (id 3) } ∷ record { at = (moment 63876602400); act = act.Terminate (id 3) } ∷ record { at = (moment 63876602400); act = act.Submit (item.Program 2) (codes "ann") 90 (moment 63876603000) (codes "D") [] } ∷ record { at = (moment 63876603000); act = act.Cancel (id 2) } ∷ [])

abbrev r89 : Plan
unfolding texts
r89 = record {
  setup = r89_setup;
  script = record { commands = r89_commands; few = lit≤ tt };
  tables = (record { columns = ((codes "k") ∷ (codes "v") ∷ []); rows = (((codes "b") ∷ (codes "1") ∷ []) ∷ ((codes "b") ∷ (codes "3") ∷ []) ∷ []); distinct = refl; even = refl; few = lit≤ tt } ∷ []);
  requests = expansion r89_setup r89_commands;
  stamps = map (λ (order : Order). 0) r89_commands;
  commands = refl;
  reports = refl;
  expanded = refl;
  stamped = refl;
  few = lit≤ tt;
}

r89_requests : r89.requests ≡ (request_by 1 1 (item.Program 0) (codes "bob") (codes "A") 20 63876600600 (codes "Standard") [] None 0 ∷ request_by 2 3 (item.Set 0) (codes "ann") [] 50 63876600600 (codes "Standard") [] None 0 ∷ request_by 3 3 (item.Program 1) (codes "ann") [] 50 63876600600 (codes "Standard") [] (Some (id 2)) 1 ∷ request_by 4 3 (item.Program 1) (codes "ann") [] 50 63876600600 (codes "Standard") [] (Some (id 2)) 2 ∷ request_by 5 3 (item.Program 0) (codes "ann") (codes "A") 50 63876600600 (codes "Standard") [] (Some (id 2)) 2 ∷ request_by 6 7 (item.Program 2) (codes "ann") (codes "A") 90 63876603000 (codes "D") [] None 0 ∷ [])
unfolding the_law
r89_requests = refl

abbrev r89_readings : List Reading
r89_readings = (record { moment = (moment 63876603127); early = false } ∷ [])

r89_runs : made r89 r89_readings 11 (event.Resume ∷ (start 3 0 ∷ ended 1 outcome.Normal 0 18 ∷ start 1 0 ∷ event.LetOut (id 3) ∷ event.Stage (id 2) 1 ∷ event.OpenSet (id 2) ∷ event.LetOut (id 1) ∷ event.Command 4 ∷ event.Command 3 ∷ event.Command 2 ∷ event.Command 1 ∷ event.Tick (moment 63876601800) ∷ [])) ≡ (event.Command 8 ∷ event.Command 7 ∷ event.Command 6 ∷ event.Command 5 ∷ event.Tick (moment 63876603127) ∷ event.CloseSet (id 2) outcome.Warning ∷ ended 3 outcome.Warning 18 18 ∷ start 3 0 ∷ event.LetOut (id 3) ∷ event.Interrupt (id 3) ∷ event.Resume ∷ start 3 0 ∷ ended 1 outcome.Normal 0 18 ∷ start 1 0 ∷ event.LetOut (id 3) ∷ event.Stage (id 2) 1 ∷ event.OpenSet (id 2) ∷ event.LetOut (id 1) ∷ event.Command 4 ∷ event.Command 3 ∷ event.Command 2 ∷ event.Command 1 ∷ event.Tick (moment 63876601800) ∷ [])
unfolding the_law
r89_runs = refl

r89_lawful : (is_lawful r89 r89_readings (event.Command 8 ∷ event.Command 7 ∷ event.Command 6 ∷ event.Command 5 ∷ event.Tick (moment 63876603127) ∷ event.CloseSet (id 2) outcome.Warning ∷ ended 3 outcome.Warning 18 18 ∷ start 3 0 ∷ event.LetOut (id 3) ∷ event.Interrupt (id 3) ∷ event.Resume ∷ start 3 0 ∷ ended 1 outcome.Normal 0 18 ∷ start 1 0 ∷ event.LetOut (id 3) ∷ event.Stage (id 2) 1 ∷ event.OpenSet (id 2) ∷ event.LetOut (id 1) ∷ event.Command 4 ∷ event.Command 3 ∷ event.Command 2 ∷ event.Command 1 ∷ event.Tick (moment 63876601800) ∷ []) ∷ is_lawful_so_far r89 (event.Command 8 ∷ event.Command 7 ∷ event.Command 6 ∷ event.Command 5 ∷ event.Tick (moment 63876603127) ∷ event.CloseSet (id 2) outcome.Warning ∷ ended 3 outcome.Warning 18 18 ∷ start 3 0 ∷ event.LetOut (id 3) ∷ event.Interrupt (id 3) ∷ event.Resume ∷ start 3 0 ∷ ended 1 outcome.Normal 0 18 ∷ start 1 0 ∷ event.LetOut (id 3) ∷ event.Stage (id 2) 1 ∷ event.OpenSet (id 2) ∷ event.LetOut (id 1) ∷ event.Command 4 ∷ event.Command 3 ∷ event.Command 2 ∷ event.Command 1 ∷ event.Tick (moment 63876601800) ∷ []) ∷ is_lawful_so_far r89 (start 3 0 ∷ ended 1 outcome.Normal 0 18 ∷ start 1 0 ∷ event.LetOut (id 3) ∷ event.Stage (id 2) 1 ∷ event.OpenSet (id 2) ∷ event.LetOut (id 1) ∷ event.Command 4 ∷ event.Command 3 ∷ event.Command 2 ∷ event.Command 1 ∷ event.Tick (moment 63876601800) ∷ []) ∷ []) ≡ (true ∷ true ∷ true ∷ [])
unfolding the_law
r89_lawful = refl

r89_text : text_of r89 (event.Tick (moment 63876601800) ∷ event.Command 1 ∷ event.Command 2 ∷ event.Command 3 ∷ event.Command 4 ∷ event.LetOut (id 1) ∷ event.OpenSet (id 2) ∷ event.Stage (id 2) 1 ∷ event.LetOut (id 3) ∷ start 1 0 ∷ ended 1 outcome.Normal 0 18 ∷ start 3 0 ∷ event.Resume ∷ event.Interrupt (id 3) ∷ event.LetOut (id 3) ∷ start 3 0 ∷ ended 3 outcome.Warning 18 18 ∷ event.CloseSet (id 2) outcome.Warning ∷ event.Tick (moment 63876603127) ∷ event.Command 5 ∷ event.Command 6 ∷ event.Command 7 ∷ event.Command 8 ∷ []) ≡ (codes "tick 2025-03-03T12:30:00\ndo 1\ndo 2\ndo 3\ndo 4\nlet 1\nopen 2\nstage 2 1\nlet 3\nstart 1 1.1\nend 1 Normal 0 18\nstart 3 1.1\nresume\ninterrupt 3\nlet 3\nstart 3 1.1\nend 3 Warning 18 18\nclose 2 Warning\ntick 2025-03-03T12:52:07\ndo 5\ndo 6\ndo 7\ndo 8\n--\n1 Completed Normal P0\n2 Completed Warning S0\n3 Completed Warning P1\n4 Completed Cancelled P1\n5 Completed Cancelled P0\n6 Inactive Disabled P2\n")
unfolding the_law
r89_text = refl

r89_group_0 : map (answers r89) ((event.LetOut (id 3) ∷ event.Interrupt (id 3) ∷ event.Resume ∷ start 3 0 ∷ ended 1 outcome.Normal 0 18 ∷ start 1 0 ∷ event.LetOut (id 3) ∷ event.Stage (id 2) 1 ∷ event.OpenSet (id 2) ∷ event.LetOut (id 1) ∷ event.Command 4 ∷ event.Command 3 ∷ event.Command 2 ∷ event.Command 1 ∷ event.Tick (moment 63876601800) ∷ []) ∷ (start 3 0 ∷ event.LetOut (id 3) ∷ event.Interrupt (id 3) ∷ event.Resume ∷ start 3 0 ∷ ended 1 outcome.Normal 0 18 ∷ start 1 0 ∷ event.LetOut (id 3) ∷ event.Stage (id 2) 1 ∷ event.OpenSet (id 2) ∷ event.LetOut (id 1) ∷ event.Command 4 ∷ event.Command 3 ∷ event.Command 2 ∷ event.Command 1 ∷ event.Tick (moment 63876601800) ∷ []) ∷ (ended 3 outcome.Warning 18 18 ∷ start 3 0 ∷ event.LetOut (id 3) ∷ event.Interrupt (id 3) ∷ event.Resume ∷ start 3 0 ∷ ended 1 outcome.Normal 0 18 ∷ start 1 0 ∷ event.LetOut (id 3) ∷ event.Stage (id 2) 1 ∷ event.OpenSet (id 2) ∷ event.LetOut (id 1) ∷ event.Command 4 ∷ event.Command 3 ∷ event.Command 2 ∷ event.Command 1 ∷ event.Tick (moment 63876601800) ∷ []) ∷ []) ≡ ((None, (false, ((Some (phase.Completed, status.Normal)) ∷ (Some (phase.Running, status.Paused)) ∷ (Some (phase.Pending, status.Normal)) ∷ (Some (phase.Pending, status.Waiting)) ∷ (Some (phase.Pending, status.Waiting)) ∷ None ∷ []))) ∷ (None, (false, ((Some (phase.Completed, status.Normal)) ∷ (Some (phase.Running, status.Paused)) ∷ (Some (phase.Running, status.Normal)) ∷ (Some (phase.Pending, status.Waiting)) ∷ (Some (phase.Pending, status.Waiting)) ∷ None ∷ []))) ∷ ((Some (event.CloseSet (id 2) outcome.Warning)), (false, ((Some (phase.Completed, status.Normal)) ∷ (Some (phase.Running, status.Paused)) ∷ (Some (phase.Completed, status.Warning)) ∷ (Some (phase.Pending, status.Waiting)) ∷ (Some (phase.Pending, status.Waiting)) ∷ None ∷ []))) ∷ [])
unfolding the_law
r89_group_0 = refl

r89_group_1 : map (next_reading r89_readings) ((event.LetOut (id 3) ∷ event.Interrupt (id 3) ∷ event.Resume ∷ start 3 0 ∷ ended 1 outcome.Normal 0 18 ∷ start 1 0 ∷ event.LetOut (id 3) ∷ event.Stage (id 2) 1 ∷ event.OpenSet (id 2) ∷ event.LetOut (id 1) ∷ event.Command 4 ∷ event.Command 3 ∷ event.Command 2 ∷ event.Command 1 ∷ event.Tick (moment 63876601800) ∷ []) ∷ (start 3 0 ∷ event.LetOut (id 3) ∷ event.Interrupt (id 3) ∷ event.Resume ∷ start 3 0 ∷ ended 1 outcome.Normal 0 18 ∷ start 1 0 ∷ event.LetOut (id 3) ∷ event.Stage (id 2) 1 ∷ event.OpenSet (id 2) ∷ event.LetOut (id 1) ∷ event.Command 4 ∷ event.Command 3 ∷ event.Command 2 ∷ event.Command 1 ∷ event.Tick (moment 63876601800) ∷ []) ∷ (ended 3 outcome.Warning 18 18 ∷ start 3 0 ∷ event.LetOut (id 3) ∷ event.Interrupt (id 3) ∷ event.Resume ∷ start 3 0 ∷ ended 1 outcome.Normal 0 18 ∷ start 1 0 ∷ event.LetOut (id 3) ∷ event.Stage (id 2) 1 ∷ event.OpenSet (id 2) ∷ event.LetOut (id 1) ∷ event.Command 4 ∷ event.Command 3 ∷ event.Command 2 ∷ event.Command 1 ∷ event.Tick (moment 63876601800) ∷ []) ∷ []) ≡ ((Some (record { moment = (moment 63876603127); early = false })) ∷ (Some (record { moment = (moment 63876603127); early = false })) ∷ (Some (record { moment = (moment 63876603127); early = false })) ∷ [])
unfolding the_law
r89_group_1 = refl

r89_group_2 : map (is_lawful r89 r89_readings) ((event.Command 4 ∷ event.Command 3 ∷ event.Command 2 ∷ event.Command 1 ∷ event.Tick (moment 63876601800) ∷ []) ∷ (event.LetOut (id 0) ∷ event.Command 4 ∷ event.Command 3 ∷ event.Command 2 ∷ event.Command 1 ∷ event.Tick (moment 63876601800) ∷ []) ∷ (start 4 0 ∷ event.LetOut (id 3) ∷ event.Interrupt (id 3) ∷ event.Resume ∷ start 3 0 ∷ ended 1 outcome.Normal 0 18 ∷ start 1 0 ∷ event.LetOut (id 3) ∷ event.Stage (id 2) 1 ∷ event.OpenSet (id 2) ∷ event.LetOut (id 1) ∷ event.Command 4 ∷ event.Command 3 ∷ event.Command 2 ∷ event.Command 1 ∷ event.Tick (moment 63876601800) ∷ []) ∷ (event.LetOut (id 3) ∷ event.Stage (id 2) 1 ∷ event.OpenSet (id 2) ∷ event.LetOut (id 1) ∷ event.Command 4 ∷ event.Command 3 ∷ event.Command 2 ∷ event.Command 1 ∷ event.Tick (moment 63876601800) ∷ []) ∷ (event.LetOut (id 3) ∷ event.LetOut (id 3) ∷ event.Stage (id 2) 1 ∷ event.OpenSet (id 2) ∷ event.LetOut (id 1) ∷ event.Command 4 ∷ event.Command 3 ∷ event.Command 2 ∷ event.Command 1 ∷ event.Tick (moment 63876601800) ∷ []) ∷ (event.Command 1 ∷ []) ∷ []) ≡ (false ∷ false ∷ false ∷ false ∷ false ∷ false ∷ [])
unfolding the_law
r89_group_2 = refl

r89_group_3 : map (is_lawful_so_far r89) ((event.Command 4 ∷ event.Command 3 ∷ event.Command 2 ∷ event.Command 1 ∷ event.Tick (moment 63876601800) ∷ []) ∷ (event.LetOut (id 3) ∷ event.Interrupt (id 3) ∷ event.Resume ∷ start 3 0 ∷ ended 1 outcome.Normal 0 18 ∷ start 1 0 ∷ event.LetOut (id 3) ∷ event.Stage (id 2) 1 ∷ event.OpenSet (id 2) ∷ event.LetOut (id 1) ∷ event.Command 4 ∷ event.Command 3 ∷ event.Command 2 ∷ event.Command 1 ∷ event.Tick (moment 63876601800) ∷ []) ∷ (event.Command 8 ∷ event.Command 7 ∷ event.Command 6 ∷ event.Command 5 ∷ event.Tick (moment 63876603127) ∷ event.CloseSet (id 2) outcome.Warning ∷ ended 3 outcome.Warning 18 18 ∷ start 3 0 ∷ event.LetOut (id 3) ∷ event.Interrupt (id 3) ∷ event.Resume ∷ start 3 0 ∷ ended 1 outcome.Normal 0 18 ∷ start 1 0 ∷ event.LetOut (id 3) ∷ event.Stage (id 2) 1 ∷ event.OpenSet (id 2) ∷ event.LetOut (id 1) ∷ event.Command 4 ∷ event.Command 3 ∷ event.Resume ∷ event.Command 2 ∷ event.Command 1 ∷ event.Tick (moment 63876601800) ∷ []) ∷ (event.LetOut (id 3) ∷ event.Stage (id 2) 1 ∷ event.OpenSet (id 2) ∷ event.LetOut (id 1) ∷ event.Command 4 ∷ event.Command 3 ∷ event.Command 2 ∷ event.Command 1 ∷ event.Tick (moment 63876601800) ∷ []) ∷ [] ∷ []) ≡ (true ∷ true ∷ true ∷ true ∷ true ∷ [])
unfolding the_law
r89_group_3 = refl

r89_group_4 : map (is_lawful_so_far r89) ((event.LetOut (id 0) ∷ event.Command 4 ∷ event.Command 3 ∷ event.Command 2 ∷ event.Command 1 ∷ event.Tick (moment 63876601800) ∷ []) ∷ (start 4 0 ∷ event.LetOut (id 3) ∷ event.Interrupt (id 3) ∷ event.Resume ∷ start 3 0 ∷ ended 1 outcome.Normal 0 18 ∷ start 1 0 ∷ event.LetOut (id 3) ∷ event.Stage (id 2) 1 ∷ event.OpenSet (id 2) ∷ event.LetOut (id 1) ∷ event.Command 4 ∷ event.Command 3 ∷ event.Command 2 ∷ event.Command 1 ∷ event.Tick (moment 63876601800) ∷ []) ∷ (event.LetOut (id 3) ∷ event.LetOut (id 3) ∷ event.Stage (id 2) 1 ∷ event.OpenSet (id 2) ∷ event.LetOut (id 1) ∷ event.Command 4 ∷ event.Command 3 ∷ event.Command 2 ∷ event.Command 1 ∷ event.Tick (moment 63876601800) ∷ []) ∷ (event.Command 1 ∷ []) ∷ []) ≡ (false ∷ false ∷ false ∷ false ∷ [])
unfolding the_law
r89_group_4 = refl

r89_group_5 : map (is_lawful r89 r89_readings) ((event.LetOut (id 3) ∷ event.Interrupt (id 3) ∷ event.Resume ∷ start 3 0 ∷ ended 1 outcome.Normal 0 18 ∷ start 1 0 ∷ event.LetOut (id 3) ∷ event.Stage (id 2) 1 ∷ event.OpenSet (id 2) ∷ event.LetOut (id 1) ∷ event.Command 4 ∷ event.Command 3 ∷ event.Command 2 ∷ event.Command 1 ∷ event.Tick (moment 63876601800) ∷ []) ∷ (event.Command 8 ∷ event.Command 7 ∷ event.Command 6 ∷ event.Command 5 ∷ event.Tick (moment 63876603127) ∷ event.CloseSet (id 2) outcome.Warning ∷ ended 3 outcome.Warning 18 18 ∷ start 3 0 ∷ event.LetOut (id 3) ∷ event.Interrupt (id 3) ∷ event.Resume ∷ start 3 0 ∷ ended 1 outcome.Normal 0 18 ∷ start 1 0 ∷ event.LetOut (id 3) ∷ event.Stage (id 2) 1 ∷ event.OpenSet (id 2) ∷ event.LetOut (id 1) ∷ event.Command 4 ∷ event.Command 3 ∷ event.Resume ∷ event.Command 2 ∷ event.Command 1 ∷ event.Tick (moment 63876601800) ∷ []) ∷ [] ∷ []) ≡ (true ∷ true ∷ true ∷ [])
unfolding the_law
r89_group_5 = refl
