-- Random lawful histories: the state in them, which events may follow, and wrong lists.
use Rattle.std.proofs.Common.{◌≡◌, true, false, List, [], ◌∷◌, map, None, Some, refl, lit≤}
use Rattle.std.specs.Prelude.{codes}
use Rattle.conc_types.specs.declared.event.Event.TheVariants as event
use Rattle.conc_types.specs.declared.event.Outcome.TheVariants as outcome
use Rattle.conc_types.specs.declared.event.Phase.TheVariants as phase
use Rattle.conc_types.specs.declared.event.Status.TheVariants as status
use Rattle.conc_types.specs.declared.item.Item.TheVariants as item
use Rattle.conc_types.specs.declared.item.Reach.TheVariants as reach
use Rattle.conc_types.specs.declared.item.Scope.TheVariants as scope
use Rattle.conc_types.specs.declared.plan.Plan.{Plan}
use Rattle.conc_types.specs.declared.script.Act.TheVariants as act
use Rattle.conc_types.specs.declared.script.Order.{Order}
use Rattle.conc_types.specs.declared.script.Reading.{Reading}
use Rattle.conc_types.specs.declared.setup.Setup.{Setup}
use Rattle.conc_types.specs.Expansion.{expansion}
use Rattle.conc_base_law.specs.Law.{is_lawful, is_lawful_so_far, may_follow}
use Rattle.conc_base_law.specs.Readings.{next_reading}
use Rattle.conc_base_law.specs.Text.{text_of}
use Rattle.conc_base_examples.proofs.Computed.{the_law}
use Rattle.conc_base_examples.proofs.OracleWords.{ended, answers, all_facts, all_values, starts, overall, steps, request_by}
use Rattle.conc_base_examples.proofs.Plans.{texts, id, moment, start}

abbrev w7_setup : Setup
unfolding texts
w7_setup = record {
  tables = ((codes "t") ∷ []);
  programs = (record { name = (codes "P0"); request_type = (codes "A"); enabled = true; run_alone = false; restart = false; job = record { table = (codes "t"); filters = []; group = (Some (codes "k")); sum = None; warn_over = (Some 0); error_over = (Some 1); few = lit≤ tt }; post = None; short = refl; sums = refl } ∷ record { name = (codes "P1"); request_type = []; enabled = true; run_alone = false; restart = true; job = record { table = (codes "t"); filters = []; group = None; sum = (Some (codes "v")); warn_over = (Some 1); error_over = None; few = lit≤ tt }; post = None; short = refl; sums = refl } ∷ record { name = (codes "P2"); request_type = (codes "A"); enabled = true; run_alone = false; restart = true; job = record { table = (codes "t"); filters = []; group = None; sum = (Some (codes "v")); warn_over = None; error_over = None; few = lit≤ tt }; post = None; short = refl; sums = refl } ∷ []);
  entries = (record { owner = (item.Program 1); other = (item.Program 0); scope = scope.Set; reach = reach.Domain } ∷ record { owner = (item.Program 1); other = (item.Set 1); scope = scope.Program; reach = reach.Global } ∷ []);
  managers = (record { name = (codes "M0"); include = []; exclude = []; shifts = (record { date = None; days = 0; times = None; places = 1; valid = refl } ∷ record { date = (Some 739312); days = 0; times = (Some (45000, 46800)); places = 3; valid = refl } ∷ []); few_rules = lit≤ tt; few_shifts = lit≤ tt } ∷ []);
  sets = (record { name = (codes "S0"); stages = (record { name = (codes "s0"); critical = false; links = ((Some 1) ∷ (Some 1) ∷ None ∷ []); members = (0 ∷ []); near = refl; some = refl } ∷ record { name = (codes "s1"); critical = false; links = (None ∷ None ∷ None ∷ []); members = (1 ∷ []); near = refl; some = refl } ∷ []); some = refl; forward = refl } ∷ record { name = (codes "S1"); stages = (record { name = (codes "s0"); critical = false; links = ((Some 1) ∷ (Some 1) ∷ (Some 1) ∷ []); members = (1 ∷ 1 ∷ []); near = refl; some = refl } ∷ record { name = (codes "s1"); critical = false; links = (None ∷ None ∷ None ∷ []); members = (1 ∷ []); near = refl; some = refl } ∷ []); some = refl; forward = refl } ∷ []);
  few_tables = lit≤ tt;
  few_programs = lit≤ tt;
  few_entries = lit≤ tt;
  few_managers = lit≤ tt;
  few_sets = lit≤ tt;
  few_places = lit≤ tt;
  named = refl;
  references = refl;
}

abbrev w7_commands : List Order
w7_commands = (record { at = (moment 63876600000); act = act.Submit (item.Program 2) (codes "ann") 20 (moment 63876601800) (codes "Standard") [] } ∷ record { at = (moment 63876600000); act = act.Terminate (id 1) } ∷ record { at = (moment 63876600600); act = act.Submit (item.Set 0) (codes "bob") 20 (moment 63876600600) (codes "Standard") [] } ∷ record { at = (moment 63876600600); act = act.Submit (item.Program 0) (codes "ann") 50 (moment 63876601200) (codes "D") [] } ∷ record { at = (moment 63876601200); act = act.Hold (id 3) } ∷ record { at = (moment 63876601200); act = act.Cancel (id 2) } ∷ record { at = (moment 63876601200); act = act.Terminate (id 3) } ∷ record { at = (moment 63876601200); act = act.Cancel (id 2) } ∷ record { at = (moment 63876601800); act = act.Cancel (id 3) } ∷ record { at = (moment 63876602400); act = act.Cancel (id 2) } ∷ record { at = (moment 63876603000); act = act.Cancel (id 2) } ∷ [])

abbrev w7 : Plan
unfolding texts
w7 = record {
  setup = w7_setup;
  script = record { commands = w7_commands; few = lit≤ tt };
  tables = (record { columns = ((codes "k") ∷ (codes "v") ∷ []); rows = []; distinct = refl; even = refl; few = lit≤ tt } ∷ []);
  requests = expansion w7_setup w7_commands;
  stamps = map (λ (order : Order). 0) w7_commands;
  commands = refl;
  reports = refl;
  expanded = refl;
  stamped = refl;
  few = lit≤ tt;
}

w7_requests : w7.requests ≡ (request_by 1 1 (item.Program 2) (codes "ann") (codes "A") 20 63876601800 (codes "Standard") [] None 0 ∷ request_by 2 3 (item.Set 0) (codes "bob") [] 20 63876600600 (codes "Standard") [] None 0 ∷ request_by 3 3 (item.Program 0) (codes "bob") (codes "A") 20 63876600600 (codes "Standard") [] (Some (id 2)) 1 ∷ request_by 4 3 (item.Program 1) (codes "bob") [] 20 63876600600 (codes "Standard") [] (Some (id 2)) 2 ∷ request_by 5 4 (item.Program 0) (codes "ann") (codes "A") 50 63876601200 (codes "D") [] None 0 ∷ [])
unfolding the_law
w7_requests = refl

abbrev w7_readings : List Reading
w7_readings = (record { moment = (moment 63876600000); early = true } ∷ record { moment = (moment 63876600600); early = true } ∷ record { moment = (moment 63876600600); early = true } ∷ record { moment = (moment 63876602400); early = true } ∷ record { moment = (moment 63876602400); early = true } ∷ record { moment = (moment 63876602400); early = true } ∷ record { moment = (moment 63876603600); early = true } ∷ [])

w7_lawful : is_lawful w7 w7_readings (ended 1 outcome.Error 16 37 ∷ ended 5 outcome.Normal 0 16 ∷ start 5 0 ∷ event.Command 11 ∷ event.Tick (moment 63876603600) ∷ event.Tick (moment 63876602400) ∷ start 1 2 ∷ event.Tick (moment 63876602400) ∷ event.CloseSet (id 2) outcome.Error ∷ event.Ended (id 3) outcome.Terminated None ∷ event.LetOut (id 5) ∷ event.LetOut (id 1) ∷ event.Command 10 ∷ event.Command 9 ∷ event.Command 8 ∷ event.Command 7 ∷ event.Command 6 ∷ event.Command 5 ∷ event.Tick (moment 63876602400) ∷ event.Tick (moment 63876600600) ∷ start 3 0 ∷ event.LetOut (id 3) ∷ event.Stage (id 2) 1 ∷ event.OpenSet (id 2) ∷ event.Command 4 ∷ event.Command 3 ∷ event.Tick (moment 63876600600) ∷ event.Command 2 ∷ event.Command 1 ∷ event.Tick (moment 63876600000) ∷ []) ≡ true
unfolding the_law
w7_lawful = refl

w7_past : is_lawful_so_far w7 (ended 1 outcome.Error 16 37 ∷ ended 5 outcome.Normal 0 16 ∷ start 5 0 ∷ event.Command 11 ∷ event.Tick (moment 63876603600) ∷ event.Tick (moment 63876602400) ∷ start 1 2 ∷ event.Tick (moment 63876602400) ∷ event.CloseSet (id 2) outcome.Error ∷ event.Ended (id 3) outcome.Terminated None ∷ event.LetOut (id 5) ∷ event.LetOut (id 1) ∷ event.Command 10 ∷ event.Command 9 ∷ event.Command 8 ∷ event.Command 7 ∷ event.Command 6 ∷ event.Command 5 ∷ event.Tick (moment 63876602400) ∷ event.Tick (moment 63876600600) ∷ start 3 0 ∷ event.LetOut (id 3) ∷ event.Stage (id 2) 1 ∷ event.OpenSet (id 2) ∷ event.Command 4 ∷ event.Command 3 ∷ event.Tick (moment 63876600600) ∷ event.Command 2 ∷ event.Command 1 ∷ event.Tick (moment 63876600000) ∷ []) ≡ true
unfolding the_law
w7_past = refl

w7_text : text_of w7 (event.Tick (moment 63876600000) ∷ event.Command 1 ∷ event.Command 2 ∷ event.Tick (moment 63876600600) ∷ event.Command 3 ∷ event.Command 4 ∷ event.OpenSet (id 2) ∷ event.Stage (id 2) 1 ∷ event.LetOut (id 3) ∷ start 3 0 ∷ event.Tick (moment 63876600600) ∷ event.Tick (moment 63876602400) ∷ event.Command 5 ∷ event.Command 6 ∷ event.Command 7 ∷ event.Command 8 ∷ event.Command 9 ∷ event.Command 10 ∷ event.LetOut (id 1) ∷ event.LetOut (id 5) ∷ event.Ended (id 3) outcome.Terminated None ∷ event.CloseSet (id 2) outcome.Error ∷ event.Tick (moment 63876602400) ∷ start 1 2 ∷ event.Tick (moment 63876602400) ∷ event.Tick (moment 63876603600) ∷ event.Command 11 ∷ start 5 0 ∷ ended 5 outcome.Normal 0 16 ∷ ended 1 outcome.Error 16 37 ∷ []) ≡ (codes "tick 2025-03-03T12:00:00\ndo 1\ndo 2\ntick 2025-03-03T12:10:00\ndo 3\ndo 4\nopen 2\nstage 2 1\nlet 3\nstart 3 1.1\ntick 2025-03-03T12:10:00\ntick 2025-03-03T12:40:00\ndo 5\ndo 6\ndo 7\ndo 8\ndo 9\ndo 10\nlet 1\nlet 5\nend 3 Terminated\nclose 2 Error\ntick 2025-03-03T12:40:00\nstart 1 1.3\ntick 2025-03-03T12:40:00\ntick 2025-03-03T13:00:00\ndo 11\nstart 5 1.1\nend 5 Normal 0 16\nend 1 Error 16 37\n--\n1 Completed Error P2\n2 Completed Error S0\n3 Completed Terminated P0\n4 Completed Cancelled P1\n5 Completed Normal P0\n")
unfolding the_law
w7_text = refl

w7_next_0 : map (may_follow w7 (Some w7_readings) (event.Command 9 ∷ event.Command 8 ∷ event.Command 7 ∷ event.Command 6 ∷ event.Command 5 ∷ event.Tick (moment 63876602400) ∷ event.Tick (moment 63876600600) ∷ start 3 0 ∷ event.LetOut (id 3) ∷ event.Stage (id 2) 1 ∷ event.OpenSet (id 2) ∷ event.Command 4 ∷ event.Command 3 ∷ event.Tick (moment 63876600600) ∷ event.Command 2 ∷ event.Command 1 ∷ event.Tick (moment 63876600000) ∷ [])) ((event.Resume) ∷ (event.LetOut (id 3)) ∷ (event.OpenSet (id 3)) ∷ (event.Interrupt (id 3)) ∷ (event.Command 11) ∷ (event.CloseSet (id 3) outcome.Normal) ∷ (start 3 2) ∷ (event.Stage (id 3) 2) ∷ (ended 3 outcome.Normal 0 5) ∷ (event.Ended (id 3) outcome.Terminated None) ∷ (event.Tick (moment 63876603000)) ∷ (ended 3 outcome.Normal 0 6) ∷ (event.Ended (id 3) outcome.Terminated None) ∷ (ended 3 outcome.Normal 0 0) ∷ (event.Ended (id 3) outcome.Cancelled None) ∷ (ended 3 outcome.Normal 1 5) ∷ (start 3 0) ∷ (event.Tick (moment 63876602400)) ∷ (event.Command 10) ∷ []) ≡ (true ∷ false ∷ false ∷ false ∷ false ∷ false ∷ false ∷ false ∷ false ∷ false ∷ false ∷ false ∷ false ∷ false ∷ false ∷ false ∷ false ∷ false ∷ true ∷ [])
unfolding the_law
w7_next_0 = refl

w7_next_1 : map (may_follow w7 (Some w7_readings) (event.CloseSet (id 2) outcome.Error ∷ event.Ended (id 3) outcome.Terminated None ∷ event.LetOut (id 5) ∷ event.LetOut (id 1) ∷ event.Command 10 ∷ event.Command 9 ∷ event.Command 8 ∷ event.Command 7 ∷ event.Command 6 ∷ event.Command 5 ∷ event.Tick (moment 63876602400) ∷ event.Tick (moment 63876600600) ∷ start 3 0 ∷ event.LetOut (id 3) ∷ event.Stage (id 2) 1 ∷ event.OpenSet (id 2) ∷ event.Command 4 ∷ event.Command 3 ∷ event.Tick (moment 63876600600) ∷ event.Command 2 ∷ event.Command 1 ∷ event.Tick (moment 63876600000) ∷ [])) ((event.Resume) ∷ (event.LetOut (id 5)) ∷ (event.OpenSet (id 5)) ∷ (event.Interrupt (id 5)) ∷ (event.Command 1) ∷ (event.CloseSet (id 5) outcome.Warning) ∷ (start 5 1) ∷ (event.Stage (id 5) 2) ∷ (ended 5 outcome.Warning 0 5) ∷ (event.Ended (id 5) outcome.Terminated None) ∷ (event.Tick (moment 63876602400)) ∷ (start 1 1) ∷ (start 1 0) ∷ (event.Tick (moment 63876602400)) ∷ []) ≡ (true ∷ false ∷ false ∷ false ∷ false ∷ false ∷ true ∷ false ∷ false ∷ false ∷ true ∷ true ∷ true ∷ true ∷ [])
unfolding the_law
w7_next_1 = refl

w7_next_2 : map (may_follow w7 (Some w7_readings) (start 3 0 ∷ event.LetOut (id 3) ∷ event.Stage (id 2) 1 ∷ event.OpenSet (id 2) ∷ event.Command 4 ∷ event.Command 3 ∷ event.Tick (moment 63876600600) ∷ event.Command 2 ∷ event.Command 1 ∷ event.Tick (moment 63876600000) ∷ [])) ((event.Resume) ∷ (event.LetOut (id 2)) ∷ (event.OpenSet (id 2)) ∷ (event.Interrupt (id 2)) ∷ (event.Command 5) ∷ (event.CloseSet (id 2) outcome.Error) ∷ (start 2 0) ∷ (event.Stage (id 2) 2) ∷ (ended 2 outcome.Error 0 5) ∷ (event.Ended (id 2) outcome.Terminated None) ∷ (event.Tick (moment 63876604200)) ∷ (ended 3 outcome.Error 0 47) ∷ (event.Ended (id 3) outcome.Terminated None) ∷ (ended 3 outcome.Error 0 0) ∷ (event.Ended (id 3) outcome.Cancelled None) ∷ (ended 3 outcome.Error 1 5) ∷ (start 3 0) ∷ (event.Tick (moment 63876600600)) ∷ []) ≡ (true ∷ false ∷ false ∷ false ∷ false ∷ false ∷ false ∷ false ∷ false ∷ false ∷ false ∷ true ∷ false ∷ false ∷ false ∷ false ∷ false ∷ true ∷ [])
unfolding the_law
w7_next_2 = refl

w7_next_3 : map (may_follow w7 (Some w7_readings) (event.Command 11 ∷ event.Tick (moment 63876603600) ∷ event.Tick (moment 63876602400) ∷ start 1 2 ∷ event.Tick (moment 63876602400) ∷ event.CloseSet (id 2) outcome.Error ∷ event.Ended (id 3) outcome.Terminated None ∷ event.LetOut (id 5) ∷ event.LetOut (id 1) ∷ event.Command 10 ∷ event.Command 9 ∷ event.Command 8 ∷ event.Command 7 ∷ event.Command 6 ∷ event.Command 5 ∷ event.Tick (moment 63876602400) ∷ event.Tick (moment 63876600600) ∷ start 3 0 ∷ event.LetOut (id 3) ∷ event.Stage (id 2) 1 ∷ event.OpenSet (id 2) ∷ event.Command 4 ∷ event.Command 3 ∷ event.Tick (moment 63876600600) ∷ event.Command 2 ∷ event.Command 1 ∷ event.Tick (moment 63876600000) ∷ [])) ((event.Resume) ∷ (event.LetOut (id 4)) ∷ (event.OpenSet (id 4)) ∷ (event.Interrupt (id 4)) ∷ (event.Command 5) ∷ (event.CloseSet (id 4) outcome.Normal) ∷ (start 4 0) ∷ (event.Stage (id 4) 1) ∷ (ended 4 outcome.Normal 0 5) ∷ (event.Ended (id 4) outcome.Terminated None) ∷ (event.Tick (moment 63876607200)) ∷ (ended 1 outcome.Normal 0 46) ∷ (event.Ended (id 1) outcome.Terminated None) ∷ (ended 1 outcome.Normal 0 0) ∷ (event.Ended (id 1) outcome.Cancelled None) ∷ (ended 1 outcome.Normal 1 5) ∷ (start 1 0) ∷ (start 5 0) ∷ (start 5 0) ∷ []) ≡ (true ∷ false ∷ false ∷ false ∷ false ∷ false ∷ false ∷ false ∷ false ∷ false ∷ false ∷ true ∷ false ∷ false ∷ false ∷ false ∷ false ∷ true ∷ true ∷ [])
unfolding the_law
w7_next_3 = refl

w7_group_0 : map (answers w7) ((ended 1 outcome.Error 16 37 ∷ ended 5 outcome.Normal 0 16 ∷ start 5 0 ∷ event.Command 11 ∷ event.Tick (moment 63876603600) ∷ event.Tick (moment 63876602400) ∷ start 1 2 ∷ event.Tick (moment 63876602400) ∷ event.CloseSet (id 2) outcome.Error ∷ event.Ended (id 3) outcome.Terminated None ∷ event.LetOut (id 5) ∷ event.LetOut (id 1) ∷ event.Command 10 ∷ event.Command 9 ∷ event.Command 8 ∷ event.Command 7 ∷ event.Command 6 ∷ event.Command 5 ∷ event.Tick (moment 63876602400) ∷ event.Tick (moment 63876600600) ∷ start 3 0 ∷ event.LetOut (id 3) ∷ event.Stage (id 2) 1 ∷ event.OpenSet (id 2) ∷ event.Command 4 ∷ event.Command 3 ∷ event.Tick (moment 63876600600) ∷ event.Command 2 ∷ event.Command 1 ∷ event.Tick (moment 63876600000) ∷ []) ∷ (event.Command 9 ∷ event.Command 8 ∷ event.Command 7 ∷ event.Command 6 ∷ event.Command 5 ∷ event.Tick (moment 63876602400) ∷ event.Tick (moment 63876600600) ∷ start 3 0 ∷ event.LetOut (id 3) ∷ event.Stage (id 2) 1 ∷ event.OpenSet (id 2) ∷ event.Command 4 ∷ event.Command 3 ∷ event.Tick (moment 63876600600) ∷ event.Command 2 ∷ event.Command 1 ∷ event.Tick (moment 63876600000) ∷ []) ∷ (event.CloseSet (id 2) outcome.Error ∷ event.Ended (id 3) outcome.Terminated None ∷ event.LetOut (id 5) ∷ event.LetOut (id 1) ∷ event.Command 10 ∷ event.Command 9 ∷ event.Command 8 ∷ event.Command 7 ∷ event.Command 6 ∷ event.Command 5 ∷ event.Tick (moment 63876602400) ∷ event.Tick (moment 63876600600) ∷ start 3 0 ∷ event.LetOut (id 3) ∷ event.Stage (id 2) 1 ∷ event.OpenSet (id 2) ∷ event.Command 4 ∷ event.Command 3 ∷ event.Tick (moment 63876600600) ∷ event.Command 2 ∷ event.Command 1 ∷ event.Tick (moment 63876600000) ∷ []) ∷ (start 3 0 ∷ event.LetOut (id 3) ∷ event.Stage (id 2) 1 ∷ event.OpenSet (id 2) ∷ event.Command 4 ∷ event.Command 3 ∷ event.Tick (moment 63876600600) ∷ event.Command 2 ∷ event.Command 1 ∷ event.Tick (moment 63876600000) ∷ []) ∷ (event.Command 11 ∷ event.Tick (moment 63876603600) ∷ event.Tick (moment 63876602400) ∷ start 1 2 ∷ event.Tick (moment 63876602400) ∷ event.CloseSet (id 2) outcome.Error ∷ event.Ended (id 3) outcome.Terminated None ∷ event.LetOut (id 5) ∷ event.LetOut (id 1) ∷ event.Command 10 ∷ event.Command 9 ∷ event.Command 8 ∷ event.Command 7 ∷ event.Command 6 ∷ event.Command 5 ∷ event.Tick (moment 63876602400) ∷ event.Tick (moment 63876600600) ∷ start 3 0 ∷ event.LetOut (id 3) ∷ event.Stage (id 2) 1 ∷ event.OpenSet (id 2) ∷ event.Command 4 ∷ event.Command 3 ∷ event.Tick (moment 63876600600) ∷ event.Command 2 ∷ event.Command 1 ∷ event.Tick (moment 63876600000) ∷ []) ∷ []) ≡ ((None, (true, ((Some (phase.Completed, status.Error)) ∷ (Some (phase.Completed, status.Error)) ∷ (Some (phase.Completed, status.Terminated)) ∷ (Some (phase.Completed, status.Cancelled)) ∷ (Some (phase.Completed, status.Normal)) ∷ []))) ∷ ((Some (event.Command 10)), (false, ((Some (phase.Pending, status.Standby)) ∷ (Some (phase.Running, status.Paused)) ∷ (Some (phase.Running, status.Terminating)) ∷ (Some (phase.Pending, status.Waiting)) ∷ (Some (phase.Pending, status.Standby)) ∷ []))) ∷ (None, (false, ((Some (phase.Pending, status.Normal)) ∷ (Some (phase.Completed, status.Error)) ∷ (Some (phase.Completed, status.Terminated)) ∷ (Some (phase.Completed, status.Cancelled)) ∷ (Some (phase.Pending, status.Normal)) ∷ []))) ∷ (None, (false, ((Some (phase.Pending, status.Scheduled)) ∷ (Some (phase.Running, status.Paused)) ∷ (Some (phase.Running, status.Normal)) ∷ (Some (phase.Pending, status.Waiting)) ∷ (Some (phase.Pending, status.Scheduled)) ∷ []))) ∷ (None, (false, ((Some (phase.Running, status.Normal)) ∷ (Some (phase.Completed, status.Error)) ∷ (Some (phase.Completed, status.Terminated)) ∷ (Some (phase.Completed, status.Cancelled)) ∷ (Some (phase.Pending, status.Normal)) ∷ []))) ∷ [])
unfolding the_law
w7_group_0 = refl

w7_group_1 : map (next_reading w7_readings) ((ended 1 outcome.Error 16 37 ∷ ended 5 outcome.Normal 0 16 ∷ start 5 0 ∷ event.Command 11 ∷ event.Tick (moment 63876603600) ∷ event.Tick (moment 63876602400) ∷ start 1 2 ∷ event.Tick (moment 63876602400) ∷ event.CloseSet (id 2) outcome.Error ∷ event.Ended (id 3) outcome.Terminated None ∷ event.LetOut (id 5) ∷ event.LetOut (id 1) ∷ event.Command 10 ∷ event.Command 9 ∷ event.Command 8 ∷ event.Command 7 ∷ event.Command 6 ∷ event.Command 5 ∷ event.Tick (moment 63876602400) ∷ event.Tick (moment 63876600600) ∷ start 3 0 ∷ event.LetOut (id 3) ∷ event.Stage (id 2) 1 ∷ event.OpenSet (id 2) ∷ event.Command 4 ∷ event.Command 3 ∷ event.Tick (moment 63876600600) ∷ event.Command 2 ∷ event.Command 1 ∷ event.Tick (moment 63876600000) ∷ []) ∷ (event.Command 9 ∷ event.Command 8 ∷ event.Command 7 ∷ event.Command 6 ∷ event.Command 5 ∷ event.Tick (moment 63876602400) ∷ event.Tick (moment 63876600600) ∷ start 3 0 ∷ event.LetOut (id 3) ∷ event.Stage (id 2) 1 ∷ event.OpenSet (id 2) ∷ event.Command 4 ∷ event.Command 3 ∷ event.Tick (moment 63876600600) ∷ event.Command 2 ∷ event.Command 1 ∷ event.Tick (moment 63876600000) ∷ []) ∷ (event.CloseSet (id 2) outcome.Error ∷ event.Ended (id 3) outcome.Terminated None ∷ event.LetOut (id 5) ∷ event.LetOut (id 1) ∷ event.Command 10 ∷ event.Command 9 ∷ event.Command 8 ∷ event.Command 7 ∷ event.Command 6 ∷ event.Command 5 ∷ event.Tick (moment 63876602400) ∷ event.Tick (moment 63876600600) ∷ start 3 0 ∷ event.LetOut (id 3) ∷ event.Stage (id 2) 1 ∷ event.OpenSet (id 2) ∷ event.Command 4 ∷ event.Command 3 ∷ event.Tick (moment 63876600600) ∷ event.Command 2 ∷ event.Command 1 ∷ event.Tick (moment 63876600000) ∷ []) ∷ (start 3 0 ∷ event.LetOut (id 3) ∷ event.Stage (id 2) 1 ∷ event.OpenSet (id 2) ∷ event.Command 4 ∷ event.Command 3 ∷ event.Tick (moment 63876600600) ∷ event.Command 2 ∷ event.Command 1 ∷ event.Tick (moment 63876600000) ∷ []) ∷ (event.Command 11 ∷ event.Tick (moment 63876603600) ∷ event.Tick (moment 63876602400) ∷ start 1 2 ∷ event.Tick (moment 63876602400) ∷ event.CloseSet (id 2) outcome.Error ∷ event.Ended (id 3) outcome.Terminated None ∷ event.LetOut (id 5) ∷ event.LetOut (id 1) ∷ event.Command 10 ∷ event.Command 9 ∷ event.Command 8 ∷ event.Command 7 ∷ event.Command 6 ∷ event.Command 5 ∷ event.Tick (moment 63876602400) ∷ event.Tick (moment 63876600600) ∷ start 3 0 ∷ event.LetOut (id 3) ∷ event.Stage (id 2) 1 ∷ event.OpenSet (id 2) ∷ event.Command 4 ∷ event.Command 3 ∷ event.Tick (moment 63876600600) ∷ event.Command 2 ∷ event.Command 1 ∷ event.Tick (moment 63876600000) ∷ []) ∷ []) ≡ (None ∷ (Some (record { moment = (moment 63876602400); early = true })) ∷ (Some (record { moment = (moment 63876602400); early = true })) ∷ (Some (record { moment = (moment 63876600600); early = true })) ∷ None ∷ [])
unfolding the_law
w7_group_1 = refl

w7_group_2 : map (all_facts w7) ((event.Command 9 ∷ event.Command 8 ∷ event.Command 7 ∷ event.Command 6 ∷ event.Command 5 ∷ event.Tick (moment 63876602400) ∷ event.Tick (moment 63876600600) ∷ start 3 0 ∷ event.LetOut (id 3) ∷ event.Stage (id 2) 1 ∷ event.OpenSet (id 2) ∷ event.Command 4 ∷ event.Command 3 ∷ event.Tick (moment 63876600600) ∷ event.Command 2 ∷ event.Command 1 ∷ event.Tick (moment 63876600000) ∷ []) ∷ (event.CloseSet (id 2) outcome.Error ∷ event.Ended (id 3) outcome.Terminated None ∷ event.LetOut (id 5) ∷ event.LetOut (id 1) ∷ event.Command 10 ∷ event.Command 9 ∷ event.Command 8 ∷ event.Command 7 ∷ event.Command 6 ∷ event.Command 5 ∷ event.Tick (moment 63876602400) ∷ event.Tick (moment 63876600600) ∷ start 3 0 ∷ event.LetOut (id 3) ∷ event.Stage (id 2) 1 ∷ event.OpenSet (id 2) ∷ event.Command 4 ∷ event.Command 3 ∷ event.Tick (moment 63876600600) ∷ event.Command 2 ∷ event.Command 1 ∷ event.Tick (moment 63876600000) ∷ []) ∷ (ended 1 outcome.Error 16 37 ∷ ended 5 outcome.Normal 0 16 ∷ start 5 0 ∷ event.Command 11 ∷ event.Tick (moment 63876603600) ∷ event.Tick (moment 63876602400) ∷ start 1 2 ∷ event.Tick (moment 63876602400) ∷ event.CloseSet (id 2) outcome.Error ∷ event.Ended (id 3) outcome.Terminated None ∷ event.LetOut (id 5) ∷ event.LetOut (id 1) ∷ event.Command 10 ∷ event.Command 9 ∷ event.Command 8 ∷ event.Command 7 ∷ event.Command 6 ∷ event.Command 5 ∷ event.Tick (moment 63876602400) ∷ event.Tick (moment 63876600600) ∷ start 3 0 ∷ event.LetOut (id 3) ∷ event.Stage (id 2) 1 ∷ event.OpenSet (id 2) ∷ event.Command 4 ∷ event.Command 3 ∷ event.Tick (moment 63876600600) ∷ event.Command 2 ∷ event.Command 1 ∷ event.Tick (moment 63876600000) ∷ []) ∷ []) ≡ (((true ∷ false ∷ false ∷ false ∷ false ∷ false ∷ false ∷ false ∷ false ∷ false ∷ []) ∷ (true ∷ false ∷ true ∷ false ∷ false ∷ false ∷ true ∷ false ∷ false ∷ false ∷ []) ∷ (true ∷ false ∷ false ∷ true ∷ true ∷ true ∷ true ∷ false ∷ false ∷ true ∷ []) ∷ (true ∷ false ∷ false ∷ false ∷ false ∷ false ∷ false ∷ true ∷ false ∷ false ∷ []) ∷ (true ∷ false ∷ false ∷ false ∷ false ∷ false ∷ false ∷ false ∷ false ∷ false ∷ []) ∷ []) ∷ ((true ∷ false ∷ false ∷ true ∷ false ∷ false ∷ true ∷ false ∷ false ∷ false ∷ []) ∷ (true ∷ false ∷ false ∷ false ∷ false ∷ false ∷ false ∷ false ∷ false ∷ false ∷ []) ∷ (true ∷ false ∷ false ∷ false ∷ false ∷ false ∷ false ∷ false ∷ false ∷ true ∷ []) ∷ (true ∷ false ∷ false ∷ false ∷ false ∷ false ∷ false ∷ true ∷ false ∷ false ∷ []) ∷ (true ∷ false ∷ false ∷ true ∷ false ∷ false ∷ true ∷ false ∷ false ∷ false ∷ []) ∷ []) ∷ ((true ∷ false ∷ false ∷ false ∷ false ∷ false ∷ false ∷ false ∷ false ∷ true ∷ []) ∷ (true ∷ false ∷ false ∷ false ∷ false ∷ false ∷ false ∷ false ∷ false ∷ false ∷ []) ∷ (true ∷ false ∷ false ∷ false ∷ false ∷ false ∷ false ∷ false ∷ false ∷ true ∷ []) ∷ (true ∷ false ∷ false ∷ false ∷ false ∷ false ∷ false ∷ true ∷ false ∷ false ∷ []) ∷ (true ∷ false ∷ false ∷ false ∷ false ∷ false ∷ false ∷ false ∷ false ∷ true ∷ []) ∷ []) ∷ [])
unfolding the_law
w7_group_2 = refl

w7_group_3 : map (all_values w7) ((event.Command 9 ∷ event.Command 8 ∷ event.Command 7 ∷ event.Command 6 ∷ event.Command 5 ∷ event.Tick (moment 63876602400) ∷ event.Tick (moment 63876600600) ∷ start 3 0 ∷ event.LetOut (id 3) ∷ event.Stage (id 2) 1 ∷ event.OpenSet (id 2) ∷ event.Command 4 ∷ event.Command 3 ∷ event.Tick (moment 63876600600) ∷ event.Command 2 ∷ event.Command 1 ∷ event.Tick (moment 63876600000) ∷ []) ∷ (event.CloseSet (id 2) outcome.Error ∷ event.Ended (id 3) outcome.Terminated None ∷ event.LetOut (id 5) ∷ event.LetOut (id 1) ∷ event.Command 10 ∷ event.Command 9 ∷ event.Command 8 ∷ event.Command 7 ∷ event.Command 6 ∷ event.Command 5 ∷ event.Tick (moment 63876602400) ∷ event.Tick (moment 63876600600) ∷ start 3 0 ∷ event.LetOut (id 3) ∷ event.Stage (id 2) 1 ∷ event.OpenSet (id 2) ∷ event.Command 4 ∷ event.Command 3 ∷ event.Tick (moment 63876600600) ∷ event.Command 2 ∷ event.Command 1 ∷ event.Tick (moment 63876600000) ∷ []) ∷ (ended 1 outcome.Error 16 37 ∷ ended 5 outcome.Normal 0 16 ∷ start 5 0 ∷ event.Command 11 ∷ event.Tick (moment 63876603600) ∷ event.Tick (moment 63876602400) ∷ start 1 2 ∷ event.Tick (moment 63876602400) ∷ event.CloseSet (id 2) outcome.Error ∷ event.Ended (id 3) outcome.Terminated None ∷ event.LetOut (id 5) ∷ event.LetOut (id 1) ∷ event.Command 10 ∷ event.Command 9 ∷ event.Command 8 ∷ event.Command 7 ∷ event.Command 6 ∷ event.Command 5 ∷ event.Tick (moment 63876602400) ∷ event.Tick (moment 63876600600) ∷ start 3 0 ∷ event.LetOut (id 3) ∷ event.Stage (id 2) 1 ∷ event.OpenSet (id 2) ∷ event.Command 4 ∷ event.Command 3 ∷ event.Tick (moment 63876600600) ∷ event.Command 2 ∷ event.Command 1 ∷ event.Tick (moment 63876600000) ∷ []) ∷ []) ≡ ((((None, None), (None, 0)) ∷ ((None, (Some 1)), (None, 1)) ∷ ((None, None), ((Some (record { index = 0 })), 0)) ∷ ((None, None), (None, 0)) ∷ ((None, None), (None, 0)) ∷ []) ∷ (((None, None), (None, 0)) ∷ (((Some outcome.Error), (Some 1)), (None, 1)) ∷ (((Some outcome.Terminated), None), (None, 0)) ∷ (((Some outcome.Cancelled), None), (None, 0)) ∷ ((None, None), (None, 0)) ∷ []) ∷ ((((Some outcome.Error), None), (None, 0)) ∷ (((Some outcome.Error), (Some 1)), (None, 1)) ∷ (((Some outcome.Terminated), None), (None, 0)) ∷ (((Some outcome.Cancelled), None), (None, 0)) ∷ (((Some outcome.Normal), None), (None, 0)) ∷ []) ∷ [])
unfolding the_law
w7_group_3 = refl

w7_group_4 : map (starts w7) ((event.Command 9 ∷ event.Command 8 ∷ event.Command 7 ∷ event.Command 6 ∷ event.Command 5 ∷ event.Tick (moment 63876602400) ∷ event.Tick (moment 63876600600) ∷ start 3 0 ∷ event.LetOut (id 3) ∷ event.Stage (id 2) 1 ∷ event.OpenSet (id 2) ∷ event.Command 4 ∷ event.Command 3 ∷ event.Tick (moment 63876600600) ∷ event.Command 2 ∷ event.Command 1 ∷ event.Tick (moment 63876600000) ∷ []) ∷ (event.CloseSet (id 2) outcome.Error ∷ event.Ended (id 3) outcome.Terminated None ∷ event.LetOut (id 5) ∷ event.LetOut (id 1) ∷ event.Command 10 ∷ event.Command 9 ∷ event.Command 8 ∷ event.Command 7 ∷ event.Command 6 ∷ event.Command 5 ∷ event.Tick (moment 63876602400) ∷ event.Tick (moment 63876600600) ∷ start 3 0 ∷ event.LetOut (id 3) ∷ event.Stage (id 2) 1 ∷ event.OpenSet (id 2) ∷ event.Command 4 ∷ event.Command 3 ∷ event.Tick (moment 63876600600) ∷ event.Command 2 ∷ event.Command 1 ∷ event.Tick (moment 63876600000) ∷ []) ∷ (ended 1 outcome.Error 16 37 ∷ ended 5 outcome.Normal 0 16 ∷ start 5 0 ∷ event.Command 11 ∷ event.Tick (moment 63876603600) ∷ event.Tick (moment 63876602400) ∷ start 1 2 ∷ event.Tick (moment 63876602400) ∷ event.CloseSet (id 2) outcome.Error ∷ event.Ended (id 3) outcome.Terminated None ∷ event.LetOut (id 5) ∷ event.LetOut (id 1) ∷ event.Command 10 ∷ event.Command 9 ∷ event.Command 8 ∷ event.Command 7 ∷ event.Command 6 ∷ event.Command 5 ∷ event.Tick (moment 63876602400) ∷ event.Tick (moment 63876600600) ∷ start 3 0 ∷ event.LetOut (id 3) ∷ event.Stage (id 2) 1 ∷ event.OpenSet (id 2) ∷ event.Command 4 ∷ event.Command 3 ∷ event.Tick (moment 63876600600) ∷ event.Command 2 ∷ event.Command 1 ∷ event.Tick (moment 63876600000) ∷ []) ∷ []) ≡ (((false ∷ false ∷ false ∷ []) ∷ (false ∷ false ∷ false ∷ []) ∷ (false ∷ false ∷ false ∷ []) ∷ (false ∷ false ∷ false ∷ []) ∷ (false ∷ false ∷ false ∷ []) ∷ []) ∷ ((true ∷ true ∷ true ∷ []) ∷ (false ∷ false ∷ false ∷ []) ∷ (false ∷ false ∷ false ∷ []) ∷ (false ∷ false ∷ false ∷ []) ∷ (true ∷ true ∷ true ∷ []) ∷ []) ∷ ((false ∷ false ∷ false ∷ []) ∷ (false ∷ false ∷ false ∷ []) ∷ (false ∷ false ∷ false ∷ []) ∷ (false ∷ false ∷ false ∷ []) ∷ (false ∷ false ∷ false ∷ []) ∷ []) ∷ [])
unfolding the_law
w7_group_4 = refl

w7_group_5 : map (steps w7) ((event.Command 9 ∷ event.Command 8 ∷ event.Command 7 ∷ event.Command 6 ∷ event.Command 5 ∷ event.Tick (moment 63876602400) ∷ event.Tick (moment 63876600600) ∷ start 3 0 ∷ event.LetOut (id 3) ∷ event.Stage (id 2) 1 ∷ event.OpenSet (id 2) ∷ event.Command 4 ∷ event.Command 3 ∷ event.Tick (moment 63876600600) ∷ event.Command 2 ∷ event.Command 1 ∷ event.Tick (moment 63876600000) ∷ []) ∷ (event.CloseSet (id 2) outcome.Error ∷ event.Ended (id 3) outcome.Terminated None ∷ event.LetOut (id 5) ∷ event.LetOut (id 1) ∷ event.Command 10 ∷ event.Command 9 ∷ event.Command 8 ∷ event.Command 7 ∷ event.Command 6 ∷ event.Command 5 ∷ event.Tick (moment 63876602400) ∷ event.Tick (moment 63876600600) ∷ start 3 0 ∷ event.LetOut (id 3) ∷ event.Stage (id 2) 1 ∷ event.OpenSet (id 2) ∷ event.Command 4 ∷ event.Command 3 ∷ event.Tick (moment 63876600600) ∷ event.Command 2 ∷ event.Command 1 ∷ event.Tick (moment 63876600000) ∷ []) ∷ (ended 1 outcome.Error 16 37 ∷ ended 5 outcome.Normal 0 16 ∷ start 5 0 ∷ event.Command 11 ∷ event.Tick (moment 63876603600) ∷ event.Tick (moment 63876602400) ∷ start 1 2 ∷ event.Tick (moment 63876602400) ∷ event.CloseSet (id 2) outcome.Error ∷ event.Ended (id 3) outcome.Terminated None ∷ event.LetOut (id 5) ∷ event.LetOut (id 1) ∷ event.Command 10 ∷ event.Command 9 ∷ event.Command 8 ∷ event.Command 7 ∷ event.Command 6 ∷ event.Command 5 ∷ event.Tick (moment 63876602400) ∷ event.Tick (moment 63876600600) ∷ start 3 0 ∷ event.LetOut (id 3) ∷ event.Stage (id 2) 1 ∷ event.OpenSet (id 2) ∷ event.Command 4 ∷ event.Command 3 ∷ event.Tick (moment 63876600600) ∷ event.Command 2 ∷ event.Command 1 ∷ event.Tick (moment 63876600000) ∷ []) ∷ []) ≡ ((None ∷ []) ∷ ((Some (event.CloseSet (id 2) outcome.Error)) ∷ []) ∷ ((Some (event.CloseSet (id 2) outcome.Error)) ∷ []) ∷ [])
unfolding the_law
w7_group_5 = refl

w7_group_6 : map (overall w7) ((event.Command 9 ∷ event.Command 8 ∷ event.Command 7 ∷ event.Command 6 ∷ event.Command 5 ∷ event.Tick (moment 63876602400) ∷ event.Tick (moment 63876600600) ∷ start 3 0 ∷ event.LetOut (id 3) ∷ event.Stage (id 2) 1 ∷ event.OpenSet (id 2) ∷ event.Command 4 ∷ event.Command 3 ∷ event.Tick (moment 63876600600) ∷ event.Command 2 ∷ event.Command 1 ∷ event.Tick (moment 63876600000) ∷ []) ∷ (event.CloseSet (id 2) outcome.Error ∷ event.Ended (id 3) outcome.Terminated None ∷ event.LetOut (id 5) ∷ event.LetOut (id 1) ∷ event.Command 10 ∷ event.Command 9 ∷ event.Command 8 ∷ event.Command 7 ∷ event.Command 6 ∷ event.Command 5 ∷ event.Tick (moment 63876602400) ∷ event.Tick (moment 63876600600) ∷ start 3 0 ∷ event.LetOut (id 3) ∷ event.Stage (id 2) 1 ∷ event.OpenSet (id 2) ∷ event.Command 4 ∷ event.Command 3 ∷ event.Tick (moment 63876600600) ∷ event.Command 2 ∷ event.Command 1 ∷ event.Tick (moment 63876600000) ∷ []) ∷ (ended 1 outcome.Error 16 37 ∷ ended 5 outcome.Normal 0 16 ∷ start 5 0 ∷ event.Command 11 ∷ event.Tick (moment 63876603600) ∷ event.Tick (moment 63876602400) ∷ start 1 2 ∷ event.Tick (moment 63876602400) ∷ event.CloseSet (id 2) outcome.Error ∷ event.Ended (id 3) outcome.Terminated None ∷ event.LetOut (id 5) ∷ event.LetOut (id 1) ∷ event.Command 10 ∷ event.Command 9 ∷ event.Command 8 ∷ event.Command 7 ∷ event.Command 6 ∷ event.Command 5 ∷ event.Tick (moment 63876602400) ∷ event.Tick (moment 63876600600) ∷ start 3 0 ∷ event.LetOut (id 3) ∷ event.Stage (id 2) 1 ∷ event.OpenSet (id 2) ∷ event.Command 4 ∷ event.Command 3 ∷ event.Tick (moment 63876600600) ∷ event.Command 2 ∷ event.Command 1 ∷ event.Tick (moment 63876600000) ∷ []) ∷ []) ≡ (((false, (Some (moment 63876602400))), ((Some 0), (true ∷ true ∷ true ∷ true ∷ true ∷ true ∷ true ∷ true ∷ true ∷ false ∷ false ∷ []))) ∷ ((false, (Some (moment 63876602400))), ((Some 0), (true ∷ true ∷ true ∷ true ∷ true ∷ true ∷ true ∷ true ∷ true ∷ true ∷ false ∷ []))) ∷ ((false, (Some (moment 63876603600))), ((Some 53), (true ∷ true ∷ true ∷ true ∷ true ∷ true ∷ true ∷ true ∷ true ∷ true ∷ true ∷ []))) ∷ [])
unfolding the_law
w7_group_6 = refl

w7_group_7 : map (is_lawful w7 w7_readings) ((event.Command 3 ∷ event.Tick (moment 63876600600) ∷ event.Command 2 ∷ event.Command 1 ∷ event.Tick (moment 63876600000) ∷ []) ∷ (event.Tick (moment 63876602400) ∷ event.Tick (moment 63876600600) ∷ start 3 0 ∷ event.LetOut (id 3) ∷ event.Stage (id 2) 1 ∷ event.OpenSet (id 2) ∷ event.Command 4 ∷ event.Command 3 ∷ event.Tick (moment 63876600600) ∷ event.Command 2 ∷ event.Command 1 ∷ event.Tick (moment 63876600000) ∷ []) ∷ (event.Command 10 ∷ event.Command 9 ∷ event.Command 8 ∷ event.Command 7 ∷ event.Command 6 ∷ event.Command 5 ∷ event.Tick (moment 63876602400) ∷ event.Tick (moment 63876600600) ∷ start 3 0 ∷ event.LetOut (id 3) ∷ event.Stage (id 2) 1 ∷ event.OpenSet (id 2) ∷ event.Command 4 ∷ event.Command 3 ∷ event.Tick (moment 63876600600) ∷ event.Command 2 ∷ event.Command 1 ∷ event.Tick (moment 63876600000) ∷ []) ∷ (event.Tick (moment 63876602400) ∷ event.Tick (moment 63876600600) ∷ start 3 0 ∷ event.LetOut (id 3) ∷ event.Stage (id 2) 1 ∷ event.OpenSet (id 2) ∷ event.Command 4 ∷ event.Command 3 ∷ event.Tick (moment 63876600600) ∷ event.Command 2 ∷ event.Command 1 ∷ event.Tick (moment 63876600000) ∷ []) ∷ []) ≡ (true ∷ true ∷ true ∷ true ∷ [])
unfolding the_law
w7_group_7 = refl

w7_group_8 : map (is_lawful w7 w7_readings) ((event.Command 3 ∷ event.Command 3 ∷ event.Tick (moment 63876600600) ∷ event.Command 2 ∷ event.Command 1 ∷ event.Tick (moment 63876600000) ∷ []) ∷ (event.Command 6 ∷ event.Tick (moment 63876602400) ∷ event.Tick (moment 63876600600) ∷ start 3 0 ∷ event.LetOut (id 3) ∷ event.Stage (id 2) 1 ∷ event.OpenSet (id 2) ∷ event.Command 4 ∷ event.Command 3 ∷ event.Tick (moment 63876600600) ∷ event.Command 2 ∷ event.Command 1 ∷ event.Tick (moment 63876600000) ∷ []) ∷ (event.LetOut (id 5) ∷ event.Command 10 ∷ event.Command 9 ∷ event.Command 8 ∷ event.Command 7 ∷ event.Command 6 ∷ event.Command 5 ∷ event.Tick (moment 63876602400) ∷ event.Tick (moment 63876600600) ∷ start 3 0 ∷ event.LetOut (id 3) ∷ event.Stage (id 2) 1 ∷ event.OpenSet (id 2) ∷ event.Command 4 ∷ event.Command 3 ∷ event.Tick (moment 63876600600) ∷ event.Command 2 ∷ event.Command 1 ∷ event.Tick (moment 63876600000) ∷ []) ∷ (event.Command 6 ∷ event.Tick (moment 63876602400) ∷ event.Tick (moment 63876600600) ∷ start 3 0 ∷ event.LetOut (id 3) ∷ event.Stage (id 2) 1 ∷ event.OpenSet (id 2) ∷ event.Command 4 ∷ event.Command 3 ∷ event.Tick (moment 63876600600) ∷ event.Command 2 ∷ event.Command 1 ∷ event.Tick (moment 63876600000) ∷ []) ∷ []) ≡ (false ∷ false ∷ false ∷ false ∷ [])
unfolding the_law
w7_group_8 = refl

abbrev w40_setup : Setup
unfolding texts
w40_setup = record {
  tables = ((codes "t") ∷ []);
  programs = (record { name = (codes "P0"); request_type = (codes "A"); enabled = true; run_alone = false; restart = false; job = record { table = (codes "t"); filters = []; group = None; sum = (Some (codes "v")); warn_over = (Some 0); error_over = (Some 1); few = lit≤ tt }; post = None; short = refl; sums = refl } ∷ record { name = (codes "P1"); request_type = []; enabled = true; run_alone = false; restart = true; job = record { table = (codes "t"); filters = []; group = None; sum = (Some (codes "v")); warn_over = None; error_over = None; few = lit≤ tt }; post = None; short = refl; sums = refl } ∷ record { name = (codes "P2"); request_type = []; enabled = true; run_alone = false; restart = true; job = record { table = (codes "t"); filters = []; group = (Some (codes "k")); sum = None; warn_over = (Some 1); error_over = None; few = lit≤ tt }; post = None; short = refl; sums = refl } ∷ []);
  entries = (record { owner = (item.Program 1); other = (item.Program 0); scope = scope.Set; reach = reach.Global } ∷ []);
  managers = (record { name = (codes "M0"); include = []; exclude = (record { program = (Some 0); request_type = None; user = None; names = refl } ∷ []); shifts = []; few_rules = lit≤ tt; few_shifts = lit≤ tt } ∷ []);
  sets = (record { name = (codes "S0"); stages = (record { name = (codes "s0"); critical = false; links = ((Some 1) ∷ (Some 1) ∷ (Some 1) ∷ []); members = (2 ∷ []); near = refl; some = refl } ∷ record { name = (codes "s1"); critical = false; links = ((Some 2) ∷ (Some 2) ∷ None ∷ []); members = (0 ∷ 1 ∷ []); near = refl; some = refl } ∷ record { name = (codes "s2"); critical = true; links = (None ∷ None ∷ None ∷ []); members = (2 ∷ []); near = refl; some = refl } ∷ []); some = refl; forward = refl } ∷ []);
  few_tables = lit≤ tt;
  few_programs = lit≤ tt;
  few_entries = lit≤ tt;
  few_managers = lit≤ tt;
  few_sets = lit≤ tt;
  few_places = lit≤ tt;
  named = refl;
  references = refl;
}

abbrev w40_commands : List Order
w40_commands = (record { at = (moment 63876600600); act = act.Submit (item.Set 0) (codes "bob") 90 (moment 63876600600) (codes "D") [] } ∷ record { at = (moment 63876601200); act = act.Hold (id 3) } ∷ record { at = (moment 63876601800); act = act.Unhold (id 3) } ∷ record { at = (moment 63876601800); act = act.Unhold (id 5) } ∷ record { at = (moment 63876603000); act = act.Terminate (id 3) } ∷ [])

abbrev w40 : Plan
unfolding texts
w40 = record {
  setup = w40_setup;
  script = record { commands = w40_commands; few = lit≤ tt };
  tables = (record { columns = ((codes "k") ∷ (codes "v") ∷ []); rows = (((codes "b") ∷ (codes "3") ∷ []) ∷ []); distinct = refl; even = refl; few = lit≤ tt } ∷ []);
  requests = expansion w40_setup w40_commands;
  stamps = map (λ (order : Order). 0) w40_commands;
  commands = refl;
  reports = refl;
  expanded = refl;
  stamped = refl;
  few = lit≤ tt;
}

w40_requests : w40.requests ≡ (request_by 1 1 (item.Set 0) (codes "bob") [] 90 63876600600 (codes "D") [] None 0 ∷ request_by 2 1 (item.Program 2) (codes "bob") [] 90 63876600600 (codes "D") [] (Some (id 1)) 1 ∷ request_by 3 1 (item.Program 0) (codes "bob") (codes "A") 90 63876600600 (codes "D") [] (Some (id 1)) 2 ∷ request_by 4 1 (item.Program 1) (codes "bob") [] 90 63876600600 (codes "D") [] (Some (id 1)) 2 ∷ request_by 5 1 (item.Program 2) (codes "bob") [] 90 63876600600 (codes "D") [] (Some (id 1)) 3 ∷ [])
unfolding the_law
w40_requests = refl

abbrev w40_readings : List Reading
w40_readings = (record { moment = (moment 63876601200); early = true } ∷ record { moment = (moment 63876603600); early = true } ∷ [])

w40_lawful : is_lawful w40 w40_readings (ended 4 outcome.Normal 12 24 ∷ event.Command 5 ∷ event.Command 4 ∷ event.Command 3 ∷ event.Tick (moment 63876603600) ∷ start 4 0 ∷ event.LetOut (id 4) ∷ event.Stage (id 1) 2 ∷ ended 2 outcome.Normal 0 12 ∷ start 2 0 ∷ event.LetOut (id 2) ∷ event.Stage (id 1) 1 ∷ event.OpenSet (id 1) ∷ event.Command 2 ∷ event.Command 1 ∷ event.Tick (moment 63876601200) ∷ []) ≡ true
unfolding the_law
w40_lawful = refl

w40_past : is_lawful_so_far w40 (ended 4 outcome.Normal 12 24 ∷ event.Command 5 ∷ event.Command 4 ∷ event.Command 3 ∷ event.Tick (moment 63876603600) ∷ start 4 0 ∷ event.LetOut (id 4) ∷ event.Stage (id 1) 2 ∷ ended 2 outcome.Normal 0 12 ∷ start 2 0 ∷ event.LetOut (id 2) ∷ event.Stage (id 1) 1 ∷ event.OpenSet (id 1) ∷ event.Command 2 ∷ event.Command 1 ∷ event.Tick (moment 63876601200) ∷ []) ≡ true
unfolding the_law
w40_past = refl

w40_text : text_of w40 (event.Tick (moment 63876601200) ∷ event.Command 1 ∷ event.Command 2 ∷ event.OpenSet (id 1) ∷ event.Stage (id 1) 1 ∷ event.LetOut (id 2) ∷ start 2 0 ∷ ended 2 outcome.Normal 0 12 ∷ event.Stage (id 1) 2 ∷ event.LetOut (id 4) ∷ start 4 0 ∷ event.Tick (moment 63876603600) ∷ event.Command 3 ∷ event.Command 4 ∷ event.Command 5 ∷ ended 4 outcome.Normal 12 24 ∷ []) ≡ (codes "tick 2025-03-03T12:20:00\ndo 1\ndo 2\nopen 1\nstage 1 1\nlet 2\nstart 2 1.1\nend 2 Normal 0 12\nstage 1 2\nlet 4\nstart 4 1.1\ntick 2025-03-03T13:00:00\ndo 3\ndo 4\ndo 5\nend 4 Normal 12 24\n--\n1 Running Paused S0\n2 Completed Normal P2\n3 Inactive No Manager P0\n4 Completed Normal P1\n5 Pending Waiting P2\n")
unfolding the_law
w40_text = refl

w40_next_0 : map (may_follow w40 (Some w40_readings) []) ((event.Resume) ∷ (event.LetOut (id 5)) ∷ (event.OpenSet (id 5)) ∷ (event.Interrupt (id 5)) ∷ (event.Command 6) ∷ (event.CloseSet (id 5) outcome.Warning) ∷ (start 5 1) ∷ (event.Stage (id 5) 1) ∷ (ended 5 outcome.Warning 0 5) ∷ (event.Ended (id 5) outcome.Terminated None) ∷ (event.Tick (moment 63876585600)) ∷ (event.Tick (moment 63876601200)) ∷ []) ≡ (false ∷ false ∷ false ∷ false ∷ false ∷ false ∷ false ∷ false ∷ false ∷ false ∷ false ∷ true ∷ [])
unfolding the_law
w40_next_0 = refl

w40_next_1 : map (may_follow w40 (Some w40_readings) (event.Stage (id 1) 2 ∷ ended 2 outcome.Normal 0 12 ∷ start 2 0 ∷ event.LetOut (id 2) ∷ event.Stage (id 1) 1 ∷ event.OpenSet (id 1) ∷ event.Command 2 ∷ event.Command 1 ∷ event.Tick (moment 63876601200) ∷ [])) ((event.Resume) ∷ (event.LetOut (id 3)) ∷ (event.OpenSet (id 3)) ∷ (event.Interrupt (id 3)) ∷ (event.Command 2) ∷ (event.CloseSet (id 3) outcome.Warning) ∷ (start 3 0) ∷ (event.Stage (id 3) 3) ∷ (ended 3 outcome.Warning 12 5) ∷ (event.Ended (id 3) outcome.Terminated None) ∷ (event.Tick (moment 63876601200)) ∷ (event.Tick (moment 63876603600)) ∷ (event.LetOut (id 4)) ∷ []) ≡ (true ∷ false ∷ false ∷ false ∷ false ∷ false ∷ false ∷ false ∷ false ∷ false ∷ false ∷ false ∷ true ∷ [])
unfolding the_law
w40_next_1 = refl

w40_next_2 : map (may_follow w40 (Some w40_readings) (event.Command 1 ∷ event.Tick (moment 63876601200) ∷ [])) ((event.Resume) ∷ (event.LetOut (id 1)) ∷ (event.OpenSet (id 1)) ∷ (event.Interrupt (id 1)) ∷ (event.Command 5) ∷ (event.CloseSet (id 1) outcome.Error) ∷ (start 1 0) ∷ (event.Stage (id 1) 3) ∷ (ended 1 outcome.Error 0 5) ∷ (event.Ended (id 1) outcome.Terminated None) ∷ (event.Tick (moment 63876601201)) ∷ (event.Tick (moment 63876603600)) ∷ (event.Command 2) ∷ []) ≡ (true ∷ false ∷ false ∷ false ∷ false ∷ false ∷ false ∷ false ∷ false ∷ false ∷ false ∷ false ∷ true ∷ [])
unfolding the_law
w40_next_2 = refl

w40_next_3 : map (may_follow w40 (Some w40_readings) (event.Tick (moment 63876601200) ∷ [])) ((event.Resume) ∷ (event.LetOut (id 4)) ∷ (event.OpenSet (id 4)) ∷ (event.Interrupt (id 4)) ∷ (event.Command 2) ∷ (event.CloseSet (id 4) outcome.Error) ∷ (start 4 0) ∷ (event.Stage (id 4) 2) ∷ (ended 4 outcome.Error 0 5) ∷ (event.Ended (id 4) outcome.Terminated None) ∷ (event.Tick (moment 63876601200)) ∷ (event.Tick (moment 63876603600)) ∷ (event.Command 1) ∷ []) ≡ (true ∷ false ∷ false ∷ false ∷ false ∷ false ∷ false ∷ false ∷ false ∷ false ∷ false ∷ false ∷ true ∷ [])
unfolding the_law
w40_next_3 = refl

w40_group_0 : map (answers w40) ((ended 4 outcome.Normal 12 24 ∷ event.Command 5 ∷ event.Command 4 ∷ event.Command 3 ∷ event.Tick (moment 63876603600) ∷ start 4 0 ∷ event.LetOut (id 4) ∷ event.Stage (id 1) 2 ∷ ended 2 outcome.Normal 0 12 ∷ start 2 0 ∷ event.LetOut (id 2) ∷ event.Stage (id 1) 1 ∷ event.OpenSet (id 1) ∷ event.Command 2 ∷ event.Command 1 ∷ event.Tick (moment 63876601200) ∷ []) ∷ [] ∷ (event.Stage (id 1) 2 ∷ ended 2 outcome.Normal 0 12 ∷ start 2 0 ∷ event.LetOut (id 2) ∷ event.Stage (id 1) 1 ∷ event.OpenSet (id 1) ∷ event.Command 2 ∷ event.Command 1 ∷ event.Tick (moment 63876601200) ∷ []) ∷ (event.Command 1 ∷ event.Tick (moment 63876601200) ∷ []) ∷ (event.Tick (moment 63876601200) ∷ []) ∷ []) ≡ ((None, (true, ((Some (phase.Running, status.Paused)) ∷ (Some (phase.Completed, status.Normal)) ∷ (Some (phase.Inactive, status.NoManager)) ∷ (Some (phase.Completed, status.Normal)) ∷ (Some (phase.Pending, status.Waiting)) ∷ []))) ∷ (None, (true, (None ∷ None ∷ None ∷ None ∷ None ∷ []))) ∷ ((Some (event.LetOut (id 4))), (false, ((Some (phase.Running, status.Paused)) ∷ (Some (phase.Completed, status.Normal)) ∷ (Some (phase.Inactive, status.OnHold)) ∷ (Some (phase.Pending, status.Standby)) ∷ (Some (phase.Pending, status.Waiting)) ∷ []))) ∷ ((Some (event.Command 2)), (false, ((Some (phase.Pending, status.Standby)) ∷ (Some (phase.Pending, status.Waiting)) ∷ (Some (phase.Inactive, status.NoManager)) ∷ (Some (phase.Pending, status.Waiting)) ∷ (Some (phase.Pending, status.Waiting)) ∷ []))) ∷ ((Some (event.Command 1)), (false, (None ∷ None ∷ None ∷ None ∷ None ∷ []))) ∷ [])
unfolding the_law
w40_group_0 = refl

w40_group_1 : map (next_reading w40_readings) ((ended 4 outcome.Normal 12 24 ∷ event.Command 5 ∷ event.Command 4 ∷ event.Command 3 ∷ event.Tick (moment 63876603600) ∷ start 4 0 ∷ event.LetOut (id 4) ∷ event.Stage (id 1) 2 ∷ ended 2 outcome.Normal 0 12 ∷ start 2 0 ∷ event.LetOut (id 2) ∷ event.Stage (id 1) 1 ∷ event.OpenSet (id 1) ∷ event.Command 2 ∷ event.Command 1 ∷ event.Tick (moment 63876601200) ∷ []) ∷ [] ∷ (event.Stage (id 1) 2 ∷ ended 2 outcome.Normal 0 12 ∷ start 2 0 ∷ event.LetOut (id 2) ∷ event.Stage (id 1) 1 ∷ event.OpenSet (id 1) ∷ event.Command 2 ∷ event.Command 1 ∷ event.Tick (moment 63876601200) ∷ []) ∷ (event.Command 1 ∷ event.Tick (moment 63876601200) ∷ []) ∷ (event.Tick (moment 63876601200) ∷ []) ∷ []) ≡ (None ∷ (Some (record { moment = (moment 63876601200); early = true })) ∷ (Some (record { moment = (moment 63876603600); early = true })) ∷ (Some (record { moment = (moment 63876603600); early = true })) ∷ (Some (record { moment = (moment 63876603600); early = true })) ∷ [])
unfolding the_law
w40_group_1 = refl

w40_group_2 : map (all_facts w40) ([] ∷ (event.Stage (id 1) 2 ∷ ended 2 outcome.Normal 0 12 ∷ start 2 0 ∷ event.LetOut (id 2) ∷ event.Stage (id 1) 1 ∷ event.OpenSet (id 1) ∷ event.Command 2 ∷ event.Command 1 ∷ event.Tick (moment 63876601200) ∷ []) ∷ (ended 4 outcome.Normal 12 24 ∷ event.Command 5 ∷ event.Command 4 ∷ event.Command 3 ∷ event.Tick (moment 63876603600) ∷ start 4 0 ∷ event.LetOut (id 4) ∷ event.Stage (id 1) 2 ∷ ended 2 outcome.Normal 0 12 ∷ start 2 0 ∷ event.LetOut (id 2) ∷ event.Stage (id 1) 1 ∷ event.OpenSet (id 1) ∷ event.Command 2 ∷ event.Command 1 ∷ event.Tick (moment 63876601200) ∷ []) ∷ []) ≡ (((false ∷ false ∷ false ∷ false ∷ false ∷ false ∷ false ∷ false ∷ false ∷ false ∷ []) ∷ (false ∷ false ∷ false ∷ false ∷ false ∷ false ∷ false ∷ true ∷ false ∷ false ∷ []) ∷ (false ∷ false ∷ false ∷ false ∷ false ∷ false ∷ false ∷ true ∷ false ∷ false ∷ []) ∷ (false ∷ false ∷ false ∷ false ∷ false ∷ false ∷ false ∷ true ∷ false ∷ false ∷ []) ∷ (false ∷ false ∷ false ∷ false ∷ false ∷ false ∷ false ∷ true ∷ false ∷ false ∷ []) ∷ []) ∷ ((true ∷ false ∷ true ∷ false ∷ false ∷ false ∷ true ∷ false ∷ false ∷ false ∷ []) ∷ (true ∷ false ∷ false ∷ false ∷ false ∷ false ∷ false ∷ false ∷ false ∷ true ∷ []) ∷ (true ∷ true ∷ false ∷ false ∷ false ∷ false ∷ false ∷ false ∷ false ∷ false ∷ []) ∷ (true ∷ false ∷ false ∷ false ∷ false ∷ false ∷ false ∷ false ∷ false ∷ false ∷ []) ∷ (true ∷ false ∷ false ∷ false ∷ false ∷ false ∷ false ∷ true ∷ false ∷ false ∷ []) ∷ []) ∷ ((true ∷ false ∷ true ∷ false ∷ false ∷ false ∷ true ∷ false ∷ false ∷ false ∷ []) ∷ (true ∷ false ∷ false ∷ false ∷ false ∷ false ∷ false ∷ false ∷ false ∷ true ∷ []) ∷ (true ∷ false ∷ false ∷ false ∷ false ∷ false ∷ false ∷ false ∷ false ∷ false ∷ []) ∷ (true ∷ false ∷ false ∷ false ∷ false ∷ false ∷ false ∷ false ∷ false ∷ true ∷ []) ∷ (true ∷ false ∷ false ∷ false ∷ false ∷ false ∷ false ∷ true ∷ false ∷ false ∷ []) ∷ []) ∷ [])
unfolding the_law
w40_group_2 = refl

w40_group_3 : map (all_values w40) ([] ∷ (event.Stage (id 1) 2 ∷ ended 2 outcome.Normal 0 12 ∷ start 2 0 ∷ event.LetOut (id 2) ∷ event.Stage (id 1) 1 ∷ event.OpenSet (id 1) ∷ event.Command 2 ∷ event.Command 1 ∷ event.Tick (moment 63876601200) ∷ []) ∷ (ended 4 outcome.Normal 12 24 ∷ event.Command 5 ∷ event.Command 4 ∷ event.Command 3 ∷ event.Tick (moment 63876603600) ∷ start 4 0 ∷ event.LetOut (id 4) ∷ event.Stage (id 1) 2 ∷ ended 2 outcome.Normal 0 12 ∷ start 2 0 ∷ event.LetOut (id 2) ∷ event.Stage (id 1) 1 ∷ event.OpenSet (id 1) ∷ event.Command 2 ∷ event.Command 1 ∷ event.Tick (moment 63876601200) ∷ []) ∷ []) ≡ ((((None, None), (None, 0)) ∷ ((None, None), (None, 0)) ∷ ((None, None), (None, 0)) ∷ ((None, None), (None, 0)) ∷ ((None, None), (None, 0)) ∷ []) ∷ (((None, (Some 2)), (None, 3)) ∷ (((Some outcome.Normal), None), (None, 0)) ∷ ((None, None), (None, 0)) ∷ ((None, None), (None, 0)) ∷ ((None, None), (None, 0)) ∷ []) ∷ (((None, (Some 2)), (None, 3)) ∷ (((Some outcome.Normal), None), (None, 0)) ∷ ((None, None), (None, 0)) ∷ (((Some outcome.Normal), None), (None, 0)) ∷ ((None, None), (None, 0)) ∷ []) ∷ [])
unfolding the_law
w40_group_3 = refl

w40_group_4 : map (starts w40) ([] ∷ (event.Stage (id 1) 2 ∷ ended 2 outcome.Normal 0 12 ∷ start 2 0 ∷ event.LetOut (id 2) ∷ event.Stage (id 1) 1 ∷ event.OpenSet (id 1) ∷ event.Command 2 ∷ event.Command 1 ∷ event.Tick (moment 63876601200) ∷ []) ∷ (ended 4 outcome.Normal 12 24 ∷ event.Command 5 ∷ event.Command 4 ∷ event.Command 3 ∷ event.Tick (moment 63876603600) ∷ start 4 0 ∷ event.LetOut (id 4) ∷ event.Stage (id 1) 2 ∷ ended 2 outcome.Normal 0 12 ∷ start 2 0 ∷ event.LetOut (id 2) ∷ event.Stage (id 1) 1 ∷ event.OpenSet (id 1) ∷ event.Command 2 ∷ event.Command 1 ∷ event.Tick (moment 63876601200) ∷ []) ∷ []) ≡ (((false ∷ []) ∷ (false ∷ []) ∷ (false ∷ []) ∷ (false ∷ []) ∷ (false ∷ []) ∷ []) ∷ ((false ∷ []) ∷ (false ∷ []) ∷ (false ∷ []) ∷ (false ∷ []) ∷ (false ∷ []) ∷ []) ∷ ((false ∷ []) ∷ (false ∷ []) ∷ (false ∷ []) ∷ (false ∷ []) ∷ (false ∷ []) ∷ []) ∷ [])
unfolding the_law
w40_group_4 = refl

w40_group_5 : map (steps w40) ([] ∷ (event.Stage (id 1) 2 ∷ ended 2 outcome.Normal 0 12 ∷ start 2 0 ∷ event.LetOut (id 2) ∷ event.Stage (id 1) 1 ∷ event.OpenSet (id 1) ∷ event.Command 2 ∷ event.Command 1 ∷ event.Tick (moment 63876601200) ∷ []) ∷ (ended 4 outcome.Normal 12 24 ∷ event.Command 5 ∷ event.Command 4 ∷ event.Command 3 ∷ event.Tick (moment 63876603600) ∷ start 4 0 ∷ event.LetOut (id 4) ∷ event.Stage (id 1) 2 ∷ ended 2 outcome.Normal 0 12 ∷ start 2 0 ∷ event.LetOut (id 2) ∷ event.Stage (id 1) 1 ∷ event.OpenSet (id 1) ∷ event.Command 2 ∷ event.Command 1 ∷ event.Tick (moment 63876601200) ∷ []) ∷ []) ≡ (((Some (event.Stage (id 1) 1)) ∷ []) ∷ (None ∷ []) ∷ (None ∷ []) ∷ [])
unfolding the_law
w40_group_5 = refl

w40_group_6 : map (overall w40) ([] ∷ (event.Stage (id 1) 2 ∷ ended 2 outcome.Normal 0 12 ∷ start 2 0 ∷ event.LetOut (id 2) ∷ event.Stage (id 1) 1 ∷ event.OpenSet (id 1) ∷ event.Command 2 ∷ event.Command 1 ∷ event.Tick (moment 63876601200) ∷ []) ∷ (ended 4 outcome.Normal 12 24 ∷ event.Command 5 ∷ event.Command 4 ∷ event.Command 3 ∷ event.Tick (moment 63876603600) ∷ start 4 0 ∷ event.LetOut (id 4) ∷ event.Stage (id 1) 2 ∷ ended 2 outcome.Normal 0 12 ∷ start 2 0 ∷ event.LetOut (id 2) ∷ event.Stage (id 1) 1 ∷ event.OpenSet (id 1) ∷ event.Command 2 ∷ event.Command 1 ∷ event.Tick (moment 63876601200) ∷ []) ∷ []) ≡ (((true, None), ((Some 0), (false ∷ false ∷ false ∷ false ∷ false ∷ []))) ∷ ((false, (Some (moment 63876601200))), ((Some 12), (true ∷ true ∷ false ∷ false ∷ false ∷ []))) ∷ ((false, (Some (moment 63876603600))), ((Some 36), (true ∷ true ∷ true ∷ true ∷ true ∷ []))) ∷ [])
unfolding the_law
w40_group_6 = refl

w40_group_7 : map (is_lawful w40 w40_readings) ((event.Command 3 ∷ event.Tick (moment 63876603600) ∷ start 4 0 ∷ event.LetOut (id 4) ∷ event.Stage (id 1) 2 ∷ ended 2 outcome.Normal 0 12 ∷ start 2 0 ∷ event.LetOut (id 2) ∷ event.Stage (id 1) 1 ∷ event.OpenSet (id 1) ∷ event.Command 2 ∷ event.Command 1 ∷ event.Tick (moment 63876601200) ∷ []) ∷ (event.Command 4 ∷ event.Command 3 ∷ event.Tick (moment 63876603600) ∷ start 4 0 ∷ event.LetOut (id 4) ∷ event.Stage (id 1) 2 ∷ ended 2 outcome.Normal 0 12 ∷ start 2 0 ∷ event.LetOut (id 2) ∷ event.Stage (id 1) 1 ∷ event.OpenSet (id 1) ∷ event.Command 2 ∷ event.Command 1 ∷ event.Tick (moment 63876601200) ∷ []) ∷ (event.Command 4 ∷ event.Command 3 ∷ event.Tick (moment 63876603600) ∷ start 4 0 ∷ event.LetOut (id 4) ∷ event.Stage (id 1) 2 ∷ ended 2 outcome.Normal 0 12 ∷ start 2 0 ∷ event.LetOut (id 2) ∷ event.Stage (id 1) 1 ∷ event.OpenSet (id 1) ∷ event.Command 2 ∷ event.Command 1 ∷ event.Tick (moment 63876601200) ∷ []) ∷ (start 4 0 ∷ event.LetOut (id 4) ∷ event.Stage (id 1) 2 ∷ ended 2 outcome.Normal 0 12 ∷ start 2 0 ∷ event.LetOut (id 2) ∷ event.Stage (id 1) 1 ∷ event.Resume ∷ event.OpenSet (id 1) ∷ event.Command 2 ∷ event.Command 1 ∷ event.Tick (moment 63876601200) ∷ []) ∷ []) ≡ (true ∷ true ∷ true ∷ true ∷ [])
unfolding the_law
w40_group_7 = refl

w40_group_8 : map (is_lawful w40 w40_readings) ((event.Command 5 ∷ event.Command 3 ∷ event.Tick (moment 63876603600) ∷ start 4 0 ∷ event.LetOut (id 4) ∷ event.Stage (id 1) 2 ∷ ended 2 outcome.Normal 0 12 ∷ start 2 0 ∷ event.LetOut (id 2) ∷ event.Stage (id 1) 1 ∷ event.OpenSet (id 1) ∷ event.Command 2 ∷ event.Command 1 ∷ event.Tick (moment 63876601200) ∷ []) ∷ (event.Command 4 ∷ event.Command 4 ∷ event.Command 3 ∷ event.Tick (moment 63876603600) ∷ start 4 0 ∷ event.LetOut (id 4) ∷ event.Stage (id 1) 2 ∷ ended 2 outcome.Normal 0 12 ∷ start 2 0 ∷ event.LetOut (id 2) ∷ event.Stage (id 1) 1 ∷ event.OpenSet (id 1) ∷ event.Command 2 ∷ event.Command 1 ∷ event.Tick (moment 63876601200) ∷ []) ∷ (event.Command 4 ∷ event.Command 4 ∷ event.Command 3 ∷ event.Tick (moment 63876603600) ∷ start 4 0 ∷ event.LetOut (id 4) ∷ event.Stage (id 1) 2 ∷ ended 2 outcome.Normal 0 12 ∷ start 2 0 ∷ event.LetOut (id 2) ∷ event.Stage (id 1) 1 ∷ event.OpenSet (id 1) ∷ event.Command 2 ∷ event.Command 1 ∷ event.Tick (moment 63876601200) ∷ []) ∷ (event.Tick (moment 63876603600) ∷ start 4 0 ∷ event.LetOut (id 4) ∷ event.Stage (id 1) 2 ∷ ended 2 outcome.Normal 0 12 ∷ start 2 0 ∷ event.LetOut (id 2) ∷ event.Stage (id 1) 1 ∷ event.Resume ∷ event.OpenSet (id 1) ∷ event.Command 2 ∷ event.Command 1 ∷ event.Tick (moment 63876601200) ∷ []) ∷ []) ≡ (false ∷ false ∷ false ∷ false ∷ [])
unfolding the_law
w40_group_8 = refl

w40_group_9 : map (is_lawful_so_far w40) ((start 4 0 ∷ event.LetOut (id 4) ∷ event.Stage (id 1) 2 ∷ ended 2 outcome.Normal 0 12 ∷ start 2 0 ∷ event.LetOut (id 2) ∷ event.Stage (id 1) 1 ∷ event.Resume ∷ event.OpenSet (id 1) ∷ event.Command 2 ∷ event.Command 1 ∷ event.Tick (moment 63876601200) ∷ []) ∷ (event.Tick (moment 63876603600) ∷ start 4 0 ∷ event.LetOut (id 4) ∷ event.Stage (id 1) 2 ∷ ended 2 outcome.Normal 0 12 ∷ start 2 0 ∷ event.LetOut (id 2) ∷ event.Stage (id 1) 1 ∷ event.Resume ∷ event.OpenSet (id 1) ∷ event.Command 2 ∷ event.Command 1 ∷ event.Tick (moment 63876601200) ∷ []) ∷ []) ≡ (true ∷ true ∷ [])
unfolding the_law
w40_group_9 = refl

abbrev w23_setup : Setup
unfolding texts
w23_setup = record {
  tables = ((codes "t") ∷ []);
  programs = (record { name = (codes "P0"); request_type = (codes "A"); enabled = true; run_alone = false; restart = false; job = record { table = (codes "t"); filters = []; group = (Some (codes "k")); sum = (Some (codes "v")); warn_over = (Some 0); error_over = (Some 1); few = lit≤ tt }; post = None; short = refl; sums = refl } ∷ record { name = (codes "P1"); request_type = (codes "A"); enabled = true; run_alone = false; restart = true; job = record { table = (codes "t"); filters = []; group = None; sum = None; warn_over = (Some 0); error_over = None; few = lit≤ tt }; post = None; short = refl; sums = refl } ∷ record { name = (codes "P2"); request_type = (codes "A"); enabled = true; run_alone = false; restart = false; job = record { table = (codes "t"); filters = []; group = None; sum = (Some (codes "v")); warn_over = (Some 0); error_over = None; few = lit≤ tt }; post = None; short = refl; sums = refl } ∷ []);
  entries = (record { owner = (item.Program 2); other = (item.Program 1); scope = scope.Program; reach = reach.Global } ∷ record { owner = (item.Program 1); other = (item.Program 0); scope = scope.Program; reach = reach.Domain } ∷ []);
  managers = (record { name = (codes "M0"); include = []; exclude = []; shifts = (record { date = None; days = 0; times = None; places = 3; valid = refl } ∷ []); few_rules = lit≤ tt; few_shifts = lit≤ tt } ∷ []);
  sets = (record { name = (codes "S0"); stages = (record { name = (codes "s0"); critical = true; links = ((Some 1) ∷ (Some 1) ∷ (Some 1) ∷ []); members = (2 ∷ []); near = refl; some = refl } ∷ record { name = (codes "s1"); critical = false; links = (None ∷ None ∷ None ∷ []); members = (0 ∷ []); near = refl; some = refl } ∷ []); some = refl; forward = refl } ∷ []);
  few_tables = lit≤ tt;
  few_programs = lit≤ tt;
  few_entries = lit≤ tt;
  few_managers = lit≤ tt;
  few_sets = lit≤ tt;
  few_places = lit≤ tt;
  named = refl;
  references = refl;
}

abbrev w23_commands : List Order
w23_commands = (record { at = (moment 63876600000); act = act.Submit (item.Program 0) (codes "ann") 90 (moment 63876600000) (codes "D") [] } ∷ record { at = (moment 63876600600); act = act.Submit (item.Program 2) (codes "ann") 50 (moment 63876600600) (codes "Standard") [] } ∷ record { at = (moment 63876602400); act = act.Submit (item.Set 0) (codes "bob") 90 (moment 63876602400) (codes "Standard") [] } ∷ record { at = (moment 63876603000); act = act.Terminate (id 1) } ∷ record { at = (moment 63876603000); act = act.Submit (item.Set 0) (codes "bob") 90 (moment 63876603000) (codes "Standard") [] } ∷ [])

abbrev w23 : Plan
unfolding texts
w23 = record {
  setup = w23_setup;
  script = record { commands = w23_commands; few = lit≤ tt };
  tables = (record { columns = ((codes "k") ∷ (codes "v") ∷ []); rows = (((codes "a") ∷ (codes "-2") ∷ []) ∷ ((codes "a") ∷ (codes "1") ∷ []) ∷ ((codes "a") ∷ (codes "3") ∷ []) ∷ []); distinct = refl; even = refl; few = lit≤ tt } ∷ []);
  requests = expansion w23_setup w23_commands;
  stamps = map (λ (order : Order). 0) w23_commands;
  commands = refl;
  reports = refl;
  expanded = refl;
  stamped = refl;
  few = lit≤ tt;
}

w23_requests : w23.requests ≡ (request_by 1 1 (item.Program 0) (codes "ann") (codes "A") 90 63876600000 (codes "D") [] None 0 ∷ request_by 2 2 (item.Program 2) (codes "ann") (codes "A") 50 63876600600 (codes "Standard") [] None 0 ∷ request_by 3 3 (item.Set 0) (codes "bob") [] 90 63876602400 (codes "Standard") [] None 0 ∷ request_by 4 3 (item.Program 2) (codes "bob") (codes "A") 90 63876602400 (codes "Standard") [] (Some (id 3)) 1 ∷ request_by 5 3 (item.Program 0) (codes "bob") (codes "A") 90 63876602400 (codes "Standard") [] (Some (id 3)) 2 ∷ request_by 6 5 (item.Set 0) (codes "bob") [] 90 63876603000 (codes "Standard") [] None 0 ∷ request_by 7 5 (item.Program 2) (codes "bob") (codes "A") 90 63876603000 (codes "Standard") [] (Some (id 6)) 1 ∷ request_by 8 5 (item.Program 0) (codes "bob") (codes "A") 90 63876603000 (codes "Standard") [] (Some (id 6)) 2 ∷ [])
unfolding the_law
w23_requests = refl

abbrev w23_readings : List Reading
w23_readings = (record { moment = (moment 63876600000); early = true } ∷ record { moment = (moment 63876602400); early = true } ∷ record { moment = (moment 63876603000); early = true } ∷ record { moment = (moment 63876603000); early = true } ∷ record { moment = (moment 63876603600); early = true } ∷ record { moment = (moment 63876604200); early = true } ∷ [])

w23_lawful : is_lawful w23 w23_readings (event.Ended (id 1) outcome.Terminated None ∷ start 7 1 ∷ ended 2 outcome.Warning 0 39 ∷ start 4 2 ∷ event.Tick (moment 63876604200) ∷ event.Tick (moment 63876603600) ∷ start 2 1 ∷ event.Tick (moment 63876603000) ∷ event.LetOut (id 7) ∷ event.Stage (id 6) 1 ∷ event.OpenSet (id 6) ∷ event.Command 5 ∷ event.Command 4 ∷ event.Tick (moment 63876603000) ∷ event.LetOut (id 4) ∷ event.Stage (id 3) 1 ∷ event.OpenSet (id 3) ∷ event.LetOut (id 2) ∷ event.Command 3 ∷ event.Command 2 ∷ event.Tick (moment 63876602400) ∷ start 1 0 ∷ event.LetOut (id 1) ∷ event.Command 1 ∷ event.Tick (moment 63876600000) ∷ []) ≡ true
unfolding the_law
w23_lawful = refl

w23_past : is_lawful_so_far w23 (event.Ended (id 1) outcome.Terminated None ∷ start 7 1 ∷ ended 2 outcome.Warning 0 39 ∷ start 4 2 ∷ event.Tick (moment 63876604200) ∷ event.Tick (moment 63876603600) ∷ start 2 1 ∷ event.Tick (moment 63876603000) ∷ event.LetOut (id 7) ∷ event.Stage (id 6) 1 ∷ event.OpenSet (id 6) ∷ event.Command 5 ∷ event.Command 4 ∷ event.Tick (moment 63876603000) ∷ event.LetOut (id 4) ∷ event.Stage (id 3) 1 ∷ event.OpenSet (id 3) ∷ event.LetOut (id 2) ∷ event.Command 3 ∷ event.Command 2 ∷ event.Tick (moment 63876602400) ∷ start 1 0 ∷ event.LetOut (id 1) ∷ event.Command 1 ∷ event.Tick (moment 63876600000) ∷ []) ≡ true
unfolding the_law
w23_past = refl

w23_text : text_of w23 (event.Tick (moment 63876600000) ∷ event.Command 1 ∷ event.LetOut (id 1) ∷ start 1 0 ∷ event.Tick (moment 63876602400) ∷ event.Command 2 ∷ event.Command 3 ∷ event.LetOut (id 2) ∷ event.OpenSet (id 3) ∷ event.Stage (id 3) 1 ∷ event.LetOut (id 4) ∷ event.Tick (moment 63876603000) ∷ event.Command 4 ∷ event.Command 5 ∷ event.OpenSet (id 6) ∷ event.Stage (id 6) 1 ∷ event.LetOut (id 7) ∷ event.Tick (moment 63876603000) ∷ start 2 1 ∷ event.Tick (moment 63876603600) ∷ event.Tick (moment 63876604200) ∷ start 4 2 ∷ ended 2 outcome.Warning 0 39 ∷ start 7 1 ∷ event.Ended (id 1) outcome.Terminated None ∷ []) ≡ (codes "tick 2025-03-03T12:00:00\ndo 1\nlet 1\nstart 1 1.1\ntick 2025-03-03T12:40:00\ndo 2\ndo 3\nlet 2\nopen 3\nstage 3 1\nlet 4\ntick 2025-03-03T12:50:00\ndo 4\ndo 5\nopen 6\nstage 6 1\nlet 7\ntick 2025-03-03T12:50:00\nstart 2 1.2\ntick 2025-03-03T13:00:00\ntick 2025-03-03T13:10:00\nstart 4 1.3\nend 2 Warning 0 39\nstart 7 1.2\nend 1 Terminated\n--\n1 Completed Terminated P0\n2 Completed Warning P2\n3 Running Paused S0\n4 Running Normal P2\n5 Pending Waiting P0\n6 Running Paused S0\n7 Running Normal P2\n8 Pending Waiting P0\n")
unfolding the_law
w23_text = refl

w23_next_0 : map (may_follow w23 (Some w23_readings) (event.Command 2 ∷ event.Tick (moment 63876602400) ∷ start 1 0 ∷ event.LetOut (id 1) ∷ event.Command 1 ∷ event.Tick (moment 63876600000) ∷ [])) ((event.Resume) ∷ (event.LetOut (id 2)) ∷ (event.OpenSet (id 2)) ∷ (event.Interrupt (id 2)) ∷ (event.Command 1) ∷ (event.CloseSet (id 2) outcome.Warning) ∷ (start 2 0) ∷ (event.Stage (id 2) 2) ∷ (ended 2 outcome.Warning 0 5) ∷ (event.Ended (id 2) outcome.Terminated None) ∷ (event.Tick (moment 63876602399)) ∷ (ended 1 outcome.Warning 0 20) ∷ (event.Ended (id 1) outcome.Terminated None) ∷ (ended 1 outcome.Warning 0 0) ∷ (event.Ended (id 1) outcome.Cancelled None) ∷ (ended 1 outcome.Warning 1 5) ∷ (start 1 0) ∷ (event.Tick (moment 63876603000)) ∷ (event.Command 3) ∷ []) ≡ (true ∷ false ∷ false ∷ false ∷ false ∷ false ∷ false ∷ false ∷ false ∷ false ∷ false ∷ false ∷ false ∷ false ∷ false ∷ false ∷ false ∷ false ∷ true ∷ [])
unfolding the_law
w23_next_0 = refl

w23_next_1 : map (may_follow w23 (Some w23_readings) (event.OpenSet (id 6) ∷ event.Command 5 ∷ event.Command 4 ∷ event.Tick (moment 63876603000) ∷ event.LetOut (id 4) ∷ event.Stage (id 3) 1 ∷ event.OpenSet (id 3) ∷ event.LetOut (id 2) ∷ event.Command 3 ∷ event.Command 2 ∷ event.Tick (moment 63876602400) ∷ start 1 0 ∷ event.LetOut (id 1) ∷ event.Command 1 ∷ event.Tick (moment 63876600000) ∷ [])) ((event.Resume) ∷ (event.LetOut (id 8)) ∷ (event.OpenSet (id 8)) ∷ (event.Interrupt (id 8)) ∷ (event.Command 0) ∷ (event.CloseSet (id 8) outcome.Error) ∷ (start 8 3) ∷ (event.Stage (id 8) 3) ∷ (ended 8 outcome.Error 0 5) ∷ (event.Ended (id 8) outcome.Terminated None) ∷ (event.Tick (moment 63876603001)) ∷ (ended 1 outcome.Error 0 47) ∷ (event.Ended (id 1) outcome.Terminated None) ∷ (ended 1 outcome.Error 0 0) ∷ (event.Ended (id 1) outcome.Cancelled None) ∷ (ended 1 outcome.Error 1 5) ∷ (start 1 0) ∷ (start 2 1) ∷ (start 2 1) ∷ (event.Tick (moment 63876603000)) ∷ (event.Stage (id 6) 1) ∷ []) ≡ (true ∷ false ∷ false ∷ false ∷ false ∷ false ∷ false ∷ false ∷ false ∷ false ∷ false ∷ false ∷ false ∷ false ∷ false ∷ false ∷ false ∷ false ∷ false ∷ false ∷ true ∷ [])
unfolding the_law
w23_next_1 = refl

w23_next_2 : map (may_follow w23 (Some w23_readings) (event.Stage (id 3) 1 ∷ event.OpenSet (id 3) ∷ event.LetOut (id 2) ∷ event.Command 3 ∷ event.Command 2 ∷ event.Tick (moment 63876602400) ∷ start 1 0 ∷ event.LetOut (id 1) ∷ event.Command 1 ∷ event.Tick (moment 63876600000) ∷ [])) ((event.Resume) ∷ (event.LetOut (id 2)) ∷ (event.OpenSet (id 2)) ∷ (event.Interrupt (id 2)) ∷ (event.Command 2) ∷ (event.CloseSet (id 2) outcome.Normal) ∷ (start 2 1) ∷ (event.Stage (id 2) 2) ∷ (ended 2 outcome.Normal 0 5) ∷ (event.Ended (id 2) outcome.Terminated None) ∷ (event.Tick (moment 63876602401)) ∷ (ended 1 outcome.Normal 0 27) ∷ (event.Ended (id 1) outcome.Terminated None) ∷ (ended 1 outcome.Normal 0 0) ∷ (event.Ended (id 1) outcome.Cancelled None) ∷ (ended 1 outcome.Normal 1 5) ∷ (start 1 0) ∷ (start 2 1) ∷ (start 2 1) ∷ (event.Tick (moment 63876603000)) ∷ (event.LetOut (id 4)) ∷ []) ≡ (true ∷ false ∷ false ∷ false ∷ false ∷ false ∷ false ∷ false ∷ false ∷ false ∷ false ∷ false ∷ false ∷ false ∷ false ∷ false ∷ false ∷ false ∷ false ∷ false ∷ true ∷ [])
unfolding the_law
w23_next_2 = refl

w23_next_3 : map (may_follow w23 (Some w23_readings) (event.Command 4 ∷ event.Tick (moment 63876603000) ∷ event.LetOut (id 4) ∷ event.Stage (id 3) 1 ∷ event.OpenSet (id 3) ∷ event.LetOut (id 2) ∷ event.Command 3 ∷ event.Command 2 ∷ event.Tick (moment 63876602400) ∷ start 1 0 ∷ event.LetOut (id 1) ∷ event.Command 1 ∷ event.Tick (moment 63876600000) ∷ [])) ((event.Resume) ∷ (event.LetOut (id 2)) ∷ (event.OpenSet (id 2)) ∷ (event.Interrupt (id 2)) ∷ (event.Command 5) ∷ (event.CloseSet (id 2) outcome.Warning) ∷ (start 2 0) ∷ (event.Stage (id 2) 2) ∷ (ended 2 outcome.Warning 0 5) ∷ (event.Ended (id 2) outcome.Terminated None) ∷ (event.Tick (moment 63876603600)) ∷ (ended 1 outcome.Warning 0 50) ∷ (event.Ended (id 1) outcome.Terminated None) ∷ (ended 1 outcome.Warning 0 0) ∷ (event.Ended (id 1) outcome.Cancelled None) ∷ (ended 1 outcome.Warning 1 5) ∷ (start 1 0) ∷ (start 2 1) ∷ (start 2 1) ∷ (event.Tick (moment 63876603000)) ∷ (event.Command 5) ∷ []) ≡ (true ∷ false ∷ false ∷ false ∷ true ∷ false ∷ false ∷ false ∷ false ∷ false ∷ false ∷ false ∷ false ∷ false ∷ false ∷ false ∷ false ∷ false ∷ false ∷ false ∷ true ∷ [])
unfolding the_law
w23_next_3 = refl

w23_group_0 : map (answers w23) ((event.Ended (id 1) outcome.Terminated None ∷ start 7 1 ∷ ended 2 outcome.Warning 0 39 ∷ start 4 2 ∷ event.Tick (moment 63876604200) ∷ event.Tick (moment 63876603600) ∷ start 2 1 ∷ event.Tick (moment 63876603000) ∷ event.LetOut (id 7) ∷ event.Stage (id 6) 1 ∷ event.OpenSet (id 6) ∷ event.Command 5 ∷ event.Command 4 ∷ event.Tick (moment 63876603000) ∷ event.LetOut (id 4) ∷ event.Stage (id 3) 1 ∷ event.OpenSet (id 3) ∷ event.LetOut (id 2) ∷ event.Command 3 ∷ event.Command 2 ∷ event.Tick (moment 63876602400) ∷ start 1 0 ∷ event.LetOut (id 1) ∷ event.Command 1 ∷ event.Tick (moment 63876600000) ∷ []) ∷ (event.Command 2 ∷ event.Tick (moment 63876602400) ∷ start 1 0 ∷ event.LetOut (id 1) ∷ event.Command 1 ∷ event.Tick (moment 63876600000) ∷ []) ∷ (event.OpenSet (id 6) ∷ event.Command 5 ∷ event.Command 4 ∷ event.Tick (moment 63876603000) ∷ event.LetOut (id 4) ∷ event.Stage (id 3) 1 ∷ event.OpenSet (id 3) ∷ event.LetOut (id 2) ∷ event.Command 3 ∷ event.Command 2 ∷ event.Tick (moment 63876602400) ∷ start 1 0 ∷ event.LetOut (id 1) ∷ event.Command 1 ∷ event.Tick (moment 63876600000) ∷ []) ∷ (event.Stage (id 3) 1 ∷ event.OpenSet (id 3) ∷ event.LetOut (id 2) ∷ event.Command 3 ∷ event.Command 2 ∷ event.Tick (moment 63876602400) ∷ start 1 0 ∷ event.LetOut (id 1) ∷ event.Command 1 ∷ event.Tick (moment 63876600000) ∷ []) ∷ (event.Command 4 ∷ event.Tick (moment 63876603000) ∷ event.LetOut (id 4) ∷ event.Stage (id 3) 1 ∷ event.OpenSet (id 3) ∷ event.LetOut (id 2) ∷ event.Command 3 ∷ event.Command 2 ∷ event.Tick (moment 63876602400) ∷ start 1 0 ∷ event.LetOut (id 1) ∷ event.Command 1 ∷ event.Tick (moment 63876600000) ∷ []) ∷ []) ≡ ((None, (false, ((Some (phase.Completed, status.Terminated)) ∷ (Some (phase.Completed, status.Warning)) ∷ (Some (phase.Running, status.Paused)) ∷ (Some (phase.Running, status.Normal)) ∷ (Some (phase.Pending, status.Waiting)) ∷ (Some (phase.Running, status.Paused)) ∷ (Some (phase.Running, status.Normal)) ∷ (Some (phase.Pending, status.Waiting)) ∷ []))) ∷ ((Some (event.Command 3)), (false, ((Some (phase.Running, status.Normal)) ∷ (Some (phase.Pending, status.Standby)) ∷ None ∷ None ∷ None ∷ None ∷ None ∷ None ∷ []))) ∷ ((Some (event.Stage (id 6) 1)), (false, ((Some (phase.Running, status.Terminating)) ∷ (Some (phase.Pending, status.Normal)) ∷ (Some (phase.Running, status.Paused)) ∷ (Some (phase.Pending, status.Normal)) ∷ (Some (phase.Pending, status.Waiting)) ∷ (Some (phase.Running, status.Normal)) ∷ (Some (phase.Pending, status.Waiting)) ∷ (Some (phase.Pending, status.Waiting)) ∷ []))) ∷ ((Some (event.LetOut (id 4))), (false, ((Some (phase.Running, status.Normal)) ∷ (Some (phase.Pending, status.Normal)) ∷ (Some (phase.Running, status.Paused)) ∷ (Some (phase.Pending, status.Standby)) ∷ (Some (phase.Pending, status.Waiting)) ∷ None ∷ None ∷ None ∷ []))) ∷ ((Some (event.Command 5)), (false, ((Some (phase.Running, status.Terminating)) ∷ (Some (phase.Pending, status.Normal)) ∷ (Some (phase.Running, status.Paused)) ∷ (Some (phase.Pending, status.Normal)) ∷ (Some (phase.Pending, status.Waiting)) ∷ None ∷ None ∷ None ∷ []))) ∷ [])
unfolding the_law
w23_group_0 = refl

w23_group_1 : map (next_reading w23_readings) ((event.Ended (id 1) outcome.Terminated None ∷ start 7 1 ∷ ended 2 outcome.Warning 0 39 ∷ start 4 2 ∷ event.Tick (moment 63876604200) ∷ event.Tick (moment 63876603600) ∷ start 2 1 ∷ event.Tick (moment 63876603000) ∷ event.LetOut (id 7) ∷ event.Stage (id 6) 1 ∷ event.OpenSet (id 6) ∷ event.Command 5 ∷ event.Command 4 ∷ event.Tick (moment 63876603000) ∷ event.LetOut (id 4) ∷ event.Stage (id 3) 1 ∷ event.OpenSet (id 3) ∷ event.LetOut (id 2) ∷ event.Command 3 ∷ event.Command 2 ∷ event.Tick (moment 63876602400) ∷ start 1 0 ∷ event.LetOut (id 1) ∷ event.Command 1 ∷ event.Tick (moment 63876600000) ∷ []) ∷ (event.Command 2 ∷ event.Tick (moment 63876602400) ∷ start 1 0 ∷ event.LetOut (id 1) ∷ event.Command 1 ∷ event.Tick (moment 63876600000) ∷ []) ∷ (event.OpenSet (id 6) ∷ event.Command 5 ∷ event.Command 4 ∷ event.Tick (moment 63876603000) ∷ event.LetOut (id 4) ∷ event.Stage (id 3) 1 ∷ event.OpenSet (id 3) ∷ event.LetOut (id 2) ∷ event.Command 3 ∷ event.Command 2 ∷ event.Tick (moment 63876602400) ∷ start 1 0 ∷ event.LetOut (id 1) ∷ event.Command 1 ∷ event.Tick (moment 63876600000) ∷ []) ∷ (event.Stage (id 3) 1 ∷ event.OpenSet (id 3) ∷ event.LetOut (id 2) ∷ event.Command 3 ∷ event.Command 2 ∷ event.Tick (moment 63876602400) ∷ start 1 0 ∷ event.LetOut (id 1) ∷ event.Command 1 ∷ event.Tick (moment 63876600000) ∷ []) ∷ (event.Command 4 ∷ event.Tick (moment 63876603000) ∷ event.LetOut (id 4) ∷ event.Stage (id 3) 1 ∷ event.OpenSet (id 3) ∷ event.LetOut (id 2) ∷ event.Command 3 ∷ event.Command 2 ∷ event.Tick (moment 63876602400) ∷ start 1 0 ∷ event.LetOut (id 1) ∷ event.Command 1 ∷ event.Tick (moment 63876600000) ∷ []) ∷ []) ≡ (None ∷ (Some (record { moment = (moment 63876603000); early = true })) ∷ (Some (record { moment = (moment 63876603000); early = true })) ∷ (Some (record { moment = (moment 63876603000); early = true })) ∷ (Some (record { moment = (moment 63876603000); early = true })) ∷ [])
unfolding the_law
w23_group_1 = refl

w23_group_2 : map (all_facts w23) ((event.Command 2 ∷ event.Tick (moment 63876602400) ∷ start 1 0 ∷ event.LetOut (id 1) ∷ event.Command 1 ∷ event.Tick (moment 63876600000) ∷ []) ∷ (event.OpenSet (id 6) ∷ event.Command 5 ∷ event.Command 4 ∷ event.Tick (moment 63876603000) ∷ event.LetOut (id 4) ∷ event.Stage (id 3) 1 ∷ event.OpenSet (id 3) ∷ event.LetOut (id 2) ∷ event.Command 3 ∷ event.Command 2 ∷ event.Tick (moment 63876602400) ∷ start 1 0 ∷ event.LetOut (id 1) ∷ event.Command 1 ∷ event.Tick (moment 63876600000) ∷ []) ∷ (event.Ended (id 1) outcome.Terminated None ∷ start 7 1 ∷ ended 2 outcome.Warning 0 39 ∷ start 4 2 ∷ event.Tick (moment 63876604200) ∷ event.Tick (moment 63876603600) ∷ start 2 1 ∷ event.Tick (moment 63876603000) ∷ event.LetOut (id 7) ∷ event.Stage (id 6) 1 ∷ event.OpenSet (id 6) ∷ event.Command 5 ∷ event.Command 4 ∷ event.Tick (moment 63876603000) ∷ event.LetOut (id 4) ∷ event.Stage (id 3) 1 ∷ event.OpenSet (id 3) ∷ event.LetOut (id 2) ∷ event.Command 3 ∷ event.Command 2 ∷ event.Tick (moment 63876602400) ∷ start 1 0 ∷ event.LetOut (id 1) ∷ event.Command 1 ∷ event.Tick (moment 63876600000) ∷ []) ∷ []) ≡ (((true ∷ false ∷ false ∷ true ∷ true ∷ false ∷ true ∷ false ∷ false ∷ true ∷ []) ∷ (true ∷ false ∷ false ∷ false ∷ false ∷ false ∷ false ∷ false ∷ false ∷ false ∷ []) ∷ (false ∷ false ∷ false ∷ false ∷ false ∷ false ∷ false ∷ false ∷ false ∷ false ∷ []) ∷ (false ∷ false ∷ false ∷ false ∷ false ∷ false ∷ false ∷ true ∷ false ∷ false ∷ []) ∷ (false ∷ false ∷ false ∷ false ∷ false ∷ false ∷ false ∷ true ∷ false ∷ false ∷ []) ∷ (false ∷ false ∷ false ∷ false ∷ false ∷ false ∷ false ∷ false ∷ false ∷ false ∷ []) ∷ (false ∷ false ∷ false ∷ false ∷ false ∷ false ∷ false ∷ true ∷ false ∷ false ∷ []) ∷ (false ∷ false ∷ false ∷ false ∷ false ∷ false ∷ false ∷ true ∷ false ∷ false ∷ []) ∷ []) ∷ ((true ∷ false ∷ false ∷ true ∷ true ∷ true ∷ true ∷ false ∷ false ∷ true ∷ []) ∷ (true ∷ false ∷ false ∷ true ∷ false ∷ false ∷ true ∷ false ∷ false ∷ false ∷ []) ∷ (true ∷ false ∷ true ∷ false ∷ false ∷ false ∷ true ∷ false ∷ false ∷ false ∷ []) ∷ (true ∷ false ∷ false ∷ true ∷ false ∷ false ∷ true ∷ false ∷ false ∷ false ∷ []) ∷ (true ∷ false ∷ false ∷ false ∷ false ∷ false ∷ false ∷ true ∷ false ∷ false ∷ []) ∷ (true ∷ false ∷ true ∷ false ∷ false ∷ false ∷ true ∷ false ∷ false ∷ false ∷ []) ∷ (true ∷ false ∷ false ∷ false ∷ false ∷ false ∷ false ∷ true ∷ false ∷ false ∷ []) ∷ (true ∷ false ∷ false ∷ false ∷ false ∷ false ∷ false ∷ true ∷ false ∷ false ∷ []) ∷ []) ∷ ((true ∷ false ∷ false ∷ false ∷ false ∷ false ∷ false ∷ false ∷ false ∷ true ∷ []) ∷ (true ∷ false ∷ false ∷ false ∷ false ∷ false ∷ false ∷ false ∷ false ∷ true ∷ []) ∷ (true ∷ false ∷ true ∷ false ∷ false ∷ false ∷ true ∷ false ∷ false ∷ false ∷ []) ∷ (true ∷ false ∷ false ∷ true ∷ true ∷ false ∷ true ∷ false ∷ false ∷ true ∷ []) ∷ (true ∷ false ∷ false ∷ false ∷ false ∷ false ∷ false ∷ true ∷ false ∷ false ∷ []) ∷ (true ∷ false ∷ true ∷ false ∷ false ∷ false ∷ true ∷ false ∷ false ∷ false ∷ []) ∷ (true ∷ false ∷ false ∷ true ∷ true ∷ false ∷ true ∷ false ∷ false ∷ true ∷ []) ∷ (true ∷ false ∷ false ∷ false ∷ false ∷ false ∷ false ∷ true ∷ false ∷ false ∷ []) ∷ []) ∷ [])
unfolding the_law
w23_group_2 = refl

w23_group_3 : map (all_values w23) ((event.Command 2 ∷ event.Tick (moment 63876602400) ∷ start 1 0 ∷ event.LetOut (id 1) ∷ event.Command 1 ∷ event.Tick (moment 63876600000) ∷ []) ∷ (event.OpenSet (id 6) ∷ event.Command 5 ∷ event.Command 4 ∷ event.Tick (moment 63876603000) ∷ event.LetOut (id 4) ∷ event.Stage (id 3) 1 ∷ event.OpenSet (id 3) ∷ event.LetOut (id 2) ∷ event.Command 3 ∷ event.Command 2 ∷ event.Tick (moment 63876602400) ∷ start 1 0 ∷ event.LetOut (id 1) ∷ event.Command 1 ∷ event.Tick (moment 63876600000) ∷ []) ∷ (event.Ended (id 1) outcome.Terminated None ∷ start 7 1 ∷ ended 2 outcome.Warning 0 39 ∷ start 4 2 ∷ event.Tick (moment 63876604200) ∷ event.Tick (moment 63876603600) ∷ start 2 1 ∷ event.Tick (moment 63876603000) ∷ event.LetOut (id 7) ∷ event.Stage (id 6) 1 ∷ event.OpenSet (id 6) ∷ event.Command 5 ∷ event.Command 4 ∷ event.Tick (moment 63876603000) ∷ event.LetOut (id 4) ∷ event.Stage (id 3) 1 ∷ event.OpenSet (id 3) ∷ event.LetOut (id 2) ∷ event.Command 3 ∷ event.Command 2 ∷ event.Tick (moment 63876602400) ∷ start 1 0 ∷ event.LetOut (id 1) ∷ event.Command 1 ∷ event.Tick (moment 63876600000) ∷ []) ∷ []) ≡ ((((None, None), ((Some (record { index = 0 })), 0)) ∷ ((None, None), (None, 0)) ∷ ((None, None), (None, 0)) ∷ ((None, None), (None, 0)) ∷ ((None, None), (None, 0)) ∷ ((None, None), (None, 0)) ∷ ((None, None), (None, 0)) ∷ ((None, None), (None, 0)) ∷ []) ∷ (((None, None), ((Some (record { index = 0 })), 0)) ∷ ((None, None), (None, 0)) ∷ ((None, (Some 1)), (None, 1)) ∷ ((None, None), (None, 0)) ∷ ((None, None), (None, 0)) ∷ ((None, None), (None, 0)) ∷ ((None, None), (None, 0)) ∷ ((None, None), (None, 0)) ∷ []) ∷ ((((Some outcome.Terminated), None), (None, 0)) ∷ (((Some outcome.Warning), None), (None, 0)) ∷ ((None, (Some 1)), (None, 1)) ∷ ((None, None), ((Some (record { index = 2 })), 0)) ∷ ((None, None), (None, 0)) ∷ ((None, (Some 1)), (None, 1)) ∷ ((None, None), ((Some (record { index = 1 })), 0)) ∷ ((None, None), (None, 0)) ∷ []) ∷ [])
unfolding the_law
w23_group_3 = refl

w23_group_4 : map (starts w23) ((event.Command 2 ∷ event.Tick (moment 63876602400) ∷ start 1 0 ∷ event.LetOut (id 1) ∷ event.Command 1 ∷ event.Tick (moment 63876600000) ∷ []) ∷ (event.OpenSet (id 6) ∷ event.Command 5 ∷ event.Command 4 ∷ event.Tick (moment 63876603000) ∷ event.LetOut (id 4) ∷ event.Stage (id 3) 1 ∷ event.OpenSet (id 3) ∷ event.LetOut (id 2) ∷ event.Command 3 ∷ event.Command 2 ∷ event.Tick (moment 63876602400) ∷ start 1 0 ∷ event.LetOut (id 1) ∷ event.Command 1 ∷ event.Tick (moment 63876600000) ∷ []) ∷ (event.Ended (id 1) outcome.Terminated None ∷ start 7 1 ∷ ended 2 outcome.Warning 0 39 ∷ start 4 2 ∷ event.Tick (moment 63876604200) ∷ event.Tick (moment 63876603600) ∷ start 2 1 ∷ event.Tick (moment 63876603000) ∷ event.LetOut (id 7) ∷ event.Stage (id 6) 1 ∷ event.OpenSet (id 6) ∷ event.Command 5 ∷ event.Command 4 ∷ event.Tick (moment 63876603000) ∷ event.LetOut (id 4) ∷ event.Stage (id 3) 1 ∷ event.OpenSet (id 3) ∷ event.LetOut (id 2) ∷ event.Command 3 ∷ event.Command 2 ∷ event.Tick (moment 63876602400) ∷ start 1 0 ∷ event.LetOut (id 1) ∷ event.Command 1 ∷ event.Tick (moment 63876600000) ∷ []) ∷ []) ≡ (((false ∷ false ∷ false ∷ []) ∷ (false ∷ false ∷ false ∷ []) ∷ (false ∷ false ∷ false ∷ []) ∷ (false ∷ false ∷ false ∷ []) ∷ (false ∷ false ∷ false ∷ []) ∷ (false ∷ false ∷ false ∷ []) ∷ (false ∷ false ∷ false ∷ []) ∷ (false ∷ false ∷ false ∷ []) ∷ []) ∷ ((false ∷ false ∷ false ∷ []) ∷ (false ∷ true ∷ true ∷ []) ∷ (false ∷ false ∷ false ∷ []) ∷ (false ∷ true ∷ true ∷ []) ∷ (false ∷ false ∷ false ∷ []) ∷ (false ∷ false ∷ false ∷ []) ∷ (false ∷ false ∷ false ∷ []) ∷ (false ∷ false ∷ false ∷ []) ∷ []) ∷ ((false ∷ false ∷ false ∷ []) ∷ (false ∷ false ∷ false ∷ []) ∷ (false ∷ false ∷ false ∷ []) ∷ (false ∷ false ∷ false ∷ []) ∷ (false ∷ false ∷ false ∷ []) ∷ (false ∷ false ∷ false ∷ []) ∷ (false ∷ false ∷ false ∷ []) ∷ (false ∷ false ∷ false ∷ []) ∷ []) ∷ [])
unfolding the_law
w23_group_4 = refl

w23_group_5 : map (steps w23) ((event.Command 2 ∷ event.Tick (moment 63876602400) ∷ start 1 0 ∷ event.LetOut (id 1) ∷ event.Command 1 ∷ event.Tick (moment 63876600000) ∷ []) ∷ (event.OpenSet (id 6) ∷ event.Command 5 ∷ event.Command 4 ∷ event.Tick (moment 63876603000) ∷ event.LetOut (id 4) ∷ event.Stage (id 3) 1 ∷ event.OpenSet (id 3) ∷ event.LetOut (id 2) ∷ event.Command 3 ∷ event.Command 2 ∷ event.Tick (moment 63876602400) ∷ start 1 0 ∷ event.LetOut (id 1) ∷ event.Command 1 ∷ event.Tick (moment 63876600000) ∷ []) ∷ (event.Ended (id 1) outcome.Terminated None ∷ start 7 1 ∷ ended 2 outcome.Warning 0 39 ∷ start 4 2 ∷ event.Tick (moment 63876604200) ∷ event.Tick (moment 63876603600) ∷ start 2 1 ∷ event.Tick (moment 63876603000) ∷ event.LetOut (id 7) ∷ event.Stage (id 6) 1 ∷ event.OpenSet (id 6) ∷ event.Command 5 ∷ event.Command 4 ∷ event.Tick (moment 63876603000) ∷ event.LetOut (id 4) ∷ event.Stage (id 3) 1 ∷ event.OpenSet (id 3) ∷ event.LetOut (id 2) ∷ event.Command 3 ∷ event.Command 2 ∷ event.Tick (moment 63876602400) ∷ start 1 0 ∷ event.LetOut (id 1) ∷ event.Command 1 ∷ event.Tick (moment 63876600000) ∷ []) ∷ []) ≡ (((Some (event.Stage (id 3) 1)) ∷ (Some (event.Stage (id 6) 1)) ∷ []) ∷ (None ∷ (Some (event.Stage (id 6) 1)) ∷ []) ∷ (None ∷ None ∷ []) ∷ [])
unfolding the_law
w23_group_5 = refl

w23_group_6 : map (overall w23) ((event.Command 2 ∷ event.Tick (moment 63876602400) ∷ start 1 0 ∷ event.LetOut (id 1) ∷ event.Command 1 ∷ event.Tick (moment 63876600000) ∷ []) ∷ (event.OpenSet (id 6) ∷ event.Command 5 ∷ event.Command 4 ∷ event.Tick (moment 63876603000) ∷ event.LetOut (id 4) ∷ event.Stage (id 3) 1 ∷ event.OpenSet (id 3) ∷ event.LetOut (id 2) ∷ event.Command 3 ∷ event.Command 2 ∷ event.Tick (moment 63876602400) ∷ start 1 0 ∷ event.LetOut (id 1) ∷ event.Command 1 ∷ event.Tick (moment 63876600000) ∷ []) ∷ (event.Ended (id 1) outcome.Terminated None ∷ start 7 1 ∷ ended 2 outcome.Warning 0 39 ∷ start 4 2 ∷ event.Tick (moment 63876604200) ∷ event.Tick (moment 63876603600) ∷ start 2 1 ∷ event.Tick (moment 63876603000) ∷ event.LetOut (id 7) ∷ event.Stage (id 6) 1 ∷ event.OpenSet (id 6) ∷ event.Command 5 ∷ event.Command 4 ∷ event.Tick (moment 63876603000) ∷ event.LetOut (id 4) ∷ event.Stage (id 3) 1 ∷ event.OpenSet (id 3) ∷ event.LetOut (id 2) ∷ event.Command 3 ∷ event.Command 2 ∷ event.Tick (moment 63876602400) ∷ start 1 0 ∷ event.LetOut (id 1) ∷ event.Command 1 ∷ event.Tick (moment 63876600000) ∷ []) ∷ []) ≡ (((false, (Some (moment 63876602400))), ((Some 0), (true ∷ true ∷ false ∷ false ∷ false ∷ []))) ∷ ((false, (Some (moment 63876603000))), ((Some 0), (true ∷ true ∷ true ∷ true ∷ true ∷ []))) ∷ ((false, (Some (moment 63876604200))), ((Some 39), (true ∷ true ∷ true ∷ true ∷ true ∷ []))) ∷ [])
unfolding the_law
w23_group_6 = refl

w23_group_7 : map (is_lawful w23 w23_readings) ((event.Command 2 ∷ event.Tick (moment 63876602400) ∷ start 1 0 ∷ event.LetOut (id 1) ∷ event.Command 1 ∷ event.Tick (moment 63876600000) ∷ []) ∷ (event.Resume ∷ event.Command 5 ∷ event.Command 4 ∷ event.Tick (moment 63876603000) ∷ event.LetOut (id 4) ∷ event.Stage (id 3) 1 ∷ event.OpenSet (id 3) ∷ event.LetOut (id 2) ∷ event.Command 3 ∷ event.Command 2 ∷ event.Tick (moment 63876602400) ∷ start 1 0 ∷ event.LetOut (id 1) ∷ event.Command 1 ∷ event.Tick (moment 63876600000) ∷ []) ∷ (event.Command 5 ∷ event.Command 4 ∷ event.Tick (moment 63876603000) ∷ event.LetOut (id 4) ∷ event.Stage (id 3) 1 ∷ event.OpenSet (id 3) ∷ event.LetOut (id 2) ∷ event.Command 3 ∷ event.Command 2 ∷ event.Tick (moment 63876602400) ∷ start 1 0 ∷ event.LetOut (id 1) ∷ event.Command 1 ∷ event.Tick (moment 63876600000) ∷ []) ∷ (event.Resume ∷ start 7 1 ∷ ended 2 outcome.Warning 0 39 ∷ start 4 2 ∷ event.Tick (moment 63876604200) ∷ event.Tick (moment 63876603600) ∷ start 2 1 ∷ event.Tick (moment 63876603000) ∷ event.LetOut (id 7) ∷ event.Stage (id 6) 1 ∷ event.OpenSet (id 6) ∷ event.Command 5 ∷ event.Command 4 ∷ event.Tick (moment 63876603000) ∷ event.LetOut (id 4) ∷ event.Stage (id 3) 1 ∷ event.OpenSet (id 3) ∷ event.LetOut (id 2) ∷ event.Command 3 ∷ event.Command 2 ∷ event.Tick (moment 63876602400) ∷ start 1 0 ∷ event.LetOut (id 1) ∷ event.Command 1 ∷ event.Tick (moment 63876600000) ∷ []) ∷ []) ≡ (true ∷ true ∷ true ∷ true ∷ [])
unfolding the_law
w23_group_7 = refl

w23_group_8 : map (is_lawful w23 w23_readings) ((event.Command 4 ∷ event.Command 2 ∷ event.Tick (moment 63876602400) ∷ start 1 0 ∷ event.LetOut (id 1) ∷ event.Command 1 ∷ event.Tick (moment 63876600000) ∷ []) ∷ (event.OpenSet (id 6) ∷ event.Resume ∷ event.Command 5 ∷ event.Command 4 ∷ event.Tick (moment 63876603000) ∷ event.LetOut (id 4) ∷ event.Stage (id 3) 1 ∷ event.OpenSet (id 3) ∷ event.LetOut (id 2) ∷ event.Command 3 ∷ event.Command 2 ∷ event.Tick (moment 63876602400) ∷ start 1 0 ∷ event.LetOut (id 1) ∷ event.Command 1 ∷ event.Tick (moment 63876600000) ∷ []) ∷ (event.Interrupt (id 8) ∷ event.Command 5 ∷ event.Command 4 ∷ event.Tick (moment 63876603000) ∷ event.LetOut (id 4) ∷ event.Stage (id 3) 1 ∷ event.OpenSet (id 3) ∷ event.LetOut (id 2) ∷ event.Command 3 ∷ event.Command 2 ∷ event.Tick (moment 63876602400) ∷ start 1 0 ∷ event.LetOut (id 1) ∷ event.Command 1 ∷ event.Tick (moment 63876600000) ∷ []) ∷ (event.Ended (id 1) outcome.Terminated None ∷ event.Resume ∷ start 7 1 ∷ ended 2 outcome.Warning 0 39 ∷ start 4 2 ∷ event.Tick (moment 63876604200) ∷ event.Tick (moment 63876603600) ∷ start 2 1 ∷ event.Tick (moment 63876603000) ∷ event.LetOut (id 7) ∷ event.Stage (id 6) 1 ∷ event.OpenSet (id 6) ∷ event.Command 5 ∷ event.Command 4 ∷ event.Tick (moment 63876603000) ∷ event.LetOut (id 4) ∷ event.Stage (id 3) 1 ∷ event.OpenSet (id 3) ∷ event.LetOut (id 2) ∷ event.Command 3 ∷ event.Command 2 ∷ event.Tick (moment 63876602400) ∷ start 1 0 ∷ event.LetOut (id 1) ∷ event.Command 1 ∷ event.Tick (moment 63876600000) ∷ []) ∷ []) ≡ (false ∷ false ∷ false ∷ false ∷ [])
unfolding the_law
w23_group_8 = refl

w23_group_9 : map (is_lawful_so_far w23) ((event.Resume ∷ event.Command 5 ∷ event.Command 4 ∷ event.Tick (moment 63876603000) ∷ event.LetOut (id 4) ∷ event.Stage (id 3) 1 ∷ event.OpenSet (id 3) ∷ event.LetOut (id 2) ∷ event.Command 3 ∷ event.Command 2 ∷ event.Tick (moment 63876602400) ∷ start 1 0 ∷ event.LetOut (id 1) ∷ event.Command 1 ∷ event.Tick (moment 63876600000) ∷ []) ∷ (event.Resume ∷ start 7 1 ∷ ended 2 outcome.Warning 0 39 ∷ start 4 2 ∷ event.Tick (moment 63876604200) ∷ event.Tick (moment 63876603600) ∷ start 2 1 ∷ event.Tick (moment 63876603000) ∷ event.LetOut (id 7) ∷ event.Stage (id 6) 1 ∷ event.OpenSet (id 6) ∷ event.Command 5 ∷ event.Command 4 ∷ event.Tick (moment 63876603000) ∷ event.LetOut (id 4) ∷ event.Stage (id 3) 1 ∷ event.OpenSet (id 3) ∷ event.LetOut (id 2) ∷ event.Command 3 ∷ event.Command 2 ∷ event.Tick (moment 63876602400) ∷ start 1 0 ∷ event.LetOut (id 1) ∷ event.Command 1 ∷ event.Tick (moment 63876600000) ∷ []) ∷ []) ≡ (true ∷ true ∷ [])
unfolding the_law
w23_group_9 = refl

w23_group_10 : map (is_lawful_so_far w23) ((event.OpenSet (id 6) ∷ event.Resume ∷ event.Command 5 ∷ event.Command 4 ∷ event.Tick (moment 63876603000) ∷ event.LetOut (id 4) ∷ event.Stage (id 3) 1 ∷ event.OpenSet (id 3) ∷ event.LetOut (id 2) ∷ event.Command 3 ∷ event.Command 2 ∷ event.Tick (moment 63876602400) ∷ start 1 0 ∷ event.LetOut (id 1) ∷ event.Command 1 ∷ event.Tick (moment 63876600000) ∷ []) ∷ (event.Ended (id 1) outcome.Terminated None ∷ event.Resume ∷ start 7 1 ∷ ended 2 outcome.Warning 0 39 ∷ start 4 2 ∷ event.Tick (moment 63876604200) ∷ event.Tick (moment 63876603600) ∷ start 2 1 ∷ event.Tick (moment 63876603000) ∷ event.LetOut (id 7) ∷ event.Stage (id 6) 1 ∷ event.OpenSet (id 6) ∷ event.Command 5 ∷ event.Command 4 ∷ event.Tick (moment 63876603000) ∷ event.LetOut (id 4) ∷ event.Stage (id 3) 1 ∷ event.OpenSet (id 3) ∷ event.LetOut (id 2) ∷ event.Command 3 ∷ event.Command 2 ∷ event.Tick (moment 63876602400) ∷ start 1 0 ∷ event.LetOut (id 1) ∷ event.Command 1 ∷ event.Tick (moment 63876600000) ∷ []) ∷ []) ≡ (false ∷ false ∷ [])
unfolding the_law
w23_group_10 = refl
