-- What a watcher has seen.
use Rattle.std.specs.Prelude.{List}
use Rattle.conc_types.specs.declared.event.Event.{Event}
use Rattle.conc_types.specs.declared.plan.Plan.{Plan}
use Rattle.conc_restart.specs.Machines.{plan_of}
use Rattle.conc_view.specs.declared.naming.Naming.{Ghosts}
use Rattle.conc_view.specs.declared.watcher.Watcher.{Watcher}

module _ {J : Type 0} {names : Ghosts J} where
  -- the plan of its machine
  abbrev pub watched_plan : Watcher J names → Plan
  watched_plan watcher = plan_of watcher.machine

  -- the events that its machine stands for
  abbrev pub seen_by : Watcher J names → List Event
  seen_by watcher = watcher.reached
