-- How a view begins.
use Rattle.std.specs.Prelude.{◌≡◌, List, length}
use Rattle.conc_types.specs.declared.event.Event.{Event}
use Rattle.conc_types.specs.declared.plan.Plan.{Plan}
use Rattle.conc_view.specs.declared.marks.Known.{Known}
use Rattle.conc_view.specs.declared.naming.Naming.{Ghosts}
use Rattle.conc_view.specs.declared.watcher.Watcher.{Watcher}
use Rattle.conc_view.specs.Bounds.{raiser}
use Rattle.conc_view.specs.Watcher.{seen_by, watched_plan}

-- the counter raises the number of these events
abbrev pub Counts : Known → List Event → Type 0
Counts counter events = counter ≡ raiser (length events)

module _ {J : Type 0} {names : Ghosts J} where
  -- a watcher of this plan has seen these events
  abbrev pub HasSeen : Plan → List Event → Watcher J names → Type 0
  HasSeen plan events watcher = (watched_plan watcher ≡ plan) × (seen_by watcher ≡ events)
