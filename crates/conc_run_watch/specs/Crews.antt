-- What the watchers of a run watch.
use Rattle.std.specs.Prelude.{◌≡◌, ℕ, All, length}
use Rattle.conc_types.specs.declared.plan.Plan.{Plan}
use Rattle.conc_view.specs.declared.naming.Naming.{Ghosts}
use Rattle.conc_run_watch.specs.Looks.{HaveLooked, Watches}
use Rattle.conc_run_watch.specs.declared.crew.Watchers.{Watchers}

module _ {J : Type 0} {names : Ghosts J} where
  -- each has looked
  abbrev pub StillWatch : Watchers J names → Watchers J names → Type 0
  StillWatch before after = HaveLooked before.looks.items after.looks.items

  -- they are so many, and each watches this plan
  pub record AreWatching (plan : Plan) (count : ℕ) (watchers : Watchers J names) : Type 0 where
    pub long : length watchers.looks.items ≡ count
    pub watches : All (Watches plan) watchers.looks.items
