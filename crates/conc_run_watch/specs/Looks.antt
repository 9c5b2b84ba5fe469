-- What a watcher with its looks has.
use Rattle.std.specs.Prelude.{◌≡◌, ℕ, ◌<◌, All, List, length, slice_index_or}
use mathlib.Core.List.{IsPrefix}
use Rattle.conc_types.specs.declared.event.Event.{Event}
use Rattle.conc_types.specs.declared.plan.Plan.{Plan}
use Rattle.conc_view.specs.Watcher.{seen_by, watched_plan}
use Rattle.conc_view.specs.declared.naming.Naming.{Ghosts}
use Rattle.conc_view.specs.declared.watcher.Watcher.{Watcher}
use Rattle.conc_view.specs.declared.watcher.Snapshot.{Snapshot}
use Rattle.conc_run_watch.specs.Watches.{AreUpToDate, IsLookAt, kept_after, seen_at_last}
use Rattle.conc_run_watch.specs.declared.looks.Looks.{Looks}

module _ {J : Type 0} {names : Ghosts J} where
  -- the watcher watches this plan
  abbrev pub IsWatcherOf : Plan → Watcher J names → Type 0
  IsWatcherOf plan watcher = watched_plan watcher ≡ plan

  -- the plan that it watches
  abbrev pub plan_in : Looks J names → Plan
  plan_in looks = watched_plan looks.watcher

  -- the events that it has seen
  abbrev pub seen_in : Looks J names → List Event
  seen_in looks = seen_by looks.watcher

  -- what it keeps
  abbrev pub kept_in : Looks J names → List Snapshot
  kept_in looks = looks.kept.items

  -- it watches this plan
  abbrev pub Watches : Plan → Looks J names → Type 0
  Watches plan looks = plan_in looks ≡ plan

  -- It watches what it watched, and has seen what it had seen, and maybe more. It made these looks, each at what it had seen by then, and keeps
  -- of them what is to be kept; at the last of them it saw all that it has seen.
  pub record Goes (before after : Looks J names) : Type 0 where
    pub looks : List Snapshot
    pub right : All (IsLookAt (plan_in after) (seen_in after)) looks
    pub kept : kept_in after ≡ kept_after (kept_in before) looks
    pub last : length (seen_in after) ≡ seen_at_last (length (seen_in before)) looks
    pub plan : plan_in after ≡ plan_in before
    pub begins : IsPrefix (seen_in before) (seen_in after)
    pub keeps : IsPrefix (kept_in before) (kept_in after)

  -- it went on so by one look at least: it keeps something, and its last look while it keeps fewer than 63
  pub record HasLooked (before after : Looks J names) : Type 0 where
    pub goes : Goes before after
    pub up_to_date : AreUpToDate (seen_in after) (kept_in after)

  -- each has looked
  pub record HaveLooked (before after : List (Looks J names)) : Type 0 where
    pub long : length after ≡ length before
    pub each : (i : ℕ) (d : Looks J names) → i < length before → HasLooked (slice_index_or before i d) (slice_index_or after i d)
