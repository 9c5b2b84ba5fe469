-- The lines of watchers.
use Rattle.std.specs.Prelude.{◌≡◌, ℕ, ◌+◌, List, [], ◌∷◌, ◌++◌, All, codes, flat_map, length, slice_index}
use Rattle.std.specs.Fmt.{decimal}
use Rattle.conc_types.specs.declared.event.Event.{Event}
use Rattle.conc_types.specs.declared.plan.Plan.{Plan}
use Rattle.conc_view.specs.declared.watcher.Snapshot.{Snapshot}
use Rattle.conc_run_watch.specs.Watches.{IsWatch}

-- a space and a number
abbrev pub field_of : ℕ → List ℕ
field_of n = codes " " ++ decimal n

-- the line of a snapshot of the watcher with this number: the number of events, and of the requests that are pending,
-- running, completed and inactive
abbrev pub line_of : ℕ → Snapshot → List ℕ
line_of watcher s =
    codes "watch" ++ field_of watcher ++ field_of s.length ++ field_of (slice_index s.counts 0) ++ field_of (slice_index s.counts 1)
    ++ field_of (slice_index s.counts 2) ++ field_of (slice_index s.counts 3) ++ codes "\n"

-- the lines of what the watcher with this number kept
abbrev pub lines_of : ℕ → List Snapshot → List ℕ
lines_of watcher kept = flat_map (line_of watcher) kept

-- the lines of what watchers kept, of which the first has this number
abbrev pub watch_text : ℕ → List (List Snapshot) → List ℕ
watch_text first [] = []
watch_text first (kept ∷ rest) = lines_of first kept ++ watch_text (first + 1) rest

-- the lines of so many watchers of a history, numbered from 1
pub record AreWatchLines (plan : Plan) (history : List Event) (watchers : ℕ) (text : List ℕ) : Type 0 where
  pub kept : List (List Snapshot)
  pub count : length kept ≡ watchers
  pub each : All (IsWatch plan history) kept
  pub text_is : text ≡ watch_text 1 kept
