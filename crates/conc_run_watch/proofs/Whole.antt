-- The lines of all watchers.
use Rattle.std.proofs.Common.{◌≡◌, ℕ, List, All, length, map, refl, ◌∙◌}
use Rattle.std.proofs.lemmas.List.{length-map}
use Rattle.std.proofs.lemmas.List.Elements.{All-map}
use Rattle.conc_types.specs.declared.event.Event.{Event}
use Rattle.conc_types.specs.declared.plan.Plan.{Plan}
use Rattle.conc_view.specs.declared.watcher.Snapshot.{Snapshot}
use Rattle.conc_run_watch.specs.Lines.{AreWatchLines, watch_text}
use Rattle.conc_run_watch.specs.Watches.{IsWatch}

-- the text of what each of so many watchers kept of a history has their lines
pub watch_lines : {X : Type 0} (plan : Plan) (history : List Event) (shown : X → List Snapshot) (all : List X) (watchers : ℕ) → length all ≡ watchers
    → All (λ x. IsWatch plan history (shown x)) all → AreWatchLines plan history watchers (watch_text 1 (map shown all))
watch_lines plan history shown all watchers count each = record {
  kept = map shown all;
  count = length-map all shown ∙ count;
  each = All-map (IsWatch plan history) shown all each;
  text_is = refl;
}
