use Rattle.std.proofs.Common.{◌≡◌, ◌++◌, drop}
use Rattle.std.specs.List.{flat_map}
use Rattle.conc_show_timeline.specs.Lanes.{words_at, wrapped_all}
use Rattle.conc_show_timeline.proofs.lanes.put_words.Given as goal

abbrev pub invariant-loop-event : goal.invariant-loop-event
invariant-loop-event l =
    l.out.items ++ wrapped_all l.used (flat_map (words_at l.place) (drop l.event-index l.events))
    ≡ l.fn.out.items ++ wrapped_all l.start (flat_map (words_at l.place) l.events)
