-- What the write of one request's facts changes of the keys and the counts.
use Rattle.std.specs.Prelude.{ℕ, Bool, true, false, ◌==◌, List, Option, slice_range}
use Rattle.conc_types.specs.declared.facts.Facts.{Facts}
use Rattle.conc_types.specs.declared.facts.State.{State}
use Rattle.conc_types.specs.declared.plan.Plan.{Plan}
use Rattle.conc_types.specs.declared.plan.Req.{Req}
use Rattle.conc_base_law.specs.State.{facts_at, is_live}
use Rattle.conc_event_classes.specs.Classes.{class_at, rivals_at}
use Rattle.conc_event_classes.specs.declared.classes.Classes.{Classes}
use Rattle.conc_event_reach.specs.Spans.{span_of_members}
use Rattle.conc_event_reach.specs.declared.span.Span.{Span}
use Rattle.conc_event_reach.specs.declared.spans.Spans.{Spans}
use Rattle.conc_machine_release.specs.Refresh.{refreshed_all, refreshed_at}
use Rattle.conc_machine_release.specs.Rivals.{counted_all}

-- the keys within a span are what the state says, unless the begun stages are the same
abbrev pub renewed_within : Plan → Classes → State → Span → Bool → List (List (Option ℕ)) → List (List (Option ℕ))
renewed_within plan classes s span true queues = queues
renewed_within plan classes s span false queues = refreshed_all plan classes s (slice_range plan.requests span.from span.to) queues

-- the key of the request that was written is what the state says, and those of its members where its begun stages changed
abbrev pub renewed : Plan → Classes → Spans → State → Facts → List (List (Option ℕ)) → Req → List (List (Option ℕ))
renewed plan classes spans s old queues r =
    renewed_within plan classes s (span_of_members spans r.number) ((facts_at s r).begun.bits == old.begun.bits) (refreshed_at plan classes s queues r)

-- one more or one less, where a request becomes live or ceases to be so
abbrev pub recounted_by : Bool → Bool → List ℕ → List ℕ → List ℕ
recounted_by true false rivals counts = counted_all true rivals counts
recounted_by false true rivals counts = counted_all false rivals counts
recounted_by true true rivals counts = counts
recounted_by false false rivals counts = counts

abbrev pub recounted : Classes → State → Facts → List ℕ → Req → List ℕ
recounted classes s old counts r = recounted_by (is_live (facts_at s r)) (is_live old) (rivals_at classes (class_at classes r)) counts
