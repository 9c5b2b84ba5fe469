-- The candidate of each class: the first of its requests that are ready, where no live one excludes the class.
use Rattle.std.specs.Prelude.{◌≡◌, ℕ, Bool, true, false, ◌==◌, if◌then◌else◌, List, [], ◌∷◌, ◌++◌, length, map, Option, None, Some, slice_get, slice_index, slice_index_or, slice_range}
use Rattle.conc_types.specs.declared.facts.Facts.{Facts}
use Rattle.conc_types.specs.declared.facts.State.{State}
use Rattle.conc_types.specs.declared.plan.Plan.{Plan}
use Rattle.conc_types.specs.declared.plan.Req.{Req}
use Rattle.conc_base_law.specs.State.{facts_at, is_live}
use Rattle.conc_base_law.specs.Words.{Has}
use Rattle.conc_event_queue.specs.Least.{least}
use Rattle.conc_event_classes.specs.Classes.{class_at, rivals_at}
use Rattle.conc_event_classes.specs.declared.classes.Classes.{Classes}
use Rattle.conc_event_reach.specs.Spans.{span_of_members}
use Rattle.conc_event_reach.specs.declared.span.Span.{Span}
use Rattle.conc_event_reach.specs.declared.spans.Spans.{Spans}

-- the candidate of a class: the least of its keys, where it counts no live rival
abbrev pub candidate : List (List (Option ℕ)) → List ℕ → ℕ → Option ℕ
candidate queues counts c = if slice_index counts c == 0 then least (slice_index_or queues c []) else None

-- what is kept of a class is its candidate
abbrev pub IsCandidate : List (List (Option ℕ)) → List ℕ → List (Option ℕ) → ℕ → Type 0
IsCandidate queues counts candidates c = slice_get candidates c ≡ Some (candidate queues counts c)

-- there are as many queues and counts as there are candidates
pub record HaveQueues (queues : List (List (Option ℕ))) (counts : List ℕ) (candidates : List (Option ℕ)) : Type 0 where
  pub each_queue : length queues ≡ length candidates
  pub each_count : length counts ≡ length candidates

-- what is kept of these classes becomes their candidate, and what was a candidate stays one
pub record PutsRight (queues : List (List (Option ℕ))) (counts : List ℕ) (cs : List ℕ) (before after : List (Option ℕ)) : Type 0 where
  pub count : length after ≡ length before
  pub own : (c : ℕ) → Has cs c → IsCandidate queues counts after c
  pub others : (c : ℕ) → IsCandidate queues counts before c → IsCandidate queues counts after c

-- the classes of the requests within a span
abbrev pub classes_within : Plan → Classes → Span → List ℕ
classes_within plan classes span = map (class_at classes) (slice_range plan.requests span.from span.to)

-- these, where a request becomes live or ceases to be so
abbrev pub where_changed : Bool → Bool → List ℕ → List ℕ
where_changed true false cs = cs
where_changed false true cs = cs
where_changed true true cs = []
where_changed false false cs = []

-- the classes that the write of a request's facts touches: its own, those of its members where its begun stages changed, and its
-- rivals where it becomes live or ceases to be so
abbrev pub touched : Plan → Classes → Spans → State → Facts → Req → List ℕ
touched plan classes spans s old r =
    class_at classes r
    ∷ (if (facts_at s r).begun.bits == old.begun.bits then [] else classes_within plan classes (span_of_members spans r.number))
    ++ where_changed (is_live (facts_at s r)) (is_live old) (rivals_at classes (class_at classes r))
