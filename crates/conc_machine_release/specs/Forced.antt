-- The first request in precedence that may be let, class by class.
use Rattle.std.specs.Prelude.{ℕ, ◌+◌, Bool, not, ◌&&◌, ◌==◌, if◌then◌else◌, length, Option}
use Rattle.std.specs.List.{filter}
use Rattle.conc_types.specs.declared.event.RequestId.{RequestId}
use Rattle.conc_types.specs.declared.facts.State.{State}
use Rattle.conc_types.specs.declared.plan.Plan.{Plan}
use Rattle.conc_types.specs.declared.plan.Req.{Req}
use Rattle.conc_types.specs.Words.{some_and}
use Rattle.conc_base_law.specs.Next.{is_ready, may_let}
use Rattle.conc_base_law.specs.Plans.{parent}
use Rattle.conc_base_law.specs.Words.{id_eq}
use Rattle.conc_event_queue.specs.Least.{least}
use Rattle.conc_event_queue.specs.Turns.{turns_of}
use Rattle.conc_event_classes.specs.Classes.{class_at, of_class}
use Rattle.conc_event_classes.specs.declared.classes.Classes.{Classes}
use Rattle.conc_machine_release.specs.Lets.{is_live_rival}
use Rattle.conc_machine_release.specs.declared.position.Position.{Position}

-- the least turn of those of a class that may be let
unfoldable pub turn_in_class : Plan → Classes → State → ℕ → Option ℕ
turn_in_class plan classes s c = least (turns_of (may_let plan s) (of_class plan classes c))

-- q is a member of the set
abbrev pub is_child : RequestId → Req → Bool
is_child set q = some_and (id_eq set) q.parent

-- q is a member of r, is live, and its class excludes a class
unfoldable pub is_live_member : Classes → State → ℕ → Req → Req → Bool
is_live_member classes s c r q = is_live_rival classes s c q && is_child r.number q

-- how many these are
unfoldable pub live_members : Plan → Classes → State → ℕ → Req → ℕ
live_members plan classes s c r = length (filter (is_live_member classes s c r) plan.requests)

-- q is no member of r, is live, and its class excludes a class
unfoldable pub is_live_outside : Classes → State → ℕ → Req → Req → Bool
is_live_outside classes s c r q = is_live_rival classes s c q && not (is_child r.number q)

-- 1 where the parent of r is so
unfoldable pub live_parents : Plan → Classes → State → ℕ → Req → ℕ
live_parents plan classes s c r = if some_and (is_live_outside classes s c r) (parent plan r) then 1 else 0

-- r is of the class and ready, and so many live requests as exclude its class are kin of it
unfoldable pub has_only_kin_rivals : Plan → Classes → State → ℕ → ℕ → Req → Bool
has_only_kin_rivals plan classes s c rivals r =
    class_at classes r == c
    && (is_ready plan s r && live_members plan classes s c r + live_parents plan classes s c r == rivals)

-- so at a position
abbrev pub has_only_kin : Position → ℕ → ℕ → Req → Bool
has_only_kin position c rivals r =
    has_only_kin_rivals position.plan.now position.classes.now position.state.now c rivals r
