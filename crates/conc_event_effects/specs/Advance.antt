-- How one event changes all that stands.
use Rattle.std.specs.Prelude.{◌≡◌, ℕ, Bool, true, false, ◌+◌, ◌-◌, ◌&&◌, nat_lt, nat_le, if◌then◌else◌, List, [], ◌∷◌, length, Option, None, Some, slice_set, unwrap_or}
use Rattle.std.specs.Option.{option_and_then, option_or}
use Rattle.conc_types.specs.declared.event.Event.{Event}
use Rattle.conc_types.specs.declared.event.Event.TheVariants as event
use Rattle.conc_types.specs.declared.event.RequestId.{RequestId}
use Rattle.conc_types.specs.declared.facts.Facts.{Facts}
use Rattle.conc_types.specs.declared.facts.State.{State}
use Rattle.conc_types.specs.declared.plan.Plan.{Plan}
use Rattle.conc_types.specs.declared.plan.Req.{Req}
use Rattle.conc_types.specs.declared.script.Act.{Act}
use Rattle.conc_types.specs.declared.script.Act.TheVariants as act
use Rattle.conc_types.specs.Words.{numbered}
use Rattle.conc_base_law.specs.Kinds.{act_of, extent_length, tick_of}
use Rattle.conc_base_law.specs.State.{fitting, no_facts}
use Rattle.conc_event_effects.specs.Step.{facts_after}

-- the request that a cancel or a close names
abbrev pub cancelled : Option Act → Option RequestId
cancelled (Some (act.Cancel q)) = Some q
cancelled _ = None

abbrev pub named_by : Plan → Event → Option RequestId
named_by plan (event.CloseSet s o) = Some s
named_by plan (event.Command n) = cancelled (act_of plan (event.Command n))
named_by plan _ = None

-- its facts
unfoldable pub named_facts : List Facts → Option RequestId → Facts
named_facts facts id = unwrap_or (option_and_then (λ q. numbered facts q.number) id) no_facts

-- the facts of all requests
unfoldable pub all_after : Plan → Facts → Event → List Req → List Facts → List Facts
all_after plan named e [] facts = facts
all_after plan named e (r ∷ rs) [] = []
all_after plan named e (r ∷ rs) (own ∷ facts) = facts_after plan named e r own ∷ all_after plan named e rs facts

abbrev pub one_by : Plan → Facts → Event → List Facts → ℕ → Option Req → Option Facts → List Facts
one_by plan named e facts i (Some r) (Some own) = slice_set facts i (facts_after plan named e r own)
one_by plan named e facts i _ _ = facts

-- the flag of a command, by its number
abbrev pub marked : List Bool → ℕ → List Bool
marked flags number =
    if nat_lt 0 number && nat_le number (length flags) then slice_set flags (number - 1) true else flags

abbrev pub done_after : List Bool → Event → List Bool
done_after flags (event.Command n) = marked flags n
done_after flags _ = flags

abbrev pub used_after : Option ℕ → Event → Option ℕ
used_after used e = option_and_then (λ n. fitting (n + extent_length e)) used

-- all that stands after one more event
pub record IsAfter (plan : Plan) (old new : State) (e : Event) : Type 0 where
  pub empty : new.empty ≡ false
  pub time : new.time ≡ option_or (tick_of e) old.time
  pub used : new.used ≡ used_after old.used e
  pub done : new.done ≡ done_after old.done e
  pub facts : new.facts ≡ all_after plan (named_facts old.facts (named_by plan e)) e plan.requests old.facts
