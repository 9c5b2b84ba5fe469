-- What the resolver has put into the lanes of its plan.
use Rattle.std.specs.Prelude.{◌≡◌, ◌⊎◌, ℕ, ◌≤◌, List, [], ◌∷◌, ◌++◌, drop, length, take, Option, None, Some, Result, Ok, Err, IsFalse}
use Rattle.std.specs.List.{list_any}
use Rattle.conc_types.specs.declared.event.Event.{Event}
use Rattle.conc_types.specs.declared.event.Event.TheVariants as event
use Rattle.conc_types.specs.declared.event.RequestId.{RequestId}
use Rattle.conc_types.specs.declared.plan.Plan.{Plan}
use Rattle.conc_types.specs.Plans.{request}
use Rattle.conc_base_law.specs.Kinds.{is_resume}
use Rattle.conc_pool_lanes.specs.Lanes.{IsLeadPassOf, joined_by, plan_of, puts_of}
use Rattle.conc_pool_lanes.specs.Puts.{lets_of, lists_for, puts}
use Rattle.conc_pool_lanes.specs.declared.lanes.Lanes.{Lanes}
use Rattle.conc_pool_lanes.specs.declared.lanes.LeadPass.{LeadPass}
use Rattle.conc_run_desk.specs.Desks.{list_at, plan_at}
use Rattle.conc_run_desk.specs.State.{DeskState}
use Rattle.conc_run_state.specs.declared.error.RunFail.{RunFail}
use Rattle.conc_run_state.specs.declared.error.RunFail.TheVariants as run_fail

-- ---- what is added to the list of a desk

pub record Adds (old new : DeskState) (added : List Event) : Type 0 where
  pub plan : plan_at new ≡ plan_at old
  pub begun_with : new.begun_with ≡ old.begun_with
  pub list : list_at new ≡ list_at old ++ added

-- this event; or, where it failed, this one or none
abbrev pub AddsEvent : Event → Result Unit RunFail → DeskState → DeskState → Type 0
AddsEvent e (Ok x) old new = Adds old new (e ∷ [])
AddsEvent e (Err fail) old new = Adds old new [] ⊎ Adds old new (e ∷ [])

-- events of which none is a resume or lets a request
pub record AddsNoLet (old new : DeskState) : Type 0 where
  pub added : List Event
  pub adds : Adds old new added
  pub no_resume : IsFalse (list_any is_resume added)
  pub no_let : lets_of added ≡ []

-- ---- what was put

-- The requests of a desk's run that are put: those that were let and did not run when the desk was made, and each that was let
-- since.
abbrev pub puts_at : DeskState → List RequestId
puts_at desk = puts (plan_at desk) desk.begun_with (list_at desk)

-- the pass puts into these lanes of the desk's plan, and since the desk was made no event was a resume
pub record IsFilling (lanes : Lanes) (desk : DeskState) (pass : LeadPass) : Type 0 where
  pub own : IsLeadPassOf lanes pass
  pub plan : plan_of lanes ≡ plan_at desk
  pub begun : desk.begun_with ≤ length (list_at desk)
  pub no_resume : IsFalse (list_any is_resume (drop desk.begun_with (list_at desk)))

-- and all of these requests were put, each into the lane of each manager that admits it
pub record AreFilled (lanes : Lanes) (desk : DeskState) (pass : LeadPass) : Type 0 where
  pub filling : IsFilling lanes desk pass
  pub all : puts_of pass ≡ lists_for (plan_at desk) (puts_at desk)

-- and so many of them were put
pub record ArePartlyFilled (lanes : Lanes) (desk : DeskState) (pass : LeadPass) : Type 0 where
  pub filling : IsFilling lanes desk pass
  pub count : ℕ
  pub some : puts_of pass ≡ lists_for (plan_at desk) (take count (puts_at desk))

-- all of them where a step succeeds, and some where it fails
abbrev pub AreFilledAs : {T : Type 0} → Lanes → Result T RunFail → DeskState → LeadPass → Type 0
AreFilledAs lanes (Ok x) desk pass = AreFilled lanes desk pass
AreFilledAs lanes (Err fail) desk pass = ArePartlyFilled lanes desk pass

-- what a step leaves of the lanes, by its answer
pub record Fills {T : Type 0} (lanes : Lanes) (answer : Result T RunFail) (old new : DeskState) (pass : LeadPass) : Type 0 where
  pub begun_with : new.begun_with ≡ old.begun_with
  pub filled : AreFilledAs lanes answer new pass

-- the lists after an event: that of each manager which admits the request that it lets has that one more
abbrev pub joined_after : Plan → Event → List (List RequestId) → List (List RequestId)
joined_after plan (event.LetOut r) lists = joined_by plan (request plan r) lists
joined_after plan e lists = lists

-- ---- a whole run

-- What a run put that began with the first list and has come to the last: all, where it finished its history, and else some. It
-- gives no pass back only where it found no memory.
abbrev pub HasPuts : Plan → List Event → List Event → Result Unit RunFail → Option LeadPass → Type 0
HasPuts plan first last answer None = answer ≡ Err run_fail.NoMemory
HasPuts plan first last (Ok x) (Some pass) = puts_of pass ≡ lists_for plan (puts plan (length first) last)
HasPuts plan first last (Err fail) (Some pass) =
    (count : ℕ) × (puts_of pass ≡ lists_for plan (take count (puts plan (length first) last)))
