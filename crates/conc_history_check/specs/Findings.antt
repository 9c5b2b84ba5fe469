-- What is read of the events before a position.
use Rattle.std.specs.Prelude.{◌≡◌, ◌+◌, ℕ, List, Option}
use Rattle.conc_types.specs.declared.event.Event.{Event}
use Rattle.conc_types.specs.declared.event.Event.TheVariants as event
use Rattle.conc_types.specs.declared.event.Moment.{Moment}
use Rattle.conc_types.specs.declared.plan.Plan.{Plan}
use Rattle.conc_base_law.specs.Before.{earlier_lives}
use Rattle.conc_base_law.specs.Readings.{ticks}
use Rattle.conc_base_law.specs.State.{now, state}
use Rattle.conc_event_reach.specs.Started.{AreStartedWithin}
use Rattle.conc_history_check.specs.declared.findings.Findings.{Findings}
use Rattle.conc_history_check.specs.declared.prepared.Prepared.{Prepared}
use Rattle.conc_history_check.specs.Active.{IsActive, IsFirstUndone}
use Rattle.conc_history_check.specs.Coming.{AreComing}
use Rattle.conc_history_check.specs.Marks.{AreMarks}

-- the last tick of the earlier lives and the ticks of the last life, after one more event
abbrev pub earlier_after : Option Moment → Option Moment → Event → Option Moment
earlier_after now earlier event.Resume = now
earlier_after now earlier _ = earlier

abbrev pub ticks_after : ℕ → Event → ℕ
ticks_after n (event.Tick t) = n + 1
ticks_after n event.Resume = 0
ticks_after n _ = n

-- this is what these events say, the latest of which is given first: the state, the last tick of the
-- earlier lives, and how many ticks the last life has
pub record HasTaken (plan : Plan) (past : List Event) (f : Findings) : Type 0 where
  pub state : f.state ≡ state plan past
  pub earlier : f.earlier ≡ now (earlier_lives past)
  pub ticks : f.ticks ≡ ticks past

-- the same, with the marks of the requests, those whose start has not come, where they may be active, the first command that is
-- not done, and where those stand that were started in this life
pub record AreFindings (plan : Plan) (prepared : Prepared) (past : List Event) (f : Findings) : Type 0 where
  pub taken : HasTaken plan past f
  pub marks : AreMarks plan prepared.classes f.state f.marks
  pub coming : AreComing plan f.state.time f.coming
  pub active : IsActive plan f.state f.active
  pub undone : IsFirstUndone f.state f.undone
  pub started : AreStartedWithin plan f.state.facts f.started
