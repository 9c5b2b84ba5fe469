-- What one event leaves as it was of a request that it is not about.
use Rattle.std.proofs.Common.{◌≡◌, ℕ, Bool, true, false, List, ◌∷◌, refl, inl, inr}
use Rattle.conc_types.specs.declared.event.Event.{Event}
use Rattle.conc_types.specs.declared.event.Event.TheVariants as event
use Rattle.conc_types.specs.declared.event.RequestId.{RequestId}
use Rattle.conc_types.specs.declared.plan.Plan.{Plan}
use Rattle.conc_types.specs.declared.plan.Req.{Req}
use Rattle.conc_base_law.specs.Facts.{cancels, current_stage, facts_of, holds, is_let, is_open, running_place, unlets, was_completed, was_started}
use Rattle.conc_base_law.specs.Kinds.{act_of, is_resume}
use Rattle.conc_base_law.specs.Before.{last_life}
use Rattle.conc_base_law.specs.Words.{id_eq}
use Rattle.conc_base_law.proofs.Completed.{was_completed-more}
use Rattle.conc_base_law.proofs.LiveApart.{is_let-more}
use Rattle.conc_base_law.proofs.Weights.{IsKept}

-- the event opens, steps, closes, lets out, starts, ends or interrupts the request
abbrev pub is_about : RequestId → Event → Bool
is_about r (event.OpenSet s) = id_eq s r
is_about r (event.Stage s k) = id_eq s r
is_about r (event.CloseSet s o) = id_eq s r
is_about r (event.LetOut q) = id_eq q r
is_about r (event.Started q p) = id_eq q r
is_about r (event.Ended q o x) = id_eq q r
is_about r (event.Interrupt q) = id_eq q r
is_about r _ = false

-- the event does a command
abbrev pub does : Event → Bool
does (event.Command n) = true
does _ = false

-- an event keeps the facts of a request that it is not about, but for its completion and its let
pub others_kept : (plan : Plan) (past : List Event) (r : Req) (e : Event) → is_resume e ≡ false → is_about r.number e ≡ false
    → IsKept (facts_of plan past r) (facts_of plan (e ∷ past) r)
unfolding facts_of was_completed was_started running_place is_open current_stage last_life
others_kept plan past r (event.Tick t) n h = record { place = refl; started = refl; opened = refl; stage = refl; completed = was_completed-more plan past r (event.Tick t) }
others_kept plan past r (event.Command k) n h = record { place = refl; started = refl; opened = refl; stage = refl; completed = was_completed-more plan past r (event.Command k) }
others_kept plan past r (event.OpenSet s) n h = record { place = refl; started = refl; opened = rw h refl; stage = refl; completed = was_completed-more plan past r (event.OpenSet s) }
others_kept plan past r (event.Stage s k) n h = record { place = refl; started = refl; opened = refl; stage = rw h refl; completed = was_completed-more plan past r (event.Stage s k) }
others_kept plan past r (event.CloseSet s o) n h = record { place = refl; started = refl; opened = rw h refl; stage = refl; completed = was_completed-more plan past r (event.CloseSet s o) }
others_kept plan past r (event.LetOut q) n h = record { place = refl; started = refl; opened = refl; stage = refl; completed = was_completed-more plan past r (event.LetOut q) }
others_kept plan past r (event.Started q p) n h = record { place = rw h refl; started = rw h refl; opened = refl; stage = refl; completed = was_completed-more plan past r (event.Started q p) }
others_kept plan past r (event.Ended q o x) n h = record { place = rw h refl; started = refl; opened = refl; stage = refl; completed = was_completed-more plan past r (event.Ended q o x) }
others_kept plan past r event.Resume n h = cc
others_kept plan past r (event.Interrupt q) n h = record { place = rw h refl; started = refl; opened = refl; stage = refl; completed = was_completed-more plan past r (event.Interrupt q) }

-- an event that does no command keeps the let of a request that it is not about
pub others_let : (plan : Plan) (past : List Event) (r : Req) (e : Event) → does e ≡ false → is_about r.number e ≡ false
    → is_let plan (e ∷ past) r ≡ is_let plan past r
unfolding is_let unlets holds cancels act_of
others_let plan past r (event.Tick t) n h = refl
others_let plan past r (event.Command k) n h = cc
others_let plan past r (event.OpenSet s) n h = refl
others_let plan past r (event.Stage s k) n h = refl
others_let plan past r (event.CloseSet s o) n h = refl
others_let plan past r (event.LetOut q) n h = rw h refl
others_let plan past r (event.Started q p) n h = refl
others_let plan past r (event.Ended q o x) n h = rw h refl
others_let plan past r event.Resume n h = refl
others_let plan past r (event.Interrupt q) n h = rw h refl

-- a command lets no request
pub command_lets_not : (plan : Plan) (past : List Event) (r : Req) (n : ℕ) → is_let plan (event.Command n ∷ past) r ≡ true → is_let plan past r ≡ true
command_lets_not plan past r n h = elim (is_let-more plan past r (event.Command n) h) [ inl e ↦ cc | inr s ↦ s.1 ]
