-- A desk at which something was taken for an end.
use Rattle.std.proofs.Common.{◌≡◌, ◌++◌, [], ◌∷◌, Bool, true, false, reverse, Option, None, Some, Ok, Err, refl, sym, ◌∙◌, ap, subst, inl, inr}
use Rattle.std.specs.Prelude.{unwrap_or}
use Rattle.conc_types.specs.declared.event.Event.{Event}
use Rattle.conc_types.specs.declared.event.RequestId.{RequestId}
use Rattle.conc_types.specs.declared.facts.Facts.{Facts}
use Rattle.conc_types.specs.declared.plan.Plan.{Plan}
use Rattle.conc_types.specs.declared.plan.Req.{Req}
use Rattle.conc_base_law.specs.Facts.{facts_of}
use Rattle.conc_base_law.specs.Law.{Lawful}
use Rattle.conc_base_law.specs.Next.{forced}
use Rattle.conc_base_law.specs.State.{state}
use Rattle.conc_board.specs.declared.board.Board.{Board}
use Rattle.conc_board.specs.declared.lead.Lead.{Lead}
use Rattle.conc_board.specs.Seats.{Changes, IsLeftFor, lead_state_of, plan_of as board_plan}
use Rattle.conc_board.specs.Stops.{Collects}
use Rattle.conc_pool_seats.specs.declared.posted.Posted.{Posted}
use Rattle.conc_pool_seats.specs.declared.posted.Posted.TheVariants.{Text, Stopped, NoMemory}
use Rattle.conc_pool_seats.specs.declared.views.LeadState.{LeadState}
use Rattle.conc_pool_seats.specs.LeadStates.{IsGone}
use Rattle.conc_pool_seats.specs.Words.{IsRequest}
use Rattle.conc_disk.specs.Disk.{DiskState}
use Rattle.conc_journal.specs.Journals.{list_of}
use Rattle.conc_journal.specs.declared.journal.Journal.{Journal}
use Rattle.conc_run_state.specs.Machines.{Machine, plan_of, readings_of}
use Rattle.conc_run_choice.specs.declared.choosing.Next.{Next}
use Rattle.conc_run_state.specs.Works.{list_in}
use Rattle.conc_run_state.specs.declared.work.Work.{Work}
use Rattle.conc_run_steps.specs.Steps.{any_disk, IsTied, plan_in, readings_in}
use Rattle.conc_run_steps.proofs.Pending.{tied-without}
use Rattle.conc_run_desk.specs.Keeping.{AnswersTo, end_in, IsLeftIn, MakesOf}
use Rattle.conc_run_desk.specs.Kept.{MayBeKept}
use Rattle.conc_run_desk.specs.Seated.{IsSeated}
use Rattle.conc_run_desk.specs.State.{IsDesk}
use Rattle.conc_run_desk.specs.declared.keeping.KeepFail.TheVariants as fails
use Rattle.conc_run_desk.specs.declared.keeping.Kept.TheVariants as keeps
use Rattle.conc_run_desk.proofs.Ends.{end_lawful, is_its_end, IsEndOf, left_in}
use Rattle.conc_run_desk.proofs.Moves.{moved}
use Rattle.conc_run_desk.specs.Ties.{GoesWith, LeadStatesGoWith, RunsAt}

-- ---- what is answered, by what was made of it

pub answers-none : (stop : Bool) (posted : Posted) → MakesOf stop posted None → AnswersTo stop posted (Err fails.NoMemory)
answers-none true posted makes = absurd makes
answers-none false (Text made) makes = cc
answers-none false NoMemory makes = refl
answers-none false Stopped makes = absurd makes

pub answers-ready : (stop : Bool) (posted : Posted) (next : Next) (e : Event) → MakesOf stop posted (Some next) → AnswersTo stop posted (Ok (keeps.Ready e))
answers-ready true posted next e makes = (e, refl)
answers-ready false (Text made) next e makes = inl (e, refl)
answers-ready false NoMemory next e makes = cc
answers-ready false Stopped next e makes = absurd makes

pub answers-fault : (stop : Bool) (posted : Posted) (next : Next) → MakesOf stop posted (Some next) → (next.text ≡ None → ⊥) → AnswersTo stop posted (Err fails.SpoolFault)
answers-fault true posted next makes some = absurd (some makes)
answers-fault false (Text made) next makes some = inr refl
answers-fault false NoMemory next makes some = cc
answers-fault false Stopped next makes some = absurd makes

-- ---- the desk then

module _ (board : Board) (r : RequestId) (own : Plan) (work : Work) (old new : Lead) (is : board_plan board ≡ plan_in work) (desk : IsDesk own old work None) (changes : Changes board r old new) (collects : Collects r old new) where
  done_goes : (x : Req) → LeadStatesGoWith (plan_in work) (reverse (list_in work)) old → (facts : Facts) → GoesWith (lead_state_of old r) facts → GoesWith (lead_state_of new r) facts
  done_goes x tied facts goes =
      let ran : RunsAt collects.place collects.marked facts = subst (λ (z : LeadState). GoesWith z facts) collects.was goes in
      subst (λ (z : LeadState). GoesWith z facts) (sym collects.now) ran.started

  pub not_gone : IsGone (lead_state_of new r) → ⊥
  not_gone now = subst IsGone collects.now now

  -- nothing is kept
  pub taken : IsDesk own new work None
  taken =
      moved board r work None old new changes own is desk
      (λ x hx e. done_goes x desk.tied (facts_of (plan_in work) (reverse (list_in work)) x)
      (subst (λ (z : RequestId). GoesWith (lead_state_of old z) (facts_of (plan_in work) (reverse (list_in work)) x)) e (desk.tied.each x hx)))
      (λ now. absurd (not_gone now))

-- with another spool, and what is kept
pub with_kept : (own : Plan) (work work' : Work) (kept : Option Event) (lead : Lead) → work'.machine ≡ work.machine → work'.journal ≡ work.journal → IsDesk own lead work None
    → IsTied kept work' any_disk any_disk → MayBeKept kept work' lead → IsDesk own lead work' kept
with_kept own work work' kept lead machine journal desk tied may = record {
  plan_is = desk.plan_is ∙ ap plan_of (sym machine);
  seated = subst (λ (m : Machine). IsSeated (plan_of m) lead) (sym machine) desk.seated;
  parts = tied;
  tied = subst (λ (z : Machine × Journal). LeadStatesGoWith (plan_of z.0) (reverse (list_of z.1)) lead) (λ i. (sym machine i, sym journal i)) desk.tied;
  may_be_kept = may;
}

-- the end of a request that has no go may be kept
pub may_keep : (work : Work) (lead : Lead) (r : RequestId) (e : Event) → IsEndOf r e → Lawful (plan_in work) (readings_in work) (list_in work ++ e ∷ [])
    → (IsGone (lead_state_of lead r) → ⊥) → MayBeKept (Some e) work lead
may_keep work lead r e (o, x, is) lawful none = subst (λ (d : Event). MayBeKept (Some d) work lead) is (subst (λ (d : Event). Lawful (plan_in work) (readings_in work) (list_in work ++ d ∷ [])) (sym is) lawful, none)

-- ---- a call to keep an end

module _ (board : Board) (own : Plan) (work : Work) (kept : Option Event) (old new : Lead) (r : RequestId) (posted : Posted) (is : board_plan board ≡ plan_in work)
    (desk : IsDesk own old work kept) (none : kept ≡ None) (named : IsRequest (board_plan board) r) (changes : Changes board r old new) (collects : Collects r old new)
    (left : IsLeftFor board old r posted) where
  pub nothing_kept : IsDesk own old work None
  nothing_kept = subst (λ (k : Option Event). IsDesk own old work k) none desk

  its_left : IsLeftIn (plan_in work) (reverse (list_in work)) r posted
  its_left = left_in board (plan_in work) (reverse (list_in work)) r old new posted is (subst (λ (p : Plan). IsRequest p r) is named) desk.tied collects left

  pub is_left : IsLeftIn own (reverse (list_in work)) r posted
  is_left = subst (λ (p : Plan). IsLeftIn p (reverse (list_in work)) r posted) (sym desk.plan_is) its_left

  module _ (e : Event) (calm : forced (plan_in work) (state (plan_in work) (reverse (list_in work))) ≡ None) (end : end_in own (reverse (list_in work)) r ≡ Some e) where
    pub its_end : end_in (plan_in work) (reverse (list_in work)) r ≡ Some e
    its_end = subst (λ (p : Plan). end_in p (reverse (list_in work)) r ≡ Some e) desk.plan_is end

    pub lawful_with : Lawful (plan_in work) (readings_in work) (list_in work ++ e ∷ [])
    lawful_with = end_lawful (plan_in work) (readings_in work) (list_in work) r posted e desk.parts.lawful calm its_left its_end

    pub desk_with : (work' : Work) (spool : DiskState) → work'.machine ≡ work.machine → work'.journal ≡ work.journal → IsTied (Some e) work' any_disk spool → IsDesk own new work' (Some e)
    desk_with work' spool machine journal tied =
        let lawful = subst (λ (z : Machine × Journal). Lawful (plan_of z.0) (unwrap_or (readings_of z.0) []) (list_of z.1 ++ e ∷ [])) (λ i. (sym machine i, sym journal i)) lawful_with in
        with_kept own work work' (Some e) new machine journal (taken board r own work old new is nothing_kept changes collects)
        (tied-without (plan_in work') (readings_in work') (Some e) work' any_disk spool tied)
        (may_keep work' new r e (is_its_end (plan_in work) (reverse (list_in work)) r posted e its_left its_end) lawful
        (not_gone board r own work old new is nothing_kept changes collects))
