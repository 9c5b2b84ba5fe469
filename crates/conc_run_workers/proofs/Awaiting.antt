-- A request that has the go, and whose report found no memory.
use Rattle.std.proofs.Common.{◌≡◌, ℕ, ◌++◌, List, [], ◌∷◌, Bool, true, false, inl, inr, reverse, Option, Some, Err, is_some, refl, sym, ◌∙◌, ap, subst}
use Rattle.conc_types.specs.declared.event.PlaceId.{PlaceId}
use Rattle.conc_types.specs.declared.event.RequestId.{RequestId}
use Rattle.conc_types.specs.declared.facts.Facts.{Facts}
use Rattle.conc_types.specs.declared.plan.Plan.{Plan}
use Rattle.conc_types.specs.Plans.{request}
use Rattle.conc_types.specs.Words.{some_and}
use Rattle.conc_base_law.specs.Words.{Has}
use Rattle.conc_types.specs.declared.event.Event.{Event}
use Rattle.conc_base_law.specs.State.{facts_at, is_stopping, state}
use Rattle.conc_base_law.proofs.FactsAt.{facts_at-state}
use Rattle.conc_base_law.proofs.Numbering.{numbered_plan}
use Rattle.conc_board.specs.declared.board.Board.{Board}
use Rattle.conc_board.specs.Seats.{TakesMore, plan_of as board_plan, posts_of_lead}
use Rattle.conc_pool_seats.specs.declared.posted.Posted.{Posted}
use Rattle.conc_pool_seats.specs.Words.{IsRequest, request_word}
use Rattle.conc_pool_seats.specs.declared.posted.Posted.TheVariants.{NoMemory, Stopped, Text}
use Rattle.conc_journal.specs.Journals.{list_of}
use Rattle.conc_journal.specs.declared.journal.Journal.{Journal}
use Rattle.conc_run_state.specs.Machines.{Machine, plan_of}
use Rattle.conc_run_state.specs.Works.{list_in}
use Rattle.conc_run_state.specs.declared.work.Work.{Work}
use Rattle.conc_run_steps.specs.Steps.{plan_in}
use Rattle.conc_run_desk.specs.Desks.{list_at, plan_at}
use Rattle.conc_run_desk.specs.Keeping.{AnswersTo, IsTaken, must_stop, must_stop_at, SameList}
use Rattle.conc_run_desk.specs.State.{DeskState}
use Rattle.conc_run_desk.specs.declared.keeping.KeepFail.TheVariants as fails
use Rattle.conc_run_desk.proofs.Ends.{left_in}
use Rattle.conc_run_desk.specs.Ties.{LeadStatesGoWith}
use Rattle.conc_run_workers.specs.Runs.{AwaitsReport, LacksReport}
use Rattle.conc_run_workers.proofs.Crews.{has-last}

-- what was left for it is that
is-none : (stop : Bool) (posted : Posted) → AnswersTo stop posted (Err fails.NoMemory) → posted ≡ NoMemory
is-none true posted answers = let e = answers.1 in absurd (cc)
is-none false NoMemory answers = refl
is-none false (Text made) (inl ready) = let e = ready.1 in absurd (cc)
is-none false (Text made) (inr e) = absurd (cc)
is-none false Stopped answers = absurd answers

-- it need not stop
goes-on : (stop : Bool) (posted : Posted) → AnswersTo stop posted (Err fails.NoMemory) → stop ≡ false
goes-on true posted answers = let e = answers.1 in absurd (cc)
goes-on false posted answers = refl

awaits : (board : Board) (old new : DeskState) (r : RequestId) → board_plan board ≡ plan_at old → IsRequest (board_plan board) r → LeadStatesGoWith (plan_at old) (reverse (list_at old)) old.lead
    → IsTaken board r (Err fails.NoMemory) old new → (waits : AwaitsReport (plan_at old) (list_at old)) × (waits.req.number ≡ r)
awaits board old new r is named tied taken =
    let plan = plan_at old in
    let past = reverse (list_at old) in
    let left = left_in board plan past r old.lead new.lead taken.posted is (subst (λ (p : Plan). IsRequest p r) is named) tied taken.collects taken.left in
    let goes : must_stop plan past r ≡ false = goes-on (must_stop_at old r) taken.posted taken.answers in
    let its_request : request plan r ≡ Some left.req = ap (request plan) (sym left.number) ∙ numbered_plan plan left.req left.there in
    let facts = facts_at-state plan past left.req left.there in (
      record {
        req = left.req;
        there = left.there;
        runs = ap (λ (o : Option PlaceId). is_some o) left.runs.place_is;
        goes_on = sym (ap (λ (f : Facts). is_stopping f) facts) ∙ sym (ap (some_and (λ q. is_stopping (facts_at (state plan past) q))) its_request) ∙ goes;
      },
      left.number,
    )

-- so the desk lacks its report then
pub lacks : (board : Board) (old new : DeskState) (r : RequestId) → board_plan board ≡ plan_at old → IsRequest (board_plan board) r → LeadStatesGoWith (plan_at old) (reverse (list_at old)) old.lead
    → SameList old new → IsTaken board r (Err fails.NoMemory) old new → LacksReport (plan_at new) (list_at new) new.lead
lacks board old new r is named tied same taken =
    let waits = awaits board old new r is named tied taken in
    let none = is-none (must_stop_at old r) taken.posted taken.answers in
    let last : Has (posts_of_lead new.lead) (request_word r, NoMemory) =
    subst (λ (l : List (ℕ × Posted)). Has l (request_word r, NoMemory)) (sym (taken.taken ∙ ap (λ (p : Posted). posts_of_lead old.lead ++ (request_word r, p) ∷ []) none)) (has-last (posts_of_lead old.lead) (request_word r, NoMemory)) in
    subst (λ (z : Plan × List Event). LacksReport z.0 z.1 new.lead)
    (λ i. (ap (λ (m : Machine). plan_of m) (sym same.machine) i, ap (λ (j : Journal). list_of j) (sym same.journal) i))
    (record { awaits = waits.0; handed = subst (λ (z : RequestId). Has (posts_of_lead new.lead) (request_word z, NoMemory)) (sym waits.1) last })

-- it lacks it still after a step on the board alone
pub lacks-still : (old new : DeskState) → new.work ≡ old.work → TakesMore old.lead new.lead → LacksReport (plan_at old) (list_at old) old.lead → LacksReport (plan_at new) (list_at new) new.lead
lacks-still old new same posts lacks =
    subst (λ (w : Work). LacksReport (plan_in w) (list_in w) new.lead) (sym same) (record {
      awaits = lacks.awaits;
      handed = subst (λ (l : List (ℕ × Posted)). Has l (request_word lacks.awaits.req.number, NoMemory)) (sym posts.1) (has-front (posts_of_lead old.lead) posts.0 (request_word lacks.awaits.req.number, NoMemory) lacks.handed);
    })
  where
    has-front : {T : Type 0} (xs ys : List T) (x : T) → Has xs x → Has (xs ++ ys) x
    has-front [] ys x has = absurd has
    has-front (z ∷ xs) ys x (inl here) = inl here
    has-front (z ∷ xs) ys x (inr there) = inr (has-front xs ys x there)
