-- The lead of a pool, after it has taken in the hands of the workers.
use Rattle.std.proofs.Common.{◌≡◌, ◌⊎◌, List, Result, Ok, Err, inl, inr, sym, ◌∙◌, subst, ℕ}
use Rattle.std.specs.Prelude.{OnOk}
use Rattle.conc_types.specs.declared.event.Event.{Event}
use Rattle.conc_types.specs.declared.plan.Plan.{Plan}
use Rattle.conc_base_law.specs.Words.{Has}
use Rattle.conc_board.specs.declared.board.Board.{Board}
use Rattle.conc_board.specs.declared.lead.Lead.{Lead}
use Rattle.conc_board.specs.Seats.{SameLeadStates, SameSwitches, posts_of_lead}
use Rattle.conc_pool_seats.specs.LeadStates.{IsLet}
use Rattle.conc_pool_seats.specs.Words.{request_word}
use Rattle.conc_pool_seats.specs.declared.posted.Posted.{Posted}
use Rattle.conc_pool_seats.specs.declared.posted.Posted.TheVariants.{NoMemory}
use Rattle.conc_run_desk.specs.Desks.{HasOpenWhatIsUsable}
use Rattle.conc_run_state.specs.declared.error.RunFail.{RunFail}
use Rattle.conc_run_state.specs.declared.work.Work.{Work}
use Rattle.conc_run_workers.specs.Resolving.{IsDismissed}
use Rattle.conc_run_workers.specs.Runs.{LacksReport}

-- nothing is let out still, and the workers were told
pub dismissed-still : (board : Board) (old new : Lead) → SameLeadStates old new → SameSwitches old new → IsDismissed board old → IsDismissed board new
dismissed-still board old new same switches dismissed = record {
  none_let = λ r named is. dismissed.none_let r named (subst IsLet (same.each r) is);
  told = switches.each _ ∙ dismissed.told;
}

-- the same places are open
pub opened-still : {T : Type 0} (board : Board) (old new : Lead) (work : Work) (answer : Result T RunFail) → SameSwitches old new → OnOk answer (HasOpenWhatIsUsable board old work) → OnOk answer (HasOpenWhatIsUsable board new work)
opened-still board old new work (Ok x) switches opens = record { each = λ p near. switches.each _ ∙ opens.each p near }
opened-still board old new work (Err fail) switches opens = tt

-- it was handed the same
pub short-by : {plan : Plan} {list : List Event} {old new : Lead} {Untold : Type 0} → posts_of_lead new ≡ posts_of_lead old → LacksReport plan list old ⊎ Untold → LacksReport plan list new ⊎ Untold
short-by {plan} {list} {old} {new} kept (inl lacks) = inl (record {
  awaits = lacks.awaits;
  handed = subst (λ (l : List (ℕ × Posted)). Has l (request_word lacks.awaits.req.number, NoMemory)) (sym kept) lacks.handed;
})
short-by kept (inr untold) = inr untold
