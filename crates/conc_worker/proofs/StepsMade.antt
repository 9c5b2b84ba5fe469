-- What calls of a hand make together, one after the other.
use Rattle.std.proofs.Common.{◌≡◌, ℕ, List, [], ◌∷◌, ◌++◌, sym, ap, ◌∙◌, append_assoc}
use Rattle.conc_pool_seats.specs.Words.{end_word}
use Rattle.conc_board.specs.declared.board.Board.{Board}
use Rattle.conc_board.specs.declared.hand.Hand.{Hand}
use Rattle.conc_board.specs.Seats.{AddsOne, Stays, found_by_hand, plan_of}
use Rattle.conc_board.proofs.Hands.{stays_after}
use Rattle.conc_worker.specs.declared.worker.Worker.{Worker}
use Rattle.conc_worker.specs.declared.worker.ToDo.{ToDo}
use Rattle.conc_worker.specs.declared.worker.ToDo.TheVariants as to_do
use Rattle.conc_worker.specs.Working.{Ends, Finds, MakesSteps, SawTheEnd}

-- ---- one call

-- a step on one word
pub step_makes : (board : Board) (word : ℕ) (IsSo : ℕ → Type 0) (old new : Hand) → Stays board old new → AddsOne word IsSo (found_by_hand old) (found_by_hand new) → MakesSteps board old new
step_makes board word IsSo old new stays a = record { hand = stays; steps = (word, a.0) ∷ []; found = a.2 }

-- ---- two calls

both : (old mid new xs ys : List (ℕ × ℕ)) → mid ≡ old ++ xs → new ≡ mid ++ ys → new ≡ old ++ (xs ++ ys)
both old mid new xs ys first second = second ∙ (ap (λ zs. zs ++ ys) first ∙ append_assoc old xs ys)

pub makes_after : (board : Board) (old mid new : Hand) → MakesSteps board old mid → MakesSteps board mid new → MakesSteps board old new
makes_after board old mid new first second = record {
  hand = stays_after board old mid new first.hand second.hand;
  steps = first.steps ++ second.steps;
  found = both (found_by_hand old) (found_by_hand mid) (found_by_hand new) first.steps second.steps first.found second.found;
}

saw_after : (board : Board) (old mid new : Hand) → MakesSteps board old mid → SawTheEnd board mid new → SawTheEnd board old new
saw_after board old mid new first second = let last : List (ℕ × ℕ) = (end_word (plan_of board), 1) ∷ [] in record {
  steps = first.steps ++ second.steps;
  found = both (found_by_hand old) (found_by_hand mid) (found_by_hand new) first.steps (second.steps ++ last) first.found second.found
      ∙ ap (λ zs. found_by_hand old ++ zs) (sym (append_assoc first.steps second.steps last));
}

pub ends_after : (board : Board) (old mid new : Hand) → MakesSteps board old mid → Ends board mid new → Ends board old new
ends_after board old mid new first second = record {
  hand = stays_after board old mid new first.hand second.hand;
  idle = second.idle;
  saw = saw_after board old mid new first second.saw;
}

pub finds_after : (worker : Worker) (old mid new : Hand) (found : ToDo) → MakesSteps worker.board.now old mid → Finds worker found mid new → Finds worker found old new
finds_after worker old mid new (to_do.Serve claim first) made f = (makes_after worker.board.now old mid new made f.0, f.1, f.2)
finds_after worker old mid new to_do.Finish made f = ends_after worker.board.now old mid new made f
