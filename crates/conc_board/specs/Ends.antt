-- The words of a board at its end.
use Rattle.std.specs.Prelude.{◌≡◌, ℕ, ◌≤◌, List, length, slice_index}
use Rattle.conc_types.specs.declared.event.RequestId.{RequestId}
use Rattle.conc_pool_seats.specs.declared.views.LeadState.{LeadState}
use Rattle.conc_pool_seats.specs.declared.views.LeadState.TheVariants.{NotLet, Let, Seen, Gone, Got, Done}
use Rattle.conc_pool_seats.specs.Words.{IsRequest, count_of_requests, count_of_words, done, ended, idle, released, request_word}
use Rattle.conc_board.specs.declared.board.Board.{Board}
use Rattle.conc_board.specs.declared.lead.Lead.{Lead}
use Rattle.conc_board.specs.Seats.{IsAsWritten, lead_state_of, plan_of}

-- the last word of a request, by its lead state: none is Claimed, Running or Stopping
abbrev pub EndFits : LeadState → ℕ → Type 0
EndFits NotLet n = n ≡ idle
EndFits Let n = n ≡ released
EndFits (Seen p) n = ⊥
EndFits (Gone p marked) n = n ≡ ended p
EndFits (Got p marked) n = n ≡ ended p
EndFits (Done marked) n = n ≡ done

-- all words at the end: those of the requests by their lead states, and those of places and of the end as the lead wrote them
pub record Ends (board : Board) (lead : Lead) (words : List ℕ) : Type 0 where
  pub all : length words ≡ count_of_words (plan_of board)
  pub requests : (r : RequestId) → IsRequest (plan_of board) r →
      EndFits (lead_state_of lead r) (slice_index words (request_word r))
  pub switches : (i : ℕ) → count_of_requests (plan_of board) ≤ i → IsAsWritten lead i (slice_index words i)
