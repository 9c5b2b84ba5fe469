-- How far the lead is.
use Rattle.std.specs.Prelude.{◌≡◌, ℕ, ◌+◌, ◌<◌, ◌≤◌}
use Rattle.conc_types.specs.declared.event.RequestId.{RequestId}
use Rattle.conc_pool_seats.specs.declared.views.LeadState.{LeadState}
use Rattle.conc_pool_seats.specs.declared.views.LeadState.TheVariants.{NotLet}
use Rattle.conc_board.specs.declared.board.Board.{Board}
use Rattle.conc_board.specs.declared.lead.Lead.{Lead}
use Rattle.conc_board.specs.Seats.{IsLeadOf, lead_state_of}

-- each request after this number is not let out
pub record IsFresh (board : Board) (first : ℕ) (lead : Lead) : Type 0 where
  pub of_board : IsLeadOf board lead
  pub after : (r : RequestId) → first < r.number → lead_state_of lead r ≡ NotLet

-- so is each after the round that begins after this number, whose requests are in such lead states
pub record AreSo (board : Board) (first : ℕ) (IsSo : LeadState → Type 0) (lead : Lead) : Type 0 where
  pub of_board : IsLeadOf board lead
  pub so : (r : RequestId) → first < r.number → r.number ≤ first + 64 → IsSo (lead_state_of lead r)
  pub after : (r : RequestId) → first + 64 < r.number → lead_state_of lead r ≡ NotLet
