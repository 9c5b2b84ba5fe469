-- A board as it is at one moment.
use Rattle.std.specs.Prelude.{ℕ, Bool, List, slice_index, IsFalse}
use Rattle.conc_types.specs.declared.event.Event.{Event}
use Rattle.conc_types.specs.declared.event.PlaceId.{PlaceId}
use Rattle.conc_types.specs.declared.event.RequestId.{RequestId}
use Rattle.conc_types.specs.declared.plan.Plan.{Plan}
use Rattle.conc_types.specs.Words.{some_and}
use Rattle.conc_base_law.specs.Places.{is_usable}
use Rattle.conc_base_law.specs.State.{now}
use Rattle.conc_pool_seats.specs.Rule.{BoardState, Home, home_at, view_at}
use Rattle.conc_pool_seats.specs.Words.{request_word}
use Rattle.conc_pool_seats.specs.declared.views.Doing.{Doing}

-- the word of a request, and what is at home in its slot
abbrev pub word_of : BoardState → RequestId → ℕ
word_of s r = slice_index s.words (request_word r)

abbrev pub slot_of : BoardState → RequestId → Home
slot_of s r = home_at s.homes (request_word r)

-- what the seat with this number does
abbrev pub doing_in : BoardState → ℕ → Doing
doing_in s hand = (view_at s.views hand).doing

-- the seat with this number is not the lead's
abbrev pub IsHandIn : BoardState → ℕ → Type 0
IsHandIn s hand = IsFalse (view_at s.views hand).leads

-- the place may be used at the last reading
abbrev pub is_usable_after : Plan → List Event → PlaceId → Bool
is_usable_after plan past p = some_and (λ t. is_usable plan t p) (now past)
