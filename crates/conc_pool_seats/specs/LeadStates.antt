-- The lead states of a request in the lead's view.
use Rattle.std.specs.Prelude.{◌≡◌, ◌⊎◌, ℕ, ◌/◌, ◌==◌, Bool, true, false, if◌then◌else◌, List, slice_index_or}
use Rattle.conc_types.specs.declared.event.PlaceId.{PlaceId}
use Rattle.conc_types.specs.declared.event.RequestId.{RequestId}
use Rattle.conc_pool_seats.specs.declared.views.LeadState.{LeadState}
use Rattle.conc_pool_seats.specs.declared.views.LeadState.TheVariants.{NotLet, Let, Seen, Gone, Got, Done}
use Rattle.conc_pool_seats.specs.Words.{claimed, done, ended, idle, place_in, released, request_word, running, stopping}

-- the lead state of the request with this word
abbrev pub lead_state_at : List LeadState → ℕ → LeadState
lead_state_at lead_states i = slice_index_or lead_states i NotLet

-- the lead state of a request; a number that is no request's has none
abbrev pub lead_state_in : List LeadState → RequestId → LeadState
lead_state_in lead_states r = if r.number == 0 then NotLet else lead_state_at lead_states (request_word r)

-- ---- kinds of lead state

-- let out, and not collected yet
abbrev pub IsLive : LeadState → Type 0
IsLive NotLet = ⊥
IsLive Let = Unit {0}
IsLive (Seen p) = Unit {0}
IsLive (Gone p marked) = Unit {0}
IsLive (Got p marked) = Unit {0}
IsLive (Done marked) = ⊥

-- let out, and without the go
abbrev pub IsLet : LeadState → Type 0
IsLet NotLet = ⊥
IsLet Let = Unit {0}
IsLet (Seen p) = Unit {0}
IsLet (Gone p marked) = ⊥
IsLet (Got p marked) = ⊥
IsLet (Done marked) = ⊥

-- with the go, and what is left not with the lead yet
abbrev pub IsGone : LeadState → Type 0
IsGone NotLet = ⊥
IsGone Let = ⊥
IsGone (Seen p) = ⊥
IsGone (Gone p marked) = Unit {0}
IsGone (Got p marked) = ⊥
IsGone (Done marked) = ⊥

abbrev pub IsLetOrGone : LeadState → Type 0
IsLetOrGone lead_state = IsLet lead_state ⊎ IsGone lead_state

-- what was left is not on its way to the lead
abbrev pub IsSettled : LeadState → Type 0
IsSettled (Got p marked) = ⊥
IsSettled lead_state = Unit {0}

-- a stop of the request won
abbrev pub is_marked : LeadState → Bool
is_marked (Gone p marked) = marked
is_marked (Got p marked) = marked
is_marked (Done marked) = marked
is_marked lead_state = false

-- ---- words

-- the word of a request in this lead state may hold this
abbrev pub WordFits : LeadState → ℕ → Type 0
WordFits NotLet n = n ≡ idle
WordFits Let n = (n ≡ released) ⊎ ((p : PlaceId) × (n ≡ claimed p))
WordFits (Seen p) n = n ≡ claimed p
WordFits (Gone p marked) n = (n ≡ running p) ⊎ ((n ≡ stopping p) ⊎ (n ≡ ended p))
WordFits (Got p marked) n = n ≡ ended p
WordFits (Done marked) n = n ≡ done

-- ---- the next lead state

-- after the word was loaded as n
abbrev pub looked : LeadState → ℕ → LeadState
looked Let n = if n / 256 == 1 then Seen (place_in 256 n) else Let
looked lead_state n = lead_state

-- after the go
abbrev pub gone : LeadState → LeadState
gone (Seen p) = Gone p false
gone lead_state = lead_state

-- after a stop that won
abbrev pub marked : LeadState → LeadState
marked (Gone p m) = Gone p true
marked lead_state = lead_state

-- after what was left came to the lead
abbrev pub got : LeadState → LeadState
got (Gone p m) = Got p m
got lead_state = lead_state

-- after the lead took it
abbrev pub cleared : LeadState → LeadState
cleared (Got p m) = Done m
cleared lead_state = lead_state
