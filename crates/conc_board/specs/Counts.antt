-- How often a request is given the go, and how often what was left for it is taken.
use Rattle.std.specs.Prelude.{◌≡◌, ℕ, ◌+◌, true, List, [], ◌∷◌}
use Rattle.conc_pool_seats.specs.declared.views.LeadState.{LeadState}
use Rattle.conc_pool_seats.specs.declared.views.LeadState.TheVariants.{Seen, Gone, Got, Done}
use Rattle.conc_pool_seats.specs.LeadStates.{is_marked}

-- 1 where the go was given from one lead state to the next, else 0
abbrev pub go_between : LeadState → LeadState → ℕ
go_between (Seen p) (Gone q marked) = 1
go_between lead_state next = 0

-- 1 where what was left was taken
abbrev pub take_between : LeadState → LeadState → ℕ
take_between (Gone p marked) (Done m) = 1
take_between (Got p marked) (Done m) = 1
take_between lead_state next = 0

-- how often in a course from this lead state on
abbrev pub count_of_goes : LeadState → List LeadState → ℕ
count_of_goes lead_state [] = 0
count_of_goes lead_state (next ∷ rest) = go_between lead_state next + count_of_goes next rest

abbrev pub count_of_takes : LeadState → List LeadState → ℕ
count_of_takes lead_state [] = 0
count_of_takes lead_state (next ∷ rest) = take_between lead_state next + count_of_takes next rest

-- each of these lead states is marked
abbrev pub AreMarked : List LeadState → Type 0
AreMarked [] = Unit {0}
AreMarked (lead_state ∷ rest) = (is_marked lead_state ≡ true) × AreMarked rest
