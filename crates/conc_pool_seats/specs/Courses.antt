-- How the lead state of a request goes on from one call of the lead's to the next.
use Rattle.std.specs.Prelude.{◌≡◌, ◌⊎◌, true, false, List, [], ◌∷◌}
use Rattle.conc_types.specs.declared.event.PlaceId.{PlaceId}
use Rattle.conc_pool_seats.specs.declared.views.LeadState.{LeadState}
use Rattle.conc_pool_seats.specs.declared.views.LeadState.TheVariants.{NotLet, Let, Seen, Gone, Got, Done}

-- the second lead state may come right after the first
abbrev pub MayFollow : LeadState → LeadState → Type 0
MayFollow NotLet next = next ≡ Let
MayFollow Let next = (next ≡ NotLet) ⊎ ((p : PlaceId) × (next ≡ Seen p))
MayFollow (Seen p) next = (next ≡ NotLet) ⊎ (next ≡ Gone p false)
MayFollow (Gone p marked) next = (next ≡ Gone p true) ⊎ (next ≡ Done marked)
MayFollow (Got p marked) next = next ≡ Done marked
MayFollow (Done marked) next = ⊥

-- the lead state stays, or the next one may follow
abbrev pub GoesOn : LeadState → LeadState → Type 0
GoesOn lead_state next = (next ≡ lead_state) ⊎ MayFollow lead_state next

-- these lead states come one after the other, from a first one on
abbrev pub IsCourse : LeadState → List LeadState → Type 0
IsCourse lead_state [] = Unit {0}
IsCourse lead_state (next ∷ rest) = GoesOn lead_state next × IsCourse next rest
