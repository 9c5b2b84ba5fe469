-- Courses of the lead states of one request.
use Rattle.std.proofs.Common.{◌≡◌, ℕ, ◌+◌, ◌≤◌, true, List, [], ◌∷◌, sym, refl, subst, inl, inr, arith}
use Rattle.conc_pool_seats.specs.declared.views.LeadState.{LeadState}
use Rattle.conc_pool_seats.specs.declared.views.LeadState.TheVariants.{NotLet, Let, Seen, Gone, Got, Done}
use Rattle.conc_pool_seats.specs.Courses.{GoesOn, IsCourse}
use Rattle.conc_pool_seats.specs.LeadStates.{is_marked}
use Rattle.conc_board.specs.Counts.{AreMarked, count_of_goes, count_of_takes, go_between, take_between}

-- 1 where the go was given, and what was left is not taken yet
abbrev has_go : LeadState → ℕ
has_go NotLet = 0
has_go Let = 0
has_go (Seen p) = 0
has_go (Gone p m) = 1
has_go (Got p m) = 1
has_go (Done m) = 0

-- 1 where the go may be given still
abbrev may_go : LeadState → ℕ
may_go NotLet = 1
may_go Let = 1
may_go (Seen p) = 1
may_go (Gone p m) = 0
may_go (Got p m) = 0
may_go (Done m) = 0

-- one step takes no more than the gos that were given, and gives no more than may be
abbrev IsFair : LeadState → LeadState → Type 0
IsFair lead_state next = (take_between lead_state next + has_go next ≤ go_between lead_state next + has_go lead_state) × (go_between lead_state next + may_go next ≤ may_go lead_state) × (is_marked lead_state ≡ true → is_marked next ≡ true)

fair-same : (lead_state : LeadState) → IsFair lead_state lead_state
fair-same NotLet = (omega arith, omega arith, λ e. e)
fair-same Let = (omega arith, omega arith, λ e. e)
fair-same (Seen p) = (omega arith, omega arith, λ e. e)
fair-same (Gone p m) = (omega arith, omega arith, λ e. e)
fair-same (Got p m) = (omega arith, omega arith, λ e. e)
fair-same (Done m) = (omega arith, omega arith, λ e. e)

fair : (lead_state next : LeadState) → GoesOn lead_state next → IsFair lead_state next
fair lead_state next (inl e) = subst (IsFair lead_state) (sym e) (fair-same lead_state)
fair NotLet next (inr e) = subst (IsFair NotLet) (sym e) (omega arith, omega arith, λ x. x)
fair Let next (inr (inl e)) = subst (IsFair Let) (sym e) (omega arith, omega arith, λ x. x)
fair Let next (inr (inr e)) = subst (IsFair Let) (sym e.1) (omega arith, omega arith, λ x. x)
fair (Seen p) next (inr (inl e)) = subst (IsFair (Seen p)) (sym e) (omega arith, omega arith, λ x. x)
fair (Seen p) next (inr (inr e)) = subst (IsFair (Seen p)) (sym e) (omega arith, omega arith, λ x. x)
fair (Gone p m) next (inr (inl e)) = subst (IsFair (Gone p m)) (sym e) (omega arith, omega arith, λ x. refl)
fair (Gone p m) next (inr (inr e)) = subst (IsFair (Gone p m)) (sym e) (omega arith, omega arith, λ x. x)
fair (Got p m) next (inr e) = subst (IsFair (Got p m)) (sym e) (omega arith, omega arith, λ x. x)
fair (Done m) next (inr e) = absurd e

takes-from : (lead_state : LeadState) (lead_states : List LeadState) → IsCourse lead_state lead_states → count_of_takes lead_state lead_states ≤ count_of_goes lead_state lead_states + has_go lead_state
takes-from lead_state [] c = omega arith
takes-from lead_state (next ∷ rest) c = let one = (fair lead_state next c.0).0 in let more = takes-from next rest c.1 in omega arith

pub takes : (lead_states : List LeadState) → IsCourse NotLet lead_states → count_of_takes NotLet lead_states ≤ count_of_goes NotLet lead_states
takes lead_states c = let t = takes-from NotLet lead_states c in omega arith

goes-from : (lead_state : LeadState) (lead_states : List LeadState) → IsCourse lead_state lead_states → count_of_goes lead_state lead_states ≤ may_go lead_state
goes-from lead_state [] c = omega arith
goes-from lead_state (next ∷ rest) c = let one = (fair lead_state next c.0).1 in let more = goes-from next rest c.1 in omega arith

pub goes : (lead_states : List LeadState) → IsCourse NotLet lead_states → count_of_goes NotLet lead_states ≤ 1
goes lead_states c = goes-from NotLet lead_states c

pub marks : (lead_state : LeadState) (lead_states : List LeadState) → IsCourse lead_state lead_states → is_marked lead_state ≡ true → AreMarked lead_states
marks lead_state [] c e = tt
marks lead_state (next ∷ rest) c e = let now = (fair lead_state next c.0).2 e in (now, marks next rest c.1 now)
