-- What a look answers, by the lead state of the request.
use Rattle.std.proofs.Common.{◌≡◌, ℕ, ◌/◌, ◌≤◌, ◌==◌, if◌then◌else◌, Bool, true, false, sym, refl, ap, subst, inl, inr, ⊎_elim, arith, eq-eqb, ne_eqb, Some}
use mathlib.Core.Logic.{dite}
use native.Mathlib.Decide.{ℕ_discrete}
use Rattle.conc_types.specs.declared.event.PlaceId.{PlaceId}
use Rattle.conc_types.specs.declared.plan.Plan.{Plan}
use Rattle.conc_base_law.specs.Places.{count_of_places}
use Rattle.conc_pool_seats.specs.declared.views.LeadState.{LeadState}
use Rattle.conc_pool_seats.specs.declared.views.LeadState.TheVariants.{NotLet, Let, Seen, Gone, Got, Done}
use Rattle.conc_pool_seats.specs.Courses.{GoesOn}
use Rattle.conc_pool_seats.specs.LeadStates.{IsLet, IsLetOrGone, IsSettled, WordFits, looked}
use Rattle.conc_pool_seats.specs.Steps.{HasPlace, LookFits}
use Rattle.conc_pool_seats.specs.Words.{IsPlace, claimed, place_in, released}
use Rattle.conc_pool_seats.proofs.Facts.{place_eq}
use Rattle.conc_board.specs.declared.lead.Looked.{Looked}
use Rattle.conc_board.specs.declared.lead.Looked.TheVariants.{Free, Claimed, Running, Ended}
use Rattle.conc_board.specs.Answers.{LookedBy}
use Rattle.conc_board.specs.Looks.{Looks, Shows}

-- ---- the lead state goes on

pub looked_goes_on : (st : LeadState) (n : ℕ) → GoesOn st (looked st n)
looked_goes_on NotLet n = inl refl
looked_goes_on Let n = go (n / 256 == 1)
  where
    go : (b : Bool) → GoesOn Let (if b then Seen (place_in 256 n) else Let)
    go true = inr (inr (place_in 256 n, refl))
    go false = inl refl
looked_goes_on (Seen p) n = inl refl
looked_goes_on (Gone p m) n = inl refl
looked_goes_on (Got p m) n = inl refl
looked_goes_on (Done m) n = inl refl

pub looked_settled : (st : LeadState) (n : ℕ) → IsSettled st → IsSettled (looked st n)
looked_settled NotLet n calm = tt
looked_settled Let n calm = go (n / 256 == 1)
  where
    go : (b : Bool) → IsSettled (if b then Seen (place_in 256 n) else Let)
    go true = tt
    go false = tt
looked_settled (Seen p) n calm = tt
looked_settled (Gone p m) n calm = tt
looked_settled (Got p m) n calm = calm
looked_settled (Done m) n calm = tt

pub back_goes_on : (st : LeadState) → IsLet st → GoesOn st NotLet
back_goes_on NotLet is = absurd is
back_goes_on Let is = inr (inl refl)
back_goes_on (Seen p) is = inr (inl refl)
back_goes_on (Gone p m) is = absurd is
back_goes_on (Got p m) is = absurd is
back_goes_on (Done m) is = absurd is

-- ---- the answer

module _ (plan : Plan) (few : count_of_places plan ≤ 64) (n : ℕ) where
  free_so : (answer : Looked) → n ≡ released → LookedBy answer n → Looks plan answer Let Let × Shows answer n
  free_so Free fits l = ((refl, refl), fits)
  free_so (Claimed p) fits l = let e = l.1 in absurd (omega arith)
  free_so (Running p) fits (small, inl e) = absurd (omega arith)
  free_so (Running p) fits (small, inr e) = absurd (omega arith)
  free_so (Ended p) fits l = let e = l.1 in absurd (omega arith)

  seen_so : (answer : Looked) (st : LeadState) (q : PlaceId) → IsLet st → IsPlace plan q → n ≡ claimed q → LookedBy answer n → Looks plan answer st (Seen q) × Shows answer n
  seen_so Free st q is near fits (inl l) = absurd (omega arith)
  seen_so Free st q is near fits (inr l) = absurd (omega arith)
  seen_so (Claimed p) st q is near fits (small, e) = let same : q ≡ p = place_eq q p (omega arith) in ((subst (IsPlace plan) same near, is, ap Seen same), e)
  seen_so (Running p) st q is near fits (small, inl e) = absurd (omega arith)
  seen_so (Running p) st q is near fits (small, inr e) = absurd (omega arith)
  seen_so (Ended p) st q is near fits (small, e) = absurd (omega arith)

  gone_so : (answer : Looked) (q : PlaceId) (m : Bool) → IsPlace plan q → WordFits (Gone q m) n → LookedBy answer n → Looks plan answer (Gone q m) (Gone q m) × Shows answer n
  gone_so Free q m near fits (inl l) = absurd (⊎_elim (λ e. omega arith) (λ f. ⊎_elim (λ e. omega arith) (λ e. omega arith) f) fits)
  gone_so Free q m near fits (inr l) = absurd (⊎_elim (λ e. omega arith) (λ f. ⊎_elim (λ e. omega arith) (λ e. omega arith) f) fits)
  gone_so (Claimed p) q m near fits (small, e) = absurd (⊎_elim (λ x. omega arith) (λ f. ⊎_elim (λ x. omega arith) (λ x. omega arith) f) fits)
  gone_so (Running p) q m near (inl x) (small, inl e) = let same : q ≡ p = place_eq q p (omega arith) in ((subst (IsPlace plan) same near, (m, (λ i. Gone (same i) m), refl)), inl e)
  gone_so (Running p) q m near (inr (inl x)) (small, inl e) = absurd (omega arith)
  gone_so (Running p) q m near (inr (inr x)) (small, inl e) = absurd (omega arith)
  gone_so (Running p) q m near (inl x) (small, inr e) = absurd (omega arith)
  gone_so (Running p) q m near (inr (inl x)) (small, inr e) = let same : q ≡ p = place_eq q p (omega arith) in ((subst (IsPlace plan) same near, (m, (λ i. Gone (same i) m), refl)), inr e)
  gone_so (Running p) q m near (inr (inr x)) (small, inr e) = absurd (omega arith)
  gone_so (Ended p) q m near (inl x) (small, e) = absurd (omega arith)
  gone_so (Ended p) q m near (inr (inl x)) (small, e) = absurd (omega arith)
  gone_so (Ended p) q m near (inr (inr x)) (small, e) = let same : q ≡ p = place_eq q p (omega arith) in ((subst (IsPlace plan) same near, (m, (λ i. Gone (same i) m), refl)), e)

  pub looked_so : (answer : Looked) (st : LeadState) → IsLetOrGone st → HasPlace (Some plan) (looked st n) → LookFits (looked st n) n → LookedBy answer n →
      Looks plan answer st (looked st n) × Shows answer n
  looked_so answer NotLet is near fits l = absurd (⊎_elim (λ x. x) (λ x. x) is)
  looked_so answer Let is near fits l = dite (ℕ_discrete (n / 256) 1)
      (λ e. subst (λ b. HasPlace (Some plan) (if b then Seen (place_in 256 n) else Let) → LookFits (if b then Seen (place_in 256 n) else Let) n → Looks plan answer Let (if b then Seen (place_in 256 n) else Let) × Shows answer n)
      (sym (eq-eqb (n / 256) 1 e)) (λ near fits. seen_so answer Let (place_in 256 n) tt near fits l) near fits)
      (λ ne. subst (λ b. HasPlace (Some plan) (if b then Seen (place_in 256 n) else Let) → LookFits (if b then Seen (place_in 256 n) else Let) n → Looks plan answer Let (if b then Seen (place_in 256 n) else Let) × Shows answer n)
      (sym (ne_eqb (n / 256) 1 ne)) (λ near fits. free_so answer fits l) near fits)
  looked_so answer (Seen p) is near fits l = seen_so answer (Seen p) p tt near fits l
  looked_so answer (Gone p m) is near fits l = gone_so answer p m near fits l
  looked_so answer (Got p m) is near fits l = absurd (⊎_elim (λ x. x) (λ x. x) is)
  looked_so answer (Done m) is near fits l = absurd (⊎_elim (λ x. x) (λ x. x) is)
