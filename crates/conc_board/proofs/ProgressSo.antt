-- How far a request has come, by its lead state and its word.
use Rattle.std.proofs.Common.{◌≡◌, ℕ, ◌/◌, ◌≤◌, ◌⊎◌, ◌==◌, if◌then◌else◌, Bool, true, false, refl, inl, inr, ⊎_elim, arith, Some}
use Rattle.conc_types.specs.declared.event.PlaceId.{PlaceId}
use Rattle.conc_types.specs.declared.plan.Plan.{Plan}
use Rattle.conc_base_law.specs.Places.{count_of_places}
use Rattle.conc_pool_seats.specs.declared.views.LeadState.{LeadState}
use Rattle.conc_pool_seats.specs.declared.views.LeadState.TheVariants.{NotLet, Let, Seen, Gone, Got, Done}
use Rattle.conc_pool_seats.specs.LeadStates.{IsLet, IsSettled, WordFits, looked}
use Rattle.conc_pool_seats.specs.Steps.{HasPlace, LookFits}
use Rattle.conc_pool_seats.specs.Words.{IsPlace, claimed, done, idle, place_in, released}
use Rattle.conc_board.specs.declared.lead.Progress.{Progress}
use Rattle.conc_board.specs.declared.lead.Progress.TheVariants as progress
use Rattle.conc_board.specs.Answers.{ProgressBy}
use Rattle.conc_board.specs.Looks.{HasProgress, LooksOn}

-- what was found fits the lead state before the load too
pub fits_before : (st : LeadState) (n : ℕ) → LookFits (looked st n) n → WordFits st n
fits_before NotLet n fits = fits
fits_before Let n fits = go (n / 256 == 1) fits
  where
    go : (b : Bool) → LookFits (if b then Seen (place_in 256 n) else Let) n → WordFits Let n
    go true fits = inr (place_in 256 n, fits)
    go false fits = inl fits
fits_before (Seen p) n fits = fits
fits_before (Gone p m) n fits = fits
fits_before (Got p m) n fits = fits
fits_before (Done m) n fits = fits

-- the lead state stays, or the claim is seen
pub looks_on : (st : LeadState) (n : ℕ) → LooksOn st (looked st n)
looks_on NotLet n = refl
looks_on Let n = go (n / 256 == 1)
  where
    go : (b : Bool) → LooksOn Let (if b then Seen (place_in 256 n) else Let)
    go true = inr (place_in 256 n, refl)
    go false = inl refl
looks_on (Seen p) n = refl
looks_on (Gone p m) n = refl
looks_on (Got p m) n = refl
looks_on (Done m) n = refl

module _ (plan : Plan) (few : count_of_places plan ≤ 64) (n : ℕ) where
  let_so : (answer : Progress) (p : PlaceId) → (n ≡ released) ⊎ (IsPlace plan p × (n ≡ claimed p)) → ProgressBy answer n → (st : LeadState) → IsLet st → HasProgress answer st
  let_so progress.NotLet p (inl e) by st is = absurd (omega arith)
  let_so progress.NotLet p (inr (near, e)) by st is = absurd (omega arith)
  let_so progress.Let p fits by st is = is
  let_so progress.Gone p (inl e) by st is = absurd (omega (arith, by.0))
  let_so progress.Gone p (inr (near, e)) by st is = absurd (by.1 (omega (arith, near.within)))
  let_so progress.Done p (inl e) by st is = absurd (omega arith)
  let_so progress.Done p (inr (near, e)) by st is = absurd (omega arith)

  gone_so : (answer : Progress) (p : PlaceId) (m : Bool) → IsPlace plan p → WordFits (Gone p m) n → ProgressBy answer n → HasProgress answer (Gone p m)
  gone_so progress.NotLet p m near fits by = absurd (⊎_elim (λ e. omega arith) (λ f. ⊎_elim (λ e. omega arith) (λ e. omega arith) f) fits)
  gone_so progress.Let p m near fits (inl by) = absurd (⊎_elim (λ e. omega arith) (λ f. ⊎_elim (λ e. omega arith) (λ e. omega arith) f) fits)
  gone_so progress.Let p m near fits (inr by) =
      absurd (⊎_elim (λ e. omega (arith, near.within)) (λ f. ⊎_elim (λ e. omega (arith, near.within)) (λ e. omega (arith, near.within)) f) fits)
  gone_so progress.Gone p m near fits by = tt
  gone_so progress.Done p m near fits by = absurd (⊎_elim (λ e. omega arith) (λ f. ⊎_elim (λ e. omega arith) (λ e. omega arith) f) fits)

  idle_so : (answer : Progress) → n ≡ idle → ProgressBy answer n → HasProgress answer NotLet
  idle_so progress.NotLet e by = refl
  idle_so progress.Let e (inl by) = absurd (omega arith)
  idle_so progress.Let e (inr by) = absurd (omega arith)
  idle_so progress.Gone e by = absurd (omega (arith, by.0))
  idle_so progress.Done e by = absurd (omega arith)

  done_so : (answer : Progress) (m : Bool) → n ≡ done → ProgressBy answer n → HasProgress answer (Done m)
  done_so progress.NotLet m e by = absurd (omega arith)
  done_so progress.Let m e (inl by) = absurd (omega arith)
  done_so progress.Let m e (inr by) = absurd (omega arith)
  done_so progress.Gone m e by = absurd (omega (arith, by.0))
  done_so progress.Done m e by = (m, refl)

  let_or_seen : (b : Bool) → HasPlace (Some plan) (if b then Seen (place_in 256 n) else Let) → LookFits (if b then Seen (place_in 256 n) else Let) n
      → (answer : Progress) → ProgressBy answer n → HasProgress answer Let
  let_or_seen true near fits answer by = let_so answer (place_in 256 n) (inr (near, fits)) by Let tt
  let_or_seen false near fits answer by = let_so answer (place_in 256 n) (inl fits) by Let tt

  -- the answer tells how far the request had come
  pub progress_so : (answer : Progress) (st : LeadState) → IsSettled st → HasPlace (Some plan) (looked st n) → LookFits (looked st n) n → ProgressBy answer n
      → HasProgress answer st
  progress_so answer NotLet calm near fits by = idle_so answer fits by
  progress_so answer Let calm near fits by = let_or_seen (n / 256 == 1) near fits answer by
  progress_so answer (Seen p) calm near fits by = let_so answer p (inr (near, fits)) by (Seen p) tt
  progress_so answer (Gone p m) calm near fits by = gone_so answer p m near fits by
  progress_so answer (Got p m) calm near fits by = absurd calm
  progress_so answer (Done m) calm near fits by = done_so answer m fits by
