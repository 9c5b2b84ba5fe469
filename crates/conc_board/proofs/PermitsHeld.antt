-- What the rule says of two permits.
use Rattle.std.proofs.Common.{◌≡◌, ℕ, Bool, false, sym, ap, ◌∙◌, subst, arith}
use mathlib.Core.Logic.{dite}
use native.Mathlib.Decide.{ℕ_discrete}
use Rattle.conc_types.specs.declared.event.PlaceId.{PlaceId}
use Rattle.conc_types.specs.declared.event.RequestId.{RequestId}
use Rattle.conc_types.specs.declared.plan.Plan.{Plan}
use Rattle.conc_pool_seats.specs.declared.views.Doing.TheVariants.{Serves}
use Rattle.conc_pool_seats.specs.declared.views.LeadState.TheVariants.{Gone}
use Rattle.conc_pool_seats.specs.Rule.{BoardState, Keep, Runs, Works, doing_at, exclude, view_at}
use Rattle.conc_pool_seats.specs.LeadStates.{IsLive, lead_state_at}
use Rattle.conc_pool_seats.specs.Words.{IsPlace, IsRequest, request_of, request_word}
use Rattle.conc_pool_seats.proofs.Facts.{exclude-self}
use Rattle.conc_pool_seats.proofs.HandSteps.{has_permit}
use Rattle.conc_pool_seats.proofs.Moves.{home, word}
use Rattle.conc_board.specs.Permits.{HaveApart, IsServing}
use Rattle.conc_board.proofs.Leads.{request_there}

module _ (plan : Plan) (s : BoardState) (k : Keep plan s) where
  -- a seat with a permit: its place is its own, and the word runs there
  pub works : (j : ℕ) (r : RequestId) (p : PlaceId) (stop : Bool) → (view_at s.views j).doing ≡ Serves r p stop → (k.owner p ≡ j) × IsRequest plan r × IsPlace plan p × Runs stop p (word s (request_word r))
  works j r p stop e = subst (Works plan k.owner s.words j) e (k.each_seat j)

  -- its request has the go there
  pub gone_there : (j : ℕ) (r : RequestId) (p : PlaceId) (stop : Bool) → (view_at s.views j).doing ≡ Serves r p stop →
      (m : Bool) × (lead_state_at (view_at s.views k.lead).lead_states (request_word r) ≡ Gone p m)
  gone_there j r p stop e = let f = works j r p stop e in let i = request_word r in
      let t = has_permit plan (doing_at s.views k.owner) (request_of i) p stop (lead_state_at (view_at s.views k.lead).lead_states i) (word s i) (home s i) k.few_places f.2 f.3 (k.each_request i (omega (arith, f.1.from_one, f.1.within))) in (t.0, t.1)

  live : (j : ℕ) (r : RequestId) (p : PlaceId) → IsServing s.views j r p → IsLive (lead_state_at (view_at s.views k.lead).lead_states (request_word r))
  live j r p e = subst IsLive (sym (gone_there j r p e.0 e.1).1) tt

  number : (j : ℕ) (r : RequestId) (p : PlaceId) → IsServing s.views j r p → request_of (request_word r) ≡ r
  number j r p e = request_there r (request_word r) (λ _. request_word r) (works j r p e.0 e.1).1.from_one

  pub have_apart : (i j : ℕ) → HaveApart plan s.views i j
  have_apart i j = record {
    requests = λ r q p u a b. dite (ℕ_discrete (request_word r) (request_word q))
        (λ same. let rq : r ≡ q = sym (number i r p a) ∙ (ap request_of same ∙ number j q u b) in ap (λ (z : RequestId). exclude plan z q) rq ∙ exclude-self plan q)
        (λ other. subst (λ (z : RequestId × RequestId). exclude plan z.0 z.1 ≡ false) (λ x. (number i r p a x, number j q u b x)) (k.apart (request_word r) (request_word q) other (live i r p a) (live j q u b)));
    one_request = λ r p u a b. let x = gone_there i r p a.0 a.1 in let y = gone_there j r u b.0 b.1 in
        let same : Gone p x.0 ≡ Gone u y.0 = sym x.1 ∙ y.1 in let pu : p ≡ u = cc in
        sym (works i r p a.0 a.1).0 ∙ (ap k.owner pu ∙ (works j r u b.0 b.1).0);
    one_place = λ r q p a b. sym (works i r p a.0 a.1).0 ∙ (works j q p b.0 b.1).0;
  }
