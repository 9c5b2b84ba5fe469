-- Requests that run, and that may start, by the facts at their indexes.
use Rattle.std.proofs.Common.{◌≡◌, ℕ, ◌+◌, ◌<◌, ◌≤◌, Bool, true, false, not, ◌&&◌, ◌||◌, ◌==◌, length, drop, Option, None, Some, inl, inr, refl, sym, ◌∙◌, ap, arith}
use Rattle.std.specs.Prelude.{is_some, slice_get, unwrap_or}
use Rattle.std.specs.List.{list_any}
use Rattle.std.proofs.lemmas.Bool.{and_left}
use Rattle.conc_types.specs.declared.event.PlaceId.{PlaceId}
use Rattle.conc_types.specs.declared.facts.Facts.{Facts}
use Rattle.conc_types.specs.declared.facts.State.{State}
use Rattle.conc_types.specs.declared.plan.Plan.{Plan}
use Rattle.conc_types.specs.declared.plan.Req.{Req}
use Rattle.conc_types.specs.Words.{numbered, some_and}
use Rattle.conc_base_law.specs.Next.{may_start, runs_at}
use Rattle.conc_base_law.specs.State.{facts_at, no_facts}
use Rattle.conc_base_law.proofs.Positions.{slice_get-some}
use Rattle.conc_event_reach.specs.declared.span.Span.{Span}
use Rattle.conc_history_check.specs.Active.{IsActive, quiet_at}
use Rattle.conc_history_check.specs.At.{here_at, let_at}
use Rattle.conc_history_check.proofs.Anys.{any-end, any-later}
use Rattle.conc_history_check.proofs.AtIndex.{at-number}
use Rattle.conc_history_check.proofs.Skips.{skips, skips-past}

-- ---- by the facts at an index

let-facts : (o : Option Facts) → let_at o ≡ (unwrap_or o no_facts).let_out
let-facts None = refl
let-facts (Some own) = refl

here-facts : (place : PlaceId) (o : Option Facts) → here_at place o ≡ some_and (λ p. p.index == place.index) (unwrap_or o no_facts).place
here-facts place None = refl
here-facts place (Some own) = refl

pub here-index : (plan : Plan) (s : State) (place : PlaceId) (i : ℕ) (r : Req) → slice_get plan.requests i ≡ Some r → here_at place (slice_get s.facts i) ≡ runs_at s place r
unfolding facts_at runs_at
here-index plan s place i r at =
    here-facts place (slice_get s.facts i) ∙ ap (λ (o : Option Facts). some_and (λ p. p.index == place.index) (unwrap_or o no_facts).place) (sym (at-number plan s i r at))

start-index : (plan : Plan) (s : State) (place : PlaceId) (i : ℕ) (r : Req) → slice_get plan.requests i ≡ Some r → let_at (slice_get s.facts i) ≡ false → may_start plan s r place ≡ false
unfolding facts_at may_start
start-index plan s place i r at off =
    and_left _ _ (sym (let-facts (numbered s.facts r.number.number)) ∙ (ap let_at (at-number plan s i r at) ∙ off))

-- ---- quiet requests

not-let : (let_out opened rest : Bool) → (not (let_out || opened) && rest) ≡ true → let_out ≡ false
not-let true opened rest is = cc
not-let false opened rest is = refl

not-running : (live running rest : Bool) → (not live && (not running && rest)) ≡ true → running ≡ false
not-running true running rest is = cc
not-running false true rest is = cc
not-running false false rest is = refl

not-here : (place : PlaceId) (o : Option PlaceId) → is_some o ≡ false → some_and (λ p. p.index == place.index) o ≡ false
not-here place None none = refl
not-here place (Some p) none = cc

quiet-let : (o : Option Facts) → quiet_at o ≡ true → let_at o ≡ false
quiet-let None is = refl
quiet-let (Some own) is = not-let own.let_out own.opened _ is

quiet-here : (place : PlaceId) (o : Option Facts) → quiet_at o ≡ true → here_at place o ≡ false
quiet-here place None is = refl
quiet-here place (Some own) is = not-here place own.place (not-running (own.let_out || own.opened) (is_some own.place) _ is)

-- ---- among the active ones alone

module _ (plan : Plan) (s : State) (span : Span) (active : IsActive plan s span) (test : Req → Bool)
    (none : (i : ℕ) (r : Req) → slice_get plan.requests i ≡ Some r → quiet_at (slice_get s.facts i) ≡ true → test r ≡ false) where
  abbrev Same : ℕ → Type 0
  Same i = list_any test (drop i plan.requests) ≡ list_any test plan.requests

  skip : (i : ℕ) → i < length plan.requests → quiet_at (slice_get s.facts i) ≡ true → Same i → Same (i + 1)
  skip i within quiet same =
      let w : (r : Req) × (slice_get plan.requests i ≡ Some r) = slice_get-some plan.requests i within in
      sym (any-later test plan.requests i w.0 w.1 (none i w.0 w.1 quiet)) ∙ same

  pub any-first : list_any test (drop span.from plan.requests) ≡ list_any test plan.requests
  any-first = skips Same 0 span.from (omega arith) (λ i _ less same. skip i (omega (arith, less, active.ordered, active.inside)) (active.quiet i (inl less)) same) refl

  pub any-none : (i : ℕ) → span.to ≤ i → list_any test (drop i plan.requests) ≡ list_any test plan.requests → list_any test plan.requests ≡ false
  any-none i past same =
      let last = skips-past Same i (length plan.requests) (λ k least less. skip k less (active.quiet k (inr (omega (arith, least, past))))) same in
      sym last.2 ∙ any-end test plan.requests last.0 last.1

pub quiet-runs_at : (plan : Plan) (s : State) (place : PlaceId) (i : ℕ) (r : Req) → slice_get plan.requests i ≡ Some r → quiet_at (slice_get s.facts i) ≡ true → runs_at s place r ≡ false
quiet-runs_at plan s place i r at quiet = sym (here-index plan s place i r at) ∙ quiet-here place (slice_get s.facts i) quiet

pub quiet-may_start : (plan : Plan) (s : State) (place : PlaceId) (i : ℕ) (r : Req) → slice_get plan.requests i ≡ Some r → quiet_at (slice_get s.facts i) ≡ true → may_start plan s r place ≡ false
quiet-may_start plan s place i r at quiet = start-index plan s place i r at (quiet-let (slice_get s.facts i) quiet)
