-- Which event is the end of a request that has a report.
use Rattle.std.proofs.Common.{◌≡◌, inl, inr, ℕ, ◌+◌, ◌<◌, Bool, true, false, if◌then◌else◌, List, Option, None, Some, refl, sym, ◌∙◌, ap, arith}
use Rattle.std.specs.Prelude.{slice_get}
use Rattle.std.proofs.lemmas.Bool.{cases_lt, eq-eqb}
use Rattle.conc_types.specs.declared.event.Event.{Event}
use Rattle.conc_types.specs.declared.event.Event.TheVariants as event
use Rattle.conc_types.specs.declared.event.Extent.{Extent}
use Rattle.conc_types.specs.declared.event.Outcome.{Outcome}
use Rattle.conc_types.specs.declared.event.RequestId.{RequestId}
use Rattle.conc_base_law.specs.Words.{id_eq}
use Rattle.conc_base_law.proofs.EqualEvents.{id_same}
use Rattle.conc_run_open.specs.Texts.{HasEnd, report_in}

-- none of the first n events is an end of the request with a report
abbrev pub NoneBefore : ℕ → List Event → RequestId → Type 0
NoneBefore n events id = (i : ℕ) (o : Outcome) (x : Extent) → i < n → slice_get events i ≡ Some (event.Ended id o (Some x)) → ⊥

-- the report of an event, if there is an event
report-at : RequestId → Option Event → Option Extent
report-at id None = None
report-at id (Some e) = report_in e id

-- an end has its report
end-report : (id : RequestId) (o : Outcome) (x : Extent) → report_in (event.Ended id o (Some x)) id ≡ Some x
end-report id o x = ap (λ (b : Bool). if b then Some x else None) (eq-eqb id.number id.number refl)

-- an event with the report of a request is its end
report-end : (e : Event) (id : RequestId) (x : Extent) → Some x ≡ report_in e id → (o : Outcome) × (e ≡ event.Ended id o (Some x))
report-end (event.Ended request o y) id x is = by (id_eq request id) refl is where
  by : (same : Bool) → id_eq request id ≡ same → Some x ≡ (if same then y else None) → (p : Outcome) × (event.Ended request o y ≡ event.Ended id p (Some x))
  by true same has = (o, ap (λ (r : RequestId). event.Ended r o y) (id_same request id same) ∙ ap (λ (z : Option Extent). event.Ended id o z) (sym has))
  by false same has = absurd (cc)
report-end e id x is =
    let no : Some x ≡ None = is in
    absurd (cc)

pub has-end : (n : ℕ) (events : List Event) (id : RequestId) (e : Event) (x : Extent) → slice_get events n ≡ Some e → Some x ≡ report_in e id → HasEnd events id x
has-end n events id e x there is =
    let end = report-end e id x is in
    record { position = n; outcome = end.0; there = there ∙ ap Some end.1 }

-- one event more
pub none-more : (n : ℕ) (events : List Event) (id : RequestId) (e : Event) → slice_get events n ≡ Some e → None ≡ report_in e id → NoneBefore n events id → NoneBefore (n + 1) events id
unfolding report-at
none-more n events id e there none before = λ i o x less here. elim (cases_lt i n) [
  | inl earlier ↦ before i o x earlier here
  | inr far ↦
      let at : i ≡ n = omega arith in
      let same : slice_get events n ≡ Some (event.Ended id o (Some x)) = sym (ap (slice_get events) at) ∙ here in
      let is : report_in e id ≡ Some x = ap (report-at id) (sym there) ∙ ap (report-at id) same ∙ end-report id o x in
      let no : None ≡ Some x = none ∙ is in
      absurd (cc)
]
