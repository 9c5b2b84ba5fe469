-- A command that does no more than enter requests.
use Rattle.std.proofs.Common.{◌≡◌, ℕ, zero, suc, ◌+◌, true, false, ◌||◌, List, [], ◌∷◌, ◌++◌, length, Option, None, Some, ◌⊎◌, inl, inr, refl, ◌∙◌, sym, ap, subst, arith}
use Rattle.std.specs.Prelude.{◌==◌, IfSome, IsTrue, slice_get, slice_set}
use Rattle.std.proofs.lemmas.Bool.{both_ways, or_cases}
use Rattle.conc_types.specs.declared.event.Event.TheVariants as event
use Rattle.conc_types.specs.declared.facts.Facts.{Facts}
use Rattle.conc_types.specs.declared.plan.Plan.{Plan}
use Rattle.conc_types.specs.declared.plan.Req.{Req}
use Rattle.conc_types.specs.declared.script.Act.{Act}
use Rattle.conc_types.specs.declared.script.Act.TheVariants as act
use Rattle.conc_base_law.specs.Kinds.{act_of}
use Rattle.conc_base_law.proofs.Positions.{slice_get-some}
use Rattle.conc_event_effects.specs.Advance.{one_by}
use Rattle.conc_event_effects.specs.Step.{facts_after}
use Rattle.conc_event_reach.specs.Reach.{IsAround, is_about, is_acted_on}
use Rattle.conc_event_reach.specs.Spans.{LeavesOthers, is_within}
use Rattle.conc_event_reach.specs.declared.span.Span.{Span}
use Rattle.conc_event_reach.proofs.Unchanged.{leaves_others}
use Rattle.conc_event_reach.proofs.Within.{within-bounds}
use Rattle.conc_history_replay.specs.Changes.{acts}
use Rattle.conc_history_replay.specs.Entries.{AreEntriesTo, IsEntry}
use Rattle.conc_history_replay.proofs.ByKind.{entered-own}

-- it does nothing to a request
quiet-acted : (a : Option Act) (r : Req) → acts a ≡ false → is_acted_on a r ≡ false
unfolding is_acted_on
quiet-acted None r h = refl
quiet-acted (Some (act.Submit item user priority start domain argument)) r h = refl
quiet-acted (Some _) r h = cc

-- so it is about those that it enters
around-entry : (plan : Plan) (n : ℕ) (span : Span) → IsEntry plan n span → IsAround plan (is_about plan (event.Command n)) span
unfolding is_about
around-entry plan n span entry = record {
  all = λ i r at about. elim (or_cases (n == r.command) (is_acted_on (act_of plan (event.Command n)) r) about) [
    | inl enters ↦ sym (entry.exact i r at) ∙ enters
    | inr acted ↦ absurd (both_ways _ (quiet-acted (act_of plan (event.Command n)) r entry.quiet) acted)
  ];
  inside = entry.inside;
}

pub entry-leaves : (plan : Plan) (n : ℕ) (span : Span) → IsEntry plan n span → LeavesOthers plan (event.Command n) span
entry-leaves plan n span entry = leaves_others plan _ _ _ refl (around-entry plan n span entry)

-- it enters the one at an index of the span
pub entry-at : (plan : Plan) (named : Facts) (n : ℕ) (span : Span) (facts : List Facts) (i : ℕ) (own : Facts)
    → IsEntry plan n span → IsTrue (is_within i span) → slice_get facts i ≡ Some own
    → slice_set facts i (record own { entered = true }) ≡ one_by plan named (event.Command n) facts i (slice_get plan.requests i) (slice_get facts i)
entry-at plan named n span facts i own entry within here =
    by (slice_get-some plan.requests i (omega (arith, entry.inside, (within-bounds i span within).1))) where
      by : (r : Req) × (slice_get plan.requests i ≡ Some r)
          → slice_set facts i (record own { entered = true }) ≡ one_by plan named (event.Command n) facts i (slice_get plan.requests i) (slice_get facts i)
      by (r, at) =
          let after : facts_after plan named (event.Command n) r own ≡ record own { entered = true } =
          entered-own plan named n r own entry.quiet ∙ ap (λ b. record own { entered = b || own.entered }) (entry.exact i r at ∙ within) in
          ap (slice_set facts i) (sym after)
          ∙ (sym (ap (λ o. one_by plan named (event.Command n) facts i o (Some own)) at)
          ∙ sym (ap (one_by plan named (event.Command n) facts i (slice_get plan.requests i)) here))

-- where there are no facts at the index, nothing changes
pub entry-none : (plan : Plan) (named : Facts) (n : ℕ) (facts : List Facts) (i : ℕ) (r : Option Req) → slice_get facts i ≡ None
    → facts ≡ one_by plan named (event.Command n) facts i r (slice_get facts i)
entry-none plan named n facts i None none = refl
entry-none plan named n facts i (Some r) none = sym (ap (one_by plan named (event.Command n) facts i (Some r)) none)

-- ---- what is noted of commands

-- an element of a list with one more at its end is one of the list, or the last
last-or : {T : Type 0} (xs : List T) (y : T) (k : ℕ) (x : T) → slice_get (xs ++ y ∷ []) k ≡ Some x
    → (slice_get xs k ≡ Some x) ⊎ ((k ≡ length xs) × (y ≡ x))
last-or [] y zero x h = inr (refl, cc)
last-or [] y (suc k) x h = cc
last-or (z ∷ zs) y zero x h = inl h
last-or (z ∷ zs) y (suc k) x h = elim (last-or zs y k x h) [
  | inl before ↦ inl before
  | inr last ↦ inr (ap suc last.0, last.1)
]

-- what one command more enters
pub entries-more : (plan : Plan) (spans : List (Option Span)) (n : ℕ) (one : Option Span) → AreEntriesTo plan spans → length spans ≡ n
    → IfSome one (IsEntry plan (n + 1)) → AreEntriesTo plan (spans ++ one ∷ [])
entries-more plan spans n one are many is k span at = elim (last-or spans one k (Some span) at) [
  | inl before ↦ are k span before
  | inr last ↦ rw (last.0 ∙ many) (subst (λ o. IfSome o (IsEntry plan (n + 1))) last.1 is)
]
