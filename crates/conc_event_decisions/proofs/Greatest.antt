-- The worst severity of members, request by request.
use Rattle.std.proofs.Common.{◌≡◌, ℕ, ◌+◌, ◌<◌, max, List, [], ◌∷◌, ◌++◌, length, get_or, map, take, ◌∙◌, ap, sym, arith}
use Rattle.std.proofs.lemmas.List.{map-append, take_more}
use Rattle.std.proofs.lemmas.List.Elements.{filter-append, filter_map-append}
use Rattle.std.specs.List.{filter, filter_map}
use Rattle.conc_types.specs.Words.{greatest}
use Rattle.conc_types.specs.declared.event.RequestId.{RequestId}
use Rattle.conc_types.specs.declared.plan.Req.{Req}
use Rattle.conc_types.specs.declared.facts.State.{State}
use Rattle.conc_base_law.specs.Plans.{is_member}
use Rattle.conc_base_law.specs.Stages.{outcome_at, severity}
use Rattle.conc_event_decisions.specs.Members.{worst_among}

pub greatest-append : (xs ys : List ℕ) → greatest (xs ++ ys) ≡ max (greatest xs) (greatest ys)
greatest-append [] ys = omega arith
greatest-append (x ∷ xs) ys = ap (max x) (greatest-append xs ys) ∙ omega arith

module _ (state : State) (set : RequestId) (stage : ℕ) where
  pub worst_among-append : (xs ys : List Req) → worst_among state set stage (xs ++ ys) ≡ max (worst_among state set stage xs) (worst_among state set stage ys)
  worst_among-append xs ys =
      ap (λ l. greatest (map severity (filter_map (outcome_at state) l))) (filter-append (is_member set stage) xs ys)
      ∙ ap (λ l. greatest (map severity l)) (filter_map-append (outcome_at state) (filter (is_member set stage) xs) (filter (is_member set stage) ys))
      ∙ ap greatest (map-append severity (filter_map (outcome_at state) (filter (is_member set stage) xs)) (filter_map (outcome_at state) (filter (is_member set stage) ys)))
      ∙ greatest-append (map severity (filter_map (outcome_at state) (filter (is_member set stage) xs))) (map severity (filter_map (outcome_at state) (filter (is_member set stage) ys)))

  -- the worst of one request more
  pub worst_among-more : (xs : List Req) (i : ℕ) (r : Req) → i < length xs → r ≡ get_or xs i r →
      worst_among state set stage (take (i + 1) xs) ≡ max (worst_among state set stage (take i xs)) (worst_among state set stage (r ∷ []))
  worst_among-more xs i r within is =
      ap (worst_among state set stage) (take_more xs i r within ∙ ap (λ (y : Req). take i xs ++ y ∷ []) (sym is))
      ∙ worst_among-append (take i xs) (r ∷ [])
