-- A logged event leaves fewer events.
use Rattle.std.proofs.Common.{◌≡◌, ◌&&◌, ◌∷◌, ◌++◌, [], ℕ, ◌<◌, true, false, if◌then◌else◌, List, Option, Some, reverse, sym, ap, ◌∙◌, subst, inl}
use Rattle.std.proofs.lemmas.Bool.{and_parts, cond-false}
use Rattle.conc_types.specs.declared.event.Event.{Event}
use Rattle.conc_types.specs.declared.plan.Plan.{Plan}
use Rattle.conc_types.specs.declared.script.Readings.{Readings}
use Rattle.conc_base_law.specs.Kinds.{is_resume}
use Rattle.conc_base_law.specs.Law.{Lawful, is_lawful, is_lawful_so_far, may_follow}
use Rattle.conc_base_law.specs.Remaining.{remaining}
use Rattle.conc_base_law.proofs.LawfulSoFar.{lawful_is_lawful_so_far}
use Rattle.conc_base_law.proofs.Positions.{reverse-push}
use Rattle.conc_base_law.proofs.Remaining.{remaining_less}
use Rattle.conc_pool_seats.specs.Rule.{BoardState}
use Rattle.conc_run_progress.specs.Logs.{CanLog}
use Rattle.conc_run_progress.specs.Measure.{IsLess, measure_of}

-- an event that may come next, and is no resume
pub fewer_events : (plan : Plan) (readings : Readings) (list : List Event) (e : Event) → is_resume e ≡ false → Lawful plan readings.list (list ++ e ∷ [])
    → remaining plan readings.list (reverse (list ++ e ∷ [])) < remaining plan readings.list (reverse list)
unfolding is_lawful
fewer_events plan readings list e no_resume lawful =
    let all : ((if is_resume e then is_lawful_so_far plan (reverse list) else is_lawful plan readings.list (reverse list)) && may_follow plan (Some readings.list) (reverse list) e) ≡ true =
    sym (ap (is_lawful plan readings.list) (reverse-push list e)) ∙ lawful in
    let both = and_parts (if is_resume e then is_lawful_so_far plan (reverse list) else is_lawful plan readings.list (reverse list)) (may_follow plan (Some readings.list) (reverse list) e) all in
    let before : is_lawful plan readings.list (reverse list) ≡ true =
    sym (cond-false (is_resume e) (is_lawful_so_far plan (reverse list)) (is_lawful plan readings.list (reverse list)) no_resume) ∙ both.0 in
    let less : remaining plan readings.list (e ∷ reverse list) < remaining plan readings.list (reverse list) =
    remaining_less plan readings.list (reverse list) e (lawful_is_lawful_so_far plan readings.list (reverse list) readings.in_order before) both.1 no_resume in
    subst (λ (l : List Event). remaining plan readings.list l < remaining plan readings.list (reverse list)) (sym (reverse-push list e)) less

pub logging_less : (plan : Plan) (readings : Readings) (list : List Event) (kept : Option Event) (lead : ℕ) (s next : BoardState) (can : CanLog plan readings.list list kept)
    → IsLess (measure_of plan readings.list (list ++ can.event ∷ []) lead next) (measure_of plan readings.list list lead s)
logging_less plan readings list kept lead s next can = inl (fewer_events plan readings list can.event can.no_resume can.lawful)
