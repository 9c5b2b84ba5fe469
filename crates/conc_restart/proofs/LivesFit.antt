-- The events of one life are no more than its need.
use Rattle.std.proofs.Common.{◌≡◌, ℕ, ◌+◌, ◌*◌, ◌<◌, ◌≤◌, true, false, List, [], ◌∷◌, ◌++◌, length, reverse, Some, if◌then◌else◌, refl, sym, ◌∙◌, ap, arith, append_assoc}
use Rattle.std.specs.List.{list_any}
use Rattle.std.proofs.lemmas.Bool.{and_parts, cond-false, or_parts}
use Rattle.std.proofs.lemmas.List.{length-reverse, reverse-append}
use Rattle.std.proofs.lemmas.List.Sorted.{IsPermutation-reverse, list_any-IsPermutation}
use Rattle.conc_types.specs.declared.event.Event.{Event}
use Rattle.conc_types.specs.declared.event.Event.TheVariants as event
use Rattle.conc_types.specs.declared.plan.Plan.{Plan}
use Rattle.conc_types.specs.declared.script.Reading.{Reading}
use Rattle.conc_types.specs.declared.script.Readings.{Readings}
use Rattle.conc_types.specs.Scripts.{are_in_order}
use Rattle.conc_base_law.specs.Kinds.{is_resume}
use Rattle.conc_base_law.specs.Law.{is_lawful, is_lawful_so_far, may_follow}
use Rattle.conc_base_law.specs.Remaining.{commands_left}
use Rattle.conc_base_law.proofs.LawfulSoFar.{lawful_is_lawful_so_far}
use Rattle.conc_base_law.proofs.Positions.{reverse-push}
use Rattle.conc_base_law.proofs.Remaining.{about_one, commands_left-kept, commands_left-less, readings_left, readings_left-kept, readings_left-less}
use Rattle.conc_restart.proofs.RequestsLeft.{all_below, all_grow, all_left, all_left-most, all_less}
use Rattle.conc_restart.proofs.StepsLeft.{commands_left-most, readings_left-most}
use Rattle.conc_restart.specs.Need.{IsOfOneLife, need}

-- ---- one event

-- what a life has left. A command counts for the let that it may take from a request beside its own event
abbrev life_left : Plan → List Reading → List Event → ℕ
life_left plan readings past = all_left plan past + 2 * commands_left plan past + readings_left readings past

-- each event but a resume lowers it
life_less : (plan : Plan) (readings : List Reading) (past : List Event) (e : Event) → is_lawful_so_far plan past ≡ true
    → may_follow plan (Some readings) past e ≡ true → is_resume e ≡ false → life_left plan readings (e ∷ past) < life_left plan readings past
life_less plan readings past (event.Tick t) lawful m n =
    omega (
      arith,
      all_below plan (Some readings) past (event.Tick t) lawful m refl refl,
      commands_left-kept plan past (event.Tick t) refl,
      readings_left-less plan readings past t m,
    )
life_less plan readings past (event.Command k) lawful m n =
    omega (
      arith,
      all_grow plan past k,
      commands_left-less plan (Some readings) past k m,
      readings_left-kept readings past (event.Command k) refl refl,
    )
life_less plan readings past event.Resume lawful m n = cc
life_less plan readings past e lawful m n =
    omega (
      arith,
      all_less plan (Some readings) past e lawful m refl refl (about_one plan (Some readings) past e m refl),
      commands_left-kept plan past e refl,
      readings_left-kept readings past e refl refl,
    )

-- ---- many events

-- many events with no resume among them lower it by their number
many_less : (plan : Plan) (readings : List Reading) (later past : List Event) → are_in_order readings ≡ true → is_lawful plan readings (later ++ past) ≡ true
    → list_any is_resume later ≡ false → life_left plan readings (later ++ past) + length later ≤ life_left plan readings past
unfolding is_lawful
many_less plan readings [] past order lawful none = omega arith
many_less plan readings (e ∷ later) past order lawful none =
    let before = later ++ past in
    let p : ((if is_resume e then is_lawful_so_far plan before else is_lawful plan readings before) ≡ true) × (may_follow plan (Some readings) before e ≡ true) = and_parts _ _ lawful in
    let n : (is_resume e ≡ false) × (list_any is_resume later ≡ false) = or_parts _ _ none in
    let known : is_lawful plan readings before ≡ true = sym (cond-false (is_resume e) (is_lawful_so_far plan before) (is_lawful plan readings before) n.0) ∙ p.0 in
    let less : life_left plan readings (e ∷ before) < life_left plan readings before =
    life_less plan readings before e (lawful_is_lawful_so_far plan readings before order known) p.1 n.0 in
    omega (arith, less, many_less plan readings later past order known n.1)

-- no life has more than this left
life_left-most : (plan : Plan) (readings : List Reading) (past : List Event) → life_left plan readings past + 1 ≤ need plan readings
life_left-most plan readings past = omega (arith, all_left-most plan past, commands_left-most plan past, readings_left-most readings past)

-- the events of a history, of which one is named, with the latest first
turned : (found : List Event) (e : Event) (later : List Event) → reverse (found ++ e ∷ later) ≡ reverse later ++ e ∷ reverse found
turned found e later =
    ap reverse (sym (append_assoc found (e ∷ []) later)) ∙ reverse-append (found ++ e ∷ []) later
    ∙ ap (λ l. reverse later ++ l) (reverse-push found e)

-- the events of one life are no more than its need
pub life_fits : (plan : Plan) (readings : Readings) (found added : List Event) → is_lawful plan readings.list (reverse (found ++ added)) ≡ true → IsOfOneLife added
    → length added ≤ need plan readings.list
life_fits plan readings found [] lawful one = omega arith
life_fits plan readings found (e ∷ later) lawful one =
    let known : is_lawful plan readings.list (reverse later ++ e ∷ reverse found) ≡ true = ap (is_lawful plan readings.list) (sym (turned found e later)) ∙ lawful in
    let none : list_any is_resume (reverse later) ≡ false = sym (list_any-IsPermutation is_resume later (reverse later) (IsPermutation-reverse later)) ∙ one in
    omega (
      arith,
      many_less plan readings.list (reverse later) (e ∷ reverse found) readings.in_order known none,
      length-reverse later,
      life_left-most plan readings.list (e ∷ reverse found),
    )
