-- A run in memory: what holds at each round of its loop, and what it comes to.
use Rattle.std.proofs.Common.{◌≡◌, ◌∙◌, ◌<◌, ℕ, List, [], ◌∷◌, ◌++◌, Option, None, Some, ap, refl, reverse, subst, sym, arith}
use Rattle.conc_types.specs.declared.event.Event.{Event}
use Rattle.conc_types.specs.declared.plan.Plan.{Plan}
use Rattle.conc_types.specs.declared.script.Reading.{Reading}
use Rattle.conc_types.specs.declared.script.Readings.{Readings}
use Rattle.conc_base_law.specs.Alone.{Alone, Follows, next_alone}
use Rattle.conc_base_law.specs.Before.{last_life}
use Rattle.conc_base_law.specs.Law.{is_lawful, Lawful, LawfulSoFar}
use Rattle.conc_base_law.specs.Remaining.{remaining}
use Rattle.conc_base_law.proofs.AloneLawful.{next_alone-follows}
use Rattle.conc_base_law.proofs.Finishes.{next_alone-none}
use Rattle.conc_base_law.proofs.LawfulSoFar.{lawful_is_lawful_so_far}
use Rattle.conc_base_law.proofs.Positions.{reverse-push}
use Rattle.conc_base_law.proofs.Remaining.{remaining_less}
use Rattle.conc_machine.specs.StandsFor.{plan_of, readings_of, StandsFor}
use Rattle.conc_machine.specs.declared.machine.Machine.{Machine}
use Rattle.conc_run_choice.proofs.Pushes.{Follows-push, is_lawful-more}

-- the machine stands for a lawful list, each event of which is the one that came next
pub record IsUnderway (plan : Plan) (readings : Readings) (machine : Machine) (list : List Event) : Type 0 where
  pub plan_is : plan_of machine ≡ plan
  pub readings_are : readings_of machine ≡ Some readings.list
  pub stands : StandsFor machine (reverse list)
  pub lawful : Lawful plan readings.list list
  pub follows : Follows plan readings.list 0 list

-- what comes next at such a machine
abbrev pub next_in : Plan → Readings → List Event → Option Event
next_in plan readings list = next_alone plan readings.list (reverse list)

abbrev pub left_in : Plan → Readings → List Event → ℕ
left_in plan readings list = remaining plan readings.list (reverse list)

none-lawful : (plan : Plan) (readings : List Reading) → Lawful plan readings []
unfolding is_lawful
none-lawful plan readings = refl

pub no-life : last_life [] ≡ []
unfolding last_life
no-life = refl

-- a new machine that took the readings
pub begins : (plan : Plan) (readings : Readings) (machine : Machine) → plan_of machine ≡ plan → readings_of machine ≡ Some readings.list → StandsFor machine []
    → IsUnderway plan readings machine []
begins plan readings machine same known stands = record {
  plan_is = same;
  readings_are = known;
  stands = stands;
  lawful = none-lawful plan readings.list;
  follows = λ i from below. absurd (omega (arith, below));
}

so-far : (plan : Plan) (readings : Readings) (list : List Event) → Lawful plan readings.list list → LawfulSoFar plan list
so-far plan readings list lawful = lawful_is_lawful_so_far plan readings.list (reverse list) readings.in_order lawful

module _ (plan : Plan) (readings : Readings) (machine : Machine) (list : List Event) (under : IsUnderway plan readings machine list) where
  -- what comes next by the machine's plan
  pub comes : (o : Option Event) → o ≡ next_alone (plan_of machine) readings.list (reverse list) → next_in plan readings list ≡ o
  comes o is = ap (λ (p : Plan). next_alone p readings.list (reverse list)) (sym under.plan_is) ∙ sym is

  module _ (e : Event) (next : next_in plan readings list ≡ Some e) where
    -- it takes in the event that comes next
    pub goes-on : (machine' : Machine) → plan_of machine' ≡ plan_of machine → readings_of machine' ≡ readings_of machine → StandsFor machine' (e ∷ reverse list)
        → IsUnderway plan readings machine' (list ++ e ∷ [])
    goes-on machine' same known stands =
        let may = next_alone-follows plan readings.list (reverse list) e next in
        record {
          plan_is = same ∙ under.plan_is;
          readings_are = known ∙ under.readings_are;
          stands = subst (StandsFor machine') (sym (reverse-push list e)) stands;
          lawful = ap (is_lawful plan readings.list) (reverse-push list e) ∙ is_lawful-more plan readings.list (reverse list) e may.0 under.lawful may.1;
          follows = Follows-push plan readings.list 0 list e under.follows next;
        }

    -- and less is left
    pub less : left_in plan readings (list ++ e ∷ []) < left_in plan readings list
    less =
        let may = next_alone-follows plan readings.list (reverse list) e next in
        let fewer = remaining_less plan readings.list (reverse list) e (so-far plan readings list under.lawful) may.1 may.0 in
        omega (arith, fewer, ap (remaining plan readings.list) (reverse-push list e))

  -- nothing comes next
  pub ends : next_in plan readings list ≡ None → Alone plan readings.list [] list
  ends none = record {
    begins = (list, refl);
    each = under.follows;
    finished = next_alone-none plan readings.list list (so-far plan readings list under.lawful) none;
  }
