-- The state before the first event, and after one more.
use Rattle.std.proofs.Common.{◌≡◌, ℕ, suc, ◌+◌, List, [], ◌∷◌, length, map, Some, refl, sym, ◌∙◌, ap, subst}
use Rattle.std.specs.List.{enumerate_from}
use Rattle.std.proofs.lemmas.List.{length-map}
use Rattle.conc_types.specs.declared.event.Event.{Event}
use Rattle.conc_types.specs.declared.facts.State.{State}
use Rattle.conc_types.specs.declared.plan.Plan.{Plan}
use Rattle.conc_types.specs.declared.script.Order.{Order}
use Rattle.conc_base_law.specs.Facts.{facts_of}
use Rattle.conc_base_law.specs.State.{is_done, now, state}
use Rattle.conc_machine.specs.declared.life.LifeReadings.{LifeReadings}
use Rattle.conc_machine.specs.LifeReadings.{AreLifeReadings}
use Rattle.conc_machine.specs.Indexes.{first_undone}
use Rattle.conc_machine.specs.StandsFor.{StandsFor}
use Rattle.conc_machine.specs.declared.machine.Machine.{Machine}

-- as many as the commands
length-enumerated : (n : ℕ) (xs : List Order) → length (map (is_done []) (enumerate_from n xs)) ≡ length xs
length-enumerated n [] = refl
length-enumerated n (x ∷ xs) = ap suc (length-enumerated (n + 1) xs)

-- no command is done
none-done : (n : ℕ) (xs : List Order) → 0 ≡ first_undone (map (is_done []) (enumerate_from n xs))
unfolding is_done
none-done n [] = refl
none-done n (x ∷ xs) = refl

-- the facts of all requests, and the flags of all commands
pub all-facts : (plan : Plan) (s : State) → s ≡ state plan [] → length s.facts ≡ length plan.requests
unfolding state
all-facts plan s is = ap (λ s. length s.facts) is ∙ length-map plan.requests (facts_of plan [])

pub all-flags : (plan : Plan) (s : State) → s ≡ state plan [] → length s.done ≡ length plan.script.commands
unfolding state
all-flags plan s is = ap (λ s. length s.done) is ∙ length-enumerated 1 plan.script.commands

pub first-command : (plan : Plan) (s : State) → s ≡ state plan [] → 0 ≡ first_undone s.done
unfolding state
first-command plan s is = none-done 1 plan.script.commands ∙ sym (ap (λ s. first_undone s.done) is)

-- the moment of the last tick
pub time-of : (machine : Machine) (past : List Event) → StandsFor machine past → machine.indexes.state.time ≡ now past
unfolding state
time-of machine past stands = ap (λ s. s.time) stands.state

-- a life that begins
pub begun-life : (past : List Event) (new life : LifeReadings) → AreLifeReadings new past → Some new ≡ Some life → AreLifeReadings life past
begun-life past new life is same = let e : new ≡ life = cc in subst (λ l. AreLifeReadings l past) e is
