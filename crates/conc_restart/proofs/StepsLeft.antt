-- The commands and the readings that a life has left are no more than there are.
use Rattle.std.proofs.Common.{ℕ, ◌≡◌, ◌+◌, ◌≤◌, not, List, [], ◌∷◌, length, refl, arith}
use Rattle.std.specs.List.{enumerate_from}
use Rattle.conc_types.specs.declared.event.Event.{Event}
use Rattle.conc_types.specs.declared.plan.Plan.{Plan}
use Rattle.conc_types.specs.declared.script.Reading.{Reading}
use Rattle.conc_base_law.specs.Before.{earlier_lives}
use Rattle.conc_base_law.specs.Readings.{life_readings}
use Rattle.conc_base_law.specs.Remaining.{commands_left}
use Rattle.conc_base_law.specs.State.{is_done, is_not_earlier, now}
use Rattle.conc_base_law.proofs.Remaining.{readings_left}
use Rattle.conc_base_law.proofs.Sums.{filter-within}

-- as many are counted as there are
length-enumerate : {T : Type 0} (n : ℕ) (xs : List T) → length (enumerate_from n xs) ≡ length xs
length-enumerate n [] = refl
length-enumerate n (x ∷ xs) = omega (arith, length-enumerate (n + 1) xs)

pub commands_left-most : (plan : Plan) (past : List Event) → commands_left plan past ≤ length plan.script.commands
unfolding commands_left
commands_left-most plan past =
    omega (
      arith,
      filter-within (λ order. not (is_done past order)) (enumerate_from 1 plan.script.commands),
      length-enumerate 1 plan.script.commands,
    )

pub readings_left-most : (readings : List Reading) (past : List Event) → readings_left readings past ≤ length readings
unfolding life_readings
readings_left-most readings past = omega (arith, filter-within (λ (q : Reading). is_not_earlier (now (earlier_lives past)) q.moment) readings)
