-- What accepted commands and readings keep.
use Rattle.std.specs.Prelude.{ℕ, ◌+◌, Bool, true, ◌&&◌, nat_le, nat_lt, List, [], ◌∷◌, length, slice_get}
use Rattle.std.specs.List.{list_all, sum_by}
use Rattle.std.specs.Option.{option_map_or}
use Rattle.conc_types.specs.declared.script.Act.{Act}
use Rattle.conc_types.specs.declared.script.Act.TheVariants as act
use Rattle.conc_types.specs.declared.script.Order.{Order}
use Rattle.conc_types.specs.declared.script.Reading.{Reading}
use Rattle.conc_types.specs.declared.item.Item.{Item}
use Rattle.conc_types.specs.declared.item.Item.TheVariants as item
use Rattle.conc_types.specs.declared.setup.Setup.{Setup}
use Rattle.conc_types.specs.Setups.{is_item}
use Rattle.conc_types.specs.Texts.{is_text}
use Rattle.conc_types.specs.Words.{is_between}

-- how many requests a submission of the item enters: one, and for a set one for each member
abbrev pub count_of : Setup → Item → ℕ
count_of setup (item.Program n) = 1
count_of setup (item.Set n) = 1 + option_map_or (λ s. sum_by (λ stage. length stage.members) s.stages) (slice_get setup.sets n) 0

abbrev pub entered_by : Setup → Act → ℕ
entered_by setup (act.Submit what user priority start domain argument) = count_of setup what
entered_by setup _ = 0

-- a submission of a program or a set that is there, or a command on one of the requests below a number
abbrev pub is_act : Setup → ℕ → Act → Bool
is_act setup next (act.Submit what user priority start domain argument) =
    is_item setup.programs setup.sets what && (is_between 1 99 priority && is_text 200 argument)
is_act setup next (act.Hold r) = nat_lt 0 r.number && nat_lt r.number next
is_act setup next (act.Unhold r) = nat_lt 0 r.number && nat_lt r.number next
is_act setup next (act.Cancel r) = nat_lt 0 r.number && nat_lt r.number next
is_act setup next (act.Terminate r) = nat_lt 0 r.number && nat_lt r.number next

-- each command fits those before it, which entered the requests below a number, the last one at a moment
abbrev pub are_commands_from : Setup → ℕ → ℕ → List Order → Bool
are_commands_from setup next seconds [] = true
are_commands_from setup next seconds (order ∷ orders) =
    nat_le seconds order.at.seconds
    && (is_act setup next order.act
    && are_commands_from setup (next + entered_by setup order.act) order.at.seconds orders)

-- the commands of a script that fits the setup
abbrev pub are_commands : Setup → List Order → Bool
are_commands setup orders = are_commands_from setup 1 0 orders

-- no reading is earlier than one before it
abbrev pub are_in_order : List Reading → Bool
are_in_order [] = true
are_in_order (q ∷ readings) = list_all (λ r. nat_le q.moment.seconds r.moment.seconds) readings && are_in_order readings
