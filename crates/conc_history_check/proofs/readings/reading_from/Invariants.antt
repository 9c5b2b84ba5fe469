use Rattle.std.proofs.Common.{◌≡◌, drop}
use Rattle.std.specs.Prelude.{slice_get}
use Rattle.std.specs.List.{filter}
use Rattle.conc_base_law.specs.State.{is_not_earlier}
use Rattle.conc_history_check.proofs.readings.reading_from.Given as goal

-- so many are left to be passed over
abbrev pub invariant-loop-q : goal.invariant-loop-q
invariant-loop-q l =
    slice_get (filter (λ q. is_not_earlier l.earlier q.moment) (drop l.q-index l.readings)) l.left
    ≡ slice_get (filter (λ q. is_not_earlier l.earlier q.moment) l.readings) l.index
