use Rattle.std.proofs.Common.{◌≡◌, true, take}
use Rattle.std.specs.List.{list_all}
use Rattle.std.specs.Str.Parse.{digits_value}
use Rattle.conc_base_law.specs.Numbers.{is_digit}
use Rattle.conc_reports.proofs.numbers.value_of.Given as goal

-- the bytes so far are digits of this value
abbrev pub invariant-loop-byte : goal.invariant-loop-byte
invariant-loop-byte l = (list_all is_digit (take l.byte-index l.bytes) ≡ true)
    × (l.value ≡ digits_value 10 (take l.byte-index l.bytes))
