-- The words of an event line that are numbers, outcomes and extents.
use Rattle.std.specs.Prelude.{ℕ, ◌^◌, nat_le, nat_lt, List, [], ◌∷◌, Option}
use Rattle.std.specs.Bool.{then_some}
use Rattle.std.specs.List.{find}
use Rattle.std.specs.Option.{option_and_then, option_map}
use Rattle.std.specs.Str.{bytes_eq}
use Rattle.conc_types.specs.declared.event.Extent.{Extent}
use Rattle.conc_types.specs.declared.event.Outcome.{Outcome}
use Rattle.conc_types.specs.declared.event.Outcome.TheVariants as outcome
use Rattle.conc_types.specs.declared.event.RequestId.{RequestId}
use Rattle.conc_types.specs.Decimals.{decimal_value}
use Rattle.conc_base_law.specs.Text.{outcome_word}

-- a decimal of 32 bits
unfoldable pub number_of : List ℕ → Option ℕ
number_of word = option_and_then (λ n. then_some (nat_lt n (2 ^ 32)) n) (decimal_value word)

abbrev pub id_of : List ℕ → Option RequestId
id_of word = option_map (λ n. record { number = n }) (number_of word)

-- stages are numbered from 1
unfoldable pub stage_of : List ℕ → Option ℕ
stage_of word = option_and_then (λ n. then_some (nat_le 1 n) n) (number_of word)

-- the outcome of a set, and of a request that was not terminated
unfoldable pub outcome_of : List ℕ → Option Outcome
outcome_of word = find (λ o. bytes_eq word (outcome_word o)) (outcome.Normal ∷ outcome.Warning ∷ outcome.Error ∷ [])

-- an offset of 64 bits and a length of 32
unfoldable pub extent_of : List ℕ → List ℕ → Option Extent
extent_of offset length =
    option_and_then (λ at. option_map (λ n. record { offset = at; length = n }) (number_of length)) (decimal_value offset)
