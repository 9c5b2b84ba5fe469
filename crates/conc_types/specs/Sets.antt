-- The stages of a set.
use Rattle.std.specs.Prelude.{ℕ, Bool, ◌&&◌, nat_lt, List, length, map}
use Rattle.std.specs.List.{enumerate_from, list_all}
use Rattle.std.specs.Str.{bytes_eq}
use Rattle.conc_types.specs.declared.stage.Stage.{Stage}
use Rattle.conc_types.specs.Words.{are_distinct, is_between, none_or}

-- a set has one stage at least, and 64 at most
abbrev pub is_stage_count : ℕ → Bool
is_stage_count n = is_between 1 64 n

-- the links of a stage, which is given with its place, lead to later stages
abbrev pub leads_on : ℕ → ℕ × Stage → Bool
leads_on count stage = list_all (none_or (λ place. nat_lt stage.0 place && nat_lt place count)) stage.1.links

-- the names of the stages are distinct, and each link leads to a later stage
abbrev pub are_stages : List Stage → Bool
are_stages stages =
    are_distinct bytes_eq (map (λ stage. stage.name) stages)
    && list_all (leads_on (length stages)) (enumerate_from 0 stages)
