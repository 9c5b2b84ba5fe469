-- What single entries of an accepted setup keep.
use Rattle.std.specs.Prelude.{ℕ, ◌%◌, Bool, ◌&&◌, ◌||◌, ◌==◌, nat_le, nat_lt, List, Option, is_none, is_some}
use Rattle.std.specs.List.{list_all}
use Rattle.conc_types.specs.Texts.{is_text}
use Rattle.conc_types.specs.Words.{none_or}

-- a day from 0001-01-01 to 9999-12-31, counted from 0
abbrev pub is_date : ℕ → Bool
is_date day = nat_lt day 3652059

-- from a minute of the day to a later one, in seconds
abbrev pub are_times : ℕ × ℕ → Bool
are_times times = nat_lt times.0 times.1 && (nat_le times.1 86400 && (times.0 % 60 == 0 && times.1 % 60 == 0))

-- a date and days do not stand together
abbrev pub is_shift : Option ℕ → ℕ → Option (ℕ × ℕ) → ℕ → Bool
is_shift date days times places =
    none_or is_date date
    && ((is_none date || days == 0)
    && (nat_lt days 128
    && (none_or are_times times && nat_le places 64)))

-- it names a program, a request type or a user
abbrev pub is_rule : Option ℕ → Option (List ℕ) → Option (List ℕ) → Bool
is_rule program request_type user =
    (is_some program || (is_some request_type || is_some user)) && none_or (is_text 80) request_type

-- each link, where there is one, is the place of one of 64 stages, from 0
abbrev pub are_links : List (Option ℕ) → Bool
are_links links = list_all (none_or (λ place. nat_lt place 64)) links

-- a program that posts has a column that its rows are grouped by, and one that is summed up
abbrev pub posts_sums : Option (List ℕ) → Option (List ℕ) → Option (List ℕ) → Bool
posts_sums post group sum = is_none post || (is_some group && is_some sum)
