-- The words of a board by their numbers, and what they hold.
use Rattle.std.specs.Prelude.{ℕ, ◌+◌, ◌-◌, ◌<◌, ◌≤◌, Bool, true, false, length}
use Rattle.conc_types.specs.declared.event.PlaceId.{PlaceId}
use Rattle.conc_types.specs.declared.event.RequestId.{RequestId}
use Rattle.conc_types.specs.declared.plan.Plan.{Plan}
use Rattle.conc_base_law.specs.Places.{count_of_places}

-- ---- requests and places of a plan

abbrev pub count_of_requests : Plan → ℕ
count_of_requests plan = length plan.requests

-- the request is one of the plan
pub record IsRequest (plan : Plan) (r : RequestId) : Type 0 where
  pub from_one : 1 ≤ r.number
  pub within : r.number ≤ count_of_requests plan

-- the place is one of the plan
pub record IsPlace (plan : Plan) (p : PlaceId) : Type 0 where
  pub within : p.index < count_of_places plan

-- ---- the numbers of words: those of the requests first, then those of the places, and that of the end

abbrev pub request_word : RequestId → ℕ
request_word r = r.number - 1

-- the request that has this word
abbrev pub request_of : ℕ → RequestId
request_of i = record { number = i + 1 }

abbrev pub place_word : Plan → PlaceId → ℕ
place_word plan p = count_of_requests plan + p.index

abbrev pub end_word : Plan → ℕ
end_word plan = count_of_requests plan + count_of_places plan

abbrev pub count_of_words : Plan → ℕ
count_of_words plan = count_of_requests plan + (count_of_places plan + 1)

-- ---- what the word of a request holds

abbrev pub idle : ℕ
idle = 0

abbrev pub released : ℕ
released = 1

abbrev pub done : ℕ
done = 2

abbrev pub claimed : PlaceId → ℕ
claimed p = 256 + p.index

abbrev pub running : PlaceId → ℕ
running p = 512 + p.index

abbrev pub stopping : PlaceId → ℕ
stopping p = 768 + p.index

abbrev pub ended : PlaceId → ℕ
ended p = 1024 + p.index

-- while a request runs, by whether a stop of it won
abbrev pub run_word : Bool → PlaceId → ℕ
run_word false p = running p
run_word true p = stopping p

-- the place that a word above 255 names
abbrev pub place_in : ℕ → ℕ → PlaceId
place_in base n = record { index = n - base }
