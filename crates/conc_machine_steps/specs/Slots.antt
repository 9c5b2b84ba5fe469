-- Slots of requests, each with the request's number where it passes.
use Rattle.std.specs.Prelude.{◌≡◌, ℕ, ◌-◌, ◌<◌, ◌≤◌, Bool, List, length, Option, slice_set}
use Rattle.std.specs.Bool.{then_some}
use Rattle.std.specs.Borrow.{Bor}
use Rattle.std.specs.List.{find}
use Rattle.std.specs.Option.{option_copied}
use Rattle.conc_types.specs.declared.plan.Plan.{Plan}
use Rattle.conc_types.specs.declared.plan.Req.{Req}

-- there is a slot of the request, which is the one before its number
abbrev pub HasSlot : List (Option ℕ) → Req → Type 0
HasSlot slots r = (0 < r.number.number) × (r.number.number ≤ length slots)

-- it is written
unfoldable pub refreshed : List (Option ℕ) → Req → Bool → List (Option ℕ)
refreshed slots r passes = slice_set slots (r.number.number - 1) (then_some passes r.number.number)

-- this is the first request of the plan that passes
abbrev pub IsFirst : Plan → (Req → Bool) → Option (Bor Req) → Type 0
IsFirst plan test found = option_copied found ≡ find test plan.requests
