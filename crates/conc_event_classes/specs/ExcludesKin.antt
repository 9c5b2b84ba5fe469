-- Which classes would exclude kin of their own.
use Rattle.std.specs.Prelude.{◌≡◌, ℕ, ◌<◌, Bool, true, ◌==◌, List, [], length, Option, Some, slice_get, unwrap_or}
use Rattle.std.specs.List.{list_any}
use Rattle.std.specs.Option.{option_and_then}
use Rattle.std.specs.Bool.{then_some}
use Rattle.conc_types.specs.declared.plan.Req.{Req}
use Rattle.conc_types.specs.Words.{numbered}

-- the second class is among the rivals of the first
unfoldable pub are_row_rivals : List (List ℕ) → ℕ → ℕ → Bool
are_row_rivals rows c d = list_any (λ x. x == d) (unwrap_or (slice_get rows c) [])

-- the class of the parent of a request
unfoldable pub parent_class : List ℕ → Req → Option ℕ
parent_class classes r = option_and_then (λ id. numbered classes id.number) r.parent

-- that class, if it excludes the request's own class
unfoldable pub rival_parent : List ℕ → List (List ℕ) → Req → ℕ → Option ℕ
rival_parent classes rows r c = option_and_then (λ p. then_some (are_row_rivals rows p c) p) (parent_class classes r)

abbrev pub IsMarked : List Bool → ℕ → Type 0
IsMarked excludes_kin c = c < length excludes_kin → slice_get excludes_kin c ≡ Some true

-- each request that clashes with its parent has its class marked, and that of its parent
pub record AreKinMarked (rs : List Req) (classes : List ℕ) (rows : List (List ℕ)) (excludes_kin : List Bool) : Type 0 where
  pub own : (i c p : ℕ) (r : Req) → slice_get rs i ≡ Some r → slice_get classes i ≡ Some c → rival_parent classes rows r c ≡ Some p → IsMarked excludes_kin c
  pub parent : (i c p : ℕ) (r : Req) → slice_get rs i ≡ Some r → slice_get classes i ≡ Some c → rival_parent classes rows r c ≡ Some p → IsMarked excludes_kin p

-- one request more: the marks stay, and if it clashes with its parent both classes are marked
pub record MarksKin (classes : List ℕ) (rows : List (List ℕ)) (i : ℕ) (r : Req) (old new : List Bool) : Type 0 where
  pub stay : (c : ℕ) → IsMarked old c → IsMarked new c
  pub own : (c p : ℕ) → slice_get classes i ≡ Some c → rival_parent classes rows r c ≡ Some p → IsMarked new c
  pub parent : (c p : ℕ) → slice_get classes i ≡ Some c → rival_parent classes rows r c ≡ Some p → IsMarked new p
