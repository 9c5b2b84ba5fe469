-- The rows of a table rise.
use Rattle.std.proofs.Common.{◌≡◌, refl, subst, ◌<◌, ℕ, List, [], ◌∷◌, arith}
use Rattle.std.specs.Prelude.{AllPairs, Option, None, Some, nat_lt}
use Rattle.std.specs.Bool.{then_some}
use Rattle.std.specs.List.{All}
use Rattle.std.specs.Option.{option_map_or}
use Rattle.std.proofs.lemmas.Bool.{ltb-true}
use Rattle.conc_base_law.proofs.Options.{and_then-some, then_some-some}
use Rattle.conc_show_model.specs.declared.model.Row.{Row}
use Rattle.conc_show_model.specs.Rows.{row_above, row_of, rows_from}
use Rattle.conc_show_model.proofs.Apart.{all_cons, all_nil, pairs_cons, pairs_nil}

IsBelow : Row → Row → Type 0
IsBelow a b = a.request.number < b.request.number

IsAbove : ℕ → Row → Type 0
IsAbove n b = n < b.request.number

above_last : (last : ℕ) (line : List ℕ) (row : Row) → row_above last line ≡ Some row → last < row.request.number
unfolding row_above
above_last last line row h =
    let p = and_then-some (λ (r : Row). then_some (nat_lt last r.request.number) r) (row_of line) row h in
    let q = then_some-some (nat_lt last p.0.request.number) p.0 row p.2 in
    let l : last < p.0.request.number = ltb-true last p.0.request.number q.0 in
    let P : Row → Type 0 = λ (r : Row). last < r.request.number in
    subst P q.1 l

all_above : (last next : ℕ) (rows : List Row) → last < next → All (IsAbove next) rows → All (IsAbove last) rows
unfolding IsAbove
all_above last next rows l h k d m = let n : next < _ = h k d m in omega arith

rows_above : (lines : List (List ℕ)) (last : ℕ) → All (IsAbove last) (rows_from last lines)
unfolding rows_from
rows_above [] last = all_nil (IsAbove last)
rows_above (line ∷ lines) last = by (row_above last line) refl (λ n. rows_above lines n) where
  by : (o : Option Row) → row_above last line ≡ o → ((n : ℕ) → All (IsAbove n) (rows_from n lines)) → All (IsAbove last) (option_map_or (λ (row : Row). row ∷ rows_from row.request.number lines) o [])
  by None e later = all_nil (IsAbove last)
  by (Some row) e later = unfold IsAbove in let l = above_last last line row e in all_cons (IsAbove last) row _ l (all_above last row.request.number _ l (later row.request.number))

below_row : (row : Row) (rows : List Row) → All (IsAbove row.request.number) rows → All (IsBelow row) rows
unfolding IsBelow IsAbove
below_row row rows h = h

rise_from : (lines : List (List ℕ)) (last : ℕ) → AllPairs IsBelow (rows_from last lines)
unfolding rows_from
rise_from [] last = pairs_nil IsBelow
rise_from (line ∷ lines) last = by (row_above last line) (λ n. rise_from lines n) where
  by : (o : Option Row) → ((n : ℕ) → AllPairs IsBelow (rows_from n lines)) → AllPairs IsBelow (option_map_or (λ (row : Row). row ∷ rows_from row.request.number lines) o [])
  by None later = pairs_nil IsBelow
  by (Some row) later = pairs_cons IsBelow row _ (below_row row _ (rows_above lines row.request.number)) (later row.request.number)

pub rows_rise : (lines : List (List ℕ)) (last : ℕ) → AllPairs (λ (a b : Row). a.request.number < b.request.number) (rows_from last lines)
unfolding IsBelow
rows_rise lines last = rise_from lines last
