-- What is seen of a table does not change with what is kept beside its cells.
use Rattle.std.proofs.Common.{◌≡◌, ◌∙◌, ◌≤◌, ℕ, Bool, IsTrue, List, ap, length}
use Rattle.std.specs.List.{list_all}
use Rattle.std.specs.Str.{bytes_eq}
use Rattle.std.proofs.Props.{props}
use Rattle.conc_types.specs.Pieces.{Content}
use Rattle.conc_types.specs.Words.{are_distinct, has_length}

true-one : (b : Bool) → IsProp (IsTrue b)
true-one b = hlevel props

few-one : (m n : ℕ) → IsProp (m ≤ n)
few-one m n = hlevel props

module _ (columns : List (List ℕ)) (rows : List (List (List ℕ))) where
  abbrev content_of : IsTrue (are_distinct bytes_eq columns) → IsTrue (list_all (has_length (length columns)) rows) → length rows ≤ 1114112 → Content
  content_of d e f = record { columns = columns; rows = rows; distinct = d; even = e; few = f }

  pub content-same : (d d' : IsTrue (are_distinct bytes_eq columns)) (e e' : IsTrue (list_all (has_length (length columns)) rows)) (f f' : length rows ≤ 1114112) → content_of d e f ≡ content_of d' e' f'
  content-same d d' e e' f f' =
      ap (λ x. content_of x e f) (true-one _ d d') ∙ ap (λ x. content_of d' x f) (true-one _ e e') ∙ ap (λ x. content_of d' e' x) (few-one _ _ f f')
