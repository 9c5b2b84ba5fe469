-- The table that a file's bytes spell is one.
use Rattle.std.proofs.Common.{◌≡◌, ◌∙◌, ◌≤◌, ℕ, List, ◌∷◌, ap, length, subst, sym}
use Rattle.std.specs.Prelude.{IsTrue, Bool}
use Rattle.std.specs.List.{list_all}
use Rattle.std.specs.Str.{bytes_eq}
use Rattle.std.proofs.Props.{props}
use Rattle.conc_types.specs.declared.table.Table.{Table}
use Rattle.conc_types.specs.Words.{are_distinct, has_length}
use Rattle.conc_tables.specs.Tables.{SpellsTable}

true-one : (b : Bool) → IsProp (IsTrue b)
true-one b = hlevel props

few-one : (m n : ℕ) → IsProp (m ≤ n)
few-one m n = hlevel props

abbrev table_of : (columns : List (List ℕ)) (rows : List (List (List ℕ))) → IsTrue (are_distinct bytes_eq columns) → IsTrue (list_all (has_length (length columns)) rows) → length rows ≤ 1114112 → Table
table_of columns rows d e f = record { columns = columns; rows = rows; distinct = d; even = e; few = f }

-- a table of these columns and rows is one
proofs-one : (columns : List (List ℕ)) (rows : List (List (List ℕ)))
    (d d' : IsTrue (are_distinct bytes_eq columns)) (e e' : IsTrue (list_all (has_length (length columns)) rows)) (f f' : length rows ≤ 1114112)
    → table_of columns rows d e f ≡ table_of columns rows d' e' f'
proofs-one columns rows d d' e e' f f' =
    ap (λ x. table_of columns rows x e f) (true-one _ d d')
    ∙ ap (λ x. table_of columns rows d' x f) (true-one _ e e')
    ∙ ap (λ x. table_of columns rows d' e' x) (few-one _ _ f f')

parts-one : (columns columns' : List (List ℕ)) (rows rows' : List (List (List ℕ))) → columns ≡ columns' → rows ≡ rows'
    → (d : IsTrue (are_distinct bytes_eq columns)) (d' : IsTrue (are_distinct bytes_eq columns'))
    (e : IsTrue (list_all (has_length (length columns)) rows)) (e' : IsTrue (list_all (has_length (length columns')) rows'))
    (f : length rows ≤ 1114112) (f' : length rows' ≤ 1114112)
    → table_of columns rows d e f ≡ table_of columns' rows' d' e' f'
parts-one columns columns' rows rows' is is' =
    let P : List (List ℕ) → Type 0 = λ c. (d : IsTrue (are_distinct bytes_eq columns)) (d' : IsTrue (are_distinct bytes_eq c))
    (e : IsTrue (list_all (has_length (length columns)) rows)) (e' : IsTrue (list_all (has_length (length c)) rows'))
    (f : length rows ≤ 1114112) (f' : length rows' ≤ 1114112) → table_of columns rows d e f ≡ table_of c rows' d' e' f' in
    let Q : List (List (List ℕ)) → Type 0 = λ r. (d : IsTrue (are_distinct bytes_eq columns)) (d' : IsTrue (are_distinct bytes_eq columns))
    (e : IsTrue (list_all (has_length (length columns)) rows)) (e' : IsTrue (list_all (has_length (length columns)) r))
    (f : length rows ≤ 1114112) (f' : length r ≤ 1114112) → table_of columns rows d e f ≡ table_of columns r d' e' f' in
    subst P is (subst Q is' (proofs-one columns rows))

pub table-one : (bytes : List ℕ) (a b : Table) → SpellsTable bytes a → SpellsTable bytes b → a ≡ b
table-one bytes a b is is' =
    let all : a.columns ∷ a.rows ≡ b.columns ∷ b.rows = sym is.records_are ∙ is'.records_are in
    let columns : a.columns ≡ b.columns = cc all in
    let rows : a.rows ≡ b.rows = cc all in
    parts-one a.columns b.columns a.rows b.rows columns rows a.distinct b.distinct a.even b.even a.few b.few
