-- A table has its own rows, and behind them all that was posted to it.
use Rattle.std.proofs.Common.{◌≡◌, ℕ, Bool, true, false, List, [], ◌∷◌, ◌++◌, length, Some, refl, sym, ◌∙◌, ap, subst}
use Rattle.std.specs.Prelude.{nat_le}
use Rattle.std.specs.List.{list_all}
use Rattle.std.specs.Option.{option_map}
use Rattle.std.proofs.lemmas.Bool.{and_from, both_ways, le-leb, leb-true}
use Rattle.std.proofs.lemmas.List.{append-nil, append_assoc}
use Rattle.std.proofs.lemmas.List.Folds.{list_all-append}
use Rattle.conc_types.specs.declared.event.Event.{Event}
use Rattle.conc_types.specs.declared.plan.Plan.{Plan}
use Rattle.conc_types.specs.declared.table.Table.{Table}
use Rattle.conc_types.specs.Tables.{table_named}
use Rattle.conc_types.specs.Words.{has_length}
use Rattle.conc_base_law.specs.Law.{is_lawful_so_far}
use Rattle.conc_base_posts.specs.Positions.{posts_after, table_after}
use Rattle.conc_base_posts.specs.Posts.{are_even, are_few, Cells, posted, table_with, with_rows}
use Rattle.conc_base_posts.specs.StandLaws.{HasAll}
use Rattle.conc_base_posts.specs.Targets.{ArePostsApart}
use Rattle.conc_base_posts.proofs.Within.{by_ends, Suits}

-- ---- rows that fit into a table

-- with these rows behind its own, each row has a cell for each column, and they are not too many
pub record FitInto (table : Table) (more : List Cells) : Type 0 where
  pub even : are_even table more ≡ true
  pub few : are_few table more ≡ true

module _ (table : Table) (row : Cells) (rows : List Cells) where
  -- the table with these rows, by whether they fit, as with_rows has it
  by_fit : (even few : Bool) → are_even table (row ∷ rows) ≡ even → are_few table (row ∷ rows) ≡ few → Table
  unfolding are_even are_few
  by_fit true true even few = record {
    columns = table.columns;
    rows = table.rows ++ (row ∷ rows);
    distinct = table.distinct;
    even = even;
    few = leb-true (length (table.rows ++ (row ∷ rows))) 1114112 few;
  }
  by_fit true false even few = table
  by_fit false few even e = table

  -- where they fit, it has them
  by_fit-has : (even few : Bool) (e : are_even table (row ∷ rows) ≡ even) (f : are_few table (row ∷ rows) ≡ few) → FitInto table (row ∷ rows)
      → HasAll table (by_fit even few e f) (row ∷ rows)
  unfolding by_fit
  by_fit-has true true e f fit = record { columns = refl; rows = refl }
  by_fit-has true false e f fit = absurd (both_ways _ f fit.few)
  by_fit-has false few e f fit = absurd (both_ways _ e fit.even)

-- a table with rows that fit into it has them
with_rows-has : (table : Table) (more : List Cells) → FitInto table more → HasAll table (with_rows table more) more
unfolding with_rows by_fit
with_rows-has table [] fit = record { columns = refl; rows = sym (append-nil table.rows) }
with_rows-has table (row ∷ rows) fit = by_fit-has table row rows (are_even table (row ∷ rows)) (are_few table (row ∷ rows)) refl refl fit

-- ---- what was posted

-- a table's own rows fit
none-fit : (table : Table) → FitInto table []
unfolding are_even are_few
none-fit table =
    let same : table.rows ++ [] ≡ table.rows = append-nil table.rows in
    record {
      even = ap (list_all (has_length (length table.columns))) same ∙ table.even;
      few = ap (λ l. nat_le (length l) 1114112) same ∙ le-leb _ _ table.few;
    }

-- rows that suit the table fit behind those that do
more-fit : (table : Table) (before rows : List Cells) → FitInto table before → Suits table before rows → FitInto table (before ++ rows)
unfolding are_even are_few
more-fit table before rows fit more =
    let each : List Cells → Bool = list_all (has_length (length table.columns)) in
    let all : each ((table.rows ++ before) ++ rows) ≡ true =
    list_all-append (has_length (length table.columns)) (table.rows ++ before) rows ∙ and_from _ _ fit.even more.even in
    record {
      even = ap each (sym (append_assoc table.rows before rows)) ∙ all;
      few = le-leb _ _ more.few;
    }

-- so all that was posted to it behind lawful events fits
posts-fit : (plan : Plan) (name : List ℕ) (table : Table) → ArePostsApart plan → table_named plan.setup plan.tables name ≡ Some table
    → (past : List Event) → is_lawful_so_far plan past ≡ true → FitInto table (posted name (posts_after plan past))
posts-fit plan name table apart here =
    by_ends plan name (FitInto table) apart (none-fit table) (λ other before rows there fit more.
    let same : other ≡ table = cc in
    more-fit table before rows fit (subst (λ t. Suits t before rows) same more))

-- and the table has it
pub table-has : (plan : Plan) (past : List Event) (name : List ℕ) (table : Table) → ArePostsApart plan → is_lawful_so_far plan past ≡ true
    → table_named plan.setup plan.tables name ≡ Some table
    → (whole : Table) × (table_after plan past name ≡ Some whole) × HasAll table whole (posted name (posts_after plan past))
unfolding table_after table_with
table-has plan past name table apart lawful here =
    let more : List Cells = posted name (posts_after plan past) in
    (with_rows table more, ap (option_map (λ t. with_rows t more)) here, with_rows-has table more (posts-fit plan name table apart here past lawful))
