-- One more row of a table: whether it passes, and what it adds to the figures.
use Rattle.std.proofs.Common.{◌≡◌, ◌∙◌, sym, ap, refl, ℕ, ◌+◌, ◌<◌, ◌≤◌, ℤ, pos, ◌+ℤ◌, Bool, true, false, List, [], ◌∷◌, ◌++◌, Option, None, Some, cond, drop, get_or, length, length-append, append-nil, take, arith}
use Rattle.std.specs.Borrow.{Bor}
use Rattle.std.specs.List.{enumerate_from, filter, filter_map, find}
use Rattle.std.specs.Option.{is_none, option_and_then, option_map, IfSome}
use Rattle.std.specs.Str.{bytes_eq}
use Rattle.std.proofs.lemmas.Int.{ints}
use Rattle.std.proofs.lemmas.List.{drop_more, length-take, take-append-drop, take_all, take_more}
use Rattle.std.proofs.lemmas.List.Elements.{filter-append, filter_map-append}
use Rattle.std.proofs.lemmas.List.Folds.{find-append}
use Rattle.std.proofs.lemmas.List.FromFn.{get_or-enumerate_from, length-enumerate_from}
use Rattle.std.proofs.lemmas.List.Sums.{fold-append}
use Rattle.conc_types.specs.declared.program.Job.{Job}
use Rattle.conc_types.specs.declared.table.Table.{Table}
use Rattle.conc_base_law.specs.Numbers.{total}
use Rattle.conc_base_law.specs.Report.{Row, cell, first_bad, passes, passing, rows_of}
use Rattle.conc_reports.specs.declared.columns.Place.{Place}
use Rattle.conc_reports.specs.Columns.{cell_in, cells_at, place_if_named, place_named, row_at}
use Rattle.conc_reports.specs.Figures.{grown, grown_at}
use Rattle.conc_reports.specs.Tallies.{IsTally, figures, figures_if_any, figures_of_key, passing_below, value_of}

-- ---- the rows that pass

length-filter-le : (p : Row → Bool) (rows : List Row) → length (filter p rows) ≤ length rows
length-filter-le p [] = omega arith
length-filter-le p (row ∷ rows) =
    let rest = length-filter-le p rows in
    elim (p row) as (λ b. length (cond b (row ∷ filter p rows) (filter p rows)) ≤ length (row ∷ rows)) [ true ↦ omega arith | false ↦ omega arith ]

module _ (job : Job) (argument : List ℕ) (table : Table) (n : ℕ) where
  abbrev numbered : List Row
  numbered = enumerate_from 1 table.rows

  here : n < length table.rows → get_or numbered n (0, []) ≡ row_at table n
  here below =
      let number : 1 + n ≡ n + 1 = omega arith in
      get_or-enumerate_from 1 table.rows n (0, []) below ∙ (λ i. (number i, cells_at table n))

  within : n < length table.rows → n < length numbered
  within below = omega (arith, length-enumerate_from 1 table.rows)

  next : n < length table.rows → take (n + 1) numbered ≡ take n numbered ++ row_at table n ∷ []
  next below = take_more numbered n (0, []) (within below) ∙ ap (λ (row : Row). take n numbered ++ row ∷ []) (here below)

  rest : n < length table.rows → drop n numbered ≡ row_at table n ∷ drop (n + 1) numbered
  rest below = drop_more numbered n (0, []) (within below) ∙ ap (λ (row : Row). row ∷ drop (n + 1) numbered) (here below)

  pub passing_below-skips : n < length table.rows → passes job argument table (row_at table n) ≡ false → passing_below job argument table (n + 1) ≡ passing_below job argument table n
  passing_below-skips below fails =
      rw (next below, filter-append (passes job argument table) (take n numbered) (row_at table n ∷ []), fails) (append-nil _)

  pub passing_below-takes : n < length table.rows → passes job argument table (row_at table n) ≡ true → passing_below job argument table (n + 1) ≡ passing_below job argument table n ++ row_at table n ∷ []
  passing_below-takes below holds =
      rw (next below, filter-append (passes job argument table) (take n numbered) (row_at table n ∷ []), holds) refl

  pub passing_below-all : length table.rows ≤ n → passing_below job argument table n ≡ passing job argument table
  unfolding passing
  passing_below-all past = ap (filter (passes job argument table)) (take_all n numbered (omega (arith, length-enumerate_from 1 table.rows)))

  pub few : length (passing_below job argument table n) ≤ n
  few = omega (arith, length-filter-le (passes job argument table) (take n numbered), length-take n numbered)

  -- the first bad row is this one
  pub first_bad-here : n < length table.rows → passes job argument table (row_at table n) ≡ true → find (λ row. is_none (value_of job.sum table row)) (passing_below job argument table n) ≡ None → is_none (value_of job.sum table (row_at table n)) ≡ true → find (λ row. is_none (value_of job.sum table row)) (passing job argument table) ≡ Some (row_at table n)
  unfolding passing
  first_bad-here below holds none bad =
      let p = passes job argument table in
      let q = λ (row : Row). is_none (value_of job.sum table row) in
      let parts : filter p numbered ≡ passing_below job argument table n ++ row_at table n ∷ filter p (drop (n + 1) numbered) =
      ap (filter p) (sym (take-append-drop n numbered)) ∙ filter-append p (take n numbered) (drop n numbered)
      ∙ ap (λ (rows : List Row). passing_below job argument table n ++ filter p rows) (rest below) ∙ rw holds refl in
      ap (find q) parts ∙ find-append q (passing_below job argument table n) (row_at table n ∷ filter p (drop (n + 1) numbered)) ∙ rw (none, bad) refl

find_none : (rows : List Row) → find (λ _. false) rows ≡ None
find_none [] = refl
find_none (row ∷ rows) = find_none rows

-- what a job's sum names, by the places of columns
by_sum : (sum : Option (List ℕ)) (table : Table) (rows : List Row) → option_and_then (λ column. find (λ row. is_none (value_of (Some column) table row)) rows) sum ≡ find (λ row. is_none (value_of sum table row)) rows
by_sum None table rows = sym (find_none rows)
by_sum (Some column) table rows = refl

pub first_bad-find : (job : Job) (table : Table) (rows : List Row) → first_bad job table rows ≡ find (λ row. is_none (value_of job.sum table row)) rows
unfolding first_bad cell
first_bad-find job table rows = by_sum job.sum table rows

-- ---- the figures

grown_at-same : (at : Option (List ℕ)) (value : ℤ) (f g : List ℕ → Option (ℕ × ℤ)) (key : List ℕ) → f key ≡ g key → grown_at at value f key ≡ grown_at at value g key
grown_at-same None value f g key e = e
grown_at-same (Some k) value f g key e = rw e refl

module _ (sum : Option (List ℕ)) (table : Table) where
  pub figures-push : (rows : List Row) (row : Row) (value : ℤ) → value_of sum table row ≡ Some value → figures sum table (rows ++ row ∷ []) ≡ grown value (Some (figures sum table rows))
  unfolding total
  figures-push rows row value is =
      let more : length (rows ++ row ∷ []) ≡ length rows + 1 = omega (arith, length-append rows (row ∷ [])) in
      let h = value_of sum table in
      let added : total (filter_map h (rows ++ row ∷ [])) ≡ total (filter_map h rows) +ℤ value =
      rw (filter_map-append h rows (row ∷ []), fold-append (λ (a b : ℤ). a +ℤ b) (pos 0) (filter_map h rows) (filter_map h (row ∷ [])), is) refl in
      λ i. (more i, added i)

  if_any-push : (rows : List Row) (row : Row) (value : ℤ) → value_of sum table row ≡ Some value → figures_if_any sum table (rows ++ row ∷ []) ≡ Some (grown value (figures_if_any sum table rows))
  unfolding total
  if_any-push [] row value is =
      let alone : pos 0 +ℤ value ≡ value = omega (arith, ints) in
      let added : total (filter_map (value_of sum table) (row ∷ [])) ≡ value = rw is alone in
      λ i. Some (1, added i)
  if_any-push (first ∷ rows) row value is = ap (λ (f : ℕ × ℤ). Some f) (figures-push (first ∷ rows) row value is)

  if_any-few : (rows : List Row) (n : ℕ) → length rows < n → IfSome (figures_if_any sum table rows) (λ f. f.0 < n)
  if_any-few [] n below = tt
  if_any-few (row ∷ rows) n below = below

  -- one more row of a key, or of another
  of_key-push : (group : Option (List ℕ)) (rows : List Row) (row : Row) (value : ℤ) (key : List ℕ) → value_of sum table row ≡ Some value
      → figures_of_key sum group table (rows ++ row ∷ []) key ≡ grown_at (option_map (λ place. cell_in place row.1) (place_if_named table group)) value (figures_of_key sum group table rows) key
  unfolding rows_of cell
  of_key-push None rows row value key is = refl
  of_key-push (Some name) rows row value key is =
      let test = λ (r : Row). bytes_eq (cell_in (place_named table name) r.1) key in
      let parts = filter-append test rows (row ∷ []) in
      rw parts (elim (test row) as (λ b. figures_if_any sum table (filter test rows ++ cond b (row ∷ []) []) ≡ cond b (Some (grown value (figures_if_any sum table (filter test rows)))) (figures_if_any sum table (filter test rows))) [
        | true ↦ if_any-push (filter test rows) row value is
        | false ↦ ap (figures_if_any sum table) (append-nil (filter test rows))
      ])

  pub of_key-few : (group : Option (List ℕ)) (rows : List Row) (n : ℕ) (key : List ℕ) → length rows < n → IfSome (figures_of_key sum group table rows key) (λ f. f.0 < n)
  unfolding rows_of
  of_key-few None rows n key below = tt
  of_key-few (Some name) rows n key below =
      let test = λ (r : Row). bytes_eq (cell table name r) key in
      if_any-few (filter test rows) n (omega (arith, length-filter-le test rows))

  of_key-none : (group : Option (List ℕ)) (key : List ℕ) → None ≡ figures_of_key sum group table [] key
  unfolding rows_of
  of_key-none None key = refl
  of_key-none (Some name) key = refl

  pub IsTally-none : (group : Option (List ℕ)) (all : ℕ × ℤ) (of_key : List ℕ → Option (ℕ × ℤ)) → all ≡ (0, pos 0) → ((key : List ℕ) → of_key key ≡ None) → IsTally sum group table [] all of_key
  unfolding total
  IsTally-none group all of_key a k = record { all_are = a; keys_are = λ key. k key ∙ of_key-none group key; none_bad = refl }

  pub IsTally-push : (group : Option (List ℕ)) (rows : List Row) (row : Row) (value : ℤ) (all more : ℕ × ℤ) (of_key more_of_key : List ℕ → Option (ℕ × ℤ))
      → IsTally sum group table rows all of_key → value_of sum table row ≡ Some value → more ≡ grown value (Some all)
      → ((key : List ℕ) → more_of_key key ≡ grown_at (option_map (λ place. cell_in place row.1) (place_if_named table group)) value of_key key)
      → IsTally sum group table (rows ++ row ∷ []) more more_of_key
  IsTally-push group rows row value all more of_key more_of_key h is a k =
      let at = option_map (λ place. cell_in place row.1) (place_if_named table group) in
      record {
        all_are = a ∙ ap (λ (f : ℕ × ℤ). grown value (Some f)) h.all_are ∙ sym (figures-push rows row value is);
        keys_are = λ key. k key ∙ grown_at-same at value of_key (figures_of_key sum group table rows) key (h.keys_are key) ∙ sym (of_key-push group rows row value key is);
        none_bad = find-append (λ row. is_none (value_of sum table row)) rows (row ∷ []) ∙ rw (h.none_bad, is) refl;
      }

-- a value is there where it is small for each key
pub key-few : (key : Option (Bor (List ℕ))) (of_key : List ℕ → Option (ℕ × ℤ)) (n : ℕ) → ((k : List ℕ) → IfSome (of_key k) (λ f. f.0 < n)) → IfSome (option_and_then (λ (k : Bor (List ℕ)). of_key k.now) key) (λ f. f.0 < n)
key-few None of_key n small = tt
key-few (Some key) of_key n small = small key.now

pub at-index : (place : Option Place) (f : Option ℕ → List ℕ) → option_map (λ (p : Place). f p.index) place ≡ option_map f (option_map (λ (p : Place). p.index) place)
at-index None f = refl
at-index (Some place) f = refl
